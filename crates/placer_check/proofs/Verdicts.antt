-- What a verdict says of the tests that it passed. Assumes nothing.
use Prim.Native.Nat.{ℕ}
use mathlib.Core.Bool.{Bool, true, false}
use mathlib.Core.Path.{◌≡◌, refl, ap, ◌∙◌}
use lib.Dec.{eqb}
use borrow.Author.Tests.{eq-eqb}
use Rattle.std.specs.Prelude.{Ok, Err}
use Rattle.util.proofs.Floats.{no}
use Rattle.refusal.specs.Refusal.{number_of}
use Rattle.refusal.specs.declared.Refusal.{Refusal}
use Rattle.refusal.specs.declared.Refusal.TheVariants.{ListFull}
use Rattle.run.specs.Refusals.{Verdict, accepted, ◌when◌else◌}

-- refused with a number
abbrev pub is_number : ℕ → Verdict → Bool
is_number n (Ok tt) = false
is_number n (Err r) = eqb (number_of r) n

-- a verdict of another number: the test is passed, and the rest gives the verdict
pub passed : (r : Refusal) (test : Bool) (rest v : Verdict) → (r when test else rest) ≡ v → is_number (number_of r) v ≡ false
    → (test ≡ false) × (rest ≡ v)
unfolding ◌when◌else◌
passed r true rest v e n = no (eq-eqb (number_of r) (number_of r) refl) (ap (is_number (number_of r)) e ∙ n)
passed r false rest v e n = (refl, e)

-- room is no other test
pub room_number : (n : ℕ) → eqb 5 n ≡ false → (full : Bool) → is_number n (ListFull when full else accepted) ≡ false
unfolding ◌when◌else◌
room_number n e true = e
room_number n e false = refl
