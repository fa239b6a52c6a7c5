-- A sum of two floats is one float either way round, whatever they are: left plus right is right plus left. Assumes nothing.
use Rattle.std.proofs.lemmas.Bool.Decides.{nat_tests}
use mathlib.Core.Path.{◌≡◌, refl, ap, ◌∙◌}
use mathlib.Core.Bool.{Bool, true, false, ◌&&◌, cond}
use Prim.Native.Nat.{ℕ, ◌*◌}
use native.Mathlib.Nat.{add_comm, mul_comm}
use native.Mathlib.Omega.{arith}
use lib.Ieee.{Float, nan, inf, fin, up, down, round, sum, add, Format, binary32}
use Rattle.util.specs.Number.{◌⊕◌}

-- of unlike signs: what is left has the sign of the larger, and no sign where they are equal
unlike_commute : (f : Format) (s : Bool) (A B C : ℕ) → sum f s A (mathlib.Core.Bool.not s) B C ≡ sum f (mathlib.Core.Bool.not s) B s A C
unfolding sum
unlike_commute f true A B C = grind (arith, nat_tests)
unlike_commute f false A B C = grind (arith, nat_tests)

sum_commute : (f : Format) (s t : Bool) (A B C : ℕ) → sum f s A t B C ≡ sum f t B s A C
unfolding sum
sum_commute f true true A B C = ap (λ (x : ℕ). round f true x C) (add_comm A B)
sum_commute f false false A B C = ap (λ (x : ℕ). round f false x C) (add_comm A B)
sum_commute f true false A B C = unlike_commute f true A B C
sum_commute f false true A B C = unlike_commute f false A B C

pub add_commute : (x y : Float) → x ⊕ y ≡ y ⊕ x
unfolding add
add_commute nan nan = refl
add_commute nan (inf t) = refl
add_commute nan (fin t n d) = refl
add_commute (inf s) nan = refl
add_commute (inf true) (inf true) = refl
add_commute (inf true) (inf false) = refl
add_commute (inf false) (inf true) = refl
add_commute (inf false) (inf false) = refl
add_commute (inf s) (fin t n d) = refl
add_commute (fin s m e) nan = refl
add_commute (fin s m e) (inf t) = refl
add_commute (fin s m e) (fin t n d) =
    sum_commute binary32 s t (m * up e * down d) (n * up d * down e) (down e * down d)
    ∙ ap (λ (c : ℕ). sum binary32 t (n * up d * down e) s (m * up e * down d) c) (mul_comm (down e) (down d))
