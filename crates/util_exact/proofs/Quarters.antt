-- Whole quarter pixels are exact. Assumes nothing.
use borrow.Author.Rules.{rules}
use Rattle.std.specs.Prelude.{Float, None, Option, Some}
use mathlib.Core.Path.{sym, subst}
use mathlib.Core.Bool.{Bool, true, false}
use Prim.Native.Nat.{ℕ, ◌*◌, ◌≤◌}
use native.Mathlib.Omega.{arith}
use lib.Ieee.{Float, nan, inf, fin}
use lib.Ieee.Exact.{HasValue}
use Rattle.util_exact.specs.Integer.{N, zero_n}
use Rattle.util_exact.specs.Value.{Signed, Quarters, MaybeQuarters}
use Rattle.util_exact.proofs.Integers.{Multiple}
use Rattle.util_exact.proofs.Exact.{Val, Exact}

-- k quarters with a sign, in sixteenths
abbrev pub signed : Bool → ℕ → N
signed false k = record { p = 4 * k; n = 0 }
signed true k = record { p = 0; n = 4 * k }

abbrev pub units : {n : ℕ} {x : Float} → Quarters n x → N
units h = signed h.sign h.k

pub quarters_exact : {n : ℕ} {x : Float} (h : Quarters n x) → Exact 4 (4 * n) x (units h)
quarters_exact {n} {x} h = record { z = 4 * h.k; val = go x h.sign h.k h.value; small = omega (arith, h.small); mult = fours h.sign h.k }
  where
    go : (x : Float) (s : Bool) (k : ℕ) → HasValue x s k 4 → Val x (signed s k) (4 * k)
    go nan s k v = v
    go (inf t) s k v = v
    go (fin t m e) false k v = (omega (arith, v.1), subst (λ (t : Bool). Signed t (4 * k) (signed false k)) (sym v.0) (omega arith))
    go (fin t m e) true k v = (omega (arith, v.1), subst (λ (t : Bool). Signed t (4 * k) (signed true k)) (sym v.0) (omega arith))

    fours : (s : Bool) (k : ℕ) → Multiple 4 (signed s k)
    fours false k = (k, 0, omega arith)
    fours true k = (0, k, omega arith)

-- at most n quarters are at most any larger number of them
pub quarters_within : {n m : ℕ} {x : Float} → n ≤ m → Quarters n x → Quarters m x
quarters_within l h = search rules

-- ---- a number that may be absent: of an absent one any integer will do

abbrev pub MaybeExact : ℕ → ℕ → Option Float → N → Type 0
MaybeExact g b None a = Unit {0}
MaybeExact g b (Some x) a = Exact g b x a

abbrev pub maybe_units : (n : ℕ) (m : Option Float) → MaybeQuarters n m → N
maybe_units n None h = zero_n
maybe_units n (Some x) h = units h

pub maybe_exact : (n : ℕ) (m : Option Float) (h : MaybeQuarters n m) → MaybeExact 4 (4 * n) m (maybe_units n m h)
maybe_exact n None h = tt
maybe_exact n (Some x) h = quarters_exact h
