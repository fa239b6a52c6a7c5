-- Rounding a fraction that is a whole number of sixteenths, below 2 ^ 24 of them, changes nothing. Assumes nothing.
use mathlib.Core.Path.{◌≡◌, sym, ap, ◌∙◌}
use mathlib.Core.Bool.{Bool}
use Prim.Native.Nat.{ℕ, ◌*◌, ◌^◌, ◌<◌}
use native.Mathlib.Nat.{mul_assoc, mul_right_comm, lt_of_lt_of_le, eq_of_mul-eq-mul_right}
use lib.Dec.{lit≤}
use lib.Pow.{shl_lt}
use lib.Ieee.{Float, nan, inf, fin, up, down, round, binary32}
use lib.Ieee.Exact.{HasValue, round_exact}

-- num / den and z / 16 are one fraction
rescale : (x : Float) (s : Bool) (num den z : ℕ) → 0 < den → num * 16 ≡ z * den → HasValue x s num den → HasValue x s z 16
rescale nan s num den z D h v = v
rescale (inf t) s num den z D h v = v
rescale (fin t m e) s num den z D h v = (
  v.0,
  eq_of_mul-eq-mul_right den D (m * up e * 16) (z * down e)
      (mul_right_comm (m * up e) 16 den
      ∙ ap (λ (x : ℕ). x * 16) v.1
      ∙ mul_right_comm num (down e) 16
      ∙ ap (λ (x : ℕ). x * down e) h
      ∙ mul_right_comm z den (down e)),
)

pub round_value : (s : Bool) (num den z : ℕ) → 0 < den → z < 2 ^ 24 → num * 16 ≡ z * den → HasValue (round binary32 s num den) s z 16
round_value s num den z D small h =
    rescale (round binary32 s num den) s num den z D h
    (round_exact binary32 s num den z 145 D small
    (lt_of_lt_of_le (shl_lt 24 145 small) (lit≤ tt))
    (sym (mul_assoc num 16 (2 ^ 145)) ∙ ap (λ (x : ℕ). x * 2 ^ 145) h ∙ mul_right_comm z den (2 ^ 145)))
