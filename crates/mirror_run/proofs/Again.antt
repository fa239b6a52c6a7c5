-- A float that is a whole number of sixteenths, written as its bits and read back, is that number: whichever way the float was given.
-- Assumes nothing.
use Prim.Native.Nat.{ℕ, ◌+◌, ◌-◌, ◌*◌, ◌/◌, ◌^◌, ◌<◌, ◌≤◌}
use native.Mathlib.Omega.{arith}
use native.Mathlib.Nat.{mul_assoc, mul_right_comm, mul-div_cancel}
use mathlib.Core.Path.{◌≡◌, refl, sym, ap, ◌∙◌, subst}
use mathlib.Core.Bool.{Bool, cond}
use lib.Dec.{lit<}
use lib.Ieee.{Float, nan, inf, fin, up, down, size, round, of_bits, to_bits, hid, top, binary32}
use lib.Ieee.Exact.{HasValue}
use lib.Ieee.Fits.{down_pos, round-fits}
use Rattle.util.proofs.Laws.{float_back}
use Rattle.util_exact.specs.Integer.{N}
use Rattle.util_exact.proofs.Round.{round_value}
use Rattle.util_exact.proofs.Exact.{Exact, Val, round_val, sixteenths, recast}
use Rattle.util_exact.proofs.Laws.{one_integer}
use Rattle.util_exact.proofs.Same.{Same}
use Rattle.util_exact.specs.Value.{Sixteenths}

-- written, then read
abbrev pub again : Float → Float
again x = of_bits binary32 (to_bits binary32 x)

-- in units of the smallest float, the number is its sixteenths times 2 ^ 145
scaled : (m u d z : ℕ) → 0 < d → m * u * 16 ≡ z * d → m * u * 2 ^ 149 / d ≡ z * 2 ^ 145
scaled m u d z p e =
    ap (λ (n : ℕ). n / d)
    (sym (mul_assoc (m * u) 16 (2 ^ 145)) ∙ ap (λ (n : ℕ). n * 2 ^ 145) e ∙ mul_right_comm z d (2 ^ 145))
    ∙ mul-div_cancel (z * 2 ^ 145) p

-- so its bits depend on nothing else
bits_of : (s : Bool) (n : ℕ) → ℕ
bits_of s n = cond s (top binary32) 0 + (size n - 24) * hid binary32 + n / 2 ^ (size n - 24)

bits : (x : Float) (s : Bool) (z : ℕ) → HasValue x s z 16 → to_bits binary32 x ≡ bits_of s (z * 2 ^ 145)
unfolding to_bits bits_of
bits nan s z v = absurd v
bits (inf t) s z v = absurd v
bits (fin t m e) s z v = rw (scaled m (up e) (down e) z (down_pos e) v.1, v.0) refl

again_round : (x : Float) (s : Bool) (z : ℕ) → z < 2 ^ 24 → HasValue x s z 16 → again x ≡ round binary32 s z 16
again_round x s z l v =
    ap (of_bits binary32) (bits x s z v ∙ sym (bits (round binary32 s z 16) s z (round_value s z 16 z (lit< tt) l refl)))
    ∙ float_back (round binary32 s z 16) (round-fits binary32 s z 16)

pub again_exact : {g b : ℕ} {x : Float} {a : N} → b < 16777216 → Exact g b x a → Exact g b (again x) a
again_exact {g} {b} {x} {a} l h = record { z = h.z; val = go x h.val; small = h.small; mult = h.mult }
  where
    below : (z b : ℕ) → z ≤ b → b < 16777216 → z < 16777216
    below z b k l = omega arith

    go : (x : Float) → Val x a h.z → Val (again x) a h.z
    go nan v = absurd v
    go (inf s) v = absurd v
    go (fin s m e) v =
        let k = below h.z b h.small l in
        subst (λ (y : Float). Val y a h.z) (sym (again_round (fin s m e) s h.z k (refl, v.0))) (round_val s h.z 16 h.z a (lit< tt) k refl v.1)

pub again_same : {g b : ℕ} {x x' : Float} → b < 16777216 → Same g b x x' → Same g b (again x) (again x')
again_same l h = record { a = h.a; l = again_exact l h.l; r = again_exact l h.r }

-- as which number it counts doesn't change
pub again_sixteenths : {g b : ℕ} {x : Float} {a c : N} → b < 16777216 → Exact g b x a → Sixteenths x c → Sixteenths (again x) c
again_sixteenths {x = x} {a = a} {c = c} l h k = sixteenths (recast (one_integer x a c (sixteenths h) k) (again_exact l h))
