-- The larger, the smaller and the magnitude of exact floats. Assumes nothing.
use borrow.Author.Rules.{rules}
use mathlib.Core.Path.{◌≡◌, sym, ◌∙◌}
use mathlib.Core.Bool.{true, false}
use Prim.Native.Nat.{ℕ, zero, suc, ◌+◌, ◌*◌, ◌≤◌}
use native.Mathlib.Nat.{eq_of_mul-eq-mul_right}
use native.Mathlib.Omega.{arith}
use lib.Ieee.{Float, nan, inf, fin, up, down, le, is_nan}
use lib.Ieee.Fits.{down_pos}
use borrow.Author.Tests.{leb-true}
use Rattle.util.specs.Order.{larger, smaller, magnitude}
use Rattle.util.proofs.Order.{before_by, not_before_le}
use Rattle.util_exact.specs.Integer.{N}
use Rattle.util_exact.proofs.Integers.{max_n, min_n, mag_n, mag_mult}
use Rattle.util_exact.proofs.Exact.{Val, Exact, recast}
use Rattle.util_exact.proofs.Compare.{le_exact}

is_number : (x : Float) (a : N) (z : ℕ) → Val x a z → is_nan x ≡ false
unfolding is_nan
is_number x a z v = search rules

pub no_nan : {g b : ℕ} {x : Float} {a : N} → Exact g b x a → is_nan x ≡ false
no_nan {x = x} {a = a} h = is_number x a h.z h.val

at_most : {g b c : ℕ} {x y : Float} {a d : N} → Exact g b x a → Exact g c y d → le x y ≡ true → a.p + d.n ≤ d.p + a.n
at_most {a = a} {d = d} h k e = leb-true (a.p + d.n) (d.p + a.n) (sym (le_exact h k) ∙ e)

pub larger_exact : {g b : ℕ} {x y : Float} {a d : N} → Exact g b x a → Exact g b y d → Exact g b (larger x y) (max_n a d)
unfolding larger
larger_exact h k = grind (arith, at_most, before_by, no_nan, not_before_le, recast)

pub smaller_exact : {g b : ℕ} {x y : Float} {a d : N} → Exact g b x a → Exact g b y d → Exact g b (smaller x y) (min_n a d)
unfolding smaller
smaller_exact h k = grind (arith, at_most, before_by, no_nan, not_before_le, recast)

zero_size_lem : (u z : ℕ) (e : lib.IntN.ℤ) → 0 * u * 16 ≡ z * down e → z ≡ 0
zero_size_lem u z e h = eq_of_mul-eq-mul_right (down e) (down_pos e) z 0 (omega arith)

magnitude_val : (x : Float) (z : ℕ) (a : N) → Val x a z → Val (magnitude x) (mag_n a) z
unfolding magnitude
magnitude_val nan z a v = v
magnitude_val (inf s) z a v = v
magnitude_val (fin false zero e) z a v = let k = zero_size_lem (up e) z e v.0 in (omega arith, omega (arith, v.1))
magnitude_val (fin true zero e) z a v = let k = zero_size_lem (up e) z e v.0 in (omega arith, omega (arith, v.1))
magnitude_val (fin false (suc m) e) z a v = (v.0, omega (arith, v.1))
magnitude_val (fin true (suc m) e) z a v = (v.0, omega (arith, v.1))

pub magnitude_exact : {g b : ℕ} {x : Float} {a : N} → Exact g b x a → Exact g b (magnitude x) (mag_n a)
magnitude_exact h = search (rules, mag_mult, magnitude_val)
