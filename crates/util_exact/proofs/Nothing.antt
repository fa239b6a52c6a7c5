-- Adding -0 changes no f32: a float that fits is rounded to itself. Assumes nothing.
use Rattle.std.proofs.lemmas.Bool.Decides.{nat_tests}
use mathlib.Core.Path.{◌≡◌, refl, sym, ap, ◌∙◌, subst}
use mathlib.Core.Bool.{Bool, true, false, ◌&&◌}
use Prim.Native.Nat.{ℕ, zero, suc, ◌+◌, ◌-◌, ◌*◌, ◌%◌, ◌^◌, ◌≤◌, ◌<◌}
use native.Mathlib.Nat.{add-zero, sub-zero, zero-mul, mul-one, one-mul, mul_assoc, mul_right_comm, mul-pos, mul-lt-mul_of_pos_right, lt_of_mul-lt-mul_right, le_of_suc-le-suc, lt_of_not-le, not-le_of_lt, sub-add_cancel, zero-lt-suc}
use native.Mathlib.Omega.{arith}
use lib.IntN.{ℤ, pos, negsuc}
use lib.Dec.{T, eqb, leb, ltb, leb→le, ltb→lt}
use lib.Pow.{pow-add, pow_pos, pow-lt}
use lib.Ieee.{Float, nan, inf, fin, up, down, round, sum, add, fits, of_bits, binary32}
use lib.Ieee.Exact.{HasValue, round_exact}
use lib.Ieee.Fits.{up_pos, down_pos, and_l, and_r, round-fits}
use Rattle.util.proofs.Order.{zero_place}
use Rattle.util.proofs.Unique.{same, is_odd}
use Rattle.util_exact.specs.Value.{−0f}
use Rattle.util_exact.specs.Laws.{NothingAdded}

-- ---- a float that fits is a value of the format, exactly

-- 2 ^ e is a power of two of the smallest values
power : (e : ℤ) → down e ≤ 2 ^ 149 → (j : ℕ) × (up e * 2 ^ 149 ≡ 2 ^ j * down e)
power (pos k) h = (k + 149, sym (pow-add 2 k 149) ∙ sym (mul-one (2 ^ (k + 149))))
power (negsuc k) h = (149 - suc k, one-mul (2 ^ 149) ∙ ap (λ (x : ℕ). 2 ^ x) (sym (sub-add_cancel low)) ∙ pow-add 2 (149 - suc k) (suc k))
  where
    low : suc k ≤ 149
    low = le_of_suc-le-suc (lt_of_not-le (λ (g : 150 ≤ suc k). not-le_of_lt (pow-lt g) h))

rounded : (s : Bool) (m : ℕ) (e : ℤ) → T (fits binary32 (fin s (suc m) e)) → HasValue (round binary32 s (suc m * up e) (down e)) s (suc m * up e) (down e)
unfolding fits
rounded s m e t =
    let a : Bool = eqb (suc m % 2) 1 in
    let b : Bool = ltb (suc m) (2 ^ 24) in
    let c : Bool = leb (down e) (2 ^ 149) in
    let d : Bool = ltb (suc m * up e) (2 ^ 128 * down e) in
    let k = and_l (a && b && c) d t in
    let p = power e (leb→le (down e) (2 ^ 149) (and_r (a && b) c k)) in
    let v : suc m * up e * 2 ^ 149 ≡ suc m * 2 ^ p.0 * down e = mul_assoc (suc m) (up e) (2 ^ 149) ∙ ap (λ (x : ℕ). suc m * x) p.1 ∙ sym (mul_assoc (suc m) (2 ^ p.0) (down e)) in
    let l : suc m * up e * 2 ^ 149 < 2 ^ 128 * down e * 2 ^ 149 = mul-lt-mul_of_pos_right (ltb→lt (suc m * up e) (2 ^ 128 * down e) (and_r (a && b && c) d t)) (pow_pos 149) in
    let w : suc m * 2 ^ p.0 * down e < 2 ^ 277 * down e = subst (λ (x : ℕ). x < 2 ^ 277 * down e) v (subst (λ (x : ℕ). suc m * up e * 2 ^ 149 < x) (mul_right_comm (2 ^ 128) (down e) (2 ^ 149)) l) in
    round_exact binary32 s (suc m * up e) (down e) (suc m) p.0 (down_pos e) (ltb→lt (suc m) (2 ^ 24) (and_r a b (and_l (a && b) c k))) (lt_of_mul-lt-mul_right (down e) w) v

-- ---- and there is one float of that value

none : (a b : ℕ) → 0 < b → 0 * a ≡ b → ⊥
none a b h e = omega arith

one : (s : Bool) (m : ℕ) (e : ℤ) (y : Float) → T (fits binary32 (fin s (suc m) e)) → T (fits binary32 y) → HasValue y s (suc m * up e) (down e) → y ≡ fin s (suc m) e
one s m e nan t u v = absurd v
one s m e (inf r) t u v = absurd v
one s m e (fin r zero g) t u v = absurd (none (up g * down e) (suc m * up e * down g) (mul-pos (mul-pos (zero-lt-suc m) (up_pos e)) (down_pos g)) (sym (mul_assoc 0 (up g) (down e)) ∙ v.1))
one s m e (fin r (suc n) g) t u v =
    let w = same (suc n) (suc m) g e (is_odd r n g u) (is_odd s m e t) v.1 in
    λ i. fin (v.0 i) (w.0 i) (w.1 i)

itself : (s : Bool) (m : ℕ) (e : ℤ) → T (fits binary32 (fin s m e)) → round binary32 s (m * up e) (down e) ≡ fin s m e
unfolding round fits
itself false zero e t = rw (zero_place e t) refl
itself true zero e t = rw (zero_place e t) refl
itself s (suc m) e t = one s m e (round binary32 s (suc m * up e) (down e)) t (round-fits binary32 s (suc m * up e) (down e)) (rounded s m e t)

-- ---- adding -0

sum_nothing : (s : Bool) (a c : ℕ) → sum binary32 s a true 0 c ≡ round binary32 s a c
unfolding sum
sum_nothing s a c = grind (arith, nat_tests, add-zero, sub-zero)

minus_zero : −0f ≡ fin true 0 (pos 0)
unfolding of_bits
minus_zero = refl

pub nothing_added : NothingAdded
unfolding add
nothing_added nan t = refl
nothing_added (inf s) t = rw minus_zero refl
nothing_added (fin s m e) t = rw (minus_zero, mul-one (m * up e), mul-one (down e), zero-mul (down e)) (sum_nothing s (m * up e) (down e) ∙ itself s m e t)
