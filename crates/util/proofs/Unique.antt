-- A float that is a count of eighths, not 0, is the float of that count. Assumes nothing.
use Rattle.std.proofs.Common.{◌≡◌, ℕ, zero, suc, ◌+◌, ◌*◌, ◌/◌, ◌%◌, ◌^◌, ◌<◌, ◌≤◌, Bool, true, false, cond, ◌&&◌, T, eqb, ltb, leb, ℤ, pos, negsuc, sym, refl, ap, ◌∙◌, zero-lt-suc, mul_assoc, mul-pos, pow-suc, div-add-mod', zero-mul, mul-one, mul_right_comm, mul_left_comm, arith, lit<, eqb→eq, pow-add, lt-ltb, eqb-true, leb-true, Option, None, unwrap_or}
use native.Mathlib.Nat.{pow-succ', eq_of_mul-eq-mul_right}
use lib.Ieee.{Float, nan, inf, fin, up, down, fits, binary32}
use lib.Ieee.Exact.{HasValue}
use lib.Ieee.Fits.{down_pos, and_l, round-fits}
use Rattle.util.specs.declared.eighths.Count.{Count}
use Rattle.util.specs.Eighths.{whole, eighths, counted, count_of}
use Rattle.util.proofs.Count.{Mag, eighths_value}

-- ---- an odd number times a power of two, in one way

even_odd : (m t : ℕ) → m % 2 ≡ 1 → m ≡ 2 * t → ⊥
even_odd m t o h = omega arith

odd_pow : (m n a b : ℕ) → m % 2 ≡ 1 → n % 2 ≡ 1 → m * 2 ^ a ≡ n * 2 ^ b → (m ≡ n) × (a ≡ b)
odd_pow m n zero zero o p h = (sym (mul-one m) ∙ h ∙ mul-one n, refl)
odd_pow m n zero (suc b) o p h = absurd (even_odd m (n * 2 ^ b) o (sym (mul-one m) ∙ h ∙ ap (λ (x : ℕ). n * x) (pow-succ' 2 b) ∙ mul_left_comm n 2 (2 ^ b)))
odd_pow m n (suc a) zero o p h = absurd (even_odd n (m * 2 ^ a) p (sym (mul-one n) ∙ sym h ∙ ap (λ (x : ℕ). m * x) (pow-succ' 2 a) ∙ mul_left_comm m 2 (2 ^ a)))
odd_pow m n (suc a) (suc b) o p h =
    let r = odd_pow m n a b o p (eq_of_mul-eq-mul_right 2 (zero-lt-suc 1) (m * 2 ^ a) (n * 2 ^ b)
    (mul_assoc m (2 ^ a) 2 ∙ ap (λ (x : ℕ). m * x) (sym (pow-suc 2 a)) ∙ h ∙ ap (λ (x : ℕ). n * x) (pow-suc 2 b) ∙ sym (mul_assoc n (2 ^ b) 2))) in
    (r.0, ap suc r.1)

none : (a b : ℕ) → a + suc b ≡ 0 → ⊥
none a b e = omega arith

pub same : (m n : ℕ) (e g : ℤ) → m % 2 ≡ 1 → n % 2 ≡ 1 → m * up e * down g ≡ n * up g * down e → (m ≡ n) × (e ≡ g)
same m n (pos a) (pos b) o p h =
    let r = odd_pow m n a b o p (sym (mul-one (m * 2 ^ a)) ∙ h ∙ mul-one (n * 2 ^ b)) in (r.0, ap pos r.1)
same m n (pos a) (negsuc b) o p h =
    let r = odd_pow m n (a + suc b) 0 o p (ap (λ (x : ℕ). m * x) (pow-add 2 a (suc b)) ∙ sym (mul_assoc m (2 ^ a) (2 ^ suc b)) ∙ h ∙ mul-one (n * 1)) in
    absurd (none a b r.1)
same m n (negsuc a) (pos b) o p h =
    let r = odd_pow n m (b + suc a) 0 p o (ap (λ (x : ℕ). n * x) (pow-add 2 b (suc a)) ∙ sym (mul_assoc n (2 ^ b) (2 ^ suc a)) ∙ sym h ∙ mul-one (m * 1)) in
    absurd (none b a r.1)
same m n (negsuc a) (negsuc b) o p h =
    let r = odd_pow m n (suc b) (suc a) o p (ap (λ (x : ℕ). x * 2 ^ suc b) (sym (mul-one m)) ∙ h ∙ ap (λ (x : ℕ). x * 2 ^ suc a) (mul-one n)) in
    (r.0, ap negsuc (sym (back b a r.1)))
  where
    back : (b a : ℕ) → suc b ≡ suc a → b ≡ a
    back b a e = omega arith

pub is_odd : (s : Bool) (m : ℕ) (e : ℤ) → T (fits binary32 (fin s (suc m) e)) → suc m % 2 ≡ 1
unfolding fits
is_odd s m e t =
    eqb→eq (suc m % 2) 1 (and_l (eqb (suc m % 2) 1) (ltb (suc m) (2 ^ 24)) (and_l (eqb (suc m % 2) 1 && ltb (suc m) (2 ^ 24)) (leb (down e) (2 ^ 149))
    (and_l (eqb (suc m % 2) 1 && ltb (suc m) (2 ^ 24) && leb (down e) (2 ^ 149)) (ltb (suc m * up e) (2 ^ 128 * down e)) t)))

nothing : (e : ℤ) (a : ℕ) → 0 < a → 0 * up e * 8 ≡ a * down e → ⊥
nothing e a h v =
    let p : 0 < a * down e = mul-pos h (down_pos e) in
    let z : 0 * up e ≡ 0 = zero-mul (up e) in
    omega arith

cross : (x y d d' a : ℕ) → x * 8 ≡ a * d → y * 8 ≡ a * d' → x * d' ≡ y * d
cross x y d d' a p q =
    eq_of_mul-eq-mul_right 8 (lit< tt) (x * d') (y * d)
    (mul_right_comm x d' 8 ∙ ap (λ (z : ℕ). z * d') p ∙ mul_right_comm a d d' ∙ ap (λ (z : ℕ). z * d) (sym q) ∙ mul_right_comm y 8 d)

unique : (x y : Float) (s : Bool) (a : ℕ) → 0 < a → T (fits binary32 x) → T (fits binary32 y) → HasValue x s a 8 → HasValue y s a 8 → x ≡ y
unique nan y s a h p q v w = absurd v
unique (inf t) y s a h p q v w = absurd v
unique (fin t m e) nan s a h p q v w = absurd w
unique (fin t m e) (inf u) s a h p q v w = absurd w
unique (fin t zero e) (fin u n g) s a h p q v w = absurd (nothing e a h v.1)
unique (fin t (suc m) e) (fin u zero g) s a h p q v w = absurd (nothing g a h w.1)
unique (fin t (suc m) e) (fin u (suc n) g) s a h p q v w =
    let r = same (suc m) (suc n) e g (is_odd t m e p) (is_odd u n g q) (cross (suc m * up e) (suc n * up g) (down e) (down g) a v.1 w.1) in
    λ i. fin ((v.0 ∙ sym w.0) i) (r.0 i) (r.1 i)

-- ---- what a count says

no_count_is_whole : (s : Bool) (n : ℕ) → None ≡ whole s n → ⊥
no_count_is_whole s n e = let z : ◌≡◌ {A = ℕ} 0 1 = cc in omega arith

-- what two counts that are one have in common
pub same_count : (s t : Bool) (n m : ℕ) → whole s n ≡ whole t m → (s ≡ t) × (n ≡ m)
same_count s t n m e = (
  ap (λ (o : Option Count). (unwrap_or o (record { negative = s; size = n })).negative) e,
  ap (λ (o : Option Count). (unwrap_or o (record { negative = s; size = n })).size) e,
)

pub record Counted (x : Float) (s : Bool) (n : ℕ) : Type 0 where
  pub small : n ≤ 9999999
  pub size : Mag x n
  pub value : 0 < n → HasValue x s n 8
  pub plain : n ≡ 0 → s ≡ false

pub counts : (x : Float) (s : Bool) (n : ℕ) → count_of x ≡ whole s n → Counted x s n
unfolding count_of counted
counts nan s n e = absurd (no_count_is_whole s n e)
counts (inf t) s n e = absurd (no_count_is_whole s n e)
counts (fin t m e) s n p = go (eqb (m * up e * 8 % down e) 0) refl (leb (m * up e * 8 / down e) 9999999) refl p
  where
    and_yes : (t : Bool) → (t && true) ≡ t
    and_yes true = refl
    and_yes false = refl

    and_no : (t : Bool) → (t && false) ≡ false
    and_no true = refl
    and_no false = refl

    found : (q : ℕ) → q ≡ n → (t && ltb 0 q) ≡ s → q ≤ 9999999 → m * up e * 8 ≡ q * down e → Counted (fin t m e) s n
    found q k l h v =
        record {
          small = omega arith;
          size = v ∙ rw k refl;
          value = λ z. (sym (and_yes t) ∙ ap (λ (b : Bool). t && b) (sym (lt-ltb 0 q (omega arith))) ∙ l, v ∙ rw k refl);
          plain = λ z. sym l ∙ ap (λ (b : Bool). t && b) (borrow.Author.Tests.le-ltb 0 q (omega arith)) ∙ and_no t;
        }

    go : (b : Bool) → eqb (m * up e * 8 % down e) 0 ≡ b → (b' : Bool) → leb (m * up e * 8 / down e) 9999999 ≡ b'
        → cond (b && b') (whole (t && ltb 0 (m * up e * 8 / down e)) (m * up e * 8 / down e)) None ≡ whole s n → Counted (fin t m e) s n
    go true i true j k =
        let z : m * up e * 8 % down e ≡ 0 = eqb-true (m * up e * 8 % down e) 0 i in
        let w : m * up e * 8 / down e * down e + m * up e * 8 % down e ≡ m * up e * 8 = div-add-mod' (m * up e * 8) (down e) in
        let same = same_count (t && ltb 0 (m * up e * 8 / down e)) s (m * up e * 8 / down e) n k in
        found (m * up e * 8 / down e) same.1 same.0 (leb-true (m * up e * 8 / down e) 9999999 j) (omega arith)
    go true i false j k = absurd (no_count_is_whole s n k)
    go false i b' j k = absurd (no_count_is_whole s n k)

eighths_fits : (s : Bool) (n : ℕ) → T (fits binary32 (eighths s n))
unfolding eighths
eighths_fits s n = round-fits binary32 (s && ltb 0 n) n 8

pub count_float : (x : Float) (s : Bool) (n : ℕ) → T (fits binary32 x) → count_of x ≡ whole s n → 0 < n → eighths s n ≡ x
count_float x s n f e h =
    let c = counts x s n e in
    unique (eighths s n) x s n h (eighths_fits s n) f (rw (sign s n h) at (eighths_value s n c.small)) (c.value h)
  where
    sign : (s : Bool) (n : ℕ) → 0 < n → (s && ltb 0 n) ≡ s
    sign true n h = lt-ltb 0 n h
    sign false n h = refl
