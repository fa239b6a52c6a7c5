-- Division of a whole number by 8, and the value of a count of eighths. Assumes nothing.
use borrow.Author.Rules.{rules}
use Rattle.std.proofs.Common.{◌≡◌, ℕ, zero, suc, ◌+◌, ◌*◌, ◌/◌, ◌%◌, ◌^◌, ◌<◌, ◌≤◌, Bool, true, false, cond, not, ◌&&◌, ◌||◌, eqb, ltb, leb, ℤ, pos, sym, refl, ap, ◌∙◌, le_trans, lt_of_lt_of_le, lt_of_le_of_lt, mul-le-mul_right, zero-lt-suc, mul_assoc, mul_comm, mul-pos, div-add-mod', zero-mul, mul-one, mul_right_comm, mul-div_cancel, arith, lit<, lit≤, shl_lt, ltb-false, ltb-true, le-ltb, lt-ltb, eq-eqb, eqb-true, le-leb, leb-true, None}
use native.Mathlib.Nat.{eq_of_mul-eq-mul_right, mul-mod_left}
use mathlib.Core.Bool.{beq, or-true, false≢true}
use Rattle.std.proofs.Math.Arith.{le-zero}
use Rattle.std.proofs.lemmas.Bool.{and_parts}
use Rattle.std.proofs.lemmas.Bool.Decides.{nat_tests}
use lib.Ieee.{Float, nan, inf, fin, up, down, round, div, mul, neg, lt, eq, of_int, to_unsigned, of_bits, binary32}
use lib.Ieee.Exact.{HasValue, round_exact}
use lib.Ieee.Fits.{down_pos}
use lib.Ieee.Back.{round_whole}
use lib.Ieee.Scale.{round_same}
use Rattle.util.specs.Order.{magnitude}
use Rattle.util.specs.Eighths.{whole, eighths, counted, count_of}

-- ---- from a count to the float

scaled : (a n d : ℕ) → a ≡ n * d → a * 8 ≡ n * (8 * d)
scaled a n d e = ap (λ (x : ℕ). x * 8) e ∙ mul_assoc n d 8 ∙ ap (λ (x : ℕ). n * x) (mul_comm d 8)

eighth : (x : Float) (s : Bool) (n : ℕ) → HasValue x s n 1 → div binary32 x (fin false 1 (pos 3)) ≡ round binary32 s n 8
unfolding div
eighth nan s n v = absurd v
eighth (inf t) s n v = absurd v
eighth (fin true m e) s n v =
    rw (← v.0) (round_same binary32 true (m * up e * 1) (8 * down e) n 8 (mul-pos (lit< tt) (down_pos e)) (lit< tt) (scaled (m * up e * 1) n (down e) v.1))
eighth (fin false m e) s n v =
    rw (← v.0) (round_same binary32 false (m * up e * 1) (8 * down e) n 8 (mul-pos (lit< tt) (down_pos e)) (lit< tt) (scaled (m * up e * 1) n (down e) v.1))

turned : (x : Float) (n : ℕ) → HasValue x false n 1 → HasValue (neg x) true n 1
unfolding neg
turned nan n v = v
turned (inf t) n v = v
turned (fin t m e) n v = (ap not v.0, v.1)

int_value : (n : ℕ) → n ≤ 9999999 → HasValue (of_int binary32 (pos n)) false n 1
unfolding of_int
int_value n h = round_whole binary32 false n (le_trans h (lit≤ tt))

eight_is : of_bits binary32 1090519040 ≡ fin false 1 (pos 3)
unfolding of_bits
eight_is = refl

no_sign : (s : Bool) → s && false ≡ false
no_sign true = refl
no_sign false = refl

module _ (s : Bool) (n : ℕ) (h : n ≤ 9999999) where
  pub none_is : n ≡ 0 → div binary32 (of_int binary32 (pos n)) (of_bits binary32 1090519040) ≡ eighths s n
  unfolding eighths
  none_is e = rw eight_is (eighth (of_int binary32 (pos n)) false n (int_value n h) ∙ rw (le-ltb 0 n (omega arith), no_sign s) refl)

  pub minus_is : (n ≡ 0 → ⊥) → s ≡ true → div binary32 (neg (of_int binary32 (pos n))) (of_bits binary32 1090519040) ≡ eighths s n
  unfolding eighths
  minus_is d e = rw eight_is (eighth (neg (of_int binary32 (pos n))) true n (turned (of_int binary32 (pos n)) n (int_value n h)) ∙ rw (lt-ltb 0 n (omega arith), e) refl)

  pub plus_is : s ≡ false → div binary32 (of_int binary32 (pos n)) (of_bits binary32 1090519040) ≡ eighths s n
  unfolding eighths
  plus_is e = rw eight_is (eighth (of_int binary32 (pos n)) false n (int_value n h) ∙ rw e refl)

-- ---- from a float to a count: x is n eighths in size

abbrev pub Mag : Float → ℕ → Type 0
Mag nan n = ⊥
Mag (inf s) n = ⊥
Mag (fin s m e) n = m * up e * 8 ≡ n * down e

-- where x is no count
pub uncounted : (x : Float) → ((q : ℕ) → Mag x q → q ≤ 9999999 → ⊥) → None ≡ count_of x
unfolding count_of counted
uncounted nan f = refl
uncounted (inf s) f = refl
uncounted (fin s m e) f = go (eqb (m * up e * 8 % down e) 0) refl (leb (m * up e * 8 / down e) 9999999) refl
  where
    go : (b : Bool) → eqb (m * up e * 8 % down e) 0 ≡ b → (b' : Bool) → leb (m * up e * 8 / down e) 9999999 ≡ b'
        → None ≡ cond (b && b') (whole (s && ltb 0 (m * up e * 8 / down e)) (m * up e * 8 / down e)) None
    go true p true q =
        let z : m * up e * 8 % down e ≡ 0 = eqb-true (m * up e * 8 % down e) 0 p in
        let w : m * up e * 8 / down e * down e + m * up e * 8 % down e ≡ m * up e * 8 = div-add-mod' (m * up e * 8) (down e) in
        absurd (f (m * up e * 8 / down e) (omega arith) (leb-true (m * up e * 8 / down e) 9999999 q))
    go true p false q = refl
    go false p b' q = refl

-- a count's sign is whether the float is below zero
pub below_zero : (s : Bool) (m : ℕ) (e : ℤ) (n : ℕ) → m * up e * 8 ≡ n * down e → lt (fin s m e) (of_bits binary32 0) ≡ (s && ltb 0 n)
unfolding lt of_bits
below_zero false m e n v = le-ltb (m * up e * 1) (0 * down e) (omega (arith, zero-mul (down e)))
below_zero true m e n v = go (ltb 0 n) refl
  where
    go : (b : Bool) → ltb 0 n ≡ b → ltb 0 (m * up e * 1 + 0 * down e) ≡ b
    go true p =
        let h : 0 < n = ltb-true 0 n p in
        let k : 0 < n * down e = mul-pos h (down_pos e) in
        lt-ltb 0 (m * up e * 1 + 0 * down e) (omega (arith, zero-mul (down e)))
    go false p =
        let h : n ≤ 0 = ltb-false 0 n p in
        let k : n * down e ≡ 0 = ap (λ (x : ℕ). x * down e) (le-zero h) ∙ zero-mul (down e) in
        le-ltb 0 (m * up e * 1 + 0 * down e) (omega (arith, zero-mul (down e)))

-- what is n eighths in size counts as n
pub count_is : (x : Float) (n : ℕ) → n ≤ 9999999 → Mag x n → count_of x ≡ whole (lt x (of_bits binary32 0)) n
unfolding count_of counted
count_is nan n h v = absurd v
count_is (inf s) n h v = absurd v
count_is (fin s m e) n h v =
    rw (below_zero s m e n v, v, mul-mod_left n (down e), mul-div_cancel n (down_pos e), le-leb n 9999999 h) refl

pub eighths_value : (s : Bool) (n : ℕ) → n ≤ 9999999 → HasValue (eighths s n) (s && ltb 0 n) n 8
unfolding eighths
eighths_value s n h =
    round_exact binary32 (s && ltb 0 n) n 8 n 146 (lit< tt) (lt_of_le_of_lt h (lit< tt))
    (lt_of_lt_of_le (shl_lt 24 146 (lt_of_le_of_lt h (lit< tt))) (lit≤ tt))
    (sym (mul_assoc n (2 ^ 146) 8))

-- A and B are two sizes over one denominator
cross : (a b d d' n : ℕ) → 0 < d' → a * d ≡ b * d' → a * 8 ≡ n * d' → b * 8 ≡ n * d
cross a b d d' n p e v =
    eq_of_mul-eq-mul_right d' p (b * 8) (n * d)
    (mul_right_comm b 8 d' ∙ ap (λ (x : ℕ). x * 8) (sym e) ∙ mul_right_comm a d 8 ∙ ap (λ (x : ℕ). x * d) v ∙ mul_right_comm n d' d)

pub same_size : (u x : Float) (t : Bool) (n : ℕ) → HasValue u t n 8 → eq u x ≡ true → Mag x n
unfolding eq
same_size nan x t n v e = absurd v
same_size (inf r) x t n v e = absurd v
same_size (fin r k f) nan t n v e = absurd (false≢true e)
same_size (fin r k f) (inf s) t n v e = absurd (false≢true e)
same_size (fin r k f) (fin s m e) t n v p =
    cross (k * up f) (m * up e) (down e) (down f) n (down_pos f)
    (eqb-true (k * up f * down e) (m * up e * down f) (and_parts (eqb (k * up f * down e) (m * up e * down f)) (beq r s || eqb (k * up f * down e) 0) p).0) v.1

pub sound : (x : Float) (g : Bool) (n : ℕ) → n ≤ 9999999 → lt x (of_bits binary32 0) ≡ g → eq (eighths g n) x ≡ true → whole g n ≡ count_of x
sound x g n h p e = sym (count_is x n h (same_size (eighths g n) x (g && ltb 0 n) n (eighths_value g n h) e) ∙ rw p refl)

-- ---- the guess finds every count

pub record Guess (y : Float) (q : ℕ) : Type 0 where
  pub sign : Bool
  pub plain : (sign && ltb 0 q) ≡ false
  pub value : HasValue y sign q 1

times8 : (x : Float) (r : Bool) (q : ℕ) → q ≤ 9999999 → HasValue x r q 8 → HasValue (mul binary32 x (fin false 1 (pos 3))) r q 1
unfolding mul
times8 nan r q h v = v
times8 (inf t) r q h v = absurd v
times8 (fin true m e) r q h v =
    rw (← v.0, round_same binary32 true (m * up e * 8) (down e * 1) q 1 (mul-pos (down_pos e) (lit< tt)) (lit< tt) (mul-one (m * up e * 8) ∙ v.1 ∙ ap (λ (x : ℕ). q * x) (sym (mul-one (down e)))))
    (round_whole binary32 true q (le_trans h (lit≤ tt)))
times8 (fin false m e) r q h v =
    rw (← v.0, round_same binary32 false (m * up e * 8) (down e * 1) q 1 (mul-pos (down_pos e) (lit< tt)) (lit< tt) (mul-one (m * up e * 8) ∙ v.1 ∙ ap (λ (x : ℕ). q * x) (sym (mul-one (down e)))))
    (round_whole binary32 false q (le_trans h (lit≤ tt)))

none_of : (q u d : ℕ) → 0 < d → 0 * u * 8 ≡ q * d → q ≡ 0
none_of zero u d p v = refl
none_of (suc q) u d p v =
    let h : 0 < suc q * d = mul-pos (zero-lt-suc q) p in
    let z : 0 * u ≡ 0 = zero-mul u in
    absurd (nothing (0 * u) (suc q * d) z h v)
  where
    nothing : (a b : ℕ) → a ≡ 0 → 0 < b → a * 8 ≡ b → ⊥
    nothing a b z h v = omega arith

sized : (x : Float) (q : ℕ) → Mag x q → HasValue (magnitude x) false q 8
unfolding magnitude
sized nan q v = absurd v
sized (inf s) q v = absurd v
sized (fin s zero e) q v = (refl, ap (λ (x : ℕ). x * 1) (sym (none_of q (up e) (down e) (down_pos e) v)))
sized (fin s (suc m) e) q v = (refl, v)

abbrev pub guess : Float → Float
guess x = mul binary32 (magnitude x) (of_bits binary32 1090519040)

guess_is : (x : Float) (q : ℕ) → q ≤ 9999999 → Mag x q → Guess (guess x) q
guess_is x q h v = rw eight_is (record { sign = false; plain = refl; value = times8 (magnitude x) false q h (sized x q v) })

-- over -1
pub above : (y : Float) (q : ℕ) → Guess y q → lt (fin true 1 (pos 0)) y ≡ true
unfolding lt
above y q g = search rules

-- below 2 ^ 64
pub under : (y : Float) (q : ℕ) → q ≤ 9999999 → Guess y q → lt y (fin false 1 (pos 64)) ≡ true
unfolding lt
under y q h g = grind (arith, nat_tests, down_pos, mul-le-mul_right)

-- cut to q
pub cut : (y : Float) (q : ℕ) → q ≤ 9999999 → Guess y q → to_unsigned 64 y ≡ q
unfolding to_unsigned
cut nan q h g = absurd g.value
cut (inf s) q h g = absurd g.value
cut (fin false k f) q h g =
    let v : k * up f ≡ q * down f = sym (mul-one (k * up f)) ∙ g.value.1 in
    rw (v, mul-div_cancel q (down_pos f)) (omega arith)
cut (fin true k f) q h g = sym (le-zero (ltb-false 0 q (rw (← g.value.0) at g.plain)))

-- and tried with success
level_of : (u x : Float) (t : Bool) (q : ℕ) → HasValue u t q 8 → Mag x q → (lt x (of_bits binary32 0) && ltb 0 q) ≡ t → eq u x ≡ true
unfolding eq
level_of nan x t q v w e = absurd v
level_of (inf r) x t q v w e = absurd v
level_of (fin r k f) nan t q v w e = absurd w
level_of (fin r k f) (inf s) t q v w e = absurd w
level_of (fin r k f) (fin s m e) t q v w z =
    let same : k * up f * down e ≡ m * up e * down f =
    eq_of_mul-eq-mul_right 8 (lit< tt) (k * up f * down e) (m * up e * down f)
    (mul_right_comm (k * up f) (down e) 8 ∙ ap (λ (x : ℕ). x * down e) v.1 ∙ mul_right_comm q (down f) (down e) ∙ ap (λ (x : ℕ). x * down f) (sym w) ∙ mul_right_comm (m * up e) 8 (down f)) in
    rw (eq-eqb (k * up f * down e) (m * up e * down f) same) (go s r (ltb 0 q) refl (v.0 ∙ sym z ∙ rw (below_zero s m e q w) refl))
  where
    go : (s r b : Bool) → ltb 0 q ≡ b → r ≡ ((s && b) && b) → (beq r s || eqb (k * up f * down e) 0) ≡ true
    go true true true p g = refl
    go true false true p g = absurd (false≢true g)
    go true r false p g =
        let z : q ≡ 0 = le-zero (ltb-false 0 q p) in
        let w : q * down f ≡ 0 = ap (λ (x : ℕ). x * down f) z ∙ zero-mul (down f) in
        let y : k * up f ≡ 0 = let u : k * up f * 8 ≡ q * down f = v.1 in omega arith in
        rw (eq-eqb (k * up f * down e) 0 (ap (λ (x : ℕ). x * down e) y ∙ zero-mul (down e))) (or-true (beq r true))
    go false false b p g = refl
    go false true b p g = absurd (false≢true (sym g))

pub tried : (x : Float) (q : ℕ) → q ≤ 9999999 → Mag x q → eq (eighths (lt x (of_bits binary32 0)) q) x ≡ true
tried x q h v = level_of (eighths (lt x (of_bits binary32 0)) q) x (lt x (of_bits binary32 0) && ltb 0 q) q (eighths_value (lt x (of_bits binary32 0)) q h) v refl

-- ---- each way to no count

module _ (x : Float) where
  -- the guess is -1 or less, 2 ^ 64 or more, or a NaN
  pub uncounted_uncut : (lt (fin true 1 (pos 0)) (guess x) && lt (guess x) (fin false 1 (pos 64))) ≡ false → None ≡ count_of x
  uncounted_uncut e = uncounted x (λ q v h. let g = guess_is x q h v in false≢true (sym (rw (above (guess x) q g, under (guess x) q h g) at e)))

  pub uncounted_large : 9999999 < to_unsigned 64 (guess x) → None ≡ count_of x
  uncounted_large e = uncounted x (λ q v h. let k = cut (guess x) q h (guess_is x q h v) in omega arith)

  pub uncounted_part : eq (eighths (lt x (of_bits binary32 0)) (to_unsigned 64 (guess x))) x ≡ false → None ≡ count_of x
  uncounted_part e = uncounted x (λ q v h. false≢true (sym (rw (cut (guess x) q h (guess_is x q h v)) at e) ∙ tried x q h v))
