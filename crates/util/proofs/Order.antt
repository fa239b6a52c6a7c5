-- The order of floats, and that two floats, neither before the other, are one. Assumes nothing.
use Rattle.std.proofs.Common.{◌≡◌, ℕ, zero, suc, ◌*◌, ◌^◌, ◌<◌, ◌≤◌, Bool, true, false, ◌&&◌, ◌||◌, T, eqb, ℤ, pos, negsuc, sym, refl, ap, ◌∙◌, zero-lt-suc, mul-pos, one-mul, zero-mul, mul-one, arith, eqb→eq, ne_eqb, eqb-true, cond, subst, inl, inr}
use borrow.Author.Rules.{rules}
use mathlib.Core.Bool.{beq, and-false}
use lib.Pow.{pow-lt}
use lib.Dec.{not_T}
use lib.Ieee.Bits.{is_true, is_false}
use Rattle.std.proofs.lemmas.Bool.{and_parts}
use Rattle.std.proofs.lemmas.Float as float
use Rattle.std.proofs.lemmas.Float.{T_from_true, T_from_false}
use lib.Ieee.{Float, nan, inf, fin, up, down, lt, eq, le, is_nan, below, level, fits, binary32}
use lib.Ieee.Fits.{up_pos, down_pos}
use Rattle.util.proofs.Floats.{no}
use Rattle.util.proofs.Unique.{same, is_odd}
use Rattle.std.specs.Float.{is_sign_negative, float_with_sign}
use Rattle.util.specs.Order.{before, larger, smaller, zero_of, magnitude}

-- two numbers, neither below the other, are equal
pub equal : (x y : Float) → is_nan x ≡ false → is_nan y ≡ false → lt x y ≡ false → lt y x ≡ false → eq x y ≡ true
equal x y p q h k =
    elim (float.lt-or-eq x y (float.le_of_not-lt y x (T_from_false _ q) (T_from_false _ p) (T_from_false _ k))) [
      | inl l ↦ no (is_true _ l) h
      | inr e ↦ is_true _ e
    ]

-- of two floats at most one is below the other
pub one_way : (x y : Float) → lt x y ≡ true → lt y x ≡ true → ⊥
one_way x y p q = float.lt_irrefl x (float.lt_trans x y x (T_from_true _ p) (T_from_true _ q))

pub eq_self : (x : Float) → is_nan x ≡ false → eq x x ≡ true
eq_self x p = equal x x p p same same
  where
    same : lt x x ≡ false
    same = is_false _ (not_T (lt x x) (float.lt_irrefl x))

pub le_self : (x : Float) → is_nan x ≡ false → le x x ≡ true
le_self x p = is_true _ (float.le_refl x (T_from_false _ p))

pub lt_le : (x y : Float) → lt x y ≡ true → le x y ≡ true
lt_le x y h = is_true _ (float.le_of_lt x y (T_from_true _ h))

pub eq_le : (x y : Float) → eq x y ≡ true → le x y ≡ true
eq_le x y h = is_true _ (float.le_of_eq x y (T_from_true _ h))

-- ±a ≤ ±b, read off the signs
abbrev pub AtMost : Bool → ℕ → Bool → ℕ → Type 0
AtMost false a false b = a ≤ b
AtMost false a true b = (a ≡ 0) × (b ≡ 0)
AtMost true a false b = Unit {0}
AtMost true a true b = b ≤ a

-- what is below or level is at most
pub at_most : (s : Bool) (a : ℕ) (t : Bool) (b : ℕ) → below s a t b || level s a t b ≡ true → AtMost s a t b
at_most s a t b h = search rules

-- what is at most is below or level
pub is_at_most : (s : Bool) (a : ℕ) (t : Bool) (b : ℕ) → AtMost s a t b → below s a t b || level s a t b ≡ true
is_at_most s a t b h = search rules

-- only numbers are compared
pub le_numbers : (x y : Float) → le x y ≡ true → (is_nan x ≡ false) × (is_nan y ≡ false)
le_numbers x y h = (is_false _ (float.le_left x y (T_from_true _ h)), is_false _ (float.le_right x y (T_from_true _ h)))

pub le_trans : (x y z : Float) → le x y ≡ true → le y z ≡ true → le x z ≡ true
le_trans x y z h k = is_true _ (float.le_trans x y z (T_from_true _ h) (T_from_true _ k))

-- what is below y is not at least y
pub not_above_lem : (x y : Float) → lt x y ≡ true → le y x ≡ true → ⊥
not_above_lem x y h k = float.lt_irrefl x (float.lt_of_lt_of_le x y x (T_from_true _ h) (T_from_true _ k))

-- a number that another isn't below is at most that other
pub not_lt_le : (a b : Float) → is_nan a ≡ false → is_nan b ≡ false → lt b a ≡ false → le a b ≡ true
not_lt_le a b p q h = is_true _ (float.le_of_not-lt b a (T_from_false _ q) (T_from_false _ p) (T_from_false _ h))

-- ---- before

-- neither of two zeros is below the other as a number
zeros_level : (s t : Bool) (x y : Float) → zero_of s x ≡ true → zero_of t y ≡ true → lt x y ≡ false
unfolding zero_of lt
zeros_level s t nan y p q = no p refl
zeros_level s t (inf r) y p q = no p refl
zeros_level s t (fin r (suc m) e) y p q = no p refl
zeros_level s t (fin r zero e) nan p q = no q refl
zeros_level s t (fin r zero e) (inf u) p q = no q refl
zeros_level s t (fin r zero e) (fin u (suc n) d) p q = no q refl
zeros_level s t (fin r zero e) (fin u zero d) p q = flat r (0 * up e * down d) u (0 * up d * down e) (none (up e) (down d)) (none (up d) (down e))
  where
    none : (a b : ℕ) → 0 * a * b ≡ 0
    none a b = ap (λ (x : ℕ). x * b) (zero-mul a) ∙ zero-mul b

    flat : (r : Bool) (a : ℕ) (u : Bool) (b : ℕ) → a ≡ 0 → b ≡ 0 → below r a u b ≡ false
    flat false a false b p q = rw (p, q) refl
    flat false a true b p q = refl
    flat true a false b p q = rw (p, q) refl
    flat true a true b p q = rw (p, q) refl

zero_number : (s : Bool) (x : Float) → zero_of s x ≡ true → is_nan x ≡ false
unfolding zero_of is_nan
zero_number s nan p = no p refl
zero_number s (inf t) p = refl
zero_number s (fin t m e) p = refl

-- two zeros are equal
pub zeros : (s t : Bool) (x y : Float) → zero_of s x ≡ true → zero_of t y ≡ true → eq x y ≡ true
zeros s t x y p q = equal x y (zero_number s x p) (zero_number t y q) (zeros_level s t x y p q) (zeros_level t s y x q p)

pub before_by : (a b : Float) → before a b ≡ true → le a b ≡ true
unfolding before
before_by a b h = go (lt a b) refl h
  where
    go : (l : Bool) → lt a b ≡ l → l || (zero_of true a && zero_of false b) ≡ true → le a b ≡ true
    go true e h = lt_le a b e
    go false e h = let z = and_parts (zero_of true a) (zero_of false b) h in eq_le a b (zeros true false a b z.0 z.1)

pub not_before : (a b : Float) → before a b ≡ false → (lt a b ≡ false) × ((zero_of true a && zero_of false b) ≡ false)
unfolding before
not_before a b h = go (lt a b) (zero_of true a && zero_of false b) h
  where
    go : (p q : Bool) → p || q ≡ false → (p ≡ false) × (q ≡ false)
    go true q h = no refl h
    go false q h = (refl, h)

-- what b is not above is at least b
pub not_before_le : (a b : Float) → is_nan a ≡ false → is_nan b ≡ false → before a b ≡ false → le b a ≡ true
not_before_le a b p q h = not_lt_le b a q p (not_before a b h).0

one_sign : (x : Float) → zero_of true x ≡ true → zero_of false x ≡ true → ⊥
unfolding zero_of
one_sign nan p q = no p refl
one_sign (inf s) p q = no p refl
one_sign (fin true zero e) p q = no q refl
one_sign (fin false zero e) p q = no p refl
one_sign (fin s (suc m) e) p q = no p refl

-- of two floats at most one is before the other
pub one_before : (a b : Float) → before a b ≡ true → before b a ≡ true → ⊥
unfolding before
one_before a b h k = go (lt a b) refl (lt b a) refl h k
  where
    go : (l : Bool) → lt a b ≡ l → (g : Bool) → lt b a ≡ g → l || (zero_of true a && zero_of false b) ≡ true → g || (zero_of true b && zero_of false a) ≡ true → ⊥
    go true p true q h k = one_way a b p q
    go true p false q h k = let z = and_parts (zero_of true b) (zero_of false a) k in no p (zeros_level false true a b z.1 z.0)
    go false p true q h k = let z = and_parts (zero_of true a) (zero_of false b) h in no q (zeros_level false true b a z.1 z.0)
    go false p false q h k =
        let y = and_parts (zero_of true a) (zero_of false b) h in
        let z = and_parts (zero_of true b) (zero_of false a) k in
        one_sign a y.0 z.1

some : (m : ℕ) (e d : ℤ) → 0 < suc m * up e * down d
some m e d = mul-pos (mul-pos (zero-lt-suc m) (up_pos e)) (down_pos d)

-- ---- two floats, neither before the other, are one

-- the zero of a sign is written in one way
pub zero_place : (e : ℤ) → T (eqb (up e * down e) 1) → e ≡ pos 0
zero_place (pos zero) h = refl
zero_place (pos (suc k)) h =
    let p : 2 ^ suc k * 1 ≡ 1 = eqb→eq (2 ^ suc k * 1) 1 h in
    let q : 2 ^ 0 < 2 ^ suc k = pow-lt (zero-lt-suc k) in
    absurd (large (2 ^ suc k) (sym (mul-one (2 ^ suc k)) ∙ p) q)
  where
    large : (a : ℕ) → a ≡ 1 → 1 < a → ⊥
    large a p q = omega arith
zero_place (negsuc k) h =
    let p : 1 * 2 ^ suc k ≡ 1 = eqb→eq (1 * 2 ^ suc k) 1 h in
    let q : 2 ^ 0 < 2 ^ suc k = pow-lt (zero-lt-suc k) in
    absurd (large (2 ^ suc k) (sym (one-mul (2 ^ suc k)) ∙ p) q)
  where
    large : (a : ℕ) → a ≡ 1 → 1 < a → ⊥
    large a p q = omega arith

-- of floats as an f32 holds them, the library's magnitude is the one of specs/Order.antt
pub magnitude_by_sign : (x r : Float) → fits binary32 r ≡ true → r ≡ float_with_sign false x → r ≡ magnitude x
unfolding fits float_with_sign magnitude
magnitude_by_sign nan r f e = e
magnitude_by_sign (inf s) r f e = e
magnitude_by_sign (fin s zero e) r f h = h ∙ rw (zero_place e (subst T (sym (rw h at f)) tt)) refl
magnitude_by_sign (fin s (suc m) e) r f h = h

-- the parts of `level`
level_size : (s : Bool) (a : ℕ) (t : Bool) (b : ℕ) → level s a t b ≡ true → a ≡ b
level_size s a t b h = eqb-true a b (go (eqb a b) (beq s t || eqb a 0) h)
  where
    go : (p q : Bool) → p && q ≡ true → p ≡ true
    go true q h = refl
    go false q h = no h refl

pub level_sign : (s : Bool) (a : ℕ) (t : Bool) (b : ℕ) → 0 < a → level s a t b ≡ true → s ≡ t
level_sign true a true b p h = refl
level_sign false a false b p h = refl
level_sign true a false b p h = no (rw (ne_eqb a 0 (λ e. omega arith), and-false) at h) refl
level_sign false a true b p h = no (rw (ne_eqb a 0 (λ e. omega arith), and-false) at h) refl

nought : (a b : ℕ) → 0 * a * b ≡ 0
nought a b = ap (λ (x : ℕ). x * b) (zero-mul a) ∙ zero-mul b

apart : (a b : ℕ) → a ≡ 0 → 0 < b → a ≡ b → ⊥
apart a b p q h = omega arith

one_zero : (s t : Bool) (e d : ℤ) → e ≡ pos 0 → d ≡ pos 0 → before (fin s zero e) (fin t zero d) ≡ false → before (fin t zero d) (fin s zero e) ≡ false → fin s zero e ≡ fin t zero d
unfolding zero_of
one_zero true true e d p q h k = rw (p, q) refl
one_zero false false e d p q h k = rw (p, q) refl
one_zero true false e d p q h k = no refl (not_before (fin true zero e) (fin false zero d) h).1
one_zero false true e d p q h k = no refl (not_before (fin true zero d) (fin false zero e) k).1

one_number : (x y : Float) → T (fits binary32 x) → T (fits binary32 y) → eq x y ≡ true → before x y ≡ false → before y x ≡ false → x ≡ y
unfolding eq fits
one_number nan y f g e h k = no e refl
one_number (inf s) nan f g e h k = no e refl
one_number (inf true) (inf true) f g e h k = refl
one_number (inf false) (inf false) f g e h k = refl
one_number (inf true) (inf false) f g e h k = no e refl
one_number (inf false) (inf true) f g e h k = no e refl
one_number (inf s) (fin t n d) f g e h k = no e refl
one_number (fin s m e) nan f g i h k = no i refl
one_number (fin s m e) (inf t) f g i h k = no i refl
one_number (fin s zero e) (fin t zero d) f g i h k = one_zero s t e d (zero_place e f) (zero_place d g) h k
one_number (fin s zero e) (fin t (suc n) d) f g i h k =
    absurd (apart (0 * up e * down d) (suc n * up d * down e) (nought (up e) (down d)) (some n d e) (level_size s (0 * up e * down d) t (suc n * up d * down e) i))
one_number (fin s (suc m) e) (fin t zero d) f g i h k =
    absurd (apart (0 * up d * down e) (suc m * up e * down d) (nought (up d) (down e)) (some m e d) (sym (level_size s (suc m * up e * down d) t (0 * up d * down e) i)))
one_number (fin s (suc m) e) (fin t (suc n) d) f g i h k =
    let r = same (suc m) (suc n) e d (is_odd s m e f) (is_odd t n d g) (level_size s (suc m * up e * down d) t (suc n * up d * down e) i) in
    λ j. fin (level_sign s (suc m * up e * down d) t (suc n * up d * down e) (some m e d) i j) (r.0 j) (r.1 j)

pub one_float : (x y : Float) → is_nan x ≡ false → is_nan y ≡ false → T (fits binary32 x) → T (fits binary32 y) → before x y ≡ false → before y x ≡ false → x ≡ y
one_float x y p q f g h k = one_number x y f g (equal x y p q (not_before x y h).0 (not_before y x k).0) h k

-- ---- the larger and the smaller, by the test of the code: a is below b, or equal to it and negative

abbrev way : Float → Float → Bool
way a b = lt a b || (eq a b && is_sign_negative a)

zero_sign : (s : Bool) (x : Float) → zero_of s x ≡ true → is_sign_negative x ≡ s
unfolding zero_of is_sign_negative
zero_sign s nan p = no p refl
zero_sign s (inf t) p = no p refl
zero_sign true (fin true zero e) p = refl
zero_sign true (fin false zero e) p = no p refl
zero_sign false (fin true zero e) p = no p refl
zero_sign false (fin false zero e) p = refl
zero_sign s (fin t (suc m) e) p = no p refl

way_le : (a b : Float) → way a b ≡ true → le a b ≡ true
way_le a b h = go (lt a b) refl h
  where
    go : (l : Bool) → lt a b ≡ l → l || (eq a b && is_sign_negative a) ≡ true → le a b ≡ true
    go true e h = lt_le a b e
    go false e h = eq_le a b (and_parts (eq a b) (is_sign_negative a) h).0

way_not_after : (a b : Float) → way a b ≡ true → before b a ≡ false
unfolding before
way_not_after a b w = go (before b a) refl
  where
    apart : (l : Bool) → lt b a ≡ l → l || (zero_of true b && zero_of false a) ≡ true → ⊥
    apart true e h = not_above_lem b a e (way_le a b w)
    apart false e h =
        let z = and_parts (zero_of true b) (zero_of false a) h in
        no (rw (zeros_level false true a b z.1 z.0, zero_sign false a z.1, and-false (eq a b)) at w) refl

    go : (k : Bool) → before b a ≡ k → k ≡ false
    go false e = refl
    go true e = absurd (apart (lt b a) refl e)

-- where it doesn't hold, a is not before b
no_way : (a b : Float) → way a b ≡ false → before a b ≡ false
unfolding before
no_way a b w = go (lt a b) (eq a b) (is_sign_negative a) refl refl refl w
  where
    go : (l q s : Bool) → lt a b ≡ l → eq a b ≡ q → is_sign_negative a ≡ s → l || (q && s) ≡ false → l || (zero_of true a && zero_of false b) ≡ false
    go true q s e f g h = no refl h
    go false q s e f g h = at_zeros (zero_of true a && zero_of false b) refl
      where
        at_zeros : (z : Bool) → (zero_of true a && zero_of false b) ≡ z → z ≡ false
        at_zeros false k = refl
        at_zeros true k =
            let z = and_parts (zero_of true a) (zero_of false b) k in
            no refl (rw (sym f ∙ zeros true false a b z.0 z.1, sym g ∙ zero_sign true a z.0) at h)

-- two that it holds for are one where the first is not before the second
way_one : (a b : Float) → fits binary32 a ≡ true → fits binary32 b ≡ true → way a b ≡ true → before a b ≡ false → a ≡ b
way_one a b f g w e =
    let n = le_numbers a b (way_le a b w) in
    one_float a b n.0 n.1 (T_from_true _ f) (T_from_true _ g) e (way_not_after a b w)

module _ (a b : Float) where
  left_to : (h : Bool) → (h ≡ false → a ≡ b) → b ≡ cond h b a
  left_to true p = refl
  left_to false p = sym (p refl)

  given_to : (n m h : Bool) → m ≡ false → (h ≡ false → a ≡ b) → b ≡ cond n b (cond m a (cond h b a))
  given_to true m h p e = refl
  given_to false false h p e = left_to h e
  given_to false true h p e = no refl p

  kept_to : (n m h : Bool) → n ≡ false → h ≡ false → a ≡ cond n b (cond m a (cond h b a))
  kept_to false true h p e = refl
  kept_to false false false p e = refl
  kept_to false false true p e = no refl e
  kept_to true m h p e = no refl p

  pub larger_second : fits binary32 a ≡ true → fits binary32 b ≡ true → way a b ≡ true → b ≡ larger a b
  unfolding larger
  larger_second f g w = given_to (is_nan a) (is_nan b) (before a b) (le_numbers a b (way_le a b w)).1 (way_one a b f g w)

  pub larger_first : is_nan a ≡ false → way a b ≡ false → a ≡ larger a b
  unfolding larger
  larger_first p w = kept_to (is_nan a) (is_nan b) (before a b) p (no_way a b w)

  pub smaller_second : fits binary32 a ≡ true → fits binary32 b ≡ true → way b a ≡ true → b ≡ smaller a b
  unfolding smaller
  smaller_second f g w = given_to (is_nan a) (is_nan b) (before b a) (le_numbers b a (way_le b a w)).0 (λ e. sym (way_one b a g f w e))

  pub smaller_first : is_nan a ≡ false → way b a ≡ false → a ≡ smaller a b
  unfolding smaller
  smaller_first p w = kept_to (is_nan a) (is_nan b) (before b a) p (no_way b a w)
