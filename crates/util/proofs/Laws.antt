-- The laws of `specs/Laws.antt`. Assumes nothing.
use Rattle.std.proofs.Common.{◌≡◌, ℕ, zero, suc, ◌*◌, ◌<◌, Bool, true, false, cond, not, ◌&&◌, T, ltb, ◌⊎◌, sym, refl, ap, ◌∙◌, subst, inl, inr, mul-pos, zero-mul, arith, le-ltb, ltb-true, None, Some}
use borrow.Author.Tests.{not-true}
use lib.Ieee.{Float, nan, inf, fin, up, down, lt, eq, le, neg, is_nan, fits, of_bits, to_bits, binary32}
use lib.Ieee.Bits.{of_bits-to_bits, to_bits-of_bits, nan_bits_is, nan_bits_above}
use lib.Ieee.Exact.{HasValue}
use lib.Ieee.Fits.{down_pos, neg-fits}
use Rattle.util.proofs.Floats.{no, is_nan_lem}
use Rattle.util.proofs.Order.{le_self, le_trans, before_by, one_before, not_before_le, not_above_lem, not_lt_le, le_numbers, lt_le, one_float, zero_place, level_sign}
use Rattle.util.proofs.Negation.{neg_nan, neg_neg, neg_before, neg_le}
use Rattle.util.proofs.Count.{Mag, count_is, eighths_value, tried, below_zero, same_size}
use Rattle.util.proofs.Unique.{same_count, counts, count_float}
use Rattle.util.specs.Order.{larger, smaller, before, zero_of, magnitude}
use Rattle.util.specs.Maybe.{clamped, at_least, at_most}
use Rattle.util.specs.Eighths.{whole, eighths}
use Rattle.util.specs.Laws.{plus0, AtOrAbove, AtMostIsTransitive, LargerBounds, LargerIsOne, LargerCommutes, SmallerBounds, SmallerIsOne, SmallerCommutes, NanLoses, OnlyTwoNans, MinusZeroIsBelow, SmallerIsDual, MagnitudeIsEither, MagnitudeIsAtLeastZero, MagnitudeOfZeros, MagnitudeOfNan, MinWins, MaxBinds, MinAboveMax, WithinStays, NoBound, WordIsNan, NanWord, WordBack, FloatBack, EighthsAreExact, CountBack, EighthsBack, CountIsFound, CountIsSmall}

-- ---- the larger and the smaller

pub at_most_is_transitive : AtMostIsTransitive
at_most_is_transitive = le_trans

-- what is at least a number that is at least e, is at least e
pub onwards : (e low x : Float) → AtOrAbove e low → AtOrAbove low x → AtOrAbove e x
onwards e low x h k p = let a = h p in let b = k a.0 in (b.0, at_most_is_transitive e low x a.1 b.1)

abbrev Bound : Float → Float → Type 0
Bound x r = (is_nan r ≡ false) × (le x r ≡ true)

pub larger_bounds : LargerBounds
unfolding larger
larger_bounds a b = (λ p. left p (is_nan b) refl (before a b) refl, λ q. right q (is_nan a) refl (before a b) refl)
  where
    left : is_nan a ≡ false → (n : Bool) → is_nan b ≡ n → (h : Bool) → before a b ≡ h → Bound a (cond (is_nan a) b (cond n a (cond h b a)))
    left p true q h e = rw p (p, le_self a p)
    left p false q true e = rw p (q, before_by a b e)
    left p false q false e = rw p (p, le_self a p)

    right : is_nan b ≡ false → (n : Bool) → is_nan a ≡ n → (h : Bool) → before a b ≡ h → Bound b (cond n b (cond (is_nan b) a (cond h b a)))
    right q true p h e = (q, le_self b q)
    right q false p true e = rw q (q, le_self b q)
    right q false p false e = rw q (p, not_before_le a b p q e)

pub larger_is_one : LargerIsOne
unfolding larger
larger_is_one a b = go (is_nan a) (is_nan b) (before a b)
  where
    go : (n m h : Bool) → (cond n b (cond m a (cond h b a)) ≡ a) ⊎ (cond n b (cond m a (cond h b a)) ≡ b)
    go true m h = inr refl
    go false true h = inl refl
    go false false true = inr refl
    go false false false = inl refl

pub larger_commutes : LargerCommutes
unfolding larger
larger_commutes a b f g = go (is_nan a) refl (is_nan b) refl (before a b) refl (before b a) refl
  where
    go : (n : Bool) → is_nan a ≡ n → (m : Bool) → is_nan b ≡ m → (h : Bool) → before a b ≡ h → (k : Bool) → before b a ≡ k
        → cond n b (cond m a (cond h b a)) ≡ cond m a (cond n b (cond k a b))
    go true p true q h i k j = is_nan_lem b q ∙ sym (is_nan_lem a p)
    go true p false q h i k j = refl
    go false p true q h i k j = refl
    go false p false q true i true j = absurd (one_before a b i j)
    go false p false q true i false j = refl
    go false p false q false i true j = refl
    go false p false q false i false j = one_float a b p q f g i j

pub smaller_is_dual : SmallerIsDual
unfolding smaller larger
smaller_is_dual a b = rw (neg_nan a, neg_nan b, neg_before a b) (go (is_nan a) (is_nan b) (before b a))
  where
    go : (n m h : Bool) → cond n b (cond m a (cond h b a)) ≡ neg (cond n (neg b) (cond m (neg a) (cond h (neg b) (neg a))))
    go true m h = sym (neg_neg b)
    go false true h = sym (neg_neg a)
    go false false true = sym (neg_neg b)
    go false false false = sym (neg_neg a)

pub smaller_bounds : SmallerBounds
smaller_bounds a b =
    let w = larger_bounds (neg a) (neg b) in
    rw (smaller_is_dual a b) (λ p. turned a (w.0 (neg_nan a ∙ p)), λ q. turned b (w.1 (neg_nan b ∙ q)))
  where
    turned : (x : Float) → Bound (neg x) (larger (neg a) (neg b)) → (is_nan (neg (larger (neg a) (neg b))) ≡ false) × (le (neg (larger (neg a) (neg b))) x ≡ true)
    turned x w = (neg_nan (larger (neg a) (neg b)) ∙ w.0, rw (neg_neg x) at (neg_le (neg x) (larger (neg a) (neg b)) w.1))

pub smaller_is_one : SmallerIsOne
smaller_is_one a b = go (larger_is_one (neg a) (neg b))
  where
    back : (x : Float) → larger (neg a) (neg b) ≡ neg x → smaller a b ≡ x
    back x e = smaller_is_dual a b ∙ ap neg e ∙ neg_neg x

    go : (larger (neg a) (neg b) ≡ neg a) ⊎ (larger (neg a) (neg b) ≡ neg b) → (smaller a b ≡ a) ⊎ (smaller a b ≡ b)
    go (inl e) = inl (back a e)
    go (inr e) = inr (back b e)

pub smaller_commutes : SmallerCommutes
smaller_commutes a b f g =
    smaller_is_dual a b ∙ ap neg (larger_commutes (neg a) (neg b) (neg-fits binary32 a f) (neg-fits binary32 b g)) ∙ sym (smaller_is_dual b a)

pub nan_loses : NanLoses
unfolding larger smaller is_nan
nan_loses nan = (refl, refl, refl, refl)
nan_loses (inf s) = (refl, refl, refl, refl)
nan_loses (fin s m e) = (refl, refl, refl, refl)

larger_nan : (a b : Float) → is_nan (larger a b) ≡ (is_nan a && is_nan b)
unfolding larger
larger_nan a b = go (is_nan a) refl (is_nan b) refl (before a b)
  where
    go : (n : Bool) → is_nan a ≡ n → (m : Bool) → is_nan b ≡ m → (h : Bool) → is_nan (cond n b (cond m a (cond h b a))) ≡ (n && m)
    go true p m q h = q
    go false p true q h = p
    go false p false q true = q
    go false p false q false = p

pub only_two_nans : OnlyTwoNans
only_two_nans a b = (larger_nan a b, rw (smaller_is_dual a b, neg_nan (larger (neg a) (neg b)), larger_nan (neg a) (neg b), neg_nan a, neg_nan b) refl)

pub minus_zero_is_below : MinusZeroIsBelow
unfolding larger smaller is_nan before zero_of lt
minus_zero_is_below = (refl, refl, refl, refl)

-- ---- the magnitude

pub magnitude_is_either : MagnitudeIsEither
unfolding magnitude neg fits
magnitude_is_either nan f = inl refl
magnitude_is_either (inf true) f = inr refl
magnitude_is_either (inf false) f = inl refl
magnitude_is_either (fin true zero e) f = inr (rw (zero_place e f) refl)
magnitude_is_either (fin false zero e) f = inl (rw (zero_place e f) refl)
magnitude_is_either (fin true (suc m) e) f = inr refl
magnitude_is_either (fin false (suc m) e) f = inl refl

pub magnitude_is_at_least_zero : MagnitudeIsAtLeastZero
unfolding magnitude is_nan lt le
magnitude_is_at_least_zero nan p = no refl p
magnitude_is_at_least_zero (inf s) p = refl
magnitude_is_at_least_zero (fin s zero e) p = refl
magnitude_is_at_least_zero (fin s (suc m) e) p =
    not_lt_le plus0 (fin false (suc m) e) refl refl (le-ltb (suc m * up e * 1) (0 * 1 * down e) (omega (arith, zero-mul (down e))))

pub magnitude_of_zeros : MagnitudeOfZeros
unfolding magnitude
magnitude_of_zeros = (refl, refl)

pub magnitude_of_nan : MagnitudeOfNan
unfolding magnitude
magnitude_of_nan = refl

-- ---- clamps

pub min_wins : MinWins
unfolding clamped at_least
min_wins x low max p = (larger_bounds (at_most x max) low).1 p

pub max_binds : MaxBinds
unfolding clamped at_least at_most
max_binds x high None h p = (smaller_bounds x high).1 p
max_binds x high (Some low) h p = go (is_nan low) refl (larger_is_one (smaller x high) low)
  where
    under : (is_nan (smaller x high) ≡ false) × (le (smaller x high) high ≡ true)
    under = (smaller_bounds x high).1 p

    go : (n : Bool) → is_nan low ≡ n → (larger (smaller x high) low ≡ smaller x high) ⊎ (larger (smaller x high) low ≡ low)
        → (is_nan (larger (smaller x high) low) ≡ false) × (le (larger (smaller x high) low) high ≡ true)
    go n q (inl e) = rw e under
    go true q (inr e) = rw (is_nan_lem low q, (nan_loses (smaller x high)).1) under
    go false q (inr e) = rw e (q, not_lt_le low high q p (not-true (lt high low) h))

pub min_above_max : MinAboveMax
unfolding clamped at_least at_most
min_above_max x low high h = go (larger_is_one (smaller x high) low)
  where
    numbers : (is_nan high ≡ false) × (is_nan low ≡ false)
    numbers = le_numbers high low (lt_le high low h)

    go : (larger (smaller x high) low ≡ smaller x high) ⊎ (larger (smaller x high) low ≡ low) → larger (smaller x high) low ≡ low
    go (inl e) =
        absurd (not_above_lem high low h (le_trans low (smaller x high) high (rw e at ((larger_bounds (smaller x high) low).1 numbers.1).1) ((smaller_bounds x high).1 numbers.0).1))
    go (inr e) = e

pub within_stays : WithinStays
unfolding clamped at_least at_most larger smaller
within_stays x low high p h k =
    ap (λ (y : Float). larger y low) (stays high (is_nan x) (is_nan high) (before high x) p k) ∙ stays low (is_nan x) (is_nan low) (before x low) p h
  where
    stays : (y : Float) (n m b : Bool) → n ≡ false → b ≡ false → cond n y (cond m x (cond b y x)) ≡ x
    stays y n true b p q = rw p refl
    stays y n false b p q = rw (p, q) refl

pub no_bound : NoBound
unfolding clamped at_least at_most
no_bound x min max = (refl, (nan_loses (at_most x max)).1, rw (nan_loses x).3 refl)

-- ---- words

pub word_is_nan : WordIsNan
word_is_nan w = sym (nan_bits_is binary32 w) ∙ nan_bits_above binary32 w

pub nan_word : NanWord
unfolding to_bits
nan_word = refl

pub float_back : FloatBack
float_back x f = of_bits-to_bits binary32 x f

pub word_back : WordBack
word_back w h n = to_bits-of_bits binary32 w h (subst (λ (b : Bool). T (not b)) (sym n) tt)

-- ---- whole eighths

size_of : (x : Float) (t : Bool) (n : ℕ) → HasValue x t n 8 → Mag x n
size_of nan t n v = v
size_of (inf s) t n v = v
size_of (fin s m e) t n v = v.1

sign_of : (x : Float) (t : Bool) (n : ℕ) → HasValue x t n 8 → lt x (of_bits binary32 0) ≡ (t && ltb 0 n)
sign_of nan t n v = absurd v
sign_of (inf s) t n v = absurd v
sign_of (fin s m e) t n v = below_zero s m e n v.1 ∙ rw v.0 refl

twice : (s b : Bool) → ((s && b) && b) ≡ (s && b)
twice true true = refl
twice true false = refl
twice false b = refl

pub count_back : CountBack
count_back s n h =
    let v = eighths_value s n h in
    count_is (eighths s n) n h (size_of (eighths s n) (s && ltb 0 n) n v) ∙ ap (λ (t : Bool). whole t n) (sign_of (eighths s n) (s && ltb 0 n) n v ∙ twice s (ltb 0 n))

pub eighths_back : EighthsBack
eighths_back x s n f e =
    let c = counts x s n e in
    let p : whole (lt x (of_bits binary32 0)) n ≡ whole s n = sym (count_is x n c.small c.size) ∙ e in
    let q = (same_count (lt x (of_bits binary32 0)) s n n p).0 in
    (ap (λ (t : Bool). eq (eighths t n) x) (sym q) ∙ tried x n c.small c.size, count_float x s n f e)

pub eighths_are_exact : EighthsAreExact
eighths_are_exact = eighths_value

pub count_is_small : CountIsSmall
count_is_small x s n e = let c = counts x s n e in (c.small, c.plain)

-- what equals a count that isn't zero has its sign
same_sign : (u x : Float) (t : Bool) (n : ℕ) → HasValue u t n 8 → eq u x ≡ true → lt x (of_bits binary32 0) ≡ (t && ltb 0 n)
unfolding eq
same_sign nan x t n v h = absurd v
same_sign (inf r) x t n v h = absurd v
same_sign (fin r k f) nan t n v h = no h refl
same_sign (fin r k f) (inf s) t n v h = no h refl
same_sign (fin r k f) (fin s m e) t n v h = below_zero s m e n (same_size (fin r k f) (fin s m e) t n v h) ∙ go (ltb 0 n) refl
  where
    some : 0 < n → 0 < k * up f * down e
    some p =
        let w : k * up f * 8 ≡ n * down f = v.1 in
        let q : 0 < n * down f = mul-pos p (down_pos f) in
        mul-pos (omega arith) (down_pos e)

    unsigned : (s t : Bool) → (s && false) ≡ (t && false)
    unsigned true true = refl
    unsigned true false = refl
    unsigned false true = refl
    unsigned false false = refl

    go : (b : Bool) → ltb 0 n ≡ b → (s && b) ≡ (t && b)
    go true p = ap (λ (b : Bool). b && true) (sym (level_sign r (k * up f * down e) s (m * up e * down f) (some (ltb-true 0 n p)) h) ∙ v.0)
    go false p = unsigned s t

pub count_is_found : CountIsFound
count_is_found x s n h e =
    let v = eighths_value s n h in
    count_is x n h (same_size (eighths s n) x (s && ltb 0 n) n v e)
    ∙ ap (λ (t : Bool). whole t n) (same_sign (eighths s n) x (s && ltb 0 n) n v e ∙ twice s (ltb 0 n))
