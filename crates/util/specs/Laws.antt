-- What the definitions of this crate mean, as statements. `proofs/Laws.antt` proves each, under its name in small letters.
-- `fits binary32 x` says that x is a value of an f32, written in its one way: true of every f32 of a program. `lt`, `le` and `eq` are
-- <, <= and == of the f32: false where a NaN stands, and the two zeros are equal. Assumes nothing.
use Rattle.std.specs.Prelude.{◌≡◌, ℕ, ◌%◌, ◌<◌, ◌≤◌, Bool, true, false, not, ◌&&◌, T, ◌⊎◌, pos, from_bits, is_nan, nat_lt, to_bits, Float, Option, None, Some}
use Rattle.std.specs.Float.{nan, fin, binary32}
use Rattle.std.specs.Float.Ieee.{lt, le, eq, neg, fits}
use Rattle.std.specs.Float.Ieee.Exact.{HasValue}
use Rattle.util.specs.Order.{before, larger, smaller, magnitude}
use Rattle.util.specs.Maybe.{clamped}
use Rattle.util.specs.Eighths.{whole, eighths, count_of}

abbrev pub minus0 : Float
minus0 = fin true 0 (pos 0)

abbrev pub plus0 : Float
plus0 = fin false 0 (pos 0)

-- r bounds x from above: where x is a number, so is r, and x is at most r
abbrev pub AtOrAbove : Float → Float → Type 0
AtOrAbove x r = is_nan x ≡ false → (is_nan r ≡ false) × (le x r ≡ true)

-- and from below: r is at most x
abbrev pub AtOrBelow : Float → Float → Type 0
AtOrBelow x r = is_nan x ≡ false → (is_nan r ≡ false) × (le r x ≡ true)

-- a bound of a bound is a bound
abbrev pub AtMostIsTransitive : Type 0
AtMostIsTransitive = (x y z : Float) → le x y ≡ true → le y z ≡ true → le x z ≡ true

-- ---- the larger and the smaller: one of the two, that bounds both, in either order the same

abbrev pub LargerBounds : Type 0
LargerBounds = (a b : Float) → AtOrAbove a (larger a b) × AtOrAbove b (larger a b)

abbrev pub LargerIsOne : Type 0
LargerIsOne = (a b : Float) → (larger a b ≡ a) ⊎ (larger a b ≡ b)

abbrev pub LargerCommutes : Type 0
LargerCommutes = (a b : Float) → T (fits binary32 a) → T (fits binary32 b) → larger a b ≡ larger b a

abbrev pub SmallerBounds : Type 0
SmallerBounds = (a b : Float) → AtOrBelow a (smaller a b) × AtOrBelow b (smaller a b)

abbrev pub SmallerIsOne : Type 0
SmallerIsOne = (a b : Float) → (smaller a b ≡ a) ⊎ (smaller a b ≡ b)

abbrev pub SmallerCommutes : Type 0
SmallerCommutes = (a b : Float) → T (fits binary32 a) → T (fits binary32 b) → smaller a b ≡ smaller b a

-- a NaN loses to whatever stands beside it
abbrev pub NanLoses : Type 0
NanLoses = (x : Float) → (larger nan x ≡ x) × (larger x nan ≡ x) × (smaller nan x ≡ x) × (smaller x nan ≡ x)

-- so only two NaNs give a NaN
abbrev pub OnlyTwoNans : Type 0
OnlyTwoNans = (a b : Float) → (is_nan (larger a b) ≡ (is_nan a && is_nan b)) × (is_nan (smaller a b) ≡ (is_nan a && is_nan b))

abbrev pub MinusZeroIsBelow : Type 0
MinusZeroIsBelow = (larger minus0 plus0 ≡ plus0) × (larger plus0 minus0 ≡ plus0) × (smaller minus0 plus0 ≡ minus0) × (smaller plus0 minus0 ≡ minus0)

-- the smaller is the larger seen from below, so each law of the one is a law of the other
abbrev pub SmallerIsDual : Type 0
SmallerIsDual = (a b : Float) → smaller a b ≡ neg (larger (neg a) (neg b))

-- ---- the magnitude: the float or its negative, whichever isn't negative

abbrev pub MagnitudeIsEither : Type 0
MagnitudeIsEither = (x : Float) → T (fits binary32 x) → (magnitude x ≡ x) ⊎ (magnitude x ≡ neg x)

abbrev pub MagnitudeIsAtLeastZero : Type 0
MagnitudeIsAtLeastZero = (x : Float) → is_nan x ≡ false → le plus0 (magnitude x) ≡ true

abbrev pub MagnitudeOfZeros : Type 0
MagnitudeOfZeros = (magnitude plus0 ≡ plus0) × (magnitude minus0 ≡ plus0)

abbrev pub MagnitudeOfNan : Type 0
MagnitudeOfNan = magnitude nan ≡ nan

-- ---- clamps

-- min wins: where it is a number, the result is a number and at least min, whatever the size and max
abbrev pub MinWins : Type 0
MinWins = (x low : Float) (max : Option Float) → AtOrAbove low (clamped x (Some low) max)

-- a min that leaves max its say: absent, a NaN, or at most max
abbrev pub not_above : Option Float → Float → Bool
not_above None high = true
not_above (Some low) high = not (lt high low)

-- then max binds: where it is a number, the result is a number and at most max, whatever the size
abbrev pub MaxBinds : Type 0
MaxBinds = (x high : Float) (min : Option Float) → not_above min high ≡ true → AtOrBelow high (clamped x min (Some high))

-- a min above max is the result, whatever the size
abbrev pub MinAboveMax : Type 0
MinAboveMax = (x low high : Float) → lt high low ≡ true → clamped x (Some low) (Some high) ≡ low

-- a size within its bounds stays
abbrev pub WithinStays : Type 0
WithinStays = (x low high : Float) → is_nan x ≡ false → before x low ≡ false → before high x ≡ false → clamped x (Some low) (Some high) ≡ x

-- a bound that is absent or a NaN doesn't bind
abbrev pub NoBound : Type 0
NoBound = (x : Float) (min max : Option Float) → (clamped x None None ≡ x) × (clamped x (Some nan) max ≡ clamped x None max) × (clamped x min (Some nan) ≡ clamped x min None)

-- ---- words

-- a word is a NaN's where, but for its sign, it is above an infinity's
abbrev pub WordIsNan : Type 0
WordIsNan = (w : ℕ) → is_nan (from_bits binary32 w) ≡ nat_lt 0x7F80_0000 (w % 0x8000_0000)

-- each NaN is written by one word
abbrev pub NanWord : Type 0
NanWord = to_bits binary32 nan ≡ 0x7FC0_0000

-- any other word, read and written back, is that word
abbrev pub WordBack : Type 0
WordBack = (w : ℕ) → w < 0x1_0000_0000 → is_nan (from_bits binary32 w) ≡ false → to_bits binary32 (from_bits binary32 w) ≡ w

-- a float, written and read back, is that float
abbrev pub FloatBack : Type 0
FloatBack = (x : Float) → T (fits binary32 x) → from_bits binary32 (to_bits binary32 x) ≡ x

-- ---- whole eighths

-- the float of a count is exactly that many eighths
abbrev pub EighthsAreExact : Type 0
EighthsAreExact = (s : Bool) (n : ℕ) → n ≤ 9999999 → HasValue (eighths s n) (s && nat_lt 0 n) n 8

-- a count, written and read back, is that count; a zero comes back without a sign
abbrev pub CountBack : Type 0
CountBack = (s : Bool) (n : ℕ) → n ≤ 9999999 → count_of (eighths s n) ≡ whole (s && nat_lt 0 n) n

-- a float that is a count, read and written back, is that float; of the two zeros, +0
abbrev pub EighthsBack : Type 0
EighthsBack = (x : Float) (s : Bool) (n : ℕ) → T (fits binary32 x) → count_of x ≡ whole s n → (eq (eighths s n) x ≡ true) × (0 < n → eighths s n ≡ x)

-- no count is missed: a float equal to one is counted
abbrev pub CountIsFound : Type 0
CountIsFound = (x : Float) (s : Bool) (n : ℕ) → n ≤ 9999999 → eq (eighths s n) x ≡ true → count_of x ≡ whole (s && nat_lt 0 n) n

-- a count's size is 9,999,999 at most, and zero has no sign
abbrev pub CountIsSmall : Type 0
CountIsSmall = (x : Float) (s : Bool) (n : ℕ) → count_of x ≡ whole s n → (n ≤ 9999999) × (n ≡ 0 → s ≡ false)
