-- What tests say of a float: for a NaN, and against 0. Assumes nothing.
use borrow.Author.Rules.{rules}
use Rattle.std.proofs.Common.{◌≡◌, Bool, true, false, not, T, refl, subst, mul-pos}
use lib.Ieee.{Float, nan, inf, fin, lt, eq, ne, neg, div, is_nan, of_bits, binary32}
use lib.Ieee.Fits.{up_pos}
use Rattle.util.specs.Order.{zero_of, magnitude}

-- a test can't both pass and fail
pub no : {A : Type 0} {b : Bool} → b ≡ true → b ≡ false → A
no {b = true} p q = absurd (subst T q tt)
no {b = false} p q = absurd (subst (λ b. T (not b)) p tt)

pub is_nan_lem : (x : Float) → is_nan x ≡ true → x ≡ nan
unfolding is_nan
is_nan_lem nan h = refl
is_nan_lem (inf s) h = no h refl
is_nan_lem (fin s m e) h = no h refl

-- a NaN, and nothing else, differs from itself
pub ne_self : (x : Float) → ne x x ≡ is_nan x
unfolding ne is_nan
ne_self x = search rules

-- ---- against 0

-- of a zero, the sign of its reciprocal is its own
pub minus_reciprocal : (x : Float) → eq x (of_bits binary32 0) ≡ true → lt (div binary32 (of_bits binary32 1065353216) x) (of_bits binary32 0) ≡ zero_of true x
unfolding eq lt div of_bits zero_of
minus_reciprocal x h = search (rules, up_pos, mul-pos)

-- the same of the other sign
pub plus_reciprocal : (x : Float) → eq x (of_bits binary32 0) ≡ true → lt (of_bits binary32 0) (div binary32 (of_bits binary32 1065353216) x) ≡ zero_of false x
unfolding eq lt div of_bits zero_of
plus_reciprocal x h = search (rules, up_pos, mul-pos)

-- the magnitude of what is below 0 is its negative
pub magnitude_below : (x : Float) → lt x (of_bits binary32 0) ≡ true → neg x ≡ magnitude x
unfolding lt of_bits neg magnitude
magnitude_below x h = search rules

-- of what equals 0 it is +0
pub magnitude_zero : (x : Float) → eq x (of_bits binary32 0) ≡ true → of_bits binary32 0 ≡ magnitude x
unfolding eq of_bits magnitude
magnitude_zero x h = search (rules, up_pos)

-- of anything else, a NaN too, it is that
pub magnitude_above : (x : Float) → lt x (of_bits binary32 0) ≡ false → eq x (of_bits binary32 0) ≡ false → x ≡ magnitude x
unfolding lt eq of_bits magnitude
magnitude_above x h k = search rules
