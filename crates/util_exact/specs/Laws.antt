-- What the definitions of this crate mean, as statements. `proofs/` proves each, under its name in small letters. Assumes nothing.
use Rattle.std.specs.Prelude.{◌≡◌, false, List, T, Float}
use Rattle.std.specs.Float.Ieee.{is_nan, fits}
use Rattle.std.specs.Float.{binary32}
use Rattle.util.specs.Number.{◌⊕◌}
use Rattle.util_exact.specs.Integer.{N, EqN}
use Rattle.util_exact.specs.Value.{◌≐◌, −0f, Sixteenths, AddUp}

-- a float is one number of sixteenths at most, and a NaN is none
abbrev pub OneInteger : Type 0
OneInteger = (x : Float) (a b : N) → Sixteenths x a → Sixteenths x b → EqN a b

abbrev pub NanIsNone : Type 0
NanIsNone = (x : Float) (a : N) → Sixteenths x a → is_nan x ≡ false

-- equal as numbers: the same integer
abbrev pub EqualIsSame : Type 0
EqualIsSame = (x y : Float) (a b : N) → Sixteenths x a → Sixteenths y b → (x ≐ y → EqN a b) × (EqN a b → x ≐ y)

-- what numbers add up to is one number
abbrev pub OneTotal : Type 0
OneTotal = (xs : List Float) (t u : Float) → AddUp xs t → AddUp xs u → t ≐ u

-- -0 is the number that adds nothing: every f32 plus -0 is that f32, a zero's sign included (+0 won't do: -0 plus +0 is +0)
abbrev pub NothingAdded : Type 0
NothingAdded = (x : Float) → T (fits binary32 x) → x ⊕ −0f ≡ x
