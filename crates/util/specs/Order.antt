-- Order of floats, as document 01 has it ("One axis, then the float leaves"): a NaN loses to a number, and -0 is below +0. Assumes nothing.
use Rattle.std.specs.Prelude.{zero, suc, Bool, true, false, cond, ◌&&◌, ◌||◌, pos, is_nan, Float}
use Rattle.std.specs.Bool.{beq}
use Rattle.std.specs.Float.{nan, inf, fin}
use Rattle.std.specs.Float.Ieee.{lt}

-- whether a float is the zero of a sign: -0 where s is true, +0 where it is false
unfoldable pub zero_of : Bool → Float → Bool
zero_of s nan = false
zero_of s (inf t) = false
zero_of s (fin t zero e) = beq s t
zero_of s (fin t (suc m) e) = false

-- a is below b: as numbers, or a is -0 and b is +0
unfoldable pub before : Float → Float → Bool
before a b = lt a b || (zero_of true a && zero_of false b)

unfoldable pub larger : Float → Float → Float
larger a b = cond (is_nan a) b (cond (is_nan b) a (cond (before a b) b a))

unfoldable pub smaller : Float → Float → Float
smaller a b = cond (is_nan a) b (cond (is_nan b) a (cond (before b a) b a))

-- without its sign: of either zero, +0
unfoldable pub magnitude : Float → Float
magnitude nan = nan
magnitude (inf s) = inf false
magnitude (fin s zero e) = fin false zero (pos 0)
magnitude (fin s (suc m) e) = fin false (suc m) e
