-- Floats that are whole eighths. Assumes nothing.
use Rattle.std.specs.Prelude.{ℕ, ◌*◌, ◌/◌, ◌%◌, Bool, cond, ◌&&◌, ◌==◌, nat_le, nat_lt, Float, Option, None, Some}
use Rattle.std.specs.Float.{nan, inf, fin, binary32}
use Rattle.std.specs.Float.Ieee.{up, down, round}
use Rattle.util.specs.declared.eighths.Count.{Count}

-- ±n / 8, which a float holds exactly where n is below 2 ^ 24. Zero has no sign.
unfoldable pub eighths : Bool → ℕ → Float
eighths s n = round binary32 (s && nat_lt 0 n) n 8

-- a whole count, by its sign and its size
abbrev pub whole : Bool → ℕ → Option Count
whole s n = Some (record { negative = s; size = n })

-- ±a / d eighths, d not 0: a whole number of them, of size 9,999,999 at most, or none
unfoldable pub counted : Bool → ℕ → ℕ → Option Count
counted s a d = cond (a % d == 0 && nat_le (a / d) 9999999) (whole (s && nat_lt 0 (a / d)) (a / d)) None

-- how many eighths a float is, if they are whole
unfoldable pub count_of : Float → Option Count
count_of nan = None
count_of (inf s) = None
count_of (fin s m e) = counted s (m * up e * 8) (down e)

-- the float of a count; none above 9,999,999
unfoldable pub float_of_count : Bool → ℕ → Option Float
float_of_count s n = cond (nat_lt 9999999 n) None (Some (eighths s n))
