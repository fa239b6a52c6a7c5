-- The numbers that request #101 accepts, and the integer of eighths that each is. Assumes nothing.
use Rattle.std.specs.Prelude.{ℕ, Bool, true, false, ℤ, pos, neg_ℤ, Float, Option, None, Some, is_some}
use Rattle.util.specs.declared.eighths.Count.{Count}
use Rattle.util.specs.Eighths.{count_of}

-- "a whole eighth and at most 9,999,999 eighths in size": what `count_of` counts (util/specs/Eighths.antt)
unfoldable pub accepted : Float → Bool
accepted x = is_some (count_of x)

-- n, or -n where the sign is true
abbrev pub signed : Bool → ℕ → ℤ
signed false n = pos n
signed true n = neg_ℤ (pos n)

abbrev pub integer_of : Option Count → ℤ
integer_of None = pos 0
integer_of (Some c) = signed c.negative c.size

-- a number in eighths: 0 where it isn't accepted
unfoldable pub in_eighths : Float → ℤ
in_eighths x = integer_of (count_of x)
