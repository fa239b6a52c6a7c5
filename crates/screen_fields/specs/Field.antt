-- A field of the screen file: blanks, at most one sign, one or more digits; and the word it stands for. Assumes nothing.
use Rattle.std.specs.Prelude.{ℕ, ◌+◌, ◌-◌, ◌*◌, Bool, true, false, cond, not, ◌&&◌, List, [], ◌∷◌, eqb, leb, Option, None, Some, option_map, Float}
use Rattle.std.specs.Float.Ieee.{to_bits}
use Rattle.std.specs.Float.{binary32}
use Rattle.util.specs.Eighths.{float_of_count}
use Rattle.screen_fields.specs.declared.format.Kind.{Kind}
use Rattle.screen_fields.specs.declared.format.Kind.TheVariants.{Code, Eighths}
use Rattle.util.specs.declared.eighths.Count.{Count}

-- ---- what is spelled, in ASCII: a sign and a size

-- without the blanks in front
unfoldable pub unblank : List ℕ → List ℕ
unblank [] = []
unblank (b ∷ bs) = cond (eqb b 32) (unblank bs) (b ∷ bs)

-- `0` to `9`
unfoldable pub is_digit : ℕ → Bool
is_digit b = leb 48 b && leb b 57

-- the number that all these bytes spell, after digits that spell v
unfoldable pub spelled : ℕ → List ℕ → Option ℕ
spelled v [] = Some v
spelled v (b ∷ bs) = cond (is_digit b) (spelled (v * 10 + (b - 48)) bs) None

-- one or more digits
unfoldable pub spelled_size : List ℕ → Option ℕ
spelled_size [] = None
spelled_size (b ∷ bs) = spelled 0 (b ∷ bs)

-- the same, with a sign beside it
unfoldable pub unsigned : Bool → List ℕ → Option Count
unsigned s bs = option_map (λ n. record { negative = s; size = n }) (spelled_size bs)

-- at most one sign, `-` or `+`, then digits
unfoldable pub signed : List ℕ → Option Count
signed [] = None
signed (b ∷ bs) = cond (eqb b 45) (unsigned true bs) (cond (eqb b 43) (unsigned false bs) (unsigned false (b ∷ bs)))

unfoldable pub numeral_of : List ℕ → Option Count
numeral_of bs = signed (unblank bs)

-- ---- the word

-- a code: from 0 to 4,294,967,295; `-0` is 0
unfoldable pub code_of : Option Count → Option ℕ
code_of None = None
code_of (Some n) = cond (n.negative && not (eqb n.size 0)) None (cond (leb n.size 4294967295) (Some n.size) None)

-- the word of a float
unfoldable pub present_word : Option Float → Option ℕ
present_word None = None
present_word (Some x) = Some (to_bits binary32 x)

-- a float: a count of eighths of size 9,999,999 at most; `-0` is +0
unfoldable pub float_of : Option Count → Option ℕ
float_of None = None
float_of (Some n) = present_word (float_of_count n.negative n.size)

unfoldable pub word_of : Kind → List ℕ → Option ℕ
word_of Code bs = code_of (numeral_of bs)
word_of Eighths bs = float_of (numeral_of bs)
