-- What `oof_touch` leaves, of a state's words. Assumes nothing.
use Rattle.std.specs.Prelude.{ℕ, List}
use Rattle.run.specs.Call.{Slices}
use Rattle.touch.specs.Touch.{Touched, touched}
use Rattle.oof_c_words.specs.StateWords.{state_of}
use Rattle.oof_c.specs.DrawingWords.{verdict_number}

-- 0 or the number of the refusal, and the driver's words
pub record TouchReturned : Type 0 where
  pub result : ℕ
  pub words : List ℕ

abbrev pub touch_told : Touched → TouchReturned
touch_told left = record { result = verdict_number left.verdict; words = left.words }

-- of the slices lent, a state's 28 words, and the driver's words as they came
unfoldable pub touch_in_words : Slices → List ℕ → List ℕ → TouchReturned
touch_in_words lent state before = touch_told (touched (state_of state) lent before)

-- what the entry returns, and the driver's words
abbrev pub touch_returned : ℕ → List ℕ → TouchReturned
touch_returned result words = record { result = result; words = words }
