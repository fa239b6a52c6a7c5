-- What `oof_drawing_order` leaves, of a state's words. Assumes nothing.
use Rattle.std.specs.Prelude.{ℕ, List, Ok, Err}
use Rattle.refusal.specs.Refusal.{number_of}
use Rattle.run.specs.Call.{Slices}
use Rattle.run.specs.Refusals.{Verdict}
use Rattle.drawing.specs.Drawing.{Drawn, drawn}
use Rattle.oof_c_words.specs.StateWords.{state_of}

-- 0 or the number of the refusal, and the order's words
pub record DrawingReturned : Type 0 where
  pub result : ℕ
  pub order : List ℕ

abbrev pub verdict_number : Verdict → ℕ
verdict_number (Ok tt) = 0
verdict_number (Err refusal) = number_of refusal

abbrev pub drawn_told : Drawn → DrawingReturned
drawn_told left = record { result = verdict_number left.verdict; order = left.order }

-- of the slices lent, a state's 28 words, and the order's words as they came
unfoldable pub drawing_in_words : Slices → List ℕ → List ℕ → DrawingReturned
drawing_in_words lent state before = drawn_told (drawn (state_of state) lent before)

-- what the entry returns, and the order's words
abbrev pub drawing_returned : ℕ → List ℕ → DrawingReturned
drawing_returned result order = record { result = result; order = order }
