-- What holds of every run that is played out, whatever the words: statements. `proofs/Ends.antt` and `proofs/Finishes.antt` prove each,
-- under its name in small letters. Assumes nothing.
use Rattle.std.specs.Prelude.{ℕ, Bool, true, false, List, ◌≢◌, ◌≡◌, Result, Ok, Err, is_err}
use Rattle.refusal.specs.declared.Refusal.{Refusal}
use Rattle.oof_box.specs.declared.question.Question.{Question}
use Rattle.run.specs.declared.Opening.{Opening}
use Rattle.run.specs.declared.Answer.{Answer}
use Rattle.run.specs.declared.Answer.TheVariants.{Ask, Finish}
use Rattle.run.specs.Call.{Lent}
use Rattle.run.specs.Run.{opened}
use Rattle.script.specs.Script.{played_out}

-- ---- No question is left open: three a candidate are enough.

abbrev pub RunEnds : Type 0
RunEnds = (o : Opening) (replies candidates : List ℕ) (lent : Lent) (q : Question) → (played_out o replies candidates lent).step.answer ≢ Ok (Ask q)

-- ---- A refused opening is all there is, and no scripted reply is refused: a run that is opened comes to its finish.

abbrev pub RefusedOpeningStays : Type 0
RefusedOpeningStays =
    (o : Opening) (replies candidates : List ℕ) (lent : Lent) (r : Refusal)
    → (opened o candidates lent).step.answer ≡ Err r
    → played_out o replies candidates lent ≡ opened o candidates lent

abbrev pub is_finish : Result Answer Refusal → Bool
is_finish (Ok (Ask q)) = false
is_finish (Ok (Finish f)) = true
is_finish (Err r) = false

abbrev pub OpenedFinishes : Type 0
OpenedFinishes =
    (o : Opening) (replies candidates : List ℕ) (lent : Lent)
    → is_err (opened o candidates lent).step.answer ≡ false
    → is_finish (played_out o replies candidates lent).step.answer ≡ true
