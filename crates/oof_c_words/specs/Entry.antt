-- What a C call leaves, of an outcome of run/specs/Run.antt or run/specs/Preview.antt. Read `opened_in_words` and `replied_in_words` first.
-- Assumes nothing.
use Rattle.std.specs.Prelude.{ℕ, cond, List, Float, Result, Ok, Err, is_err}
use Rattle.refusal.specs.declared.Refusal.{Refusal}
use Rattle.refusal.specs.Refusal.{number_of}
use Rattle.oof_box.specs.declared.question.Reply.{Reply}
use Rattle.run.specs.Call.{Lent, Outcome}
use Rattle.run.specs.Run.{opened, replied}
use Rattle.run.specs.Preview.{preview_opened, preview_replied}
use Rattle.run.specs.declared.Opening.{Opening}
use Rattle.run.specs.declared.Answer.{Answer}
use Rattle.run.specs.declared.Answer.TheVariants.{Ask, Finish}
use Rattle.run.specs.declared.Step.{Step}
use Rattle.oof_c_words.specs.StateWords.{state_of, state_words}
use Rattle.oof_c_words.specs.AnswerWords.{question_words, finish_words}

-- ---- what a call may write, and what it leaves

pub record Words : Type 0 where
  pub layouts : List ℕ
  pub working : List ℕ
  pub unclaimed : List ℕ
  pub tally : List ℕ
  pub state : List ℕ
  pub answer : List ℕ

abbrev pub words : List ℕ → List ℕ → List ℕ → List ℕ → List ℕ → List ℕ → Words
words layouts working unclaimed tally state answer =
    record { layouts = layouts; working = working; unclaimed = unclaimed; tally = tally; state = state; answer = answer }

pub record Returned : Type 0 where
  pub result : ℕ
  pub words : Words

-- the slices that every call is lent
abbrev pub lent_in : List ℕ → Words → Lent
lent_in styles before =
    record { styles = styles; layouts = before.layouts; working = before.working; unclaimed = before.unclaimed; tally = before.tally }

-- 0, or the number of the refusal
unfoldable pub result_of : Result Answer Refusal → ℕ
result_of (Ok (Ask question)) = 0
result_of (Ok (Finish finish)) = 0
result_of (Err refusal) = number_of refusal

-- the answer's words: where the call is refused, as they came
unfoldable pub answer_left : Result Answer Refusal → List ℕ → List ℕ
answer_left (Ok (Ask question)) before = question_words question
answer_left (Ok (Finish finish)) before = finish_words finish
answer_left (Err refusal) before = before

-- the state's words after a reply: where it is refused, as they came, also if they are not how a state is written
unfoldable pub state_left : Step → List ℕ → List ℕ
state_left step before = cond (is_err step.answer) before (state_words step.state)

-- a result, with the answer's words
abbrev pub told : ℕ → List ℕ → ℕ × List ℕ
told result answer = (result, answer)

-- an outcome, with these words of the state; `shown` are the answer's as they came
abbrev pub in_words : Outcome → List ℕ → List ℕ → Returned
in_words left state shown =
    record {
      result = result_of left.step.answer;
      words = words left.layouts left.working left.unclaimed left.tally state (answer_left left.step.answer shown);
    }

-- after an opening: the state's words are those of the state that it returns, refused or not
abbrev pub after_opening : Outcome → Words → Returned
after_opening left before = in_words left (state_words left.step.state) before.answer

-- after a reply: the state's words are as `state_left` has them
abbrev pub after_reply : Outcome → Words → Returned
after_reply left before = in_words left (state_left left.step before.state) before.answer

-- an opening
unfoldable pub opened_in_words : Opening → List ℕ → List ℕ → Words → Returned
opened_in_words o candidates styles before = after_opening (opened o candidates (lent_in styles before)) before

-- a reply to the question that the state's words keep
unfoldable pub replied_in_words : Reply → List ℕ → List ℕ → Words → Returned
replied_in_words reply surfaced styles before =
    after_reply (replied (state_of before.state) reply surfaced (lent_in styles before)) before

-- a preview's opening (request #109), with a style in place of the node's own
unfoldable pub preview_opened_in_words : Opening → List ℕ → List ℕ → ℕ → List ℕ → Words → Returned
preview_opened_in_words o candidates styles node style before =
    after_opening (preview_opened o candidates node style (lent_in styles before)) before

-- a reply to a preview's question
unfoldable pub preview_replied_in_words : Reply → List ℕ → List ℕ → ℕ → List ℕ → Words → Returned
preview_replied_in_words reply surfaced styles node style before =
    after_reply (preview_replied (state_of before.state) reply surfaced node style (lent_in styles before)) before

-- ---- as a contract has them: what an entry returns, and the words of the slices that it may write

abbrev pub returned : ℕ → List ℕ → List ℕ → List ℕ → List ℕ → List ℕ → List ℕ → Returned
returned result layouts working unclaimed tally state answer =
    record { result = result; words = words layouts working unclaimed tally state answer }

-- an area's width, height, x and y, then the codes of an opening
abbrev pub opening_of : Float → Float → Float → Float → ℕ → ℕ → ℕ → ℕ → Opening
opening_of width height x y direction claims overflowx overflowy =
    record {
      area = record { size = record { width = width; height = height }; offset = record { x = x; y = y } };
      direction = direction;
      claims = claims;
      overflowx = overflowx;
      overflowy = overflowy;
    }
