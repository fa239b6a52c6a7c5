-- A refused call writes nothing and returns the state as it came. Assumes nothing.
use Rattle.std.specs.Prelude.{Option, is_none, Result, Ok, Err, is_err, Float}
use Prim.Native.Nat.{ℕ}
use mathlib.Core.Path.{◌≡◌, refl, sym, ap, ◌∙◌}
use mathlib.Core.Bool.{Bool, true, false}
use mathlib.Core.List.{List}
use Rattle.util.proofs.Floats.{no}
use Rattle.geometry.specs.declared.Rect.{Rect}
use Rattle.refusal.specs.declared.Refusal.{Refusal}
use Rattle.oof_box.specs.declared.question.Stage.{Stage}
use Rattle.oof_box.specs.declared.question.Replies.{Replies}
use Rattle.oof_box.specs.declared.question.Taken.{Taken}
use Rattle.run.specs.declared.Opening.{Opening}
use Rattle.run.specs.declared.Counts.{Counts}
use Rattle.run.specs.declared.Opened.{Opened}
use Rattle.run.specs.declared.State.{State}
use Rattle.run.specs.declared.Answer.{Answer}
use Rattle.run.specs.declared.Answer.TheVariants.{Ask, Finish}
use Rattle.run.specs.declared.Step.{Step}
use Rattle.run.specs.Call.{Lent, Outcome, unwritten}
use Rattle.run.specs.Run.{asking, finishing, proceeding, closed, begun, opened, taken_in, taken_by, measured_on, laid_out, replied}
use Rattle.run.specs.Theorems.{Heard, next, Loan, own, other, Turn, next_with, turned, RefusedReplyKeeps, RefusedOpeningKeeps, FinishedRefuses}
use Rattle.run.proofs.Ways.{NextWay, asks, ends, next_way, OpeningWay, begins, opening_way, ReplyWay, measures, lays_out, reply_way}

abbrev pub refused_in : Outcome → Bool
refused_in o = is_err o.step.answer

-- ---- an accepted call answers with a question or a finish

pub proceeding_accepts : (styles working : List ℕ) (run : Opened) (counts : Counts) (overflow : Rect Float)
    → is_err (proceeding styles working run counts overflow).answer ≡ false
unfolding asking finishing
proceeding_accepts styles working run counts overflow = go (next_way styles working run counts overflow)
  where
    go : NextWay styles working run counts overflow → is_err (proceeding styles working run counts overflow).answer ≡ false
    go (asks h e) = ap (λ (s : Step). is_err s.answer) e
    go (ends h e) = ap (λ (s : Step). is_err s.answer) e

pub begun_accepts : (o : Opening) (candidates : List ℕ) (lent : Lent) → refused_in (begun o candidates lent) ≡ false
unfolding begun
begun_accepts o candidates lent = proceeding_accepts _ _ _ _ _

pub measured_accepts : (s : State) (replies : Replies) (lent : Lent) → refused_in (measured_on s replies lent) ≡ false
unfolding measured_on asking
measured_accepts s replies lent = refl

pub laid_accepts : (s : State) (overflow : Rect Float) (surfaced : List ℕ) (lent : Lent) → refused_in (laid_out s overflow surfaced lent) ≡ false
unfolding laid_out
laid_accepts s overflow surfaced lent = proceeding_accepts _ _ _ _ _

-- ---- so a refusal is none of those

answer_of_lem : {a b : Outcome} → a ≡ b → a.step.answer ≡ b.step.answer
answer_of_lem e = ap (λ (o : Outcome). o.step.answer) e

-- the same refusal, with all else as it came
pub same_refusal : (lent : Lent) (s : State) {o : Outcome} {q r : Refusal} → o ≡ unwritten lent (record { state = s; answer = Err q })
    → o.step.answer ≡ Err r
    → o ≡ unwritten lent (record { state = s; answer = Err r })
same_refusal lent s e a = e ∙ ap (λ (x : Result Answer Refusal). unwritten lent (record { state = s; answer = x })) (sym (answer_of_lem e) ∙ a)

not_accepted : {A : Type 0} {o p : Outcome} {r : Refusal} → o ≡ p → refused_in p ≡ false → o.step.answer ≡ Err r → A
not_accepted e f a = no (ap is_err a) (ap refused_in e ∙ f)

pub refused_reply_keeps : RefusedReplyKeeps
refused_reply_keeps s reply surfaced lent r a = go (reply_way s reply surfaced lent)
  where
    go : ReplyWay s reply surfaced lent → replied s reply surfaced lent ≡ unwritten lent (record { state = s; answer = Err r })
    go (ReplyWay.turned_down q e) = same_refusal lent s e a
    go (measures replies v t e) = not_accepted e (measured_accepts s replies lent) a
    go (lays_out overflow v t e) = not_accepted e (laid_accepts s overflow surfaced lent) a

pub refused_opening_keeps : RefusedOpeningKeeps
refused_opening_keeps o candidates lent r a = go (opening_way o candidates lent)
  where
    go : OpeningWay o candidates lent → opened o candidates lent ≡ unwritten lent (record { state = closed lent; answer = Err r })
    go (OpeningWay.turned_down q e) = same_refusal lent (closed lent) e a
    go (begins v e) = not_accepted e (begun_accepts o candidates lent) a

-- ---- a finished run

pub finished_refuses : FinishedRefuses
unfolding taken_by
finished_refuses s reply surfaced lent f = go (reply_way s reply surfaced lent)
  where
    wrong : {t : Option Taken} → taken_by s reply ≡ t → is_none t ≡ true
    wrong e = ap is_none (sym e) ∙ ap (λ (p : Option Stage). is_none (taken_in p s.replies reply)) f

    go : ReplyWay s reply surfaced lent → refused_in (replied s reply surfaced lent) ≡ true
    go (ReplyWay.turned_down r e) = ap refused_in e
    go (measures replies v t e) = no (wrong t) refl
    go (lays_out overflow v t e) = no (wrong t) refl

-- ---- a refused call in a run, whatever it is lent

-- a state and words, with an answer
abbrev pub saying : Result Answer Refusal → Outcome → Outcome
saying a x = record { step = record { state = x.step.state; answer = a }; layouts = x.layouts; working = x.working; unclaimed = x.unclaimed; tally = x.tally }

-- leaves what it was given, but for the answer
pub turn_refused : (styles : List ℕ) (x : Outcome) (t : Turn) → refused_in (turned styles x t) ≡ true
    → turned styles x t ≡ saying (turned styles x t).step.answer x
unfolding next
turn_refused styles x t e = go t.loan e (turned styles x t).step.answer refl
  where
    h : Heard
    h = t.heard

    go : (loan : Loan) → refused_in (next_with styles x h loan) ≡ true → (a : Result Answer Refusal) → (next_with styles x h loan).step.answer ≡ a
        → next_with styles x h loan ≡ saying (next_with styles x h loan).step.answer x
    go loan e (Ok (Ask q)) d = no e (ap is_err d)
    go loan e (Ok (Finish f)) d = no e (ap is_err d)
    go own e (Err r) d = refused_reply_keeps x.step.state h.reply h.surfaced _ r d ∙ ap (λ (a : Result Answer Refusal). saying a x) (sym d)
    go (other lent) e (Err r) d =
        ap (λ (o : Outcome). record { step = o.step; layouts = x.layouts; working = x.working; unclaimed = x.unclaimed; tally = x.tally }) (refused_reply_keeps x.step.state h.reply h.surfaced lent r d)
        ∙ ap (λ (a : Result Answer Refusal). saying a x) (sym d)
