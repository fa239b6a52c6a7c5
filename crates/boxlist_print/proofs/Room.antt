-- The claimed records of a scripted run fit its working list: nothing is surfaced, so they are those of the opening. Assumes nothing.
use Prim.Native.Nat.{ℕ, zero, suc, ◌*◌, ◌/◌, ◌≤◌}
use native.Mathlib.Omega.{arith}
use native.Mathlib.Nat.{add-zero, zero-add}
use mathlib.Core.Path.{◌≡◌, refl, sym, ◌∙◌, subst}
use mathlib.Core.List.{List, []}
use lib.ListN.{length}
use Rattle.std.specs.Prelude.{Result, Ok, Err, Float}
use Rattle.geometry.specs.declared.Rect.{Rect}
use Rattle.tree_record.specs.Candidate.{candidate_width}
use Rattle.records.specs.Records.{records}
use Rattle.sweep.specs.Sweep.{first_candidates, candidates_in, keep}
use Rattle.oof_box.specs.declared.question.Reply.{Reply}
use Rattle.refusal.specs.declared.Refusal.{Refusal}
use Rattle.run.specs.declared.Opening.{Opening}
use Rattle.run.specs.declared.Counts.{Counts}
use Rattle.run.specs.declared.Opened.{Opened}
use Rattle.run.specs.declared.State.{State}
use Rattle.run.specs.declared.Answer.{Answer}
use Rattle.run.specs.declared.Answer.TheVariants.{Ask, Finish}
use Rattle.run.specs.Call.{Lent, Outcome}
use Rattle.run.specs.Run.{asking, finishing, proceeding, closed, begun, opened, measured_on, laid_out, replied}
use Rattle.run.specs.Theorems.{next}
use Rattle.run.proofs.Ways.{NextWay, asks, ends, next_way, OpeningWay, begins, opening_way, ReplyWay, measures, lays_out, reply_way, opening_room}
use Rattle.script.specs.Script.{scripted_reply, played_on, played, played_out}

filled : Outcome → ℕ
filled o = o.step.state.counts.filled.working

-- going on keeps the count
proceed_filled : (styles working : List ℕ) (run : Opened) (counts : Counts) (overflow : Rect Float)
    → (proceeding styles working run counts overflow).state.counts.filled.working ≡ counts.filled.working
unfolding asking finishing
proceed_filled styles working run counts overflow = go (next_way styles working run counts overflow)
  where
    go : NextWay styles working run counts overflow → (proceeding styles working run counts overflow).state.counts.filled.working ≡ counts.filled.working
    go (asks h e) = rw e refl
    go (ends h e) = rw e refl

-- so does a reply that surfaces nothing
reply_filled : (s : State) (given : Reply) (lent : Lent) → (replied s given [] lent).step.state.counts.filled.working ≡ s.counts.filled.working
unfolding measured_on laid_out asking candidates_in first_candidates records keep
reply_filled s given lent = go (reply_way s given [] lent)
  where
    go : ReplyWay s given [] lent → (replied s given [] lent).step.state.counts.filled.working ≡ s.counts.filled.working
    go (ReplyWay.turned_down r e) = rw e refl
    go (measures replies v t e) = rw e refl
    go (lays_out overflow v t e) = rw e (proceed_filled _ _ _ _ _ ∙ add-zero s.counts.filled.working)

played_filled : (n : ℕ) (replies styles : List ℕ) (o : Outcome) → filled (played n replies styles o) ≡ filled o
unfolding played filled played_on next
played_filled zero replies styles o = refl
played_filled (suc n) replies styles o = played_filled n replies styles (played_on replies styles o) ∙ once o.step.answer refl
  where
    once : (a : Result Answer Refusal) → o.step.answer ≡ a → filled (played_on replies styles o) ≡ filled o
    once (Ok (Ask q)) e = rw e (reply_filled o.step.state (scripted_reply replies q) _)
    once (Ok (Finish f)) e = rw e refl
    once (Err r) e = rw e refl

open_filled : (o : Opening) (candidates : List ℕ) (lent : Lent) → filled (opened o candidates lent) ≤ length lent.working / candidate_width
unfolding filled closed begun
open_filled o candidates lent = go (opening_way o candidates lent)
  where
    go : OpeningWay o candidates lent → filled (opened o candidates lent) ≤ length lent.working / candidate_width
    go (OpeningWay.turned_down r e) = rw e (omega arith)
    go (begins v e) = rw (e, proceed_filled, zero-add) (opening_room o candidates lent v).0

pub room_kept : (o : Opening) (replies candidates : List ℕ) (lent : Lent)
    → (played_out o replies candidates lent).step.state.counts.filled.working ≤ length lent.working / candidate_width
unfolding played_out filled
room_kept o replies candidates lent =
    subst (λ (k : ℕ). k ≤ length lent.working / candidate_width)
    (sym (played_filled (3 * (length candidates / candidate_width)) replies lent.styles (opened o candidates lent)))
    (open_filled o candidates lent)
