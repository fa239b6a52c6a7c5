-- A run's filled working records break no rule, its surfaced ones included; so a finished run is drawn. Assumes nothing.
use Prim.Native.Nat.{ℕ, ◌+◌, ◌*◌, ◌/◌, ◌≤◌}
use native.Mathlib.Nat.{zero-add}
use mathlib.Core.Path.{◌≡◌, refl, sym, ap, ◌∙◌, subst}
use mathlib.Core.Bool.{true, false, not}
use mathlib.Core.List.{List, [], ◌∷◌, ◌++◌, map, foldl}
use lib.Dec.{eqb}
use lib.ListN.{length, length-append}
use borrow.Author.Tests.{not-false, eq-eqb}
use Rattle.std.specs.Prelude.{Option, is_err, Float}
use Rattle.util.proofs.Floats.{no}
use Rattle.geometry.specs.declared.Point.{Point}
use Rattle.geometry.specs.declared.Rect.{Rect}
use Rattle.style_record.specs.Record.{items}
use Rattle.tree.specs.declared.layout.OofCandidate.{OofCandidate}
use Rattle.records.specs.Records.{good_records}
use Rattle.tree_record.specs.Candidate.{candidate_width, candidate_kinds}
use Rattle.sweep.specs.Sweep.{candidates_in, moved, claimed, appended}
use Rattle.sweep.specs.declared.Filled.{Filled}
use Rattle.sweep.proofs.Listed.{AllBelow, listed_good}
use Rattle.sweep.proofs.Steps.{kept_moved, appended_twice, appended_length}
use Rattle.oof_box.specs.declared.question.Reply.{Reply}
use Rattle.run.specs.declared.Opening.{Opening}
use Rattle.run.specs.declared.State.{State}
use Rattle.run.specs.Call.{Lent, Outcome}
use Rattle.run.specs.Refusals.{accepted, lent_by, bad_candidate, bad_candidates}
use Rattle.run.specs.Run.{claims_of, asking, opening_verdict, begun, opened, reply_verdict, measured_on, laid_out, replied}
use Rattle.run.specs.Theorems.{Heard, Loan, own, other, Turn, next, next_with, turned, Lends, AllLend, called}
use Rattle.run.proofs.Refusals.{refused_in, turn_refused}
use Rattle.std.proofs.lemmas.Bool.{or_parts}
use Rattle.run.proofs.Ways.{OpeningWay, begins, opening_way, ReplyWay, measures, lays_out, reply_way, passed}
use Rattle.placer.proofs.Nodes.{both_below, moved_below, keep_below, good_below}
use Rattle.mirror_run.proofs.Unread.{taken_all}
use Rattle.mirror_run.proofs.Verdicts.{opening_passed, reply_passed}
use Rattle.reach_laws.proofs.Answered.{tests_passed}
use Rattle.drawing.specs.Drawing.{draw_verdict, drawn}
use Rattle.drawing_laws.specs.Laws.{FinishedIsDrawn}
use Rattle.drawing_laws.proofs.Kept.{proceeding_keeps, layers_of_a_run}

-- ---- a slice of candidates that was tested

all_below : (n : ℕ) (list : List ℕ) → good_records (candidate_kinds n) list (length list / candidate_width) ≡ true → AllBelow n (candidates_in list)
unfolding candidates_in
all_below n list e = good_below n list (length list / candidate_width) e

reply_below : (s : State) (reply : Reply) (surfaced : List ℕ) (lent : Lent) → reply_verdict s reply surfaced lent ≡ accepted
    → AllBelow (items lent.styles) (candidates_in (lent_by reply surfaced))
unfolding reply_verdict bad_candidate
reply_below s reply surfaced lent e =
    all_below (items lent.styles) (lent_by reply surfaced)
    (not-false _
    (or_parts (bad_candidate lent.styles lent.working s.counts.filled.working) (bad_candidates lent.styles (lent_by reply surfaced))
    (passed _ _ _ (passed _ _ _ (passed _ _ _ (passed _ _ _ e).1).1).1).0).1)

-- ---- the filled working records of a run: candidates whose words break no rule, written from the front of the list as it was lent

module _ (styles w : List ℕ) where
  record Good (x : Outcome) : Type 0 where
    cs : List OofCandidate
    working : x.working ≡ appended w 0 cs
    filled : x.step.state.counts.filled.working ≡ length cs
    room : candidate_width * length cs ≤ length w
    below : AllBelow (items styles) cs

  records_good : (x : Outcome) → Good x → bad_candidate styles x.working x.step.state.counts.filled.working ≡ false
  unfolding bad_candidate
  records_good x g = rw (g.working, g.filled) (ap not (listed_good w g.cs g.room (items styles) g.below))

  module _ (x : Outcome) (g : Good x) where
    abbrev lent : Lent
    lent = record { styles = styles; layouts = x.layouts; working = x.working; unclaimed = x.unclaimed; tally = x.tally }

    abbrev s : State
    s = x.step.state

    -- as they are, whatever else is left
    kept_good : (y : Outcome) → y.working ≡ x.working → y.step.state.counts.filled.working ≡ s.counts.filled.working → Good y
    kept_good y working filled = record { cs = g.cs; working = working ∙ g.working; filled = filled ∙ g.filled; room = g.room; below = g.below }

    -- with what a box surfaced behind them
    swept_good : (shift : Option (Point Float)) (surfaced : List ℕ) → AllBelow (items styles) (candidates_in surfaced)
        → candidate_width * (s.counts.filled.working + length (claimed s.opened.claims (candidates_in surfaced))) ≤ length x.working
        → (y : Outcome)
        → let more = claimed s.opened.claims (map (moved shift) (candidates_in surfaced)) in
        y.working ≡ appended x.working s.counts.filled.working more
        → y.step.state.counts.filled.working ≡ s.counts.filled.working + length more
        → Good y
    swept_good shift surfaced below room y working filled =
        let by = s.opened.claims in
        let more = claimed by (map (moved shift) (candidates_in surfaced)) in
        let long : length (g.cs ++ more) ≡ s.counts.filled.working + length more = length-append g.cs more ∙ ap (λ (n : ℕ). n + length more) (sym g.filled) in
        record {
          cs = g.cs ++ more;
          working =
              working
              ∙ ap (λ (l : List ℕ). appended l s.counts.filled.working more) g.working
              ∙ ap (λ (n : ℕ). appended (appended w 0 g.cs) n more) (g.filled ∙ sym (zero-add (length g.cs)))
              ∙ sym (appended_twice w 0 g.cs more);
          filled = filled ∙ sym long;
          room =
              rw (long, kept_moved by true shift (candidates_in surfaced))
              (rw (g.working, appended_length w 0 g.cs) at room);
          below = both_below (items styles) g.cs more g.below (keep_below (items styles) by true _ (moved_below (items styles) shift (candidates_in surfaced) below));
        }

    laid_good : (overflow : Rect Float) (surfaced : List ℕ) → AllBelow (items styles) (candidates_in surfaced)
        → candidate_width * (s.counts.filled.working + length (claimed s.opened.claims (candidates_in surfaced))) ≤ length x.working
        → Good (laid_out s overflow surfaced lent)
    unfolding laid_out
    laid_good overflow surfaced below room =
        swept_good _ surfaced below room (laid_out s overflow surfaced lent) refl (ap (λ (f : Filled). f.working) (proceeding_keeps styles _ s.opened _ _).filled)

    replied_good : (h : Heard) → Good (next styles x h)
    unfolding next measured_on asking
    replied_good h = go (reply_way s h.reply h.surfaced lent)
      where
        go : ReplyWay s h.reply h.surfaced lent → Good (replied s h.reply h.surfaced lent)
        go (ReplyWay.turned_down r e) = subst Good (sym e) (kept_good _ refl refl)
        go (measures replies v t e) = subst Good (sym e) (kept_good _ refl refl)
        go (lays_out overflow v t e) =
            let all = taken_all s h.reply h.surfaced t in
            subst Good (sym e)
            (laid_good overflow h.surfaced (rw all at (reply_below s h.reply h.surfaced lent v)) (rw all at (reply_passed s h.reply h.surfaced lent v).room.0))

    turn_good : (t : Turn) → Lends t.loan (turned styles x t).step.answer → Good (turned styles x t)
    turn_good t lends = go t.loan lends
      where
        go : (l : Loan) → Lends l (next_with styles x t.heard l).step.answer → Good (next_with styles x t.heard l)
        go own l = replied_good t.heard
        go (other slices) l =
            subst Good (sym (turn_refused styles x (record { heard = t.heard; loan = other slices }) l))
            (kept_good _ refl refl)

  turns_good : (x : Outcome) (ts : List Turn) → AllLend styles x ts → Good x → Good (foldl (turned styles) x ts)
  turns_good x [] lends g = g
  turns_good x (t ∷ ts) lends g = turns_good (turned styles x t) ts lends.1 (turn_good x g t lends.0)

-- ---- a run

module _ (o : Opening) (candidates : List ℕ) (lent : Lent) where
  begun_good : opening_verdict o candidates lent ≡ accepted → Good lent.styles lent.working (begun o candidates lent)
  unfolding begun
  begun_good v =
      let cs = claimed (claims_of o) (candidates_in candidates) in
      let p = opening_passed o candidates lent v in
      let room = p.room.0 in
      record {
        cs = cs;
        working = refl;
        filled = ap (λ (f : Filled). f.working) (proceeding_keeps lent.styles _ _ _ _).filled ∙ zero-add (length cs);
        room = rw (zero-add (length cs)) at room;
        below = keep_below (items lent.styles) (claims_of o) true (candidates_in candidates) (all_below (items lent.styles) candidates p.candidate);
      }

  opened_good : is_err (opened o candidates lent).step.answer ≡ false → Good lent.styles lent.working (opened o candidates lent)
  opened_good accepts = go (opening_way o candidates lent)
    where
      go : OpeningWay o candidates lent → Good lent.styles lent.working (opened o candidates lent)
      go (OpeningWay.turned_down r e) = no (ap refused_in e) accepts
      go (begins v e) = subst (Good lent.styles lent.working) (sym e) (begun_good v)

pub finished_is_drawn : FinishedIsDrawn
unfolding drawn draw_verdict
finished_is_drawn o candidates lent turns before accepts lends f long =
    let has = called o candidates lent turns in
    let good = records_good lent.styles lent.working has (turns_good lent.styles lent.working (opened o candidates lent) turns lends (opened_good o candidates lent accepts)) in
    rw (
      tests_passed o candidates lent turns accepts lends f good (not (eqb (length before) has.step.state.counts.filled.working)) (ap not (eq-eqb _ _ long)),
      (layers_of_a_run o candidates lent turns accepts lends).working,
    )
    refl
