-- The run: what any call does, with any words, any lengths and any state (document 01, "The dialogue"). Read `opened` and `replied`, the
-- last of each part, first. Assumes nothing.
use Rattle.std.specs.Prelude.{ℕ, ◌+◌, ◌-◌, ◌*◌, false, cond, ◌||◌, List, map, ltb, length, get_or, set, replicate, None, Some, is_none, Option, Ok, Err, Float}
use Rattle.geometry.specs.Geometry.{union_of, zero_rect, zero_size, zero_point}
use Rattle.geometry.specs.declared.Rect.{Rect}
use Rattle.refusal.specs.declared.Refusal.{Refusal}
use Rattle.refusal.specs.declared.Refusal.TheVariants.{BadArea, BadExtent, BadStyle, BadCandidate, ListFull, WrongReply}
use Rattle.style.specs.Codes.{direction_of, overflow_of, claims_in}
use Rattle.style.specs.declared.Direction.TheVariants.{Ltr}
use Rattle.style.specs.declared.Overflow.TheVariants.{Visible}
use Rattle.style.specs.declared.ContainingBlockClaims.{ContainingBlockClaims}
use Rattle.tree.specs.declared.layout.Layout.{Layout}
use Rattle.tree.specs.declared.layout.OofCandidate.{OofCandidate}
use Rattle.records.specs.Records.{record_at, written}
use Rattle.tree_record.specs.Candidate.{candidate_width, candidate_of}
use Rattle.tree_record.specs.Layout.{layout_width, layout_of, layout_words}
use Rattle.style_record.specs.Decode.{style_at}
use Rattle.sweep.specs.Sweep.{candidates_in, moved, swept_into}
use Rattle.sweep.specs.declared.Filled.{Filled}
use Rattle.oof_resolve.specs.declared.ContainingBlock.{ContainingBlock}
use Rattle.oof_box.specs.declared.question.Stage.{Stage}
use Rattle.oof_box.specs.Cut.{no_replies, asked_after, layout_after, taken}
use Rattle.oof_box.specs.declared.question.Reply.{Reply}
use Rattle.oof_box.specs.declared.question.Replies.{Replies}
use Rattle.oof_box.specs.declared.question.Taken.{Taken}
use Rattle.oof_box.specs.declared.question.Taken.TheVariants.{Kept, Laid}
use Rattle.run.specs.declared.Opening.{Opening}
use Rattle.run.specs.declared.Counts.{Counts}
use Rattle.run.specs.declared.Extents.{Extents}
use Rattle.run.specs.declared.Opened.{Opened}
use Rattle.run.specs.declared.State.{State}
use Rattle.run.specs.declared.Answer.TheVariants.{Ask, Finish}
use Rattle.run.specs.declared.Step.{Step}
use Rattle.run.specs.Call.{Slices, Lent, Outcome, slices_of, unwritten}
use Rattle.run.specs.Refusals.{Verdict, accepted, ◌when◌else◌, bad_area, bad_at_opening, bad_at_reply, bad_style, bad_candidate, bad_candidates, list_full, wrong_counts, lent_by}

-- ---- from one question to the next

-- the layout of the box whose record stands at a place of the working list, from 0: the one at its node's place
abbrev pub layout_at : List ℕ → List ℕ → ℕ → Layout
layout_at layouts working place =
    layout_of (record_at layout_width layouts (candidate_of (record_at candidate_width working place)).node)

-- the box at hand is the last one begun, as its record says now
unfoldable pub box_at_hand : List ℕ → Counts → OofCandidate
box_at_hand working counts = candidate_of (record_at candidate_width working (counts.begun - 1))

-- its question, by the words as they are and by the replies kept
unfoldable pub asking : List ℕ → List ℕ → Opened → Counts → Rect Float → Replies → Step
asking styles working run counts overflow replies =
    let box = box_at_hand working counts in
    let next = asked_after run.container (style_at styles box.node) box replies in
    record {
      state = record { progress = Some next.stage; replies = replies; counts = counts; overflow = overflow; opened = run };
      answer = Ok (Ask next.question);
    }

unfoldable pub finishing : Opened → Counts → Rect Float → Step
finishing run counts overflow =
    record {
      state = record { progress = None; replies = no_replies; counts = counts; overflow = overflow; opened = run };
      answer = Ok (Finish (record { overflow = overflow; count = counts.answered }));
    }

-- the next box of the working list, from the front; or the finish
unfoldable pub proceeding : List ℕ → List ℕ → Opened → Counts → Rect Float → Step
proceeding styles working run counts overflow =
    cond (ltb counts.begun counts.filled.working)
    (asking styles working run (record { filled = counts.filled; begun = counts.begun + 1; answered = counts.answered }) overflow no_replies)
    (finishing run counts overflow)

-- ---- an opening

abbrev pub claims_of : Opening → ContainingBlockClaims
claims_of o = claims_in o.claims

abbrev pub container_of : Opening → ContainingBlock
container_of o =
    record {
      area = o.area;
      direction = direction_of o.direction;
      overflow = record { x = overflow_of o.overflowx; y = overflow_of o.overflowy };
    }

-- the lengths of four slices, beside a tally of so many words
abbrev pub extents_beside : ℕ → Slices → Extents
extents_beside tally slices =
    record {
      styles = length slices.styles;
      layouts = length slices.layouts;
      working = length slices.working;
      unclaimed = length slices.unclaimed;
      tally = tally;
    }

abbrev pub extents_of : Lent → Extents
extents_of lent = extents_beside (length lent.tally) (slices_of lent)

abbrev pub none_filled : Filled
none_filled = record { working = 0; unclaimed = 0 }

-- tests 1, 2, 3, 4, 5
unfoldable pub opening_verdict : Opening → List ℕ → Lent → Verdict
opening_verdict o candidates lent =
    BadArea when bad_area o else
    BadExtent when bad_at_opening candidates lent else
    BadStyle when bad_style lent.styles else
    BadCandidate when bad_candidates lent.styles candidates else
    ListFull when list_full (claims_of o) lent none_filled candidates else
    accepted

-- the state of a finished run with all counts 0, and the lengths as lent
unfoldable pub closed : Lent → State
closed lent =
    record {
      progress = None;
      replies = no_replies;
      counts = record { filled = none_filled; begun = 0; answered = 0 };
      overflow = zero_rect;
      opened =
          record {
            container = record { area = record { size = zero_size; offset = zero_point }; direction = Ltr; overflow = record { x = Visible; y = Visible } };
            claims = record { absolute = false; fixed = false };
            extents = extents_of lent;
          };
    }

-- the candidates swept into both lists and the tally cleared, then the first box; without one, a finish with zeros
unfoldable pub begun : Opening → List ℕ → Lent → Outcome
begun o candidates lent =
    let after = swept_into (claims_of o) (candidates_in candidates) lent.working lent.unclaimed none_filled in
    let run : Opened = record { container = container_of o; claims = claims_of o; extents = extents_of lent } in
    let counts : Counts = record { filled = after.filled; begun = 0; answered = 0 } in
    record {
      step = proceeding lent.styles after.working run counts zero_rect;
      layouts = lent.layouts;
      working = after.working;
      unclaimed = after.unclaimed;
      tally = replicate (length lent.tally) 0;
    }

-- a refused opening returns that state
abbrev pub refusing_opening : Lent → Refusal → Outcome
refusing_opening lent r = unwritten lent (record { state = closed lent; answer = Err r })

abbrev pub opened_by : Verdict → Opening → List ℕ → Lent → Outcome
opened_by (Ok tt) o candidates lent = begun o candidates lent
opened_by (Err r) o candidates lent = refusing_opening lent r

unfoldable pub opened : Opening → List ℕ → Lent → Outcome
opened o candidates lent = opened_by (opening_verdict o candidates lent) o candidates lent

-- ---- a reply

abbrev pub taken_in : Option Stage → Replies → Reply → Option Taken
taken_in None replies reply = None
taken_in (Some stage) replies reply = taken replies stage reply

-- a reply to the open question: kept, or the box is laid out; one that isn't asked for, or of another kind, comes to nothing
unfoldable pub taken_by : State → Reply → Option Taken
taken_by s reply = taken_in s.progress s.replies reply

-- tests 2, 6, 3, 4, 5
unfoldable pub reply_verdict : State → Reply → List ℕ → Lent → Verdict
reply_verdict s reply surfaced lent =
    BadExtent when bad_at_reply s.opened.extents (lent_by reply surfaced) lent else
    WrongReply when (is_none (taken_by s reply) || wrong_counts lent s.counts) else
    BadStyle when bad_style lent.styles else
    BadCandidate when (bad_candidate lent.styles lent.working s.counts.filled.working || bad_candidates lent.styles (lent_by reply surfaced)) else
    ListFull when list_full s.opened.claims lent s.counts.filled (lent_by reply surfaced) else
    accepted

-- request #107: one more question is answered for this item
unfoldable pub charged : List ℕ → ℕ → List ℕ
charged tally node = set tally node (get_or tally node 0 + 1)

-- a size was replied: its item's count goes up, and the box goes on
unfoldable pub measured_on : State → Replies → Lent → Outcome
measured_on s replies lent =
    record {
      step = asking lent.styles lent.working s.opened (record { filled = s.counts.filled; begun = s.counts.begun; answered = s.counts.answered + 1 }) s.overflow replies;
      layouts = lent.layouts;
      working = lent.working;
      unclaimed = lent.unclaimed;
      tally = charged lent.tally (box_at_hand lent.working s.counts).node;
    }

-- the box is laid out: its layout is written at its node's place, and its item's count goes up; what it surfaced is shifted by its location
-- and swept to the rear; its contribution is joined; then the next box
unfoldable pub laid_out : State → Rect Float → List ℕ → Lent → Outcome
laid_out s overflow surfaced lent =
    let run = s.opened in
    let box = box_at_hand lent.working s.counts in
    let placed = layout_after run.container (style_at lent.styles box.node) box s.replies overflow in
    let cs = map (moved (Some placed.layout.location)) (candidates_in surfaced) in
    let after = swept_into run.claims cs lent.working lent.unclaimed s.counts.filled in
    let counts : Counts =
    record {
      filled = after.filled;
      begun = s.counts.begun;
      answered = s.counts.answered + 1;
    } in
    record {
      step = proceeding lent.styles after.working run counts (union_of s.overflow placed.contribution);
      layouts = written lent.layouts (layout_width * box.node) (layout_words placed.layout);
      working = after.working;
      unclaimed = after.unclaimed;
      tally = charged lent.tally box.node;
    }

-- a refused reply returns the state as it came
abbrev pub refusing : State → Lent → Refusal → Outcome
refusing s lent r = unwritten lent (record { state = s; answer = Err r })

abbrev pub replied_by : Verdict → Option Taken → State → List ℕ → Lent → Outcome
replied_by (Err r) t s surfaced lent = refusing s lent r
replied_by (Ok tt) None s surfaced lent = refusing s lent WrongReply
replied_by (Ok tt) (Some (Kept replies)) s surfaced lent = measured_on s replies lent
replied_by (Ok tt) (Some (Laid overflow)) s surfaced lent = laid_out s overflow surfaced lent

unfoldable pub replied : State → Reply → List ℕ → Lent → Outcome
replied s reply surfaced lent = replied_by (reply_verdict s reply surfaced lent) (taken_by s reply) s surfaced lent
