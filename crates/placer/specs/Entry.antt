-- What the steps of a call ask of one another, and `compute_oof_layout`'s own part (document 01, "The dialogue"). The entries' promises
-- are `opened` and `replied` of run/specs/Run.antt. Assumes nothing.
use Rattle.std.specs.Prelude.{ℕ, ◌+◌, ◌*◌, ◌-◌, ◌≤◌, ◌<◌, Bool, cond, not, ◌&&◌, List, ◌≡◌, eqb, length, get_or, Option, is_some, Result, Ok, Err, Float}
use Rattle.geometry.specs.Geometry.{union_of}
use Rattle.geometry.specs.declared.Rect.{Rect}
use Rattle.refusal.specs.declared.Refusal.{Refusal}
use Rattle.tree.specs.declared.layout.OofPositioningArea.{OofPositioningArea}
use Rattle.records.specs.Records.{record_at}
use Rattle.tree_record.specs.Candidate.{candidate_width, candidate_of}
use Rattle.style_record.specs.Record.{style_words}
use Rattle.oof_box.specs.declared.question.Reply.{Reply}
use Rattle.run.specs.Call.{Lent}
use Rattle.run.specs.Refusals.{accepted, lent_by, list_full}
use Rattle.run.specs.Run.{claims_of, none_filled, opening_verdict, reply_verdict, proceeding}
use Rattle.run.specs.declared.Opening.{Opening}
use Rattle.run.specs.declared.State.{State}
use Rattle.run.specs.declared.Step.{Step}
use Rattle.placer_check.specs.Verdict.{then_room}

-- the last of the boxes begun has its record in the working list, and its node's style in the table
pub record AtHand (styles working : List ℕ) (begun : ℕ) : Type 0 where
  pub first : 1 ≤ begun
  pub listed : candidate_width * (begun - 1) + candidate_width ≤ length working
  pub styled : style_words * (candidate_of (record_at candidate_width working (begun - 1))).node + style_words ≤ length styles

-- an item has a word of the tally, and one more fits
abbrev pub OneMoreFits : List ℕ → ℕ → Type 0
OneMoreFits tally node = (node < length tally) × (get_or tally node 0 < 4294967295)

-- no test before that of room turns the call down
abbrev pub OpeningCleared : Opening → List ℕ → Lent → Type 0
OpeningCleared o candidates lent = opening_verdict o candidates lent ≡ then_room accepted (list_full (claims_of o) lent none_filled candidates)

abbrev pub ReplyCleared : State → Reply → List ℕ → Lent → Type 0
ReplyCleared s reply surfaced lent =
    reply_verdict s reply surfaced lent ≡ then_room accepted (list_full s.opened.claims lent s.counts.filled (lent_by reply surfaced))

-- a box is settled: the next state proceeds; or the call is refused
abbrev pub proceeds : State → List ℕ → List ℕ → Result State Refusal → Step
proceeds s styles working (Ok next) = proceeding styles working next.opened next.counts next.overflow
proceeds s styles working (Err r) = record { state = s; answer = Err r }

-- what a call returns: its step; or, where it is refused, the state that it then returns, and why
abbrev pub step_by : State → Result Step Refusal → Step
step_by s (Ok step) = step
step_by s (Err r) = record { state = s; answer = Err r }

-- ---- `compute_oof_layout`'s own part

-- there is an area, and there are candidates
abbrev pub pass_needed : Option OofPositioningArea → List ℕ → Bool
pass_needed area candidates = is_some area && not (eqb (length candidates) 0)

-- the caller's overflow rectangle, joined with that of the finish
abbrev pub overflow_after : Option OofPositioningArea → List ℕ → Rect Float → Rect Float → Rect Float
overflow_after area candidates overflow finish = cond (pass_needed area candidates) (union_of overflow finish) overflow
