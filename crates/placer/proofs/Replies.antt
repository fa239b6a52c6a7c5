-- A reply, by the ways that the code goes. Assumes nothing.
use Rattle.std.specs.Prelude.{None, Some, is_none, Option, Ok, Err, Float}
use Prim.Native.Nat.{ℕ, ◌+◌, ◌*◌, ◌<◌}
use mathlib.Core.Bool.{true, false}
use mathlib.Core.List.{List, [], map}
use mathlib.Core.Path.{◌≡◌, refl, sym, ap, ◌∙◌}
use Rattle.util.proofs.Floats.{no}
use Rattle.geometry.specs.Geometry.{union_of}
use Rattle.geometry.specs.declared.Point.{Point}
use Rattle.geometry.specs.declared.Rect.{Rect}
use Rattle.refusal.specs.declared.Refusal.{Refusal}
use Rattle.records.specs.Records.{written}
use Rattle.style_record.specs.Decode.{style_at}
use Rattle.tree_record.specs.Layout.{layout_width, layout_words}
use Rattle.sweep.specs.declared.Filled.{Filled}
use Rattle.sweep.specs.Sweep as sweep
use Rattle.sweep.specs.Sweep.{candidates_in, moved, swept}
use Rattle.sweep.proofs.Steps.{kept_moved}
use Rattle.oof_box.specs.Cut.{layout_after}
use Rattle.oof_place.specs.declared.OofBoxLayout.{OofBoxLayout}
use Rattle.oof_box.specs.declared.question.Replies.{Replies}
use Rattle.oof_box.specs.declared.question.Reply.{Reply}
use Rattle.oof_box.specs.declared.question.Reply.TheVariants.{Both, Width, Height, LaidOut}
use Rattle.oof_box.specs.declared.question.Taken.TheVariants.{Kept, Laid}
use Rattle.run.specs.declared.State.{State}
use Rattle.run.specs.declared.Step.{Step}
use Rattle.run.specs.Call.{Lent, Outcome, outcome}
use Rattle.run.proofs.Call.{outcome_is}
use Rattle.run.proofs.Ways.{counted, laid_is, never_kept}
use Rattle.run.specs.Refusals.{accepted, ◌when◌else◌, refused, lent_by, list_full}
use Rattle.run.specs.Run.{box_at_hand, charged, asking, proceeding, taken_by, reply_verdict, measured_on, laid_out, replied_by, replied}
use Rattle.placer_check.specs.Verdict.{then_room}
use Rattle.placer.specs.Entry.{AtHand, ReplyCleared}
use Rattle.placer.proofs.Sweeps.{was_full, had_room, next_at_hand}
use Rattle.placer.proofs.Calls.{Passed, reply_passed, none_full}

-- ---- the box is laid out

module _ (s : State) (overflow : Rect Float) (surfaced : List ℕ) (l : Lent) where
  abbrev pub placing : OofBoxLayout
  placing = layout_after s.opened.container (style_at l.styles (box_at_hand l.working s.counts).node) (box_at_hand l.working s.counts) s.replies overflow

  abbrev pub shift : Option (Point Float)
  shift = Some placing.layout.location

  abbrev pub sweeping : sweep.Outcome
  sweeping = swept s.opened.claims (map (moved shift) (candidates_in surfaced)) l.working l.unclaimed s.counts.filled

  abbrev pub settled : Outcome
  settled = replied_by (then_room accepted (list_full s.opened.claims l s.counts.filled surfaced)) (Some (Laid overflow)) s surfaced l

  pub no_room : (r : Refusal) (step : Step) (w u : List ℕ) → sweep.Leaves (Err r) w u sweeping
      → step ≡ record { state = s; answer = Err r }
      → outcome step l.layouts w u l.tally ≡ settled
  unfolding ◌when◌else◌
  no_room r step w u h e =
      let f = was_full s.opened.claims shift surfaced l s.counts.filled r w u h in
      rw f.0 (outcome_is (e ∙ rw f.1 refl) refl f.2 f.3 refl)

  -- the next box has its record and its style
  pub next_box : (after : Filled) (w u : List ℕ) → Passed s (LaidOut overflow) surfaced l → sweep.Leaves (Ok after) w u sweeping
      → s.counts.begun < after.working
      → AtHand l.styles w (s.counts.begun + 1)
  next_box after w u p h more =
      let f = had_room s.opened.claims shift surfaced l s.counts.filled after w u h in
      rw f.2
      (next_at_hand s.opened.claims shift surfaced l s.counts.filled l.styles p.listed p.brought f.0 s.counts.begun
      (rw (sym (ap (λ (x : Filled). x.working) f.1)) more))

  pub placed : (after : Filled) (step : Step) (layouts w u t : List ℕ) → sweep.Leaves (Ok after) w u sweeping
      → layouts ≡ written l.layouts (layout_width * (box_at_hand l.working s.counts).node) (layout_words placing.layout)
      → step ≡ proceeding l.styles w s.opened (record { filled = after; begun = s.counts.begun; answered = s.counts.answered + 1 }) (union_of s.overflow placing.contribution)
      → t ≡ charged l.tally (box_at_hand l.working s.counts).node
      → outcome step layouts w u t ≡ settled
  unfolding ◌when◌else◌ laid_out
  placed after step layouts w u t h p e one =
      let f = had_room s.opened.claims shift surfaced l s.counts.filled after w u h in
      rw f.0
      (outcome_is (e ∙ rw (f.2, f.1, sym (kept_moved s.opened.claims true shift (candidates_in surfaced)), sym (kept_moved s.opened.claims false shift (candidates_in surfaced))) refl) p f.2 f.3 one)

-- ---- a measured size lends no candidates

pub kept_lends_none : (s : State) (reply : Reply) (replies : Replies) (surfaced : List ℕ) → taken_by s reply ≡ Some (Kept replies) → lent_by reply surfaced ≡ []
kept_lends_none s (Both size) replies surfaced e = refl
kept_lends_none s (Width width) replies surfaced e = refl
kept_lends_none s (Height height) replies surfaced e = refl
kept_lends_none s (LaidOut overflow) replies surfaced e = never_kept s overflow e

-- ---- the entry

module _ (s : State) (reply : Reply) (surfaced : List ℕ) (l : Lent) where
  pub turned_down : (r : Refusal) (step : Step) → reply_verdict s reply surfaced l ≡ refused r
      → step ≡ record { state = s; answer = Err r }
      → outcome step l.layouts l.working l.unclaimed l.tally ≡ replied s reply surfaced l
  unfolding replied
  turned_down r step e p = rw e (outcome_is p refl refl refl refl)

  -- a reply that no test turned down was not wrong
  pub not_wrong : {A : Type 0} → ReplyCleared s reply surfaced l → taken_by s reply ≡ None → A
  not_wrong e t = no (ap is_none t) (reply_passed s reply surfaced l e).taken

  pub kept : (replies : Replies) (step : Step) (t : List ℕ) → ReplyCleared s reply surfaced l → taken_by s reply ≡ Some (Kept replies)
      → step ≡ asking l.styles l.working s.opened (record { filled = s.counts.filled; begun = s.counts.begun; answered = s.counts.answered + 1 }) s.overflow replies
      → t ≡ charged l.tally (box_at_hand l.working s.counts).node
      → outcome step l.layouts l.working l.unclaimed t ≡ replied s reply surfaced l
  unfolding replied measured_on ◌when◌else◌
  kept replies step tally e t p one =
      let n = counted l s.counts (reply_passed s reply surfaced l e).counts in
      rw (e, t, kept_lends_none s reply replies surfaced t, none_full s.opened.claims l s.counts n)
      (outcome_is p refl refl refl one)

  pub cleared_laid : (overflow : Rect Float) → ReplyCleared s reply surfaced l → taken_by s reply ≡ Some (Laid overflow) → ReplyCleared s (LaidOut overflow) surfaced l
  cleared_laid overflow e t = rw (laid_is s reply overflow t) at e

  pub laid : (overflow : Rect Float) (step : Step) (layouts w u t : List ℕ) → ReplyCleared s reply surfaced l → taken_by s reply ≡ Some (Laid overflow)
      → outcome step layouts w u t ≡ settled s overflow surfaced l
      → outcome step layouts w u t ≡ replied s reply surfaced l
  unfolding replied
  laid overflow step layouts w u tally e t h = rw (e, t, ap (λ (r : Reply). lent_by r surfaced) (laid_is s reply overflow t)) h
