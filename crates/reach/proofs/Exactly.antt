-- A box of a run is refused exactly under the first condition that holds, and answered where none does. Assumes nothing.
use Prim.Native.Nat.{ℕ}
use mathlib.Core.Bool.{Bool, true, false, cond, not}
use mathlib.Core.Logic.Iff
use mathlib.Core.Logic.{◌↔◌}
use mathlib.Core.Path.{◌≡◌, refl, sym, ap, ◌∙◌}
use lib.Dec.{leb}
use Rattle.std.specs.Prelude.{Option, Ok, Err, IsOk, Result}
use Rattle.util.proofs.Floats.{no}
use Rattle.refusal.specs.declared.Refusal.{Refusal}
use Rattle.refusal.specs.declared.Refusal.TheVariants.{NotInEighths}
use Rattle.tree.specs.declared.layout.Layout.{Layout}
use Rattle.pixels.specs.Pixels.{all_accepted}
use Rattle.run.specs.Call.{Slices}
use Rattle.run.specs.Refusals.{Verdict, accepted, refused, ◌when◌else◌}
use Rattle.run.specs.Run.{layout_at}
use Rattle.run.specs.declared.State.{State}
use Rattle.run.proofs.Decides.{is_accepted, Says, at_most, then, no_more, refused_first, accepted_none}
use Rattle.finished.specs.Finished.{finished_verdict}
use Rattle.finished.proofs.Laws.{tested_then, tested_says, after, tested_after}
use Rattle.reach.specs.declared.Offsets.{Offsets}
use Rattle.reach.specs.Reach.{least, across, down, numbers_of, pair_of, box_reached, answered_by, reached}
use Rattle.reach.specs.Conditions.{reach_tests}
use Rattle.reach.specs.Laws.{RefusedExactly, AnswerIs, AnsweredExactly}
use Rattle.reach.proofs.Numbers.{numbers_decided}

-- ---- a refusal is the verdict's

-- what is told goes by a verdict: a refusal is its refusal, and there is none where it accepts
record GoesBy (a : Result (Option Offsets) Refusal) (v : Verdict) : Type 0 where
  refusal : (r : Refusal) → (a ≡ Err r) ↔ (v ≡ refused r)
  none : IsOk a ↔ (v ≡ accepted)

goes_refused : (q : Refusal) → GoesBy (Err q) (refused q)
goes_refused q = record { refusal = λ r. (λ e. cc, λ e. cc); none = (λ z. absurd cc, λ e. absurd cc) }

goes_accepted : (answer : Option Offsets) → GoesBy (Ok answer) accepted
goes_accepted answer = record { refusal = λ r. (λ e. absurd cc, λ e. absurd cc); none = (λ z. refl, λ e. refl) }

-- the part's own test
abbrev own_verdict : State → Layout → Verdict
own_verdict s box = NotInEighths when not (all_accepted (numbers_of s.opened.container.area s.overflow box)) else accepted

box_goes : (s : State) (box : Layout) → GoesBy (box_reached s.opened.container s.overflow box) (own_verdict s box)
unfolding box_reached ◌when◌else◌
box_goes s box =
    go (all_accepted (numbers_of s.opened.container.area s.overflow box)) (pair_of (least (across s.opened.container s.overflow box)) (least (down s.opened.container s.overflow box)))
  where
    go : (b : Bool) (answer : Option Offsets) → GoesBy (cond b (Ok answer) (Err NotInEighths)) (cond (not b) (refused NotInEighths) accepted)
    go false answer = goes_refused NotInEighths
    go true answer = goes_accepted answer

goes_after : (v w : Verdict) (a : Result (Option Offsets) Refusal) → GoesBy a w → GoesBy (answered_by v a) (after v w)
goes_after (Ok tt) w a g = g
goes_after (Err r) w a g = goes_refused r

module _ (place : ℕ) (s : State) (lent : Slices) where
  abbrev box : Layout
  box = layout_at lent.layouts lent.working place

  abbrev no_box : Bool
  no_box = leb s.counts.filled.working place

  reached_goes : GoesBy (reached place s lent) (tested_then s lent no_box (own_verdict s box))
  unfolding reached
  reached_goes =
      rw (sym (tested_after s lent no_box (own_verdict s box)))
      (goes_after (finished_verdict s lent no_box) (own_verdict s box) (box_reached s.opened.container s.overflow box) (box_goes s box))

  reach_says : Says (tested_then s lent no_box (own_verdict s box)) (reach_tests place s lent)
  reach_says =
      tested_says s lent (at_most s.counts.filled.working place)
      (then NotInEighths (numbers_decided s.opened.container.area s.overflow box) (λ _. no_more))

pub refused_exactly : RefusedExactly
refused_exactly place s lent r = Iff.trans ((reached_goes place s lent).refusal r) (refused_first r (reach_says place s lent))

pub answered_exactly : AnsweredExactly
answered_exactly place s lent = Iff.trans (reached_goes place s lent).none (accepted_none (reach_says place s lent))

-- what is accepted before and after is answered as it is
answer_after : (v w : Verdict) (a : Result (Option Offsets) Refusal) → after v w ≡ accepted → answered_by v a ≡ a
answer_after (Ok tt) w a e = refl
answer_after (Err r) w a e = no {b = true} refl (ap is_accepted (sym e))

pub answer_is : AnswerIs
unfolding reached
answer_is place s lent n =
    answer_after (finished_verdict s lent (no_box place s lent)) (own_verdict s (box place s lent)) (box_reached s.opened.container s.overflow (box place s lent))
    (tested_after s lent (no_box place s lent) (own_verdict s (box place s lent)) ∙ (accepted_none (reach_says place s lent)).1 n)
