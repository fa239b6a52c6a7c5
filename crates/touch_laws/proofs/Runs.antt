-- What a finished run gives the touch driver, and one of whole quarter pixels; two whose boxes stand alike give the same. Assumes
-- nothing.
use Prim.Native.Nat.{ℕ}
use mathlib.Core.Bool.{true, false}
use mathlib.Core.List.{List, []}
use mathlib.Core.Logic.{inl, inr, ◌⊎◌}
use mathlib.Core.Path.{◌≡◌, refl, ap}
use lib.ListN.{replicate}
use borrow.Author.Tests.{eq-eqb}
use Rattle.std.proofs.lemmas.List.{length-replicate}
use Rattle.std.specs.Prelude.{None, is_err}
use Rattle.oof_resolve.specs.declared.ContainingBlock.{ContainingBlock}
use Rattle.util.proofs.Floats.{no}
use Rattle.run.specs.declared.Opening.{Opening}
use Rattle.run.specs.declared.State.{State}
use Rattle.run.specs.Call.{Slices, Lent, Outcome}
use Rattle.run.specs.Call as call
use Rattle.run.specs.Conditions.{SlicesAreBad, NoneHolds}
use Rattle.run.specs.Refusals.{accepted}
use Rattle.run.specs.Run.{opened}
use Rattle.run.specs.Theorems.{Turn, AllLend, called}
use Rattle.finished.specs.Finished.{finished_verdict}
use Rattle.finished.specs.Conditions.{SlicesDiffer, finished_tests}
use Rattle.finished.proofs.Laws as finished
use Rattle.reach.proofs.Exactly as reach
use Rattle.reach_laws.proofs.Answered.{container_stays, quarters_are_answered}
use Rattle.drawing.specs.Drawing.{Drawn}
use Rattle.drawing.specs.Conditions.{OtherLength as OtherOrder}
use Rattle.drawing.proofs.Exactly as drawing
use Rattle.drawing_laws.proofs.Finished.{finished_is_drawn}
use Rattle.touch.specs.Touch.{touched}
use Rattle.touch.specs.Conditions.{OtherLength, SomeNotInEighths}
use Rattle.touch.specs.Laws.{CanBeRead}
use Rattle.touch.proofs.Exactly as touch
use Rattle.touch.proofs.Alike.{only_location_and_size_are_seen}
use Rattle.touch_laws.specs.Laws.{FinishedIsTouched, QuartersAreTouched, RunsAreSeenAlike}

-- ---- a finished run passes the tests before 9

module _ (o : Opening) (candidates : List ℕ) (lent : Lent) (turns : List Turn) where
  abbrev has : Outcome
  has = called o candidates lent turns

  abbrev s : State
  s = has.step.state

  abbrev left : Slices
  left = call.slices lent.styles has.layouts has.working has.unclaimed

  module _ (accepts : is_err (opened o candidates lent).step.answer ≡ false) (lends : AllLend lent.styles (opened o candidates lent) turns) (f : s.progress ≡ None) where
    -- since it is drawn; `Other` being what the part itself calls a bad extent
    passes : (Other : Type 0) → ¬ Other → NoneHolds (finished_tests s left Other [])
    passes Other none = (slices_fine, tests.1)
      where
        order : List ℕ
        order = replicate s.counts.filled.working 0

        tests : NoneHolds (finished_tests s left (OtherOrder order s) [])
        tests = (drawing.accepted_exactly s left order).0 (ap (λ (d : Drawn). d.verdict) (finished_is_drawn o candidates lent turns order accepts lends f (length-replicate _ 0)))

        slices_fine : ¬ (SlicesAreBad left ⊎ SlicesDiffer s left ⊎ Other)
        slices_fine (inl b) = tests.0 (inl b)
        slices_fine (inr (inl d)) = tests.0 (inr (inl d))
        slices_fine (inr (inr e)) = none e

    can_be_read : CanBeRead s left
    can_be_read = passes ⊥ (λ e. e)

    verdict_accepted : finished_verdict s left false ≡ accepted
    verdict_accepted = (finished.accepted_exactly s left false).1 (passes (false ≡ true) (λ e. no e refl))

    -- in an area at the opening's offset
    offset_stays : s.opened.container.area.offset ≡ o.area.offset
    offset_stays = ap (λ (c : ContainingBlock). c.area.offset) (container_stays o candidates lent turns accepts)

pub finished_is_touched : FinishedIsTouched
unfolding touched
finished_is_touched o candidates lent turns before accepts lends f long =
    rw (eq-eqb _ _ long, verdict_accepted o candidates lent turns accepts lends f, offset_stays o candidates lent turns accepts lends f) refl

-- ---- whole quarter pixels

-- each of its boxes has a verdict of `reach`, which tests the same numbers for 9, and more
pub quarters_are_touched : QuartersAreTouched
quarters_are_touched o candidates lent turns before area table quarter accepts lends heard f long =
    let tests = passes o candidates lent turns accepts lends f (OtherLength (s o candidates lent turns) before) (λ other. other long) in
    (touch.accepted_exactly (s o candidates lent turns) (left o candidates lent turns) before).1 (tests.0, (tests.1.0, (tests.1.1.0, (nine, tt))))
  where
    nine : ¬ SomeNotInEighths (s o candidates lent turns) (left o candidates lent turns)
    nine (place, filled, bad) =
        let verdict = quarters_are_answered o candidates lent turns place area table quarter accepts lends heard f filled in
        ((reach.answered_exactly place (s o candidates lent turns) (left o candidates lent turns)).0 verdict).1.1.1.0 (inl bad)

-- ---- two runs

pub runs_are_seen_alike : RunsAreSeenAlike
runs_are_seen_alike o o' candidates candidates' lent lent' turns turns' before before' accepts accepts' lends lends' f f' alike long =
    only_location_and_size_are_seen (s o candidates lent turns) (s o' candidates' lent' turns') (left o candidates lent turns) (left o' candidates' lent' turns') before before'
    (can_be_read o candidates lent turns accepts lends f) (can_be_read o' candidates' lent' turns' accepts' lends' f') long
    (rw (offset_stays o candidates lent turns accepts lends f, offset_stays o' candidates' lent' turns' accepts' lends' f') alike.offset)
    alike.nodes alike.boxes
