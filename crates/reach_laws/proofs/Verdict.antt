-- A run and its mirror image are told the same of every place. Assumes nothing.
use Prim.Native.Nat.{ℕ, ◌<◌}
use mathlib.Core.Bool.{Bool, true, false}
use mathlib.Core.Path.{◌≡◌, refl, sym, ap, ◌∙◌}
use lib.Dec.{leb, lit≤}
use Rattle.std.specs.Prelude.{Ok, Err, Option, Result, Some, None, is_some, Float}
use Rattle.refusal.specs.declared.Refusal.{Refusal}
use Rattle.reach.specs.declared.Offsets.{Offsets}
use Rattle.util.proofs.Floats.{no}
use Rattle.geometry.specs.declared.Rect.{Rect}
use Rattle.tree.specs.declared.layout.Layout.{Layout}
use Rattle.oof_resolve.specs.declared.ContainingBlock.{ContainingBlock}
use Rattle.pixels.specs.Accepted.{accepted, in_eighths}
use Rattle.pixels.specs.Pixels.{all_accepted}
use Rattle.oof_box.specs.declared.question.Stage.{Stage}
use Rattle.run.specs.declared.Extents.{Extents}
use Rattle.run.specs.declared.State.{State}
use Rattle.run.specs.Call.{Slices, Outcome, slices_of}
use Rattle.run.specs.Refusals as test
use Rattle.run.specs.Refusals.{Verdict, above_lists}
use Rattle.run.specs.Run.{extents_of}
use Rattle.std.proofs.lemmas.Bool.{or_parts}
use Rattle.run.proofs.Ways.{passed}
use Rattle.util_exact.proofs.Exact.{eighths}
use Rattle.util_exact.proofs.Quarters.{quarters_exact}
use Rattle.mirror_box.specs.Image.{image_container}
use Rattle.mirror_box.specs.Mirrored.{MirroredLayout, SameRect}
use Rattle.mirror_run.specs.Image.{image_styles}
use Rattle.mirror_run.specs.Quarter.{AreaInQuarters}
use Rattle.mirror_run.specs.Runs.{layout_of_box}
use Rattle.mirror_run.proofs.Linked.{Frame, Shared, Own, state_of, lent_of, Links, Linked, linked}
use Rattle.mirror_run.proofs.Verdicts.{same_slices, same_others}
use Rattle.pixels_laws.proofs.Accepted.{exact_accepted}
use Rattle.pixels_laws.proofs.Box.{LayoutIn}
use Rattle.finished.specs.Finished.{finished_verdict}
use Rattle.finished.proofs.There.{box_is_filled}
use Rattle.reach.specs.Reach.{numbers_of, answered_by, box_reached, reached}
use Rattle.reach_laws.specs.Laws.{told_of}
use Rattle.reach_laws.proofs.Box.{across_alike, down_alike, reached_alike}
use Rattle.reach_laws.proofs.Eighths.{equal_alike, sum_in_eighths, image_accepted_lem}

-- ---- a box of a run and its image

module _ (c : ContainingBlock) (area : AreaInQuarters c.area) (r r' : Rect Float) (same : SameRect r r') (l l' : Layout) (m : MirroredLayout c.area l l') (h : LayoutIn l) where
  x_accepted : accepted l.location.x ≡ true
  x_accepted = exact_accepted (lit≤ tt) h.x.1

  x'_accepted : accepted l'.location.x ≡ true
  x'_accepted =
      image_accepted_lem c.area l.location.x l'.location.x l.size.width m.x h.x.1 (eighths h.size.width.l) (eighths (quarters_exact area.x))
      (eighths (quarters_exact area.width))

  numbers_alike : all_accepted (numbers_of c.area r l) ≡ all_accepted (numbers_of (image_container c).area r' l')
  unfolding all_accepted image_container
  numbers_alike =
      rw (
        x_accepted,
        x'_accepted,
        ap accepted m.y,
        (equal_alike l.size.width l'.size.width m.size.width).0,
        ap accepted m.size.height,
        (equal_alike r.left r'.left same.left).0,
        (equal_alike r.right r'.right same.right).0,
        ap accepted same.top,
        ap accepted same.bottom,
      )
      refl

  pub box_alike : box_reached c r l ≡ box_reached (image_container c) r' l'
  box_alike =
      reached_alike c (image_container c) r r' l l' numbers_alike
      (across_alike c r r' l l'
      (sum_in_eighths c.area l.location.x l'.location.x l.size.width m.x x_accepted x'_accepted (exact_accepted (lit≤ tt) (eighths h.size.width.l))
      (exact_accepted (lit≤ tt) (eighths (quarters_exact area.x))) (exact_accepted (lit≤ tt) (eighths (quarters_exact area.width))))
      (equal_alike l.size.width l'.size.width m.size.width).1 (equal_alike r.right r'.right same.right).1)
      (down_alike c r r' l l' (ap in_eighths m.y) (ap in_eighths m.size.height) (ap in_eighths same.bottom))

-- ---- the tests of a finished run

answered_alike : (v v' : Verdict) (b b' : Result (Option Offsets) Refusal) → v ≡ v' → (v ≡ test.accepted → b ≡ b') → answered_by v b ≡ answered_by v' b'
answered_alike v v' b b' e f = go v refl ∙ ap (λ (v : Verdict). answered_by v b') e
  where
    go : (u : Verdict) → v ≡ u → answered_by u b ≡ answered_by u b'
    go (Ok tt) e = f e
    go (Err r) e = refl

-- an accepted one is finished
finished_is : (s : State) (l : Slices) (other : Bool) → finished_verdict s l other ≡ test.accepted → s.progress ≡ None
unfolding finished_verdict
finished_is s l other e =
    let a = passed _ _ _ e in
    let b = passed _ _ _ a.1 in
    shut s.progress (or_parts (is_some s.progress) (above_lists l.working l.unclaimed s.counts.filled) b.0).0
  where
    shut : (p : Option Stage) → is_some p ≡ false → p ≡ None
    shut None e = refl
    shut (Some stage) e = no {b = true} refl e

module _ (f : Frame) (s : Shared) (p p' : Own) (links : Links f s p p') where
  abbrev here : Slices
  here = slices_of (lent_of f.styles p)

  abbrev there : Slices
  there = slices_of (lent_of (image_styles f.styles) p')

  long : extents_of (lent_of f.styles p) ≡ extents_of (lent_of (image_styles f.styles) p')
  long = links.lists.lengths ∙ sym links.lists.lengths'

  pub verdict_alike : (other : Bool) → finished_verdict (state_of f s p) here other ≡ finished_verdict (state_of f s p') there other
  unfolding finished_verdict
  verdict_alike other =
      rw (
        same_slices (lent_of f.styles p) (lent_of (image_styles f.styles) p') long,
        same_others (lent_of f.styles p) (lent_of (image_styles f.styles) p') long f.extents,
        ap (λ (e : Extents). e.working) long,
        ap (λ (e : Extents). e.unclaimed) long,
        links.lists.good,
        links.lists.good',
      )
      refl

-- whatever the place, if a finished run has the same of a box
pub told_alike : {f : Frame} {x x' : Outcome} (place : ℕ) → Linked f x x'
    → (x.step.state.progress ≡ None → place < x.step.state.counts.filled.working
    → box_reached x.step.state.opened.container x.step.state.overflow (layout_of_box x place)
    ≡ box_reached x'.step.state.opened.container x'.step.state.overflow (layout_of_box x' place))
    → told_of place f.styles x ≡ told_of place (image_styles f.styles) x'
unfolding reached
told_alike {f} place (linked s p p' links same) h =
    answered_alike _ _ _ _ (verdict_alike f s p p' links (leb s.counts.filled.working place))
    (λ e. h (finished_is (state_of f s p) (slices_of (lent_of f.styles p)) _ e) (box_is_filled (state_of f s p) (slices_of (lent_of f.styles p)) place e))
