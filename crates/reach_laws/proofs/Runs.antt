-- The mirror law of verdicts, of runs from the opening on. Assumes nothing.
use Prim.Native.Nat.{ℕ, ◌<◌}
use native.Mathlib.Omega.{arith}
use mathlib.Core.Bool.{false}
use mathlib.Core.List.{List, [], foldl, append-nil}
use mathlib.Core.Path.{◌≡◌, refl, sym, ap, ◌∙◌, subst}
use borrow.Author.Tests.{ltb-false}
use Rattle.std.specs.Prelude.{Option, None, Result, is_err}
use Rattle.util.proofs.Floats.{no}
use Rattle.oof_box.specs.declared.question.Stage.{Stage}
use Rattle.refusal.specs.declared.Refusal.{Refusal}
use Rattle.run.specs.declared.Answer.{Answer}
use Rattle.run.specs.declared.Opening.{Opening}
use Rattle.run.specs.Call.{Lent, Outcome}
use Rattle.run.specs.Refusals.{bad_area}
use Rattle.run.specs.Refusals as test
use Rattle.run.specs.Run.{container_of, extents_of, opened, opening_verdict}
use Rattle.run.specs.Theorems.{laid_count, laid_so_far}
use Rattle.run.proofs.Refusals.{refused_in, begun_accepts}
use Rattle.std.proofs.lemmas.Bool.{or_parts}
use Rattle.run.proofs.Ways.{OpeningWay, turned_down, begins, opening_way}
use Rattle.mirror_box.specs.Image.{image_container}
use Rattle.mirror_run.specs.Image.{image_opening, image_styles, image_candidates}
use Rattle.mirror_run.specs.Quarter.{QuarterArea, QuarterTable, QuarterCandidates}
use Rattle.mirror_run.specs.Runs.{Message, run_next, image_next, AllFair, SameAnswer, ask, finish, refused, layout_of_box}
use Rattle.mirror_run.proofs.Linked.{Linked, mirrored}
use Rattle.mirror_run.proofs.Mirror.{all_replies}
use Rattle.mirror_run.proofs.Opening.{frame, image_lent, quarter_frame, opened_linked}
use Rattle.mirror_run.proofs.Styles.{direction_decoded}
use Rattle.mirror_run.proofs.Verdicts.{opening_passed}
use Rattle.pixels_laws.proofs.Box.{LayoutIn}
use Rattle.pixels_laws.proofs.Run.{run_in}
use Rattle.reach.specs.Reach.{box_reached}
use Rattle.reach_laws.specs.Laws.{told_of, MirroredVerdict}
use Rattle.reach_laws.proofs.Course.{turns_of, images_of, turns_are, images_are, Goes, begun_goes, turns_go, all_lend, all_heard, Shut, turns_shut, closed_shut}
use Rattle.reach_laws.proofs.Verdict.{box_alike, told_alike}

same_refused : {a a' : Result Answer Refusal} → SameAnswer a a' → is_err a ≡ is_err a'
same_refused (ask q) = refl
same_refused (finish r e) = refl
same_refused refused = refl

-- the image's container, where the direction's code is one
image_block : (o : Opening) (candidates : List ℕ) (lent : Lent) → opening_verdict o candidates lent ≡ test.accepted → container_of (image_opening o) ≡ image_container (container_of o)
unfolding bad_area image_container
image_block o candidates lent v =
    let e = ltb-false 1 o.direction (or_parts _ _ (or_parts _ _ (or_parts _ _ (opening_passed o candidates lent v).area).0).0).0 in
    rw (direction_decoded o.direction (omega arith)) refl

module _ (o : Opening) (candidates : List ℕ) (lent : Lent) (layouts working unclaimed tally : List ℕ) (ms : List Message) (area : QuarterArea o.area) (table : QuarterTable lent.styles)
    (quarter : QuarterCandidates candidates) (same : extents_of lent ≡ extents_of (image_lent o candidates lent layouts working unclaimed tally))
    (fair : AllFair lent.styles (opened o candidates lent) ms) where
  abbrev lent' : Lent
  lent' = image_lent o candidates lent layouts working unclaimed tally

  abbrev image : List ℕ
  image = image_candidates o.area candidates

  -- what each run has come to
  abbrev has : Outcome
  has = foldl (run_next lent.styles) (opened o candidates lent) ms

  abbrev has' : Outcome
  has' = foldl (image_next lent'.styles) (opened (image_opening o) image lent') ms

  at_opening_lem : Linked (frame o candidates lent layouts working unclaimed tally) (opened o candidates lent) (opened (image_opening o) image lent')
  at_opening_lem = opened_linked o candidates lent layouts working unclaimed tally same area table quarter

  pub both : Linked (frame o candidates lent layouts working unclaimed tally) has has'
  both =
      all_replies (frame o candidates lent layouts working unclaimed tally) (quarter_frame o candidates lent layouts working unclaimed tally same area table quarter) ms [] at_opening_lem
      (subst (AllFair lent.styles (opened o candidates lent)) (sym (append-nil ms)) fair)

  -- a refused opening leaves no box
  no_box_lem : Shut (opened o candidates lent).step.state → Shut has.step.state
  no_box_lem h =
      subst (λ (x : Outcome). Shut x.step.state) (turns_are lent.styles (opened o candidates lent) ms)
      (turns_shut lent.styles (opened o candidates lent) (turns_of ms) h)

  module _ (v : opening_verdict o candidates lent ≡ test.accepted) (g : Goes o (opened o candidates lent).step.state) (g' : Goes (image_opening o) (opened (image_opening o) image lent').step.state)
      (accepts : is_err (opened o candidates lent).step.answer ≡ false) where
    goes : Goes o has.step.state
    goes =
        subst (λ (x : Outcome). Goes o x.step.state) (turns_are lent.styles (opened o candidates lent) ms)
        (turns_go o lent.styles (opened o candidates lent) (turns_of ms) g)

    goes' : Goes (image_opening o) has'.step.state
    goes' =
        subst (λ (x : Outcome). Goes (image_opening o) x.step.state) (images_are lent'.styles (opened (image_opening o) image lent') ms)
        (turns_go (image_opening o) lent'.styles (opened (image_opening o) image lent') (images_of ms) g')

    layouts_in : (i : ℕ) → i < laid_so_far has → LayoutIn (layout_of_box has i)
    layouts_in =
        subst (λ (x : Outcome). (i : ℕ) → i < laid_so_far x → LayoutIn (layout_of_box x i)) (turns_are lent.styles (opened o candidates lent) ms)
        (run_in o candidates lent (turns_of ms) area.quarters table quarter accepts (all_lend o lent.styles (opened o candidates lent) ms fair)
        (all_heard o lent.styles (opened o candidates lent) ms g fair)).layouts

    same_box : (place : ℕ) → has.step.state.progress ≡ None → place < has.step.state.counts.filled.working
        → box_reached has.step.state.opened.container has.step.state.overflow (layout_of_box has place)
        ≡ box_reached has'.step.state.opened.container has'.step.state.overflow (layout_of_box has' place)
    same_box place e h =
        let m = mirrored both in
        let all = goes.all e in
        let begun : place < has.step.state.counts.begun = omega arith in
        let laid : place < laid_so_far has = subst (λ (p : Option Stage). place < laid_count p has.step.state.counts.begun) (sym e) begun in
        rw (goes.container, goes'.container, image_block o candidates lent v)
        (box_alike (container_of o) area.quarters has.step.state.overflow has'.step.state.overflow m.overflow (layout_of_box has place) (layout_of_box has' place) (m.boxes place laid) (layouts_in place laid))

  from_opening : (place : ℕ) → told_of place lent.styles has ≡ told_of place lent'.styles has'
  from_opening place = told_alike place both (go (opening_way o candidates lent) (opening_way (image_opening o) image lent'))
    where
      Same : Type 0
      Same =
          has.step.state.progress ≡ None → place < has.step.state.counts.filled.working
          → box_reached has.step.state.opened.container has.step.state.overflow (layout_of_box has place)
          ≡ box_reached has'.step.state.opened.container has'.step.state.overflow (layout_of_box has' place)

      go : OpeningWay o candidates lent → OpeningWay (image_opening o) image lent' → Same
      go (turned_down r e) w = λ f h. let n = (no_box_lem (subst (λ (x : Outcome). Shut x.step.state) (sym e) (closed_shut lent))).none in absurd (omega arith)
      go (begins v e) (turned_down r e') =
          no (ap refused_in e') (sym (same_refused (mirrored at_opening_lem).answer) ∙ ap refused_in e ∙ begun_accepts o candidates lent)
      go (begins v e) (begins v' e') =
          same_box v (subst (λ (x : Outcome). Goes o x.step.state) (sym e) (begun_goes o candidates lent))
          (subst (λ (x : Outcome). Goes (image_opening o) x.step.state) (sym e') (begun_goes (image_opening o) image lent')) (ap refused_in e ∙ begun_accepts o candidates lent) place

-- slices that have the image's styles
pub with_image : (lent lent' : Lent) → lent'.styles ≡ image_styles lent.styles
    → lent' ≡ record { styles = image_styles lent.styles; layouts = lent'.layouts; working = lent'.working; unclaimed = lent'.unclaimed; tally = lent'.tally }
with_image lent lent' image = ap (λ (styles : List ℕ). record { styles = styles; layouts = lent'.layouts; working = lent'.working; unclaimed = lent'.unclaimed; tally = lent'.tally }) image

pub mirrored_verdict : MirroredVerdict
mirrored_verdict o candidates lent lent' ms place area table quarter image same fair =
    let e = with_image lent lent' image in
    subst
    (λ (lent' : Lent).
    told_of place lent.styles (foldl (run_next lent.styles) (opened o candidates lent) ms)
    ≡ told_of place lent'.styles (foldl (image_next lent'.styles) (opened (image_opening o) (image_candidates o.area candidates) lent') ms))
    (sym e)
    (from_opening o candidates lent lent'.layouts lent'.working lent'.unclaimed lent'.tally ms area table quarter (same ∙ ap extents_of e) fair place)
