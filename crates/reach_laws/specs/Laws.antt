-- Request #102: the mirror image of a run has the same verdicts and the same offsets, and a run of whole quarter pixels has a verdict for every
-- box. As statements: `proofs/` proves each, under its name in small letters. Assumes nothing.
use Rattle.std.specs.Prelude.{ℕ, ◌<◌, false, ◌≡◌, ◌+ℤ◌, ◌-ℤ◌, All, IsOk, Option, Result, None, is_err, Float}
use mathlib.Core.List.{List, foldl}
use Rattle.refusal.specs.declared.Refusal.{Refusal}
use Rattle.reach.specs.declared.Offsets.{Offsets}
use Rattle.geometry.specs.declared.Rect.{Rect}
use Rattle.tree.specs.declared.layout.Layout.{Layout}
use Rattle.oof_resolve.specs.declared.ContainingBlock.{ContainingBlock}
use Rattle.pixels.specs.Accepted.{in_eighths}
use Rattle.run.specs.declared.Opening.{Opening}
use Rattle.run.specs.Call.{Lent, Outcome, slices}
use Rattle.run.specs.Run.{claims_of, container_of, extents_of, opened}
use Rattle.run.specs.Theorems.{Turn, AllLend, called, heeded_in}
use Rattle.mirror_box.specs.Image.{image_container}
use Rattle.mirror_run.specs.Image.{image_opening, image_styles, image_candidates}
use Rattle.mirror_run.specs.Quarter.{AreaInQuarters, QuarterArea, QuarterTable, QuarterCandidates}
use Rattle.mirror_run.specs.Runs.{Message, run_next, image_next, AllFair}
use Rattle.pixels_laws.specs.Laws.{QuarterHeard}
use Rattle.reach.specs.Laws.{AllInEighths}
use Rattle.reach.specs.Reach.{box_reached, reached}

-- ---- a box

-- in eighths, the box of one container is as far from the area's left edge as the other's is from its right edge; all else that is read is
-- equal. The image of a container has the same area and overflow codes, and the other direction: either may be left-to-right
pub record MirroredInEighths (c c' : ContainingBlock) (overflow overflow' : Rect Float) (box box' : Layout) : Type 0 where
  pub image : c' ≡ image_container c
  pub accepted : AllInEighths c overflow box
  pub image_accepted : AllInEighths c' overflow' box'
  pub x :
      (in_eighths box.location.x -ℤ in_eighths c.area.offset.x) +ℤ (in_eighths box'.location.x -ℤ in_eighths c.area.offset.x) +ℤ in_eighths box.size.width
      ≡ in_eighths c.area.size.width
  pub width : in_eighths box.size.width ≡ in_eighths box'.size.width
  pub y : in_eighths box.location.y ≡ in_eighths box'.location.y
  pub height : in_eighths box.size.height ≡ in_eighths box'.size.height
  -- the rectangle counts from the start edge in both
  pub right : in_eighths overflow.right ≡ in_eighths overflow'.right
  pub bottom : in_eighths overflow.bottom ≡ in_eighths overflow'.bottom

abbrev pub MirroredBox : Type 0
MirroredBox =
    (c c' : ContainingBlock) (overflow overflow' : Rect Float) (box box' : Layout) → MirroredInEighths c c' overflow overflow' box box'
    → box_reached c overflow box ≡ box_reached c' overflow' box'

-- ---- a run and its image, after the same replies, under what mirror_run's `Mirror` asks

-- what is told of a place by the state and the words that a call left
abbrev pub told_of : ℕ → List ℕ → Outcome → Result (Option Offsets) Refusal
told_of place styles o = reached place o.step.state (slices styles o.layouts o.working o.unclaimed)

-- seen at the same offsets, or unseen, or refused with the same number, at every place and after every call: before the finish, and after a
-- refused opening, both are refused
abbrev pub MirroredVerdict : Type 0
MirroredVerdict =
    (o : Opening) (candidates : List ℕ) (lent lent' : Lent) (messages : List Message) (place : ℕ)
    → QuarterArea o.area → QuarterTable lent.styles → QuarterCandidates candidates
    → lent'.styles ≡ image_styles lent.styles → extents_of lent ≡ extents_of lent'
    → AllFair lent.styles (opened o candidates lent) messages
    → told_of place lent.styles (foldl (run_next lent.styles) (opened o candidates lent) messages)
    ≡ told_of place lent'.styles (foldl (image_next lent'.styles) (opened (image_opening o) (image_candidates o.area candidates) lent') messages)

-- ---- a run, at its finish too, goes by the area, the direction and the overflow codes that it was opened with. (Its rectangle is that of the
-- straight run: `Stands` of run/specs/Theorems.antt.)

abbrev pub ContainerStays : Type 0
ContainerStays =
    (o : Opening) (candidates : List ℕ) (lent : Lent) (turns : List Turn) → is_err (opened o candidates lent).step.answer ≡ false
    → (called o candidates lent turns).step.state.opened.container ≡ container_of o

-- ---- a run of whole quarter pixels, under what pixels_laws' `RunHasEdges` asks: every box of a finished one has a verdict. So 9 isn't met

abbrev pub QuartersAreAnswered : Type 0
QuartersAreAnswered =
    (o : Opening) (candidates : List ℕ) (lent : Lent) (turns : List Turn) (place : ℕ)
    → AreaInQuarters o.area → QuarterTable lent.styles → QuarterCandidates candidates
    → is_err (opened o candidates lent).step.answer ≡ false
    → AllLend lent.styles (opened o candidates lent) turns
    → All (QuarterHeard (claims_of o)) (heeded_in o candidates lent turns)
    → let has = called o candidates lent turns in
    has.step.state.progress ≡ None → place < has.step.state.counts.filled.working → IsOk (told_of place lent.styles has)
