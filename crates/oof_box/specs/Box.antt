-- One box, in the seven steps of document 01 ("One box"): `resolved_box` is steps 1 to 3 (oof_resolve/specs/Resolved.antt), `box_layout`
-- step 7 (oof_place/specs/Placing.antt); steps 4 to 6 stand here. Read `placed`, at the end, first. Assumes nothing.
use Rattle.std.specs.Prelude.{ℕ, Bool, cond, not, ◌&&◌, ◌||◌, List, Float, Option, is_some, None, Some, unwrap_or}
use Rattle.std.specs.declared.option.Option.TheVariants as option
use Rattle.util.specs.Order.{larger}
use Rattle.util.specs.Maybe.{or_zero}
use Rattle.geometry.specs.Geometry.{span, zero_size, absent_size, definite, both_present, filled_size, clamped_size, clamped_floats, with_ratio}
use Rattle.geometry.specs.declared.Size.{Size}
use Rattle.style.specs.declared.Style.{Style}
use Rattle.style.specs.declared.available_space.AvailableSpace.{AvailableSpace}
use Rattle.style.specs.declared.available_space.AvailableSpace.TheVariants.{Definite}
use Rattle.tree.specs.declared.layout.OofCandidate.{OofCandidate}
use Rattle.oof_axis.specs.Axis.{block, stretches, is_stretch}
use Rattle.oof_axis.specs.declared.OofAxis.{OofAxis}
use Rattle.oof_resolve.specs.Resolved.{resolved_box}
use Rattle.oof_resolve.specs.declared.ContainingBlock.{ContainingBlock}
use Rattle.oof_resolve.specs.declared.ResolvedBox.{ResolvedBox}
use Rattle.oof_common.specs.SizingKeyword.{absolute_stretch, keywords_of}
use Rattle.oof_common.specs.declared.sizing_keyword.SizingKeywordResolution.{SizingKeywordResolution}
use Rattle.oof_common.specs.declared.sizing_keyword.SizingKeywordResolution.TheVariants.{Exact, Measure}
use Rattle.oof_box.specs.declared.question.MeasureInput.{MeasureInput}
use Rattle.oof_box.specs.declared.question.LayoutInput.{LayoutInput}
use Rattle.oof_box.specs.Talk.{Talk, done, ◌>>=◌, measure_both, measure_width, measure_height, lay_out}
use Rattle.oof_box.specs.declared.sizing.Stretched.{Stretched}
use Rattle.oof_place.specs.Placing.{box_layout}
use Rattle.oof_place.specs.declared.OofBoxLayout.{OofBoxLayout}

infix 60 ◌by◌ ◌and◌
abbrev pub ◌by◌ : Option Float → Option Float → Size (Option Float)
w by h = record { width = w; height = h }

abbrev pub ◌and◌ : AvailableSpace → AvailableSpace → Size AvailableSpace
w and h = record { width = w; height = h }

-- ---- step 4: size keywords

-- the stretch size of a size keyword in one axis, measured from the inset-modified block (request #106)
abbrev pub axis_stretch : OofAxis → Float
axis_stretch a = absolute_stretch (span (block a)) a.margin

-- of each side
unfoldable pub keyword_stretch : ResolvedBox → Size Float
keyword_stretch box = record { width = axis_stretch box.horizontal; height = axis_stretch box.vertical }

-- what the absent sides' keywords come to
unfoldable pub size_keywords : Style → ResolvedBox → Size (Option SizingKeywordResolution)
size_keywords style box =
    keywords_of box.size style.size (record { width = box.horizontal.size; height = box.vertical.size }) (keyword_stretch box)

abbrev pub has_keyword : Size (Option SizingKeywordResolution) → Bool
has_keyword k = is_some k.width || is_some k.height

-- ratio, then clamp
unfoldable pub settled : Option Float → ResolvedBox → Size (Option Float) → Size (Option Float)
settled ratio box size = clamped_size (with_ratio ratio size) box.min box.max

-- what is asked for two measured sides
abbrev pub both_input : ℕ → AvailableSpace → AvailableSpace → MeasureInput
both_input node spaceX spaceY = record { node = node; known = absent_size; space = spaceX and spaceY }

-- for the width: the height's space is its stretch size, whether the height is known or not
abbrev pub width_input : ℕ → AvailableSpace → Size (Option Float) → Size Float → MeasureInput
width_input node spaceX known stretch = record { node = node; known = known; space = spaceX and Definite stretch.height }

-- for the height: a width that is known is its space, else its stretch size
abbrev pub height_input : ℕ → AvailableSpace → Size (Option Float) → Size Float → MeasureInput
height_input node spaceY known stretch =
    record { node = node; known = known; space = Definite (unwrap_or known.width stretch.width) and spaceY }

unfoldable pub width_as : ℕ → Option SizingKeywordResolution → Size (Option Float) → Size Float → Talk (Option Float)
width_as node option.None known stretch = done known.width
width_as node (option.Some (Exact x)) known stretch = done (Some x)
width_as node (option.Some (Measure spaceX)) known stretch = do
  width ← measure_width (width_input node spaceX known stretch)
  done (Some width)

unfoldable pub height_as : ℕ → Option SizingKeywordResolution → Size (Option Float) → Size Float → Talk (Option Float)
height_as node option.None known stretch = done known.height
height_as node (option.Some (Exact x)) known stretch = done (Some x)
height_as node (option.Some (Measure spaceY)) known stretch = do
  height ← measure_height (height_input node spaceY known stretch)
  done (Some height)

-- the width, then the height by what is then known
unfoldable pub in_turn : ℕ → Option SizingKeywordResolution → Option SizingKeywordResolution → Size (Option Float) → Size Float → Talk (Size (Option Float))
in_turn node wide tall known stretch = do
  width ← width_as node wide known stretch
  height ← height_as node tall (width by known.height) stretch
  done (width by height)

-- where a side is measured, what is asked in its space; else `otherwise`
abbrev pub if_measured : Option SizingKeywordResolution → (AvailableSpace → Talk (Size (Option Float))) → Talk (Size (Option Float)) → Talk (Size (Option Float))
if_measured option.None asked otherwise = otherwise
if_measured (option.Some (Exact x)) asked otherwise = otherwise
if_measured (option.Some (Measure space)) asked otherwise = asked space

-- both sides by one question
abbrev pub at_once : ℕ → AvailableSpace → AvailableSpace → Talk (Size (Option Float))
at_once node spaceX spaceY = do
  size ← measure_both (both_input node spaceX spaceY)
  done (definite size)

-- two measured sides are one question; any others come in turn
unfoldable pub by_keywords : ℕ → Option SizingKeywordResolution → Option SizingKeywordResolution → Size (Option Float) → Size Float → Talk (Size (Option Float))
by_keywords node wide tall known stretch =
    let oneByOne = in_turn node wide tall known stretch in
    if_measured wide (λ spaceX. if_measured tall (at_once node spaceX) oneByOne) oneByOne

-- an absent side with a keyword is filled; ratio and clamp follow. (The Rust applies both once more where only a known side has a
-- keyword: they change nothing there, by the law `SizeIsSettled` of oof_box_laws.)
unfoldable pub keyword_sizes : ℕ → Style → ResolvedBox → Size (Option SizingKeywordResolution) → Talk (Size (Option Float))
keyword_sizes node style box keywords =
    cond (has_keyword keywords)
    (do
      known ← by_keywords node keywords.width keywords.height box.size (keyword_stretch box)
      done (settled style.ratio box known))
    (done box.size)

-- ---- step 5: stretch width, then height

-- stretch said of both axes ignores the ratio
unfoldable pub ignores_ratio : ResolvedBox → Bool → Bool → Bool
ignores_ratio box stretchesX stretchesY = stretchesX && (stretchesY && (is_stretch box.horizontal && is_stretch box.vertical))

unfoldable pub stretch_ratio : Style → ResolvedBox → Bool → Bool → Option Float
stretch_ratio style box stretchesX stretchesY = cond (ignores_ratio box stretchesX stretchesY) None style.ratio

-- an absent width becomes the stretch-fit width; the ratio may then give the height
unfoldable pub widened : Option Float → ResolvedBox → Bool → Size (Option Float) → Size (Option Float)
widened ratio box stretchesX known = cond stretchesX (settled ratio box (Some box.fit.width by known.height)) known

-- a height that is still absent becomes the stretch-fit height
unfoldable pub heightened : Option Float → ResolvedBox → Bool → Size (Option Float) → Size (Option Float)
heightened ratio box stretchesY known =
    cond (stretchesY && not (is_some known.height)) (settled ratio box (known.width by Some box.fit.height)) known

-- a table is never stretched directly: its min is raised to the stretch-fit size, and the table is measured
unfoldable pub raised_min : Bool → Option Float → Float → Option Float
raised_min stretchesSide min fit = cond stretchesSide (Some (larger (or_zero min) fit)) min

unfoldable pub stretched : Style → ResolvedBox → Size (Option Float) → Stretched
stretched style box known =
    let plain = not style.replaced && not style.table in
    let stretchesX = not (is_some known.width) && stretches box.horizontal plain in
    let stretchesY = not (is_some known.height) && stretches box.vertical plain in
    let ratio = stretch_ratio style box stretchesX stretchesY in
    cond style.table
    (record {
      known = known;
      min = raised_min stretchesX box.min.width box.fit.width by raised_min stretchesY box.min.height box.fit.height;
    })
    (record { known = heightened ratio box stretchesY (widened ratio box stretchesX known); min = box.min })

-- ---- step 6: if a side is still absent, measure both and fill only that side; clamp

unfoldable pub final_size : ResolvedBox → Stretched → Size Float → Size Float
final_size box at reply = clamped_floats (filled_size at.known reply) at.min box.max

abbrev pub fill_input : ℕ → Size (Option Float) → Size AvailableSpace → MeasureInput
fill_input node known space = record { node = node; known = known; space = space }

unfoldable pub measured : ℕ → ResolvedBox → Stretched → Talk (Size Float)
measured node box at = do
  size ← cond (both_present at.known) (done zero_size) (measure_both (fill_input node at.known box.space))
  done (final_size box at size)

-- ---- the whole box

abbrev pub lay_out_input : ℕ → Size Float → Size AvailableSpace → LayoutInput
lay_out_input node size space = record { node = node; size = size; space = space }

-- the layout with what it adds to the overflow, and the candidates that the box surfaces
pub record Placed : Type 0 where
  pub outcome : OofBoxLayout
  pub surfaced : List OofCandidate

unfoldable pub placed : ContainingBlock → Style → OofCandidate → Talk Placed
placed container style candidate =
    let node = candidate.node in
    -- 1, 2, 3. percentages and static areas; size, min and max; available space
    let box = resolved_box container style candidate in
    do
      -- 4. size keywords
      known ← keyword_sizes node style box (size_keywords style box)
      -- 5, 6. stretch; measure what is still absent
      size ← measured node box (stretched style box known)
      -- 7. lay out; margins, location, overflow
      laid ← lay_out (lay_out_input node size box.space)
      done (record { outcome = box_layout container style candidate box size laid.overflow; surfaced = laid.surfaced })
