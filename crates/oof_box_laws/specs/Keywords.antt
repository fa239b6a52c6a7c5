-- Size keywords (css-sizing-3 #sizing-values, css-sizing-4 #stretch-fit-sizing; document 01, step 4; request #106), as laws of the whole
-- dialogue of a box: which question each leads to, in which space, and what becomes of the reply. `stretch_size` of an axis is what the margins
-- leave of the inset-modified block; these laws say where it counts, and those of oof_axis_laws/specs/Laws.antt what it is
-- (`StretchSizeIsStretchFit`, `StretchSizeAsTheRust`). That a box and its mirror image are asked the same and come out as mirror images is
-- mirror_box's law, of whole quarter pixels and of areas whose width isn't 0. `proofs/Keywords.antt`, `proofs/Told.antt` and
-- `proofs/Panel.antt` prove each, under its name in small letters. Assumes nothing.
use Rattle.std.specs.Prelude.{◌≡◌, ◌⊎◌, [], ◌∷◌, false, true, Float, None, Option, Some, unwrap_or}
use Rattle.std.specs.Float.Ieee.{lt}
use Rattle.util.specs.Number.{◌⊖◌, ◌⊗◌, ◌⊘◌, 0f}
use Rattle.util.specs.Maybe.{clamped}
use Rattle.geometry.specs.Geometry.{absent_size, definite, span, line_x, line_y}
use Rattle.geometry.specs.declared.Line.{Line}
use Rattle.geometry.specs.declared.Size.{Size}
use Rattle.style.specs.declared.Style.{Style}
use Rattle.style.specs.declared.available_space.AvailableSpace.{AvailableSpace}
use Rattle.style.specs.declared.available_space.AvailableSpace.TheVariants.{Definite, MinContent, MaxContent}
use Rattle.style.specs.declared.compact_length.CompactLength.{CompactLength}
use Rattle.tree.specs.declared.layout.OofCandidate.{OofCandidate}
use Rattle.oof_axis.specs.Axis.{block, stretches}
use Rattle.oof_axis.specs.Laws.{NoInset}
use Rattle.oof_axis.specs.declared.OofAxis.{OofAxis}
use Rattle.oof_resolve.specs.Resolved.{resolved_box}
use Rattle.oof_resolve.specs.declared.ContainingBlock.{ContainingBlock}
use Rattle.oof_resolve.specs.declared.ResolvedBox.{ResolvedBox}
use Rattle.oof_box.specs.Talk.{Talk, ask, ReplyTo}
use Rattle.oof_box.specs.Box.{Placed, placed, keyword_stretch}
use Rattle.oof_box.specs.declared.question.Question.{Question}
use Rattle.oof_box.specs.declared.question.Question.TheVariants.{MeasureBoth, MeasureWidth, MeasureHeight, LayOut}
use Rattle.util_exact.specs.Value.{◌≐◌, Quarters, Quarter, MaybeQuarters}
use Rattle.oof_axis_laws.specs.Laws.{◌≤Σ◌, StaticPositionInside, stretch_size, rust_stretch_size}
use Rattle.oof_box_laws.specs.Resolved.{IsAuto, IsAutoSize, IsStretchKeyword, HasKeyword, NoLength, padding_border_of}
use Rattle.oof_box_laws.specs.Laws.{Always, SizeAlways, Asks, OnlyLayOut, NoSizeKeyword, stretchable, space_of, WidthTold, HeightTold, InQuarters, MarginBoxIs}

-- ---- which length is which keyword

-- a measured keyword and the space that it is measured in: only fit-content is measured in the stretch size of its axis; fit-content of a
-- limit is measured in that limit, in pixels or as a percentage of the area's extent in its axis
pub data MeasuredIn (stretch basis : Float) : CompactLength → AvailableSpace → Type 0 where
  min_content : {x any : Float} → MeasuredIn stretch basis (record { tag = 11; value = x; second = any }) MinContent
  max_content : {x any : Float} → MeasuredIn stretch basis (record { tag = 27; value = x; second = any }) MaxContent
  fit_content : {x any : Float} → MeasuredIn stretch basis (record { tag = 59; value = x; second = any }) (Definite stretch)
  fit_content_pixels : {x any : Float} → MeasuredIn stretch basis (record { tag = 43; value = x; second = any }) (Definite x)
  fit_content_percent : {x any : Float} → MeasuredIn stretch basis (record { tag = 15; value = x; second = any }) (Definite (basis ⊗ x))

abbrev pub WideIn : ContainingBlock → Style → ResolvedBox → AvailableSpace → Type 0
WideIn container style box space = MeasuredIn (stretch_size box.horizontal) container.area.size.width style.size.width space

abbrev pub TallIn : ContainingBlock → Style → ResolvedBox → AvailableSpace → Type 0
TallIn container style box space = MeasuredIn (stretch_size box.vertical) container.area.size.height style.size.height space

-- a side that no keyword measures: step 2 has it, it has no keyword, or its keyword is stretch
abbrev pub NotMeasured : Option Float → CompactLength → Type 0
NotMeasured size l = ((x : Float) × (size ≡ Some x)) ⊎ (NoSizeKeyword l ⊎ IsStretchKeyword l)

-- a keyword is no size in step 2: of a side without a ratio, and of two sides that are auto or keywords with or without one
abbrev pub KeywordIsNoSize : Type 0
KeywordIsNoSize =
    (container : ContainingBlock) (style : Style) (candidate : OofCandidate)
    → let box = resolved_box container style candidate in
    (style.ratio ≡ None → HasKeyword style.size.width → box.size.width ≡ None)
    × (style.ratio ≡ None → HasKeyword style.size.height → box.size.height ≡ None)
    × (NoLength style.size.width → NoLength style.size.height → box.size ≡ absent_size)

-- nor a limit (document 01: "keywords are absent"): a max that is a keyword is none, a min that is one is padding plus border; of a side without
-- a ratio, and of two sides that are auto or keywords with or without one
abbrev pub KeywordIsNoLimit : Type 0
KeywordIsNoLimit =
    (container : ContainingBlock) (style : Style) (candidate : OofCandidate)
    → let box = resolved_box container style candidate in
    (style.ratio ≡ None
    → (HasKeyword style.max.width → box.max.width ≡ None) × (HasKeyword style.max.height → box.max.height ≡ None)
    × (HasKeyword style.min.width → box.min.width ≡ Some (padding_border_of box).width) × (HasKeyword style.min.height → box.min.height ≡ Some (padding_border_of box).height))
    × (NoLength style.max.width → NoLength style.max.height → box.max ≡ absent_size)
    × (NoLength style.min.width → NoLength style.min.height → box.min ≡ definite (padding_border_of box))

-- ---- stretch. Step 2 has a side with a keyword only by the ratio, from a given side (`RatioCompletes`), and then its keyword has no say; hence
-- `box.size .. ≡ None`.

-- a side with the keyword is the stretch size of its axis, clamped: whatever is replied, and a table's too
abbrev pub StretchKeywordFills : Type 0
StretchKeywordFills =
    (container : ContainingBlock) (style : Style) (candidate : OofCandidate)
    → let box = resolved_box container style candidate in
    (box.size.width ≡ None → IsStretchKeyword style.size.width
    → SizeAlways (λ s. s.width ≡ clamped (stretch_size box.horizontal) box.min.width box.max.width) container style candidate)
    × (box.size.height ≡ None → IsStretchKeyword style.size.height
    → SizeAlways (λ s. s.height ≡ clamped (stretch_size box.vertical) box.min.height box.max.height) container style candidate)

-- it is told, and never asked for:
-- * clamped with a question for both sizes and with lay out;
-- * unclamped, the width, with a question for the height alone, which comes before the clamp;
-- * not at all, the height, with a question for the width alone, which comes before the height is filled.
abbrev pub StretchedWidthTold : Float → Float → Question → Type 0
StretchedWidthTold stretch x (MeasureBoth m) = m.known.width ≡ Some x
StretchedWidthTold stretch x (MeasureWidth m) = ⊥
StretchedWidthTold stretch x (MeasureHeight m) = m.known.width ≡ Some stretch
StretchedWidthTold stretch x (LayOut l) = l.size.width ≡ x

abbrev pub StretchedHeightTold : Float → Question → Type 0
StretchedHeightTold x (MeasureBoth m) = m.known.height ≡ Some x
StretchedHeightTold x (MeasureWidth m) = m.known.height ≡ None
StretchedHeightTold x (MeasureHeight m) = ⊥
StretchedHeightTold x (LayOut l) = l.size.height ≡ x

abbrev pub StretchKeywordIsTold : Type 0
StretchKeywordIsTold =
    (container : ContainingBlock) (style : Style) (candidate : OofCandidate)
    → let box = resolved_box container style candidate in
    (box.size.width ≡ None → IsStretchKeyword style.size.width
    → Asks (StretchedWidthTold (stretch_size box.horizontal) (clamped (stretch_size box.horizontal) box.min.width box.max.width)) (placed container style candidate))
    × (box.size.height ≡ None → IsStretchKeyword style.size.height
    → Asks (StretchedHeightTold (clamped (stretch_size box.vertical) box.min.height box.max.height)) (placed container style candidate))

-- ---- measured keywords

-- the dialogue opens with question q; P holds of its reply and of the outcome, R of its reply and of every question after it
pub data Opens (q : Question) (P : ReplyTo q → Placed → Type 0) (R : ReplyTo q → Question → Type 0) : Talk Placed → Type 0 where
  opens : {next : ReplyTo q → Talk Placed} → ((r : ReplyTo q) → Always (P r) (next r)) → ((r : ReplyTo q) → Asks (R r) (next r)) → Opens q P R (ask q next)

-- both sides: one question to measure, with no side known, each in its own space; both are the reply, clamped
abbrev pub BothSidesAreMeasured : Type 0
BothSidesAreMeasured =
    (container : ContainingBlock) (style : Style) (candidate : OofCandidate) (spaceX spaceY : AvailableSpace)
    → let box = resolved_box container style candidate in
    box.size ≡ absent_size → WideIn container style box spaceX → TallIn container style box spaceY
    → Opens (MeasureBoth (record { node = candidate.node; known = absent_size; space = record { width = spaceX; height = spaceY } }))
    (λ (r : Size Float) p. (p.outcome.layout.size.width ≡ clamped r.width box.min.width box.max.width)
    × (p.outcome.layout.size.height ≡ clamped r.height box.min.height box.max.height))
    (λ r q. OnlyLayOut q) (placed container style candidate)

-- the width alone: what step 2 knows is told, and the height's space is its stretch size, whether the height is known or not. The reply,
-- clamped, is the width, and is told with each question after it
abbrev pub WidthIsMeasured : Type 0
WidthIsMeasured =
    (container : ContainingBlock) (style : Style) (candidate : OofCandidate) (spaceX : AvailableSpace)
    → let box = resolved_box container style candidate in
    box.size.width ≡ None → WideIn container style box spaceX → NotMeasured box.size.height style.size.height
    → Opens (MeasureWidth (record { node = candidate.node; known = box.size; space = record { width = spaceX; height = Definite (stretch_size box.vertical) } }))
    (λ (r : Float) p. p.outcome.layout.size.width ≡ clamped r box.min.width box.max.width) (λ (r : Float) q. WidthTold (clamped r box.min.width box.max.width) q)
    (placed container style candidate)

-- what is known of the width when the height is measured alone: its size, its stretch size, unclamped, where that is its keyword, else nothing
pub data WidthThen (style : Style) (box : ResolvedBox) : Option Float → Type 0 where
  given : {w : Float} → box.size.width ≡ Some w → WidthThen style box (Some w)
  by_stretch : box.size.width ≡ None → IsStretchKeyword style.size.width → WidthThen style box (Some (stretch_size box.horizontal))
  auto : box.size.width ≡ None → NoSizeKeyword style.size.width → WidthThen style box None

-- the height alone: the width's space is what is known of it, or its stretch size
abbrev pub HeightIsMeasured : Type 0
HeightIsMeasured =
    (container : ContainingBlock) (style : Style) (candidate : OofCandidate) (spaceY : AvailableSpace) (width : Option Float)
    → let box = resolved_box container style candidate in
    box.size.height ≡ None → TallIn container style box spaceY → WidthThen style box width
    → Opens
    (MeasureHeight
    (record {
      node = candidate.node;
      known = record { width = width; height = None };
      space = record { width = Definite (unwrap_or width (stretch_size box.horizontal)); height = spaceY };
    }))
    (λ (r : Float) p. p.outcome.layout.size.height ≡ clamped r box.min.height box.max.height) (λ (r : Float) q. HeightTold (clamped r box.min.height box.max.height) q)
    (placed container style candidate)

-- ---- ratio and clamp follow

-- a ratio r completes an auto side from the other one as its keyword gives it, before the clamp: the stretch size, or the reply x. Nothing else is
-- measured.
abbrev pub RatioCompletesAKeyword : Type 0
RatioCompletesAKeyword =
    (container : ContainingBlock) (style : Style) (candidate : OofCandidate) (r : Float)
    → let box = resolved_box container style candidate in
    style.ratio ≡ Some r → box.size ≡ absent_size
    → (NoSizeKeyword style.size.height → IsStretchKeyword style.size.width
    → SizeAlways (λ s. s.height ≡ clamped (stretch_size box.horizontal ⊘ r) box.min.height box.max.height) container style candidate
    × Asks OnlyLayOut (placed container style candidate))
    × (NoSizeKeyword style.size.width → IsStretchKeyword style.size.height
    → SizeAlways (λ s. s.width ≡ clamped (stretch_size box.vertical ⊗ r) box.min.width box.max.width) container style candidate
    × Asks OnlyLayOut (placed container style candidate))
    × (NoSizeKeyword style.size.height → (space : AvailableSpace) → WideIn container style box space
    → Opens (MeasureWidth (record { node = candidate.node; known = absent_size; space = record { width = space; height = Definite (stretch_size box.vertical) } }))
    (λ (x : Float) p. p.outcome.layout.size.height ≡ clamped (x ⊘ r) box.min.height box.max.height) (λ x q. OnlyLayOut q) (placed container style candidate))
    × (NoSizeKeyword style.size.width → (space : AvailableSpace) → TallIn container style box space
    → Opens (MeasureHeight (record { node = candidate.node; known = absent_size; space = record { width = Definite (stretch_size box.horizontal); height = space } }))
    (λ (x : Float) p. p.outcome.layout.size.width ≡ clamped (x ⊗ r) box.min.width box.max.width) (λ x q. OnlyLayOut q) (placed container style candidate))

-- ---- step 3's available space, not the stretch size of a keyword

-- unless keywords measure both sides, every question for both sizes is asked in step 3's space
abbrev pub FilledIn : Size AvailableSpace → Question → Type 0
FilledIn space (MeasureBoth m) = m.space ≡ space
FilledIn space (MeasureWidth m) = Unit {0}
FilledIn space (MeasureHeight m) = Unit {0}
FilledIn space (LayOut l) = Unit {0}

abbrev pub FilledInTheSpace : Type 0
FilledInTheSpace =
    (container : ContainingBlock) (style : Style) (candidate : OofCandidate)
    → let box = resolved_box container style candidate in
    NotMeasured box.size.width style.size.width ⊎ NotMeasured box.size.height style.size.height
    → Asks (FilledIn (space_of style box)) (placed container style candidate)

-- ---- nothing is left to fill

abbrev pub NotForBoth : Question → Type 0
NotForBoth (MeasureBoth m) = ⊥
NotForBoth (MeasureWidth m) = Unit {0}
NotForBoth (MeasureHeight m) = Unit {0}
NotForBoth (LayOut l) = Unit {0}

abbrev pub GivenOrKeyword : Option Float → CompactLength → Type 0
GivenOrKeyword size l = ((x : Float) × (size ≡ Some x)) ⊎ HasKeyword l

abbrev pub AutoStretches : Style → OofAxis → CompactLength → Type 0
AutoStretches style a l = (style.ratio ≡ None) × (style.table ≡ false) × IsAutoSize l × (stretches a (stretchable style) ≡ true)

-- where step 2 has each side, or it has a size keyword, or it is auto and stretches (of a box without a ratio that is no table), no question for
-- both sizes is asked, unless keywords measure both
abbrev pub NothingIsLeftToFill : Type 0
NothingIsLeftToFill =
    (container : ContainingBlock) (style : Style) (candidate : OofCandidate)
    → let box = resolved_box container style candidate in
    GivenOrKeyword box.size.width style.size.width ⊎ AutoStretches style box.horizontal style.size.width
    → GivenOrKeyword box.size.height style.size.height ⊎ AutoStretches style box.vertical style.size.height
    → NotMeasured box.size.width style.size.width ⊎ NotMeasured box.size.height style.size.height
    → Asks NotForBoth (placed container style candidate)

-- ---- where a box with the keyword stretch stands

-- its block is larger than 0, its stretch size is above 0, and neither min nor max changes that
pub record StretchesUnclamped (a : OofAxis) (min max : Option Float) : Type 0 where
  pub block : lt 0f (span (block a)) ≡ true
  pub size : lt 0f (stretch_size a) ≡ true
  pub at_least_min : (low : Float) → min ≡ Some low → lt (stretch_size a) low ≡ false
  pub at_most_max : (high : Float) → max ≡ Some high → lt high (stretch_size a) ≡ false

-- whole quarter pixels: the area's extent and offset, insets and margins of size 4,096 at most (`InQuarters`), and the static area, counted from
-- the area's edge, of 8,192 (also where insets leave it unread)
pub record AllInQuarters (a : OofAxis) (offset : Float) : Type 0 where
  pub axis : InQuarters a offset
  pub static_start : Quarters 32768 a.place.area.start
  pub static_end : Quarters 32768 a.place.area.end

-- then its margin box is the block, with no rounding, whatever is replied: between two insets, at one, and at its static position where it has
-- none
abbrev pub StretchKeywordIsItsBlock : Type 0
StretchKeywordIsItsBlock =
    (container : ContainingBlock) (style : Style) (candidate : OofCandidate)
    → let box = resolved_box container style candidate in
    let offset = container.area.offset in
    (box.size.width ≡ None → IsStretchKeyword style.size.width → StretchesUnclamped box.horizontal box.min.width box.max.width → AllInQuarters box.horizontal offset.x
    → Always
    (λ (p : Placed). let l = p.outcome.layout in MarginBoxIs (block box.horizontal) offset.x l.location.x l.size.width (line_x l.margin))
    (placed container style candidate))
    × (box.size.height ≡ None → IsStretchKeyword style.size.height → StretchesUnclamped box.vertical box.min.height box.max.height → AllInQuarters box.vertical offset.y
    → Always
    (λ (p : Placed). let l = p.outcome.layout in MarginBoxIs (block box.vertical) offset.y l.location.y l.size.height (line_y l.margin))
    (placed container style candidate))

-- the margin box, of a border box that begins at `at`, doesn't begin before the area or end beyond it
abbrev pub MarginBoxInside : Float → Float → Float → Float → Line Float → Type 0
MarginBoxInside area offset at size margin = (offset ∷ margin.start ∷ [] ≤Σ at ∷ []) × (at ∷ size ∷ margin.end ∷ [] ≤Σ offset ∷ area ∷ [])

-- the block is larger than 0, the stretch size above 0 and no smaller than min; max may be smaller, then min and max are whole quarter pixels
pub record StretchesAtMost (a : OofAxis) (min max : Option Float) : Type 0 where
  pub block : lt 0f (span (block a)) ≡ true
  pub size : lt 0f (stretch_size a) ≡ true
  pub at_least_min : (low : Float) → min ≡ Some low → lt (stretch_size a) low ≡ false
  pub at_most_max : (high : Float) → max ≡ Some high → (lt high (stretch_size a) ≡ false) ⊎ (Quarter high × MaybeQuarters 16384 min)

-- So the margin box of "a label with size keyword `stretch`, no insets and an anchor in mid-panel" stays in the panel, and with it the label
-- where no margin is negative: if the margins leave room and min doesn't make it larger, in whole quarter pixels. (A larger min may lead out.
-- Margins larger than the block leave a box of its min size, which may lie outside with them.) The anchor is the static position.
abbrev pub StretchKeywordStaysInTheArea : Type 0
StretchKeywordStaysInTheArea =
    (container : ContainingBlock) (style : Style) (candidate : OofCandidate)
    → let box = resolved_box container style candidate in
    let area = container.area in
    (box.size.width ≡ None → IsStretchKeyword style.size.width → NoInset box.horizontal → StaticPositionInside box.horizontal
    → StretchesAtMost box.horizontal box.min.width box.max.width → AllInQuarters box.horizontal area.offset.x
    → Always
    (λ (p : Placed). let l = p.outcome.layout in MarginBoxInside area.size.width area.offset.x l.location.x l.size.width (line_x l.margin))
    (placed container style candidate))
    × (box.size.height ≡ None → IsStretchKeyword style.size.height → NoInset box.vertical → StaticPositionInside box.vertical
    → StretchesAtMost box.vertical box.min.height box.max.height → AllInQuarters box.vertical area.offset.y
    → Always
    (λ (p : Placed). let l = p.outcome.layout in MarginBoxInside area.size.height area.offset.y l.location.y l.size.height (line_y l.margin))
    (placed container style candidate))

-- ---- beside the Rust

-- whole quarter pixels of size 4,096 at most
abbrev pub InQuarterPixels : CompactLength → Type 0
InQuarterPixels l = (l.tag ≡ 1) × Quarter l.value

-- what request #106 asks of an item that is compared with the Rust, as far as the stretch size reads it: both insets of each axis given and
-- not crossing, these, the margins and the area's extent in whole quarter pixels, no percentage, no sum. (It asks more: `docs/DECISIONS.md`.)
pub record Compared (area : Size Float) (style : Style) : Type 0 where
  pub width : Quarter area.width
  pub height : Quarter area.height
  pub left : InQuarterPixels style.inset.left
  pub right : InQuarterPixels style.inset.right
  pub top : InQuarterPixels style.inset.top
  pub bottom : InQuarterPixels style.inset.bottom
  pub across : lt (area.width ⊖ style.inset.right.value) style.inset.left.value ≡ false
  pub down : lt (area.height ⊖ style.inset.bottom.value) style.inset.top.value ≡ false
  pub margin_left : InQuarterPixels style.margin.left ⊎ IsAuto style.margin.left
  pub margin_right : InQuarterPixels style.margin.right ⊎ IsAuto style.margin.right
  pub margin_top : InQuarterPixels style.margin.top ⊎ IsAuto style.margin.top
  pub margin_bottom : InQuarterPixels style.margin.bottom ⊎ IsAuto style.margin.bottom

-- there the stretch size of step 4, by its definition (`keyword_stretch`), is the number that the Rust's expression gives, wherever the static
-- position lies
abbrev pub StretchAsTheRust : Type 0
StretchAsTheRust =
    (container : ContainingBlock) (style : Style) (candidate : OofCandidate)
    → let box = resolved_box container style candidate in
    Compared container.area.size style → ((keyword_stretch box).width ≐ rust_stretch_size box.horizontal) × ((keyword_stretch box).height ≐ rust_stretch_size box.vertical)
