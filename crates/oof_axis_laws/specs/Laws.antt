-- What CSS says of one axis, as laws of exact sums: lengths, static area and box are whole quarter pixels, of any bounds that leave an f32
-- its sixteenths (mirror_axis/specs/Law.antt: `Bounded`, `Room`), so that nothing is rounded. On other floats each holds up to rounding.
-- The laws that hold of all floats stand in oof_axis/specs/Laws.antt, and one here: `StretchSizeIsASize`. As there, each speaks of what comes
-- out and of no step. `proofs/Laws.antt` proves each, under its name in small letters. Assumes nothing.
use Rattle.std.specs.Prelude.{◌≡◌, ◌⊎◌, List, [], ◌∷◌, true, false, not, ◌&&◌, ℕ, ◌+◌, ◌≤◌, Float, None, Some, is_some}
use Rattle.std.specs.Float.Ieee.{lt, le, is_nan}
use Rattle.util.specs.Number.{◌⊖◌, 0f}
use Rattle.util.specs.Order.{larger, smaller}
use Rattle.util.specs.Maybe.{or_zero}
use Rattle.geometry.specs.Geometry.{◌to◌, span}
use Rattle.geometry.specs.declared.Line.{Line}
use Rattle.style.specs.declared.alignment.AlignmentSafety.{AlignmentSafety}
use Rattle.style.specs.declared.alignment.AlignmentSafety.TheVariants.{Unsafe, Safe}
use Rattle.tree.specs.declared.layout.AxisStaticEdge.TheVariants.{Start, Center, End}
use Rattle.oof_axis.specs.declared.OofAlignment.TheVariants as align
use Rattle.oof_axis.specs.declared.OofAxis.{OofAxis}
use Rattle.oof_axis.specs.Axis.{block, stretch_fit, placement}
use Rattle.util_exact.specs.Integer.{N, EqN}
use Rattle.util_exact.specs.Value.{◌≐◌, Total, Quarters}
use Rattle.mirror_axis.specs.Law.{Bounded, Room}
use Rattle.oof_axis.specs.Laws.{NoInset, TwoInsets, Aligned, Overflows, margin_box}

-- an axis and the size of a border box in it, in whole quarter pixels
pub record Whole (a : OofAxis) (size : Float) : Type 0 where
  pub lengths : ℕ
  pub static : ℕ
  pub sizes : ℕ
  pub room : Room lengths static sizes
  pub axis : Bounded lengths static a
  pub box : Quarters sizes size

-- ---- sums, with no rounding

infix 50 ◌=Σ◌ ◌≤Σ◌
-- an integer at most another
abbrev pub LeN : N → N → Type 0
LeN a b = a.p + b.n ≤ b.p + a.n

-- two lists of numbers add up to the same, or the first to at most the second
abbrev pub ◌=Σ◌ : List Float → List Float → Type 0
xs =Σ ys = (t : N) × (u : N) × Total xs t × Total ys u × EqN t u

abbrev pub ◌≤Σ◌ : List Float → List Float → Type 0
xs ≤Σ ys = (t : N) × (u : N) × Total xs t × Total ys u × LeN t u

-- where the margin box of a placed box begins (its place less its start margin) and ends: at x, at x or after it, at x or before it
abbrev pub BeginsAt : OofAxis → Float → Float → Type 0
BeginsAt a size x = (placement a size).position ∷ [] =Σ x ∷ (placement a size).margin.start ∷ []

abbrev pub BeginsFrom : OofAxis → Float → Float → Type 0
BeginsFrom a size x = x ∷ (placement a size).margin.start ∷ [] ≤Σ (placement a size).position ∷ []

abbrev pub BeginsBy : OofAxis → Float → Float → Type 0
BeginsBy a size x = (placement a size).position ∷ [] ≤Σ x ∷ (placement a size).margin.start ∷ []

abbrev pub EndsAt : OofAxis → Float → Float → Type 0
EndsAt a size x = (placement a size).position ∷ size ∷ (placement a size).margin.end ∷ [] =Σ x ∷ []

abbrev pub EndsFrom : OofAxis → Float → Float → Type 0
EndsFrom a size x = x ∷ [] ≤Σ (placement a size).position ∷ size ∷ (placement a size).margin.end ∷ []

abbrev pub EndsBy : OofAxis → Float → Float → Type 0
EndsBy a size x = (placement a size).position ∷ size ∷ (placement a size).margin.end ∷ [] ≤Σ x ∷ []

-- ---- insets and margins

-- one inset, at the end: the margin edge stands at it
abbrev pub EndInsetExact : Type 0
EndInsetExact =
    (a : OofAxis) (size : Float) → Whole a size → (y : Float) → a.inset.start ≡ None → a.inset.end ≡ Some y
    → (placement a size).position ∷ size ∷ (placement a size).margin.end ∷ y ∷ [] =Σ a.size ∷ []

-- between two insets, auto margins fill the block: the margin box is the block
abbrev pub AutoMarginsFill : Type 0
AutoMarginsFill =
    (a : OofAxis) (size : Float) → Whole a size → TwoInsets a → is_some a.margin.start && is_some a.margin.end ≡ false
    → BeginsAt a size (block a).start × EndsAt a size (block a).end

-- ---- alignment between two insets

-- what fits the block stays in it, whatever alignment, safety, direction and scrolling
abbrev pub FitsInside : Type 0
FitsInside =
    (a : OofAxis) (size : Float) → Whole a size → Aligned a → le (margin_box a size) (span (block a)) ≡ true
    → BeginsFrom a size (block a).start × EndsBy a size (block a).end

-- one as large as the block is the block
abbrev pub SameSizeIsTheBlock : Type 0
SameSizeIsTheBlock =
    (a : OofAxis) (size : Float) → Whole a size → Aligned a → margin_box a size ≐ span (block a) → BeginsAt a size (block a).start × EndsAt a size (block a).end

-- a centered box that fits has equal distances to both ends of the block
abbrev pub CenterIsEven : Type 0
CenterIsEven =
    (a : OofAxis) (size : Float) → Whole a size → Aligned a → a.alignment ≡ align.Center → le (margin_box a size) (span (block a)) ≡ true
    → (placement a size).position ∷ (placement a size).position ∷ size ∷ (placement a size).margin.end ∷ [] =Σ (block a).start ∷ (block a).end ∷ (placement a size).margin.start ∷ []

-- an end-aligned box that fits ends at the end: the left one of a right-to-left axis
abbrev pub AtTheEnd : OofAxis → Float → Type 0
AtTheEnd a size = (a.reversed ≡ false → EndsAt a size (block a).end) × (a.reversed ≡ true → BeginsAt a size (block a).start)

abbrev pub EndAtEnd : Type 0
EndAtEnd =
    (a : OofAxis) (size : Float) → Whole a size → Aligned a → a.alignment ≡ align.End → le (margin_box a size) (span (block a)) ≡ true → AtTheEnd a size

-- the block's start edge isn't passed
abbrev pub StartKept : OofAxis → Float → Type 0
StartKept a size = (a.reversed ≡ false → BeginsFrom a size (block a).start) × (a.reversed ≡ true → EndsBy a size (block a).end)

-- safe never passes the start edge
abbrev pub SafeKeepsStart : Type 0
SafeKeepsStart = (a : OofAxis) (size : Float) → Whole a size → Aligned a → a.safety ≡ Safe → StartKept a size

-- from a static position too, where the margin box is larger than 0. (One of size 0 overflows nothing: it stands at its static position, which
-- may lie outside the area.)
abbrev pub StaticSafeKeepsStart : Type 0
StaticSafeKeepsStart =
    (a : OofAxis) (size : Float) → Whole a size → NoInset a → a.place.align.safety ≡ Safe → lt 0f (margin_box a size) ≡ true → StartKept a size

-- what fits the block of a static position stays in it, where the block is larger than 0
abbrev pub StaticFitsInside : Type 0
StaticFitsInside =
    (a : OofAxis) (size : Float) → Whole a size → NoInset a → lt 0f (span (block a)) ≡ true → le (margin_box a size) (span (block a)) ≡ true
    → BeginsFrom a size (block a).start × EndsBy a size (block a).end

-- ---- default overflow (`Overflows`): the box is larger than the block, its safety isn't said, and its alignment isn't normal

-- it covers the block
abbrev pub OverflowCovers : Type 0
OverflowCovers = (a : OofAxis) (size : Float) → Whole a size → Overflows a size → BeginsBy a size (block a).start × EndsFrom a size (block a).end

-- the bounds of block and area
abbrev pub bounds : OofAxis → Line Float
bounds a = smaller (block a).start 0f to larger (block a).end a.size

-- it stays within them where it fits them and the axis doesn't scroll
abbrev pub OverflowStaysWithin : Type 0
OverflowStaysWithin =
    (a : OofAxis) (size : Float) → Whole a size → Overflows a size → a.scrolls ≡ false → le (margin_box a size) (span (bounds a)) ≡ true
    → BeginsFrom a size (bounds a).start × EndsBy a size (bounds a).end

-- it never passes their start edge: the right one of a right-to-left axis
abbrev pub OverflowKeepsStart : Type 0
OverflowKeepsStart =
    (a : OofAxis) (size : Float) → Whole a size → Overflows a size
    → (a.reversed ≡ false → BeginsFrom a size (bounds a).start) × (a.reversed ≡ true → EndsBy a size (bounds a).end)

-- the same box under another safety: under unsafe it stands as its alignment says
abbrev pub with_safety : AlignmentSafety → OofAxis → OofAxis
with_safety s a =
    record {
      size = a.size;
      inset = a.inset;
      margin = a.margin;
      place = a.place;
      alignment = a.alignment;
      safety = s;
      inline = a.inline;
      reversed = a.reversed;
      scrolls = a.scrolls;
    }

-- it moves no more than it must: a box that is within the bounds as its alignment says stands so. Where the axis scrolls the bounds have no
-- end edge.
abbrev pub OverflowMovesNoMore : Type 0
OverflowMovesNoMore =
    (a : OofAxis) (size : Float) → Whole a size → Overflows a size
    → (a.scrolls && a.reversed ≡ false → BeginsFrom (with_safety Unsafe a) size (bounds a).start)
    → (a.scrolls && not a.reversed ≡ false → EndsBy (with_safety Unsafe a) size (bounds a).end)
    → (placement a size).position ∷ [] =Σ (placement (with_safety Unsafe a) size).position ∷ []

-- one that would pass an edge of the bounds, as its alignment says, stops at it; an end edge of a scrolling axis is none
abbrev pub OverflowStopsAtStart : Type 0
OverflowStopsAtStart =
    (a : OofAxis) (size : Float) → Whole a size → Overflows a size → a.scrolls && a.reversed ≡ false
    → (a.scrolls ≡ false → le (margin_box a size) (span (bounds a)) ≡ true) → BeginsBy (with_safety Unsafe a) size (bounds a).start
    → BeginsAt a size (bounds a).start

abbrev pub OverflowStopsAtEnd : Type 0
OverflowStopsAtEnd =
    (a : OofAxis) (size : Float) → Whole a size → Overflows a size → a.scrolls && not a.reversed ≡ false
    → (a.scrolls ≡ false → le (margin_box a size) (span (bounds a)) ≡ true) → EndsFrom (with_safety Unsafe a) size (bounds a).end
    → EndsAt a size (bounds a).end

-- one that is larger than the bounds stands at their start edge, where the axis doesn't scroll
abbrev pub TooLargeAtStart : Type 0
TooLargeAtStart =
    (a : OofAxis) (size : Float) → Whole a size → Overflows a size → a.scrolls ≡ false → le (margin_box a size) (span (bounds a)) ≡ false
    → (a.reversed ≡ false → BeginsAt a size (bounds a).start) × (a.reversed ≡ true → EndsAt a size (bounds a).end)

-- ---- the block around a static center, and the stretch-fit size

-- as far from the center on either side, within the area, up to the nearer edge of it
pub record AroundStaticCenter (a : OofAxis) : Type 0 where
  pub even : (block a).start ∷ (block a).end ∷ [] =Σ a.place.area.start ∷ a.place.area.end ∷ []
  pub in_start : 0f ∷ [] ≤Σ (block a).start ∷ []
  pub in_end : (block a).end ∷ [] ≤Σ a.size ∷ []
  pub touches : ((block a).start ≐ 0f) ⊎ ((block a).end ≐ a.size)

-- where the center lies in the area. `size` has no other role than to satisfy `Whole`.
abbrev pub BlockAroundStaticCenter : Type 0
BlockAroundStaticCenter =
    (a : OofAxis) (size : Float) → Whole a size → NoInset a → a.place.align.keyword ≡ Center
    → (0f ∷ [] ≤Σ a.place.area.start ∷ a.place.area.end ∷ []) → (a.place.area.start ∷ a.place.area.end ∷ [] ≤Σ a.size ∷ a.size ∷ [])
    → AroundStaticCenter a

-- a stretch-fit size above 0 is what the margins leave of the block; one of 0 has margins that leave nothing
pub record StretchIs (a : OofAxis) : Type 0 where
  pub fills : lt 0f (stretch_fit a) ≡ true → (block a).start ∷ or_zero a.margin.start ∷ stretch_fit a ∷ or_zero a.margin.end ∷ [] =Σ (block a).end ∷ []
  pub none : lt 0f (stretch_fit a) ≡ false → (stretch_fit a ≐ 0f) × ((block a).end ∷ [] ≤Σ (block a).start ∷ or_zero a.margin.start ∷ or_zero a.margin.end ∷ [])

-- `size` has no other role than to satisfy `Whole`.
abbrev pub StretchFits : Type 0
StretchFits = (a : OofAxis) (size : Float) → Whole a size → StretchIs a

-- so the margin box of a stretched box between two insets is the block
abbrev pub StretchedBoxIsTheBlock : Type 0
StretchedBoxIsTheBlock =
    (a : OofAxis) (size : Float) → Whole a size → Aligned a → size ≐ stretch_fit a → lt 0f size ≡ true → BeginsAt a size (block a).start × EndsAt a size (block a).end

-- the same with any insets and margins, where the block's size is above 0: two insets, one or none, margins given or auto. (Without insets a
-- block of size 0 needn't be where the box stands.)
abbrev pub StretchedBoxIsTheBlockWithAnyInsets : Type 0
StretchedBoxIsTheBlockWithAnyInsets =
    (a : OofAxis) (size : Float) → Whole a size → size ≐ stretch_fit a → lt 0f size ≡ true → lt 0f (span (block a)) ≡ true
    → BeginsAt a size (block a).start × EndsAt a size (block a).end

-- the static position lies in the area: the edge that it has, or the middle of its static area
pub record StaticPositionInside (a : OofAxis) : Type 0 where
  pub start : a.place.align.keyword ≡ Start → (0f ∷ [] ≤Σ a.place.area.start ∷ []) × (a.place.area.start ∷ [] ≤Σ a.size ∷ [])
  pub center : a.place.align.keyword ≡ Center → (0f ∷ [] ≤Σ a.place.area.start ∷ a.place.area.end ∷ []) × (a.place.area.start ∷ a.place.area.end ∷ [] ≤Σ a.size ∷ a.size ∷ [])
  pub end : a.place.align.keyword ≡ End → (0f ∷ [] ≤Σ a.place.area.end ∷ []) × (a.place.area.end ∷ [] ≤Σ a.size ∷ [])

-- then the block that a static position leads to lies in the area. `size` has no other role than to satisfy `Whole`.
abbrev pub StaticBlockInside : Type 0
StaticBlockInside =
    (a : OofAxis) (size : Float) → Whole a size → NoInset a → StaticPositionInside a → (0f ∷ [] ≤Σ (block a).start ∷ []) × ((block a).end ∷ [] ≤Σ a.size ∷ [])

-- a static position that leaves nothing of the area: a start edge at its end or beyond it, an end edge at 0 or before it, a middle at or beyond
-- either
pub record StaticPositionLeavesNothing (a : OofAxis) : Type 0 where
  pub start : a.place.align.keyword ≡ Start → (a.size ∷ [] ≤Σ a.place.area.start ∷ [])
  pub center : a.place.align.keyword ≡ Center → (a.place.area.start ∷ a.place.area.end ∷ [] ≤Σ 0f ∷ []) ⊎ (a.size ∷ a.size ∷ [] ≤Σ a.place.area.start ∷ a.place.area.end ∷ [])
  pub end : a.place.align.keyword ≡ End → (a.place.area.end ∷ [] ≤Σ 0f ∷ [])

-- then the block is empty, in an area larger than 0. (In one of size 0 or less a center at 30 has a block from 0 to 60.) `size` has no other role
-- than to satisfy `Whole`.
abbrev pub StaticBlockIsEmpty : Type 0
StaticBlockIsEmpty =
    (a : OofAxis) (size : Float) → Whole a size → NoInset a → lt 0f a.size ≡ true → StaticPositionLeavesNothing a → span (block a) ≐ 0f

-- ---- the stretch size of a size keyword (request #106)

-- the block less the margins that aren't auto, each taken off in turn; at least 0. This is the definition's own formula
-- (oof_box/specs/Box.antt: `axis_stretch`), by which the laws of a box speak (oof_box_laws/specs/Keywords.antt).
-- `StretchSizeIsStretchFit` and `StretchSizeAsTheRust` tie it to CSS's size and to the Rust's.
abbrev pub stretch_size : OofAxis → Float
stretch_size a = larger (span (block a) ⊖ or_zero a.margin.start ⊖ or_zero a.margin.end) 0f

-- it is a number and at least 0, whatever the axis holds
abbrev pub StretchSizeIsASize : Type 0
StretchSizeIsASize = (a : OofAxis) → (is_nan (stretch_size a) ≡ false) × (le 0f (stretch_size a) ≡ true)

-- it is the stretch-fit size, where nothing is rounded. `size` has no other role than to satisfy `Whole`.
abbrev pub StretchSizeIsStretchFit : Type 0
StretchSizeIsStretchFit = (a : OofAxis) (size : Float) → Whole a size → stretch_size a ≐ stretch_fit a

-- the Rust's: the area less insets and margins, each taken off in turn, an absent one as 0; at least 0
abbrev pub rust_stretch_size : OofAxis → Float
rust_stretch_size a = larger (a.size ⊖ or_zero a.inset.start ⊖ or_zero a.inset.end ⊖ or_zero a.margin.start ⊖ or_zero a.margin.end) 0f

-- where both insets are given and don't cross, the block is what they leave of the area, and the two are one number
abbrev pub StretchSizeAsTheRust : Type 0
StretchSizeAsTheRust =
    (a : OofAxis) (size : Float) → Whole a size → TwoInsets a → lt (a.size ⊖ or_zero a.inset.end) (or_zero a.inset.start) ≡ false → stretch_size a ≐ rust_stretch_size a
