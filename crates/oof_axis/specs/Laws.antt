-- What CSS says of one axis, as laws of floats that hold whatever the axis holds, NaN and infinities included: css-position-3
-- #resolving-insets, #abspos-margins, #abspos-alignment, css-align-3 #auto-safety-position. Each speaks of what comes out (`block`,
-- `stretch_fit`, `stretches`, `placement`) and of no step that leads there, so that a step can't be misread in the law as in the definition.
-- What needs exact sums is stated on whole quarter pixels: oof_axis_laws/specs/Laws.antt. `proofs/Laws.antt` proves each, under its name in
-- small letters. `block` is the inset-modified containing block, the area the containing block. Laws that are document 01's and the Rust's,
-- where CSS says otherwise, say so. Assumes nothing.
use Rattle.std.specs.Prelude.{◌≡◌, Bool, true, false, ◌&&◌, Float, None, Some, is_some}
use Rattle.std.specs.Float.Ieee.{lt, le, is_nan}
use Rattle.util.specs.Number.{◌⊕◌, ◌⊖◌, ◌⊘◌, 0f, 2f}
use Rattle.util.specs.Order.{smaller}
use Rattle.util.specs.Maybe.{or_zero}
use Rattle.geometry.specs.Geometry.{◌to◌, span}
use Rattle.style.specs.declared.alignment.AlignmentSafety.TheVariants.{Default, Unsafe, Safe}
use Rattle.tree.specs.declared.layout.AxisStaticEdge.{AxisStaticEdge}
use Rattle.tree.specs.declared.layout.AxisStaticEdge.TheVariants.{Start, Center, End}
use Rattle.oof_axis.specs.declared.OofAlignment.{OofAlignment}
use Rattle.oof_axis.specs.declared.OofAlignment.TheVariants as align
use Rattle.oof_axis.specs.declared.OofAxis.{OofAxis}
use Rattle.oof_axis.specs.Axis.{block, stretch_fit, stretches, placement}

-- ---- kinds of axis

-- both insets are auto
pub record NoInset (a : OofAxis) : Type 0 where
  pub start : a.inset.start ≡ None
  pub end : a.inset.end ≡ None

-- both are given
pub record TwoInsets (a : OofAxis) : Type 0 where
  pub start : is_some a.inset.start ≡ true
  pub end : is_some a.inset.end ≡ true

-- both insets and both margins are given: the box is aligned in the block
pub record Aligned (a : OofAxis) : Type 0 where
  pub insets : TwoInsets a
  pub margin_start : is_some a.margin.start ≡ true
  pub margin_end : is_some a.margin.end ≡ true

-- the size of the margin box, auto margins being 0
abbrev pub margin_box : OofAxis → Float → Float
margin_box a size = size ⊕ or_zero a.margin.start ⊕ or_zero a.margin.end

-- ---- one inset is held

-- the margin edge stands at it, whatever size, alignment, safety, static position, direction and scrolling; an auto margin is 0
abbrev pub StartInsetHeld : Type 0
StartInsetHeld =
    (a : OofAxis) (x size : Float) → a.inset.start ≡ Some x → a.inset.end ≡ None → (placement a size).position ≡ x ⊕ or_zero a.margin.start

abbrev pub EndInsetHeld : Type 0
EndInsetHeld =
    (a : OofAxis) (y size : Float) → a.inset.start ≡ None → a.inset.end ≡ Some y → (placement a size).position ≡ a.size ⊖ y ⊖ size ⊖ or_zero a.margin.end

-- the block runs from it to the far edge of the area; where that edge lies before it, the block is empty and stands at the inset
abbrev pub StartInsetBlock : Type 0
StartInsetBlock =
    (a : OofAxis) (x : Float) → a.inset.start ≡ Some x → a.inset.end ≡ None
    → (lt a.size x ≡ false → block a ≡ (x to a.size)) × (lt a.size x ≡ true → block a ≡ (x to x))

abbrev pub EndInsetBlock : Type 0
EndInsetBlock =
    (a : OofAxis) (y : Float) → a.inset.start ≡ None → a.inset.end ≡ Some y
    → (lt (a.size ⊖ y) 0f ≡ false → block a ≡ (0f to a.size ⊖ y)) × (lt (a.size ⊖ y) 0f ≡ true → block a ≡ (a.size ⊖ y to a.size ⊖ y))

-- ---- two insets, or none

-- the block is from start to end; where that is negative, its end edge gives way, by direction: the right one, or the left one of a
-- right-to-left axis
pub record BlockIs (a : OofAxis) (start end : Float) : Type 0 where
  pub in_order : lt end start ≡ false → block a ≡ (start to end)
  pub right_gives_way : lt end start ≡ true → a.reversed ≡ false → block a ≡ (start to start)
  pub left_gives_way : lt end start ≡ true → a.reversed ≡ true → block a ≡ (end to end)

-- two insets: the block is between them
abbrev pub BlockBetweenInsets : Type 0
BlockBetweenInsets = (a : OofAxis) (x y : Float) → a.inset.start ≡ Some x → a.inset.end ≡ Some y → BlockIs a x (a.size ⊖ y)

-- none: the block runs from the static position's edge to the far edge of the area (around its center: oof_axis_laws)
abbrev pub BlockFromStaticStart : Type 0
BlockFromStaticStart = (a : OofAxis) → NoInset a → a.place.align.keyword ≡ Start → BlockIs a a.place.area.start a.size

abbrev pub BlockToStaticEnd : Type 0
BlockToStaticEnd = (a : OofAxis) → NoInset a → a.place.align.keyword ≡ End → BlockIs a 0f a.place.area.end

-- whatever the insets, the block doesn't end before it starts
abbrev pub BlockInOrder : Type 0
BlockInOrder = (a : OofAxis) → lt (block a).end (block a).start ≡ false

-- ---- margins

-- a given margin stays, whatever the other is
abbrev pub GivenMarginStays : Type 0
GivenMarginStays =
    (a : OofAxis) (m size : Float) → (a.margin.start ≡ Some m → (placement a size).margin.start ≡ m) × (a.margin.end ≡ Some m → (placement a size).margin.end ≡ m)

-- where an inset is auto, auto margins are 0
abbrev pub AutoMarginsAreZero : Type 0
AutoMarginsAreZero =
    (a : OofAxis) (size : Float) → is_some a.inset.start && is_some a.inset.end ≡ false
    → (placement a size).margin ≡ (or_zero a.margin.start to or_zero a.margin.end)

-- two auto margins are equal where the free space isn't negative and, in the block axis, always
abbrev pub AutoMarginsAreEqual : Type 0
AutoMarginsAreEqual =
    (a : OofAxis) (size : Float) → TwoInsets a → a.margin.start ≡ None → a.margin.end ≡ None → lt (span (block a) ⊖ size) 0f && a.inline ≡ false
    → (placement a size).margin.start ≡ (placement a size).margin.end

-- else the start one is 0 and the end one takes it: by direction
abbrev pub NegativeSpaceGoesToTheEnd : Type 0
NegativeSpaceGoesToTheEnd =
    (a : OofAxis) (size : Float) → TwoInsets a → a.margin.start ≡ None → a.margin.end ≡ None → lt (span (block a) ⊖ size) 0f ≡ true → a.inline ≡ true
    → (a.reversed ≡ false → (placement a size).margin ≡ (0f to span (block a) ⊖ size)) × (a.reversed ≡ true → (placement a size).margin ≡ (span (block a) ⊖ size to 0f))

-- a lone auto margin takes the free space less the other
abbrev pub LoneAutoMarginTakesTheRest : Type 0
LoneAutoMarginTakesTheRest =
    (a : OofAxis) (m size : Float) → TwoInsets a
    → (a.margin.start ≡ Some m → a.margin.end ≡ None → (placement a size).margin.end ≡ span (block a) ⊖ size ⊖ m)
    × (a.margin.start ≡ None → a.margin.end ≡ Some m → (placement a size).margin.start ≡ span (block a) ⊖ size ⊖ m)

-- between two insets, a box with an auto margin begins where the block does (that it ends there too: oof_axis_laws)
abbrev pub AutoMarginBeginsWithBlock : Type 0
AutoMarginBeginsWithBlock =
    (a : OofAxis) (size : Float) → TwoInsets a → is_some a.margin.start && is_some a.margin.end ≡ false
    → (placement a size).position ≡ (block a).start ⊕ (placement a size).margin.start

-- ---- alignment

-- the margin box at the block's start edge (the right one of a right-to-left axis), at its end edge, in its middle
abbrev pub AtStart : OofAxis → Float → Type 0
AtStart a size =
    (a.reversed ≡ false → (placement a size).position ≡ (block a).start ⊕ or_zero a.margin.start)
    × (a.reversed ≡ true → (placement a size).position ≡ (block a).end ⊖ margin_box a size ⊕ or_zero a.margin.start)

abbrev pub AtEnd : OofAxis → Float → Type 0
AtEnd a size =
    (a.reversed ≡ false → (placement a size).position ≡ (block a).end ⊖ margin_box a size ⊕ or_zero a.margin.start)
    × (a.reversed ≡ true → (placement a size).position ≡ (block a).start ⊕ or_zero a.margin.start)

abbrev pub AtCenter : OofAxis → Float → Type 0
AtCenter a size = (placement a size).position ≡ ((block a).start ⊕ (block a).end ⊖ margin_box a size) ⊘ 2f ⊕ or_zero a.margin.start

-- as the alignment says: normal and stretch are start
abbrev pub AsTold : OofAlignment → OofAxis → Float → Type 0
AsTold align.Normal a size = AtStart a size
AsTold align.Stretch a size = AtStart a size
AsTold align.Start a size = AtStart a size
AsTold align.Center a size = AtCenter a size
AsTold align.End a size = AtEnd a size

-- what fits the block stands as told, whatever its safety; what is unsafe does so always
abbrev pub FitsAsTold : Type 0
FitsAsTold = (a : OofAxis) (size : Float) → Aligned a → le (margin_box a size) (span (block a)) ≡ true → AsTold a.alignment a size

abbrev pub UnsafeAsTold : Type 0
UnsafeAsTold = (a : OofAxis) (size : Float) → Aligned a → a.safety ≡ Unsafe → AsTold a.alignment a size

-- normal stands at the block's start edge, whatever its size and the area's: it has no limit
abbrev pub NormalAtStart : Type 0
NormalAtStart = (a : OofAxis) (size : Float) → Aligned a → a.alignment ≡ align.Normal → AtStart a size

-- a safe box that overflows the block stands at its start edge
abbrev pub SafeOverflowAtStart : Type 0
SafeOverflowAtStart = (a : OofAxis) (size : Float) → Aligned a → a.safety ≡ Safe → lt (span (block a)) (margin_box a size) ≡ true → AtStart a size

-- by default a box that overflows the block, other than under normal alignment, is held by the area's bounds too
pub record Overflows (a : OofAxis) (size : Float) : Type 0 where
  pub aligned : Aligned a
  pub safety : a.safety ≡ Default
  pub alignment : a.alignment ≡ align.Normal → ⊥
  pub over : le (margin_box a size) (span (block a)) ≡ false

-- it doesn't begin before both the block and the area: left-to-right and in the block axis (in both directions: oof_axis_laws)
abbrev pub OverflowIsReachable : Type 0
OverflowIsReachable =
    (a : OofAxis) (size : Float) → Overflows a size → a.reversed ≡ false
    → (begin : Float) × ((placement a size).position ≡ begin ⊕ or_zero a.margin.start) × (le (smaller (block a).start 0f) begin ≡ true)

-- ---- the static position

-- the edge is held: whatever alignment, direction, block and area
abbrev pub StaticAsTold : AxisStaticEdge → OofAxis → Float → Type 0
StaticAsTold Start a size = (placement a size).position ≡ a.place.area.start ⊕ or_zero a.margin.start
StaticAsTold Center a size = (placement a size).position ≡ (a.place.area.start ⊕ a.place.area.end ⊖ margin_box a size) ⊘ 2f ⊕ or_zero a.margin.start
StaticAsTold End a size = (placement a size).position ≡ a.place.area.end ⊖ margin_box a size ⊕ or_zero a.margin.start

-- unless the box is safe and overflows the block (document 01 and the Rust; CSS tests the static position's rectangle)
abbrev pub StaticEdgeHeld : Type 0
StaticEdgeHeld =
    (a : OofAxis) (size : Float) → NoInset a → (a.place.align.safety ≡ Safe → lt (span (block a)) (margin_box a size) ≡ false)
    → StaticAsTold a.place.align.keyword a size

-- then it stands at the block's start edge (as before, document 01's)
abbrev pub StaticSafeAtStart : Type 0
StaticSafeAtStart = (a : OofAxis) (size : Float) → NoInset a → a.place.align.safety ≡ Safe → lt (span (block a)) (margin_box a size) ≡ true → AtStart a size

-- an axis with another fallback edge
abbrev pub with_fallback : AxisStaticEdge → OofAxis → OofAxis
with_fallback e a =
    record {
      size = a.size;
      inset = a.inset;
      margin = a.margin;
      place =
          record {
            area = a.place.area;
            align = record { keyword = a.place.align.keyword; safety = a.place.align.safety; fallback = e };
          };
      alignment = a.alignment;
      safety = a.safety;
      inline = a.inline;
      reversed = a.reversed;
      scrolls = a.scrolls;
    }

-- a box is placed without a look at the fallback edge of its static position (document 01 and the Rust)
abbrev pub FallbackUnread : Type 0
FallbackUnread = (a : OofAxis) (e : AxisStaticEdge) (size : Float) → placement (with_fallback e a) size ≡ placement a size

-- ---- automatic sizes

-- the alignments that stretch an auto size
abbrev pub stretches_as : OofAlignment → Bool → Bool
stretches_as align.Normal plain = plain
stretches_as align.Stretch plain = true
stretches_as align.Start plain = false
stretches_as align.Center plain = false
stretches_as align.End plain = false

-- an auto size fills the block between two insets only: where the alignment is stretch, and for normal where the box is neither replaced
-- nor a table
abbrev pub StretchesBetweenInsets : Type 0
StretchesBetweenInsets =
    (a : OofAxis) (plain : Bool)
    → (is_some a.inset.start && is_some a.inset.end ≡ false → stretches a plain ≡ false)
    × (TwoInsets a → stretches a plain ≡ stretches_as a.alignment plain)

-- the stretch-fit size is a number, and at least 0, whatever the axis holds (that it fills the block: oof_axis_laws)
abbrev pub StretchFitIsASize : Type 0
StretchFitIsASize = (a : OofAxis) → (is_nan (stretch_fit a) ≡ false) × (le 0f (stretch_fit a) ≡ true)
