-- What a style comes to before the host is asked (document 01, "One box", steps 1 to 3), as laws of `resolved_box` on the style's own words:
-- css-position-3 #abspos-layout, css-align-3 #self-alignment, css-writing-modes-4 #logical-to-physical (of a horizontal writing mode),
-- css-sizing-3, css-sizing-4 #aspect-ratio, css-box-4. `proofs/` proves each, under its name in small letters. Assumes nothing.
use Rattle.std.specs.Prelude.{◌≡◌, ◌⊎◌, Bool, true, false, cond, eqb, Float, None, Option, Some}
use Rattle.util.specs.Number.{◌⊕◌, ◌⊗◌, ◌⊘◌, 0f}
use Rattle.util.specs.Order.{larger}
use Rattle.util.specs.Maybe.{clamped}
use Rattle.util_exact.specs.Value.{−0f}
use Rattle.geometry.specs.Geometry.{zero_size, absent_size, definite, rect_sum, sums, counted_from}
use Rattle.geometry.specs.declared.Size.{Size}
use Rattle.style.specs.Resolve.{resolved}
use Rattle.style.specs.declared.BoxSizing.{BoxSizing}
use Rattle.style.specs.declared.BoxSizing.TheVariants.{BorderBox, ContentBox}
use Rattle.style.specs.declared.Direction.TheVariants.{Ltr, Rtl}
use Rattle.style.specs.declared.Overflow.{Overflow}
use Rattle.style.specs.declared.Overflow.TheVariants.{Visible, Clip, Hidden, Scroll}
use Rattle.style.specs.declared.Style.{Style}
use Rattle.style.specs.declared.alignment.AlignItemsKeyword.{AlignItemsKeyword}
use Rattle.style.specs.declared.alignment.AlignItemsKeyword.TheVariants as keyword
use Rattle.style.specs.declared.compact_length.CompactLength.{CompactLength}
use Rattle.geometry.specs.declared.Rect.{Rect}
use Rattle.style.specs.declared.resolve.Field.{Field}
use Rattle.tree.specs.declared.layout.OofCandidate.{OofCandidate}
use Rattle.oof_axis.specs.declared.OofAlignment.{OofAlignment}
use Rattle.oof_axis.specs.declared.OofAlignment.TheVariants as align
use Rattle.oof_resolve.specs.Resolved.{resolved_box}
use Rattle.oof_resolve.specs.declared.ContainingBlock.{ContainingBlock}
use Rattle.oof_resolve.specs.declared.ResolvedBox.{ResolvedBox}
use Rattle.oof_box.specs.Box.{placed}

-- ---- lengths, by tag

-- auto; of a max it is called none
abbrev pub IsAuto : CompactLength → Type 0
IsAuto l = l.tag ≡ 3

-- a size, min or max takes content too, which is auto
abbrev pub IsAutoSize : CompactLength → Type 0
IsAutoSize l = (l.tag ≡ 3) ⊎ (l.tag ≡ 35)

abbrev pub IsStretchKeyword : CompactLength → Type 0
IsStretchKeyword l = l.tag ≡ 75

-- a size keyword: min-content, fit-content of a percentage, max-content, fit-content of pixels, fit-content, stretch
abbrev pub HasKeyword : CompactLength → Type 0
HasKeyword l = (l.tag ≡ 11) ⊎ ((l.tag ≡ 15) ⊎ ((l.tag ≡ 27) ⊎ ((l.tag ≡ 43) ⊎ ((l.tag ≡ 59) ⊎ IsStretchKeyword l))))

-- auto or a keyword: it comes to no number of pixels
abbrev pub NoLength : CompactLength → Type 0
NoLength l = IsAutoSize l ⊎ HasKeyword l

-- what a length comes to: pixels are themselves, a percentage is of the basis, a sum is that percentage plus the second value, each operation
-- rounded once and no range kept (css-values-4 #calc-range would raise a negative sum to 0 in padding, border and sizes). The second value of
-- the other two may be any
pub data Comes (basis : Float) : CompactLength → Float → Type 0 where
  as_pixels : {x any : Float} → Comes basis (record { tag = 1; value = x; second = any }) x
  as_percent : {x any : Float} → Comes basis (record { tag = 5; value = x; second = any }) (basis ⊗ x)
  as_sum : {x y : Float} → Comes basis (record { tag = 129; value = x; second = y }) ((basis ⊗ x) ⊕ y)

-- a sum with a second value of -0 is its percentage: in every field and of every basis, a zero's sign included
abbrev pub SumWithNothing : Type 0
SumWithNothing =
    (f : Field) (l : CompactLength) (basis : Float) → l.tag ≡ 129 → l.second ≡ −0f
    → resolved f l basis ≡ resolved f (record { tag = 5; value = l.value; second = l.second }) basis

-- ---- the two axes

-- overflow hidden and scroll make a scroll container, visible and clip don't (css-overflow-3 #overflow-control)
pub record ScrollsBy (overflow : Overflow) (scrolls : Bool) : Type 0 where
  pub visible : overflow ≡ Visible → scrolls ≡ false
  pub clip : overflow ≡ Clip → scrolls ≡ false
  pub hidden : overflow ≡ Hidden → scrolls ≡ true
  pub scroll : overflow ≡ Scroll → scrolls ≡ true

-- The horizontal axis is the inline axis, the vertical one the block axis. Each has the area's extent, and the static position counted from
-- the area's edge. It runs from left to right, in a right-to-left containing block from right to left, and always from top to bottom. It
-- scrolls as the container's overflow of that axis says.
pub record AxesOf (container : ContainingBlock) (candidate : OofCandidate) (box : ResolvedBox) : Type 0 where
  pub width : box.horizontal.size ≡ container.area.size.width
  pub height : box.vertical.size ≡ container.area.size.height
  pub inline_axis : box.horizontal.inline ≡ true
  pub block_axis : box.vertical.inline ≡ false
  pub place_x : box.horizontal.place.area ≡ counted_from candidate.place.x.area container.area.offset.x
  pub place_y : box.vertical.place.area ≡ counted_from candidate.place.y.area container.area.offset.y
  pub place_align_x : box.horizontal.place.align ≡ candidate.place.x.align
  pub place_align_y : box.vertical.place.align ≡ candidate.place.y.align
  pub left_to_right : container.direction ≡ Ltr → box.horizontal.reversed ≡ false
  pub right_to_left : container.direction ≡ Rtl → box.horizontal.reversed ≡ true
  pub top_to_bottom : box.vertical.reversed ≡ false
  pub scrolls_x : ScrollsBy container.overflow.x box.horizontal.scrolls
  pub scrolls_y : ScrollsBy container.overflow.y box.vertical.scrolls

abbrev pub AxesOfTheBlock : Type 0
AxesOfTheBlock = (container : ContainingBlock) (style : Style) (candidate : OofCandidate) → AxesOf container candidate (resolved_box container style candidate)

-- ---- insets, margins, padding and border. Left and top are the start of their axis, right and bottom the end.

-- margins, padding and border are their pixels; percentages and sums, top and bottom too, are of the area's width (border by document 01: CSS
-- borders take none)
pub record OfTheWidth (w x : Float) (style : Style) (box : ResolvedBox) : Type 0 where
  pub margin_left : Comes w style.margin.left x → box.horizontal.margin.start ≡ Some x
  pub margin_right : Comes w style.margin.right x → box.horizontal.margin.end ≡ Some x
  pub margin_top : Comes w style.margin.top x → box.vertical.margin.start ≡ Some x
  pub margin_bottom : Comes w style.margin.bottom x → box.vertical.margin.end ≡ Some x
  pub padding_left : Comes w style.padding.left x → box.padding.left ≡ x
  pub padding_right : Comes w style.padding.right x → box.padding.right ≡ x
  pub padding_top : Comes w style.padding.top x → box.padding.top ≡ x
  pub padding_bottom : Comes w style.padding.bottom x → box.padding.bottom ≡ x
  pub border_left : Comes w style.border.left x → box.border.left ≡ x
  pub border_right : Comes w style.border.right x → box.border.right ≡ x
  pub border_top : Comes w style.border.top x → box.border.top ≡ x
  pub border_bottom : Comes w style.border.bottom x → box.border.bottom ≡ x

abbrev pub PercentagesOfTheWidth : Type 0
PercentagesOfTheWidth =
    (container : ContainingBlock) (style : Style) (candidate : OofCandidate) (x : Float) → OfTheWidth container.area.size.width x style (resolved_box container style candidate)

-- insets are their pixels; percentages and sums are of their own axis
pub record OfTheirAxis (area : Size Float) (x : Float) (style : Style) (box : ResolvedBox) : Type 0 where
  pub left : Comes area.width style.inset.left x → box.horizontal.inset.start ≡ Some x
  pub right : Comes area.width style.inset.right x → box.horizontal.inset.end ≡ Some x
  pub top : Comes area.height style.inset.top x → box.vertical.inset.start ≡ Some x
  pub bottom : Comes area.height style.inset.bottom x → box.vertical.inset.end ≡ Some x

abbrev pub InsetsOfTheirAxis : Type 0
InsetsOfTheirAxis =
    (container : ContainingBlock) (style : Style) (candidate : OofCandidate) (x : Float) → OfTheirAxis container.area.size x style (resolved_box container style candidate)

-- an auto inset or margin is none
pub record AutoSides (style : Style) (box : ResolvedBox) : Type 0 where
  pub left : IsAuto style.inset.left → box.horizontal.inset.start ≡ None
  pub right : IsAuto style.inset.right → box.horizontal.inset.end ≡ None
  pub top : IsAuto style.inset.top → box.vertical.inset.start ≡ None
  pub bottom : IsAuto style.inset.bottom → box.vertical.inset.end ≡ None
  pub margin_left : IsAuto style.margin.left → box.horizontal.margin.start ≡ None
  pub margin_right : IsAuto style.margin.right → box.horizontal.margin.end ≡ None
  pub margin_top : IsAuto style.margin.top → box.vertical.margin.start ≡ None
  pub margin_bottom : IsAuto style.margin.bottom → box.vertical.margin.end ≡ None

abbrev pub AutoSidesAreNone : Type 0
AutoSidesAreNone = (container : ContainingBlock) (style : Style) (candidate : OofCandidate) → AutoSides style (resolved_box container style candidate)

-- ---- self-alignment

-- what each keyword says; flex-start and flex-end are start and end outside a flex container, baseline is start (document 01 and the Rust;
-- css-align-3 falls back to safe self-start)
pub record AlignedBy (k : AlignItemsKeyword) (ownStart ownEnd : OofAlignment) (a : OofAlignment) : Type 0 where
  pub normal : k ≡ keyword.Normal → a ≡ align.Normal
  pub stretch : k ≡ keyword.Stretch → a ≡ align.Stretch
  pub center : k ≡ keyword.Center → a ≡ align.Center
  pub start : k ≡ keyword.Start → a ≡ align.Start
  pub end : k ≡ keyword.End → a ≡ align.End
  pub flex_start : k ≡ keyword.FlexStart → a ≡ align.Start
  pub flex_end : k ≡ keyword.FlexEnd → a ≡ align.End
  pub self_start : k ≡ keyword.SelfStart → a ≡ ownStart
  pub self_end : k ≡ keyword.SelfEnd → a ≡ ownEnd
  pub baseline : k ≡ keyword.Baseline → a ≡ align.Start

-- Justify-self aligns in the horizontal axis, align-self in the vertical one, each with its own safety. Start and end are the containing
-- block's, self-start and self-end the box's own: in the horizontal axis, of a box that runs against its containing block, they are end and
-- start.
pub record AlignmentOf (container : ContainingBlock) (style : Style) (box : ResolvedBox) : Type 0 where
  pub along : style.direction ≡ container.direction → AlignedBy style.justify.keyword align.Start align.End box.horizontal.alignment
  pub against : (style.direction ≡ container.direction → ⊥) → AlignedBy style.justify.keyword align.End align.Start box.horizontal.alignment
  pub vertical : AlignedBy style.align.keyword align.Start align.End box.vertical.alignment
  pub justify_safety : box.horizontal.safety ≡ style.justify.safety
  pub align_safety : box.vertical.safety ≡ style.align.safety

abbrev pub AlignmentOfTheStyle : Type 0
AlignmentOfTheStyle = (container : ContainingBlock) (style : Style) (candidate : OofCandidate) → AlignmentOf container style (resolved_box container style candidate)

-- ---- size, min and max

-- padding plus border
abbrev pub padding_border_of : ResolvedBox → Size Float
padding_border_of box = sums (rect_sum box.padding box.border)

-- what a length of a box sizing leaves out: padding plus border where it is of the content box
abbrev pub left_out : BoxSizing → Size Float → Size Float
left_out BorderBox paddingBorder = zero_size
left_out ContentBox paddingBorder = paddingBorder

abbrev pub to_border_box : Style → ResolvedBox → Size Float
to_border_box style box = left_out style.sizing (padding_border_of box)

-- Size, min and max take percentages and sums of their own axis. Lengths are of the content box where the box sizing says so: padding plus border is
-- added. Min is at least padding plus border, and the size is clamped. A ratio changes no side that is given.
pub record OfItsBox (area : Size Float) (x : Float) (style : Style) (box : ResolvedBox) : Type 0 where
  pub max_width : Comes area.width style.max.width x → box.max.width ≡ Some (x ⊕ (to_border_box style box).width)
  pub max_height : Comes area.height style.max.height x → box.max.height ≡ Some (x ⊕ (to_border_box style box).height)
  pub min_width : Comes area.width style.min.width x → box.min.width ≡ Some (larger (x ⊕ (to_border_box style box).width) (padding_border_of box).width)
  pub min_height : Comes area.height style.min.height x → box.min.height ≡ Some (larger (x ⊕ (to_border_box style box).height) (padding_border_of box).height)
  pub width : Comes area.width style.size.width x → box.size.width ≡ Some (clamped (x ⊕ (to_border_box style box).width) box.min.width box.max.width)
  pub height : Comes area.height style.size.height x → box.size.height ≡ Some (clamped (x ⊕ (to_border_box style box).height) box.min.height box.max.height)

abbrev pub SizesOfItsBox : Type 0
SizesOfItsBox =
    (container : ContainingBlock) (style : Style) (candidate : OofCandidate) (x : Float) → OfItsBox container.area.size x style (resolved_box container style candidate)

-- auto is no size and no max, and a min of padding plus border: of a side without a ratio, and of two sides with or without one
pub record AutoIs (absent : Size (Option Float)) (ratio : Option Float) (lengths : Size CompactLength) (found : Size (Option Float)) : Type 0 where
  pub width : ratio ≡ None → IsAutoSize lengths.width → found.width ≡ absent.width
  pub height : ratio ≡ None → IsAutoSize lengths.height → found.height ≡ absent.height
  pub both : IsAutoSize lengths.width → IsAutoSize lengths.height → found ≡ absent

abbrev pub AutoIsNoSize : Type 0
AutoIsNoSize =
    (container : ContainingBlock) (style : Style) (candidate : OofCandidate)
    → let box = resolved_box container style candidate in
    AutoIs absent_size style.ratio style.size box.size × AutoIs absent_size style.ratio style.max box.max
    × AutoIs (definite (padding_border_of box)) style.ratio style.min box.min

-- a ratio r, of width to height, completes a lone side: width = r × height, height = width ÷ r; of size, min and max. The side that it
-- completes is auto or has a size keyword, which then has no say (document 01's and the Rust's; in CSS the keyword holds: css-sizing-4 #aspect-ratio
-- completes auto sizes).
pub record RatioOf (area : Size Float) (r x : Float) (style : Style) (box : ResolvedBox) : Type 0 where
  pub max_width : NoLength style.max.width → Comes area.height style.max.height x → box.max.width ≡ Some (x ⊗ r ⊕ (to_border_box style box).width)
  pub max_height : NoLength style.max.height → Comes area.width style.max.width x → box.max.height ≡ Some (x ⊘ r ⊕ (to_border_box style box).height)
  pub min_width : NoLength style.min.width → Comes area.height style.min.height x → box.min.width ≡ Some (larger (x ⊗ r ⊕ (to_border_box style box).width) (padding_border_of box).width)
  pub min_height : NoLength style.min.height → Comes area.width style.min.width x → box.min.height ≡ Some (larger (x ⊘ r ⊕ (to_border_box style box).height) (padding_border_of box).height)
  pub width : NoLength style.size.width → Comes area.height style.size.height x → box.size.width ≡ Some (clamped (x ⊗ r ⊕ (to_border_box style box).width) box.min.width box.max.width)
  pub height : NoLength style.size.height → Comes area.width style.size.width x → box.size.height ≡ Some (clamped (x ⊘ r ⊕ (to_border_box style box).height) box.min.height box.max.height)

abbrev pub RatioCompletes : Type 0
RatioCompletes =
    (container : ContainingBlock) (style : Style) (candidate : OofCandidate) (r x : Float) → style.ratio ≡ Some r
    → RatioOf container.area.size r x style (resolved_box container style candidate)

-- ---- second values: a length that is no sum may have any (request #105, "Other tags ignore the second value")

abbrev pub without_second : CompactLength → CompactLength
without_second l = record { tag = l.tag; value = l.value; second = cond (eqb l.tag 129) l.second 0f }

abbrev pub rect_without_seconds : Rect CompactLength → Rect CompactLength
rect_without_seconds r =
    record { left = without_second r.left; right = without_second r.right; top = without_second r.top; bottom = without_second r.bottom }

abbrev pub size_without_seconds : Size CompactLength → Size CompactLength
size_without_seconds s = record { width = without_second s.width; height = without_second s.height }

-- a style with 0 for the second value of every length that is no sum
abbrev pub without_seconds : Style → Style
without_seconds style =
    record {
      inset = rect_without_seconds style.inset;
      margin = rect_without_seconds style.margin;
      padding = rect_without_seconds style.padding;
      border = rect_without_seconds style.border;
      size = size_without_seconds style.size;
      min = size_without_seconds style.min;
      max = size_without_seconds style.max;
      ratio = style.ratio;
      sizing = style.sizing;
      replaced = style.replaced;
      table = style.table;
      direction = style.direction;
      justify = style.justify;
      align = style.align;
      overflow = style.overflow;
      scrollbar = style.scrollbar;
      contain = style.contain;
    }

-- the whole dialogue is the same with it, whatever the host replies: questions, layout, contribution
abbrev pub SecondValuesUnread : Type 0
SecondValuesUnread = (container : ContainingBlock) (style : Style) (candidate : OofCandidate) → placed container (without_seconds style) candidate ≡ placed container style candidate
