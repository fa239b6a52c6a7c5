-- Document 01's rows: 10 to 13 through the definition of one box, and with 1 to 9 (specs/AxisRows.antt) the row set, which is one test; and
-- rows for request #105's sums and request #106's stretch size.
-- Block size 100 (document 01's word for the area's), margins 0, left-to-right unless said. Each box has a height, so that it asks nothing but to be laid out, unless its width
-- is auto or it is said. Assumes nothing.
use Rattle.std.specs.Prelude.{ℕ, Bool, true, false, not, ◌&&◌, List, [], ◌∷◌, ◌++◌, Float, None, Option, Some}
use Rattle.std.specs.Float.{nan, binary32}
use Rattle.std.specs.Float.Ieee.{eq, neg, of_bits}
use Rattle.util.specs.Number.{0f}
use Rattle.geometry.specs.Geometry.{◌to◌, zero_point, zero_rect, zero_size}
use Rattle.style.specs.declared.BoxSizing.TheVariants.{BorderBox}
use Rattle.style.specs.declared.Direction.{Direction}
use Rattle.style.specs.declared.Direction.TheVariants.{Ltr, Rtl}
use Rattle.style.specs.declared.Overflow.{Overflow}
use Rattle.style.specs.declared.Overflow.TheVariants.{Visible, Scroll}
use Rattle.style.specs.declared.Position.TheVariants.{Absolute}
use Rattle.style.specs.declared.Style.{Style}
use Rattle.style.specs.declared.alignment.AlignItemsKeyword.TheVariants.{Normal}
use Rattle.style.specs.declared.alignment.AlignmentSafety.TheVariants.{Default}
use Rattle.style.specs.declared.available_space.AvailableSpace.{AvailableSpace}
use Rattle.style.specs.declared.available_space.AvailableSpace.TheVariants.{Definite, MinContent, MaxContent}
use Rattle.style.specs.declared.compact_length.CompactLength.{CompactLength}
use Rattle.geometry.specs.declared.Rect.{Rect}
use Rattle.geometry.specs.declared.Size.{Size}
use Rattle.tree.specs.declared.layout.AxisStaticEdge.{AxisStaticEdge}
use Rattle.tree.specs.declared.layout.AxisStaticEdge.TheVariants.{Start, Center, End}
use Rattle.tree.specs.declared.layout.AxisStaticPosition.{AxisStaticPosition}
use Rattle.tree.specs.declared.layout.OofCandidate.{OofCandidate}
use Rattle.oof_resolve.specs.Resolved.{resolved_box}
use Rattle.oof_resolve.specs.declared.ContainingBlock.{ContainingBlock}
use Rattle.oof_box.specs.Talk.{Talk, done, ask, ReplyTo}
use Rattle.oof_box.specs.Box.{Placed, placed}
use Rattle.oof_box.specs.declared.question.Question.{Question}
use Rattle.oof_box.specs.declared.question.Question.TheVariants.{MeasureBoth, MeasureWidth, MeasureHeight, LayOut}
use Rattle.test_oof_box_rows.specs.AxisRows.{px, static, axis_rows}

-- ---- what is given

abbrev pub length : Float → CompactLength
length x = record { tag = 1; value = x; second = 0f }

abbrev pub auto : CompactLength
auto = record { tag = 3; value = 0f; second = 0f }

abbrev pub sides : CompactLength → CompactLength → CompactLength → Rect CompactLength
sides left right others = record { left = left; right = right; top = others; bottom = others }

-- 10 high
abbrev pub ten_high : CompactLength → Size CompactLength
ten_high width = record { width = width; height = length (px 10) }

-- a box by its ratio, insets, margins and size, its min and max width and its left padding; all else auto or 0
unfoldable pub box_with : Option Float → Rect CompactLength → Rect CompactLength → Size CompactLength → CompactLength → CompactLength → CompactLength → Style
box_with ratio inset margin size min max padding =
    record {
      inset = inset;
      margin = margin;
      padding = sides padding (length 0f) (length 0f);
      border = sides (length 0f) (length 0f) (length 0f);
      size = size;
      min = record { width = min; height = auto };
      max = record { width = max; height = auto };
      ratio = ratio;
      sizing = BorderBox;
      replaced = false;
      table = false;
      direction = Ltr;
      justify = record { keyword = Normal; safety = Default };
      align = record { keyword = Normal; safety = Default };
      overflow = record { x = Visible; y = Visible };
      scrollbar = 0f;
      contain = record { layout = false; paint = false };
    }

-- without ratio and margins
abbrev pub box_in : Rect CompactLength → Size CompactLength → CompactLength → CompactLength → CompactLength → Style
box_in inset size min max padding = box_with None inset (sides (length 0f) (length 0f) (length 0f)) size min max padding

-- top and bottom inset auto
abbrev pub box_of : CompactLength → CompactLength → Size CompactLength → CompactLength → CompactLength → CompactLength → Style
box_of left right size min max padding = box_in (sides left right auto) size min max padding

-- an area so wide, and 100 high
unfoldable pub area_of : ℕ → Direction → Overflow → ContainingBlock
area_of width direction overflow =
    record {
      area = record { size = record { width = px width; height = px 100 }; offset = zero_point };
      direction = direction;
      overflow = record { x = overflow; y = overflow };
    }

abbrev pub container_of : Direction → Overflow → ContainingBlock
container_of direction overflow = area_of 100 direction overflow

abbrev pub at_start : AxisStaticPosition
at_start = record { area = 0f to 0f; align = record { keyword = Start; safety = Default; fallback = Start } }

unfoldable pub candidate : OofCandidate
candidate = record { node = 0; order = 0; position = Absolute; place = record { x = at_start; y = at_start }; layer = 7 }

-- what the host replies: a measured size of 0, and the right and bottom edge of the box's own overflow
abbrev pub replied : ℕ → ℕ → (q : Question) → ReplyTo q
replied right bottom (MeasureBoth m) = zero_size
replied right bottom (MeasureWidth m) = 0f
replied right bottom (MeasureHeight m) = 0f
replied right bottom (LayOut l) = record { overflow = record { left = 0f; right = px right; top = 0f; bottom = px bottom }; surfaced = [] }

-- ---- what is found

-- the outcome of the whole dialogue
unfoldable pub outcome : ℕ → ℕ → Talk Placed → Placed
outcome right bottom (done p) = p
outcome right bottom (ask q next) = outcome right bottom (next (replied right bottom q))

unfoldable pub has_width : Style → ℕ → Bool
has_width style w = eq (outcome 0 0 (placed (container_of Ltr Visible) style candidate)).outcome.layout.size.width (px w)

unfoldable pub is : Option Float → ℕ → Bool
is None w = false
is (Some x) w = eq x (px w)

-- min, as step 2 has it
unfoldable pub has_min : Style → ℕ → Bool
has_min style w = is (resolved_box (container_of Ltr Visible) style candidate).min.width w

-- 10: its size, min and max
unfoldable pub clamped_box : Style
clamped_box = box_of auto auto (ten_high (length (px 30))) (length (px 50)) (length (px 20)) (length 0f)

-- 11: min NaN, padding plus border 12; its width is given, or measured
unfoldable pub floored_box : CompactLength → Style
floored_box width = box_of auto auto (ten_high width) (length nan) auto (length (px 12))

unfoldable pub box_rows : List Bool
box_rows =
    -- 10: size 30, min 50, max 20
    has_width clamped_box 50
    -- 11: min NaN, padding plus border 12: the min itself; then the size, where 5 is given, and where 0 is measured
    ∷ has_min (floored_box auto) 12
    ∷ has_width (floored_box (length (px 5))) 12
    ∷ has_width (floored_box auto) 12
    ∷ []

-- ---- rows 12 and 13: what a box adds to the overflow. x counts from the container's start edge.

unfoldable pub adds : ContainingBlock → Style → ℕ → ℕ → Float → Float → Float → Bool
adds container style right bottom start end low =
    let r = (outcome right bottom (placed container style candidate)).outcome.contribution in
    eq r.left start && eq r.right end && eq r.top 0f && eq r.bottom low

-- no width, or no height
unfoldable pub thin_box : Style
thin_box = box_of auto auto (ten_high (length 0f)) auto auto (length 0f)

unfoldable pub flat_box : Style
flat_box = box_of auto auto (record { width = length (px 10); height = length 0f }) auto auto (length 0f)

-- 40 wide, so far before the start edge
unfoldable pub outside : ℕ → Style
outside n = box_of (length (neg (px n))) auto (ten_high (length (px 40))) auto auto (length 0f)

unfoldable pub outside_right : ℕ → Style
outside_right n = box_of auto (length (neg (px n))) (ten_high (length (px 40))) auto auto (length 0f)

unfoldable pub overflow_rows : List Bool
overflow_rows =
    -- 12: visible, size 0 by 10, child right 0, then 5
    adds (container_of Ltr Visible) thin_box 0 0 0f 0f 0f
    ∷ adds (container_of Ltr Visible) thin_box 5 0 0f (px 5) (px 10)
    -- 12, down: size 10 by 0, child bottom 0, then 5
    ∷ adds (container_of Ltr Visible) flat_box 0 0 0f 0f 0f
    ∷ adds (container_of Ltr Visible) flat_box 0 5 0f (px 10) (px 5)
    -- 13: scrolling parent, width 40, at -40, then -39
    ∷ adds (container_of Ltr Scroll) (outside 40) 0 0 0f 0f 0f
    ∷ adds (container_of Ltr Scroll) (outside 39) 0 0 (neg (px 39)) (px 1) (px 10)
    -- 13, right-to-left: so far past the right edge
    ∷ adds (container_of Rtl Scroll) (outside_right 40) 0 0 0f 0f 0f
    ∷ adds (container_of Rtl Scroll) (outside_right 39) 0 0 (neg (px 39)) (px 1) (px 10)
    -- 13, by what overflows: at -40, child right 50
    ∷ adds (container_of Ltr Scroll) (outside 40) 50 0 (neg (px 40)) (px 10) (px 10)
    ∷ []

-- ---- request #105: a sum of a percentage and a length, the area being 100 by 100 unless said

-- half the area less so many pixels
abbrev pub half_less : ℕ → CompactLength
half_less n = record { tag = 129; value = of_bits binary32 0x3F00_0000; second = neg (px n) }

unfoldable pub stands_by : ContainingBlock → OofCandidate → Style → ℕ → ℕ → Bool
stands_by container at style x y = let l = (outcome 0 0 (placed container style at)).outcome.layout.location in eq l.x (px x) && eq l.y (px y)

abbrev pub stands_in : ContainingBlock → Style → ℕ → ℕ → Bool
stands_in container style x y = stands_by container candidate style x y

-- the first question is to measure the width, or else the height, so much being known of the other side
unfoldable pub asks : Bool → ℕ → Talk Placed → Bool
asks wide n (done p) = false
asks wide n (ask (MeasureBoth m) next) = false
asks wide n (ask (MeasureWidth m) next) = wide && is m.known.height n
asks wide n (ask (MeasureHeight m) next) = not wide && is m.known.width n
asks wide n (ask (LayOut l) next) = false

abbrev pub min_content : CompactLength
min_content = record { tag = 11; value = 0f; second = 0f }

-- width min-content, height half less 12
unfoldable pub half_high : Style
half_high = box_of auto auto (record { width = min_content; height = half_less 12 }) auto auto (length 0f)

-- half less 12 in the left and top inset
unfoldable pub half_down : Style
half_down =
    box_in (record { left = half_less 12; right = auto; top = half_less 12; bottom = auto }) (ten_high (length (px 40))) auto auto (length 0f)

-- width half less 12, height min-content, max width as given
unfoldable pub half_wide : CompactLength → Style
half_wide max = box_of auto auto (record { width = half_less 12; height = min_content }) auto max (length 0f)

unfoldable pub sum_rows : List Bool
sum_rows =
    -- the width; a min above it, a max below it
    has_width (box_of auto auto (ten_high (half_less 12)) auto auto (length 0f)) 38
    ∷ has_width (box_of auto auto (ten_high (length (px 10))) (half_less 12) auto (length 0f)) 38
    ∷ has_width (box_of auto auto (ten_high (length (px 90))) auto (half_less 12) (length 0f)) 38
    -- padding: the least width
    ∷ has_min (box_of auto auto (ten_high auto) auto auto (half_less 12)) 38
    -- left inset; right inset, 40 wide
    ∷ stands_in (container_of Ltr Visible) (box_of (half_less 12) auto (ten_high (length (px 40))) auto auto (length 0f)) 38 0
    ∷ stands_in (container_of Ltr Visible) (box_of auto (half_less 12) (ten_high (length (px 40))) auto auto (length 0f)) 22 0
    -- it is a number, no keyword: the other side alone is measured, this one being the sum, clamped
    ∷ asks false 38 (placed (container_of Ltr Visible) (half_wide auto) candidate)
    ∷ asks false 30 (placed (container_of Ltr Visible) (half_wide (length (px 30))) candidate)
    ∷ asks true 38 (placed (container_of Ltr Visible) half_high candidate)
    -- each inset by its own axis: half of 200 less 12, half of 100 less 12
    ∷ stands_in (area_of 200 Ltr Visible) half_down 88 38
    ∷ []

-- ---- request #106: the stretch size of a size keyword, from the inset-modified block; the area 100 by 100 unless said

abbrev pub keyword : ℕ → CompactLength
keyword tag = record { tag = tag; value = 0f; second = 0f }

abbrev pub stretch : CompactLength
stretch = keyword 75

abbrev pub fit_content : CompactLength
fit_content = keyword 59

-- anchored at a point of each axis, in x by an edge
unfoldable pub anchored : ℕ → AxisStaticEdge → ℕ → OofCandidate
anchored x e y = record { node = 0; order = 0; position = Absolute; place = record { x = static x e; y = static y Start }; layer = 0 }

-- a label by its left and right inset, both margins of x, and its size; top and bottom inset auto
abbrev pub label : CompactLength → CompactLength → Float → Size CompactLength → Style
label left right margin size = box_with None (sides left right auto) (sides (length margin) (length margin) (length 0f)) size auto auto (length 0f)

-- a label without insets, of a ratio of 2
abbrev pub in_ratio : CompactLength → CompactLength → Style
in_ratio w h = box_with (Some (px 2)) (sides auto auto auto) (sides (length 0f) (length 0f) (length 0f)) (record { width = w; height = h }) auto auto (length 0f)

-- how wide and high a box comes out
unfoldable pub has_size : ContainingBlock → OofCandidate → Style → Float → Float → Bool
has_size container at style w h = let s = (outcome 0 0 (placed container style at)).outcome.layout.size in eq s.width w && eq s.height h

-- a label with width stretch, 10 high
abbrev pub wide : ContainingBlock → OofCandidate → CompactLength → CompactLength → Float → Float → Bool
wide container at left right margin w = has_size container at (label left right margin (ten_high stretch)) w (px 10)

-- in an area of 100, at the left edge, in either direction
abbrev pub wide_in : CompactLength → CompactLength → Float → ℕ → Bool
wide_in left right margin w = wide (container_of Ltr Visible) candidate left right margin (px w) && wide (container_of Rtl Visible) candidate left right margin (px w)

-- in an area of 1, to the bit
abbrev pub wide_in_one : CompactLength → CompactLength → Float → ℕ → Bool
wide_in_one left right margin bits = wide (area_of 1 Ltr Visible) candidate left right margin (of_bits binary32 bits)

-- with no inset, anchored, in either direction
abbrev pub wide_from : ℕ → AxisStaticEdge → ℕ → Bool
wide_from x e w = wide (container_of Ltr Visible) (anchored x e 0) auto auto 0f (px w) && wide (container_of Rtl Visible) (anchored x e 0) auto auto 0f (px w)

-- by a static area from 20 to 70, counted from the edge of an area that stands at 16
unfoldable pub shifted : ContainingBlock
shifted =
    record {
      area = record { size = record { width = px 100; height = px 100 }; offset = record { x = px 16; y = 0f } };
      direction = Ltr;
      overflow = record { x = Visible; y = Visible };
    }

unfoldable pub static_across : AxisStaticEdge → AxisStaticPosition
static_across e = record { area = px 36 to px 86; align = record { keyword = e; safety = Default; fallback = Start } }

unfoldable pub placed_across : AxisStaticEdge → OofCandidate
placed_across e = record { node = 0; order = 0; position = Absolute; place = record { x = static_across e; y = at_start }; layer = 0 }

abbrev pub wide_across : AxisStaticEdge → ℕ → Bool
wide_across e w = wide shifted (placed_across e) auto auto 0f (px w)

-- 0.1 and 0.4
abbrev pub tenth : Float
tenth = of_bits binary32 0x3DCC_CCCD

abbrev pub two_fifths : Float
two_fifths = of_bits binary32 0x3ECC_CCCD

abbrev pub percent : Float → CompactLength
percent x = record { tag = 5; value = x; second = 0f }

-- and nothing more
abbrev pub sum : Float → CompactLength
sum x = record { tag = 129; value = x; second = 0f }

-- an area of -100
unfoldable pub negative : ContainingBlock
negative =
    record {
      area = record { size = record { width = neg (px 100); height = px 100 }; offset = zero_point };
      direction = Ltr;
      overflow = record { x = Visible; y = Visible };
    }

unfoldable pub is_space : AvailableSpace → AvailableSpace → Bool
is_space (Definite x) (Definite y) = eq x y
is_space (Definite x) MinContent = false
is_space (Definite x) MaxContent = false
is_space MinContent (Definite y) = false
is_space MinContent MinContent = true
is_space MinContent MaxContent = false
is_space MaxContent (Definite y) = false
is_space MaxContent MinContent = false
is_space MaxContent MaxContent = true

unfoldable pub are_spaces : AvailableSpace → AvailableSpace → Size AvailableSpace → Bool
are_spaces x y s = is_space x s.width && is_space y s.height

-- the first question: whether it is for the width, whether for the height (neither: lay out), and its spaces
unfoldable pub asks_in : Bool → Bool → AvailableSpace → AvailableSpace → Talk Placed → Bool
asks_in across down x y (done p) = false
asks_in across down x y (ask (MeasureBoth m) next) = across && down && are_spaces x y m.space
asks_in across down x y (ask (MeasureWidth m) next) = across && not down && are_spaces x y m.space
asks_in across down x y (ask (MeasureHeight m) next) = not across && down && are_spaces x y m.space
asks_in across down x y (ask (LayOut l) next) = not across && not down && are_spaces x y l.space

-- the first question tells so much of the width
unfoldable pub knows_width : ℕ → Talk Placed → Bool
knows_width n (done p) = false
knows_width n (ask (MeasureBoth m) next) = is m.known.width n
knows_width n (ask (MeasureWidth m) next) = false
knows_width n (ask (MeasureHeight m) next) = is m.known.width n
knows_width n (ask (LayOut l) next) = false

-- so much of the height
unfoldable pub knows_height : ℕ → Talk Placed → Bool
knows_height n (done p) = false
knows_height n (ask (MeasureBoth m) next) = is m.known.height n
knows_height n (ask (MeasureWidth m) next) = is m.known.height n
knows_height n (ask (MeasureHeight m) next) = false
knows_height n (ask (LayOut l) next) = false

-- what a host replies that measures every size as so many pixels
abbrev pub measures : ℕ → (q : Question) → ReplyTo q
measures n (MeasureBoth m) = record { width = px n; height = px n }
measures n (MeasureWidth m) = px n
measures n (MeasureHeight m) = px n
measures n (LayOut l) = record { overflow = zero_rect; surfaced = [] }

-- the width and height that then come out
unfoldable pub comes_to : ℕ → Talk Placed → ℕ → ℕ → Bool
comes_to n (done p) w h = eq p.outcome.layout.size.width (px w) && eq p.outcome.layout.size.height (px h)
comes_to n (ask q next) w h = comes_to n (next (measures n q)) w h

-- a label of that size, without insets, anchored at 40, 30
unfoldable pub from_anchor : CompactLength → CompactLength → Talk Placed
from_anchor w h = placed (container_of Ltr Visible) (label auto auto 0f (record { width = w; height = h })) (anchored 40 Start 30)

unfoldable pub stretch_rows : List Bool
stretch_rows =
    -- no insets: from a start edge at 40, up to an end edge at 70, around a center at 30, 70 or 50, from an anchor past the area
    wide_from 40 Start 60
    ∷ wide_from 70 End 70
    ∷ wide_from 30 Center 60
    ∷ wide_from 70 Center 60
    ∷ wide_from 50 Center 100
    ∷ wide_from 120 Start 0
    ∷ wide_from 120 Center 0
    -- around a center at equal distance from both edges, of an area of width 0: from the left in either direction, which is why the mirror law
    -- leaves such an area out; and of one of width -100
    ∷ wide (area_of 0 Ltr Visible) (anchored 30 Center 0) auto auto 0f (px 60)
    ∷ wide (area_of 0 Rtl Visible) (anchored 30 Center 0) auto auto 0f (px 60)
    ∷ wide negative (anchored 30 Center 0) auto auto 0f (px 60)
    -- a start edge before the area: more than the area
    ∷ wide shifted (anchored 0 Start 0) auto auto 0f (px 116)
    -- by a static area that is no point: its start edge, its end edge, its middle at 45; the area's offset is taken off
    ∷ wide_across Start 80
    ∷ wide_across End 70
    ∷ wide_across Center 90
    -- its anchor before the area, by the offset: the end edge, the center
    ∷ wide shifted (anchored 0 End 0) auto auto 0f 0f
    ∷ wide shifted (anchored 0 Center 0) auto auto 0f 0f
    -- the label of the first row stands at its anchor
    ∷ stands_by (container_of Ltr Visible) (anchored 40 Start 0) (label auto auto 0f (ten_high stretch)) 40 0
    -- one inset; two
    ∷ wide_in (length (px 30)) auto 0f 70
    ∷ wide_in auto (length (px 30)) 0f 70
    ∷ wide_in (length (px 10)) (length (px 20)) (px 5) 60
    ∷ wide_in (length (px 60)) (length (px 40)) 0f 0
    ∷ wide_in (length (neg (px 50))) (length (neg (px 50))) 0f 200
    -- an inset of NaN
    ∷ wide_in (length nan) auto 0f 0
    -- insets that cross close the block up, and margins of -30 are taken off that: 60 each (the area less insets and margins is 40)
    ∷ wide_in (length (px 60)) (length (px 60)) (neg (px 30)) 60
    ∷ wide_in (length (px 120)) auto (neg (px 30)) 60
    ∷ wide_in auto (length (px 120)) (neg (px 30)) 60
    -- in an area of -100, insets of 0 and 0 cross, and -60 and -60 don't
    ∷ wide negative candidate (length 0f) (length 0f) (neg (px 30)) (px 60)
    ∷ wide negative candidate (length (neg (px 60))) (length (neg (px 60))) 0f (px 20)
    -- margins larger than the block: at least 0. One margin alone, the other auto
    ∷ wide_in (length (px 30)) auto (px 40) 0
    ∷ has_size (container_of Ltr Visible) (anchored 40 Start 0) (box_with None (sides auto auto auto) (sides (length (px 8)) auto (length 0f)) (ten_high stretch) auto auto (length 0f)) (px 52) (px 10)
    -- a max below it, a min above it; down, in an area 200 wide, with a top margin of 10 % of that
    ∷ has_size (container_of Ltr Visible) (anchored 40 Start 0) (box_of auto auto (ten_high stretch) auto (length (px 30)) (length 0f)) (px 30) (px 10)
    ∷ has_size (container_of Ltr Visible) (anchored 40 Start 0) (box_of auto auto (ten_high stretch) (length (px 80)) auto (length 0f)) (px 80) (px 10)
    ∷ has_size (area_of 200 Ltr Visible) (anchored 40 Start 30)
    (box_with None (sides auto auto auto) (record { left = length 0f; right = length 0f; top = percent tenth; bottom = auto }) (record { width = length (px 10); height = stretch }) auto auto (length 0f)) (px 10) (px 50)
    -- the start margin is taken off, then the end margin: 1 less 0.1 less 0.4 (in the other order 0.5)
    ∷ has_size (area_of 1 Ltr Visible) candidate (box_with None (sides (length 0f) (length 0f) auto) (sides (length tenth) (length two_fifths) (length 0f)) (ten_high stretch) auto auto (length 0f)) (of_bits binary32 0x3EFF_FFFF) (px 10)
    -- each margin is taken off in turn: 1 less 0.1 less 0.1. An auto size takes their sum off (step 5): one unit in the last place more
    ∷ wide_in_one (length 0f) (length 0f) tenth 0x3F4C_CCCC
    ∷ has_size (area_of 1 Ltr Visible) candidate (label (length 0f) (length 0f) tenth (ten_high auto)) (of_bits binary32 0x3F4C_CCCD) (px 10)
    -- the block's size is its end less its start: 0.6 less 0.1, by pixels, percentages and sums (1 less 0.1 less 0.4 is below it)
    ∷ wide_in_one (length tenth) (length two_fifths) 0f 0x3F00_0000
    ∷ wide_in_one (percent tenth) (percent two_fifths) 0f 0x3F00_0000
    ∷ wide_in_one (sum tenth) (sum two_fifths) 0f 0x3F00_0000
    -- and 16,777,216 less 1, less 0.5, which is a tie, to even (in the Rust's order 16,777,215)
    ∷ wide (area_of 16777216 Ltr Visible) candidate (length (of_bits binary32 0x3F00_0000)) (length (px 1)) 0f (px 16777214)
    -- fit-content is measured in it, in both axes; fit-content of a limit in the limit
    ∷ asks_in true true (Definite (px 60)) (Definite (px 70)) (from_anchor fit_content fit_content)
    ∷ asks_in true true (Definite (px 25)) (Definite (px 70)) (from_anchor (record { tag = 43; value = px 25; second = 0f }) fit_content)
    ∷ asks_in true true (Definite (px 50)) (Definite (px 70)) (from_anchor (record { tag = 15; value = of_bits binary32 0x3F00_0000; second = 0f }) fit_content)
    -- a width that is measured alone carries it for the height, known or not; a height for a width that isn't known
    ∷ asks_in true false MinContent (Definite (px 70)) (from_anchor min_content auto)
    ∷ asks_in true false MinContent (Definite (px 70)) (from_anchor min_content (length (px 10)))
    ∷ asks_in false true (Definite (px 60)) MaxContent (from_anchor auto (keyword 27))
    ∷ asks_in false true (Definite (px 20)) MaxContent (from_anchor (length (px 20)) (keyword 27))
    -- it is told where the height is measured, by its keyword or by step 6; fit-content beside a max is asked for in it
    ∷ knows_width 60 (from_anchor stretch (keyword 27))
    ∷ knows_width 60 (from_anchor stretch auto)
    ∷ asks_in true false (Definite (px 60)) (Definite (px 100)) (placed (container_of Ltr Visible) (box_of auto auto (ten_high fit_content) auto (length (px 30)) (length 0f)) (anchored 40 Start 0))
    -- an auto side beside it is measured by step 6, in step 3's space, and is the reply
    ∷ asks_in true true (Definite (px 60)) (Definite (px 70)) (from_anchor stretch auto)
    ∷ asks_in true true (Definite (px 60)) (Definite (px 70)) (from_anchor auto stretch)
    ∷ knows_height 70 (from_anchor auto stretch)
    ∷ comes_to 25 (from_anchor stretch auto) 60 25
    ∷ comes_to 25 (from_anchor auto stretch) 25 70
    -- a ratio of 2 and two auto sides: step 6 asks for both, in step 3's space; a side that stretches has the stretch-fit size
    ∷ asks_in true true (Definite (px 60)) (Definite (px 70)) (placed (container_of Ltr Visible) (in_ratio auto auto) (anchored 40 Start 30))
    ∷ comes_to 30 (placed (container_of Ltr Visible) (in_ratio auto auto) (anchored 40 Start 30)) 30 30
    ∷ has_size (container_of Ltr Visible) candidate
    (box_with (Some (px 2)) (sides (length (px 60)) (length (px 60)) auto) (sides (length (neg (px 30))) (length (neg (px 30))) (length 0f)) (record { width = auto; height = auto }) auto auto (length 0f)) (px 60) (px 30)
    -- beside a ratio of 2 a max that is the keyword is none
    ∷ has_size (container_of Ltr Visible) (anchored 40 Start 0)
    (box_with (Some (px 2)) (sides auto auto auto) (sides (length 0f) (length 0f) (length 0f)) (record { width = length (px 80); height = auto }) auto stretch (length 0f)) (px 80) (px 40)
    -- a ratio of 2: of an auto height beside it; a height of 10 gives the width in step 2, and the keyword is ignored (in CSS it holds)
    ∷ has_size (container_of Ltr Visible) (anchored 40 Start 0) (in_ratio stretch auto) (px 60) (px 30)
    ∷ has_size (container_of Ltr Visible) (anchored 40 Start 0) (in_ratio stretch (length (px 10))) (px 20) (px 10)
    -- the space of lay out is step 3's, in which the margins' sum is taken off
    ∷ asks_in false false (Definite (of_bits binary32 0x3F4C_CCCD)) (Definite (px 100)) (placed (area_of 1 Ltr Visible) (label (length 0f) (length 0f) tenth (ten_high stretch)) candidate)
    ∷ []

-- the row set: 1 to 11 are the starred ones; last, those of sums and of the stretch size
unfoldable pub rows : List Bool
rows = axis_rows ++ box_rows ++ overflow_rows ++ sum_rows ++ stretch_rows

unfoldable pub all : List Bool → Bool
all [] = true
all (r ∷ rs) = r && all rs
