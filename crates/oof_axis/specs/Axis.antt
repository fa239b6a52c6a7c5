-- One axis of the absolute positioning layout model (css-position-3 #abspos-layout; `OofAxis` of the Rust). Positions count from the
-- area's left or top edge. The area is the containing block that insets are resolved against (from 0 to the axis' size); "the block" is
-- the inset-modified containing block. A bare `size` is a border box's, `outer` is CSS's outer size, that of a margin box. Edges are
-- physical: Start is left or top, End is right or bottom. The containing block's own start and end go by its direction: `start_edge` and
-- `end_edge` of tree/specs/Static.antt. Assumes nothing.
use Rattle.std.specs.Prelude.{Bool, true, false, cond, ◌&&◌, ◌||◌, Float, None, Option, Some, is_some}
use Rattle.std.specs.Float.{inf}
use Rattle.std.specs.Float.Ieee.{lt, le}
use Rattle.util.specs.Number.{◌⊕◌, ◌⊖◌, ◌⊗◌, ◌⊘◌, 0f, 2f}
use Rattle.util.specs.Order.{larger, smaller, magnitude}
use Rattle.util.specs.Maybe.{or_zero}
use Rattle.geometry.specs.Geometry.{◌to◌, span}
use Rattle.geometry.specs.declared.Line.{Line}
use Rattle.style.specs.declared.alignment.AlignItemsKeyword.{AlignItemsKeyword}
use Rattle.style.specs.declared.alignment.AlignItemsKeyword.TheVariants as keyword
use Rattle.style.specs.declared.alignment.AlignmentSafety.{AlignmentSafety}
use Rattle.style.specs.declared.alignment.AlignmentSafety.TheVariants.{Default, Unsafe, Safe}
use Rattle.tree.specs.Static.{start_edge, end_edge}
use Rattle.tree.specs.declared.layout.AxisStaticEdge.{AxisStaticEdge}
use Rattle.tree.specs.declared.layout.AxisStaticEdge.TheVariants.{Start, Center, End}
use Rattle.oof_axis.specs.declared.OofAlignment.{OofAlignment}
use Rattle.oof_axis.specs.declared.OofAlignment.TheVariants as align
use Rattle.oof_axis.specs.declared.OofAxis.{OofAxis}
use Rattle.oof_axis.specs.declared.AxisPlacement.{AxisPlacement}

-- ---- the alignment of an axis

-- justify-self or align-self, with self-start and self-end already resolved by direction: of a keyword that isn't, self-start is
-- start and self-end is end. Baseline is start, as in the Rust (css-align-3: safe self-start).
unfoldable pub from_resolved : AlignItemsKeyword → OofAlignment
from_resolved keyword.Normal = align.Normal
from_resolved keyword.Stretch = align.Stretch
from_resolved keyword.Center = align.Center
from_resolved keyword.Start = align.Start
from_resolved keyword.FlexStart = align.Start
from_resolved keyword.SelfStart = align.Start
from_resolved keyword.Baseline = align.Start
from_resolved keyword.End = align.End
from_resolved keyword.FlexEnd = align.End
from_resolved keyword.SelfEnd = align.End

-- ---- edges

-- where a margin box begins that is aligned to an edge of a line
unfoldable pub align_in : Line Float → Float → AxisStaticEdge → Float
align_in l outer Start = l.start
align_in l outer Center = (l.start ⊕ l.end ⊖ outer) ⊘ 2f
align_in l outer End = l.end ⊖ outer

-- ---- the block: insets resolved (css-position-3 #resolving-insets)

-- no insets, center: around the static center, up to the nearer edge of the area; at equal distance, from the start
unfoldable pub centered_block : Float → Float → Line Float
centered_block center areaSize =
    cond (le (magnitude center) (magnitude (areaSize ⊖ center))) (0f to 2f ⊗ center) (areaSize ⊖ 2f ⊗ (areaSize ⊖ center) to areaSize)

-- no insets: from the static position's edge to the far edge of the area
unfoldable pub static_block : AxisStaticEdge → Line Float → Float → Line Float
static_block Start static areaSize = static.start to areaSize
static_block Center static areaSize = centered_block ((static.start ⊕ static.end) ⊘ 2f) areaSize
static_block End static areaSize = 0f to static.end

-- the block as the insets say; a lone auto inset is 0, two are resolved from the static position
unfoldable pub inset_block : Option Float → Option Float → OofAxis → Line Float
inset_block (Some start) (Some end) a = start to a.size ⊖ end
inset_block (Some start) None a = start to a.size
inset_block None (Some end) a = 0f to a.size ⊖ end
inset_block None None a = static_block a.place.align.keyword a.place.area a.size

-- whether the start edge is the weaker one, which gives way where insets leave a negative size: the free side with one inset, else the end
-- edge by direction
unfoldable pub start_is_weaker : Option Float → Option Float → OofAxis → Bool
start_is_weaker (Some start) (Some end) a = a.reversed
start_is_weaker (Some start) None a = false
start_is_weaker None (Some end) a = true
start_is_weaker None None a = a.reversed

-- an end below its start: the weaker edge moves to the other, so that the block's size is 0
unfoldable pub repaired : Bool → Line Float → Line Float
repaired startWeaker l = cond (lt l.end l.start) (cond startWeaker (l.end to l.end) (l.start to l.start)) l

unfoldable pub block : OofAxis → Line Float
block a = repaired (start_is_weaker a.inset.start a.inset.end a) (inset_block a.inset.start a.inset.end a)

-- ---- automatic sizes (css-position-3 #abspos-auto-size)

unfoldable pub both_insets : OofAxis → Bool
both_insets a = is_some a.inset.start && is_some a.inset.end

-- the stretch-fit size: the block less the margins that aren't auto, at least 0
unfoldable pub stretch_fit : OofAxis → Float
stretch_fit a = larger (span (block a) ⊖ (or_zero a.margin.start ⊕ or_zero a.margin.end)) 0f

-- an alignment that stretches an auto size: stretch, and normal for a plain box (neither replaced nor table)
unfoldable pub stretching : OofAlignment → Bool → Bool
stretching align.Stretch plain = true
stretching align.Normal plain = plain
stretching align.Start plain = false
stretching align.Center plain = false
stretching align.End plain = false

-- an auto size is the stretch-fit size; otherwise it is fit-content
unfoldable pub stretches : OofAxis → Bool → Bool
stretches a plain = both_insets a && stretching a.alignment plain

-- an explicit stretch
unfoldable pub is_stretch : OofAxis → Bool
is_stretch a = stretching a.alignment false

-- ---- margins (css-position-3 #abspos-margins)

-- both auto: halves of the free space; if it is negative in the inline axis, all of it goes to the end margin by direction
unfoldable pub halves : Float → OofAxis → Line Float
halves free a = cond (lt free 0f && a.inline) (cond a.reversed (free to 0f) (0f to free)) (free ⊘ 2f to free ⊘ 2f)

-- with both insets given, auto margins take up the free space
unfoldable pub filled_margins : Option Float → Option Float → Float → OofAxis → Line Float
filled_margins (Some start) (Some end) free a = start to end
filled_margins (Some start) None free a = start to free ⊖ start
filled_margins None (Some end) free a = free ⊖ end to end
filled_margins None None free a = halves free a

-- with an auto inset, auto margins are 0
unfoldable pub margins : OofAxis → Float → Line Float
margins a size =
    cond (both_insets a) (filled_margins a.margin.start a.margin.end (span (block a) ⊖ size) a)
    (or_zero a.margin.start to or_zero a.margin.end)

-- ---- position (css-position-3 #abspos-alignment; css-align-3 #auto-safety-position)

unfoldable pub is_normal : OofAlignment → Bool
is_normal align.Normal = true
is_normal align.Stretch = false
is_normal align.Start = false
is_normal align.Center = false
is_normal align.End = false

-- normal and stretch align as start
unfoldable pub align_edge : OofAlignment → OofAxis → AxisStaticEdge
align_edge align.Normal a = start_edge a.reversed
align_edge align.Stretch a = start_edge a.reversed
align_edge align.Start a = start_edge a.reversed
align_edge align.Center a = Center
align_edge align.End a = end_edge a.reversed

-- the overflow limit rectangle: the bounds of block and area; where the container scrolls in this axis, without an end (which is to
-- the left in a right-to-left axis)
unfoldable pub limit : OofAxis → Line Float → Line Float
limit a l =
    let start = smaller l.start 0f in
    let end = larger l.end a.size in
    cond a.scrolls (cond a.reversed (inf true to end) (start to inf false)) (start to end)

-- as aligned in the block, but moved so far that it stays within the limit; what doesn't fit the limit stands at the limit's start
unfoldable pub kept_within : Line Float → OofAxis → Line Float → Float → AxisStaticEdge → Float
kept_within lim a l outer edge =
    cond (le outer (span lim)) (larger (smaller (align_in l outer edge) (lim.end ⊖ outer)) lim.start) (align_in lim outer (start_edge a.reversed))

-- both insets: the margin box (of size `outer`) aligned in the block `l`. Unsafe: as told. Safe: at the start where it overflows. By
-- default as told where it fits or the alignment is normal, else kept within the limit.
unfoldable pub self_aligned : AlignmentSafety → OofAxis → Line Float → Float → AxisStaticEdge → Float
self_aligned Unsafe a l outer edge = align_in l outer edge
self_aligned Safe a l outer edge = align_in l outer (cond (lt (span l) outer) (start_edge a.reversed) edge)
self_aligned Default a l outer edge =
    cond (le outer (span l) || is_normal a.alignment) (align_in l outer edge) (kept_within (limit a l) a l outer edge)

-- no insets: the margin box aligned in the static area; a safe one that overflows the block stands at the block's start
unfoldable pub static_aligned : AlignmentSafety → OofAxis → Line Float → Float → Float
static_aligned Default a l outer = align_in a.place.area outer a.place.align.keyword
static_aligned Unsafe a l outer = align_in a.place.area outer a.place.align.keyword
static_aligned Safe a l outer =
    cond (lt (span l) outer) (align_in l outer (start_edge a.reversed)) (align_in a.place.area outer a.place.align.keyword)

-- one inset: at that inset's edge. Both insets and an auto margin: at the block's start, since margins fill the block
unfoldable pub position_in : Option Float → Option Float → OofAxis → Line Float → Float → Line Float → Float
position_in None None a l size m = static_aligned a.place.align.safety a l (size ⊕ m.start ⊕ m.end) ⊕ m.start
position_in (Some start) None a l size m = l.start ⊕ m.start
position_in None (Some end) a l size m = l.end ⊖ size ⊖ m.end
position_in (Some start) (Some end) a l size m =
    cond (is_some a.margin.start && is_some a.margin.end)
    (self_aligned a.safety a l (size ⊕ m.start ⊕ m.end) (align_edge a.alignment a) ⊕ m.start)
    (l.start ⊕ m.start)

-- where the border box of a size begins, its margins being `m`
unfoldable pub position : OofAxis → Float → Line Float → Float
position a size m = position_in a.inset.start a.inset.end a (block a) size m

-- what a final size leads to: margins first, then the position by them
unfoldable pub placement : OofAxis → Float → AxisPlacement
placement a size = record { position = position a size (margins a size); margin = margins a size }
