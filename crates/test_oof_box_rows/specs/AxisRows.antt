-- Rows 1 to 9 of document 01: what is given, and what is found. Block size 100, margins 0, left-to-right inline unless said.
-- Assumes nothing.
use Rattle.std.specs.Prelude.{ℕ, Bool, true, false, ◌&&◌, List, [], ◌∷◌, pos, Float, None, Option, Some}
use Rattle.std.specs.Float.{binary32}
use Rattle.std.specs.Float.Ieee.{of_int, eq, neg}
use Rattle.util.specs.Number.{◌⊘◌, 2f}
use Rattle.geometry.specs.Geometry.{◌to◌}
use Rattle.geometry.specs.declared.Line.{Line}
use Rattle.style.specs.declared.alignment.AlignmentSafety.{AlignmentSafety}
use Rattle.style.specs.declared.alignment.AlignmentSafety.TheVariants.{Default, Unsafe, Safe}
use Rattle.tree.specs.declared.layout.AxisStaticEdge.{AxisStaticEdge}
use Rattle.tree.specs.declared.layout.AxisStaticEdge.TheVariants as edge
use Rattle.tree.specs.declared.layout.AxisStaticPosition.{AxisStaticPosition}
use Rattle.oof_axis.specs.declared.OofAlignment.{OofAlignment}
use Rattle.oof_axis.specs.declared.OofAlignment.TheVariants as align
use Rattle.oof_axis.specs.declared.OofAxis.{OofAxis}
use Rattle.oof_axis.specs.Axis.{block, placement}

-- ---- what is given

unfoldable pub px : ℕ → Float
px n = of_int binary32 (pos n)

unfoldable pub insets : ℕ → ℕ → Line (Option Float)
insets start end = record { start = Some (px start); end = Some (px end) }

unfoldable pub none : Line (Option Float)
none = record { start = None; end = None }

-- an area from a point to that point
unfoldable pub static : ℕ → AxisStaticEdge → AxisStaticPosition
static at e = record { area = px at to px at; align = record { keyword = e; safety = Default; fallback = edge.Start } }

-- which axis it is: inline or block, right-to-left or not, scrolling or not
pub record Flow : Type 0 where
  pub inline : Bool
  pub reversed : Bool
  pub scrolls : Bool

abbrev pub left_to_right : Flow
left_to_right = record { inline = true; reversed = false; scrolls = false }

abbrev pub right_to_left : Flow
right_to_left = record { inline = true; reversed = true; scrolls = false }

abbrev pub block_axis : Flow
block_axis = record { inline = false; reversed = false; scrolls = false }

abbrev pub scroll_axis : Flow
scroll_axis = record { inline = true; reversed = false; scrolls = true }

unfoldable pub axis : Flow → Line (Option Float) → Line (Option Float) → AxisStaticPosition → OofAlignment → AlignmentSafety → OofAxis
axis flow inset margin place alignment safety =
    record {
      size = px 100;
      inset = inset;
      margin = margin;
      place = place;
      alignment = alignment;
      safety = safety;
      inline = flow.inline;
      reversed = flow.reversed;
      scrolls = flow.scrolls;
    }

unfoldable pub centered : Flow → ℕ → ℕ → AlignmentSafety → OofAxis
centered flow start end safety = axis flow (insets start end) (insets 0 0) (static 0 edge.Start) align.Center safety

unfoldable pub auto_margins : Flow → OofAxis
auto_margins flow = axis flow (insets 10 20) none (static 0 edge.Start) align.Normal Default

unfoldable pub overconstrained : Flow → OofAxis
overconstrained flow = axis flow (insets 60 60) (insets 0 0) (static 0 edge.Start) align.Normal Default

unfoldable pub static_center : ℕ → OofAxis
static_center at = axis left_to_right none (insets 0 0) (static at edge.Center) align.Normal Default

-- ---- what is found

unfoldable pub line_is : Line Float → Float → Float → Bool
line_is l start end = eq l.start start && eq l.end end

-- the location of a size
unfoldable pub locates : OofAxis → ℕ → Float → Bool
locates a size x = eq (placement a (px size)).position x

-- the location of a size, and its margins
unfoldable pub places : OofAxis → ℕ → Float → Float → Float → Bool
places a size x start end = locates a size x && line_is (placement a (px size)).margin start end

unfoldable pub has_block : OofAxis → ℕ → ℕ → Bool
has_block a start end = line_is (block a) (px start) (px end)

unfoldable pub axis_rows : List Bool
axis_rows =
    -- 1: insets 10, 20; size 30; center
    locates (centered left_to_right 10 20 Default) 30 (px 30)
    -- 2: insets 10, 20; auto margins; size 100
    ∷ places (auto_margins left_to_right) 100 (px 10) (px 0) (neg (px 30))
    -- 3: same, right-to-left
    ∷ places (auto_margins right_to_left) 100 (neg (px 20)) (neg (px 30)) (px 0)
    -- 4: same, block axis
    ∷ places (auto_margins block_axis) 100 (neg (px 5)) (neg (px 15)) (neg (px 15))
    -- 5: insets 60, 60: the block; then right-to-left
    ∷ has_block (overconstrained left_to_right) 60 60
    ∷ has_block (overconstrained right_to_left) 40 40
    -- 6, 7: no insets, center, area 50 to 50; then 70 to 70
    ∷ has_block (static_center 50) 0 100
    ∷ has_block (static_center 70) 40 100
    -- 8: insets 60, 0; size 60; center: default, safe, unsafe
    ∷ locates (centered left_to_right 60 0 Default) 60 (px 40)
    ∷ locates (centered left_to_right 60 0 Safe) 60 (px 60)
    ∷ locates (centered left_to_right 60 0 Unsafe) 60 (px 50)
    -- 9: same, default, size 101; then in a scroll axis, 29.5
    ∷ locates (centered left_to_right 60 0 Default) 101 (px 0)
    ∷ locates (centered scroll_axis 60 0 Default) 101 (px 59 ⊘ 2f)
    ∷ []
