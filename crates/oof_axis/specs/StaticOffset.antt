-- Where a box stands by its static position alone (`resolve_static_offset` of the Rust): the margin box is aligned in the static
-- area. This is the only reader of the fallback edge; in a run, safe overflow goes by the block instead (Axis: `static_aligned`).
-- Assumes nothing.
use Rattle.std.specs.Prelude.{cond, Float}
use Rattle.std.specs.Float.Ieee.{lt}
use Rattle.util.specs.Number.{◌⊕◌}
use Rattle.geometry.specs.Geometry.{◌to◌, span}
use Rattle.geometry.specs.declared.Line.{Line}
use Rattle.geometry.specs.declared.Point.{Point}
use Rattle.geometry.specs.declared.Rect.{Rect}
use Rattle.geometry.specs.declared.Size.{Size}
use Rattle.style.specs.declared.alignment.AlignmentSafety.{AlignmentSafety}
use Rattle.style.specs.declared.alignment.AlignmentSafety.TheVariants.{Default, Unsafe, Safe}
use Rattle.tree.specs.declared.layout.AxisStaticEdge.{AxisStaticEdge}
use Rattle.tree.specs.declared.layout.AxisStaticPosition.{AxisStaticPosition}
use Rattle.oof_axis.specs.Axis.{align_in}

-- the edge that a margin box (of size `outer`) is aligned to: the fallback where the alignment is safe and the box overflows the area
unfoldable pub offset_edge : AlignmentSafety → AxisStaticPosition → Float → AxisStaticEdge
offset_edge Default p outer = p.align.keyword
offset_edge Unsafe p outer = p.align.keyword
offset_edge Safe p outer = cond (lt (span p.area) outer) p.align.fallback p.align.keyword

-- one axis: where the border box of a size begins, its margins being `m`
unfoldable pub axis_offset : AxisStaticPosition → Float → Line Float → Float
axis_offset p size m =
    let outer = size ⊕ m.start ⊕ m.end in
    align_in p.area outer (offset_edge p.align.safety p outer) ⊕ m.start

unfoldable pub static_offset : Point AxisStaticPosition → Size Float → Rect Float → Point Float
static_offset p size m =
    record { x = axis_offset p.x size.width (m.left to m.right); y = axis_offset p.y size.height (m.top to m.bottom) }
