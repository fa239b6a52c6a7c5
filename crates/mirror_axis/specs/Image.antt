-- The mirror image of one axis (document 01, "The mirror image"): of the x axis. Along y a run and its image have the same words.
-- Assumes nothing.
use Rattle.std.specs.Prelude.{not, Float, Option}
use Rattle.util.specs.Number.{◌⊖◌}
use Rattle.geometry.specs.Geometry.{◌to◌}
use Rattle.geometry.specs.declared.Line.{Line}
use Rattle.tree.specs.declared.layout.AxisStaticEdge.{AxisStaticEdge}
use Rattle.tree.specs.declared.layout.AxisStaticEdge.TheVariants.{Start, Center, End}
use Rattle.tree.specs.declared.layout.AxisStaticAlign.{AxisStaticAlign}
use Rattle.tree.specs.declared.layout.AxisStaticPosition.{AxisStaticPosition}
use Rattle.oof_axis.specs.declared.OofAxis.{OofAxis}

-- start and end exchanged in an edge
unfoldable pub other_edge : AxisStaticEdge → AxisStaticEdge
other_edge Start = End
other_edge Center = Center
other_edge End = Start

-- in an edge and in its fallback edge
unfoldable pub other_align : AxisStaticAlign → AxisStaticAlign
other_align s = record { keyword = other_edge s.keyword; safety = s.safety; fallback = other_edge s.fallback }

-- a line in an area of width w: w less its end to w less its start. Where positions count from the containing block's edge, as in a
-- candidate, document 01 writes 2 × offset + w in place of w; an axis has the offset taken off already.
unfoldable pub reflected : Float → Line Float → Line Float
reflected w l = w ⊖ l.end to w ⊖ l.start

unfoldable pub reflected_place : Float → AxisStaticPosition → AxisStaticPosition
reflected_place w s = record { area = reflected w s.area; align = other_align s.align }

unfoldable pub exchanged : Line (Option Float) → Line (Option Float)
exchanged l = record { start = l.end; end = l.start }

unfoldable pub image : OofAxis → OofAxis
image a =
    record {
      size = a.size;
      inset = exchanged a.inset;
      margin = exchanged a.margin;
      place = reflected_place a.size a.place;
      alignment = a.alignment;
      safety = a.safety;
      inline = a.inline;
      reversed = not a.reversed;
      scrolls = a.scrolls;
    }
