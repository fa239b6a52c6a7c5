-- Static positions: where a box would stand in normal flow, as an area and an alignment in it (tree/layout.rs). Assumes nothing.
use Rattle.std.specs.Prelude.{Bool, cond, Float, Result, Ok, Err}
use Rattle.geometry.specs.Geometry.{moved_by}
use Rattle.geometry.specs.declared.Line.{Line}
use Rattle.geometry.specs.declared.Point.{Point}
use Rattle.refusal.specs.declared.Refusal.{Refusal}
use Rattle.refusal.specs.declared.Refusal.TheVariants.{UnresolvedSide}
use Rattle.style.specs.Values.{is_self_relative}
use Rattle.style.specs.declared.alignment.AlignItemsKeyword.{AlignItemsKeyword}
use Rattle.style.specs.declared.alignment.AlignItemsKeyword.TheVariants as keyword
use Rattle.style.specs.declared.alignment.AlignmentSafety.{AlignmentSafety}
use Rattle.style.specs.declared.alignment.AlignmentSafety.TheVariants.{Default, Unsafe, Safe}
use Rattle.style.specs.declared.alignment.AlignItems.{AlignItems}
use Rattle.tree.specs.declared.layout.AxisStaticEdge.{AxisStaticEdge}
use Rattle.tree.specs.declared.layout.AxisStaticEdge.TheVariants.{Start, Center, End}
use Rattle.tree.specs.declared.layout.AxisStaticPosition.{AxisStaticPosition}
use Rattle.tree.specs.declared.layout.OofCandidate.{OofCandidate}

-- ---- from an alignment

-- start and end as edges of the axis: exchanged where it runs from right to left
abbrev pub start_edge : Bool → AxisStaticEdge
start_edge rtl = cond rtl End Start

abbrev pub end_edge : Bool → AxisStaticEdge
end_edge rtl = cond rtl Start End

-- the edge that a keyword aligns to: end and flex-end to the end, center to the center, all else to the start; self-start and self-end
-- are refused before
abbrev pub edge_for : AlignItemsKeyword → Bool → AxisStaticEdge
edge_for keyword.Normal rtl = start_edge rtl
edge_for keyword.Start rtl = start_edge rtl
edge_for keyword.End rtl = end_edge rtl
edge_for keyword.FlexStart rtl = start_edge rtl
edge_for keyword.FlexEnd rtl = end_edge rtl
edge_for keyword.SelfStart rtl = start_edge rtl
edge_for keyword.SelfEnd rtl = start_edge rtl
edge_for keyword.Center rtl = Center
edge_for keyword.Baseline rtl = start_edge rtl
edge_for keyword.Stretch rtl = start_edge rtl

-- a safe alignment falls back to start
abbrev pub fallback_of : AlignItemsKeyword → AlignmentSafety → AlignItemsKeyword
fallback_of k Default = k
fallback_of k Unsafe = k
fallback_of k Safe = keyword.Start

-- the static position of a box aligned within an area, or refusal 7 exactly for self-start and self-end
unfoldable pub from_alignment : AlignItems → Line Float → Bool → Result AxisStaticPosition Refusal
from_alignment a area rtl =
    cond (is_self_relative a.keyword)
    (Err UnresolvedSide)
    (Ok
    (record {
      area = area;
      align =
          record { keyword = edge_for a.keyword rtl; safety = a.safety; fallback = edge_for (fallback_of a.keyword a.safety) rtl };
    }))

-- ---- moved

-- an area moved by a distance, each end rounded once; its alignment stays
unfoldable pub shifted_axis : AxisStaticPosition → Float → AxisStaticPosition
shifted_axis p by = record { area = moved_by p.area by; align = p.align }

-- a candidate of a box, as one of its parent: the four areas' ends move by the box's location; all else stays, its layer too
unfoldable pub translated : OofCandidate → Point Float → OofCandidate
translated c location =
    record {
      node = c.node;
      order = c.order;
      position = c.position;
      place = record { x = shifted_axis c.place.x location.x; y = shifted_axis c.place.y location.y };
      layer = c.layer;
    }
