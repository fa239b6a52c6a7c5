-- Step 7 of document 01 ("One box"): margins, location and overflow of a box whose size is final. Read `box_layout`, at the end, first.
-- Assumes nothing.
use Rattle.std.specs.Prelude.{cond, Float}
use Rattle.util.specs.Number.{◌⊕◌, ◌⊖◌, 0f}
use Rattle.geometry.specs.Geometry.{rect_of}
use Rattle.geometry.specs.declared.Point.{Point}
use Rattle.geometry.specs.declared.Rect.{Rect}
use Rattle.geometry.specs.declared.Size.{Size}
use Rattle.style.specs.Values.{any_scroll_container, is_rtl, is_scroll}
use Rattle.style.specs.declared.Overflow.{Overflow}
use Rattle.style.specs.declared.Style.{Style}
use Rattle.tree.specs.declared.layout.Layout.{Layout}
use Rattle.tree.specs.declared.layout.OofCandidate.{OofCandidate}
use Rattle.oof_axis.specs.Axis.{placement}
use Rattle.oof_resolve.specs.declared.ContainingBlock.{ContainingBlock}
use Rattle.oof_resolve.specs.declared.ResolvedBox.{ResolvedBox}
use Rattle.oof_common.specs.ScrollableOverflow.{contribution}
use Rattle.oof_place.specs.declared.OofBoxLayout.{OofBoxLayout}

-- the room of a scrollbar, where there is one
unfoldable pub scrollbar_of : Overflow → Float → Float
scrollbar_of overflow width = cond (is_scroll overflow) width 0f

-- the bar of a vertical scroll takes width, that of a horizontal one height; the location includes the offset
unfoldable pub layout_of : ContainingBlock → Style → OofCandidate → ResolvedBox → Size Float → Rect Float → Layout
layout_of container style candidate box size overflow =
    let placedX = placement box.horizontal size.width in
    let placedY = placement box.vertical size.height in
    record {
      order = candidate.order;
      size = size;
      overflow = overflow;
      scrollbar =
          record { width = scrollbar_of style.overflow.y style.scrollbar; height = scrollbar_of style.overflow.x style.scrollbar };
      location = record { x = placedX.position ⊕ container.area.offset.x; y = placedY.position ⊕ container.area.offset.y };
      padding = box.padding;
      border = box.border;
      margin = rect_of placedX.margin placedY.margin;
    }

-- the location from the container's scroll origin: from the area's top, and from its start edge by direction
unfoldable pub from_origin : ContainingBlock → Point Float → Size Float → Point Float
from_origin container location size =
    let x = location.x ⊖ container.area.offset.x in
    record { x = cond (is_rtl container.direction) (container.area.size.width ⊖ x ⊖ size.width) x; y = location.y ⊖ container.area.offset.y }

unfoldable pub box_layout : ContainingBlock → Style → OofCandidate → ResolvedBox → Size Float → Rect Float → OofBoxLayout
box_layout container style candidate box size overflow =
    let layout = layout_of container style candidate box size overflow in
    record {
      layout = layout;
      contribution =
          contribution (from_origin container layout.location size) size overflow style.overflow style.contain
          (any_scroll_container container.overflow);
    }
