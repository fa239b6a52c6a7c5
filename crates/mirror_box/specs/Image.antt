-- The mirror image of what a box is laid out from: its containing block, its style, its candidate (document 01, "The mirror image").
-- Assumes nothing.
use Rattle.std.specs.Prelude.{Float}
use Rattle.util.specs.Number.{◌⊕◌, ◌⊗◌, 2f}
use Rattle.geometry.specs.declared.Rect.{Rect}
use Rattle.style.specs.declared.compact_length.CompactLength.{CompactLength}
use Rattle.style.specs.declared.Direction.{Direction}
use Rattle.style.specs.declared.Direction.TheVariants.{Ltr, Rtl}
use Rattle.style.specs.declared.Style.{Style}
use Rattle.tree.specs.declared.layout.OofCandidate.{OofCandidate}
use Rattle.tree.specs.declared.layout.OofPositioningArea.{OofPositioningArea}
use Rattle.oof_resolve.specs.declared.ContainingBlock.{ContainingBlock}
use Rattle.mirror_axis.specs.Image.{reflected_place}

-- all directions flipped
unfoldable pub other_direction : Direction → Direction
other_direction Ltr = Rtl
other_direction Rtl = Ltr

-- left and right exchanged: of lengths, all that they hold together
unfoldable pub exchanged_lengths : Rect CompactLength → Rect CompactLength
exchanged_lengths r = record { left = r.right; right = r.left; top = r.top; bottom = r.bottom }

unfoldable pub exchanged_rect : Rect Float → Rect Float
exchanged_rect r = record { left = r.right; right = r.left; top = r.top; bottom = r.bottom }

-- the area, its offset and the overflow stay
unfoldable pub image_container : ContainingBlock → ContainingBlock
image_container b = record { area = b.area; direction = other_direction b.direction; overflow = b.overflow }

-- the alignment keywords stay: they speak of start and end
unfoldable pub image_style : Style → Style
image_style s =
    record {
      inset = exchanged_lengths s.inset;
      margin = exchanged_lengths s.margin;
      padding = exchanged_lengths s.padding;
      border = exchanged_lengths s.border;
      size = s.size;
      min = s.min;
      max = s.max;
      ratio = s.ratio;
      sizing = s.sizing;
      replaced = s.replaced;
      table = s.table;
      direction = other_direction s.direction;
      justify = s.justify;
      align = s.align;
      overflow = s.overflow;
      scrollbar = s.scrollbar;
      contain = s.contain;
    }

-- 2 × offset + width: what a position and its mirror image add up to, for it is the sum of the area's left and right edges
unfoldable pub edge_sum : OofPositioningArea → Float
edge_sum a = 2f ⊗ a.offset.x ⊕ a.size.width

-- the x area becomes 2 × offset + width - end to 2 × offset + width - start, start and end exchanged in edge and fallback edge; all else
-- stays, and "the mirrored screens keep equal layers" (request #104)
unfoldable pub image_candidate : OofPositioningArea → OofCandidate → OofCandidate
image_candidate a c =
    record {
      node = c.node;
      order = c.order;
      position = c.position;
      place = record { x = reflected_place (edge_sum a) c.place.x; y = c.place.y };
      layer = c.layer;
    }
