-- One box before the host is asked: steps 1 to 3 of document 01 ("One box"). Read `resolved_box`, at the end, first. Assumes nothing.
use Rattle.std.specs.Prelude.{true, false, cond, Float, Option}
use Rattle.util.specs.Number.{◌⊖◌, 0f}
use Rattle.util.specs.Order.{larger}
use Rattle.geometry.specs.Geometry.{counted_from, line_x, line_y, rect_or_zero, sum_x, sum_y, sums, rect_sum, zero_size, smaller_size, definite, first_size, added_size, raised_size, clamped_size, with_ratio}
use Rattle.geometry.specs.declared.Rect.{Rect}
use Rattle.style.specs.declared.compact_length.CompactLength.{CompactLength}
use Rattle.geometry.specs.declared.Size.{Size}
use Rattle.style.specs.Resolve.{resolved_rect, resolved_size}
use Rattle.style.specs.Values.{is_content_box, is_scroll_container, is_rtl, self_relative, definite_spaces, clamped_spaces}
use Rattle.style.specs.declared.Style.{Style}
use Rattle.style.specs.declared.resolve.Field.{Field}
use Rattle.style.specs.declared.resolve.Field.TheVariants as field
use Rattle.tree.specs.declared.layout.AxisStaticPosition.{AxisStaticPosition}
use Rattle.tree.specs.declared.layout.OofCandidate.{OofCandidate}
use Rattle.oof_axis.specs.Axis.{from_resolved, stretch_fit}
use Rattle.oof_axis.specs.declared.OofAxis.{OofAxis}
use Rattle.oof_resolve.specs.declared.ContainingBlock.{ContainingBlock}
use Rattle.oof_resolve.specs.declared.ResolvedBox.{ResolvedBox}

-- ---- step 1: percentages and static areas

-- margins, padding and border take percentages of the area's width, top and bottom too
unfoldable pub of_width : Field → Rect CompactLength → Size Float → Rect (Option Float)
of_width f sides areaSize = resolved_rect f sides areaSize.width areaSize.width

-- insets: left and right of its width, top and bottom of its height
unfoldable pub of_each_axis : Rect CompactLength → Size Float → Rect (Option Float)
of_each_axis sides areaSize = resolved_rect field.InsetOrMargin sides areaSize.width areaSize.height

-- the static area less the offset: counted from the area's edge
unfoldable pub less_offset : AxisStaticPosition → Float → AxisStaticPosition
less_offset place offset = record { area = counted_from place.area offset; align = place.align }

-- the inline axis: justify-self, and the containing block's direction
unfoldable pub horizontal : ContainingBlock → Style → OofCandidate → OofAxis
horizontal container style candidate =
    let justify = self_relative style.justify style.direction container.direction true in
    record {
      size = container.area.size.width;
      inset = line_x (of_each_axis style.inset container.area.size);
      margin = line_x (of_width field.InsetOrMargin style.margin container.area.size);
      place = less_offset candidate.place.x container.area.offset.x;
      alignment = from_resolved justify.keyword;
      safety = justify.safety;
      inline = true;
      reversed = is_rtl container.direction;
      scrolls = is_scroll_container container.overflow.x;
    }

-- the block axis: align-self, from top to bottom
unfoldable pub vertical : ContainingBlock → Style → OofCandidate → OofAxis
vertical container style candidate =
    let align = self_relative style.align style.direction container.direction false in
    record {
      size = container.area.size.height;
      inset = line_y (of_each_axis style.inset container.area.size);
      margin = line_y (of_width field.InsetOrMargin style.margin container.area.size);
      place = less_offset candidate.place.y container.area.offset.y;
      alignment = from_resolved align.keyword;
      safety = align.safety;
      inline = false;
      reversed = false;
      scrolls = is_scroll_container container.overflow.y;
    }

-- the widths of padding, or of border
unfoldable pub padding_or_border : Rect CompactLength → Size Float → Rect Float
padding_or_border sides areaSize = rect_or_zero (of_width field.PaddingOrBorder sides areaSize)

-- ---- step 2: size, min and max. `paddingBorder` is padding plus border of each axis.

-- resolved (keywords are absent); the ratio applied to a lone side; padding plus border added where content-box
unfoldable pub style_size : Field → Size CompactLength → Style → Size Float → Size Float → Size (Option Float)
style_size f lengths style areaSize paddingBorder =
    added_size (with_ratio style.ratio (resolved_size f lengths areaSize)) (cond (is_content_box style.sizing) paddingBorder zero_size)

-- min is raised to padding plus border, or is that sum where absent
unfoldable pub min_size : Style → Size Float → Size Float → Size (Option Float)
min_size style areaSize paddingBorder = raised_size (first_size (style_size field.MinOrMax style.min style areaSize paddingBorder) (definite paddingBorder)) paddingBorder

-- ---- step 3: available space

-- the area less the margins, at least 0
unfoldable pub less_margins : Size Float → Rect Float → Size Float
less_margins areaSize margin =
    record { width = larger (areaSize.width ⊖ sum_x margin) 0f; height = larger (areaSize.height ⊖ sum_y margin) 0f }

-- the stretch-fit size (`fit`); for a table the smaller of it and the area less the margins that aren't auto (css-tables-3 #abspos)
unfoldable pub space_for : Style → Size Float → Size Float → Size Float
space_for style areaSize fit =
    cond style.table (smaller_size fit (less_margins areaSize (rect_or_zero (of_width field.InsetOrMargin style.margin areaSize)))) fit

-- ---- steps 1 to 3

unfoldable pub resolved_box : ContainingBlock → Style → OofCandidate → ResolvedBox
resolved_box container style candidate =
    let areaSize = container.area.size in
    -- 1. insets, margins and static areas, by axis; padding and border
    let x = horizontal container style candidate in
    let y = vertical container style candidate in
    let padding = padding_or_border style.padding areaSize in
    let border = padding_or_border style.border areaSize in
    -- 2. min and max; the size, clamped
    let paddingBorder = sums (rect_sum padding border) in
    let min = min_size style areaSize paddingBorder in
    let max = style_size field.MinOrMax style.max style areaSize paddingBorder in
    let size = style_size field.Size style.size style areaSize paddingBorder in
    -- 3. the available space, definite, then clamped
    let fit : Size Float = record { width = stretch_fit x; height = stretch_fit y } in
    let space = definite_spaces (space_for style areaSize fit) in
    record {
      horizontal = x;
      vertical = y;
      padding = padding;
      border = border;
      size = clamped_size size min max;
      min = min;
      max = max;
      fit = fit;
      space = clamped_spaces space min max;
    }
