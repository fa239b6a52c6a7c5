-- Document 01's rows, by computation.
use Rattle.std.specs.Prelude.{is_some, option_map, unwrap_or}
use Rattle.std.specs.Option.{option_or}
use mathlib.Core.Path.{◌≡◌, refl}
use mathlib.Core.Bool.{true}
use lib.Ieee.{add, sub, mul, div, neg, lt, le, eq, is_nan, sum, round, units, odd, size, span, climb, of_bits, to_bits, of_fields, nan_bits, of_int}
use Rattle.util.specs.Order.{zero_of, before, larger, smaller, magnitude}
use Rattle.util.specs.Maybe.{map_add, map_larger, at_most, at_least, clamped, map_clamped}
use Rattle.geometry.specs.Geometry.{rect_or_zero, sum_x, sum_y, sums, rect_sum, union_of, smaller_size, definite, both_present, first_size, filled_size, added_size, raised_size, clamped_size, clamped_floats, completed, with_ratio}
use Rattle.style.specs.Resolve.{by_tag, resolved, takes, maybe_resolved, resolved_rect, resolved_size}
use Rattle.style.specs.Values.{self_relative, clamped_space, clamped_spaces, definite_spaces}
use Rattle.oof_axis.specs.Axis.{from_resolved, align_in, centered_block, static_block, inset_block, start_is_weaker, repaired, block, both_insets, stretch_fit, stretching, stretches, is_stretch, halves, filled_margins, margins, is_normal, align_edge, limit, kept_within, self_aligned, static_aligned, position_in, position, placement}
use Rattle.oof_common.specs.SizingKeyword.{by_keyword, of_resolved, keyword_of, absolute_stretch, if_absent, keywords_of}
use Rattle.oof_common.specs.ScrollableOverflow.{propagates, reach, placed_at, contribution}
use Rattle.oof_resolve.specs.Resolved.{of_width, of_each_axis, less_offset, horizontal, vertical, padding_or_border, style_size, min_size, less_margins, space_for, resolved_box}
use Rattle.oof_place.specs.Placing.{scrollbar_of, layout_of, from_origin, box_layout}
use Rattle.oof_box.specs.Talk.{◌>>=◌}
use Rattle.oof_box.specs.Box.{keyword_stretch, size_keywords, settled, width_as, height_as, in_turn, by_keywords, keyword_sizes, ignores_ratio, stretch_ratio, widened, heightened, raised_min, stretched, final_size, measured, placed}
use Rattle.test_oof_box_rows.specs.AxisRows.{px, insets, none, static, axis, centered, auto_margins, overconstrained, static_center, line_is, locates, places, has_block, axis_rows}
use Rattle.test_oof_box_rows.specs.Rows.{box_with, area_of, candidate, outcome, has_width, is, has_min, clamped_box, floored_box, box_rows, adds, thin_box, flat_box, outside, outside_right, overflow_rows, stands_by, asks, half_high, half_down, half_wide, sum_rows, anchored, has_size, shifted, static_across, placed_across, negative, is_space, are_spaces, asks_in, knows_width, knows_height, comes_to, from_anchor, stretch_rows, rows, all}

rows_hold : all rows ≡ true
unfolding add sub mul div neg lt le eq is_nan sum round units odd size span climb of_bits to_bits of_fields nan_bits of_int zero_of before larger smaller magnitude map_add map_larger at_most at_least clamped map_clamped rect_or_zero sum_x sum_y sums rect_sum union_of smaller_size definite both_present first_size filled_size added_size raised_size clamped_size clamped_floats completed with_ratio by_tag resolved takes maybe_resolved resolved_rect resolved_size self_relative clamped_space clamped_spaces definite_spaces from_resolved align_in centered_block static_block inset_block start_is_weaker repaired block both_insets stretch_fit stretching stretches is_stretch halves filled_margins margins is_normal align_edge limit kept_within self_aligned static_aligned position_in position placement by_keyword of_resolved keyword_of absolute_stretch if_absent keywords_of propagates reach placed_at contribution of_width of_each_axis less_offset horizontal vertical padding_or_border style_size min_size less_margins space_for resolved_box scrollbar_of layout_of from_origin box_layout ◌>>=◌ keyword_stretch size_keywords settled width_as height_as in_turn by_keywords keyword_sizes ignores_ratio stretch_ratio widened heightened raised_min stretched final_size measured placed px insets none static axis centered auto_margins overconstrained static_center line_is locates places has_block axis_rows box_with area_of candidate outcome has_width is has_min clamped_box floored_box box_rows adds thin_box flat_box outside outside_right overflow_rows stands_by asks half_high half_down half_wide sum_rows anchored has_size shifted static_across placed_across negative is_space are_spaces asks_in knows_width knows_height comes_to from_anchor stretch_rows rows all
rows_hold = refl
