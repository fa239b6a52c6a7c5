-- The definition asks, lays out and contributes what the Rust or the second implementation did, by computation: zeros are equal, and so are NaNs.
use Rattle.std.specs.Prelude.{is_some, option_map, unwrap_or}
use Rattle.std.specs.Option.{option_or}
use mathlib.Core.Path.{◌≡◌, refl}
use mathlib.Core.Bool.{true}
use lib.Ieee.{add, sub, mul, div, neg, lt, le, eq, is_nan, sum, round, units, odd, size, span, climb, of_bits, to_bits, of_fields, nan_bits}
use Rattle.util.specs.Order.{zero_of, before, larger, smaller, magnitude}
use Rattle.util.specs.Maybe.{map_add, map_larger, at_most, at_least, clamped, map_clamped}
use Rattle.geometry.specs.Geometry.{rect_or_zero, sum_x, sum_y, sums, rect_sum, union_of, smaller_size, definite, both_present, first_size, filled_size, added_size, raised_size, clamped_size, clamped_floats, completed, with_ratio}
use Rattle.style.specs.Resolve.{by_tag, resolved, takes, maybe_resolved, resolved_rect, resolved_size}
use Rattle.style.specs.Values.{self_relative, clamped_space, clamped_spaces, definite_spaces}
use Rattle.style.specs.Codes.{position_of, sizing_of, overflow_of, direction_of, safety_of, keyword_of, alignment_of, contain_of}
use Rattle.style_record.specs.Record.{length_field, length_kinds, code_kinds, kind_of, items}
use Rattle.style_record.specs.Decode.{length_at, rect_at, size_at, align_at, ratio_at, overflow_at, style_of, style_at}
use Rattle.tree.specs.Codes.{edge_of}
use Rattle.tree_record.specs.Candidate.{axis_of, candidate_of, candidate_words}
use Rattle.tree_record.specs.Layout.{rect_of, layout_of, layout_words}
use Rattle.oof_axis.specs.Axis.{from_resolved, align_in, centered_block, static_block, inset_block, start_is_weaker, repaired, block, both_insets, stretch_fit, stretching, stretches, is_stretch, halves, filled_margins, margins, is_normal, align_edge, limit, kept_within, self_aligned, static_aligned, position_in, position, placement}
use Rattle.oof_common.specs.SizingKeyword.{by_keyword, of_resolved, keyword_of as keywordOf-of-common, absolute_stretch, if_absent, keywords_of}
use Rattle.oof_common.specs.ScrollableOverflow.{propagates, reach, placed_at, contribution}
use Rattle.oof_resolve.specs.Resolved.{of_width, of_each_axis, less_offset, horizontal, vertical, padding_or_border, style_size, min_size, less_margins, space_for, resolved_box}
use Rattle.oof_place.specs.Placing.{scrollbar_of, layout_of as layoutOf-of-place, from_origin, box_layout}
use Rattle.oof_box.specs.Talk.{◌>>=◌}
use Rattle.oof_box.specs.Box.{keyword_stretch, size_keywords, settled, width_as, height_as, in_turn, by_keywords, keyword_sizes, ignores_ratio, stretch_ratio, widened, heightened, raised_min, stretched, final_size, measured, placed}
use Rattle.test_oof_box_rows.specs.Sample.{container_of, plain, same, known_word, space_word, asked, question_words, reply_of, follows, agrees, all_agree}
use Rattle.test_oof_box_rows.specs.Quarter.{boxes as quarter-boxes}
use Rattle.test_oof_box_rows.specs.Typical.{boxes as typical-boxes}
use Rattle.test_oof_box_rows.specs.Wild.{boxes as wild-boxes}
use Rattle.test_oof_box_rows.specs.Directed.{boxes as directed-boxes}

quarter_boxes_agree : all_agree quarter-boxes ≡ true
unfolding quarter-boxes add sub mul div neg lt le eq is_nan sum round units odd size span climb of_bits to_bits of_fields nan_bits zero_of before larger smaller magnitude map_add map_larger at_most at_least clamped map_clamped rect_or_zero sum_x sum_y sums rect_sum union_of smaller_size definite both_present first_size filled_size added_size raised_size clamped_size clamped_floats completed with_ratio by_tag resolved takes maybe_resolved resolved_rect resolved_size self_relative clamped_space clamped_spaces definite_spaces sizing_of overflow_of direction_of safety_of keyword_of alignment_of contain_of length_field length_kinds code_kinds kind_of items length_at rect_at size_at align_at ratio_at overflow_at style_of style_at position_of edge_of axis_of candidate_of candidate_words rect_of layout_of layout_words from_resolved align_in centered_block static_block inset_block start_is_weaker repaired block both_insets stretch_fit stretching stretches is_stretch halves filled_margins margins is_normal align_edge limit kept_within self_aligned static_aligned position_in position placement by_keyword of_resolved keywordOf-of-common absolute_stretch if_absent keywords_of propagates reach placed_at contribution of_width of_each_axis less_offset horizontal vertical padding_or_border style_size min_size less_margins space_for resolved_box scrollbar_of layoutOf-of-place from_origin box_layout ◌>>=◌ keyword_stretch size_keywords settled width_as height_as in_turn by_keywords keyword_sizes ignores_ratio stretch_ratio widened heightened raised_min stretched final_size measured placed container_of plain same known_word space_word asked question_words reply_of follows agrees all_agree
quarter_boxes_agree = refl

typical_boxes_agree : all_agree typical-boxes ≡ true
unfolding typical-boxes add sub mul div neg lt le eq is_nan sum round units odd size span climb of_bits to_bits of_fields nan_bits zero_of before larger smaller magnitude map_add map_larger at_most at_least clamped map_clamped rect_or_zero sum_x sum_y sums rect_sum union_of smaller_size definite both_present first_size filled_size added_size raised_size clamped_size clamped_floats completed with_ratio by_tag resolved takes maybe_resolved resolved_rect resolved_size self_relative clamped_space clamped_spaces definite_spaces sizing_of overflow_of direction_of safety_of keyword_of alignment_of contain_of length_field length_kinds code_kinds kind_of items length_at rect_at size_at align_at ratio_at overflow_at style_of style_at position_of edge_of axis_of candidate_of candidate_words rect_of layout_of layout_words from_resolved align_in centered_block static_block inset_block start_is_weaker repaired block both_insets stretch_fit stretching stretches is_stretch halves filled_margins margins is_normal align_edge limit kept_within self_aligned static_aligned position_in position placement by_keyword of_resolved keywordOf-of-common absolute_stretch if_absent keywords_of propagates reach placed_at contribution of_width of_each_axis less_offset horizontal vertical padding_or_border style_size min_size less_margins space_for resolved_box scrollbar_of layoutOf-of-place from_origin box_layout ◌>>=◌ keyword_stretch size_keywords settled width_as height_as in_turn by_keywords keyword_sizes ignores_ratio stretch_ratio widened heightened raised_min stretched final_size measured placed container_of plain same known_word space_word asked question_words reply_of follows agrees all_agree
typical_boxes_agree = refl

wild_boxes_agree : all_agree wild-boxes ≡ true
unfolding wild-boxes add sub mul div neg lt le eq is_nan sum round units odd size span climb of_bits to_bits of_fields nan_bits zero_of before larger smaller magnitude map_add map_larger at_most at_least clamped map_clamped rect_or_zero sum_x sum_y sums rect_sum union_of smaller_size definite both_present first_size filled_size added_size raised_size clamped_size clamped_floats completed with_ratio by_tag resolved takes maybe_resolved resolved_rect resolved_size self_relative clamped_space clamped_spaces definite_spaces sizing_of overflow_of direction_of safety_of keyword_of alignment_of contain_of length_field length_kinds code_kinds kind_of items length_at rect_at size_at align_at ratio_at overflow_at style_of style_at position_of edge_of axis_of candidate_of candidate_words rect_of layout_of layout_words from_resolved align_in centered_block static_block inset_block start_is_weaker repaired block both_insets stretch_fit stretching stretches is_stretch halves filled_margins margins is_normal align_edge limit kept_within self_aligned static_aligned position_in position placement by_keyword of_resolved keywordOf-of-common absolute_stretch if_absent keywords_of propagates reach placed_at contribution of_width of_each_axis less_offset horizontal vertical padding_or_border style_size min_size less_margins space_for resolved_box scrollbar_of layoutOf-of-place from_origin box_layout ◌>>=◌ keyword_stretch size_keywords settled width_as height_as in_turn by_keywords keyword_sizes ignores_ratio stretch_ratio widened heightened raised_min stretched final_size measured placed container_of plain same known_word space_word asked question_words reply_of follows agrees all_agree
wild_boxes_agree = refl

directed_boxes_agree : all_agree directed-boxes ≡ true
unfolding directed-boxes add sub mul div neg lt le eq is_nan sum round units odd size span climb of_bits to_bits of_fields nan_bits zero_of before larger smaller magnitude map_add map_larger at_most at_least clamped map_clamped rect_or_zero sum_x sum_y sums rect_sum union_of smaller_size definite both_present first_size filled_size added_size raised_size clamped_size clamped_floats completed with_ratio by_tag resolved takes maybe_resolved resolved_rect resolved_size self_relative clamped_space clamped_spaces definite_spaces sizing_of overflow_of direction_of safety_of keyword_of alignment_of contain_of length_field length_kinds code_kinds kind_of items length_at rect_at size_at align_at ratio_at overflow_at style_of style_at position_of edge_of axis_of candidate_of candidate_words rect_of layout_of layout_words from_resolved align_in centered_block static_block inset_block start_is_weaker repaired block both_insets stretch_fit stretching stretches is_stretch halves filled_margins margins is_normal align_edge limit kept_within self_aligned static_aligned position_in position placement by_keyword of_resolved keywordOf-of-common absolute_stretch if_absent keywords_of propagates reach placed_at contribution of_width of_each_axis less_offset horizontal vertical padding_or_border style_size min_size less_margins space_for resolved_box scrollbar_of layoutOf-of-place from_origin box_layout ◌>>=◌ keyword_stretch size_keywords settled width_as height_as in_turn by_keywords keyword_sizes ignores_ratio stretch_ratio widened heightened raised_min stretched final_size measured placed container_of plain same known_word space_word asked question_words reply_of follows agrees all_agree
directed_boxes_agree = refl
