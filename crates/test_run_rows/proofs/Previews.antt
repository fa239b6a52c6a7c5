-- The rows of `specs/Previews.antt`, computed: each unfolds what its calls use. Assumes nothing.
use mathlib.Core.Path.{refl}
use lib.Ieee.{add, sub, mul, div, neg, lt, le, eq, is_nan, sum, round, units, odd, size, span, climb, of_bits, to_bits, of_fields, nan_bits, of_int}
use Rattle.test_run_rows.specs.Script.{opening_of, both, width, height, laid, known_word, space_word, measure_words, question_words, answer_words, told, plain, same, same_all}
use Rattle.test_run_rows.specs.Readings.{px, minus, length_of, lengths, item, sized, box, broken, candidate, absolute, fixed, bad_absolute, bad_fixed, over, left, opening_in, opening, reply, surfacing, refuses, measures_both, lays_out, finishes, laid_at, never_laid, box_asked, box_end, twelve, styles, opened_two, after_one, rewriting, rewriting_unclaimed, candidates, pair, claimed_twice, layouts, aside, with_tally, over_pair, both_items}
use Rattle.util.specs.Order.{zero_of, before, larger, smaller, magnitude}
use Rattle.util.specs.Maybe.{map_add, map_larger, at_most, at_least, clamped, map_clamped}
use Rattle.geometry.specs.Geometry.{rect_or_zero, sum_x, sum_y, sums, rect_sum, union_of, smaller_size, definite, both_present, first_size, filled_size, added_size, raised_size, clamped_size, clamped_floats, completed, with_ratio}
use Rattle.style.specs.Codes.{position_code, safety_code, position_of, sizing_of, overflow_of, direction_of, safety_of, keyword_of, alignment_of, contain_of}
use Rattle.style.specs.Values.{self_relative, clamped_space, clamped_spaces, definite_spaces}
use Rattle.style.specs.Resolve.{by_tag, resolved, takes, maybe_resolved, resolved_rect, resolved_size}
use Rattle.records.specs.Records.{record_at, records, room, written, wrong, every, breaks, good, good_records}
use Rattle.style_record.specs.Record.{length_field, length_kinds, code_kinds, kind_of, items}
use Rattle.style_record.specs.Check.{safety_breaks, breaks_as, breaks_rule, first_from, first_broken, or_rest, checked_from, checked}
use Rattle.style_record.specs.Decode.{length_at, rect_at, size_at, align_at, ratio_at, overflow_at, style_of, style_at}
use Rattle.tree.specs.Static.{shifted_axis, translated}
use Rattle.tree.specs.Codes.{edge_code, edge_of}
use Rattle.tree_record.specs.Candidate.{axis_of, candidate_of, candidate_words}
use Rattle.tree_record.specs.Layout.{layout_words}
use Rattle.sweep.specs.Sweep.{first_candidates, candidates_in, moved, side, keep, list_words}
use Rattle.oof_common.specs.ScrollableOverflow.{propagates, reach, placed_at, contribution}
use Rattle.oof_common.specs.SizingKeyword.{by_keyword, of_resolved, keyword_of as keyword_of', absolute_stretch, if_absent, keywords_of}
use Rattle.oof_axis.specs.Axis.{from_resolved, align_in, centered_block, static_block, inset_block, start_is_weaker, repaired, block, both_insets, stretch_fit, stretching, stretches, is_stretch, halves, filled_margins, margins, is_normal, align_edge, limit, kept_within, self_aligned, static_aligned, position_in, position, placement}
use Rattle.oof_resolve.specs.Resolved.{of_width, of_each_axis, less_offset, horizontal, vertical, padding_or_border, style_size, min_size, less_margins, space_for, resolved_box}
use Rattle.oof_place.specs.Placing.{scrollbar_of, layout_of as layout_of', from_origin, box_layout}
use Rattle.oof_box.specs.Box.{keyword_stretch, size_keywords, settled, width_as, height_as, in_turn, by_keywords, keyword_sizes, ignores_ratio, stretch_ratio, widened, heightened, raised_min, stretched, final_size, measured as measured', placed}
use Rattle.oof_box.specs.Cut.{taken, known_by, stretched_by, size_by, keyword_asked, size_asked, asked_of, asked_after, layout_after}
use Rattle.run.specs.Refusals.{◌when◌else◌, bad_area, bad_table, bad_list, bad_slices, other_lengths, bad_style, bad_candidate, list_full, wrong_counts}
use Rattle.run.specs.Run.{box_at_hand, asking, finishing, proceeding, opening_verdict, closed, begun, opened, taken_by, reply_verdict, charged, measured_on, laid_out, replied}
use Rattle.run.specs.Preview.{opening_before_copy, preview_opened, reply_before_copy, preview_replied}
use Rattle.run.specs.Theorems.{next}
use Rattle.test_run_rows.specs.Previews.{PreviewOpeningOrderRows, PreviewCheckRows, PreviewReplyOrderRows, PreviewRunRows}

pub preview_opening_order_rows : PreviewOpeningOrderRows
unfolding add sub mul div neg lt le eq is_nan sum round units odd size span climb of_bits to_bits of_fields nan_bits of_int opening_of width height laid known_word space_word measure_words question_words answer_words plain same px minus length_of lengths item sized box broken candidate absolute fixed bad_absolute bad_fixed over opening_in opening reply surfacing refuses lays_out finishes laid_at never_laid box_asked box_end twelve styles opened_two after_one rewriting rewriting_unclaimed candidates pair claimed_twice layouts with_tally zero_of before larger smaller magnitude map_add map_larger at_most at_least clamped map_clamped rect_or_zero sum_x sum_y sums rect_sum union_of smaller_size definite both_present first_size filled_size added_size raised_size clamped_size clamped_floats completed with_ratio position_code safety_code position_of sizing_of overflow_of direction_of safety_of keyword_of alignment_of contain_of self_relative clamped_space clamped_spaces definite_spaces by_tag resolved takes maybe_resolved resolved_rect resolved_size record_at records room written wrong every breaks good good_records length_field length_kinds code_kinds kind_of items safety_breaks breaks_as breaks_rule first_from first_broken or_rest checked_from checked length_at rect_at size_at align_at ratio_at overflow_at style_of style_at edge_code edge_of axis_of candidate_of candidate_words first_candidates candidates_in moved side keep list_words by_keyword of_resolved keyword_of' absolute_stretch if_absent keywords_of from_resolved align_in centered_block static_block inset_block start_is_weaker repaired block both_insets stretch_fit stretching stretches is_stretch halves filled_margins margins is_normal align_edge limit kept_within self_aligned static_aligned position_in position placement of_width of_each_axis less_offset horizontal vertical padding_or_border style_size min_size less_margins space_for resolved_box keyword_stretch size_keywords settled width_as height_as in_turn by_keywords keyword_sizes ignores_ratio stretch_ratio widened heightened raised_min stretched final_size measured' placed taken known_by stretched_by size_by keyword_asked size_asked asked_of asked_after layout_after ◌when◌else◌ bad_area bad_table bad_list bad_slices other_lengths bad_style bad_candidate list_full wrong_counts box_at_hand asking finishing proceeding opening_verdict closed begun opened taken_by reply_verdict charged measured_on laid_out replied opening_before_copy preview_opened
preview_opening_order_rows = (refl, refl, refl, refl, refl, refl, refl, refl, refl, refl, refl, refl, refl, refl, refl, refl, refl, refl, refl, refl, refl, refl)

pub preview_check_rows : PreviewCheckRows
unfolding add sub mul div neg lt le eq is_nan sum round units odd size span climb of_bits to_bits of_fields nan_bits of_int opening_of width height laid known_word space_word measure_words question_words answer_words plain same px minus length_of lengths item sized box broken candidate absolute fixed bad_absolute bad_fixed over left opening_in opening reply surfacing refuses lays_out finishes laid_at never_laid box_asked box_end styles opened_two after_one rewriting rewriting_unclaimed candidates pair claimed_twice layouts zero_of before larger smaller magnitude map_add map_larger at_most at_least clamped map_clamped rect_or_zero sum_x sum_y sums rect_sum union_of smaller_size definite both_present first_size filled_size added_size raised_size clamped_size clamped_floats completed with_ratio position_code safety_code position_of sizing_of overflow_of direction_of safety_of keyword_of alignment_of contain_of self_relative clamped_space clamped_spaces definite_spaces by_tag resolved takes maybe_resolved resolved_rect resolved_size record_at records room written wrong every breaks good good_records length_field length_kinds code_kinds kind_of items safety_breaks breaks_as breaks_rule first_from first_broken or_rest checked_from checked length_at rect_at size_at align_at ratio_at overflow_at style_of style_at edge_code edge_of axis_of candidate_of candidate_words first_candidates candidates_in moved side keep list_words propagates reach placed_at contribution by_keyword of_resolved keyword_of' absolute_stretch if_absent keywords_of from_resolved align_in centered_block static_block inset_block start_is_weaker repaired block both_insets stretch_fit stretching stretches is_stretch halves filled_margins margins is_normal align_edge limit kept_within self_aligned static_aligned position_in position placement of_width of_each_axis less_offset horizontal vertical padding_or_border style_size min_size less_margins space_for resolved_box scrollbar_of layout_of' from_origin box_layout keyword_stretch size_keywords settled width_as height_as in_turn by_keywords keyword_sizes ignores_ratio stretch_ratio widened heightened raised_min stretched final_size measured' placed taken known_by stretched_by size_by keyword_asked size_asked asked_of asked_after layout_after ◌when◌else◌ bad_area bad_table bad_list bad_slices other_lengths bad_style bad_candidate list_full wrong_counts box_at_hand asking finishing proceeding opening_verdict closed begun opened taken_by reply_verdict charged measured_on laid_out replied opening_before_copy preview_opened reply_before_copy preview_replied
preview_check_rows = (refl, refl, refl, refl, refl, refl, refl, refl, refl, refl, refl)

pub preview_reply_order_rows : PreviewReplyOrderRows
unfolding add sub mul div neg lt le eq is_nan sum round units odd size span climb of_bits to_bits of_fields nan_bits of_int opening_of both width height laid known_word space_word measure_words question_words answer_words plain same px minus length_of lengths item sized box broken candidate absolute fixed bad_absolute bad_fixed over left opening_in opening reply surfacing refuses lays_out finishes laid_at never_laid box_asked box_end twelve styles opened_two after_one rewriting rewriting_unclaimed candidates pair claimed_twice layouts with_tally over_pair both_items zero_of before larger smaller magnitude map_add map_larger at_most at_least clamped map_clamped rect_or_zero sum_x sum_y sums rect_sum union_of smaller_size definite both_present first_size filled_size added_size raised_size clamped_size clamped_floats completed with_ratio position_code safety_code position_of sizing_of overflow_of direction_of safety_of keyword_of alignment_of contain_of by_tag resolved takes maybe_resolved resolved_rect resolved_size record_at records room written wrong every breaks good good_records length_field length_kinds code_kinds kind_of items safety_breaks breaks_as breaks_rule first_from first_broken or_rest checked_from checked length_at rect_at size_at align_at ratio_at overflow_at style_of style_at edge_code edge_of axis_of candidate_of candidate_words layout_words first_candidates candidates_in moved side keep list_words propagates reach placed_at contribution by_keyword of_resolved keyword_of' absolute_stretch if_absent keywords_of from_resolved align_in centered_block static_block inset_block start_is_weaker repaired block both_insets stretch_fit stretching stretches is_stretch halves filled_margins margins is_normal align_edge limit kept_within self_aligned static_aligned position_in position placement of_width of_each_axis less_offset horizontal vertical padding_or_border style_size min_size less_margins space_for resolved_box scrollbar_of layout_of' from_origin box_layout keyword_stretch size_keywords settled width_as height_as in_turn by_keywords keyword_sizes ignores_ratio stretch_ratio widened heightened raised_min stretched final_size measured' placed taken known_by stretched_by size_by keyword_asked size_asked asked_of asked_after layout_after ◌when◌else◌ bad_area bad_table bad_list bad_slices other_lengths bad_style bad_candidate list_full wrong_counts box_at_hand asking finishing proceeding opening_verdict closed begun opened taken_by reply_verdict charged measured_on laid_out replied opening_before_copy preview_opened reply_before_copy preview_replied
preview_reply_order_rows = (refl, refl, refl, refl, refl, refl, refl, refl, refl, refl, refl, refl, refl, refl, refl, refl, refl, refl, refl, refl, refl)

pub preview_run_rows : PreviewRunRows
unfolding add sub mul div neg lt le eq is_nan sum round units odd size span climb of_bits to_bits of_fields nan_bits of_int opening_of both width height laid known_word space_word measure_words question_words answer_words told plain same same_all px minus length_of lengths item sized box broken candidate absolute fixed bad_absolute bad_fixed over left opening_in opening reply surfacing refuses measures_both lays_out finishes laid_at never_laid box_asked box_end styles opened_two after_one rewriting rewriting_unclaimed candidates pair claimed_twice layouts aside with_tally over_pair both_items zero_of before larger smaller magnitude map_add map_larger at_most at_least clamped map_clamped rect_or_zero sum_x sum_y sums rect_sum union_of smaller_size definite both_present first_size filled_size added_size raised_size clamped_size clamped_floats completed with_ratio position_code safety_code position_of sizing_of overflow_of direction_of safety_of keyword_of alignment_of contain_of self_relative clamped_space clamped_spaces definite_spaces by_tag resolved takes maybe_resolved resolved_rect resolved_size record_at records room written wrong every breaks good good_records length_field length_kinds code_kinds kind_of items safety_breaks breaks_as breaks_rule first_from first_broken or_rest checked_from checked length_at rect_at size_at align_at ratio_at overflow_at style_of style_at shifted_axis translated edge_code edge_of axis_of candidate_of candidate_words layout_words first_candidates candidates_in moved side keep list_words propagates reach placed_at contribution by_keyword of_resolved keyword_of' absolute_stretch if_absent keywords_of from_resolved align_in centered_block static_block inset_block start_is_weaker repaired block both_insets stretch_fit stretching stretches is_stretch halves filled_margins margins is_normal align_edge limit kept_within self_aligned static_aligned position_in position placement of_width of_each_axis less_offset horizontal vertical padding_or_border style_size min_size less_margins space_for resolved_box scrollbar_of layout_of' from_origin box_layout keyword_stretch size_keywords settled width_as height_as in_turn by_keywords keyword_sizes ignores_ratio stretch_ratio widened heightened raised_min stretched final_size measured' placed taken known_by stretched_by size_by keyword_asked size_asked asked_of asked_after layout_after ◌when◌else◌ bad_area bad_table bad_list bad_slices other_lengths bad_style bad_candidate list_full wrong_counts box_at_hand asking finishing proceeding opening_verdict closed begun opened taken_by reply_verdict charged measured_on laid_out replied opening_before_copy preview_opened reply_before_copy preview_replied next
preview_run_rows = (refl, refl, refl, refl, refl, refl, refl, refl, refl, refl, refl, refl, refl, refl)
