-- The rows of `specs/Rows.antt`, computed. Assumes nothing.
use mathlib.Core.Path.{refl}
use lib.Ieee.{add, sub, div, neg, lt, le, is_nan, sum, round, units, size, span, of_bits, to_bits, of_int}
use Rattle.util.specs.Order.{zero_of, before, larger, smaller}
use Rattle.util.specs.Maybe.{map_add, map_larger, at_most, at_least, clamped, map_clamped}
use Rattle.util.specs.Eighths.{count_of, counted}
use Rattle.geometry.specs.Geometry.{rect_or_zero, sum_x, sum_y, sums, rect_sum, union_of, definite, both_present, first_size, filled_size, added_size, raised_size, clamped_size, clamped_floats, with_ratio}
use Rattle.records.specs.Records.{record_at, records, room, written, wrong, every, breaks, good, good_records}
use Rattle.style.specs.Codes.{position_code, safety_code, position_of, sizing_of, overflow_of, direction_of, safety_of, keyword_of, contain_of}
use Rattle.style.specs.Resolve.{by_tag, resolved, takes, maybe_resolved, resolved_rect, resolved_size}
use Rattle.style_record.specs.Record.{length_field, length_kinds, code_kinds, kind_of, items}
use Rattle.style_record.specs.Check.{safety_breaks, breaks_as, breaks_rule, breaks as breaks', first_from, first_broken, or_rest, checked_from, checked}
use Rattle.style_record.specs.Decode.{length_at, rect_at, size_at, ratio_at, overflow_at, style_of, style_at}
use Rattle.tree.specs.Static.{shifted_axis, translated}
use Rattle.tree.specs.Codes.{edge_code, edge_of}
use Rattle.tree_record.specs.Candidate.{axis_of, candidate_of, candidate_words}
use Rattle.tree_record.specs.Layout.{rect_of, layout_of, layout_words}
use Rattle.sweep.specs.Sweep.{first_candidates, candidates_in, moved, side, keep, list_words}
use Rattle.oof_axis.specs.Axis.{align_in, inset_block, repaired, block, both_insets, margins, static_aligned, position_in, position, placement}
use Rattle.oof_common.specs.ScrollableOverflow.{propagates, reach, placed_at, contribution}
use Rattle.oof_common.specs.SizingKeyword.{keyword_of as keyword_of', if_absent, keywords_of}
use Rattle.oof_resolve.specs.Resolved.{of_width, of_each_axis, less_offset, horizontal, vertical, padding_or_border, style_size, min_size, resolved_box}
use Rattle.oof_place.specs.Placing.{scrollbar_of, layout_of as layout_of', from_origin, box_layout}
use Rattle.oof_box.specs.Box.{size_keywords, widened, heightened, stretched, final_size}
use Rattle.oof_box.specs.Cut.{taken, known_by, stretched_by, size_by, keyword_asked, size_asked, asked_of, asked_after, layout_after}
use Rattle.pixels.specs.Accepted.{accepted, in_eighths}
use Rattle.pixels.specs.Pixels.{pixel_edges, all_accepted, edges_of, line_of, pixel_of}
use Rattle.run.specs.Refusals.{◌when◌else◌, bad_area, bad_table, bad_list, bad_slices, other_lengths, bad_style, bad_candidate, list_full, wrong_counts}
use Rattle.run.specs.Run.{box_at_hand, asking, finishing, proceeding, opening_verdict, closed, begun, opened, taken_by, reply_verdict, charged, laid_out, replied}
use Rattle.run.specs.Preview.{opening_before_copy, preview_opened, reply_before_copy, preview_replied}
use Rattle.run.specs.Theorems.{next}
use Rattle.finished.specs.Finished.{finished_verdict}
use Rattle.drawing.specs.Drawing.{places_of, places_from, drawing_order, draw_verdict, drawn}
use Rattle.reach.specs.Reach.{shares, first_from as first_from', least, last_offset, axis_of as axis_of', box_reached, reached}
use Rattle.touch.specs.Touch.{touched, touch_words}
use Rattle.touch_laws.specs.Rows.{TouchedRows, FinishedPreviewRows}

pub touched_rows : TouchedRows
unfolding add sub div neg lt is_nan sum round units size span of_bits to_bits of_int zero_of before larger smaller map_add map_larger at_most at_least clamped map_clamped count_of counted rect_or_zero sum_x sum_y sums rect_sum definite both_present first_size filled_size added_size raised_size clamped_size clamped_floats with_ratio record_at records room written wrong every breaks good good_records position_code safety_code position_of sizing_of overflow_of safety_of keyword_of by_tag resolved takes maybe_resolved resolved_rect resolved_size length_field length_kinds code_kinds kind_of items safety_breaks breaks_as breaks_rule breaks' first_from first_broken or_rest checked_from checked length_at rect_at size_at ratio_at overflow_at style_of style_at shifted_axis translated edge_code edge_of axis_of candidate_of candidate_words rect_of layout_of layout_words first_candidates candidates_in moved side keep list_words align_in inset_block repaired block both_insets margins static_aligned position_in position placement keyword_of' if_absent keywords_of of_width of_each_axis less_offset horizontal vertical padding_or_border style_size min_size resolved_box scrollbar_of layout_of' box_layout size_keywords widened heightened stretched final_size taken known_by stretched_by size_by keyword_asked size_asked asked_of asked_after layout_after accepted in_eighths pixel_edges all_accepted edges_of line_of pixel_of ◌when◌else◌ bad_area bad_table bad_list bad_slices other_lengths bad_style bad_candidate list_full wrong_counts box_at_hand asking finishing proceeding opening_verdict closed begun opened taken_by reply_verdict charged laid_out replied next finished_verdict touched touch_words
touched_rows = (refl, refl, refl, refl, refl, refl, refl, refl, refl)

pub finished_preview_rows : FinishedPreviewRows
unfolding add sub div neg lt is_nan sum round units size span of_bits to_bits of_int zero_of before larger smaller map_add map_larger at_most at_least clamped map_clamped count_of counted rect_or_zero sum_x sum_y sums rect_sum definite both_present first_size filled_size added_size raised_size clamped_size clamped_floats with_ratio record_at records room written wrong every breaks good good_records position_code safety_code position_of sizing_of overflow_of safety_of keyword_of by_tag resolved takes maybe_resolved resolved_rect resolved_size length_field length_kinds code_kinds kind_of items safety_breaks breaks_as breaks_rule breaks' first_from first_broken or_rest checked_from checked length_at rect_at size_at ratio_at overflow_at style_of style_at shifted_axis translated edge_code edge_of axis_of candidate_of candidate_words rect_of layout_of layout_words first_candidates candidates_in moved side keep list_words align_in inset_block repaired block both_insets margins static_aligned position_in position placement keyword_of' if_absent keywords_of of_width of_each_axis less_offset horizontal vertical padding_or_border style_size min_size resolved_box scrollbar_of layout_of' box_layout size_keywords widened heightened stretched final_size taken known_by stretched_by size_by keyword_asked size_asked asked_of asked_after layout_after accepted in_eighths pixel_edges all_accepted edges_of line_of pixel_of ◌when◌else◌ bad_area bad_table bad_list bad_slices other_lengths bad_style bad_candidate list_full wrong_counts box_at_hand asking finishing proceeding opening_verdict closed begun opened taken_by reply_verdict charged laid_out replied next finished_verdict touched touch_words opening_before_copy preview_opened reply_before_copy preview_replied places_of places_from drawing_order draw_verdict drawn least shares first_from' last_offset box_reached reached axis_of' union_of propagates reach placed_at contribution from_origin direction_of contain_of le
finished_preview_rows = (refl, refl, refl, refl, refl, refl, refl, refl, refl, refl, refl, refl, refl, refl)
