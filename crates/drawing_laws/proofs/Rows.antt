-- The rows of `specs/Rows.antt`, computed. Assumes nothing.
use mathlib.Core.Path.{refl}
use Rattle.util.specs.Maybe.{map_add, map_clamped}
use Rattle.geometry.specs.Geometry.{both_present, added_size, clamped_size, with_ratio}
use Rattle.style.specs.Codes.{position_code, position_of, safety_code, safety_of}
use Rattle.style.specs.Resolve.{by_tag, resolved, takes, maybe_resolved, resolved_size}
use Rattle.records.specs.Records.{record_at, records, room, written, wrong, every, breaks, good, good_records}
use Rattle.style_record.specs.Record.{length_field, length_kinds, code_kinds, kind_of, items}
use Rattle.style_record.specs.Check.{safety_breaks, breaks_as, breaks_rule, breaks as breaks', first_from, first_broken, or_rest, checked_from, checked}
use Rattle.style_record.specs.Decode.{length_at, size_at, ratio_at, style_of, style_at}
use Rattle.tree.specs.Static.{shifted_axis, translated}
use Rattle.tree.specs.Codes.{edge_code, edge_of}
use Rattle.tree_record.specs.Candidate.{axis_of, candidate_of, candidate_words}
use Rattle.tree_record.specs.Layout.{layout_words}
use Rattle.sweep.specs.Sweep.{first_candidates, candidates_in, moved, side, keep, list_words}
use Rattle.oof_common.specs.SizingKeyword.{keyword_of, if_absent, keywords_of}
use Rattle.oof_resolve.specs.Resolved.{style_size, resolved_box}
use Rattle.oof_box.specs.Box.{size_keywords, widened, heightened, stretched}
use Rattle.oof_box.specs.Cut.{taken, known_by, stretched_by, keyword_asked, size_asked, asked_of, asked_after}
use Rattle.run.specs.Refusals.{◌when◌else◌, bad_area, bad_table, bad_list, bad_slices, other_lengths, bad_style, bad_candidate, list_full, wrong_counts}
use Rattle.run.specs.Run.{box_at_hand, asking, finishing, proceeding, opening_verdict, begun, opened, taken_by, reply_verdict, charged, laid_out, replied}
use Rattle.run.specs.Theorems.{next}
use Rattle.finished.specs.Finished.{finished_verdict}
use Rattle.drawing.specs.Drawing.{places_of, places_from, drawing_order, draw_verdict, drawn}
use Rattle.drawing_laws.specs.Rows.{LayerRows, DrawnRows}

pub layer_rows : LayerRows
unfolding by_tag resolved takes record_at records room written every wrong breaks good good_records length_field length_kinds code_kinds kind_of items safety_breaks breaks_as breaks_rule breaks' first_from first_broken or_rest checked_from checked translated position_of position_code candidate_of candidate_words first_candidates candidates_in moved side keep list_words taken ◌when◌else◌ bad_area bad_table bad_list bad_slices other_lengths bad_style bad_candidate list_full wrong_counts asking finishing proceeding opening_verdict begun opened taken_by reply_verdict charged laid_out replied
layer_rows = (refl, refl, refl, refl, refl, refl, refl, refl, refl, refl)

pub drawn_rows : DrawnRows
unfolding map_add map_clamped both_present added_size clamped_size with_ratio safety_code safety_of by_tag resolved takes maybe_resolved resolved_size record_at records room written every wrong breaks good good_records length_field length_kinds code_kinds kind_of items safety_breaks breaks_as breaks_rule breaks' first_from first_broken or_rest checked_from checked length_at size_at ratio_at style_of style_at translated shifted_axis position_of position_code edge_of edge_code axis_of candidate_of candidate_words layout_words first_candidates candidates_in moved side keep list_words keyword_of if_absent keywords_of style_size resolved_box size_keywords stretched widened heightened taken known_by stretched_by keyword_asked size_asked asked_of asked_after ◌when◌else◌ bad_area bad_table bad_list bad_slices other_lengths bad_style bad_candidate list_full wrong_counts box_at_hand asking finishing proceeding opening_verdict begun opened taken_by reply_verdict charged laid_out replied next finished_verdict places_of places_from drawing_order draw_verdict drawn
drawn_rows = (refl, refl)
