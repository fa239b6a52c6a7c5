-- The rows of `specs/Rows.antt`, computed. Assumes nothing.
use mathlib.Core.Path.{refl}
use lib.Ieee.{div, neg, round, units, odd, size, span, climb, of_bits, to_bits, of_fields, nan_bits, of_int}
use Rattle.util.specs.Eighths.{counted, count_of}
use Rattle.records.specs.Records.{record_at, records, every, wrong, breaks, good, good_records}
use Rattle.style_record.specs.Record.{items}
use Rattle.tree_record.specs.Candidate.{candidate_of}
use Rattle.tree_record.specs.Layout.{layout_of}
use Rattle.sweep.specs.Sweep.{first_candidates}
use Rattle.pixels.specs.Accepted.{accepted, in_eighths}
use Rattle.pixels.specs.Pixels.{pixel_of, line_of, edges_of, all_accepted, pixel_edges}
use Rattle.run.specs.Refusals.{◌when◌else◌, bad_table, bad_list, bad_slices, other_lengths, bad_candidate}
use Rattle.run.specs.Run.{closed}
use Rattle.finished.specs.Finished.{finished_verdict}
use Rattle.touch.specs.Touch.{touch_words, touched}
use Rattle.touch.specs.Rows.{WordRows, RunRows, EdgeRows, ExtentRows, ProgressRows, CandidateRows, EighthsRows}

pub word_rows : WordRows
unfolding div neg round units odd size span climb of_bits to_bits of_fields nan_bits of_int
word_rows = (refl, refl, refl, refl, refl, refl, refl, refl)

pub run_rows : RunRows
unfolding touched touch_words finished_verdict ◌when◌else◌ bad_slices bad_table bad_list other_lengths bad_candidate good_records every good breaks wrong records record_at items first_candidates candidate_of layout_of closed pixel_edges all_accepted accepted edges_of line_of pixel_of in_eighths count_of counted div neg round units odd size span climb of_bits to_bits of_fields nan_bits of_int
run_rows = (refl, refl, refl, refl, refl, refl, refl, refl, refl, refl, refl, refl, refl)

pub edge_rows : EdgeRows
unfolding touched touch_words finished_verdict ◌when◌else◌ bad_slices bad_table bad_list other_lengths bad_candidate good_records every good breaks wrong records record_at items first_candidates candidate_of layout_of closed pixel_edges all_accepted accepted edges_of line_of pixel_of in_eighths count_of counted div neg round units odd size span climb of_bits to_bits of_fields nan_bits of_int
edge_rows = (refl, refl, refl, refl, refl, refl, refl)

pub extent_rows : ExtentRows
unfolding touched touch_words finished_verdict ◌when◌else◌ bad_slices bad_table bad_list other_lengths bad_candidate good_records every good breaks wrong records record_at items first_candidates candidate_of layout_of closed
extent_rows = (refl, refl, refl, refl, refl, refl, refl, refl, refl, refl, refl, refl, refl, refl, refl, refl, refl, refl)

pub progress_rows : ProgressRows
unfolding touched touch_words finished_verdict ◌when◌else◌ bad_slices bad_table bad_list other_lengths bad_candidate good_records every good breaks wrong records record_at items first_candidates candidate_of layout_of closed
progress_rows = (refl, refl, refl, refl, (refl, refl), refl, refl)

pub candidate_rows : CandidateRows
unfolding touched touch_words finished_verdict ◌when◌else◌ bad_slices bad_table bad_list other_lengths bad_candidate good_records every good breaks wrong records record_at items first_candidates candidate_of layout_of closed pixel_edges all_accepted accepted edges_of line_of pixel_of in_eighths count_of counted div neg round units odd size span climb of_bits to_bits of_fields nan_bits of_int
candidate_rows = (refl, refl, refl, refl)

pub eighths_rows : EighthsRows
unfolding touched touch_words finished_verdict ◌when◌else◌ bad_slices bad_table bad_list other_lengths bad_candidate good_records every good breaks wrong records record_at items first_candidates candidate_of layout_of closed pixel_edges all_accepted accepted edges_of line_of pixel_of in_eighths count_of counted div neg round units odd size span climb of_bits to_bits of_fields nan_bits of_int
eighths_rows = (refl, refl, refl, refl, refl, refl, refl, refl)
