-- The rows of `specs/Rows.antt`, computed. Assumes nothing.
use mathlib.Core.Path.{refl}
use lib.Ieee.{div, neg, round, units, odd, size, span, climb, of_bits, to_bits, of_fields, nan_bits, of_int}
use Rattle.util.specs.Eighths.{counted, count_of}
use Rattle.records.specs.Records.{record_at, every, wrong, breaks, good, good_records}
use Rattle.style_record.specs.Record.{items}
use Rattle.tree_record.specs.Candidate.{candidate_of}
use Rattle.tree_record.specs.Layout.{layout_of}
use Rattle.pixels.specs.Accepted.{accepted, in_eighths}
use Rattle.pixels.specs.Pixels.{all_accepted}
use Rattle.run.specs.Refusals.{◌when◌else◌, bad_table, bad_list, bad_slices, other_lengths, bad_candidate}
use Rattle.run.specs.Run.{closed}
use Rattle.finished.specs.Finished.{finished_verdict}
use Rattle.reach.specs.Reach.{shares, first_from, least, last_offset, axis_of, box_reached, reached}
use Rattle.reach.specs.Rows.{WordRows, StartRows, LastRows, LeastRows, BoxRows, EdgeRows, TestedRows, IncidentRows, RunRows, ExtentRows, ProgressRows, CandidateRows}

pub word_rows : WordRows
unfolding div neg round units odd size span climb of_bits to_bits of_fields nan_bits of_int
word_rows = (refl, refl, refl, refl)

pub start_rows : StartRows
unfolding axis_of in_eighths count_of counted div neg round units odd size span climb of_bits to_bits of_fields nan_bits of_int
start_rows = (refl, refl, refl, refl, refl)

pub last_rows : LastRows
unfolding last_offset in_eighths count_of counted div neg round units odd size span climb of_bits to_bits of_fields nan_bits of_int
last_rows = (refl, refl, refl, refl, refl)

pub least_rows : LeastRows
unfolding least first_from shares axis_of last_offset in_eighths count_of counted div neg round units odd size span climb of_bits to_bits of_fields nan_bits of_int
least_rows = (refl, refl, refl, refl, refl, refl, refl, refl, refl, refl, refl, refl, refl, refl, refl, refl, refl)

pub box_rows_lem : BoxRows
unfolding box_reached all_accepted accepted least first_from shares axis_of last_offset in_eighths count_of counted div neg round units odd size span climb of_bits to_bits of_fields nan_bits of_int
box_rows_lem = (refl, refl, refl, refl, refl, refl, refl, refl)

pub edge_rows : EdgeRows
unfolding box_reached all_accepted accepted least first_from shares axis_of last_offset in_eighths count_of counted div neg round units odd size span climb of_bits to_bits of_fields nan_bits of_int
edge_rows = (refl, refl, refl, refl, refl, refl, refl, refl, refl, refl)

pub tested_rows : TestedRows
unfolding box_reached all_accepted accepted least first_from shares axis_of last_offset in_eighths count_of counted div neg round units odd size span climb of_bits to_bits of_fields nan_bits of_int
tested_rows = (refl, refl, refl, refl, refl, refl, refl, refl, refl, refl, refl, refl, refl, refl, refl)

pub incident_rows : IncidentRows
unfolding box_reached all_accepted accepted least first_from shares axis_of last_offset in_eighths count_of counted div neg round units odd size span climb of_bits to_bits of_fields nan_bits of_int
incident_rows = (refl, refl, refl, refl)

pub run_rows : RunRows
unfolding reached finished_verdict ◌when◌else◌ bad_slices bad_table bad_list other_lengths bad_candidate good_records every good breaks wrong record_at items candidate_of layout_of box_reached all_accepted accepted least first_from shares axis_of last_offset in_eighths count_of counted div neg round units odd size span climb of_bits to_bits of_fields nan_bits of_int
run_rows = (refl, refl, refl, refl, refl, refl, refl, refl, refl, refl, refl, refl, (refl, refl), refl, (refl, refl), refl, refl)

pub extent_rows : ExtentRows
unfolding reached finished_verdict ◌when◌else◌ bad_slices bad_table bad_list other_lengths bad_candidate good_records every good breaks wrong record_at items candidate_of layout_of closed
extent_rows = (refl, refl, refl, refl, (refl, refl), refl)

pub progress_rows : ProgressRows
unfolding reached finished_verdict ◌when◌else◌ bad_slices bad_table bad_list other_lengths bad_candidate good_records every good breaks wrong record_at items candidate_of layout_of box_reached all_accepted accepted least first_from shares axis_of last_offset in_eighths count_of counted div neg round units odd size span climb of_bits to_bits of_fields nan_bits of_int
progress_rows = (refl, refl, refl, refl, refl, refl)

pub candidate_rows : CandidateRows
unfolding reached finished_verdict ◌when◌else◌ bad_slices bad_table bad_list other_lengths bad_candidate good_records every good breaks wrong record_at items candidate_of layout_of box_reached all_accepted accepted least first_from shares axis_of last_offset in_eighths count_of counted div neg round units odd size span climb of_bits to_bits of_fields nan_bits of_int
candidate_rows = ((refl, refl), refl, refl, refl, refl, refl, refl)
