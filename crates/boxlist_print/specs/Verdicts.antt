-- What `boxreach` prints of a finished run (request #102): a row for each box in hoisted order. Assumes nothing.
use Rattle.std.specs.Prelude.{ℕ, zero, suc, List, [], ◌++◌}
use Rattle.records.specs.Records.{record_at}
use Rattle.tree_record.specs.Candidate.{candidate_width, candidate_of}
use Rattle.run.specs.Call.{Slices}
use Rattle.run.specs.declared.State.{State}
use Rattle.reach.specs.Reach.{reached}
use Rattle.boxreach_lines.specs.Lines.{verdict_names, verdict_row}

-- the row of the box at a place
unfoldable pub verdict_at : State → Slices → ℕ → List ℕ
verdict_at s lent place = verdict_row place (candidate_of (record_at candidate_width lent.working place)).node (reached place s lent)

-- the rows of n boxes, from a place on
unfoldable pub verdicts_from : State → Slices → ℕ → ℕ → List ℕ
verdicts_from s lent place zero = []
verdicts_from s lent place (suc n) = verdict_at s lent place ++ verdicts_from s lent (suc place) n

-- the names, and a row for each box
unfoldable pub verdicts_text : State → Slices → List ℕ
verdicts_text s lent = verdict_names ++ verdicts_from s lent 0 s.counts.filled.working
