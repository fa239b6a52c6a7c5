use Rattle.std.proofs.Common.{◌≡◌, ◌+◌, ◌-◌, ◌*◌, drop}
use Rattle.std.proofs.lemmas.List.Edits.{sets}
use Rattle.boxlist_lines.specs.Lines.{ROW, rows_text}
use Rattle.tree_record.specs.Candidate.{candidate_width}
use Rattle.boxlist_print.specs.Rows.{rows_at}
use Rattle.boxlist_print.proofs.rows.put_rows.Given as goal

abbrev pub invariant-loop-i : goal.invariant-loop-i
invariant-loop-i l =
    sets l.initial.out l.at (rows_text (rows_at l.working l.n l.layouts)) ≡ sets l.out (l.at + l.i * ROW) (rows_text (rows_at (drop (candidate_width * l.i) l.working) (l.n - l.i) l.layouts))
