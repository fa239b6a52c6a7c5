use Rattle.std.proofs.Common.{◌≡◌}
use Rattle.std.proofs.lemmas.List.Edits.{sets}
use Rattle.boxlist_lines.specs.Column.{cells}
use Rattle.boxlist_lines.proofs.put.Given as goal

abbrev pub invariant-loop-i : goal.invariant-loop-i
invariant-loop-i l = sets l.initial.out l.at (cells l.width l.initial.rest) ≡ sets l.out l.at (cells l.i l.rest)
