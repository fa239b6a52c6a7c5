use Rattle.std.proofs.Common.{◌≡◌, ◌*◌, take, drop}
use Rattle.std.proofs.lemmas.List.Edits.{sets}
use Rattle.screen_fields.specs.Format.{fields_of, COLUMNS}
use Rattle.screen.specs.Screen.{rows_of}
use Rattle.screen.proofs.read_rows.Given as goal

abbrev pub invariant-loop-i : goal.invariant-loop-i
invariant-loop-i l = l.out ≡ sets l.initial.out 0 (rows_of (take l.n (drop l.first (fields_of l.line))) l.line l.i (drop (COLUMNS * l.first) l.text))
