use Rattle.std.proofs.Common.{◌≡◌, ◌*◌, drop}
use Rattle.screen_fields.specs.Format.{fields_of, COLUMNS}
use Rattle.screen.specs.Screen.{good_fields}
use Rattle.screen.proofs.good_fields.Given as goal

abbrev pub invariant-loop-j : goal.invariant-loop-j
invariant-loop-j l = good_fields (fields_of l.line) l.text ≡ good_fields (drop l.j (fields_of l.line)) (drop (COLUMNS * l.j) l.text)
