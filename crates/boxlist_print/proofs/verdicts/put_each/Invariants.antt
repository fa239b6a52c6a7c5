use Rattle.std.proofs.Common.{◌≡◌, ◌+◌, ◌-◌, ◌*◌, length}
use Rattle.std.proofs.lemmas.List.Edits.{sets}
use Rattle.boxreach_lines.specs.Lines.{VERDICT_ROW}
use Rattle.boxlist_print.specs.Verdicts.{verdicts_from}
use Rattle.boxlist_print.proofs.verdicts.put_each.Given as goal

abbrev pub invariant-loop-i : goal.invariant-loop-i
invariant-loop-i l =
    (length l.out ≡ length l.initial.out)
    × (sets l.initial.out l.at (verdicts_from l.s l.lent 0 l.n) ≡ sets l.out (l.at + l.i * VERDICT_ROW) (verdicts_from l.s l.lent l.i (l.n - l.i)))
