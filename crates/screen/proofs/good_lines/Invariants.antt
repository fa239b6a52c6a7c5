use Rattle.std.proofs.Common.{◌≡◌, ◌≤◌, ◌*◌, ◌-◌, length}
use Rattle.screen_fields.specs.Format.{bytes_of}
use Rattle.screen.specs.Screen.{good_lines}
use Rattle.screen.proofs.good_lines.Given as goal

abbrev pub invariant-loop : goal.invariant-loop
invariant-loop l = (good_lines l.line l.n l.text ≡ good_lines l.line (l.n - l.counter) l.rest) × ((l.n - l.counter) * bytes_of l.line ≤ length l.rest)
