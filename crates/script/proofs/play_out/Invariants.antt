use Rattle.std.proofs.Common.{◌≡◌, ◌-◌}
use Rattle.run.specs.Call.{outcome}
use Rattle.script.specs.Script.{played}
use Rattle.script.proofs.play_out.Given as goal

abbrev pub invariant-loop : goal.invariant-loop
invariant-loop l =
    played l.end l.replies l.styles (outcome l.initial.step l.initial.layouts l.initial.working l.initial.unclaimed l.initial.tally)
    ≡ played (l.end - l.counter) l.replies l.styles (outcome l.step l.layouts l.working l.unclaimed l.tally)
