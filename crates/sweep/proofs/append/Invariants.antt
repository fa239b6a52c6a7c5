use Rattle.tree_record.specs.Candidate.{candidate_of}
use Rattle.sweep.specs.Sweep.{moved, appended}
use Rattle.std.proofs.Common.{◌≡◌, map}
use Rattle.sweep.proofs.append.Given as goal

abbrev pub invariant-loop-i : goal.invariant-loop-i
invariant-loop-i l = l.list ≡ appended l.initial.list l.held (map (λ p. moved l.shift (candidate_of p.1.now)) l.yielded)
