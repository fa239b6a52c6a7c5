use Rattle.touch.proofs.Passes.{Tested}
use Rattle.touch.proofs.check_boxes.Given as goal

abbrev pub invariant-loop-candidate : goal.invariant-loop-candidate
invariant-loop-candidate l = Tested l.layouts l.offset l.boxes l.candidate-index
