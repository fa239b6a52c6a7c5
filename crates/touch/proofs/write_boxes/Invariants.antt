use Rattle.touch.proofs.Passes.{Left}
use Rattle.touch.proofs.write_boxes.Given as goal

abbrev pub invariant-loop-place : goal.invariant-loop-place
invariant-loop-place l = Left l.layouts l.offset l.boxes l.words l.place
