use Rattle.std.proofs.Common.{◌≡◌, ◌≤◌, length}
use Rattle.screen_fields.specs.Field.{unblank}
use Rattle.screen_fields.proofs.field.unblank.Given as goal

abbrev pub invariant-loop-rest : goal.invariant-loop-rest
invariant-loop-rest l = (unblank l.rest ≡ unblank l.field) × (length l.rest ≤ length l.field)

abbrev pub decreases-loop-rest : goal.decreases-loop-rest
decreases-loop-rest l = length l.rest
