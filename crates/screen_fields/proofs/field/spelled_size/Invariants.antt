use Rattle.std.proofs.Common.{◌≡◌, ◌<◌, ◌^◌, drop}
use Rattle.screen_fields.specs.Field.{spelled}
use Rattle.screen_fields.proofs.field.spelled_size.Given as goal

abbrev pub invariant-loop-b : goal.invariant-loop-b
invariant-loop-b l = (l.size < 10 ^ l.b-index) × (spelled l.size (drop l.b-index l.digits) ≡ spelled 0 l.digits)
