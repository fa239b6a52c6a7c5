-- The search sees through no definition with an operator's name by an attribute (`unfolding` takes names of functions): `when` and `else` are opened here.
use Rattle.std.proofs.Common.{refl}
use Rattle.run.specs.Refusals.{◌when◌else◌}
use Rattle.placer_check.proofs.refuse_if.Goals as goal

pub returns-then-bad : goal.returns-then-bad
unfolding ◌when◌else◌
returns-then-bad c = rw c.if-bad.true refl

pub returns-else-bad : goal.returns-else-bad
unfolding ◌when◌else◌
returns-else-bad c = rw c.if-bad.false refl
