-- The check's own call of `grind` with `held`, by a `using`, stops at a limit.
use Rattle.std.proofs.Common.{arith}
use Rattle.pixels.proofs.Held.{held}
use Rattle.reach.specs.Reach.{axis_of}
use Rattle.reach.proofs.Shares.{least_tested}
use Rattle.reach.proofs.Along.least.Goals as goal

pub returns-then-size-le0 : goal.returns-then-size-le0
unfolding axis_of
returns-then-size-le0 c = let e = least_tested (axis_of c.args.self) in grind (arith, held)

pub returns : goal.returns
unfolding axis_of
returns c = let e = least_tested (axis_of c.args.self) in grind (arith, held)
