-- The check's own call of `grind` with `held`, by a `using`, stops at a limit.
use Rattle.std.proofs.Common.{arith}
use Rattle.pixels.proofs.Held.{held}
use Rattle.reach.specs.Reach.{axis_of}
use Rattle.reach.proofs.Along.start.Goals as goal

pub returns-in-Rtl-clause-value : goal.returns-in-Rtl-clause-value
unfolding axis_of
returns-in-Rtl-clause-value c = grind (arith, held)
