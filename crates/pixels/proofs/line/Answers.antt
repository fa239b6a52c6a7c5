-- The check's own call of `grind` with `held`, by a `using`, stops at a limit.
use Rattle.std.proofs.Common.{arith}
use Rattle.pixels.proofs.Held.{held}
use Rattle.pixels.specs.Pixels.{line_of}
use Rattle.pixels.proofs.line.Goals as goal

pub returns : goal.returns
unfolding line_of
returns c = grind (arith, held)
