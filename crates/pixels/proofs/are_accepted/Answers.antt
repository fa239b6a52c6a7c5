-- The search does not go from `all` to a definition of the crate's own by recursion.
use Rattle.std.proofs.Common.{rules}
use Rattle.std.proofs.lemmas.Iterator.{YieldsList-from_slice}
use Rattle.std.proofs.lemmas.Iterator.Search.{all_from_yields_List}
use Rattle.pixels.specs.Accepted.{accepted}
use Rattle.pixels.specs.Pixels.{all_accepted}
use Rattle.pixels.proofs.are_accepted.Goals as goal

pub returns : goal.returns
unfolding all_accepted
returns c = all_from_yields_List accepted _ _ _ c.all.ensures.ran (YieldsList-from_slice c.args.numbers.now cc) (λ x b q k. search rules)
