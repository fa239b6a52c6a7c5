-- The search does not find what `screen_demands` is to speak of: it would have to guess the bytes before and after.
use Rattle.demands.proofs.Demands.{screen_demands}
use Rattle.demands.proofs.list_screen.Goals as goal

pub returns : goal.returns
returns c = screen_demands _ _ c.list_screen.ensures
