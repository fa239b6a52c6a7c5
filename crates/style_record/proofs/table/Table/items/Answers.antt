-- The search does not open the model.
use Rattle.style_record.proofs.Replaced.{as_many}
use Rattle.style_record.proofs.table.Table.items.Goals as goal

pub returns : goal.returns
returns c = as_many c.self.inside.lent.now c.self.inside.replacement c.self.invariant c.self.view_is
