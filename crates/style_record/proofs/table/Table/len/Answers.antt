-- The search does not open the model.
use Rattle.style_record.proofs.Replaced.{as_long}
use Rattle.style_record.proofs.table.Table.len.Goals as goal

pub returns : goal.returns
returns c = as_long c.self.inside.lent.now c.self.inside.replacement c.self.view_is
