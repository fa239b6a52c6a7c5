-- The search does not find what `preview_reply_demands` is to speak of: it would have to guess the parts of the outcome.
use Rattle.run.specs.Call.{lent}
use Rattle.demands.proofs.Previews.{preview_reply_demands}
use Rattle.demands.proofs.preview_reply.Goals as goal

pub returns : goal.returns
returns c =
    let a = c.args in
    preview_reply_demands a.s a.reply a.surfaced.now a.node a.style.now (lent a.styles.now a.layouts.now a.working.now a.unclaimed.now a.tally.now)
    c.reply.ensures
