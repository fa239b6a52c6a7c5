-- The search does not guess the words that a call left, of which the lemma speaks.
use Rattle.oof_c_words.specs.Entry.{words}
use Rattle.demands_c.proofs.Demands.{preview_reply_demands}
use Rattle.oof_box.specs.declared.question.Reply.TheVariants.{LaidOut}
use Rattle.demands_c.proofs.preview.reply_laid_out.Goals as goal

-- `l` are the words that the call left: layouts, working, unclaimed, tally, state, answer
pub returns : goal.returns
returns c =
    let a = c.args in
    let k = c.oof_preview_reply_laid_out in
    let l = k.new in
    preview_reply_demands a.node a.style.now (LaidOut (record { left = a.left; right = a.right; top = a.top; bottom = a.bottom })) a.surfaced.now a.styles.now
    (words a.layouts.now a.working.now a.unclaimed.now a.tally.now a.state.now a.answer.now)
    {has = record { result = k.result; words = words l.layouts l.working l.unclaimed l.tally l.state l.answer }} k.ensures
