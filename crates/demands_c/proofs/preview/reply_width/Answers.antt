-- The search does not guess the words that a call left, of which the lemma speaks.
use mathlib.Core.List.{[]}
use Rattle.oof_c_words.specs.Entry.{words}
use Rattle.demands_c.proofs.Demands.{preview_reply_demands}
use Rattle.oof_box.specs.declared.question.Reply.TheVariants.{Width}
use Rattle.demands_c.proofs.preview.reply_width.Goals as goal

-- `l` are the words that the call left: layouts, working, unclaimed, tally, state, answer
pub returns : goal.returns
returns c =
    let a = c.args in
    let k = c.oof_preview_reply_width in
    let l = k.new in
    preview_reply_demands a.node a.style.now (Width a.width) [] a.styles.now
    (words a.layouts.now a.working.now a.unclaimed.now a.tally.now a.state.now a.answer.now)
    {has = record { result = k.result; words = words l.layouts l.working l.unclaimed l.tally l.state l.answer }} k.ensures
