-- The search does not guess the words that a call left, of which the lemma speaks.
use Rattle.oof_c_words.specs.Entry.{words, opening_of}
use Rattle.demands_c.proofs.Demands.{preview_opening_demands}
use Rattle.demands_c.proofs.preview.open.Goals as goal

-- `l` are the words that the call left: layouts, working, unclaimed, tally, state, answer
pub returns : goal.returns
returns c =
    let a = c.args in
    let k = c.oof_preview_open in
    let l = k.new in
    preview_opening_demands a.node a.style.now (opening_of a.width a.height a.x a.y a.direction a.claims a.overflow_x a.overflow_y) a.candidates.now a.styles.now
    (words a.layouts.now a.working.now a.unclaimed.now a.tally.now a.state.now a.answer.now)
    {has = record { result = k.result; words = words l.layouts l.working l.unclaimed l.tally l.state l.answer }} k.ensures
