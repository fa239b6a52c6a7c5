-- The search does not put the slices together to what was lent, of which the lemmas speak.
use Rattle.std.proofs.Common.{refl, sym, ap, ◌∙◌}
use Rattle.std.proofs.lemmas.Result.{err_from_is_err_and}
use Rattle.std.specs.Prelude.{Some}
use Rattle.placer.proofs.Replies.{turned_down, not_wrong, kept, cleared_laid, laid}
use Rattle.run.proofs.Ways.{counted}
use Rattle.placer.proofs.Calls.{reply_passed, at_hand, item_counted}
use Rattle.run.specs.Call.{lent}
use Rattle.placer.proofs.take.Goals as goal

pub returns-in_err-check_reply : goal.returns-in_err-check_reply
returns-in_err-check_reply c =
    let a = c.args in
    let p = err_from_is_err_and c.from_residual.result c.from_residual.ensures.1 in
    rw (p.1, p.2)
    (turned_down a.s.now a.reply a.surfaced.now (lent a.styles.now a.layouts.now a.working.now a.unclaimed.now a.tally.now) _ _
    c.in_err-check_reply.ensures refl)

pub returns-in_err-replies : goal.returns-in_err-replies
returns-in_err-replies c =
    let a = c.args in
    not_wrong a.s.now a.reply a.surfaced.now (lent a.styles.now a.layouts.now a.working.now a.unclaimed.now a.tally.now)
    c.in_ok-check_reply.ensures (sym c.taken_by.ensures ∙ c.in_err-replies.ensures.ok_part)

pub go_on-requires : goal.go_on-requires
go_on-requires c =
    let a = c.args in
    let l = lent a.styles.now a.layouts.now a.working.now a.unclaimed.now a.tally.now in
    let p = reply_passed a.s.now a.reply a.surfaced.now l c.in_ok-check_reply.ensures in
    (at_hand a.s.now a.reply a.surfaced.now l p, item_counted a.s.now a.reply a.surfaced.now l p, (counted l a.s.now.counts p.counts).answered)

pub settle-requires : goal.settle-requires
settle-requires c =
    let a = c.args in
    cleared_laid a.s.now a.reply a.surfaced.now (lent a.styles.now a.layouts.now a.working.now a.unclaimed.now a.tally.now) _
    c.in_ok-check_reply.ensures (sym c.taken_by.ensures ∙ c.in_ok-replies.ensures.ok_part ∙ ap Some c.in-Laid.is)

pub returns-in-Kept : goal.returns-in-Kept
returns-in-Kept c =
    let a = c.args in
    kept a.s.now a.reply a.surfaced.now (lent a.styles.now a.layouts.now a.working.now a.unclaimed.now a.tally.now) _ _ _
    c.in_ok-check_reply.ensures (sym c.taken_by.ensures ∙ c.in_ok-replies.ensures.ok_part ∙ ap Some c.in-Kept.is) c.go_on.ensures.asks c.go_on.ensures.tallied

pub returns-in_err-next-in-Laid : goal.returns-in_err-next-in-Laid
returns-in_err-next-in-Laid c =
    let a = c.args in
    let p = err_from_is_err_and c.from_residual-in_err-next-in-Laid.result c.from_residual-in_err-next-in-Laid.ensures.1 in
    rw (p.1, p.2)
    (laid a.s.now a.reply a.surfaced.now (lent a.styles.now a.layouts.now a.working.now a.unclaimed.now a.tally.now) _ _ _ _ _ _
    c.in_ok-check_reply.ensures (sym c.taken_by.ensures ∙ c.in_ok-replies.ensures.ok_part ∙ ap Some c.in-Laid.is) c.in_err-next-in-Laid.ensures.left)

pub returns-in_ok-next-in-Laid : goal.returns-in_ok-next-in-Laid
returns-in_ok-next-in-Laid c =
    let a = c.args in
    rw c.proceed.ensures
    (laid a.s.now a.reply a.surfaced.now (lent a.styles.now a.layouts.now a.working.now a.unclaimed.now a.tally.now) _ _ _ _ _ _
    c.in_ok-check_reply.ensures (sym c.taken_by.ensures ∙ c.in_ok-replies.ensures.ok_part ∙ ap Some c.in-Laid.is) c.in_ok-next-in-Laid.ensures.left)
