-- The search does not put the slices together to what was lent, of which the lemmas speak.
use Rattle.std.proofs.Common.{refl, ◌∙◌, arith}
use lib.Dec.{lit<}
use Rattle.std.proofs.lemmas.Result.{err_from_is_err_and}
use Rattle.style_record.proofs.Replaced.{one_record}
use Rattle.run.specs.Call.{lent}
use Rattle.placer.proofs.Previews.{reply_has_one_style, reply_turned_down, replies_to_copy}
use Rattle.placer.proofs.preview.take.Goals as goal

pub returns-in_err-check_reply : goal.returns-in_err-check_reply
returns-in_err-check_reply c =
    let a = c.args in
    let p = err_from_is_err_and c.from_residual.result c.from_residual.ensures.1 in
    rw (p.1, p.2)
    (reply_turned_down a.node a.style.now (lent a.styles.now a.layouts.now a.working.now a.unclaimed.now a.tally.now) a.s.now a.reply a.surfaced.now _ _
    (rw c.from.ensures at c.in_err-check_reply.ensures) refl)

pub record_at-requires : goal.record_at-requires
record_at-requires c =
    let a = c.args in
    let one = reply_has_one_style a.node a.style.now (lent a.styles.now a.layouts.now a.working.now a.unclaimed.now a.tally.now) a.s.now a.reply a.surfaced.now
    (rw c.from.ensures at c.in_ok-check_reply.ensures) in
    (lit< tt, omega (arith, one))

pub returns : goal.returns
returns c =
    let a = c.args in
    let one = reply_has_one_style a.node a.style.now (lent a.styles.now a.layouts.now a.working.now a.unclaimed.now a.tally.now) a.s.now a.reply a.surfaced.now
    (rw c.from.ensures at c.in_ok-check_reply.ensures) in
    replies_to_copy a.node a.style.now (lent a.styles.now a.layouts.now a.working.now a.unclaimed.now a.tally.now) a.s.now a.reply a.surfaced.now _
    (rw c.from.ensures at c.in_ok-check_reply.ensures)
    (rw (c.with_style-copy.ensures, c.record_at.ensures ∙ one_record a.style.now one) at c.take.ensures)
