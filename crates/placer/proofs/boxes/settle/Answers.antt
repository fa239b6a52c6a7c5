-- The search does not put the slices together to what was lent, of which the lemmas speak.
use Rattle.std.proofs.Common.{refl, arith}
use Rattle.std.proofs.lemmas.Result.{err_from_is_err_and}
use Rattle.placer.proofs.Calls.{few_answered, reply_passed, at_hand, layout_room, item_counted}
use Rattle.placer.proofs.Replies.{no_room, next_box, placed}
use Rattle.oof_box.specs.declared.question.Reply.TheVariants.{LaidOut}
use Rattle.run.specs.Run.{box_at_hand}
use Rattle.run.specs.Call.{lent}
use Rattle.placer.proofs.boxes.settle.Goals as goal

pub box_at_hand-candidate-requires : goal.box_at_hand-candidate-requires
box_at_hand-candidate-requires c =
    let a = c.args in
    let l = lent a.styles.now a.layouts.now a.working.now a.unclaimed.now a.tally.now in
    let h = at_hand a.s.now (LaidOut a.overflow) a.surfaced.now l (reply_passed a.s.now (LaidOut a.overflow) a.surfaced.now l c.requires) in
    (h.first, h.listed)

pub layout_of-placed-requires : goal.layout_of-placed-requires
unfolding box_at_hand
layout_of-placed-requires c =
    let a = c.args in
    let l = lent a.styles.now a.layouts.now a.working.now a.unclaimed.now a.tally.now in
    rw c.box_at_hand-candidate.ensures (at_hand a.s.now (LaidOut a.overflow) a.surfaced.now l (reply_passed a.s.now (LaidOut a.overflow) a.surfaced.now l c.requires)).styled

pub write_layout-requires : goal.write_layout-requires
write_layout-requires c =
    let a = c.args in
    let l = lent a.styles.now a.layouts.now a.working.now a.unclaimed.now a.tally.now in
    rw (c.box_at_hand-candidate.ensures) (layout_room a.s.now (LaidOut a.overflow) a.surfaced.now l (reply_passed a.s.now (LaidOut a.overflow) a.surfaced.now l c.requires))

pub charge-requires : goal.charge-requires
charge-requires c =
    let a = c.args in
    let l = lent a.styles.now a.layouts.now a.working.now a.unclaimed.now a.tally.now in
    rw (c.box_at_hand-candidate.ensures) (item_counted a.s.now (LaidOut a.overflow) a.surfaced.now l (reply_passed a.s.now (LaidOut a.overflow) a.surfaced.now l c.requires))

pub overflow_add-result : goal.overflow_add-result
overflow_add-result c =
    let a = c.args in
    let l = lent a.styles.now a.layouts.now a.working.now a.unclaimed.now a.tally.now in
    let few = few_answered a.s.now (LaidOut a.overflow) a.surfaced.now l (reply_passed a.s.now (LaidOut a.overflow) a.surfaced.now l c.requires) in
    omega (arith, few)

pub returns-clause-at_hand : goal.returns-clause-at_hand
returns-clause-at_hand c =
    λ more.
    let a = c.args in
    let l = lent a.styles.now a.layouts.now a.working.now a.unclaimed.now a.tally.now in
    next_box a.s.now a.overflow a.surfaced.now l _ _ _ (reply_passed a.s.now (LaidOut a.overflow) a.surfaced.now l c.requires)
    (rw (c.layout_of-placed.ensures, c.box_at_hand-candidate.ensures) at c.in_ok-filled.ensures) more

pub returns-in_err-filled : goal.returns-in_err-filled
returns-in_err-filled c =
    let a = c.args in
    let p = err_from_is_err_and c.from_residual.result c.from_residual.ensures.1 in
    let l = lent a.styles.now a.layouts.now a.working.now a.unclaimed.now a.tally.now in
    let leaves = rw (c.layout_of-placed.ensures, c.box_at_hand-candidate.ensures) at c.in_err-filled.ensures in
    rw (p.1, p.2) (record { at_hand = tt; left = no_room a.s.now a.overflow a.surfaced.now l _ _ _ _ leaves refl })

pub returns-clause-left : goal.returns-clause-left
returns-clause-left c =
    let a = c.args in
    let l = lent a.styles.now a.layouts.now a.working.now a.unclaimed.now a.tally.now in
    placed a.s.now a.overflow a.surfaced.now l _ _ _ _ _ _
    (rw (c.layout_of-placed.ensures, c.box_at_hand-candidate.ensures) at c.in_ok-filled.ensures)
    (rw (c.layout_of-placed.ensures, c.box_at_hand-candidate.ensures) at c.write_layout.ensures)
    (rw (c.union.ensures, c.layout_of-placed.ensures, c.box_at_hand-candidate.ensures) refl)
    (rw c.box_at_hand-candidate.ensures at c.charge.ensures)
