-- The search does not put the slices together to what was lent, of which the lemmas speak.
use Rattle.std.proofs.Common.{refl}
use Rattle.std.proofs.lemmas.Result.{err_from_is_err_and}
use Rattle.placer.proofs.Openings.{turned_down, no_room, first_at_hand, swept_in, opens}
use Rattle.run.specs.Call.{lent}
use Rattle.run.specs.Run.{closed}
use Rattle.placer.proofs.begin.Goals as goal

pub returns-in_err-check_opening : goal.returns-in_err-check_opening
returns-in_err-check_opening c =
    let a = c.args in
    let p = err_from_is_err_and c.from_residual.result c.from_residual.ensures.1 in
    rw (p.1, p.2)
    (turned_down a.o a.candidates.now (lent a.styles.now a.layouts.now a.working.now a.unclaimed.now a.tally.now) _ _
    c.in_err-check_opening.ensures (rw c.requires refl))

pub returns-in_err-filled : goal.returns-in_err-filled
unfolding closed
returns-in_err-filled c =
    let a = c.args in
    let l = lent a.styles.now a.layouts.now a.working.now a.unclaimed.now a.tally.now in
    let p = err_from_is_err_and c.from_residual-in_err-filled.result c.from_residual-in_err-filled.ensures.1 in
    rw (p.1, p.2)
    (opens a.o a.candidates.now l _ _ _ _ _ c.in_ok-check_opening.ensures
    (no_room a.o a.candidates.now l _ _ _ _ (rw (c.from-claims.ensures, c.requires) at c.in_err-filled.ensures) (rw c.requires refl)))

pub proceed-requires : goal.proceed-requires
unfolding closed
proceed-requires c =
    let a = c.args in
    rw c.requires
    (λ more.
    first_at_hand a.o a.candidates.now (lent a.styles.now a.layouts.now a.working.now a.unclaimed.now a.tally.now) _ _ _
    c.in_ok-check_opening.ensures (rw (c.from-claims.ensures, c.requires) at c.in_ok-filled.ensures) more)

pub returns : goal.returns
unfolding closed
returns c =
    let a = c.args in
    let l = lent a.styles.now a.layouts.now a.working.now a.unclaimed.now a.tally.now in
    opens a.o a.candidates.now l _ _ _ _ _ c.in_ok-check_opening.ensures
    (swept_in a.o a.candidates.now l _ _ _ _ _
    (rw (c.from-claims.ensures, c.requires) at c.in_ok-filled.ensures)
    (rw (c.from.ensures, c.from-claims.ensures, c.requires) at c.proceed.ensures)
    (c.fill.ensures.after (λ y e. e)))
