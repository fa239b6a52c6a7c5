-- The search does not choose between `refuses` and `passes` at each exit of a `?`: which test it is, is named here.
use Rattle.std.proofs.Common.{sym, ◌∙◌}
use Rattle.std.proofs.lemmas.Result.{err_from_is_err_and}
use Rattle.placer_check.proofs.Steps.{refuses, passes, either}
use Rattle.finished.specs.Finished.{finished_verdict}
use Rattle.finished.proofs.check_finished.Goals as goal

pub returns-in_err-refuse_if : goal.returns-in_err-refuse_if
unfolding finished_verdict
returns-in_err-refuse_if c =
    let p = err_from_is_err_and c.from_residual.result c.from_residual.ensures.1 in
    rw (p.1, p.2, ← c.is_lent_bad.ensures)
    (sym (either _ _ _ _ ∙ refuses _ _ _ c.in_err-refuse_if.ensures))

pub returns-in_err-refuse_if-2 : goal.returns-in_err-refuse_if-2
unfolding finished_verdict
returns-in_err-refuse_if-2 c =
    let p = err_from_is_err_and c.from_residual-in_err-refuse_if-2.result c.from_residual-in_err-refuse_if-2.ensures.1 in
    rw (p.1, p.2, ← c.is_lent_bad.ensures)
    (sym (either _ _ _ _ ∙ passes _ _ _ c.in_ok-refuse_if.ensures ∙ refuses _ _ _ c.in_err-refuse_if-2.ensures))

pub returns-in_err-refuse_if-3 : goal.returns-in_err-refuse_if-3
unfolding finished_verdict
returns-in_err-refuse_if-3 c =
    let p = err_from_is_err_and c.from_residual-in_err-refuse_if-3.result c.from_residual-in_err-refuse_if-3.ensures.1 in
    rw (p.1, p.2, ← c.is_lent_bad.ensures, ← c.is_unfinished.ensures)
    (sym (either _ _ _ _ ∙ passes _ _ _ c.in_ok-refuse_if.ensures ∙ passes _ _ _ c.in_ok-refuse_if-2.ensures ∙ refuses _ _ _ c.in_err-refuse_if-3.ensures))

pub returns : goal.returns
unfolding finished_verdict
returns c =
    rw (← c.is_lent_bad.ensures, ← c.is_unfinished.ensures, ← c.lent.view_is, ← c.is_candidate_bad.ensures)
    (sym (either _ _ _ _ ∙ passes _ _ _ c.in_ok-refuse_if.ensures ∙ passes _ _ _ c.in_ok-refuse_if-2.ensures ∙ passes _ _ _ c.in_ok-refuse_if-3.ensures ∙ sym c.refuse_if-4.ensures))
