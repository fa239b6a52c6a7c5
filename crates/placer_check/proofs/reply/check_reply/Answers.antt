-- The search does not choose between `refuses` and `passes` at each exit of a `?`: which test it is, is named here.
use Rattle.std.proofs.Common.{◌∙◌}
use Rattle.std.proofs.lemmas.Result.{err_from_is_err_and}
use Rattle.run.specs.Run.{reply_verdict}
use Rattle.placer_check.proofs.Steps.{refuses, passes, comes_last}
use Rattle.placer_check.proofs.reply.check_reply.Goals as goal

pub returns-in_err-refuse_if : goal.returns-in_err-refuse_if
unfolding reply_verdict
returns-in_err-refuse_if c =
    let p = err_from_is_err_and c.from_residual.result c.from_residual.ensures.1 in
    rw (p.1, p.2, ← c.lent_by-surfaced.ensures, ← c.are_extents_bad.ensures)
    (refuses _ _ _ c.in_err-refuse_if.ensures)

pub returns-in_err-refuse_if-2 : goal.returns-in_err-refuse_if-2
unfolding reply_verdict
returns-in_err-refuse_if-2 c =
    let p = err_from_is_err_and c.from_residual-in_err-refuse_if-2.result c.from_residual-in_err-refuse_if-2.ensures.1 in
    rw (p.1, p.2, ← c.lent_by-surfaced.ensures, ← c.are_extents_bad.ensures, ← c.is_reply_wrong.ensures)
    (passes _ _ _ c.in_ok-refuse_if.ensures ∙ refuses _ _ _ c.in_err-refuse_if-2.ensures)

pub returns-in_err-refuse_if-3 : goal.returns-in_err-refuse_if-3
unfolding reply_verdict
returns-in_err-refuse_if-3 c =
    let p = err_from_is_err_and c.from_residual-in_err-refuse_if-3.result c.from_residual-in_err-refuse_if-3.ensures.1 in
    rw (p.1, p.2, ← c.lent_by-surfaced.ensures, ← c.are_extents_bad.ensures, ← c.is_reply_wrong.ensures, ← c.is_style_bad.ensures)
    (passes _ _ _ c.in_ok-refuse_if.ensures ∙ passes _ _ _ c.in_ok-refuse_if-2.ensures ∙ refuses _ _ _ c.in_err-refuse_if-3.ensures)

pub returns : goal.returns
unfolding reply_verdict
returns c =
    rw (← c.lent_by-surfaced.ensures, ← c.are_extents_bad.ensures, ← c.is_reply_wrong.ensures, ← c.are_candidates_bad.ensures, ← c.is_style_bad.ensures)
    (passes _ _ _ c.in_ok-refuse_if.ensures ∙ passes _ _ _ c.in_ok-refuse_if-2.ensures ∙ passes _ _ _ c.in_ok-refuse_if-3.ensures ∙ comes_last _ _ _ _ c.refuse_if-4.ensures)
