-- The search does not choose between `refuses` and `passes` at each exit of a `?`: which test it is, is named here.
use Rattle.std.proofs.Common.{sym, ◌∙◌}
use Rattle.std.proofs.lemmas.Result.{err_from_is_err_and}
use Rattle.run.specs.Preview.{reply_before_copy}
use Rattle.placer_check.proofs.Steps.{refuses, passes}
use Rattle.placer_check.proofs.preview.check_reply.Goals as goal

pub returns-in_err-refuse_if : goal.returns-in_err-refuse_if
unfolding reply_before_copy
returns-in_err-refuse_if c =
    let p = err_from_is_err_and c.from_residual.result c.from_residual.ensures.1 in
    rw (p.1, p.2, ← c.lent_by-surfaced.ensures, ← c.are_reply_extents_bad.ensures) (sym (refuses _ _ _ c.in_err-refuse_if.ensures))

pub returns : goal.returns
unfolding reply_before_copy
returns c =
    rw (← c.lent_by-surfaced.ensures, ← c.are_reply_extents_bad.ensures, ← c.is_node_bad.ensures)
    (c.refuse_if-2.ensures ∙ sym (passes _ _ _ c.in_ok-refuse_if.ensures))
