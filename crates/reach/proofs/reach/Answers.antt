-- The search does not go from the fields of `lent` to what a contract sees of it (`view_is`) and back.
use Rattle.std.proofs.Common.{refl, sym, ◌∙◌}
use Rattle.std.proofs.lemmas.Result.{err_from_is_err_and}
use Rattle.finished.proofs.There.{record_is_there, layout_is_there}
use Rattle.reach.specs.Reach.{reached}
use Rattle.reach.proofs.reach.Goals as goal

pub layout_at-layout-requires : goal.layout_at-layout-requires
layout_at-layout-requires c =
    let a = c.args in
    let e = sym c.in_ok-check_finished.ensures in
    record {
      candidate_width_in_bounds = rw (← c.lent.view_is) at (record_is_there a.s a.lent.now a.place e);
      layout_width_in_bounds = rw (← c.lent.view_is) at (layout_is_there a.s a.lent.now a.place e);
    }

pub returns-in_err-check_finished : goal.returns-in_err-check_finished
unfolding reached
returns-in_err-check_finished c =
    let p = err_from_is_err_and c.from_residual.result c.from_residual.ensures.1 in
    rw (p.1, p.2, sym c.in_err-check_finished.ensures) refl

pub returns : goal.returns
unfolding reached
returns c =
    rw (sym c.in_ok-check_finished.ensures)
    (c.reach_box.ensures ∙ rw (← c.lent.view_is, ← c.layout_at-layout.ensures) refl)
