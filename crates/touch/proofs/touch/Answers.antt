-- The search does not go from the fields of `lent` to what a contract sees of it (`view_is`) and back, nor does it see that the tests leave the
-- boxes where the passes need them.
use Rattle.std.proofs.Common.{sym}
use Rattle.std.proofs.lemmas.Result.{err_from_is_err_and}
use Rattle.touch.proofs.There.{left_refused, boxes_end, have_layouts, words_fit, left_unwritten, left_written}
use Rattle.touch.proofs.touch.Goals as goal

pub returns-in_err-check_finished : goal.returns-in_err-check_finished
returns-in_err-check_finished c =
    let a = c.args in
    let p = err_from_is_err_and c.from_residual.result c.from_residual.ensures.1 in
    rw (p.1, p.2) (sym (left_refused a.s a.lent.now a.words.now _ (rw c.is_five_a_box.ensures at (sym c.in_err-check_finished.ensures))))

pub slice_bounds-boxes-end : goal.slice_bounds-boxes-end
slice_bounds-boxes-end c =
    let e = rw (c.is_five_a_box.ensures, ← c.lent.view_is) at (sym c.in_ok-check_finished.ensures) in
    boxes_end c.args.s _ c.args.words.now e _ c.whole_records.ensures

pub check_boxes-requires : goal.check_boxes-requires
check_boxes-requires c =
    let e = rw (c.is_five_a_box.ensures, ← c.lent.view_is) at (sym c.in_ok-check_finished.ensures) in
    have_layouts c.args.s _ c.args.words.now e _ c.whole_records.ensures

pub returns-in_err-check_boxes : goal.returns-in_err-check_boxes
returns-in_err-check_boxes c =
    let a = c.args in
    let e = rw (c.is_five_a_box.ensures, ← c.lent.view_is) at (sym c.in_ok-check_finished.ensures) in
    let p = err_from_is_err_and c.from_residual-in_err-check_boxes.result c.from_residual-in_err-check_boxes.ensures.1 in
    rw (p.1, p.2, ← c.lent.view_is) (sym (left_unwritten a.s _ a.words.now e _ c.whole_records.ensures _ (sym c.in_err-check_boxes.ensures)))

pub write_boxes-requires-clause-has_layouts : goal.write_boxes-requires-clause-has_layouts
write_boxes-requires-clause-has_layouts c =
    let e = rw (c.is_five_a_box.ensures, ← c.lent.view_is) at (sym c.in_ok-check_finished.ensures) in
    have_layouts c.args.s _ c.args.words.now e _ c.whole_records.ensures

pub write_boxes-requires-clause-fits : goal.write_boxes-requires-clause-fits
write_boxes-requires-clause-fits c =
    let e = rw (c.is_five_a_box.ensures, ← c.lent.view_is) at (sym c.in_ok-check_finished.ensures) in
    words_fit c.args.s _ c.args.words.now e _ c.whole_records.ensures

pub returns : goal.returns
returns c =
    let a = c.args in
    let e = rw (c.is_five_a_box.ensures, ← c.lent.view_is) at (sym c.in_ok-check_finished.ensures) in
    rw (← c.lent.view_is) (sym (left_written a.s _ a.words.now e _ c.whole_records.ensures _ c.write_boxes.ensures))
