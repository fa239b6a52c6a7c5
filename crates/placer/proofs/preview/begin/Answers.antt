-- The search does not put the slices together to what was lent, of which the lemmas speak.
use Rattle.std.proofs.Common.{refl, sym, ◌∙◌, arith}
use lib.Dec.{lit<}
use Rattle.std.proofs.lemmas.Result.{err_from_is_err_and}
use Rattle.style_record.proofs.Replaced.{one_record}
use Rattle.run.specs.Call.{lent}
use Rattle.run.proofs.Preview.{closed_alike}
use Rattle.placer.proofs.Previews.{opening_has_one_style, opening_turned_down, opens_copy}
use Rattle.placer.proofs.preview.begin.Goals as goal

pub returns-in_err-check_opening : goal.returns-in_err-check_opening
returns-in_err-check_opening c =
    let a = c.args in
    let p = err_from_is_err_and c.from_residual.result c.from_residual.ensures.1 in
    rw (p.1, p.2, c.requires)
    (opening_turned_down a.node a.style.now (lent a.styles.now a.layouts.now a.working.now a.unclaimed.now a.tally.now) a.o a.candidates.now _ _
    (rw c.from.ensures at c.in_err-check_opening.ensures) refl)

pub record_at-requires : goal.record_at-requires
record_at-requires c =
    let a = c.args in
    let one = opening_has_one_style a.node a.style.now (lent a.styles.now a.layouts.now a.working.now a.unclaimed.now a.tally.now) a.o a.candidates.now
    (rw c.from.ensures at c.in_ok-check_opening.ensures) in
    (lit< tt, omega (arith, one))

pub begin-requires : goal.begin-requires
begin-requires c =
    let a = c.args in
    let one = opening_has_one_style a.node a.style.now (lent a.styles.now a.layouts.now a.working.now a.unclaimed.now a.tally.now) a.o a.candidates.now
    (rw c.from.ensures at c.in_ok-check_opening.ensures) in
    rw (c.with_style-copy.ensures, c.record_at.ensures ∙ one_record a.style.now one)
    (c.requires ∙ sym (closed_alike a.node a.style.now (lent a.styles.now a.layouts.now a.working.now a.unclaimed.now a.tally.now)))

pub returns : goal.returns
returns c =
    let a = c.args in
    let one = opening_has_one_style a.node a.style.now (lent a.styles.now a.layouts.now a.working.now a.unclaimed.now a.tally.now) a.o a.candidates.now
    (rw c.from.ensures at c.in_ok-check_opening.ensures) in
    opens_copy a.node a.style.now (lent a.styles.now a.layouts.now a.working.now a.unclaimed.now a.tally.now) a.o a.candidates.now _
    (rw c.from.ensures at c.in_ok-check_opening.ensures)
    (rw (c.with_style-copy.ensures, c.record_at.ensures ∙ one_record a.style.now one) at c.begin.ensures)
