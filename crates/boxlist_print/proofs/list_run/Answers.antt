-- The step is not named in what is to be proved, so the check doesn't find which call left the outcome.
use Rattle.std.proofs.Common.{ap, ◌∙◌, Ok}
use Rattle.run.specs.Call.{lent}
use Rattle.boxlist_print.proofs.Lists.{list_asked, list_finished, list_refused, few_boxes}
use Rattle.boxlist_print.proofs.list_run.Goals as goal

pub put_finished-requires : goal.put_finished-requires
put_finished-requires c =
    let p = c.play_out-step.ensures in
    let a = c.args in
    few_boxes a.o a.replies.now a.candidates.now (lent a.styles.now a.layouts.now a.working.now a.unclaimed.now a.tally.now) _ _ _ _ _ p c.requires

pub returns-in-Ok-Ask : goal.returns-in-Ok-Ask
returns-in-Ok-Ask c = list_asked _ _ _ _ _ _ _ _ c.play_out-step.ensures _ (c.in-Ok-Ask.is ∙ ap Ok (rw c.in-Ok-Ask.is at c.in-Ok-Ask.field-0-is))

pub returns-in-Ok-Finish : goal.returns-in-Ok-Finish
returns-in-Ok-Finish c = list_finished _ _ _ _ _ _ _ _ c.play_out-step.ensures _ (c.in-Ok-Finish.is ∙ ap Ok (rw c.in-Ok-Finish.is at c.in-Ok-Finish.field-0-is)) (rw c.from.ensures at c.put_finished.ensures)

pub returns-in-Err : goal.returns-in-Err
returns-in-Err c = list_refused _ _ _ _ _ _ _ _ c.play_out-step.ensures _ c.in-Err.is c.put_refused.ensures
