-- The lists that were read are not named in what is to be proved, so the check doesn't find which call filled them.
use Rattle.screen.proofs.Whole.{read_told, bad_told}
use Rattle.boxlist_print.proofs.Whole.{printed_bad, printed_read}
use Rattle.boxlist_print.proofs.list_screen.Goals as goal

pub returns-in-Ok : goal.returns-in-Ok
returns-in-Ok c =
    let text = c.args.text.now in
    let read = c.in-Ok.ensures.read in
    let t = read_told text _ read.answer in
    let blank = c.filled-lists.ensures in
    printed_read c.args.listing text _ t _ _ _ _ (rw blank.header at read.header) (rw blank.styles at read.styles) (rw blank.replies at read.replies) (rw blank.candidates at read.candidates) c.list_words.ensures

pub returns-in-Err : goal.returns-in-Err
returns-in-Err c =
    let text = c.args.text.now in
    let t = bad_told text _ c.in-Err.ensures.read.answer in
    printed_bad c.args.listing text t.1 (rw t.0 at c.put_refused.ensures)
