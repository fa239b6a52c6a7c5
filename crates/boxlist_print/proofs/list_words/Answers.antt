-- The check rewrites equations, and not a record of them, which `Prints` is.
use Rattle.boxlist_print.proofs.Whole.{zero_layouts, zero_tally}
use Rattle.boxlist_print.proofs.list_words.Goals as goal

pub returns : goal.returns
returns c =
    let n = c.args.counts.items in
    rw (zero_layouts n c.requires.0, zero_tally n c.requires.0, c.opening_of.ensures) at c.list_run.ensures
