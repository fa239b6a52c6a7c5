-- The check doesn't find that a part of a buffer ends in it: that is known of what is printed alone, which only the call's contract names.
use Rattle.std.proofs.Common.{ℕ, List, sym, subst, lit≤, OnOk}
use lib.Seq.{length-take-le}
use Rattle.std.specs.Io.KnownBytes.{Appends}
use Rattle.boxlist_print.proofs.Laws.{printed_there}
use Rattle.screen_program.proofs.Whole.{printed_bytes}
use Rattle.screen_program.proofs.print_list.Goals as goal

pub slice_bounds-out-end : goal.slice_bounds-out-end
slice_bounds-out-end g c = printed_there _ _ _ _ _ (lit≤ tt) c.list_screen-size.ensures

pub slice_bounds-write_all-end : goal.slice_bounds-write_all-end
slice_bounds-write_all-end g c = sym (length-take-le _ _ (printed_there _ _ _ _ _ (lit≤ tt) c.list_screen-size.ensures))

pub returns : goal.returns
returns g c =
    let writes : List ℕ → Type 0 = λ bytes. OnOk c.write_all.result (Appends (g.W.Write.contents c.args.output.now) (g.W.Write.contents c.write_all.new.self) bytes) in
    subst writes (printed_bytes _ _ _ _ _ (lit≤ tt) c.list_screen-size.ensures) c.write_all.ensures.bytes
