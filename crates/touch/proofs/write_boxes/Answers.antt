-- The check lacks how what is told of the boxes from one on goes by that one, and that what was written stays.
use Rattle.touch.proofs.Passes.{has_layout, none_written, has_edges, has_room, one_written, all_written}
use Rattle.std.proofs.Common.{sym, ◌∙◌, arith}
use Rattle.touch.proofs.write_boxes.Goals as goal

pub loop-place-init : goal.loop-place-init
loop-place-init c = none_written _ _ _ _ c.requires.fits c.requires.checked

pub box_words-requires : goal.box_words-requires
box_words-requires c = has_layout _ _ _ c.loop-place-test.true c.requires.has_layouts

pub unwrap-five-requires : goal.unwrap-five-requires
unwrap-five-requires c = rw c.box_words.ensures (has_edges _ _ _ _ _ c.loop-place.invariant c.loop-place-test.true)

pub write_record-requires : goal.write_record-requires
write_record-requires c = (omega arith, has_room _ _ _ _ _ c.loop-place.invariant c.loop-place-test.true)

pub loop-place-preserved : goal.loop-place-preserved
loop-place-preserved c =
    one_written _ _ _ _ _ c.loop-place.invariant c.loop-place-test.true _ _ (sym c.box_words.ensures ∙ c.unwrap-five.ensures) c.write_record.ensures

pub returns : goal.returns
returns c = all_written _ _ _ _ _ c.loop-place.invariant c.loop-place-test.false
