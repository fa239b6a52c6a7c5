-- The check lacks how what is told of the boxes from one on goes by that one.
use Rattle.std.proofs.lemmas.Result.{err_from_is_err_and}
use Rattle.touch.proofs.Passes.{has_layout, one_tested, one_refused, all_tested}
use mathlib.Core.Path.{refl, sym, ap, ◌∙◌}
use Rattle.std.specs.Prelude.{is_ok}
use Rattle.touch.proofs.check_boxes.Goals as goal

pub loop-candidate-init : goal.loop-candidate-init
loop-candidate-init c = refl

pub box_words-requires : goal.box_words-requires
box_words-requires c = has_layout _ _ _ c.loop-candidate-test.true c.requires

pub returns-in_err-box_words : goal.returns-in_err-box_words
returns-in_err-box_words c =
    let p = err_from_is_err_and c.from_residual.result c.from_residual.ensures.1 in
    rw (p.1, p.2) (sym (one_refused _ _ _ _ _ c.loop-candidate-test.true (sym c.box_words.ensures ∙ c.in_err-box_words.was) c.loop-candidate.invariant))

pub loop-candidate-preserved : goal.loop-candidate-preserved
loop-candidate-preserved c =
    one_tested _ _ _ _ c.loop-candidate-test.true (ap is_ok (sym c.box_words.ensures ∙ c.in_ok-box_words.was)) c.loop-candidate.invariant

pub returns : goal.returns
returns c = sym (all_tested _ _ _ _ c.loop-candidate-test.false c.loop-candidate.invariant)
