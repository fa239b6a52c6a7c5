-- The search does not take the outcome's parts together, of which the lemmas speak.
use Rattle.std.proofs.Common.{◌*◌, ◌/◌, length, refl, ◌∙◌}
use Rattle.tree_record.specs.Candidate.{candidate_width}
use Rattle.script.proofs.Steps.{turned, ended}
use Rattle.script.proofs.play_out.Goals as goal

pub loop-preserved : goal.loop-preserved
loop-preserved c =
    let l = c.loop in
    l.invariant ∙ turned _ _ _ _ _ _ _ l.counter (3 * (length c.args.candidates.now / candidate_width)) c.loop-test.true c.play_on-step.ensures

pub returns : goal.returns
returns c =
    let l = c.loop in
    ended _ _ _ _ _ _ _ _ _ _ _ _ _ l.counter (3 * (length c.args.candidates.now / candidate_width)) refl c.loop-test.false c.open-step.ensures l.invariant
