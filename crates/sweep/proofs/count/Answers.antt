-- The check finds no road through `filter` to `count`, where the test reads a word of an array.
use Rattle.std.proofs.Common.{rules, tests, ap, ◌∙◌, List, length}
use Rattle.std.proofs.lemmas.Iterator.{YieldsList-from_slice}
use Rattle.std.proofs.lemmas.Iterator.Consumers.{count_from_yields_List, YieldsList-from_filter, YieldsList-at}
use Rattle.tree.specs.declared.layout.OofCandidate.{OofCandidate}
use Rattle.sweep.specs.Sweep.{keep}
use Rattle.sweep.proofs.Steps.{goes_there, count_of_records, candidates_of_records}
use Rattle.sweep.proofs.count.Goals as goal

pub returns : goal.returns
returns c =
    let by = c.args.claims in
    let list = c.args.claimed in
    let rs = c.whole_records.result.now in
    count_from_yields_List c.filter.result _ c.count.ensures.ran
    (YieldsList-from_filter _ (goes_there by list) (YieldsList-at c.filter.ensures.source (YieldsList-from_slice rs (cc))) c.filter.ensures.closure (λ x b q k. search (rules, tests)))
    ∙ count_of_records by list rs ∙ ap (λ (cs : List OofCandidate). length (keep by list cs)) (candidates_of_records _ rs c.whole_records.ensures)
