-- The check lacks what `all` answers over a part of a slice of arrays: it finds no road through the cut.
use Rattle.std.proofs.Common.{rules, tests, take, arith}
use Rattle.std.proofs.lemmas.Iterator.{YieldsList-from_slice}
use Rattle.std.proofs.lemmas.Iterator.Search.{all_from_yields_List}
use Rattle.records.specs.Records.{good}
use Rattle.records.proofs.Laws.{good_by_records}
use Rattle.tree_record.specs.Candidate.{candidate_kinds}
use Rattle.tree_record.proofs.candidate.are_good.Goals as goal

pub returns-then-count-records : goal.returns-then-count-records
returns-then-count-records c =
    let h = all_from_yields_List (λ r. good (candidate_kinds c.args.n) r 0) _ _ _ c.all.ensures.ran (YieldsList-from_slice (take c.args.count c.whole_records-records.result.now) (cc)) (λ x b q k. search (rules, tests)) in
    grind (arith, good_by_records)
