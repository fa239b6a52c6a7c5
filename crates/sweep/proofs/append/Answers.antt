-- The check finds no road through `filter` and `enumerate` of a slice of arrays, and no list that it has yielded so far.
use Rattle.std.proofs.Common.{rules, tests, ap, ◌∙◌, List, length, map, arith, ◌≡◌, ◌<◌, ◌+◌, ◌*◌, Option, Some, None}
use Rattle.std.specs.Prelude.{filter}
use Rattle.tree.specs.declared.layout.OofCandidate.{OofCandidate}
use lib.ListN.{get_or}
use Rattle.std.specs.Iterator.{Yields}
use Rattle.std.proofs.lemmas.Iterator.{YieldsList, YieldsList-from_slice}
use Rattle.std.proofs.lemmas.Iterator.Consumers.{YieldsList-from_filter, YieldsList-from_enumerate, YieldsList-at, YieldsList-turn, YieldsList-end}
use Rattle.tree_record.specs.Candidate.{candidate_width, candidate_of, candidate_words}
use Rattle.records.specs.Records.{written}
use Rattle.sweep.specs.Sweep.{moved, keep, appended}
use Rattle.sweep.proofs.Steps.{goes_there, count_of_records, candidates_of_records, kept_of_records, turned, enumerated, appended_none, appended_next}
use Rattle.sweep.proofs.append.Goals as goal

-- the library's, with what the call of `next` says before the road
turn : {S A B : Type 0} {steps : S → Option A → S → Type 0} {v : A → B} {s : S} {all : List B} (xs : List A) (t : S) → Yields steps s xs t
    → (r : Option A) (u : S) (x : A) → r ≡ Some x → steps t r u → YieldsList steps v s all → (length xs < length all) × (v x ≡ get_or all (length xs) (v x))
turn xs t y r u x e st road = YieldsList-turn road xs t y r u x e st

ended : {S A B : Type 0} {steps : S → Option A → S → Type 0} {v : A → B} {s : S} {all : List B} (xs : List A) (t : S) → Yields steps s xs t
    → (r : Option A) (u : S) → r ≡ None → steps t r u → YieldsList steps v s all → map v xs ≡ all
ended xs t y r u e st road = (YieldsList-end road xs t y r u e st).0

pub loop-i-init : goal.loop-i-init
loop-i-init c = search (rules, appended_none)

pub write_candidate-requires : goal.write_candidate-requires
write_candidate-requires c =
    let by = c.args.claims in
    let list = c.args.claimed in
    let rs = c.whole_records.result.now in
    let here = turned (filter (goes_there by list) rs) _ _ (turn _ _ c.loop-i.yielded_by c.next.result c.next.new.self _ c.in-Some.is c.next.ensures.steps
    (YieldsList-at c.into_iter-i-iterator.ensures.into_iter_gives (YieldsList-from_enumerate (YieldsList-at c.enumerate-i-items.ensures.source
    (YieldsList-from_filter _ (goes_there by list) (YieldsList-at c.filter-kept.ensures.source (YieldsList-from_slice rs (cc)))
    c.filter-kept.ensures.closure (λ x b q k. search (rules, tests)))) c.enumerate-i-items.ensures.count))) in
    let many = count_of_records by list rs ∙ ap (λ (cs : List OofCandidate). length (keep by list cs)) (candidates_of_records _ rs c.whole_records.ensures) in
    omega (arith, here.0, here.1, many, c.requires, c.loop-i.auto.list)

pub loop-i-preserved : goal.loop-i-preserved
loop-i-preserved c =
    let by = c.args.claims in
    let list = c.args.claimed in
    let rs = c.whole_records.result.now in
    let here = turned (filter (goes_there by list) rs) _ _ (turn _ _ c.loop-i.yielded_by c.next.result c.next.new.self _ c.in-Some.is c.next.ensures.steps
    (YieldsList-at c.into_iter-i-iterator.ensures.into_iter_gives (YieldsList-from_enumerate (YieldsList-at c.enumerate-i-items.ensures.source
    (YieldsList-from_filter _ (goes_there by list) (YieldsList-at c.filter-kept.ensures.source (YieldsList-from_slice rs (cc)))
    c.filter-kept.ensures.closure (λ x b q k. search (rules, tests)))) c.enumerate-i-items.ensures.count))) in
    c.write_candidate.ensures
    ∙ ap (λ (x : OofCandidate). written c.loop-i.list (candidate_width * (c.args.held + c.in-Some.i)) (candidate_words x)) (c.moved.ensures ∙ ap (moved c.args.shift) c.candidate_of-c.ensures)
    ∙ appended_next (λ r. moved c.args.shift (candidate_of r)) c.args.list.now c.loop-i.list c.args.held c.in-Some.i c.loop-i.yielded (c.in-Some.i, c.in-Some.words) c.loop-i.invariant here.1

pub returns : goal.returns
returns c =
    let by = c.args.claims in
    let list = c.args.claimed in
    let rs = c.whole_records.result.now in
    let all = ended _ _ c.loop-i.yielded_by c.next.result c.next.new.self c.in-None.is c.next.ensures.steps
    (YieldsList-at c.into_iter-i-iterator.ensures.into_iter_gives (YieldsList-from_enumerate (YieldsList-at c.enumerate-i-items.ensures.source
    (YieldsList-from_filter _ (goes_there by list) (YieldsList-at c.filter-kept.ensures.source (YieldsList-from_slice rs (cc)))
    c.filter-kept.ensures.closure (λ x b q k. search (rules, tests)))) c.enumerate-i-items.ensures.count)) in
    let e = enumerated (λ r. moved c.args.shift (candidate_of r)) c.loop-i.yielded (filter (goes_there by list) rs) all in
    c.loop-i.invariant ∙ ap (appended c.args.list.now c.args.held) (e ∙ kept_of_records by list c.args.shift _ rs c.whole_records.ensures)
