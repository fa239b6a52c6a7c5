-- The check lacks the steps of a stretch of tags, which it does not choose by itself among those of `Walk`, and of `checked_from`.
use Rattle.style_record.proofs.Walk.{all_words, words_end, word_on, word_stop, next_tags, tag_on, tag_stop, insets_and_margins, padding_and_borders, sizes, item_bad, item_good, items_done}
use Rattle.style_record.proofs.Same.{word_of_item, rule_of_item, item_inside}
use Rattle.style_record.specs.Check.{checked}
use Rattle.style_record.specs.Record.{items}
use native.Mathlib.Nat.{sub-zero}
use native.Mathlib.Omega.{arith}
use mathlib.Core.Path.{refl, sym, ap, ◌∙◌}
use borrow.Author.Rules.{rules}
use Rattle.style.specs.Resolve.{takes}
use Rattle.style.specs.declared.resolve.Field.TheVariants as field
use Rattle.style_record.proofs.check.check_styles.Goals as goal

pub items-init : goal.items-init
items-init c = (refl, simp sub-zero)

pub record-record-requires : goal.record-record-requires
record-record-requires c = item_inside _ _ (let m = c.items-item-end.ensures in let t = c.items-test.true in omega (arith, m, t))

pub loop-word-init : goal.loop-word-init
loop-word-init c = (c.items.invariant.0, (search rules, search rules, refl, all_words _ _))

pub loop-word-preserved : goal.loop-word-preserved
loop-word-preserved c =
    let e = word_of_item _ _ c.record-record.ensures c.loop-word.word (omega (arith, c.loop-word-test.true)) in
    (c.loop-word.invariant.0, tag_on field.InsetOrMargin _ _ insets_and_margins _ _ _ c.loop-word.invariant.1 c.loop-word-test.true (sym (ap (takes field.InsetOrMargin) e) ∙ (cc)))

pub loop-word-2-init : goal.loop-word-2-init
loop-word-2-init c = (c.loop-word.invariant.0, next_tags _ _ _ _ _ _ (omega arith) c.loop-word.invariant.1 c.loop-word-test.false)

pub loop-word-2-preserved : goal.loop-word-2-preserved
loop-word-2-preserved c =
    let e = word_of_item _ _ c.record-record.ensures c.loop-word-2.word (omega (arith, c.loop-word-2-test.true)) in
    (c.loop-word-2.invariant.0, tag_on field.PaddingOrBorder _ _ padding_and_borders _ _ _ c.loop-word-2.invariant.1 c.loop-word-2-test.true (sym (ap (takes field.PaddingOrBorder) e) ∙ (cc)))

pub loop-word-3-init : goal.loop-word-3-init
loop-word-3-init c = (c.loop-word-2.invariant.0, next_tags _ _ _ _ _ _ (omega arith) c.loop-word-2.invariant.1 c.loop-word-2-test.false)

pub loop-word-3-preserved : goal.loop-word-3-preserved
loop-word-3-preserved c =
    let e = word_of_item _ _ c.record-record.ensures c.loop-word-3.word (omega (arith, c.loop-word-3-test.true)) in
    (c.loop-word-3.invariant.0, tag_on field.Size _ _ sizes _ _ _ c.loop-word-3.invariant.1 c.loop-word-3-test.true (sym (ap (takes field.Size) e) ∙ (cc)))

pub loop-word-4-init : goal.loop-word-4-init
loop-word-4-init c = (c.loop-word-3.invariant.0, search rules)

pub loop-word-4-preserved : goal.loop-word-4-preserved
loop-word-4-preserved c =
    let e = rule_of_item _ _ c.record-record.ensures c.loop-word-4.word c.loop-word-4-test.true in
    (c.loop-word-4.invariant.0, word_on _ _ _ c.loop-word-4.invariant.1 c.loop-word-4-test.true (sym e ∙ (cc)))

pub items-preserved : goal.items-preserved
items-preserved c =
    let m = c.items-item-end.ensures in
    let t = c.items-test.true in
    (c.loop-word-4.invariant.0, c.items.invariant.1 ∙ item_good _ _ _ (omega (arith, m, t)) (words_end _ _ _ c.loop-word-4.invariant.1 c.loop-word-4-test.false))

pub returns-then-not-takes : goal.returns-then-not-takes
unfolding checked items
returns-then-not-takes c =
    let m = c.items-item-end.ensures in
    let t = c.items-test.true in
    let e = word_of_item _ _ c.record-record.ensures c.loop-word.word (omega (arith, c.loop-word-test.true)) in
    sym (c.items.invariant.1 ∙ item_bad _ _ _ (omega (arith, m, t)) (tag_stop field.InsetOrMargin _ _ insets_and_margins _ _ _ c.loop-word.invariant.1 c.loop-word-test.true (sym (ap (takes field.InsetOrMargin) e) ∙ (cc))))

pub returns-then-not-takes-2 : goal.returns-then-not-takes-2
unfolding checked items
returns-then-not-takes-2 c =
    let m = c.items-item-end.ensures in
    let t = c.items-test.true in
    let e = word_of_item _ _ c.record-record.ensures c.loop-word-2.word (omega (arith, c.loop-word-2-test.true)) in
    sym (c.items.invariant.1 ∙ item_bad _ _ _ (omega (arith, m, t)) (tag_stop field.PaddingOrBorder _ _ padding_and_borders _ _ _ c.loop-word-2.invariant.1 c.loop-word-2-test.true (sym (ap (takes field.PaddingOrBorder) e) ∙ (cc))))

pub returns-then-not-takes-3 : goal.returns-then-not-takes-3
unfolding checked items
returns-then-not-takes-3 c =
    let m = c.items-item-end.ensures in
    let t = c.items-test.true in
    let e = word_of_item _ _ c.record-record.ensures c.loop-word-3.word (omega (arith, c.loop-word-3-test.true)) in
    sym (c.items.invariant.1 ∙ item_bad _ _ _ (omega (arith, m, t)) (tag_stop field.Size _ _ sizes _ _ _ c.loop-word-3.invariant.1 c.loop-word-3-test.true (sym (ap (takes field.Size) e) ∙ (cc))))

pub returns-then-code_breaks : goal.returns-then-code_breaks
unfolding checked items
returns-then-code_breaks c =
    let m = c.items-item-end.ensures in
    let t = c.items-test.true in
    let e = rule_of_item _ _ c.record-record.ensures c.loop-word-4.word c.loop-word-4-test.true in
    sym (c.items.invariant.1 ∙ item_bad _ _ _ (omega (arith, m, t)) (word_stop _ _ _ c.loop-word-4.invariant.1 c.loop-word-4-test.true (sym e ∙ (cc))))

pub returns-after-items : goal.returns-after-items
unfolding checked items
returns-after-items c =
    let m = c.items-item-end.ensures in
    let t = c.items-test.false in
    c.items.invariant.0 ∙ sym (c.items.invariant.1 ∙ items_done _ _ _ (omega (arith, m, t)))
