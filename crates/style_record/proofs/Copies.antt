-- A copy of a table with one style written in: its records, its length and its check. Assumes nothing.
use Prim.Native.Nat.{ℕ, ◌*◌, ◌/◌, ◌<◌}
use native.Mathlib.Omega.{arith}
use mathlib.Core.Path.{◌≡◌, refl, sym, ap, ◌∙◌, subst}
use mathlib.Core.Bool.{Bool, true, false}
use mathlib.Core.List.{List}
use lib.Dec.{eqb}
use lib.ListN.{length}
use borrow.Author.Tests.{eqb-true, eqb-false}
use Rattle.std.specs.Prelude.{◌≢◌, Ok}
use Rattle.records.specs.Records.{record_at}
use Rattle.records.proofs.Laws.{written_length, written_over, record_back, others_kept}
use Rattle.style_record.specs.Record.{style_words, item, items}
use Rattle.style_record.specs.Check.{breaks, bad_at, checked}
use Rattle.style_record.specs.Decode.{style_at}
use Rattle.style_record.specs.Table.{with_style}
use Rattle.style_record.specs.Laws.{AllGood, NoneBreaks, CopyHasTheStyle, OthersAreLent, CopyIsAsLong, CopyIsOver, ReplacementIsChecked, ReplacementIsNamed}
use Rattle.style_record.proofs.Same.{same_style, same_rule, word_of_item, item_inside}
use Rattle.style_record.proofs.Replaced.{one_record}
use Rattle.style_record.proofs.Laws.{good_is_none, bad_is_first}

-- ---- one record, in two tables

module _ (s t : List ℕ) (i j : ℕ) (same : record_at style_words s i ≡ record_at style_words t j) where
  alike_words : (k : ℕ) → k < style_words → item s i k ≡ item t j k
  alike_words k h = sym (word_of_item s i refl k h) ∙ word_of_item t j same k h

  alike_style : style_at s i ≡ style_at t j
  unfolding style_at
  alike_style = same_style _ _ alike_words

  alike_rule : (k : ℕ) → k < style_words → breaks s i k ≡ breaks t j k
  unfolding breaks
  alike_rule k h = same_rule _ _ alike_words k h

  alike_good : AllGood t j → AllGood s i
  alike_good a k h = alike_rule k h ∙ a k h

-- ---- the copy's records

pub copy_is_as_long : CopyIsAsLong
unfolding items
copy_is_as_long styles node style =
    let e = written_length styles (style_words * node) style in
    (e, ap (λ (n : ℕ). n / style_words) e)

pub copy_is_over : CopyIsOver
copy_is_over styles node before style one one' there =
    written_over styles (style_words * node) before style (one ∙ sym one') (let h = item_inside styles node there in omega (arith, h, one'))

module _ (styles : List ℕ) (node : ℕ) (style : List ℕ) (one : length style ≡ style_words) where
  written_there : node < items styles → record_at style_words (with_style styles node style) node ≡ style
  written_there there = record_back style_words node styles style one (item_inside styles node there)

  -- the same as of a table of that style alone
  alone : node < items styles → record_at style_words (with_style styles node style) node ≡ record_at style_words style 0
  alone there = written_there there ∙ sym (one_record style one)

  lent_there : (i : ℕ) → i ≢ node → record_at style_words (with_style styles node style) i ≡ record_at style_words styles i
  lent_there i other = others_kept style_words node i styles style one other

pub copy_has_the_style : CopyHasTheStyle
copy_has_the_style styles node style one there =
    (written_there styles node style one there, alike_style (with_style styles node style) style node 0 (alone styles node style one there))

pub others_are_lent : OthersAreLent
others_are_lent styles node style i one other =
    let e = lent_there styles node style one i other in
    (e, alike_style (with_style styles node style) styles i i e)

-- ---- its check

-- a table of one record is good where that record is
one_item : (style : List ℕ) → length style ≡ style_words → items style ≡ 1
unfolding items
one_item style one = go (length style) one
  where
    go : (n : ℕ) → n ≡ style_words → n / style_words ≡ 1
    go n e = omega arith

only_item : (style : List ℕ) → length style ≡ style_words → AllGood style 0 → NoneBreaks style
only_item style one a i h = subst (AllGood style) (sym (none (subst (λ (n : ℕ). i < n) (one_item style one) h))) a
  where
    none : i < 1 → i ≡ 0
    none h = omega arith

module _ (styles : List ℕ) (node : ℕ) (style : List ℕ) (one : length style ≡ style_words) (there : node < items styles) where
  there_in_copy : (i : ℕ) → i < items styles → i < items (with_style styles node style)
  there_in_copy i h = subst (λ (n : ℕ). i < n) (sym (copy_is_as_long styles node style).1) h

  there_alone : 0 < items style
  there_alone = let e = one_item style one in omega arith

  copy_breaks : (k : ℕ) → k < style_words → breaks (with_style styles node style) node k ≡ breaks style 0 k
  copy_breaks = alike_rule (with_style styles node style) style node 0 (alone styles node style one there)

  copy_good : (i : ℕ) → i ≢ node → AllGood styles i → AllGood (with_style styles node style) i
  copy_good i other = alike_good (with_style styles node style) styles i i (lent_there styles node style one i other)

  lent_good : (i : ℕ) → i ≢ node → AllGood (with_style styles node style) i → AllGood styles i
  lent_good i other = alike_good styles (with_style styles node style) i i (sym (lent_there styles node style one i other))

  each_good : AllGood style 0 → ((i : ℕ) → i < items styles → i ≢ node → AllGood styles i) → (i : ℕ) → i < items styles → AllGood (with_style styles node style) i
  each_good a others i h = go (eqb i node) refl
    where
      go : (b : Bool) → eqb i node ≡ b → AllGood (with_style styles node style) i
      go true e = subst (AllGood (with_style styles node style)) (sym (eqb-true i node e)) (λ k p. copy_breaks k p ∙ a k p)
      go false e = copy_good i (eqb-false i node e) (others i h (eqb-false i node e))

pub replacement_is_checked : ReplacementIsChecked
replacement_is_checked styles node style one there = (to, from)
  where
    to : checked (with_style styles node style) ≡ Ok tt → (checked style ≡ Ok tt) × ((i : ℕ) → i < items styles → i ≢ node → AllGood styles i)
    to e =
        let a = (good_is_none (with_style styles node style)).0 e in (
          (good_is_none style).1 (only_item style one (λ k p. sym (copy_breaks styles node style one there k p) ∙ a node (there_in_copy styles node style one there node there) k p)),
          λ i h other. lent_good styles node style one there i other (a i (there_in_copy styles node style one there i h)),
        )

    from : (checked style ≡ Ok tt) × ((i : ℕ) → i < items styles → i ≢ node → AllGood styles i) → checked (with_style styles node style) ≡ Ok tt
    from p =
        let a = (good_is_none style).0 p.0 0 (there_alone styles node style one there) in
        (good_is_none (with_style styles node style)).1 (λ i h. each_good styles node style one there a p.1 i (subst (λ (n : ℕ). i < n) (copy_is_as_long styles node style).1 h))

before : (i node : ℕ) → i < node → i ≢ node
before i node h e = omega arith

pub replacement_is_named : ReplacementIsNamed
replacement_is_named styles node style k one there = (to, from)
  where
    alike : (j : ℕ) → j < style_words → breaks (with_style styles node style) node j ≡ breaks style 0 j
    alike = copy_breaks styles node style one there

    to : checked (with_style styles node style) ≡ bad_at node k → (checked style ≡ bad_at 0 k) × ((i : ℕ) → i < node → AllGood styles i)
    to e =
        let f = (bad_is_first (with_style styles node style) node k).0 e in
        let w = f.word_there in (
          (bad_is_first style 0 k).1
              (record {
                item_there = there_alone styles node style one there;
                word_there = w;
                breaks_it = sym (alike k w) ∙ f.breaks_it;
                words_before = λ j h. sym (alike j (omega arith)) ∙ f.words_before j h;
                items_before = λ i h. absurd (omega arith);
              }),
          λ i h. lent_good styles node style one there i (before i node h) (f.items_before i h),
        )

    from : (checked style ≡ bad_at 0 k) × ((i : ℕ) → i < node → AllGood styles i) → checked (with_style styles node style) ≡ bad_at node k
    from p =
        let f = (bad_is_first style 0 k).0 p.0 in
        let w = f.word_there in
        (bad_is_first (with_style styles node style) node k).1
        (record {
          item_there = there_in_copy styles node style one there node there;
          word_there = w;
          breaks_it = alike k w ∙ f.breaks_it;
          words_before = λ j h. alike j (omega arith) ∙ f.words_before j h;
          items_before = λ i h. copy_good styles node style one there i (before i node h) (p.1 i h);
        })
