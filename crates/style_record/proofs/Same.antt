-- Records with the same words are read alike; an item's record by itself, and at its place in a table. Assumes nothing.
use Prim.Native.Nat.{ℕ, ◌+◌, ◌-◌, ◌*◌, ◌<◌, ◌≤◌}
use native.Mathlib.Omega.{arith}
use native.Mathlib.Nat.{mul-div-le}
use mathlib.Core.Path.{◌≡◌, refl}
use mathlib.Core.List.{List}
use lib.Dec.{lit<, lit≤}
use lib.ListN.{length, get_or}
use Rattle.records.specs.Records.{record_at}
use Rattle.records.proofs.Laws.{word_of_record}
use Rattle.style_record.specs.Record.{length_words, tag_word, ratio_present_word, ratio_word, box_sizing_word, flags_word, direction_word, justify_word, align_word, overflow_x_word, overflow_y_word, scrollbar_word, contain_word, style_words, item, items}
use Rattle.style_record.specs.Check.{breaks_rule}
use Rattle.style_record.specs.Decode.{length_at, rect_at, size_at, align_at, ratio_at, overflow_at, style_of, style_at}

-- ---- two records with the same words

module _ (r r' : ℕ → ℕ) (same : (k : ℕ) → k < style_words → r k ≡ r' k) where
  same_length : (k : ℕ) → k + length_words ≤ style_words → length_at r k ≡ length_at r' k
  unfolding length_at
  same_length k h = rw (same k (omega arith), same (k + 1) (omega arith), same (k + 2) (omega arith)) refl

  same_rect : (k : ℕ) → k + 4 * length_words ≤ style_words → rect_at r k ≡ rect_at r' k
  unfolding rect_at
  same_rect k h =
      rw (
        same_length k (omega arith),
        same_length (k + length_words) (omega arith),
        same_length (k + 2 * length_words) (omega arith),
        same_length (k + 3 * length_words) (omega arith),
      )
      refl

  same_size : (k : ℕ) → k + 2 * length_words ≤ style_words → size_at r k ≡ size_at r' k
  unfolding size_at
  same_size k h = rw (same_length k (omega arith), same_length (k + length_words) (omega arith)) refl

  pub same_style : style_of r ≡ style_of r'
  unfolding style_of ratio_at align_at overflow_at
  same_style =
      rw (
        same_rect (tag_word 0) (lit≤ tt),
        same_rect (tag_word 4) (lit≤ tt),
        same_rect (tag_word 8) (lit≤ tt),
        same_rect (tag_word 12) (lit≤ tt),
        same_size (tag_word 16) (lit≤ tt),
        same_size (tag_word 18) (lit≤ tt),
        same_size (tag_word 20) (lit≤ tt),
        same ratio_present_word (lit< tt),
        same ratio_word (lit< tt),
        same box_sizing_word (lit< tt),
        same flags_word (lit< tt),
        same direction_word (lit< tt),
        same justify_word (lit< tt),
        same (justify_word + 1) (lit< tt),
        same align_word (lit< tt),
        same (align_word + 1) (lit< tt),
        same overflow_x_word (lit< tt),
        same overflow_y_word (lit< tt),
        same scrollbar_word (lit< tt),
        same contain_word (lit< tt),
      )
      refl

  pub same_rule : (k : ℕ) → k < style_words → breaks_rule r k ≡ breaks_rule r' k
  unfolding breaks_rule
  same_rule k h = rw (same k h, same (k - 1) (omega arith)) refl

-- ---- an item's record by itself

module _ (s : List ℕ) (i : ℕ) {r : List ℕ} (there : r ≡ record_at style_words s i) where
  pub word_of_item : (k : ℕ) → k < style_words → get_or r k 0 ≡ item s i k
  word_of_item k h = rw there (word_of_record style_words s i k h)

  pub style_of_item : style_of (λ k. get_or r k 0) ≡ style_at s i
  unfolding style_at
  style_of_item = same_style _ _ word_of_item

  pub rule_of_item : (k : ℕ) → k < style_words → breaks_rule (λ j. get_or r j 0) k ≡ breaks_rule (item s i) k
  rule_of_item k h = same_rule _ _ word_of_item k h

-- ---- the whole records of a table

pub item_inside : (s : List ℕ) (i : ℕ) → i < items s → style_words * i + style_words ≤ length s
unfolding items
item_inside s i h =
    let most = mul-div-le (length s) style_words in
    omega (arith, h, most)
