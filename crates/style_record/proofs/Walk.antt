-- The walk over a record's words and over a table's items, a step at a time. Assumes nothing.
use Prim.Native.Nat.{ℕ, suc, ◌+◌, ◌-◌, ◌/◌, ◌%◌, ◌<◌, ◌≤◌}
use native.Mathlib.Omega.{arith}
use mathlib.Core.Path.{◌≡◌, refl, sym, ◌∙◌, ap}
use mathlib.Core.Bool.{Bool, true, false, cond, not}
use mathlib.Core.List.{List}
use lib.Dec.{ltb}
use borrow.Author.Tests.{lt-ltb, le-ltb}
use Rattle.style.specs.Resolve.{takes}
use Rattle.style.proofs.Laws.{takes_its_tags}
use Rattle.style.specs.declared.resolve.Field.{Field}
use Rattle.style.specs.declared.resolve.Field.TheVariants as field
use Rattle.style_record.specs.Record.{tag, number, kind_of, length_kinds, length_field, length_words, after_lengths, style_words, tag_word, item}
use Rattle.style_record.specs.Check.{breaks_as, breaks_rule, first_from, bad_at, or_rest, first_broken, checked_from}
use Rattle.std.specs.Prelude.{None, Some, Ok}

-- ---- n numbers, one by one

turn : (n i : ℕ) → i < n → n - i ≡ suc (n - (i + 1))
turn n i h = omega arith

over : (n i : ℕ) → n ≤ i → n - i ≡ 0
over n i h = omega arith

-- ---- a record's words

module _ (r : ℕ → ℕ) (k : ℕ) where
  word_bad : k < style_words → breaks_rule r k ≡ true → first_from r (style_words - k) k ≡ Some k
  unfolding first_from
  word_bad h e = rw (turn style_words k h) (rw e refl)

  word_good : k < style_words → breaks_rule r k ≡ false → first_from r (style_words - k) k ≡ first_from r (style_words - (k + 1)) (k + 1)
  unfolding first_from
  word_good h e = rw (turn style_words k h) (rw e refl)

  words_done : style_words ≤ k → first_from r (style_words - k) k ≡ None
  unfolding first_from
  words_done h = rw (over style_words k h) refl

-- ---- a length starts with its tag, and no other word of it breaks a rule

-- word j of a length that starts at word k
inside : (k j : ℕ) → j < length_words → k < after_lengths → k % length_words ≡ 0 → k + j < after_lengths
inside k j l h e = omega arith

place : (k j : ℕ) → j < length_words → k % length_words ≡ 0 → (k + j) % length_words ≡ j
place k j l e = omega arith

two_on : (k : ℕ) → k + 1 + 1 ≡ k + 2
two_on k = omega arith

-- the length behind it
next_length : (k : ℕ) → k + 1 + 1 + 1 ≡ k + length_words
next_length k = omega arith

below : (k : ℕ) → k < after_lengths → k < style_words
below k h = omega arith

value_below : (k : ℕ) → k < after_lengths → k + 1 < style_words
value_below k h = omega arith

second_below : (k : ℕ) → k < after_lengths → k + 1 + 1 < style_words
second_below k h = omega arith

module _ (k : ℕ) (h : k < after_lengths) (first : k % length_words ≡ 0) where
  tag_kind : kind_of k ≡ tag (length_field (k / length_words))
  unfolding kind_of length_kinds
  tag_kind = rw (lt-ltb k after_lengths h, first) refl

  value_kind : kind_of (k + 1) ≡ number
  unfolding kind_of length_kinds
  value_kind = rw (lt-ltb (k + 1) after_lengths (inside k 1 (omega arith) h first), place k 1 (omega arith) first) refl

  second_kind : kind_of (k + 1 + 1) ≡ number
  unfolding kind_of length_kinds
  second_kind = rw (two_on k, lt-ltb (k + 2) after_lengths (inside k 2 (omega arith) h first), place k 2 (omega arith) first) refl

module _ (r : ℕ → ℕ) (k : ℕ) (h : k < after_lengths) (first : k % length_words ≡ 0) where
  tag_rule : breaks_rule r k ≡ not (takes (length_field (k / length_words)) (r k))
  unfolding breaks_rule breaks_as
  tag_rule = rw (tag_kind k h first) refl

  value_rule : breaks_rule r (k + 1) ≡ false
  unfolding breaks_rule breaks_as
  value_rule = rw (value_kind k h first) refl

  second_rule : breaks_rule r (k + 1 + 1) ≡ false
  unfolding breaks_rule breaks_as
  second_rule = rw (second_kind k h first) refl

  tag_bad : takes (length_field (k / length_words)) (r k) ≡ false → first_from r (style_words - k) k ≡ Some k
  tag_bad e = word_bad r k (below k h) (tag_rule ∙ ap not e)

  tag_good : takes (length_field (k / length_words)) (r k) ≡ true → first_from r (style_words - k) k ≡ first_from r (style_words - (k + length_words)) (k + length_words)
  tag_good e =
      word_good r k (below k h) (tag_rule ∙ ap not e) ∙ word_good r (k + 1) (value_below k h) value_rule
      ∙ word_good r (k + 1 + 1) (second_below k h) second_rule
      ∙ ap (λ (j : ℕ). first_from r (style_words - j) j) (next_length k)

-- ---- the tags from one word to another, all held to one field

abbrev TakenAs : Field → ℕ → ℕ → Type 0
TakenAs f from to = (k : ℕ) → from ≤ k → k < to → (w : ℕ) → takes (length_field (k / length_words)) w ≡ takes f w

pub record Stretch (f : Field) (from to : ℕ) : Type 0 where
  pub taken : TakenAs f from to
  pub ends : to % length_words ≡ 0
  pub inside : to ≤ after_lengths

pub insets_and_margins : Stretch field.InsetOrMargin (tag_word 0) (tag_word 8)
unfolding length_field
insets_and_margins = record { taken = held; ends = refl; inside = omega arith }
  where
    held : TakenAs field.InsetOrMargin (tag_word 0) (tag_word 8)
    held k p q w = rw (lt-ltb (k / length_words) 8 (omega arith)) refl

pub padding_and_borders : Stretch field.PaddingOrBorder (tag_word 8) (tag_word 16)
unfolding length_field
padding_and_borders = record { taken = held; ends = refl; inside = omega arith }
  where
    held : TakenAs field.PaddingOrBorder (tag_word 8) (tag_word 16)
    held k p q w = rw (le-ltb (k / length_words) 8 (omega arith), lt-ltb (k / length_words) 16 (omega arith)) refl

-- min and max take what the size does
pub sizes : Stretch field.Size (tag_word 16) after_lengths
unfolding length_field
sizes = record { taken = held; ends = refl; inside = omega arith }
  where
    alike : (b : Bool) (w : ℕ) → takes (cond b field.Size field.MinOrMax) w ≡ takes field.Size w
    alike true w = refl
    alike false w = takes_its_tags field.MinOrMax w ∙ sym (takes_its_tags field.Size w)

    held : TakenAs field.Size (tag_word 16) after_lengths
    held k p q w = rw (le-ltb (k / length_words) 8 (omega arith), le-ltb (k / length_words) 16 (omega arith)) (alike (ltb (k / length_words) 18) w)

-- ---- an item's words, from one on

-- what the words of an item come to is what those from word k on do
abbrev pub From : List ℕ → ℕ → ℕ → Type 0
From s i k = first_broken s i ≡ first_from (item s i) (style_words - k) k

pub all_words : (s : List ℕ) (i : ℕ) → From s i 0
unfolding first_broken
all_words s i = refl

module _ (s : List ℕ) (i k : ℕ) (here : From s i k) where
  pub words_end : style_words ≤ k → first_broken s i ≡ None
  words_end h = here ∙ words_done (item s i) k h

  pub word_on : k < style_words → breaks_rule (item s i) k ≡ false → From s i (k + 1)
  word_on h e = here ∙ word_good (item s i) k h e

  pub word_stop : k < style_words → breaks_rule (item s i) k ≡ true → first_broken s i ≡ Some k
  word_stop h e = here ∙ word_bad (item s i) k h e

-- a tag of a stretch is reached
abbrev pub Tags : ℕ → ℕ → List ℕ → ℕ → ℕ → Type 0
Tags from to s i k = (from ≤ k) × (k ≤ to) × (k % length_words ≡ 0) × From s i k

-- the stretch is over, and the next begins
pub next_tags : (from to end : ℕ) (s : List ℕ) (i k : ℕ) → to ≤ end → Tags from to s i k → to ≤ k → Tags to end s i to
next_tags from to end s i k p here h = let e : k ≡ to = omega (arith, here.1) in (omega arith, p, rw e at here.2, rw e at here.3)

module _ (f : Field) (from to : ℕ) (stretch : Stretch f from to) (s : List ℕ) (i k : ℕ) (here : Tags from to s i k) (h : k < to) where
  below_end : k < after_lengths
  below_end = let p = stretch.inside in omega arith

  pub tag_on : takes f (item s i k) ≡ true → Tags from to s i (k + length_words)
  tag_on e =
      (later, within stretch.ends here.2, again here.2, here.3 ∙ tag_good (item s i) k below_end here.2 (stretch.taken k here.0 h _ ∙ e))
    where
      later : from ≤ k + length_words
      later = let p = here.0 in omega arith

      within : to % length_words ≡ 0 → k % length_words ≡ 0 → k + length_words ≤ to
      within a b = omega arith

      again : k % length_words ≡ 0 → (k + length_words) % length_words ≡ 0
      again a = omega arith

  pub tag_stop : takes f (item s i k) ≡ false → first_broken s i ≡ Some k
  tag_stop e = here.3 ∙ tag_bad (item s i) k below_end here.2 (stretch.taken k here.0 h _ ∙ e)

-- ---- a table's items

module _ (s : List ℕ) (i n : ℕ) (h : i < n) where
  pub item_bad : {k : ℕ} → first_broken s i ≡ Some k → checked_from s (n - i) i ≡ bad_at i k
  unfolding checked_from or_rest
  item_bad e = rw (turn n i h) (rw e refl)

  pub item_good : first_broken s i ≡ None → checked_from s (n - i) i ≡ checked_from s (n - (i + 1)) (i + 1)
  unfolding checked_from or_rest
  item_good e = rw (turn n i h) (rw e refl)

pub items_done : (s : List ℕ) (i n : ℕ) → n ≤ i → checked_from s (n - i) i ≡ Ok tt
unfolding checked_from
items_done s i n h = rw (over n i h) refl
