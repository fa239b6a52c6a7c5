-- The word across from another is of the same kind, so a style's image breaks a rule exactly where the style does. Assumes nothing.
use borrow.Author.Rules.{rules}
use Rattle.std.proofs.lemmas.Bool.Decides.{nat_tests}
use Prim.Native.Nat.{ℕ, ◌+◌, ◌-◌, ◌*◌, ◌/◌, ◌%◌, ◌<◌, ◌≤◌}
use native.Mathlib.Omega.{arith}
use mathlib.Core.Path.{◌≡◌, refl, sym, ap, ◌∙◌}
use mathlib.Core.Bool.{Bool, true, false, cond}
use lib.Dec.{ltb, leb}
use lib.ListN.{get_or}
use borrow.Author.Tests.{ltb-true, ltb-false, leb-false, lt-ltb, le-leb, lt-leb, ne_eqb}
use Rattle.style.specs.declared.resolve.Field.{Field}
use Rattle.style_record.specs.Record.{length_words, after_lengths, direction_word, number, length_kinds, length_field, code_kinds, kind_of, style_words}
use Rattle.style_record.specs.Check.{breaks_as, breaks_rule}
use Rattle.mirror_run.specs.Image.{other_direction, sides_words, box_words, counterpart, image_style}

-- ---- places

-- a word stands across from itself, or left and right change places
pub data Place (k : ℕ) : ℕ → Type 0 where
  stays : Place k k
  to_right : k < box_words → k % sides_words < length_words → Place k (k + length_words)
  to_left : k < box_words → length_words ≤ k % sides_words → k % sides_words < 2 * length_words → Place k (k - length_words)

pub place : (k : ℕ) → Place k (counterpart k)
unfolding counterpart
place k = go (leb box_words k) (ltb (k % sides_words) length_words) (ltb (k % sides_words) (2 * length_words)) refl refl refl
  where
    go : (b c d : Bool) → leb box_words k ≡ b → ltb (k % sides_words) length_words ≡ c → ltb (k % sides_words) (2 * length_words) ≡ d
        → Place k (cond b k (cond c (k + length_words) (cond d (k - length_words) k)))
    go true c d p q r = stays
    go false true d p q r = to_right (leb-false box_words k p) (ltb-true (k % sides_words) length_words q)
    go false false true p q r =
        to_left (leb-false box_words k p) (ltb-false (k % sides_words) length_words q) (ltb-true (k % sides_words) (2 * length_words) r)
    go false false false p q r = stays

pub counterpart_there : (k : ℕ) → k < style_words → counterpart k < style_words
counterpart_there k h = go (counterpart k) (place k)
  where
    go : (m : ℕ) → Place k m → m < style_words
    go _ stays = h
    go _ (to_right l p) = omega arith
    go _ (to_left l p q) = omega arith

module _ (k : ℕ) (l : k < box_words) where
  on_the_left : k % sides_words < length_words → counterpart k ≡ k + length_words
  unfolding counterpart
  on_the_left h = rw (lt-leb box_words k l, lt-ltb (k % sides_words) length_words h) refl

  on_the_right : length_words ≤ k % sides_words → k % sides_words < 2 * length_words → counterpart k ≡ k - length_words
  unfolding counterpart
  on_the_right h m = search rules

-- words after the sides stand across from themselves
itself : (k : ℕ) → box_words ≤ k → counterpart k ≡ k
unfolding counterpart
itself k l = rw (le-leb box_words k l) refl

-- and back
pub counterpart_twice : (k : ℕ) → counterpart (counterpart k) ≡ k
counterpart_twice k = go (counterpart k) (place k) refl
  where
    go : (m : ℕ) → Place k m → counterpart k ≡ m → counterpart m ≡ k
    go _ stays e = e
    go _ (to_right l p) e = on_the_right (k + length_words) (omega arith) (omega arith) (omega arith) ∙ back k
      where
        back : (k : ℕ) → k + length_words - length_words ≡ k
        back k = omega arith
    go _ (to_left l p q) e = on_the_left (k - length_words) (omega arith) (omega arith) ∙ back k p
      where
        back : (k : ℕ) → length_words ≤ k % sides_words → k - length_words + length_words ≡ k
        back k p = omega arith

-- ---- kinds

same_test : (l m c : ℕ) → (l < c → m < c) → (m < c → l < c) → ltb l c ≡ ltb m c
same_test l m c f g = grind (arith, nat_tests)

-- the four lengths of an inset, a margin, padding or a border are of one field
same_field : (l m : ℕ) → l / 4 ≡ m / 4 → l < 16 → length_field l ≡ length_field m
unfolding length_field
same_field l m e h = search (rules, same_test)

length_kind : (k : ℕ) → k < box_words → kind_of k ≡ get_or (length_kinds (length_field (k / length_words))) (k % length_words) number
unfolding kind_of
length_kind k h = rw (lt-ltb k after_lengths (omega arith)) refl

same_kind : (k m : ℕ) → k < box_words → m < box_words → k / length_words / 4 ≡ m / length_words / 4 → k % length_words ≡ m % length_words → kind_of k ≡ kind_of m
same_kind k m h l e p =
    length_kind k h
    ∙ rw (same_field (k / length_words) (m / length_words) e (omega arith), p) refl
    ∙ sym (length_kind m l)

pub counterpart_kind : (k : ℕ) → kind_of (counterpart k) ≡ kind_of k
counterpart_kind k = go (counterpart k) (place k)
  where
    go : (m : ℕ) → Place k m → kind_of m ≡ kind_of k
    go _ stays = refl
    go _ (to_right l p) = same_kind (k + length_words) k (omega arith) l (omega arith) (omega arith)
    go _ (to_left l p q) = same_kind (k - length_words) k (omega arith) l (omega arith) (omega arith)

-- ---- rules

-- no word of a length is judged by the word before it
before_free : (f : Field) (j before before' w : ℕ) → breaks_as (get_or (length_kinds f) j number) before w ≡ breaks_as (get_or (length_kinds f) j number) before' w
unfolding length_kinds breaks_as
before_free f j before before' w = search rules

pub direction_code_lem : (d : ℕ) → ltb 1 (other_direction d) ≡ ltb 1 d
unfolding other_direction
direction_code_lem d = search (rules, ne_eqb)

module _ (r : ℕ → ℕ) where
  -- words but for the direction's
  pub moved : (k : ℕ) → (k ≡ direction_word → ⊥) → image_style r k ≡ r (counterpart k)
  unfolding image_style
  moved k h = rw (ne_eqb k direction_word h) refl

  kept : (k : ℕ) → box_words ≤ k → (k ≡ direction_word → ⊥) → image_style r k ≡ r k
  kept k l h = moved k h ∙ ap r (itself k l)

  of_lengths : (k : ℕ) → k < box_words → breaks_rule (image_style r) k ≡ breaks_rule r (counterpart k)
  unfolding breaks_rule
  of_lengths k l = search (rules, before_free, counterpart_kind, length_kind, moved)

  after_sides : (k : ℕ) → box_words ≤ k → breaks_rule (image_style r) k ≡ breaks_rule r k
  unfolding breaks_rule breaks_as kind_of length_kinds code_kinds length_field image_style counterpart
  after_sides k l = search (rules, direction_code_lem, kept)

  pub image_breaks : (k : ℕ) → breaks_rule (image_style r) k ≡ breaks_rule r (counterpart k)
  image_breaks k = search (rules, after_sides, itself, of_lengths)
