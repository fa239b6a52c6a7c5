-- A table of styles and its image: the same check, and each item decodes to its image. Assumes nothing.
use Prim.Native.Nat.{ℕ, zero, suc, ◌/◌, ◌<◌, ◌≤◌}
use native.Mathlib.Omega.{arith}
use mathlib.Core.Path.{◌≡◌, refl, sym, ap, ◌∙◌}
use mathlib.Core.Bool.{false}
use mathlib.Core.List.{List}
use lib.Dec.{lit<}
use borrow.Author.Tests.{ltb-false}
use Rattle.util.proofs.Floats.{no}
use Rattle.style.specs.Codes.{direction_of}
use Rattle.style_record.specs.Record.{ratio_present_word, direction_word, code_kinds, kind_of, style_words, item, items}
use Rattle.style_record.specs.Check.{breaks_as, breaks_rule, breaks, checked}
use Rattle.style_record.specs.Decode.{length_at, rect_at, size_at, align_at, ratio_at, overflow_at, style_of, style_at}
use Rattle.style_record.specs.Laws.{NoneBreaks, First}
use Rattle.style_record.specs.declared.check.BadWord.{BadWord}
use Rattle.std.specs.Prelude.{Result, is_err, ⊤, None}
use Rattle.style_record.proofs.First.{TableIs, good, bad, table_is}
use Rattle.style_record.proofs.Same.{same_style, same_rule}
use Rattle.run.specs.Refusals.{bad_style}
use Rattle.mirror_box.specs.Image as box
use Rattle.mirror_run.specs.Image.{other_direction, counterpart, image_style, image_styles}
use Rattle.mirror_run.proofs.Words.{each_length, each_word}
use Rattle.mirror_run.proofs.Counterpart.{counterpart_there, counterpart_twice, image_breaks}

-- ---- a record's image, decoded

pub direction_decoded : (d : ℕ) → d < 2 → direction_of (other_direction d) ≡ box.other_direction (direction_of d)
unfolding direction_of other_direction box.other_direction
direction_decoded zero h = refl
direction_decoded (suc zero) h = refl
direction_decoded (suc (suc d)) h = absurd (omega arith)

image_decoded : (r : ℕ → ℕ) → r direction_word < 2 → style_of (image_style r) ≡ box.image_style (style_of r)
unfolding style_of rect_at size_at length_at ratio_at align_at overflow_at image_style counterpart box.image_style box.exchanged_lengths
image_decoded r h = rw (direction_decoded (r direction_word) h) refl

-- ---- a table

module _ (ws : List ℕ) where
  pub items_kept : items (image_styles ws) ≡ items ws
  unfolding items
  items_kept = ap (λ (n : ℕ). n / style_words) (each_length style_words image_style ws)

  item_word : (i : ℕ) → i < items ws → (k : ℕ) → k < style_words → item (image_styles ws) i k ≡ image_style (item ws i) k
  unfolding items
  item_word i h k l = each_word style_words image_style ws i k l h

  item_breaks : (i k : ℕ) → i < items ws → k < style_words → breaks (image_styles ws) i k ≡ breaks ws i (counterpart k)
  unfolding breaks
  item_breaks i k h l = same_rule (item (image_styles ws) i) (image_style (item ws i)) (item_word i h) k l ∙ image_breaks (item ws i) k

  image_good : NoneBreaks ws → NoneBreaks (image_styles ws)
  image_good g i h k l = let j : i < items ws = rw items_kept at h in item_breaks i k j l ∙ g i j (counterpart k) (counterpart_there k l)

  good_image : NoneBreaks (image_styles ws) → NoneBreaks ws
  good_image g i h k l =
      ap (breaks ws i) (sym (counterpart_twice k)) ∙ sym (item_breaks i (counterpart k) h (counterpart_there k l)) ∙ g i (rw items_kept h) (counterpart k) (counterpart_there k l)

  pub same_check : bad_style (image_styles ws) ≡ bad_style ws
  unfolding bad_style
  same_check = go (checked (image_styles ws)) (checked ws) (table_is (image_styles ws)) (table_is ws)
    where
      clash : {A : Type 0} {s : List ℕ} {i k : ℕ} → NoneBreaks s → First s i k → A
      clash n f = no f.breaks_it (n _ f.item_there _ f.word_there)

      go : (c d : Result ⊤ BadWord) → TableIs (image_styles ws) c → TableIs ws d → is_err c ≡ is_err d
      go _ _ (good a) (good b) = refl
      go _ _ (good a) (bad i k f) = clash (good_image a) f
      go _ _ (bad i k f) (good b) = clash (image_good b) f
      go _ _ (bad i k f) (bad j l g) = refl

  none_breaks : bad_style ws ≡ false → NoneBreaks ws
  unfolding bad_style
  none_breaks e = go (checked ws) (table_is ws) e
    where
      go : (c : Result ⊤ BadWord) → TableIs ws c → is_err c ≡ false → NoneBreaks ws
      go _ (good a) p = a
      go _ (bad i k f) p = no refl p

  direction_there : bad_style ws ≡ false → (i : ℕ) → i < items ws → item ws i direction_word < 2
  unfolding breaks breaks_rule breaks_as kind_of code_kinds
  direction_there e i h = omega (arith, ltb-false 1 (item ws i direction_word) (none_breaks e i h direction_word (lit< tt)))

  -- a ratio that isn't present is absent
  pub no_ratio : bad_style ws ≡ false → (i : ℕ) → i < items ws → (item ws i ratio_present_word ≡ 1 → ⊥) → ratio_at (item ws i) ≡ None
  unfolding breaks breaks_rule breaks_as kind_of code_kinds ratio_at
  no_ratio e i h d = rw (absent (item ws i ratio_present_word) (ltb-false 1 (item ws i ratio_present_word) (none_breaks e i h ratio_present_word (lit< tt))) d) refl
    where
      absent : (n : ℕ) → n ≤ 1 → (n ≡ 1 → ⊥) → n ≡ 0
      absent zero l d = refl
      absent (suc zero) l d = absurd (d refl)
      absent (suc (suc n)) l d = absurd (omega arith)

  -- in a table that passes, an item of the image is the image of the item
  pub image_style_lem : bad_style ws ≡ false → (i : ℕ) → i < items ws → style_at (image_styles ws) i ≡ box.image_style (style_at ws i)
  unfolding style_at
  image_style_lem e i h =
      same_style (item (image_styles ws) i) (image_style (item ws i)) (item_word i h) ∙ image_decoded (item ws i) (direction_there e i h)
