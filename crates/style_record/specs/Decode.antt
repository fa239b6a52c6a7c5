-- A style record decoded: each word at its index and by its meaning (document 01, "Style"; request #105). What a word is read as that the
-- check refuses, style/specs/Codes.antt says. Assumes nothing.
use Rattle.std.specs.Prelude.{ℕ, ◌+◌, ◌*◌, cond, List, eqb, Float, None, Option, Some}
use Rattle.std.specs.Float.Ieee.{of_bits}
use Rattle.std.specs.Float.{binary32}
use Rattle.style.specs.declared.compact_length.CompactLength.{CompactLength}
use Rattle.geometry.specs.declared.Rect.{Rect}
use Rattle.geometry.specs.declared.Size.{Size}
use Rattle.style.specs.declared.alignment.AlignItems.{AlignItems}
use Rattle.geometry.specs.declared.Point.{Point}
use Rattle.style.specs.declared.Overflow.{Overflow}
use Rattle.style.specs.declared.Style.{Style}
use Rattle.style.specs.Codes.{sizing_of, overflow_of, direction_of, alignment_of, bit0, bit1, contain_of}
use Rattle.style_record.specs.Record.{length_words, tag_word, ratio_present_word, ratio_word, box_sizing_word, flags_word, direction_word, justify_word, align_word, overflow_x_word, overflow_y_word, scrollbar_word, contain_word, item}

-- ---- from word k of a record on

unfoldable pub length_at : (ℕ → ℕ) → ℕ → CompactLength
length_at r k = record { tag = r k; value = of_bits binary32 (r (k + 1)); second = of_bits binary32 (r (k + 2)) }

unfoldable pub rect_at : (ℕ → ℕ) → ℕ → Rect CompactLength
rect_at r k =
    record {
      left = length_at r k;
      right = length_at r (k + length_words);
      top = length_at r (k + 2 * length_words);
      bottom = length_at r (k + 3 * length_words);
    }

unfoldable pub size_at : (ℕ → ℕ) → ℕ → Size CompactLength
size_at r k = record { width = length_at r k; height = length_at r (k + length_words) }

-- a keyword and its safety
unfoldable pub align_at : (ℕ → ℕ) → ℕ → AlignItems
align_at r k = alignment_of (r k) (r (k + 1))

-- ---- the words after the lengths

-- the ratio's word is read where it is present
unfoldable pub ratio_at : (ℕ → ℕ) → Option Float
ratio_at r = cond (eqb (r ratio_present_word) 0) None (Some (of_bits binary32 (r ratio_word)))

unfoldable pub overflow_at : (ℕ → ℕ) → Point Overflow
overflow_at r = record { x = overflow_of (r overflow_x_word); y = overflow_of (r overflow_y_word) }

-- ---- a whole record

unfoldable pub style_of : (ℕ → ℕ) → Style
style_of r =
    record {
      inset = rect_at r (tag_word 0);
      margin = rect_at r (tag_word 4);
      padding = rect_at r (tag_word 8);
      border = rect_at r (tag_word 12);
      size = size_at r (tag_word 16);
      min = size_at r (tag_word 18);
      max = size_at r (tag_word 20);
      ratio = ratio_at r;
      sizing = sizing_of (r box_sizing_word);
      replaced = bit0 (r flags_word);
      table = bit1 (r flags_word);
      direction = direction_of (r direction_word);
      justify = align_at r justify_word;
      align = align_at r align_word;
      overflow = overflow_at r;
      scrollbar = of_bits binary32 (r scrollbar_word);
      contain = contain_of (r contain_word);
    }

-- the style of an item of a table
unfoldable pub style_at : List ℕ → ℕ → Style
style_at s i = style_of (item s i)
