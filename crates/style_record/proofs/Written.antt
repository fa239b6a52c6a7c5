-- Each word is decoded by its meaning: decoding and writing are inverse. Assumes nothing.
use Rattle.std.specs.Prelude.{Float, None, Option, Some}
use Prim.Native.Nat.{ℕ, zero, suc, ◌+◌, ◌-◌, ◌%◌, ◌<◌, ◌≤◌}
use native.Mathlib.Omega.{arith}
use mathlib.Core.Path.{◌≡◌, refl, ◌∙◌, ap}
use mathlib.Core.Bool.{Bool, true, false, cond}
use lib.Dec.{eqb, ltb}
use lib.ListN.{get_or}
use lib.Ieee.{Float, of_bits, to_bits, binary32}
use lib.Ieee.Bits.{of_bits-to_bits}
use borrow.Author.Tests.{ltb-false, eqb-false}
use Rattle.style.specs.declared.compact_length.CompactLength.{CompactLength}
use Rattle.geometry.specs.declared.Rect.{Rect}
use Rattle.geometry.specs.declared.Size.{Size}
use Rattle.style.specs.declared.alignment.AlignItemsKeyword.{AlignItemsKeyword}
use Rattle.style.specs.declared.alignment.AlignItemsKeyword.TheVariants as keyword
use Rattle.style.specs.declared.alignment.AlignmentSafety.TheVariants as safety
use Rattle.style.specs.declared.alignment.AlignItems.{AlignItems}
use Rattle.style.specs.declared.Style.{Style}
use Rattle.style.specs.Codes.{safety_code, keyword_code, bits_code, safety_of, keyword_of, alignment_of, bit0, bit1, contain_of}
use Rattle.style.proofs.Laws.{sizing_codes, overflow_codes, direction_codes, safety_codes, keyword_codes, bits_codes}
use Rattle.style_record.specs.Record.{up_to, style_words, ratio_present_word, ratio_word, box_sizing_word, flags_word, direction_word, justify_word, align_word, overflow_x_word, overflow_y_word, contain_word, kind_of, code_kinds, length_kinds, length_field}
use Rattle.style_record.specs.Check.{safety_breaks, breaks_as, breaks_rule}
use Rattle.style_record.specs.Decode.{length_at, rect_at, size_at, align_at, ratio_at, overflow_at, style_of}
use Rattle.style_record.specs.Encode.{length_words_of, rect_words_of, size_words_of, present_code, ratio_bits, align_words_of, encoded, kept_as, kept_from}
use Rattle.style_record.specs.Laws.{FitsLength, FitsLengthRect, FitsLengthSize, FitsMaybe, FitsStyle}

-- ---- a style, written and decoded

-- a length, written and read
abbrev again : CompactLength → CompactLength
again l = record { tag = l.tag; value = of_bits binary32 (to_bits binary32 l.value); second = of_bits binary32 (to_bits binary32 l.second) }

length_back : (l : CompactLength) → FitsLength l → again l ≡ l
length_back l f = λ j. record { tag = l.tag; value = of_bits-to_bits binary32 l.value f.value j; second = of_bits-to_bits binary32 l.second f.second j }

rect_back : (r : Rect CompactLength) → FitsLengthRect r → record { left = again r.left; right = again r.right; top = again r.top; bottom = again r.bottom } ≡ r
rect_back r f =
    λ j. record {
      left = length_back r.left f.left j;
      right = length_back r.right f.right j;
      top = length_back r.top f.top j;
      bottom = length_back r.bottom f.bottom j;
    }

size_back : (s : Size CompactLength) → FitsLengthSize s → record { width = again s.width; height = again s.height } ≡ s
size_back s f = λ j. record { width = length_back s.width f.width j; height = length_back s.height f.height j }

ratio_back : (m : Option Float) → FitsMaybe m → cond (eqb (present_code m) 0) None (Some (of_bits binary32 (ratio_bits m))) ≡ m
unfolding present_code ratio_bits
ratio_back None f = refl
ratio_back (Some x) f = ap (λ (y : Float). Some y) (of_bits-to_bits binary32 x f)

pub present_keyword : (k : AlignItemsKeyword) → eqb (keyword_code k) 10 ≡ false
unfolding keyword_code
present_keyword keyword.Normal = refl
present_keyword keyword.Start = refl
present_keyword keyword.End = refl
present_keyword keyword.FlexStart = refl
present_keyword keyword.FlexEnd = refl
present_keyword keyword.SelfStart = refl
present_keyword keyword.SelfEnd = refl
present_keyword keyword.Center = refl
present_keyword keyword.Baseline = refl
present_keyword keyword.Stretch = refl

align_back : (a : AlignItems) → alignment_of (keyword_code a.keyword) (safety_code a.safety) ≡ a
unfolding alignment_of
align_back a = rw (present_keyword a.keyword) (λ j. record { keyword = keyword_codes.0 a.keyword j; safety = safety_codes.0 a.safety j })

pub written_back : (y : Style) → FitsStyle y → style_of (λ k. get_or (encoded y) k 0) ≡ y
unfolding style_of length_at rect_at size_at align_at ratio_at overflow_at contain_of length_words_of rect_words_of size_words_of align_words_of encoded
written_back y f =
    λ j. record {
      inset = rect_back y.inset f.inset j;
      margin = rect_back y.margin f.margin j;
      padding = rect_back y.padding f.padding j;
      border = rect_back y.border f.border j;
      size = size_back y.size f.size j;
      min = size_back y.min f.min j;
      max = size_back y.max f.max j;
      ratio = ratio_back y.ratio f.ratio j;
      sizing = sizing_codes.0 y.sizing j;
      replaced = (bits_codes.0 y.replaced y.table).0 j;
      table = (bits_codes.0 y.replaced y.table).1 j;
      direction = direction_codes.0 y.direction j;
      justify = align_back y.justify j;
      align = align_back y.align j;
      overflow = record { x = overflow_codes.0 y.overflow.x j; y = overflow_codes.0 y.overflow.y j };
      scrollbar = of_bits-to_bits binary32 y.scrollbar f.scrollbar j;
      contain = record { layout = (bits_codes.0 y.contain.layout y.contain.paint).0 j; paint = (bits_codes.0 y.contain.layout y.contain.paint).1 j };
    }

-- ---- a record that breaks no rule, decoded and written

ratio_word_lem : (p w : ℕ) → p ≤ 1 → (present_code (cond (eqb p 0) None (Some (of_bits binary32 w))) ≡ p) × (ratio_bits (cond (eqb p 0) None (Some (of_bits binary32 w))) ≡ cond (eqb p 0) 0 (to_bits binary32 (of_bits binary32 w)))
unfolding present_code ratio_bits
ratio_word_lem zero w h = (refl, refl)
ratio_word_lem (suc zero) w h = (refl, refl)
ratio_word_lem (suc (suc p)) w h = absurd (omega (arith, h))

-- a keyword and its safety: both are 0 where the keyword is absent
abbrev align_if : Bool → ℕ → ℕ → AlignItems
align_if b k w = cond b (record { keyword = keyword.Normal; safety = safety.Default }) (record { keyword = keyword_of k; safety = safety_of w })

present : (k : ℕ) → ltb 10 k ≡ false → eqb k 10 ≡ false → k ≤ 9
present k p e = below k (ltb-false 10 k p) (eqb-false k 10 e)
  where
    below : (k : ℕ) → k ≤ 10 → (k ≡ 10 → ⊥) → k ≤ 9
    below k p n = omega arith

module _ (k w : ℕ) (p : ltb 10 k ≡ false) (q : safety_breaks k w ≡ false) where
  align_if_lem : (b : Bool) → eqb k 10 ≡ b → (keyword_code (align_if b k w).keyword ≡ cond b 0 k) × (safety_code (align_if b k w).safety ≡ cond b 0 w)
  unfolding keyword_code safety_code safety_breaks
  align_if_lem true e = (refl, refl)
  align_if_lem false e = (keyword_codes.1 k (present k p e), safety_codes.1 w (ltb-false 2 w (rw e at q)))

  keyword_word : keyword_code (alignment_of k w).keyword ≡ cond (eqb k 10) 0 k
  unfolding alignment_of
  keyword_word = (align_if_lem (eqb k 10) refl).0

  safety_word : safety_code (alignment_of k w).safety ≡ cond (eqb k 10) 0 w
  unfolding alignment_of
  safety_word = (align_if_lem (eqb k 10) refl).1

flags_word_lem : (w : ℕ) → w ≤ 3 → bits_code (bit0 w) (bit1 w) ≡ w
flags_word_lem w h = bits_codes.1 w ∙ small w h
  where
    small : (w : ℕ) → w ≤ 3 → w % 4 ≡ w
    small w h = omega arith

-- the rule of a code word
module _ (r : ℕ → ℕ) (good : (k : ℕ) → k < style_words → breaks_rule r k ≡ false) where
  rule : (k : ℕ) → k < style_words → breaks_as (kind_of k) (r (k - 1)) (r k) ≡ false
  unfolding breaks_rule
  rule k h = good k h

  code_word : (last k : ℕ) → k < style_words → kind_of k ≡ up_to last → r k ≤ last
  unfolding breaks_as
  code_word last k h e = ltb-false last (r k) (rw e at (rule k h))

  pub decoded_back : encoded (style_of r) ≡ kept_from r style_words 0
  unfolding style_of length_at rect_at size_at align_at ratio_at overflow_at contain_of length_words_of rect_words_of size_words_of align_words_of encoded kept_from kept_as kind_of code_kinds length_kinds length_field breaks_as
  decoded_back =
      let present = ratio_word_lem (r ratio_present_word) (r ratio_word) (code_word 1 ratio_present_word (omega arith) refl) in
      rw (
        present.0,
        present.1,
        sizing_codes.1 (r box_sizing_word) (code_word 1 box_sizing_word (omega arith) refl),
        flags_word_lem (r flags_word) (code_word 3 flags_word (omega arith) refl),
        direction_codes.1 (r direction_word) (code_word 1 direction_word (omega arith) refl),
        keyword_word (r justify_word) (r (justify_word + 1)) (rule justify_word (omega arith)) (rule (justify_word + 1) (omega arith)),
        safety_word (r justify_word) (r (justify_word + 1)) (rule justify_word (omega arith)) (rule (justify_word + 1) (omega arith)),
        keyword_word (r align_word) (r (align_word + 1)) (rule align_word (omega arith)) (rule (align_word + 1) (omega arith)),
        safety_word (r align_word) (r (align_word + 1)) (rule align_word (omega arith)) (rule (align_word + 1) (omega arith)),
        overflow_codes.1 (r overflow_x_word) (code_word 3 overflow_x_word (omega arith) refl),
        overflow_codes.1 (r overflow_y_word) (code_word 3 overflow_y_word (omega arith) refl),
        bits_codes.1 (r contain_word),
      )
      refl
