-- Which rule stands at which word, by the fields' names. Assumes nothing.
use Prim.Native.Nat.{ℕ, ◌<◌}
use native.Mathlib.Omega.{arith}
use mathlib.Core.Path.{◌≡◌, refl, sym, ◌∙◌}
use mathlib.Core.Bool.{Bool, true, false, not}
use lib.Dec.{ltb}
use borrow.Author.Tests.{not-false}
use Rattle.style.specs.Resolve.{takes}
use Rattle.style.specs.Laws.{tags_of, among}
use Rattle.style.proofs.Laws.{takes_its_tags}
use Rattle.style.specs.Codes.{sizing_code, overflow_code, direction_code, safety_code, keyword_code, bits_code}
use Rattle.style.specs.declared.BoxSizing.{BoxSizing}
use Rattle.style.specs.declared.BoxSizing.TheVariants.{BorderBox, ContentBox}
use Rattle.style.specs.declared.Overflow.{Overflow}
use Rattle.style.specs.declared.Overflow.TheVariants.{Visible, Clip, Hidden, Scroll}
use Rattle.style.specs.declared.Direction.{Direction}
use Rattle.style.specs.declared.Direction.TheVariants.{Ltr, Rtl}
use Rattle.style.specs.declared.alignment.AlignItemsKeyword.{AlignItemsKeyword}
use Rattle.style.specs.declared.alignment.AlignItemsKeyword.TheVariants as keyword
use Rattle.style.specs.declared.alignment.AlignmentSafety.{AlignmentSafety}
use Rattle.style.specs.declared.alignment.AlignmentSafety.TheVariants.{Default, Unsafe, Safe}
use Rattle.geometry.specs.declared.Rect.{Rect}
use Rattle.style.specs.declared.compact_length.CompactLength.{CompactLength}
use Rattle.geometry.specs.declared.Size.{Size}
use Rattle.style.specs.declared.Style.{Style}
use Rattle.style.specs.declared.resolve.Field.{Field}
use Rattle.style.specs.declared.resolve.Field.TheVariants as field
use Rattle.style_record.specs.Record.{length_field, length_kinds, code_kinds, kind_of, items, lengths, style_words, tag_word}
use Rattle.style_record.specs.Check.{safety_breaks, breaks_as, breaks_rule, breaks, first_from, first_broken, or_rest, checked_from, checked}
use Rattle.style_record.specs.Encode.{present_code, length_words_of, rect_words_of, size_words_of, align_words_of, encoded}
use Rattle.style_record.specs.Laws.{TagsOfRect, TagsOfSize, TagsOfStyle, WrittenIsGood}
use Rattle.std.specs.Prelude.{Ok, Float, None, Option, Some}
use Rattle.style_record.proofs.Laws.{good_is_none}
use Rattle.style_record.proofs.Written.{present_keyword}

-- ---- tags that break no rule

module _ (f : Field) where
  taken : (w : ℕ) → not (takes f w) ≡ false → among (tags_of f) w ≡ true
  taken w e = sym (takes_its_tags f w) ∙ not-false (takes f w) e

  rect :
      (r : Rect CompactLength)
      → not (takes f r.left.tag) ≡ false → not (takes f r.right.tag) ≡ false → not (takes f r.top.tag) ≡ false → not (takes f r.bottom.tag) ≡ false
      → TagsOfRect f r
  rect r a b c d = record { left = taken _ a; right = taken _ b; top = taken _ c; bottom = taken _ d }

  size : (s : Size CompactLength) → not (takes f s.width.tag) ≡ false → not (takes f s.height.tag) ≡ false → TagsOfSize f s
  size s a b = record { width = taken _ a; height = taken _ b }

inside : (l : ℕ) → l < lengths → tag_word l < style_words
inside l h = omega arith

tags_of_lem : (y : Style) → checked (encoded y) ≡ Ok tt → TagsOfStyle y
unfolding items breaks breaks_rule breaks_as kind_of length_field length_kinds encoded rect_words_of size_words_of length_words_of align_words_of
tags_of_lem y e =
    let tag : (l : ℕ) → l < lengths → breaks (encoded y) 0 (tag_word l) ≡ false = λ l h. (good_is_none (encoded y)).0 e 0 (omega arith) (tag_word l) (inside l h) in
    record {
      inset = rect field.InsetOrMargin y.inset (tag 0 (omega arith)) (tag 1 (omega arith)) (tag 2 (omega arith)) (tag 3 (omega arith));
      margin = rect field.InsetOrMargin y.margin (tag 4 (omega arith)) (tag 5 (omega arith)) (tag 6 (omega arith)) (tag 7 (omega arith));
      padding = rect field.PaddingOrBorder y.padding (tag 8 (omega arith)) (tag 9 (omega arith)) (tag 10 (omega arith)) (tag 11 (omega arith));
      border = rect field.PaddingOrBorder y.border (tag 12 (omega arith)) (tag 13 (omega arith)) (tag 14 (omega arith)) (tag 15 (omega arith));
      size = size field.Size y.size (tag 16 (omega arith)) (tag 17 (omega arith));
      min = size field.MinOrMax y.min (tag 18 (omega arith)) (tag 19 (omega arith));
      max = size field.MinOrMax y.max (tag 20 (omega arith)) (tag 21 (omega arith));
    }

-- ---- every value has a code that is allowed

present_allowed : (x : Option Float) → ltb 1 (present_code x) ≡ false
unfolding present_code
present_allowed None = refl
present_allowed (Some x) = refl

sizing_allowed : (x : BoxSizing) → ltb 1 (sizing_code x) ≡ false
unfolding sizing_code
sizing_allowed BorderBox = refl
sizing_allowed ContentBox = refl

direction_allowed : (x : Direction) → ltb 1 (direction_code x) ≡ false
unfolding direction_code
direction_allowed Ltr = refl
direction_allowed Rtl = refl

overflow_allowed : (x : Overflow) → ltb 3 (overflow_code x) ≡ false
unfolding overflow_code
overflow_allowed Visible = refl
overflow_allowed Clip = refl
overflow_allowed Hidden = refl
overflow_allowed Scroll = refl

bits_allowed : (last : ℕ) → ltb last 3 ≡ false → ltb last 2 ≡ false → ltb last 1 ≡ false → ltb last 0 ≡ false → (low high : Bool) → ltb last (bits_code low high) ≡ false
unfolding bits_code
bits_allowed last a b c d true true = a
bits_allowed last a b c d false true = b
bits_allowed last a b c d true false = c
bits_allowed last a b c d false false = d

safety_allowed : (x : AlignmentSafety) → ltb 2 (safety_code x) ≡ false
unfolding safety_code
safety_allowed Default = refl
safety_allowed Unsafe = refl
safety_allowed Safe = refl

keyword_allowed : (x : AlignItemsKeyword) → ltb 10 (keyword_code x) ≡ false
unfolding keyword_code
keyword_allowed keyword.Normal = refl
keyword_allowed keyword.Start = refl
keyword_allowed keyword.End = refl
keyword_allowed keyword.FlexStart = refl
keyword_allowed keyword.FlexEnd = refl
keyword_allowed keyword.SelfStart = refl
keyword_allowed keyword.SelfEnd = refl
keyword_allowed keyword.Center = refl
keyword_allowed keyword.Baseline = refl
keyword_allowed keyword.Stretch = refl

took : (f : Field) (w : ℕ) → among (tags_of f) w ≡ true → takes f w ≡ true
took f w e = takes_its_tags f w ∙ e

good_of : (y : Style) → TagsOfStyle y → checked (encoded y) ≡ Ok tt
unfolding checked checked_from or_rest first_broken first_from breaks_rule breaks_as safety_breaks items kind_of length_field length_kinds code_kinds encoded rect_words_of size_words_of length_words_of align_words_of
good_of y t =
    rw (took field.InsetOrMargin _ t.inset.left, took field.InsetOrMargin _ t.inset.right, took field.InsetOrMargin _ t.inset.top, took field.InsetOrMargin _ t.inset.bottom)
    (rw (took field.InsetOrMargin _ t.margin.left, took field.InsetOrMargin _ t.margin.right, took field.InsetOrMargin _ t.margin.top, took field.InsetOrMargin _ t.margin.bottom)
    (rw (took field.PaddingOrBorder _ t.padding.left, took field.PaddingOrBorder _ t.padding.right, took field.PaddingOrBorder _ t.padding.top, took field.PaddingOrBorder _ t.padding.bottom)
    (rw (took field.PaddingOrBorder _ t.border.left, took field.PaddingOrBorder _ t.border.right, took field.PaddingOrBorder _ t.border.top, took field.PaddingOrBorder _ t.border.bottom)
    (rw (took field.Size _ t.size.width, took field.Size _ t.size.height)
    (rw (took field.MinOrMax _ t.min.width, took field.MinOrMax _ t.min.height)
    (rw (took field.MinOrMax _ t.max.width, took field.MinOrMax _ t.max.height)
    (rw (present_allowed y.ratio, sizing_allowed y.sizing, bits_allowed 3 refl refl refl refl y.replaced y.table, direction_allowed y.direction)
    (rw (keyword_allowed y.justify.keyword, present_keyword y.justify.keyword, safety_allowed y.justify.safety)
    (rw (keyword_allowed y.align.keyword, present_keyword y.align.keyword, safety_allowed y.align.safety)
    (rw (overflow_allowed y.overflow.x, overflow_allowed y.overflow.y, bits_allowed 255 refl refl refl refl y.contain.layout y.contain.paint) refl))))))))))

pub written_is_good : WrittenIsGood
written_is_good y = (tags_of_lem y, good_of y)
