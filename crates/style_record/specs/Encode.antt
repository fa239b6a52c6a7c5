-- A style written as a record: the words in document 01's order, each length with its second value behind its value (request #105). Assumes
-- nothing.
use Rattle.std.specs.Prelude.{ℕ, zero, suc, ◌+◌, ◌-◌, ◌%◌, cond, List, [], ◌∷◌, ◌++◌, eqb, Float, None, Option, Some}
use Rattle.std.specs.Float.Ieee.{of_bits, to_bits}
use Rattle.std.specs.Float.{binary32}
use Rattle.style.specs.declared.compact_length.CompactLength.{CompactLength}
use Rattle.geometry.specs.declared.Rect.{Rect}
use Rattle.geometry.specs.declared.Size.{Size}
use Rattle.style.specs.declared.alignment.AlignItems.{AlignItems}
use Rattle.style.specs.declared.Style.{Style}
use Rattle.style.specs.Codes.{sizing_code, overflow_code, direction_code, safety_code, keyword_code, bits_code}
use Rattle.style_record.specs.Record.{Kind, tag, number, up_to, ratio, keyword, safety, contain, kind_of, style_words, item}

-- ---- a style's words

unfoldable pub length_words_of : CompactLength → List ℕ
length_words_of l = l.tag ∷ to_bits binary32 l.value ∷ to_bits binary32 l.second ∷ []

unfoldable pub rect_words_of : Rect CompactLength → List ℕ
rect_words_of r = length_words_of r.left ++ length_words_of r.right ++ length_words_of r.top ++ length_words_of r.bottom

unfoldable pub size_words_of : Size CompactLength → List ℕ
size_words_of s = length_words_of s.width ++ length_words_of s.height

unfoldable pub present_code : Option Float → ℕ
present_code None = 0
present_code (Some x) = 1

-- an absent ratio is written as 0
unfoldable pub ratio_bits : Option Float → ℕ
ratio_bits None = 0
ratio_bits (Some x) = to_bits binary32 x

unfoldable pub align_words_of : AlignItems → List ℕ
align_words_of a = keyword_code a.keyword ∷ safety_code a.safety ∷ []

unfoldable pub encoded : Style → List ℕ
encoded y =
    rect_words_of y.inset ++ rect_words_of y.margin ++ rect_words_of y.padding ++ rect_words_of y.border
    ++ size_words_of y.size
    ++ size_words_of y.min
    ++ size_words_of y.max
    ++ (present_code y.ratio ∷ ratio_bits y.ratio ∷ [])
    ++ (sizing_code y.sizing ∷ bits_code y.replaced y.table ∷ direction_code y.direction ∷ [])
    ++ align_words_of y.justify
    ++ align_words_of y.align
    ++ (overflow_code y.overflow.x ∷ overflow_code y.overflow.y ∷ to_bits binary32 y.scrollbar ∷ bits_code y.contain.layout y.contain.paint ∷ [])

-- ---- what decoding keeps of a word that breaks no rule

-- of a float all but the pattern of a NaN; nothing of an absent ratio, of an absent keyword and of its safety; two bits of containment
unfoldable pub kept_as : Kind → ℕ → ℕ → ℕ
kept_as (tag f) before w = w
kept_as number before w = to_bits binary32 (of_bits binary32 w)
kept_as (up_to last) before w = w
kept_as ratio before w = cond (eqb before 0) 0 (to_bits binary32 (of_bits binary32 w))
kept_as keyword before w = cond (eqb w 10) 0 w
kept_as safety before w = cond (eqb before 10) 0 w
kept_as contain before w = w % 4

-- of the n words of a record from word k on
unfoldable pub kept_from : (ℕ → ℕ) → ℕ → ℕ → List ℕ
kept_from r zero k = []
kept_from r (suc n) k = kept_as (kind_of k) (r (k - 1)) (r k) ∷ kept_from r n (k + 1)

-- of an item's words
unfoldable pub kept : List ℕ → ℕ → List ℕ
kept s i = kept_from (item s i) style_words 0
