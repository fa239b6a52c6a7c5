-- What the definitions of this crate mean, as statements. `proofs/Laws.antt` proves each, under its name in small letters. Assumes nothing.
use Rattle.std.specs.Prelude.{ℕ, ◌≤◌, ◌%◌, ◌≡◌, Bool, false, ◌||◌, List, [], ◌∷◌, eqb, Float, Some}
use Rattle.util.specs.Number.{◌⊕◌, ◌⊗◌}
use Rattle.style.specs.declared.compact_length.CompactLength.{CompactLength}
use Rattle.style.specs.declared.resolve.Field.{Field}
use Rattle.style.specs.declared.resolve.Field.TheVariants as field
use Rattle.style.specs.declared.resolve.Resolved.TheVariants.{Length}
use Rattle.style.specs.declared.BoxSizing.{BoxSizing}
use Rattle.style.specs.declared.Overflow.{Overflow}
use Rattle.style.specs.declared.Direction.{Direction}
use Rattle.style.specs.declared.alignment.AlignItemsKeyword.{AlignItemsKeyword}
use Rattle.style.specs.declared.alignment.AlignmentSafety.{AlignmentSafety}
use Rattle.style.specs.declared.alignment.AlignItems.{AlignItems}
use Rattle.style.specs.Resolve.{resolved, is_allowed, takes, maybe_resolved}
use Rattle.style.specs.Values.{is_self_relative, self_relative}
use Rattle.style.specs.Codes.{sizing_code, overflow_code, direction_code, safety_code, keyword_code, bits_code, sizing_of, overflow_of, direction_of, safety_of, keyword_of, bit0, bit1}

-- ---- tags

-- a length is allowed by its field and tag alone, whatever its values and the basis
abbrev pub AdmissionIsOfTheTag : Type 0
AdmissionIsOfTheTag = (f : Field) (l : CompactLength) (basis : Float) → is_allowed (resolved f l basis) ≡ takes f l.tag

-- document 01, "Tags"; request #105: 129 in every field
abbrev pub tags_of : Field → List ℕ
tags_of field.InsetOrMargin = 1 ∷ 3 ∷ 5 ∷ 129 ∷ []
tags_of field.PaddingOrBorder = 1 ∷ 5 ∷ 129 ∷ []
tags_of field.Size = 1 ∷ 3 ∷ 5 ∷ 129 ∷ 11 ∷ 15 ∷ 27 ∷ 35 ∷ 43 ∷ 59 ∷ 75 ∷ []
tags_of field.MinOrMax = 1 ∷ 3 ∷ 5 ∷ 129 ∷ 11 ∷ 15 ∷ 27 ∷ 35 ∷ 43 ∷ 59 ∷ 75 ∷ []

unfoldable pub among : List ℕ → ℕ → Bool
among [] n = false
among (x ∷ xs) n = eqb n x || among xs n

-- a field takes exactly its tags, by the whole word
abbrev pub TakesItsTags : Type 0
TakesItsTags = (f : Field) (tag : ℕ) → takes f tag ≡ among (tags_of f) tag

-- ---- percentages and sums: in every kind of field a number of pixels, which may be NaN, and no keyword. Against which basis each of a
-- style's 22 lengths is taken, the laws of a box say (oof_box_laws/specs/Resolved.antt). A basis is never missing; a NaN one counts as with
-- tag 5

abbrev pub PercentInEveryField : Type 0
PercentInEveryField = (f : Field) (l : CompactLength) (basis : Float) → l.tag ≡ 5 → resolved f l basis ≡ Length (basis ⊗ l.value)

-- a percentage and a length: the same product, rounded, plus the second value, rounded
abbrev pub SumInEveryField : Type 0
SumInEveryField = (f : Field) (l : CompactLength) (basis : Float) → l.tag ≡ 129 → resolved f l basis ≡ Length ((basis ⊗ l.value) ⊕ l.second)

-- so whoever asks for a number has it
abbrev pub SumIsANumber : Type 0
SumIsANumber = (f : Field) (l : CompactLength) (basis : Float) → l.tag ≡ 129 → maybe_resolved f l basis ≡ Some ((basis ⊗ l.value) ⊕ l.second)

-- under every other tag the second value has no say
abbrev pub SecondIsOfSums : Type 0
SecondIsOfSums =
    (f : Field) (l l' : CompactLength) (basis : Float) → (l.tag ≡ 129 → ⊥) → l.tag ≡ l'.tag → l.value ≡ l'.value
    → resolved f l basis ≡ resolved f l' basis

-- ---- codes: each value has one, and each code of the list is of one value

abbrev pub SizingCodes : Type 0
SizingCodes = ((x : BoxSizing) → sizing_of (sizing_code x) ≡ x) × ((n : ℕ) → n ≤ 1 → sizing_code (sizing_of n) ≡ n)

abbrev pub OverflowCodes : Type 0
OverflowCodes = ((x : Overflow) → overflow_of (overflow_code x) ≡ x) × ((n : ℕ) → n ≤ 3 → overflow_code (overflow_of n) ≡ n)

abbrev pub DirectionCodes : Type 0
DirectionCodes = ((x : Direction) → direction_of (direction_code x) ≡ x) × ((n : ℕ) → n ≤ 1 → direction_code (direction_of n) ≡ n)

abbrev pub SafetyCodes : Type 0
SafetyCodes = ((x : AlignmentSafety) → safety_of (safety_code x) ≡ x) × ((n : ℕ) → n ≤ 2 → safety_code (safety_of n) ≡ n)

abbrev pub KeywordCodes : Type 0
KeywordCodes = ((x : AlignItemsKeyword) → keyword_of (keyword_code x) ≡ x) × ((n : ℕ) → n ≤ 9 → keyword_code (keyword_of n) ≡ n)

-- the two low bits of a word
abbrev pub BitsCodes : Type 0
BitsCodes = ((low high : Bool) → (bit0 (bits_code low high) ≡ low) × (bit1 (bits_code low high) ≡ high)) × ((n : ℕ) → bits_code (bit0 n) (bit1 n) ≡ n % 4)

-- ---- self-alignment

-- no self-start or self-end is left
abbrev pub SelfRelativeIsResolved : Type 0
SelfRelativeIsResolved = (a : AlignItems) (item container : Direction) (inline : Bool) → is_self_relative (self_relative a item container inline).keyword ≡ false
