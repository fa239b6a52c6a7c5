-- What the definitions of this crate mean, as statements. `proofs/Laws.antt` and `proofs/Spelled.antt` prove each, under its name in small
-- letters. Assumes nothing.
use Rattle.std.specs.Prelude.{ℕ, ◌+◌, ◌-◌, ◌*◌, ◌%◌, ◌<◌, ◌≤◌, ◌≡◌, Bool, true, false, cond, not, ◌&&◌, ◌||◌, List, [], ◌∷◌, ◌++◌, map, ltb, leb, eqb, length, replicate, get_or, None, Some, Float}
use Rattle.std.specs.Float.Ieee.{of_bits, to_bits}
use Rattle.std.specs.Float.{binary32}
use Rattle.util.specs.Eighths.{whole, eighths, count_of}
use Rattle.records.specs.Records as records
use Rattle.style_record.specs.Record as style
use Rattle.tree_record.specs.Candidate.{candidate_kinds}
use Rattle.boxlist_lines.specs.declared.Ink.TheVariants.{Digits}
use Rattle.boxlist_lines.specs.Column.{cells, count_ink, eighths_text, code_text}
use Rattle.screen_fields.specs.declared.format.Kind.{Kind}
use Rattle.screen_fields.specs.declared.format.Kind.TheVariants.{Code, Eighths}
use Rattle.screen_fields.specs.declared.format.Line.TheVariants.{First, Item, Candidate}
use Rattle.screen_fields.specs.Format.{is_float, fields_of, COLUMNS, bytes_of, FIRST_BYTES, ITEM_BYTES, CANDIDATE_BYTES}
use Rattle.screen_fields.specs.Field.{is_digit, numeral_of, word_of}

-- ---- a field

unfoldable pub all_digits : List ℕ → Bool
all_digits [] = true
all_digits (b ∷ bs) = is_digit b && all_digits bs

-- the number that digits spell, after digits that spell v
unfoldable pub decimal : ℕ → List ℕ → ℕ
decimal v [] = v
decimal v (b ∷ bs) = decimal (v * 10 + (b - 48)) bs

-- at most one sign
pub data Sign : Bool → List ℕ → Type 0 where
  minus : Sign true (45 ∷ [])
  plus : Sign false (43 ∷ [])
  none : Sign false []

pub record Spelling (bs : List ℕ) (s : Bool) (n : ℕ) : Type 0 where
  pub blanks : ℕ
  pub sign : List ℕ
  pub digits : List ℕ
  pub whole : bs ≡ replicate blanks 32 ++ (sign ++ digits)
  pub signed : Sign s sign
  pub some : 0 < length digits
  pub all : all_digits digits ≡ true
  pub value : decimal 0 digits ≡ n

-- a field that spells a number is blanks, at most one sign, one or more digits, and nothing else
abbrev pub FieldShape : Type 0
FieldShape = (bs : List ℕ) (s : Bool) (n : ℕ) → numeral_of bs ≡ whole s n → Spelling bs s n

-- and every such field spells its number: `+5`, `0000005` and `-0` are read as any other
abbrev pub FieldRead : Type 0
FieldRead = (bs : List ℕ) (s : Bool) (n : ℕ) → Spelling bs s n → numeral_of bs ≡ whole s n

-- as a code if it is one of 32 bits without a minus, as a float if it is at most 9,999,999 in size
abbrev pub CodeRead : Type 0
CodeRead = (bs : List ℕ) (n : ℕ) → Spelling bs false n → n ≤ 4294967295 → word_of Code bs ≡ Some n

abbrev pub CountRead : Type 0
CountRead = (bs : List ℕ) (s : Bool) (n : ℕ) → Spelling bs s n → n ≤ 9999999 → word_of Eighths bs ≡ Some (to_bits binary32 (eighths s n))

-- so numbers are right-justified: no blank stands after them
abbrev pub NoTrailingBlank : Type 0
NoTrailingBlank = (bs : List ℕ) → numeral_of (bs ++ (32 ∷ [])) ≡ None

-- `-0` and `+0` mean 0, as codes and as floats
abbrev pub SignedZero : Type 0
SignedZero = (k : Kind) → (word_of k (replicate 9 32 ++ (45 ∷ 48 ∷ [])) ≡ Some 0) × (word_of k (replicate 9 32 ++ (43 ∷ 48 ∷ [])) ≡ Some 0)

-- ---- a good field, in the words of refusal 8

-- "a code below 0 or above 4,294,967,295; a float above 9,999,999 eighths in size" is out of range
abbrev pub InRange : Kind → Bool → ℕ → Type 0
InRange Code true n = n ≡ 0
InRange Code false n = n ≤ 4294967295
InRange Eighths s n = n ≤ 9999999

-- a field of 11 bytes: "blanks, at most one sign, one or more digits", of a number in range
pub record GoodField (k : Kind) (bs : List ℕ) : Type 0 where
  pub width : length bs ≡ 11
  pub negative : Bool
  pub number : ℕ
  pub spelling : Spelling bs negative number
  pub range : InRange k negative number

-- ---- a field written and read back

abbrev pub CodeBack : Type 0
CodeBack = (w : ℕ) → w ≤ 4294967295 → word_of Code (cells COLUMNS (Digits (record { negative = false; size = w }))) ≡ Some w

abbrev pub CountBack : Type 0
CountBack = (s : Bool) (n : ℕ) → n ≤ 9999999 → word_of Eighths (cells COLUMNS (Digits (record { negative = s; size = n }))) ≡ Some (to_bits binary32 (eighths s n))

-- the word of a float that is a count of eighths comes back; of a zero, +0's
abbrev pub FloatBack : Type 0
FloatBack =
    (w : ℕ) (s : Bool) (n : ℕ) → w < 4294967296 → count_of (of_bits binary32 w) ≡ whole s n → 0 < n
    → word_of Eighths (cells COLUMNS (count_ink (count_of (of_bits binary32 w)))) ≡ Some w

abbrev pub ZeroBack : Type 0
ZeroBack = (w : ℕ) (s : Bool) → count_of (of_bits binary32 w) ≡ whole s 0 → word_of Eighths (cells COLUMNS (count_ink (count_of (of_bits binary32 w)))) ≡ Some 0

-- ---- no digit of the printed list is cut: a column of 8, read as a field is, spells the number that was printed, with its sign

abbrev pub ListedCount : Type 0
ListedCount = (x : Float) (s : Bool) (n : ℕ) → count_of x ≡ whole s n → numeral_of (eighths_text x) ≡ whole s n

abbrev pub ListedCode : Type 0
ListedCode = (n : ℕ) → n ≤ 9999999 → numeral_of (code_text n) ≡ whole false n

-- ---- lines

-- a word of a record is a float
abbrev pub holds_float : records.Kind → Bool
holds_float (records.below limit) = false
holds_float records.whole = false
holds_float records.float = true

-- request #104, "candidate lines of the screen file have 14 fields": one for each word of the record, a float in eighths exactly where the word
-- is a float, else a code
abbrev pub CandidateLine : Type 0
CandidateLine = (length (fields_of Candidate) ≡ 14) × ((n : ℕ) → map is_float (fields_of Candidate) ≡ map holds_float (candidate_kinds n))

-- a word of a style is a float
abbrev pub style_holds_float : style.Kind → Bool
style_holds_float (style.tag field) = false
style_holds_float style.number = true
style_holds_float (style.up_to last) = false
style_holds_float style.ratio = true
style_holds_float style.keyword = false
style_holds_float style.safety = false
style_holds_float style.contain = false

-- a field of an item line is a float: a style's words by their kinds; the replies, all of them
abbrev pub item_holds_float : ℕ → Bool
item_holds_float j = cond (ltb j style.style_words) (style_holds_float (style.kind_of j)) true

-- the same by numbers: the two values of each length, the ratio, the scrollbar width, the replies
abbrev pub item_float : ℕ → Bool
item_float j = (ltb j 66 && not (eqb (j % 3) 0)) || (eqb j 67 || (eqb j 77 || leb 79 j))

-- request #105, "its line in the screen file 85 fields": a float in eighths exactly where these two say, whatever the tag, else a code
abbrev pub ItemLine : Type 0
ItemLine =
    (length (fields_of Item) ≡ 85)
    × ((j : ℕ) → j < 85 → is_float (get_or (fields_of Item) j Code) ≡ item_holds_float j)
    × ((j : ℕ) → j < 85 → is_float (get_or (fields_of Item) j Code) ≡ item_float j)

-- the bytes of each line, by the records' widths
abbrev pub BytesByWidths : Type 0
BytesByWidths = (bytes_of First ≡ FIRST_BYTES) × (bytes_of Item ≡ ITEM_BYTES) × (bytes_of Candidate ≡ CANDIDATE_BYTES)
