-- What the definitions of this crate mean, as statements. `proofs/` proves each, under its name in small letters.
-- `fits binary32 x` says that x is a value of an f32: true of every f32 of a program. Assumes nothing.
use Rattle.std.specs.Prelude.{ℕ, ◌+◌, ◌*◌, ◌<◌, ◌≤◌, ◌⊎◌, ◌↔◌, ◌≢◌, ◌≡◌, true, false, not, ◌&&◌, List, ◌++◌, get_or, length, T, ltb, IsNone, Result, Ok, Err, ⊤, Float, None, Option, Some}
use Rattle.std.specs.Float.Ieee.{fits, of_bits}
use Rattle.std.specs.Float.{binary32}
use Rattle.style.specs.declared.compact_length.CompactLength.{CompactLength}
use Rattle.geometry.specs.declared.Rect.{Rect}
use Rattle.geometry.specs.declared.Size.{Size}
use Rattle.style.specs.declared.Style.{Style}
use Rattle.style.specs.declared.resolve.Field.{Field}
use Rattle.style.specs.declared.resolve.Field.TheVariants as field
use Rattle.style.specs.Codes.{sizing_of, overflow_of, direction_of, alignment_of, bit0, bit1, contain_of}
use Rattle.style.specs.Laws.{tags_of, among}
use Rattle.records.specs.Records.{record_at}
use Rattle.style_record.specs.Record.{length_words, code_words, after_lengths, style_words, length_kinds, code_kinds, kind_of, items}
use Rattle.style_record.specs.Check.{breaks_as, breaks, first_broken, bad_at, checked}
use Rattle.style_record.specs.Codes.{last_code, is_ignored}
use Rattle.style_record.specs.Decode.{style_of, style_at}
use Rattle.style_record.specs.Encode.{encoded, kept}
use Rattle.style_record.specs.Table.{with_style}
use Rattle.style_record.specs.declared.check.BadWord.{BadWord}

-- ---- the widths

-- the tables of kinds and the words written have the record's widths
abbrev pub WidthsAgree : Type 0
WidthsAgree = (f : Field) (y : Style) → (length (length_kinds f) ≡ length_words) × (length code_kinds ≡ code_words) × (length (encoded y) ≡ style_words) × (style_words ≡ 79)

-- ---- the check

-- no word of an item breaks a rule; no word of the whole table does
abbrev pub AllGood : List ℕ → ℕ → Type 0
AllGood s i = (k : ℕ) → k < style_words → breaks s i k ≡ false

abbrev pub NoneBreaks : List ℕ → Type 0
NoneBreaks s = (i : ℕ) → i < items s → AllGood s i

-- word k of item i is the first word of the table that breaks a rule: it does, and none before it in its item, nor any of an item before
pub record First (s : List ℕ) (i k : ℕ) : Type 0 where
  pub item_there : i < items s
  pub word_there : k < style_words
  pub breaks_it : breaks s i k ≡ true
  pub words_before : (j : ℕ) → j < k → breaks s i j ≡ false
  pub items_before : (h : ℕ) → h < i → AllGood s h

-- an item is good exactly where none of its words breaks a rule
abbrev pub ItemGoodIsNone : Type 0
ItemGoodIsNone = (s : List ℕ) (i : ℕ) → (IsNone (first_broken s i) → AllGood s i) × (AllGood s i → IsNone (first_broken s i))

-- a table is good exactly where no word of it breaks a rule
abbrev pub GoodIsNone : Type 0
GoodIsNone = (s : List ℕ) → (checked s ≡ Ok tt → NoneBreaks s) × (NoneBreaks s → checked s ≡ Ok tt)

-- bad exactly at the first that does
abbrev pub BadIsFirst : Type 0
BadIsFirst = (s : List ℕ) (i k : ℕ) → (checked s ≡ bad_at i k → First s i k) × (First s i k → checked s ≡ bad_at i k)

-- where some word of some item breaks a rule, there is a first one
abbrev pub SomeIsFound : Type 0
SomeIsFound = (s : List ℕ) (i k : ℕ) → i < items s → k < style_words → breaks s i k ≡ true → (j : ℕ) × (l : ℕ) × (checked s ≡ bad_at j l)

-- a word after the lengths breaks its rule exactly where it is above the last code of its kind and isn't ignored: so the code tests it
abbrev pub CodesByTheLast : Type 0
CodesByTheLast =
    (k before w : ℕ) → after_lengths ≤ k → k < style_words → w < 4294967296
    → breaks_as (kind_of k) before w ≡ ltb (last_code (kind_of k)) w && not (is_ignored (kind_of k) before)

-- a style's tags, each one that its field takes (document 01, "Tags"), by the fields' names
pub record TagsOfRect (f : Field) (r : Rect CompactLength) : Type 0 where
  pub left : among (tags_of f) r.left.tag ≡ true
  pub right : among (tags_of f) r.right.tag ≡ true
  pub top : among (tags_of f) r.top.tag ≡ true
  pub bottom : among (tags_of f) r.bottom.tag ≡ true

pub record TagsOfSize (f : Field) (s : Size CompactLength) : Type 0 where
  pub width : among (tags_of f) s.width.tag ≡ true
  pub height : among (tags_of f) s.height.tag ≡ true

pub record TagsOfStyle (y : Style) : Type 0 where
  pub inset : TagsOfRect field.InsetOrMargin y.inset
  pub margin : TagsOfRect field.InsetOrMargin y.margin
  pub padding : TagsOfRect field.PaddingOrBorder y.padding
  pub border : TagsOfRect field.PaddingOrBorder y.border
  pub size : TagsOfSize field.Size y.size
  pub min : TagsOfSize field.MinOrMax y.min
  pub max : TagsOfSize field.MinOrMax y.max

-- a style, written as a record, breaks no rule exactly where each tag is its field's: its floats may be any, and every value of its codes has
-- a code that is allowed. So which tags are taken at which word is fixed by the fields' names, and no code that a value is written as is
-- refused. (Codes that none is written as, keyword 10, a safety behind it and contain from 4 on, have rows; that no rule is too lax:
-- `EachWordIsRead` and the rows)
abbrev pub WrittenIsGood : Type 0
WrittenIsGood = (y : Style) → (checked (encoded y) ≡ Ok tt) ↔ TagsOfStyle y

-- the first item wins over the first word: any word that breaks a rule is of a later item than the word found, or of its item and not before it
abbrev pub FirstItemWins : Type 0
FirstItemWins =
    (s : List ℕ) (i k j l : ℕ) → checked s ≡ bad_at i k
    → j < items s → l < style_words → breaks s j l ≡ true
    → (i < j) ⊎ ((i ≡ j) × (k ≤ l))

-- the words after the one found have no say: a table that agrees with another up to there, and has that item whole, has its answer, however
-- long it is and whatever else it holds. A theorem can't speak of time: this is why the walk may stop there
abbrev pub FrontDecides : Type 0
FrontDecides =
    (s t : List ℕ) (i k : ℕ) → checked s ≡ bad_at i k
    → style_words * i + style_words ≤ length t
    → ((j : ℕ) → j ≤ style_words * i + k → get_or t j 0 ≡ get_or s j 0)
    → checked t ≡ bad_at i k

-- what is found in a table, or else in one that stands behind its n items
abbrev pub or_behind : ℕ → Result ⊤ BadWord → Result ⊤ BadWord → Result ⊤ BadWord
or_behind n (Err first) behind = Err first
or_behind n (Ok _) (Ok _) = Ok tt
or_behind n (Ok _) (Err first) = bad_at (n + first.item) first.word

-- a table behind n whole items has a say exactly where none of theirs is bad, and its items count on from theirs
abbrev pub BehindIsNext : Type 0
BehindIsNext = (s t : List ℕ) (n : ℕ) → length s ≡ style_words * n → checked (s ++ t) ≡ or_behind n (checked s) (checked t)

-- a trailing part of a record is not looked at
abbrev pub PartIsPassedOver : Type 0
PartIsPassedOver = (s t : List ℕ) (n : ℕ) → length s ≡ style_words * n → length t < style_words → checked (s ++ t) ≡ checked s

-- ---- a copy of a table with one style written in (request #109)

-- the node's record is that style, and is decoded as it is by itself
abbrev pub CopyHasTheStyle : Type 0
CopyHasTheStyle =
    (styles : List ℕ) (node : ℕ) (style : List ℕ) → length style ≡ style_words → node < items styles
    → let copy = with_style styles node style in
    (record_at style_words copy node ≡ style) × (style_at copy node ≡ style_at style 0)

-- every other record is the table's own
abbrev pub OthersAreLent : Type 0
OthersAreLent =
    (styles : List ℕ) (node : ℕ) (style : List ℕ) (i : ℕ) → length style ≡ style_words → i ≢ node
    → let copy = with_style styles node style in
    (record_at style_words copy i ≡ record_at style_words styles i) × (style_at copy i ≡ style_at styles i)

-- it is as long, whatever is written
abbrev pub CopyIsAsLong : Type 0
CopyIsAsLong =
    (styles : List ℕ) (node : ℕ) (style : List ℕ)
    → let copy = with_style styles node style in
    (length copy ≡ length styles) × (items copy ≡ items styles)

-- nothing is left of a style that was written in before, nor of the table's own
abbrev pub CopyIsOver : Type 0
CopyIsOver =
    (styles : List ℕ) (node : ℕ) (before style : List ℕ) → length before ≡ style_words → length style ≡ style_words → node < items styles
    → with_style (with_style styles node before) node style ≡ with_style styles node style

-- its check reads that style in place of the table's own: nothing is named exactly where nothing is in the style by itself, and no word of another
-- record breaks a rule
abbrev pub ReplacementIsChecked : Type 0
ReplacementIsChecked =
    (styles : List ℕ) (node : ℕ) (style : List ℕ) → length style ≡ style_words → node < items styles
    → (checked (with_style styles node style) ≡ Ok tt) ↔ ((checked style ≡ Ok tt) × ((i : ℕ) → i < items styles → i ≢ node → AllGood styles i))

-- and it names word k of the node exactly where that is the word named in the style by itself, and every record before is good
abbrev pub ReplacementIsNamed : Type 0
ReplacementIsNamed =
    (styles : List ℕ) (node : ℕ) (style : List ℕ) (k : ℕ) → length style ≡ style_words → node < items styles
    → (checked (with_style styles node style) ≡ bad_at node k) ↔ ((checked style ≡ bad_at 0 k) × ((i : ℕ) → i < node → AllGood styles i))

-- ---- the decoding, by the number of each word

abbrev pub length_of : ℕ → ℕ → ℕ → CompactLength
length_of tag value second = record { tag = tag; value = of_bits binary32 value; second = of_bits binary32 second }

pub record SidesAt (r : ℕ → ℕ) (from : ℕ) (sides : Rect CompactLength) : Type 0 where
  pub left : sides.left ≡ length_of (r from) (r (from + 1)) (r (from + 2))
  pub right : sides.right ≡ length_of (r (from + 3)) (r (from + 4)) (r (from + 5))
  pub top : sides.top ≡ length_of (r (from + 6)) (r (from + 7)) (r (from + 8))
  pub bottom : sides.bottom ≡ length_of (r (from + 9)) (r (from + 10)) (r (from + 11))

pub record SizesAt (r : ℕ → ℕ) (from : ℕ) (sizes : Size CompactLength) : Type 0 where
  pub width : sizes.width ≡ length_of (r from) (r (from + 1)) (r (from + 2))
  pub height : sizes.height ≡ length_of (r (from + 3)) (r (from + 4)) (r (from + 5))

-- document 01's order, with three words a length: where each field of a style is read
pub record WordsOf (r : ℕ → ℕ) (y : Style) : Type 0 where
  pub inset : SidesAt r 0 y.inset
  pub margin : SidesAt r 12 y.margin
  pub padding : SidesAt r 24 y.padding
  pub border : SidesAt r 36 y.border
  pub size : SizesAt r 48 y.size
  pub min : SizesAt r 54 y.min
  pub max : SizesAt r 60 y.max
  pub ratio_absent : r 66 ≡ 0 → y.ratio ≡ None
  pub ratio_present : r 66 ≡ 1 → y.ratio ≡ Some (of_bits binary32 (r 67))
  pub sizing : y.sizing ≡ sizing_of (r 68)
  pub replaced : y.replaced ≡ bit0 (r 69)
  pub table : y.table ≡ bit1 (r 69)
  pub direction : y.direction ≡ direction_of (r 70)
  pub justify : y.justify ≡ alignment_of (r 71) (r 72)
  pub align : y.align ≡ alignment_of (r 73) (r 74)
  pub overflow_x : y.overflow.x ≡ overflow_of (r 75)
  pub overflow_y : y.overflow.y ≡ overflow_of (r 76)
  pub scrollbar : y.scrollbar ≡ of_bits binary32 (r 77)
  pub contain : y.contain ≡ contain_of (r 78)

-- of item i of a table, whose first word is word 79 i
abbrev pub EachWordAtItsIndex : Type 0
EachWordAtItsIndex = (s : List ℕ) (i : ℕ) → WordsOf (λ k. get_or s (79 * i + k) 0) (style_at s i)

-- ---- the decoding, word for word: `encoded` has document 01's words in their order, with second values, and decoding is its inverse. So no word is
-- dropped, none is read as another's, and the words that decoding passes over are those that `kept` names.

-- an item that breaks no rule, decoded and written again
abbrev pub EachWordIsRead : Type 0
EachWordIsRead = (s : List ℕ) (i : ℕ) → IsNone (first_broken s i) → encoded (style_at s i) ≡ kept s i

pub record FitsLength (l : CompactLength) : Type 0 where
  pub value : T (fits binary32 l.value)
  pub second : T (fits binary32 l.second)

pub record FitsLengthRect (r : Rect CompactLength) : Type 0 where
  pub left : FitsLength r.left
  pub right : FitsLength r.right
  pub top : FitsLength r.top
  pub bottom : FitsLength r.bottom

pub record FitsLengthSize (s : Size CompactLength) : Type 0 where
  pub width : FitsLength s.width
  pub height : FitsLength s.height

abbrev pub FitsMaybe : Option Float → Type 0
FitsMaybe None = Unit {0}
FitsMaybe (Some x) = T (fits binary32 x)

pub record FitsStyle (y : Style) : Type 0 where
  pub inset : FitsLengthRect y.inset
  pub margin : FitsLengthRect y.margin
  pub padding : FitsLengthRect y.padding
  pub border : FitsLengthRect y.border
  pub size : FitsLengthSize y.size
  pub min : FitsLengthSize y.min
  pub max : FitsLengthSize y.max
  pub ratio : FitsMaybe y.ratio
  pub scrollbar : T (fits binary32 y.scrollbar)

-- a style, written and decoded
abbrev pub EachFieldIsWritten : Type 0
EachFieldIsWritten = (y : Style) → FitsStyle y → style_of (λ k. get_or (encoded y) k 0) ≡ y

-- nothing dropped, nothing exchanged
abbrev pub DecodingIsExact : Type 0
DecodingIsExact = EachWordIsRead × EachFieldIsWritten
