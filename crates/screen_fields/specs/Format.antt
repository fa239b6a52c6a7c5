-- The screen file: lines of fields of equal width, a line feed after each line (document 01, "Program `boxlist`"; request #104: "Candidate
-- lines of the screen file have 14 fields"; request #105: a style's "line in the screen file 85 fields"). Assumes nothing.
use Rattle.std.specs.Prelude.{ℕ, zero, suc, ◌+◌, ◌*◌, Bool, true, false, List, [], ◌∷◌, ◌++◌, length, replicate}
use Rattle.style_record.specs.Record.{lengths, style_words}
use Rattle.tree_record.specs.Candidate.{candidate_width}
use Rattle.screen_fields.specs.declared.format.Kind.{Kind}
use Rattle.screen_fields.specs.declared.format.Kind.TheVariants.{Code, Eighths}
use Rattle.screen_fields.specs.declared.format.Line.{Line}
use Rattle.screen_fields.specs.declared.format.Line.TheVariants.{First, Item, Candidate}

-- ---- the fields of each line: codes, and floats in eighths

unfoldable pub is_float : Kind → Bool
is_float Code = false
is_float Eighths = true

-- a list n times over
abbrev pub times : ℕ → List Kind → List Kind
times zero ks = []
times (suc n) ks = ks ++ times n ks

-- how many fields the first line has
abbrev pub header_width : ℕ
header_width = 10

-- area width, height, offset x, offset y; direction, claims, overflow x, overflow y, item count, candidate count
unfoldable pub first_fields : List Kind
first_fields = replicate 4 Eighths ++ replicate 6 Code

-- a length: tag, value, second value; the values are floats whatever the tag
abbrev pub length_fields : List Kind
length_fields = Code ∷ Eighths ∷ Eighths ∷ []

-- a style: the lengths; ratio present, ratio; box sizing, flags, direction, justify, its safety, align, its safety, overflow x, overflow y;
-- scrollbar width, contain
unfoldable pub style_fields : List Kind
style_fields = times lengths length_fields ++ (Code ∷ Eighths ∷ []) ++ replicate 9 Code ++ (Eighths ∷ Code ∷ [])

-- the scripted replies: measured width and height; overflow left, right, top, bottom
abbrev pub reply_width : ℕ
reply_width = 6

unfoldable pub reply_fields : List Kind
reply_fields = replicate reply_width Eighths

-- node, order, position; for x, then for y: area start, area end, edge, safety, fallback edge; layer
unfoldable pub candidate_fields : List Kind
candidate_fields = replicate 3 Code ++ times 2 (replicate 2 Eighths ++ replicate 3 Code) ++ (Code ∷ [])

unfoldable pub fields_of : Line → List Kind
fields_of First = first_fields
fields_of Item = style_fields ++ reply_fields
fields_of Candidate = candidate_fields

-- where the counts stand in the first line
abbrev pub ITEM_COUNT : ℕ
ITEM_COUNT = 8

abbrev pub CANDIDATE_COUNT : ℕ
CANDIDATE_COUNT = 9

-- ---- sizes

-- the columns of a field
abbrev pub COLUMNS : ℕ
COLUMNS = 11

-- the bytes of a line: its fields and the line feed
unfoldable pub bytes_of : Line → ℕ
bytes_of l = COLUMNS * length (fields_of l) + 1

-- the same, by the records' widths
abbrev pub FIRST_BYTES : ℕ
FIRST_BYTES = COLUMNS * header_width + 1

abbrev pub ITEM_BYTES : ℕ
ITEM_BYTES = COLUMNS * (style_words + reply_width) + 1

abbrev pub CANDIDATE_BYTES : ℕ
CANDIDATE_BYTES = COLUMNS * candidate_width + 1

abbrev pub MAX_ITEMS : ℕ
MAX_ITEMS = 128

abbrev pub MAX_CANDIDATES : ℕ
MAX_CANDIDATES = 256

-- the bytes of the longest screen
abbrev pub MAX_BYTES : ℕ
MAX_BYTES = FIRST_BYTES + MAX_ITEMS * ITEM_BYTES + MAX_CANDIDATES * CANDIDATE_BYTES
