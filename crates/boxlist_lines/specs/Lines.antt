-- The printed list, in ASCII: a line of names, a row for each box in hoisted order, the overflow rectangle; or one line for a refusal.
-- Assumes nothing.
use Rattle.std.specs.Prelude.{ℕ, ◌+◌, ◌*◌, ◌-◌, List, [], ◌∷◌, ◌++◌, length, replicate, Float}
use Rattle.geometry.specs.declared.Rect.{Rect}
use Rattle.boxlist_lines.specs.declared.list.Row.{Row}
use Rattle.boxlist_lines.specs.Column.{COLUMN, eighths_text, code_text}

abbrev pub ROW : ℕ
ROW = 9 * COLUMN + 1

abbrev pub OVERFLOW : ℕ
OVERFLOW = 5 * COLUMN + 1

abbrev pub REFUSAL : ℕ
REFUSAL = 2 * COLUMN + 1

-- columns one after another
unfoldable pub joined : List (List ℕ) → List ℕ
joined [] = []
joined (c ∷ cs) = c ++ joined cs

unfoldable pub line_text : List (List ℕ) → List ℕ
line_text cs = joined cs ++ (10 ∷ [])

-- a word right-justified in its column
unfoldable pub word_text : List ℕ → List ℕ
word_text w = replicate (COLUMN - length w) 32 ++ w

-- the names of the columns
unfoldable pub header_text : List ℕ
header_text =
    line_text
    (word_text (110 ∷ 111 ∷ 100 ∷ 101 ∷ [])  -- node
    ∷ word_text (120 ∷ [])  -- x
    ∷ word_text (121 ∷ [])  -- y
    ∷ word_text (119 ∷ 105 ∷ 100 ∷ 116 ∷ 104 ∷ [])  -- width
    ∷ word_text (104 ∷ 101 ∷ 105 ∷ 103 ∷ 104 ∷ 116 ∷ [])  -- height
    ∷ word_text (108 ∷ 101 ∷ 102 ∷ 116 ∷ [])  -- left
    ∷ word_text (114 ∷ 105 ∷ 103 ∷ 104 ∷ 116 ∷ [])  -- right
    ∷ word_text (116 ∷ 111 ∷ 112 ∷ [])  -- top
    ∷ word_text (98 ∷ 111 ∷ 116 ∷ 116 ∷ 111 ∷ 109 ∷ [])  -- bottom
    ∷ [])

-- left, right, top, bottom
abbrev pub sides : Rect Float → List (List ℕ)
sides r = eighths_text r.left ∷ eighths_text r.right ∷ eighths_text r.top ∷ eighths_text r.bottom ∷ []

-- a box
unfoldable pub row_text : Row → List ℕ
row_text r =
    line_text
    (code_text r.node
    ∷ eighths_text r.location.x
    ∷ eighths_text r.location.y
    ∷ eighths_text r.size.width
    ∷ eighths_text r.size.height
    ∷ sides r.margin)

unfoldable pub rows_text : List Row → List ℕ
rows_text [] = []
rows_text (r ∷ rs) = row_text r ++ rows_text rs

-- `overflow`, then the rectangle
unfoldable pub overflow_text : Rect Float → List ℕ
overflow_text overflow = line_text (word_text (111 ∷ 118 ∷ 101 ∷ 114 ∷ 102 ∷ 108 ∷ 111 ∷ 119 ∷ []) ∷ sides overflow)

-- a run that finished: its boxes in hoisted order, and its overflow rectangle
unfoldable pub list_text : List Row → Rect Float → List ℕ
list_text rows overflow = header_text ++ rows_text rows ++ overflow_text overflow

-- `refused`, then the number
unfoldable pub refusal_text : ℕ → List ℕ
refusal_text number = line_text (word_text (114 ∷ 101 ∷ 102 ∷ 117 ∷ 115 ∷ 101 ∷ 100 ∷ []) ∷ code_text number ∷ [])
