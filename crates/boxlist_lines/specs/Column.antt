-- A number right-justified in a column: from the right its digits, a sign if it is negative, then blanks. Assumes nothing.
use Rattle.std.specs.Prelude.{ℕ, zero, suc, ◌+◌, ◌/◌, ◌%◌, false, cond, List, [], ◌∷◌, ◌++◌, leb, Float, Option, None, Some}
use Rattle.util.specs.declared.eighths.Count.{Count}
use Rattle.util.specs.Eighths.{count_of}
use Rattle.boxlist_lines.specs.declared.Ink.{Ink}
use Rattle.boxlist_lines.specs.declared.Ink.TheVariants.{Digits, Sign, Star, Blank}

-- the rightmost cell, in ASCII: a digit, `-`, `*` or a blank
unfoldable pub cell_of : Ink → ℕ
cell_of (Digits c) = 48 + c.size % 10
cell_of Sign = 45
cell_of Star = 42
cell_of Blank = 32

-- what stands left of it
unfoldable pub left_of : Ink → Ink
left_of (Digits c) = cond (leb 10 c.size) (Digits (record { negative = c.negative; size = c.size / 10 })) (cond c.negative Sign Blank)
left_of Sign = Blank
left_of Star = Blank
left_of Blank = Blank

-- a column of a width
unfoldable pub cells : ℕ → Ink → List ℕ
cells zero ink = []
cells (suc w) ink = cells w (left_of ink) ++ (cell_of ink ∷ [])

-- ---- the columns of the printed list (document 01, "Program `boxlist`")

abbrev pub COLUMN : ℕ
COLUMN = 8

-- `*` for no whole eighth, or above 9,999,999 in size
unfoldable pub count_ink : Option Count → Ink
count_ink None = Star
count_ink (Some c) = Digits c

unfoldable pub code_ink : ℕ → Ink
code_ink n = cond (leb n 9999999) (Digits (record { negative = false; size = n })) Star

-- a float's eighths
unfoldable pub eighths_text : Float → List ℕ
eighths_text x = cells COLUMN (count_ink (count_of x))

unfoldable pub code_text : ℕ → List ℕ
code_text n = cells COLUMN (code_ink n)
