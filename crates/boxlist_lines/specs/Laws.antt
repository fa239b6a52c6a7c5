-- What the definitions of this crate mean, as statements. `proofs/Laws.antt` proves each, under its name in small letters.
-- Assumes nothing.
use Rattle.std.specs.Prelude.{ℕ, ◌+◌, ◌*◌, ◌≡◌, true, false, List, [], ◌∷◌, ◌++◌, length, replicate, pos, Float, None}
use Rattle.std.specs.Float.{fin}
use Rattle.util.specs.Eighths.{count_of}
use Rattle.geometry.specs.declared.Rect.{Rect}
use Rattle.boxlist_lines.specs.declared.Ink.{Ink}
use Rattle.boxlist_lines.specs.declared.Ink.TheVariants.{Digits}
use Rattle.boxlist_lines.specs.declared.list.Row.{Row}
use Rattle.boxlist_lines.specs.Column.{COLUMN, cells, eighths_text}
use Rattle.boxlist_lines.specs.Lines.{ROW, OVERFLOW, REFUSAL, list_text, refusal_text}

-- a column has its width
abbrev pub ColumnWidth : Type 0
ColumnWidth = (w : ℕ) (ink : Ink) → length (cells w ink) ≡ w

-- the longest number, -9999999, fills its column
abbrev pub LongestFills : Type 0
LongestFills = cells COLUMN (Digits (record { negative = true; size = 9999999 })) ≡ 45 ∷ replicate 7 57

-- what is no whole eighth, or too large, is a star
abbrev pub StarAlone : Type 0
StarAlone = (x : Float) → count_of x ≡ None → eighths_text x ≡ replicate 7 32 ++ (42 ∷ [])

-- either zero is printed `0`
abbrev pub ZeroHasNoSign : Type 0
ZeroHasNoSign = (eighths_text (fin true 0 (pos 0)) ≡ replicate 7 32 ++ (48 ∷ [])) × (eighths_text (fin false 0 (pos 0)) ≡ replicate 7 32 ++ (48 ∷ []))

-- how many bytes are printed
abbrev pub ListBytes : Type 0
ListBytes = (rows : List Row) (overflow : Rect Float) → length (list_text rows overflow) ≡ (1 + length rows) * ROW + OVERFLOW

abbrev pub RefusalBytes : Type 0
RefusalBytes = (number : ℕ) → length (refusal_text number) ≡ REFUSAL
