-- Proofs of the statements of `specs/Laws.antt`. Assumes nothing.
use Rattle.std.specs.Prelude.{Float}
use Prim.Native.Nat.{ℕ, ◌+◌, ◌*◌}
use native.Mathlib.Omega.{arith}
use mathlib.Core.Path.{◌≡◌, refl, ◌∙◌}
use mathlib.Core.List.{List, [], ◌∷◌, ◌++◌}
use lib.ListN.{length, length-append}
use Rattle.util.specs.Eighths.{count_of, counted}
use Rattle.geometry.specs.declared.Rect.{Rect}
use Rattle.boxlist_lines.specs.declared.list.Row.{Row}
use Rattle.boxlist_lines.specs.Column.{COLUMN, cells, cell_of, left_of, count_ink, eighths_text}
use Rattle.boxlist_lines.specs.Lines.{ROW, OVERFLOW, joined, line_text, word_text, header_text, sides, row_text, rows_text, overflow_text, list_text, refusal_text}
use Rattle.boxlist_lines.specs.Laws.{ColumnWidth, LongestFills, StarAlone, ZeroHasNoSign, ListBytes, RefusalBytes}
use Rattle.boxlist_lines.proofs.Cells.{cells_length}
use Rattle.boxlist_lines.proofs.Lines.{eighths_length, code_length}

pub column_width : ColumnWidth
column_width = cells_length

pub longest_fills : LongestFills
unfolding cells cell_of left_of
longest_fills = refl

pub star_alone : StarAlone
unfolding eighths_text count_ink cells cell_of left_of
star_alone x e = rw e refl

pub zero_has_no_sign : ZeroHasNoSign
unfolding eighths_text count_of counted count_ink cells cell_of left_of
zero_has_no_sign = (refl, refl)

-- a line of columns that all have their width
data Full : List (List ℕ) → Type 0 where
  none : Full []
  some : {c : List ℕ} {cs : List (List ℕ)} → length c ≡ COLUMN → Full cs → Full (c ∷ cs)

line_bytes : {cs : List (List ℕ)} → Full cs → length (line_text cs) ≡ length cs * COLUMN + 1
unfolding line_text joined
line_bytes none = refl
line_bytes (some {c} {cs} e r) =
    rw (mathlib.Core.List.append_assoc c (joined cs) (10 ∷ []), length-append c (joined cs ++ (10 ∷ [])), e, line_bytes r) (omega arith)

four : (r : Rect Float) → Full (sides r)
four r = some (eighths_length r.left) (some (eighths_length r.right) (some (eighths_length r.top) (some (eighths_length r.bottom) none)))

pub row_bytes : (r : Row) → length (row_text r) ≡ ROW
unfolding row_text
row_bytes r =
    line_bytes
    (some (code_length r.node)
    (some (eighths_length r.location.x)
    (some (eighths_length r.location.y) (some (eighths_length r.size.width) (some (eighths_length r.size.height) (four r.margin))))))

pub rows_bytes : (rows : List Row) → length (rows_text rows) ≡ length rows * ROW
unfolding rows_text
rows_bytes [] = refl
rows_bytes (r ∷ rs) = length-append (row_text r) (rows_text rs) ∙ rw (row_bytes r, rows_bytes rs) (omega arith)

pub overflow_bytes : (r : Rect Float) → length (overflow_text r) ≡ OVERFLOW
unfolding overflow_text word_text
overflow_bytes r = line_bytes (some refl (four r))

pub header_bytes : length header_text ≡ ROW
unfolding header_text line_text joined word_text
header_bytes = refl

pub list_bytes : ListBytes
unfolding list_text
list_bytes rows overflow =
    length-append (header_text ++ rows_text rows) (overflow_text overflow)
    ∙ rw (length-append header_text (rows_text rows), header_bytes, rows_bytes rows, overflow_bytes overflow) (omega arith)

pub refusal_bytes : RefusalBytes
unfolding refusal_text word_text
refusal_bytes n = line_bytes (some refl (some (code_length n) none))
