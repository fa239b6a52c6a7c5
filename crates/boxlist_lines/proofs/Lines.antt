-- A line of columns, column by column. Assumes nothing.
use Rattle.std.specs.Prelude.{Float}
use Prim.Native.Nat.{ℕ, ◌+◌, ◌*◌}
use native.Mathlib.Omega.{arith}
use mathlib.Core.Path.{◌≡◌, refl, ◌∙◌}
use mathlib.Core.List.{List, [], ◌∷◌, ◌++◌, map, append_assoc}
use lib.ListN.{length, set, replicate, length-append}
use lib.Seq.{sets}
use lib.Ieee.{Float, of_bits, binary32}
use Rattle.util.specs.Eighths.{count_of, counted}
use Rattle.geometry.specs.declared.Rect.{Rect}
use Rattle.boxlist_lines.specs.declared.list.Row.{Row}
use Rattle.boxlist_lines.specs.Column.{COLUMN, cells, cell_of, left_of, count_ink, eighths_text, code_text}
use Rattle.boxlist_lines.specs.Lines.{joined, line_text, word_text, sides, row_text, overflow_text, refusal_text}
use Rattle.boxlist_lines.proofs.Stores.{part_then}
use Rattle.boxlist_lines.proofs.Cells.{cells_length}

pub eighths_length : (x : Float) → length (eighths_text x) ≡ COLUMN
unfolding eighths_text
eighths_length x = cells_length COLUMN _

pub code_length : (n : ℕ) → length (code_text n) ≡ COLUMN
unfolding code_text
code_length n = cells_length COLUMN _

-- computed: left, right, top and bottom of 1, 2, 3 and 4 eighths, each its digit after seven blanks
sides_computed :
    sides (record { left = of_bits binary32 1040187392; right = of_bits binary32 1048576000; top = of_bits binary32 1052770304; bottom = of_bits binary32 1056964608 })
    ≡ map (λ (digit : ℕ). replicate 7 32 ++ (digit ∷ [])) (49 ∷ 50 ∷ 51 ∷ 52 ∷ [])
unfolding eighths_text of_bits count_of counted count_ink cells cell_of left_of
sides_computed = refl

module _ (l : List ℕ) (at : ℕ) where
  -- a column, then the rest of the line
  pub then_column : (c : List ℕ) (cs : List (List ℕ)) (j : ℕ) → length c ≡ COLUMN → j ≡ at + COLUMN → sets l at (line_text (c ∷ cs)) ≡ sets (sets l at c) j (line_text cs)
  unfolding line_text joined
  then_column c cs j e h = rw (append_assoc c (joined cs) (10 ∷ [])) (part_then COLUMN c (joined cs ++ (10 ∷ [])) l at j e h)

  -- the four sides of a rectangle, one after another
  pub then_sides : (r : Rect Float)
      → sets l at (joined (sides r))
      ≡ sets (sets (sets (sets l at (eighths_text r.left)) (at + COLUMN) (eighths_text r.right)) (at + 2 * COLUMN) (eighths_text r.top)) (at + 3 * COLUMN) (eighths_text r.bottom)
  unfolding joined
  then_sides r =
      part_then COLUMN (eighths_text r.left) _ l at (at + COLUMN) (eighths_length r.left) refl
      ∙ part_then COLUMN (eighths_text r.right) _ _ (at + COLUMN) (at + 2 * COLUMN) (eighths_length r.right) (omega arith)
      ∙ part_then COLUMN (eighths_text r.top) _ _ (at + 2 * COLUMN) (at + 3 * COLUMN) (eighths_length r.top) (omega arith)
      ∙ part_then COLUMN (eighths_text r.bottom) [] _ (at + 3 * COLUMN) (at + 4 * COLUMN) (eighths_length r.bottom) (omega arith)

  -- the four sides, and the line feed
  pub last_sides : (r : Rect Float) (j : ℕ) → j ≡ at + 4 * COLUMN → sets l at (line_text (sides r)) ≡ set (sets l at (joined (sides r))) j 10
  unfolding line_text joined
  last_sides r j h = part_then (4 * COLUMN) (joined (sides r)) (10 ∷ []) l at j (four r) h
    where
      four : (r : Rect Float) → length (joined (sides r)) ≡ 4 * COLUMN
      four r =
          length-append (eighths_text r.left) _
          ∙ rw (length-append (eighths_text r.right) _, length-append (eighths_text r.top) _, length-append (eighths_text r.bottom) _)
          (rw (eighths_length r.left, eighths_length r.right, eighths_length r.top, eighths_length r.bottom) refl)

-- a row, as it is stored
pub row_stores : (l : List ℕ) (at : ℕ) (r : Row)
    → sets l at (row_text r)
    ≡ set (sets (sets (sets (sets (sets (sets l at (code_text r.node)) (at + COLUMN) (eighths_text r.location.x)) (at + 2 * COLUMN) (eighths_text r.location.y))
    (at + 3 * COLUMN) (eighths_text r.size.width)) (at + 4 * COLUMN) (eighths_text r.size.height)) (at + 5 * COLUMN) (joined (sides r.margin))) (at + 9 * COLUMN) 10
unfolding row_text
row_stores l at r =
    then_column l at (code_text r.node) _ (at + COLUMN) (code_length r.node) refl
    ∙ then_column _ (at + COLUMN) (eighths_text r.location.x) _ (at + 2 * COLUMN) (eighths_length r.location.x) (omega arith)
    ∙ then_column _ (at + 2 * COLUMN) (eighths_text r.location.y) _ (at + 3 * COLUMN) (eighths_length r.location.y) (omega arith)
    ∙ then_column _ (at + 3 * COLUMN) (eighths_text r.size.width) _ (at + 4 * COLUMN) (eighths_length r.size.width) (omega arith)
    ∙ then_column _ (at + 4 * COLUMN) (eighths_text r.size.height) _ (at + 5 * COLUMN) (eighths_length r.size.height) (omega arith)
    ∙ last_sides _ (at + 5 * COLUMN) r.margin (at + 9 * COLUMN) (omega arith)

module _ (l : List ℕ) (at : ℕ) where
  -- the overflow line, as it is stored: `overflow`, the four sides, the line feed
  pub overflow_stores : (r : Rect Float)
      → sets l at (overflow_text r)
      ≡ set (sets (sets l at (111 ∷ 118 ∷ 101 ∷ 114 ∷ 102 ∷ 108 ∷ 111 ∷ 119 ∷ [])) (at + COLUMN) (joined (sides r))) (at + 5 * COLUMN) 10
  unfolding overflow_text word_text
  overflow_stores r =
      then_column l at (111 ∷ 118 ∷ 101 ∷ 114 ∷ 102 ∷ 108 ∷ 111 ∷ 119 ∷ []) (sides r) (at + COLUMN) refl refl
      ∙ last_sides _ (at + COLUMN) r (at + 5 * COLUMN) (omega arith)

  -- a refusal's line: ` refused`, the number, the line feed
  pub refusal_stores : (n : ℕ)
      → sets l at (refusal_text n)
      ≡ set (sets (sets l at (32 ∷ 114 ∷ 101 ∷ 102 ∷ 117 ∷ 115 ∷ 101 ∷ 100 ∷ [])) (at + COLUMN) (code_text n)) (at + 2 * COLUMN) 10
  unfolding refusal_text word_text line_text joined
  refusal_stores n =
      then_column l at (32 ∷ 114 ∷ 101 ∷ 102 ∷ 117 ∷ 115 ∷ 101 ∷ 100 ∷ []) (code_text n ∷ []) (at + COLUMN) refl refl
      ∙ then_column _ (at + COLUMN) (code_text n) [] (at + 2 * COLUMN) (code_length n) (omega arith)
