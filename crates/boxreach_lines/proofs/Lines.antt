-- The columns of a row, one after another. Assumes nothing.
use Prim.Native.Nat.{ℕ, ◌+◌, ◌*◌}
use native.Mathlib.Omega.{arith}
use mathlib.Core.Path.{◌≡◌, refl, ◌∙◌}
use mathlib.Core.List.{List, [], ◌∷◌, ◌++◌}
use lib.ListN.{length, set, length-append}
use lib.Seq.{sets}
use Rattle.refusal.specs.declared.Refusal.{Refusal}
use Rattle.refusal.specs.Refusal.{number_of}
use Rattle.boxlist_lines.specs.Column.{COLUMN, cell_of, left_of, cells, code_ink, code_text}
use Rattle.boxlist_lines.specs.Lines.{joined, line_text, word_text}
use Rattle.boxlist_lines.proofs.Stores.{part_then}
use Rattle.boxlist_lines.proofs.Lines.{code_length, then_column}
use Rattle.std.specs.Prelude.{Some, None, Ok, Err, Option, Result}
use Rattle.reach.specs.declared.Offsets.{Offsets}
use Rattle.boxreach_lines.specs.Lines.{verdict_names, seen_columns, refused_columns, verdict_columns, verdict_row}
use Rattle.boxreach_lines.specs.Laws.{NamesBytes, RowBytes}
use Rattle.boxreach_lines.specs.Rows.{PrintedRows}

module _ (l : List ℕ) (at : ℕ) where
  -- `seen`, then two numbers
  pub seen_stores : (o : Offsets)
      → sets l at (joined (seen_columns o))
      ≡ sets (sets (sets l at (32 ∷ 32 ∷ 32 ∷ 32 ∷ 115 ∷ 101 ∷ 101 ∷ 110 ∷ [])) (at + COLUMN) (code_text o.across)) (at + 2 * COLUMN) (code_text o.down)
  unfolding joined word_text
  seen_stores o =
      part_then COLUMN (32 ∷ 32 ∷ 32 ∷ 32 ∷ 115 ∷ 101 ∷ 101 ∷ 110 ∷ []) (code_text o.across ++ (code_text o.down ++ [])) l at (at + COLUMN) refl refl
      ∙ part_then COLUMN (code_text o.across) (code_text o.down ++ []) _ (at + COLUMN) (at + 2 * COLUMN) (code_length o.across) (omega arith)
      ∙ part_then COLUMN (code_text o.down) [] _ (at + 2 * COLUMN) (at + 3 * COLUMN) (code_length o.down) (omega arith)

  -- `refused`, a number, a dash
  pub refused_stores : (n : ℕ)
      → sets l at (joined (refused_columns n))
      ≡ sets (sets (sets l at (32 ∷ 114 ∷ 101 ∷ 102 ∷ 117 ∷ 115 ∷ 101 ∷ 100 ∷ [])) (at + COLUMN) (code_text n)) (at + 2 * COLUMN) (32 ∷ 32 ∷ 32 ∷ 32 ∷ 32 ∷ 32 ∷ 32 ∷ 45 ∷ [])
  unfolding joined word_text
  refused_stores n =
      part_then COLUMN (32 ∷ 114 ∷ 101 ∷ 102 ∷ 117 ∷ 115 ∷ 101 ∷ 100 ∷ []) (code_text n ++ (32 ∷ 32 ∷ 32 ∷ 32 ∷ 32 ∷ 32 ∷ 32 ∷ 45 ∷ [])) l at (at + COLUMN) refl refl
      ∙ part_then COLUMN (code_text n) (32 ∷ 32 ∷ 32 ∷ 32 ∷ 32 ∷ 32 ∷ 32 ∷ 45 ∷ []) _ (at + COLUMN) (at + 2 * COLUMN) (code_length n) (omega arith)

-- a verdict fills its three columns
columns_length : (r : Result (Option Offsets) Refusal) → length (joined (verdict_columns r)) ≡ 3 * COLUMN
unfolding joined word_text
columns_length (Ok (Some o)) =
    rw (length-append (code_text o.across) (code_text o.down ++ []), length-append (code_text o.down) [], code_length o.across, code_length o.down) refl
columns_length (Ok None) = refl
columns_length (Err r) = rw (length-append (code_text (number_of r)) _, code_length (number_of r)) refl

-- a row, as it is stored
pub row_stores : (l : List ℕ) (at place node : ℕ) (r : Result (Option Offsets) Refusal)
    → sets l at (verdict_row place node r)
    ≡ set (sets (sets (sets l at (code_text place)) (at + COLUMN) (code_text node)) (at + 2 * COLUMN) (joined (verdict_columns r))) (at + 5 * COLUMN) 10
unfolding verdict_row
row_stores l at place node r =
    then_column l at (code_text place) _ (at + COLUMN) (code_length place) refl
    ∙ then_column _ (at + COLUMN) (code_text node) _ (at + 2 * COLUMN) (code_length node) (omega arith)
    ∙ last _
  where
    last : (l : List ℕ) → sets l (at + 2 * COLUMN) (line_text (verdict_columns r)) ≡ set (sets l (at + 2 * COLUMN) (joined (verdict_columns r))) (at + 5 * COLUMN) 10
    last l =
        unfold line_text in part_then (3 * COLUMN) (joined (verdict_columns r)) (10 ∷ []) l (at + 2 * COLUMN) (at + 5 * COLUMN) (columns_length r) (omega arith)

pub names_bytes : NamesBytes
unfolding verdict_names line_text joined word_text
names_bytes = refl

pub row_bytes : RowBytes
unfolding verdict_row line_text
row_bytes place node r =
    unfold joined in
    rw (length-append (code_text place ++ (code_text node ++ joined (verdict_columns r))) (10 ∷ []), length-append (code_text place) (code_text node ++ joined (verdict_columns r)), length-append (code_text node) (joined (verdict_columns r)), code_length place, code_length node, columns_length r)
    refl

pub printed_rows : PrintedRows
unfolding verdict_row line_text joined word_text code_text code_ink cells left_of cell_of
printed_rows = (refl, refl, refl, refl)
