-- Rows of verdicts, byte by byte; `proofs/Lines.antt` computes each. Assumes nothing.
use Rattle.std.specs.Prelude.{[], ◌∷◌, ◌≡◌, Some, None, Ok, Err}
use Rattle.refusal.specs.declared.Refusal.TheVariants.{NotInEighths}
use Rattle.boxreach_lines.specs.Lines.{verdict_row}

abbrev pub PrintedRows : Type 0
PrintedRows =
    --        3       2    seen      13      15
    (verdict_row 3 2 (Ok (Some (record { across = 13; down = 15 }))) ≡ 32 ∷ 32 ∷ 32 ∷ 32 ∷ 32 ∷ 32 ∷ 32 ∷ 51 ∷ 32 ∷ 32 ∷ 32 ∷ 32 ∷ 32 ∷ 32 ∷ 32 ∷ 50 ∷ 32 ∷ 32 ∷ 32 ∷ 32 ∷ 115 ∷ 101 ∷ 101 ∷ 110 ∷ 32 ∷ 32 ∷ 32 ∷ 32 ∷ 32 ∷ 32 ∷ 49 ∷ 51 ∷ 32 ∷ 32 ∷ 32 ∷ 32 ∷ 32 ∷ 32 ∷ 49 ∷ 53 ∷ 10 ∷ [])
    --        0     127    seen 9999998       0
    × (verdict_row 0 127 (Ok (Some (record { across = 9999998; down = 0 }))) ≡ 32 ∷ 32 ∷ 32 ∷ 32 ∷ 32 ∷ 32 ∷ 32 ∷ 48 ∷ 32 ∷ 32 ∷ 32 ∷ 32 ∷ 32 ∷ 49 ∷ 50 ∷ 55 ∷ 32 ∷ 32 ∷ 32 ∷ 32 ∷ 115 ∷ 101 ∷ 101 ∷ 110 ∷ 32 ∷ 57 ∷ 57 ∷ 57 ∷ 57 ∷ 57 ∷ 57 ∷ 56 ∷ 32 ∷ 32 ∷ 32 ∷ 32 ∷ 32 ∷ 32 ∷ 32 ∷ 48 ∷ 10 ∷ [])
    --        1       1  unseen       -       -
    × (verdict_row 1 1 (Ok None) ≡ 32 ∷ 32 ∷ 32 ∷ 32 ∷ 32 ∷ 32 ∷ 32 ∷ 49 ∷ 32 ∷ 32 ∷ 32 ∷ 32 ∷ 32 ∷ 32 ∷ 32 ∷ 49 ∷ 32 ∷ 32 ∷ 117 ∷ 110 ∷ 115 ∷ 101 ∷ 101 ∷ 110 ∷ 32 ∷ 32 ∷ 32 ∷ 32 ∷ 32 ∷ 32 ∷ 32 ∷ 45 ∷ 32 ∷ 32 ∷ 32 ∷ 32 ∷ 32 ∷ 32 ∷ 32 ∷ 45 ∷ 10 ∷ [])
    --      255       5 refused       9       -
    × (verdict_row 255 5 (Err NotInEighths) ≡ 32 ∷ 32 ∷ 32 ∷ 32 ∷ 32 ∷ 50 ∷ 53 ∷ 53 ∷ 32 ∷ 32 ∷ 32 ∷ 32 ∷ 32 ∷ 32 ∷ 32 ∷ 53 ∷ 32 ∷ 114 ∷ 101 ∷ 102 ∷ 117 ∷ 115 ∷ 101 ∷ 100 ∷ 32 ∷ 32 ∷ 32 ∷ 32 ∷ 32 ∷ 32 ∷ 32 ∷ 57 ∷ 32 ∷ 32 ∷ 32 ∷ 32 ∷ 32 ∷ 32 ∷ 32 ∷ 45 ∷ 10 ∷ [])
