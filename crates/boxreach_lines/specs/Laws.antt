-- How many bytes the lines have, as statements. `proofs/` proves each, under its name in small letters. Assumes nothing.
use Rattle.std.specs.Prelude.{ℕ, ◌≡◌, length, Option, Result}
use Rattle.refusal.specs.declared.Refusal.{Refusal}
use Rattle.reach.specs.declared.Offsets.{Offsets}
use Rattle.boxreach_lines.specs.Lines.{VERDICT_ROW, verdict_names, verdict_row}

abbrev pub NamesBytes : Type 0
NamesBytes = length verdict_names ≡ VERDICT_ROW

-- every row is as long: a column without a number has a dash
abbrev pub RowBytes : Type 0
RowBytes = (place node : ℕ) (reached : Result (Option Offsets) Refusal) → length (verdict_row place node reached) ≡ VERDICT_ROW
