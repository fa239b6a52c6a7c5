-- The printed verdicts, in ASCII: a line of names, then a row for each box in hoisted order. Assumes nothing.
use Rattle.std.specs.Prelude.{ℕ, ◌+◌, ◌*◌, List, [], ◌∷◌, Some, None, Ok, Err, Option, Result}
use Rattle.refusal.specs.declared.Refusal.{Refusal}
use Rattle.boxlist_lines.specs.Column.{COLUMN, code_text}
use Rattle.boxlist_lines.specs.Lines.{line_text, word_text}
use Rattle.refusal.specs.Refusal.{number_of}
use Rattle.reach.specs.declared.Offsets.{Offsets}

abbrev pub VERDICT_ROW : ℕ
VERDICT_ROW = 5 * COLUMN + 1

-- the names of the columns
unfoldable pub verdict_names : List ℕ
verdict_names =
    line_text
    (word_text (112 ∷ 108 ∷ 97 ∷ 99 ∷ 101 ∷ [])  -- place
    ∷ word_text (110 ∷ 111 ∷ 100 ∷ 101 ∷ [])  -- node
    ∷ word_text (118 ∷ 101 ∷ 114 ∷ 100 ∷ 105 ∷ 99 ∷ 116 ∷ [])  -- verdict
    ∷ word_text (115 ∷ 99 ∷ 114 ∷ 111 ∷ 108 ∷ 108 ∷ 120 ∷ [])  -- scrollx
    ∷ word_text (115 ∷ 99 ∷ 114 ∷ 111 ∷ 108 ∷ 108 ∷ 121 ∷ [])  -- scrolly
    ∷ [])

-- where a column has no number
abbrev pub dash : List ℕ
dash = word_text (45 ∷ [])

-- `seen`, and the least offsets across and down
abbrev pub seen_columns : Offsets → List (List ℕ)
seen_columns o = word_text (115 ∷ 101 ∷ 101 ∷ 110 ∷ []) ∷ code_text o.across ∷ code_text o.down ∷ []

-- `unseen`
abbrev pub unseen_columns : List (List ℕ)
unseen_columns = word_text (117 ∷ 110 ∷ 115 ∷ 101 ∷ 101 ∷ 110 ∷ []) ∷ dash ∷ dash ∷ []

-- `refused`, and the refusal's number
abbrev pub refused_columns : ℕ → List (List ℕ)
refused_columns number = word_text (114 ∷ 101 ∷ 102 ∷ 117 ∷ 115 ∷ 101 ∷ 100 ∷ []) ∷ code_text number ∷ dash ∷ []

abbrev pub verdict_columns : Result (Option Offsets) Refusal → List (List ℕ)
verdict_columns (Ok (Some o)) = seen_columns o
verdict_columns (Ok None) = unseen_columns
verdict_columns (Err r) = refused_columns (number_of r)

-- a box: its place in the hoisted order from 0, its node, its verdict
unfoldable pub verdict_row : ℕ → ℕ → Result (Option Offsets) Refusal → List ℕ
verdict_row place node reached = line_text (code_text place ∷ code_text node ∷ verdict_columns reached)
