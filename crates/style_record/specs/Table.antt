-- A table in which one style is replaced (request #109: "a copy of the table with that style written in"). Assumes nothing.
use Rattle.std.specs.Prelude.{ℕ, ◌*◌, ◌≡◌, List, length, Option, None, Some}
use Rattle.records.specs.Records.{records, written}
use Rattle.style_record.specs.Record.{style_words, items}
use Rattle.style_record.specs.declared.table.Replacement.{Replacement}

-- the copy, with this style written in at its node
abbrev pub with_style : List ℕ → ℕ → List ℕ → List ℕ
with_style styles node style = written styles (style_words * node) style

-- a replacement, if there is one, is one record
abbrev pub OneRecord : Option Replacement → Type 0
OneRecord None = Unit {0}
OneRecord (Some by) = length by.style.now ≡ style_words

-- what a table of the code keeps beside the words lent: their whole records, and the replacement. Its node need not be there: no whole record is then
-- written over
abbrev pub IsTable : List ℕ → List (List ℕ) → Option Replacement → Type 0
IsTable styles whole by = (whole ≡ records style_words (items styles) styles) × OneRecord by

-- the styles of a run are the lent table, and those of a preview the copy (`now`: the words behind a reference)
abbrev pub styles_of : List ℕ → Option Replacement → List ℕ
styles_of styles None = styles
styles_of styles (Some by) = with_style styles by.node by.style.now
