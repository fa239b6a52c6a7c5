-- The rows of a run's boxes (document 01, "Program `boxlist`": "node, place, size, margins in eighths, in hoisted order"). Assumes nothing.
use Rattle.std.specs.Prelude.{ℕ, ◌≡◌, List, map, length}
use Rattle.std.proofs.lemmas.List.Edits.{sets}
use Rattle.boxlist_lines.specs.declared.list.Row.{Row}
use Rattle.tree.specs.declared.layout.OofCandidate.{OofCandidate}
use Rattle.records.specs.Records.{record_at}
use Rattle.tree_record.specs.Layout.{layout_width, layout_of}
use Rattle.sweep.specs.Sweep.{first_candidates}

-- the row of a node, from the layout at its place: a node claimed twice has its last layout
unfoldable pub row_of : List ℕ → ℕ → Row
row_of layouts node =
    let l = layout_of (record_at layout_width layouts node) in
    record { node = node; location = l.location; size = l.size; margin = l.margin }

-- a row for each of the first n records of the working list
unfoldable pub rows_at : List ℕ → ℕ → List ℕ → List Row
rows_at working n layouts = map (λ (c : OofCandidate). row_of layouts c.node) (first_candidates n working)

-- so many bytes were printed, from the first place on
pub record Prints (r : ℕ) (before after text : List ℕ) : Type 0 where
  pub size : r ≡ length text
  pub bytes : after ≡ sets before 0 text
