-- What the two passes of the code over the boxes' records find: steps on the way, which no law speaks of and no reader has to believe. Assumes
-- nothing.
use Rattle.std.specs.Prelude.{ℕ, ◌+◌, ◌*◌, ◌≤◌, List, map, length, get_or, Result, Ok, Err}
use Rattle.refusal.specs.declared.Refusal.{Refusal}
use Rattle.tree_record.specs.Layout.{layout_width}
use Rattle.run.specs.Refusals.{Verdict, accepted, refused}

-- the nodes of some records, in turn, by the word of each
abbrev pub nodes_by_word : List (List ℕ) → List ℕ
nodes_by_word rs = map (λ r. get_or r 0 0) rs

-- the node has its layout
abbrev pub HasLayout : List ℕ → ℕ → Type 0
HasLayout layouts node = layout_width * node + layout_width ≤ length layouts

abbrev pub verdict_of : Result (List ℕ) Refusal → Verdict
verdict_of (Ok words) = accepted
verdict_of (Err r) = refused r
