-- Request #108: what the touch driver reads of a finished run. Read `five_words` and `touched` first. Assumes nothing.
use Rattle.std.specs.Prelude.{ℕ, ◌*◌, List, [], ◌∷◌, ◌++◌, map, length, eqb, not, ℤ, Float, Result, Ok, Err}
use Rattle.std.specs.Int.{cast_unsigned, w32}
use Rattle.std.specs.Result.{result_and}
use Rattle.records.specs.Records.{record_at}
use Rattle.geometry.specs.declared.Point.{Point}
use Rattle.geometry.specs.declared.Rect.{Rect}
use Rattle.refusal.specs.declared.Refusal.{Refusal}
use Rattle.tree.specs.declared.layout.OofCandidate.{OofCandidate}
use Rattle.tree_record.specs.Layout.{layout_width, layout_of}
use Rattle.sweep.specs.Sweep.{first_candidates}
use Rattle.pixels.specs.Pixels.{pixel_edges}
use Rattle.pixels.specs.Told.{edges_in}
use Rattle.run.specs.Call.{Slices}
use Rattle.run.specs.Refusals.{Verdict, accepted, refused}
use Rattle.run.specs.declared.State.{State}
use Rattle.finished.specs.Finished.{finished_verdict}

-- ---- a box

-- "five words a box"
abbrev pub touch_width : ℕ
touch_width = 5

-- "node, and its layout's pixel edges of #101 in their order, negative ones in two's complement": left, right, top, bottom
abbrev pub five_words : ℕ → Rect ℤ → List ℕ
five_words node edges = node ∷ map (cast_unsigned w32) (edges_in edges)

-- or what refuses them: "refusal 9 is met here as in #101"
abbrev pub told : ℕ → Result (Rect ℤ) Refusal → Result (List ℕ) Refusal
told node (Ok edges) = Ok (five_words node edges)
told node (Err r) = Err r

-- a node's, by the layout of its number, in an area at this offset
abbrev pub box_words : List ℕ → Point Float → ℕ → Result (List ℕ) Refusal
box_words layouts offset node = told node (pixel_edges (layout_of (record_at layout_width layouts node)) offset)

-- ---- boxes

-- the words of one before those of the others, unless one is refused
abbrev pub joined : Result (List ℕ) Refusal → Result (List ℕ) Refusal → Result (List ℕ) Refusal
joined (Ok five) (Ok others) = Ok (five ++ others)
joined (Ok five) (Err r) = Err r
joined (Err r) others = Err r

-- of some nodes, in turn
unfoldable pub touch_words : List ℕ → Point Float → List ℕ → Result (List ℕ) Refusal
touch_words layouts offset [] = Ok []
touch_words layouts offset (node ∷ nodes) = joined (box_words layouts offset node) (touch_words layouts offset nodes)

-- ---- a finished run

-- the nodes of its boxes "in hoisted order", which are the filled records of the working list. One that was claimed twice stands there twice,
-- and both times the words are those of its one layout
abbrev pub nodes_of : State → Slices → List ℕ
nodes_of s lent = map (λ (c : OofCandidate). c.node) (first_candidates s.counts.filled.working lent.working)

-- what a call leaves: its verdict, and the words of the slice, all of which it writes, or none
pub record Touched : Type 0 where
  pub verdict : Verdict
  pub words : List ℕ

abbrev pub left_by : Result (List ℕ) Refusal → List ℕ → Touched
left_by (Ok words) before = record { verdict = accepted; words = words }
left_by (Err r) before = record { verdict = refused r; words = before }

-- of a state, the slices lent to be read, and the driver's slice as it came: "slice length as in #104", here five words a box. The offset is that
-- of the area that the run was opened with
unfoldable pub touched : State → Slices → List ℕ → Touched
touched s lent before =
    left_by
    (result_and
    (finished_verdict s lent (not (eqb (length before) (touch_width * s.counts.filled.working))))
    (touch_words lent.layouts s.opened.container.area.offset (nodes_of s lent)))
    before
