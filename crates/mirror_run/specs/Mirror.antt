-- The law of mirrored runs, of the definition. Demand 3 itself, of the entries, is `MirrorImage` of demands/specs/Demands.antt, and is proved from
-- this. Take a run and its mirror image, and give both one list of replies, refused ones included. After the opening and after each
-- reply, both have given the same answer, each box laid out by then stands mirrored, and unless the opening was refused both have the
-- same counts by item. `proofs/Mirror.antt` proves it.
-- The list is `so_far ++ later`: `so_far` is empty after the opening, and any beginning of the list after a reply.
-- Left-to-right isn't asked: the theorem holds for a run of either direction. Assumes nothing.
use Rattle.std.specs.Prelude.{ℕ, ◌≡◌}
use mathlib.Core.List.{List, ◌++◌, foldl}
use Rattle.run.specs.declared.Opening.{Opening}
use Rattle.run.specs.Call.{Lent}
use Rattle.run.specs.Run.{opened, extents_of}
use Rattle.mirror_run.specs.Image.{image_opening, image_styles, image_candidates}
use Rattle.mirror_run.specs.Quarter.{QuarterArea, QuarterTable, QuarterCandidates}
use Rattle.mirror_run.specs.Runs.{Message, run_next, image_next, AllFair, MirroredRuns}

abbrev pub Mirror : Type 0
Mirror =
    (o : Opening) (candidates : List ℕ) (lent lent' : Lent) (so_far later : List Message)
    -- whole quarter pixels, a width that isn't 0, no percentage, no sum, no ratio
    → QuarterArea o.area → QuarterTable lent.styles → QuarterCandidates candidates
    -- the image's slices are as long; but for its styles they may hold any words
    → lent'.styles ≡ image_styles lent.styles → extents_of lent ≡ extents_of lent'
    -- the whole list: the same kind, values and slice lengths for both, and if a reply is refused for a tally lent with it, such a tally for
    -- both; accepted replies are of whole quarter pixels, and surface no box that is claimed
    → AllFair lent.styles (opened o candidates lent) (so_far ++ later)
    → MirroredRuns o.area (opened o candidates lent) (foldl (run_next lent.styles) (opened o candidates lent) so_far)
    (foldl (image_next lent'.styles) (opened (image_opening o) (image_candidates o.area candidates) lent') so_far)
