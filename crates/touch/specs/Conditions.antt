-- When what the touch driver reads is refused, in the words of request #108. Assumes nothing.
use Rattle.std.specs.Prelude.{ℕ, ◌*◌, ◌<◌, List, [], ◌∷◌, ◌≢◌, length}
use Rattle.pixels.specs.Conditions.{NotAllInEighths}
use Rattle.run.specs.Call.{Slices}
use Rattle.run.specs.Run.{layout_at}
use Rattle.run.specs.declared.State.{State}
use Rattle.finished.specs.Conditions.{finished_tests}
use Rattle.touch.specs.Touch.{touch_width}

-- 2, "slice length as in #104": another length than five words for each box that the state counts. Where it counts more than the list has
-- records, a slice of five words for each record meets 2, and one of five for each that is counted 6
abbrev pub OtherLength : State → List ℕ → Type 0
OtherLength s before = length before ≢ touch_width * s.counts.filled.working

-- 9, "met here as in #101": x, y, width, height of some hoisted box, or the area's offset, isn't in eighths. Without a box nothing is asked of
-- #101, so that the offset may be any
abbrev pub SomeNotInEighths : State → Slices → Type 0
SomeNotInEighths s lent =
    (place : ℕ) × (place < s.counts.filled.working)
    × NotAllInEighths (layout_at lent.layouts lent.working place) s.opened.container.area.offset

-- 2, 6 and 4, as in every part that reads a finished run, then 9
abbrev pub touch_tests : State → Slices → List ℕ → List (ℕ × Type 0)
touch_tests s lent before = finished_tests s lent (OtherLength s before) ((9, SomeNotInEighths s lent) ∷ [])
