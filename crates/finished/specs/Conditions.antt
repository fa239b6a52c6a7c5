-- When a part that reads a finished run refuses, in the words of request #102. Assumes nothing.
use Rattle.std.specs.Prelude.{ℕ, ◌<◌, List, ◌∷◌, ◌⊎◌, ◌≢◌, length, None}
use Rattle.run.specs.Call.{Slices}
use Rattle.run.specs.Conditions.{SlicesAreBad, places, CandidateIsBad}
use Rattle.run.specs.declared.State.{State}

-- a slice of another length than at the opening. No tally is lent (request #107), and the length that it had then isn't tested
abbrev pub SlicesDiffer : State → Slices → Type 0
SlicesDiffer s lent =
    let opening = s.opened.extents in
    (length lent.styles ≢ opening.styles)
    ⊎ (length lent.layouts ≢ opening.layouts)
    ⊎ (length lent.working ≢ opening.working)
    ⊎ (length lent.unclaimed ≢ opening.unclaimed)

-- "an unfinished run or counts above the lists": the two counts that count a list's records. Boxes begun and questions answered aren't tested
abbrev pub NotFinished : State → Slices → Type 0
NotFinished s lent =
    (s.progress ≢ None) ⊎ (places lent.working < s.counts.filled.working) ⊎ (places lent.unclaimed < s.counts.filled.unclaimed)

-- "2 for the slices lent, as in a reply, here also for" what the part itself calls a bad extent, `Other`; "then 6 for an unfinished run or
-- counts above the lists; then 4 over the filled working list; then" the part's own tests
abbrev pub finished_tests : State → Slices → Type 0 → List (ℕ × Type 0) → List (ℕ × Type 0)
finished_tests s lent Other own =
    (2, SlicesAreBad lent ⊎ SlicesDiffer s lent ⊎ Other)
    ∷ (6, NotFinished s lent)
    ∷ (4, CandidateIsBad lent.styles lent.working s.counts.filled.working)
    ∷ own
