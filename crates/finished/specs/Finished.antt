-- What every part that reads a finished run tests first (request #102): 2 for the slices lent, as in a reply, then 6, then 4. It is lent no
-- tally. Assumes nothing.
use Rattle.std.specs.Prelude.{Bool, ◌||◌, is_some}
use Rattle.refusal.specs.declared.Refusal.TheVariants.{BadExtent, WrongReply, BadCandidate}
use Rattle.run.specs.Call.{Slices}
use Rattle.run.specs.Refusals.{Verdict, accepted, ◌when◌else◌, bad_lent, above_lists, bad_candidate}
use Rattle.run.specs.declared.State.{State}

-- `other` is what the part itself calls a bad extent: a slice of its own, or a place without a box
unfoldable pub finished_verdict : State → Slices → Bool → Verdict
finished_verdict s lent other =
    BadExtent when (bad_lent s.opened.extents lent || other) else
    WrongReply when (is_some s.progress || above_lists lent.working lent.unclaimed s.counts.filled) else
    BadCandidate when bad_candidate lent.styles lent.working s.counts.filled.working else
    accepted
