-- Proofs of the statements of `specs/Laws.antt`. Assumes nothing.
use Prim.Native.Nat.{ℕ, ◌<◌, ◌≤◌}
use native.Mathlib.Omega.{arith}
use mathlib.Core.Bool.{Bool, true, false, cond, not, ◌||◌}
use mathlib.Core.List.{List, []}
use mathlib.Core.Logic.{inl, inr, ◌≢◌}
use mathlib.Core.Path.{◌≡◌, refl, ap}
use lib.Dec.{eqb}
use Rattle.std.specs.Prelude.{Ok, Err, Option, Some, None, is_some}
use Rattle.util.proofs.Floats.{no}
use Rattle.refusal.specs.declared.Refusal.TheVariants.{BadExtent, WrongReply, BadCandidate}
use Rattle.run.specs.Call.{Slices}
use Rattle.run.specs.Conditions.{places}
use Rattle.run.specs.Refusals.{Verdict, accepted, refused, ◌when◌else◌, other_lengths, bad_lent, above_lists, bad_candidate}
use Rattle.run.specs.declared.State.{State}
use Rattle.run.proofs.Decides.{Decides, Says, either, regroup, opposite, below, equal, then, no_more, refused_first, accepted_none}
use Rattle.run.proofs.Conditions.{slices_decided, candidate_decided}
use Rattle.finished.specs.Finished.{finished_verdict}
use Rattle.finished.specs.Conditions.{SlicesDiffer, NotFinished, finished_tests}
use Rattle.finished.specs.Laws.{RefusedExactly, AcceptedExactly}

-- a test that two numbers differ
differ : (m n : ℕ) → Decides (not (eqb m n)) (m ≢ n)
differ m n = opposite (equal m n)

lengths_decided : (s : State) (lent : Slices) → Decides (other_lengths s.opened.extents lent) (SlicesDiffer s lent)
unfolding other_lengths
lengths_decided s lent = regroup (regroup (either (either (either (differ _ _) (differ _ _)) (differ _ _)) (differ _ _)))

open_decided : {A : Type 0} (p : Option A) → Decides (is_some p) (p ≢ None)
open_decided None = record { holds = λ t. no {b = false} t refl; fails = λ f n. n refl }
open_decided (Some stage) = record { holds = λ t e. no {b = true} refl (ap is_some e); fails = λ f. no {b = true} refl f }

unfinished_decided : (s : State) (lent : Slices)
    → Decides (is_some s.progress || above_lists lent.working lent.unclaimed s.counts.filled) (NotFinished s lent)
unfinished_decided s lent = either (open_decided s.progress) (either (below _ _) (below _ _))

-- filled records that the list has places for
filled_there : (s : State) (lent : Slices) → is_some s.progress || above_lists lent.working lent.unclaimed s.counts.filled ≡ false
    → s.counts.filled.working ≤ places lent.working
filled_there s lent f =
    let n = (unfinished_decided s lent).fails f in
    let h : ¬ (places lent.working < s.counts.filled.working) = λ l. n (inr (inl l)) in
    omega arith

-- the tests, and those of the part after them
abbrev pub tested_then : State → Slices → Bool → Verdict → Verdict
tested_then s lent other own =
    BadExtent when (bad_lent s.opened.extents lent || other) else
    WrongReply when (is_some s.progress || above_lists lent.working lent.unclaimed s.counts.filled) else
    BadCandidate when bad_candidate lent.styles lent.working s.counts.filled.working else
    own

pub tested_says : (s : State) (lent : Slices) {other : Bool} {Other : Type 0} {own : Verdict} {tests : List (ℕ × Type 0)} → Decides other Other → Says own tests
    → Says (tested_then s lent other own) (finished_tests s lent Other tests)
tested_says s lent d rest =
    then BadExtent (regroup (either (either (slices_decided lent) (lengths_decided s lent)) d))
    (λ _. then WrongReply (unfinished_decided s lent)
    (λ f. then BadCandidate (candidate_decided lent.styles lent.working s.counts.filled.working (filled_there s lent f))
    (λ _. rest)))

-- a verdict, and what comes after it
abbrev pub after : Verdict → Verdict → Verdict
after (Ok tt) own = own
after (Err r) own = refused r

pub tested_after : (s : State) (lent : Slices) (other : Bool) (own : Verdict) → after (finished_verdict s lent other) own ≡ tested_then s lent other own
unfolding finished_verdict ◌when◌else◌
tested_after s lent other own =
    go (bad_lent s.opened.extents lent || other) (is_some s.progress || above_lists lent.working lent.unclaimed s.counts.filled)
    (bad_candidate lent.styles lent.working s.counts.filled.working)
  where
    go : (a b c : Bool)
        → after (cond a (refused BadExtent) (cond b (refused WrongReply) (cond c (refused BadCandidate) accepted))) own
        ≡ cond a (refused BadExtent) (cond b (refused WrongReply) (cond c (refused BadCandidate) own))
    go true b c = refl
    go false true c = refl
    go false false true = refl
    go false false false = refl

itself : (b : Bool) → Decides b (b ≡ true)
itself b = record { holds = λ t. t; fails = λ f t. no t f }

finished_says : (s : State) (lent : Slices) (other : Bool) → Says (finished_verdict s lent other) (finished_tests s lent (other ≡ true) [])
unfolding finished_verdict
finished_says s lent other = tested_says s lent (itself other) no_more

pub refused_exactly : RefusedExactly
refused_exactly s lent other r = refused_first r (finished_says s lent other)

pub accepted_exactly : AcceptedExactly
accepted_exactly s lent other = accepted_none (finished_says s lent other)
