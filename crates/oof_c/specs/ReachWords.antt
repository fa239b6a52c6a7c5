-- What `oof_reach` leaves, of a state's words. Assumes nothing.
use Rattle.std.specs.Prelude.{ℕ, List}
use Rattle.run.specs.Call.{Slices}
use Rattle.reach.specs.Reach.{reached}
use Rattle.reach.specs.Told.{ReachReturned, verdict_told}
use Rattle.oof_c_words.specs.StateWords.{state_of}

-- of a place, the slices lent, a state's 28 words, and the verdict's words as they came
unfoldable pub reach_in_words : ℕ → Slices → List ℕ → List ℕ → ReachReturned
reach_in_words place lent state before = verdict_told (reached place (state_of state) lent) before

-- what the entry returns, and the verdict's words
abbrev pub reach_returned : ℕ → List ℕ → ReachReturned
reach_returned result verdict = record { result = result; verdict = verdict }
