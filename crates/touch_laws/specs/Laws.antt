-- Request #108: what the touch driver reads, over runs. Lent five words a box, a finished run meets no refusal but 9, and one of whole quarter
-- pixels none; two runs whose boxes stand alike give it the same. As statements: `proofs/` proves each, under its name in small letters. Assumes
-- nothing.
use Rattle.std.specs.Prelude.{ℕ, ◌*◌, ◌<◌, false, ◌≡◌, List, length, All, None, is_err}
use Rattle.run.specs.declared.Opening.{Opening}
use Rattle.run.specs.Call.{Lent, Outcome, slices}
use Rattle.run.specs.Refusals.{accepted}
use Rattle.run.specs.Run.{claims_of, opened}
use Rattle.run.specs.Theorems.{Turn, AllLend, called, heeded_in, hoisted}
use Rattle.mirror_run.specs.Quarter.{AreaInQuarters, QuarterTable, QuarterCandidates}
use Rattle.mirror_run.specs.Runs.{layout_of_box}
use Rattle.pixels_laws.specs.Laws.{QuarterHeard}
use Rattle.touch.specs.Touch.{touch_width, touch_words, Touched, left_by, touched}
use Rattle.touch.specs.Laws.{SamePoint, SameLocationAndSize, SameToDriver}

-- what a call for the driver leaves, by the state and the words that the last call of a run left; `before` are the words of its slice as it came
abbrev pub touched_of : List ℕ → List ℕ → Outcome → Touched
touched_of before styles has = touched has.step.state (slices styles has.layouts has.working has.unclaimed) before

-- a finished run, lent a slice of five words a box, passes 2, 6 and 4. So the call leaves the words of its hoisted nodes in turn, in an area at the
-- opening's offset; where #101 refuses the layout of one, it leaves the slice as it came
abbrev pub FinishedIsTouched : Type 0
FinishedIsTouched =
    (o : Opening) (candidates : List ℕ) (lent : Lent) (turns : List Turn) (before : List ℕ)
    → is_err (opened o candidates lent).step.answer ≡ false
    -- nobody else writes the run's words; a call may lend other slices where it is refused
    → AllLend lent.styles (opened o candidates lent) turns
    → let has = called o candidates lent turns in
    has.step.state.progress ≡ None → length before ≡ touch_width * has.step.state.counts.filled.working
    → touched_of before lent.styles has ≡ left_by (touch_words has.layouts o.area.offset (hoisted has)) before

-- a run of whole quarter pixels of size 4,096 at most, without a percentage, a sum with one, an aspect ratio or a claimed surfaced box, as
-- `RunHasEdges` of pixels_laws asks: 9 isn't met either
abbrev pub QuartersAreTouched : Type 0
QuartersAreTouched =
    (o : Opening) (candidates : List ℕ) (lent : Lent) (turns : List Turn) (before : List ℕ)
    → AreaInQuarters o.area → QuarterTable lent.styles → QuarterCandidates candidates
    → is_err (opened o candidates lent).step.answer ≡ false
    → AllLend lent.styles (opened o candidates lent) turns
    → All (QuarterHeard (claims_of o)) (heeded_in o candidates lent turns)
    → let has = called o candidates lent turns in
    has.step.state.progress ≡ None → length before ≡ touch_width * has.step.state.counts.filled.working
    → (touched_of before lent.styles has).verdict ≡ accepted

-- "Two runs with the same area", of which the offset counts alone, "and hoisted order whose layouts differ only in padding, border, margins,
-- scrollbars, child overflow and order": box by box
pub record StandAlike (o o' : Opening) (has has' : Outcome) : Type 0 where
  pub offset : SamePoint o.area.offset o'.area.offset
  pub nodes : hoisted has ≡ hoisted has'
  pub boxes : (place : ℕ) → place < has.step.state.counts.filled.working → SameLocationAndSize (layout_of_box has place) (layout_of_box has' place)

-- they "give the driver identical words", or are refused with the same number, whatever stood in the two slices. All else may differ: openings,
-- tables, lists, replies
abbrev pub RunsAreSeenAlike : Type 0
RunsAreSeenAlike =
    (o o' : Opening) (candidates candidates' : List ℕ) (lent lent' : Lent) (turns turns' : List Turn) (before before' : List ℕ)
    → is_err (opened o candidates lent).step.answer ≡ false
    → is_err (opened o' candidates' lent').step.answer ≡ false
    → AllLend lent.styles (opened o candidates lent) turns
    → AllLend lent'.styles (opened o' candidates' lent') turns'
    → let has = called o candidates lent turns in
    let has' = called o' candidates' lent' turns' in
    has.step.state.progress ≡ None → has'.step.state.progress ≡ None
    → StandAlike o o' has has' → length before ≡ length before'
    → SameToDriver (touched_of before lent.styles has) (touched_of before' lent'.styles has')
