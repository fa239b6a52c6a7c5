-- Demands 1 and 2, of the C entries. No entry asks anything of its caller, so each contract, and with it each of these, holds for any bits
-- in any number and slices of any length. `proofs/Demands.antt` proves each, under its name in small letters. Assumes nothing.
use Rattle.std.specs.Prelude.{ℕ, ◌*◌, ◌%◌, ◌≤◌, ◌<◌, List, [], ◌∷◌, ◌⊎◌, ◌≢◌, ◌↔◌, ◌≡◌, ℤ, length, map, replicate, sum, Some, None, Ok, Err, All, Option, Result, Float}
use Rattle.refusal.specs.declared.Refusal.{Refusal}
use Rattle.reach.specs.declared.Offsets.{Offsets}
use Rattle.geometry.specs.declared.Point.{Point}
use Rattle.records.specs.Records.{record_at}
use Rattle.style_record.specs.Record.{style_words, items}
use Rattle.style_record.specs.Table.{with_style}
use Rattle.tree_record.specs.Candidate.{candidate_width, candidate_of}
use Rattle.tree_record.specs.Layout.{layout_width, layout_of}
use Rattle.pixels.specs.Conditions.{pixel_tests}
use Rattle.pixels.specs.Pixels.{pixel_edges}
use Rattle.geometry.specs.declared.Rect.{Rect}
use Rattle.oof_box.specs.declared.question.Reply.{Reply}
use Rattle.run.specs.Call.{Slices, Lent, slices_of, outcome}
use Rattle.run.specs.Conditions.{StyleIsBad, FirstNotAllowed, AllAllowed, FirstIs, NoneHolds, opening_tests, reply_tests, preview_opening_tests, preview_reply_tests}
use Rattle.run.specs.Preview.{over_copy}
use Rattle.run.specs.Run.{closed, claims_of, layout_at, box_at_hand, charged}
use Rattle.run.specs.Straight.{Course}
use Rattle.run.specs.PreviewTheorems.{turn_over}
use Rattle.run.specs.Theorems.{Turn, Stands, said_after, heeded_in, answered_in, course_of, laid_count}
use Rattle.run.specs.declared.Opening.{Opening}
use Rattle.mirror_run.specs.Quarter.{AreaInQuarters, QuarterTable, QuarterCandidates}
use Rattle.pixels_laws.specs.Laws.{QuarterHeard}
use Rattle.oof_c_words.specs.StateWords.{at, state_of, state_words}
use Rattle.oof_c_words.specs.Entry.{Words, words, Returned, lent_in, answer_left}
use Rattle.pixels.specs.Told.{PixelsReturned}
use Rattle.reach.specs.Conditions.{reach_tests}
use Rattle.reach.specs.Reach.{reached}
use Rattle.reach.specs.Told.{ReachReturned}
use Rattle.oof_c_words.specs.CheckWords.{CheckReturned, check_in_words}
use Rattle.drawing.specs.Conditions.{drawing_tests}
use Rattle.drawing.specs.Drawing.{box_layers}
use Rattle.drawing.specs.Laws.{EachOnce, InOrder}
use Rattle.oof_c.specs.ReachWords.{reach_in_words}
use Rattle.oof_c.specs.DrawingWords.{DrawingReturned, drawing_in_words}
use Rattle.touch.specs.Conditions.{touch_tests}
use Rattle.touch.specs.Touch.{touch_width, touch_words, left_by, nodes_of}
use Rattle.touch.specs.Laws.{HoldsBoxes, SamePoint, SameLocationAndSize}
use Rattle.oof_c.specs.TouchWords.{TouchReturned, touch_told, touch_in_words}
use Rattle.oof_c_words.specs.PixelWords.{pixels_in_words}
use Rattle.demands_c.specs.Calls.{Opens, RepliesTo, PreviewOpens, PreviewRepliesTo, AnyCalls, TallyKept, Run, Previews}

-- ---- Demand 1. "Whoever calls an entry, with any bits in any number and slices of any length, gets its answer .. or one of document 01's
-- refusals .., each exactly under its stated condition. A refusal writes no lent word and returns the state as it came." The conditions, in
-- document 01's words and order, stand in run/specs/Conditions.antt, that of request #101 in pixels/specs/Conditions.antt, those of #102 in
-- finished/specs and reach/specs, that of #104 in drawing/specs, those of #108 in touch/specs.

-- the words of a verdict
abbrev pub VerdictIn : Result (Option Offsets) Refusal → List ℕ → Type 0
VerdictIn (Ok (Some o)) words = words ≡ 1 ∷ o.across ∷ o.down ∷ []
VerdictIn (Ok None) words = words ≡ 0 ∷ 0 ∷ 0 ∷ []
VerdictIn (Err r) words = ⊥

-- what a refused opening leaves: the words that came, but for the state's, which are those of a finished run with all counts 0
abbrev pub left_closed : List ℕ → Words → Words
left_closed styles before =
    words before.layouts before.working before.unclaimed before.tally (state_words (closed (lent_in styles before))) before.answer

-- an opening. It has no state that came
pub record OpeningDemands (o : Opening) (candidates styles : List ℕ) (before : Words) (has : Returned) : Type 0 where
  -- what the theorems over runs suppose of a call
  pub call : Opens o candidates styles before has
  pub refused : (n : ℕ) → n ≢ 0 → (has.result ≡ n) ↔ FirstIs (opening_tests o candidates (lent_in styles before)) n
  pub accepted : (has.result ≡ 0) ↔ NoneHolds (opening_tests o candidates (lent_in styles before))
  pub kept : has.result ≢ 0 → has.words ≡ left_closed styles before
  -- request #107: "opening clears it"
  pub cleared : has.result ≡ 0 → has.words.tally ≡ replicate (length before.tally) 0

-- a reply, whatever words stand for its state
pub record ReplyDemands (reply : Reply) (surfaced styles : List ℕ) (before : Words) (has : Returned) : Type 0 where
  pub call : RepliesTo reply surfaced styles before has
  pub refused : (n : ℕ) → n ≢ 0 → (has.result ≡ n) ↔ FirstIs (reply_tests (state_of before.state) reply surfaced (lent_in styles before)) n
  pub accepted : (has.result ≡ 0) ↔ NoneHolds (reply_tests (state_of before.state) reply surfaced (lent_in styles before))
  pub kept : has.result ≢ 0 → has.words ≡ before
  -- request #107: one item's count goes up, that of the box at hand, as its record says now
  pub counted : has.result ≡ 0 → has.words.tally ≡ charged before.tally (box_at_hand before.working (state_of before.state).counts).node

-- request #109, a preview's opening. "The live table and run keep every word": it is lent styles and replacement to be read only, as their types say;
-- that the live run's layouts, lists, tally, state and answer aren't lent to it is the host's part. Of its own words a refused call keeps every one
pub record PreviewOpeningDemands (node : ℕ) (style : List ℕ) (o : Opening) (candidates styles : List ℕ) (before : Words) (has : Returned) : Type 0 where
  pub call : PreviewOpens node style o candidates styles before has
  pub refused : (n : ℕ) → n ≢ 0 → (has.result ≡ n) ↔ FirstIs (preview_opening_tests o candidates node style (lent_in styles before)) n
  pub accepted : (has.result ≡ 0) ↔ NoneHolds (preview_opening_tests o candidates node style (lent_in styles before))
  pub kept : has.result ≢ 0 → has.words ≡ left_closed styles before
  pub cleared : has.result ≡ 0 → has.words.tally ≡ replicate (length before.tally) 0
  -- with one style record for a node below n it is the opening over a copy of the table with that style written in, refused or not
  pub over : length style ≡ style_words → node < items styles → Opens o candidates (with_style styles node style) before has

-- and a reply to it, whatever words stand for its state, also those that a live call left
pub record PreviewReplyDemands (node : ℕ) (style : List ℕ) (reply : Reply) (surfaced styles : List ℕ) (before : Words) (has : Returned) : Type 0 where
  pub call : PreviewRepliesTo node style reply surfaced styles before has
  pub refused : (n : ℕ) → n ≢ 0 → (has.result ≡ n) ↔ FirstIs (preview_reply_tests (state_of before.state) reply surfaced node style (lent_in styles before)) n
  pub accepted : (has.result ≡ 0) ↔ NoneHolds (preview_reply_tests (state_of before.state) reply surfaced node style (lent_in styles before))
  pub kept : has.result ≢ 0 → has.words ≡ before
  pub counted : has.result ≡ 0 → has.words.tally ≡ charged before.tally (box_at_hand before.working (state_of before.state).counts).node
  pub over : length style ≡ style_words → node < items styles → RepliesTo reply surfaced (with_style styles node style) before has

-- `oof_pixels`, whatever words stand for its layout
pub record PixelsDemands (layout : List ℕ) (offset : Point Float) (before : List ℤ) (has : PixelsReturned) : Type 0 where
  pub call : has ≡ pixels_in_words layout offset before
  pub refused : (n : ℕ) → n ≢ 0 → (has.result ≡ n) ↔ FirstIs (pixel_tests (layout_of layout) offset) n
  pub accepted : (has.result ≡ 0) ↔ NoneHolds (pixel_tests (layout_of layout) offset)
  pub kept : has.result ≢ 0 → has.edges ≡ before
  pub written : has.result ≡ 0 → (p : Rect ℤ) × (pixel_edges (layout_of layout) offset ≡ Ok p) × (has.edges ≡ p.left ∷ p.right ∷ p.top ∷ p.bottom ∷ [])

-- `oof_reach`, whatever words stand for its state: 2, 6, 4, 9. The slices and the state are lent to be read only; the state's words are 28 and
-- the verdict's 3, by the entry's types
pub record ReachDemands (place : ℕ) (lent : Slices) (state before : List ℕ) (has : ReachReturned) : Type 0 where
  pub call : has ≡ reach_in_words place lent state before
  pub refused : (n : ℕ) → n ≢ 0 → (has.result ≡ n) ↔ FirstIs (reach_tests place (state_of state) lent) n
  pub accepted : (has.result ≡ 0) ↔ NoneHolds (reach_tests place (state_of state) lent)
  pub kept : has.result ≢ 0 → has.verdict ≡ before
  pub written : has.result ≡ 0 → VerdictIn (reached place (state_of state) lent) has.verdict

-- `oof_drawing_order`, whatever words stand for its state: 2, 6, 4. Slices and state are lent to be read only, but for that of the order
pub record DrawingDemands (lent : Slices) (state before : List ℕ) (has : DrawingReturned) : Type 0 where
  pub call : has ≡ drawing_in_words lent state before
  pub refused : (n : ℕ) → n ≢ 0 → (has.result ≡ n) ↔ FirstIs (drawing_tests (state_of state) lent before) n
  pub accepted : (has.result ≡ 0) ↔ NoneHolds (drawing_tests (state_of state) lent before)
  pub kept : has.result ≢ 0 → has.order ≡ before
  pub written : has.result ≡ 0 → EachOnce (state_of state).counts.filled.working has.order × InOrder (box_layers (state_of state) lent) has.order

-- `oof_touch`, whatever words stand for its state: 2, 6, 4, 9. Slices and state are lent to be read only, but for the driver's slice
pub record TouchDemands (lent : Slices) (state before : List ℕ) (has : TouchReturned) : Type 0 where
  pub call : has ≡ touch_in_words lent state before
  pub refused : (n : ℕ) → n ≢ 0 → (has.result ≡ n) ↔ FirstIs (touch_tests (state_of state) lent before) n
  pub accepted : (has.result ≡ 0) ↔ NoneHolds (touch_tests (state_of state) lent before)
  pub kept : has.result ≢ 0 → has.words ≡ before
  pub written : has.result ≡ 0 → HoldsBoxes (state_of state) lent has.words

-- request #103, `oof_first_bad_word`. It refuses nothing. Result 1: a word is not allowed, by refusal 3's rules, and the two words are written:
-- the item, modulo 2 ^ 32 as all counts are, then its word. Result 0: every word is allowed, and the two words stay. This 1 is not refusal 1.
-- `some` has the condition of 3 that `OpeningDemands` and `ReplyDemands` go by
pub record BadWordDemands (styles before : List ℕ) (has : CheckReturned) : Type 0 where
  pub call : has ≡ check_in_words styles before
  pub told : (has.result ≡ 1) ⊎ (has.result ≡ 0)
  pub some : (has.result ≡ 1) ↔ StyleIsBad styles
  pub nothing : (has.result ≡ 0) ↔ AllAllowed styles
  pub written : has.result ≡ 1 → (i : ℕ) × (k : ℕ) × FirstNotAllowed styles i k × (has.found ≡ i % 4294967296 ∷ k ∷ [])
  pub kept : has.result ≡ 0 → has.found ≡ before

-- "A run asks at most three questions for each box hoisted", whatever words the host rewrites between calls: at most three for each box,
-- and none for one that isn't hoisted, which the state's word 7 tells. A preview too, whatever node and style it is given at each call
abbrev pub ThreeQuestionsEach : Type 0
ThreeQuestionsEach = (i n : ℕ) (has : Returned) → AnyCalls i n has → (n ≤ 3) × (at has.words.state 7 ≤ i → n ≡ 0)

-- request #107: "The words always add up to the run's questions answered so far, at the end the count in the finish", whatever other words the
-- host rewrites between calls; none is above that count, so that none makes a reply a wrong one. The state's word 10 is the count so far, that of
-- the replies accepted; a finish's first two words are 0 and the count
pub record AddsUp (m : ℕ) (has : Returned) : Type 0 where
  pub so_far : sum has.words.tally ≡ at has.words.state 10
  pub at_finish : has.result ≡ 0 → at has.words.answer 0 ≡ 0 → sum has.words.tally ≡ at has.words.answer 1
  pub none_above : (i : ℕ) → i < length has.words.tally → at has.words.tally i ≤ at has.words.state 10
  pub accepted : at has.words.state 10 ≡ m

abbrev pub CountsAddUp : Type 0
CountsAddUp = (m : ℕ) (has : Returned) → TallyKept m has → AddsUp m has

-- ---- Demand 2. "Questions, layouts, lists and overflow equal the definition": a run by C calls is the straight run. This holds after each
-- call, whatever replies were refused before it.

-- what the host has is where the course stands: the words of the slices, those of the tally each the number of answered questions that named
-- its item, the state that its words mean, and the answer's words, which say what comes next, also after a refused reply
pub record StandsInWords (lent : Lent) (answered : List ℕ) (has : Returned) (course : Course) : Type 0 where
  pub run :
      Stands lent answered
      (outcome (record { state = state_of has.words.state; answer = said_after (length answered) course }) has.words.layouts has.words.working has.words.unclaimed has.words.tally)
      course
  pub answer : has.words.answer ≡ answer_left (said_after (length answered) course) []

abbrev pub EqualsStraightRun : Type 0
EqualsStraightRun =
    (o : Opening) (candidates styles : List ℕ) (before : Words) (turns : List Turn) (has : Returned)
    → Run o candidates styles before turns has
    → StandsInWords (lent_in styles before) (answered_in o candidates (lent_in styles before) turns) has (course_of o candidates (lent_in styles before) turns)

-- ---- Request #109, of previews by C calls: "Its questions, layouts, lists, counts and finish equal those of a run over a copy of the table with that
-- style written in, given the same opening, lent words and replies, and at each call the same replacement and node"

-- the calls of a preview are those of such a run: so each theorem that supposes a `Run`, here and above, is one over previews. An opening that isn't
-- refused has one style record and a node below n. Other slices that are lent with a refused reply have the style written into their table too: a
-- table of another length is refused with 2 either way
abbrev pub PreviewIsARun : Type 0
PreviewIsARun =
    (node : ℕ) (style : List ℕ) (o : Opening) (candidates styles : List ℕ) (before : Words) (turns : List Turn) (has : Returned)
    → Previews node style o candidates styles before turns has
    → Run o candidates (with_style styles node style) before (map (turn_over node style) turns) has

-- so it is the straight run of boxes, with that style for its node
abbrev pub PreviewEqualsStraightRun : Type 0
PreviewEqualsStraightRun =
    (node : ℕ) (style : List ℕ) (o : Opening) (candidates styles : List ℕ) (before : Words) (turns : List Turn) (has : Returned)
    → Previews node style o candidates styles before turns has
    → let copy = over_copy node style (lent_in styles before) in
    let same = map (turn_over node style) turns in
    StandsInWords copy (answered_in o candidates copy same) has (course_of o candidates copy same)

-- the entries that read a finished run read no style: lent the table, in place of the copy, they leave the same of what a preview left
abbrev pub PreviewIsAskedByTheTable : Type 0
PreviewIsAskedByTheTable =
    (node : ℕ) (style styles : List ℕ) (left : Words) (place : ℕ) (before : List ℕ)
    → let over_copied = slices_of (lent_in (with_style styles node style) left) in
    let over_table = slices_of (lent_in styles left) in
    (reach_in_words place over_copied left.state before ≡ reach_in_words place over_table left.state before)
    × (drawing_in_words over_copied left.state before ≡ drawing_in_words over_table left.state before)
    × (touch_in_words over_copied left.state before ≡ touch_in_words over_table left.state before)

-- ---- Request #108, of runs by C calls

-- what `oof_touch` leaves of such a run, and of the driver's words as they came
abbrev pub touched_of : List ℕ → Words → List ℕ → TouchReturned
touched_of styles words five = touch_in_words (slices_of (lent_in styles words)) words.state five

-- lent five words a box, a finished run is refused with 9 alone: the call leaves the words of its hoisted nodes in turn, in an area at the
-- opening's offset; where #101 refuses the layout of one, it leaves the slice as it came
abbrev pub FinishedIsTouched : Type 0
FinishedIsTouched =
    (o : Opening) (candidates styles : List ℕ) (before : Words) (turns : List Turn) (has : Returned)
    → Run o candidates styles before turns has
    → let state = state_of has.words.state in
    state.progress ≡ None
    → (five : List ℕ) → length five ≡ touch_width * state.counts.filled.working
    → touched_of styles has.words five
    ≡ touch_told (left_by (touch_words has.words.layouts o.area.offset (nodes_of state (slices_of (lent_in styles has.words)))) five)

-- the same to the driver: one result and, where it is 0, the same words
pub record SameToDriver (a b : TouchReturned) : Type 0 where
  pub result : a.result ≡ b.result
  pub words : a.result ≡ 0 → a.words ≡ b.words

-- "Two runs with the same area and hoisted order whose layouts differ only in padding, border, margins, scrollbars, child overflow and order give
-- the driver identical words". Of the area only the offset has to be the same
abbrev pub RunsAreSeenAlike : Type 0
RunsAreSeenAlike =
    (o o' : Opening) (candidates candidates' styles styles' : List ℕ) (before before' : Words) (turns turns' : List Turn) (has has' : Returned)
    → Run o candidates styles before turns has → Run o' candidates' styles' before' turns' has'
    → let state = state_of has.words.state in
    let state' = state_of has'.words.state in
    let l = slices_of (lent_in styles has.words) in
    let l' = slices_of (lent_in styles' has'.words) in
    state.progress ≡ None → state'.progress ≡ None
    → SamePoint o.area.offset o'.area.offset
    → nodes_of state l ≡ nodes_of state' l'
    → ((place : ℕ) → place < state.counts.filled.working → SameLocationAndSize (layout_at l.layouts l.working place) (layout_at l'.layouts l'.working place))
    → (five five' : List ℕ) → length five ≡ length five'
    → SameToDriver (touched_of styles has.words five) (touched_of styles' has'.words five')

-- ---- Beyond the demands: under what demand 3 asks of area, styles, candidates and replies, but that the area's width may be 0, no box
-- meets refusal 9 (pixels_laws/specs, reach_laws/specs, touch_laws/specs)

-- the layout's words of box i, record i of the working list: they stand at its node's place, where a node claimed twice has its last layout
abbrev pub words_of_box : Words → ℕ → List ℕ
words_of_box w i = record_at layout_width w.layouts (candidate_of (record_at candidate_width w.working i)).node

abbrev pub QuartersHaveEdges : Type 0
QuartersHaveEdges =
    (o : Opening) (candidates styles : List ℕ) (before : Words) (turns : List Turn) (has : Returned)
    → AreaInQuarters o.area → QuarterTable styles → QuarterCandidates candidates
    → Run o candidates styles before turns has
    → All (QuarterHeard (claims_of o)) (heeded_in o candidates (lent_in styles before) turns)
    → let state = state_of has.words.state in
    (i : ℕ) → i < laid_count state.progress state.counts.begun
    → (edges : List ℤ) → (pixels_in_words (words_of_box has.words i) o.area.offset edges).result ≡ 0

-- nor where it is asked whether scrolling brings it up, in a finished run
abbrev pub QuartersAreAnswered : Type 0
QuartersAreAnswered =
    (o : Opening) (candidates styles : List ℕ) (before : Words) (turns : List Turn) (has : Returned)
    → AreaInQuarters o.area → QuarterTable styles → QuarterCandidates candidates
    → Run o candidates styles before turns has
    → All (QuarterHeard (claims_of o)) (heeded_in o candidates (lent_in styles before) turns)
    → let state = state_of has.words.state in
    state.progress ≡ None
    → (place : ℕ) → place < state.counts.filled.working
    → (verdict : List ℕ) → (reach_in_words place (slices_of (lent_in styles has.words)) has.words.state verdict).result ≡ 0

-- nor in what the touch driver reads of one: lent five words a box, it is accepted
abbrev pub QuartersAreTouched : Type 0
QuartersAreTouched =
    (o : Opening) (candidates styles : List ℕ) (before : Words) (turns : List Turn) (has : Returned)
    → AreaInQuarters o.area → QuarterTable styles → QuarterCandidates candidates
    → Run o candidates styles before turns has
    → All (QuarterHeard (claims_of o)) (heeded_in o candidates (lent_in styles before) turns)
    → let state = state_of has.words.state in
    state.progress ≡ None
    → (five : List ℕ) → length five ≡ touch_width * state.counts.filled.working
    → (touch_in_words (slices_of (lent_in styles has.words)) has.words.state five).result ≡ 0

-- ---- What is demanded of runs, and the theorems beyond: the function `demanded` of src/lib.rt ensures these, so that a crate without a proof of each is not proved.

pub record Demanded : Type 0 where
  pub three_questions_each : ThreeQuestionsEach
  pub counts_add_up : CountsAddUp
  pub equals_straight_run : EqualsStraightRun
  pub preview_is_a_run : PreviewIsARun
  pub preview_equals_straight_run : PreviewEqualsStraightRun
  pub preview_is_asked_by_the_table : PreviewIsAskedByTheTable
  pub quarters_have_edges : QuartersHaveEdges
  pub quarters_are_answered : QuartersAreAnswered
  pub finished_is_touched : FinishedIsTouched
  pub runs_are_seen_alike : RunsAreSeenAlike
  pub quarters_are_touched : QuartersAreTouched
