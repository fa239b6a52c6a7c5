-- The three demands, of every entry. Refusals 1 to 6 are those of `open`, `reply` and of a preview's, 7 of `from_alignment`, 8 of the programs, 9 of
-- `pixel_edges`; `reach` and `touch` have 2, 6, 4 and 9, `drawing_order` 2, 6 and 4, `check_styles` none. The demands of the C entries stand in
-- demands_c/specs. No entry asks anything of its caller, and a proved function ends, without a panic: so each of these holds for any bits in any
-- number and slices of any length.
-- `proofs/Demands.antt` proves each, under its name in small letters.
-- What document 01 leaves free is fixed by the definition all the same: what is asked and written where words were rewritten between calls or
-- a state was forged (oof_box/specs/Cut.antt), and the numbers of a refused opening's state, which are zeros.
-- Assumes nothing.
use Rattle.std.specs.Prelude.{ℕ, ◌*◌, ◌≤◌, ◌<◌, ◌↔◌, ◌≡◌, Bool, false, List, [], ◌∷◌, length, map, take, Result, Err, All, IsOk, Option, None, Ok, is_err, ⊤, Float, ℤ}
use Rattle.reach.specs.declared.Offsets.{Offsets}
use Rattle.util.specs.Laws.{AtOrAbove}
use Rattle.geometry.specs.Geometry.{sums, rect_sum}
use Rattle.geometry.specs.declared.Line.{Line}
use Rattle.geometry.specs.declared.Point.{Point}
use Rattle.geometry.specs.declared.Rect.{Rect}
use Rattle.refusal.specs.declared.Refusal.{Refusal}
use Rattle.refusal.specs.declared.Refusal.TheVariants.{BadStyle}
use Rattle.refusal.specs.Refusal.{number_of}
use Rattle.style.specs.declared.alignment.AlignItems.{AlignItems}
use Rattle.style_record.specs.Record.{style_words, items}
use Rattle.style_record.specs.Check.{bad_at, checked}
use Rattle.style_record.specs.Table.{with_style}
use Rattle.style_record.specs.declared.check.BadWord.{BadWord}
use Rattle.tree.specs.Static.{from_alignment}
use Rattle.tree.specs.declared.layout.AxisStaticPosition.{AxisStaticPosition}
use Rattle.tree.specs.declared.layout.Layout.{Layout}
use Rattle.records.specs.Records.{written}
use Rattle.tree_record.specs.Layout.{layout_width, layout_words}
use Rattle.sweep.specs.Sweep.{layers_of, claimed}
use Rattle.pixels.specs.Conditions.{pixel_tests}
use Rattle.pixels.specs.Pixels.{pixel_edges}
use Rattle.oof_box.specs.declared.question.LayoutInput.{LayoutInput}
use Rattle.oof_box.specs.declared.question.Question.TheVariants.{LayOut}
use Rattle.oof_box.specs.declared.question.Reply.{Reply}
use Rattle.oof_box.specs.declared.question.Reply.TheVariants.{LaidOut}
use Rattle.run.specs.declared.Opening.{Opening}
use Rattle.run.specs.declared.State.{State}
use Rattle.run.specs.declared.Answer.TheVariants.{Ask}
use Rattle.run.specs.Call.{Slices, Lent, Outcome, unwritten}
use Rattle.run.specs.Refusals as verdict
use Rattle.run.specs.Run.{closed, box_at_hand, extents_of, claims_of, opened}
use Rattle.run.specs.Preview.{over_copy}
use Rattle.run.specs.Conditions.{StyleIsBad, FirstNotAllowed, AllAllowed, FirstIs, NoneHolds, SideIsUnresolved, opening_tests, reply_tests, preview_opening_tests, preview_reply_tests}
use Rattle.run.specs.PreviewTheorems.{turn_over}
use Rattle.run.specs.Theorems.{Names, own, StageTellsKind, ItemIsNamed, NamedItemCounts, CountsNone, CountsOne, AddsUp, WroteSize, Turn, Stands, heeded_in, course_of, answered_in, laid_so_far, hoisted}
use Rattle.mirror_run.specs.Image.{image_styles}
use Rattle.mirror_run.specs.Quarter.{AreaInQuarters, QuarterArea, QuarterTable, QuarterCandidates}
use Rattle.mirror_run.specs.Runs.{Message, MirroredRuns, layout_of_box}
use Rattle.pixels_laws.specs.Laws.{HasEdges, QuarterHeard}
use Rattle.boxlist_lines.specs.Lines.{refusal_text}
use Rattle.reach_laws.specs.Laws.{told_of}
use Rattle.drawing_laws.specs.Laws.{all_came, KeepsLayers, SameCandidates, SameSlices, SameOutcomes, SameTurns, drawn_of}
use Rattle.reach.specs.Conditions.{reach_tests}
use Rattle.reach.specs.Reach.{reached}
use Rattle.drawing.specs.Conditions.{drawing_tests}
use Rattle.drawing.specs.Drawing.{drawing_order, box_layers, Drawn, drawn}
use Rattle.drawing.specs.Laws.{EachOnce, InOrder}
use Rattle.touch.specs.Conditions.{touch_tests}
use Rattle.touch.specs.Touch.{touch_width, touch_words, Touched, left_by, touched}
use Rattle.touch.specs.Laws.{HoldsBoxes, SameToDriver}
use Rattle.touch_laws.specs.Laws.{touched_of, StandAlike}
use Rattle.boxlist_print.specs.declared.Listing.{Listing}
use Rattle.boxlist_print.specs.Rows.{Prints}
use Rattle.boxlist_print.specs.Printed.{printed}
use Rattle.boxlist_print.specs.Laws.{program_tests, IsList, RunIsListed, OnlyNineInRows}
use Rattle.demands.specs.Entries.{Opens, RepliesTo, PreviewOpens, PreviewRepliesTo, AnyCalls, TallyKept, Takes, Run, RefusedSince, PreviewTakes, Previews, PreviewRefusedSince, BothRuns, BothPreviews, AfterEach}

-- ---- Demand 1. "Whoever calls an entry, with any bits in any number and slices of any length, gets its answer (in a run, a question or
-- finish) or one of document 01's refusals 1 to 8, each exactly under its stated condition. A refusal writes no lent word and returns the
-- state as it came." The conditions, in document 01's words and order, stand in run/specs/Conditions.antt. By request #101 the refusals
-- are 1 to 9, and each later number joins them; the condition of 9 stands in pixels/specs/Conditions.antt. A part that reads a finished run
-- (request #102) tests 2, 6 and 4 as finished/specs/Conditions.antt says, then its own.

-- an opening. It has no state that came: refused, it returns that of a finished run with all counts 0
pub record OpeningDemands (o : Opening) (candidates : List ℕ) (lent : Lent) (has : Outcome) : Type 0 where
  -- what the theorems over runs suppose of a call
  pub call : Opens o candidates lent has
  pub refused : (r : Refusal) → (has.step.answer ≡ Err r) ↔ FirstIs (opening_tests o candidates lent) (number_of r)
  pub accepted : (is_err has.step.answer ≡ false) ↔ NoneHolds (opening_tests o candidates lent)
  pub kept : (r : Refusal) → has.step.answer ≡ Err r → has ≡ unwritten lent (record { state = closed lent; answer = Err r })
  -- request #107: "opening clears it"
  pub cleared : is_err has.step.answer ≡ false → CountsNone lent has

-- Of demand 2, the law of the final size: the words that an accepted lay-out reply writes, from any state, forged ones too, are those of a
-- layout whose size is no NaN and at least padding plus border, on each axis where that sum isn't NaN
pub record SizedLayout (s : State) (lent : Lent) (layouts : List ℕ) : Type 0 where
  pub layout : Layout
  pub wrote : layouts ≡ written lent.layouts (layout_width * (box_at_hand lent.working s.counts).node) (layout_words layout)
  pub width : AtOrAbove (sums (rect_sum layout.padding layout.border)).width layout.size.width
  pub height : AtOrAbove (sums (rect_sum layout.padding layout.border)).height layout.size.height

abbrev pub SizeLaw : State → Reply → Lent → Outcome → Type 0
SizeLaw s reply lent has = (overflow : Rect Float) → reply ≡ LaidOut overflow → is_err has.step.answer ≡ false → SizedLayout s lent has.layouts

-- a reply, whatever the state that is given with it
pub record ReplyDemands (s : State) (reply : Reply) (surfaced : List ℕ) (lent : Lent) (has : Outcome) : Type 0 where
  pub call : RepliesTo s reply surfaced lent has
  pub refused : (r : Refusal) → (has.step.answer ≡ Err r) ↔ FirstIs (reply_tests s reply surfaced lent) (number_of r)
  pub accepted : (is_err has.step.answer ≡ false) ↔ NoneHolds (reply_tests s reply surfaced lent)
  pub kept : (r : Refusal) → has.step.answer ≡ Err r → has ≡ unwritten lent (record { state = s; answer = Err r })
  pub size : SizeLaw s reply lent has
  -- request #107: one question more is answered, for one item
  pub counted : is_err has.step.answer ≡ false → CountsOne s lent has

-- request #109, a preview's opening. "The live table and run keep every word": it is lent styles and replacement to be read only, as their types say;
-- that the live run's layouts, lists, tally and state aren't lent to it is the host's part. Of its own slices a refused call keeps every word
pub record PreviewOpeningDemands (o : Opening) (candidates : List ℕ) (node : ℕ) (style : List ℕ) (lent : Lent) (has : Outcome) : Type 0 where
  pub call : PreviewOpens node style o candidates lent has
  pub refused : (r : Refusal) → (has.step.answer ≡ Err r) ↔ FirstIs (preview_opening_tests o candidates node style lent) (number_of r)
  pub accepted : (is_err has.step.answer ≡ false) ↔ NoneHolds (preview_opening_tests o candidates node style lent)
  pub kept : (r : Refusal) → has.step.answer ≡ Err r → has ≡ unwritten lent (record { state = closed lent; answer = Err r })
  pub cleared : is_err has.step.answer ≡ false → CountsNone lent has
  -- with one style record for a node below n it is the opening over a copy of the table with that style written in, refused or not
  pub over : length style ≡ style_words → node < items lent.styles → Opens o candidates (over_copy node style lent) has

-- and a reply to it, whatever the state, also one that a live call returned
pub record PreviewReplyDemands (s : State) (reply : Reply) (surfaced : List ℕ) (node : ℕ) (style : List ℕ) (lent : Lent) (has : Outcome) : Type 0 where
  pub call : PreviewRepliesTo node style s reply surfaced lent has
  pub refused : (r : Refusal) → (has.step.answer ≡ Err r) ↔ FirstIs (preview_reply_tests s reply surfaced node style lent) (number_of r)
  pub accepted : (is_err has.step.answer ≡ false) ↔ NoneHolds (preview_reply_tests s reply surfaced node style lent)
  pub kept : (r : Refusal) → has.step.answer ≡ Err r → has ≡ unwritten lent (record { state = s; answer = Err r })
  pub size : SizeLaw s reply lent has
  pub counted : is_err has.step.answer ≡ false → CountsOne s lent has
  pub over : length style ≡ style_words → node < items lent.styles → RepliesTo s reply surfaced (over_copy node style lent) has

-- `from_alignment`: 7
pub record AlignmentDemands (a : AlignItems) (area : Line Float) (rtl : Bool) (r : Result AxisStaticPosition Refusal) : Type 0 where
  pub call : r ≡ from_alignment a area rtl
  pub refused : (q : Refusal) → (r ≡ Err q) ↔ FirstIs ((7, SideIsUnresolved a) ∷ []) (number_of q)

-- `pixel_edges`: 9
pub record PixelsDemands (layout : Layout) (offset : Point Float) (r : Result (Rect ℤ) Refusal) : Type 0 where
  pub call : r ≡ pixel_edges layout offset
  pub refused : (q : Refusal) → (r ≡ Err q) ↔ FirstIs (pixel_tests layout offset) (number_of q)
  pub accepted : IsOk r ↔ NoneHolds (pixel_tests layout offset)

-- `reach`: 2, 6, 4, 9. It is lent slices that it can't write, and returns no state
pub record ReachDemands (place : ℕ) (s : State) (lent : Slices) (r : Result (Option Offsets) Refusal) : Type 0 where
  pub call : r ≡ reached place s lent
  pub refused : (q : Refusal) → (r ≡ Err q) ↔ FirstIs (reach_tests place s lent) (number_of q)
  pub answered : IsOk r ↔ NoneHolds (reach_tests place s lent)

-- `drawing_order`: 2, 6, 4. It can write one slice, that of the order: refused, its words stay; accepted, each box's place stands there once,
-- lower layers first, and within one layer in the hoisted order
pub record DrawingDemands (s : State) (lent : Slices) (before : List ℕ) (has : Drawn) : Type 0 where
  pub call : has ≡ drawn s lent before
  pub refused : (q : Refusal) → (has.verdict ≡ verdict.refused q) ↔ FirstIs (drawing_tests s lent before) (number_of q)
  pub accepted : (has.verdict ≡ verdict.accepted) ↔ NoneHolds (drawing_tests s lent before)
  pub kept : (q : Refusal) → has.verdict ≡ verdict.refused q → has.order ≡ before
  pub in_order : has.verdict ≡ verdict.accepted → EachOnce s.counts.filled.working has.order × InOrder (box_layers s lent) has.order

-- request #108, `touch`: 2, 6, 4, 9. It can write one slice, the driver's: refused, its words stay; accepted, they are "five words a box, in hoisted
-- order: node, and its layout's pixel edges of #101 in their order, negative ones in two's complement"
pub record TouchDemands (s : State) (lent : Slices) (before : List ℕ) (has : Touched) : Type 0 where
  pub call : has ≡ touched s lent before
  pub refused : (q : Refusal) → (has.verdict ≡ verdict.refused q) ↔ FirstIs (touch_tests s lent before) (number_of q)
  pub accepted : (has.verdict ≡ verdict.accepted) ↔ NoneHolds (touch_tests s lent before)
  pub kept : (q : Refusal) → has.verdict ≡ verdict.refused q → has.words ≡ before
  pub boxes : has.verdict ≡ verdict.accepted → HoldsBoxes s lent has.words

-- request #103. `check_styles` refuses nothing: "it names that item and the first of its words, in record order from 0, that breaks one, or
-- nothing exactly when no word of the table does". The rules are refusal 3's, and it names a word exactly where 3's condition holds. The table
-- is its whole records, however many: a part of one behind them is no item, and an opening or a reply that lends it is refused before 3
pub record CheckDemands (styles : List ℕ) (r : Result ⊤ BadWord) : Type 0 where
  pub call : r ≡ checked styles
  pub named : (i k : ℕ) → (r ≡ bad_at i k) ↔ FirstNotAllowed styles i k
  pub nothing : (r ≡ Ok tt) ↔ AllAllowed styles
  pub some : Names r ↔ StyleIsBad styles

-- the programs: 8, then 1, 3 and 4 of the run that the screen scripts. Each prints the refusal's line, or its list: of boxes or of verdicts
pub record ScreenDemands (listing : Listing) (text : List ℕ) (r : ℕ) (before after : List ℕ) : Type 0 where
  pub call : Prints r before after (printed listing text)
  pub refused : (q : Refusal) → (printed listing text ≡ refusal_text (number_of q)) ↔ FirstIs (program_tests text) (number_of q)
  pub listed : IsList listing (printed listing text) ↔ NoneHolds (program_tests text)

-- request #103: the check and refusal 3 agree. Once the two tests before 3 are passed, an opening is refused with 3 exactly where the check
-- names a word of its styles, and so is a reply. ("Every call's answer stays as it was" is no statement here: the conditions in `opening_tests`
-- and `reply_tests` are the ones that were there, and `OpeningDemands` and `ReplyDemands` go by them. Nor does one speak of time: for openings
-- and replies alike `is_style_bad` of placer_check calls `check_styles`, and bench measures the check alone and an opening.)
abbrev pub OpeningsGoByTheCheck : Type 0
OpeningsGoByTheCheck =
    (o : Opening) (candidates : List ℕ) (lent : Lent) (has : Outcome) → Opens o candidates lent has
    → NoneHolds (take 2 (opening_tests o candidates lent))
    → (has.step.answer ≡ Err BadStyle) ↔ Names (checked lent.styles)

abbrev pub RepliesGoByTheCheck : Type 0
RepliesGoByTheCheck =
    (s : State) (reply : Reply) (surfaced : List ℕ) (lent : Lent) (has : Outcome) → RepliesTo s reply surfaced lent has
    → NoneHolds (take 2 (reply_tests s reply surfaced lent))
    → (has.step.answer ≡ Err BadStyle) ↔ Names (checked lent.styles)

-- "A run asks at most three questions for each box hoisted", whatever words the host rewrites between calls: at most three for each box, none
-- for one that isn't hoisted, and no others. A preview too, whatever node and style it is given at each call
abbrev pub ThreeQuestionsEach : Type 0
ThreeQuestionsEach =
    (i n m : ℕ) (has : Outcome) → AnyCalls i n m has
    → let hoisted = has.step.state.counts.filled.working in
    (n ≤ 3) × (hoisted ≤ i → n ≡ 0) × (m ≤ 3 * hoisted)

-- request #107: "The words always add up to the run's questions answered so far, at the end the count in the finish", and none of them makes a
-- reply a wrong one. "This holds after an opening that isn't refused, while nobody else writes the slice between calls and each call gets the
-- state that the last one returned": all other words may be rewritten, or other slices lent in their place. The questions answered are the
-- replies accepted. So it is of a preview, whatever node and style it is given at each call
abbrev pub CountsAddUp : Type 0
CountsAddUp = (m : ℕ) (has : Outcome) → TallyKept m has → AddsUp has × (has.step.state.counts.answered ≡ m)

-- ---- Demand 2. "CSS .. gives the definition, each operation rounded once in 01's order; questions, layouts, lists and overflow equal it." The
-- contracts are equations with the definition, and by it the calls are the straight run (run/specs/Straight.antt) of boxes that each read
-- straight through (oof_box/specs/Box.antt). This holds after each call, whatever replies were refused before it.
-- That the definition is CSS's is no theorem. What holds it to CSS: the laws of one axis and of one box (oof_axis/specs/Laws.antt,
-- oof_axis_laws/specs, oof_box_laws/specs), document 01's rows, and the differential runs beside the Rust
-- or, for size keywords off request #106's set, a second implementation (docs/DIFFERENCES.md).

abbrev pub EqualsStraightRun : Type 0
EqualsStraightRun =
    (o : Opening) (candidates : List ℕ) (lent : Lent) (turns : List Turn) (has : Outcome)
    → Run o candidates lent turns has
    → Stands lent (answered_in o candidates lent turns) has (course_of o candidates lent turns)

-- the size told in a lay-out question is the size written, at the place of the node that it names, whatever replies were refused in between
abbrev pub LaidOutAsAsked : Type 0
LaidOutAsAsked =
    (o : Opening) (candidates : List ℕ) (lent : Lent) (turns : List Turn) (asked before has : Outcome)
    → Run o candidates lent turns asked
    → (input : LayoutInput) → asked.step.answer ≡ Ok (Ask (LayOut input))
    → RefusedSince lent.styles asked before
    → (overflow : Rect Float) (surfaced : List ℕ) → Takes lent.styles before (record { reply = LaidOut overflow; surfaced = surfaced }) own has
    → is_err has.step.answer ≡ false
    → WroteSize input asked.layouts has.layouts

-- ---- Demand 3. "Take a left-to-right run and its mirror image .. Let the host give both any one list of replies, refused ones included, each
-- with the state that the last call returned, while nobody else writes the lent words. After opening and after each reply both have given
-- the same question, finish or refusal .." (mirror_run/specs/Quarter.antt has what is asked of area, styles and candidates,
-- mirror_run/specs/Runs.antt what is asked of a reply and what the two then have in common)

-- P holds of what the host has of a run and of its image, after the opening and after each reply
abbrev pub OfImages : (Opening → List ℕ → Lent → Lent → Outcome → Outcome → Type 0) → Type 0
OfImages P =
    (o : Opening) (candidates : List ℕ) (lent lent' : Lent) (messages : List Message) (has has' : Outcome)
    → QuarterArea o.area → QuarterTable lent.styles → QuarterCandidates candidates
    -- the image's slices are as long; but for its styles they may hold any words
    → lent'.styles ≡ image_styles lent.styles → extents_of lent ≡ extents_of lent'
    → (both : BothRuns o candidates lent lent' messages has has')
    → AfterEach (P o candidates lent lent') both

-- request #104: "the mirrored screens keep equal layers", in both lists (`layer` of `CandidateImage` and of `SameButX`). Request #107: both have
-- equal tallies (`tally`), unless the opening was refused: then neither is written
abbrev pub AreMirrored : Opening → List ℕ → Lent → Lent → Outcome → Outcome → Type 0
AreMirrored o candidates lent lent' has has' = MirroredRuns o.area (opened o candidates lent) has has'

abbrev pub MirrorImage : Type 0
MirrorImage = OfImages AreMirrored

-- request #102: so is what is told of reaching a box. At every place both are seen at the same offsets, or unseen, or refused with the same
-- number
abbrev pub AreToldAlike : Opening → List ℕ → Lent → Lent → Outcome → Outcome → Type 0
AreToldAlike o candidates lent lent' has has' = (place : ℕ) → told_of place lent.styles has ≡ told_of place lent'.styles has'

abbrev pub MirroredReach : Type 0
MirroredReach = OfImages AreToldAlike

-- request #104: so is the drawing order. With any words in its slice, a drawing call leaves the same in both, or is refused with the same
-- number
abbrev pub AreDrawnAlike : Opening → List ℕ → Lent → Lent → Outcome → Outcome → Type 0
AreDrawnAlike o candidates lent lent' has has' = (before : List ℕ) → drawn_of before lent.styles has ≡ drawn_of before lent'.styles has'

abbrev pub MirroredDrawing : Type 0
MirroredDrawing = OfImages AreDrawnAlike

-- ---- Request #104, of runs (drawing_laws/specs has the law of one box, and of any one call from any state). ("Comparison with the Rust drops
-- the word from every record" is no statement here: the differential runs beside the Rust compare all other words, and hold the layers to
-- the input's (diff/runs); by `PlacementReadsNoLayer` what is compared doesn't depend on the layers chosen.)

-- working and unclaimed records have the layers of the candidates that came, in turn: the opening's, then those that each reply that wasn't
-- refused surfaced
abbrev pub LayersAreKept : Type 0
LayersAreKept =
    (o : Opening) (candidates : List ℕ) (lent : Lent) (turns : List Turn) (has : Outcome)
    → Run o candidates lent turns has
    → KeepsLayers (claims_of o) (all_came candidates (heeded_in o candidates lent turns)) has

-- so a finished run is drawn, by the layers that came: lent a slice of one word a box, a drawing call is accepted, and its order is that of the
-- layers of the claimed candidates, surfaced ones included, whatever the numbers of the run
abbrev pub FinishedIsDrawn : Type 0
FinishedIsDrawn =
    (o : Opening) (candidates : List ℕ) (lent : Lent) (turns : List Turn) (has : Outcome) (before : List ℕ)
    → Run o candidates lent turns has
    → has.step.state.progress ≡ None → length before ≡ has.step.state.counts.filled.working
    → let boxes = claimed (claims_of o) (all_came candidates (heeded_in o candidates lent turns)) in
    drawn_of before lent.styles has ≡ record { verdict = verdict.accepted; order = drawing_order (layers_of boxes) }

-- "Placement doesn't read the layer": two runs whose candidates, surfaced records and lists differ in layers only, all of them allowed, have the
-- same answer, state, layouts and tally, and lists that differ in layers only
abbrev pub PlacementReadsNoLayer : Type 0
PlacementReadsNoLayer =
    (o : Opening) (candidates candidates' : List ℕ) (lent lent' : Lent) (turns turns' : List Turn) (has has' : Outcome)
    → SameCandidates candidates candidates' → SameSlices lent lent' → SameTurns turns turns'
    → Run o candidates lent turns has
    → Run o candidates' lent' turns' has'
    → SameOutcomes has has'

-- ---- Request #108, of runs

-- lent a slice of five words a box, a call for the driver is accepted or refused with 9: it leaves the words of the hoisted nodes in turn, in an area
-- at the opening's offset, or, where the layout of one has no pixel edges there, the slice as it came
abbrev pub FinishedIsTouched : Type 0
FinishedIsTouched =
    (o : Opening) (candidates : List ℕ) (lent : Lent) (turns : List Turn) (has : Outcome) (before : List ℕ)
    → Run o candidates lent turns has
    → has.step.state.progress ≡ None → length before ≡ touch_width * has.step.state.counts.filled.working
    → touched_of before lent.styles has ≡ left_by (touch_words has.layouts o.area.offset (hoisted has)) before

-- "Two runs with the same area and hoisted order whose layouts differ only in padding, border, margins, scrollbars, child overflow and order give
-- the driver identical words", or are refused with the same number, whatever stood in the two slices. Of the area only the offset has to be the
-- same
abbrev pub RunsAreSeenAlike : Type 0
RunsAreSeenAlike =
    (o o' : Opening) (candidates candidates' : List ℕ) (lent lent' : Lent) (turns turns' : List Turn) (has has' : Outcome) (before before' : List ℕ)
    → Run o candidates lent turns has
    → Run o' candidates' lent' turns' has'
    → has.step.state.progress ≡ None → has'.step.state.progress ≡ None
    → StandAlike o o' has has' → length before ≡ length before'
    → SameToDriver (touched_of before lent.styles has) (touched_of before' lent'.styles has')

-- ---- Request #109, of previews: "Its questions, layouts, lists, counts and finish equal those of a run over a copy of the table with that style
-- written in, given the same opening, lent words and replies, and at each call the same replacement and node"

-- the calls of a preview are those of such a run: so each theorem that supposes a `Run`, here and above, is one over previews. An opening that isn't
-- refused has one style record and a node below n. (Refused openings too: `PreviewIsTheCopy` of run/specs/PreviewTheorems.antt.) Other slices that are
-- lent with a refused reply have the style written into their table too: a table of another length is refused with 2 either way
abbrev pub PreviewIsARun : Type 0
PreviewIsARun =
    (node : ℕ) (style : List ℕ) (o : Opening) (candidates : List ℕ) (lent : Lent) (turns : List Turn) (has : Outcome)
    → Previews node style o candidates lent turns has
    → Run o candidates (over_copy node style lent) (map (turn_over node style) turns) has

-- so it is the straight run of boxes, with that style for its node
abbrev pub PreviewEqualsStraightRun : Type 0
PreviewEqualsStraightRun =
    (node : ℕ) (style : List ℕ) (o : Opening) (candidates : List ℕ) (lent : Lent) (turns : List Turn) (has : Outcome)
    → Previews node style o candidates lent turns has
    → let copy = over_copy node style lent in
    let same = map (turn_over node style) turns in
    Stands copy (answered_in o candidates copy same) has (course_of o candidates copy same)

-- and the size told in a lay-out question is the size written
abbrev pub PreviewLaidOutAsAsked : Type 0
PreviewLaidOutAsAsked =
    (node : ℕ) (style : List ℕ) (o : Opening) (candidates : List ℕ) (lent : Lent) (turns : List Turn) (asked before has : Outcome)
    → Previews node style o candidates lent turns asked
    → (input : LayoutInput) → asked.step.answer ≡ Ok (Ask (LayOut input))
    → PreviewRefusedSince node style lent.styles asked before
    → (overflow : Rect Float) (surfaced : List ℕ)
    → PreviewTakes node style lent.styles before (record { reply = LaidOut overflow; surfaced = surfaced }) own has
    → is_err has.step.answer ≡ false
    → WroteSize input asked.layouts has.layouts

-- the parts that read a finished run read no style: asked with the table, in place of the copy, they tell the same of what a preview left
abbrev pub PreviewIsAskedByTheTable : Type 0
PreviewIsAskedByTheTable =
    (node : ℕ) (style styles : List ℕ) (has : Outcome) (place : ℕ) (before : List ℕ)
    → let copy = with_style styles node style in
    (told_of place copy has ≡ told_of place styles has) × (drawn_of before copy has ≡ drawn_of before styles has) × (touched_of before copy has ≡ touched_of before styles has)

-- and demand 3 holds of previews. Take a preview with one style record for a node below n (another opening is refused with 2 or 4, or for what is tested
-- before), and the preview of the screen's mirror image with the same node and the mirror image of the style at each call. P holds of what the host has
-- of both, after the opening and after each reply. P is told of the two copies in place of the two tables, so that the opening that it may speak of is
-- the copy's, which is the preview's. What demand 3 supposes of the table is supposed of the copy. (That the tables themselves are mirror images is
-- more than is needed: their own records of the node have no say.)
abbrev pub OfPreviewImages : (Opening → List ℕ → Lent → Lent → Outcome → Outcome → Type 0) → Type 0
OfPreviewImages P =
    (node : ℕ) (style : List ℕ) (o : Opening) (candidates : List ℕ) (lent lent' : Lent) (messages : List Message) (has has' : Outcome)
    → length style ≡ style_words → node < items lent.styles
    → QuarterArea o.area → QuarterTable (with_style lent.styles node style) → QuarterCandidates candidates
    → lent'.styles ≡ image_styles lent.styles
    -- the image's slices are as long; but for its styles they may hold any words
    → extents_of lent ≡ extents_of lent'
    → (both : BothPreviews node style o candidates lent lent' messages has has')
    → AfterEach (P o candidates (over_copy node style lent) (over_copy node (image_styles style) lent')) both

-- so the two are a run and its mirror image
abbrev pub PreviewMirrorImage : Type 0
PreviewMirrorImage = OfPreviewImages AreMirrored

-- and what is told of reaching a box, and the drawing order, are the same in both: asked with the copies, and by `PreviewIsAskedByTheTable` with the
-- tables lent
abbrev pub PreviewMirroredReach : Type 0
PreviewMirroredReach = OfPreviewImages AreToldAlike

abbrev pub PreviewMirroredDrawing : Type 0
PreviewMirroredDrawing = OfPreviewImages AreDrawnAlike

-- ---- Beyond the demands: under what demand 3 asks of area, styles, candidates and replies, but that the area's width may be 0, no box
-- meets refusal 9 (pixels_laws/specs, reach_laws/specs, touch_laws/specs)

abbrev pub QuartersHaveEdges : Type 0
QuartersHaveEdges =
    (o : Opening) (candidates : List ℕ) (lent : Lent) (turns : List Turn) (has : Outcome)
    → AreaInQuarters o.area → QuarterTable lent.styles → QuarterCandidates candidates
    → Run o candidates lent turns has
    → All (QuarterHeard (claims_of o)) (heeded_in o candidates lent turns)
    → (i : ℕ) → i < laid_so_far has → HasEdges (layout_of_box has i) o.area.offset

-- nor where it is asked whether scrolling brings it up, in a finished run
abbrev pub QuartersAreAnswered : Type 0
QuartersAreAnswered =
    (o : Opening) (candidates : List ℕ) (lent : Lent) (turns : List Turn) (has : Outcome)
    → AreaInQuarters o.area → QuarterTable lent.styles → QuarterCandidates candidates
    → Run o candidates lent turns has
    → All (QuarterHeard (claims_of o)) (heeded_in o candidates lent turns)
    → has.step.state.progress ≡ None
    → (place : ℕ) → place < has.step.state.counts.filled.working → IsOk (told_of place lent.styles has)

-- nor in what the touch driver reads of one: lent five words a box, it is accepted
abbrev pub QuartersAreTouched : Type 0
QuartersAreTouched =
    (o : Opening) (candidates : List ℕ) (lent : Lent) (turns : List Turn) (has : Outcome) (before : List ℕ)
    → AreaInQuarters o.area → QuarterTable lent.styles → QuarterCandidates candidates
    → Run o candidates lent turns has
    → All (QuarterHeard (claims_of o)) (heeded_in o candidates lent turns)
    → has.step.state.progress ≡ None → length before ≡ touch_width * has.step.state.counts.filled.working
    → (touched_of before lent.styles has).verdict ≡ verdict.accepted

-- ---- What is demanded of runs, and the theorems beyond: the function `demanded` of src/lib.rt ensures these, so that a crate without a proof of each is not proved.

pub record Demanded : Type 0 where
  pub three_questions_each : ThreeQuestionsEach
  -- the kind of reply that a state waits for is that of the question that its call asked, whatever the words
  pub stage_tells_kind : StageTellsKind
  -- and the item that it named is that of the box's record
  pub item_is_named : ItemIsNamed
  -- so an accepted reply counts for the item that the question named, while that record stands
  pub named_item_counts : NamedItemCounts
  pub counts_add_up : CountsAddUp
  pub openings_go_by_the_check : OpeningsGoByTheCheck
  pub replies_go_by_the_check : RepliesGoByTheCheck
  pub equals_straight_run : EqualsStraightRun
  pub laid_out_as_asked : LaidOutAsAsked
  pub mirror_image : MirrorImage
  pub mirrored_reach : MirroredReach
  pub mirrored_drawing : MirroredDrawing
  pub layers_are_kept : LayersAreKept
  pub finished_is_drawn : FinishedIsDrawn
  pub placement_reads_no_layer : PlacementReadsNoLayer
  pub finished_is_touched : FinishedIsTouched
  pub runs_are_seen_alike : RunsAreSeenAlike
  pub preview_is_a_run : PreviewIsARun
  pub preview_equals_straight_run : PreviewEqualsStraightRun
  pub preview_laid_out_as_asked : PreviewLaidOutAsAsked
  pub preview_mirror_image : PreviewMirrorImage
  pub preview_mirrored_reach : PreviewMirroredReach
  pub preview_mirrored_drawing : PreviewMirroredDrawing
  pub preview_is_asked_by_the_table : PreviewIsAskedByTheTable
  pub quarters_have_edges : QuartersHaveEdges
  pub quarters_are_answered : QuartersAreAnswered
  pub quarters_are_touched : QuartersAreTouched
  -- what a program lists is the run that the screen scripts, and a row of verdicts says seen, unseen or refused 9
  pub run_is_listed : RunIsListed
  pub only_nine_in_rows : OnlyNineInRows
