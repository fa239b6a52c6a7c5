-- Demands 1 and 2 of the C entries. Assumes nothing.
use Prim.Native.Nat.{ℕ, ◌+◌, ◌*◌, ◌<◌, ◌≤◌}
use native.Mathlib.Omega.{arith}
use mathlib.Core.Bool.{Bool, true, false, cond, not, ◌&&◌}
use mathlib.Core.List.{List, [], ◌∷◌, ◌++◌, map, map-append, foldl, foldl-append}
use mathlib.Core.Logic.{◌↔◌, ◌≢◌, inl, inr}
use mathlib.Core.Path.{◌≡◌, refl, sym, ap, subst, ◌∙◌}
use lib.Dec.{eqb, leb}
use lib.IntN.{ℤ}
use lib.ListN.{length}
use borrow.Author.Tests.{ne_eqb, eq-eqb}
use Rattle.reach.specs.declared.Offsets.{Offsets}
use Rattle.std.specs.Prelude.{Result, is_err, Some, None, Ok, Err, IsOk, Option, sum, ⊤, Float}
use Rattle.util.proofs.Floats.{no}
use Rattle.geometry.specs.declared.Point.{Point}
use Rattle.refusal.specs.Refusal.{number_of}
use Rattle.refusal.specs.declared.Refusal.{Refusal}
use Rattle.style_record.specs.Record.{style_words, items}
use Rattle.style_record.specs.Check.{checked}
use Rattle.style_record.specs.Table.{with_style}
use Rattle.style_record.proofs.Copies.{copy_is_as_long}
use Rattle.style_record.specs.declared.check.BadWord.{BadWord}
use Rattle.tree_record.specs.Layout.{layout_of}
use Rattle.pixels.specs.Conditions.{pixel_tests}
use Rattle.pixels.specs.Pixels.{pixel_edges}
use Rattle.geometry.specs.declared.Rect.{Rect}
use Rattle.oof_box.specs.declared.question.Question.{Question}
use Rattle.oof_box.specs.declared.question.Question.TheVariants.{MeasureBoth, MeasureWidth, MeasureHeight, LayOut}
use Rattle.oof_box.specs.declared.question.Reply.{Reply}
use Rattle.run.specs.Call.{Slices, Lent, slices_of, Outcome, outcome}
use Rattle.run.specs.Conditions.{item_words, FirstIs, NoneHolds, opening_tests, reply_tests, preview_opening_tests, preview_reply_tests}
use Rattle.run.specs.Preview.{preview_opened, preview_replied}
use Rattle.run.specs.Run.{closed, refusing_opening, begun, opened, replied}
use Rattle.run.specs.Straight.{Course, ended, asks}
use Rattle.run.specs.PreviewTheorems.{loan_over, turn_over}
use Rattle.run.specs.Theorems.{one_if_asked, Heard, Loan, own, other, Turn, turned, next, next_with, AllLend, Stands, said_after, open_in, called, answered_in, course_of, laid_count, AddsUp}
use Rattle.run.specs.Theorems as run
use Rattle.run.specs.declared.Answer.{Answer}
use Rattle.run.specs.declared.Answer.TheVariants.{Ask, Finish}
use Rattle.run.specs.declared.Finish as ending
use Rattle.run.specs.declared.Extents.{Extents}
use Rattle.run.specs.declared.Opened.{Opened}
use Rattle.run.specs.declared.Opening.{Opening}
use Rattle.run.specs.declared.State.{State}
use Rattle.run.specs.declared.Step.{Step}
use Rattle.run.proofs.ByBox.{ForBox, opening_for, reply_for}
use Rattle.run.proofs.Exactly.{opening_refused_exactly, opening_accepted_exactly, reply_refused_exactly, reply_accepted_exactly}
use Rattle.run.proofs.PreviewCalls.{PreviewOpeningWay, preview_opening_way, PreviewReplyWay, preview_reply_way, preview_opening_counts_none, preview_reply_counts_one, opened_with, opening_extents, reply_opened, same_reply}
use Rattle.run.proofs.Preview.{preview_opening_is_the_copys, preview_opening_refused_exactly, preview_opening_accepted_exactly, refused_preview_opening_keeps, preview_reply_is_the_copys, preview_reply_refused_exactly, preview_reply_accepted_exactly, refused_preview_reply_keeps}
use Rattle.run.proofs.Named.{named_exactly, nothing_exactly}
use Rattle.run.proofs.Questions.{Hoisted, opening_hoisted, reply_hoisted}
use Rattle.run.proofs.Refusals.{begun_accepts, saying, turn_refused}
use Rattle.run.proofs.Straight.{straight_run}
use Rattle.run.proofs.Sums.{opening_counts_none, reply_counts_one, replies_are_counted, opening_adds_up, reply_adds_up}
use Rattle.std.proofs.lemmas.List.Sums.{get_or-le-sum_by}
use Rattle.run.proofs.Ways.{OpeningWay, begins, opening_way}
use Rattle.oof_c_words.specs.StateWords.{at, count_word, state_of, state_words, counts_in, progress_of, progress_code}
use Rattle.oof_c_words.specs.AnswerWords.{question_words, measure_words, lay_out_words, finish_words}
use Rattle.oof_c_words.specs.Entry.{Words, words, Returned, lent_in, result_of, answer_left, state_left, after_opening, after_reply, opened_in_words, replied_in_words, preview_opened_in_words, preview_replied_in_words}
use Rattle.pixels.specs.Told.{PixelsReturned, edges_told}
use Rattle.oof_c_words.specs.PixelWords.{pixels_in_words}
use Rattle.oof_c_words.specs.Laws.{FitsReply}
use Rattle.oof_c_words.proofs.Laws.{accepted_is_zero, refused_is_not, refused_opening_closes, refused_reply_writes_nothing}
use Rattle.oof_c_words.proofs.Kept.{opening_is_kept, reply_is_kept}
use Rattle.pixels_laws.proofs.Run.{run_has_edges}
use Rattle.pixels_laws.proofs.Tests.{refused_first, edges_first}
use Rattle.finished.specs.Finished.{finished_verdict}
use Rattle.reach.specs.Conditions.{reach_tests}
use Rattle.reach.specs.Reach.{reached}
use Rattle.reach.specs.Told.{ReachReturned, verdict_told}
use Rattle.reach.proofs.Exactly as exactly
use Rattle.reach_laws.proofs.Answered.{quarters_are_answered as all_answered}
use Rattle.oof_c_words.specs.CheckWords.{CheckReturned, check_told, check_in_words}
use Rattle.oof_c.specs.ReachWords.{reach_in_words}
use Rattle.oof_c.specs.DrawingWords.{DrawingReturned, verdict_number, drawing_in_words}
use Rattle.drawing.specs.Conditions.{drawing_tests}
use Rattle.drawing.specs.Drawing.{draw_verdict, drawn}
use Rattle.drawing.proofs.Exactly as drawing
use Rattle.oof_c.specs.TouchWords.{TouchReturned, touch_in_words, touch_told}
use Rattle.touch.specs.Conditions.{touch_tests}
use Rattle.touch.specs.Touch.{touch_width, Touched, touched}
use Rattle.touch.proofs.Exactly as touch
use Rattle.touch.specs.Laws.{SameToDriver as Alike}
use Rattle.touch_laws.proofs.Runs.{finished_is_touched as run-gives, quarters_are_touched as run-is-touched, runs_are_seen_alike as runs-alike}
use Rattle.run.specs.Refusals.{Verdict, accepted, refused, bad_slices, bad_table, other_lengths, bad_candidate}
use Rattle.demands_c.specs.Calls.{Opens, RepliesTo, PreviewOpens, PreviewRepliesTo, OpensAny, RepliesToAny, FitsOpening, asked_for, AnyCalls, one_if_accepted, TallyKept, TakesBy, Takes, Lends, RunBy, Run, Previews}
use Rattle.demands_c.specs.Demands.{OpeningDemands, ReplyDemands, PreviewOpeningDemands, PreviewReplyDemands, PreviewIsARun, PreviewEqualsStraightRun, PreviewIsAskedByTheTable, PixelsDemands, VerdictIn, ReachDemands, DrawingDemands, TouchDemands, BadWordDemands, ThreeQuestionsEach, CountsAddUp, StandsInWords, EqualsStraightRun, QuartersHaveEdges, QuartersAreAnswered, SameToDriver, FinishedIsTouched, RunsAreSeenAlike, QuartersAreTouched}

-- ---- the result is the number of the first condition that holds

first_one : {n m : ℕ} (tests : List (ℕ × Type 0)) → FirstIs tests n → FirstIs tests m → n ≡ m
first_one [] h k = absurd h
first_one (t ∷ ts) (inl h) (inl k) = h.1 ∙ sym k.1
first_one (t ∷ ts) (inl h) (inr k) = absurd (k.0 h.0)
first_one (t ∷ ts) (inr h) (inl k) = absurd (h.0 k.0)
first_one (t ∷ ts) (inr h) (inr k) = first_one ts h.1 k.1

none_first : (n : ℕ) (tests : List (ℕ × Type 0)) → NoneHolds tests → FirstIs tests n → ⊥
none_first n [] h k = k
none_first n (t ∷ ts) h (inl k) = h.0 k.0
none_first n (t ∷ ts) h (inr k) = none_first n ts h.1 k.1

-- a result by the tests of its call
data ResultBy (tests : List (ℕ × Type 0)) : ℕ → Type 0 where
  none_holds : NoneHolds tests → ResultBy tests 0
  first_holds : (r : Refusal) → FirstIs tests (number_of r) → ResultBy tests (number_of r)

numbered : {tests : List (ℕ × Type 0)} {result : ℕ} → ResultBy tests result → (n : ℕ) → n ≢ 0 → (result ≡ n) ↔ FirstIs tests n
numbered {tests} (none_holds g) n h = (λ e. absurd (h (sym e)), λ k. absurd (none_first n tests g k))
numbered {tests} (first_holds r f) n h = (λ e. subst (FirstIs tests) e f, λ k. first_one tests f k)

zeroed : {tests : List (ℕ × Type 0)} {result : ℕ} → ResultBy tests result → (result ≡ 0) ↔ NoneHolds tests
zeroed {tests} (none_holds g) = (λ e. g, λ k. refl)
zeroed {tests} (first_holds r f) = (λ e. absurd (refused_is_not r e), λ g. absurd (none_first (number_of r) tests g f))

-- of a run's answer, and of pixel edges
module _ (tests : List (ℕ × Type 0)) where
  answer_by : (a : Result Answer Refusal) → ((r : Refusal) → (a ≡ Err r) ↔ FirstIs tests (number_of r)) → (is_err a ≡ false) ↔ NoneHolds tests → ResultBy tests (result_of a)
  unfolding result_of
  answer_by (Ok (Ask q)) f g = none_holds (g.0 refl)
  answer_by (Ok (Finish x)) f g = none_holds (g.0 refl)
  answer_by (Err r) f g = first_holds r ((f r).0 refl)

  edges_by : (p : Result (Rect ℤ) Refusal) (before : List ℤ) → ((r : Refusal) → (p ≡ Err r) ↔ FirstIs tests (number_of r)) → IsOk p ↔ NoneHolds tests
      → ResultBy tests (edges_told p before).result
  unfolding edges_told
  edges_by (Ok q) before f g = none_holds (g.0 refl)
  edges_by (Err r) before f g = first_holds r ((f r).0 refl)

-- result 0 is that of an accepted call
accepted_of : (a : Result Answer Refusal) → result_of a ≡ 0 → is_err a ≡ false
unfolding result_of
accepted_of (Ok (Ask q)) h = refl
accepted_of (Ok (Finish f)) h = refl
accepted_of (Err r) h = absurd (refused_is_not r h)

pub opening_demands :
    (o : Opening) (candidates styles : List ℕ) (before : Words) {has : Returned} → Opens o candidates styles before has
    → OpeningDemands o candidates styles before has
unfolding opened_in_words
opening_demands o candidates styles before c =
    subst (OpeningDemands o candidates styles before) (sym c)
    (record {
      call = refl;
      refused = numbered by;
      accepted = zeroed by;
      kept = refused_opening_closes o candidates styles before;
      cleared = λ z. (opening_counts_none o candidates l (accepted_of (opened o candidates l).step.answer z)).tally;
    })
  where
    l : Lent
    l = lent_in styles before

    by : ResultBy (opening_tests o candidates l) (result_of (opened o candidates l).step.answer)
    by = answer_by (opening_tests o candidates l) (opened o candidates l).step.answer (opening_refused_exactly o candidates l) (opening_accepted_exactly o candidates l)

pub reply_demands :
    (reply : Reply) (surfaced styles : List ℕ) (before : Words) {has : Returned} → RepliesTo reply surfaced styles before has
    → ReplyDemands reply surfaced styles before has
unfolding replied_in_words
reply_demands reply surfaced styles before c =
    subst (ReplyDemands reply surfaced styles before) (sym c)
    (record {
      call = refl;
      refused = numbered by;
      accepted = zeroed by;
      kept = refused_reply_writes_nothing reply surfaced styles before;
      counted = λ z. (reply_counts_one s reply surfaced l (accepted_of (replied s reply surfaced l).step.answer z)).tally;
    })
  where
    s : State
    s = state_of before.state

    l : Lent
    l = lent_in styles before

    by : ResultBy (reply_tests s reply surfaced l) (result_of (replied s reply surfaced l).step.answer)
    by = answer_by (reply_tests s reply surfaced l) (replied s reply surfaced l).step.answer (reply_refused_exactly s reply surfaced l) (reply_accepted_exactly s reply surfaced l)

-- a result that isn't 0 is that of a refusal
refusal_in : (a : Result Answer Refusal) → result_of a ≢ 0 → (r : Refusal) × (a ≡ Err r)
unfolding result_of
refusal_in (Ok (Ask q)) h = absurd (h refl)
refusal_in (Ok (Finish f)) h = absurd (h refl)
refusal_in (Err r) h = (r, refl)

pub preview_opening_demands :
    (node : ℕ) (style : List ℕ) (o : Opening) (candidates styles : List ℕ) (before : Words) {has : Returned}
    → PreviewOpens node style o candidates styles before has
    → PreviewOpeningDemands node style o candidates styles before has
unfolding preview_opened_in_words opened_in_words result_of answer_left
preview_opening_demands node style o candidates styles before c =
    subst (PreviewOpeningDemands node style o candidates styles before) (sym c)
    (record {
      call = refl;
      refused = numbered by;
      accepted = zeroed by;
      kept =
          λ h. let r = refusal_in left.step.answer h in
          ap (λ (x : Outcome). (after_opening x before).words) (refused_preview_opening_keeps o candidates node style l r.0 r.1);
      cleared = λ z. (preview_opening_counts_none o candidates node style l (accepted_of left.step.answer z)).tally;
      over = λ one there. ap (λ (x : Outcome). after_opening x before) (preview_opening_is_the_copys o candidates node style l one there);
    })
  where
    l : Lent
    l = lent_in styles before

    left : Outcome
    left = preview_opened o candidates node style l

    by : ResultBy (preview_opening_tests o candidates node style l) (result_of left.step.answer)
    by = answer_by (preview_opening_tests o candidates node style l) left.step.answer (preview_opening_refused_exactly o candidates node style l) (preview_opening_accepted_exactly o candidates node style l)

pub preview_reply_demands :
    (node : ℕ) (style : List ℕ) (reply : Reply) (surfaced styles : List ℕ) (before : Words) {has : Returned}
    → PreviewRepliesTo node style reply surfaced styles before has
    → PreviewReplyDemands node style reply surfaced styles before has
unfolding preview_replied_in_words replied_in_words result_of answer_left state_left
preview_reply_demands node style reply surfaced styles before c =
    subst (PreviewReplyDemands node style reply surfaced styles before) (sym c)
    (record {
      call = refl;
      refused = numbered by;
      accepted = zeroed by;
      kept =
          λ h. let r = refusal_in left.step.answer h in
          ap (λ (x : Outcome). (after_reply x before).words) (refused_preview_reply_keeps s reply surfaced node style l r.0 r.1);
      counted = λ z. (preview_reply_counts_one s reply surfaced node style l (accepted_of left.step.answer z)).tally;
      over = λ one there. ap (λ (x : Outcome). after_reply x before) (preview_reply_is_the_copys s reply surfaced node style l one there);
    })
  where
    s : State
    s = state_of before.state

    l : Lent
    l = lent_in styles before

    left : Outcome
    left = preview_replied s reply surfaced node style l

    by : ResultBy (preview_reply_tests s reply surfaced node style l) (result_of left.step.answer)
    by = answer_by (preview_reply_tests s reply surfaced node style l) left.step.answer (preview_reply_refused_exactly s reply surfaced node style l) (preview_reply_accepted_exactly s reply surfaced node style l)

-- a call of a run or of a preview is refused, or it is the run's over some table
data OpenedAs (o : Opening) (candidates styles : List ℕ) (before : Words) (has : Returned) : Type 0 where
  turned_down : (r : Refusal) → has ≡ after_opening (refusing_opening (lent_in styles before) r) before → OpenedAs o candidates styles before has
  over : (table : List ℕ) → Opens o candidates table before has → OpenedAs o candidates styles before has

opened_as : {o : Opening} {candidates styles : List ℕ} {before : Words} {has : Returned} → OpensAny o candidates styles before has → OpenedAs o candidates styles before has
unfolding preview_opened_in_words opened_in_words
opened_as {styles = styles} (OpensAny.of_run c) = OpenedAs.over styles c
opened_as {o = o} {candidates = candidates} {styles = styles} {before = before} {has = has} (OpensAny.of_preview node style c) = go (preview_opening_way o candidates node style (lent_in styles before))
  where
    go : PreviewOpeningWay o candidates node style (lent_in styles before) → OpenedAs o candidates styles before has
    go (PreviewOpeningWay.turned_down r e) = OpenedAs.turned_down r (c ∙ ap (λ (x : Outcome). after_opening x before) e)
    go (PreviewOpeningWay.over e) = OpenedAs.over (with_style styles node style) (c ∙ ap (λ (x : Outcome). after_opening x before) e)

data RepliedAs (reply : Reply) (surfaced styles : List ℕ) (before : Words) (has : Returned) : Type 0 where
  turned_down : (r : Refusal) → has ≡ record { result = number_of r; words = before } → RepliedAs reply surfaced styles before has
  over : (table : List ℕ) → RepliesTo reply surfaced table before has → RepliedAs reply surfaced styles before has

replied_as : {reply : Reply} {surfaced styles : List ℕ} {before : Words} {has : Returned} → RepliesToAny reply surfaced styles before has → RepliedAs reply surfaced styles before has
unfolding preview_replied_in_words replied_in_words result_of answer_left state_left
replied_as {styles = styles} (RepliesToAny.of_run c) = RepliedAs.over styles c
replied_as {reply = reply} {surfaced = surfaced} {styles = styles} {before = before} {has = has} (RepliesToAny.of_preview node style c) = go (preview_reply_way (state_of before.state) reply surfaced node style (lent_in styles before))
  where
    go : PreviewReplyWay (state_of before.state) reply surfaced node style (lent_in styles before) → RepliedAs reply surfaced styles before has
    go (PreviewReplyWay.turned_down r e) = RepliedAs.turned_down r (c ∙ ap (λ (x : Outcome). after_reply x before) e)
    go (PreviewReplyWay.over e) = RepliedAs.over (with_style styles node style) (c ∙ ap (λ (x : Outcome). after_reply x before) e)

-- refused, it leaves the words that came
any_keeps : {reply : Reply} {surfaced styles : List ℕ} {before : Words} {has : Returned} → RepliesToAny reply surfaced styles before has → has.result ≢ 0 → has.words ≡ before
any_keeps {reply = reply} {surfaced = surfaced} {styles = styles} {before = before} {has = has} c h = go (replied_as c)
  where
    go : RepliedAs reply surfaced styles before has → has.words ≡ before
    go (RepliedAs.turned_down r e) = ap (λ (y : Returned). y.words) e
    go (RepliedAs.over table e) =
        ap (λ (y : Returned). y.words) e
        ∙ refused_reply_writes_nothing reply surfaced table before (λ z. h (ap (λ (y : Returned). y.result) e ∙ z))

module _ (before : List ℤ) where
  edges_kept : (p : Result (Rect ℤ) Refusal) → (edges_told p before).result ≢ 0 → (edges_told p before).edges ≡ before
  unfolding edges_told
  edges_kept (Ok edges) h = absurd (h refl)
  edges_kept (Err r) h = refl

  edges_written : (p : Result (Rect ℤ) Refusal) → (edges_told p before).result ≡ 0 → (q : Rect ℤ) × (p ≡ Ok q) × ((edges_told p before).edges ≡ q.left ∷ q.right ∷ q.top ∷ q.bottom ∷ [])
  unfolding edges_told
  edges_written (Ok q) h = (q, refl, refl)
  edges_written (Err r) h = absurd (refused_is_not r h)

  edges_are_zero : (p : Result (Rect ℤ) Refusal) → IsOk p → (edges_told p before).result ≡ 0
  unfolding edges_told
  edges_are_zero (Ok q) h = refl
  edges_are_zero (Err r) h = absurd cc

pub pixels_demands :
    (layout : List ℕ) (offset : Point Float) (before : List ℤ) {has : PixelsReturned} → has ≡ pixels_in_words layout offset before
    → PixelsDemands layout offset before has
unfolding pixels_in_words
pixels_demands layout offset before c =
    let l = layout_of layout in
    let p = pixel_edges l offset in
    let by = edges_by (pixel_tests l offset) p before (refused_first l offset) (edges_first l offset) in
    subst (PixelsDemands layout offset before) (sym c)
    (record { call = refl; refused = numbered by; accepted = zeroed by; kept = edges_kept before p; written = edges_written before p })

-- ---- what is told of reaching a box

module _ (before : List ℕ) where
  verdict_by : (tests : List (ℕ × Type 0)) (v : Result (Option Offsets) Refusal) → ((r : Refusal) → (v ≡ Err r) ↔ FirstIs tests (number_of r)) → IsOk v ↔ NoneHolds tests
      → ResultBy tests (verdict_told v before).result
  unfolding verdict_told
  verdict_by tests (Ok (Some o)) f g = none_holds (g.0 refl)
  verdict_by tests (Ok None) f g = none_holds (g.0 refl)
  verdict_by tests (Err r) f g = first_holds r ((f r).0 refl)

  verdict_kept : (v : Result (Option Offsets) Refusal) → (verdict_told v before).result ≢ 0 → (verdict_told v before).verdict ≡ before
  unfolding verdict_told
  verdict_kept (Ok (Some o)) h = absurd (h refl)
  verdict_kept (Ok None) h = absurd (h refl)
  verdict_kept (Err r) h = refl

  verdict_written : (v : Result (Option Offsets) Refusal) → (verdict_told v before).result ≡ 0 → VerdictIn v (verdict_told v before).verdict
  unfolding verdict_told
  verdict_written (Ok (Some o)) h = refl
  verdict_written (Ok None) h = refl
  verdict_written (Err r) h = absurd (refused_is_not r h)

  answer_is_zero : (v : Result (Option Offsets) Refusal) → IsOk v → (verdict_told v before).result ≡ 0
  unfolding verdict_told
  answer_is_zero (Ok (Some o)) h = refl
  answer_is_zero (Ok None) h = refl
  answer_is_zero (Err r) h = absurd cc

pub reach_demands :
    (place : ℕ) (lent : Slices) (state before : List ℕ) {has : ReachReturned} → has ≡ reach_in_words place lent state before
    → ReachDemands place lent state before has
unfolding reach_in_words
reach_demands place lent state before c =
    let s = state_of state in
    let v = reached place s lent in
    let by = verdict_by before (reach_tests place s lent) v (exactly.refused_exactly place s lent) (exactly.answered_exactly place s lent) in
    subst (ReachDemands place lent state before) (sym c)
    (record { call = refl; refused = numbered by; accepted = zeroed by; kept = verdict_kept before v; written = verdict_written before v })

-- ---- a verdict by its number

number_by : (tests : List (ℕ × Type 0)) (v : Verdict) → ((r : Refusal) → (v ≡ refused r) ↔ FirstIs tests (number_of r)) → (v ≡ accepted) ↔ NoneHolds tests
    → ResultBy tests (verdict_number v)
number_by tests (Ok tt) f g = none_holds (g.0 refl)
number_by tests (Err r) f g = first_holds r ((f r).0 refl)

zero_accepted : (v : Verdict) → verdict_number v ≡ 0 → v ≡ accepted
zero_accepted (Ok tt) e = refl
zero_accepted (Err r) e = absurd (refused_is_not r e)

other_refused : (v : Verdict) → verdict_number v ≢ 0 → (r : Refusal) × (v ≡ refused r)
other_refused (Ok tt) h = absurd (h refl)
other_refused (Err r) h = (r, refl)

-- ---- the drawing order, and what the touch driver reads

pub drawing_demands :
    (lent : Slices) (state before : List ℕ) {has : DrawingReturned} → has ≡ drawing_in_words lent state before → DrawingDemands lent state before has
unfolding drawing_in_words
drawing_demands lent state before c =
    let s = state_of state in
    let v = (drawn s lent before).verdict in
    let by = number_by (drawing_tests s lent before) v (drawing.refused_exactly s lent before) (drawing.accepted_exactly s lent before) in
    subst (DrawingDemands lent state before) (sym c)
    (record {
      call = refl;
      refused = numbered by;
      accepted = zeroed by;
      kept = λ h. let r = other_refused v h in drawing.refused_keeps s lent before r.0 r.1;
      written = λ e. drawing.drawn_in_order s lent before (zero_accepted v e);
    })

pub touch_demands :
    (lent : Slices) (state before : List ℕ) {has : TouchReturned} → has ≡ touch_in_words lent state before → TouchDemands lent state before has
unfolding touch_in_words
touch_demands lent state before c =
    let s = state_of state in
    let v = (touched s lent before).verdict in
    let by = number_by (touch_tests s lent before) v (touch.refused_exactly s lent before) (touch.accepted_exactly s lent before) in
    subst (TouchDemands lent state before) (sym c)
    (record {
      call = refl;
      refused = numbered by;
      accepted = zeroed by;
      kept = λ h. let r = other_refused v h in touch.refused_keeps s lent before r.0 r.1;
      written = λ e. touch.accepted_holds s lent before (zero_accepted v e);
    })

-- ---- the first bad word

-- a word's number is its own count
own_count : (k : ℕ) → k < item_words → count_word k ≡ k
own_count k h = omega arith

-- 0 isn't 1
not_one : {A : Type 0} → ◌≡◌ {A = ℕ} 0 1 → A
not_one e = no (eq-eqb 0 1 e) refl

pub bad_word_demands : (styles before : List ℕ) {has : CheckReturned} → has ≡ check_in_words styles before → BadWordDemands styles before has
unfolding check_in_words check_told
bad_word_demands styles before c = subst (BadWordDemands styles before) (sym c) (go (checked styles) refl)
  where
    go : (found : Result ⊤ BadWord) → checked styles ≡ found → BadWordDemands styles before (check_told found before)
    go (Ok _) e =
        let all = (nothing_exactly styles).0 e in
        record {
          call = ap (λ (x : Result ⊤ BadWord). check_told x before) (sym e);
          told = inr refl;
          some = (not_one, λ s. absurd (s.4 (all s.0 s.2 s.1 s.3)));
          nothing = (λ z. all, λ a. refl);
          written = not_one;
          kept = λ z. refl;
        }
    go (Err bad) e =
        let i = bad.item in
        let k = bad.word in
        let f = (named_exactly styles i k).0 e in
        record {
          call = ap (λ (x : Result ⊤ BadWord). check_told x before) (sym e);
          told = inl refl;
          some = (λ o. (i, k, f.item_there, f.word_there, f.not_allowed), λ s. refl);
          nothing = (λ z. not_one (sym z), λ a. absurd (f.not_allowed (a i f.item_there k f.word_there)));
          written = λ o. (i, k, f, ap (λ (x : ℕ). count_word i ∷ x ∷ []) (own_count k f.word_there));
          kept = λ z. not_one (sym z);
        }

-- ---- at most three questions for each box

not_zero : (r : Refusal) → eqb (number_of r) 0 ≡ false
not_zero r = ne_eqb (number_of r) 0 (refused_is_not r)

no_finish : (q : Question) → eqb (at (question_words q) 0) 0 ≡ false
unfolding question_words measure_words lay_out_words
no_finish (MeasureBoth m) = refl
no_finish (MeasureWidth m) = refl
no_finish (MeasureHeight m) = refl
no_finish (LayOut l) = refl

never : (b : Bool) → ◌≡◌ {A = ℕ} 0 (cond b 0 0)
never true = refl
never false = refl

-- what the words say of a call is what its step says
asked_same : (i begun : ℕ) (a : Result Answer Refusal) (shown : List ℕ)
    → cond (eqb (result_of a) 0 && not (eqb (at (answer_left a shown) 0) 0) && eqb begun (i + 1)) 1 0 ≡ cond (eqb begun (i + 1)) (one_if_asked a) 0
unfolding result_of answer_left finish_words
asked_same i begun (Ok (Ask q)) shown = rw (no_finish q) refl
asked_same i begun (Ok (Finish f)) shown = never (eqb begun (i + 1))
asked_same i begun (Err r) shown = rw (not_zero r) (never (eqb begun (i + 1)))

abbrev ForBoxIn : ℕ → ℕ → State → Type 0
ForBoxIn i n s = ForBox i n s × Hoisted s

-- of words that mean the state that the step returned
words_for : (i : ℕ) (count : ℕ → ℕ) (step : Step) (has : Returned) (shown : List ℕ)
    → has.result ≡ result_of step.answer
    → has.words.answer ≡ answer_left step.answer shown
    → state_of has.words.state ≡ step.state
    → ForBoxIn i (count (run.asked_for i step)) step.state
    → ForBoxIn i (count (asked_for i has)) (state_of has.words.state)
unfolding state_of counts_in
words_for i count step has shown result answer state b =
    let begun = ap (λ (s : State). s.counts.begun) state in
    let same : asked_for i has ≡ run.asked_for i step = (λ j. cond (eqb (result j) 0 && not (eqb (at (answer j) 0) 0) && eqb (begun j) (i + 1)) 1 0) ∙ asked_same i step.state.counts.begun step.answer shown in
    subst (λ (x : ℕ × State). ForBoxIn i (count x.0) x.1) (λ j. (sym same j, sym state j)) b

closed_for : (i : ℕ) (lent : Lent) → ForBoxIn i 0 (state_of (state_words (closed lent)))
unfolding state_of state_words counts_in progress_of progress_code closed
closed_for i lent = (record { three = omega arith; none = λ h. refl; now = tt }, omega arith)

refused_for : (i : ℕ) (lent : Lent) (before : Words) (r : Refusal)
    → let has = after_opening (refusing_opening lent r) before in
    ForBoxIn i (asked_for i has) (state_of has.words.state)
unfolding result_of
refused_for i lent before r = rw (not_zero r) (closed_for i lent)

opening_words_for : (i : ℕ) (o : Opening) (candidates styles : List ℕ) (before : Words) → FitsOpening o
    → let has = opened_in_words o candidates styles before in
    ForBoxIn i (asked_for i has) (state_of has.words.state)
unfolding opened_in_words result_of
opening_words_for i o candidates styles before f = go (opening_way o candidates l)
  where
    l : Lent
    l = lent_in styles before

    told : Outcome → Returned
    told left = after_opening left before

    go : OpeningWay o candidates l → ForBoxIn i (asked_for i (told (opened o candidates l))) (state_of (told (opened o candidates l)).words.state)
    go (OpeningWay.turned_down r e) =
        subst (λ (x : Outcome). ForBoxIn i (asked_for i (told x)) (state_of (told x).words.state)) (sym e) (refused_for i l before r)
    go (begins v e) =
        let zero = ap (λ (x : Outcome). result_of x.step.answer) e ∙ accepted_is_zero (begun o candidates l).step.answer (begun_accepts o candidates l) in
        let kept = opening_is_kept o candidates styles before (record { size = f.0; offset = f.1; lengths = λ h. absurd (h zero) }) in
        words_for i (λ n. n) (opened o candidates l).step (told (opened o candidates l)) before.answer refl refl kept
        (opening_for i o candidates l, opening_hoisted o candidates l)

reply_words_for : (i : ℕ) {n : ℕ} (reply : Reply) (surfaced styles : List ℕ) (before : Words) → FitsReply reply
    → ForBoxIn i n (state_of before.state)
    → let has = replied_in_words reply surfaced styles before in
    ForBoxIn i (n + asked_for i has) (state_of has.words.state)
unfolding replied_in_words
reply_words_for i {n = n} reply surfaced styles before f b =
    let s = state_of before.state in
    let l = lent_in styles before in
    words_for i (λ m. n + m) (replied s reply surfaced l).step (replied_in_words reply surfaced styles before) before.answer refl refl
    (reply_is_kept reply surfaced styles before f)
    (reply_for i n s reply surfaced l b.0, reply_hoisted s reply surfaced l b.1)

-- of a run or of a preview
opening_for_any : (i : ℕ) {o : Opening} {candidates styles : List ℕ} {before : Words} {has : Returned} → FitsOpening o → OpenedAs o candidates styles before has
    → ForBoxIn i (asked_for i has) (state_of has.words.state)
opening_for_any i {styles = styles} {before = before} f (OpenedAs.turned_down r e) =
    subst (λ (x : Returned). ForBoxIn i (asked_for i x) (state_of x.words.state)) (sym e) (refused_for i (lent_in styles before) before r)
opening_for_any i {o = o} {candidates = candidates} {before = before} f (OpenedAs.over table e) =
    subst (λ (x : Returned). ForBoxIn i (asked_for i x) (state_of x.words.state)) (sym e) (opening_words_for i o candidates table before f)

reply_for_any : (i : ℕ) {n : ℕ} {reply : Reply} {surfaced styles : List ℕ} {before : Words} {has : Returned} → FitsReply reply → RepliedAs reply surfaced styles before has
    → ForBoxIn i n (state_of before.state)
    → ForBoxIn i (n + asked_for i has) (state_of has.words.state)
reply_for_any i {n = n} {before = before} f (RepliedAs.turned_down r e) b =
    subst (λ (x : Returned). ForBoxIn i (n + asked_for i x) (state_of x.words.state)) (sym e)
    (rw (not_zero r) (subst (λ (m : ℕ). ForBoxIn i m (state_of before.state)) (omega arith) b))
reply_for_any i {n = n} {reply = reply} {surfaced = surfaced} {before = before} f (RepliedAs.over table e) b =
    subst (λ (x : Returned). ForBoxIn i (n + asked_for i x) (state_of x.words.state)) (sym e) (reply_words_for i reply surfaced table before f b)

for_box : (i : ℕ) {n : ℕ} {has : Returned} → AnyCalls i n has → ForBoxIn i n (state_of has.words.state)
for_box i (AnyCalls.opening o candidates styles before f c) = opening_for_any i f (opened_as c)
for_box i (AnyCalls.reply {n = n} reply surfaced styles before f calls w c) =
    reply_for_any i f (replied_as c) (subst (λ (x : List ℕ). ForBoxIn i n (state_of x)) (sym w) (for_box i calls))

pub three_questions_each : ThreeQuestionsEach
unfolding state_of counts_in
three_questions_each i n has calls = let b = for_box i calls in (b.0.three, λ h. b.0.none (let k = b.1 in omega arith))

-- ---- the tally adds up

-- a finish shows its count, if its words mean the state that it returned
finish_shows : (x : Outcome) → AddsUp x → state_of (state_words x.step.state) ≡ x.step.state → (f : ending.Finish) → x.step.answer ≡ Ok (Finish f)
    → sum x.tally ≡ count_word f.count
unfolding state_of state_words counts_in
finish_shows x a back f e =
    a.so_far ∙ sym (ap (λ (s : State). s.counts.answered) back) ∙ ap count_word (sym a.so_far ∙ a.at_finish f e)

-- an accepted reply writes its state
state_back_of : (step : Step) (before : List ℕ) (f : ending.Finish) → step.answer ≡ Ok (Finish f) → state_of (state_left step before) ≡ step.state
    → state_of (state_words step.state) ≡ step.state
unfolding state_left
state_back_of step before f e back =
    subst (λ (a : Result Answer Refusal). state_of (cond (is_err a) before (state_words step.state)) ≡ step.state) e back

-- where the answer's words tell a finish
told_finish : (a : Result Answer Refusal) (shown : List ℕ) (n : ℕ) → ((f : ending.Finish) → a ≡ Ok (Finish f) → n ≡ count_word f.count)
    → result_of a ≡ 0
    → at (answer_left a shown) 0 ≡ 0
    → n ≡ at (answer_left a shown) 1
unfolding result_of answer_left finish_words
told_finish (Ok (Ask q)) shown n h z k = no (eq-eqb _ _ k) (no_finish q)
told_finish (Ok (Finish f)) shown n h z k = h f refl
told_finish (Err r) shown n h z k = absurd (refused_is_not r z)

-- the outcome that the words of the state and the tally mean
record Adds (m : ℕ) (has : Returned) : Type 0 where
  left : Outcome
  adds : AddsUp left
  accepted : left.step.state.counts.answered ≡ m
  tally : has.words.tally ≡ left.tally
  state : state_of has.words.state ≡ left.step.state
  finish : has.result ≡ 0 → at has.words.answer 0 ≡ 0 → sum has.words.tally ≡ at has.words.answer 1

opening_adds : (o : Opening) (candidates styles : List ℕ) (before : Words) → FitsOpening o → (opened_in_words o candidates styles before).result ≡ 0
    → Adds 0 (opened_in_words o candidates styles before)
unfolding opened_in_words
opening_adds o candidates styles before f z =
    record {
      left = x;
      adds = adds;
      accepted = (opening_counts_none o candidates (lent_in styles before) (accepted_of x.step.answer z)).answered;
      tally = refl;
      state = kept;
      finish = told_finish x.step.answer before.answer (sum x.tally) (finish_shows x adds kept);
    }
  where
    x : Outcome
    x = opened o candidates (lent_in styles before)

    adds : AddsUp x
    adds = opening_adds_up o candidates (lent_in styles before) (accepted_of x.step.answer z)

    kept : state_of (state_words x.step.state) ≡ x.step.state
    kept = opening_is_kept o candidates styles before (record { size = f.0; offset = f.1; lengths = λ h. absurd (h z) })

-- one more is accepted, as the result tells
same_one : (a : Result Answer Refusal) → run.one_if_accepted a ≡ one_if_accepted (result_of a)
unfolding result_of
same_one (Ok (Ask q)) = refl
same_one (Ok (Finish f)) = refl
same_one (Err r) = sym (ap (λ (b : Bool). cond b 1 0) (ne_eqb (number_of r) 0 (refused_is_not r)))

reply_adds : {m : ℕ} (reply : Reply) (surfaced styles : List ℕ) (before : Words) {last : Returned} → FitsReply reply → Adds m last
    → before.state ≡ last.words.state
    → before.tally ≡ last.words.tally
    → Adds (m + one_if_accepted (replied_in_words reply surfaced styles before).result) (replied_in_words reply surfaced styles before)
unfolding replied_in_words
reply_adds {m} reply surfaced styles before f a w t =
    record {
      left = x;
      adds = adds;
      accepted = counted_on;
      tally = refl;
      state = kept;
      finish = told_finish x.step.answer before.answer (sum x.tally) (λ g e. finish_shows x adds (state_back_of x.step before.state g e kept) g e);
    }
  where
    l : Lent
    l = lent_in styles before

    x : Outcome
    x = replied (state_of before.state) reply surfaced l

    kept : state_of (state_left x.step before.state) ≡ x.step.state
    kept = reply_is_kept reply surfaced styles before f

    adds : AddsUp x
    adds =
        subst (λ (s : State). AddsUp (replied s reply surfaced l)) (sym (ap state_of w ∙ a.state))
        (reply_adds_up a.left reply surfaced l a.adds (t ∙ a.tally))

    counted_on : x.step.state.counts.answered ≡ m + one_if_accepted (result_of x.step.answer)
    counted_on =
        replies_are_counted (state_of before.state) reply surfaced l
        ∙ ap (λ (n : ℕ). n + run.one_if_accepted x.step.answer) (ap (λ (s : State). s.counts.answered) (ap state_of w ∙ a.state) ∙ a.accepted)
        ∙ ap (λ (n : ℕ). m + n) (same_one x.step.answer)

-- a refused one leaves the tally as it came
refused_adds : {m : ℕ} (before : Words) {last : Returned} (r : Refusal) → Adds m last → before.state ≡ last.words.state → before.tally ≡ last.words.tally
    → Adds (m + one_if_accepted (number_of r)) (record { result = number_of r; words = before })
refused_adds {m = m} before r a w t =
    record {
      left = a.left;
      adds = a.adds;
      accepted = a.accepted ∙ rw (not_zero r) (omega arith);
      tally = t ∙ a.tally;
      state = ap state_of w ∙ a.state;
      finish = λ z. absurd (refused_is_not r z);
    }

opening_any_adds : {o : Opening} {candidates styles : List ℕ} {before : Words} {has : Returned} → FitsOpening o → OpenedAs o candidates styles before has
    → has.result ≡ 0
    → Adds 0 has
unfolding result_of
opening_any_adds f (OpenedAs.turned_down r e) z = absurd (refused_is_not r (sym (ap (λ (y : Returned). y.result) e) ∙ z))
opening_any_adds {o = o} {candidates = candidates} {before = before} f (OpenedAs.over table e) z =
    subst (Adds 0) (sym e) (opening_adds o candidates table before f (sym (ap (λ (y : Returned). y.result) e) ∙ z))

reply_any_adds : {m : ℕ} {reply : Reply} {surfaced styles : List ℕ} {before : Words} {last has : Returned} → FitsReply reply → RepliedAs reply surfaced styles before has
    → Adds m last
    → before.state ≡ last.words.state
    → before.tally ≡ last.words.tally
    → Adds (m + one_if_accepted has.result) has
reply_any_adds {m = m} {before = before} f (RepliedAs.turned_down r e) a w t =
    subst (λ (y : Returned). Adds (m + one_if_accepted y.result) y) (sym e) (refused_adds before r a w t)
reply_any_adds {m = m} {reply = reply} {surfaced = surfaced} {before = before} f (RepliedAs.over table e) a w t =
    subst (λ (y : Returned). Adds (m + one_if_accepted y.result) y) (sym e) (reply_adds reply surfaced table before f a w t)

counted_in : {m : ℕ} {has : Returned} → TallyKept m has → Adds m has
counted_in (TallyKept.opening o candidates styles before f c z) = opening_any_adds f (opened_as c) z
counted_in (TallyKept.reply reply surfaced styles before f calls w t c) = reply_any_adds f (replied_as c) (counted_in calls) w t
counted_in (TallyKept.other_tally reply surfaced styles before calls w c h) =
    let a = counted_in calls in
    record {
      left = a.left;
      adds = a.adds;
      accepted = a.accepted;
      tally = a.tally;
      state = ap (λ (y : Words). state_of y.state) (any_keeps c h) ∙ ap state_of w ∙ a.state;
      finish = λ z. absurd (h z);
    }

pub counts_add_up : CountsAddUp
unfolding state_of counts_in
counts_add_up m has calls =
    let a = counted_in calls in
    let count : at has.words.state 10 ≡ a.left.step.state.counts.answered = ap (λ (s : State). s.counts.answered) a.state in
    let s : sum has.words.tally ≡ at has.words.state 10 = ap sum a.tally ∙ a.adds.so_far ∙ sym count in
    record {
      so_far = s;
      at_finish = a.finish;
      none_above = λ i h. subst (λ (n : ℕ). at has.words.tally i ≤ n) s (get_or-le-sum_by (λ (n : ℕ). n) has.words.tally i 0 h);
      accepted = count ∙ a.accepted;
    }

-- ---- a run is the straight run

-- what the host has, of an outcome
record Has (styles : List ℕ) (has : Returned) (x : Outcome) : Type 0 where
  layouts : has.words.layouts ≡ x.layouts
  working : has.words.working ≡ x.working
  unclaimed : has.words.unclaimed ≡ x.unclaimed
  tally : has.words.tally ≡ x.tally
  state : state_of has.words.state ≡ x.step.state
  result : has.result ≡ result_of x.step.answer

refused_of : (a : Result Answer Refusal) → result_of a ≢ 0 → is_err a ≡ true
unfolding result_of
refused_of (Ok (Ask q)) h = absurd (h refl)
refused_of (Ok (Finish f)) h = absurd (h refl)
refused_of (Err r) h = refl

-- a reply, whatever was lent with it: the run goes one turn on, and the answer's words tell its step's
record Went (styles : List ℕ) (last has : Returned) (x : Outcome) : Type 0 where
  now : Has styles has x
  answer : has.words.answer ≡ answer_left x.step.answer last.words.answer

went : (styles : List ℕ) {last has : Returned} {x : Outcome} (h : Heard) (loan : Loan) → FitsReply h.reply → Has styles last x
    → Takes styles last.words h loan has
    → Went styles last has (next_with styles x h loan)
unfolding replied_in_words next
went styles {last = last} {x = x} h own f k (TakesBy.lent_own c) =
    let e : replied (state_of last.words.state) h.reply h.surfaced (lent_in styles last.words) ≡ next styles x h = λ j. replied (k.state j) h.reply h.surfaced (record { styles = styles; layouts = k.layouts j; working = k.working j; unclaimed = k.unclaimed j; tally = k.tally j }) in
    record {
      now =
          record {
            layouts = ap (λ (y : Returned). y.words.layouts) c ∙ ap (λ (y : Outcome). y.layouts) e;
            working = ap (λ (y : Returned). y.words.working) c ∙ ap (λ (y : Outcome). y.working) e;
            unclaimed = ap (λ (y : Returned). y.words.unclaimed) c ∙ ap (λ (y : Outcome). y.unclaimed) e;
            tally = ap (λ (y : Returned). y.words.tally) c ∙ ap (λ (y : Outcome). y.tally) e;
            state = ap (λ (y : Returned). state_of y.words.state) c ∙ reply_is_kept h.reply h.surfaced styles last.words f ∙ ap (λ (y : Outcome). y.step.state) e;
            result = ap (λ (y : Returned). y.result) c ∙ ap (λ (y : Outcome). result_of y.step.answer) e;
          };
      answer = ap (λ (y : Returned). y.words.answer) c ∙ ap (λ (y : Outcome). answer_left y.step.answer last.words.answer) e;
    }
went styles {last = last} {x = x} h (other slices) f k (TakesBy.lent_other c) =
    let e : replied (state_of last.words.state) h.reply h.surfaced slices ≡ replied x.step.state h.reply h.surfaced slices = ap (λ (s : State). replied s h.reply h.surfaced slices) k.state in
    record {
      now =
          record {
            layouts = k.layouts;
            working = k.working;
            unclaimed = k.unclaimed;
            tally = k.tally;
            state = ap (λ (y : Returned). state_of y.words.state) c ∙ reply_is_kept h.reply h.surfaced slices.styles (words slices.layouts slices.working slices.unclaimed slices.tally last.words.state last.words.answer) f ∙ ap (λ (y : Outcome). y.step.state) e;
            result = ap (λ (y : Returned). y.result) c ∙ ap (λ (y : Outcome). result_of y.step.answer) e;
          };
      answer = ap (λ (y : Returned). y.words.answer) c ∙ ap (λ (y : Outcome). answer_left y.step.answer last.words.answer) e;
    }

lends : (loan : Loan) {result : ℕ} (a : Result Answer Refusal) → result ≡ result_of a → Lends loan result → run.Lends loan a
lends own a e h = tt
lends (other slices) a e h = refused_of a (λ z. h (e ∙ z))

all_lend : (styles : List ℕ) (x : Outcome) (turns : List Turn) (t : Turn) → AllLend styles x turns
    → run.Lends t.loan (turned styles (foldl (turned styles) x turns) t).step.answer
    → AllLend styles x (turns ++ (t ∷ []))
all_lend styles x [] t h k = (k, tt)
all_lend styles x (u ∷ us) t h k = (h.0, all_lend styles (turned styles x u) us t h.1 k)

-- what a run says is no refusal
said_shown : (answered : ℕ) (course : Course) (shown : List ℕ) → answer_left (said_after answered course) shown ≡ answer_left (said_after answered course) []
unfolding answer_left
said_shown answered (ended w) shown = refl
said_shown answered (asks w q next) shown = refl

refused_shown : (a : Result Answer Refusal) (shown : List ℕ) → is_err a ≡ true → answer_left a shown ≡ shown
unfolding answer_left
refused_shown (Ok (Ask q)) shown e = no {b = false} e refl
refused_shown (Ok (Finish f)) shown e = no {b = false} e refl
refused_shown (Err r) shown e = refl

module _ (o : Opening) (candidates styles : List ℕ) (before : Words) where
  abbrev l : Lent
  l = lent_in styles before

  abbrev after : List Turn → Outcome
  after turns = called o candidates l turns

  abbrev said : List Turn → Result Answer Refusal
  said turns = said_after (length (answered_in o candidates l turns)) (course_of o candidates l turns)

  abbrev StandsAt : List Turn → Outcome → Type 0
  StandsAt turns x = Stands l (answered_in o candidates l turns) x (course_of o candidates l turns)

  record Ran (turns : List Turn) (has : Returned) : Type 0 where
    accepted : is_err (opened o candidates l).step.answer ≡ false
    lent : AllLend styles (opened o candidates l) turns
    now : Has styles has (after turns)
    answer : has.words.answer ≡ answer_left (said turns) []

  stands : (turns : List Turn) {has : Returned} → Ran turns has → StandsAt turns (after turns)
  stands turns r = straight_run o candidates l turns r.accepted r.lent

  first : {has : Returned} → FitsOpening o → Opens o candidates styles before has → has.result ≡ 0 → Ran [] has
  unfolding opened_in_words
  first f c z =
      let zero = sym (ap (λ (y : Returned). y.result) c) ∙ z in
      let accepted = accepted_of (opened o candidates l).step.answer zero in
      let s = straight_run o candidates l [] accepted tt in
      let kept = opening_is_kept o candidates styles before (record { size = f.0; offset = f.1; lengths = λ h. absurd (h zero) }) in
      record {
        accepted = accepted;
        lent = tt;
        now =
            record {
              layouts = ap (λ (y : Returned). y.words.layouts) c;
              working = ap (λ (y : Returned). y.words.working) c;
              unclaimed = ap (λ (y : Returned). y.words.unclaimed) c;
              tally = ap (λ (y : Returned). y.words.tally) c;
              state = ap (λ (y : Returned). state_of y.words.state) c ∙ kept;
              result = ap (λ (y : Returned). y.result) c;
            };
        answer = ap (λ (y : Returned). y.words.answer) c ∙ ap (λ (a : Result Answer Refusal). answer_left a before.answer) (s.answer accepted) ∙ said_shown _ (course_of o candidates l []) before.answer;
      }

  more : (turns : List Turn) (t : Turn) {last has : Returned} → FitsReply t.heard.reply → Ran turns last
      → Takes styles last.words t.heard t.loan has
      → Lends t.loan has.result
      → Ran (turns ++ (t ∷ [])) has
  more turns t {last = last} {has = has} f r c h =
      record {
        accepted = r.accepted;
        lent = lent;
        now = subst (Has styles has) (sym on) w.now;
        answer = w.answer ∙ shows (is_err x.step.answer) refl;
      }
    where
      x : Outcome
      x = turned styles (after turns) t

      later : List Turn
      later = turns ++ (t ∷ [])

      on : after later ≡ x
      on = foldl-append (turned styles) (opened o candidates l) turns (t ∷ [])

      w : Went styles last has x
      w = went styles t.heard t.loan f r.now c

      lent : AllLend styles (opened o candidates l) later
      lent = all_lend styles (opened o candidates l) turns t r.lent (lends t.loan x.step.answer w.now.result h)

      s : StandsAt later (after later)
      s = straight_run o candidates l later r.accepted lent

      shows : (b : Bool) → is_err x.step.answer ≡ b → answer_left x.step.answer last.words.answer ≡ answer_left (said later) []
      shows false n =
          ap (λ (a : Result Answer Refusal). answer_left a last.words.answer) (sym (ap (λ (y : Outcome). y.step.answer) on) ∙ s.answer (ap (λ (y : Outcome). is_err y.step.answer) on ∙ n))
          ∙ said_shown _ (course_of o candidates l later) last.words.answer
      shows true n =
          refused_shown x.step.answer last.words.answer n ∙ r.answer
          ∙ ap (λ (a : Result Answer Refusal). answer_left a [])
          (sym (stands turns r).pending ∙ sym (ap (open_in styles) (turn_refused styles (after turns) t n)) ∙ sym (ap (open_in styles) on) ∙ s.pending)

  ran : {turns : List Turn} {has : Returned} → Run o candidates styles before turns has → Ran turns has
  ran (RunBy.opening f c z) = first f c z
  ran (RunBy.reply {turns = turns} t f earlier c h) = more turns t f (ran earlier) c h

  same_run : (turns : List Turn) {has : Returned} → Ran turns has
      → saying (said turns) (after turns)
      ≡ outcome (record { state = state_of has.words.state; answer = said turns }) has.words.layouts has.words.working has.words.unclaimed has.words.tally
  same_run turns r =
      λ j. record {
        step = record { state = sym r.now.state j; answer = said turns };
        layouts = sym r.now.layouts j;
        working = sym r.now.working j;
        unclaimed = sym r.now.unclaimed j;
        tally = sym r.now.tally j;
      }

  in_words_lem : (turns : List Turn) {has : Returned} → Ran turns has
      → StandsInWords l (answered_in o candidates l turns) has (course_of o candidates l turns)
  in_words_lem turns r =
      let s = stands turns r in
      record {
        run =
            subst (StandsAt turns) (same_run turns r)
            (record {
              layouts = s.layouts;
              working = s.working;
              unclaimed = s.unclaimed;
              filled = s.filled;
              begun = s.begun;
              counted = s.counted;
              tally_length = s.tally_length;
              tally = s.tally;
              laid = s.laid;
              overflow = s.overflow;
              pending = s.pending;
              kind = s.kind;
              answer = λ h. refl;
            });
        answer = r.answer;
      }

pub equals_straight_run : EqualsStraightRun
equals_straight_run o candidates styles before turns has calls =
    in_words_lem o candidates styles before turns (ran o candidates styles before calls)

-- ---- a preview is a run over the copy

-- a reply keeps the lengths that were lent at the opening
takes_keep : (styles : List ℕ) (last : Words) (h : Heard) (loan : Loan) {has : Returned} → FitsReply h.reply → Takes styles last h loan has
    → (state_of has.words.state).opened ≡ (state_of last.state).opened
takes_keep styles last h own f (TakesBy.lent_own c) =
    ap (λ (y : Returned). (state_of y.words.state).opened) c
    ∙ ap (λ (s : State). s.opened) (reply_is_kept h.reply h.surfaced styles last f)
    ∙ reply_opened (state_of last.state) h.reply h.surfaced (lent_in styles last)
takes_keep styles last h (other slices) f (TakesBy.lent_other c) =
    ap (λ (y : Returned). (state_of y.words.state).opened) c
    ∙ ap (λ (s : State). s.opened) (reply_is_kept h.reply h.surfaced slices.styles (words slices.layouts slices.working slices.unclaimed slices.tally last.state last.answer) f)
    ∙ reply_opened (state_of last.state) h.reply h.surfaced slices

module _ (node : ℕ) (style : List ℕ) (o : Opening) (candidates styles : List ℕ) (before : Words) where
  abbrev copy : List ℕ
  copy = with_style styles node style

  record RanOver (turns : List Turn) (has : Returned) : Type 0 where
    one : length style ≡ style_words
    there : node < items styles
    run : Run o candidates copy before (map (turn_over node style) turns) has
    lent : (state_of has.words.state).opened.extents.styles ≡ length styles

  first_over : {has : Returned} → FitsOpening o → PreviewOpens node style o candidates styles before has → has.result ≡ 0 → RanOver [] has
  unfolding preview_opened_in_words opened_in_words
  first_over {has = has} f c z =
      record {
        one = known.0;
        there = known.1;
        run = RunBy.opening f over z;
        lent =
            ap (λ (y : Returned). (state_of y.words.state).opened.extents.styles) over
            ∙ ap (λ (s : State). s.opened.extents.styles) (opening_is_kept o candidates copy before (record { size = f.0; offset = f.1; lengths = λ h. absurd (h (sym (ap (λ (y : Returned). y.result) over) ∙ z)) }))
            ∙ ap (λ (e : Extents). e.styles) (opening_extents o candidates (lent_in copy before))
            ∙ (copy_is_as_long styles node style).0;
      }
    where
      known : (length style ≡ style_words) × (node < items styles)
      known = opened_with o candidates node style (lent_in styles before) (accepted_of _ (sym (ap (λ (y : Returned). y.result) c) ∙ z))

      over : Opens o candidates copy before has
      over = c ∙ ap (λ (x : Outcome). after_opening x before) (preview_opening_is_the_copys o candidates node style (lent_in styles before) known.0 known.1)

  takes_over : {turns : List Turn} {last has : Returned} (h : Heard) (loan : Loan) → RanOver turns last
      → TakesBy (PreviewRepliesTo node style) styles last.words h loan has
      → Takes copy last.words h (loan_over node style loan) has
  unfolding preview_replied_in_words replied_in_words
  takes_over {last = last} h own r (TakesBy.lent_own c) =
      let s = state_of last.words.state in
      TakesBy.lent_own (c ∙ ap (λ (x : Outcome). after_reply x last.words) (same_reply s h.reply h.surfaced node style styles (lent_in styles last.words) r.one r.there r.lent))
  takes_over {last = last} h (other slices) r (TakesBy.lent_other c) =
      let s = state_of last.words.state in
      let w = words slices.layouts slices.working slices.unclaimed slices.tally last.words.state last.words.answer in
      TakesBy.lent_other (c ∙ ap (λ (x : Outcome). after_reply x w) (same_reply s h.reply h.surfaced node style styles slices r.one r.there r.lent))

  lends_over : (loan : Loan) (result : ℕ) → Lends loan result → Lends (loan_over node style loan) result
  lends_over own result h = tt
  lends_over (other slices) result h = h

  ran_over : {turns : List Turn} {has : Returned} → Previews node style o candidates styles before turns has → RanOver turns has
  ran_over (RunBy.opening f c z) = first_over f c z
  ran_over {has = has} (RunBy.reply {turns = turns} {last = last} t f earlier c h) =
      let r = ran_over earlier in
      let taken = takes_over t.heard t.loan r c in
      record {
        one = r.one;
        there = r.there;
        run =
            subst (λ (ts : List Turn). Run o candidates copy before ts has) (sym (map-append (turn_over node style) turns (t ∷ [])))
            (RunBy.reply (turn_over node style t) f r.run taken (lends_over t.loan has.result h));
        lent = ap (λ (x : Opened). x.extents.styles) (takes_keep copy last.words t.heard (loan_over node style t.loan) f taken) ∙ r.lent;
      }

pub preview_is_a_run : PreviewIsARun
preview_is_a_run node style o candidates styles before turns has calls = (ran_over node style o candidates styles before calls).run

pub preview_equals_straight_run : PreviewEqualsStraightRun
preview_equals_straight_run node style o candidates styles before turns has calls =
    equals_straight_run o candidates (with_style styles node style) before (map (turn_over node style) turns) has
    (preview_is_a_run node style o candidates styles before turns has calls)

-- ---- what a finished preview is asked

module _ (node : ℕ) (style styles : List ℕ) (left : Words) where
  finished_alike : (b : Bool)
      → finished_verdict (state_of left.state) (slices_of (lent_in (with_style styles node style) left)) b
      ≡ finished_verdict (state_of left.state) (slices_of (lent_in styles left)) b
  unfolding finished_verdict bad_slices bad_table other_lengths bad_candidate
  finished_alike b = rw ((copy_is_as_long styles node style).0, (copy_is_as_long styles node style).1) refl

pub preview_is_asked_by_the_table : PreviewIsAskedByTheTable
unfolding reach_in_words reached drawing_in_words drawn draw_verdict touch_in_words touched
preview_is_asked_by_the_table node style styles left place before =
    let filled = (state_of left.state).counts.filled.working in (
      rw (finished_alike node style styles left (leb filled place)) refl,
      rw (finished_alike node style styles left (not (eqb (length before) filled))) refl,
      rw (finished_alike node style styles left (not (eqb (length before) (touch_width * filled)))) refl,
    )

-- ---- whole quarter pixels

pub quarters_have_edges : QuartersHaveEdges
unfolding pixels_in_words
quarters_have_edges o candidates styles before turns has area table quarter calls heard i h edges =
    let r = ran o candidates styles before calls in
    let e = run_has_edges o candidates (lent_in styles before) turns area table quarter r.accepted r.lent heard i (subst (λ (s : State). i < laid_count s.progress s.counts.begun) r.now.state h) in
    rw (r.now.layouts, r.now.working) (edges_are_zero edges _ e)

pub quarters_are_answered : QuartersAreAnswered
unfolding reach_in_words
quarters_are_answered o candidates styles before turns has area table quarter calls heard finished place filled verdict =
    let r = ran o candidates styles before calls in
    let e =
    all_answered o candidates (lent_in styles before) turns place area table quarter r.accepted r.lent heard (sym (ap (λ (s : State). s.progress) r.now.state) ∙ finished)
    (subst (λ (s : State). place < s.counts.filled.working) r.now.state filled) in
    rw (r.now.state, r.now.layouts, r.now.working, r.now.unclaimed) (answer_is_zero verdict _ e)

pub quarters_are_touched : QuartersAreTouched
unfolding touch_in_words
quarters_are_touched o candidates styles before turns has area table quarter calls heard finished five long =
    let r = ran o candidates styles before calls in
    let e =
    run-is-touched o candidates (lent_in styles before) turns five area table quarter r.accepted r.lent heard (sym (ap (λ (s : State). s.progress) r.now.state) ∙ finished)
    (subst (λ (s : State). length five ≡ touch_width * s.counts.filled.working) r.now.state long) in
    rw (r.now.state, r.now.layouts, r.now.working, r.now.unclaimed) (ap verdict_number e)

-- ---- the touch driver, of a finished run and of two

pub finished_is_touched : FinishedIsTouched
unfolding touch_in_words
finished_is_touched o candidates styles before turns has calls finished five long =
    let r = ran o candidates styles before calls in
    rw (r.now.state, r.now.layouts, r.now.working, r.now.unclaimed)
    (ap touch_told
    (run-gives o candidates (lent_in styles before) turns five r.accepted r.lent (sym (ap (λ (s : State). s.progress) r.now.state) ∙ finished)
    (subst (λ (s : State). length five ≡ touch_width * s.counts.filled.working) r.now.state long)))

-- a call's record goes by what the definition leaves
told_alike : (a b : Touched) → Alike a b → SameToDriver (touch_told a) (touch_told b)
told_alike a b s = record { result = ap verdict_number s.verdict; words = λ e. s.words (zero_accepted a.verdict e) }

pub runs_are_seen_alike : RunsAreSeenAlike
unfolding touch_in_words
runs_are_seen_alike o o' candidates candidates' styles styles' before before' turns turns' has has' calls calls' finished finished' offset nodes boxes five five' long =
    let r = ran o candidates styles before calls in
    let r' = ran o' candidates' styles' before' calls' in
    rw (r.now.state, r.now.layouts, r.now.working, r.now.unclaimed, r'.now.state, r'.now.layouts, r'.now.working, r'.now.unclaimed)
    (told_alike _ _
    (runs-alike o o' candidates candidates' (lent_in styles before) (lent_in styles' before') turns turns' five five' r.accepted r'.accepted r.lent r'.lent
    (sym (ap (λ (s : State). s.progress) r.now.state) ∙ finished) (sym (ap (λ (s : State). s.progress) r'.now.state) ∙ finished')
    (record {
      offset = offset;
      nodes = rw (r.now.state, r.now.working, r'.now.state, r'.now.working) at nodes;
      boxes = rw (r.now.state, r.now.layouts, r.now.working, r'.now.layouts, r'.now.working) at boxes;
    })
    long))
