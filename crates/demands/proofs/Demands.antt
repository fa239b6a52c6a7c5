-- The three demands of the entries, from their contracts and the theorems of `run`, `oof_box` and `mirror_run`. Assumes nothing.
use Prim.Native.Nat.{ℕ, ◌+◌, ◌*◌, ◌<◌}
use native.Mathlib.Omega.{arith}
use native.Mathlib.Nat.{zero-add, add-zero}
use mathlib.Core.Logic.Iff
use mathlib.Core.Logic.{inl, inr, ◌↔◌}
use mathlib.Core.Path.{◌≡◌, refl, sym, ap, subst, subst₂, ◌∙◌}
use mathlib.Core.Bool.{Bool, true, false, cond}
use mathlib.Core.List.{List, [], ◌∷◌, ◌++◌, foldl, foldl-append, append-nil}
use lib.Dec.{eqb}
use lib.ListN.{length}
use borrow.Author.Tests.{eq-eqb}
use Rattle.reach.specs.declared.Offsets.{Offsets}
use Rattle.std.specs.Prelude.{None, Ok, Err, is_err, sum, Result, IsOk, Option, ⊤, Float, ℤ}
use Rattle.util.proofs.Floats.{no}
use Rattle.geometry.specs.declared.Line.{Line}
use Rattle.geometry.specs.declared.Point.{Point}
use Rattle.geometry.specs.declared.Rect.{Rect}
use Rattle.style.specs.declared.alignment.AlignItems.{AlignItems}
use Rattle.tree.specs.Static.{from_alignment}
use Rattle.tree.specs.declared.layout.AxisStaticPosition.{AxisStaticPosition}
use Rattle.tree.specs.declared.layout.Layout.{Layout}
use Rattle.pixels.specs.Pixels.{pixel_edges}
use Rattle.refusal.specs.declared.Refusal.{Refusal}
use Rattle.refusal.specs.declared.Refusal.TheVariants.{BadStyle}
use Rattle.style_record.specs.Check.{checked}
use Rattle.style_record.specs.Decode.{style_at}
use Rattle.style_record.specs.declared.check.BadWord.{BadWord}
use Rattle.sweep.specs.Sweep.{layers_of, claimed}
use Rattle.oof_box.specs.declared.question.Reply.{Reply}
use Rattle.oof_box.specs.declared.question.Reply.TheVariants.{LaidOut}
use Rattle.oof_box.specs.Cut.{layout_after}
use Rattle.oof_box.proofs.Floor.{size_law as box-size-law}
use Rattle.run.specs.declared.Opening.{Opening}
use Rattle.run.specs.declared.State.{State}
use Rattle.run.specs.declared.Answer.{Answer}
use Rattle.run.specs.declared.Step.{Step}
use Rattle.run.specs.Call.{Slices, Lent, Outcome, outcome}
use Rattle.run.specs.Refusals.{accepted}
use Rattle.run.specs.Conditions.{StyleIsBad, FirstIs, NoneHolds}
use Rattle.run.specs.Theorems.{Names, WroteSize, open_in, one_if_asked, one_if_accepted, asked_for, Heard, Loan, own, other, Turn, next, next_with, turned, Lends, AllLend, called, CountsNone, AddsUp, Stands, heeded_in, course_of, answered_in, laid_so_far, hoisted}
use Rattle.run.specs.Run.{claims_of, extents_of, box_at_hand, closed, opened, replied, taken_by, laid_out, refusing, refusing_opening}
use Rattle.run.specs.Preview.{over_copy, preview_opened, preview_replied}
use Rattle.run.proofs.Refusals.{refused_reply_keeps, refused_opening_keeps, saying, turn_refused}
use Rattle.run.proofs.Exactly.{opening_refused_exactly, opening_accepted_exactly, reply_refused_exactly, reply_accepted_exactly, unresolved_exactly}
use Rattle.run.proofs.Named.{named_exactly, nothing_exactly, named_where_bad}
use Rattle.boxlist_print.proofs.Exactly.{refused_exactly, listed_exactly}
use Rattle.reach.specs.Reach.{reached}
use Rattle.reach_laws.specs.Laws.{told_of}
use Rattle.reach_laws.proofs.Runs.{mirrored_verdict}
use Rattle.drawing_laws.specs.Laws.{all_came, KeepsLayers, SameOutcomes, drawn_of}
use Rattle.drawing_laws.proofs.Kept.{layers_of_a_run}
use Rattle.drawing_laws.proofs.Finished.{finished_is_drawn as run-is-drawn}
use Rattle.drawing_laws.proofs.Runs.{run_reads_no_layer}
use Rattle.drawing_laws.proofs.Mirrored.{mirrored_drawing as images-drawn}
use Rattle.reach_laws.proofs.Answered.{quarters_are_answered as all_answered}
use Rattle.reach.proofs.Exactly as reach
use Rattle.drawing.specs.Drawing.{drawing_order, Drawn, drawn}
use Rattle.drawing.proofs.Exactly as drawing
use Rattle.touch.specs.Touch.{touch_width, touch_words, Touched, left_by, touched}
use Rattle.touch.proofs.Exactly as touch
use Rattle.touch.specs.Laws.{SameToDriver}
use Rattle.touch_laws.specs.Laws.{touched_of, StandAlike}
use Rattle.touch_laws.proofs.Runs as run
use Rattle.boxlist_print.specs.declared.Listing.{Listing}
use Rattle.boxlist_print.specs.Rows.{Prints}
use Rattle.boxlist_print.specs.Printed.{printed}
use Rattle.run.proofs.Ways.{ReplyWay, measures, lays_out, reply_way, never_kept}
use Rattle.run.proofs.Told.{lays_out_lem}
use Rattle.run.proofs.Questions.{Hoisted, opening_hoisted, reply_hoisted, Bounded, three_at_most, opening_bounded, reply_bounded}
use Rattle.run.proofs.ByBox.{ForBox, opening_for, reply_for}
use Rattle.run.proofs.Straight.{straight_run}
use Rattle.run.proofs.Sums.{opening_counts_none, reply_counts_one, replies_are_counted, opening_adds_up, reply_adds_up, refused_adds_up}
use Rattle.mirror_run.proofs.Mirror.{mirror}
use Rattle.mirror_run.specs.Image.{image_opening, image_styles, image_candidates}
use Rattle.mirror_run.specs.Quarter.{QuarterArea, QuarterTable, QuarterCandidates}
use Rattle.mirror_run.specs.Runs.{Message, run_next, image_next, Fair, AllFair, MirroredRuns, layout_of_box}
use Rattle.pixels_laws.specs.Laws.{HasEdges}
use Rattle.pixels_laws.proofs.Run.{run_has_edges}
use Rattle.pixels_laws.proofs.Tests.{refused_first, edges_first}
use Rattle.demands.specs.Entries.{Opens, RepliesTo, OpensAny, RepliesToAny, AnyCalls, TallyKept, TakesBy, RunBy, RefusedBy, Takes, Run, RefusedSince, BothBy, BothRuns, AfterEach}
use Rattle.run.proofs.PreviewCalls.{PreviewOpeningWay, preview_opening_way, PreviewReplyWay, preview_reply_way, accepted_opening, preview_opening_counts_none}
use Rattle.demands.specs.Demands.{OpeningDemands, ReplyDemands, AlignmentDemands, PixelsDemands, ReachDemands, DrawingDemands, TouchDemands, CheckDemands, ScreenDemands, OpeningsGoByTheCheck, RepliesGoByTheCheck, ThreeQuestionsEach, CountsAddUp, EqualsStraightRun, SizedLayout, SizeLaw, LaidOutAsAsked, MirrorImage, MirroredReach, MirroredDrawing, LayersAreKept, FinishedIsDrawn, PlacementReadsNoLayer, FinishedIsTouched, RunsAreSeenAlike, QuartersHaveEdges, QuartersAreAnswered, QuartersAreTouched}

-- ---- one call

pub opening_demands : (o : Opening) (candidates : List ℕ) (lent : Lent) {r : Step} {l w u t : List ℕ} → Opens o candidates lent (outcome r l w u t)
    → OpeningDemands o candidates lent (outcome r l w u t)
opening_demands o candidates lent c =
    subst (OpeningDemands o candidates lent) (sym c)
    (record {
      call = refl;
      refused = opening_refused_exactly o candidates lent;
      accepted = opening_accepted_exactly o candidates lent;
      kept = refused_opening_keeps o candidates lent;
      cleared = opening_counts_none o candidates lent;
    })

pub alignment_demands : (a : AlignItems) (area : Line Float) (rtl : Bool) {r : Result AxisStaticPosition Refusal} → r ≡ from_alignment a area rtl → AlignmentDemands a area rtl r
alignment_demands a area rtl c = subst (AlignmentDemands a area rtl) (sym c) (record { call = refl; refused = unresolved_exactly a area rtl })

pub pixels_demands : (layout : Layout) (offset : Point Float) {r : Result (Rect ℤ) Refusal} → r ≡ pixel_edges layout offset → PixelsDemands layout offset r
pixels_demands layout offset c =
    subst (PixelsDemands layout offset) (sym c) (record { call = refl; refused = refused_first layout offset; accepted = edges_first layout offset })

pub reach_demands : (place : ℕ) (s : State) (lent : Slices) {r : Result (Option Offsets) Refusal} → r ≡ reached place s lent → ReachDemands place s lent r
reach_demands place s lent c =
    subst (ReachDemands place s lent) (sym c)
    (record { call = refl; refused = reach.refused_exactly place s lent; answered = reach.answered_exactly place s lent })

pub drawing_demands : (s : State) (lent : Slices) (before : List ℕ) {has : Drawn} → has ≡ drawn s lent before → DrawingDemands s lent before has
drawing_demands s lent before c =
    subst (DrawingDemands s lent before) (sym c)
    (record {
      call = refl;
      refused = drawing.refused_exactly s lent before;
      accepted = drawing.accepted_exactly s lent before;
      kept = drawing.refused_keeps s lent before;
      in_order = drawing.drawn_in_order s lent before;
    })

pub touch_demands : (s : State) (lent : Slices) (before : List ℕ) {has : Touched} → has ≡ touched s lent before → TouchDemands s lent before has
touch_demands s lent before c =
    subst (TouchDemands s lent before) (sym c)
    (record {
      call = refl;
      refused = touch.refused_exactly s lent before;
      accepted = touch.accepted_exactly s lent before;
      kept = touch.refused_keeps s lent before;
      boxes = touch.accepted_holds s lent before;
    })

pub check_demands : (styles : List ℕ) {r : Result ⊤ BadWord} → r ≡ checked styles → CheckDemands styles r
check_demands styles c =
    subst (CheckDemands styles) (sym c)
    (record { call = refl; named = named_exactly styles; nothing = nothing_exactly styles; some = named_where_bad styles })

pub screen_demands : (listing : Listing) (text : List ℕ) {r : ℕ} {before after : List ℕ} → Prints r before after (printed listing text)
    → ScreenDemands listing text r before after
screen_demands listing text c = record { call = c; refused = refused_exactly listing text; listed = listed_exactly listing text }

-- ---- refusal 3 goes by the check

-- of five tests of these numbers, the first two being passed, 3 is the first that holds exactly where its condition does
module _ {m n p q : ℕ} (m3 : eqb 3 m ≡ false) (n3 : eqb 3 n ≡ false) (p3 : eqb 3 p ≡ false) (q3 : eqb 3 q ≡ false) {A B C D E : Type 0} where
  third_is_first : NoneHolds ((m, A) ∷ (n, B) ∷ []) → FirstIs ((m, A) ∷ (n, B) ∷ (3, C) ∷ (p, D) ∷ (q, E) ∷ []) 3 ↔ C
  third_is_first none = (there, λ c. inr (none.0, inr (none.1.0, inl (c, refl))))
    where
      there : FirstIs ((m, A) ∷ (n, B) ∷ (3, C) ∷ (p, D) ∷ (q, E) ∷ []) 3 → C
      there (inl (_, e)) = no (eq-eqb 3 m e) m3
      there (inr (_, inl (_, e))) = no (eq-eqb 3 n e) n3
      there (inr (_, inr (_, inl (c, _)))) = c
      there (inr (_, inr (_, inr (_, inl (_, e))))) = no (eq-eqb 3 p e) p3
      there (inr (_, inr (_, inr (_, inr (_, inl (_, e)))))) = no (eq-eqb 3 q e) q3
      there (inr (_, inr (_, inr (_, inr (_, inr r))))) = absurd r.1

named : {P : Type 0} (styles : List ℕ) → P ↔ StyleIsBad styles → P ↔ Names (checked styles)
named styles p = let n = named_where_bad styles in Iff.trans p (n.1, n.0)

pub openings_go_by_the_check : OpeningsGoByTheCheck
openings_go_by_the_check o candidates lent has c none =
    subst (λ (x : Outcome). (x.step.answer ≡ Err BadStyle) ↔ Names (checked lent.styles)) (sym c)
    (named lent.styles (Iff.trans (opening_refused_exactly o candidates lent BadStyle) (third_is_first refl refl refl refl none)))

pub replies_go_by_the_check : RepliesGoByTheCheck
replies_go_by_the_check s reply surfaced lent has c none =
    subst (λ (x : Outcome). (x.step.answer ≡ Err BadStyle) ↔ Names (checked lent.styles)) (sym c)
    (named lent.styles (Iff.trans (reply_refused_exactly s reply surfaced lent BadStyle) (third_is_first refl refl refl refl none)))

-- ---- at most three questions

abbrev Counted : ℕ → ℕ → ℕ → State → Type 0
Counted i n m s = ForBox i n s × Hoisted s × Bounded m s

-- after a first call, and after one more
abbrev CountedFirst : ℕ → Outcome → Type 0
CountedFirst i x = Counted i (asked_for i x.step) (one_if_asked x.step.answer) x.step.state

abbrev CountedBy : ℕ → ℕ → ℕ → Outcome → Type 0
CountedBy i n m x = Counted i (n + asked_for i x.step) (m + one_if_asked x.step.answer) x.step.state

first_counted : (i : ℕ) (o : Opening) (candidates : List ℕ) (lent : Lent) → CountedFirst i (opened o candidates lent)
first_counted i o candidates lent = (opening_for i o candidates lent, opening_hoisted o candidates lent, rw zero-add at (opening_bounded o candidates lent))

later_counted : (i n m : ℕ) (s : State) (reply : Reply) (surfaced : List ℕ) (lent : Lent) → Counted i n m s → CountedBy i n m (replied s reply surfaced lent)
later_counted i n m s reply surfaced lent b = (reply_for i n s reply surfaced lent b.0, reply_hoisted s reply surfaced lent b.1, reply_bounded m s reply surfaced lent b.2)

-- a preview's call that is turned down asks nothing
none_asked : (i : ℕ) (lent : Lent) (r : Refusal) → CountedFirst i (refusing_opening lent r)
unfolding closed
none_asked i lent r = go (eqb 0 (i + 1))
  where
    go : (b : Bool) → Counted i (cond b 0 0) 0 (closed lent)
    go true = (record { three = omega arith; none = λ h. refl; now = tt }, omega arith, omega arith)
    go false = (record { three = omega arith; none = λ h. refl; now = tt }, omega arith, omega arith)

no_more_asked : (i n m : ℕ) (s : State) (lent : Lent) (r : Refusal) → Counted i n m s → CountedBy i n m (refusing s lent r)
no_more_asked i n m s lent r b = go (eqb s.counts.begun (i + 1))
  where
    go : (x : Bool) → Counted i (n + cond x 0 0) (m + 0) s
    go true = subst₂ (λ (n m : ℕ). Counted i n m s) (sym (add-zero n)) (sym (add-zero m)) b
    go false = subst₂ (λ (n m : ℕ). Counted i n m s) (sym (add-zero n)) (sym (add-zero m)) b

first_of_any : (i : ℕ) (o : Opening) (candidates : List ℕ) (lent : Lent) {has : Outcome} → OpensAny o candidates lent has → CountedFirst i has
first_of_any i o candidates lent (OpensAny.of_run c) = subst (CountedFirst i) (sym c) (first_counted i o candidates lent)
first_of_any i o candidates lent (OpensAny.of_preview node style c) = subst (CountedFirst i) (sym c) (go (preview_opening_way o candidates node style lent))
  where
    go : PreviewOpeningWay o candidates node style lent → CountedFirst i (preview_opened o candidates node style lent)
    go (PreviewOpeningWay.turned_down r e) = subst (CountedFirst i) (sym e) (none_asked i lent r)
    go (PreviewOpeningWay.over e) = subst (CountedFirst i) (sym e) (first_counted i o candidates (over_copy node style lent))

later_of_any : (i n m : ℕ) (s : State) (reply : Reply) (surfaced : List ℕ) (lent : Lent) {has : Outcome} → Counted i n m s
    → RepliesToAny s reply surfaced lent has
    → CountedBy i n m has
later_of_any i n m s reply surfaced lent b (RepliesToAny.of_run c) = subst (CountedBy i n m) (sym c) (later_counted i n m s reply surfaced lent b)
later_of_any i n m s reply surfaced lent b (RepliesToAny.of_preview node style c) = subst (CountedBy i n m) (sym c) (go (preview_reply_way s reply surfaced node style lent))
  where
    go : PreviewReplyWay s reply surfaced node style lent → CountedBy i n m (preview_replied s reply surfaced node style lent)
    go (PreviewReplyWay.turned_down r e) = subst (CountedBy i n m) (sym e) (no_more_asked i n m s lent r b)
    go (PreviewReplyWay.over e) = subst (CountedBy i n m) (sym e) (later_counted i n m s reply surfaced (over_copy node style lent) b)

counted : (i : ℕ) {n m : ℕ} {has : Outcome} → AnyCalls i n m has → Counted i n m has.step.state
counted i (AnyCalls.opening o candidates lent c) = first_of_any i o candidates lent c
counted i (AnyCalls.reply {n = n} {m = m} {before = before} reply surfaced lent calls c) =
    later_of_any i n m before.step.state reply surfaced lent (counted i calls) c

pub three_questions_each : ThreeQuestionsEach
three_questions_each i n m has calls =
    let b = counted i calls in
    let k = b.1 in
    let most = three_at_most m has.step.state b.2 in
    (b.0.three, λ h. b.0.none (omega arith), omega arith)

-- ---- the tally

-- what a call over the copy leaves, a preview's that isn't refused does
first_adds : (o : Opening) (candidates : List ℕ) (lent : Lent) {has : Outcome} → OpensAny o candidates lent has → is_err has.step.answer ≡ false
    → AddsUp has × CountsNone lent has
first_adds o candidates lent (OpensAny.of_run c) n =
    let k = subst (λ (x : Outcome). is_err x.step.answer ≡ false) c n in
    subst (λ (x : Outcome). AddsUp x × CountsNone lent x) (sym c) (opening_adds_up o candidates lent k, opening_counts_none o candidates lent k)
first_adds o candidates lent (OpensAny.of_preview node style c) n =
    let k = subst (λ (x : Outcome). is_err x.step.answer ≡ false) c n in
    subst (λ (x : Outcome). AddsUp x × CountsNone lent x) (sym c)
    (accepted_opening AddsUp o candidates node style lent k (opening_adds_up o candidates (over_copy node style lent)), preview_opening_counts_none o candidates node style lent k)

-- a refused one leaves the count, with the tally as it was
kept_adds : (before : Outcome) (lent : Lent) (r : Refusal) → AddsUp before → lent.tally ≡ before.tally → AddsUp (refusing before.step.state lent r)
kept_adds before lent r adds same =
    record {
      so_far = ap sum same ∙ adds.so_far;
      at_finish = λ f e. no {b = true} refl (ap is_err e);
      none_above = λ other e. adds.none_above other (e ∙ same);
    }

later_adds : (before : Outcome) (reply : Reply) (surfaced : List ℕ) (lent : Lent) {has : Outcome} → AddsUp before → lent.tally ≡ before.tally
    → RepliesToAny before.step.state reply surfaced lent has
    → AddsUp has
later_adds before reply surfaced lent adds same (RepliesToAny.of_run c) = subst AddsUp (sym c) (reply_adds_up before reply surfaced lent adds same)
later_adds before reply surfaced lent adds same (RepliesToAny.of_preview node style c) =
    subst AddsUp (sym c) (go (preview_reply_way before.step.state reply surfaced node style lent))
  where
    go : PreviewReplyWay before.step.state reply surfaced node style lent → AddsUp (preview_replied before.step.state reply surfaced node style lent)
    go (PreviewReplyWay.turned_down r e) = subst AddsUp (sym e) (kept_adds before lent r adds same)
    go (PreviewReplyWay.over e) = subst AddsUp (sym e) (reply_adds_up before reply surfaced (over_copy node style lent) adds same)

-- of a call that was lent another tally
abbrev AddsIfRefused : Outcome → Outcome → Type 0
AddsIfRefused before x = is_err x.step.answer ≡ true → AddsUp (outcome x.step x.layouts x.working x.unclaimed before.tally)

other_adds : (before : Outcome) (reply : Reply) (surfaced : List ℕ) (lent : Lent) {left : Outcome} → AddsUp before
    → RepliesToAny before.step.state reply surfaced lent left
    → AddsIfRefused before left
other_adds before reply surfaced lent adds (RepliesToAny.of_run c) = subst (AddsIfRefused before) (sym c) (refused_adds_up before reply surfaced lent adds)
other_adds before reply surfaced lent adds (RepliesToAny.of_preview node style c) =
    subst (AddsIfRefused before) (sym c) (go (preview_reply_way before.step.state reply surfaced node style lent))
  where
    go : PreviewReplyWay before.step.state reply surfaced node style lent → AddsIfRefused before (preview_replied before.step.state reply surfaced node style lent)
    go (PreviewReplyWay.turned_down r e) =
        subst (AddsIfRefused before) (sym e)
        (λ n. kept_adds before (record { styles = lent.styles; layouts = lent.layouts; working = lent.working; unclaimed = lent.unclaimed; tally = before.tally }) r adds refl)
    go (PreviewReplyWay.over e) = subst (AddsIfRefused before) (sym e) (refused_adds_up before reply surfaced (over_copy node style lent) adds)

adds_up : {m : ℕ} {has : Outcome} → TallyKept m has → AddsUp has
adds_up (TallyKept.opening o candidates lent c n) = (first_adds o candidates lent c n).0
adds_up (TallyKept.reply {before = before} reply surfaced lent calls same c) = later_adds before reply surfaced lent (adds_up calls) same c
adds_up (TallyKept.other_tally {before = before} reply surfaced lent calls c n) = other_adds before reply surfaced lent (adds_up calls) c n

abbrev Answered : State → Outcome → Type 0
Answered s x = x.step.state.counts.answered ≡ s.counts.answered + one_if_accepted x.step.answer

answered_by : (s : State) (reply : Reply) (surfaced : List ℕ) (lent : Lent) {has : Outcome} → RepliesToAny s reply surfaced lent has → Answered s has
answered_by s reply surfaced lent (RepliesToAny.of_run c) = subst (Answered s) (sym c) (replies_are_counted s reply surfaced lent)
answered_by s reply surfaced lent (RepliesToAny.of_preview node style c) = subst (Answered s) (sym c) (go (preview_reply_way s reply surfaced node style lent))
  where
    go : PreviewReplyWay s reply surfaced node style lent → Answered s (preview_replied s reply surfaced node style lent)
    go (PreviewReplyWay.turned_down r e) = subst (Answered s) (sym e) (sym (add-zero s.counts.answered))
    go (PreviewReplyWay.over e) = subst (Answered s) (sym e) (replies_are_counted s reply surfaced (over_copy node style lent))

accepted_count : {m : ℕ} {has : Outcome} → TallyKept m has → has.step.state.counts.answered ≡ m
accepted_count (TallyKept.opening o candidates lent c n) = (first_adds o candidates lent c n).1.answered
accepted_count (TallyKept.reply {before = before} {has = has} reply surfaced lent calls same c) =
    answered_by before.step.state reply surfaced lent c ∙ ap (λ (n : ℕ). n + one_if_accepted has.step.answer) (accepted_count calls)
accepted_count (TallyKept.other_tally {before = before} {left = left} reply surfaced lent calls c n) =
    answered_by before.step.state reply surfaced lent c ∙ none left.step.answer n ∙ accepted_count calls
  where
    none : (a : Result Answer Refusal) → is_err a ≡ true → before.step.state.counts.answered + one_if_accepted a ≡ before.step.state.counts.answered
    none (Ok answer) e = no e refl
    none (Err r) e = add-zero _

pub counts_add_up : CountsAddUp
counts_add_up m has calls = (adds_up calls, accepted_count calls)

-- ---- a run is the list of its turns

takes : (styles : List ℕ) (before : Outcome) (h : Heard) (loan : Loan) (has : Outcome) → Takes styles before h loan has → has ≡ next_with styles before h loan
unfolding next
takes styles before h own has (TakesBy.lent_own c) = c
takes styles before h (other slices) has (TakesBy.lent_other {left = left} c) = ap (λ (x : Outcome). outcome x.step before.layouts before.working before.unclaimed before.tally) c

-- what holds of each turn, in a list that ends with one more
all_lend_after : (styles : List ℕ) (o : Outcome) (ts : List Turn) (t : Turn) → AllLend styles o ts
    → Lends t.loan (turned styles (foldl (turned styles) o ts) t).step.answer
    → AllLend styles o (ts ++ (t ∷ []))
all_lend_after styles o [] t all last = (last, tt)
all_lend_after styles o (x ∷ ts) t all last = (all.0, all_lend_after styles (turned styles o x) ts t all.1 last)

module _ (o : Opening) (candidates : List ℕ) (lent : Lent) where
  run_is : {turns : List Turn} {has : Outcome} → Run o candidates lent turns has → has ≡ called o candidates lent turns
  run_is (RunBy.opening c n) = c
  run_is (RunBy.reply {turns = turns} {before = before} {has = has} t earlier c n) =
      takes lent.styles before t.heard t.loan has c
      ∙ ap (λ (x : Outcome). turned lent.styles x t) (run_is earlier)
      ∙ sym (foldl-append (turned lent.styles) (opened o candidates lent) turns (t ∷ []))

  run_opened : {turns : List Turn} {has : Outcome} → Run o candidates lent turns has → is_err (opened o candidates lent).step.answer ≡ false
  run_opened (RunBy.opening c n) = subst (λ (x : Outcome). is_err x.step.answer ≡ false) c n
  run_opened (RunBy.reply t earlier c n) = run_opened earlier

  run_lends : {turns : List Turn} {has : Outcome} → Run o candidates lent turns has → AllLend lent.styles (opened o candidates lent) turns
  run_lends (RunBy.opening c n) = tt
  run_lends (RunBy.reply {turns = turns} {before = before} {has = has} t earlier c n) =
      all_lend_after lent.styles (opened o candidates lent) turns t (run_lends earlier)
      (subst (λ (x : Outcome). Lends t.loan x.step.answer)
      (takes lent.styles before t.heard t.loan has c ∙ ap (λ (x : Outcome). turned lent.styles x t) (run_is earlier)) n)

pub equals_straight_run : EqualsStraightRun
equals_straight_run o candidates lent turns has calls =
    subst (λ (x : Outcome). Stands lent (answered_in o candidates lent turns) x (course_of o candidates lent turns))
    (sym (run_is o candidates lent calls))
    (straight_run o candidates lent turns (run_opened o candidates lent calls) (run_lends o candidates lent calls))

pub quarters_have_edges : QuartersHaveEdges
quarters_have_edges o candidates lent turns has area table quarter calls heard =
    subst (λ (x : Outcome). (i : ℕ) → i < laid_so_far x → HasEdges (layout_of_box x i) o.area.offset)
    (sym (run_is o candidates lent calls))
    (run_has_edges o candidates lent turns area table quarter (run_opened o candidates lent calls) (run_lends o candidates lent calls) heard)

pub quarters_are_answered : QuartersAreAnswered
quarters_are_answered o candidates lent turns has area table quarter calls heard =
    subst
    (λ (x : Outcome). x.step.state.progress ≡ None → (place : ℕ) → place < x.step.state.counts.filled.working → IsOk (told_of place lent.styles x))
    (sym (run_is o candidates lent calls))
    (λ finished place filled. all_answered o candidates lent turns place area table quarter (run_opened o candidates lent calls) (run_lends o candidates lent calls) heard finished filled)

pub quarters_are_touched : QuartersAreTouched
quarters_are_touched o candidates lent turns has before area table quarter calls heard =
    subst
    (λ (x : Outcome).
    x.step.state.progress ≡ None → length before ≡ touch_width * x.step.state.counts.filled.working → (touched_of before lent.styles x).verdict ≡ accepted)
    (sym (run_is o candidates lent calls))
    (run.quarters_are_touched o candidates lent turns before area table quarter (run_opened o candidates lent calls) (run_lends o candidates lent calls) heard)

-- ---- layers

pub layers_are_kept : LayersAreKept
layers_are_kept o candidates lent turns has calls =
    subst (KeepsLayers (claims_of o) (all_came candidates (heeded_in o candidates lent turns))) (sym (run_is o candidates lent calls))
    (layers_of_a_run o candidates lent turns (run_opened o candidates lent calls) (run_lends o candidates lent calls))

pub finished_is_drawn : FinishedIsDrawn
finished_is_drawn o candidates lent turns has before calls =
    let boxes = claimed (claims_of o) (all_came candidates (heeded_in o candidates lent turns)) in
    subst
    (λ (x : Outcome).
    x.step.state.progress ≡ None → length before ≡ x.step.state.counts.filled.working
    → drawn_of before lent.styles x ≡ record { verdict = accepted; order = drawing_order (layers_of boxes) })
    (sym (run_is o candidates lent calls))
    (run-is-drawn o candidates lent turns before (run_opened o candidates lent calls) (run_lends o candidates lent calls))

pub placement_reads_no_layer : PlacementReadsNoLayer
placement_reads_no_layer o candidates candidates' lent lent' turns turns' has has' came slices same calls calls' =
    subst₂ SameOutcomes (sym (run_is o candidates lent calls)) (sym (run_is o candidates' lent' calls'))
    (run_reads_no_layer o candidates candidates' lent lent' turns turns' came slices same (run_lends o candidates lent calls))

-- ---- what the touch driver reads

pub finished_is_touched : FinishedIsTouched
finished_is_touched o candidates lent turns has before calls =
    subst
    (λ (x : Outcome).
    x.step.state.progress ≡ None → length before ≡ touch_width * x.step.state.counts.filled.working
    → touched_of before lent.styles x ≡ left_by (touch_words x.layouts o.area.offset (hoisted x)) before)
    (sym (run_is o candidates lent calls))
    (run.finished_is_touched o candidates lent turns before (run_opened o candidates lent calls) (run_lends o candidates lent calls))

pub runs_are_seen_alike : RunsAreSeenAlike
runs_are_seen_alike o o' candidates candidates' lent lent' turns turns' has has' before before' calls calls' =
    subst₂
    (λ (x x' : Outcome).
    x.step.state.progress ≡ None → x'.step.state.progress ≡ None → StandAlike o o' x x' → length before ≡ length before'
    → SameToDriver (touched_of before lent.styles x) (touched_of before' lent'.styles x'))
    (sym (run_is o candidates lent calls)) (sym (run_is o' candidates' lent' calls'))
    (run.runs_are_seen_alike o o' candidates candidates' lent lent' turns turns' before before' (run_opened o candidates lent calls) (run_opened o' candidates' lent' calls') (run_lends o candidates lent calls) (run_lends o' candidates' lent' calls'))

-- ---- the size law

sized : (s : State) (overflow : Rect Float) (surfaced : List ℕ) (lent : Lent) → SizedLayout s lent (laid_out s overflow surfaced lent).layouts
unfolding laid_out
sized s overflow surfaced lent =
    let box = box_at_hand lent.working s.counts in
    let style = style_at lent.styles box.node in
    let law = box-size-law s.opened.container style box s.replies overflow in
    record { layout = (layout_after s.opened.container style box s.replies overflow).layout; wrote = refl; width = law.0; height = law.1 }

pub size_law : (s : State) (reply : Reply) (surfaced : List ℕ) (lent : Lent) → SizeLaw s reply lent (replied s reply surfaced lent)
size_law s reply surfaced lent overflow k a = go (reply_way s reply surfaced lent)
  where
    go : ReplyWay s reply surfaced lent → SizedLayout s lent (replied s reply surfaced lent).layouts
    go (ReplyWay.turned_down r f) = no (ap (λ (x : Outcome). is_err x.step.answer) f) a
    go (measures replies v t f) = never_kept s overflow (ap (taken_by s) (sym k) ∙ t)
    go (lays_out laid v t f) = subst (λ (x : Outcome). SizedLayout s lent x.layouts) (sym f) (sized s laid surfaced lent)

pub reply_demands : (s : State) (reply : Reply) (surfaced : List ℕ) (lent : Lent) {r : Step} {l w u t : List ℕ} → RepliesTo s reply surfaced lent (outcome r l w u t)
    → ReplyDemands s reply surfaced lent (outcome r l w u t)
reply_demands s reply surfaced lent c =
    subst (ReplyDemands s reply surfaced lent) (sym c)
    (record {
      call = refl;
      refused = reply_refused_exactly s reply surfaced lent;
      accepted = reply_accepted_exactly s reply surfaced lent;
      kept = refused_reply_keeps s reply surfaced lent;
      size = size_law s reply surfaced lent;
      counted = reply_counts_one s reply surfaced lent;
    })

-- what was asked is still open after replies that were refused
since : (styles : List ℕ) {asked before : Outcome} → RefusedSince styles asked before → before ≡ saying before.step.answer asked
since styles RefusedBy.none = refl
since styles {asked} (RefusedBy.more {before = before} {has = has} t earlier c r) =
    let e = takes styles before t.heard t.loan has c in
    let a = (turned styles before t).step.answer in
    e ∙ turn_refused styles before t (subst (λ (x : Outcome). is_err x.step.answer ≡ true) e r) ∙ ap (saying a) (since styles earlier)
    ∙ ap (λ (x : Outcome). saying x.step.answer asked) (sym e)

pub laid_out_as_asked : LaidOutAsAsked
laid_out_as_asked o candidates lent turns asked before has run input told refused overflow surfaced c n =
    let s = equals_straight_run o candidates lent turns asked run in
    let q = s.pending ∙ sym (s.answer (ap is_err told)) ∙ told in
    let same = since lent.styles refused in
    let e = takes lent.styles before (record { reply = LaidOut overflow; surfaced = surfaced }) own has c in
    subst (λ (x : Outcome). WroteSize input asked.layouts x.layouts) (sym e)
    (subst (λ (ws : List ℕ). WroteSize input ws (next lent.styles before (record { reply = LaidOut overflow; surfaced = surfaced })).layouts) (ap (λ (x : Outcome). x.layouts) same)
    (lays_out_lem lent.styles before input overflow surfaced (ap (open_in lent.styles) same ∙ q)
    (subst (λ (x : Outcome). is_err x.step.answer ≡ false) e n)))

-- ---- the mirror image

all_fair_after : (styles : List ℕ) (o : Outcome) (ms : List Message) (m : Message) → AllFair styles o ms
    → Fair (foldl (run_next styles) o ms).step.state (run_next styles (foldl (run_next styles) o ms) m).step.answer m
    → AllFair styles o (ms ++ (m ∷ []))
all_fair_after styles o [] m all last = (last, tt)
all_fair_after styles o (x ∷ ms) m all last = (all.0, all_fair_after styles (run_next styles o x) ms m all.1 last)

module _ (o : Opening) (candidates : List ℕ) (lent lent' : Lent) where
  image : Outcome
  image = opened (image_opening o) (image_candidates o.area candidates) lent'

  run_of : {messages : List Message} {has has' : Outcome} → BothRuns o candidates lent lent' messages has has'
      → has ≡ foldl (run_next lent.styles) (opened o candidates lent) messages
  run_of (BothBy.opening c c') = c
  run_of (BothBy.reply {messages = messages} {before = before} {has = has} m earlier c c' f) =
      takes lent.styles before m.turn.heard m.turn.loan has c
      ∙ ap (λ (x : Outcome). run_next lent.styles x m) (run_of earlier)
      ∙ sym (foldl-append (run_next lent.styles) (opened o candidates lent) messages (m ∷ []))

  image_of : {messages : List Message} {has has' : Outcome} → BothRuns o candidates lent lent' messages has has'
      → has' ≡ foldl (image_next lent'.styles) image messages
  unfolding image
  image_of (BothBy.opening c c') = c'
  image_of (BothBy.reply {messages = messages} {before' = before'} {has' = has'} m earlier c c' f) =
      takes lent'.styles before' m.image.heard m.image.loan has' c'
      ∙ ap (λ (x : Outcome). image_next lent'.styles x m) (image_of earlier)
      ∙ sym (foldl-append (image_next lent'.styles) image messages (m ∷ []))

  both_fair : {messages : List Message} {has has' : Outcome} → BothRuns o candidates lent lent' messages has has'
      → AllFair lent.styles (opened o candidates lent) messages
  both_fair (BothBy.opening c c') = tt
  both_fair (BothBy.reply {messages = messages} {before = before} {has = has} m earlier c c' f) =
      let e = run_of earlier in
      all_fair_after lent.styles (opened o candidates lent) messages m (both_fair earlier)
      (subst (λ (x : Outcome). Fair x.step.state (run_next lent.styles x m).step.answer m) e
      (subst (λ (x : Outcome). Fair before.step.state x.step.answer m) (takes lent.styles before m.turn.heard m.turn.loan has c) f))

-- at the end of a list, and so of each beginning of it
at_the_end : (o : Opening) (candidates : List ℕ) (lent lent' : Lent) {messages : List Message} {has has' : Outcome}
    → QuarterArea o.area → QuarterTable lent.styles → QuarterCandidates candidates
    → lent'.styles ≡ image_styles lent.styles → extents_of lent ≡ extents_of lent'
    → BothRuns o candidates lent lent' messages has has'
    → MirroredRuns o.area (opened o candidates lent) has has'
unfolding image
at_the_end o candidates lent lent' {messages} {has} {has'} area table quarter styles same both =
    subst (λ (x : Outcome). MirroredRuns o.area (opened o candidates lent) x has') (sym (run_of o candidates lent lent' both))
    (subst (λ (x : Outcome). MirroredRuns o.area (opened o candidates lent) (foldl (run_next lent.styles) (opened o candidates lent) messages) x) (sym (image_of o candidates lent lent' both))
    (mirror o candidates lent lent' messages [] area table quarter styles same
    (subst (AllFair lent.styles (opened o candidates lent)) (sym (append-nil messages)) (both_fair o candidates lent lent' both))))

-- what is worked out of both at the end of a list, where it is the same of the definition's runs
worked_out : {A : Type 0} (o : Opening) (candidates : List ℕ) (lent lent' : Lent) (f f' : Outcome → A) {messages : List Message} {has has' : Outcome}
    → BothRuns o candidates lent lent' messages has has'
    → f (foldl (run_next lent.styles) (opened o candidates lent) messages)
    ≡ f' (foldl (image_next lent'.styles) (opened (image_opening o) (image_candidates o.area candidates) lent') messages)
    → f has ≡ f' has'
unfolding image
worked_out o candidates lent lent' f f' both e = ap f (run_of o candidates lent lent' both) ∙ e ∙ sym (ap f' (image_of o candidates lent lent' both))

-- what holds at the end of every list holds after each of its replies
module _
    {opens opens' : Opening → List ℕ → Lent → Outcome → Type 0}
    {replies replies' : State → Reply → List ℕ → Lent → Outcome → Type 0}
    {o : Opening}
    {candidates : List ℕ}
    {lent lent' : Lent}
    (P : Outcome → Outcome → Type 0)
    (end : (messages : List Message) (has has' : Outcome) → BothBy opens opens' replies replies' o candidates lent lent' messages has has' → P has has') where
  pub after_each : {messages : List Message} {has has' : Outcome} (both : BothBy opens opens' replies replies' o candidates lent lent' messages has has') → AfterEach P both
  after_each (BothBy.opening c c') = end _ _ _ (BothBy.opening c c')
  after_each (BothBy.reply m earlier c c' fair) = (after_each earlier, end _ _ _ (BothBy.reply m earlier c c' fair))

pub mirror_image : MirrorImage
mirror_image o candidates lent lent' messages has has' area table quarter styles same both =
    after_each (MirroredRuns o.area (opened o candidates lent)) (λ _ _ _ b. at_the_end o candidates lent lent' area table quarter styles same b) both

pub mirrored_reach : MirroredReach
mirrored_reach o candidates lent lent' messages has has' area table quarter styles same both =
    after_each (λ (has has' : Outcome). (place : ℕ) → told_of place lent.styles has ≡ told_of place lent'.styles has')
    (λ ms _ _ b place.
    worked_out o candidates lent lent' (told_of place lent.styles) (told_of place lent'.styles) b
    (mirrored_verdict o candidates lent lent' ms place area table quarter styles same (both_fair o candidates lent lent' b)))
    both

pub mirrored_drawing : MirroredDrawing
mirrored_drawing o candidates lent lent' messages has has' area table quarter styles same both =
    after_each (λ (has has' : Outcome). (before : List ℕ) → drawn_of before lent.styles has ≡ drawn_of before lent'.styles has')
    (λ ms _ _ b before.
    worked_out o candidates lent lent' (drawn_of before lent.styles) (drawn_of before lent'.styles) b
    (images-drawn o candidates lent lent' ms before area table quarter styles same (both_fair o candidates lent lent' b)))
    both
