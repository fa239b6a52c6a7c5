-- The words of the tally add up to the questions answered: an opening clears both, and a call that is accepted charges one item. Assumes
-- nothing.
use Rattle.std.specs.Prelude.{is_none, is_err, sum, Result, Ok, Err, Float}
use Prim.Native.Nat.{ℕ, ◌+◌, ◌*◌, ◌-◌, ◌<◌, ◌≤◌}
use native.Mathlib.Omega.{arith}
use native.Mathlib.Nat.{add-zero}
use mathlib.Core.Logic.{inl}
use mathlib.Core.Path.{◌≡◌, refl, sym, ap, ◌∙◌, subst}
use mathlib.Core.Bool.{true, ◌||◌}
use mathlib.Core.List.{List}
use lib.ListN.{length, get_or}
use borrow.Author.Tests.{eqb-true, not-false}
use Rattle.std.proofs.lemmas.Bool.{or_parts}
use Rattle.std.proofs.lemmas.List.Sums.{get_or-le-sum_by}
use Rattle.std.proofs.lemmas.List.Folds.{sum_by-replicate}
use Rattle.util.proofs.Floats.{no}
use Rattle.geometry.specs.declared.Rect.{Rect}
use Rattle.refusal.specs.declared.Refusal.{Refusal}
use Rattle.tree_record.specs.Candidate.{candidate_width}
use Rattle.tree_record.proofs.Places.{candidate_place}
use Rattle.style_record.specs.Record.{items}
use Rattle.oof_box.specs.declared.question.Reply.{Reply}
use Rattle.oof_box.specs.declared.question.Replies.{Replies}
use Rattle.run.specs.declared.Counts.{Counts}
use Rattle.run.specs.declared.Opened.{Opened}
use Rattle.run.specs.declared.State.{State}
use Rattle.run.specs.declared.Answer.{Answer}
use Rattle.run.specs.declared.Answer.TheVariants.{Ask, Finish}
use Rattle.run.specs.declared.Finish as ending
use Rattle.run.specs.declared.Step.{Step}
use Rattle.run.specs.Call.{Lent, Outcome, slices_of, outcome}
use Rattle.run.specs.Refusals.{accepted, ragged, bad_slices, bad_tally, other_extents, lent_by, wrong_counts}
use Rattle.run.specs.Conditions.{WordIsAbove, word}
use Rattle.run.specs.Run.{box_at_hand, asking, finishing, proceeding, begun, opened, charged, measured_on, laid_out, taken_by, reply_verdict, replied}
use Rattle.run.specs.Theorems.{CountsNone, OpeningCountsNone, CountsOne, ReplyCountsOne, one_if_accepted, RepliesAreCounted, AddsUp, OpeningAddsUp, ReplyAddsUp}
use Rattle.run.proofs.Charged.{charged_sum}
use Rattle.run.proofs.Conditions.{candidate_decided}
use Rattle.run.proofs.Refusals.{refused_in, measured_accepts, laid_accepts, refused_reply_keeps}
use Rattle.run.proofs.Ways.{NextWay, asks, ends, next_way, OpeningWay, begins, opening_way, ReplyWay, measures, lays_out, reply_way, passed, counted}

-- ---- a step says how many are answered

record Says (answered : ℕ) (step : Step) : Type 0 where
  counts : step.state.counts.answered ≡ answered
  finish : (f : ending.Finish) → step.answer ≡ Ok (Finish f) → f.count ≡ answered

abbrev count_in : Result Answer Refusal → ℕ → ℕ
count_in (Ok (Ask q)) other = other
count_in (Ok (Finish f)) other = f.count
count_in (Err r) other = other

asking_says : (styles working : List ℕ) (run : Opened) (counts : Counts) (overflow : Rect Float) (replies : Replies)
    → Says counts.answered (asking styles working run counts overflow replies)
unfolding asking
asking_says styles working run counts overflow replies =
    record { counts = refl; finish = λ f e. sym (ap (λ (a : Result Answer Refusal). count_in a counts.answered) e) }

finishing_says : (run : Opened) (counts : Counts) (overflow : Rect Float) → Says counts.answered (finishing run counts overflow)
unfolding finishing
finishing_says run counts overflow = record { counts = refl; finish = λ f e. sym (ap (λ (a : Result Answer Refusal). count_in a counts.answered) e) }

proceeding_says : (styles working : List ℕ) (run : Opened) (counts : Counts) (overflow : Rect Float)
    → Says counts.answered (proceeding styles working run counts overflow)
proceeding_says styles working run counts overflow = go (next_way styles working run counts overflow)
  where
    go : NextWay styles working run counts overflow → Says counts.answered (proceeding styles working run counts overflow)
    go (asks h e) = rw e (asking_says styles working run _ overflow _)
    go (ends h e) = rw e (finishing_says run counts overflow)

-- ---- then the tally, if it adds up to that, has no word above it

adds_up : {answered : ℕ} {has : Outcome} → Says answered has.step → sum has.tally ≡ answered → AddsUp has
adds_up {answered} {has} says e =
    record {
      so_far = e ∙ sym says.counts;
      at_finish = λ f finish. e ∙ sym (says.finish f finish);
      none_above = none;
    }
  where
    none : (lent : Lent) → lent.tally ≡ has.tally → ¬ WordIsAbove lent has.step.state.counts
    none lent same above =
        let i = above.0 in
        let within = subst (λ (t : List ℕ). i < length t) same above.1 in
        let over = subst (λ (t : List ℕ). has.step.state.counts.answered < get_or t i 0) same above.2 in
        let most = get_or-le-sum_by (λ (n : ℕ). n) has.tally i 0 within in
        let s = e ∙ sym says.counts in
        absurd (omega arith)

-- ---- an opening

pub opening_adds_up : OpeningAddsUp
unfolding begun
opening_adds_up o candidates lent n = go (opening_way o candidates lent)
  where
    none : (m : ℕ) → m * 0 ≡ 0
    none m = omega arith

    go : OpeningWay o candidates lent → AddsUp (opened o candidates lent)
    go (OpeningWay.turned_down r e) = no (ap refused_in e) n
    go (begins v e) = rw e (adds_up (proceeding_says _ _ _ _ _) (sum_by-replicate (λ (n : ℕ). n) (length lent.tally) 0 ∙ none (length lent.tally)))

-- ---- a reply

-- an accepted one charges a word of the tally
node_there : (s : State) (reply : Reply) (surfaced : List ℕ) (lent : Lent) → reply_verdict s reply surfaced lent ≡ accepted
    → (box_at_hand lent.working s.counts).node < length lent.tally
unfolding reply_verdict box_at_hand
node_there s reply surfaced lent e =
    let two = passed _ _ _ e in
    let six = passed _ _ _ two.1 in
    let four = passed _ _ _ (passed _ _ _ six.1).1 in
    let lengths = or_parts (bad_slices (slices_of lent) || bad_tally lent || other_extents s.opened.extents lent) (ragged candidate_width (lent_by reply surfaced)) two.0 in
    let both = or_parts (bad_slices (slices_of lent) || bad_tally lent) (other_extents s.opened.extents lent) lengths.0 in
    let long = eqb-true (length lent.tally) (items lent.styles) (not-false _ (or_parts (bad_slices (slices_of lent)) (bad_tally lent) both.0).1) in
    let n = counted lent s.counts (or_parts (is_none (taken_by s reply)) (wrong_counts lent s.counts) six.0).1 in
    let good = (candidate_decided lent.styles lent.working s.counts.filled.working n.working).fails (or_parts _ _ four.0).0 in
    let first = n.first in
    let begun = n.begun in
    let below : ¬ (items lent.styles ≤ word lent.working (s.counts.begun - 1) 0) = λ h. good (s.counts.begun - 1, omega arith, inl h) in
    rw (candidate_place lent.working (s.counts.begun - 1), long)
    (there (items lent.styles) (candidate_width * (s.counts.begun - 1)) below)
  where
    there : (n at : ℕ) → ¬ (n ≤ get_or lent.working (at + 0) 0) → get_or lent.working at 0 < n
    there n at h = let k = subst (λ (at : ℕ). ¬ (n ≤ get_or lent.working at 0)) (add-zero at) h in omega (arith, k)

pub opening_counts_none : OpeningCountsNone
unfolding begun
opening_counts_none o candidates lent n = go (opening_way o candidates lent)
  where
    go : OpeningWay o candidates lent → CountsNone lent (opened o candidates lent)
    go (OpeningWay.turned_down r e) = no (ap refused_in e) n
    go (begins v e) = rw e (record { answered = (proceeding_says _ _ _ _ _).counts; tally = refl })

pub reply_counts_one : ReplyCountsOne
unfolding measured_on laid_out
reply_counts_one s reply surfaced lent n = go (reply_way s reply surfaced lent)
  where
    go : ReplyWay s reply surfaced lent → CountsOne s lent (replied s reply surfaced lent)
    go (ReplyWay.turned_down r e) = no (ap refused_in e) n
    go (measures replies v t e) =
        rw e (record { answered = (asking_says _ _ _ _ _ _).counts; has_word = node_there s reply surfaced lent v; tally = refl })
    go (lays_out overflow v t e) =
        rw e (record { answered = (proceeding_says _ _ _ _ _).counts; has_word = node_there s reply surfaced lent v; tally = refl })

pub replies_are_counted : RepliesAreCounted
replies_are_counted s reply surfaced lent = go (replied s reply surfaced lent).step.answer refl
  where
    go : (a : Result Answer Refusal) → (replied s reply surfaced lent).step.answer ≡ a
        → (replied s reply surfaced lent).step.state.counts.answered ≡ s.counts.answered + one_if_accepted a
    go (Ok answer) e = (reply_counts_one s reply surfaced lent (ap is_err e)).answered
    go (Err r) e = ap (λ (x : Outcome). x.step.state.counts.answered) (refused_reply_keeps s reply surfaced lent r e) ∙ sym (add-zero s.counts.answered)

pub reply_adds_up : ReplyAddsUp
unfolding measured_on laid_out
reply_adds_up before reply surfaced lent adds same = go (reply_way s reply surfaced lent)
  where
    s : State
    s = before.step.state

    charged_one : reply_verdict s reply surfaced lent ≡ accepted
        → sum (charged lent.tally (box_at_hand lent.working s.counts).node) ≡ s.counts.answered + 1
    charged_one v =
        charged_sum lent.tally (box_at_hand lent.working s.counts).node (node_there s reply surfaced lent v)
        ∙ ap (λ (t : List ℕ). sum t + 1) same
        ∙ ap (λ (n : ℕ). n + 1) adds.so_far

    go : ReplyWay s reply surfaced lent → AddsUp (replied s reply surfaced lent)
    go (ReplyWay.turned_down r e) =
        rw e
        (adds_up {answered = s.counts.answered} (record { counts = refl; finish = λ f a. no {b = true} refl (ap is_err a) })
        (ap sum same ∙ adds.so_far))
    go (measures replies v t e) = rw e (adds_up (asking_says _ _ _ _ _ _) (charged_one v))
    go (lays_out overflow v t e) = rw e (adds_up (proceeding_says _ _ _ _ _) (charged_one v))

-- a refused one leaves the count, whichever tally it was lent
pub refused_adds_up : (before : Outcome) (reply : Reply) (surfaced : List ℕ) (lent : Lent) → AddsUp before
    → let left = replied before.step.state reply surfaced lent in
    is_err left.step.answer ≡ true
    → AddsUp (outcome left.step left.layouts left.working left.unclaimed before.tally)
refused_adds_up before reply surfaced lent adds n = go (reply_way before.step.state reply surfaced lent)
  where
    s : State
    s = before.step.state

    kept : Outcome → Outcome
    kept x = outcome x.step x.layouts x.working x.unclaimed before.tally

    go : ReplyWay s reply surfaced lent → AddsUp (kept (replied s reply surfaced lent))
    go (ReplyWay.turned_down r e) =
        subst (λ (x : Outcome). AddsUp (kept x)) (sym e)
        (adds_up {answered = s.counts.answered} (record { counts = refl; finish = λ f a. no {b = true} refl (ap is_err a) }) adds.so_far)
    go (measures replies v t e) = no n (ap refused_in e ∙ measured_accepts s replies lent)
    go (lays_out overflow v t e) = no n (ap refused_in e ∙ laid_accepts s overflow surfaced lent)
