-- A call is refused exactly under the first of document 01's conditions that holds, and accepted exactly where none does. Assumes nothing.
use Rattle.std.specs.Prelude.{Option, None, Some, is_none, Ok, Err, Result, is_err}
use Prim.Native.Nat.{ℕ, ◌<◌, ◌≤◌}
use native.Mathlib.Omega.{arith}
use mathlib.Core.Logic.Iff
use mathlib.Core.Logic.{inl, inr, ◌↔◌}
use mathlib.Core.Path.{◌≡◌, refl, ap}
use mathlib.Core.Bool.{Bool, true, false, cond, ◌||◌}
use mathlib.Core.List.{List}
use Rattle.std.proofs.lemmas.Bool.{or_parts}
use Rattle.util.proofs.Floats.{no}
use Rattle.style.specs.Values.{is_self_relative}
use Rattle.tree.specs.Static.{from_alignment}
use Rattle.tree.specs.declared.layout.AxisStaticPosition.{AxisStaticPosition}
use Rattle.refusal.specs.declared.Refusal.{Refusal}
use Rattle.refusal.specs.declared.Refusal.TheVariants.{BadArea, BadExtent, BadStyle, BadCandidate, ListFull, WrongReply, UnresolvedSide}
use Rattle.oof_box.specs.declared.question.Reply.{Reply}
use Rattle.oof_box.specs.declared.question.Taken.{Taken}
use Rattle.oof_box.specs.declared.question.Taken.TheVariants.{Kept, Laid}
use Rattle.run.specs.declared.Opening.{Opening}
use Rattle.run.specs.declared.Counts.{Counts}
use Rattle.run.specs.declared.State.{State}
use Rattle.run.specs.declared.Answer.{Answer}
use Rattle.run.specs.declared.Answer.TheVariants.{Ask, Finish}
use Rattle.run.specs.Call.{Lent}
use Rattle.run.specs.Refusals.{Verdict, accepted, refused, ◌when◌else◌, wrong_counts, lent_by}
use Rattle.run.specs.Run.{claims_of, none_filled, opened, opened_by, opening_verdict, taken_by, replied, replied_by, reply_verdict}
use Rattle.run.specs.Conditions.{places, opening_tests, reply_tests}
use Rattle.run.specs.Theorems.{OpeningRefusedExactly, OpeningAcceptedExactly, ReplyRefusedExactly, ReplyAcceptedExactly, OtherLengthsRefused, UnresolvedExactly}
use Rattle.run.proofs.Ways.{passed}
use Rattle.run.proofs.Refusals.{begun_accepts, measured_accepts, laid_accepts}
use Rattle.run.proofs.Decides.{either, regroup, Says, no_more, then, refused_first, accepted_none, refusal_by, is_accepted}
use Rattle.run.proofs.Conditions.{area_decided, opening_extents_decided, reply_extents_decided, style_decided, candidate_decided, full_decided, asked_decided, counts_decided, side_decided}

-- ---- in their order

pub opening_says : (o : Opening) (candidates : List ℕ) (lent : Lent) → Says (opening_verdict o candidates lent) (opening_tests o candidates lent)
unfolding opening_verdict
opening_says o candidates lent =
    then BadArea (area_decided o)
    (λ _. then BadExtent (regroup (opening_extents_decided candidates lent))
    (λ _. then BadStyle (style_decided lent.styles)
    (λ _. then BadCandidate (candidate_decided lent.styles candidates (places candidates) (omega arith))
    (λ _. then ListFull (full_decided (claims_of o) lent none_filled candidates)
    (λ _. no_more)))))

-- the filled records are there where 6 was passed
filled_there : (lent : Lent) (c : Counts) (wrong : Bool) → wrong || wrong_counts lent c ≡ false → c.filled.working ≤ places lent.working
filled_there lent c wrong f =
    let n = (counts_decided lent c).fails (or_parts wrong _ f).1 in
    let h : ¬ (places lent.working < c.filled.working) = λ l. n (inl (inl l)) in
    omega arith

pub reply_says : (s : State) (given : Reply) (surfaced : List ℕ) (lent : Lent)
    → Says (reply_verdict s given surfaced lent) (reply_tests s given surfaced lent)
unfolding reply_verdict taken_by
reply_says s given slice lent =
    let surfaced = lent_by given slice in
    then BadExtent (regroup (regroup (reply_extents_decided s surfaced lent)))
    (λ _. then WrongReply (either (asked_decided s.progress s.replies given) (counts_decided lent s.counts))
    (λ f. then BadStyle (style_decided lent.styles)
    (λ _. then BadCandidate (either (candidate_decided lent.styles lent.working s.counts.filled.working (filled_there lent s.counts (is_none (taken_by s given)) f)) (candidate_decided lent.styles surfaced (places surfaced) (omega arith)))
    (λ _. then ListFull (full_decided s.opened.claims lent s.counts.filled surfaced)
    (λ _. no_more)))))

-- ---- a refusal is the verdict's

abbrev refusal_in : Result Answer Refusal → Refusal
refusal_in (Ok (Ask q)) = WrongReply
refusal_in (Ok (Finish f)) = WrongReply
refusal_in (Err r) = r

-- an answer goes by a verdict: a refusal is its refusal, and there is none where it accepts
pub record GoesBy (a : Result Answer Refusal) (v : Verdict) : Type 0 where
  pub refusal : (r : Refusal) → (a ≡ Err r) ↔ (v ≡ refused r)
  pub none : (is_err a ≡ false) ↔ (v ≡ accepted)

pub goes_refused : (q : Refusal) → GoesBy (Err q) (refused q)
goes_refused q =
    record {
      refusal = λ r. (λ e. ap refused (ap refusal_in e), λ e. ap Err (ap refusal_by e));
      none = (λ f. no {b = true} refl f, λ e. no {b = false} (ap is_accepted e) refl);
    }

goes_accepted : (a : Result Answer Refusal) → is_err a ≡ false → GoesBy a accepted
goes_accepted a n =
    record {
      refusal = λ r. (λ e. no (ap is_err e) n, λ e. no {b = true} refl (ap is_accepted e));
      none = (λ f. refl, λ e. n);
    }

pub opening_goes : (o : Opening) (candidates : List ℕ) (lent : Lent) → GoesBy (opened o candidates lent).step.answer (opening_verdict o candidates lent)
unfolding opened
opening_goes o candidates lent = go (opening_verdict o candidates lent)
  where
    go : (v : Verdict) → GoesBy (opened_by v o candidates lent).step.answer v
    go (Ok tt) = goes_accepted _ (begun_accepts o candidates lent)
    go (Err q) = goes_refused q

-- what is accepted is not of another kind than the question
accepted_not_wrong : (s : State) (given : Reply) (surfaced : List ℕ) (lent : Lent) → reply_verdict s given surfaced lent ≡ accepted
    → is_none (taken_by s given) ≡ false
unfolding reply_verdict
accepted_not_wrong s given surfaced lent d = (or_parts (is_none (taken_by s given)) _ (passed _ _ _ (passed _ _ _ d).1).0).0

pub reply_goes : (s : State) (given : Reply) (surfaced : List ℕ) (lent : Lent)
    → GoesBy (replied s given surfaced lent).step.answer (reply_verdict s given surfaced lent)
unfolding replied
reply_goes s given surfaced lent = go (reply_verdict s given surfaced lent) (taken_by s given) refl refl
  where
    go : (v : Verdict) (t : Option Taken) → reply_verdict s given surfaced lent ≡ v → taken_by s given ≡ t → GoesBy (replied_by v t s surfaced lent).step.answer v
    go (Err q) t d e = goes_refused q
    go (Ok tt) None d e = no (ap is_none e) (accepted_not_wrong s given surfaced lent d)
    go (Ok tt) (Some (Kept replies)) d e = goes_accepted _ (measured_accepts s replies lent)
    go (Ok tt) (Some (Laid overflow)) d e = goes_accepted _ (laid_accepts s overflow surfaced lent)

-- ---- the theorems

pub opening_refused_exactly : OpeningRefusedExactly
opening_refused_exactly o candidates lent r = Iff.trans ((opening_goes o candidates lent).refusal r) (refused_first r (opening_says o candidates lent))

pub opening_accepted_exactly : OpeningAcceptedExactly
opening_accepted_exactly o candidates lent = Iff.trans (opening_goes o candidates lent).none (accepted_none (opening_says o candidates lent))

pub reply_refused_exactly : ReplyRefusedExactly
reply_refused_exactly s given surfaced lent r = Iff.trans ((reply_goes s given surfaced lent).refusal r) (refused_first r (reply_says s given surfaced lent))

pub reply_accepted_exactly : ReplyAcceptedExactly
reply_accepted_exactly s given surfaced lent = Iff.trans (reply_goes s given surfaced lent).none (accepted_none (reply_says s given surfaced lent))

-- slices of other lengths
pub other_lengths_refused : OtherLengthsRefused
other_lengths_refused s given surfaced lent d = (reply_refused_exactly s given surfaced lent BadExtent).1 (inl (inr (inr (inl d)), refl))

-- ---- `from_alignment`

abbrev is_at : Result AxisStaticPosition Refusal → Bool
is_at (Ok p) = true
is_at (Err r) = false

abbrev refusal_of : Result AxisStaticPosition Refusal → Refusal
refusal_of (Ok p) = UnresolvedSide
refusal_of (Err r) = r

pub unresolved_exactly : UnresolvedExactly
unfolding from_alignment ◌when◌else◌
unresolved_exactly a area rtl r = Iff.trans (go (is_self_relative a.keyword) _) (refused_first r (then UnresolvedSide (side_decided a) (λ _. no_more)))
  where
    go : (b : Bool) (p : AxisStaticPosition) → (cond b (Err UnresolvedSide) (Ok p) ≡ Err r) ↔ (UnresolvedSide when b else accepted ≡ refused r)
    go true p = (λ e. ap refused (ap refusal_of e), λ e. ap Err (ap refusal_by e))
    go false p = (λ e. no {b = true} refl (ap is_at e), λ e. no {b = true} refl (ap is_accepted e))
