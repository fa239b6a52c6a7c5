-- A run that is played out has no open question: it asks at most three a box begun, each of those is one of the claimed candidates, and
-- nothing is surfaced. Assumes nothing.
use Prim.Native.Nat.{ℕ, zero, suc, ◌+◌, ◌*◌, ◌/◌, ◌≤◌}
use native.Mathlib.Omega.{arith}
use native.Mathlib.Nat.{add-zero, zero-add}
use mathlib.Core.Path.{◌≡◌, refl, sym, ap, ◌∙◌, subst}
use mathlib.Core.Bool.{true}
use mathlib.Core.List.{List, [], ◌∷◌, ◌++◌, foldl, foldl-append, map}
use lib.ListN.{length, length-map}
use Rattle.std.specs.Prelude.{Result, Ok, Err, Float}
use Rattle.records.specs.Records.{records}
use Rattle.records.proofs.Laws.{length_records}
use Rattle.tree_record.specs.Candidate.{candidate_width, candidate_of}
use Rattle.sweep.specs.Sweep.{first_candidates, candidates_in, keep}
use Rattle.sweep.specs.declared.Filled.{Filled}
use Rattle.sweep.proofs.Laws.{keep_splits}
use Rattle.oof_box.specs.declared.question.Reply.{Reply}
use Rattle.refusal.specs.declared.Refusal.{Refusal}
use Rattle.run.specs.declared.Opening.{Opening}
use Rattle.run.specs.declared.State.{State}
use Rattle.run.specs.declared.Opened.{Opened}
use Rattle.run.specs.declared.Counts.{Counts}
use Rattle.run.specs.declared.Answer.{Answer}
use Rattle.run.specs.declared.Answer.TheVariants.{Ask, Finish}
use Rattle.geometry.specs.declared.Rect.{Rect}
use Rattle.run.specs.Call.{Lent, Outcome}
use Rattle.run.specs.Run.{claims_of, closed, begun, opened, asking, finishing, proceeding, measured_on, laid_out, replied}
use Rattle.run.specs.Theorems.{Call, Asked, one_if_asked, asked_at_opening, asked_with, next}
use Rattle.run.proofs.Ways.{NextWay, asks, ends, next_way, OpeningWay, begins, opening_way, ReplyWay, measures, lays_out, reply_way}
use Rattle.run.proofs.Questions.{three_questions_a_box, begun_are_hoisted}
use Rattle.script.specs.Script.{scripted_reply, played_by, played_on, played, played_out}
use Rattle.script.specs.Theorems.{RunEnds, RefusedOpeningStays}

-- ---- a finish or a refusal stays

abbrev pub open_in : Outcome → ℕ
open_in x = one_if_asked x.step.answer

zero_or_one : (a : Result Answer Refusal) → (one_if_asked a ≡ 0 → ⊥) → one_if_asked a ≡ 1
zero_or_one (Ok (Ask q)) f = refl
zero_or_one (Ok (Finish e)) f = absurd (f refl)
zero_or_one (Err r) f = absurd (f refl)

no_one : {A : Type 0} {n : ℕ} → n ≡ 1 → n ≡ 0 → A
no_one d e = absurd (omega (arith, d, e))

module _ (replies styles : List ℕ) where
  pub stays : (x : Outcome) → open_in x ≡ 0 → played_on replies styles x ≡ x
  unfolding played_on
  stays x e = go x.step.answer e
    where
      go : (a : Result Answer Refusal) → one_if_asked a ≡ 0 → played_by a replies styles x ≡ x
      go (Ok (Ask q)) e = no_one refl e
      go (Ok (Finish f)) e = refl
      go (Err r) e = refl

  pub all_stay : (n : ℕ) (x : Outcome) → open_in x ≡ 0 → played n replies styles x ≡ x
  unfolding played
  all_stay zero x e = refl
  all_stay (suc n) x e = ap (played n replies styles) (stays x e) ∙ all_stay n x e

-- ---- the questions that were asked so far, as calls

pub record Reached (a : Asked) (x : Outcome) (n : ℕ) : Type 0 where
  pub calls : List Call
  pub questions : (foldl asked_with a calls).questions ≡ n
  pub state : (foldl asked_with a calls).state ≡ x.step.state

module _ (replies styles : List ℕ) (a : Asked) where
  -- one reply more
  pub once : {x : Outcome} {n : ℕ} → Reached a x n → open_in x ≡ 1 → Reached a (played_on replies styles x) (n + open_in (played_on replies styles x))
  unfolding played_on next asked_with
  once {x} {n} r e = go x.step.answer e
    where
      go : (b : Result Answer Refusal) → one_if_asked b ≡ 1 → Reached a (played_by b replies styles x) (n + open_in (played_by b replies styles x))
      go (Ok (Ask q)) e =
          let call : Call = record { reply = scripted_reply replies q; surfaced = []; lent = record { styles = styles; layouts = x.layouts; working = x.working; unclaimed = x.unclaimed; tally = x.tally } } in
          record {
            calls = r.calls ++ (call ∷ []);
            questions = ap (λ (z : Asked). z.questions) (foldl-append asked_with a r.calls (call ∷ [])) ∙ rw (r.questions, r.state) refl;
            state = ap (λ (z : Asked). z.state) (foldl-append asked_with a r.calls (call ∷ [])) ∙ rw r.state refl;
          }
      go (Ok (Finish f)) e = no_one e refl
      go (Err r) e = no_one e refl

  -- so many more
  many : (n : ℕ) {x : Outcome} {k : ℕ} → Reached a x k → open_in (played n replies styles x) ≡ 1 → Reached a (played n replies styles x) (k + n)
  unfolding played
  many zero {x} {k} r e = subst (Reached a x) (sym (add-zero k)) r
  many (suc n) {x} {k} r e =
      let here = zero_or_one x.step.answer (λ f. no_one e (ap open_in (all_stay replies styles (suc n) x f) ∙ f)) in
      let there = zero_or_one (played_on replies styles x).step.answer (λ f. no_one e (ap open_in (all_stay replies styles n (played_on replies styles x) f) ∙ f)) in
      subst (Reached a (played n replies styles (played_on replies styles x))) (omega arith)
      (many n (subst (Reached a (played_on replies styles x)) (ap (λ (m : ℕ). k + m) there) (once r here)) e)

-- ---- with nothing surfaced, the lists hold what they held

abbrev filled_in : State → Filled
filled_in s = s.counts.filled

proceeding_filled : (styles working : List ℕ) (run : Opened) (counts : Counts) (overflow : Rect Float)
    → filled_in (proceeding styles working run counts overflow).state ≡ counts.filled
unfolding asking finishing
proceeding_filled styles working run counts overflow = go (next_way styles working run counts overflow)
  where
    go : NextWay styles working run counts overflow → filled_in (proceeding styles working run counts overflow).state ≡ counts.filled
    go (asks l e) = rw e refl
    go (ends l e) = rw e refl

reply_filled : (s : State) (given : Reply) (lent : Lent) → filled_in (replied s given [] lent).step.state ≡ filled_in s
unfolding measured_on asking laid_out candidates_in first_candidates records keep
reply_filled s given lent = go (reply_way s given [] lent)
  where
    go : ReplyWay s given [] lent → filled_in (replied s given [] lent).step.state ≡ filled_in s
    go (ReplyWay.turned_down r e) = rw e refl
    go (measures replies v t e) = rw e refl
    go (lays_out overflow v t e) = rw e (proceeding_filled _ _ _ _ _ ∙ rw (add-zero (filled_in s).working, add-zero (filled_in s).unclaimed) refl)

played_filled : (replies styles : List ℕ) (n : ℕ) (x : Outcome) → filled_in (played n replies styles x).step.state ≡ filled_in x.step.state
unfolding played played_on next
played_filled replies styles zero x = refl
played_filled replies styles (suc n) x = played_filled replies styles n (played_on replies styles x) ∙ go x.step.answer
  where
    go : (a : Result Answer Refusal) → filled_in (played_by a replies styles x).step.state ≡ filled_in x.step.state
    go (Ok (Ask q)) = reply_filled x.step.state (scripted_reply replies q) _
    go (Ok (Finish f)) = refl
    go (Err r) = refl

-- ---- and those are some of the candidates

claimed_few : (o : Opening) (candidates : List ℕ) → length (keep (claims_of o) true (candidates_in candidates)) ≤ length candidates / candidate_width
unfolding candidates_in first_candidates
claimed_few o candidates =
    let n = length candidates / candidate_width in
    let all = length-map (records candidate_width n candidates) candidate_of ∙ length_records candidate_width n candidates in
    omega (arith, keep_splits (claims_of o) (map candidate_of (records candidate_width n candidates)), all)

opening_few : (o : Opening) (candidates : List ℕ) (lent : Lent) → (filled_in (opened o candidates lent).step.state).working ≤ length candidates / candidate_width
unfolding closed begun
opening_few o candidates lent = go (opening_way o candidates lent)
  where
    go : OpeningWay o candidates lent → (filled_in (opened o candidates lent).step.state).working ≤ length candidates / candidate_width
    go (OpeningWay.turned_down r e) = rw e (omega arith)
    go (begins v e) = rw (e, proceeding_filled, zero-add) (claimed_few o candidates)

-- ---- so three questions a candidate are enough

too_many : (m : ℕ) {questions begun working filled : ℕ} → questions ≡ 1 + 3 * m → questions ≤ 3 * begun → begun ≤ working → working ≡ filled → filled ≤ m → ⊥
too_many m a b c d e = omega (arith, a, b, c, d, e)

pub run_ends : RunEnds
unfolding played_out asked_at_opening
run_ends o replies candidates lent q e =
    let m = length candidates / candidate_width in
    let x = opened o candidates lent in
    let a = asked_at_opening o candidates lent in
    let asked = ap one_if_asked e in
    let first = zero_or_one x.step.answer (λ f. no_one asked (ap open_in (all_stay replies lent.styles (3 * m) x f) ∙ f)) in
    let start : Reached a x 1 = record { calls = []; questions = first; state = refl } in
    let r = many replies lent.styles a (3 * m) start asked in
    let three = three_questions_a_box o candidates lent r.calls in
    let hoisted = begun_are_hoisted o candidates lent r.calls in
    let held = ap (λ (s : State). (filled_in s).working) r.state ∙ ap (λ (f : Filled). f.working) (played_filled replies lent.styles (3 * m) x) in
    too_many m r.questions three hoisted held (opening_few o candidates lent)

pub refused_opening_stays : RefusedOpeningStays
unfolding played_out
refused_opening_stays o replies candidates lent r e = all_stay replies lent.styles _ (opened o candidates lent) (ap one_if_asked e)
