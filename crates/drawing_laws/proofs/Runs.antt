-- Two runs whose records differ in layers only go the same way. Assumes nothing.
use Rattle.std.specs.Prelude.{Float}
use Prim.Native.Nat.{ℕ, zero, suc, ◌+◌, ◌*◌, ◌/◌, ◌<◌}
use native.Mathlib.Omega.{arith}
use native.Mathlib.Nat.{not-suc-le-zero, le_of_suc-le-suc}
use mathlib.Core.Path.{◌≡◌, refl, sym, ap, ◌∙◌, subst, subst₂}
use mathlib.Core.Bool.{Bool, true, false, cond}
use mathlib.Core.List.{List, [], ◌∷◌, ◌++◌, foldl}
use lib.Dec.{ltb, lit<}
use lib.ListN.{length, get_or, get_or-eq_default}
use borrow.Author.Tests.{ltb-true, ltb-false}
use Rattle.geometry.specs.declared.Rect.{Rect}
use Rattle.style.specs.declared.ContainingBlockClaims.{ContainingBlockClaims}
use Rattle.tree.specs.declared.layout.OofCandidate.{OofCandidate}
use Rattle.tree_record.specs.Candidate.{candidate_width, layer_word, layer_count}
use Rattle.sweep.specs.Laws.{HasLayers}
use Rattle.sweep.specs.Sweep.{first_candidates, candidates_in, layers_of, side, keep, claimed, swept_into}
use Rattle.sweep.specs.declared.Filled.{Filled}
use Rattle.oof_box.specs.declared.question.Reply.{Reply}
use Rattle.run.specs.declared.Opening.{Opening}
use Rattle.run.specs.declared.State.{State}
use Rattle.run.specs.declared.Step.{Step}
use Rattle.run.specs.Call.{Lent, Outcome}
use Rattle.run.specs.Refusals.{lent_by, list_full}
use Rattle.run.specs.Run.{asking, claims_of, none_filled, closed, begun, opened, measured_on, laid_out, replied}
use Rattle.run.specs.Theorems.{Heard, Loan, other, Turn, next, next_with, turned, Lends, AllLend, called}
use Rattle.run.proofs.Refusals.{turn_refused}
use Rattle.run.proofs.Ways.{OpeningWay, begins, opening_way, ReplyWay, measures, lays_out, reply_way}
use Rattle.mirror_run.proofs.Unread.{taken_all}
use Rattle.finished.proofs.There.{many_said}
use Rattle.drawing.proofs.There.{layer_by_word}
use Rattle.drawing_laws.specs.Laws.{LayersAllowed, SameCandidates, SameSlices, SameOutcomes, SameLoan, both_own, both_other, SameTurns, none, one, RunReadsNoLayer}
use Rattle.drawing_laws.proofs.Kept.{swept_layers, reply_room, proceeding_keeps, opening_layers}
use Rattle.drawing_laws.proofs.Calls.{opening_reads_no_layer, reply_reads_no_layer}

-- ---- layers that are allowed, by words and in turn

abbrev AllAllowed : List ℕ → Type 0
AllAllowed [] = Unit {0}
AllAllowed (v ∷ vs) = (v < layer_count) × AllAllowed vs

all_at : (ls : List ℕ) → AllAllowed ls → (i : ℕ) → i < length ls → get_or ls i 0 < layer_count
all_at [] a i h = absurd (not-suc-le-zero h)
all_at (l ∷ ls) a zero h = a.0
all_at (l ∷ ls) a (suc i) h = all_at ls a.1 i (le_of_suc-le-suc h)

all_by : (ls : List ℕ) → ((i : ℕ) → i < length ls → get_or ls i 0 < layer_count) → AllAllowed ls
all_by [] f = tt
all_by (l ∷ ls) f = (f 0 (omega arith), all_by ls (λ i h. f (suc i) (omega arith)))

all_append : (xs ys : List ℕ) → AllAllowed xs → AllAllowed ys → AllAllowed (xs ++ ys)
all_append [] ys a b = b
all_append (x ∷ xs) ys a b = (a.0, all_append xs ys a.1 b)

all_kept : (by : ContainingBlockClaims) (list : Bool) (cs : List OofCandidate) → AllAllowed (layers_of cs) → AllAllowed (layers_of (keep by list cs))
unfolding keep
all_kept by list [] a = tt
all_kept by list (c ∷ cs) a = go (side by list c.position) (keep by list cs) (all_kept by list cs a.1)
  where
    go : (b : Bool) (xs : List OofCandidate) → AllAllowed (layers_of xs) → AllAllowed (layers_of (cond b (c ∷ xs) xs))
    go true xs g = (a.0, g)
    go false xs g = g

layers_in : (n : ℕ) (ws : List ℕ) → length (layers_of (first_candidates n ws)) ≡ n
layers_in = many_said (λ (c : OofCandidate). c.layer)

in_turn_lem : (n : ℕ) (ws : List ℕ) → LayersAllowed n ws → AllAllowed (layers_of (first_candidates n ws))
in_turn_lem n ws a =
    all_by (layers_of (first_candidates n ws)) (λ i h. let l : i < n = rw (many_said (λ (c : OofCandidate). c.layer) n ws) at h in rw (layer_by_word n ws i l) (a i l))

by_words : (n : ℕ) (ws : List ℕ) → AllAllowed (layers_of (first_candidates n ws)) → LayersAllowed n ws
by_words n ws a i h = rw (layer_by_word n ws i h) at (all_at (layers_of (first_candidates n ws)) a i (rw (many_said (λ (c : OofCandidate). c.layer) n ws) h))

-- of a whole list, so many as are looked at: past its end stand zeros
whole_list : (ws : List ℕ) → LayersAllowed (length ws / candidate_width) ws → (n : ℕ) → LayersAllowed n ws
whole_list ws a n i h = go (ltb i (length ws / candidate_width)) refl
  where
    go : (b : Bool) → ltb i (length ws / candidate_width) ≡ b → get_or ws (candidate_width * i + layer_word) 0 < layer_count
    go true e = a i (ltb-true i (length ws / candidate_width) e)
    go false e =
        let past = ltb-false i (length ws / candidate_width) e in
        rw (get_or-eq_default ws 0 {n = candidate_width * i + layer_word} (omega arith)) (lit< tt)

-- after a sweep
allowed_after : (n : ℕ) (after : List ℕ) (held : ℕ) (before : List ℕ) (by : ContainingBlockClaims) (slice : List ℕ)
    → HasLayers n after held before (claimed by (candidates_in slice)) → LayersAllowed held before → LayersAllowed (length slice / candidate_width) slice → LayersAllowed n after
unfolding candidates_in
allowed_after n after held before by slice e a b =
    by_words n after
    (subst AllAllowed (sym e)
    (all_append (layers_of (first_candidates held before)) (layers_of (claimed by (candidates_in slice))) (in_turn_lem held before a) (all_kept by true (candidates_in slice) (in_turn_lem (length slice / candidate_width) slice b))))

-- ---- the filled working records after a call

abbrev FilledAllowed : Outcome → Type 0
FilledAllowed x = LayersAllowed x.step.state.counts.filled.working x.working

opened_allowed : (o : Opening) (candidates : List ℕ) (lent : Lent) → LayersAllowed (length candidates / candidate_width) candidates → FilledAllowed (opened o candidates lent)
unfolding begun closed
opened_allowed o candidates lent came = go (opening_way o candidates lent)
  where
    go : OpeningWay o candidates lent → FilledAllowed (opened o candidates lent)
    go (OpeningWay.turned_down r e) = subst FilledAllowed (sym e) (λ i h. absurd (not-suc-le-zero h))
    go (begins v e) =
        let after = swept_into (claims_of o) (candidates_in candidates) lent.working lent.unclaimed none_filled in
        subst FilledAllowed (sym e)
        (subst (λ (f : Filled). LayersAllowed f.working after.working) (sym (proceeding_keeps lent.styles _ _ _ _).filled)
        (allowed_after after.filled.working after.working 0 lent.working (claims_of o) candidates (opening_layers o candidates lent v).0 (λ i h. absurd (not-suc-le-zero h)) came))

module _ (s : State) (surfaced : List ℕ) (lent : Lent) (held : LayersAllowed s.counts.filled.working lent.working) where
  laid_allowed : LayersAllowed (length surfaced / candidate_width) surfaced → (overflow : Rect Float) → list_full s.opened.claims lent s.counts.filled surfaced ≡ false → FilledAllowed (laid_out s overflow surfaced lent)
  unfolding laid_out
  laid_allowed came overflow full =
      subst (λ (f : Filled). LayersAllowed f.working (laid_out s overflow surfaced lent).working) (sym (proceeding_keeps lent.styles _ _ _ _).filled)
      (allowed_after _ _ s.counts.filled.working lent.working s.opened.claims surfaced (swept_layers s.opened.claims _ surfaced lent s.counts.filled full).0 held came)

  replied_allowed : (reply : Reply) → LayersAllowed (length (lent_by reply surfaced) / candidate_width) (lent_by reply surfaced) → FilledAllowed (replied s reply surfaced lent)
  unfolding measured_on asking
  replied_allowed reply came = go (reply_way s reply surfaced lent)
    where
      go : ReplyWay s reply surfaced lent → FilledAllowed (replied s reply surfaced lent)
      go (ReplyWay.turned_down r e) = subst FilledAllowed (sym e) held
      go (measures replies v t e) = subst FilledAllowed (sym e) held
      go (lays_out overflow v t e) =
          let all = taken_all s reply surfaced t in
          subst FilledAllowed (sym e) (laid_allowed (rw all at came) overflow (rw all at (reply_room s reply surfaced lent v)))

-- ---- turn by turn

record Same (x x' : Outcome) : Type 0 where
  outcomes : SameOutcomes x x'
  allowed : FilledAllowed x
  allowed' : FilledAllowed x'

abbrev lent_of : List ℕ → Outcome → Lent
lent_of styles x = record { styles = styles; layouts = x.layouts; working = x.working; unclaimed = x.unclaimed; tally = x.tally }

module _ (styles : List ℕ) (x x' : Outcome) (same : Same x x') (h h' : Heard) (reply : h.reply ≡ h'.reply) (surfaced : SameCandidates (lent_by h.reply h.surfaced) (lent_by h'.reply h'.surfaced)) where
  state : x.step.state ≡ x'.step.state
  state = ap (λ (s : Step). s.state) same.outcomes.step

  -- to the same slices but for layers
  given : (lent lent' : Lent) → SameSlices lent lent' → LayersAllowed x.step.state.counts.filled.working lent.working
      → LayersAllowed x.step.state.counts.filled.working lent'.working
      → SameOutcomes (replied x.step.state h.reply h.surfaced lent) (replied x'.step.state h'.reply h'.surfaced lent')
  given lent lent' slices a a' =
      subst₂ (λ (s : State) (r : Reply). SameOutcomes (replied x.step.state h.reply h.surfaced lent) (replied s r h'.surfaced lent')) state reply
      (reply_reads_no_layer x.step.state h.reply h.surfaced h'.surfaced lent lent'
      (subst (λ (r : Reply). SameCandidates (lent_by h.reply h.surfaced) (lent_by r h'.surfaced)) (sym reply) surfaced) slices a a')

  one_turn : (l l' : Loan) → SameLoan l l' → Lends l (next_with styles x h l).step.answer → Same (next_with styles x h l) (next_with styles x' h' l')
  unfolding next
  one_turn l l' both_own lends =
      record {
        outcomes =
            given (lent_of styles x) (lent_of styles x')
            (record { styles = refl; layouts = same.outcomes.layouts; working = same.outcomes.working; unclaimed = same.outcomes.unclaimed; tally = same.outcomes.tally })
            same.allowed
            (subst (λ (s : State). LayersAllowed s.counts.filled.working x'.working) (sym state) same.allowed');
        allowed = replied_allowed x.step.state h.surfaced (lent_of styles x) same.allowed h.reply surfaced.allowed;
        allowed' = replied_allowed x'.step.state h'.surfaced (lent_of styles x') same.allowed' h'.reply surfaced.allowed';
      }
  one_turn l l' (both_other {lent = slices} {lent' = slices'} lists candidates) lends =
      let n = x.step.state.counts.filled.working in
      let steps = (given slices slices' lists (whole_list slices.working candidates.allowed n) (whole_list slices'.working candidates.allowed' n)).step in
      let kept : (next_with styles x h (other slices)).step.state ≡ x.step.state = ap (λ (o : Outcome). o.step.state) (turn_refused styles x (record { heard = h; loan = other slices }) lends) in
      record {
        outcomes = record { step = steps; layouts = same.outcomes.layouts; working = same.outcomes.working; unclaimed = same.outcomes.unclaimed; tally = same.outcomes.tally };
        allowed = subst (λ (s : State). LayersAllowed s.counts.filled.working x.working) (sym kept) same.allowed;
        allowed' =
            subst (λ (s : State). LayersAllowed s.counts.filled.working x'.working) (sym state ∙ sym kept ∙ ap (λ (s : Step). s.state) steps) same.allowed';
      }

turns_same : (styles : List ℕ) {ts ts' : List Turn} → SameTurns ts ts' → (x x' : Outcome) → Same x x' → AllLend styles x ts
    → Same (foldl (turned styles) x ts) (foldl (turned styles) x' ts')
turns_same styles none x x' same lends = same
turns_same styles (one {t = t} {t' = t'} a ts) x x' same lends =
    turns_same styles ts (turned styles x t) (turned styles x' t')
    (one_turn styles x x' same t.heard t'.heard a.reply a.surfaced t.loan t'.loan a.loan lends.0)
    lends.1

pub run_reads_no_layer : RunReadsNoLayer
run_reads_no_layer o candidates candidates' lent lent' turns turns' came same ts lends =
    subst (λ (styles : List ℕ). SameOutcomes (called o candidates lent turns) (foldl (turned styles) (opened o candidates' lent') turns')) same.styles
    (turns_same lent.styles ts (opened o candidates lent) (opened o candidates' lent')
    (record {
      outcomes = opening_reads_no_layer o candidates candidates' lent lent' came same;
      allowed = opened_allowed o candidates lent came.allowed;
      allowed' = opened_allowed o candidates' lent' came.allowed';
    })
    lends).outcomes
