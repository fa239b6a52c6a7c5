-- Demand 3: the mirror theorem of the whole run, by induction over the list of replies. Assumes nothing.
use Prim.Native.Nat.{ℕ}
use native.Mathlib.Omega.{arith}
use mathlib.Core.Logic.{inl}
use mathlib.Core.Path.{◌≡◌, refl, sym, ap, ◌∙◌, subst}
use mathlib.Core.Bool.{Bool, true, false}
use mathlib.Core.List.{List, [], ◌∷◌, ◌++◌, foldl}
use lib.ListN.{length}
use Rattle.std.specs.Prelude.{Option, None, Some, Result, Err, is_err}
use Rattle.refusal.specs.declared.Refusal.{Refusal}
use Rattle.sweep.specs.Sweep.{candidates_in, keep}
use Rattle.oof_box.specs.declared.question.Reply.{Reply}
use Rattle.oof_box.specs.declared.question.Stage.{Stage}
use Rattle.run.specs.declared.Answer.{Answer}
use Rattle.run.specs.declared.Extents.{Extents}
use Rattle.run.specs.declared.Counts.{Counts}
use Rattle.run.specs.declared.Opening.{Opening}
use Rattle.run.specs.Call.{Lent, Outcome}
use Rattle.run.specs.Refusals.{lent_by}
use Rattle.run.specs.Run.{extents_of, taken_by, opened, refusing, replied}
use Rattle.run.specs.Conditions.{NotAsked, WordIsAbove}
use Rattle.run.specs.Theorems.{Heard, next, Loan, own, other, next_with}
use Rattle.mirror_run.specs.Image.{image_opening, image_styles, image_candidates}
use Rattle.mirror_run.specs.Quarter.{QuarterArea, QuarterTable, QuarterCandidates, QuarterReply}
use Rattle.mirror_run.specs.Runs as runs
use Rattle.mirror_run.specs.Runs.{Message, run_next, image_next, lengths_of, is_unread, LendsAbove, ForTally, Fair, AllFair, MirroredRuns}
use Rattle.mirror_run.specs.Mirror.{Mirror}
use Rattle.mirror_run.proofs.Unread.{same_surfaced, both_refused}
use Rattle.mirror_run.proofs.Linked.{Frame, QuarterFrame, Shared, Own, state_of, outcome_of, lent_of, Accepted, Within, Links, Linked, linked, both_are, mirrored}
use Rattle.mirror_run.proofs.Reply.{replied_linked}
use Rattle.mirror_run.proofs.Opening.{frame, image_lent, quarter_frame, opened_linked}

-- ---- one reply

-- the slices that a call is lent
abbrev lent_in : List ℕ → Own → Loan → Lent
lent_in styles p own = lent_of styles p
lent_in styles p (other lent) = lent

long : (styles : List ℕ) (p : Own) {e : Extents} → extents_of (lent_of styles p) ≡ e → (l : Loan) → extents_of (lent_in styles p l) ≡ lengths_of e l
long styles p h own = h
long styles p h (other lent) = refl

-- what is lent has a word above the count, the run's own having none
lends_above : (styles : List ℕ) (p : Own) (c : Counts) → Within c.answered p.tally → (l : Loan) → WordIsAbove (lent_in styles p l) c → LendsAbove c l
lends_above styles p c within own w = let most = within w.0 w.1 in let over = w.2 in absurd (omega arith)
lends_above styles p c within (other lent) w = w

lent_above : (styles : List ℕ) (p : Own) (c : Counts) (l : Loan) → LendsAbove c l → WordIsAbove (lent_in styles p l) c
lent_above styles p c own w = absurd w
lent_above styles p c (other lent) w = w

module _ (f : Frame) (s : Shared) (styles : List ℕ) (p : Own) (a : Result Answer Refusal) (h : Heard) where
  answered : (l : Loan) → (replied (state_of f s p) h.reply h.surfaced (lent_in styles p l)).step.answer ≡ (next_with styles (outcome_of f s p a) h l).step.answer
  unfolding next
  answered own = refl
  answered (other lent) = refl

  -- a refused call leaves a run as it was, whatever it is lent
  stays : (l : Loan) {r : Refusal} → replied (state_of f s p) h.reply h.surfaced (lent_in styles p l) ≡ refusing (state_of f s p) (lent_in styles p l) r
      → next_with styles (outcome_of f s p a) h l ≡ outcome_of f s p (Err r)
  unfolding next
  stays own e = e
  stays (other lent) e = ap (λ (o : Outcome). record { step = o.step; layouts = p.layouts; working = p.working; unclaimed = p.unclaimed; tally = p.tally }) e

module _ (f : Frame) (q : QuarterFrame f) where
  module _ (s : Shared) (p p' : Own) (a a' : Result Answer Refusal) (links : Links f s p p') (reply : Reply) (surfaced surfaced' : List ℕ) where
    abbrev heard : Heard
    heard = record { reply = reply; surfaced = surfaced }

    abbrev heard' : Heard
    heard' = record { reply = reply; surfaced = surfaced' }

    abbrev leaves : Loan → Outcome
    leaves l = next_with f.styles (outcome_of f s p a) heard l

    abbrev leaves' : Loan → Outcome
    leaves' l = next_with (image_styles f.styles) (outcome_of f s p' a') heard' l

    -- a question is open, so the opening was accepted
    open_lem : ¬ NotAsked s.progress reply → Accepted f
    open_lem n = go s.progress refl
      where
        go : (at : Option Stage) → s.progress ≡ at → Accepted f
        go None e = absurd (n (inl e))
        go (Some stage) e = (links.blocks stage e).2

    -- refused with 2 or 6, whatever words are lent but the tally's
    unread : (l l' : Loan) → length (lent_by reply surfaced) ≡ length (lent_by reply surfaced') → lengths_of f.extents l ≡ lengths_of f.extents l'
        → (ForTally (state_of f s p) (leaves l).step.answer (record { heard = heard; loan = l }) → LendsAbove s.counts l')
        → is_unread (leaves l).step.answer ≡ true → Linked f (leaves l) (leaves' l')
    unfolding taken_by
    unread l l' same lengths above u =
        let lent = lent_in f.styles p l in
        let lent' = lent_in (image_styles f.styles) p' l' in
        let r =
        both_refused (state_of f s p) (state_of f s p') reply surfaced surfaced' lent lent'
        (long f.styles p links.lists.lengths l ∙ lengths ∙ sym (long (image_styles f.styles) p' links.lists.lengths' l')) same refl refl refl
        (λ n e w.
        lent_above (image_styles f.styles) p' s.counts l'
        (above
        (record {
          asked = n;
          wrong = sym (answered f s f.styles p a heard l) ∙ e;
          above = lends_above f.styles p s.counts (links.within (open_lem n)) l w;
        })))
        (ap is_unread (answered f s f.styles p a heard l) ∙ u) in
        both_are f (stays f s f.styles p a heard l r.1) (stays f s (image_styles f.styles) p' a' heard' l' r.2) (linked s p p' links runs.refused)

    -- what is asked of an accepted call
    abbrev IfAccepted : Loan → Type 0
    IfAccepted l = is_err (leaves l).step.answer ≡ false → QuarterReply reply × (keep s.claims true (candidates_in (lent_by reply surfaced)) ≡ [])

    -- both are lent their own slices
    read : lent_by reply surfaced ≡ lent_by reply surfaced' → IfAccepted own → Linked f (leaves own) (leaves' own)
    unfolding next
    read same fair =
        both_are f refl (sym (same_surfaced (state_of f s p') reply surfaced surfaced' (lent_of (image_styles f.styles) p') same))
        (replied_linked f q s p p' links reply surfaced fair)

    either : (l l' : Loan) → Fair (state_of f s p) (leaves l).step.answer (record { turn = record { heard = heard; loan = l }; image = record { heard = heard'; loan = l' } })
        → Linked f (leaves l) (leaves' l')
    either l l' fair = go (is_unread (leaves l).step.answer) refl
      where
        go : (b : Bool) → is_unread (leaves l).step.answer ≡ b → Linked f (leaves l) (leaves' l')
        go true u = unread l l' fair.alike.surfaced fair.alike.slices fair.tally u
        go false u =
            let same = fair.words u in
            rw (same.slices, same.image_slices) (read same.surfaced (subst IfAccepted same.slices (λ e. (fair.quarters e, fair.surfaces_none e))))

  pub one_reply : {o o' : Outcome} (m : Message) → Linked f o o' → Fair o.step.state (run_next f.styles o m).step.answer m
      → Linked f (run_next f.styles o m) (image_next (image_styles f.styles) o' m)
  one_reply m (linked s p p' {a = a} {a' = a'} links same) fair =
      subst (λ (x : Message). Linked f (run_next f.styles (outcome_of f s p a) x) (image_next (image_styles f.styles) (outcome_of f s p' a') x)) (sym one)
      (either s p p' a a' links m.turn.heard.reply m.turn.heard.surfaced m.image.heard.surfaced m.turn.loan m.image.loan
      (subst (Fair (state_of f s p) (run_next f.styles (outcome_of f s p a) m).step.answer) one fair))
    where
      with : Reply → Message
      with reply = record { turn = m.turn; image = record { heard = record { reply = reply; surfaced = m.image.heard.surfaced }; loan = m.image.loan } }

      -- it is one reply
      one : m ≡ with m.turn.heard.reply
      one = ap with (sym fair.alike.reply)

  -- ---- any list of them

  pub all_replies : (ms later : List Message) {o o' : Outcome} → Linked f o o' → AllFair f.styles o (ms ++ later)
      → Linked f (foldl (run_next f.styles) o ms) (foldl (image_next (image_styles f.styles)) o' ms)
  all_replies [] later h fair = h
  all_replies (m ∷ ms) later h fair = all_replies ms later (one_reply m h fair.0) fair.1

-- ---- from the opening on

from_opening : (o : Opening) (candidates : List ℕ) (lent : Lent) (layouts working unclaimed tally : List ℕ) (so_far later : List Message)
    → QuarterArea o.area → QuarterTable lent.styles → QuarterCandidates candidates
    → extents_of lent ≡ extents_of (image_lent o candidates lent layouts working unclaimed tally)
    → AllFair lent.styles (opened o candidates lent) (so_far ++ later)
    → MirroredRuns o.area (opened o candidates lent) (foldl (run_next lent.styles) (opened o candidates lent) so_far)
    (foldl (image_next (image_styles lent.styles)) (opened (image_opening o) (image_candidates o.area candidates) (image_lent o candidates lent layouts working unclaimed tally)) so_far)
from_opening o candidates lent layouts working unclaimed tally so_far later area table quarter same fair =
    mirrored
    (all_replies (frame o candidates lent layouts working unclaimed tally) (quarter_frame o candidates lent layouts working unclaimed tally same area table quarter) so_far later
    (opened_linked o candidates lent layouts working unclaimed tally same area table quarter) fair)

pub mirror : Mirror
mirror o candidates lent lent' so_far later area table quarter image same fair =
    subst
    (λ (lent' : Lent).
    MirroredRuns o.area (opened o candidates lent) (foldl (run_next lent.styles) (opened o candidates lent) so_far)
    (foldl (image_next lent'.styles) (opened (image_opening o) (image_candidates o.area candidates) lent') so_far))
    (sym with_image)
    (from_opening o candidates lent lent'.layouts lent'.working lent'.unclaimed lent'.tally so_far later area table quarter (same ∙ ap extents_of with_image) fair)
  where
    over : List ℕ → Lent
    over styles = record { styles = styles; layouts = lent'.layouts; working = lent'.working; unclaimed = lent'.unclaimed; tally = lent'.tally }

    with_image : lent' ≡ over (image_styles lent.styles)
    with_image = ap over image
