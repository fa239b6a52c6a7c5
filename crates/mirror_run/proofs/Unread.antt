-- What a call doesn't look at: the surfaced slice of a measure reply; and, if it is refused with 2 or 6, the words of any slice but the tally.
-- Assumes nothing.
use Rattle.std.specs.Prelude.{Option, None, Some, is_none, Ok, Err, Result, is_err}
use Prim.Native.Nat.{ℕ}
use mathlib.Core.Logic.{◌⊎◌, inl, inr}
use mathlib.Core.Path.{◌≡◌, refl, sym, ap, ◌∙◌, subst}
use mathlib.Core.Bool.{Bool, true, false, ◌||◌}
use mathlib.Core.List.{List}
use lib.ListN.{length}
use Rattle.util.proofs.Floats.{no}
use Rattle.refusal.specs.declared.Refusal.{Refusal}
use Rattle.refusal.specs.declared.Refusal.TheVariants.{BadExtent, BadStyle, BadCandidate, ListFull, WrongReply}
use Rattle.tree_record.specs.Candidate.{candidate_width}
use Rattle.oof_box.specs.declared.question.Reply.{Reply}
use Rattle.oof_box.specs.declared.question.Replies.{Replies}
use Rattle.oof_box.specs.declared.question.Stage.{Stage}
use Rattle.oof_box.specs.declared.question.Taken.{Taken}
use Rattle.oof_box.specs.declared.question.Taken.TheVariants.{Kept, Laid}
use Rattle.run.specs.declared.Counts.{Counts}
use Rattle.run.specs.declared.Extents.{Extents}
use Rattle.run.specs.declared.State.{State}
use Rattle.run.specs.declared.Answer.{Answer}
use Rattle.run.specs.declared.Answer.TheVariants.{Ask, Finish}
use Rattle.run.specs.Call.{Lent, Outcome, slices_of}
use Rattle.run.specs.Refusals.{Verdict, accepted, ◌when◌else◌, ragged, bad_slices, bad_tally, other_extents, lent_by, bad_style, bad_candidate, bad_candidates, list_full, wrong_counts}
use Rattle.run.specs.Run.{extents_of, taken_in, taken_by, reply_verdict, measured_on, laid_out, refusing, replied_by, replied}
use Rattle.std.proofs.lemmas.Bool.{or_parts, or_left, or_right}
use Rattle.run.specs.Conditions.{NotAsked, CountsAreWrong, WordIsAbove}
use Rattle.run.proofs.Conditions.{asked_decided, counts_decided}
use Rattle.run.proofs.Ways.{lent_all}
use Rattle.run.proofs.Refusals.{measured_accepts, laid_accepts}
use Rattle.mirror_run.specs.Runs.{is_unread}
use Rattle.mirror_run.proofs.Verdicts.{same_extent}

-- ---- a reply by its verdict

pub was_asking : (at : Option Stage) (r : Replies) (reply : Reply) → is_none (taken_in at r reply) ≡ false → (stage : Stage) × (at ≡ Some stage)
was_asking None r reply e = no refl e
was_asking (Some stage) r reply e = (stage, refl)

pub replied_as : (s : State) (reply : Reply) (surfaced : List ℕ) (lent : Lent) {v : Verdict} {t : Option Taken} → reply_verdict s reply surfaced lent ≡ v → taken_by s reply ≡ t
    → replied s reply surfaced lent ≡ replied_by v t s surfaced lent
unfolding replied
replied_as s reply surfaced lent d e = rw (d, e) refl

-- only a lay-out reply's surfaced slice is taken in
pub taken_all : (s : State) (reply : Reply) (surfaced : List ℕ) {overflow : _} → taken_by s reply ≡ Some (Laid overflow) → lent_by reply surfaced ≡ surfaced
unfolding taken_by
taken_all s reply surfaced {overflow} e =
    let at = was_asking s.progress s.replies reply (ap is_none e) in
    lent_all s.replies at.0 reply surfaced (subst (λ (a : Option Stage). taken_in a s.replies reply ≡ Some (Laid overflow)) at.1 e)

-- ---- a surfaced slice that isn't looked at

module _ (s : State) (reply : Reply) (surfaced surfaced' : List ℕ) (lent : Lent) (same : lent_by reply surfaced ≡ lent_by reply surfaced') where
  same_verdict : reply_verdict s reply surfaced lent ≡ reply_verdict s reply surfaced' lent
  unfolding reply_verdict
  same_verdict = rw same refl

  pub same_surfaced : replied s reply surfaced lent ≡ replied s reply surfaced' lent
  same_surfaced =
      replied_as s reply surfaced lent same_verdict refl
      ∙ go (reply_verdict s reply surfaced' lent) (taken_by s reply) refl
      ∙ sym (replied_as s reply surfaced' lent refl refl)
    where
      go : (v : Verdict) (t : Option Taken) → taken_by s reply ≡ t → replied_by v t s surfaced lent ≡ replied_by v t s surfaced' lent
      go (Err r) t e = refl
      go (Ok tt) None e = refl
      go (Ok tt) (Some (Kept replies)) e = refl
      go (Ok tt) (Some (Laid overflow)) e =
          ap (λ (ws : List ℕ). laid_out s overflow ws lent) (sym (taken_all s reply surfaced e) ∙ same ∙ taken_all s reply surfaced' e)

-- ---- words that aren't looked at

pub accepted_read : (a : Result Answer Refusal) → is_err a ≡ false → is_unread a ≡ false
accepted_read (Ok (Ask q)) e = refl
accepted_read (Ok (Finish f)) e = refl
accepted_read (Err r) e = no refl e

-- what passes tests 2 and 6 is not refused with either
passed_read : (s : State) (surfaced : List ℕ) (lent : Lent) (style candidate full : Bool) (t : Option Taken) → is_none t ≡ false
    → is_unread (replied_by (BadStyle when style else BadCandidate when candidate else ListFull when full else accepted) t s surfaced lent).step.answer ≡ false
unfolding ◌when◌else◌
passed_read s surfaced lent true candidate full t e = refl
passed_read s surfaced lent false true full t e = refl
passed_read s surfaced lent false false true t e = refl
passed_read s surfaced lent false false false None e = no refl e
passed_read s surfaced lent false false false (Some (Kept replies)) e = accepted_read (measured_on s replies lent).step.answer (measured_accepts s replies lent)
passed_read s surfaced lent false false false (Some (Laid overflow)) e = accepted_read (laid_out s overflow surfaced lent).step.answer (laid_accepts s overflow surfaced lent)

-- test 2, and test 6
abbrev bad_extent : State → Reply → List ℕ → Lent → Bool
bad_extent s reply surfaced lent =
    bad_slices (slices_of lent) || bad_tally lent || other_extents s.opened.extents lent || ragged candidate_width (lent_by reply surfaced)

abbrev wrong_reply : State → Reply → Lent → Bool
wrong_reply s reply lent = is_none (taken_by s reply) || wrong_counts lent s.counts

module _ (s : State) (reply : Reply) (surfaced : List ℕ) (lent : Lent) where
  refused_2 : bad_extent s reply surfaced lent ≡ true → replied s reply surfaced lent ≡ refusing s lent BadExtent
  unfolding replied reply_verdict ◌when◌else◌
  refused_2 e = rw e refl

  refused_6 : bad_extent s reply surfaced lent ≡ false → wrong_reply s reply lent ≡ true → replied s reply surfaced lent ≡ refusing s lent WrongReply
  unfolding replied reply_verdict ◌when◌else◌
  refused_6 e d = rw (e, d) refl

  neither_read : bad_extent s reply surfaced lent ≡ false → wrong_reply s reply lent ≡ false → is_unread (replied s reply surfaced lent).step.answer ≡ false
  unfolding replied reply_verdict ◌when◌else◌
  neither_read e d =
      rw (e, d)
      (passed_read s surfaced lent (bad_style lent.styles)
      (bad_candidate lent.styles lent.working s.counts.filled.working || bad_candidates lent.styles (lent_by reply surfaced))
      (list_full s.opened.claims lent s.counts.filled (lent_by reply surfaced)) (taken_by s reply)
      (or_parts (is_none (taken_by s reply)) (wrong_counts lent s.counts) d).0)

wrong_if : (lent : Lent) (c : Counts) → CountsAreWrong lent c ⊎ WordIsAbove lent c → wrong_counts lent c ≡ true
wrong_if lent c w = go (wrong_counts lent c) refl
  where
    go : (b : Bool) → wrong_counts lent c ≡ b → wrong_counts lent c ≡ true
    go true e = e
    go false e = absurd ((counts_decided lent c).fails e w)

-- two calls of one reply with slices of the same lengths, from states that share lengths, counts and question: if one is refused with 2
-- or 6, so is the other, if a reply to that question that is refused with 6 for a word of the tally has such a word in the other's too
module _ (s s' : State) (reply : Reply) (surfaced surfaced' : List ℕ) (lent lent' : Lent) (same : extents_of lent ≡ extents_of lent')
    (long : length (lent_by reply surfaced) ≡ length (lent_by reply surfaced')) (extents : s.opened.extents ≡ s'.opened.extents) (counts : s.counts ≡ s'.counts)
    (taken : taken_by s reply ≡ taken_by s' reply) where
  same_2 : bad_extent s reply surfaced lent ≡ bad_extent s' reply surfaced' lent'
  same_2 = rw (extents, same_extent lent lent' same s'.opened.extents, long) refl

  abbrev IfAbove : Type 0
  IfAbove = ¬ NotAsked s.progress reply → (replied s reply surfaced lent).step.answer ≡ Err WrongReply → WordIsAbove lent s.counts → WordIsAbove lent' s.counts

  same_6 : IfAbove → bad_extent s reply surfaced lent ≡ false → wrong_reply s reply lent ≡ true → wrong_reply s' reply lent' ≡ true
  unfolding taken_by
  same_6 above e d = go (is_none (taken_by s reply)) refl
    where
      too : is_none (taken_by s reply) ≡ false → CountsAreWrong lent s.counts ⊎ WordIsAbove lent s.counts → CountsAreWrong lent' s.counts ⊎ WordIsAbove lent' s.counts
      too n (inl w) = inl (rw (sym (ap (λ (e : Extents). e.working) same), sym (ap (λ (e : Extents). e.unclaimed) same)) w)
      too n (inr w) = inr (above ((asked_decided s.progress s.replies reply).fails n) (ap (λ (o : Outcome). o.step.answer) (refused_6 s reply surfaced lent e d)) w)

      go : (b : Bool) → is_none (taken_by s reply) ≡ b → wrong_reply s' reply lent' ≡ true
      go true n = or_left (is_none (taken_by s' reply)) (wrong_counts lent' s'.counts) (ap is_none (sym taken) ∙ n)
      go false n =
          or_right (is_none (taken_by s' reply)) (wrong_counts lent' s'.counts)
          (wrong_if lent' s'.counts (subst (λ (c : Counts). CountsAreWrong lent' c ⊎ WordIsAbove lent' c) counts (too n ((counts_decided lent s.counts).holds (ap (λ (b : Bool). b || wrong_counts lent s.counts) (sym n) ∙ d)))))

  pub both_refused : IfAbove → is_unread (replied s reply surfaced lent).step.answer ≡ true
      → (r : Refusal) × (replied s reply surfaced lent ≡ refusing s lent r) × (replied s' reply surfaced' lent' ≡ refusing s' lent' r)
  both_refused above u = go (bad_extent s reply surfaced lent) (wrong_reply s reply lent) refl refl
    where
      go : (a b : Bool) → bad_extent s reply surfaced lent ≡ a → wrong_reply s reply lent ≡ b
          → (r : Refusal) × (replied s reply surfaced lent ≡ refusing s lent r) × (replied s' reply surfaced' lent' ≡ refusing s' lent' r)
      go true b e d = (BadExtent, refused_2 s reply surfaced lent e, refused_2 s' reply surfaced' lent' (sym same_2 ∙ e))
      go false true e d = (WrongReply, refused_6 s reply surfaced lent e d, refused_6 s' reply surfaced' lent' (sym same_2 ∙ e) (same_6 above e d))
      go false false e d = no u (neither_read s reply surfaced lent e d)
