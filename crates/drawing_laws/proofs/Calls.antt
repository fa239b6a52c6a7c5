-- Two calls whose records differ in layers only leave the same but for layers. Assumes nothing.
use Rattle.std.specs.Prelude.{Option, None, Some, Ok, Err, Float}
use Prim.Native.Nat.{ℕ, ◌+◌, ◌-◌, ◌*◌, ◌/◌}
use mathlib.Core.Path.{◌≡◌, refl, sym, ap, ◌∙◌, subst, subst₂}
use mathlib.Core.Bool.{Bool, true, false, cond}
use mathlib.Core.List.{List, map}
use lib.Dec.{ltb}
use lib.ListN.{length}
use Rattle.geometry.specs.Geometry.{union_of}
use Rattle.geometry.specs.declared.Rect.{Rect}
use Rattle.refusal.specs.declared.Refusal.{Refusal}
use Rattle.refusal.specs.declared.Refusal.TheVariants.{BadArea, BadExtent, BadStyle, BadCandidate, ListFull, WrongReply}
use Rattle.style.specs.declared.ContainingBlockClaims.{ContainingBlockClaims}
use Rattle.tree.specs.declared.layout.OofCandidate.{OofCandidate}
use Rattle.records.specs.Records.{record_at, written}
use Rattle.tree_record.specs.Candidate.{candidate_width, candidate_of}
use Rattle.tree_record.specs.Layout.{layout_width, layout_words}
use Rattle.style_record.specs.Decode.{style_at}
use Rattle.sweep.specs.Sweep.{candidates_in, moved, keep, Lists, swept_into}
use Rattle.sweep.specs.declared.Filled.{Filled}
use Rattle.oof_place.specs.declared.OofBoxLayout.{OofBoxLayout}
use Rattle.oof_box.specs.Cut.{no_replies, asked_after, layout_after}
use Rattle.oof_box.specs.declared.question.Asked.{Asked}
use Rattle.oof_box.specs.declared.question.Replies.{Replies}
use Rattle.oof_box.specs.declared.question.Reply.{Reply}
use Rattle.oof_box.specs.declared.question.Taken.{Taken}
use Rattle.oof_box.specs.declared.question.Taken.TheVariants.{Kept, Laid}
use Rattle.run.specs.declared.Answer.TheVariants.{Ask}
use Rattle.run.specs.declared.Counts.{Counts}
use Rattle.run.specs.declared.Opened.{Opened}
use Rattle.run.specs.declared.Opening.{Opening}
use Rattle.run.specs.declared.State.{State}
use Rattle.run.specs.declared.Step.{Step}
use Rattle.run.specs.Call.{Lent, Outcome, lent}
use Rattle.run.specs.Refusals.{Verdict, lent_by, bad_candidate, bad_candidates}
use Rattle.run.specs.Run.{box_at_hand, asking, finishing, proceeding, claims_of, extents_of, none_filled, opening_verdict, closed, begun, opened_by, opened, taken_by, reply_verdict, charged, measured_on, laid_out, refusing, replied_by, replied}
use Rattle.mirror_run.specs.Runs.{Each}
use Rattle.mirror_run.proofs.Lists.{each_length, each_kept}
use Rattle.mirror_run.proofs.Unread.{taken_all}
use Rattle.mirror_run.proofs.Verdicts.{same_slices, same_tally, same_extent, same_wrong, same_full, same_order}
use Rattle.drawing_laws.specs.Laws.{SameButLayers, LayersAllowed, SameCandidates, SameSlices, SameOutcomes, OpeningReadsNoLayer, ReplyReadsNoLayer}
use Rattle.drawing_laws.proofs.Box.{cut_reads_no_layer}
use Rattle.drawing_laws.proofs.Words.{Alike, same_position, each_moved, record_alike, slice_alike, same_rules, appended_same}

-- ---- the next question

module _ (styles : List ℕ) (run : Opened) (overflow : Rect Float) where
  -- of the box at hand
  abbrev asking_of : Counts → Replies → OofCandidate → Step
  asking_of counts replies box =
      let next = asked_after run.container (style_at styles box.node) box replies in
      record {
        state = record { progress = Some next.stage; replies = replies; counts = counts; overflow = overflow; opened = run };
        answer = Ok (Ask next.question);
      }

  asking_same : (w w' : List ℕ) (counts : Counts) (replies : Replies) → SameButLayers w w' → asking styles w run counts overflow replies ≡ asking styles w' run counts overflow replies
  unfolding asking box_at_hand
  asking_same w w' counts replies same =
      let box = candidate_of (record_at candidate_width w (counts.begun - 1)) in
      let box' = candidate_of (record_at candidate_width w' (counts.begun - 1)) in
      ap
      (λ (next : Asked).
      record { state = record { progress = Some next.stage; replies = replies; counts = counts; overflow = overflow; opened = run }; answer = Ok (Ask next.question) })
      (sym (cut_reads_no_layer run.container (style_at styles box.node) box box'.layer replies).0)
      ∙ ap (asking_of counts replies) (record_alike w w' same (counts.begun - 1))

  proceeding_same : (w w' : List ℕ) (counts : Counts) → SameButLayers w w' → proceeding styles w run counts overflow ≡ proceeding styles w' run counts overflow
  unfolding proceeding
  proceeding_same w w' counts same =
      ap (λ (step : Step). cond (ltb counts.begun counts.filled.working) step (finishing run counts overflow)) (asking_same w w' _ no_replies same)

-- ---- a sweep

-- both lists, and what they hold
record SameLists (l l' : Lists) : Type 0 where
  filled : l.filled ≡ l'.filled
  working : SameButLayers l.working l'.working
  unclaimed : SameButLayers l.unclaimed l'.unclaimed

module _ (by : ContainingBlockClaims) where
  kept_alike : (list : Bool) {cs cs' : List OofCandidate} → Each Alike cs cs' → Each Alike (keep by list cs) (keep by list cs')
  kept_alike list e = each_kept by list same_position e

  swept_same : {cs cs' : List OofCandidate} → Each Alike cs cs' → (w w' u u' : List ℕ) (f : Filled) → SameButLayers w w' → SameButLayers u u'
      → SameLists (swept_into by cs w u f) (swept_into by cs' w' u' f)
  swept_same e w w' u u' f sw su =
      record {
        filled = rw (each_length (kept_alike true e), each_length (kept_alike false e)) refl;
        working = appended_same (kept_alike true e) w w' f.working sw;
        unclaimed = appended_same (kept_alike false e) u u' f.unclaimed su;
      }

-- ---- two calls with the same styles, layouts and tally

module _ (styles layouts tally w w' u u' : List ℕ) (sw : SameButLayers w w') (su : SameButLayers u u') where
  abbrev l : Lent
  l = lent styles layouts w u tally

  abbrev l' : Lent
  l' = lent styles layouts w' u' tally

  long : extents_of l ≡ extents_of l'
  long = rw (sw.long, su.long) refl

  -- with slices of candidates
  module _ (cs cs' : List ℕ) (came : SameCandidates cs cs') where
    abbrev alike : Each Alike (candidates_in cs) (candidates_in cs')
    alike = slice_alike cs cs' came.same

    kept_long : (by : ContainingBlockClaims) (list : Bool) → length (keep by list (candidates_in cs)) ≡ length (keep by list (candidates_in cs'))
    kept_long by list = each_length (kept_alike by list alike)

    same_candidates : bad_candidates styles cs ≡ bad_candidates styles cs'
    same_candidates =
        same_rules styles cs cs' (length cs / candidate_width) came.same came.allowed
        (subst (λ (n : ℕ). LayersAllowed (n / candidate_width) cs') (sym came.same.long) came.allowed')
        ∙ ap (λ (n : ℕ). bad_candidate styles cs' (n / candidate_width)) came.same.long

    -- ---- an opening

    module _ (o : Opening) where
      same_opening : opening_verdict o cs l ≡ opening_verdict o cs' l'
      unfolding opening_verdict
      same_opening =
          same_order BadArea BadExtent BadStyle BadCandidate ListFull refl (rw (same_slices l l' long, same_tally l l' long, came.same.long) refl) refl same_candidates
          (same_full l l' long (claims_of o) none_filled cs cs' (kept_long (claims_of o)))

      begun_same : SameOutcomes (begun o cs l) (begun o cs' l')
      unfolding begun
      begun_same =
          let lists = swept_same (claims_of o) alike w w' u u' none_filled sw su in
          record {
            step = proceeding_same styles _ _ _ _ _ lists.working ∙ rw (long, lists.filled) refl;
            layouts = refl;
            working = lists.working;
            unclaimed = lists.unclaimed;
            tally = refl;
          }

      pub opened_same : SameOutcomes (opened o cs l) (opened o cs' l')
      unfolding opened closed
      opened_same = subst (λ (v : Verdict). SameOutcomes (opened o cs l) (opened_by v o cs' l')) same_opening (go (opening_verdict o cs l))
        where
          go : (v : Verdict) → SameOutcomes (opened_by v o cs l) (opened_by v o cs' l')
          go (Ok tt) = begun_same
          go (Err r) = record { step = rw long refl; layouts = refl; working = sw; unclaimed = su; tally = refl }

    -- ---- the box at hand, laid out

    module _ (s : State) (overflow : Rect Float) where
      abbrev box : OofCandidate
      box = candidate_of (record_at candidate_width w (s.counts.begun - 1))

      abbrev box' : OofCandidate
      box' = candidate_of (record_at candidate_width w' (s.counts.begun - 1))

      abbrev placed_of : OofCandidate → OofBoxLayout
      placed_of box = layout_after s.opened.container (style_at styles box.node) box s.replies overflow

      -- what is left, by its node and where it was placed
      abbrev laying : ℕ → OofBoxLayout → List ℕ → Lent → Outcome
      laying node placed surfaced lent =
          let after = swept_into s.opened.claims (map (moved (Some placed.layout.location)) (candidates_in surfaced)) lent.working lent.unclaimed s.counts.filled in
          record {
            step =
                proceeding styles after.working s.opened (record { filled = after.filled; begun = s.counts.begun; answered = s.counts.answered + 1 })
                (union_of s.overflow placed.contribution);
            layouts = written layouts (layout_width * node) (layout_words placed.layout);
            working = after.working;
            unclaimed = after.unclaimed;
            tally = charged tally node;
          }

      laying_same : (node : ℕ) (placed : OofBoxLayout) → SameOutcomes (laying node placed cs l) (laying node placed cs' l')
      laying_same node placed =
          let lists = swept_same s.opened.claims (each_moved (Some placed.layout.location) alike) w w' u u' s.counts.filled sw su in
          record {
            step = proceeding_same styles _ _ _ _ _ lists.working ∙ rw lists.filled refl;
            layouts = refl;
            working = lists.working;
            unclaimed = lists.unclaimed;
            tally = refl;
          }

      laid_same : SameOutcomes (laid_out s overflow cs l) (laid_out s overflow cs' l')
      unfolding laid_out box_at_hand
      laid_same =
          subst (λ (b : OofCandidate). SameOutcomes (laying box.node (placed_of box) cs l) (laying b.node (placed_of b) cs' l')) (record_alike w w' sw (s.counts.begun - 1))
          (subst (λ (p : OofBoxLayout). SameOutcomes (laying box.node (placed_of box) cs l) (laying box.node p cs' l'))
          (sym ((cut_reads_no_layer s.opened.container (style_at styles box.node) box box'.layer s.replies).1 overflow))
          (laying_same box.node (placed_of box)))

  -- ---- a reply

  module _ (s : State) (reply : Reply) (surfaced surfaced' : List ℕ) (came : SameCandidates (lent_by reply surfaced) (lent_by reply surfaced'))
      (allowed : LayersAllowed s.counts.filled.working w) (allowed' : LayersAllowed s.counts.filled.working w') where
    same_reply : reply_verdict s reply surfaced l ≡ reply_verdict s reply surfaced' l'
    unfolding reply_verdict
    same_reply =
        same_order BadExtent WrongReply BadStyle BadCandidate ListFull
        (rw (same_extent l l' long s.opened.extents, came.same.long) refl)
        (rw (same_wrong l l' long s.counts refl) refl)
        refl
        (rw (same_rules styles w w' s.counts.filled.working sw allowed allowed', same_candidates (lent_by reply surfaced) (lent_by reply surfaced') came) refl)
        (same_full l l' long s.opened.claims s.counts.filled (lent_by reply surfaced) (lent_by reply surfaced') (kept_long (lent_by reply surfaced) (lent_by reply surfaced') came s.opened.claims))

    measured_same : (replies : Replies) → SameOutcomes (measured_on s replies l) (measured_on s replies l')
    unfolding measured_on box_at_hand
    measured_same replies =
        record {
          step = asking_same styles s.opened s.overflow w w' _ replies sw;
          layouts = refl;
          working = sw;
          unclaimed = su;
          tally = ap (λ (c : OofCandidate). charged tally c.node) (record_alike w w' sw (s.counts.begun - 1));
        }

    pub replied_same : SameOutcomes (replied s reply surfaced l) (replied s reply surfaced' l')
    unfolding replied
    replied_same =
        subst (λ (v : Verdict). SameOutcomes (replied s reply surfaced l) (replied_by v (taken_by s reply) s surfaced' l')) same_reply
        (go (reply_verdict s reply surfaced l) (taken_by s reply) refl)
      where
        refusing_same : (r : Refusal) → SameOutcomes (refusing s l r) (refusing s l' r)
        refusing_same r = record { step = refl; layouts = refl; working = sw; unclaimed = su; tally = refl }

        go : (v : Verdict) (t : Option Taken) → taken_by s reply ≡ t → SameOutcomes (replied_by v t s surfaced l) (replied_by v t s surfaced' l')
        go (Err r) t e = refusing_same r
        go (Ok tt) None e = refusing_same WrongReply
        go (Ok tt) (Some (Kept replies)) e = measured_same replies
        go (Ok tt) (Some (Laid overflow)) e =
            laid_same surfaced surfaced' (subst₂ SameCandidates (taken_all s reply surfaced e) (taken_all s reply surfaced' e) came) s overflow

-- ---- any

-- slices with the other's styles, layouts and tally
with_same : {a b : Lent} → SameSlices a b → b ≡ lent a.styles a.layouts b.working b.unclaimed a.tally
with_same same = rw (same.styles, same.layouts, same.tally) refl

pub opening_reads_no_layer : OpeningReadsNoLayer
opening_reads_no_layer o candidates candidates' lent lent' came same =
    subst (λ (x : Lent). SameOutcomes (opened o candidates lent) (opened o candidates' x)) (sym (with_same same))
    (opened_same lent.styles lent.layouts lent.tally lent.working lent'.working lent.unclaimed lent'.unclaimed same.working same.unclaimed candidates candidates' came o)

pub reply_reads_no_layer : ReplyReadsNoLayer
reply_reads_no_layer s reply surfaced surfaced' lent lent' came same allowed allowed' =
    subst (λ (x : Lent). SameOutcomes (replied s reply surfaced lent) (replied s reply surfaced' x)) (sym (with_same same))
    (replied_same lent.styles lent.layouts lent.tally lent.working lent'.working lent.unclaimed lent'.unclaimed same.working same.unclaimed s reply surfaced surfaced' came
    allowed allowed')
