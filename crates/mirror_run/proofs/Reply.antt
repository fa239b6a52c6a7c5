-- One reply to both runs. Assumes nothing.
use Rattle.std.specs.Prelude.{Option, None, Some, is_none, Ok, Err, is_err, Float}
use Prim.Native.Nat.{ℕ, ◌+◌, ◌-◌, ◌*◌, ◌<◌, ◌≤◌}
use native.Mathlib.Omega.{arith}
use mathlib.Core.Path.{◌≡◌, refl, sym, ap, ap₂, ◌∙◌, subst}
use mathlib.Core.Bool.{Bool, true, false}
use mathlib.Core.List.{List, [], map}
use lib.Dec.{eqb}
use lib.ListN.{length, get_or, set}
use borrow.Author.Tests.{eqb-true, eqb-false}
use Rattle.std.proofs.lemmas.List.{get_or-set_same, get_or-set_other}
use Rattle.geometry.specs.declared.Rect.{Rect}
use Rattle.refusal.specs.declared.Refusal.{Refusal}
use Rattle.refusal.specs.declared.Refusal.TheVariants.{WrongReply}
use Rattle.records.proofs.Laws.{written_length}
use Rattle.tree_record.specs.Layout.{layout_width, layout_words}
use Rattle.style_record.specs.Record.{items}
use Rattle.sweep.specs.Sweep.{candidates_in, moved, keep}
use Rattle.sweep.proofs.Steps.{appended_length}
use Rattle.oof_place.specs.declared.OofBoxLayout.{OofBoxLayout}
use Rattle.oof_box.specs.declared.question.Reply.{Reply}
use Rattle.oof_box.specs.declared.question.Replies.{Replies}
use Rattle.oof_box.specs.declared.question.Stage.{Stage}
use Rattle.oof_box.specs.declared.question.Taken.{Taken}
use Rattle.oof_box.specs.declared.question.Taken.TheVariants.{Kept, Laid}
use Rattle.run.specs.Call.{Lent, Outcome}
use Rattle.run.specs.Refusals.{Verdict, lent_by, any_above}
use Rattle.run.specs.Run.{extents_of, box_at_hand, charged, taken_in, taken_by, reply_verdict, measured_on, laid_out, refusing, replied}
use Rattle.run.specs.Theorems.{laid_count}
use Rattle.run.proofs.Refusals.{measured_accepts, laid_accepts}
use Rattle.run.proofs.Charged.{charged_length}
use Rattle.mirror_box.specs.Quarter.{QuarterReplies, QuarterOverflow}
use Rattle.mirror_box.specs.Mirrored.{MirroredBox}
use Rattle.mirror_box.proofs.Law.{unions_mirrored}
use Rattle.mirror_run.specs.Image.{image_styles}
use Rattle.mirror_run.specs.Quarter.{QuarterReply}
use Rattle.mirror_run.specs.Runs as runs
use Rattle.mirror_run.proofs.Styles.{items_kept}
use Rattle.mirror_run.proofs.Verdicts.{same_reply, ReplyPassed, reply_passed}
use Rattle.mirror_run.proofs.Unread.{was_asking, replied_as, taken_all}
use Rattle.mirror_run.proofs.Taken.{QuarterTaken, quarter_taken}
use Rattle.mirror_run.proofs.Linked as link
use Rattle.mirror_run.proofs.Linked.{Frame, QuarterFrame, Shared, Own, state_of, lent_of, Ready, box_of, Accepted, Lists, Within, Blocks, Links, Linked, linked, both_are}
use Rattle.mirror_run.proofs.Box.{laid_same, read_same}
use Rattle.mirror_run.proofs.Next.{ready_at, asks_linked, proceeds_linked}
use Rattle.mirror_run.proofs.Surfaced.{surfaced_unclaimed}
use Rattle.mirror_run.proofs.LaidOut.{placed_of, counted, after, counts_after, laid_as, laid_next}

charged_within : (n : ℕ) (tally : List ℕ) (j : ℕ) → Within n tally → Within (n + 1) (charged tally j)
unfolding charged
charged_within n tally j h i l = go (eqb i j) refl
  where
    there : i < length tally
    there = rw (sym (charged_length tally j)) l

    here : get_or tally i 0 ≤ n
    here = h i there

    go : (b : Bool) → eqb i j ≡ b → get_or (set tally j (get_or tally j 0 + 1)) i 0 ≤ n + 1
    go true e =
        subst (λ (k : ℕ). get_or (set tally k (get_or tally k 0 + 1)) i 0 ≤ n + 1) (eqb-true i j e)
        (rw (get_or-set_same tally i (get_or tally i 0 + 1) 0 there) (omega (arith, here)))
    go false e = rw (get_or-set_other tally j i (get_or tally j 0 + 1) 0 (eqb-false i j e)) (omega (arith, here))

-- ---- both runs

module _ (f : Frame) (q : QuarterFrame f) (s : Shared) (p p' : Own) (links : Links f s p p') (reply : Reply) (surfaced : List ℕ) where
  abbrev lent : Lent
  lent = lent_of f.styles p

  abbrev lent' : Lent
  lent' = lent_of (image_styles f.styles) p'

  same_verdict : reply_verdict (state_of f s p) reply surfaced lent ≡ reply_verdict (state_of f s p') reply surfaced lent'
  unfolding taken_by
  same_verdict =
      same_reply (state_of f s p) (state_of f s p') reply surfaced lent lent' refl (links.lists.lengths ∙ sym links.lists.lengths') refl refl refl refl
      (λ e. let at = was_asking s.progress s.replies reply e in ap (any_above s.counts.answered) (links.lists.tally (links.blocks at.0 at.1).2))
      (links.lists.good ∙ sym links.lists.good')

  -- a refused reply leaves both as they were
  refuses : (r : Refusal) → Linked f (refusing (state_of f s p) lent r) (refusing (state_of f s p') lent' r)
  refuses r = linked s p p' links runs.refused

  module _ (stage : Stage) (asked : s.progress ≡ Some stage) (passed : ReplyPassed (state_of f s p) reply surfaced lent) where
    before : link.Laid f (s.counts.begun - 1) p p'
    before = subst (λ (at : Option Stage). link.Laid f (laid_count at s.counts.begun) p p') asked links.laid

    ready : Ready f.container.area (items f.styles) (box_of p (s.counts.begun - 1)) (box_of p' (s.counts.begun - 1))
    ready = ready_at f q passed.style s.claims p p' (links.blocks stage asked) links.overflow s.counts links.lists passed.begun passed.waiting

    -- both count for one item
    same_tally : Accepted f → charged p.tally (box_of p (s.counts.begun - 1)).node ≡ charged p'.tally (box_of p' (s.counts.begun - 1)).node
    same_tally a = ap₂ charged (links.lists.tally a) (sym ready.image.node)

    lists_counted : Lists f s.counts.filled (counted s.counts p) (counted s.counts p')
    lists_counted =
        let old = links.lists in
        record {
          lengths = rw (charged_length p.tally (box_of p (s.counts.begun - 1)).node) old.lengths;
          lengths' = rw (charged_length p'.tally (box_of p' (s.counts.begun - 1)).node) old.lengths';
          claimed = old.claimed;
          good = old.good;
          good' = old.good';
          unclaimed = old.unclaimed;
          tally = same_tally;
        }

    -- the count goes up with the word
    within : Accepted f → Within (s.counts.answered + 1) (charged p.tally (box_of p (s.counts.begun - 1)).node)
    within a = charged_within s.counts.answered p.tally (box_of p (s.counts.begun - 1)).node (links.within a)

    -- a size was replied
    measures : (replies : Replies) → QuarterReplies replies → Linked f (measured_on (state_of f s p) replies lent) (measured_on (state_of f s p') replies lent')
    unfolding measured_on box_at_hand
    measures replies given =
        asks_linked f q passed.style s.claims (counted s.counts p) (counted s.counts p') (links.blocks stage asked) links.overflow
        (record { filled = s.counts.filled; begun = s.counts.begun; answered = s.counts.answered + 1 }) replies lists_counted before within given passed.begun passed.waiting

    -- the box was laid out
    module _ (passed' : ReplyPassed (state_of f s p') reply surfaced lent') (overflow : Rect Float) (given : QuarterOverflow overflow) (lay : lent_by reply surfaced ≡ surfaced)
        (unclaimed : keep s.claims true (candidates_in surfaced) ≡ []) where
      abbrev placed : OofBoxLayout
      placed = placed_of f.styles p s.counts s.replies overflow

      abbrev placed' : OofBoxLayout
      placed' = placed_of (image_styles f.styles) p' s.counts s.replies overflow

      abbrev next : Own
      next = after f.styles s.claims s.counts surfaced placed p

      abbrev next' : Own
      next' = after (image_styles f.styles) s.claims s.counts surfaced placed' p'

      blocks : Blocks f p p'
      blocks = links.blocks stage asked

      mirrored_box : MirroredBox f.container.area placed placed'
      mirrored_box =
          laid_same f q p p' blocks passed.style (box_of p (s.counts.begun - 1)) (box_of p' (s.counts.begun - 1)) ready s.replies links.replies overflow given

      layouts_long' : length p'.layouts ≡ layout_width * items f.styles
      layouts_long' = passed'.layouts ∙ ap (λ (n : ℕ). layout_width * n) (items_kept f.styles)

      -- the words written change no length
      lengths_kept_lem : (styles : List ℕ) (p : Own) (placed : OofBoxLayout)
          → extents_of (lent_of styles (after styles s.claims s.counts surfaced placed p)) ≡ extents_of (lent_of styles p)
      lengths_kept_lem styles p placed =
          rw (
            written_length p.layouts (layout_width * (box_of p (s.counts.begun - 1)).node) (layout_words placed.layout),
            appended_length p.unclaimed s.counts.filled.unclaimed (keep s.claims false (map (moved (Some placed.layout.location)) (candidates_in surfaced))),
            charged_length p.tally (box_of p (s.counts.begun - 1)).node,
          )
          refl

      lists_next : Lists f (counts_after s.claims s.counts surfaced).filled next next'
      lists_next =
          let old = links.lists in
          record {
            lengths = lengths_kept_lem f.styles p placed ∙ old.lengths;
            lengths' = lengths_kept_lem (image_styles f.styles) p' placed' ∙ old.lengths';
            claimed = old.claimed;
            good = old.good;
            good' = old.good';
            unclaimed =
                surfaced_unclaimed s.claims surfaced p.unclaimed p'.unclaimed s.counts.filled.unclaimed (rw lay at passed.room.1) (rw lay at passed'.room.1)
                placed.layout.location placed'.layout.location mirrored_box.layout.y old.unclaimed;
            tally = same_tally;
          }

      laid : link.Laid f s.counts.begun next next'
      laid =
          laid_next f s.counts p p' links.lists passed.begun passed.waiting passed.layouts layouts_long' s.claims surfaced placed placed'
          (read_same f q p p' blocks passed.style (box_of p (s.counts.begun - 1)) (box_of p' (s.counts.begun - 1)) ready s.replies links.replies overflow given) before

      lays_out_lem : Linked f (laid_out (state_of f s p) overflow surfaced lent) (laid_out (state_of f s p') overflow surfaced lent')
      lays_out_lem =
          both_are f (laid_as f f.styles s p overflow surfaced unclaimed) (laid_as f (image_styles f.styles) s p' overflow surfaced unclaimed)
          (proceeds_linked f q passed.style s.claims next next' blocks
          (unions_mirrored p.overflow p'.overflow placed.contribution placed'.contribution links.overflow mirrored_box.contribution)
          (counts_after s.claims s.counts surfaced) lists_next laid within)

  -- ---- any reply

  abbrev Fair : Type 0
  Fair =
      is_err (replied (state_of f s p) reply surfaced lent).step.answer ≡ false
      → QuarterReply reply × (keep s.claims true (candidates_in (lent_by reply surfaced)) ≡ [])

  pub replied_linked : Fair → Linked f (replied (state_of f s p) reply surfaced lent) (replied (state_of f s p') reply surfaced lent')
  unfolding taken_by
  replied_linked fair = go (reply_verdict (state_of f s p) reply surfaced lent) (taken_in s.progress s.replies reply) refl refl
    where
      go : (v : Verdict) (t : Option Taken) → reply_verdict (state_of f s p) reply surfaced lent ≡ v → taken_in s.progress s.replies reply ≡ t
          → Linked f (replied (state_of f s p) reply surfaced lent) (replied (state_of f s p') reply surfaced lent')
      go (Err r) t d e = both_are f (replied_as _ reply surfaced lent d e) (replied_as _ reply surfaced lent' (sym same_verdict ∙ d) e) (refuses r)
      go (Ok tt) None d e = both_are f (replied_as _ reply surfaced lent d e) (replied_as _ reply surfaced lent' (sym same_verdict ∙ d) e) (refuses WrongReply)
      go (Ok tt) (Some (Kept replies)) d e =
          let r = replied_as (state_of f s p) reply surfaced lent d e in
          let h = fair (ap (λ (o : Outcome). is_err o.step.answer) r ∙ measured_accepts (state_of f s p) replies lent) in
          let at = was_asking s.progress s.replies reply (ap is_none e) in
          both_are f r (replied_as _ reply surfaced lent' (sym same_verdict ∙ d) e)
          (measures at.0 at.1 (reply_passed (state_of f s p) reply surfaced lent d) replies
          (subst QuarterTaken e (quarter_taken s.replies links.replies s.progress reply h.0)))
      go (Ok tt) (Some (Laid overflow)) d e =
          let r = replied_as (state_of f s p) reply surfaced lent d e in
          let h = fair (ap (λ (o : Outcome). is_err o.step.answer) r ∙ laid_accepts (state_of f s p) overflow surfaced lent) in
          let at = was_asking s.progress s.replies reply (ap is_none e) in
          let all = taken_all (state_of f s p) reply surfaced e in
          both_are f r (replied_as _ reply surfaced lent' (sym same_verdict ∙ d) e)
          (lays_out_lem at.0 at.1 (reply_passed (state_of f s p) reply surfaced lent d) (reply_passed (state_of f s p') reply surfaced lent' (sym same_verdict ∙ d)) overflow
          (subst QuarterTaken e (quarter_taken s.replies links.replies s.progress reply h.0)) all (subst (λ (ws : List ℕ). keep s.claims true (candidates_in ws) ≡ []) all h.1))
