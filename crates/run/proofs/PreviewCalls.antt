-- One call of a preview: it is turned down by its own tests, or it is the call over the copy. Assumes nothing.
use Prim.Native.Nat.{ℕ, ◌<◌}
use borrow.Author.Rules.{rules}
use native.Mathlib.Omega.{arith}
use mathlib.Core.Logic.{inl, inr, ◌≢◌}
use mathlib.Core.Path.{◌≡◌, refl, sym, ap, ◌∙◌, subst}
use mathlib.Core.Bool.{Bool, true, false}
use mathlib.Core.List.{List}
use lib.ListN.{length}
use Rattle.std.specs.Prelude.{Ok, Err, is_err, Float}
use Rattle.util.proofs.Floats.{no}
use Rattle.geometry.specs.declared.Rect.{Rect}
use Rattle.refusal.specs.declared.Refusal.{Refusal}
use Rattle.refusal.specs.declared.Refusal.TheVariants.{BadExtent}
use Rattle.style_record.specs.Record.{style_words, items}
use Rattle.style_record.proofs.Copies.{copy_is_as_long}
use Rattle.oof_box.specs.declared.question.Reply.{Reply}
use Rattle.run.specs.declared.Opening.{Opening}
use Rattle.run.specs.declared.Counts.{Counts}
use Rattle.run.specs.declared.Extents.{Extents}
use Rattle.run.specs.declared.Opened.{Opened}
use Rattle.run.specs.declared.State.{State}
use Rattle.run.specs.Call.{Lent, Outcome}
use Rattle.run.specs.Refusals.{Verdict}
use Rattle.run.specs.Conditions.{LengthsDiffer}
use Rattle.run.specs.Run.{extents_of, asking, finishing, proceeding, closed, begun, opened, measured_on, laid_out, refusing, refusing_opening, replied}
use Rattle.run.specs.Preview.{over_copy, opening_before_copy, preview_opened, reply_before_copy, preview_replied}
use Rattle.run.specs.Theorems.{CountsNone, CountsOne}
use Rattle.run.proofs.Decides.{Decides, equal}
use Rattle.run.proofs.Ways.{OpeningWay, begins, opening_way, ReplyWay, measures, lays_out, reply_way, next_way}
use Rattle.run.proofs.Sums.{opening_counts_none, reply_counts_one}
use Rattle.run.proofs.Exactly.{other_lengths_refused}
use Rattle.run.proofs.Refusals.{refused_reply_keeps}
use Rattle.run.proofs.Preview.{preview_opening_accepted_exactly, preview_reply_is_the_copys, preview_reply_refused_exactly, refused_preview_reply_keeps}

-- ---- the two ways

pub data PreviewOpeningWay (o : Opening) (candidates : List ℕ) (node : ℕ) (style : List ℕ) (lent : Lent) : Type 0 where
  turned_down : (r : Refusal) → preview_opened o candidates node style lent ≡ refusing_opening lent r → PreviewOpeningWay o candidates node style lent
  over : preview_opened o candidates node style lent ≡ opened o candidates (over_copy node style lent) → PreviewOpeningWay o candidates node style lent

pub preview_opening_way : (o : Opening) (candidates : List ℕ) (node : ℕ) (style : List ℕ) (lent : Lent) → PreviewOpeningWay o candidates node style lent
unfolding preview_opened
preview_opening_way o candidates node style lent = go (opening_before_copy o candidates node style lent) refl
  where
    go : (v : Verdict) → opening_before_copy o candidates node style lent ≡ v → PreviewOpeningWay o candidates node style lent
    go (Ok tt) e = PreviewOpeningWay.over (rw e refl)
    go (Err r) e = PreviewOpeningWay.turned_down r (rw e refl)

pub data PreviewReplyWay (s : State) (reply : Reply) (surfaced : List ℕ) (node : ℕ) (style : List ℕ) (lent : Lent) : Type 0 where
  turned_down : (r : Refusal) → preview_replied s reply surfaced node style lent ≡ refusing s lent r → PreviewReplyWay s reply surfaced node style lent
  over : preview_replied s reply surfaced node style lent ≡ replied s reply surfaced (over_copy node style lent) → PreviewReplyWay s reply surfaced node style lent

pub preview_reply_way : (s : State) (reply : Reply) (surfaced : List ℕ) (node : ℕ) (style : List ℕ) (lent : Lent) → PreviewReplyWay s reply surfaced node style lent
unfolding preview_replied
preview_reply_way s reply surfaced node style lent = go (reply_before_copy s reply surfaced node style lent) refl
  where
    go : (v : Verdict) → reply_before_copy s reply surfaced node style lent ≡ v → PreviewReplyWay s reply surfaced node style lent
    go (Ok tt) e = PreviewReplyWay.over (rw e refl)
    go (Err r) e = PreviewReplyWay.turned_down r (rw e refl)

refused : {A : Type 0} {o p : Outcome} → o ≡ p → is_err p.step.answer ≡ true → is_err o.step.answer ≡ false → A
refused e t n = no (ap (λ (x : Outcome). is_err x.step.answer) e ∙ t) n

-- what an accepted one goes by, it has of the copy: so it has it
pub accepted_opening : (P : Outcome → Type 0) (o : Opening) (candidates : List ℕ) (node : ℕ) (style : List ℕ) (lent : Lent)
    → is_err (preview_opened o candidates node style lent).step.answer ≡ false
    → (is_err (opened o candidates (over_copy node style lent)).step.answer ≡ false → P (opened o candidates (over_copy node style lent)))
    → P (preview_opened o candidates node style lent)
accepted_opening P o candidates node style lent n of_copy = go (preview_opening_way o candidates node style lent)
  where
    go : PreviewOpeningWay o candidates node style lent → P (preview_opened o candidates node style lent)
    go (PreviewOpeningWay.turned_down r e) = refused e refl n
    go (PreviewOpeningWay.over e) = subst P (sym e) (of_copy (subst (λ (x : Outcome). is_err x.step.answer ≡ false) e n))

pub accepted_reply : (P : Outcome → Type 0) (s : State) (reply : Reply) (surfaced : List ℕ) (node : ℕ) (style : List ℕ) (lent : Lent)
    → is_err (preview_replied s reply surfaced node style lent).step.answer ≡ false
    → (is_err (replied s reply surfaced (over_copy node style lent)).step.answer ≡ false → P (replied s reply surfaced (over_copy node style lent)))
    → P (preview_replied s reply surfaced node style lent)
accepted_reply P s reply surfaced node style lent n of_copy = go (preview_reply_way s reply surfaced node style lent)
  where
    go : PreviewReplyWay s reply surfaced node style lent → P (preview_replied s reply surfaced node style lent)
    go (PreviewReplyWay.turned_down r e) = refused e refl n
    go (PreviewReplyWay.over e) = subst P (sym e) (of_copy (subst (λ (x : Outcome). is_err x.step.answer ≡ false) e n))

-- ---- counts

pub preview_opening_counts_none : (o : Opening) (candidates : List ℕ) (node : ℕ) (style : List ℕ) (lent : Lent)
    → is_err (preview_opened o candidates node style lent).step.answer ≡ false
    → CountsNone lent (preview_opened o candidates node style lent)
preview_opening_counts_none o candidates node style lent n =
    accepted_opening (CountsNone lent) o candidates node style lent n
    (λ k. let none = opening_counts_none o candidates (over_copy node style lent) k in record { answered = none.answered; tally = none.tally })

pub preview_reply_counts_one : (s : State) (reply : Reply) (surfaced : List ℕ) (node : ℕ) (style : List ℕ) (lent : Lent)
    → is_err (preview_replied s reply surfaced node style lent).step.answer ≡ false
    → CountsOne s lent (preview_replied s reply surfaced node style lent)
preview_reply_counts_one s reply surfaced node style lent n =
    accepted_reply (CountsOne s lent) s reply surfaced node style lent n
    (λ k. let one = reply_counts_one s reply surfaced (over_copy node style lent) k in record { answered = one.answered; has_word = one.has_word; tally = one.tally })

-- ---- an accepted opening has one style record and a node below n

pub opened_with : (o : Opening) (candidates : List ℕ) (node : ℕ) (style : List ℕ) (lent : Lent)
    → is_err (preview_opened o candidates node style lent).step.answer ≡ false
    → (length style ≡ style_words) × (node < items lent.styles)
opened_with o candidates node style lent n =
    let none = (preview_opening_accepted_exactly o candidates node style lent).0 n in
    let below = none.1.1.0 in
    (go (equal (length style) style_words) (λ d. none.1.0 (inr (inr (inr d)))), omega (arith, below))
  where
    go : {b : Bool} → Decides b (length style ≡ style_words) → ¬ (length style ≢ style_words) → length style ≡ style_words
    go {b = true} d f = d.holds refl
    go {b = false} d f = absurd (f (d.fails refl))

-- ---- a state keeps what was opened

-- from one question to the next
proceeding_opened : (styles working : List ℕ) (run : Opened) (counts : Counts) (overflow : Rect Float) → (proceeding styles working run counts overflow).state.opened ≡ run
unfolding asking finishing
proceeding_opened styles working run counts overflow = search (rules, next_way)

pub opening_extents : (o : Opening) (candidates : List ℕ) (lent : Lent) → (opened o candidates lent).step.state.opened.extents ≡ extents_of lent
unfolding closed begun
opening_extents o candidates lent = go (opening_way o candidates lent)
  where
    go : OpeningWay o candidates lent → (opened o candidates lent).step.state.opened.extents ≡ extents_of lent
    go (OpeningWay.turned_down r e) = ap (λ (x : Outcome). x.step.state.opened.extents) e
    go (begins v e) = ap (λ (x : Outcome). x.step.state.opened.extents) e ∙ ap (λ (r : Opened). r.extents) (proceeding_opened _ _ _ _ _)

pub reply_opened : (s : State) (reply : Reply) (surfaced : List ℕ) (lent : Lent) → (replied s reply surfaced lent).step.state.opened ≡ s.opened
unfolding measured_on asking laid_out
reply_opened s reply surfaced lent = go (reply_way s reply surfaced lent)
  where
    go : ReplyWay s reply surfaced lent → (replied s reply surfaced lent).step.state.opened ≡ s.opened
    go (ReplyWay.turned_down r e) = ap (λ (x : Outcome). x.step.state.opened) e
    go (measures replies v t e) = ap (λ (x : Outcome). x.step.state.opened) e
    go (lays_out overflow v t e) = ap (λ (x : Outcome). x.step.state.opened) e ∙ proceeding_opened _ _ _ _ _

pub preview_reply_opened : (s : State) (reply : Reply) (surfaced : List ℕ) (node : ℕ) (style : List ℕ) (lent : Lent)
    → (preview_replied s reply surfaced node style lent).step.state.opened ≡ s.opened
preview_reply_opened s reply surfaced node style lent = go (preview_reply_way s reply surfaced node style lent)
  where
    go : PreviewReplyWay s reply surfaced node style lent → (preview_replied s reply surfaced node style lent).step.state.opened ≡ s.opened
    go (PreviewReplyWay.turned_down r e) = ap (λ (x : Outcome). x.step.state.opened) e
    go (PreviewReplyWay.over e) = ap (λ (x : Outcome). x.step.state.opened) e ∙ reply_opened s reply surfaced (over_copy node style lent)

-- ---- with one style record for a node below the items of the opening's table, a reply is the copy's, whatever is lent: styles of another length are
-- a bad extent before the node is looked at

pub same_reply : (s : State) (reply : Reply) (surfaced : List ℕ) (node : ℕ) (style styles : List ℕ) (lent : Lent)
    → length style ≡ style_words → node < items styles → s.opened.extents.styles ≡ length styles
    → preview_replied s reply surfaced node style lent ≡ replied s reply surfaced (over_copy node style lent)
unfolding items
same_reply s reply surfaced node style styles lent one there extents = go (equal (length lent.styles) (s.opened.extents.styles))
  where
    as_long : length (over_copy node style lent).styles ≡ length lent.styles
    as_long = (copy_is_as_long lent.styles node style).0

    go : {b : Bool} → Decides b (length lent.styles ≡ s.opened.extents.styles) → preview_replied s reply surfaced node style lent ≡ replied s reply surfaced (over_copy node style lent)
    go {b = true} d =
        let e = d.holds refl ∙ extents in
        preview_reply_is_the_copys s reply surfaced node style lent one (rw e there)
    go {b = false} d =
        let other = d.fails refl in
        let differ : LengthsDiffer s lent = λ e. other (ap (λ (x : Extents). x.styles) e) in
        refused_preview_reply_keeps s reply surfaced node style lent BadExtent ((preview_reply_refused_exactly s reply surfaced node style lent BadExtent).1 (inl (inr (inr (inl differ)), refl)))
        ∙ sym (refused_reply_keeps s reply surfaced (over_copy node style lent) BadExtent (other_lengths_refused s reply surfaced (over_copy node style lent) (λ e. other (sym as_long ∙ ap (λ (x : Extents). x.styles) e))))
