-- What is stated of a preview's calls in specs/PreviewTheorems.antt. Assumes nothing.
use Prim.Native.Nat.{ℕ, ◌+◌, ◌*◌, ◌<◌, ◌≤◌}
use native.Mathlib.Omega.{arith}
use mathlib.Core.Logic.Iff
use mathlib.Core.Path.{◌≡◌, refl, sym, ap, ◌∙◌}
use mathlib.Core.Bool.{Bool, true, false, not, ◌||◌}
use mathlib.Core.List.{List, [], ◌∷◌, foldl}
use lib.ListN.{length, take, drop, length-drop}
use lib.Seq.{length-take-le}
use borrow.Author.Tests.{eq-eqb}
use Rattle.std.specs.Prelude.{Ok, Err}
use Rattle.std.proofs.lemmas.Bool.{or_parts}
use Rattle.refusal.specs.declared.Refusal.TheVariants.{BadArea, BadExtent, BadCandidate}
use Rattle.records.specs.Records.{record_at}
use Rattle.records.proofs.Laws.{written_same}
use Rattle.style_record.specs.Record.{style_words, items}
use Rattle.style_record.proofs.Same.{item_inside}
use Rattle.style_record.specs.Table.{with_style}
use Rattle.style_record.proofs.Copies.{copy_is_as_long, copy_is_over}
use Rattle.oof_box.specs.declared.question.Reply.{Reply}
use Rattle.run.specs.declared.Opening.{Opening}
use Rattle.run.specs.declared.State.{State}
use Rattle.run.specs.Call.{Lent, Outcome, unwritten}
use Rattle.run.specs.Theorems.{Heard, next}
use Rattle.run.specs.Refusals.{Verdict, accepted, bad_slices, bad_table, other_lengths, bad_at_opening, bad_at_reply, lent_by}
use Rattle.run.specs.Run.{closed, opened, opening_verdict, replied, reply_verdict}
use Rattle.run.specs.Preview.{over_copy, bad_replacement, bad_node, opening_before_copy, preview_opened_by, preview_opened, reply_before_copy, preview_replied_by, preview_replied}
use Rattle.run.specs.Conditions.{ReplacementIsBad, NodeIsBad, preview_opening_tests, preview_reply_tests}
use Rattle.run.specs.PreviewTheorems.{PreviewOpeningIsTheCopys, PreviewReplyIsTheCopys, PreviewOpeningRefusedExactly, PreviewOpeningAcceptedExactly, PreviewReplyRefusedExactly, PreviewReplyAcceptedExactly, RefusedPreviewReplyKeeps, RefusedPreviewOpeningKeeps, LiveRecordHasNoSay, OwnRecordIsLive, preview_next, PreviewIsTheCopy}
use Rattle.run.proofs.Ways.{passed}
use Rattle.run.proofs.Decides.{Decides, either, regroup, opposite, equal, at_most, Says, no_more, then, before_all, then_all, both_test, own_test, but_first, refused_first, accepted_none}
use Rattle.run.proofs.Conditions.{area_decided, opening_extents_decided, reply_extents_decided}
use Rattle.run.proofs.Exactly.{GoesBy, goes_refused, opening_says, opening_goes, reply_says, reply_goes}
use Rattle.run.proofs.Refusals.{same_refusal, refused_opening_keeps, refused_reply_keeps}

-- ---- the copy is as long: so are the tests of lengths, and the state of a refused opening

module _ (node : ℕ) (style : List ℕ) (lent : Lent) where
  pub closed_alike : closed (over_copy node style lent) ≡ closed lent
  unfolding closed
  closed_alike = rw ((copy_is_as_long lent.styles node style).0) refl

  opening_alike : (candidates : List ℕ) → bad_at_opening candidates (over_copy node style lent) ≡ bad_at_opening candidates lent
  unfolding bad_slices bad_table
  opening_alike candidates = rw ((copy_is_as_long lent.styles node style).0, (copy_is_as_long lent.styles node style).1) refl

  reply_alike : (s : State) (surfaced : List ℕ) → bad_at_reply s.opened.extents surfaced (over_copy node style lent) ≡ bad_at_reply s.opened.extents surfaced lent
  unfolding bad_slices bad_table other_lengths
  reply_alike s surfaced = rw ((copy_is_as_long lent.styles node style).0, (copy_is_as_long lent.styles node style).1) refl

-- ---- what is asked of node and replacement

replacement_decided : (style : List ℕ) → Decides (bad_replacement style) (ReplacementIsBad style)
replacement_decided style = opposite (equal (length style) style_words)

node_decided : (node : ℕ) (lent : Lent) → Decides (bad_node lent.styles node) (NodeIsBad node lent)
node_decided node lent = at_most (items lent.styles) node

-- with one style record nothing is added to a test of lengths
one_style : (style : List ℕ) (b : Bool) → length style ≡ style_words → b || bad_replacement style ≡ b
one_style style true one = refl
one_style style false one = ap not (eq-eqb (length style) style_words one)

node_there : (node : ℕ) (lent : Lent) → node < items lent.styles → bad_node lent.styles node ≡ false
node_there node lent there = go (bad_node lent.styles node) (node_decided node lent)
  where
    go : (b : Bool) → Decides b (NodeIsBad node lent) → b ≡ false
    go true d = let h = d.holds refl in absurd (omega arith)
    go false d = refl

-- ---- an opening

module _ (o : Opening) (candidates : List ℕ) (node : ℕ) (style : List ℕ) (lent : Lent) where
  -- its own tests, then those of the copy's that are left
  opening_own : Says (opening_before_copy o candidates node style lent) (take 3 (preview_opening_tests o candidates node style lent))
  unfolding opening_before_copy
  opening_own =
      then BadArea (area_decided o)
      (λ _. then BadExtent (regroup (regroup (either (opening_extents_decided candidates lent) (replacement_decided style))))
      (λ _. then BadCandidate (node_decided node lent)
      (λ _. no_more)))

  opening_left : opening_before_copy o candidates node style lent ≡ accepted
      → Says (opening_verdict o candidates (over_copy node style lent)) (drop 3 (preview_opening_tests o candidates node style lent))
  unfolding opening_before_copy
  opening_left e =
      let area = passed _ _ _ e in
      let extents = or_parts (bad_at_opening candidates lent) _ (passed _ _ _ area.1).0 in
      but_first (but_first (opening_says o candidates (over_copy node style lent)) ((area_decided o).fails area.0))
      ((regroup (opening_extents_decided candidates (over_copy node style lent))).fails (opening_alike node style lent candidates ∙ extents.0))

  preview_opening_says :
      Says (before_all (opening_before_copy o candidates node style lent) (opening_verdict o candidates (over_copy node style lent)))
      (preview_opening_tests o candidates node style lent)
  preview_opening_says = then_all _ _ opening_own opening_left

  preview_opening_goes :
      GoesBy (preview_opened o candidates node style lent).step.answer
      (before_all (opening_before_copy o candidates node style lent) (opening_verdict o candidates (over_copy node style lent)))
  unfolding preview_opened
  preview_opening_goes = go (opening_before_copy o candidates node style lent)
    where
      go : (v : Verdict) → GoesBy (preview_opened_by v o candidates node style lent).step.answer (before_all v (opening_verdict o candidates (over_copy node style lent)))
      go (Ok tt) = opening_goes o candidates (over_copy node style lent)
      go (Err r) = goes_refused r

  -- with one style record for a node that is there the copy's tests decide
  opening_verdicts : length style ≡ style_words → node < items lent.styles
      → before_all (opening_before_copy o candidates node style lent) (opening_verdict o candidates (over_copy node style lent))
      ≡ opening_verdict o candidates (over_copy node style lent)
  unfolding opening_before_copy opening_verdict
  opening_verdicts one there =
      both_test BadArea _ refl
      (both_test BadExtent _ (one_style style _ one ∙ sym (opening_alike node style lent candidates))
      (own_test BadCandidate _ (node_there node lent there) refl))

pub preview_opening_is_the_copys : PreviewOpeningIsTheCopys
unfolding preview_opened opened
preview_opening_is_the_copys o candidates node style lent one there = go (opening_before_copy o candidates node style lent) (opening_verdicts o candidates node style lent one there)
  where
    go : (v : Verdict) → before_all v (opening_verdict o candidates (over_copy node style lent)) ≡ opening_verdict o candidates (over_copy node style lent)
        → preview_opened_by v o candidates node style lent ≡ opened o candidates (over_copy node style lent)
    go (Ok tt) e = refl
    go (Err r) e = rw (← e) (ap (λ (s : State). unwritten lent (record { state = s; answer = Err r })) (sym (closed_alike node style lent)))

pub preview_opening_refused_exactly : PreviewOpeningRefusedExactly
preview_opening_refused_exactly o candidates node style lent r =
    Iff.trans ((preview_opening_goes o candidates node style lent).refusal r) (refused_first r (preview_opening_says o candidates node style lent))

pub preview_opening_accepted_exactly : PreviewOpeningAcceptedExactly
preview_opening_accepted_exactly o candidates node style lent =
    Iff.trans (preview_opening_goes o candidates node style lent).none (accepted_none (preview_opening_says o candidates node style lent))

pub refused_preview_opening_keeps : RefusedPreviewOpeningKeeps
unfolding preview_opened
refused_preview_opening_keeps o candidates node style lent r a = go (opening_before_copy o candidates node style lent) a
  where
    go : (v : Verdict) → (preview_opened_by v o candidates node style lent).step.answer ≡ Err r
        → preview_opened_by v o candidates node style lent ≡ unwritten lent (record { state = closed lent; answer = Err r })
    go (Ok tt) a =
        refused_opening_keeps o candidates (over_copy node style lent) r a
        ∙ ap (λ (s : State). unwritten lent (record { state = s; answer = Err r })) (closed_alike node style lent)
    go (Err q) a = same_refusal lent (closed lent) refl a

-- ---- a reply

module _ (s : State) (reply : Reply) (surfaced : List ℕ) (node : ℕ) (style : List ℕ) (lent : Lent) where
  reply_own : Says (reply_before_copy s reply surfaced node style lent) (take 2 (preview_reply_tests s reply surfaced node style lent))
  unfolding reply_before_copy
  reply_own =
      then BadExtent (regroup (regroup (regroup (either (reply_extents_decided s (lent_by reply surfaced) lent) (replacement_decided style)))))
      (λ _. then BadCandidate (node_decided node lent)
      (λ _. no_more))

  reply_left : reply_before_copy s reply surfaced node style lent ≡ accepted
      → Says (reply_verdict s reply surfaced (over_copy node style lent)) (drop 2 (preview_reply_tests s reply surfaced node style lent))
  unfolding reply_before_copy
  reply_left e =
      let extents = or_parts (bad_at_reply s.opened.extents (lent_by reply surfaced) lent) _ (passed _ _ _ e).0 in
      but_first (reply_says s reply surfaced (over_copy node style lent))
      ((regroup (regroup (reply_extents_decided s (lent_by reply surfaced) (over_copy node style lent)))).fails (reply_alike node style lent s (lent_by reply surfaced) ∙ extents.0))

  preview_reply_says :
      Says (before_all (reply_before_copy s reply surfaced node style lent) (reply_verdict s reply surfaced (over_copy node style lent)))
      (preview_reply_tests s reply surfaced node style lent)
  preview_reply_says = then_all _ _ reply_own reply_left

  preview_reply_goes :
      GoesBy (preview_replied s reply surfaced node style lent).step.answer
      (before_all (reply_before_copy s reply surfaced node style lent) (reply_verdict s reply surfaced (over_copy node style lent)))
  unfolding preview_replied
  preview_reply_goes = go (reply_before_copy s reply surfaced node style lent)
    where
      go : (v : Verdict) → GoesBy (preview_replied_by v s reply surfaced node style lent).step.answer (before_all v (reply_verdict s reply surfaced (over_copy node style lent)))
      go (Ok tt) = reply_goes s reply surfaced (over_copy node style lent)
      go (Err r) = goes_refused r

  reply_verdicts : length style ≡ style_words → node < items lent.styles
      → before_all (reply_before_copy s reply surfaced node style lent) (reply_verdict s reply surfaced (over_copy node style lent))
      ≡ reply_verdict s reply surfaced (over_copy node style lent)
  unfolding reply_before_copy reply_verdict
  reply_verdicts one there =
      both_test BadExtent _ (one_style style _ one ∙ sym (reply_alike node style lent s (lent_by reply surfaced)))
      (own_test BadCandidate _ (node_there node lent there) refl)

pub preview_reply_is_the_copys : PreviewReplyIsTheCopys
unfolding preview_replied replied
preview_reply_is_the_copys s reply surfaced node style lent one there = go (reply_before_copy s reply surfaced node style lent) (reply_verdicts s reply surfaced node style lent one there)
  where
    go : (v : Verdict) → before_all v (reply_verdict s reply surfaced (over_copy node style lent)) ≡ reply_verdict s reply surfaced (over_copy node style lent)
        → preview_replied_by v s reply surfaced node style lent ≡ replied s reply surfaced (over_copy node style lent)
    go (Ok tt) e = refl
    go (Err r) e = rw (← e) refl

pub preview_reply_refused_exactly : PreviewReplyRefusedExactly
preview_reply_refused_exactly s reply surfaced node style lent r =
    Iff.trans ((preview_reply_goes s reply surfaced node style lent).refusal r) (refused_first r (preview_reply_says s reply surfaced node style lent))

pub preview_reply_accepted_exactly : PreviewReplyAcceptedExactly
preview_reply_accepted_exactly s reply surfaced node style lent =
    Iff.trans (preview_reply_goes s reply surfaced node style lent).none (accepted_none (preview_reply_says s reply surfaced node style lent))

pub refused_preview_reply_keeps : RefusedPreviewReplyKeeps
unfolding preview_replied
refused_preview_reply_keeps s reply surfaced node style lent r a = go (reply_before_copy s reply surfaced node style lent) a
  where
    go : (v : Verdict) → (preview_replied_by v s reply surfaced node style lent).step.answer ≡ Err r
        → preview_replied_by v s reply surfaced node style lent ≡ unwritten lent (record { state = s; answer = Err r })
    go (Ok tt) a = refused_reply_keeps s reply surfaced (over_copy node style lent) r a
    go (Err q) a = same_refusal lent s refl a

-- ---- the table's own record of the node

abbrev with_styles : Lent → List ℕ → Lent
with_styles lent styles = record { styles = styles; layouts = lent.layouts; working = lent.working; unclaimed = lent.unclaimed; tally = lent.tally }

pub live_record_has_no_say : LiveRecordHasNoSay
live_record_has_no_say o candidates s reply surfaced node style words lent one one' there = (
  preview_opening_is_the_copys o candidates node style (over_copy node words lent) one' there'
      ∙ ap (opened o candidates) over
      ∙ sym (preview_opening_is_the_copys o candidates node style lent one' there),
  preview_reply_is_the_copys s reply surfaced node style (over_copy node words lent) one' there'
      ∙ ap (replied s reply surfaced) over
      ∙ sym (preview_reply_is_the_copys s reply surfaced node style lent one' there),
)
  where
    there' : node < items (with_style lent.styles node words)
    there' = rw ((copy_is_as_long lent.styles node words).1) there

    over : over_copy node style (over_copy node words lent) ≡ over_copy node style lent
    over =
        ap (with_styles lent) (copy_is_over lent.styles node words style one one' there)

pub preview_is_the_copy : PreviewIsTheCopy
unfolding preview_next next
preview_is_the_copy o candidates node style lent heard one there =
    ap (λ (first : Outcome). foldl (preview_next node style lent.styles) first heard) (preview_opening_is_the_copys o candidates node style lent one there)
    ∙ go heard (opened o candidates (over_copy node style lent))
  where
    go : (heard : List Heard) (before : Outcome)
        → foldl (preview_next node style lent.styles) before heard ≡ foldl (next (with_style lent.styles node style)) before heard
    go [] before = refl
    go (h ∷ hs) before =
        ap (λ (left : Outcome). foldl (preview_next node style lent.styles) left hs)
        (preview_reply_is_the_copys before.step.state h.reply h.surfaced node style
        (record { styles = lent.styles; layouts = before.layouts; working = before.working; unclaimed = before.unclaimed; tally = before.tally }) one there)
        ∙ go hs (next (with_style lent.styles node style) before h)

pub own_record_is_live : OwnRecordIsLive
unfolding record_at
own_record_is_live o candidates s reply surfaced node lent there = (
  preview_opening_is_the_copys o candidates node own lent long there ∙ ap (opened o candidates) same,
  preview_reply_is_the_copys s reply surfaced node own lent long there ∙ ap (replied s reply surfaced) same,
)
  where
    own : List ℕ
    own = record_at style_words lent.styles node

    inside : style_words * node + style_words ≤ length lent.styles
    inside = item_inside lent.styles node there

    long : length own ≡ style_words
    long = length-take-le style_words (drop (style_words * node) lent.styles) (let d = length-drop (style_words * node) lent.styles in omega (arith, d, inside))

    same : over_copy node own lent ≡ lent
    same =
        ap (λ (styles : List ℕ). record { styles = styles; layouts = lent.layouts; working = lent.working; unclaimed = lent.unclaimed; tally = lent.tally })
        (written_same lent.styles (style_words * node) style_words inside)
