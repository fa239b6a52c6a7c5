-- The demands of previews: each of their calls, and that a preview is a run over the copy. Assumes nothing.
use Prim.Native.Nat.{ℕ, ◌*◌, ◌<◌}
use mathlib.Core.Path.{◌≡◌, refl, sym, ap, ◌∙◌, subst}
use mathlib.Core.Bool.{Bool, false, not}
use mathlib.Core.List.{List, [], ◌∷◌, map, map-append}
use lib.Dec.{leb, eqb}
use lib.ListN.{length}
use Rattle.std.specs.Prelude.{is_err}
use Rattle.style_record.specs.Record.{style_words, items}
use Rattle.style_record.specs.Table.{with_style}
use Rattle.style_record.proofs.Copies.{copy_is_as_long}
use Rattle.oof_box.specs.declared.question.Reply.{Reply}
use Rattle.oof_box.specs.declared.question.Reply.TheVariants.{LaidOut}
use Rattle.run.specs.declared.Opening.{Opening}
use Rattle.run.specs.declared.State.{State}
use Rattle.run.specs.declared.Extents.{Extents}
use Rattle.run.specs.declared.Opened.{Opened}
use Rattle.run.specs.declared.Step.{Step}
use Rattle.run.specs.Call.{Lent, Outcome, slices, outcome}
use Rattle.run.specs.Refusals.{bad_slices, bad_table, other_lengths, bad_candidate}
use Rattle.finished.specs.Finished.{finished_verdict}
use Rattle.reach.specs.Reach.{reached}
use Rattle.drawing.specs.Drawing.{draw_verdict, drawn}
use Rattle.touch.specs.Touch.{touch_width, touched}
use Rattle.run.specs.Run.{opened, replied}
use Rattle.run.specs.Preview.{over_copy, preview_replied}
use Rattle.run.specs.PreviewTheorems.{loan_over, turn_over}
use Rattle.run.specs.Theorems.{Heard, Loan, own, other, Turn, Lends}
use Rattle.run.proofs.PreviewCalls.{accepted_reply, preview_opening_counts_none, preview_reply_counts_one, opened_with, opening_extents, preview_reply_opened, same_reply}
use Rattle.run.proofs.Preview.{preview_opening_is_the_copys, preview_reply_is_the_copys, preview_opening_refused_exactly, preview_opening_accepted_exactly, preview_reply_refused_exactly, preview_reply_accepted_exactly, refused_preview_opening_keeps, refused_preview_reply_keeps}
use Rattle.demands.specs.Entries.{PreviewOpens, PreviewRepliesTo, TakesBy, RunBy, RefusedBy, Takes, Run, RefusedSince, PreviewTakes, Previews, PreviewRefusedSince, own_slices}
use Rattle.demands.specs.Demands.{PreviewOpeningDemands, PreviewReplyDemands, SizedLayout, SizeLaw, PreviewIsARun, PreviewEqualsStraightRun, PreviewLaidOutAsAsked, PreviewIsAskedByTheTable}
use Rattle.demands.proofs.Demands.{size_law, equals_straight_run, laid_out_as_asked}

-- ---- one call

pub preview_opening_demands : (o : Opening) (candidates : List ℕ) (node : ℕ) (style : List ℕ) (lent : Lent) {r : Step} {l w u t : List ℕ}
    → PreviewOpens node style o candidates lent (outcome r l w u t)
    → PreviewOpeningDemands o candidates node style lent (outcome r l w u t)
preview_opening_demands o candidates node style lent c =
    subst (PreviewOpeningDemands o candidates node style lent) (sym c)
    (record {
      call = refl;
      refused = preview_opening_refused_exactly o candidates node style lent;
      accepted = preview_opening_accepted_exactly o candidates node style lent;
      kept = refused_preview_opening_keeps o candidates node style lent;
      cleared = preview_opening_counts_none o candidates node style lent;
      over = preview_opening_is_the_copys o candidates node style lent;
    })

preview_size : (s : State) (reply : Reply) (surfaced : List ℕ) (node : ℕ) (style : List ℕ) (lent : Lent)
    → SizeLaw s reply lent (preview_replied s reply surfaced node style lent)
preview_size s reply surfaced node style lent overflow k n =
    accepted_reply (λ (x : Outcome). SizedLayout s lent x.layouts) s reply surfaced node style lent n
    (λ m. let y = size_law s reply surfaced (over_copy node style lent) overflow k m in record { layout = y.layout; wrote = y.wrote; width = y.width; height = y.height })

pub preview_reply_demands : (s : State) (reply : Reply) (surfaced : List ℕ) (node : ℕ) (style : List ℕ) (lent : Lent) {r : Step} {l w u t : List ℕ}
    → PreviewRepliesTo node style s reply surfaced lent (outcome r l w u t)
    → PreviewReplyDemands s reply surfaced node style lent (outcome r l w u t)
preview_reply_demands s reply surfaced node style lent c =
    subst (PreviewReplyDemands s reply surfaced node style lent) (sym c)
    (record {
      call = refl;
      refused = preview_reply_refused_exactly s reply surfaced node style lent;
      accepted = preview_reply_accepted_exactly s reply surfaced node style lent;
      kept = refused_preview_reply_keeps s reply surfaced node style lent;
      size = preview_size s reply surfaced node style lent;
      counted = preview_reply_counts_one s reply surfaced node style lent;
      over = preview_reply_is_the_copys s reply surfaced node style lent;
    })

-- ---- a reply in a preview is the one over the copy, whatever it is lent

abbrev pub WithLength : List ℕ → Outcome → Type 0
WithLength styles x = x.step.state.opened.extents.styles ≡ length styles

module _ (node : ℕ) (style : List ℕ) (styles : List ℕ) (one : length style ≡ style_words) (there : node < items styles) where
  -- what the host has of it
  pub copy_takes : (before : Outcome) (h : Heard) (loan : Loan) {has : Outcome} → WithLength styles before → PreviewTakes node style styles before h loan has
      → Takes (with_style styles node style) before h (loan_over node style loan) has
  copy_takes before h own long (TakesBy.lent_own c) =
      TakesBy.lent_own (c ∙ preview_reply_is_the_copys before.step.state h.reply h.surfaced node style (own_slices styles before) one there)
  copy_takes before h (other slices) long (TakesBy.lent_other {left = left} c) =
      subst (λ (step : Step). Takes (with_style styles node style) before h (other (over_copy node style slices)) (outcome step before.layouts before.working before.unclaimed before.tally))
      (sym (ap (λ (x : Outcome). x.step) (same_reply before.step.state h.reply h.surfaced node style styles slices one there long)) ∙ sym (ap (λ (x : Outcome). x.step) c))
      (TakesBy.lent_other {left = replied before.step.state h.reply h.surfaced (over_copy node style slices)} refl)

  pub takes_length : (before : Outcome) (h : Heard) (loan : Loan) {has : Outcome} → WithLength styles before → PreviewTakes node style styles before h loan has
      → WithLength styles has
  takes_length before h own long (TakesBy.lent_own c) =
      ap (λ (x : Outcome). x.step.state.opened.extents.styles) c
      ∙ ap (λ (o : Opened). o.extents.styles) (preview_reply_opened before.step.state h.reply h.surfaced node style (own_slices styles before)) ∙ long
  takes_length before h (other slices) long (TakesBy.lent_other c) =
      ap (λ (x : Outcome). x.step.state.opened.extents.styles) c
      ∙ ap (λ (o : Opened). o.extents.styles) (preview_reply_opened before.step.state h.reply h.surfaced node style slices) ∙ long

  refused_over : {asked before : Outcome} → WithLength styles asked → PreviewRefusedSince node style styles asked before
      → RefusedSince (with_style styles node style) asked before × WithLength styles before
  refused_over long RefusedBy.none = (RefusedBy.none, long)
  refused_over long (RefusedBy.more {before = before} t earlier c r) =
      let b = refused_over long earlier in
      (RefusedBy.more (turn_over node style t) b.0 (copy_takes before t.heard t.loan b.1 c) r, takes_length before t.heard t.loan b.1 c)

-- ---- so the preview is a run

module _ (node : ℕ) (style : List ℕ) (o : Opening) (candidates : List ℕ) (lent : Lent) where
  with_one : {turns : List Turn} {has : Outcome} → Previews node style o candidates lent turns has → (length style ≡ style_words) × (node < items lent.styles)
  with_one (RunBy.opening c n) = opened_with o candidates node style lent (subst (λ (x : Outcome). is_err x.step.answer ≡ false) c n)
  with_one (RunBy.reply t earlier c l) = with_one earlier

  over_opened : {has : Outcome} → length style ≡ style_words → node < items lent.styles → PreviewOpens node style o candidates lent has → has ≡ opened o candidates (over_copy node style lent)
  over_opened one there c = c ∙ preview_opening_is_the_copys o candidates node style lent one there

  with_length : {turns : List Turn} {has : Outcome} → length style ≡ style_words → node < items lent.styles → Previews node style o candidates lent turns has
      → WithLength lent.styles has
  with_length one there (RunBy.opening c n) =
      ap (λ (x : Outcome). x.step.state.opened.extents.styles) (over_opened one there c)
      ∙ ap (λ (e : Extents). e.styles) (opening_extents o candidates (over_copy node style lent)) ∙ (copy_is_as_long lent.styles node style).0
  with_length one there (RunBy.reply {before = before} t earlier c l) =
      takes_length node style lent.styles one there before t.heard t.loan (with_length one there earlier) c

  lends_over : (loan : Loan) (has : Outcome) → Lends loan has.step.answer → Lends (loan_over node style loan) has.step.answer
  lends_over own has l = l
  lends_over (other slices) has l = l

  over_run : {turns : List Turn} {has : Outcome} → length style ≡ style_words → node < items lent.styles → Previews node style o candidates lent turns has
      → Run o candidates (over_copy node style lent) (map (turn_over node style) turns) has
  over_run one there (RunBy.opening c n) = RunBy.opening (over_opened one there c) n
  over_run one there (RunBy.reply {turns = turns} {before = before} {has = has} t earlier c l) =
      subst (λ (ts : List Turn). Run o candidates (over_copy node style lent) ts has) (sym (map-append (turn_over node style) turns (t ∷ [])))
      (RunBy.reply (turn_over node style t) (over_run one there earlier)
      (copy_takes node style lent.styles one there before t.heard t.loan (with_length one there earlier) c)
      (lends_over t.loan has l))

pub preview_is_a_run : PreviewIsARun
preview_is_a_run node style o candidates lent turns has calls =
    let w = with_one node style o candidates lent calls in
    over_run node style o candidates lent w.0 w.1 calls

pub preview_equals_straight_run : PreviewEqualsStraightRun
preview_equals_straight_run node style o candidates lent turns has calls =
    equals_straight_run o candidates (over_copy node style lent) (map (turn_over node style) turns) has (preview_is_a_run node style o candidates lent turns has calls)

pub preview_laid_out_as_asked : PreviewLaidOutAsAsked
preview_laid_out_as_asked node style o candidates lent turns asked before has calls input told refused overflow surfaced c n =
    let w = with_one node style o candidates lent calls in
    let long = with_length node style o candidates lent w.0 w.1 calls in
    let r = refused_over node style lent.styles w.0 w.1 long refused in
    laid_out_as_asked o candidates (over_copy node style lent) (map (turn_over node style) turns) asked before has
    (preview_is_a_run node style o candidates lent turns asked calls) input told r.0 overflow surfaced
    (copy_takes node style lent.styles w.0 w.1 before (record { reply = LaidOut overflow; surfaced = surfaced }) own r.1 c)
    n

-- ---- what a finished preview is asked

module _ (node : ℕ) (style styles : List ℕ) (has : Outcome) where
  finished_alike : (b : Bool)
      → finished_verdict has.step.state (slices (with_style styles node style) has.layouts has.working has.unclaimed) b
      ≡ finished_verdict has.step.state (slices styles has.layouts has.working has.unclaimed) b
  unfolding finished_verdict bad_slices bad_table other_lengths bad_candidate
  finished_alike b = rw ((copy_is_as_long styles node style).0, (copy_is_as_long styles node style).1) refl

pub preview_is_asked_by_the_table : PreviewIsAskedByTheTable
unfolding reached drawn draw_verdict touched
preview_is_asked_by_the_table node style styles has place before = (
  rw (finished_alike node style styles has (leb has.step.state.counts.filled.working place)) refl,
  rw (finished_alike node style styles has (not (eqb (length before) has.step.state.counts.filled.working))) refl,
  rw (finished_alike node style styles has (not (eqb (length before) (touch_width * has.step.state.counts.filled.working)))) refl,
)
