-- No scripted reply is refused, so a run that is opened comes to its finish. The reply's kind is its question's; the slices have the
-- opening's lengths, the styles its words; the working list holds the candidates that it checked; nothing is surfaced; the tally adds up to the
-- count, so that no word of it is above. And so the words of a finished run pass the tests of what reads it. Assumes nothing.
use Rattle.std.specs.Prelude.{Option, None, Some, is_none, is_some, unwrap_or, Result, Ok, Err, is_err, Float}
use Prim.Native.Nat.{ℕ, zero, suc, ◌+◌, ◌*◌, ◌/◌, ◌≤◌}
use native.Mathlib.Omega.{arith}
use native.Mathlib.Nat.{add-zero, zero-add, mul-le-mul_left, mul-div-le, le_trans}
use mathlib.Core.Logic.{◌⊎◌, inl, inr}
use mathlib.Core.Path.{◌≡◌, refl, sym, ap, ◌∙◌, subst}
use mathlib.Core.Bool.{Bool, true, false, cond, not, ◌||◌}
use mathlib.Core.List.{List, []}
use lib.ListN.{length, length-replicate}
use borrow.Author.Tests.{leb-true, le-leb, not-false, le-ltb, eq-eqb}
use Rattle.std.proofs.lemmas.Bool.{or_parts, or_from}
use Rattle.util.proofs.Floats.{no}
use Rattle.geometry.specs.Geometry.{both_present}
use Rattle.geometry.specs.declared.Rect.{Rect}
use Rattle.geometry.specs.declared.Size.{Size}
use Rattle.refusal.specs.declared.Refusal.{Refusal}
use Rattle.style.specs.declared.Style.{Style}
use Rattle.style_record.specs.Record.{items}
use Rattle.style_record.specs.Decode.{style_at}
use Rattle.records.specs.Records.{records, room, written, good_records, every}
use Rattle.records.proofs.Laws.{written_length}
use Rattle.tree.specs.declared.layout.OofCandidate.{OofCandidate}
use Rattle.tree_record.specs.Candidate.{candidate_width}
use Rattle.sweep.specs.Sweep.{first_candidates, candidates_in, keep, list_words, appended}
use Rattle.sweep.specs.declared.Filled.{Filled}
use Rattle.sweep.proofs.Steps.{appended_length}
use Rattle.oof_common.specs.declared.sizing_keyword.SizingKeywordResolution.{SizingKeywordResolution}
use Rattle.oof_common.specs.declared.sizing_keyword.SizingKeywordResolution.TheVariants.{Measure}
use Rattle.oof_resolve.specs.Resolved.{resolved_box}
use Rattle.oof_resolve.specs.declared.ContainingBlock.{ContainingBlock}
use Rattle.oof_box.specs.declared.question.Stage.{Stage}
use Rattle.oof_box.specs.Box.{size_keywords, keyword_stretch}
use Rattle.oof_box.specs.Cut.{no_replies, taken, keyword_asked, size_asked, is_first, stretched_by, asked_of, asked_after, sizing}
use Rattle.oof_box.specs.declared.question.Reply.{Reply}
use Rattle.oof_box.specs.declared.question.Reply.TheVariants.{Both, Width, Height, LaidOut}
use Rattle.oof_box.specs.declared.question.Replies.{Replies}
use Rattle.oof_box.specs.declared.question.Asked.{Asked}
use Rattle.oof_box.specs.declared.question.Taken.{Taken}
use Rattle.oof_box.specs.declared.question.Taken.TheVariants.{Kept, Laid}
use Rattle.run.specs.declared.Opening.{Opening}
use Rattle.run.specs.declared.State.{State}
use Rattle.run.specs.declared.Opened.{Opened}
use Rattle.run.specs.declared.Counts.{Counts}
use Rattle.run.specs.declared.Step.{Step}
use Rattle.run.specs.declared.Answer.{Answer}
use Rattle.run.specs.declared.Answer.TheVariants.{Ask, Finish}
use Rattle.run.specs.Call.{Slices, Lent, Outcome, slices_of}
use Rattle.run.specs.Call as call
use Rattle.run.specs.Refusals.{Verdict, accepted, ◌when◌else◌, ragged, bad_table, bad_list, bad_slices, other_lengths, bad_lent, bad_tally, other_extents, lent_by, bad_style, bad_candidate, bad_candidates, list_full, above_lists, wrong_counts}
use Rattle.run.specs.Conditions.{CountsAreWrong, WordIsAbove}
use Rattle.run.specs.Run.{box_at_hand, asking, finishing, proceeding, claims_of, container_of, extents_of, opening_verdict, begun, opened, taken_by, reply_verdict, measured_on, laid_out, replied}
use Rattle.run.specs.Theorems.{asked_at_opening, one_if_asked, next, AddsUp}
use Rattle.run.proofs.Ways.{NextWay, asks, ends, next_way, OpeningWay, begins, opening_way, passed, counted}
use Rattle.run.proofs.Charged.{charged_length}
use Rattle.run.proofs.Conditions.{counts_decided}
use Rattle.run.proofs.Sums.{opening_adds_up, reply_adds_up}
use Rattle.run.proofs.Decides.{Decides}
use Rattle.run.proofs.Questions.{three_questions_a_box}
use Rattle.placer.proofs.Calls.{none_full}
use Rattle.placer.proofs.Nodes.{good_below, keep_below}
use Rattle.script.specs.Script.{scripted_reply, played_by, played_on, played, played_out}
use Rattle.script.specs.Theorems.{is_finish, OpenedFinishes}
use Rattle.script.proofs.Ends.{open_in, stays, Reached, once, run_ends}
use Rattle.sweep.proofs.Listed.{listed_good}

-- ---- a scripted reply is of its question's kind

module _ (replies : List ℕ) where
  -- the reply to a question is taken at the stage at which it is asked
  abbrev Fits : Asked → Type 0
  Fits a = (r : Replies) → is_none (taken r a.stage (scripted_reply replies a.question)) ≡ false

  either : (b : Bool) (x y : Asked) → Fits x → Fits y → Fits (cond b x y)
  either true x y f g = f
  either false x y f g = g

  keyword_fits : (node : ℕ) (across down : Option SizingKeywordResolution) (known : Size (Option Float)) (stretch : Size Float) (later : Asked) → Fits later
      → Fits (unwrap_or (keyword_asked node across down known stretch) later)
  unfolding keyword_asked taken
  keyword_fits node (Some (Measure across)) (Some (Measure down)) known stretch later f = λ r. refl
  keyword_fits node (Some (Measure across)) _ known stretch later f = λ r. refl
  keyword_fits node _ (Some (Measure down)) known stretch later f = λ r. refl
  keyword_fits node _ _ known stretch later f = f

  asked_fits : (container : ContainingBlock) (style : Style) (candidate : OofCandidate) (kept : Replies) → Fits (asked_after container style candidate kept)
  unfolding asked_after asked_of size_asked taken
  asked_fits container style candidate kept =
      let box = resolved_box container style candidate in
      let keywords = size_keywords style box in
      let later : Fits (size_asked candidate.node (sizing style box keywords kept)) = either (is_some kept.fill || both_present (stretched_by (sizing style box keywords kept)).known) _ _ (λ r. refl) (λ r. refl) in
      either (is_first kept) _ _ (keyword_fits candidate.node keywords.width keywords.height box.size (keyword_stretch box) _ later) later

-- ---- an accepted opening

module _ (o : Opening) (candidates : List ℕ) (lent : Lent) where
  abbrev in_list : Bool → List OofCandidate
  in_list list = keep (claims_of o) list (candidates_in candidates)

  record Checked : Type 0 where
    slices : bad_slices (slices_of lent) ≡ false
    tally : bad_tally lent ≡ false
    style : bad_style lent.styles ≡ false
    working : length (in_list true) ≤ length lent.working / candidate_width
    unclaimed : length (in_list false) ≤ length lent.unclaimed / candidate_width
    listed : bad_candidate lent.styles (appended lent.working 0 (in_list true)) (length (in_list true)) ≡ false

  checked : opening_verdict o candidates lent ≡ accepted → Checked
  unfolding opening_verdict bad_candidate list_full room candidates_in
  checked e =
      let extent = passed _ _ _ (passed _ _ _ e).1 in
      let long = or_parts (bad_slices (slices_of lent)) (bad_tally lent) (or_parts _ (ragged candidate_width candidates) extent.0).0 in
      let style = passed _ _ _ extent.1 in
      let candidate = passed _ _ _ style.1 in
      let full = or_parts _ _ (passed _ _ _ candidate.1).0 in
      let inside = leb-true (0 + length (in_list true)) (length lent.working / candidate_width) (not-false _ full.0) in
      let outside = leb-true (0 + length (in_list false)) (length lent.unclaimed / candidate_width) (not-false _ full.1) in
      let fit : length (in_list true) ≤ length lent.working / candidate_width = omega (arith, inside) in
      record {
        slices = long.0;
        tally = long.1;
        style = style.0;
        working = fit;
        unclaimed = omega (arith, outside);
        listed =
            ap not
            (listed_good lent.working (in_list true)
            (le_trans (mul-le-mul_left candidate_width fit) (mul-div-le (length lent.working) candidate_width))
            (items lent.styles)
            (keep_below _ (claims_of o) true (candidates_in candidates) (good_below _ candidates _ (not-false _ candidate.0))));
      }

-- ---- a finished run, by its state and the words that it left: the tests of what reads it

pub record Passes (styles : List ℕ) (x : Outcome) : Type 0 where
  pub finish : is_finish x.step.answer ≡ true
  pub slices : bad_lent x.step.state.opened.extents (call.slices styles x.layouts x.working x.unclaimed) ≡ false
  pub progress : x.step.state.progress ≡ None
  pub counts : above_lists x.working x.unclaimed x.step.state.counts.filled ≡ false
  pub listed : bad_candidate styles x.working x.step.state.counts.filled.working ≡ false

-- ---- between two calls

-- no records are good records
none_bad : (styles list : List ℕ) → bad_candidate styles list 0 ≡ false
unfolding bad_candidate good_records every
none_bad styles list = rw (le-leb 0 (length list / candidate_width) (omega arith)) refl

past : (r : Refusal) {test : Bool} {rest : Verdict} → test ≡ false → rest ≡ accepted → r when test else rest ≡ accepted
unfolding ◌when◌else◌
past r d e = rw d e

fewer : {questions begun begun' answered : ℕ} → questions ≤ 3 * begun → questions ≡ answered + 1 → begun ≡ begun' → answered ≤ 3 * begun'
fewer a b c = omega (arith, a, b, c)

laid_length : (s : State) (overflow : Rect Float) (surfaced : List ℕ) (lent : Lent) → length (laid_out s overflow surfaced lent).layouts ≡ length lent.layouts
unfolding laid_out
laid_length s overflow surfaced lent = written_length lent.layouts _ _

-- the tally, too, adds up to the count as it did
played_adds_up : (replies styles : List ℕ) (x : Outcome) → AddsUp x → AddsUp (played_on replies styles x)
unfolding played_on next
played_adds_up replies styles x a = go x.step.answer
  where
    go : (b : Result Answer Refusal) → AddsUp (played_by b replies styles x)
    go (Ok (Ask q)) = reply_adds_up x (scripted_reply replies q) [] _ a refl
    go (Ok (Finish f)) = a
    go (Err r) = a

-- what decides a proposition that doesn't hold
decided : {b : Bool} {P : Type 0} → Decides b P → ¬ P → b ≡ false
decided {b = true} d n = absurd (n (d.holds refl))
decided {b = false} d n = refl

module _ (replies : List ℕ) (o : Opening) (candidates : List ℕ) (lent : Lent) (c : Checked o candidates lent) where
  abbrev working : List ℕ
  working = appended lent.working 0 (in_list o candidates lent true)

  abbrev unclaimed : List ℕ
  unclaimed = appended lent.unclaimed 0 (in_list o candidates lent false)

  abbrev run : Opened
  run = record { container = container_of o; claims = claims_of o; extents = extents_of lent }

  abbrev filled : Filled
  filled = record { working = length (in_list o candidates lent true); unclaimed = length (in_list o candidates lent false) }

  -- what a reply is lent
  abbrev lending : List ℕ → List ℕ → Lent
  lending layouts tally = call.lent lent.styles layouts working unclaimed tally

  -- what reads the run once it is finished
  abbrev reading : List ℕ → Slices
  reading layouts = call.slices lent.styles layouts working unclaimed

  lent_none : (given : Reply) → lent_by given [] ≡ []
  lent_none (Both s) = refl
  lent_none (Width w) = refl
  lent_none (Height h) = refl
  lent_none (LaidOut r) = refl

  module _ (layouts : List ℕ) (same : length layouts ≡ length lent.layouts) where
    lengths : (length working ≡ length lent.working) × (length unclaimed ≡ length lent.unclaimed)
    lengths = (appended_length lent.working 0 (in_list o candidates lent true), appended_length lent.unclaimed 0 (in_list o candidates lent false))

    slices_good : bad_slices (reading layouts) ≡ false
    unfolding bad_slices bad_table bad_list
    slices_good = rw (same, lengths.0, lengths.1) c.slices

    lengths_kept_lem : other_lengths (extents_of lent) (reading layouts) ≡ false
    unfolding other_lengths
    lengths_kept_lem =
        rw (
          eq-eqb (length lent.styles) (length lent.styles) refl,
          eq-eqb (length layouts) (length lent.layouts) same,
          eq-eqb (length working) (length lent.working) lengths.0,
          eq-eqb (length unclaimed) (length lent.unclaimed) lengths.1,
        )
        refl

    module _ (tally : List ℕ) (long : length tally ≡ length lent.tally) (counts : Counts) (held : counts.filled ≡ filled) (first : 1 ≤ counts.begun) (most : counts.begun ≤ filled.working) (few : counts.answered ≤ 3 * counts.begun) (none : ¬ WordIsAbove (lending layouts tally) counts) where
      tally_good : bad_tally (lending layouts tally) ≡ false
      tally_good = rw long c.tally

      extents_kept : other_extents (extents_of lent) (lending layouts tally) ≡ false
      extents_kept = or_from _ _ lengths_kept_lem (rw (eq-eqb (length tally) (length lent.tally) long) refl)

      fits_working : counts.filled.working ≤ length working / candidate_width
      fits_working = rw (held, lengths.0) c.working

      fits_unclaimed : counts.filled.unclaimed ≤ length unclaimed / candidate_width
      fits_unclaimed = rw (held, lengths.1) c.unclaimed

      begun_few : counts.begun ≤ counts.filled.working
      begun_few = rw held most

      none_wrong : ¬ (CountsAreWrong (lending layouts tally) counts ⊎ WordIsAbove (lending layouts tally) counts)
      none_wrong (inl (inl h)) = omega (arith, h, fits_working)
      none_wrong (inl (inr (inl h))) = omega (arith, h, fits_unclaimed)
      none_wrong (inl (inr (inr (inl h)))) = omega (arith, h, first)
      none_wrong (inl (inr (inr (inr (inl h))))) = omega (arith, h, begun_few)
      none_wrong (inl (inr (inr (inr (inr h))))) = omega (arith, h, few)
      none_wrong (inr h) = none h

      counts_good : wrong_counts (lending layouts tally) counts ≡ false
      counts_good = decided (counts_decided (lending layouts tally) counts) none_wrong

      room_left : list_full (claims_of o) (lending layouts tally) counts.filled [] ≡ false
      room_left = none_full (claims_of o) (lending layouts tally) counts (counted (lending layouts tally) counts counts_good)

      -- no test turns a reply of the right kind down
      accepts : (progress : Option Stage) (kept : Replies) (overflow : Rect Float) (given : Reply)
          → let s : State = record { progress = progress; replies = kept; counts = counts; overflow = overflow; opened = run } in
          is_none (taken_by s given) ≡ false → reply_verdict s given [] (lending layouts tally) ≡ accepted
      unfolding reply_verdict
      accepts progress kept overflow given right =
          let whole : ragged candidate_width (lent_by given []) ≡ false = rw (lent_none given) refl in
          let listed : bad_candidate lent.styles working counts.filled.working ≡ false = rw held c.listed in
          let surfaced : bad_candidates lent.styles (lent_by given []) ≡ false = rw (lent_none given) (none_bad lent.styles []) in
          let left : list_full (claims_of o) (lending layouts tally) counts.filled (lent_by given []) ≡ false = rw (lent_none given) room_left in
          past _ (or_from _ _ (or_from _ _ (or_from _ _ slices_good tally_good) extents_kept) whole)
          (past _ (or_from _ _ right counts_good) (past _ c.style (past _ (or_from _ _ listed surfaced) (past _ left refl))))

  -- a question is open, asked by the words of the opening and by what was replied to the box at hand
  record Going (x : Outcome) : Type 0 where
    counts : Counts
    overflow : Rect Float
    kept : Replies
    step : x.step ≡ asking lent.styles working run counts overflow kept
    layouts : length x.layouts ≡ length lent.layouts
    lists : (x.working ≡ working) × (x.unclaimed ≡ unclaimed)
    held : counts.filled ≡ filled
    first : 1 ≤ counts.begun
    most : counts.begun ≤ filled.working
    tally : length x.tally ≡ length lent.tally
    adds : AddsUp x
    reached : Reached (asked_at_opening o candidates lent) x (counts.answered + 1)

  -- no box is left
  record Ended (x : Outcome) : Type 0 where
    counts : Counts
    overflow : Rect Float
    step : x.step ≡ finishing run counts overflow
    layouts : length x.layouts ≡ length lent.layouts
    lists : (x.working ≡ working) × (x.unclaimed ≡ unclaimed)
    held : counts.filled ≡ filled

  data Alive (x : Outcome) : Type 0 where
    going : Going x → Alive x
    ended : Ended x → Alive x

  ended_finish : (x : Outcome) → Ended x → is_finish x.step.answer ≡ true
  unfolding finishing
  ended_finish x e = ap (λ (s : Step). is_finish s.answer) e.step

  ended_passes : (x : Outcome) → Ended x → Passes lent.styles x
  unfolding finishing
  ended_passes x e =
      let long = lengths x.layouts e.layouts in
      record {
        finish = ended_finish x e;
        slices = rw (e.step, e.lists.0, e.lists.1) (or_from _ _ (slices_good x.layouts e.layouts) (lengths_kept_lem x.layouts e.layouts));
        progress = ap (λ (s : Step). s.state.progress) e.step;
        counts =
            rw (
              e.step,
              e.lists.0,
              e.lists.1,
              e.held,
              long.0,
              long.1,
              le-ltb (length lent.working / candidate_width) filled.working c.working,
              le-ltb (length lent.unclaimed / candidate_width) filled.unclaimed c.unclaimed,
            )
            refl;
        listed = rw (e.step, e.lists.0, e.held) c.listed;
      }

  -- the next box, or the finish
  proceeds : (x : Outcome) (counts : Counts) (overflow : Rect Float) → x.step ≡ proceeding lent.styles working run counts overflow
      → length x.layouts ≡ length lent.layouts
      → (x.working ≡ working) × (x.unclaimed ≡ unclaimed)
      → counts.filled ≡ filled
      → length x.tally ≡ length lent.tally
      → AddsUp x
      → (open_in x ≡ 1 → Reached (asked_at_opening o candidates lent) x (counts.answered + 1))
      → Alive x
  unfolding asking finishing
  proceeds x counts overflow step layouts lists held tally adds reached = go (next_way lent.styles working run counts overflow)
    where
      go : NextWay lent.styles working run counts overflow → Alive x
      go (asks h e) =
          going (record {
            counts = record { filled = counts.filled; begun = counts.begun + 1; answered = counts.answered };
            overflow = overflow;
            kept = no_replies;
            step = step ∙ e;
            layouts = layouts;
            lists = lists;
            held = held;
            first = omega arith;
            most = omega (arith, h, ap (λ (f : Filled). f.working) held);
            tally = tally;
            adds = adds;
            reached = reached (ap (λ (s : Step). one_if_asked s.answer) (step ∙ e));
          })
      go (ends h e) = ended (record { counts = counts; overflow = overflow; step = step ∙ e; layouts = layouts; lists = lists; held = held })

  -- one scripted reply
  module _ (x : Outcome) (g : Going x) where
    abbrev played_on_lem : Outcome
    played_on_lem = played_on replies lent.styles x

    abbrev box : OofCandidate
    box = box_at_hand working g.counts

    abbrev asked : Asked
    asked = asked_after run.container (style_at lent.styles box.node) box g.kept

    abbrev state : State
    state = record { progress = Some asked.stage; replies = g.kept; counts = g.counts; overflow = g.overflow; opened = run }

    abbrev given : Reply
    given = scripted_reply replies asked.question

    is_reply : played_on_lem ≡ replied state given [] (lending x.layouts x.tally)
    unfolding played_on next asking
    is_reply = rw (g.step, g.lists.0, g.lists.1) refl

    few : g.counts.answered ≤ 3 * g.counts.begun
    unfolding asking
    few =
        fewer (three_questions_a_box o candidates lent g.reached.calls) g.reached.questions
        (ap (λ (s : State). s.counts.begun) (g.reached.state ∙ ap (λ (t : Step). t.state) g.step))

    none : ¬ WordIsAbove (lending x.layouts x.tally) g.counts
    unfolding asking
    none =
        subst (λ (c : Counts). ¬ WordIsAbove (lending x.layouts x.tally) c) (ap (λ (s : Step). s.state.counts) g.step)
        (g.adds.none_above (lending x.layouts x.tally) refl)

    right : is_none (taken_by state given) ≡ false
    unfolding taken_by
    right = asked_fits replies run.container (style_at lent.styles box.node) box g.kept g.kept

    verdict : reply_verdict state given [] (lending x.layouts x.tally) ≡ accepted
    verdict = accepts x.layouts g.layouts x.tally g.tally g.counts g.held g.first g.most few none (Some asked.stage) g.kept g.overflow given right

    reached : open_in played_on_lem ≡ 1 → Reached (asked_at_opening o candidates lent) played_on_lem (g.counts.answered + 1 + 1)
    unfolding asking
    reached e =
        subst (Reached (asked_at_opening o candidates lent) played_on_lem) (ap (λ (n : ℕ). g.counts.answered + 1 + n) e)
        (once replies lent.styles (asked_at_opening o candidates lent) g.reached (ap (λ (t : Step). one_if_asked t.answer) g.step))

    -- a size was replied
    kept_on : (r : Replies) → played_on_lem ≡ measured_on state r (lending x.layouts x.tally) → Alive played_on_lem
    unfolding measured_on asking
    kept_on r e =
        let step = ap (λ (y : Outcome). y.step) e in
        going (record {
          counts = record { filled = g.counts.filled; begun = g.counts.begun; answered = g.counts.answered + 1 };
          overflow = g.overflow;
          kept = r;
          step = step;
          layouts = ap (λ (y : Outcome). length y.layouts) e ∙ g.layouts;
          lists = (ap (λ (y : Outcome). y.working) e, ap (λ (y : Outcome). y.unclaimed) e);
          held = g.held;
          first = g.first;
          most = g.most;
          tally = ap (λ (y : Outcome). length y.tally) e ∙ charged_length x.tally _ ∙ g.tally;
          adds = played_adds_up replies lent.styles x g.adds;
          reached = reached (ap (λ (t : Step). one_if_asked t.answer) step);
        })

    -- the box was laid out
    laid_on : (overflow : Rect Float) → played_on_lem ≡ laid_out state overflow [] (lending x.layouts x.tally) → Alive played_on_lem
    unfolding laid_out candidates_in first_candidates records keep list_words written
    laid_on overflow e =
        proceeds played_on_lem _ _ (ap (λ (y : Outcome). y.step) e)
        (ap (λ (y : Outcome). length y.layouts) e ∙ laid_length state overflow [] (lending x.layouts x.tally) ∙ g.layouts)
        (ap (λ (y : Outcome). y.working) e, ap (λ (y : Outcome). y.unclaimed) e)
        (rw (add-zero g.counts.filled.working, add-zero g.counts.filled.unclaimed) g.held)
        (ap (λ (y : Outcome). length y.tally) e ∙ charged_length x.tally _ ∙ g.tally)
        (played_adds_up replies lent.styles x g.adds)
        reached

    takes : (t : Option Taken) → taken_by state given ≡ t → is_none t ≡ false → Alive played_on_lem
    unfolding replied
    takes None e f = no refl f
    takes (Some (Kept r)) e f = kept_on r (is_reply ∙ rw (verdict, e) refl)
    takes (Some (Laid overflow)) e f = laid_on overflow (is_reply ∙ rw (verdict, e) refl)

    goes_on : Alive played_on_lem
    goes_on = takes (taken_by state given) refl right

  -- so many
  finish_stays : (x : Outcome) → is_finish x.step.answer ≡ true → open_in x ≡ 0
  finish_stays x e = go x.step.answer e
    where
      go : (a : Result Answer Refusal) → is_finish a ≡ true → one_if_asked a ≡ 0
      go (Ok (Ask q)) e = no e refl
      go (Ok (Finish f)) e = refl
      go (Err r) e = no e refl

  alive : (n : ℕ) (x : Outcome) → Alive x → Alive (played n replies lent.styles x)
  unfolding played
  alive zero x a = a
  alive (suc n) x (going g) = alive n (played_on replies lent.styles x) (goes_on x g)
  alive (suc n) x (ended e) = alive n (played_on replies lent.styles x) (subst Alive (sym (stays replies lent.styles x (finish_stays x (ended_finish x e)))) (ended e))

  opened_alive : opened o candidates lent ≡ begun o candidates lent → AddsUp (opened o candidates lent) → Alive (opened o candidates lent)
  unfolding begun asked_at_opening
  opened_alive e adds =
      proceeds (opened o candidates lent) _ _ (ap (λ (x : Outcome). x.step) e) (ap (λ (x : Outcome). length x.layouts) e)
      (ap (λ (x : Outcome). x.working) e, ap (λ (x : Outcome). x.unclaimed) e)
      (rw (zero-add, zero-add) refl)
      (ap (λ (x : Outcome). length x.tally) e ∙ length-replicate {A = ℕ} (length lent.tally) 0)
      adds
      (λ one. record { calls = []; questions = one; state = refl })

-- ---- a run that is opened finishes

pub opened_passes : (o : Opening) (replies candidates : List ℕ) (lent : Lent) → is_err (opened o candidates lent).step.answer ≡ false
    → Passes lent.styles (played_out o replies candidates lent)
unfolding played_out asking
opened_passes o replies candidates lent e = go (opening_way o candidates lent)
  where
    go : OpeningWay o candidates lent → Passes lent.styles (played_out o replies candidates lent)
    go (OpeningWay.turned_down r d) = no (ap (λ (x : Outcome). is_err x.step.answer) d) e
    go (begins v d) = at_end (alive replies o candidates lent c _ (opened o candidates lent) (opened_alive replies o candidates lent c d (opening_adds_up o candidates lent e)))
      where
        c : Checked o candidates lent
        c = checked o candidates lent v

        at_end : Alive replies o candidates lent c (played_out o replies candidates lent) → Passes lent.styles (played_out o replies candidates lent)
        at_end (going g) = absurd (run_ends o replies candidates lent _ (ap (λ (t : Step). t.answer) g.step))
        at_end (ended f) = ended_passes replies o candidates lent c (played_out o replies candidates lent) f

pub opened_finishes : OpenedFinishes
opened_finishes o replies candidates lent e = (opened_passes o replies candidates lent e).finish
