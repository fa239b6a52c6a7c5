-- A finished run passes the tests before a part's own; one of whole quarter pixels passes every test of `reach`. A run goes by its opening's
-- container. Assumes nothing.
use Prim.Native.Nat.{ℕ, ◌+◌, ◌*◌, ◌/◌, ◌≤◌, ◌<◌}
use native.Mathlib.Omega.{arith}
use mathlib.Core.Bool.{Bool, true, false, not, ◌||◌}
use mathlib.Core.List.{List, [], ◌∷◌, map, foldl}
use mathlib.Core.Path.{◌≡◌, refl, sym, ap, ◌∙◌, subst}
use lib.Dec.{lit≤, eqb}
use lib.ListN.{length, get_or}
use borrow.Author.Tests.{eqb-true, eq-eqb, not-false, le-ltb, lt-leb}
use Rattle.std.specs.Prelude.{Option, IsOk, None, is_err, Float}
use Rattle.util.proofs.Floats.{no}
use Rattle.geometry.specs.declared.Point.{Point}
use Rattle.geometry.specs.declared.Rect.{Rect}
use Rattle.style.specs.declared.ContainingBlockClaims.{ContainingBlockClaims}
use Rattle.tree.specs.declared.layout.Layout.{Layout}
use Rattle.tree.specs.declared.layout.OofCandidate.{OofCandidate}
use Rattle.records.specs.Records.{written}
use Rattle.records.proofs.Laws.{written_length}
use Rattle.tree_record.specs.Candidate.{candidate_width}
use Rattle.tree_record.specs.Layout.{layout_width, layout_words}
use Rattle.style_record.specs.Record.{items}
use Rattle.sweep.specs.Sweep.{candidates_in, moved, keep}
use Rattle.sweep.proofs.Steps.{kept_moved, appended_length}
use Rattle.sweep.proofs.Listed.{IsBelow}
use Rattle.oof_box.specs.declared.question.Stage.{Stage}
use Rattle.oof_box.specs.declared.question.Reply.{Reply}
use Rattle.oof_resolve.specs.declared.ContainingBlock.{ContainingBlock}
use Rattle.pixels.specs.Pixels.{all_accepted}
use Rattle.run.specs.declared.Counts.{Counts}
use Rattle.run.specs.declared.Extents.{Extents}
use Rattle.run.specs.declared.Opened.{Opened}
use Rattle.run.specs.declared.Opening.{Opening}
use Rattle.run.specs.declared.State.{State}
use Rattle.run.specs.declared.Step.{Step}
use Rattle.run.specs.Call.{Slices, Lent, Outcome, slices_of}
use Rattle.run.specs.Call as call
use Rattle.run.specs.Refusals as test
use Rattle.run.specs.Refusals.{bad_slices, other_lengths, bad_tally, other_extents, bad_candidate, ragged, lent_by}
use Rattle.run.specs.Run.{claims_of, container_of, extents_of, asking, finishing, proceeding, begun, opened, opening_verdict, reply_verdict, measured_on, laid_out, replied}
use Rattle.run.specs.Straight.{Box}
use Rattle.run.specs.Theorems.{laid_into, laid_count, laid_so_far, Loan, own, other, Turn, next, next_with, turned, AllLend, called}
use Rattle.run.proofs.Refusals.{refused_in}
use Rattle.run.proofs.Straight.{straight_run}
use Rattle.std.proofs.lemmas.Bool.{or_parts, or_from}
use Rattle.run.proofs.Ways.{NextWay, asks, ends, next_way, OpeningWay, begins, turned_down, opening_way, ReplyWay, measures, lays_out, reply_way, passed}
use Rattle.util_exact.proofs.Exact.{eighths}
use Rattle.util_exact.proofs.Quarters.{quarters_exact}
use Rattle.mirror_run.specs.Quarter.{AreaInQuarters}
use Rattle.mirror_run.specs.Runs.{layout_of_box}
use Rattle.mirror_run.proofs.Claimed.{below_there, front_good}
use Rattle.mirror_run.proofs.Lists.{nobody, first_by, each_at, each_kept}
use Rattle.mirror_run.proofs.Unread.{taken_all}
use Rattle.mirror_run.proofs.Verdicts.{OpeningPassed, opening_passed, reply_passed, same_slices}
use Rattle.pixels_laws.proofs.Accepted.{exact_accepted}
use Rattle.pixels_laws.proofs.Box.{LayoutIn}
use Rattle.pixels_laws.proofs.Overflow.{RectIn}
use Rattle.pixels_laws.proofs.Run.{RunIn, run_in}
use Rattle.finished.specs.Finished.{finished_verdict}
use Rattle.reach.specs.Reach.{box_reached, reached}
use Rattle.reach_laws.specs.Laws.{ContainerStays, QuartersAreAnswered, told_of}
use Rattle.reach_laws.proofs.Course.{Goes, begun_goes, turns_go}

-- ---- a box whose numbers are whole eighths

pub box_answered : (c : ContainingBlock) → AreaInQuarters c.area → (r : Rect Float) → RectIn r → (l : Layout) → LayoutIn l → IsOk (box_reached c r l)
unfolding box_reached all_accepted
box_answered c area r k l h =
    rw (
      exact_accepted (lit≤ tt) h.x.1,
      exact_accepted (lit≤ tt) h.y.1,
      exact_accepted (lit≤ tt) (eighths h.size.width.l),
      exact_accepted (lit≤ tt) (eighths h.size.height.l),
      exact_accepted (lit≤ tt) (eighths (quarters_exact area.x)),
      exact_accepted (lit≤ tt) (eighths (quarters_exact area.y)),
      exact_accepted (lit≤ tt) (eighths (quarters_exact area.width)),
      exact_accepted (lit≤ tt) (eighths (quarters_exact area.height)),
      exact_accepted (lit≤ tt) k.left.l,
      exact_accepted (lit≤ tt) k.right.l,
      exact_accepted (lit≤ tt) k.top.l,
      exact_accepted (lit≤ tt) k.bottom.l,
    )
    refl

-- ---- the lists have room for what they hold, by their lengths at the opening

record Holds (e : Extents) (s : State) : Type 0 where
  extents : s.opened.extents ≡ e
  working : candidate_width * s.counts.filled.working ≤ e.working
  unclaimed : candidate_width * s.counts.filled.unclaimed ≤ e.unclaimed

module _ (e : Extents) where
  proceeding_holds : (styles working : List ℕ) (run : Opened) (counts : Counts) (overflow : Rect Float) → run.extents ≡ e → candidate_width * counts.filled.working ≤ e.working
      → candidate_width * counts.filled.unclaimed ≤ e.unclaimed
      → Holds e (proceeding styles working run counts overflow).state
  unfolding asking finishing
  proceeding_holds styles working run counts overflow d h k = go (next_way styles working run counts overflow)
    where
      go : NextWay styles working run counts overflow → Holds e (proceeding styles working run counts overflow).state
      go (asks l f) = subst (λ (step : Step). Holds e step.state) (sym f) (record { extents = d; working = h; unclaimed = k })
      go (ends l f) = subst (λ (step : Step). Holds e step.state) (sym f) (record { extents = d; working = h; unclaimed = k })

  -- an accepted reply's slices are as long as at the opening
  lengths_kept_lem : (s : State) (reply : Reply) (surfaced : List ℕ) (l : Lent) → s.opened.extents ≡ e → reply_verdict s reply surfaced l ≡ test.accepted
      → (length l.working ≡ e.working) × (length l.unclaimed ≡ e.unclaimed)
  unfolding reply_verdict other_lengths
  lengths_kept_lem s reply surfaced l d v =
      let extent = passed _ _ _ v in
      let x = s.opened.extents in
      let bad = (or_parts (bad_slices (slices_of l) || bad_tally l || other_extents x l) (ragged candidate_width (lent_by reply surfaced)) extent.0).0 in
      let extents = (or_parts (bad_slices (slices_of l) || bad_tally l) (other_extents x l) bad).1 in
      let others = (or_parts (other_lengths x (slices_of l)) (not (eqb (length l.tally) x.tally)) extents).0 in
      let same =
      last_two (eqb (length l.styles) x.styles) (eqb (length l.layouts) x.layouts) (eqb (length l.working) x.working) (eqb (length l.unclaimed) x.unclaimed) others in (
        eqb-true (length l.working) x.working same.0 ∙ ap (λ (e : Extents). e.working) d,
        eqb-true (length l.unclaimed) x.unclaimed same.1 ∙ ap (λ (e : Extents). e.unclaimed) d,
      )
    where
      last_two : (a b c d : Bool) → (not a || not b || not c || not d) ≡ false → (c ≡ true) × (d ≡ true)
      last_two false b c d e = no {b = true} refl e
      last_two true false c d e = no {b = true} refl e
      last_two true true false d e = no {b = true} refl e
      last_two true true true d e = (refl, not-false d e)

  reply_holds : (s : State) (reply : Reply) (surfaced : List ℕ) (l : Lent) → Holds e s → Holds e (replied s reply surfaced l).step.state
  unfolding measured_on asking laid_out
  reply_holds s reply surfaced l h = go (reply_way s reply surfaced l)
    where
      room : (by : ContainingBlockClaims) (list : Bool) (shift : Option (Point Float)) (given : List ℕ) (held n : ℕ) → given ≡ surfaced
          → candidate_width * (held + length (keep by list (candidates_in given))) ≤ n
          → candidate_width * (held + length (keep by list (map (moved shift) (candidates_in surfaced)))) ≤ n
      room by list shift given held n d k = rw (kept_moved by list shift (candidates_in surfaced), ← d) k

      go : ReplyWay s reply surfaced l → Holds e (replied s reply surfaced l).step.state
      go (turned_down r f) = subst (λ (x : Outcome). Holds e x.step.state) (sym f) h
      go (measures replies v t f) = subst (λ (x : Outcome). Holds e x.step.state) (sym f) (record { extents = h.extents; working = h.working; unclaimed = h.unclaimed })
      go (lays_out overflow v t f) =
          let p = reply_passed s reply surfaced l v in
          let long = lengths_kept_lem s reply surfaced l h.extents v in
          let all = taken_all s reply surfaced t in
          subst (λ (x : Outcome). Holds e x.step.state) (sym f)
          (proceeding_holds l.styles _ s.opened _ _ h.extents
          (room s.opened.claims true _ (lent_by reply surfaced) s.counts.filled.working e.working all (subst (λ (n : ℕ). candidate_width * (s.counts.filled.working + length (keep s.opened.claims true (candidates_in (lent_by reply surfaced)))) ≤ n) long.0 p.room.0))
          (room s.opened.claims false _ (lent_by reply surfaced) s.counts.filled.unclaimed e.unclaimed all (subst (λ (n : ℕ). candidate_width * (s.counts.filled.unclaimed + length (keep s.opened.claims false (candidates_in (lent_by reply surfaced)))) ≤ n) long.1 p.room.1)))

  turn_holds : (styles : List ℕ) (x : Outcome) (t : Turn) → Holds e x.step.state → Holds e (turned styles x t).step.state
  unfolding next
  turn_holds styles x t h = go t.loan
    where
      go : (l : Loan) → Holds e (next_with styles x t.heard l).step.state
      go own = reply_holds x.step.state t.heard.reply t.heard.surfaced _ h
      go (other lent) = reply_holds x.step.state t.heard.reply t.heard.surfaced lent h

  turns_hold : (styles : List ℕ) (x : Outcome) (ts : List Turn) → Holds e x.step.state → Holds e (foldl (turned styles) x ts).step.state
  turns_hold styles x [] h = h
  turns_hold styles x (t ∷ ts) h = turns_hold styles (turned styles x t) ts (turn_holds styles x t h)

begun_holds : (o : Opening) (candidates : List ℕ) (lent : Lent) → OpeningPassed o candidates lent → Holds (extents_of lent) (begun o candidates lent).step.state
unfolding begun
begun_holds o candidates lent p = proceeding_holds (extents_of lent) lent.styles _ _ _ _ refl p.room.0 p.room.1

-- ---- the slices stay as long

laid_length : (ws : List ℕ) (bs : List Box) → length (laid_into ws bs) ≡ length ws
unfolding laid_into
laid_length ws [] = refl
laid_length ws (b ∷ bs) =
    laid_length (written ws (layout_width * b.candidate.node) (layout_words b.layout)) bs ∙ written_length ws (layout_width * b.candidate.node) (layout_words b.layout)

-- no slice is of another length than itself
own_lengths : (lent : Lent) → other_lengths (extents_of lent) (slices_of lent) ≡ false
unfolding other_lengths
own_lengths lent = or_from _ _ (or_from _ _ (or_from _ _ (itself (length lent.styles)) (itself (length lent.layouts))) (itself (length lent.working))) (itself (length lent.unclaimed))
  where
    itself : (n : ℕ) → not (eqb n n) ≡ false
    itself n = ap not (eq-eqb n n refl)

-- ---- a finished run

module _ (o : Opening) (candidates : List ℕ) (lent : Lent) (turns : List Turn) where
  abbrev has : Outcome
  has = called o candidates lent turns

  -- what it left, as it would be lent
  abbrev left : Lent
  left = call.lent lent.styles has.layouts has.working has.unclaimed has.tally

  abbrev slices : Slices
  slices = slices_of left

  lengths_same : extents_of left ≡ extents_of lent → has.step.state.opened.extents ≡ extents_of lent → other_lengths has.step.state.opened.extents slices ≡ false
  lengths_same long h = ap (λ (e : Extents). other_lengths e slices) (h ∙ sym long) ∙ own_lengths left

  slices_fine : opening_verdict o candidates lent ≡ test.accepted → bad_slices (slices_of lent) ≡ false
  unfolding opening_verdict
  slices_fine v =
      let extent = (passed _ _ _ (passed _ _ _ v).1).0 in
      let bad = (or_parts (bad_slices (slices_of lent) || bad_tally lent) (ragged candidate_width candidates) extent).0 in
      (or_parts (bad_slices (slices_of lent)) (bad_tally lent) bad).0

  -- the tests that come before a part's own, `own-test` being what the part itself calls a bad extent
  pub tests_passed : is_err (opened o candidates lent).step.answer ≡ false → AllLend lent.styles (opened o candidates lent) turns
      → has.step.state.progress ≡ None
      → bad_candidate lent.styles has.working has.step.state.counts.filled.working ≡ false
      → (own-test : Bool) → own-test ≡ false
      → finished_verdict has.step.state slices own-test ≡ test.accepted
  unfolding finished_verdict test.◌when◌else◌
  tests_passed accepts lends f good own-test none = go (opening_way o candidates lent)
    where
      long : extents_of left ≡ extents_of lent
      long =
          let stands = straight_run o candidates lent turns accepts lends in
          rw (stands.layouts, stands.working, stands.unclaimed, stands.tally_length, laid_length lent.layouts, appended_length lent.working 0, appended_length lent.unclaimed 0) refl

      go : OpeningWay o candidates lent → finished_verdict has.step.state slices own-test ≡ test.accepted
      go (turned_down q e) = no (ap refused_in e) accepts
      go (begins v e) =
          let p = opening_passed o candidates lent v in
          let h = turns_hold (extents_of lent) lent.styles (opened o candidates lent) turns (subst (λ (x : Outcome). Holds (extents_of lent) x.step.state) (sym e) (begun_holds o candidates lent p)) in
          let w : length has.working ≡ length lent.working = ap (λ (e : Extents). e.working) long in
          let u : length has.unclaimed ≡ length lent.unclaimed = ap (λ (e : Extents). e.unclaimed) long in
          let hw = h.working in
          let hu = h.unclaimed in
          rw (
            same_slices left lent long ∙ slices_fine v,
            lengths_same long h.extents,
            none,
            f,
            le-ltb (length has.working / candidate_width) has.step.state.counts.filled.working (omega arith),
            le-ltb (length has.unclaimed / candidate_width) has.step.state.counts.filled.unclaimed (omega arith),
            good,
          )
          refl

  -- its records, under what `RunHasEdges` asks
  abbrev claims : List OofCandidate
  claims = keep (claims_of o) true (candidates_in candidates)

  module _ (p : OpeningPassed o candidates lent) (r : RunIn o candidates lent has) where
    nodes_there : (i : ℕ) → i < length claims → IsBelow (items lent.styles) (get_or claims i nobody)
    unfolding candidates_in
    nodes_there i l =
        (each_at
        (each_kept {R = λ (c c' : OofCandidate). (c ≡ c') × IsBelow (items lent.styles) c} (claims_of o) true (λ c c' r. ap (λ (c : OofCandidate). c.position) r.0)
        (first_by (length candidates / candidate_width) candidates candidates (λ i h. (refl, below_there (items lent.styles) candidates p.candidate i h)))) i l).1

    records_good : bad_candidate lent.styles has.working has.step.state.counts.filled.working ≡ false
    unfolding bad_candidate
    records_good = rw (r.working, r.filled) (ap not (front_good lent.working claims p.room.0 (items lent.styles) nodes_there))

pub quarters_are_answered : QuartersAreAnswered
unfolding reached
quarters_are_answered o candidates lent turns place area table quarter accepts lends heard f there = go (opening_way o candidates lent)
  where
    r : RunIn o candidates lent (called o candidates lent turns)
    r = run_in o candidates lent turns area table quarter accepts lends heard

    go : OpeningWay o candidates lent → IsOk (told_of place lent.styles (called o candidates lent turns))
    go (turned_down q e) = no (ap refused_in e) accepts
    go (begins v e) =
        let good = records_good o candidates lent turns (opening_passed o candidates lent v) r in
        let g = turns_go o lent.styles (opened o candidates lent) turns (subst (λ (x : Outcome). Goes o x.step.state) (sym e) (begun_goes o candidates lent)) in
        let all = g.all f in
        let begun : place < (called o candidates lent turns).step.state.counts.begun = omega arith in
        let laid : place < laid_so_far (called o candidates lent turns) = subst (λ (at : Option Stage). place < laid_count at (called o candidates lent turns).step.state.counts.begun) (sym f) begun in
        rw (tests_passed o candidates lent turns accepts lends f good _ (lt-leb (called o candidates lent turns).step.state.counts.filled.working place there), g.container)
        (box_answered (container_of o) area (called o candidates lent turns).step.state.overflow r.overflow (layout_of_box (called o candidates lent turns) place) (r.layouts place laid))

pub container_stays : ContainerStays
container_stays o candidates lent turns accepts = go (opening_way o candidates lent)
  where
    go : OpeningWay o candidates lent → (called o candidates lent turns).step.state.opened.container ≡ container_of o
    go (turned_down q e) = no (ap refused_in e) accepts
    go (begins v e) =
        (turns_go o lent.styles (opened o candidates lent) turns (subst (λ (x : Outcome). Goes o x.step.state) (sym e) (begun_goes o candidates lent))).container
