-- A run by C calls is the run of the definition: the words that a call leaves mean the state that the definition returns. Assumes nothing.
use Rattle.std.specs.Prelude.{Some, is_none, is_err, Float}
use Prim.Native.Nat.{ℕ, ◌+◌, ◌*◌, ◌/◌, ◌<◌, ◌≤◌}
use native.Mathlib.Nat.{lt-mul-div-succ}
use native.Mathlib.Omega.{arith}
use mathlib.Core.Bool.{true, false, not, ◌||◌}
use mathlib.Core.List.{List, [], ◌∷◌, map, foldl}
use mathlib.Core.Path.{◌≡◌, refl, sym, ap, subst, ◌∙◌}
use lib.Dec.{ltb, eqb, lit<}
use lib.ListN.{length}
use borrow.Author.Tests.{ltb-false, eqb-true, leb-true, not-false}
use Rattle.std.proofs.lemmas.Bool.{or_parts}
use Rattle.geometry.specs.declared.Rect.{Rect}
use Rattle.style.specs.declared.ContainingBlockClaims.{ContainingBlockClaims}
use Rattle.records.specs.Records.{room}
use Rattle.style_record.specs.Record.{style_words, items}
use Rattle.style_record.specs.Decode.{style_at}
use Rattle.tree_record.specs.Candidate.{candidate_width}
use Rattle.tree_record.specs.Laws.{FitsSize, FitsPoint, FitsRect}
use Rattle.tree_record.specs.Layout.{layout_width}
use Rattle.sweep.specs.Sweep.{candidates_in, keep}
use Rattle.sweep.specs.declared.Filled.{Filled}
use Rattle.sweep.proofs.Steps.{kept_moved}
use Rattle.oof_box.specs.Cut.{layout_after}
use Rattle.oof_box.specs.declared.question.Replies.{Replies}
use Rattle.oof_box.specs.declared.question.Reply.{Reply}
use Rattle.oof_box.specs.declared.question.Reply.TheVariants.{LaidOut}
use Rattle.oof_box.specs.declared.question.Taken.TheVariants.{Kept}
use Rattle.run.specs.Call.{Lent, Outcome, slices_of}
use Rattle.run.specs.Refusals.{accepted, ragged, bad_table, bad_list, bad_slices, other_lengths, bad_tally, other_extents, list_full, lent_by, wrong_counts}
use Rattle.run.specs.Run.{asking, finishing, proceeding, claims_of, none_filled, opening_verdict, closed, begun, opened, box_at_hand, taken_by, reply_verdict, measured_on, laid_out, replied}
use Rattle.run.specs.Theorems.{Asked, asked_at_opening, asked_with}
use Rattle.run.specs.declared.Counts.{Counts}
use Rattle.run.specs.declared.Extents.{Extents}
use Rattle.run.specs.declared.Opened.{Opened}
use Rattle.run.specs.declared.Opening.{Opening}
use Rattle.run.specs.declared.State.{State}
use Rattle.run.proofs.Ways.{NextWay, asks, ends, next_way, OpeningWay, begins, opening_way, ReplyWay, measures, lays_out, reply_way, passed, few_records, counted, laid_is}
use Rattle.run.proofs.Refusals.{measured_accepts, laid_accepts}
use Rattle.oof_c_words.specs.StateWords.{state_of}
use Rattle.oof_c_words.specs.Entry.{result_of, state_left, lent_in, opened_in_words, replied_in_words}
use Rattle.oof_c_words.specs.Laws.{Floats, InAWord, Counted, FitsReply, Short, OpeningIsKept, ReplyIsKept, Made, state_after, call, RunIsKept}
use Rattle.oof_c_words.proofs.Floats.{FitsReplies, zero_fits, none_fit, words_fit, kept_fit, union_fits, zeros_fit, added_fits}
use Rattle.oof_c_words.proofs.Laws.{state_back, refused_is_not}

-- ---- lengths that passed

-- so many records of so many words fit in a count of one word
records_in_a_word : (n : ℕ) → n / candidate_width ≤ 4096 → InAWord n
records_in_a_word n h = let g : n < candidate_width * (n / candidate_width + 1) = lt-mul-div-succ n (lit< tt) in omega (arith, g, h)

items_in_a_word : (n : ℕ) → n / style_words ≤ 1024 → InAWord n
items_in_a_word n h = let g : n < style_words * (n / style_words + 1) = lt-mul-div-succ n (lit< tt) in omega (arith, g, h)

record Small (l : Lent) : Type 0 where
  styles : InAWord (length l.styles)
  layouts : InAWord (length l.layouts)
  working : length l.working / candidate_width ≤ 4096
  unclaimed : length l.unclaimed / candidate_width ≤ 4096
  tally : InAWord (length l.tally)

small : (l : Lent) → bad_slices (slices_of l) || bad_tally l ≡ false → Small l
unfolding bad_slices bad_table items
small l e =
    let slices = or_parts (bad_slices (slices_of l)) (bad_tally l) e in
    let lists = or_parts (bad_table l.styles l.layouts || bad_list l.working) (bad_list l.unclaimed) slices.0 in
    let first = or_parts (bad_table l.styles l.layouts) (bad_list l.working) lists.0 in
    let laid = or_parts (ragged style_words l.styles || ltb 1024 (items l.styles)) (not (eqb (length l.layouts) (layout_width * items l.styles))) first.0 in
    let few = ltb-false 1024 (items l.styles) (or_parts (ragged style_words l.styles) (ltb 1024 (items l.styles)) laid.0).1 in
    let same = eqb-true (length l.layouts) (layout_width * items l.styles) (not-false _ laid.1) in
    let each = eqb-true (length l.tally) (items l.styles) (not-false _ slices.1) in
    record {
      styles = items_in_a_word (length l.styles) few;
      layouts = omega (arith, same, few);
      working = few_records l.working first.1;
      unclaimed = few_records l.unclaimed lists.1;
      tally = omega (arith, each, few);
    }

-- a state's lengths are those lent
record Same (e : Extents) (l : Lent) : Type 0 where
  styles : length l.styles ≡ e.styles
  layouts : length l.layouts ≡ e.layouts
  working : length l.working ≡ e.working
  unclaimed : length l.unclaimed ≡ e.unclaimed
  tally : length l.tally ≡ e.tally

same_lengths : (e : Extents) (l : Lent) → other_extents e l ≡ false → Same e l
unfolding other_lengths
same_lengths e l f =
    let each = or_parts (other_lengths e (slices_of l)) (not (eqb (length l.tally) e.tally)) f in
    let last = or_parts (not (eqb (length l.styles) e.styles) || not (eqb (length l.layouts) e.layouts) || not (eqb (length l.working) e.working)) (not (eqb (length l.unclaimed) e.unclaimed)) each.0 in
    let third = or_parts (not (eqb (length l.styles) e.styles) || not (eqb (length l.layouts) e.layouts)) (not (eqb (length l.working) e.working)) last.0 in
    let second = or_parts (not (eqb (length l.styles) e.styles)) (not (eqb (length l.layouts) e.layouts)) third.0 in
    record {
      styles = eqb-true (length l.styles) e.styles (not-false _ second.0);
      layouts = eqb-true (length l.layouts) e.layouts (not-false _ second.1);
      working = eqb-true (length l.working) e.working (not-false _ third.1);
      unclaimed = eqb-true (length l.unclaimed) e.unclaimed (not-false _ last.1);
      tally = eqb-true (length l.tally) e.tally (not-false _ each.1);
    }

record Lengths (e : Extents) : Type 0 where
  styles : InAWord e.styles
  layouts : InAWord e.layouts
  working : InAWord e.working
  unclaimed : InAWord e.unclaimed
  tally : InAWord e.tally

lengths_of_lem : (l : Lent) (e : Extents) → Small l → Same e l → Lengths e
lengths_of_lem l e n same =
    record {
      styles = rw same.styles at n.styles;
      layouts = rw same.layouts at n.layouts;
      working = rw same.working at (records_in_a_word (length l.working) n.working);
      unclaimed = rw same.unclaimed at (records_in_a_word (length l.unclaimed) n.unclaimed);
      tally = rw same.tally at n.tally;
    }

-- ---- a state whose floats fit and whose counts are small

record Whole (s : State) : Type 0 where
  floats : Floats s
  counts : Counted s

-- what the next box, or the finish, keeps
record Ready (run : Opened) (c : Counts) (joined : Rect Float) : Type 0 where
  size : FitsSize run.container.area.size
  offset : FitsPoint run.container.area.offset
  lengths : Lengths run.extents
  working : c.filled.working ≤ 4096
  unclaimed : c.filled.unclaimed ≤ 4096
  begun : c.begun ≤ c.filled.working
  answered : c.answered ≤ 12289
  overflow : FitsRect joined

whole_of : (s : State) → FitsReplies s.replies → Ready s.opened s.counts s.overflow → Whole s
whole_of s f r =
    record {
      floats =
          record {
            keyword_width = f.width;
            keyword_height = f.height;
            fill = f.fill;
            overflow = r.overflow;
            size = r.size;
            offset = r.offset;
          };
      counts =
          record {
            working = omega (arith, r.working);
            unclaimed = omega (arith, r.unclaimed);
            begun = omega (arith, r.begun, r.working);
            answered = omega (arith, r.answered);
            styles_lent = r.lengths.styles;
            layouts_lent = r.lengths.layouts;
            working_lent = r.lengths.working;
            unclaimed_lent = r.lengths.unclaimed;
            tally_lent = r.lengths.tally;
          };
    }

proceeding_whole : (styles working : List ℕ) (run : Opened) (c : Counts) (overflow : Rect Float) → Ready run c overflow
    → Whole (proceeding styles working run c overflow).state
unfolding asking finishing
proceeding_whole styles working run c overflow r = go (next_way styles working run c overflow)
  where
    go : NextWay styles working run c overflow → Whole (proceeding styles working run c overflow).state
    go (asks h e) =
        rw e
        (whole_of _ none_fit
        (record {
          size = r.size;
          offset = r.offset;
          lengths = r.lengths;
          working = r.working;
          unclaimed = r.unclaimed;
          begun = omega (arith, h);
          answered = r.answered;
          overflow = r.overflow;
        }))
    go (ends h e) = rw e (whole_of _ none_fit r)

-- ---- room that was found, in both lists

found : (by : ContainingBlockClaims) (l : Lent) (f : Filled) (cs : List ℕ) → list_full by l f cs ≡ false
    → (f.working + length (keep by true (candidates_in cs)) ≤ length l.working / candidate_width)
    × (f.unclaimed + length (keep by false (candidates_in cs)) ≤ length l.unclaimed / candidate_width)
unfolding list_full room
found by l f cs e =
    let inside = f.working + length (keep by true (candidates_in cs)) in
    let outside = f.unclaimed + length (keep by false (candidates_in cs)) in
    let both = or_parts _ _ e in (
      leb-true inside (length l.working / candidate_width) (not-false _ both.0),
      leb-true outside (length l.unclaimed / candidate_width) (not-false _ both.1),
    )

-- ---- an accepted opening

begun_whole : (o : Opening) (candidates : List ℕ) (l : Lent) → FitsSize o.area.size → FitsPoint o.area.offset
    → opening_verdict o candidates l ≡ accepted
    → Whole (begun o candidates l).step.state
unfolding begun opening_verdict
begun_whole o candidates l f g e =
    let extent = passed _ _ _ (passed _ _ _ e).1 in
    let full = (passed _ _ _ (passed _ _ _ (passed _ _ _ extent.1).1).1).0 in
    let n = small l (or_parts (bad_slices (slices_of l) || bad_tally l) _ extent.0).0 in
    let held = found (claims_of o) l none_filled candidates full in
    proceeding_whole _ _ _ _ _
    (record {
      size = f;
      offset = g;
      lengths = lengths_of_lem l _ n (record { styles = refl; layouts = refl; working = refl; unclaimed = refl; tally = refl });
      working = omega (arith, held.0, n.working);
      unclaimed = omega (arith, held.1, n.unclaimed);
      begun = omega arith;
      answered = omega arith;
      overflow = zeros_fit;
    })

-- ---- an accepted reply

record Past (s : State) (reply : Reply) (surfaced : List ℕ) (l : Lent) : Type 0 where
  lent : Small l
  lengths : Lengths s.opened.extents
  counts : wrong_counts l s.counts ≡ false
  room : list_full s.opened.claims l s.counts.filled (lent_by reply surfaced) ≡ false

past : (s : State) (reply : Reply) (surfaced : List ℕ) (l : Lent) → reply_verdict s reply surfaced l ≡ accepted → Past s reply surfaced l
unfolding reply_verdict
past s reply surfaced l e =
    let extent = passed _ _ _ e in
    let answer = passed _ _ _ extent.1 in
    let full = (passed _ _ _ (passed _ _ _ (passed _ _ _ answer.1).1).1).0 in
    let slices = or_parts (bad_slices (slices_of l) || bad_tally l) (other_extents s.opened.extents l) (or_parts (bad_slices (slices_of l) || bad_tally l || other_extents s.opened.extents l) _ extent.0).0 in
    let n = small l slices.0 in
    record {
      lent = n;
      lengths = lengths_of_lem l s.opened.extents n (same_lengths s.opened.extents l slices.1);
      counts = (or_parts (is_none (taken_by s reply)) (wrong_counts l s.counts) answer.0).1;
      room = full;
    }

replies_of_lem : (s : State) → Floats s → FitsReplies s.replies
replies_of_lem s f = record { width = f.keyword_width; height = f.keyword_height; fill = f.fill }

measured_whole : (s : State) (reply : Reply) (replies : Replies) (surfaced : List ℕ) (l : Lent) → Floats s → FitsReply reply → Past s reply surfaced l
    → taken_by s reply ≡ Some (Kept replies)
    → Whole (measured_on s replies l).step.state
unfolding measured_on asking
measured_whole s reply replies surfaced l f g p t =
    let n = counted l s.counts p.counts in
    whole_of _ (kept_fit s reply replies (replies_of_lem s f) g t)
    (record {
      size = f.size;
      offset = f.offset;
      lengths = p.lengths;
      working = omega (arith, n.working, p.lent.working);
      unclaimed = omega (arith, n.unclaimed, p.lent.unclaimed);
      begun = n.begun;
      answered = omega (arith, n.answered, n.begun, n.working, p.lent.working);
      overflow = f.overflow;
    })

laid_whole : (s : State) (overflow : Rect Float) (surfaced : List ℕ) (l : Lent) → Floats s → Past s (LaidOut overflow) surfaced l
    → Whole (laid_out s overflow surfaced l).step.state
unfolding laid_out
laid_whole s overflow surfaced l f p =
    let n = counted l s.counts p.counts in
    let by = s.opened.claims in
    let box = box_at_hand l.working s.counts in
    let placed = layout_after s.opened.container (style_at l.styles box.node) box s.replies overflow in
    let shift = Some placed.layout.location in
    let held = found by l s.counts.filled surfaced p.room in
    let inside = kept_moved by true shift (candidates_in surfaced) in
    let outside = kept_moved by false shift (candidates_in surfaced) in
    proceeding_whole _ _ _ _ _
    (record {
      size = f.size;
      offset = f.offset;
      lengths = p.lengths;
      working = rw inside (omega (arith, held.0, p.lent.working));
      unclaimed = rw outside (omega (arith, held.1, p.lent.unclaimed));
      begun = omega (arith, n.begun);
      answered = omega (arith, n.answered, n.begun, n.working, p.lent.working);
      overflow = union_fits s.overflow placed.contribution f.overflow (added_fits s.opened.container (style_at l.styles box.node) box s.replies overflow);
    })

-- ---- an opening

refused_whole : (l : Lent) → Short l → Whole (closed l)
unfolding closed
refused_whole l n =
    whole_of _ none_fit
    (record {
      size = (zero_fits, zero_fits);
      offset = (zero_fits, zero_fits);
      lengths = record { styles = n.styles; layouts = n.layouts; working = n.working; unclaimed = n.unclaimed; tally = n.tally };
      working = omega arith;
      unclaimed = omega arith;
      begun = omega arith;
      answered = omega arith;
      overflow = zeros_fit;
    })

pub opening_is_kept : OpeningIsKept
unfolding opened_in_words result_of
opening_is_kept o candidates styles before k = let w = go (opening_way o candidates l) in state_back _ w.floats w.counts
  where
    l : Lent
    l = lent_in styles before

    go : OpeningWay o candidates l → Whole (opened o candidates l).step.state
    go (OpeningWay.turned_down r e) =
        rw e (refused_whole l (k.lengths (λ z. refused_is_not r (sym (ap (λ (left : Outcome). result_of left.step.answer) e) ∙ z))))
    go (begins v e) = rw e (begun_whole o candidates l k.size k.offset v)

-- ---- a reply

-- an accepted one writes its state, and these words mean it
means : (before : List ℕ) {o p : Outcome} → o ≡ p → is_err p.step.answer ≡ false → Whole p.step.state
    → state_of (state_left o.step before) ≡ o.step.state
unfolding state_left
means before {p = p} e f w =
    subst (λ (o : Outcome). state_of (state_left o.step before) ≡ o.step.state) (sym e) (rw f (state_back p.step.state w.floats w.counts))

pub reply_is_kept : ReplyIsKept
unfolding replied_in_words state_left
reply_is_kept reply surfaced styles before g = go (reply_way s reply surfaced l)
  where
    s : State
    s = state_of before.state

    l : Lent
    l = lent_in styles before

    go : ReplyWay s reply surfaced l → state_of (replied_in_words reply surfaced styles before).words.state ≡ (replied s reply surfaced l).step.state
    go (ReplyWay.turned_down q e) = subst (λ (o : Outcome). state_of (state_left o.step before.state) ≡ o.step.state) (sym e) refl
    go (measures replies v t e) =
        means before.state e (measured_accepts s replies l)
        (measured_whole s reply replies surfaced l (words_fit before.state) g (past s reply surfaced l v) t)
    go (lays_out overflow v t e) =
        means before.state e (laid_accepts s overflow surfaced l)
        (laid_whole s overflow surfaced l (words_fit before.state) (rw (laid_is s reply overflow t) at (past s reply surfaced l v)))

-- ---- a whole run

pub run_is_kept : RunIsKept
unfolding state_after asked_at_opening asked_with
run_is_kept o candidates styles before calls k =
    on calls _ (asked_at_opening o candidates (lent_in styles before)) (opening_is_kept o candidates styles before k)
  where
    on : (cs : List Made) (w : List ℕ) (a : Asked) → state_of w ≡ a.state → state_of (foldl state_after w cs) ≡ (foldl asked_with a (map call cs)).state
    on [] w a e = e
    on (c ∷ cs) w a e =
        on cs (state_after w c) (asked_with a (call c))
        (reply_is_kept c.reply c.surfaced c.lent.styles _ c.floats
        ∙ ap (λ (s : State). (replied s c.reply c.surfaced c.lent).step.state) e)
