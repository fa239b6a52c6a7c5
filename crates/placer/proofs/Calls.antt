-- What holds in a call that no test before that of room turned down. Assumes nothing.
use Rattle.std.specs.Prelude.{is_none}
use Prim.Native.Nat.{ℕ, zero, suc, ◌+◌, ◌*◌, ◌-◌, ◌/◌, ◌<◌, ◌≤◌}
use native.Mathlib.Omega.{arith}
use native.Mathlib.Nat.{mul-div-le}
use mathlib.Core.Bool.{true, false, not, ◌||◌}
use mathlib.Core.List.{List, [], ◌∷◌}
use mathlib.Core.Path.{◌≡◌, refl}
use lib.Dec.{eqb, ltb}
use lib.ListN.{length, get_or}
use borrow.Author.Tests.{eqb-true, ltb-false, not-false, le-leb}
use Rattle.std.proofs.lemmas.Bool.{or_parts}
use Rattle.records.specs.Records.{records, room, good_records}
use Rattle.style_record.specs.Record.{style_words, items}
use Rattle.tree_record.specs.Candidate.{candidate_width, candidate_kinds}
use Rattle.tree_record.specs.Layout.{layout_width}
use Rattle.sweep.specs.Sweep.{first_candidates, candidates_in, keep}
use Rattle.oof_box.specs.declared.question.Reply.{Reply}
use Rattle.run.specs.Call.{Lent, slices_of}
use Rattle.run.specs.Refusals.{accepted, bad_table, bad_list, bad_slices, ragged, bad_tally, other_extents, lent_by, bad_candidate, bad_candidates, any_above, wrong_counts, list_full}
use Rattle.run.specs.Run.{box_at_hand, opening_verdict, reply_verdict, claims_of, none_filled, taken_by}
use Rattle.run.specs.declared.Opening.{Opening}
use Rattle.run.specs.declared.State.{State}
use Rattle.run.specs.declared.Counts.{Counts}
use Rattle.style.specs.declared.ContainingBlockClaims.{ContainingBlockClaims}
use Rattle.run.proofs.Ways.{few_records, Counted, counted}
use Rattle.placer_check.specs.Verdict.{then_room}
use Rattle.placer_check.proofs.Verdicts.{passed, room_number}
use Rattle.placer.specs.Entry.{AtHand, OneMoreFits, ReplyCleared}
use Rattle.sweep.proofs.Listed.{AllBelow}
use Rattle.placer.proofs.Nodes.{good_below, below_at, item_words_lem}

-- records that are not bad
pub fine : (styles list : List ℕ) (count : ℕ) → bad_candidate styles list count ≡ false → good_records (candidate_kinds (items styles)) list count ≡ true
unfolding bad_candidate
fine styles list count e = not-false _ e

-- ---- an opening

pub opening_nodes : (o : Opening) (candidates : List ℕ) (l : Lent)
    → opening_verdict o candidates l ≡ then_room accepted (list_full (claims_of o) l none_filled candidates)
    → AllBelow (items l.styles) (candidates_in candidates)
unfolding opening_verdict candidates_in
opening_nodes o candidates l e =
    let full = list_full (claims_of o) l none_filled candidates in
    let a = passed _ _ _ _ e (room_number 1 refl full) in
    let b = passed _ _ _ _ a.1 (room_number 2 refl full) in
    let c = passed _ _ _ _ b.1 (room_number 3 refl full) in
    let d = passed _ _ _ _ c.1 (room_number 4 refl full) in
    good_below (items l.styles) candidates (length candidates / candidate_width) (fine l.styles candidates (length candidates / candidate_width) d.0)

-- ---- a reply

pub record Passed (s : State) (reply : Reply) (surfaced : List ℕ) (l : Lent) : Type 0 where
  pub layouts : length l.layouts ≡ layout_width * items l.styles
  pub tally : length l.tally ≡ items l.styles
  pub few : length l.working / candidate_width ≤ 4096
  pub taken : is_none (taken_by s reply) ≡ false
  pub counts : wrong_counts l s.counts ≡ false
  pub listed : AllBelow (items l.styles) (first_candidates s.counts.filled.working l.working)
  pub brought : AllBelow (items l.styles) (candidates_in (lent_by reply surfaced))

pub table : (styles layouts : List ℕ) → bad_table styles layouts ≡ false → length layouts ≡ layout_width * items styles
unfolding bad_table
table styles layouts e =
    eqb-true _ _ (not-false _ (or_parts (ragged style_words styles || ltb 1024 (items styles)) (not (eqb (length layouts) (layout_width * items styles))) e).1)

pub reply_passed : (s : State) (reply : Reply) (surfaced : List ℕ) (l : Lent) → ReplyCleared s reply surfaced l → Passed s reply surfaced l
unfolding reply_verdict bad_slices candidates_in
reply_passed s reply surfaced l e =
    let full = list_full s.opened.claims l s.counts.filled (lent_by reply surfaced) in
    let a = passed _ _ _ _ e (room_number 2 refl full) in
    let b = passed _ _ _ _ a.1 (room_number 6 refl full) in
    let c = passed _ _ _ _ b.1 (room_number 3 refl full) in
    let d = passed _ _ _ _ c.1 (room_number 4 refl full) in
    let extents = or_parts (bad_slices (slices_of l) || bad_tally l || other_extents s.opened.extents l) (ragged candidate_width (lent_by reply surfaced)) a.0 in
    let both = or_parts (bad_slices (slices_of l) || bad_tally l) (other_extents s.opened.extents l) extents.0 in
    let slices = or_parts (bad_slices (slices_of l)) (bad_tally l) both.0 in
    let lists = or_parts (bad_table l.styles l.layouts || bad_list l.working) (bad_list l.unclaimed) slices.0 in
    record {
      layouts = table l.styles l.layouts (or_parts (bad_table l.styles l.layouts) (bad_list l.working) lists.0).0;
      tally = eqb-true (length l.tally) (items l.styles) (not-false _ slices.1);
      few = few_records l.working (or_parts (bad_table l.styles l.layouts) (bad_list l.working) lists.0).1;
      taken = (or_parts (is_none (taken_by s reply)) (wrong_counts l s.counts) b.0).0;
      counts = (or_parts (is_none (taken_by s reply)) (wrong_counts l s.counts) b.0).1;
      listed = good_below (items l.styles) l.working s.counts.filled.working (fine l.styles l.working s.counts.filled.working (or_parts (bad_candidate l.styles l.working s.counts.filled.working) (bad_candidates l.styles (lent_by reply surfaced)) d.0).0);
      brought = good_below (items l.styles) (lent_by reply surfaced) (length (lent_by reply surfaced) / candidate_width) (fine l.styles (lent_by reply surfaced) (length (lent_by reply surfaced) / candidate_width) (or_parts (bad_candidate l.styles l.working s.counts.filled.working) (bad_candidates l.styles (lent_by reply surfaced)) d.0).1);
    }

-- the box at hand has its record and its style
pub at_hand : (s : State) (reply : Reply) (surfaced : List ℕ) (l : Lent) → Passed s reply surfaced l → AtHand l.styles l.working s.counts.begun
unfolding items
at_hand s reply surfaced l p =
    let n = counted l s.counts p.counts in
    record {
      first = n.first;
      listed = item_words_lem candidate_width (length l.working) (length l.working / candidate_width) (s.counts.begun - 1) (mul-div-le (length l.working) candidate_width) (omega (arith, n.first, n.begun, n.working));
      styled = item_words_lem style_words (length l.styles) (items l.styles) _ (mul-div-le (length l.styles) style_words) (below_at (items l.styles) s.counts.filled.working l.working (s.counts.begun - 1) p.listed (omega (arith, n.first, n.begun)));
    }

-- a reply that surfaces nothing finds room
pub none_full : (by : ContainingBlockClaims) (l : Lent) (c : Counts) → Counted l c → list_full by l c.filled [] ≡ false
unfolding list_full room candidates_in first_candidates keep records
none_full by l c n =
    rw (le-leb (c.filled.working + 0) (length l.working / candidate_width) (omega (arith, n.working)), le-leb (c.filled.unclaimed + 0) (length l.unclaimed / candidate_width) (omega (arith, n.unclaimed)))
    refl

-- and its layout has a place
pub layout_room : (s : State) (reply : Reply) (surfaced : List ℕ) (l : Lent) → Passed s reply surfaced l
    → layout_width * (box_at_hand l.working s.counts).node + layout_width ≤ length l.layouts
unfolding box_at_hand
layout_room s reply surfaced l p =
    let n = counted l s.counts p.counts in
    item_words_lem layout_width (length l.layouts) (items l.styles) _ (omega (arith, p.layouts))
    (below_at (items l.styles) s.counts.filled.working l.working (s.counts.begun - 1) p.listed (omega (arith, n.first, n.begun)))

-- no word of the tally is above the count of questions
within_most : (most : ℕ) (ws : List ℕ) (i : ℕ) → i < length ws → any_above most ws ≡ false → get_or ws i 0 ≤ most
within_most most [] i h e = absurd (omega arith)
within_most most (w ∷ ws) zero h e = ltb-false most w (or_parts (ltb most w) (any_above most ws) e).0
within_most most (w ∷ ws) (suc i) h e = within_most most ws i (omega arith) (or_parts (ltb most w) (any_above most ws) e).1

-- the count of questions stays small
pub few_answered : (s : State) (reply : Reply) (surfaced : List ℕ) (l : Lent) → Passed s reply surfaced l → s.counts.answered ≤ 12288
few_answered s reply surfaced l p =
    let n = counted l s.counts p.counts in
    omega (arith, n.answered, n.begun, n.working, p.few)

-- its item has a word of the tally, which stays small
pub item_counted : (s : State) (reply : Reply) (surfaced : List ℕ) (l : Lent) → Passed s reply surfaced l
    → OneMoreFits l.tally (box_at_hand l.working s.counts).node
unfolding box_at_hand
item_counted s reply surfaced l p =
    let n = counted l s.counts p.counts in
    let below = below_at (items l.styles) s.counts.filled.working l.working (s.counts.begun - 1) p.listed (omega (arith, n.first, n.begun)) in
    let here = (box_at_hand l.working s.counts).node in
    let within : here < length l.tally = (rw p.tally below) in
    (within, small s.counts.answered (get_or l.tally here 0) (few_answered s reply surfaced l p) (within_most s.counts.answered l.tally here within n.tally))
  where
    small : (m n : ℕ) → m ≤ 12288 → n ≤ m → n < 4294967295
    small m n h k = omega arith
