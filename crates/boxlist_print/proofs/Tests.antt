-- What is printed, by the tests in their order. A screen's slices are always of the right lengths and its lists have room, so the
-- opening's tests 2 and 5 pass. Assumes nothing.
use Prim.Native.Nat.{ℕ, zero, suc, ◌*◌, ◌/◌, ◌%◌, ◌≤◌}
use native.Mathlib.Omega.{arith}
use native.Mathlib.Nat.{zero-add}
use mathlib.Core.Path.{◌≡◌, refl, ap, ◌∙◌}
use mathlib.Core.Bool.{Bool, true, false, cond}
use mathlib.Core.List.{List, [], ◌∷◌}
use lib.ListN.{length, drop, replicate, length-replicate}
use borrow.Author.Tests.{le-leb, le-ltb, eq-eqb}
use Rattle.std.specs.Prelude.{Ok, Err, Result, is_err}
use Rattle.util.proofs.Floats.{no}
use Rattle.refusal.specs.declared.Refusal.{Refusal}
use Rattle.refusal.specs.declared.Refusal.TheVariants.{BadScreenLine}
use Rattle.screen_fields.specs.Format.{MAX_CANDIDATES}
use Rattle.screen.specs.Screen.{is_screen, item_count, header_of, styles_of, replies_of, candidates_of}
use Rattle.screen.proofs.Laws.{screen_size, screen_words}
use Rattle.style.specs.declared.ContainingBlockClaims.{ContainingBlockClaims}
use Rattle.style_record.specs.Record.{style_words, items}
use Rattle.tree.specs.declared.layout.OofCandidate.{OofCandidate}
use Rattle.records.specs.Records.{records, room}
use Rattle.tree_record.specs.Candidate.{candidate_width}
use Rattle.tree_record.specs.Layout.{layout_width}
use Rattle.sweep.specs.Sweep.{side, first_candidates, candidates_in, keep}
use Rattle.run.specs.declared.Opening.{Opening}
use Rattle.run.specs.declared.Answer.{Answer}
use Rattle.run.specs.declared.Answer.TheVariants.{Ask, Finish}
use Rattle.run.specs.Call.{Outcome, slices_of, slices}
use Rattle.run.specs.Refusals.{Verdict, accepted, refused, ◌when◌else◌, ragged, bad_table, bad_list, bad_slices, bad_tally, list_full}
use Rattle.run.specs.Run.{claims_of, none_filled, opening_verdict, begun, opened}
use Rattle.run.proofs.Refusals.{proceeding_accepts}
use Rattle.script.specs.Script.{played_out}
use Rattle.script.specs.Theorems.{is_finish}
use Rattle.script.proofs.Ends.{refused_opening_stays}
use Rattle.script.proofs.Finishes.{opened_finishes}
use Rattle.boxlist_print.specs.declared.Listing.{Listing}
use Rattle.boxlist_print.specs.declared.Listing.TheVariants.{Boxes, Verdicts}
use Rattle.boxlist_print.specs.Rows.{rows_at}
use Rattle.boxlist_print.specs.Printed.{list_words, finished_text, list_of, lent_for, opening_of, printed}
use Rattle.boxlist_print.specs.Laws.{verdict_of, Shows, list, verdicts, line, ListOrRefusal}
use Rattle.boxlist_print.proofs.Boxes.{rows_count}
use Rattle.boxlist_print.proofs.Room.{room_kept}

-- ---- test 2: the slices

module _ (styles : List ℕ) (n : ℕ) (e : length styles ≡ n * style_words) (h : n ≤ 128) where
  items_are : items styles ≡ n
  unfolding items
  items_are = rw e (omega arith)

  table_good : bad_table styles (replicate (n * layout_width) 0) ≡ false
  unfolding bad_table
  table_good =
      rw (items_are, e, le-ltb 1024 n (omega arith), length-replicate {A = ℕ} (n * layout_width) 0, eq-eqb (n * style_words % style_words) 0 (omega arith), eq-eqb (n * layout_width) (layout_width * n) (omega arith))
      refl

  slices_good : bad_slices (slices_of (lent_for styles n)) ≡ false
  unfolding bad_slices bad_list
  slices_good = rw table_good refl

  tally_good : bad_tally (lent_for styles n) ≡ false
  tally_good = rw (items_are, length-replicate {A = ℕ} n 0, eq-eqb n n refl) refl

-- ---- test 5: room

kept_few : (by : ContainingBlockClaims) (b : Bool) (cs : List OofCandidate) → length (keep by b cs) ≤ length cs
unfolding keep
kept_few by b [] = omega arith
kept_few by b (c ∷ cs) = go (side by b c.position) (kept_few by b cs)
  where
    go : (t : Bool) → length (keep by b cs) ≤ length cs → length (cond t (c ∷ keep by b cs) (keep by b cs)) ≤ suc (length cs)
    go true h = omega arith
    go false h = omega arith

count : (n : ℕ) (ws : List ℕ) → length (first_candidates n ws) ≡ n
unfolding first_candidates records
count zero ws = refl
count (suc n) ws = ap suc (count n (drop candidate_width ws))

room_for : (k : ℕ) → k ≤ 256 → room candidate_width (length {A = ℕ} (replicate list_words 0)) 0 k ≡ true
unfolding room
room_for k h = rw zero-add (le-leb k 256 h)

module _ (candidates : List ℕ) (m : ℕ) (e : length candidates ≡ m * candidate_width) (h : m ≤ 256) where
  few : (by : ContainingBlockClaims) (b : Bool) → length (keep by b (candidates_in candidates)) ≤ 256
  unfolding candidates_in
  few by b =
      fit (length (keep by b (first_candidates (length candidates / candidate_width) candidates))) (length (first_candidates (length candidates / candidate_width) candidates))
      (kept_few by b (first_candidates (length candidates / candidate_width) candidates))
      (count (length candidates / candidate_width) candidates ∙ ap (λ (k : ℕ). k / candidate_width) e)
    where
      fit : (k l : ℕ) → k ≤ l → l ≡ m * candidate_width / candidate_width → k ≤ 256
      fit k l g q = omega arith

  candidates_whole : ragged candidate_width candidates ≡ false
  candidates_whole = rw (e, eq-eqb (m * candidate_width % candidate_width) 0 (omega arith)) refl

  has_room : (by : ContainingBlockClaims) (styles : List ℕ) (n : ℕ) → list_full by (lent_for styles n) none_filled candidates ≡ false
  unfolding list_full
  has_room by styles n =
      rw (room_for (length (keep by true (candidates_in candidates))) (few by true), room_for (length (keep by false (candidates_in candidates))) (few by false)) refl

-- ---- so tests 1, 3 and 4 are left

module _ (text : List ℕ) (e : is_screen text ≡ true) where
  pub opening_tests_lem : opening_verdict (opening_of (header_of text)) (candidates_of text) (lent_for (styles_of text) (item_count text)) ≡ verdict_of text
  unfolding opening_verdict verdict_of ◌when◌else◌
  opening_tests_lem =
      let size = screen_size text e in
      let words = screen_words text in
      rw (
        e,
        slices_good (styles_of text) (item_count text) words.0 size.1,
        tally_good (styles_of text) (item_count text) words.0 size.1,
        candidates_whole (candidates_of text) _ words.2 size.2,
        has_room (candidates_of text) _ words.2 size.2 (claims_of (opening_of (header_of text))) (styles_of text) (item_count text),
      )
      refl

-- ---- a run's list, by the verdict of its opening

module _ (listing : Listing) (o : Opening) (replies candidates styles : List ℕ) (n : ℕ) where
  turned_down : (r : Refusal) → opening_verdict o candidates (lent_for styles n) ≡ refused r
      → Shows listing (refused r) (list_of listing styles (played_out o replies candidates (lent_for styles n)))
  unfolding opened list_of
  turned_down r e =
      rw (refused_opening_stays o replies candidates (lent_for styles n) r (rw e refl), e) (line r)

  pub begins_unrefused : opening_verdict o candidates (lent_for styles n) ≡ accepted → is_err (opened o candidates (lent_for styles n)).step.answer ≡ false
  unfolding opened begun
  begins_unrefused e = rw e (proceeding_accepts _ _ _ _ _)

  finished : (a : Result Answer Refusal) → (played_out o replies candidates (lent_for styles n)).step.answer ≡ a → is_finish a ≡ true
      → Shows listing accepted (list_of listing styles (played_out o replies candidates (lent_for styles n)))
  unfolding list_of
  finished (Ok (Ask q)) e h = no h refl
  finished (Ok (Finish f)) e h = rw e (by listing)
    where
      end : Outcome
      end = played_out o replies candidates (lent_for styles n)

      few : end.step.state.counts.filled.working ≤ MAX_CANDIDATES
      few = room_kept o replies candidates (lent_for styles n)

      by : (listing : Listing) → Shows listing accepted (finished_text listing end.step.state f.overflow (slices styles end.layouts end.working end.unclaimed))
      by Boxes = list (rows_at end.working end.step.state.counts.filled.working end.layouts) _ (rw rows_count few)
      by Verdicts = verdicts end.step.state _ few
  finished (Err r) e h = no h refl

  shown : (v : Verdict) → opening_verdict o candidates (lent_for styles n) ≡ v → Shows listing v (list_of listing styles (played_out o replies candidates (lent_for styles n)))
  shown (Ok tt) e = finished _ refl (opened_finishes o replies candidates (lent_for styles n) (begins_unrefused e))
  shown (Err r) e = turned_down r e

pub list_or_refusal : ListOrRefusal
list_or_refusal listing text = go (is_screen text) refl
  where
    go : (b : Bool) → is_screen text ≡ b → Shows listing (verdict_of text) (printed listing text)
    go true e =
        unfold printed in
        rw e (shown listing (opening_of (header_of text)) (replies_of text) (candidates_of text) (styles_of text) (item_count text) (verdict_of text) (opening_tests_lem text e))
    go false e = unfold printed verdict_of ◌when◌else◌ in rw e (line BadScreenLine)
