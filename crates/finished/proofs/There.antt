-- What is there where the tests are passed: the filled records, and the record and the layout of the box at a place. Assumes nothing.
use Prim.Native.Nat.{ℕ, zero, suc, ◌+◌, ◌*◌, ◌/◌, ◌≤◌, ◌<◌}
use native.Mathlib.Omega.{arith}
use native.Mathlib.Nat.{add-zero, mul-div-le, mul-le-mul_left, le_trans, not-suc-le-zero, le_of_suc-le-suc, suc-add}
use mathlib.Core.Bool.{Bool, true, false, ◌||◌}
use mathlib.Core.List.{List, [], ◌∷◌, map}
use mathlib.Core.Path.{◌≡◌, refl, ap, ◌∙◌}
use lib.Dec.{leb, ltb, lit<}
use lib.Seq.{length-take-le}
use lib.ListN.{length, get_or, take, drop, drop_of_length-le}
use borrow.Author.Tests.{leb-false, ltb-false}
use Rattle.std.specs.Prelude.{is_some}
use Rattle.std.proofs.lemmas.Bool.{or_parts}
use Rattle.std.proofs.lemmas.List.{length-map, get_or-map}
use Rattle.records.specs.Records.{record_at, records, good_records}
use Rattle.records.proofs.Laws.{word_of_record, record_of_records, length_records}
use Rattle.style_record.specs.Record.{items}
use Rattle.tree.specs.declared.layout.OofCandidate.{OofCandidate}
use Rattle.tree_record.specs.Candidate.{candidate_width, candidate_kinds, candidate_of}
use Rattle.tree_record.specs.Layout.{layout_width}
use Rattle.sweep.specs.Sweep.{first_candidates}
use Rattle.run.specs.Call.{Slices}
use Rattle.run.specs.Refusals.{accepted, bad_table, bad_list, bad_slices, other_lengths, above_lists}
use Rattle.run.specs.declared.State.{State}
use Rattle.run.proofs.Ways.{few_records}
use Rattle.placer_check.proofs.Verdicts.{passed}
use Rattle.placer.proofs.Calls.{fine, table}
use Rattle.placer.proofs.Nodes.{good_below, below_at, item_words_lem}
use Rattle.finished.specs.Finished.{finished_verdict}

-- the node of a record, as the code reads it
pub node_is : (working : List ℕ) (place : ℕ) → (candidate_of (record_at candidate_width working place)).node ≡ get_or working (candidate_width * place) 0
unfolding candidate_of
node_is working place = word_of_record candidate_width working place 0 (lit< tt) ∙ ap (λ (k : ℕ). get_or working k 0) (add-zero (candidate_width * place))

-- ---- the first n candidates of a list, by what each says

-- they are n
pub many_said : (f : OofCandidate → ℕ) (n : ℕ) (ws : List ℕ) → length (map f (first_candidates n ws)) ≡ n
unfolding first_candidates records
many_said f zero ws = refl
many_said f (suc n) ws = ap suc (many_said f n (drop candidate_width ws))

-- and each is that of its record
pub one_said : (f : OofCandidate → ℕ) (n : ℕ) (ws : List ℕ) (p d : ℕ) → p < n → get_or (map f (first_candidates n ws)) p d ≡ f (candidate_of (record_at candidate_width ws p))
unfolding first_candidates
one_said f n ws p d h =
    let rs = records candidate_width n ws in
    let there : p < length rs = rw (length_records candidate_width n ws) h in
    get_or-map f (map candidate_of rs) p (candidate_of []) d (rw (length-map rs candidate_of) there)
    ∙ ap f (get_or-map candidate_of rs p [] (candidate_of []) there ∙ ap candidate_of (record_of_records candidate_width n ws p h))

-- of the whole records of a list, as the code has them, the first n
pub first_there : (n : ℕ) (ws : List ℕ) (rs : List (List ℕ)) → rs ≡ records candidate_width (length ws / candidate_width) ws → n ≤ length ws / candidate_width
    → (n ≤ length rs) × (length (take n rs) ≡ n)
first_there n ws rs e h =
    let there : n ≤ length rs = rw (e, length_records candidate_width (length ws / candidate_width) ws) h in
    (there, length-take-le n rs there)

-- say, by a word of each, the same
pub first_said : (f : OofCandidate → ℕ) (k : ℕ) → ((r : List ℕ) → get_or r k 0 ≡ f (candidate_of r))
    → (n : ℕ) (ws : List ℕ) (rs : List (List ℕ)) → rs ≡ records candidate_width (length ws / candidate_width) ws → n ≤ length ws / candidate_width
    → map (λ (r : List ℕ). get_or r k 0) (take n rs) ≡ map f (first_candidates n ws)
unfolding first_candidates records
first_said f k same n ws rs e h = rw e (ap (map (λ (r : List ℕ). get_or r k 0)) (front n (length ws / candidate_width) ws h) ∙ by_word (records candidate_width n ws))
  where
    front : (n m : ℕ) (ws : List ℕ) → n ≤ m → take n (records candidate_width m ws) ≡ records candidate_width n ws
    front zero m ws h = refl
    front (suc n) zero ws h = absurd (not-suc-le-zero h)
    front (suc n) (suc m) ws h = ap (λ (l : List (List ℕ)). take candidate_width ws ∷ l) (front n m (drop candidate_width ws) (le_of_suc-le-suc h))

    by_word : (rs : List (List ℕ)) → map (λ (r : List ℕ). get_or r k 0) rs ≡ map f (map candidate_of rs)
    by_word [] = refl
    by_word (r ∷ rs) = ap (λ (v : ℕ). v ∷ map (λ (r : List ℕ). get_or r k 0) rs) (same r) ∙ ap (λ (l : List ℕ). f (candidate_of r) ∷ l) (by_word rs)

-- ---- what a word of each of some records says, from record i on, as a pass over them goes

pub said_step : (k : ℕ) (rs : List (List ℕ)) (i : ℕ) → i < length rs
    → drop i (map (λ (r : List ℕ). get_or r k 0) rs) ≡ get_or (get_or rs i []) k 0 ∷ drop (i + 1) (map (λ (r : List ℕ). get_or r k 0) rs)
said_step k [] i h = absurd (not-suc-le-zero h)
said_step k (r ∷ rs) zero h = refl
said_step k (r ∷ rs) (suc i) h = rw (suc-add i 1) (said_step k rs i (le_of_suc-le-suc h))

pub said_end : (k : ℕ) (rs : List (List ℕ)) (i : ℕ) → length rs ≤ i → drop i (map (λ (r : List ℕ). get_or r k 0) rs) ≡ []
said_end k rs i h = drop_of_length-le (map (λ (r : List ℕ). get_or r k 0) rs) (rw (length-map rs (λ (r : List ℕ). get_or r k 0)) h)

-- ---- where the tests are passed, whatever the part itself calls a bad extent

module _ (s : State) (l : Slices) (other : Bool) (e : finished_verdict s l other ≡ accepted) where
  slices_fine : (bad_slices l ≡ false) × (other ≡ false)
  unfolding finished_verdict
  slices_fine =
      let a = passed _ _ _ _ e refl in
      let b = or_parts (bad_slices l || other_lengths s.opened.extents l) other a.0 in
      ((or_parts (bad_slices l) (other_lengths s.opened.extents l) b.0).0, b.1)

  pub not_other : other ≡ false
  not_other = slices_fine.1

  lists_fine : bad_table l.styles l.layouts || bad_list l.working ≡ false
  unfolding bad_slices
  lists_fine = (or_parts (bad_table l.styles l.layouts || bad_list l.working) (bad_list l.unclaimed) slices_fine.0).0

  table_fine : length l.layouts ≡ layout_width * items l.styles
  table_fine = table l.styles l.layouts (or_parts (bad_table l.styles l.layouts) (bad_list l.working) lists_fine).0

  few : length l.working / candidate_width ≤ 4096
  few = few_records l.working (or_parts (bad_table l.styles l.layouts) (bad_list l.working) lists_fine).1

  pub within : s.counts.filled.working ≤ length l.working / candidate_width
  unfolding finished_verdict
  within =
      let a = passed _ _ _ _ e refl in
      let b = passed _ _ _ _ a.1 refl in
      let above = (or_parts (is_some s.progress) (above_lists l.working l.unclaimed s.counts.filled) b.0).1 in
      ltb-false _ _ (or_parts (ltb (length l.working / candidate_width) s.counts.filled.working) (ltb (length l.unclaimed / candidate_width) s.counts.filled.unclaimed) above).0

  pub filled_few : s.counts.filled.working ≤ 4096
  filled_few = let h = few in let k = within in omega arith

  pub filled_there : candidate_width * s.counts.filled.working ≤ length l.working
  filled_there = le_trans (mul-le-mul_left candidate_width within) (mul-div-le (length l.working) candidate_width)

  pub filled_good : good_records (candidate_kinds (items l.styles)) l.working s.counts.filled.working ≡ true
  unfolding finished_verdict
  filled_good =
      let a = passed _ _ _ _ e refl in
      let b = passed _ _ _ _ a.1 refl in
      let c = passed _ _ _ _ b.1 refl in
      fine l.styles l.working s.counts.filled.working c.0

-- ---- where a place without a box is one

module _ (s : State) (l : Slices) (place : ℕ) (e : finished_verdict s l (leb s.counts.filled.working place) ≡ accepted) where
  pub box_is_filled : place < s.counts.filled.working
  box_is_filled = leb-false _ _ (not_other s l (leb s.counts.filled.working place) e)

  pub record_is_there : candidate_width * place + candidate_width ≤ length l.working
  record_is_there = item_words_lem candidate_width (length l.working) s.counts.filled.working place (filled_there s l _ e) box_is_filled

  pub layout_is_there : layout_width * (candidate_of (record_at candidate_width l.working place)).node + layout_width ≤ length l.layouts
  layout_is_there =
      let h = table_fine s l (leb s.counts.filled.working place) e in
      let good = good_below (items l.styles) l.working s.counts.filled.working (filled_good s l _ e) in
      item_words_lem layout_width (length l.layouts) (items l.styles) _ (omega (arith, h)) (below_at (items l.styles) s.counts.filled.working l.working place good box_is_filled)
