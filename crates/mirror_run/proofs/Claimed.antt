-- The candidates of an opening and their images: each is ready to be laid out, and goes to the same list. Assumes nothing.
use borrow.Author.Rules.{rules}
use Prim.Native.Nat.{ℕ, suc, ◌+◌, ◌*◌, ◌/◌, ◌<◌, ◌≤◌}
use native.Mathlib.Omega.{arith}
use mathlib.Core.Path.{◌≡◌, sym, subst}
use mathlib.Core.Bool.{Bool, true, false}
use mathlib.Core.List.{List, [], ◌∷◌, map}
use lib.Dec.{lit<}
use lib.ListN.{length, get_or}
use borrow.Author.Tests.{leb-false}
use Rattle.style.specs.declared.ContainingBlockClaims.{ContainingBlockClaims}
use Rattle.tree.specs.declared.layout.OofCandidate.{OofCandidate}
use Rattle.tree.specs.declared.layout.OofPositioningArea.{OofPositioningArea}
use Rattle.records.specs.Records.{whole, record_at, records, wrong, breaks, good_records}
use Rattle.records.proofs.Laws.{word_of_record, good_is_unbroken}
use Rattle.tree_record.specs.Candidate.{candidate_width, layer_word, layer_count, candidate_kinds, candidate_of}
use Rattle.tree_record.proofs.Laws.{decoded_fits}
use Rattle.sweep.specs.Sweep.{first_candidates, candidates_in, keep, appended}
use Rattle.sweep.specs.Laws.{AllFit}
use Rattle.sweep.proofs.Laws.{kept_fits}
use Rattle.sweep.proofs.Listed.{IsBelow, AllBelow, listed_good}
use Rattle.run.proofs.Worlds.{list_back}
use Rattle.oof_resolve.specs.declared.ContainingBlock.{ContainingBlock}
use Rattle.mirror_box.specs.Quarter.{QuarterContainer, QuarterCandidate}
use Rattle.mirror_box.specs.Mirrored.{CandidateImage}
use Rattle.mirror_box.proofs.Law.{image_is_exact}
use Rattle.mirror_run.specs.Image.{image_candidates}
use Rattle.mirror_run.specs.Quarter.{QuarterCandidates}
use Rattle.mirror_run.specs.Runs.{Each, none, one, Unclaimed, surfaced, image}
use Rattle.mirror_run.proofs.Lists.{nobody, first_by}
use Rattle.mirror_run.proofs.Candidates.{count_kept, decoded_image, decoded_position, record_words_lem}
use Rattle.mirror_run.proofs.Linked.{Ready}

-- ---- claimed alike, whatever the words

abbrev pub SamePosition : OofCandidate → OofCandidate → Type 0
SamePosition c c' = c.position ≡ c'.position

module _ (area : OofPositioningArea) (ws : List ℕ) {R : OofCandidate → OofCandidate → Type 0} where
  -- a slice and its image, record by record
  by_records : ((i : ℕ) → i < length ws / candidate_width → R (candidate_of (record_at candidate_width ws i)) (candidate_of (record_at candidate_width (image_candidates area ws) i)))
      → Each R (candidates_in ws) (candidates_in (image_candidates area ws))
  unfolding candidates_in
  by_records g = rw (count_kept area ws) (first_by (length ws / candidate_width) ws (image_candidates area ws) g)

pub same_positions : (area : OofPositioningArea) (ws : List ℕ) → Each SamePosition (candidates_in ws) (candidates_in (image_candidates area ws))
same_positions area ws =
    by_records area ws
    (λ i h. decoded_position area (record_at candidate_width ws i) (record_at candidate_width (image_candidates area ws) i) (record_words_lem area ws i h))

-- ---- ready

module _ (n : ℕ) (ws : List ℕ) (g : good_records (candidate_kinds n) ws (length ws / candidate_width) ≡ true) (i : ℕ) (h : i < length ws / candidate_width) where
  word_good : (k : ℕ) → k < candidate_width → wrong (get_or (candidate_kinds n) k whole) (get_or (record_at candidate_width ws i) k 0) ≡ false
  unfolding breaks
  word_good k l = search (rules, good_is_unbroken, word_of_record)

  pub node_there : (candidate_of (record_at candidate_width ws i)).node < n
  unfolding candidate_of wrong
  node_there = leb-false n (get_or (record_at candidate_width ws i) 0 0) (word_good 0 (lit< tt))

  -- and its layer
  pub below_there : IsBelow n (candidate_of (record_at candidate_width ws i))
  unfolding candidate_of wrong
  below_there = (node_there, leb-false layer_count (get_or (record_at candidate_width ws i) layer_word 0) (word_good layer_word (lit< tt)))

  pub edge_there : get_or (record_at candidate_width ws i) 5 0 < 3
  unfolding wrong
  edge_there = leb-false 3 (get_or (record_at candidate_width ws i) 5 0) (word_good 5 (lit< tt))

  pub fallback_there : get_or (record_at candidate_width ws i) 7 0 < 3
  unfolding wrong
  fallback_there = leb-false 3 (get_or (record_at candidate_width ws i) 7 0) (word_good 7 (lit< tt))

pub all_ready : (container : ContainingBlock) → QuarterContainer container → (n : ℕ) (ws : List ℕ) → good_records (candidate_kinds n) ws (length ws / candidate_width) ≡ true → QuarterCandidates ws
    → Each (Ready container.area n) (candidates_in ws) (candidates_in (image_candidates container.area ws))
all_ready container hb n ws g q =
    by_records container.area ws
    (λ i h.
    let c = candidate_of (record_at candidate_width ws i) in
    let quarter : QuarterCandidate c = record { start = (q i h).0.0; end = (q i h).0.1 } in
    record {
      image =
          subst (CandidateImage container.area c)
          (sym
          (decoded_image container.area (record_at candidate_width ws i) (record_at candidate_width (image_candidates container.area ws) i) (record_words_lem container.area ws i h)
          (edge_there n ws g i h) (fallback_there n ws g i h)))
          (image_is_exact container c hb quarter);
      quarter = quarter;
      there = below_there n ws g i h;
    })

-- ---- a list that is filled from its front

slice_fits : (ws : List ℕ) → AllFit (candidates_in ws)
unfolding candidates_in first_candidates
slice_fits ws = all (records candidate_width (length ws / candidate_width) ws)
  where
    all : (rs : List (List ℕ)) → AllFit (map candidate_of rs)
    all [] = tt
    all (r ∷ rs) = (decoded_fits r, all rs)

-- what goes to a list, written from its front and read back
pub slice_back : (by : ContainingBlockClaims) (ws w : List ℕ) (list : Bool) → candidate_width * (0 + length (keep by list (candidates_in ws))) ≤ length w
    → first_candidates (length (keep by list (candidates_in ws))) (appended w 0 (keep by list (candidates_in ws))) ≡ keep by list (candidates_in ws)
slice_back by ws w true room = list_back w (keep by true (candidates_in ws)) (kept_fits by (candidates_in ws) (slice_fits ws)).0 (omega arith)
slice_back by ws w false room = list_back w (keep by false (candidates_in ws)) (kept_fits by (candidates_in ws) (slice_fits ws)).1 (omega arith)

-- the unclaimed records of an opening are images
pub opened_images : {area : OofPositioningArea} {n : ℕ} {cs cs' : List OofCandidate} → Each (Ready area n) cs cs' → Unclaimed area (length cs) cs cs'
opened_images none = surfaced none
opened_images (one r e) = image r.image (opened_images e)

-- ---- its words break no rule

below : (n : ℕ) (cs : List OofCandidate) → ((i : ℕ) → i < length cs → IsBelow n (get_or cs i nobody)) → AllBelow n cs
below n [] nodes = tt
below n (c ∷ cs) nodes = (nodes 0 (omega arith), below n cs (λ i h. nodes (suc i) (omega arith)))

pub front_good : (w : List ℕ) (cs : List OofCandidate) → candidate_width * (0 + length cs) ≤ length w
    → (n : ℕ) → ((i : ℕ) → i < length cs → IsBelow n (get_or cs i nobody)) → good_records (candidate_kinds n) (appended w 0 cs) (length cs) ≡ true
front_good w cs room n nodes = listed_good w cs (omega arith) n (below n cs nodes)
