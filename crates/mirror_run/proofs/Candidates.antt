-- A list of candidates and its image: the same check, the same claims, and each decodes to its image. Assumes nothing.
use borrow.Author.Rules.{rules}
use Prim.Native.Nat.{ℕ, zero, suc, ◌*◌, ◌/◌, ◌<◌}
use native.Mathlib.Omega.{arith}
use mathlib.Core.Path.{◌≡◌, refl, ap}
use mathlib.Core.Bool.{Bool, ◌&&◌}
use mathlib.Core.List.{List}
use lib.Dec.{leb, lit<}
use lib.Ieee.Fits.{sub-fits}
use lib.ListN.{length, get_or}
use borrow.Author.Tests.{ne_eqb}
use Rattle.util.proofs.Laws.{float_back}
use Rattle.tree.specs.declared.layout.OofPositioningArea.{OofPositioningArea}
use Rattle.records.specs.Records.{whole, record_at, every, wrong, breaks, good, good_records}
use Rattle.records.proofs.Laws.{word_of_record}
use Rattle.tree.specs.Codes.{edge_of}
use Rattle.tree_record.specs.Candidate.{candidate_width, candidate_kinds, axis_of, candidate_of}
use Rattle.mirror_axis.specs.Image as axis
use Rattle.mirror_box.specs.Image as box
use Rattle.mirror_run.specs.Image.{other_edge, reflected_word, image_candidate, image_candidates}
use Rattle.mirror_run.proofs.Words.{each_length, each_word}

-- ---- codes

edge_code_lem : (e : ℕ) → leb 3 (other_edge e) ≡ leb 3 e
unfolding other_edge
edge_code_lem e = search (rules, ne_eqb)

edge_decoded : (e : ℕ) → e < 3 → edge_of (other_edge e) ≡ axis.other_edge (edge_of e)
unfolding other_edge edge_of axis.other_edge
edge_decoded e h = search rules

-- ---- a record's image

module _ (area : OofPositioningArea) (r : ℕ → ℕ) where
  -- it breaks the rules that the record breaks
  image_wrong : (n k : ℕ) → wrong (get_or (candidate_kinds n) k whole) (image_candidate area r k) ≡ wrong (get_or (candidate_kinds n) k whole) (r k)
  unfolding image_candidate wrong
  image_wrong n k = search (rules, edge_code_lem)

-- ---- a slice

same_every : (n : ℕ) (p q : ℕ → Bool) → ((i : ℕ) → i < n → p i ≡ q i) → every n p ≡ every n q
unfolding every
same_every zero p q f = refl
same_every (suc n) p q f = rw (same_every n p q (λ i h. f i (omega arith)), f n (omega arith)) refl

module _ (area : OofPositioningArea) (ws : List ℕ) where
  pub count_kept : length (image_candidates area ws) / candidate_width ≡ length ws / candidate_width
  count_kept = ap (λ (n : ℕ). n / candidate_width) (each_length candidate_width (image_candidate area) ws)

  same_record : (n i : ℕ) → i < length ws / candidate_width
      → good (candidate_kinds n) (image_candidates area ws) (candidate_width * i) ≡ good (candidate_kinds n) ws (candidate_width * i)
  unfolding good breaks
  same_record n i h = search (rules, each_word, image_wrong, same_every)

  pub same_candidates : (n : ℕ)
      → good_records (candidate_kinds n) (image_candidates area ws) (length (image_candidates area ws) / candidate_width)
      ≡ good_records (candidate_kinds n) ws (length ws / candidate_width)
  unfolding good_records
  same_candidates n =
      rw (each_length candidate_width (image_candidate area) ws)
      (ap (λ (b : Bool). leb (length ws / candidate_width) (length ws / candidate_width) && b)
      (same_every (length ws / candidate_width) (λ i. good (candidate_kinds n) (image_candidates area ws) (candidate_width * i)) (λ i. good (candidate_kinds n) ws (candidate_width * i)) (same_record n)))

-- ---- a record decoded

module _ (area : OofPositioningArea) (r r' : List ℕ) (words : (k : ℕ) → k < candidate_width → get_or r' k 0 ≡ image_candidate area (λ j. get_or r j 0) k) where
  pub decoded_image : get_or r 5 0 < 3 → get_or r 7 0 < 3 → candidate_of r' ≡ box.image_candidate area (candidate_of r)
  unfolding candidate_of axis_of image_candidate reflected_word box.image_candidate axis.reflected_place axis.reflected axis.other_align
  decoded_image h l = search (rules, edge_decoded, float_back, sub-fits)

  pub decoded_position : (candidate_of r).position ≡ (candidate_of r').position
  unfolding candidate_of image_candidate
  decoded_position = rw (words 2 (lit< tt)) refl

  -- an image is of the same node, whatever its edges' codes
  pub decoded_node : (candidate_of r).node ≡ (candidate_of r').node
  unfolding candidate_of image_candidate
  decoded_node = rw (words 0 (lit< tt)) refl

module _ (area : OofPositioningArea) (ws : List ℕ) (i : ℕ) (h : i < length ws / candidate_width) where
  pub record_words_lem : (k : ℕ) → k < candidate_width
      → get_or (record_at candidate_width (image_candidates area ws) i) k 0 ≡ image_candidate area (λ j. get_or (record_at candidate_width ws i) j 0) k
  unfolding image_candidate
  record_words_lem k l = search (rules, each_word, word_of_record)
