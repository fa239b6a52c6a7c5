-- A record read at its place in a list: word k of record i is word w × i + k of the list. Assumes nothing.
use Prim.Native.Nat.{ℕ, ◌+◌, ◌*◌, ◌<◌, ◌≤◌}
use native.Mathlib.Omega.{arith}
use native.Mathlib.Nat.{add-zero, add_assoc}
use mathlib.Core.Path.{◌≡◌, refl, sym, ap, ◌∙◌}
use mathlib.Core.List.{List}
use lib.Dec.{lit<, lit≤}
use lib.ListN.{get_or}
use Rattle.records.specs.Records.{record_at}
use Rattle.records.proofs.Laws.{word_of_record}
use Rattle.tree.specs.declared.layout.OofCandidate.{OofCandidate}
use Rattle.style.specs.Codes.{position_of}
use Rattle.tree_record.specs.Candidate.{candidate_width, layer_word, axis_of, candidate_of}

module _ (w : ℕ) (ws : List ℕ) (i : ℕ) where
  -- words past word k
  past : (k j : ℕ) → k + j < w → get_or (record_at w ws i) (k + j) 0 ≡ get_or ws (w * i + k + j) 0
  past k j h = word_of_record w ws i (k + j) h ∙ ap (λ (m : ℕ). get_or ws m 0) (sym (add_assoc (w * i) k j))

  first : 0 < w → get_or (record_at w ws i) 0 0 ≡ get_or ws (w * i) 0
  first h = word_of_record w ws i 0 h ∙ ap (λ (m : ℕ). get_or ws m 0) (add-zero (w * i))

  pub axis_place : (k : ℕ) → k + 5 ≤ w → axis_of (record_at w ws i) k ≡ axis_of ws (w * i + k)
  unfolding axis_of
  axis_place k h =
      rw
      (word_of_record w ws i k (omega arith), past k 1 (omega arith), past k 2 (omega arith), past k 3 (omega arith), past k 4 (omega arith))
      refl

abbrev pub candidate_from : List ℕ → ℕ → OofCandidate
candidate_from ws at =
    record {
      node = get_or ws at 0;
      order = get_or ws (at + 1) 0;
      position = position_of (get_or ws (at + 2) 0);
      place = record { x = axis_of ws (at + 3); y = axis_of ws (at + 8) };
      layer = get_or ws (at + layer_word) 0;
    }

pub candidate_place : (ws : List ℕ) (i : ℕ) → candidate_of (record_at candidate_width ws i) ≡ candidate_from ws (candidate_width * i)
unfolding candidate_of
candidate_place ws i =
    rw
    (first candidate_width ws i (lit< tt), word_of_record candidate_width ws i 1 (lit< tt), word_of_record candidate_width ws i 2 (lit< tt), axis_place candidate_width ws i 3 (lit≤ tt), axis_place candidate_width ws i 8 (lit≤ tt), word_of_record candidate_width ws i layer_word (lit< tt))
    refl
