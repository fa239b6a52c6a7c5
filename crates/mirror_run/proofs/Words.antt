-- The words of a list of records and of its image; and the image computed on a few words. Assumes nothing.
use Prim.Native.Nat.{ℕ, zero, suc, ◌+◌, ◌*◌, ◌/◌, ◌%◌, ◌<◌}
use native.Mathlib.Omega.{arith}
use native.Mathlib.Nat.{add-zero, mul-suc, mul-le-mul_left, mul-div-le, mul-add-div, mul-add-mod_self_left, div-eq_of_lt, mod-eq_of_lt, not-suc-le-zero, le_of_suc-le-suc}
use mathlib.Core.Path.{◌≡◌, refl, ap, ◌∙◌}
use mathlib.Core.Bool.{cond}
use mathlib.Core.List.{List, [], ◌∷◌, ◌++◌, map}
use lib.Dec.{eqb}
use lib.ListN.{length, get_or}
use lib.Ieee.{add, sub, mul, neg, sum, round, units, odd, size, span, climb, of_bits, to_bits, of_fields, nan_bits, binary32}
use borrow.Author.Tests.{lt-ltb}
use Rattle.style_record.specs.Record.{direction_word, style_words}
use Rattle.run.specs.declared.Opening.{Opening}
use Rattle.mirror_box.specs.Image.{edge_sum}
use Rattle.mirror_run.specs.Image.{other_direction, other_edge, counterpart, image_style, reflected_word, image_candidate, listed, each_record, image_opening, image_styles, image_candidates}

-- ---- a list by its words

pub listed_length : (n : ℕ) (word : ℕ → ℕ) → length (listed n word) ≡ n
unfolding listed
listed_length zero word = refl
listed_length (suc n) word = ap suc (listed_length n (λ k. word (suc k)))

pub listed_word : (n : ℕ) (word : ℕ → ℕ) (j : ℕ) → j < n → get_or (listed n word) j 0 ≡ word j
unfolding listed
listed_word zero word j h = absurd (not-suc-le-zero h)
listed_word (suc n) word zero h = refl
listed_word (suc n) word (suc j) h = listed_word n (λ k. word (suc k)) j (le_of_suc-le-suc h)

-- ---- word k of record i

module _ (w : ℕ) (i k : ℕ) (h : k < w) where
  record_of_word : (w * i + k) / w ≡ i
  record_of_word = mul-add-div (omega arith) i k ∙ ap (λ (x : ℕ). i + x) (div-eq_of_lt h) ∙ add-zero i

  place_of_word : (w * i + k) % w ≡ k
  place_of_word = mul-add-mod_self_left w i k ∙ mod-eq_of_lt h

-- a word of a whole record is one of the list
pub word_there : (w n i k : ℕ) → k < w → i < n / w → w * i + k < n
word_there w n i k h l = omega (arith, mul-le-mul_left w l, mul-suc w i, mul-div-le n w)

module _ (w : ℕ) (image : (ℕ → ℕ) → ℕ → ℕ) (ws : List ℕ) where
  pub each_length : length (each_record w image ws) ≡ length ws
  unfolding each_record
  each_length = listed_length (length ws) _

  pub each_word : (i k : ℕ) → k < w → i < length ws / w → get_or (each_record w image ws) (w * i + k) 0 ≡ image (λ j. get_or ws (w * i + j) 0) k
  unfolding each_record
  each_word i k h l =
      listed_word (length ws) _ (w * i + k) (word_there w (length ws) i k h l)
      ∙ rw (record_of_word w i k h, place_of_word w i k h, lt-ltb i (length ws / w) l) refl

-- ---- computed: what each word becomes

-- an area 100 wide and 50 high, at 8 across
abbrev panel : ℕ → Opening
panel direction =
    record {
      area = record { size = record { width = of_bits binary32 1120403456; height = of_bits binary32 1112014848 }; offset = record { x = of_bits binary32 1090519040; y = of_bits binary32 0 } };
      direction = direction;
      claims = 1;
      overflowx = 0;
      overflowy = 0;
    }

-- n words from a place on, each its own place
abbrev places : ℕ → ℕ → List ℕ
places at n = listed n (λ k. at + k)

pub record Images : Type 0 where
  -- left-to-right and right-to-left change places; 2, which is no direction, stays
  pub openings : map (λ (d : ℕ). (image_opening (panel d)).direction) (0 ∷ 1 ∷ 2 ∷ []) ≡ 1 ∷ 0 ∷ 2 ∷ []
  -- start and end change places; center stays, and so does 3, which is no edge
  pub edges : map other_edge (0 ∷ 1 ∷ 2 ∷ 3 ∷ []) ≡ 2 ∷ 1 ∷ 0 ∷ 3 ∷ []
  -- a candidate that stands in x from 30 to 40, its edge start and its fallback edge end: from 76 to 86, end and start. It stays on layer 5
  pub candidate :
      image_candidates (panel 0).area (9 ∷ 8 ∷ 2 ∷ 1106247680 ∷ 1109393408 ∷ 0 ∷ 1 ∷ 2 ∷ 7 ∷ 6 ∷ 0 ∷ 0 ∷ 2 ∷ 5 ∷ [])
      ≡ 9 ∷ 8 ∷ 2 ∷ 1117257728 ∷ 1118568448 ∷ 2 ∷ 1 ∷ 0 ∷ 7 ∷ 6 ∷ 0 ∷ 0 ∷ 2 ∷ 5 ∷ []
  -- a style whose words are their own places, but for its direction, 0. Inset, margin, padding and border have each left, right, top and
  -- bottom, of three words: the first three and the next three change places. The direction is flipped
  pub style :
      image_styles (listed style_words (λ k. cond (eqb k direction_word) 0 k))
      ≡ (3 ∷ 4 ∷ 5 ∷ 0 ∷ 1 ∷ 2 ∷ places 6 6)
      ++ (15 ∷ 16 ∷ 17 ∷ 12 ∷ 13 ∷ 14 ∷ places 18 6)
      ++ (27 ∷ 28 ∷ 29 ∷ 24 ∷ 25 ∷ 26 ∷ places 30 6)
      ++ (39 ∷ 40 ∷ 41 ∷ 36 ∷ 37 ∷ 38 ∷ places 42 6)
      ++ (places 48 22 ++ (1 ∷ places 71 8))
  -- words that are no whole record stay
  pub part : image_styles (1 ∷ 2 ∷ 3 ∷ []) ≡ 1 ∷ 2 ∷ 3 ∷ []

pub images : Images
unfolding add sub mul neg sum round units odd size span climb of_bits to_bits of_fields nan_bits edge_sum other_direction other_edge counterpart image_style reflected_word image_candidate listed each_record
images = record { openings = refl; edges = refl; candidate = refl; style = refl; part = refl }
