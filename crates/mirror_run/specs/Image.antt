-- The mirror image of a run (document 01, "The mirror image"), on words of any content. A record is given as its words by their index.
-- Read the four images first: of an opening, of a style, of a candidate, of a list of records. Assumes nothing.
use Rattle.std.specs.Prelude.{ℕ, zero, suc, ◌+◌, ◌-◌, ◌*◌, ◌/◌, ◌%◌, cond, ◌||◌, List, [], ◌∷◌, eqb, ltb, leb, length, get_or}
use Rattle.std.specs.Float.Ieee.{of_bits, to_bits}
use Rattle.std.specs.Float.{binary32}
use Rattle.util.specs.Number.{◌⊖◌}
use Rattle.tree.specs.declared.layout.OofPositioningArea.{OofPositioningArea}
use Rattle.tree_record.specs.Candidate.{candidate_width}
use Rattle.style_record.specs.Record.{length_words, direction_word, style_words}
use Rattle.run.specs.declared.Opening.{Opening}
use Rattle.mirror_box.specs.Image.{edge_sum}

-- ---- codes: what is outside the list stays

-- left-to-right (0) and right-to-left (1) change places
unfoldable pub other_direction : ℕ → ℕ
other_direction d = cond (eqb d 0) 1 (cond (eqb d 1) 0 d)

-- start (0) and end (2) change places
unfoldable pub other_edge : ℕ → ℕ
other_edge e = cond (eqb e 0) 2 (cond (eqb e 2) 0 e)

-- ---- an opening: its direction flipped

abbrev pub image_opening : Opening → Opening
image_opening o =
    record { area = o.area; direction = other_direction o.direction; claims = o.claims; overflowx = o.overflowx; overflowy = o.overflowy }

-- ---- a style: left and right exchanged in inset, margin, padding and border; its direction flipped

-- the words of one of these four: left, right, top and bottom length
abbrev pub sides_words : ℕ
sides_words = 4 * length_words

-- the four come first in a style
abbrev pub box_words : ℕ
box_words = 4 * sides_words

-- the place across from a word's: of a left length's word that of the right one's, tag for tag, value for value and second for second; and back
unfoldable pub counterpart : ℕ → ℕ
counterpart k =
    cond (leb box_words k) k
    (cond (ltb (k % sides_words) length_words) (k + length_words)
    (cond (ltb (k % sides_words) (2 * length_words)) (k - length_words) k))

unfoldable pub image_style : (ℕ → ℕ) → ℕ → ℕ
image_style word k = cond (eqb k direction_word) (other_direction (word k)) (word (counterpart k))

-- ---- a candidate: its x area reflected, start and end exchanged in its edge and in its fallback edge

abbrev pub start_word : ℕ
start_word = 3

abbrev pub end_word : ℕ
end_word = 4

abbrev pub edge_word : ℕ
edge_word = 5

abbrev pub fallback_word : ℕ
fallback_word = 7

-- 2 × offset + width - x, of a word
unfoldable pub reflected_word : OofPositioningArea → ℕ → ℕ
reflected_word area x = to_bits binary32 (edge_sum area ⊖ of_bits binary32 x)

unfoldable pub image_candidate : OofPositioningArea → (ℕ → ℕ) → ℕ → ℕ
image_candidate area word k =
    cond (eqb k start_word) (reflected_word area (word end_word))
    (cond (eqb k end_word) (reflected_word area (word start_word))
    (cond (eqb k edge_word || eqb k fallback_word) (other_edge (word k)) (word k)))

-- ---- a list of records: each whole one by its image; the words of a part of one, after the last, stay

-- a list by its words
unfoldable pub listed : ℕ → (ℕ → ℕ) → List ℕ
listed zero word = []
listed (suc n) word = word 0 ∷ listed n (λ k. word (suc k))

-- word j of a list is word j % w of its record j / w, w words being a record
unfoldable pub each_record : ℕ → ((ℕ → ℕ) → ℕ → ℕ) → List ℕ → List ℕ
each_record w image ws =
    listed (length ws) (λ j. cond (ltb (j / w) (length ws / w)) (image (λ k. get_or ws (w * (j / w) + k) 0) (j % w)) (get_or ws j 0))

abbrev pub image_styles : List ℕ → List ℕ
image_styles styles = each_record style_words image_style styles

abbrev pub image_candidates : OofPositioningArea → List ℕ → List ℕ
image_candidates area candidates = each_record candidate_width (image_candidate area) candidates
