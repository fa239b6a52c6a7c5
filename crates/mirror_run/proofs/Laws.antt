-- The laws of `specs/Laws.antt`. Assumes nothing.
use Prim.Native.Nat.{ℕ, zero, suc, ◌+◌, ◌*◌, ◌/◌, ◌%◌, ◌<◌}
use native.Mathlib.Omega.{arith}
use mathlib.Core.Path.{◌≡◌, refl, sym, ap, ◌∙◌, subst}
use mathlib.Core.Bool.{Bool, true, false}
use lib.Dec.{eqb, ltb}
use lib.ListN.{length, get_or, get_or-eq_default}
use lib.Seq.{ext_get_or}
use borrow.Author.Tests.{ltb-true, ltb-false, le-ltb, eqb-true, eqb-false, ne_eqb}
use Rattle.records.specs.Records.{record_at}
use Rattle.tree_record.specs.Candidate.{candidate_width}
use Rattle.style_record.specs.Record.{direction_word, style_words, tag_word, item}
use Rattle.style_record.specs.Decode.{length_at}
use Rattle.mirror_box.specs.Quarter.{rule_of, Keeps}
use Rattle.mirror_run.specs.Image.{each_record, other_direction, counterpart, image_style, image_styles, image_candidates}
use Rattle.mirror_run.specs.Laws.{ImageIsAsLong, PartStays, StylesTwice, StylesPass, StylesDecode, PercentagesLeftOut, CandidatesPass, CandidatesDecode}
use Rattle.mirror_run.proofs.Words.{listed_word, each_length, each_word}
use Rattle.mirror_run.proofs.Counterpart.{counterpart_there, counterpart_twice, moved}
use Rattle.mirror_run.proofs.Styles as styles
use Rattle.mirror_run.proofs.Candidates.{same_candidates, decoded_image, record_words_lem}
use Rattle.mirror_run.proofs.Claimed.{edge_there, fallback_there}

pub image_is_as_long : ImageIsAsLong
image_is_as_long w image ws = each_length w image ws

pub part_stays : PartStays
unfolding each_record
part_stays w image ws j h = go (ltb j (length ws)) refl
  where
    go : (b : Bool) → ltb j (length ws) ≡ b → get_or (each_record w image ws) j 0 ≡ get_or ws j 0
    go true e = listed_word (length ws) _ j (ltb-true j (length ws) e) ∙ rw (le-ltb (j / w) (length ws / w) h) refl
    go false e =
        let l = ltb-false j (length ws) e in
        get_or-eq_default (each_record w image ws) 0 (rw (each_length w image ws) l) ∙ sym (get_or-eq_default ws 0 l)

-- ---- styles

direction_twice : (d : ℕ) → other_direction (other_direction d) ≡ d
unfolding other_direction
direction_twice zero = refl
direction_twice (suc zero) = refl
direction_twice (suc (suc d)) = rw (above 0 (omega arith), above 1 (omega arith), above 0 (omega arith), above 1 (omega arith)) refl
  where
    above : (c : ℕ) → c < 2 → eqb (suc (suc d)) c ≡ false
    above c h = ne_eqb (suc (suc d)) c (λ e. omega arith)

-- a record, its image, and the image of that
image_twice : (r r' : ℕ → ℕ) → ((k : ℕ) → k < style_words → r' k ≡ image_style r k) → (k : ℕ) → k < style_words → image_style r' k ≡ r k
unfolding image_style counterpart
image_twice r r' same k h = go (eqb k direction_word) refl
  where
    go : (b : Bool) → eqb k direction_word ≡ b → image_style r' k ≡ r k
    go true e = let d = eqb-true k direction_word e in rw (d, same direction_word (omega arith)) (direction_twice (r direction_word))
    go false e =
        let d = eqb-false k direction_word e in
        moved r' k d ∙ same (counterpart k) (counterpart_there k h) ∙ moved r (counterpart k) (λ x. d (sym (counterpart_twice k) ∙ ap counterpart x)) ∙ ap r (counterpart_twice k)

pub styles_twice : StylesTwice
styles_twice ws = ext_get_or 0 (image_styles (image_styles ws)) ws (as_long ∙ each_length style_words image_style ws) word
  where
    as_long : length (image_styles (image_styles ws)) ≡ length (image_styles ws)
    as_long = each_length style_words image_style (image_styles ws)

    word : (j : ℕ) → j < length (image_styles (image_styles ws)) → get_or (image_styles (image_styles ws)) j 0 ≡ get_or ws j 0
    word j h = go (ltb (j / style_words) (length ws / style_words)) refl
      where
        there : (j : ℕ) → j ≡ style_words * (j / style_words) + j % style_words
        there j = omega arith

        go : (b : Bool) → ltb (j / style_words) (length ws / style_words) ≡ b → get_or (image_styles (image_styles ws)) j 0 ≡ get_or ws j 0
        go true e =
            let l = ltb-true (j / style_words) (length ws / style_words) e in
            ap (λ (m : ℕ). get_or (image_styles (image_styles ws)) m 0) (there j)
            ∙ each_word style_words image_style (image_styles ws) (j / style_words) (j % style_words) (omega arith) (rw (each_length style_words image_style ws) l)
            ∙ image_twice (λ k. get_or ws (style_words * (j / style_words) + k) 0) (λ k. get_or (image_styles ws) (style_words * (j / style_words) + k) 0)
            (λ k m. each_word style_words image_style ws (j / style_words) k m l) (j % style_words) (omega arith)
            ∙ ap (λ (m : ℕ). get_or ws m 0) (sym (there j))
        go false e =
            let l = ltb-false (j / style_words) (length ws / style_words) e in
            part_stays style_words image_style (image_styles ws) j (rw (each_length style_words image_style ws) l) ∙ part_stays style_words image_style ws j l

pub styles_pass : StylesPass
styles_pass ws = styles.same_check ws

pub styles_decode : StylesDecode
styles_decode ws i e h = styles.image_style_lem ws e i h

pub percentages_left_out : PercentagesLeftOut
unfolding length_at
percentages_left_out ws i l quarters h k = (left_out 5, left_out 15, left_out 129)
  where
    left_out : (tag : ℕ) → item ws i (tag_word l) ≡ tag → Keeps (rule_of tag) (length_at (item ws i) (tag_word l)).value
    left_out tag e = subst (λ (t : ℕ). Keeps (rule_of t) (length_at (item ws i) (tag_word l)).value) e ((quarters i h).each l k)

-- ---- candidates

pub candidates_pass : CandidatesPass
candidates_pass area n ws = same_candidates area ws n

pub candidates_decode : CandidatesDecode
candidates_decode area n ws i g h =
    decoded_image area (record_at candidate_width ws i) (record_at candidate_width (image_candidates area ws) i) (record_words_lem area ws i h) (edge_there n ws g i h) (fallback_there n ws g i h)
