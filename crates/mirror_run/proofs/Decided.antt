-- What demand 3 asks of floats, tables and candidates can be computed. Assumes nothing.
use Rattle.std.proofs.lemmas.Bool.{and_parts}
use Prim.Native.Nat.{ℕ, ◌*◌, ◌/◌, ◌%◌}
use native.Mathlib.Nat.{div-add-mod, mul_comm, add-zero}
use mathlib.Core.Path.{◌≡◌, refl, sym, ◌∙◌}
use mathlib.Core.Bool.{Bool, true, false, not, ◌&&◌}
use mathlib.Core.List.{List}
use lib.Dec.{eqb, leb}
use lib.ListN.{length}
use lib.Ieee.{Float, nan, inf, fin, up, down, of_bits, binary32}
use borrow.Author.Tests.{eqb-true, eqb-false, leb-true, not-true}
use Rattle.util.proofs.Floats.{no}
use Rattle.records.specs.Records.{every, record_at}
use Rattle.records.proofs.Laws.{every_is}
use Rattle.tree.specs.declared.layout.OofCandidate.{OofCandidate}
use Rattle.tree_record.specs.Candidate.{candidate_width, candidate_of}
use Rattle.style.specs.declared.compact_length.CompactLength.{CompactLength}
use Rattle.style_record.specs.Record.{lengths, tag_word, ratio_present_word, scrollbar_word, item, items}
use Rattle.style_record.specs.Decode.{length_at}
use Rattle.util_exact.specs.Value.{Quarter}
use Rattle.mirror_box.specs.Quarter.{TagRule, whole_quarters, left_out, free, rule_of, Keeps}
use Rattle.mirror_run.specs.Quarter.{QuarterItem, QuarterTable, QuarterPlace, QuarterCandidates}

-- ---- floats

abbrev pub is_quarter : Float → Bool
is_quarter nan = false
is_quarter (inf s) = false
is_quarter (fin s m e) = eqb (m * up e * 4 % down e) 0 && leb (m * up e * 4 / down e) 16384

pub quarter_decided : (x : Float) → is_quarter x ≡ true → Quarter x
quarter_decided nan e = no e refl
quarter_decided (inf s) e = no e refl
quarter_decided (fin s m e) h =
    let b = and_parts (eqb (m * up e * 4 % down e) 0) (leb (m * up e * 4 / down e) 16384) h in
    record {
      sign = s;
      k = m * up e * 4 / down e;
      value = (refl, whole (m * up e * 4) (down e) (eqb-true (m * up e * 4 % down e) 0 b.0));
      small = leb-true (m * up e * 4 / down e) 16384 b.1;
    }
  where
    whole : (n d : ℕ) → n % d ≡ 0 → n ≡ n / d * d
    whole n d e = sym (div-add-mod n d) ∙ rw (e, mul_comm d (n / d)) (add-zero (n / d * d))

-- ---- styles

abbrev pub is_kept : TagRule → Float → Bool
is_kept whole_quarters x = is_quarter x
is_kept left_out x = false
is_kept free x = true

kept_decided : (r : TagRule) (x : Float) → is_kept r x ≡ true → Keeps r x
kept_decided whole_quarters x e = quarter_decided x e
kept_decided left_out x e = no e refl
kept_decided free x e = tt

abbrev pub is_length : CompactLength → Bool
is_length l = is_kept (rule_of l.tag) l.value

abbrev pub is_item : (ℕ → ℕ) → Bool
is_item word = every lengths (λ l. is_length (length_at word (tag_word l))) && is_quarter (of_bits binary32 (word scrollbar_word)) && not (eqb (word ratio_present_word) 1)

item_decided : (word : ℕ → ℕ) → is_item word ≡ true → QuarterItem word
item_decided word e =
    let b = and_parts (every lengths (λ l. is_length (length_at word (tag_word l))) && is_quarter (of_bits binary32 (word scrollbar_word))) (not (eqb (word ratio_present_word) 1)) e in
    let c = and_parts (every lengths (λ l. is_length (length_at word (tag_word l)))) (is_quarter (of_bits binary32 (word scrollbar_word))) b.0 in
    record {
      each = λ l h. kept_decided (rule_of (length_at word (tag_word l)).tag) (length_at word (tag_word l)).value ((every_is lengths (λ l. is_length (length_at word (tag_word l)))).0 c.0 l h);
      scrollbar = quarter_decided (of_bits binary32 (word scrollbar_word)) c.1;
      ratio = eqb-false (word ratio_present_word) 1 (not-true (eqb (word ratio_present_word) 1) b.1);
    }

abbrev pub is_table : List ℕ → Bool
is_table styles = every (items styles) (λ i. is_item (item styles i))

pub table_decided : (styles : List ℕ) → is_table styles ≡ true → QuarterTable styles
table_decided styles e i h = item_decided (item styles i) ((every_is (items styles) (λ i. is_item (item styles i))).0 e i h)

-- ---- candidates

abbrev pub is_place : OofCandidate → Bool
is_place c = is_quarter c.place.x.area.start && is_quarter c.place.x.area.end && is_quarter c.place.y.area.start && is_quarter c.place.y.area.end

place_decided : (c : OofCandidate) → is_place c ≡ true → QuarterPlace c
place_decided c e = four c.place.x.area.start c.place.x.area.end c.place.y.area.start c.place.y.area.end e
  where
    four : (a b c d : Float) → (is_quarter a && is_quarter b && is_quarter c && is_quarter d) ≡ true → (Quarter a × Quarter b) × (Quarter c × Quarter d)
    four a b c d e =
        let x = and_parts (is_quarter a && is_quarter b && is_quarter c) (is_quarter d) e in
        let y = and_parts (is_quarter a && is_quarter b) (is_quarter c) x.0 in
        let z = and_parts (is_quarter a) (is_quarter b) y.0 in
        ((quarter_decided a z.0, quarter_decided b z.1), (quarter_decided c y.1, quarter_decided d x.1))

abbrev pub are_places : List ℕ → Bool
are_places candidates = every (length candidates / candidate_width) (λ i. is_place (candidate_of (record_at candidate_width candidates i)))

pub candidates_decided : (candidates : List ℕ) → are_places candidates ≡ true → QuarterCandidates candidates
candidates_decided candidates e i h =
    place_decided (candidate_of (record_at candidate_width candidates i)) ((every_is (length candidates / candidate_width) (λ i. is_place (candidate_of (record_at candidate_width candidates i)))).0 e i h)
