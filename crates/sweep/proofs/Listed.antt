-- Candidates whose nodes are below n, written from a list's front, are records that break no rule. Assumes nothing.
use Prim.Native.Nat.{ℕ, zero, suc, ◌*◌, ◌<◌, ◌≤◌}
use native.Mathlib.Omega.{arith}
use native.Mathlib.Nat.{zero-add, not-suc-le-zero, le_of_suc-le-suc}
use mathlib.Core.Path.{◌≡◌, refl, sym, ap, ◌∙◌}
use mathlib.Core.Bool.{true, false, not}
use mathlib.Core.List.{List, [], ◌∷◌, map}
use lib.Dec.{leb}
use lib.ListN.{length, get_or}
use lib.Seq.{take_at, drop_at}
use borrow.Author.Tests.{lt-leb, not-true}
use Rattle.style.specs.declared.Position.{Position}
use Rattle.style.specs.declared.Position.TheVariants as position
use Rattle.style.specs.declared.alignment.AlignmentSafety.{AlignmentSafety}
use Rattle.style.specs.declared.alignment.AlignmentSafety.TheVariants.{Default, Unsafe, Safe}
use Rattle.tree.specs.declared.layout.AxisStaticEdge.{AxisStaticEdge}
use Rattle.tree.specs.declared.layout.AxisStaticEdge.TheVariants.{Start, Center, End}
use Rattle.tree.specs.declared.layout.OofCandidate.{OofCandidate}
use Rattle.records.specs.Records.{whole, record_at, records, every, wrong, breaks, good, good_records}
use Rattle.records.proofs.Laws.{word_of_record, record_of_records, every_is, good_is_unbroken, rear_back}
use Rattle.style.specs.Codes.{position_code, safety_code}
use Rattle.tree.specs.Codes.{edge_code}
use Rattle.tree_record.specs.Candidate.{candidate_width, layer_count, candidate_kinds, candidate_words}
use Rattle.tree_record.proofs.Laws.{candidate_widths}
use Rattle.sweep.specs.Sweep.{list_words, appended}
use Rattle.sweep.proofs.Steps.{words_length, appended_length}

-- a candidate's node is below n, and its layer is one
abbrev pub IsBelow : ℕ → OofCandidate → Type 0
IsBelow n c = (c.node < n) × (c.layer < layer_count)

abbrev pub AllBelow : ℕ → List OofCandidate → Type 0
AllBelow n [] = Unit {0}
AllBelow n (c ∷ cs) = IsBelow n c × AllBelow n cs

-- ---- one record

position_good : (p : Position) → leb 5 (position_code p) ≡ false
unfolding position_code
position_good position.Static = refl
position_good position.Relative = refl
position_good position.Absolute = refl
position_good position.Fixed = refl
position_good position.Sticky = refl

edge_good : (e : AxisStaticEdge) → leb 3 (edge_code e) ≡ false
unfolding edge_code
edge_good Start = refl
edge_good Center = refl
edge_good End = refl

safety_good : (s : AlignmentSafety) → leb 3 (safety_code s) ≡ false
unfolding safety_code
safety_good Default = refl
safety_good Unsafe = refl
safety_good Safe = refl

record_good : (n : ℕ) (c : OofCandidate) → IsBelow n c → good (candidate_kinds n) (candidate_words c) 0 ≡ true
unfolding good every breaks wrong candidate_words
record_good n c h =
    rw (
      lt-leb n c.node h.0,
      position_good c.position,
      edge_good c.place.x.align.keyword,
      safety_good c.place.x.align.safety,
      edge_good c.place.x.align.fallback,
      edge_good c.place.y.align.keyword,
      safety_good c.place.y.align.safety,
      edge_good c.place.y.align.fallback,
      lt-leb layer_count c.layer h.1,
    )
    refl

each_good : (n : ℕ) (cs : List OofCandidate) (i : ℕ) → AllBelow n cs → i < length cs → good (candidate_kinds n) (get_or (map candidate_words cs) i []) 0 ≡ true
each_good n [] i a h = absurd (not-suc-le-zero h)
each_good n (c ∷ cs) zero a h = record_good n c a.0
each_good n (c ∷ cs) (suc i) a h = each_good n cs i a.1 (le_of_suc-le-suc h)

-- ---- a list

words_records : (cs : List OofCandidate) → records candidate_width (length cs) (list_words cs) ≡ map candidate_words cs
unfolding list_words records
words_records [] = refl
words_records (c ∷ cs) =
    rw (take_at (candidate_words c) (list_words cs) candidate_width (candidate_widths.1 c), drop_at (candidate_words c) (list_words cs) candidate_width (candidate_widths.1 c), words_records cs) refl

module _ (w : List ℕ) (cs : List OofCandidate) (room : candidate_width * length cs ≤ length w) where
  listed : records candidate_width (length cs) (appended w 0 cs) ≡ map candidate_words cs
  unfolding records
  listed =
      ap (λ (n : ℕ). records candidate_width n (appended w 0 cs)) (sym (zero-add (length cs)))
      ∙ rear_back candidate_width 0 (length cs) w (list_words cs) (words_length cs) (omega (arith, words_length cs))
      ∙ words_records cs

  record_listed : (i : ℕ) → i < length cs → record_at candidate_width (appended w 0 cs) i ≡ get_or (map candidate_words cs) i []
  record_listed i h = sym (record_of_records candidate_width (length cs) (appended w 0 cs) i h) ∙ ap (λ (rs : List (List ℕ)). get_or rs i []) listed

  pub listed_good : (n : ℕ) → AllBelow n cs → good_records (candidate_kinds n) (appended w 0 cs) (length cs) ≡ true
  unfolding good breaks
  listed_good n a =
      (good_is_unbroken (candidate_kinds n) (appended w 0 cs) (length cs)).1 (
        omega (arith, appended_length w 0 cs),
        λ i k h l.
            let r = get_or (map candidate_words cs) i [] in
            ap (wrong (get_or (candidate_kinds n) k whole))
            (sym (word_of_record candidate_width (appended w 0 cs) i k l) ∙ ap (λ (r : List ℕ). get_or r k 0) (record_listed i h)
            ∙ ap (λ (j : ℕ). get_or r j 0) (sym (zero-add k)))
            ∙ not-true _ ((every_is candidate_width (λ k. not (breaks (candidate_kinds n) r 0 k))).0 (each_good n cs i a h) k l),
      )
