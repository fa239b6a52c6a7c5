-- Lists of words that differ in layers only: what they hold, which rules they break, and what is written to them. Assumes nothing.
use Prim.Native.Nat.{ℕ, suc, ◌+◌, ◌*◌, ◌/◌, ◌%◌, ◌<◌, ◌≤◌}
use native.Mathlib.Omega.{arith}
use native.Mathlib.Nat.{mul-add-mod_self_left, mod-eq_of_lt}
use mathlib.Core.Path.{◌≡◌, refl, sym, ap, ◌∙◌, subst, subst₂}
use mathlib.Core.Bool.{Bool, true, false, not}
use mathlib.Core.List.{List, [], ◌∷◌, ◌++◌, map}
use lib.Dec.{ltb, eqb, lit<}
use lib.ListN.{length, get_or, set, length-set}
use lib.Seq.{get_or-set_same, get_or-set_other, set_out}
use borrow.Author.Tests.{ltb-true, ltb-false, eqb-true, eqb-false, lt-leb}
use Rattle.std.specs.Prelude.{Option, Some, None, Float}
use Rattle.geometry.specs.declared.Point.{Point}
use Rattle.tree.specs.declared.layout.OofCandidate.{OofCandidate}
use Rattle.tree.specs.Static.{translated}
use Rattle.records.specs.Records.{record_at, written, whole, wrong, breaks, good_records}
use Rattle.records.proofs.Laws.{word_of_record, good_is_unbroken, written_twice}
use Rattle.style.specs.Codes.{position_code}
use Rattle.tree_record.specs.Candidate.{candidate_width, layer_word, layer_count, candidate_kinds, axis_of, candidate_of, axis_words, candidate_words}
use Rattle.sweep.specs.Sweep.{candidates_in, moved, appended}
use Rattle.sweep.proofs.Steps.{appended_none, appended_one, appended_twice}
use Rattle.run.specs.Refusals.{bad_candidate}
use Rattle.mirror_run.specs.Runs.{Each, none, one}
use Rattle.mirror_run.proofs.Lists.{first_by}
use Rattle.drawing_laws.specs.Laws.{on_layer, SameButLayers, LayersAllowed}

-- ---- candidates

-- one on the other's layer is the other
abbrev pub Alike : OofCandidate → OofCandidate → Type 0
Alike c c' = on_layer c'.layer c ≡ c'

decoded : (r r' : List ℕ) → ((k : ℕ) → k < layer_word → get_or r k 0 ≡ get_or r' k 0) → Alike (candidate_of r) (candidate_of r')
unfolding candidate_of axis_of
decoded r r' e =
    rw (
      e 0 (lit< tt),
      e 1 (lit< tt),
      e 2 (lit< tt),
      e 3 (lit< tt),
      e 4 (lit< tt),
      e 5 (lit< tt),
      e 6 (lit< tt),
      e 7 (lit< tt),
      e 8 (lit< tt),
      e 9 (lit< tt),
      e 10 (lit< tt),
      e 11 (lit< tt),
      e 12 (lit< tt),
    )
    refl

moved_alike : (s : Option (Point Float)) (c c' : OofCandidate) → Alike c c' → Alike (moved s c) (moved s c')
unfolding moved translated
moved_alike s c c' e = subst (λ (d : OofCandidate). Alike (moved s c) (moved s d)) e (on s c'.layer)
  where
    on : (s : Option (Point Float)) (v : ℕ) → Alike (moved s c) (moved s (on_layer v c))
    on None v = refl
    on (Some location) v = refl

pub each_moved : (s : Option (Point Float)) {cs cs' : List OofCandidate} → Each Alike cs cs' → Each Alike (map (moved s) cs) (map (moved s) cs')
each_moved s none = none
each_moved s (one {c = c} {c' = c'} a e) = one (moved_alike s c c' a) (each_moved s e)

pub same_position : (c c' : OofCandidate) → Alike c c' → c.position ≡ c'.position
same_position c c' e = ap (λ (d : OofCandidate). d.position) e

module _ (ws ws' : List ℕ) (same : SameButLayers ws ws') where
  pub record_alike : (i : ℕ) → Alike (candidate_of (record_at candidate_width ws i)) (candidate_of (record_at candidate_width ws' i))
  record_alike i =
      decoded (record_at candidate_width ws i) (record_at candidate_width ws' i)
      (λ k h. word_of_record candidate_width ws i k (omega arith) ∙ same.words i k h ∙ sym (word_of_record candidate_width ws' i k (omega arith)))

  pub slice_alike : Each Alike (candidates_in ws) (candidates_in ws')
  unfolding candidates_in
  slice_alike = rw (← same.long) (first_by (length ws / candidate_width) ws ws' (λ i h. record_alike i))

-- ---- rules

module _ (n : ℕ) {ws ws' : List ℕ} (count : ℕ) where
  still_good : SameButLayers ws ws' → LayersAllowed count ws' → good_records (candidate_kinds n) ws count ≡ true → good_records (candidate_kinds n) ws' count ≡ true
  unfolding breaks wrong
  still_good same allowed g =
      let u = (good_is_unbroken (candidate_kinds n) ws count).0 g in
      (good_is_unbroken (candidate_kinds n) ws' count).1 (rw same.long at u.0, λ i k h l. go i k h l (u.1 i k h l) (ltb k layer_word) refl)
    where
      go : (i k : ℕ) → i < count → k < candidate_width → wrong (get_or (candidate_kinds n) k whole) (get_or ws (candidate_width * i + k) 0) ≡ false
          → (b : Bool) → ltb k layer_word ≡ b
          → wrong (get_or (candidate_kinds n) k whole) (get_or ws' (candidate_width * i + k) 0) ≡ false
      go i k h l e true d = ap (wrong (get_or (candidate_kinds n) k whole)) (sym (same.words i k (ltb-true k layer_word d))) ∙ e
      go i k h l e false d = subst (λ (k : ℕ). wrong (get_or (candidate_kinds n) k whole) (get_or ws' (candidate_width * i + k) 0) ≡ false) (last k (ltb-false k layer_word d) l) (layer i h)
        where
          last : (k : ℕ) → layer_word ≤ k → k < candidate_width → layer_word ≡ k
          last k a b = omega arith

          layer : (i : ℕ) → i < count → wrong (get_or (candidate_kinds n) layer_word whole) (get_or ws' (candidate_width * i + layer_word) 0) ≡ false
          layer i h = lt-leb layer_count (get_or ws' (candidate_width * i + layer_word) 0) (allowed i h)

pub same_back : {ws ws' : List ℕ} → SameButLayers ws ws' → SameButLayers ws' ws
same_back same = record { long = sym same.long; words = λ i k h. sym (same.words i k h) }

pub same_rules : (styles : List ℕ) (ws ws' : List ℕ) (count : ℕ) → SameButLayers ws ws' → LayersAllowed count ws → LayersAllowed count ws' → bad_candidate styles ws count ≡ bad_candidate styles ws' count
unfolding bad_candidate
same_rules styles ws ws' count same allowed allowed' = ap not (both _ _ (still_good _ count same allowed') (still_good _ count (same_back same) allowed))
  where
    both : (a b : Bool) → (a ≡ true → b ≡ true) → (b ≡ true → a ≡ true) → a ≡ b
    both true b f g = sym (f refl)
    both false true f g = g refl
    both false false f g = refl

-- ---- words written

-- one word, the same in both
set_same : (ws ws' : List ℕ) (at v : ℕ) → SameButLayers ws ws' → SameButLayers (set ws at v) (set ws' at v)
set_same ws ws' at v same =
    record {
      long = length-set ws at v ∙ same.long ∙ sym (length-set ws' at v);
      words = λ i k h. go (candidate_width * i + k) (same.words i k h) (eqb (candidate_width * i + k) at) refl;
    }
  where
    here : (b : Bool) → ltb at (length ws) ≡ b → get_or ws at 0 ≡ get_or ws' at 0 → get_or (set ws at v) at 0 ≡ get_or (set ws' at v) at 0
    here true d e =
        let h = ltb-true at (length ws) d in
        get_or-set_same ws at v 0 h ∙ sym (get_or-set_same ws' at v 0 (rw same.long at h))
    here false d e =
        let h = ltb-false at (length ws) d in
        ap (λ (l : List ℕ). get_or l at 0) (set_out ws at v h) ∙ e ∙ ap (λ (l : List ℕ). get_or l at 0) (sym (set_out ws' at v (rw same.long at h)))

    go : (j : ℕ) → get_or ws j 0 ≡ get_or ws' j 0 → (b : Bool) → eqb j at ≡ b → get_or (set ws at v) j 0 ≡ get_or (set ws' at v) j 0
    go j e true d =
        let p = eqb-true j at d in
        subst (λ (j : ℕ). get_or (set ws at v) j 0 ≡ get_or (set ws' at v) j 0) (sym p) (here (ltb at (length ws)) refl (rw p at e))
    go j e false d = get_or-set_other ws at j v 0 (eqb-false j at d) ∙ e ∙ sym (get_or-set_other ws' at j v 0 (eqb-false j at d))

-- a layer, any in each
set_layer : (ws ws' : List ℕ) (n v v' : ℕ) → SameButLayers ws ws' → SameButLayers (set ws (candidate_width * n + layer_word) v) (set ws' (candidate_width * n + layer_word) v')
set_layer ws ws' n v v' same =
    record {
      long = length-set ws _ v ∙ same.long ∙ sym (length-set ws' _ v');
      words = λ i k h. get_or-set_other ws _ _ v 0 (other i k h) ∙ same.words i k h ∙ sym (get_or-set_other ws' _ _ v' 0 (other i k h));
    }
  where
    place : (i k : ℕ) → k < candidate_width → (candidate_width * i + k) % candidate_width ≡ k
    place i k h = mul-add-mod_self_left candidate_width i k ∙ mod-eq_of_lt h

    other : (i k : ℕ) → k < layer_word → candidate_width * i + k ≡ candidate_width * n + layer_word → ⊥
    other i k h e =
        let p : k ≡ layer_word = sym (place i k (omega arith)) ∙ ap (λ (m : ℕ). m % candidate_width) e ∙ place n layer_word (lit< tt) in
        omega arith

pub written_same : (ws ws' : List ℕ) (at : ℕ) (vs : List ℕ) → SameButLayers ws ws' → SameButLayers (written ws at vs) (written ws' at vs)
unfolding written
written_same ws ws' at [] same = same
written_same ws ws' at (v ∷ vs) same = written_same (set ws at v) (set ws' at v) (suc at) vs (set_same ws ws' at v same)

-- a record, up to its layer
abbrev front : OofCandidate → List ℕ
front c = c.node ∷ c.order ∷ position_code c.position ∷ (axis_words c.place.x ++ axis_words c.place.y)

front_first : (ws : List ℕ) (at : ℕ) (c : OofCandidate) → written ws at (candidate_words c) ≡ set (written ws at (front c)) (at + layer_word) c.layer
unfolding candidate_words written
front_first ws at c = written_twice ws at (front c) (c.layer ∷ [])

record_same : (ws ws' : List ℕ) (n : ℕ) (c c' : OofCandidate) → Alike c c' → SameButLayers ws ws'
    → SameButLayers (written ws (candidate_width * n) (candidate_words c)) (written ws' (candidate_width * n) (candidate_words c'))
record_same ws ws' n c c' a same =
    subst (λ (d : OofCandidate). SameButLayers (written ws (candidate_width * n) (candidate_words c)) (written ws' (candidate_width * n) (candidate_words d))) a
    (subst₂ SameButLayers (sym (front_first ws (candidate_width * n) c)) (sym (front_first ws' (candidate_width * n) (on_layer c'.layer c)))
    (set_layer _ _ n c.layer c'.layer (written_same ws ws' (candidate_width * n) (front c) same)))

-- records at the rear of a list
pub appended_same : {cs cs' : List OofCandidate} → Each Alike cs cs' → (ws ws' : List ℕ) (n : ℕ) → SameButLayers ws ws' → SameButLayers (appended ws n cs) (appended ws' n cs')
appended_same none ws ws' n same = subst₂ SameButLayers (sym (appended_none ws n)) (sym (appended_none ws' n)) same
appended_same (one {c = c} {c' = c'} {cs = cs} {cs' = cs'} a e) ws ws' n same =
    subst₂ SameButLayers (sym (first ws c cs)) (sym (first ws' c' cs')) (appended_same e _ _ (n + 1) (record_same ws ws' n c c' a same))
  where
    first : (ws : List ℕ) (c : OofCandidate) (cs : List OofCandidate) → appended ws n (c ∷ cs) ≡ appended (written ws (candidate_width * n) (candidate_words c)) (n + 1) cs
    first ws c cs = appended_twice ws n (c ∷ []) cs ∙ ap (λ (l : List ℕ). appended l (n + 1) cs) (appended_one ws n c)
