-- A candidate's rules in the cut of the code that tests them. Assumes nothing.
use Prim.Native.Nat.{ℕ, ◌+◌, ◌-◌}
use native.Mathlib.Nat.{add-zero, add_assoc}
use mathlib.Core.Path.{◌≡◌, refl, ap, ◌∙◌}
use mathlib.Core.Bool.{Bool, true, false, cond, not, ◌&&◌}
use mathlib.Core.List.{List, [], ◌∷◌, map}
use lib.Dec.{leb}
use lib.ListN.{get_or, replicate}
use Rattle.records.specs.Records.{every, wrong, breaks, good}
use Rattle.tree_record.specs.Candidate.{candidate_width, layer_word, layer_count, axis_kinds, candidate_kinds}

-- computed, of two items: a record of node 1 is good, one of node 2 isn't
nodes_computed : map (λ (node : ℕ). good (candidate_kinds 2) (node ∷ replicate (candidate_width - 1) 0) 0) (1 ∷ 2 ∷ []) ≡ true ∷ false ∷ []
unfolding good every breaks wrong
nodes_computed = refl

-- edge, safety and fallback edge, one after another
axis_codes : (a b c : Bool) → (true && true && not a && not b && not c) ≡ cond a false (cond b false (cond c false true))
axis_codes true b c = refl
axis_codes false true c = refl
axis_codes false false true = refl
axis_codes false false false = refl

module _ (ws : List ℕ) (at : ℕ) where
  pub good_axis : good axis_kinds ws at ≡ cond (leb 3 (get_or ws (at + 2) 0)) false (cond (leb 3 (get_or ws (at + 3) 0)) false (cond (leb 3 (get_or ws (at + 4) 0)) false true))
  unfolding good every breaks wrong
  good_axis = axis_codes (leb 3 (get_or ws (at + 2) 0)) (leb 3 (get_or ws (at + 3) 0)) (leb 3 (get_or ws (at + 4) 0))

-- node, position, then both axes; a float or the order is never wrong
record_codes : (a b c d e f g h : Bool)
    → (not a && true && not b && true && true && not c && not d && not e && true && true && not f && not g && not h)
    ≡ cond a false (cond b false (cond (true && true && not c && not d && not e) (true && true && not f && not g && not h) false))
record_codes true b c d e f g h = refl
record_codes false true c d e f g h = refl
record_codes false false true d e f g h = refl
record_codes false false false true e f g h = refl
record_codes false false false false true f g h = refl
record_codes false false false false false f g h = refl

-- the last code of a record, before all others
last_first : (others bad : Bool) → (others && not bad) ≡ cond bad false others
last_first true true = refl
last_first true false = refl
last_first false true = refl
last_first false false = refl

module _ (n : ℕ) (ws : List ℕ) (at : ℕ) where
  code : ℕ → ℕ → Bool
  code limit k = leb limit (get_or ws (at + k) 0)

  pub good_record : good (candidate_kinds n) ws at
      ≡ cond (leb layer_count (get_or ws (at + layer_word) 0)) false
      (cond (leb n (get_or ws at 0)) false (cond (leb 5 (get_or ws (at + 2) 0)) false (cond (good axis_kinds ws (at + 3)) (good axis_kinds ws (at + 8)) false)))
  unfolding good every breaks wrong code
  good_record =
      last_first _ (code layer_count layer_word)
      ∙ ap (cond (code layer_count layer_word) false) (record_codes (code n 0) (code 5 2) (code 3 5) (code 3 6) (code 3 7) (code 3 10) (code 3 11) (code 3 12))
      ∙ rw (add-zero, add_assoc at 3 2, add_assoc at 3 3, add_assoc at 3 4, add_assoc at 8 2, add_assoc at 8 3, add_assoc at 8 4) refl
