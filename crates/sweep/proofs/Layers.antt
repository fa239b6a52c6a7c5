-- Layers are kept by a sweep and by a move. Assumes nothing.
use Prim.Native.Nat.{ℕ, ◌+◌, ◌/◌, ◌≤◌}
use native.Mathlib.Omega.{arith}
use native.Mathlib.Nat.{mul-div-le}
use mathlib.Core.Bool.{Bool, true, false, cond}
use mathlib.Core.List.{List, [], ◌∷◌, ◌++◌, map, map-append}
use mathlib.Core.Path.{◌≡◌, refl, sym, ap, ◌∙◌}
use lib.ListN.{length}
use borrow.Author.Tests.{leb-true}
use Rattle.std.specs.Prelude.{Option, Some, None, Ok, Float}
use Rattle.geometry.specs.declared.Point.{Point}
use Rattle.records.specs.Records.{room}
use Rattle.style.specs.declared.ContainingBlockClaims.{ContainingBlockClaims}
use Rattle.style.specs.declared.Position.{Position}
use Rattle.tree.specs.declared.layout.OofCandidate.{OofCandidate}
use Rattle.tree.specs.Static.{translated}
use Rattle.tree_record.specs.Candidate.{candidate_width}
use Rattle.sweep.specs.declared.Filled.{Filled}
use Rattle.sweep.specs.Sweep.{first_candidates, candidates_in, layers_of, moved, side, keep, appended, Outcome, swept}
use Rattle.sweep.specs.Laws.{AllFit, HasLayers, LayersKept}
use Rattle.sweep.proofs.Steps.{moved_position, kept_moved, into, no_room_in, no_room_out, room_both}
use Rattle.sweep.proofs.Laws.{never, swept_fits, keep_fits, appended_back}

moved_layer : (s : Option (Point Float)) (c : OofCandidate) → (moved s c).layer ≡ c.layer
unfolding moved translated
moved_layer None c = refl
moved_layer (Some location) c = refl

module _ (by : ContainingBlockClaims) (list : Bool) (s : Option (Point Float)) where
  kept_layers : (cs : List OofCandidate) → layers_of (keep by list (map (moved s) cs)) ≡ layers_of (keep by list cs)
  unfolding keep
  kept_layers [] = refl
  kept_layers (c ∷ cs) =
      ap
      (λ (p : Position). layers_of (cond (side by list p) (moved s c ∷ keep by list (map (moved s) cs)) (keep by list (map (moved s) cs))))
      (moved_position s c)
      ∙ go (keep by list (map (moved s) cs)) (keep by list cs) (kept_layers cs) (side by list c.position)
    where
      go : (xs ys : List OofCandidate) → layers_of xs ≡ layers_of ys → (b : Bool) → layers_of (cond b (moved s c ∷ xs) xs) ≡ layers_of (cond b (c ∷ ys) ys)
      go xs ys e true = rw (moved_layer s c, e) refl
      go xs ys e false = e

  -- one list
  one_list : (ws : List ℕ) (held : ℕ) (cs : List OofCandidate)
      → AllFit (map (moved s) cs)
      → room candidate_width (length ws) held (length (keep by list cs)) ≡ true
      → HasLayers (held + length (keep by list cs)) (appended ws held (keep by list (map (moved s) cs))) held ws (keep by list cs)
  unfolding room
  one_list ws held cs fits r =
      let kept = keep by list (map (moved s) cs) in
      let n = kept_moved by list s cs in
      let fit : held + length kept ≤ length ws / candidate_width = rw n (leb-true _ _ r) in
      let there = mul-div-le (length ws) candidate_width in
      ap (λ (m : ℕ). layers_of (first_candidates (held + m) (appended ws held kept))) (sym n)
      ∙ ap layers_of (appended_back ws held kept (keep_fits by list (map (moved s) cs) fits) (omega (arith, fit, there)))
      ∙ map-append (λ (c : OofCandidate). c.layer) (first_candidates held ws) kept
      ∙ ap (λ (l : List ℕ). layers_of (first_candidates held ws) ++ l) (kept_layers cs)

pub layers_kept : LayersKept
layers_kept by s slice w u f after e =
    go (room candidate_width (length w) f.working (length (keep by true cs))) (room candidate_width (length u) f.unclaimed (length (keep by false cs))) refl refl
  where
    cs : List OofCandidate
    cs = candidates_in slice

    Kept : Filled → Outcome → Type 0
    Kept a o = HasLayers a.working o.working f.working w (keep by true cs) × HasLayers a.unclaimed o.unclaimed f.unclaimed u (keep by false cs)

    there : (o : Outcome) → swept by (map (moved s) cs) w u f ≡ o → (a : Filled) → o.answer ≡ Ok a → Kept a o → Kept after (swept by (map (moved s) cs) w u f)
    there o p a q k =
        let g : Ok a ≡ Ok after = sym q ∙ sym (ap (λ (o : Outcome). o.answer) p) ∙ e in
        let h : a ≡ after = cc in
        rw (p, ← h) k

    go : (a b : Bool)
        → room candidate_width (length w) f.working (length (keep by true cs)) ≡ a
        → room candidate_width (length u) f.unclaimed (length (keep by false cs)) ≡ b
        → Kept after (swept by (map (moved s) cs) w u f)
    go true true d g =
        there (into by s cs w u f) (room_both by s cs w u f d g) _ refl
        (one_list by true s w f.working cs (swept_fits s slice) d, one_list by false s u f.unclaimed cs (swept_fits s slice) g)
    go true false d g = never (sym e ∙ ap (λ (o : Outcome). o.answer) (no_room_out by s cs w u f d g))
    go false b d g = never (sym e ∙ ap (λ (o : Outcome). o.answer) (no_room_in by s cs w u f d))
