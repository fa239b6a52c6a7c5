-- Surfaced candidates that nobody claims: moved by different locations they differ in x alone. Assumes nothing.
use borrow.Author.Rules.{rules}
use Prim.Native.Nat.{ℕ, ◌+◌, ◌*◌, ◌≤◌}
use native.Mathlib.Omega.{arith}
use mathlib.Core.Path.{◌≡◌, refl, sym, ap, ◌∙◌}
use mathlib.Core.Bool.{true, false}
use mathlib.Core.List.{List, [], ◌∷◌, ◌++◌, map}
use lib.ListN.{length}
use Rattle.std.specs.Prelude.{Option, Some, Float}
use Rattle.geometry.specs.declared.Point.{Point}
use Rattle.style.specs.declared.ContainingBlockClaims.{ContainingBlockClaims}
use Rattle.tree.specs.Static.{shifted_axis, translated}
use Rattle.tree.specs.declared.layout.OofCandidate.{OofCandidate}
use Rattle.tree.specs.declared.layout.OofPositioningArea.{OofPositioningArea}
use Rattle.tree_record.specs.Candidate.{candidate_width}
use Rattle.sweep.specs.Sweep.{first_candidates, candidates_in, moved, keep, appended}
use Rattle.sweep.proofs.Steps.{kept_moved}
use Rattle.sweep.proofs.Laws.{swept_fits, kept_fits, appended_back}
use Rattle.mirror_run.specs.Runs.{Each, none, one, SameButX, Unclaimed, surfaced, image}
use Rattle.mirror_run.proofs.Lists.{each_kept}

nothing : (cs : List OofCandidate) → length cs ≡ 0 → cs ≡ []
nothing [] e = refl
nothing (c ∷ cs) e = absurd (omega arith)

-- what nobody claims where it stands, nobody claims where it is moved to
pub none_kept : (by : ContainingBlockClaims) (s : Option (Point Float)) (cs : List OofCandidate) → keep by true cs ≡ [] → keep by true (map (moved s) cs) ≡ []
none_kept by s cs e = nothing (keep by true (map (moved s) cs)) (kept_moved by true s cs ∙ ap length e)

each_moved : (a b : Point Float) → a.y ≡ b.y → (cs : List OofCandidate) → Each SameButX (map (moved (Some a)) cs) (map (moved (Some b)) cs)
unfolding moved translated shifted_axis
each_moved a b e [] = none
each_moved a b e (c ∷ cs) = one (record { node = refl; order = refl; position = refl; align = refl; y = ap (shifted_axis c.place.y) e; layer = refl }) (each_moved a b e cs)

more_unclaimed : {area : OofPositioningArea} {n : ℕ} {cs cs' ds ds' : List OofCandidate} → Unclaimed area n cs cs' → Each SameButX ds ds' → Unclaimed area n (cs ++ ds) (cs' ++ ds')
more_unclaimed (image i u) e = image i (more_unclaimed u e)
more_unclaimed (surfaced u) e = surfaced (joined u e)
  where
    joined : {cs cs' ds ds' : List OofCandidate} → Each SameButX cs cs' → Each SameButX ds ds' → Each SameButX (cs ++ ds) (cs' ++ ds')
    joined none e = e
    joined (one r u) e = one r (joined u e)

module _ (by : ContainingBlockClaims) (words : List ℕ) where
  -- how many they are
  abbrev pub count : ℕ
  count = length (keep by false (candidates_in words))

  module _ (u : List ℕ) (held : ℕ) (room : candidate_width * (held + count) ≤ length u) where
    -- the unclaimed list, read back
    pub unclaimed_back : (at : Point Float) → first_candidates (held + count) (appended u held (keep by false (map (moved (Some at)) (candidates_in words))))
        ≡ first_candidates held u ++ keep by false (map (moved (Some at)) (candidates_in words))
    unclaimed_back at =
        let cs = keep by false (map (moved (Some at)) (candidates_in words)) in
        let e : length cs ≡ count = kept_moved by false (Some at) (candidates_in words) in
        ap (λ (n : ℕ). first_candidates (held + n) (appended u held cs)) (sym e)
        ∙ appended_back u held cs (kept_fits by (map (moved (Some at)) (candidates_in words)) (swept_fits (Some at) words)).1 (rw e room)

  pub surfaced_unclaimed : {area : OofPositioningArea} {n : ℕ} (u u' : List ℕ) (held : ℕ) → candidate_width * (held + count) ≤ length u → candidate_width * (held + count) ≤ length u'
      → (a b : Point Float) → a.y ≡ b.y
      → Unclaimed area n (first_candidates held u) (first_candidates held u')
      → Unclaimed area n (first_candidates (held + count) (appended u held (keep by false (map (moved (Some a)) (candidates_in words)))))
      (first_candidates (held + count) (appended u' held (keep by false (map (moved (Some b)) (candidates_in words)))))
  surfaced_unclaimed u u' held r r' a b e h = search (rules, each_kept, each_moved, more_unclaimed, unclaimed_back)
