-- Candidates one by one: of two lists, and of the records of a slice. Assumes nothing.
use borrow.Author.Rules.{rules}
use Prim.Native.Nat.{ℕ, zero, suc, ◌<◌}
use native.Mathlib.Omega.{arith}
use native.Mathlib.Nat.{not-suc-le-zero, le_of_suc-le-suc}
use mathlib.Core.Path.{◌≡◌, refl, ap, ◌∙◌}
use mathlib.Core.Bool.{Bool, true, false, cond}
use mathlib.Core.List.{List, [], ◌∷◌}
use lib.ListN.{length, get_or, drop, length-map, get_or-map}
use Rattle.util.proofs.Floats.{no}
use Rattle.style.specs.declared.ContainingBlockClaims.{ContainingBlockClaims}
use Rattle.tree.specs.declared.layout.OofCandidate.{OofCandidate}
use Rattle.records.specs.Records.{record_at, records}
use Rattle.records.proofs.Laws.{record_of_records}
use Rattle.tree_record.specs.Candidate.{candidate_width, candidate_of}
use Rattle.sweep.specs.Sweep.{first_candidates, side, keep}
use Rattle.mirror_run.specs.Runs.{Each, none, one}

-- what no list holds
abbrev pub nobody : OofCandidate
nobody = candidate_of []

-- ---- two lists, one by one

module _ {R : OofCandidate → OofCandidate → Type 0} where
  pub each_length : {cs cs' : List OofCandidate} → Each R cs cs' → length cs ≡ length cs'
  each_length none = refl
  each_length (one r e) = ap suc (each_length e)

  pub each_at : {cs cs' : List OofCandidate} → Each R cs cs' → (i : ℕ) → i < length cs → R (get_or cs i nobody) (get_or cs' i nobody)
  each_at none i h = absurd (not-suc-le-zero h)
  each_at (one r e) zero h = r
  each_at (one r e) (suc i) h = each_at e i (le_of_suc-le-suc h)

  pub each_by : (cs cs' : List OofCandidate) → length cs ≡ length cs' → ((i : ℕ) → i < length cs → R (get_or cs i nobody) (get_or cs' i nobody)) → Each R cs cs'
  each_by [] [] e f = none
  each_by [] (c ∷ cs) e f = absurd (omega arith)
  each_by (c ∷ cs) [] e f = absurd (omega arith)
  each_by (c ∷ cs) (d ∷ ds) e f = one (f 0 (omega arith)) (each_by cs ds (omega arith) (λ i h. f (suc i) (omega arith)))

  pub each_weaker : {S : OofCandidate → OofCandidate → Type 0} → ((c c' : OofCandidate) → R c c' → S c c') → {cs cs' : List OofCandidate} → Each R cs cs' → Each S cs cs'
  each_weaker f none = none
  each_weaker f (one {c = c} {c' = c'} r e) = one (f c c' r) (each_weaker f e)

  -- candidates of the same position go to the same list
  pub each_kept : (by : ContainingBlockClaims) (list : Bool) → ((c c' : OofCandidate) → R c c' → c.position ≡ c'.position)
      → {cs cs' : List OofCandidate}
      → Each R cs cs'
      → Each R (keep by list cs) (keep by list cs')
  unfolding keep
  each_kept by list f none = none
  each_kept by list f (one {c = c} {c' = c'} {cs = cs} {cs' = cs'} r e) =
      go (side by list c.position) (side by list c'.position) (ap (side by list) (f c c' r)) (keep by list cs) (keep by list cs')
      (each_kept by list f e)
    where
      go : (b b' : Bool) → b ≡ b' → (xs ys : List OofCandidate) → Each R xs ys → Each R (cond b (c ∷ xs) xs) (cond b' (c' ∷ ys) ys)
      go true true e xs ys h = one r h
      go true false e xs ys h = no refl e
      go false true e xs ys h = no e refl
      go false false e xs ys h = h

-- ---- the records of a slice

records_length : (w n : ℕ) (ws : List ℕ) → length (records w n ws) ≡ n
unfolding records
records_length w zero ws = refl
records_length w (suc n) ws = ap suc (records_length w n (drop w ws))

pub first_length : (n : ℕ) (ws : List ℕ) → length (first_candidates n ws) ≡ n
unfolding first_candidates
first_length n ws = length-map (records candidate_width n ws) candidate_of ∙ records_length candidate_width n ws

pub first_at : (n : ℕ) (ws : List ℕ) (i : ℕ) → i < n → get_or (first_candidates n ws) i nobody ≡ candidate_of (record_at candidate_width ws i)
unfolding first_candidates
first_at n ws i h = search (rules, get_or-map, record_of_records)

module _ {R : OofCandidate → OofCandidate → Type 0} (n : ℕ) (ws ws' : List ℕ) where
  pub first_by : ((i : ℕ) → i < n → R (candidate_of (record_at candidate_width ws i)) (candidate_of (record_at candidate_width ws' i)))
      → Each R (first_candidates n ws) (first_candidates n ws')
  first_by f = search (rules, each_by, first_at, first_length)

  pub first_each : Each R (first_candidates n ws) (first_candidates n ws') → (i : ℕ) → i < n
      → R (candidate_of (record_at candidate_width ws i)) (candidate_of (record_at candidate_width ws' i))
  first_each e i l = rw (first_at n ws i l, first_at n ws' i l) at (each_at e i (rw (first_length n ws) l))
