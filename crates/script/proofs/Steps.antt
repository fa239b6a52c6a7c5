-- The steps of the code are those of the definitions. Assumes nothing.
use Prim.Native.Nat.{ℕ, suc, ◌+◌, ◌-◌, ◌*◌, ◌/◌, ◌<◌, ◌≤◌}
use native.Mathlib.Omega.{arith}
use mathlib.Core.Path.{◌≡◌, refl, sym, ap, ◌∙◌}
use mathlib.Core.List.{List}
use lib.ListN.{length}
use Rattle.run.specs.declared.Opening.{Opening}
use Rattle.run.specs.declared.Step.{Step}
use Rattle.run.specs.Call.{Outcome, lent, outcome}
use Rattle.run.specs.Run.{opened}
use Rattle.tree_record.specs.Candidate.{candidate_width}
use Rattle.script.specs.Script.{played_on, played, played_out}

-- ---- the loop

one_turn : (replies styles : List ℕ) (o : Outcome) (i n : ℕ) → i < n → played (n - i) replies styles o ≡ played (n - (i + 1)) replies styles (played_on replies styles o)
unfolding played
one_turn replies styles o i n h = rw (turn i n h) refl
  where
    turn : (i n : ℕ) → i < n → n - i ≡ suc (n - (i + 1))
    turn i n h = omega arith

no_turn : (replies styles : List ℕ) (o : Outcome) (i n : ℕ) → n ≤ i → played (n - i) replies styles o ≡ o
unfolding played
no_turn replies styles o i n h = rw (done i n h) refl
  where
    done : (i n : ℕ) → n ≤ i → n - i ≡ 0
    done i n h = omega arith

module _ (replies styles : List ℕ) (s : Step) (l w u t : List ℕ) where
  -- one turn, after which r and the words with a mark are left
  pub turned : {r : Step} {l' w' u' t' : List ℕ} (i n : ℕ) → i < n → outcome r l' w' u' t' ≡ played_on replies styles (outcome s l w u t)
      → played (n - i) replies styles (outcome s l w u t) ≡ played (n - (i + 1)) replies styles (outcome r l' w' u' t')
  turned i n h p = one_turn replies styles (outcome s l w u t) i n h ∙ ap (played (n - (i + 1)) replies styles) (sym p)

  -- no turn is left: what is left is what was opened, played out
  pub ended : {r : Step} {l' w' u' t' : List ℕ} (o : Opening) (candidates l₀ w₀ u₀ t₀ : List ℕ) (i n : ℕ)
      → n ≡ 3 * (length candidates / candidate_width)
      → n ≤ i
      → outcome s l w u t ≡ opened o candidates (lent styles l₀ w₀ u₀ t₀)
      → played n replies styles (outcome s l w u t) ≡ played (n - i) replies styles (outcome r l' w' u' t')
      → outcome r l' w' u' t' ≡ played_out o replies candidates (lent styles l₀ w₀ u₀ t₀)
  unfolding played_out
  ended {r} {l'} {w'} {u'} {t'} o candidates l₀ w₀ u₀ t₀ i n k h p e =
      sym (no_turn replies styles (outcome r l' w' u' t') i n h) ∙ sym e ∙ rw k (ap (played (3 * (length candidates / candidate_width)) replies styles) p)
