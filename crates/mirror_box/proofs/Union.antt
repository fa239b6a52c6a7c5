-- The larger and the smaller of numbers that are equal in both runs are equal, whatever numbers they are. Assumes nothing.
use borrow.Author.Rules.{rules}
use Rattle.std.proofs.lemmas.Bool.{and_parts}
use mathlib.Core.Path.{◌≡◌, refl}
use mathlib.Core.Logic.{◌⊎◌, inl, inr}
use mathlib.Core.Bool.{Bool, true, false, beq, ◌||◌}
use Prim.Native.Nat.{ℕ}
use lib.Dec.{eqb}
use lib.Ieee.{Float, lt, le, eq, level}
use borrow.Author.Tests.{eqb-true}
use Rattle.util.specs.Order.{larger, smaller}
use Rattle.util.proofs.Order.{eq_le, le_numbers, le_trans, not_above_lem, equal}
use Rattle.util.proofs.Laws.{larger_bounds, larger_is_one, smaller_bounds, smaller_is_one}
use Rattle.geometry.specs.Geometry.{union_of}
use Rattle.util_exact.specs.Value.{◌≐◌}
use Rattle.mirror_box.specs.Law.{UnionsMirrored}

-- ---- equal as numbers: at most, either way

beq_sym : (s t : Bool) → beq s t ≡ beq t s
beq_sym s t = search rules

level_sym : (s : Bool) (a : ℕ) (t : Bool) (b : ℕ) → level s a t b ≡ true → level t b s a ≡ true
level_sym s a t b h = let e = eqb-true a b (and_parts (eqb a b) (beq s t || eqb a 0) h).0 in rw (e, beq_sym t s) (rw e at h)

eq_sym : (x y : Float) → x ≐ y → y ≐ x
unfolding eq
eq_sym x y h = search (rules, beq_sym, level_sym)

never_below : (x y : Float) → le y x ≡ true → (t : Bool) → lt x y ≡ t → lt x y ≡ false
never_below x y h true e = absurd (not_above_lem x y e h)
never_below x y h false e = e

le_both : (x y : Float) → le x y ≡ true → le y x ≡ true → x ≐ y
le_both x y h k =
    let n = le_numbers x y h in
    equal x y n.0 n.1 (never_below x y k (lt x y) refl) (never_below y x h (lt y x) refl)

-- ---- larger and smaller

larger_le : (x y x' y' : Float) → le x x' ≡ true → le y y' ≡ true → le (larger x y) (larger x' y') ≡ true
larger_le x y x' y' h k = go (larger_is_one x y)
  where
    go : (larger x y ≡ x) ⊎ (larger x y ≡ y) → le (larger x y) (larger x' y') ≡ true
    go (inl e) = rw e (le_trans x x' (larger x' y') h ((larger_bounds x' y').0 (le_numbers x x' h).1).1)
    go (inr e) = rw e (le_trans y y' (larger x' y') k ((larger_bounds x' y').1 (le_numbers y y' k).1).1)

smaller_le : (x y x' y' : Float) → le x x' ≡ true → le y y' ≡ true → le (smaller x y) (smaller x' y') ≡ true
smaller_le x y x' y' h k = go (smaller_is_one x' y')
  where
    go : (smaller x' y' ≡ x') ⊎ (smaller x' y' ≡ y') → le (smaller x y) (smaller x' y') ≡ true
    go (inl e) = rw e (le_trans (smaller x y) x x' ((smaller_bounds x y).0 (le_numbers x x' h).0).1 h)
    go (inr e) = rw e (le_trans (smaller x y) y y' ((smaller_bounds x y).1 (le_numbers y y' k).0).1 k)

-- a function of two numbers that keeps their order, of equal numbers
equal_by : (f : Float → Float → Float) → ((x y x' y' : Float) → le x x' ≡ true → le y y' ≡ true → le (f x y) (f x' y') ≡ true)
    → (x y x' y' : Float) → x ≐ x' → y ≐ y' → f x y ≐ f x' y'
equal_by f rising x y x' y' h k = search (rules, eq_le, eq_sym, le_both)

pub unions_mirrored : UnionsMirrored
unfolding union_of
unions_mirrored r r' s s' h k = search (rules, equal_by, larger_le, smaller_le)
