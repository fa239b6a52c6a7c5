-- When a box and an area share a stretch, and the least offset at which they do. Assumes nothing.
use Rattle.std.proofs.Common.{ℕ, zero, suc, ◌+◌, ◌≤◌, ◌<◌, ◌≡◌, Bool, true, false, refl, ap, cond, arith, pos, ◌+ℤ◌, ◌<ℤ◌}
use Rattle.std.specs.Bool.{then_some}
use borrow.Author.Tests.{leb-true, leb-false}
use lib.Signed.{le_z}
use lib.Dec.{leb}
use mathlib.Core.Bool.{◌||◌}
use mathlib.Core.Logic.{◌⊎◌, inl, inr}
use Rattle.std.proofs.lemmas.Int.{ints}
use Rattle.std.specs.Prelude.{Option, Some, None}
use Rattle.reach.specs.Reach.{Axis, later, shares, first_from, least}
use Rattle.reach.specs.Laws.{SharesMeans, IsLeast, LeastIs, NoSize, EndsBefore, first_past}

-- both have a size, the box starts before the area ends, and the area starts before the box ends
pub record Overlap (a : Axis) (o : ℕ) : Type 0 where
  pub size : pos 0 <ℤ a.size
  pub area : pos 0 <ℤ a.area
  pub starts : a.start <ℤ (pos o +ℤ a.area)
  pub ends : pos o <ℤ (a.start +ℤ a.size)

pub overlaps : (a : Axis) (o : ℕ) → shares a o ≡ true → Overlap a o
unfolding shares
overlaps a o e = record { size = grind (arith, ints); area = grind (arith, ints); starts = grind (arith, ints); ends = grind (arith, ints) }

pub together : (a : Axis) (o : ℕ) → Overlap a o → shares a o ≡ true
unfolding shares
together a o v = grind (arith, ints, v.size, v.area, v.starts, v.ends)

pub apart : (a : Axis) (o : ℕ) → ¬ Overlap a o → shares a o ≡ false
apart a o n = go (shares a o) refl
  where
    go : (b : Bool) → shares a o ≡ b → b ≡ false
    go true e = absurd (n (overlaps a o e))
    go false e = refl

-- some eighth lies in both: the first of the later start
pub shares_means : SharesMeans
unfolding shares
shares_means a o = (λ e. (later a.start (pos o), (grind (arith, ints), grind (arith, ints), grind (arith, ints), grind (arith, ints))), λ t. grind (arith, ints, t.1))

-- ---- the search

-- of the offsets o to o + n
abbrev Found : Axis → ℕ → ℕ → Option ℕ → Type 0
Found a n o None = (i : ℕ) → o ≤ i → i ≤ o + n → shares a i ≡ false
Found a n o (Some m) = (o ≤ m) × (m ≤ o + n) × (shares a m ≡ true) × ((i : ℕ) → o ≤ i → i < m → shares a i ≡ false)

found : (a : Axis) (n o : ℕ) → Found a n o (first_from a n o)
unfolding first_from
found a zero o = go (shares a o) refl
  where
    go : (b : Bool) → shares a o ≡ b → Found a 0 o (cond b (Some o) None)
    go true e = (omega arith, omega arith, e, λ i h k. absurd (omega arith))
    go false e = λ i h k. grind arith
found a (suc n) o = go (shares a o) refl (first_from a n (suc o)) (found a n (suc o))
  where
    -- the first doesn't, so what is found among the others
    go : (b : Bool) → shares a o ≡ b → (r : Option ℕ) → Found a n (suc o) r → Found a (suc n) o (cond b (Some o) r)
    go true e r f = (omega arith, omega arith, e, λ i h k. absurd (omega arith))
    go false e None f = λ i h k. grind (arith, f i)
    go false e (Some m) f = (omega arith, omega arith, f.2, λ i h k. grind (arith, f.3 i))

pub least_found : (a : Axis) → IsLeast a (least a)
unfolding least
least_found a = go (first_from a a.last 0) (found a a.last 0)
  where
    go : (r : Option ℕ) → Found a a.last 0 r → IsLeast a r
    go None f = λ i h. f i (omega arith) (omega arith)
    go (Some m) f = (omega arith, f.2, λ i h. f.3 i (omega arith) h)

-- no two are the least
one_least : (a : Axis) (r q : Option ℕ) → IsLeast a r → IsLeast a q → r ≡ q
one_least a None None f g = refl
one_least a None (Some m) f g = grind (arith, f m, g.0, g.1)
one_least a (Some m) None f g = grind (arith, g m, f.0, f.1)
one_least a (Some m) (Some k) f g = ap Some (let s : m ≡ k = grind (arith, f.2 k, g.2 m, f.1, g.1) in s)

pub least_is : LeastIs
least_is a r = (λ e. rw e at (least_found a), λ f. one_least a (least a) r (least_found a) f)

-- ---- the least offset, worked out

-- there is none where no offset shares
none : (a : Axis) → ((o : ℕ) → o ≤ a.last → ¬ Overlap a o) → least a ≡ None
none a n = (least_is a None).1 (λ o h. apart a o (n o h))

-- what has no size, or an area without one; what ends at or before the start edge
pub none_seen : (a : Axis) → NoSize a ⊎ EndsBefore a → least a ≡ None
none_seen a (inl (inl h)) = none a (λ o l v. grind (arith, ints, v.size))
none_seen a (inl (inr h)) = none a (λ o l v. grind (arith, ints, v.area))
none_seen a (inr h) = none a (λ o l v. grind (arith, ints, v.ends))

-- what shares only past the last offset
pub too_far : (a : Axis) → a.last < first_past a → least a ≡ None
too_far a h = none a (λ o l v. grind (arith, ints, v.starts))

-- both have a size and the box ends after the start edge
abbrev pub Ahead : Axis → Type 0
Ahead a = (pos 0 <ℤ a.size) × (pos 0 <ℤ a.area) × (pos 0 <ℤ (a.start +ℤ a.size))

pub at_first : (a : Axis) → Ahead a → first_past a ≤ a.last → least a ≡ Some (first_past a)
at_first a p h =
    (least_is a (Some (first_past a))).1
    (h, together a (first_past a) (record { size = p.0; area = p.1; starts = grind (arith, ints); ends = grind (arith, ints) }), λ i k. apart a i (λ v. grind (arith, ints, v.starts)))

-- as the code tests it
pub least_tested : (a : Axis)
    → least a
    ≡ cond (le_z a.size (pos 0) || le_z a.area (pos 0) || le_z (a.start +ℤ a.size) (pos 0)) None (then_some (leb (first_past a) a.last) (first_past a))
least_tested a = go (le_z a.size (pos 0)) (le_z a.area (pos 0)) (le_z (a.start +ℤ a.size) (pos 0)) (leb (first_past a) a.last) refl refl refl refl
  where
    go : (b c d e : Bool) → le_z a.size (pos 0) ≡ b → le_z a.area (pos 0) ≡ c → le_z (a.start +ℤ a.size) (pos 0) ≡ d → leb (first_past a) a.last ≡ e
        → least a ≡ cond (b || c || d) None (then_some e (first_past a))
    go true c d e p q r t = none_seen a (inl (inl (grind (arith, ints))))
    go false true d e p q r t = none_seen a (inl (inr (grind (arith, ints))))
    go false false true e p q r t = none_seen a (inr (grind (arith, ints)))
    go false false false true p q r t = at_first a (grind (arith, ints), grind (arith, ints), grind (arith, ints)) (leb-true _ _ t)
    go false false false false p q r t = too_far a (leb-false _ _ t)
