-- Comparisons of exact floats are those of the integers. Assumes nothing.
use Rattle.std.proofs.lemmas.Bool.Decides.{nat_tests}
use borrow.Author.Rules.{rules}
use mathlib.Core.Path.{◌≡◌, sym, ap₂, ◌∙◌}
use mathlib.Core.Bool.{and-true, Bool, true, false, ◌&&◌, ◌||◌}
use Prim.Native.Nat.{ℕ, ◌+◌, ◌*◌, ◌<◌}
use native.Mathlib.Nat.{mul-pos}
use native.Mathlib.Omega.{arith}
use lib.Dec.{eqb}
use lib.Ieee.{Float, nan, inf, fin, up, down, lt, le, eq, below, level}
use lib.Ieee.Fits.{down_pos}
use borrow.Author.Tests.{eqb-true, le-ltb, eq-eqb}
use Rattle.util_exact.specs.Integer.{N, EqN}
use Rattle.util_exact.specs.Value.{Signed, ◌≐◌}
use Rattle.util_exact.proofs.Tests.{ltb_same, eqb_same, leb_split}
use Rattle.util_exact.proofs.Integers.{lt_n, le_n, eq_n}
use Rattle.util_exact.proofs.Exact.{Val, Exact}
use Rattle.util_exact.proofs.Sum.{over_left, over_right, size_le, size_lt}

-- ---- below

below_val : (s t : Bool) (A B C u v : ℕ) (a d : N) → 0 < C → A * 16 ≡ u * C → B * 16 ≡ v * C → Signed s u a → Signed t v d → below s A t B ≡ lt_n a d
below_val false false A B C u v a d D p q g h =
    ltb_same A B (a.p + d.n) (d.p + a.n) (λ x. omega (arith, size_lt A B u v C p q x)) (λ x. omega (arith, size_le B A v u C D q p x))
below_val false true A B C u v a d D p q g h = sym (le-ltb (a.p + d.n) (d.p + a.n) (omega arith))
below_val true false A B C u v a d D p q g h =
    ltb_same 0 (A + B) (a.p + d.n) (d.p + a.n)
    (λ x. omega (arith, size_lt 0 (A + B) 0 (u + v) C (omega arith) (omega arith) x))
    (λ x. omega (arith, size_le (A + B) 0 (u + v) 0 C D (omega arith) (omega arith) x))
below_val true true A B C u v a d D p q g h =
    ltb_same B A (a.p + d.n) (d.p + a.n) (λ x. omega (arith, size_lt B A v u C q p x)) (λ x. omega (arith, size_le A B u v C D p q x))

lt_val : (x y : Float) (u v : ℕ) (a d : N) → Val x a u → Val y d v → lt x y ≡ lt_n a d
unfolding lt
lt_val nan y u v a d p q = absurd p
lt_val (inf s) y u v a d p q = absurd p
lt_val (fin s m e) nan u v a d p q = absurd q
lt_val (fin s m e) (inf t) u v a d p q = absurd q
lt_val (fin s m e) (fin t k g) u v a d p q =
    below_val s t (m * up e * down g) (k * up g * down e) (down e * down g) u v a d (mul-pos (down_pos e) (down_pos g))
    (over_left (m * up e) u (down e) (down g) p.0) (over_right (k * up g) v (down e) (down g) q.0) p.1 q.1

pub lt_exact : {g g' b c : ℕ} {x y : Float} {a d : N} → Exact g b x a → Exact g' c y d → lt x y ≡ lt_n a d
lt_exact {x = x} {y = y} {a = a} {d = d} h k = lt_val x y h.z k.z a d h.val k.val

-- ---- equal

size_eq : (A B C u v : ℕ) → 0 < C → A * 16 ≡ u * C → B * 16 ≡ v * C → A ≡ B → u ≡ v
size_eq A B C u v D p q e = search rules

eq_size : (A B C u v : ℕ) → A * 16 ≡ u * C → B * 16 ≡ v * C → u ≡ v → A ≡ B
eq_size A B C u v p q e = search rules

alike : (A B C u v X Y : ℕ) → 0 < C → A * 16 ≡ u * C → B * 16 ≡ v * C → (X ≡ Y → u ≡ v) → (u ≡ v → X ≡ Y) → eqb A B && true ≡ eqb X Y
alike A B C u v X Y D p q f g = rw and-true (search (rules, eq_size, eqb_same, size_eq))

-- of unlike signs: equal where both are zero
unlike : (A B C u v X Y : ℕ) → 0 < C → A * 16 ≡ u * C → B * 16 ≡ v * C → (X ≡ Y → u + v ≡ 0) → (u + v ≡ 0 → X ≡ Y) → eqb A B && (false || eqb A 0) ≡ eqb X Y
unlike A B C u v X Y D p q f g = search rules

level_val : (s t : Bool) (A B C u v : ℕ) (a d : N) → 0 < C → A * 16 ≡ u * C → B * 16 ≡ v * C → Signed s u a → Signed t v d → level s A t B ≡ eq_n a d
level_val s t A B C u v a d D p q g h = grind (arith, nat_tests, alike, unlike)

eq_val : (x y : Float) (u v : ℕ) (a d : N) → Val x a u → Val y d v → eq x y ≡ eq_n a d
unfolding eq
eq_val nan y u v a d p q = absurd p
eq_val (inf s) y u v a d p q = absurd p
eq_val (fin s m e) nan u v a d p q = absurd q
eq_val (fin s m e) (inf t) u v a d p q = absurd q
eq_val (fin s m e) (fin t k g) u v a d p q =
    level_val s t (m * up e * down g) (k * up g * down e) (down e * down g) u v a d (mul-pos (down_pos e) (down_pos g))
    (over_left (m * up e) u (down e) (down g) p.0) (over_right (k * up g) v (down e) (down g) q.0) p.1 q.1

pub eq_exact : {g g' b c : ℕ} {x y : Float} {a d : N} → Exact g b x a → Exact g' c y d → eq x y ≡ eq_n a d
eq_exact {x = x} {y = y} {a = a} {d = d} h k = eq_val x y h.z k.z a d h.val k.val

-- the same integer, the same number
pub same_number : {g g' b c : ℕ} {x y : Float} {a d : N} → Exact g b x a → Exact g' c y d → EqN a d → x ≐ y
same_number {a = a} {d = d} h k e = eq_exact h k ∙ eq-eqb (a.p + d.n) (d.p + a.n) e

pub same_integer : {g g' b c : ℕ} {x y : Float} {a d : N} → Exact g b x a → Exact g' c y d → x ≐ y → EqN a d
same_integer {a = a} {d = d} h k e = eqb-true (a.p + d.n) (d.p + a.n) (sym (eq_exact h k) ∙ e)

-- ---- at most

pub le_exact : {g g' b c : ℕ} {x y : Float} {a d : N} → Exact g b x a → Exact g' c y d → le x y ≡ le_n a d
unfolding le
le_exact {a = a} {d = d} h k = ap₂ ◌||◌ (lt_exact h k) (eq_exact h k) ∙ leb_split (a.p + d.n) (d.p + a.n)
