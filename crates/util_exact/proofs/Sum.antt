-- Sums and differences of exact floats are exact below 2 ^ 24 sixteenths. Assumes nothing.
use borrow.Author.Rules.{rules}
use mathlib.Core.Path.{◌≡◌, refl, ap, ◌∙◌}
use mathlib.Core.Bool.{Bool, true, false, ◌&&◌, cond}
use Prim.Native.Nat.{ℕ, ◌+◌, ◌-◌, ◌*◌, ◌^◌, ◌≤◌, ◌<◌}
use native.Mathlib.Nat.{mul_assoc, mul_comm, mul_right_comm, mul-pos, lt_of_mul-lt-mul_right}
use native.Mathlib.Omega.{arith}
use lib.Dec.{ltb}
use borrow.Author.Tests.{ltb-true, ltb-false}
use lib.Ieee.{Float, nan, inf, fin, up, down, round, sum, add, sub, neg, binary32}
use lib.Ieee.Fits.{down_pos}
use Rattle.util.specs.Number.{◌⊕◌, ◌⊖◌}
use Rattle.util_exact.specs.Integer.{N, add_n}
use Rattle.util_exact.specs.Value.{Signed}
use Rattle.util_exact.proofs.Integers.{neg_n, sub_n, neg_mult, add_mult}
use Rattle.util_exact.proofs.Exact.{Val, Exact, round_val}

-- ---- two fractions over a common denominator C, of u and v sixteenths

pub over_left : (m u E G : ℕ) → m * 16 ≡ u * E → m * G * 16 ≡ u * (E * G)
over_left m u E G h = mul_right_comm m G 16 ∙ ap (λ (x : ℕ). x * G) h ∙ mul_assoc u E G

pub over_right : (m u E G : ℕ) → m * 16 ≡ u * G → m * E * 16 ≡ u * (E * G)
over_right m u E G h = over_left m u G E h ∙ ap (λ (x : ℕ). u * x) (mul_comm G E)

pub size_le : (A B u v C : ℕ) → 0 < C → A * 16 ≡ u * C → B * 16 ≡ v * C → A ≤ B → u ≤ v
size_le A B u v C D p q h = search rules

pub size_lt : (A B u v C : ℕ) → A * 16 ≡ u * C → B * 16 ≡ v * C → A < B → u < v
size_lt A B u v C p q h = lt_of_mul-lt-mul_right C (omega arith)

difference : (A B u v C : ℕ) → u ≤ v → A * 16 ≡ u * C → B * 16 ≡ v * C → A ≤ B → (B - A) * 16 ≡ (v - u) * C
difference A B u v C l p q h = grind arith

-- ---- sums

-- the rounded x is a, of size b at most
abbrev Rounded : ℕ → Float → N → Type 0
Rounded b x a = (z : ℕ) × Val x a z × (z ≤ b)

-- the larger less the smaller
less : (s : Bool) (A B C u v : ℕ) (a : N) → 0 < C → A * 16 ≡ u * C → B * 16 ≡ v * C → u + v < 2 ^ 24 → A ≤ B → (u ≤ v → Signed s (v - u) a) → Rounded (u + v) (round binary32 s (B - A) C) a
less s A B C u v a D p q l h g =
    let j = size_le A B u v C D p q h in
    (v - u, round_val s (B - A) C (v - u) a D (omega arith) (difference A B u v C j p q h) (g j), omega arith)

sum_val : (s t : Bool) (A B C u v : ℕ) (a d : N) → 0 < C → A * 16 ≡ u * C → B * 16 ≡ v * C → u + v < 2 ^ 24 → Signed s u a → Signed t v d → Rounded (u + v) (sum binary32 s A t B C) (add_n a d)
unfolding sum
sum_val false false A B C u v a d D p q l g h = (u + v, round_val false (A + B) C (u + v) (add_n a d) D l (omega arith) (omega arith), omega arith)
sum_val true true A B C u v a d D p q l g h = (u + v, round_val true (A + B) C (u + v) (add_n a d) D l (omega arith) (omega arith), omega arith)
sum_val false true A B C u v a d D p q l g h = go (ltb A B) refl
  where
    go : (t : Bool) → ltb A B ≡ t → Rounded (u + v) (cond t (round binary32 true (B - A) C) (round binary32 (false && ltb B A) (A - B) C)) (add_n a d)
    go true e = less true A B C u v (add_n a d) D p q l (omega (arith, ltb-true A B e)) (λ i. omega arith)
    go false e = let r = less false B A C v u (add_n a d) D q p (omega arith) (ltb-false A B e) (λ i. omega arith) in (r.0, r.1, omega (arith, r.2))
sum_val true false A B C u v a d D p q l g h = go (ltb A B) refl (ltb B A) refl
  where
    go : (t : Bool) → ltb A B ≡ t → (w : Bool) → ltb B A ≡ w → Rounded (u + v) (cond t (round binary32 false (B - A) C) (round binary32 (true && w) (A - B) C)) (add_n a d)
    go true e w f = less false A B C u v (add_n a d) D p q l (omega (arith, ltb-true A B e)) (λ i. omega arith)
    go false e true f = let r = less true B A C v u (add_n a d) D q p (omega arith) (ltb-false A B e) (λ i. omega arith) in (r.0, r.1, omega (arith, r.2))
    go false e false f =
        let i = size_le A B u v C D p q (ltb-false B A f) in
        let r = less false B A C v u (add_n a d) D q p (omega arith) (ltb-false A B e) (λ j. omega arith) in
        (r.0, r.1, omega (arith, r.2))

add_val : (x y : Float) (u v : ℕ) (a d : N) → Val x a u → Val y d v → u + v < 2 ^ 24 → Rounded (u + v) (add binary32 x y) (add_n a d)
unfolding add
add_val nan y u v a d p q l = absurd p
add_val (inf s) y u v a d p q l = absurd p
add_val (fin s m e) nan u v a d p q l = absurd q
add_val (fin s m e) (inf t) u v a d p q l = absurd q
add_val (fin s m e) (fin t k g) u v a d p q l =
    sum_val s t (m * up e * down g) (k * up g * down e) (down e * down g) u v a d (mul-pos (down_pos e) (down_pos g))
    (over_left (m * up e) u (down e) (down g) p.0) (over_right (k * up g) v (down e) (down g) q.0) l p.1 q.1

pub add_exact : {g b c : ℕ} {x y : Float} {a d : N} → Exact g b x a → Exact g c y d → b + c < 16777216 → Exact g (b + c) (x ⊕ y) (add_n a d)
add_exact h k l = search (rules, add_mult, add_val)

neg_val : (x : Float) (u : ℕ) (a : N) → Val x a u → Val (neg x) (neg_n a) u
unfolding neg
neg_val x u a p = search rules

pub neg_exact : {g b : ℕ} {x : Float} {a : N} → Exact g b x a → Exact g b (neg x) (neg_n a)
neg_exact h = search (rules, neg_mult, neg_val)

pub sub_exact : {g b c : ℕ} {x y : Float} {a d : N} → Exact g b x a → Exact g c y d → b + c < 16777216 → Exact g (b + c) (x ⊖ y) (sub_n a d)
unfolding sub
sub_exact h k l = add_exact h (neg_exact k) l
