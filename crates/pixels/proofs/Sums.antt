-- Where a sum of accepted numbers is accepted, it was exact. Assumes nothing.
use Prim.Native.Nat.{ℕ, zero, suc, ◌+◌, ◌-◌, ◌*◌, ◌^◌, ◌<◌, ◌≤◌}
use native.Mathlib.Omega.{arith}
use native.Mathlib.Nat.{mul_assoc, mul_comm, mul_right_comm, mul-pos, mul-le-mul_right, mul-lt-mul_of_pos_right, le_of_mul-le-mul_right, eq_of_mul-eq-mul_right, le_refl}
use mathlib.Core.Path.{◌≡◌, refl, sym, ap, ap₂, ◌∙◌}
use mathlib.Core.Bool.{Bool, true, false, cond, ◌&&◌, ◌||◌, beq, and-true, and-eq-true_iff}
use lib.IntN.{ℤ, pos, neg_ℤ, ◌+ℤ◌, neg_ℤ-neg_ℤ, neg_ℤ-+ℤ, +ℤ_comm, +ℤ-neg_ℤ_cancel}
use lib.Dec.{ltb, leb, eqb, lit<}
use lib.Ieee.{Float, nan, inf, fin, up, down, odd, units, round, sum, add, lt, le, eq, level, binary32}
use lib.Ieee.Bits.{is_true}
use lib.Ieee.Exact.{HasValue}
use lib.Ieee.Fits.{down_pos}
use lib.Ieee.Order.{drop, kept, round_mono, le_of_values}
use lib.Ieee.Positive.{den, den_pos, value→cross}
use lib.Ieee.Scale.{round_same}
use borrow.Author.Tests.{lt-ltb, ltb-true, ltb-false, leb-true, leb-false, eqb-true}
use Rattle.util.specs.Number.{◌⊕◌}
use Rattle.util.specs.Eighths.{eighths}
use Rattle.util.proofs.Floats.{no}
use Rattle.util.proofs.Order.{le_trans, level_sign}
use Rattle.util.proofs.Count.{eighths_value}
use Rattle.pixels.specs.Accepted.{signed}
use Rattle.pixels.specs.Conditions.{SmallEighths}
use Rattle.pixels.specs.Laws.{AcceptedSumIsExact}
use Rattle.pixels.proofs.Numbers.{one_integer, accepted_exactly, integer_is_exact}

-- ---- a sum of floats is the sum of their integers, rounded

-- x is z / 8, rounded
record Rounded (x : Float) (z : ℤ) : Type 0 where
  sign : Bool
  size : ℕ
  float : x ≡ round binary32 sign size 8
  integer : z ≡ signed sign size

signed_sum : (s : Bool) (a b : ℕ) → signed s a +ℤ signed s b ≡ signed s (a + b)
signed_sum false a b = refl
signed_sum true a b = sym (neg_ℤ-+ℤ (pos a) (pos b))

abbrev Opposite : Bool → Bool → Type 0
Opposite s t = (n : ℕ) → signed t n ≡ neg_ℤ (signed s n)

signed_less : (s t : Bool) → Opposite s t → (a b : ℕ) → signed s (a + b) +ℤ signed t b ≡ signed s a
signed_less s t o a b = rw (o b, ← signed_sum s a b) (+ℤ-neg_ℤ_cancel (signed s a) (signed s b))

-- N / C is k eighths
rounded : {z : ℤ} (s : Bool) (N C k : ℕ) → 0 < C → N * 8 ≡ k * C → z ≡ signed s k → Rounded (round binary32 s N C) z
rounded s N C k D h e = record { sign = s; size = k; float = round_same binary32 s N C k 8 D (lit< tt) h; integer = e }

-- A / C and B / C are u and v eighths: the larger less the smaller
less : (r s t : Bool) (A B C u v : ℕ) → Opposite s t → 0 < C → A * 8 ≡ u * C → B * 8 ≡ v * C → B ≤ A → (0 < u - v → s ≡ r)
    → Rounded (round binary32 r (A - B) C) (signed s u +ℤ signed t v)
less r s t A B C u v o D p q h k =
    let l : v ≤ u = le_of_mul-le-mul_right (omega (arith, mul-le-mul_right 8 h)) D in
    let e : u ≡ u - v + v = omega arith in
    let f : u * C ≡ (u - v + v) * C = ap (λ (x : ℕ). x * C) e in
    rounded r (A - B) C (u - v) D (omega arith) (ap (λ (x : ℕ). signed s x +ℤ signed t v) e ∙ signed_less s t o (u - v) v ∙ one_integer s r (u - v) k)

module _ (A B C u v : ℕ) (D : 0 < C) (p : A * 8 ≡ u * C) (q : B * 8 ≡ v * C) where
  like : (s : Bool) → Rounded (round binary32 s (A + B) C) (signed s u +ℤ signed s v)
  like s = rounded s (A + B) C (u + v) D (omega arith) (signed_sum s u v)

  unlike : (s t : Bool) → Opposite s t → Opposite t s
      → Rounded (cond (ltb A B) (round binary32 t (B - A) C) (round binary32 (s && ltb B A) (A - B) C)) (signed s u +ℤ signed t v)
  unlike s t o i = go (ltb A B) refl
    where
      -- a difference of 0 has no sign
      own : 0 < u - v → s ≡ (s && ltb B A)
      own h =
          let l : v * C < u * C = mul-lt-mul_of_pos_right (omega arith) D in
          rw (lt-ltb B A (omega arith)) (sym (and-true s))

      go : (b : Bool) → ltb A B ≡ b → Rounded (cond b (round binary32 t (B - A) C) (round binary32 (s && ltb B A) (A - B) C)) (signed s u +ℤ signed t v)
      go true e = rw (+ℤ_comm (signed s u) (signed t v)) (less t t s B A C v u i D q p (omega (arith, ltb-true A B e)) (λ h. refl))
      go false e = less (s && ltb B A) s t A B C u v o D p q (ltb-false A B e) own

  sum_is : (s t : Bool) → Rounded (sum binary32 s A t B C) (signed s u +ℤ signed t v)
  unfolding sum
  sum_is false false = like false
  sum_is true true = like true
  sum_is false true = unlike false true (λ n. refl) (λ n. sym (neg_ℤ-neg_ℤ (pos n)))
  sum_is true false = unlike true false (λ n. sym (neg_ℤ-neg_ℤ (pos n))) (λ n. refl)

over : (a u c d : ℕ) → a * 8 ≡ u * c → a * d * 8 ≡ u * (c * d)
over a u c d h = mul_right_comm a d 8 ∙ ap (λ (x : ℕ). x * d) h ∙ mul_assoc u c d

add_is : (x y : Float) (s t : Bool) (u v : ℕ) → HasValue x s u 8 → HasValue y t v 8 → Rounded (x ⊕ y) (signed s u +ℤ signed t v)
unfolding add
add_is nan y s t u v p q = absurd p
add_is (inf r) y s t u v p q = absurd p
add_is (fin r m e) nan s t u v p q = absurd q
add_is (fin r m e) (inf d) s t u v p q = absurd q
add_is (fin r m e) (fin d k g) s t u v p q =
    rw (← p.0, ← q.0)
    (sum_is (m * up e * down g) (k * up g * down e) (down e * down g) u v (mul-pos (down_pos e) (down_pos g))
    (over (m * up e) u (down e) (down g) p.1) (over (k * up g) v (down g) (down e) q.1 ∙ ap (λ (x : ℕ). v * x) (mul_comm (down g) (down e))) r d)

-- ---- a rounded integer that equals an accepted number is that number's

-- ±a / c and ±b / d are equal
sizes : (s : Bool) (a : ℕ) (r : Bool) (b c d n : ℕ) → 0 < c → 0 < d → level s (a * d) r (b * c) ≡ true → b * 8 ≡ n * d → (a * 8 ≡ n * c) × (0 < n → s ≡ r)
sizes s a r b c d n C D h v =
    let w : a * d ≡ b * c = eqb-true (a * d) (b * c) ((and-eq-true_iff (eqb (a * d) (b * c)) (beq s r || eqb (a * d) 0)).0 h).0 in
    let z : a * 8 ≡ n * c = eq_of_mul-eq-mul_right d D (a * 8) (n * c)
    (mul_right_comm a 8 d ∙ ap (λ (x : ℕ). x * 8) w ∙ mul_right_comm b c 8 ∙ ap (λ (x : ℕ). x * c) v ∙ mul_right_comm n d c) in
    (z, λ l. let q = mul-pos l C in level_sign s (a * d) r (b * c) (mul-pos (omega arith) D) h)

-- what equals n / 8 is n / 8, but for the sign of a zero
equal : (x y : Float) (t : Bool) (n : ℕ) → HasValue y t n 8 → eq x y ≡ true → (s : Bool) × HasValue x s n 8 × (signed s n ≡ signed t n)
unfolding eq
equal x nan t n v h = absurd v
equal x (inf r) t n v h = absurd v
equal nan (fin r m e) t n v h = no h refl
equal (inf s) (fin r m e) t n v h = no h refl
equal (fin s k f) (fin r m e) t n v h =
    let w = sizes s (k * up f) r (m * up e) (down f) (down e) n (down_pos f) (down_pos e) h v.1 in
    (s, (refl, w.0), one_integer s t n (λ l. w.1 l ∙ v.0))

-- a rounded fraction has its sign, and the same size with the other
unsigned : (r : Bool) (k : ℕ) (s : Bool) (n : ℕ) → HasValue (round binary32 r k 8) s n 8 → (r ≡ s) × HasValue (round binary32 false k 8) false n 8
unfolding round units odd
unsigned r k s n v =
    let j = drop 24 (k * 2 ^ 149) 8 in
    let q = kept 24 (k * 2 ^ 149) 8 in
    go (ltb (q * 2 ^ j) (2 ^ 277)) q j v
  where
    go : (b : Bool) (q j : ℕ) → HasValue (cond b (odd 25 r q j 149) (inf r)) s n 8 → (r ≡ s) × HasValue (cond b (odd 25 false q j 149) (inf false)) false n 8
    go true zero j v = (v.0, (refl, v.1))
    go true (suc q) j v = (v.0, (refl, v.1))
    go false q j v = absurd v

-- rounding keeps the order, so that what is above 9,999,999 eighths stays so
size_is : (k n : ℕ) → n ≤ 9999999 → HasValue (round binary32 false k 8) false n 8 → k ≡ n
unfolding eighths le lt eq round
size_is k n l v = go (leb k 9999999) refl
  where
    go : (b : Bool) → leb k 9999999 ≡ b → k ≡ n
    go true e =
        let x = round binary32 false k 8 in
        eq_of_mul-eq-mul_right (den x) (den_pos x) k n (sym (value→cross x k 8 (eighths_value false k (leb-true k 9999999 e))) ∙ value→cross x n 8 v)
    go false e =
        let x = round binary32 false k 8 in
        let least = round binary32 false 10000000 8 in
        let most = round binary32 false 9999999 8 in
        let h = leb-false k 9999999 e in
        no (le_trans least x most (is_true _ (round_mono binary32 10000000 8 k 8 (lit< tt) (lit< tt) (omega arith)))
        (is_true _ (le_of_values x most n 8 9999999 8 (lit< tt) (lit< tt) v (eighths_value false 9999999 (le_refl 9999999)) (omega arith)))) refl

found : (r : Bool) (k : ℕ) (y : Float) (t : Bool) (n : ℕ) → SmallEighths y t n → eq (round binary32 r k 8) y ≡ true → signed r k ≡ signed t n
found r k y t n v h =
    let e = equal (round binary32 r k 8) y t n v.0 h in
    let w = unsigned r k e.0 n e.1 in
    ap₂ signed w.0 (size_is k n v.1 w.1) ∙ e.2

pub accepted_sum_is_exact : AcceptedSumIsExact
accepted_sum_is_exact x w y p q r h =
    let a = (accepted_exactly x).0 p in
    let b = (accepted_exactly w).0 q in
    let c = (accepted_exactly y).0 r in
    let z = add_is x w a.0 b.0 a.1 b.1 a.2.0 b.2.0 in
    rw (integer_is_exact x a.0 a.1 a.2, integer_is_exact w b.0 b.1 b.2, integer_is_exact y c.0 c.1 c.2)
    (z.integer ∙ found z.sign z.size y c.0 c.1 c.2 (rw z.float at h))
