-- Operations, order and divisibility of integers that are formal differences, so that all algebra is `omega`'s. Assumes nothing.
use borrow.Author.Rules.{rules}
use mathlib.Core.Path.{◌≡◌, refl}
use mathlib.Core.Bool.{Bool, true, false}
use Prim.Native.Nat.{ℕ, ◌+◌, ◌*◌, ◌/◌, min, max}
use native.Mathlib.Omega.{arith}
use lib.Dec.{ltb, leb, eqb}
use borrow.Author.Tests.{ltb-true, ltb-false}
use Rattle.util_exact.specs.Integer.{N, zero_n, add_n, EqN}

-- ---- operations

abbrev pub neg_n : N → N
neg_n a = record { p = a.n; n = a.p }

abbrev pub sub_n : N → N → N
sub_n a b = record { p = a.p + b.n; n = a.n + b.p }

abbrev pub dbl_n : N → N
dbl_n a = record { p = 2 * a.p; n = 2 * a.n }

-- shut, so that `omega` meets no quotient: what it is to know of a half is `half_twice`
unfoldable pub half_n : N → N
half_n a = record { p = a.p / 2; n = a.n / 2 }

abbrev pub max_n : N → N → N
max_n a b = record { p = max (a.p + b.n) (b.p + a.n); n = a.n + b.n }

abbrev pub min_n : N → N → N
min_n a b = record { p = min (a.p + b.n) (b.p + a.n); n = a.n + b.n }

abbrev pub mag_n : N → N
mag_n a = record { p = max a.p a.n; n = min a.p a.n }

-- ---- order

abbrev pub lt_n : N → N → Bool
lt_n a b = ltb (a.p + b.n) (b.p + a.n)

abbrev pub le_n : N → N → Bool
le_n a b = leb (a.p + b.n) (b.p + a.n)

abbrev pub eq_n : N → N → Bool
eq_n a b = eqb (a.p + b.n) (b.p + a.n)

pub lt_cong : (a d a' d' : N) → EqN a a' → EqN d d' → lt_n a d ≡ lt_n a' d'
lt_cong a d a' d' e f = search rules

pub le_cong : (a d a' d' : N) → EqN a a' → EqN d d' → le_n a d ≡ le_n a' d'
le_cong a d a' d' e f = search rules

pub mag_cong : (a a' : N) → EqN a a' → EqN (mag_n a) (mag_n a')
mag_cong a a' e = omega arith

-- ---- divisibility: a is g times some integer

abbrev pub Multiple : ℕ → N → Type 0
Multiple g a = (i : ℕ) × (j : ℕ) × (a.p + g * j ≡ g * i + a.n)

pub zero_mult : (g : ℕ) → Multiple g zero_n
zero_mult g = (0, 0, omega arith)

pub recast_mult : (g : ℕ) (a a' : N) → EqN a a' → Multiple g a → Multiple g a'
recast_mult g a a' e h = (h.0, h.1, omega (arith, h.2))

pub neg_mult : (g : ℕ) (a : N) → Multiple g a → Multiple g (neg_n a)
neg_mult g a h = (h.1, h.0, omega (arith, h.2))

pub add_mult : (g : ℕ) (a d : N) → Multiple g a → Multiple g d → Multiple g (add_n a d)
add_mult g a d h k = (h.0 + k.0, h.1 + k.1, omega (arith, h.2, k.2))

pub sub_mult : (g : ℕ) (a d : N) → Multiple g a → Multiple g d → Multiple g (sub_n a d)
sub_mult g a d h k = (h.0 + k.1, h.1 + k.0, omega (arith, h.2, k.2))

pub finer_mult : (f g : ℕ) (a : N) → Multiple (f * g) a → Multiple g a
finer_mult f g a h = (f * h.0, f * h.1, omega (arith, h.2))

pub one_mult : (a : N) → Multiple 1 a
one_mult a = (a.p, a.n, omega arith)

pub dbl_mult : (g : ℕ) (a : N) → Multiple g a → Multiple (2 * g) (dbl_n a)
dbl_mult g a h = (h.0, h.1, omega (arith, h.2))

pub mag_mult : (g : ℕ) (a : N) → Multiple g a → Multiple g (mag_n a)
mag_mult g a h = go (ltb a.p a.n) refl
  where
    go : (t : Bool) → ltb a.p a.n ≡ t → Multiple g (mag_n a)
    go true e = (h.1, h.0, omega (arith, h.2, ltb-true a.p a.n e))
    go false e = (h.0, h.1, omega (arith, h.2, ltb-false a.p a.n e))

pub max_mult : (g : ℕ) (a d : N) → Multiple g a → Multiple g d → Multiple g (max_n a d)
max_mult g a d h k = go (lt_n a d) refl
  where
    go : (t : Bool) → lt_n a d ≡ t → Multiple g (max_n a d)
    go true e = (k.0, k.1, omega (arith, k.2, ltb-true (a.p + d.n) (d.p + a.n) e))
    go false e = (h.0, h.1, omega (arith, h.2, ltb-false (a.p + d.n) (d.p + a.n) e))

pub min_mult : (g : ℕ) (a d : N) → Multiple g a → Multiple g d → Multiple g (min_n a d)
min_mult g a d h k = go (lt_n a d) refl
  where
    go : (t : Bool) → lt_n a d ≡ t → Multiple g (min_n a d)
    go true e = (h.0, h.1, omega (arith, h.2, ltb-true (a.p + d.n) (d.p + a.n) e))
    go false e = (k.0, k.1, omega (arith, k.2, ltb-false (a.p + d.n) (d.p + a.n) e))

-- ---- halves

pub half_twice : (a : N) → Multiple 2 a → EqN (add_n (half_n a) (half_n a)) a
unfolding half_n
half_twice a h = omega (arith, h.2)

pub half_cong : (a a' : N) → Multiple 2 a → Multiple 2 a' → EqN a a' → EqN (half_n a) (half_n a')
half_cong a a' h h' e = omega (arith, half_twice a h, half_twice a' h')

pub even_of : (g : ℕ) (a : N) → Multiple (2 * g) a → Multiple 2 a
even_of g a h = (g * h.0, g * h.1, omega (arith, h.2))

pub half_mult : (g : ℕ) (a : N) → Multiple (2 * g) a → Multiple g (half_n a)
half_mult g a h = (h.0, h.1, omega (arith, h.2, half_twice a (even_of g a h)))
