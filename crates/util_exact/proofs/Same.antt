-- Two floats that are the same number, as the two runs of the mirror theorem share it: +0 and -0 are. One lemma for each operation. Assumes nothing.
use Rattle.std.specs.Prelude.{Float, None, Option, Some, is_some, unwrap_or}
use Rattle.std.specs.Option.{option_or}
use mathlib.Core.Path.{◌≡◌, refl, sym, ◌∙◌}
use Prim.Native.Nat.{ℕ, ◌+◌, ◌*◌, ◌≤◌, ◌<◌}
use lib.Ieee.{Float, neg, lt, le, eq}
use Rattle.util.specs.Number.{◌⊕◌, ◌⊖◌, ◌⊗◌, ◌⊘◌, 0f, 2f}
use Rattle.util.specs.Order.{larger, smaller, magnitude}
use Rattle.util.specs.Maybe.{map_add, map_larger, at_most, at_least, clamped, map_clamped}
use Rattle.util_exact.specs.Integer.{N, add_n, EqN}
use Rattle.util_exact.specs.Value.{◌≐◌, Quarters, MaybeQuarters}
use Rattle.util_exact.proofs.Integers.{neg_n, sub_n, dbl_n, half_n, max_n, min_n, mag_n}
use Rattle.util_exact.proofs.Exact.{Exact, widen, recast, any, eighths, zero_exact}
use Rattle.util_exact.proofs.Sum.{add_exact, neg_exact, sub_exact}
use Rattle.util_exact.proofs.Double.{dbl_exact, half_exact}
use Rattle.util_exact.proofs.Compare.{lt_exact, le_exact, eq_exact, same_number, same_integer}
use Rattle.util_exact.proofs.Order.{larger_exact, smaller_exact, magnitude_exact}
use Rattle.util_exact.proofs.Quarters.{quarters_exact}

pub record Same (g b : ℕ) (x x' : Float) : Type 0 where
  pub a : N
  pub l : Exact g b x a
  pub r : Exact g b x' a

-- ---- making one, and what it gives

pub same : {g b : ℕ} {x x' : Float} {a a' : N} → Exact g b x a → Exact g b x' a' → EqN a' a → Same g b x x'
same {a = a} h h' e = record { a = a; l = h; r = recast e h' }

pub itself : {g b : ℕ} {x : Float} {a : N} → Exact g b x a → Same g b x x
itself {a = a} h = record { a = a; l = h; r = h }

pub same_quarters : {n : ℕ} {x x' : Float} → Quarters n x → Quarters n x' → x' ≐ x → Same 4 (4 * n) x x'
same_quarters h h' e = same (quarters_exact h) (quarters_exact h') (same_integer (quarters_exact h') (quarters_exact h) e)

pub quarters_same : {n : ℕ} {x : Float} → Quarters n x → Same 4 (4 * n) x x
quarters_same h = itself (quarters_exact h)

pub equal : {g b : ℕ} {x x' : Float} → Same g b x x' → x ≐ x'
equal h = same_number h.l h.r refl

pub turned : {g b : ℕ} {x x' : Float} → Same g b x x' → Same g b x' x
turned h = record { a = h.a; l = h.r; r = h.l }

pub widen_same : {g b c : ℕ} {x x' : Float} → b ≤ c → Same g b x x' → Same g c x x'
widen_same i h = record { a = h.a; l = widen i h.l; r = widen i h.r }

pub eighths_same : {b : ℕ} {x x' : Float} → Same 4 b x x' → Same 2 b x x'
eighths_same h = record { a = h.a; l = eighths h.l; r = eighths h.r }

pub any_same : {g b : ℕ} {x x' : Float} → Same g b x x' → Same 1 b x x'
any_same h = record { a = h.a; l = any h.l; r = any h.r }

-- ---- operations

pub zero_same : {g b : ℕ} → Same g b 0f 0f
zero_same = itself zero_exact

pub add_same : {g b c : ℕ} {x x' y y' : Float} → Same g b x x' → Same g c y y' → b + c < 16777216 → Same g (b + c) (x ⊕ y) (x' ⊕ y')
add_same h k i = record { a = add_n h.a k.a; l = add_exact h.l k.l i; r = add_exact h.r k.r i }

pub sub_same : {g b c : ℕ} {x x' y y' : Float} → Same g b x x' → Same g c y y' → b + c < 16777216 → Same g (b + c) (x ⊖ y) (x' ⊖ y')
sub_same h k i = record { a = sub_n h.a k.a; l = sub_exact h.l k.l i; r = sub_exact h.r k.r i }

-- the negatives
pub neg_same : {g b : ℕ} {x x' : Float} → Same g b x x' → Same g b (neg x) (neg x')
neg_same h = record { a = neg_n h.a; l = neg_exact h.l; r = neg_exact h.r }

-- the doubles
pub dbl_same : {g b : ℕ} {x x' : Float} → Same g b x x' → 2 * b < 16777216 → Same (2 * g) (2 * b) (2f ⊗ x) (2f ⊗ x')
dbl_same h i = record { a = dbl_n h.a; l = dbl_exact h.l i; r = dbl_exact h.r i }

-- the halves
pub half_same : (g : ℕ) {b : ℕ} (c : ℕ) {x x' : Float} → Same (2 * g) b x x' → b ≤ c + c → b < 16777216 → Same g c (x ⊘ 2f) (x' ⊘ 2f)
half_same g c h i j = record { a = half_n h.a; l = half_exact g c h.l i j; r = half_exact g c h.r i j }

pub larger_same : {g b : ℕ} {x x' y y' : Float} → Same g b x x' → Same g b y y' → Same g b (larger x y) (larger x' y')
larger_same h k = record { a = max_n h.a k.a; l = larger_exact h.l k.l; r = larger_exact h.r k.r }

pub smaller_same : {g b : ℕ} {x x' y y' : Float} → Same g b x x' → Same g b y y' → Same g b (smaller x y) (smaller x' y')
smaller_same h k = record { a = min_n h.a k.a; l = smaller_exact h.l k.l; r = smaller_exact h.r k.r }

-- the magnitudes
pub magnitude_same : {g b : ℕ} {x x' : Float} → Same g b x x' → Same g b (magnitude x) (magnitude x')
magnitude_same h = record { a = mag_n h.a; l = magnitude_exact h.l; r = magnitude_exact h.r }

-- ---- tests

-- below, of both pairs or of neither
pub lt_same : {g g' b c : ℕ} {x x' y y' : Float} → Same g b x x' → Same g' c y y' → lt x y ≡ lt x' y'
lt_same h k = lt_exact h.l k.l ∙ sym (lt_exact h.r k.r)

pub le_same : {g g' b c : ℕ} {x x' y y' : Float} → Same g b x x' → Same g' c y y' → le x y ≡ le x' y'
le_same h k = le_exact h.l k.l ∙ sym (le_exact h.r k.r)

-- equal, of both pairs or of neither
pub eq_same : {g g' b c : ℕ} {x x' y y' : Float} → Same g b x x' → Same g' c y y' → eq x y ≡ eq x' y'
eq_same h k = eq_exact h.l k.l ∙ sym (eq_exact h.r k.r)

-- ---- numbers that may be absent

pub data MaybeSame (g b : ℕ) : Option Float → Option Float → Type 0 where
  given : {x x' : Float} → Same g b x x' → MaybeSame g b (Some x) (Some x')
  absent : MaybeSame g b None None

pub maybe_quarters_same : (n : ℕ) (m : Option Float) → MaybeQuarters n m → MaybeSame 4 (4 * n) m m
maybe_quarters_same n None h = absent
maybe_quarters_same n (Some x) h = given (quarters_same h)

pub present_same : {g b : ℕ} {m m' : Option Float} → MaybeSame g b m m' → is_some m ≡ is_some m'
present_same (given h) = refl
present_same absent = refl

pub unwrap_same : {g b : ℕ} {m m' : Option Float} {d d' : Float} → MaybeSame g b m m' → Same g b d d' → Same g b (unwrap_or m d) (unwrap_or m' d')
unwrap_same (given h) k = h
unwrap_same absent k = k

pub else_same : {g b : ℕ} {m m' n n' : Option Float} → MaybeSame g b m m' → MaybeSame g b n n' → MaybeSame g b (option_or m n) (option_or m' n')
else_same (given h) k = given h
else_same absent k = k

pub map_add_same : {g b c : ℕ} {m m' : Option Float} {y y' : Float} → MaybeSame g b m m' → Same g c y y' → b + c < 16777216 → MaybeSame g (b + c) (map_add m y) (map_add m' y')
unfolding map_add
map_add_same (given h) k i = given (add_same h k i)
map_add_same absent k i = absent

pub map_larger_same : {g b : ℕ} {m m' : Option Float} {y y' : Float} → MaybeSame g b m m' → Same g b y y' → MaybeSame g b (map_larger m y) (map_larger m' y')
unfolding map_larger
map_larger_same (given h) k = given (larger_same h k)
map_larger_same absent k = absent

pub clamped_same : {g b : ℕ} {x x' : Float} {low low' high high' : Option Float} → Same g b x x' → MaybeSame g b low low' → MaybeSame g b high high' → Same g b (clamped x low high) (clamped x' low' high')
unfolding clamped at_most at_least
clamped_same h (given k) (given j) = larger_same (smaller_same h j) k
clamped_same h (given k) absent = larger_same h k
clamped_same h absent (given j) = smaller_same h j
clamped_same h absent absent = h

pub map_clamped_same : {g b : ℕ} {m m' low low' high high' : Option Float} → MaybeSame g b m m' → MaybeSame g b low low' → MaybeSame g b high high' → MaybeSame g b (map_clamped m low high) (map_clamped m' low' high')
unfolding map_clamped
map_clamped_same (given h) k j = given (clamped_same h k j)
map_clamped_same absent k j = absent
