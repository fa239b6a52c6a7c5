-- Floats that are whole numbers of sixteenths of a pixel, as integers. Assumes nothing.
use borrow.Author.Rules.{rules}
use mathlib.Core.Path.{◌≡◌, refl}
use mathlib.Core.Bool.{Bool, false}
use Prim.Native.Nat.{ℕ, ◌+◌, ◌*◌, ◌≤◌, ◌<◌, ◌^◌}
use lib.IntN.{pos}
use lib.Ieee.{Float, nan, inf, fin, up, down, round, of_bits, binary32}
use lib.Ieee.Exact.{HasValue}
use Rattle.util.specs.Number.{0f}
use Rattle.util_exact.specs.Integer.{N, zero_n, EqN}
use Rattle.util_exact.specs.Value.{Signed, Sixteenths}
use Rattle.util_exact.proofs.Integers.{Multiple, zero_mult, one_mult, finer_mult}
use Rattle.util_exact.proofs.Round.{round_value}

-- x is the integer a in sixteenths, and z is its size
abbrev pub Val : Float → N → ℕ → Type 0
Val nan a z = ⊥
Val (inf s) a z = ⊥
Val (fin s m e) a z = (m * up e * 16 ≡ z * down e) × Signed s z a

-- x is a sixteenths: a multiple of g of them, of size b at most. Quarter pixels have g = 4, eighths 2, and 1 asks nothing.
pub record Exact (g b : ℕ) (x : Float) (a : N) : Type 0 where
  pub z : ℕ
  pub val : Val x a z
  pub small : z ≤ b
  pub mult : Multiple g a

-- ---- from and to the definitions

pub of_value : (x : Float) (s : Bool) (z : ℕ) (a : N) → HasValue x s z 16 → Signed s z a → Val x a z
of_value x s z a v g = search rules

pub sixteenths : {g b : ℕ} {x : Float} {a : N} → Exact g b x a → Sixteenths x a
sixteenths h = search rules

-- a rounded fraction that is z sixteenths
pub round_val : (s : Bool) (num den z : ℕ) (a : N) → 0 < den → z < 2 ^ 24 → num * 16 ≡ z * den → Signed s z a → Val (round binary32 s num den) a z
round_val s num den z a D l h g = of_value (round binary32 s num den) s z a (round_value s num den z D l h) g

-- ---- another bound, another writing, a coarser unit

pub widen : {g b c : ℕ} {x : Float} {a : N} → b ≤ c → Exact g b x a → Exact g c x a
widen l h = search rules

-- the same integer written otherwise
pub recast : {g b : ℕ} {x : Float} {a a' : N} → EqN a a' → Exact g b x a → Exact g b x a'
recast e h = search rules

-- how far the integer lies from 0
pub reach : {g b : ℕ} {x : Float} {a : N} → Exact g b x a → (a.p ≤ a.n + b) × (a.n ≤ a.p + b)
reach h = search rules

-- a smaller bound, where the integer is known to keep it
pub tighten : {g b : ℕ} {x : Float} {a : N} (c : ℕ) → (a.p ≤ a.n + c) × (a.n ≤ a.p + c) → Exact g b x a → Exact g c x a
tighten c l h = search rules

pub finer : (f : ℕ) {g b : ℕ} {x : Float} {a : N} → Exact (f * g) b x a → Exact g b x a
finer f {g} {b} {x} {a} h = search (rules, finer_mult)

-- quarter pixels are eighths
pub eighths : {b : ℕ} {x : Float} {a : N} → Exact 4 b x a → Exact 2 b x a
eighths h = finer 2 {g = 2} h

-- as sixteenths, the coarser unit forgotten
pub any : {g b : ℕ} {x : Float} {a : N} → Exact g b x a → Exact 1 b x a
any {a = a} h = record { z = h.z; val = h.val; small = h.small; mult = one_mult a }

-- ---- zero

zero_form : 0f ≡ fin false 0 (pos 0)
unfolding of_bits
zero_form = refl

pub zero_exact : {g b : ℕ} → Exact g b 0f zero_n
zero_exact = search (rules, zero_form, zero_mult)
