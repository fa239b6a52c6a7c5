-- Which number a float is, exactly. `HasValue x s z c` says that x is finite, has the sign s and is z / c in size. Assumes nothing.
use Rattle.std.specs.Prelude.{◌≡◌, List, [], ◌∷◌, Bool, true, false, ℕ, ◌+◌, ◌≤◌, Float, None, Option, Some}
use Rattle.std.specs.Float.Ieee.{eq, of_bits}
use Rattle.std.specs.Float.{binary32}
use Rattle.std.specs.Float.Ieee.Exact.{HasValue}
use Rattle.util_exact.specs.Integer.{N, zero_n, add_n, EqN}

-- equal as numbers: +0 and -0 are
infix 50 ◌≐◌
abbrev pub ◌≐◌ : Float → Float → Type 0
x ≐ y = eq x y ≡ true

abbrev pub −0f : Float
−0f = of_bits binary32 0x8000_0000

-- z with a sign is the integer a
abbrev pub Signed : Bool → ℕ → N → Type 0
Signed false z a = z + a.n ≡ a.p
Signed true z a = z + a.p ≡ a.n

-- x is a / 16: the integer is 0 for +0 and for -0
abbrev pub Sixteenths : Float → N → Type 0
Sixteenths x a = (s : Bool) × (z : ℕ) × HasValue x s z 16 × Signed s z a

-- the numbers of a list add up to the integer a, in sixteenths
abbrev pub Total : List Float → N → Type 0
Total [] a = EqN a zero_n
Total (x ∷ xs) a = (b : N) × (c : N) × Sixteenths x b × Total xs c × EqN (add_n b c) a

-- the numbers of a list add up to t, with no rounding
abbrev pub AddUp : List Float → Float → Type 0
AddUp xs t = (a : N) × Total xs a × Sixteenths t a

-- whole quarter pixels of a size: x is k / 4 or -k / 4 with k at most n
pub record Quarters (n : ℕ) (x : Float) : Type 0 where
  pub sign : Bool
  pub k : ℕ
  pub value : HasValue x sign k 4
  pub small : k ≤ n

-- whole quarter pixels of size 4,096 at most
abbrev pub Quarter : Float → Type 0
Quarter x = Quarters 16384 x

-- the same of a length that may be absent
abbrev pub MaybeQuarters : ℕ → Option Float → Type 0
MaybeQuarters n None = Unit {0}
MaybeQuarters n (Some x) = Quarters n x
