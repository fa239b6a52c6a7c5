-- The laws of this crate's definitions. Assumes nothing.
use mathlib.Core.List.{List, [], ◌∷◌}
use native.Mathlib.Nat.{le_refl}
use native.Mathlib.Omega.{arith}
use lib.Ieee.{Float}
use Rattle.util.proofs.Order.{eq_self}
use Rattle.util_exact.specs.Integer.{N, EqN}
use Rattle.util_exact.specs.Value.{Sixteenths, Total}
use Rattle.util_exact.specs.Laws.{OneInteger, NanIsNone, EqualIsSame, OneTotal}
use Rattle.util_exact.proofs.Integers.{one_mult}
use Rattle.util_exact.proofs.Exact.{Exact, of_value}
use Rattle.util_exact.proofs.Compare.{same_number, same_integer}
use Rattle.util_exact.proofs.Order.{no_nan}

-- of whatever size it has
of_sixteenths : (x : Float) (a : N) (h : Sixteenths x a) → Exact 1 h.1 x a
of_sixteenths x a h = record { z = h.1; val = of_value x h.0 h.1 a h.2 h.3; small = le_refl h.1; mult = one_mult a }

pub nan_is_none : NanIsNone
nan_is_none x a h = no_nan (of_sixteenths x a h)

pub equal_is_same : EqualIsSame
equal_is_same x y a b h k = (same_integer (of_sixteenths x a h) (of_sixteenths y b k), same_number (of_sixteenths x a h) (of_sixteenths y b k))

pub one_integer : OneInteger
one_integer x a b h k = (equal_is_same x x a b h k).0 (eq_self x (nan_is_none x a h))

total_one : (xs : List Float) (a b : N) → Total xs a → Total xs b → EqN a b
total_one [] a b h k = omega arith
total_one (x ∷ xs) a b h k = omega (arith, h.4, k.4, one_integer x h.0 k.0 h.2 k.2, total_one xs h.1 k.1 h.3 k.3)

pub one_total : OneTotal
one_total xs t u h k = (equal_is_same t u h.0 k.0 h.2 k.2).1 (total_one xs h.0 k.0 h.1 k.1)
