-- Numbers that add up, from their integers. Assumes nothing.
use mathlib.Core.List.{[], ◌∷◌}
use Prim.Native.Nat.{ℕ}
use native.Mathlib.Omega.{arith}
use mathlib.Core.Path.{refl}
use lib.Ieee.{Float}
use Rattle.util_exact.specs.Integer.{N, zero_n, add_n, EqN}
use Rattle.util_exact.specs.Value.{AddUp}
use Rattle.util_exact.proofs.Exact.{Exact, sixteenths}

pub two_add_up : {g h k b c d : ℕ} {x y t : Float} {a a' w : N} → Exact g b x a → Exact h c y a' → Exact k d t w → EqN (add_n a a') w → AddUp (x ∷ y ∷ []) t
two_add_up {a = a} {a' = a'} {w = w} p q r e = (w, (a, add_n a' zero_n, sixteenths p, (a', zero_n, sixteenths q, refl, refl), omega arith), sixteenths r)

pub three_add_up : {g h k j b c d f : ℕ} {x y z t : Float} {a a' u w : N} → Exact g b x a → Exact h c y a' → Exact k d z u → Exact j f t w → EqN (add_n (add_n a a') u) w → AddUp (x ∷ y ∷ z ∷ []) t
three_add_up {a = a} {a' = a'} {u = u} {w = w} p q s r e =
    (w, (a, add_n a' (add_n u zero_n), sixteenths p, (a', add_n u zero_n, sixteenths q, (u, zero_n, sixteenths s, refl, refl), refl), omega arith), sixteenths r)
