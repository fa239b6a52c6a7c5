-- An exact float beside an infinity. Assumes nothing.
use borrow.Author.Rules.{rules}
use mathlib.Core.Path.{◌≡◌}
use mathlib.Core.Bool.{true, false}
use Prim.Native.Nat.{ℕ}
use lib.Ieee.{Float, inf, sub, lt, le, is_nan}
use Rattle.util.specs.Number.{◌⊖◌}
use Rattle.util.specs.Order.{zero_of, before, larger, smaller}
use Rattle.util_exact.specs.Integer.{N}
use Rattle.util_exact.proofs.Exact.{Exact}

module _ {g b : ℕ} {x : Float} {a : N} (h : Exact g b x a) where
  pub inf_less : inf false ⊖ x ≡ inf false
  unfolding sub
  inf_less = search rules

  pub less_inf : x ⊖ inf true ≡ inf false
  unfolding sub
  less_inf = search rules

  pub le_inf : le x (inf false) ≡ true
  unfolding le
  le_inf = search rules

  pub smaller_inf : smaller x (inf false) ≡ x
  unfolding smaller before lt is_nan zero_of
  smaller_inf = search rules

  pub larger_inf : larger x (inf true) ≡ x
  unfolding larger before lt is_nan zero_of
  larger_inf = search rules
