-- The mirror image of a candidate's static area, as numbers. Assumes nothing.
use mathlib.Core.Path.{refl, sym}
use mathlib.Core.List.{[], ◌∷◌}
use Prim.Native.Nat.{ℕ, ◌*◌}
use native.Mathlib.Nat.{le_refl}
use native.Mathlib.Omega.{arith}
use lib.Dec.{lit<}
use lib.Ieee.{Float}
use Rattle.util.specs.Number.{◌⊕◌, ◌⊖◌, ◌⊗◌, 2f}
use Rattle.util_exact.specs.Integer.{N, zero_n, add_n, EqN}
use Rattle.util_exact.specs.Value.{Sixteenths, Total, Quarter}
use Rattle.util_exact.proofs.Integers.{Multiple, sub_n, recast_mult}
use Rattle.util_exact.proofs.Exact.{Exact, of_value, sixteenths, recast, reach, tighten, finer}
use Rattle.util_exact.proofs.Sum.{add_exact, sub_exact}
use Rattle.util_exact.proofs.Double.{dbl_exact}
use Rattle.util_exact.proofs.Quarters.{units, quarters_exact}
use Rattle.util_exact.proofs.Laws.{one_integer}
use Rattle.mirror_axis.proofs.Opposite.{Across}
use Rattle.mirror_box.proofs.Bounds.{length_bound, static_bound}

-- an integer of any size, known to be a multiple of g
of_sixteenths : (g : ℕ) {x : Float} {a : N} (h : Sixteenths x a) → Multiple g a → Exact g h.1 x a
of_sixteenths g {x} {a} h m = record { z = h.1; val = of_value x h.0 h.1 a h.2 h.3; small = le_refl h.1; mult = m }

-- 2 × offset + width, of their integers
abbrev pub edges : N → N → N
edges o ω = add_n (add_n o o) ω

pub edges_total : {g g' b c : ℕ} {off w : Float} {o ω : N} → Exact g b off o → Exact g' c w ω → Total (off ∷ off ∷ w ∷ []) (edges o ω)
edges_total {o = o} {ω = ω} h k = (o, add_n o (add_n ω zero_n), sixteenths h, (o, add_n ω zero_n, sixteenths h, (ω, zero_n, sixteenths k, refl, refl), refl), omega arith)

module _ {off w x : Float} (qo : Quarter off) (qw : Quarter w) (qx : Quarter x) where
  -- 2 × offset + width - x
  abbrev mirrored : N
  mirrored = sub_n (edges (units qo) (units qw)) (units qx)

  -- as document 01 writes it
  mirrored_float : Exact 4 (4 * length_bound) (2f ⊗ off ⊕ w ⊖ x) mirrored
  mirrored_float =
      recast (omega arith)
      (sub_exact (add_exact (finer 2 {g = 4} (dbl_exact (quarters_exact qo) (lit< tt))) (quarters_exact qw) (lit< tt)) (quarters_exact qx) (lit< tt))

  -- any float that adds up with x to it
  mirrored_exact : (x' : Float) (s : N) → Total (x ∷ x' ∷ []) s → Total (off ∷ off ∷ w ∷ []) s → Exact 4 (4 * length_bound) x' mirrored
  mirrored_exact x' s t u =
      let ex = one_integer x t.0 (units qx) t.2 (sixteenths (quarters_exact qx)) in
      let eo = one_integer off u.0 (units qo) u.2 (sixteenths (quarters_exact qo)) in
      let eo' = one_integer off u.3.0 (units qo) u.3.2 (sixteenths (quarters_exact qo)) in
      let ew = one_integer w u.3.3.0 (units qw) u.3.3.2 (sixteenths (quarters_exact qw)) in
      let e : EqN t.3.0 mirrored = omega (arith, t.4, t.3.3, t.3.4, u.4, u.3.4, u.3.3.3, u.3.3.4) in
      let m = recast_mult 4 mirrored t.3.0 (sym e) mirrored_float.mult in
      tighten (4 * length_bound) (reach mirrored_float) (recast e (of_sixteenths 4 t.3.2 m))

  pub mirrored_total : Total (x ∷ (2f ⊗ off ⊕ w ⊖ x) ∷ []) (edges (units qo) (units qw))
  mirrored_total = (units qx, add_n mirrored zero_n, sixteenths (quarters_exact qx), (mirrored, zero_n, sixteenths mirrored_float, refl, refl), omega arith)

  -- less the offset, both add up to the width
  pub mirrored_across : (x' : Float) (s : N) → Total (x ∷ x' ∷ []) s → Total (off ∷ off ∷ w ∷ []) s → Across static_bound (units qw) (x ⊖ off) (x' ⊖ off)
  mirrored_across x' s t u =
      let ho = quarters_exact qo in
      let hw = quarters_exact qw in
      let hx = quarters_exact qx in
      record {
        at = sub_n (units qx) (units qo);
        l = tighten static_bound (omega (arith, reach ho, reach hx)) (sub_exact hx ho (lit< tt));
        r = tighten static_bound (omega (arith, reach ho, reach hw, reach hx)) (recast (omega arith) (sub_exact (mirrored_exact x' s t u) ho (lit< tt)));
      }
