-- Two axes that face each other, told field by field, as the two runs of the mirror theorem know them: which floats stand in the second
-- is left open, up to equality as numbers. Assumes nothing.
use Rattle.std.specs.Prelude.{Float, Option}
use mathlib.Core.Path.{◌≡◌, refl}
use mathlib.Core.Bool.{not}
use Prim.Native.Nat.{ℕ, ◌+◌, ◌*◌, ◌<◌}
use native.Mathlib.Omega.{arith}
use lib.Ieee.{Float}
use Rattle.util.specs.Number.{◌⊕◌, ◌⊖◌, ◌⊗◌, 0f, 2f}
use Rattle.oof_axis.specs.declared.OofAxis.{OofAxis}
use Rattle.util_exact.specs.Integer.{N, zero_n}
use Rattle.util_exact.specs.Value.{◌≐◌}
use Rattle.util_exact.proofs.Integers.{sub_n}
use Rattle.util_exact.proofs.Exact.{Exact, recast, reach, tighten, finer, zero_exact}
use Rattle.util_exact.proofs.Sum.{add_exact, sub_exact}
use Rattle.util_exact.proofs.Double.{dbl_exact}
use Rattle.util_exact.proofs.Compare.{same_number}
use Rattle.util_exact.proofs.Same.{Same, MaybeSame, given, absent, present_same}
use Rattle.util_exact.proofs.Quarters.{MaybeExact}
use Rattle.mirror_axis.specs.Image.{other_edge}
use Rattle.mirror_axis.proofs.Model.{◌toN◌}
use Rattle.mirror_axis.proofs.FlipBlock.{NotZero}
use Rattle.mirror_axis.proofs.Facing.{Facing}

-- x and x' are quarter pixels that add up to w
pub record Across (b : ℕ) (w : N) (x x' : Float) : Type 0 where
  pub at : N
  pub l : Exact 4 b x at
  pub r : Exact 4 b x' (sub_n w at)

pub record Opposite (L A : ℕ) (a a' : OofAxis) : Type 0 where
  pub size : Same 4 L a.size a'.size
  pub inset_start : MaybeSame 4 L a.inset.start a'.inset.end
  pub inset_end : MaybeSame 4 L a.inset.end a'.inset.start
  pub margin_start : MaybeSame 4 L a.margin.start a'.margin.end
  pub margin_end : MaybeSame 4 L a.margin.end a'.margin.start
  pub area_start : Across A size.a a.place.area.start a'.place.area.end
  pub area_end : Across A size.a a.place.area.end a'.place.area.start
  pub keyword : a'.place.align.keyword ≡ other_edge a.place.align.keyword
  pub place_safety : a'.place.align.safety ≡ a.place.align.safety
  pub alignment : a'.alignment ≡ a.alignment
  pub safety : a'.safety ≡ a.safety
  pub inline : a'.inline ≡ a.inline
  pub reversed : a'.reversed ≡ not a.reversed
  pub scrolls : a'.scrolls ≡ a.scrolls

-- ---- the integer of a number that may be absent

number : {g b : ℕ} {m m' : Option Float} → MaybeSame g b m m' → N
number (given h) = h.a
number absent = zero_n

number_left : {g b : ℕ} {m m' : Option Float} (h : MaybeSame g b m m') → MaybeExact g b m (number h)
unfolding number
number_left (given h) = h.l
number_left absent = tt

number_right : {g b : ℕ} {m m' : Option Float} (h : MaybeSame g b m m') → MaybeExact g b m' (number h)
unfolding number
number_right (given h) = h.r
number_right absent = tt

not_zero : {g b : ℕ} {x : Float} {w : N} → Exact g b x w → (x ≐ 0f → ⊥) → NotZero w
not_zero {g} {b} {x} {w} h nz e = nz (same_number h (zero_exact {g = g} {b = b}) (omega arith))

pub opposite_faces : (L A : ℕ) (a a' : OofAxis) → Opposite L A a a' → (a.size ≐ 0f → ⊥) → Facing L A a a'
opposite_faces L A a a' h nz =
    record {
      α =
          record {
            size = h.size.a;
            inset = number h.inset_start toN number h.inset_end;
            margin = number h.margin_start toN number h.margin_end;
            area = h.area_start.at toN h.area_end.at;
          };
      left =
          record {
            size = h.size.l;
            inset_start = number_left h.inset_start;
            inset_end = number_left h.inset_end;
            margin_start = number_left h.margin_start;
            margin_end = number_left h.margin_end;
            area = record { start = h.area_start.l; end = h.area_end.l };
          };
      right =
          record {
            size = h.size.r;
            inset_start = number_right h.inset_end;
            inset_end = number_right h.inset_start;
            margin_start = number_right h.margin_end;
            margin_end = number_right h.margin_start;
            area = record { start = h.area_end.r; end = h.area_start.r };
          };
      shapes =
          rw (h.keyword, h.place_safety, h.alignment, h.safety, h.inline, h.reversed, h.scrolls, ← present_same h.inset_start, ← present_same h.inset_end, ← present_same h.margin_start, ← present_same h.margin_end) refl;
      wide = not_zero h.size.l nz;
    }

-- ---- a candidate's static area: reflected as document 01 has it, then the offset taken off

-- x less the offset, and 2 × offset + width - x less the offset, make the width
pub reflected_across : {b c : ℕ} {off w x : Float} {o ω a : N} → Exact 4 b off o → Exact 4 c w ω → Exact 4 b x a → 4 * b + c < 16777216
    → Across (2 * b + c) ω (x ⊖ off) (2f ⊗ off ⊕ w ⊖ x ⊖ off)
reflected_across {b} {c} {o = o} {ω = ω} {a = a} ho hw hx room =
    record {
      at = sub_n a o;
      l = tighten (2 * b + c) (omega (arith, reach ho, reach hx)) (sub_exact hx ho (omega arith));
      r =
          tighten (2 * b + c) (omega (arith, reach ho, reach hw, reach hx))
          (recast (omega arith) (sub_exact (sub_exact (add_exact (finer 2 {g = 4} (dbl_exact ho (omega arith))) hw (omega arith)) hx (omega arith)) ho (omega arith)));
    }
