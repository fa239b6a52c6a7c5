-- The mirror law of one axis, from the hypotheses of its statement. Assumes nothing.
use mathlib.Core.Path.{refl, sym}
use Prim.Native.Nat.{ℕ, ◌+◌, ◌*◌, ◌<◌}
use native.Mathlib.Omega.{arith}
use lib.Dec.{ltb→lt}
use lib.Ieee.{Float}
use Rattle.util.specs.Number.{0f}
use Rattle.oof_axis.specs.declared.OofAxis.{OofAxis}
use Rattle.util_exact.specs.Value.{◌≐◌}
use Rattle.util_exact.proofs.Exact.{widen, zero_exact}
use Rattle.util_exact.proofs.Sum.{sub_exact}
use Rattle.util_exact.proofs.Compare.{same_number}
use Rattle.util_exact.proofs.Quarters.{units, quarters_exact, maybe_units, maybe_exact}
use Rattle.util_exact.proofs.Same.{Same, same_quarters, equal, turned}
use Rattle.util_exact.proofs.AddUp.{two_add_up, three_add_up}
use Rattle.mirror_axis.specs.Image.{image, exchanged, reflected, reflected_place, other_align}
use Rattle.mirror_axis.specs.Law.{Bounded, Mirrored, AxisMirror, QuarterMirror}
use Rattle.mirror_axis.proofs.Model.{◌toN◌, AxisN}
use Rattle.mirror_axis.proofs.ExactBlock.{ExactAxis}
use Rattle.mirror_axis.proofs.FlipBlock.{image_n}
use Rattle.mirror_axis.proofs.Facing.{Facing, block_left, block_right, blocks, stretch_shared, stretches_shared, start_is_end, end_is_start, positions}

-- the numbers of an axis of whole quarter pixels, in sixteenths
abbrev pub numbers : (L A : ℕ) (a : OofAxis) → Bounded L A a → AxisN
numbers L A a h =
    record {
      size = units h.size;
      inset = maybe_units L a.inset.start h.inset_start toN maybe_units L a.inset.end h.inset_end;
      margin = maybe_units L a.margin.start h.margin_start toN maybe_units L a.margin.end h.margin_end;
      area = units h.area_start toN units h.area_end;
    }

pub axis_exact : (L A : ℕ) (a : OofAxis) (h : Bounded L A a) → ExactAxis (4 * L) (4 * L + 4 * A) a (numbers L A a h)
axis_exact L A a h =
    record {
      size = quarters_exact h.size;
      inset_start = maybe_exact L a.inset.start h.inset_start;
      inset_end = maybe_exact L a.inset.end h.inset_end;
      margin_start = maybe_exact L a.margin.start h.margin_start;
      margin_end = maybe_exact L a.margin.end h.margin_end;
      area = record { start = widen (omega arith) (quarters_exact h.area_start); end = widen (omega arith) (quarters_exact h.area_end) };
    }

image_exact : (L A : ℕ) (a : OofAxis) (h : Bounded L A a) → 4 * L + 4 * A < 16777216 → ExactAxis (4 * L) (4 * L + 4 * A) (image a) (image_n (numbers L A a h))
unfolding image exchanged reflected reflected_place
image_exact L A a h room =
    record {
      size = quarters_exact h.size;
      inset_start = maybe_exact L a.inset.end h.inset_end;
      inset_end = maybe_exact L a.inset.start h.inset_start;
      margin_start = maybe_exact L a.margin.end h.margin_end;
      margin_end = maybe_exact L a.margin.start h.margin_start;
      area =
          record {
            start = sub_exact (quarters_exact h.size) (quarters_exact h.area_end) room;
            end = sub_exact (quarters_exact h.size) (quarters_exact h.area_start) room;
          };
    }

-- an axis faces its image
pub image_faces : (L A : ℕ) (a : OofAxis) → Bounded L A a → 4 * L + 4 * A < 16777216 → (a.size ≐ 0f → ⊥) → Facing (4 * L) (4 * L + 4 * A) a (image a)
unfolding image exchanged reflected_place other_align
image_faces L A a h room nz =
    record {
      α = numbers L A a h;
      left = axis_exact L A a h;
      right = image_exact L A a h room;
      shapes = refl;
      wide = λ e. nz (same_number (quarters_exact h.size) (zero_exact {g = 4} {b = 0}) (omega arith));
    }

-- what two axes that face each other have in common
pub facing_mirrored : (L A S : ℕ) → 10 * L + 6 * A + S < 16777216 → (a a' : OofAxis) → Facing L A a a' → (size size' : Float) → Same 4 S size size' → Mirrored a a' size size'
facing_mirrored L A S room a a' h size size' s =
    let l = block_left L A (omega arith) a a' h in
    let l' = block_right L A (omega arith) a a' h in
    let f = blocks L A (omega arith) a a' h in
    let p = positions L A S room a a' h size size' s in
    record {
      block_start = two_add_up l.start l'.end h.left.size f.start;
      block_end = two_add_up l.end l'.start h.left.size f.end;
      stretch_fit = equal (turned (stretch_shared L A (omega arith) a a' h));
      stretches = λ plain. sym (stretches_shared L A (omega arith) a a' h plain);
      margin_start = equal (turned (end_is_start L A S room a a' h size size' s));
      margin_end = equal (turned (start_is_end L A S room a a' h size size' s));
      position = three_add_up p.l p.r s.l h.left.size p.fill;
    }

pub axis_mirror : AxisMirror
axis_mirror L A S t a size size' h nz q q' e =
    facing_mirrored (4 * L) (4 * L + 4 * A) (4 * S) (omega (arith, ltb→lt)) a (image a) (image_faces L A a h (omega (arith, ltb→lt)) nz) size size' (same_quarters q q' e)

pub quarter_mirror : QuarterMirror
quarter_mirror = axis_mirror 16384 32768 524288 tt
