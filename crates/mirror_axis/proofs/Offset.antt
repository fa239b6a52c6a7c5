-- The static offset of a box and of its image fill the width: here the fallback edge counts. Assumes nothing.
use Rattle.std.specs.Prelude.{Float}
use mathlib.Core.Path.{refl}
use mathlib.Core.Bool.{Bool, true, false, cond}
use Prim.Native.Nat.{ℕ, ◌+◌, ◌*◌, ◌<◌}
use native.Mathlib.Omega.{arith}
use lib.Dec.{ltb→lt}
use lib.Ieee.{Float}
use Rattle.geometry.specs.declared.Line.{Line}
use Rattle.style.specs.declared.alignment.AlignmentSafety.{AlignmentSafety}
use Rattle.style.specs.declared.alignment.AlignmentSafety.TheVariants.{Default, Unsafe, Safe}
use Rattle.tree.specs.declared.layout.AxisStaticEdge.{AxisStaticEdge}
use Rattle.tree.specs.declared.layout.AxisStaticPosition.{AxisStaticPosition}
use Rattle.oof_axis.specs.Axis.{align_in}
use Rattle.oof_axis.specs.StaticOffset.{offset_edge, axis_offset}
use Rattle.util_exact.specs.Integer.{N, add_n, EqN}
use Rattle.util_exact.proofs.Integers.{Multiple, add_mult, even_of, lt_n, lt_cong}
use Rattle.util_exact.proofs.Exact.{Exact, widen}
use Rattle.util_exact.proofs.Sum.{sub_exact}
use Rattle.util_exact.proofs.Compare.{lt_exact}
use Rattle.util_exact.proofs.Quarters.{units, quarters_exact}
use Rattle.util_exact.proofs.AddUp.{three_add_up}
use Rattle.mirror_axis.specs.Image.{other_edge, other_align, reflected, reflected_place}
use Rattle.mirror_axis.specs.Law.{OffsetMirror}
use Rattle.mirror_axis.proofs.Model.{LineN, ◌toN◌, span_n, align_n, box_n}
use Rattle.mirror_axis.proofs.ExactBlock.{LineExact, widen_line}
use Rattle.mirror_axis.proofs.ExactPlace.{Aligned, Placed, span_of, align_exact, box_exact, shifted}
use Rattle.mirror_axis.proofs.FlipBlock.{Flip, flipped}
use Rattle.mirror_axis.proofs.FlipMargins.{span_same}
use Rattle.mirror_axis.proofs.FlipPlace.{Fill, Evens, align_fill, shift_fill, box_same}

-- the edge, on integers
abbrev edge_n : AlignmentSafety → AxisStaticEdge → AxisStaticEdge → LineN → N → AxisStaticEdge
edge_n Default k fallback area box = k
edge_n Unsafe k fallback area box = k
edge_n Safe k fallback area box = cond (lt_n (span_n area) box) fallback k

abbrev offset_n : AlignmentSafety → AxisStaticEdge → AxisStaticEdge → LineN → N → LineN → N
offset_n s k fallback area u m = add_n (align_n area (box_n u m) (edge_n s k fallback area (box_n u m))) m.start

module _ (L A S : ℕ) (room : 10 * L + 6 * A + S < 16777216) where
  edge_exact : (s : AlignmentSafety) (p : AxisStaticPosition) {μ : LineN} {box : Float} {v : N} → LineExact 4 A p.area μ → Exact 4 (2 * L + S) box v
      → Aligned L A S room (align_in p.area box (offset_edge s p box)) (align_n μ v (edge_n s p.align.keyword p.align.fallback μ v))
  unfolding offset_edge
  edge_exact Default p h b = align_exact L A S room p.align.keyword (widen_line (omega arith) h) b
  edge_exact Unsafe p h b = align_exact L A S room p.align.keyword (widen_line (omega arith) h) b
  edge_exact Safe p {μ} {box} {v} h b = rw (lt_exact (span_of L A S room (widen_line (omega arith) h)) b) (go (lt_n (span_n μ) v))
    where
      go : (t : Bool) → Aligned L A S room (align_in p.area box (cond t p.align.fallback p.align.keyword)) (align_n μ v (cond t p.align.fallback p.align.keyword))
      go true = align_exact L A S room p.align.fallback (widen_line (omega arith) h) b
      go false = align_exact L A S room p.align.keyword (widen_line (omega arith) h) b

  offset_exact : (p : AxisStaticPosition) {μ m' : LineN} {size : Float} {u : N} {m : Line Float} → LineExact 4 A p.area μ → Exact 4 S size u → LineExact 4 L m m'
      → Placed L A S room (axis_offset p size m) (offset_n p.align.safety p.align.keyword p.align.fallback μ u m')
  unfolding axis_offset
  offset_exact p h hu hm = shifted L A S room (edge_exact p.align.safety p h (box_exact L A S room hu hm)) hm.start

-- in the image both edges are exchanged
edge_fill : (w box box' : N) (s : AlignmentSafety) (k fallback : AxisStaticEdge) (l l' : LineN) → EqN box box' → Multiple 2 box → Flip w l l' → Evens l
    → Fill w box (align_n l box (edge_n s k fallback l box)) (align_n l' box' (edge_n s (other_edge k) (other_edge fallback) l' box'))
edge_fill w box box' Default k fallback l l' e eb f ev = align_fill w box box' e eb l l' k f ev
edge_fill w box box' Unsafe k fallback l l' e eb f ev = align_fill w box box' e eb l l' k f ev
edge_fill w box box' Safe k fallback l l' e eb f ev = rw (lt_cong (span_n l) box (span_n l') box' (span_same w l l' f) e) (go (lt_n (span_n l') box'))
  where
    go : (t : Bool) → Fill w box (align_n l box (cond t fallback k)) (align_n l' box' (cond t (other_edge fallback) (other_edge k)))
    go true = align_fill w box box' e eb l l' fallback f ev
    go false = align_fill w box box' e eb l l' k f ev

offset_fill : (w : N) (s : AlignmentSafety) (k fallback : AxisStaticEdge) (area : LineN) (u : N) (m : LineN) → Evens area → Multiple 2 (box_n u m)
    → Fill w u (offset_n s k fallback area u m) (offset_n s (other_edge k) (other_edge fallback) (flipped w area) u (m.end toN m.start))
offset_fill w s k fallback area u m ev eb =
    let m' = m.end toN m.start in
    shift_fill w u m m' (align_n area (box_n u m) (edge_n s k fallback area (box_n u m)))
    (align_n (flipped w area) (box_n u m') (edge_n s (other_edge k) (other_edge fallback) (flipped w area) (box_n u m')))
    (record { start = refl; end = refl })
    (edge_fill w (box_n u m) (box_n u m') s k fallback area (flipped w area) (box_same u m m' (record { start = refl; end = refl })) eb (omega arith) ev)

pub offset_mirror : OffsetMirror
unfolding reflected_place reflected other_align
offset_mirror L A S t p w size m qw qs qe qu ms me =
    let hw = quarters_exact qw in
    let hs = quarters_exact qs in
    let he = quarters_exact qe in
    let hu = quarters_exact qu in
    let js = quarters_exact ms in
    let je = quarters_exact me in
    let α = units qs toN units qe in
    let μ = units ms toN units me in
    three_add_up (offset_exact (4 * L) (4 * L + 4 * A) (4 * S) (omega (arith, ltb→lt)) p {μ = α} {m' = μ} (record { start = widen (omega arith) hs; end = widen (omega arith) he }) hu (record { start = js; end = je }))
    (offset_exact (4 * L) (4 * L + 4 * A) (4 * S) (omega (arith, ltb→lt)) (reflected_place w p) {μ = flipped (units qw) α} {m' = units me toN units ms}
    (record { start = sub_exact hw he (omega (arith, ltb→lt)); end = sub_exact hw hs (omega (arith, ltb→lt)) }) hu (record { start = je; end = js }))
    hu hw
    (offset_fill (units qw) p.align.safety p.align.keyword p.align.fallback α (units qu) μ (even_of 2 (units qs) hs.mult, even_of 2 (units qe) he.mult)
    (add_mult 2 (add_n (units qu) (units ms)) (units me) (add_mult 2 (units qu) (units ms) (even_of 2 (units qu) hu.mult) (even_of 2 (units ms) js.mult)) (even_of 2 (units me) je.mult)))
