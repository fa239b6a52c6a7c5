-- Where a box stands in an axis of whole quarter pixels is the integer place, in whole eighths, bounded by 10 L + 6 A + S: a margin box is halved
-- only where its margins don't fill the block, and then it is whole quarters. Assumes nothing.
use borrow.Author.Rules.{rules}
use Rattle.std.specs.Prelude.{Float, None, Option, Some, is_some}
use mathlib.Core.Path.{◌≡◌, refl, ap}
use mathlib.Core.Bool.{Bool, true, false, ◌&&◌, ◌||◌, cond}
use Prim.Native.Nat.{ℕ, ◌+◌, ◌*◌, ◌<◌}
use native.Mathlib.Omega.{arith}
use lib.Ieee.{Float, inf}
use Rattle.util.specs.Number.{◌⊕◌, 0f}
use Rattle.util.specs.Order.{larger, smaller}
use Rattle.geometry.specs.Geometry.{◌to◌, span}
use Rattle.geometry.specs.declared.Line.{Line}
use Rattle.style.specs.declared.alignment.AlignmentSafety.{AlignmentSafety}
use Rattle.style.specs.declared.alignment.AlignmentSafety.TheVariants.{Default, Unsafe, Safe}
use Rattle.tree.specs.Static.{start_edge}
use Rattle.tree.specs.declared.layout.AxisStaticEdge.{AxisStaticEdge}
use Rattle.tree.specs.declared.layout.AxisStaticEdge.TheVariants.{Start, Center, End}
use Rattle.oof_axis.specs.declared.OofAlignment.{OofAlignment}
use Rattle.oof_axis.specs.declared.OofAxis.{OofAxis}
use Rattle.oof_axis.specs.Axis.{align_in, align_edge, is_normal, limit, kept_within, self_aligned, static_aligned, position_in, position, placement}
use Rattle.util_exact.specs.Integer.{N, add_n}
use Rattle.util_exact.proofs.Tests.{pick}
use Rattle.util_exact.proofs.Integers.{sub_n, max_n, min_n, lt_n}
use Rattle.util_exact.proofs.Exact.{Exact, widen, eighths, zero_exact}
use Rattle.util_exact.proofs.Sum.{add_exact, sub_exact}
use Rattle.util_exact.proofs.Double.{half_exact}
use Rattle.util_exact.proofs.Compare.{lt_exact, le_exact}
use Rattle.util_exact.proofs.Order.{larger_exact, smaller_exact}
use Rattle.util_exact.proofs.Infinite.{inf_less, less_inf, le_inf, smaller_inf, larger_inf}
use Rattle.mirror_axis.proofs.Model.{LineN, span_n, AxisN, shape, fills, start_of, align_n, align_of, limit_n, kept_n, limited_n, self_n, static_place_n, box_n, position_n, place_n}
use Rattle.mirror_axis.proofs.ExactBlock.{LineExact, widen_line, ExactAxis, block_exact}
use Rattle.mirror_axis.proofs.ExactMargins.{margin_bound, margin_unit, margins_exact}

align_is : (al : OofAlignment) (a : OofAxis) → align_edge al a ≡ align_of al a.reversed
unfolding align_edge
align_is al a = search rules

module _ (L A S : ℕ) (room : 10 * L + 6 * A + S < 16777216) where
  -- a line as the block is bounded, a margin box, a place
  abbrev pub InBlock : Line Float → LineN → Type 0
  InBlock l m = LineExact 4 (3 * L + 2 * A) l m

  abbrev pub Box : Float → N → Type 0
  Box x v = Exact 4 (2 * L + S) x v

  abbrev pub Aligned : Float → N → Type 0
  Aligned x v = Exact 2 (5 * L + 2 * A + S) x v

  pub span_of : {l : Line Float} {m : LineN} → InBlock l m → Exact 4 (6 * L + 4 * A) (span l) (span_n m)
  span_of h = widen (omega arith) (sub_exact h.end h.start (omega arith))

  pub align_exact : {l : Line Float} {m : LineN} {box : Float} {v : N} (k : AxisStaticEdge) → InBlock l m → Box box v → Aligned (align_in l box k) (align_n m v k)
  unfolding align_in
  align_exact Start h b = widen (omega arith) (eighths h.start)
  align_exact Center h b = half_exact 2 (5 * L + 2 * A + S) (sub_exact (add_exact h.start h.end (omega arith)) b (omega arith)) (omega arith) (omega arith)
  align_exact End h b = widen (omega arith) (eighths (sub_exact h.end b (omega arith)))

  start_exact : {l : Line Float} {m : LineN} {box : Float} {v : N} (a : OofAxis) → InBlock l m → Box box v → Aligned (align_in l box (start_edge a.reversed)) (align_n m v (start_of a.reversed))
  start_exact a h b = align_exact (start_of a.reversed) h b

  -- ---- kept within the limit

  low_exact : {l : Line Float} {m : LineN} {w : Float} {ω : N} → InBlock l m → Exact 4 L w ω → Exact 4 (3 * L + 2 * A) (smaller l.start 0f) (limit_n ω m).start
  low_exact h hw = smaller_exact h.start zero_exact

  high_exact : {l : Line Float} {m : LineN} {w : Float} {ω : N} → InBlock l m → Exact 4 L w ω → Exact 4 (3 * L + 2 * A) (larger l.end w) (limit_n ω m).end
  high_exact h hw = larger_exact h.end (widen (omega arith) hw)

  within_exact : {lim l : Line Float} {λim m : LineN} {box : Float} {v : N} (a : OofAxis) (k : AxisStaticEdge) → InBlock lim λim → InBlock l m → Box box v
      → Aligned (kept_within lim a l box k) (kept_n λim a.reversed m v k)
  unfolding kept_within
  within_exact a k hl h b =
      pick Aligned (le_exact b (span_of hl))
      (larger_exact (smaller_exact (align_exact k h b) (widen (omega arith) (eighths (sub_exact hl.end b (omega arith))))) (widen (omega arith) (eighths hl.start)))
      (start_exact a hl b)

  -- a limit without an end, and one without a start
  open_end : {l : Line Float} {m : LineN} {box low : Float} {v λo : N} (a : OofAxis) (k : AxisStaticEdge) → InBlock l m → Box box v → Exact 4 (3 * L + 2 * A) low λo
      → Aligned (kept_within (low to inf false) a l box k) (max_n (align_n m v k) λo)
  unfolding kept_within
  open_end a k h b ho =
      rw (inf_less ho, le_inf b, inf_less b, smaller_inf (align_exact k h b))
      (larger_exact (align_exact k h b) (widen (omega arith) (eighths ho)))

  open_start : {l : Line Float} {m : LineN} {box high : Float} {v η : N} (a : OofAxis) (k : AxisStaticEdge) → InBlock l m → Box box v → Exact 4 (3 * L + 2 * A) high η
      → Aligned (kept_within (inf true to high) a l box k) (min_n (align_n m v k) (sub_n η v))
  unfolding kept_within
  open_start a k h b hh =
      let s = smaller_exact (align_exact k h b) (widen (omega arith) (eighths (sub_exact hh b (omega arith)))) in
      rw (less_inf hh, le_inf b, larger_inf s) s

  -- the limit, as its two flags say
  abbrev limit_of : Bool → Bool → Float → Line Float → Line Float
  limit_of scrolls reversed w l =
      let start = smaller l.start 0f in
      let end = larger l.end w in
      cond scrolls (cond reversed (inf true to end) (start to inf false)) (start to end)

  limited_exact : {l : Line Float} {m : LineN} {w box : Float} {ω v : N} (scrolls reversed : Bool) (a : OofAxis) (k : AxisStaticEdge) → a.reversed ≡ reversed → InBlock l m → Exact 4 L w ω → Box box v
      → Aligned (kept_within (limit_of scrolls reversed w l) a l box k) (limited_n scrolls reversed ω m v k)
  limited_exact false r a k e h hw b = rw (← e) (within_exact a k (record { start = low_exact h hw; end = high_exact h hw }) h b)
  limited_exact true false a k e h hw b = open_end a k h b (low_exact h hw)
  limited_exact true true a k e h hw b = open_start a k h b (high_exact h hw)

  -- ---- the box in the block and in the static area

  self_exact : (s : AlignmentSafety) {l : Line Float} {m : LineN} {box : Float} {ω v : N} (a : OofAxis) (k : AxisStaticEdge) → InBlock l m → Exact 4 L a.size ω → Box box v
      → Aligned (self_aligned s a l box k) (self_n s (shape a) ω m v k)
  unfolding self_aligned limit
  self_exact Unsafe a k h hw b = align_exact k h b
  self_exact Safe {l} {m} {box} {ω} {v} a k h hw b = rw (lt_exact (span_of h) b) (go (lt_n (span_n m) v))
    where
      go : (t : Bool) → Aligned (align_in l box (cond t (start_edge a.reversed) k)) (align_n m v (cond t (start_of a.reversed) k))
      go true = start_exact a h b
      go false = align_exact k h b
  self_exact Default a k h hw b =
      pick Aligned (ap (λ (t : Bool). t || is_normal a.alignment) (le_exact b (span_of h))) (align_exact k h b) (limited_exact a.scrolls a.reversed a k refl h hw b)

  static_place_exact : (s : AlignmentSafety) {l : Line Float} {m μ : LineN} {box : Float} {v : N} (a : OofAxis) → InBlock l m → LineExact 4 A a.place.area μ → Box box v
      → Aligned (static_aligned s a l box) (static_place_n s (shape a) μ m v)
  unfolding static_aligned
  static_place_exact Default a h ha b = align_exact a.place.align.keyword (widen_line (omega arith) ha) b
  static_place_exact Unsafe a h ha b = align_exact a.place.align.keyword (widen_line (omega arith) ha) b
  static_place_exact Safe a h ha b =
      pick Aligned (lt_exact (span_of h) b) (start_exact a h b) (align_exact a.place.align.keyword (widen_line (omega arith) ha) b)

  -- ---- the place

  pub box_exact : {size : Float} {u : N} {m : Line Float} {μ : LineN} → Exact 4 S size u → LineExact 4 L m μ → Box (size ⊕ m.start ⊕ m.end) (box_n u μ)
  box_exact hu hm = widen (omega arith) (add_exact (add_exact hu hm.start (omega arith)) hm.end (omega arith))

  abbrev pub Placed : Float → N → Type 0
  Placed x v = Exact 2 (10 * L + 6 * A + S) x v

  pub shifted : {x y : Float} {v d : N} → Aligned x v → Exact 4 L y d → Placed (x ⊕ y) (add_n v d)
  shifted h k = widen (omega arith) (add_exact h (eighths k) (omega arith))

  -- both insets: by the margins given or not
  both_exact : (ms me : Option Float) {l m : Line Float} {λl μ : LineN} {size : Float} {u : N} (a : OofAxis) (α : AxisN) → ExactAxis L A a α → InBlock l λl → Exact 4 S size u
      → LineExact (margin_unit (fills true true (is_some ms) (is_some me))) (margin_bound L A S (fills true true (is_some ms) (is_some me))) m μ
      → Placed (cond (is_some ms && is_some me) (self_aligned a.safety a l (size ⊕ m.start ⊕ m.end) (align_edge a.alignment a) ⊕ m.start) (l.start ⊕ m.start))
      (cond (is_some ms && is_some me)
      (add_n (self_n a.safety (shape a) α.size λl (box_n u μ) (align_of a.alignment a.reversed)) μ.start)
      (add_n λl.start μ.start))
  both_exact (Some x) (Some y) a α h hl hu hm =
      rw (align_is a.alignment a) (shifted (self_exact a.safety a (align_of a.alignment a.reversed) hl h.size (box_exact hu hm)) hm.start)
  both_exact (Some x) None a α h hl hu hm = widen (omega arith) (add_exact (eighths hl.start) hm.start (omega arith))
  both_exact None me a α h hl hu hm = widen (omega arith) (add_exact (eighths hl.start) hm.start (omega arith))

  position_at : (s e : Option Float) {l m : Line Float} {λl μ : LineN} {size : Float} {u : N} (a : OofAxis) (α : AxisN) → ExactAxis L A a α → InBlock l λl → Exact 4 S size u
      → LineExact (margin_unit (fills (is_some s) (is_some e) (is_some a.margin.start) (is_some a.margin.end)))
      (margin_bound L A S (fills (is_some s) (is_some e) (is_some a.margin.start) (is_some a.margin.end))) m μ
      → Placed (position_in s e a l size m) (position_n (is_some s) (is_some e) (shape a) α λl u μ)
  unfolding position_in
  position_at None None a α h hl hu hm = shifted (static_place_exact a.place.align.safety a hl h.area (box_exact hu hm)) hm.start
  position_at (Some x) None a α h hl hu hm = widen (omega arith) (eighths (add_exact hl.start hm.start (omega arith)))
  position_at None (Some y) a α h hl hu hm = widen (omega arith) (eighths (sub_exact (sub_exact hl.end hu (omega arith)) hm.end (omega arith)))
  position_at (Some x) (Some y) a α h hl hu hm = both_exact a.margin.start a.margin.end a α h hl hu hm

  pub place_exact : (a : OofAxis) (α : AxisN) {size : Float} {u : N} → ExactAxis L A a α → Exact 4 S size u → Placed (placement a size).position (place_n (shape a) α u)
  unfolding position placement
  place_exact a α h hu = search (rules, block_exact, margins_exact, position_at)
