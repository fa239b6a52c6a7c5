-- The stretch-fit size and the margins of an axis of whole quarter pixels are the integer ones. S bounds the box size. Margins that
-- fill the block are whole eighths bounded by 7 L + 4 A + S, others whole quarters bounded by L. Assumes nothing.
use Rattle.std.specs.Prelude.{Float, None, Option, Some, is_some}
use mathlib.Core.Path.{refl, ap}
use mathlib.Core.Bool.{Bool, true, false, ◌&&◌, cond}
use Prim.Native.Nat.{ℕ, ◌+◌, ◌*◌, ◌≤◌, ◌<◌}
use native.Mathlib.Omega.{arith}
use lib.Ieee.{Float}
use Rattle.util.specs.Number.{◌⊖◌}
use Rattle.util.specs.Maybe.{or_zero}
use Rattle.geometry.specs.Geometry.{◌to◌, span}
use Rattle.geometry.specs.declared.Line.{Line}
use Rattle.oof_axis.specs.declared.OofAxis.{OofAxis}
use Rattle.oof_axis.specs.Axis.{block, both_insets, stretch_fit, halves, filled_margins, margins}
use Rattle.util_exact.specs.Integer.{N}
use Rattle.util_exact.proofs.Tests.{pick}
use Rattle.util_exact.proofs.Exact.{Exact, widen, eighths, zero_exact}
use Rattle.util_exact.proofs.Sum.{add_exact, sub_exact}
use Rattle.util_exact.proofs.Double.{half_exact}
use Rattle.util_exact.proofs.Compare.{lt_exact}
use Rattle.util_exact.proofs.Order.{larger_exact}
use Rattle.util_exact.proofs.Quarters.{MaybeExact}
use Rattle.mirror_axis.proofs.Model.{LineN, ◌toN◌, span_n, AxisN, shape, block_n, fills, or_zero_n, stretch_fit_n, halves_n, filled_n, margins_in, margins_n}
use Rattle.mirror_axis.proofs.ExactBlock.{LineExact, ExactAxis, block_exact}

abbrev pub margin_bound : ℕ → ℕ → ℕ → Bool → ℕ
margin_bound L A S fill = cond fill (7 * L + 4 * A + S) L

-- and their unit
abbrev pub margin_unit : Bool → ℕ
margin_unit fill = cond fill 2 4

pub or_zero_exact : {g b : ℕ} (m : Option Float) (a : N) → MaybeExact g b m a → Exact g b (or_zero m) (or_zero_n (is_some m) a)
or_zero_exact None a h = zero_exact
or_zero_exact (Some x) a h = h

eighths_line : {b c : ℕ} {x y : Float} {a d : N} → b ≤ c → Exact 4 b x a → Exact 4 b y d → LineExact 2 c (x to y) (a toN d)
eighths_line i h k = record { start = widen i (eighths h); end = widen i (eighths k) }

module _ (L A : ℕ) (room : 10 * L + 6 * A < 16777216) where
  pub span_exact : (a : OofAxis) (α : AxisN) → ExactAxis L A a α → Exact 4 (6 * L + 4 * A) (span (block a)) (span_n (block_n (shape a) α))
  span_exact a α h =
      let l = block_exact L A room a α h in
      widen (omega arith) (sub_exact l.end l.start (omega arith))

  pub stretch_exact : (a : OofAxis) (α : AxisN) → ExactAxis L A a α → Exact 4 (8 * L + 4 * A) (stretch_fit a) (stretch_fit_n (shape a) α)
  unfolding stretch_fit
  stretch_exact a α h =
      let m = add_exact (or_zero_exact a.margin.start α.margin.start h.margin_start) (or_zero_exact a.margin.end α.margin.end h.margin_end) (omega arith) in
      larger_exact (widen (omega arith) (sub_exact (span_exact a α h) m (omega arith))) zero_exact

module _ (L A S : ℕ) (room : 10 * L + 6 * A + S < 16777216) where
  halves_exact : {free : Float} {φ : N} (a : OofAxis) → Exact 4 (6 * L + 4 * A + S) free φ → LineExact 2 (7 * L + 4 * A + S) (halves free a) (halves_n φ a.inline a.reversed)
  unfolding halves
  halves_exact a h =
      let half = half_exact 2 (7 * L + 4 * A + S) h (omega arith) (omega arith) in
      pick (LineExact 2 (7 * L + 4 * A + S)) (ap (λ (t : Bool). t && a.inline) (lt_exact h (zero_exact {g = 4} {b = 0})))
      (pick (LineExact 2 (7 * L + 4 * A + S)) {t = a.reversed} refl (eighths_line (omega arith) h zero_exact) (eighths_line (omega arith) zero_exact h))
      (record { start = half; end = half })

  -- where both insets are given
  filled_exact : (ms me : Option Float) (m : LineN) {free : Float} {φ : N} (a : OofAxis) → MaybeExact 4 L ms m.start → MaybeExact 4 L me m.end → Exact 4 (6 * L + 4 * A + S) free φ
      → LineExact (margin_unit (fills true true (is_some ms) (is_some me))) (margin_bound L A S (fills true true (is_some ms) (is_some me))) (filled_margins ms me free a) (filled_n (is_some ms) (is_some me) m φ a.inline a.reversed)
  unfolding filled_margins
  filled_exact (Some x) (Some y) m a hs he h = record { start = hs; end = he }
  filled_exact (Some x) None m a hs he h = record { start = widen (omega arith) (eighths hs); end = widen (omega arith) (eighths (sub_exact h hs (omega arith))) }
  filled_exact None (Some y) m a hs he h = record { start = widen (omega arith) (eighths (sub_exact h he (omega arith))); end = widen (omega arith) (eighths he) }
  filled_exact None None m a hs he h = halves_exact a h

  margins_at : (s e : Option Float) (l : Line Float) (m : LineN) (a : OofAxis) (α : AxisN) {size : Float} {u : N} → Exact 4 (6 * L + 4 * A) (span l) (span_n m) → ExactAxis L A a α → Exact 4 S size u
      → LineExact (margin_unit (fills (is_some s) (is_some e) (is_some a.margin.start) (is_some a.margin.end)))
      (margin_bound L A S (fills (is_some s) (is_some e) (is_some a.margin.start) (is_some a.margin.end)))
      (cond (is_some s && is_some e) (filled_margins a.margin.start a.margin.end (span l ⊖ size) a) (or_zero a.margin.start to or_zero a.margin.end))
      (margins_in (is_some s && is_some e) m (shape a) α u)
  margins_at (Some x) (Some y) l m a α hl h hu = filled_exact a.margin.start a.margin.end α.margin a h.margin_start h.margin_end (sub_exact hl hu (omega arith))
  margins_at (Some x) None l m a α hl h hu = record { start = or_zero_exact a.margin.start α.margin.start h.margin_start; end = or_zero_exact a.margin.end α.margin.end h.margin_end }
  margins_at None e l m a α hl h hu = record { start = or_zero_exact a.margin.start α.margin.start h.margin_start; end = or_zero_exact a.margin.end α.margin.end h.margin_end }

  pub margins_exact : (a : OofAxis) (α : AxisN) {size : Float} {u : N} → ExactAxis L A a α → Exact 4 S size u
      → LineExact (margin_unit (fills (is_some a.inset.start) (is_some a.inset.end) (is_some a.margin.start) (is_some a.margin.end)))
      (margin_bound L A S (fills (is_some a.inset.start) (is_some a.inset.end) (is_some a.margin.start) (is_some a.margin.end))) (margins a size) (margins_n (shape a) α u)
  unfolding margins both_insets
  margins_exact a α h hu = margins_at a.inset.start a.inset.end (block a) (block_n (shape a) α) a α (span_exact L A (omega arith) a α h) h hu

-- all of them as eighths
pub margins_eighths : (L A S : ℕ) (fill : Bool) {l : Line Float} {m : LineN} → LineExact (margin_unit fill) (margin_bound L A S fill) l m → LineExact 2 (7 * L + 4 * A + S) l m
margins_eighths L A S true h = h
margins_eighths L A S false h = eighths_line (omega arith) h.start h.end
