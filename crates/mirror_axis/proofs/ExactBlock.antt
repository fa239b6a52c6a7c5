-- The block of an axis of whole quarter pixels is the integer block: no operation rounds. L and A bound lengths and static area, in
-- sixteenths; the block is bounded by 3 L + 2 A. Assumes nothing.
use borrow.Author.Rules.{rules}
use Rattle.std.specs.Prelude.{Float, None, Option, Some, is_some}
use mathlib.Core.Path.{◌≡◌, refl}
use mathlib.Core.Bool.{Bool, true, false, cond}
use Prim.Native.Nat.{ℕ, ◌+◌, ◌*◌, ◌≤◌, ◌<◌}
use native.Mathlib.Omega.{arith}
use lib.Ieee.{Float}
use Rattle.geometry.specs.Geometry.{◌to◌}
use Rattle.geometry.specs.declared.Line.{Line}
use Rattle.tree.specs.declared.layout.AxisStaticEdge.{AxisStaticEdge}
use Rattle.tree.specs.declared.layout.AxisStaticEdge.TheVariants.{Start, Center, End}
use Rattle.oof_axis.specs.declared.OofAxis.{OofAxis}
use Rattle.oof_axis.specs.Axis.{centered_block, static_block, inset_block, start_is_weaker, repaired, block}
use Rattle.util_exact.specs.Integer.{N}
use Rattle.util_exact.proofs.Tests.{pick}
use Rattle.util_exact.proofs.Exact.{Exact, widen, eighths, zero_exact}
use Rattle.util_exact.proofs.Sum.{add_exact, sub_exact}
use Rattle.util_exact.proofs.Double.{dbl_exact, half_exact}
use Rattle.util_exact.proofs.Compare.{lt_exact, le_exact}
use Rattle.util_exact.proofs.Order.{magnitude_exact}
use Rattle.util_exact.proofs.Quarters.{MaybeExact}
use Rattle.mirror_axis.proofs.Model.{LineN, AxisN, shape, centered_n, static_n, inset_n, end_of, weaker_of, closed_n, repaired_n, block_n}

pub record LineExact (g b : ℕ) (l : Line Float) (m : LineN) : Type 0 where
  pub start : Exact g b l.start m.start
  pub end : Exact g b l.end m.end

pub widen_line : {g b c : ℕ} {l : Line Float} {m : LineN} → b ≤ c → LineExact g b l m → LineExact g c l m
widen_line i h = record { start = widen i h.start; end = widen i h.end }

-- the numbers of a are those of α, in whole quarter pixels
pub record ExactAxis (L A : ℕ) (a : OofAxis) (α : AxisN) : Type 0 where
  pub size : Exact 4 L a.size α.size
  pub inset_start : MaybeExact 4 L a.inset.start α.inset.start
  pub inset_end : MaybeExact 4 L a.inset.end α.inset.end
  pub margin_start : MaybeExact 4 L a.margin.start α.margin.start
  pub margin_end : MaybeExact 4 L a.margin.end α.margin.end
  pub area : LineExact 4 A a.place.area α.area

-- the integer block names its weaker edge, the definition tells whether it is the start
abbrev is_start : AxisStaticEdge → Bool
is_start Start = true
is_start Center = false
is_start End = false

closed_exact : {b : ℕ} {l : Line Float} {m : LineN} (k : AxisStaticEdge) → LineExact 4 b l m → LineExact 4 b (cond (is_start k) (l.end to l.end) (l.start to l.start)) (closed_n k m)
closed_exact k h = search rules

repaired_exact : {b : ℕ} {l : Line Float} {m : LineN} (k : AxisStaticEdge) → LineExact 4 b l m → LineExact 4 b (repaired (is_start k) l) (repaired_n k m)
unfolding repaired
repaired_exact {b} k h = pick (LineExact 4 b) (lt_exact h.end h.start) (closed_exact k h) h

end_is : (r : Bool) → r ≡ is_start (end_of r)
end_is true = refl
end_is false = refl

weaker_is : (s e : Option Float) (a : OofAxis) → start_is_weaker s e a ≡ is_start (weaker_of (is_some s) (is_some e) a.reversed)
unfolding start_is_weaker
weaker_is s e a = search (rules, end_is)

module _ (L A : ℕ) (room : 10 * L + 6 * A < 16777216) where
  centered_exact : {c w : Float} {γ ω : N} → Exact 2 A c γ → Exact 4 L w ω → LineExact 4 (3 * L + 2 * A) (centered_block c w) (centered_n γ ω)
  unfolding centered_block
  centered_exact hc hw =
      let rest = sub_exact (eighths hw) hc (omega arith) in
      pick (LineExact 4 (3 * L + 2 * A)) (le_exact (magnitude_exact hc) (magnitude_exact rest))
      (record { start = zero_exact; end = widen (omega arith) (dbl_exact hc (omega arith)) })
      (record { start = widen (omega arith) (sub_exact hw (dbl_exact rest (omega arith)) (omega arith)); end = widen (omega arith) hw })

  static_exact : {area : Line Float} {m : LineN} {w : Float} {ω : N} (k : AxisStaticEdge) → LineExact 4 A area m → Exact 4 L w ω → LineExact 4 (3 * L + 2 * A) (static_block k area w) (static_n k m ω)
  unfolding static_block
  static_exact Start ha hw = record { start = widen (omega arith) ha.start; end = widen (omega arith) hw }
  static_exact Center ha hw = centered_exact (half_exact 2 A (add_exact ha.start ha.end (omega arith)) (omega arith) (omega arith)) hw
  static_exact End ha hw = record { start = zero_exact; end = widen (omega arith) ha.end }

  inset_exact : (s e : Option Float) (a : OofAxis) (α : AxisN) → MaybeExact 4 L s α.inset.start → MaybeExact 4 L e α.inset.end → ExactAxis L A a α
      → LineExact 4 (3 * L + 2 * A) (inset_block s e a) (inset_n (is_some s) (is_some e) a.place.align.keyword α)
  unfolding inset_block
  inset_exact (Some x) (Some y) a α hs he h = record { start = widen (omega arith) hs; end = widen (omega arith) (sub_exact h.size he (omega arith)) }
  inset_exact (Some x) None a α hs he h = record { start = widen (omega arith) hs; end = widen (omega arith) h.size }
  inset_exact None (Some y) a α hs he h = record { start = zero_exact; end = widen (omega arith) (sub_exact h.size he (omega arith)) }
  inset_exact None None a α hs he h = static_exact a.place.align.keyword h.area h.size

  pub block_exact : (a : OofAxis) (α : AxisN) → ExactAxis L A a α → LineExact 4 (3 * L + 2 * A) (block a) (block_n (shape a) α)
  unfolding block
  block_exact a α h = search (rules, inset_exact, repaired_exact, weaker_is)
