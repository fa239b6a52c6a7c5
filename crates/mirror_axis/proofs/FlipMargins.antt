-- The integer axis and its mirror image: the stretch-fit size is shared, the margins change places. Assumes nothing.
use borrow.Author.Rules.{rules}
use mathlib.Core.Path.{◌≡◌}
use mathlib.Core.Bool.{and_comm, Bool, true, false, not, ◌&&◌, cond}
use native.Mathlib.Omega.{arith}
use borrow.Author.Tests.{not-true}
use Rattle.util_exact.specs.Integer.{N, zero_n, add_n, EqN}
use Rattle.util_exact.proofs.Tests.{pick}
use Rattle.util_exact.proofs.Integers.{sub_n, max_n, lt_cong, Multiple, recast_mult, half_twice, half_cong}
use Rattle.mirror_axis.proofs.Model.{LineN, ◌toN◌, span_n, AxisN, Shape, block_n, stretch_fit_n, halves_n, filled_n, fills, margins_in}
use Rattle.mirror_axis.proofs.FlipBlock.{Flip, image_n, image_shape}

pub record Swap (m m' : LineN) : Type 0 where
  pub start : EqN m.start m'.end
  pub end : EqN m.end m'.start

-- a line and its image are of one length
pub span_same : (w : N) (l l' : LineN) → Flip w l l' → EqN (span_n l) (span_n l')
span_same w l l' h = omega arith

less_same : (a b c d : N) → EqN a b → EqN (max_n (sub_n a (add_n c d)) zero_n) (max_n (sub_n b (add_n d c)) zero_n)
less_same a b c d h = omega arith

pub stretch_same : (σ : Shape) (α : AxisN) → Flip α.size (block_n σ α) (block_n (image_shape σ) (image_n α)) → EqN (stretch_fit_n σ α) (stretch_fit_n (image_shape σ) (image_n α))
stretch_same σ α h = search (rules, less_same, span_same)

-- ---- auto margins

ends_swap : (free free' : N) (r : Bool) → EqN free free' → Swap (cond r (free toN zero_n) (zero_n toN free)) (cond (not r) (free' toN zero_n) (zero_n toN free'))
ends_swap free free' true h = omega arith
ends_swap free free' false h = omega arith

halves_swap : (free free' : N) (i r : Bool) → EqN free free' → Multiple 2 free → Swap (halves_n free i r) (halves_n free' i (not r))
halves_swap free free' i r h ev = search (rules, ends_swap, half_cong, lt_cong, pick, recast_mult)

filled_swap : (s e : Bool) (m : LineN) (free free' : N) (i r : Bool) → EqN free free' → Multiple 2 free → Swap (filled_n s e m free i r) (filled_n e s (m.end toN m.start) free' i (not r))
filled_swap s e m free free' i r h k = search (rules, halves_swap)

pub margins_swap : (σ : Shape) (α : AxisN) (l l' : LineN) (u : N) → Flip α.size l l' → Multiple 2 (sub_n (span_n l) u)
    → Swap (margins_in (σ.inset_start && σ.inset_end) l σ α u) (margins_in (σ.inset_end && σ.inset_start) l' (image_shape σ) (image_n α) u)
margins_swap σ α l l' u h ev = search (rules, and_comm, filled_swap, pick)

-- ---- with both insets and an auto margin, the margins take up the free space

halves_sum : (free : N) (i r : Bool) → Multiple 2 free → EqN (add_n (halves_n free i r).start (halves_n free i r).end) free
halves_sum free i r ev = search (rules, half_twice)

filled_sum : (s e : Bool) (m : LineN) (free : N) (i r : Bool) → s && e ≡ false → Multiple 2 free → EqN (add_n (filled_n s e m free i r).start (filled_n s e m free i r).end) free
filled_sum s e m free i r h k = search (rules, halves_sum)

pub margins_fill : (σ : Shape) (α : AxisN) (l : LineN) (u : N) → Multiple 2 (sub_n (span_n l) u) → fills σ.inset_start σ.inset_end σ.margin_start σ.margin_end ≡ true
    → let m = margins_in (σ.inset_start && σ.inset_end) l σ α u in EqN (add_n m.start m.end) (sub_n (span_n l) u)
margins_fill σ α l u ev = search (rules, filled_sum, not-true)
