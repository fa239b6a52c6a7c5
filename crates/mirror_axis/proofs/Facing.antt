-- The mirror law between two axes that face each other: each the mirror image of the other as numbers, whatever floats they are
-- written with. L, A and S bound lengths, static area and box size, in sixteenths. Assumes nothing.
use borrow.Author.Rules.{rules}
use Rattle.std.specs.Prelude.{Float}
use mathlib.Core.Path.{◌≡◌, sym, ap, ap₂, subst}
use mathlib.Core.Bool.{and_comm, Bool, false, ◌&&◌}
use Prim.Native.Nat.{ℕ, ◌+◌, ◌*◌, ◌<◌}
use native.Mathlib.Omega.{arith}
use lib.Ieee.{Float}
use Rattle.geometry.specs.Geometry.{span}
use Rattle.geometry.specs.declared.Line.{Line}
use Rattle.oof_axis.specs.declared.OofAlignment.{OofAlignment}
use Rattle.oof_axis.specs.declared.OofAxis.{OofAxis}
use Rattle.oof_axis.specs.Axis.{block, both_insets, stretch_fit, stretching, stretches, is_stretch, placement}
use Rattle.util_exact.specs.Integer.{N, add_n}
use Rattle.util_exact.proofs.Integers.{Multiple, sub_n, add_mult, even_of}
use Rattle.util_exact.proofs.Exact.{Exact, any}
use Rattle.util_exact.proofs.Sum.{sub_exact}
use Rattle.util_exact.proofs.Same.{Same, same}
use Rattle.mirror_axis.proofs.Model.{LineN, span_n, AxisN, Shape, shape, fills, block_n, stretch_fit_n, margins_n, place_n}
use Rattle.mirror_axis.proofs.ExactBlock.{LineExact, ExactAxis, block_exact}
use Rattle.mirror_axis.proofs.ExactMargins.{span_exact, stretch_exact, margins_exact, margins_eighths}
use Rattle.mirror_axis.proofs.ExactPlace.{place_exact}
use Rattle.mirror_axis.proofs.FlipBlock.{Flip, NotZero, image_n, image_shape, block_flip}
use Rattle.mirror_axis.proofs.FlipMargins.{Swap, span_same, stretch_same, margins_swap, margins_fill}
use Rattle.mirror_axis.proofs.FlipPlace.{Fill, Evens, position_fill}

pub record Facing (L A : ℕ) (a a' : OofAxis) : Type 0 where
  pub α : AxisN
  pub left : ExactAxis L A a α
  pub right : ExactAxis L A a' (image_n α)
  pub shapes : shape a' ≡ image_shape (shape a)
  pub wide : NotZero α.size

-- two floats that, with a number u between them, fill w
pub record Filled (b : ℕ) (w u : N) (x x' : Float) : Type 0 where
  pub a : N
  pub a' : N
  pub l : Exact 1 b x a
  pub r : Exact 1 b x' a'
  pub fill : Fill w u a a'

evens : {b : ℕ} {l : Line Float} {m : LineN} → LineExact 4 b l m → Evens m
evens {m = m} h = (even_of 2 m.start h.start.mult, even_of 2 m.end h.end.mult)

abbrev filling : Shape → Bool
filling σ = fills σ.inset_start σ.inset_end σ.margin_start σ.margin_end

module _ (L A : ℕ) (room : 10 * L + 6 * A < 16777216) (a a' : OofAxis) (h : Facing L A a a') where
  -- the shape of a' is the image of a's
  by_shape : (P : Shape → Type 0) → P (shape a') → P (image_shape (shape a))
  by_shape P = subst P h.shapes

  pub block_left : LineExact 4 (3 * L + 2 * A) (block a) (block_n (shape a) h.α)
  block_left = block_exact L A room a h.α h.left

  pub block_right : LineExact 4 (3 * L + 2 * A) (block a') (block_n (image_shape (shape a)) (image_n h.α))
  block_right = by_shape (λ σ. LineExact 4 (3 * L + 2 * A) (block a') (block_n σ (image_n h.α))) (block_exact L A room a' (image_n h.α) h.right)

  -- the blocks are mirrored
  pub blocks : Flip h.α.size (block_n (shape a) h.α) (block_n (image_shape (shape a)) (image_n h.α))
  blocks =
      let e = evens h.left.area in
      block_flip (shape a) h.α h.wide (add_mult 2 h.α.area.start h.α.area.end e.0 e.1)

  -- the block's size is shared
  pub span_shared : Same 4 (6 * L + 4 * A) (span (block a)) (span (block a'))
  span_shared =
      same (span_exact L A room a h.α h.left)
      (by_shape (λ σ. Exact 4 (6 * L + 4 * A) (span (block a')) (span_n (block_n σ (image_n h.α)))) (span_exact L A room a' (image_n h.α) h.right))
      (sym (span_same h.α.size (block_n (shape a) h.α) (block_n (image_shape (shape a)) (image_n h.α)) blocks))

  -- the stretch-fit size is shared
  pub stretch_shared : Same 4 (8 * L + 4 * A) (stretch_fit a) (stretch_fit a')
  stretch_shared =
      same (stretch_exact L A room a h.α h.left)
      (by_shape (λ σ. Exact 4 (8 * L + 4 * A) (stretch_fit a') (stretch_fit_n σ (image_n h.α))) (stretch_exact L A room a' (image_n h.α) h.right))
      (sym (stretch_same (shape a) h.α blocks))

  pub insets_shared : both_insets a ≡ both_insets a'
  unfolding both_insets
  insets_shared = search (rules, and_comm)

  pub alignment_shared : a.alignment ≡ a'.alignment
  alignment_shared = sym (ap (λ (σ : Shape). σ.alignment) h.shapes)

  -- whether a size is stretched is shared
  pub stretches_shared : (plain : Bool) → stretches a plain ≡ stretches a' plain
  unfolding stretches
  stretches_shared plain = ap₂ ◌&&◌ insets_shared (ap (λ (al : OofAlignment). stretching al plain) alignment_shared)

  -- whether it is an explicit stretch is shared
  pub is_stretch_shared : is_stretch a ≡ is_stretch a'
  unfolding is_stretch
  is_stretch_shared = ap (λ (al : OofAlignment). stretching al false) alignment_shared

module _ (L A S : ℕ) (room : 10 * L + 6 * A + S < 16777216) (a a' : OofAxis) (h : Facing L A a a') (size size' : Float) (s : Same 4 S size size') where
  abbrev margins_left : LineN
  margins_left = margins_n (shape a) h.α s.a

  abbrev margins_right : LineN
  margins_right = margins_n (image_shape (shape a)) (image_n h.α) s.a

  margins_left_lem : LineExact 2 (7 * L + 4 * A + S) (placement a size).margin margins_left
  unfolding placement
  margins_left_lem = margins_eighths L A S (filling (shape a)) (margins_exact L A S room a h.α h.left s.l)

  margins_right_lem : LineExact 2 (7 * L + 4 * A + S) (placement a' size').margin margins_right
  unfolding placement
  margins_right_lem =
      by_shape L A (omega arith) a a' h (λ σ. LineExact 2 (7 * L + 4 * A + S) (placement a' size').margin (margins_n σ (image_n h.α) s.a))
      (margins_eighths L A S (filling (shape a')) (margins_exact L A S room a' (image_n h.α) h.right s.r))

  -- the free space is a whole number of quarters
  free_even : Multiple 2 (sub_n (span_n (block_n (shape a) h.α)) s.a)
  free_even = even_of 2 (sub_n (span_n (block_n (shape a) h.α)) s.a) (sub_exact (span_exact L A (omega arith) a h.α h.left) s.l (omega arith)).mult

  margins_turn : Swap margins_left margins_right
  margins_turn = margins_swap (shape a) h.α (block_n (shape a) h.α) (block_n (image_shape (shape a)) (image_n h.α)) s.a (blocks L A (omega arith) a a' h) free_even

  -- the margins change places
  pub start_is_end : Same 2 (7 * L + 4 * A + S) (placement a size).margin.start (placement a' size').margin.end
  start_is_end = same margins_left_lem.start margins_right_lem.end (sym margins_turn.start)

  pub end_is_start : Same 2 (7 * L + 4 * A + S) (placement a size).margin.end (placement a' size').margin.start
  end_is_start = same margins_left_lem.end margins_right_lem.start (sym margins_turn.end)

  -- the two places, with the box between them, fill the width
  pub positions : Filled (10 * L + 6 * A + S) h.α.size s.a (placement a size).position (placement a' size').position
  positions =
      record {
        a = place_n (shape a) h.α s.a;
        a' = place_n (image_shape (shape a)) (image_n h.α) s.a;
        l = any (place_exact L A S room a h.α h.left s.l);
        r =
            by_shape L A (omega arith) a a' h (λ σ. Exact 1 (10 * L + 6 * A + S) (placement a' size').position (place_n σ (image_n h.α) s.a))
            (any (place_exact L A S room a' (image_n h.α) h.right s.r));
        fill =
            position_fill (shape a).inset_start (shape a).inset_end (shape a) h.α (block_n (shape a) h.α) (block_n (image_shape (shape a)) (image_n h.α)) margins_left margins_right s.a
            (blocks L A (omega arith) a a' h) margins_turn (even_of 2 h.α.size h.left.size.mult) (evens (block_left L A (omega arith) a a' h)) (evens h.left.area)
            (add_mult 2 (add_n s.a margins_left.start) margins_left.end (add_mult 2 s.a margins_left.start (even_of 2 s.a s.l.mult) margins_left_lem.start.mult) margins_left_lem.end.mult)
            (margins_fill (shape a) h.α (block_n (shape a) h.α) s.a free_even);
      }
