-- The integer axis and its mirror image: the two places, with the box between them, fill the width. Assumes nothing.
use Rattle.std.proofs.lemmas.Bool.Decides.{nat_tests}
use borrow.Author.Rules.{rules}
use mathlib.Core.Path.{◌≡◌, refl}
use mathlib.Core.Bool.{and_comm, Bool, true, false, not}
use Prim.Native.Nat.{◌+◌, ◌≤◌}
use native.Mathlib.Omega.{arith}
use Rattle.style.specs.declared.alignment.AlignmentSafety.{AlignmentSafety}
use Rattle.tree.specs.declared.layout.AxisStaticEdge.{AxisStaticEdge}
use Rattle.tree.specs.declared.layout.AxisStaticEdge.TheVariants.{Start, Center, End}
use Rattle.oof_axis.specs.declared.OofAlignment.{OofAlignment}
use Rattle.util_exact.specs.Integer.{N, add_n, EqN}
use Rattle.util_exact.proofs.Tests.{pick, pick_when}
use Rattle.util_exact.proofs.Integers.{sub_n, half_n, max_n, min_n, lt_cong, le_cong, Multiple, add_mult, sub_mult, zero_mult, min_mult, max_mult, half_twice}
use Rattle.mirror_axis.specs.Image.{other_edge}
use Rattle.mirror_axis.proofs.Model.{LineN, span_n, AxisN, Shape, fills, start_of, align_n, align_of, limit_n, kept_n, limited_n, self_n, static_place_n, box_n, position_n}
use Rattle.mirror_axis.proofs.FlipBlock.{Flip, flipped, image_n, image_shape}
use Rattle.mirror_axis.proofs.FlipMargins.{Swap, span_same}

-- x and x', with a box between them, fill the width w
abbrev pub Fill : N → N → N → N → Type 0
Fill w box x x' = EqN (add_n (add_n x x') box) w

abbrev pub Evens : LineN → Type 0
Evens l = Multiple 2 l.start × Multiple 2 l.end

-- ---- edges

start_other : (r : Bool) → start_of (not r) ≡ other_edge (start_of r)
unfolding other_edge
start_other true = refl
start_other false = refl

align_other : (al : OofAlignment) (r : Bool) → align_of al (not r) ≡ other_edge (align_of al r)
unfolding other_edge
align_other al r = search rules

-- ---- clamped on one side, and on both where the box fits

min_max : (w box a a' b b' : N) → Fill w box a a' → Fill w box b b' → Fill w box (max_n a b) (min_n a' b')
min_max w box a a' b b' f g = omega arith

max_min : (w box a a' b b' : N) → Fill w box a a' → Fill w box b b' → Fill w box (min_n a b) (max_n a' b')
max_min w box a a' b b' f g = omega arith

both_sides : (a low high : N) → low.p + high.n ≤ high.p + low.n → EqN (min_n (max_n a low) high) (max_n (min_n a high) low)
both_sides a low high h = omega arith

exchange : (w box x y x' : N) → EqN x y → Fill w box x x' → Fill w box y x'
exchange w box x y x' e f = omega arith

-- low and high, of the place, and low' and high' of the image
clamp_fill : (w box x x' low high low' high' : N) → low.p + high.n ≤ high.p + low.n → Fill w box x x' → Fill w box low high' → Fill w box high low'
    → Fill w box (max_n (min_n x high) low) (max_n (min_n x' high') low')
clamp_fill w box x x' low high low' high' fit f g h = search (rules, both_sides, exchange, max_min, min_max)

-- ---- a margin box aligned in a line and in its image

module _ (w box box' : N) (same_box : EqN box box') (even-box : Multiple 2 box) where
  pub align_fill : (l l' : LineN) (k : AxisStaticEdge) → Flip w l l' → Evens l → Fill w box (align_n l box k) (align_n l' box' (other_edge k))
  unfolding other_edge
  align_fill l l' Start f ev = omega arith
  align_fill l l' Center f ev = center l.start l.end l'.start l'.end f.start f.end (sub_mult 2 (add_n l.start l.end) box (add_mult 2 l.start l.end ev.0 ev.1) even-box)
    where
      center : (a b a' b' : N) → EqN (add_n a b') w → EqN (add_n b a') w → Multiple 2 (sub_n (add_n a b) box) → Fill w box (half_n (sub_n (add_n a b) box)) (half_n (sub_n (add_n a' b') box'))
      center a b a' b' p q h =
          let even : Multiple 2 (sub_n (add_n a' b') box') = (h.1 + w.p + box.n, h.0 + w.n + box.p, omega (arith, h.2)) in
          omega (arith, half_twice (sub_n (add_n a b) box) h, half_twice (sub_n (add_n a' b') box') even)
  align_fill l l' End f ev = omega arith

  start_fill : (l l' : LineN) (r : Bool) → Flip w l l' → Evens l → Fill w box (align_n l box (start_of r)) (align_n l' box' (start_of (not r)))
  start_fill l l' r f ev = rw (start_other r) (align_fill l l' (start_of r) f ev)

  static_fill : (s : AlignmentSafety) (σ : Shape) (area l l' : LineN) → Flip w l l' → Evens l → Evens area
      → Fill w box (static_place_n s σ area l box) (static_place_n s (image_shape σ) (flipped w area) l' box')
  static_fill s σ area l l' f ev ea = search (rules, align_fill, lt_cong, pick, span_same, start_fill)

  -- ---- kept within the limit

  limit_flip : (l l' : LineN) → Flip w l l' → Flip w (limit_n w l) (limit_n w l')
  limit_flip l l' f = record { start = omega arith; end = omega arith }

  kept_fill : (lim lim' l l' : LineN) (k : AxisStaticEdge) (r : Bool) → Flip w lim lim' → Flip w l l' → Evens lim → Evens l
      → Fill w box (kept_n lim r l box k) (kept_n lim' (not r) l' box' (other_edge k))
  kept_fill lim lim' l l' k r g f evm ev = search (rules, align_fill, clamp_fill, le_cong, pick_when, span_same, start_fill)

  -- the place of an edge of the limit and of its image's
  low_fill : (lim lim' : LineN) → Flip w lim lim' → Fill w box lim.start (sub_n lim'.end box')
  low_fill lim lim' g = omega arith

  high_fill : (lim lim' : LineN) → Flip w lim lim' → Fill w box (sub_n lim.end box) lim'.start
  high_fill lim lim' g = omega arith

  limited_fill : (scrolls r : Bool) (l l' : LineN) (k : AxisStaticEdge) → Multiple 2 w → Flip w l l' → Evens l
      → Fill w box (limited_n scrolls r w l box k) (limited_n scrolls (not r) w l' box' (other_edge k))
  limited_fill scrolls r l l' k h i j = search (rules, align_fill, high_fill, kept_fill, limit_flip, low_fill, max_min, max_mult, min_max, min_mult, zero_mult)

  self_fill : (s : AlignmentSafety) (σ : Shape) (l l' : LineN) (k : AxisStaticEdge) → Multiple 2 w → Flip w l l' → Evens l
      → Fill w box (self_n s σ w l box k) (self_n s (image_shape σ) w l' box' (other_edge k))
  self_fill s σ l l' k h i j = grind (arith, nat_tests, align_fill, le_cong, limited_fill, lt_cong, pick, span_same, start_fill)

-- ---- the place

-- the margin box and its image have one size; each place is moved by its start margin
pub shift_fill : (w u : N) (m m' : LineN) (x x' : N) → Swap m m' → Fill w (box_n u m) x x' → Fill w u (add_n x m.start) (add_n x' m'.start)
shift_fill w u m m' x x' s f = omega arith

auto_fill : (w u : N) (l l' m m' : LineN) → Flip w l l' → Swap m m' → EqN (add_n m.start m.end) (sub_n (span_n l) u) → Fill w u (add_n l.start m.start) (add_n l'.start m'.start)
auto_fill w u l l' m m' f s t = omega arith

pub box_same : (u : N) (m m' : LineN) → Swap m m' → EqN (box_n u m) (box_n u m')
box_same u m m' s = omega arith

-- l and m: block and margins. With both insets and an auto margin, the margins take up the free space
pub position_fill : (s e : Bool) (σ : Shape) (α : AxisN) (l l' m m' : LineN) (u : N) → Flip α.size l l' → Swap m m' → Multiple 2 α.size → Evens l → Evens α.area → Multiple 2 (box_n u m)
    → (fills s e σ.margin_start σ.margin_end ≡ true → EqN (add_n m.start m.end) (sub_n (span_n l) u))
    → Fill α.size u (position_n s e σ α l u m) (position_n e s (image_shape σ) (image_n α) l' u m')
position_fill s e σ α l l' m m' u h k i j p q r = search (rules, align_other, and_comm, auto_fill, box_same, pick_when, self_fill, shift_fill, static_fill)
