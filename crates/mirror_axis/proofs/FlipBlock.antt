-- The integer axis and its mirror image: the blocks are mirrored. Assumes nothing.
use Rattle.std.proofs.lemmas.Bool.Decides.{nat_tests}
use borrow.Author.Rules.{rules}
use mathlib.Core.Path.{◌≡◌, refl}
use mathlib.Core.Bool.{Bool, not, cond}
use Prim.Native.Nat.{◌+◌, ◌≤◌, ◌<◌}
use native.Mathlib.Omega.{arith}
use Rattle.tree.specs.declared.layout.AxisStaticEdge.{AxisStaticEdge}
use Rattle.tree.specs.declared.layout.AxisStaticEdge.TheVariants.{Start, Center, End}
use Rattle.util_exact.specs.Integer.{N, zero_n, add_n, EqN}
use Rattle.util_exact.proofs.Tests.{pick, ltb_same}
use Rattle.util_exact.proofs.Integers.{sub_n, dbl_n, half_n, mag_n, le_n, mag_cong, Multiple, half_twice}
use Rattle.mirror_axis.specs.Image.{other_edge}
use Rattle.mirror_axis.proofs.Model.{LineN, ◌toN◌, AxisN, Shape, centered_n, static_n, inset_n, weaker_of, closed_n, repaired_n, block_n}

-- ---- the mirror image

abbrev pub flipped : N → LineN → LineN
flipped w l = sub_n w l.end toN sub_n w l.start

abbrev pub image_n : AxisN → AxisN
image_n α =
    record {
      size = α.size;
      inset = α.inset.end toN α.inset.start;
      margin = α.margin.end toN α.margin.start;
      area = flipped α.size α.area;
    }

abbrev pub image_shape : Shape → Shape
image_shape σ =
    record {
      inset_start = σ.inset_end;
      inset_end = σ.inset_start;
      margin_start = σ.margin_end;
      margin_end = σ.margin_start;
      keyword = other_edge σ.keyword;
      place_safety = σ.place_safety;
      alignment = σ.alignment;
      safety = σ.safety;
      inline = σ.inline;
      reversed = not σ.reversed;
      scrolls = σ.scrolls;
    }

-- l and l' are each other's image in a width
pub record Flip (w : N) (l l' : LineN) : Type 0 where
  pub start : EqN (add_n l.start l'.end) w
  pub end : EqN (add_n l.end l'.start) w

abbrev pub NotZero : N → Type 0
NotZero w = w.p ≡ w.n → ⊥

-- ---- around the static center

-- at a tie the center is the middle, unless the width is 0
tie : (w c r : N) → NotZero w → EqN r (sub_n w c) → EqN (mag_n c) (mag_n r) → EqN c r
tie w c r nz e f = omega arith

-- the tests of an axis and of its image pass together only at a tie, and never fail together
only_tie : (a b a' b' : N) → EqN a' b → EqN b' a → a.p + b.n ≤ b.p + a.n → a'.p + b'.n ≤ b'.p + a'.n → EqN a b
only_tie a b a' b' e f g h = omega arith

one_passes : (a b a' b' : N) → EqN a' b → EqN b' a → b.p + a.n < a.p + b.n → b'.p + a'.n < a'.p + b'.n → ⊥
one_passes a b a' b' e f g h = omega arith

-- c and r: the center's distances from start and end; c' and r' those of the image
around : (w c r c' r' : N) → NotZero w → EqN r (sub_n w c) → EqN c' r → EqN r' c
    → Flip w (cond (le_n (mag_n c) (mag_n r)) (zero_n toN dbl_n c) (sub_n w (dbl_n r) toN w)) (cond (le_n (mag_n c') (mag_n r')) (zero_n toN dbl_n c') (sub_n w (dbl_n r') toN w))
around w c r c' r' nz e f g = search (rules, mag_cong, one_passes, only_tie, tie)

centered_flip : (w c c' : N) → NotZero w → EqN (add_n c c') w → Flip w (centered_n c w) (centered_n c' w)
centered_flip w c c' nz e = around w c (sub_n w c) c' (sub_n w c') nz refl (omega arith) (omega arith)

-- ---- as the insets say

-- the middle of a line and of its image
middle : (w a b : N) → Multiple 2 (add_n a b) → EqN (add_n (half_n (add_n a b)) (half_n (add_n (sub_n w b) (sub_n w a)))) w
middle w a b h =
    let even : Multiple 2 (add_n (sub_n w b) (sub_n w a)) = (h.1 + w.p, h.0 + w.n, omega (arith, h.2)) in
    omega (arith, half_twice (add_n a b) h, half_twice (add_n (sub_n w b) (sub_n w a)) even)

static_flip : (w : N) (m : LineN) (k : AxisStaticEdge) → NotZero w → Multiple 2 (add_n m.start m.end) → Flip w (static_n k m w) (static_n (other_edge k) (flipped w m) w)
unfolding other_edge
static_flip w m k h l = search (rules, centered_flip, middle)

inset_flip : (s e : Bool) (k : AxisStaticEdge) (α : AxisN) → NotZero α.size → Multiple 2 (add_n α.area.start α.area.end) → Flip α.size (inset_n s e k α) (inset_n e s (other_edge k) (image_n α))
inset_flip s e k α h l = search (rules, static_flip)

-- ---- an end below its start

-- start or end: the weaker edge is never the center
abbrev Side : AxisStaticEdge → Type 0
Side Start = Unit {0}
Side Center = ⊥
Side End = Unit {0}

closed_flip : (w : N) (l l' : LineN) (k : AxisStaticEdge) → Side k → Flip w l l' → Flip w (closed_n k l) (closed_n (other_edge k) l')
unfolding other_edge
closed_flip w l l' k h i = search rules

repaired_flip : (w : N) (l l' : LineN) (k : AxisStaticEdge) → Side k → Flip w l l' → Flip w (repaired_n k l) (repaired_n (other_edge k) l')
repaired_flip w l l' k s h =
    pick (Flip w)
    (ltb_same (l.end.p + l.start.n) (l.start.p + l.end.n) (l'.end.p + l'.start.n) (l'.start.p + l'.end.n) (λ x. omega arith) (λ x. omega arith))
    (closed_flip w l l' k s h) h

-- in the image the other edge is the weaker
weaker_other : (s e r : Bool) → (weaker_of e s (not r) ≡ other_edge (weaker_of s e r)) × Side (weaker_of s e r)
unfolding other_edge
weaker_other s e r = search rules

pub block_flip : (σ : Shape) (α : AxisN) → NotZero α.size → Multiple 2 (add_n α.area.start α.area.end) → Flip α.size (block_n σ α) (block_n (image_shape σ) (image_n α))
block_flip σ α nz ev = grind (arith, nat_tests, inset_flip, repaired_flip, weaker_other)
