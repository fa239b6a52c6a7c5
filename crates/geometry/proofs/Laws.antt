-- The laws of `specs/Laws.antt`. Assumes nothing.
use Rattle.std.specs.Prelude.{Float, None, Option, Some, is_some}
use mathlib.Core.Logic.{◌⊎◌, inl, inr}
use mathlib.Core.Path.{◌≡◌, refl}
use lib.Ieee.{Float}
use Rattle.util.proofs.Floats.{no}
use Rattle.util.proofs.Laws.{larger_bounds, larger_is_one, smaller_bounds, smaller_is_one}
use Rattle.util.specs.Laws.{AtOrAbove, AtOrBelow}
use Rattle.geometry.specs.Geometry.{union_of, completed, with_ratio}
use Rattle.geometry.specs.Laws.{UnionHoldsBoth, UnionIsLeast, UnionIsOfEdges, NoRatio, RatioNeedsLoneSide, LoneWidth, LoneHeight, RectIsItsLines}

-- ---- union

pub union_holds_both : UnionHoldsBoth
unfolding union_of
union_holds_both a b =
    let left = smaller_bounds a.left b.left in
    let right = larger_bounds a.right b.right in
    let top = smaller_bounds a.top b.top in
    let bottom = larger_bounds a.bottom b.bottom in
    ((left.0, right.0, top.0, bottom.0), (left.1, right.1, top.1, bottom.1))

pub union_is_of_edges : UnionIsOfEdges
unfolding union_of
union_is_of_edges a b =
    (smaller_is_one a.left b.left, larger_is_one a.right b.right, smaller_is_one a.top b.top, larger_is_one a.bottom b.bottom)

-- what holds of both holds of the one chosen
chosen : (P : Float → Type 0) (a b r : Float) → (r ≡ a) ⊎ (r ≡ b) → P a → P b → P r
chosen P a b r (inl e) p q = rw e p
chosen P a b r (inr e) p q = rw e q

pub union_is_least : UnionIsLeast
union_is_least a b outer h k =
    let one = union_is_of_edges a b in (
      chosen (λ x. AtOrBelow x outer.left) a.left b.left (union_of a b).left one.0 h.0 k.0,
      chosen (λ x. AtOrAbove x outer.right) a.right b.right (union_of a b).right one.1 h.1 k.1,
      chosen (λ x. AtOrBelow x outer.top) a.top b.top (union_of a b).top one.2 h.2 k.2,
      chosen (λ x. AtOrAbove x outer.bottom) a.bottom b.bottom (union_of a b).bottom one.3 h.3 k.3,
    )

-- ---- ratio

pub no_ratio : NoRatio
unfolding with_ratio
no_ratio a = refl

pub ratio_needs_lone_side : RatioNeedsLoneSide
unfolding with_ratio completed
ratio_needs_lone_side None a e = refl
ratio_needs_lone_side (Some ratio) a e = go a.width a.height e
  where
    go : (w h : Option Float) → is_some w ≡ is_some h → completed ratio w h a ≡ a
    go None None e = refl
    go None (Some h) e = no e refl
    go (Some w) None e = no refl e
    go (Some w) (Some h) e = refl

pub lone_width : LoneWidth
unfolding with_ratio completed
lone_width ratio w a p q = rw (p, q) refl

pub lone_height : LoneHeight
unfolding with_ratio completed
lone_height ratio h a p q = rw (p, q) refl

-- ---- sides

pub rect_is_its_lines : RectIsItsLines
rect_is_its_lines = (λ r. refl, λ x y. (refl, refl))
