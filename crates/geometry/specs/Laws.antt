-- What the definitions of this crate mean, as statements. `proofs/Laws.antt` proves each, under its name in small letters. Assumes nothing.
use Rattle.std.specs.Prelude.{◌⊎◌, ◌≡◌, Float, None, Option, Some, is_some}
use Rattle.util.specs.Number.{◌⊗◌, ◌⊘◌}
use Rattle.util.specs.Laws.{AtOrAbove, AtOrBelow}
use Rattle.geometry.specs.Geometry.{line_x, line_y, rect_of, union_of, with_ratio}
use Rattle.geometry.specs.declared.Line.{Line}
use Rattle.geometry.specs.declared.Size.{Size}
use Rattle.geometry.specs.declared.Rect.{Rect}

-- ---- union

-- each edge of the outer rectangle is at or beyond that of the inner, where that is a number
abbrev pub Holds : Rect Float → Rect Float → Type 0
Holds outer inner =
    AtOrBelow inner.left outer.left × AtOrAbove inner.right outer.right
    × AtOrBelow inner.top outer.top × AtOrAbove inner.bottom outer.bottom

abbrev pub UnionHoldsBoth : Type 0
UnionHoldsBoth = (a b : Rect Float) → Holds (union_of a b) a × Holds (union_of a b) b

-- no smaller one does: whatever holds both holds their union
abbrev pub UnionIsLeast : Type 0
UnionIsLeast = (a b outer : Rect Float) → Holds outer a → Holds outer b → Holds outer (union_of a b)

-- each edge is one of the two
abbrev pub OneOf : Float → Float → Float → Type 0
OneOf a b r = (r ≡ a) ⊎ (r ≡ b)

abbrev pub UnionIsOfEdges : Type 0
UnionIsOfEdges =
    (a b : Rect Float) → OneOf a.left b.left (union_of a b).left × OneOf a.right b.right (union_of a b).right
    × OneOf a.top b.top (union_of a b).top × OneOf a.bottom b.bottom (union_of a b).bottom

-- ---- ratio of width to height

-- without a ratio, or with both sides given, or none, nothing changes
abbrev pub NoRatio : Type 0
NoRatio = (a : Size (Option Float)) → with_ratio None a ≡ a

abbrev pub RatioNeedsLoneSide : Type 0
RatioNeedsLoneSide = (ratio : Option Float) (a : Size (Option Float)) → is_some a.width ≡ is_some a.height → with_ratio ratio a ≡ a

-- a lone side stays, and gives the other
abbrev pub LoneWidth : Type 0
LoneWidth = (ratio w : Float) (a : Size (Option Float)) → a.width ≡ Some w → a.height ≡ None → with_ratio (Some ratio) a ≡ record { width = Some w; height = Some (w ⊘ ratio) }

abbrev pub LoneHeight : Type 0
LoneHeight = (ratio h : Float) (a : Size (Option Float)) → a.width ≡ None → a.height ≡ Some h → with_ratio (Some ratio) a ≡ record { width = Some (h ⊗ ratio); height = Some h }

-- ---- sides

-- a rectangle is its two lines
abbrev pub RectIsItsLines : Type 0
RectIsItsLines = ((r : Rect Float) → rect_of (line_x r) (line_y r) ≡ r) × ((x y : Line Float) → (line_x (rect_of x y) ≡ x) × (line_y (rect_of x y) ≡ y))
