-- What the definitions of this crate mean, as statements. `proofs/` proves each, under its name in small letters. `a ≤ℤ b` and
-- `a <ℤ b` are the order of the integers; `eq` is == of the f32. Assumes nothing.
use Rattle.std.specs.Prelude.{ℕ, ◌<◌, Bool, true, false, ◌↔◌, ◌≡◌, ℤ, pos, neg_ℤ, ◌+ℤ◌, ◌-ℤ◌, ◌*ℤ◌, ◌≤ℤ◌, ◌<ℤ◌, Float, Ok, Err}
use Rattle.std.specs.Float.Ieee.{eq}
use Rattle.util.specs.Number.{◌⊕◌}
use Rattle.geometry.specs.declared.Point.{Point}
use Rattle.refusal.specs.declared.Refusal.{Refusal}
use Rattle.refusal.specs.declared.Refusal.TheVariants.{NotInEighths}
use Rattle.tree.specs.declared.layout.Layout.{Layout}
use Rattle.geometry.specs.declared.Rect.{Rect}
use Rattle.pixels.specs.Accepted.{accepted, signed, in_eighths}
use Rattle.pixels.specs.Pixels.{floor, pixel_of, pixel_edges}
use Rattle.pixels.specs.Conditions.{SmallEighths, IsInEighths, NotAllInEighths}

-- ---- numbers in eighths

abbrev pub AcceptedExactly : Type 0
AcceptedExactly = (x : Float) → (accepted x ≡ true) ↔ IsInEighths x

abbrev pub IntegerIsExact : Type 0
IntegerIsExact = (x : Float) (s : Bool) (n : ℕ) → SmallEighths x s n → in_eighths x ≡ signed s n

abbrev pub ElseZero : Type 0
ElseZero = (x : Float) → accepted x ≡ false → in_eighths x ≡ pos 0

-- where the f32 sum of two accepted numbers is an accepted one, nothing was rounded
abbrev pub AcceptedSumIsExact : Type 0
AcceptedSumIsExact =
    (x w y : Float) → accepted x ≡ true → accepted w ≡ true → accepted y ≡ true → eq (x ⊕ w) y ≡ true
    → in_eighths x +ℤ in_eighths w ≡ in_eighths y

-- ---- a pixel

-- the greatest integer q with d q at most z
abbrev pub FloorIs : Type 0
FloorIs = (z : ℤ) (d : ℕ) → 0 < d → ((pos d *ℤ floor z d) ≤ℤ z) × (z <ℤ (pos d *ℤ floor z d +ℤ pos d))

-- 8 p ≤ n + 4 < 8 p + 8, for every sign
abbrev pub PixelMeans : Type 0
PixelMeans = (n : ℤ) → ((pos 8 *ℤ pixel_of n) ≤ℤ (n +ℤ pos 4)) × ((n +ℤ pos 4) <ℤ (pos 8 *ℤ pixel_of n +ℤ pos 8))

-- and p is the only such integer
abbrev pub PixelIsUnique : Type 0
PixelIsUnique = (n p : ℤ) → (pos 8 *ℤ p) ≤ℤ (n +ℤ pos 4) → (n +ℤ pos 4) <ℤ (pos 8 *ℤ p +ℤ pos 8) → p ≡ pixel_of n

-- a greater position has no smaller pixel
abbrev pub OrderIsKept : Type 0
OrderIsKept = (n m : ℤ) → n ≤ℤ m → pixel_of n ≤ℤ pixel_of m

-- a position moved by k whole pixels has its pixel moved by k
abbrev pub WholePixelsMove : Type 0
WholePixelsMove = (n k : ℤ) → pixel_of (n +ℤ pos 8 *ℤ k) ≡ pixel_of n +ℤ k

-- ---- the edges of a box

abbrev pub RefusedExactly : Type 0
RefusedExactly = (l : Layout) (o : Point Float) (r : Refusal) → (pixel_edges l o ≡ Err r) ↔ ((r ≡ NotInEighths) × NotAllInEighths l o)

-- "It reads only x, y, width, height and the offset"
abbrev pub OnlySixAreRead : Type 0
OnlySixAreRead = (a b : Layout) (o : Point Float) → a.location ≡ b.location → a.size ≡ b.size → pixel_edges a o ≡ pixel_edges b o

-- where the box begins and where it ends, less the area's offset
pub record AtExactEdges (l : Layout) (o : Point Float) (p : Rect ℤ) : Type 0 where
  pub left : p.left ≡ pixel_of (in_eighths l.location.x -ℤ in_eighths o.x)
  pub right : p.right ≡ pixel_of (in_eighths l.location.x +ℤ in_eighths l.size.width -ℤ in_eighths o.x)
  pub top : p.top ≡ pixel_of (in_eighths l.location.y -ℤ in_eighths o.y)
  pub bottom : p.bottom ≡ pixel_of (in_eighths l.location.y +ℤ in_eighths l.size.height -ℤ in_eighths o.y)

abbrev pub EdgesAreExact : Type 0
EdgesAreExact = (l : Layout) (o : Point Float) (p : Rect ℤ) → pixel_edges l o ≡ Ok p → AtExactEdges l o p

-- "relative to the area": a run writes as x where the box begins in its area plus the area's offset (oof_place/specs/Placing.antt). Where that
-- beginning is in eighths, the offset drops out; the same down
abbrev pub OffsetDropsOut : Type 0
OffsetDropsOut =
    (l : Layout) (o : Point Float) (p : Rect ℤ) → pixel_edges l o ≡ Ok p
    → (begin : Float) → accepted begin ≡ true
    → let n = in_eighths begin in
    (eq (begin ⊕ o.x) l.location.x ≡ true → (p.left ≡ pixel_of n) × (p.right ≡ pixel_of (n +ℤ in_eighths l.size.width)))
    × (eq (begin ⊕ o.y) l.location.y ≡ true → (p.top ≡ pixel_of n) × (p.bottom ≡ pixel_of (n +ℤ in_eighths l.size.height)))

-- "Two boxes whose edges touch before still touch after": in one area, where the one ends exactly where the other begins
abbrev pub TouchingStays : Type 0
TouchingStays =
    (a b : Layout) (o : Point Float) (p q : Rect ℤ) → pixel_edges a o ≡ Ok p → pixel_edges b o ≡ Ok q
    → (in_eighths a.location.x +ℤ in_eighths a.size.width ≡ in_eighths b.location.x → p.right ≡ q.left)
    × (in_eighths a.location.y +ℤ in_eighths a.size.height ≡ in_eighths b.location.y → p.bottom ≡ q.top)

-- so do those that touch by the sum of the f32s
abbrev pub TouchingByFloatsStays : Type 0
TouchingByFloatsStays =
    (a b : Layout) (o : Point Float) (p q : Rect ℤ) → pixel_edges a o ≡ Ok p → pixel_edges b o ≡ Ok q
    → (eq (a.location.x ⊕ a.size.width) b.location.x ≡ true → p.right ≡ q.left)
    × (eq (a.location.y ⊕ a.size.height) b.location.y ≡ true → p.bottom ≡ q.top)

-- "Width and height are differences of such edges", `right` less `left` and `bottom` less `top`. Each is less than one pixel off
abbrev pub Near : ℤ → Float → Type 0
Near pixels size = ((in_eighths size -ℤ pos 8) <ℤ (pos 8 *ℤ pixels)) × ((pos 8 *ℤ pixels) <ℤ (in_eighths size +ℤ pos 8))

abbrev pub SizesAreNear : Type 0
SizesAreNear =
    (l : Layout) (o : Point Float) (p : Rect ℤ) → pixel_edges l o ≡ Ok p
    → Near (p.right -ℤ p.left) l.size.width × Near (p.bottom -ℤ p.top) l.size.height

-- a size that isn't negative gives no end before its start, and one that isn't positive none after it
abbrev pub Ordered : ℤ → ℤ → Float → Type 0
Ordered start end size = (pos 0 ≤ℤ in_eighths size → start ≤ℤ end) × (in_eighths size ≤ℤ pos 0 → end ≤ℤ start)

abbrev pub EdgesInOrder : Type 0
EdgesInOrder =
    (l : Layout) (o : Point Float) (p : Rect ℤ) → pixel_edges l o ≡ Ok p
    → Ordered p.left p.right l.size.width × Ordered p.top p.bottom l.size.height

-- no edge is more than 3,750,000 pixels from the area's left or top one: an i32 holds it
abbrev pub Small : ℤ → Type 0
Small edge = (neg_ℤ (pos 3750000) ≤ℤ edge) × (edge ≤ℤ pos 3750000)

abbrev pub EdgesAreSmall : Type 0
EdgesAreSmall =
    (l : Layout) (o : Point Float) (p : Rect ℤ) → pixel_edges l o ≡ Ok p
    → Small p.left × Small p.right × Small p.top × Small p.bottom
