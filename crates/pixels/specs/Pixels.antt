-- Request #101: the pixel edges of a box. Read `pixel_edges` first. Assumes nothing.
use Rattle.std.specs.Prelude.{ℕ, ◌/◌, Bool, cond, List, [], ◌∷◌, ℤ, pos, negsuc, ◌+ℤ◌, ◌-ℤ◌, Float, Result, Ok, Err}
use Rattle.std.specs.List.{list_all}
use Rattle.geometry.specs.declared.Point.{Point}
use Rattle.geometry.specs.declared.Size.{Size}
use Rattle.refusal.specs.declared.Refusal.{Refusal}
use Rattle.refusal.specs.declared.Refusal.TheVariants.{NotInEighths}
use Rattle.tree.specs.declared.layout.Layout.{Layout}
use Rattle.geometry.specs.declared.Line.{Line}
use Rattle.geometry.specs.declared.Rect.{Rect}
use Rattle.pixels.specs.Accepted.{accepted, in_eighths}

-- for d above 0, the greatest integer q with d q at most z; `negsuc n` is -(n + 1)
abbrev pub floor : ℤ → ℕ → ℤ
floor (pos n) d = pos (n / d)
floor (negsuc n) d = negsuc (n / d)

-- "a position of n eighths becomes the floor of (n + 4) divided by 8, also below zero"
unfoldable pub pixel_of : ℤ → ℤ
pixel_of n = floor (n +ℤ pos 4) 8

-- along one axis, "relative to the area, by exact sums": a layout's location includes the area's offset, so it is taken off. The sums are of
-- integers, and only what comes out is rounded
unfoldable pub line_of : Float → Float → Float → Line ℤ
line_of at size offset =
    let start = in_eighths at -ℤ in_eighths offset in
    record { start = pixel_of start; end = pixel_of (start +ℤ in_eighths size) }

unfoldable pub edges_of : Point Float → Size Float → Point Float → Rect ℤ
edges_of location size offset =
    let x = line_of location.x size.width offset.x in
    let y = line_of location.y size.height offset.y in
    record { left = x.start; right = x.end; top = y.start; bottom = y.end }

-- "only x, y, width, height and the offset"
abbrev pub numbers_read : Point Float → Size Float → Point Float → List Float
numbers_read location size offset =
    location.x ∷ location.y ∷ size.width ∷ size.height ∷ offset.x ∷ offset.y ∷ []

unfoldable pub all_accepted : List Float → Bool
all_accepted numbers = list_all accepted numbers

-- a layout, and the area's offset
unfoldable pub pixel_edges : Layout → Point Float → Result (Rect ℤ) Refusal
pixel_edges layout offset =
    cond (all_accepted (numbers_read layout.location layout.size offset)) (Ok (edges_of layout.location layout.size offset)) (Err NotInEighths)
