-- Lines, sizes and rectangles, each operation side by side (geometry.rs). Assumes nothing.
use Rattle.std.specs.Prelude.{Bool, ◌&&◌, Float, None, Option, Some, is_some, unwrap_or}
use Rattle.std.specs.Option.{option_or}
use Rattle.util.specs.Number.{◌⊕◌, ◌⊖◌, ◌⊗◌, ◌⊘◌, 0f}
use Rattle.util.specs.Order.{larger, smaller}
use Rattle.util.specs.Maybe.{or_zero, map_add, map_larger, clamped, map_clamped}
use Rattle.geometry.specs.declared.Line.{Line}
use Rattle.geometry.specs.declared.Point.{Point}
use Rattle.geometry.specs.declared.Size.{Size}
use Rattle.geometry.specs.declared.Rect.{Rect}

infix 60 ◌to◌
-- ---- lines

abbrev pub ◌to◌ : Float → Float → Line Float
a to b = record { start = a; end = b }

-- from start to end
abbrev pub span : Line Float → Float
span l = l.end ⊖ l.start

-- both ends moved by an offset
abbrev pub moved_by : Line Float → Float → Line Float
moved_by l offset = l.start ⊕ offset to l.end ⊕ offset

-- both ends, counted from an origin
abbrev pub counted_from : Line Float → Float → Line Float
counted_from l origin = l.start ⊖ origin to l.end ⊖ origin

-- whether both ends are there
abbrev pub both_ends_present : Line (Option Float) → Bool
both_ends_present l = is_some l.start && is_some l.end

-- ---- each end or side by a function

abbrev pub map_line : {A B : Type 0} → (A → B) → Line A → Line B
map_line g l = record { start = g l.start; end = g l.end }

abbrev pub map_size : {A B : Type 0} → (A → B) → Size A → Size B
map_size g s = record { width = g s.width; height = g s.height }

abbrev pub map_rect : {A B : Type 0} → (A → B) → Rect A → Rect B
map_rect g r = record { left = g r.left; right = g r.right; top = g r.top; bottom = g r.bottom }

-- width with width, height with height
abbrev pub zip_sizes : {A B C : Type 0} → (A → B → C) → Size A → Size B → Size C
zip_sizes g s t = record { width = g s.width t.width; height = g s.height t.height }

-- left and right each with the width, top and bottom each with the height
abbrev pub zip_sides : {A B C : Type 0} → (A → B → C) → Rect A → Size B → Rect C
zip_sides g r s = record { left = g r.left s.width; right = g r.right s.width; top = g r.top s.height; bottom = g r.bottom s.height }

-- ---- `ZERO` and `NONE` of the Rust

abbrev pub zero_point : Point Float
zero_point = record { x = 0f; y = 0f }

abbrev pub zero_size : Size Float
zero_size = record { width = 0f; height = 0f }

abbrev pub zero_rect : Rect Float
zero_rect = record { left = 0f; right = 0f; top = 0f; bottom = 0f }

abbrev pub absent_size : Size (Option Float)
absent_size = record { width = None; height = None }

-- ---- rectangles

-- the sides of each axis, as a line, and the rectangle of two such lines
abbrev pub line_x : {T : Type 0} → Rect T → Line T
line_x r = record { start = r.left; end = r.right }

abbrev pub line_y : {T : Type 0} → Rect T → Line T
line_y r = record { start = r.top; end = r.bottom }

abbrev pub rect_of : {T : Type 0} → Line T → Line T → Rect T
rect_of x y = record { left = x.start; right = x.end; top = y.start; bottom = y.end }

-- an absent side counts as 0
unfoldable pub rect_or_zero : Rect (Option Float) → Rect Float
rect_or_zero r = record { left = or_zero r.left; right = or_zero r.right; top = or_zero r.top; bottom = or_zero r.bottom }

unfoldable pub sum_x : Rect Float → Float
sum_x r = r.left ⊕ r.right

unfoldable pub sum_y : Rect Float → Float
sum_y r = r.top ⊕ r.bottom

unfoldable pub sums : Rect Float → Size Float
sums r = record { width = sum_x r; height = sum_y r }

unfoldable pub rect_sum : Rect Float → Rect Float → Rect Float
rect_sum a b =
    record {
      left = a.left ⊕ b.left;
      right = a.right ⊕ b.right;
      top = a.top ⊕ b.top;
      bottom = a.bottom ⊕ b.bottom;
    }

-- the outermost of each pair of edges
unfoldable pub union_of : Rect Float → Rect Float → Rect Float
union_of a b =
    record {
      left = smaller a.left b.left;
      right = larger a.right b.right;
      top = smaller a.top b.top;
      bottom = larger a.bottom b.bottom;
    }

-- ---- sizes

unfoldable pub smaller_size : Size Float → Size Float → Size Float
smaller_size a b = record { width = smaller a.width b.width; height = smaller a.height b.height }

unfoldable pub definite : Size Float → Size (Option Float)
definite a = record { width = Some a.width; height = Some a.height }

unfoldable pub both_present : Size (Option Float) → Bool
both_present a = is_some a.width && is_some a.height

unfoldable pub first_size : Size (Option Float) → Size (Option Float) → Size (Option Float)
first_size a b = record { width = option_or a.width b.width; height = option_or a.height b.height }

unfoldable pub filled_size : Size (Option Float) → Size Float → Size Float
filled_size a b = record { width = unwrap_or a.width b.width; height = unwrap_or a.height b.height }

unfoldable pub added_size : Size (Option Float) → Size Float → Size (Option Float)
added_size a b = record { width = map_add a.width b.width; height = map_add a.height b.height }

unfoldable pub raised_size : Size (Option Float) → Size Float → Size (Option Float)
raised_size a b = record { width = map_larger a.width b.width; height = map_larger a.height b.height }

-- each side by its own bounds, as `clamp` has it of one
abbrev pub clamped_each : {T : Type 0} → (T → Option Float → Option Float → T) → Size T → Size (Option Float) → Size (Option Float) → Size T
clamped_each clamp a min max = record { width = clamp a.width min.width max.width; height = clamp a.height min.height max.height }

unfoldable pub clamped_size : Size (Option Float) → Size (Option Float) → Size (Option Float) → Size (Option Float)
clamped_size = clamped_each map_clamped

unfoldable pub clamped_floats : Size Float → Size (Option Float) → Size (Option Float) → Size Float
clamped_floats = clamped_each clamped

-- a lone side gives the other by the ratio of width to height; any other size stays
unfoldable pub completed : Float → Option Float → Option Float → Size (Option Float) → Size (Option Float)
completed ratio (Some w) None a = record { width = Some w; height = Some (w ⊘ ratio) }
completed ratio None (Some h) a = record { width = Some (h ⊗ ratio); height = Some h }
completed ratio None None a = a
completed ratio (Some w) (Some h) a = a

unfoldable pub with_ratio : Option Float → Size (Option Float) → Size (Option Float)
with_ratio None a = a
with_ratio (Some ratio) a = completed ratio a.width a.height a
