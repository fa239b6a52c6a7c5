-- What a box adds to its parent's scrollable overflow (css-overflow-3 #scrollable; document 01, "Contribution";
-- compute/common/scrollable_overflow.rs). Assumes nothing.
use Rattle.std.specs.Prelude.{Bool, cond, not, ◌&&◌, ◌||◌, Float}
use Rattle.std.specs.Float.Ieee.{le}
use Rattle.util.specs.Number.{◌⊕◌, 0f}
use Rattle.util.specs.Order.{larger, smaller}
use Rattle.geometry.specs.Geometry.{◌to◌, zero_rect, line_x, line_y, rect_of}
use Rattle.geometry.specs.declared.Line.{Line}
use Rattle.geometry.specs.declared.Point.{Point}
use Rattle.geometry.specs.declared.Rect.{Rect}
use Rattle.geometry.specs.declared.Size.{Size}
use Rattle.style.specs.Values.{is_visible, any_scroll_container, contains_overflow}
use Rattle.style.specs.declared.Contain.{Contain}
use Rattle.style.specs.declared.Overflow.{Overflow}

-- whether a box's own overflow shows in an axis: visible there, no scroll container in either axis, and nothing contains it
unfoldable pub propagates : Overflow → Point Overflow → Contain → Bool
propagates axis overflow contain = not (any_scroll_container overflow) && not (contains_overflow contain) && is_visible axis

-- how far the box reaches in one axis, from its own start edge; its end is the end extent
unfoldable pub reach : Bool → Float → Line Float → Line Float
reach shows size own = cond shows (smaller 0f own.start to larger size own.end) (0f to size)

-- counted from the parent's scroll origin; `moved_by` of geometry with the sum the other way round, as the Rust has it
unfoldable pub placed_at : Float → Line Float → Line Float
placed_at at l = at ⊕ l.start to at ⊕ l.end

-- zeros if either end extent is at most 0, or if the parent scrolls, in either axis, and right or bottom is at most 0. The location counts from the
-- parent's scroll origin, the box's own overflow from its start edge.
unfoldable pub contribution : Point Float → Size Float → Rect Float → Point Overflow → Contain → Bool → Rect Float
contribution location size own overflow contain parentScrolls =
    let reach_x = reach (propagates overflow.x overflow contain) size.width (line_x own) in
    let reach_y = reach (propagates overflow.y overflow contain) size.height (line_y own) in
    let x = placed_at location.x reach_x in
    let y = placed_at location.y reach_y in
    cond (le reach_x.end 0f || le reach_y.end 0f) zero_rect
    (cond (parentScrolls && (le x.end 0f || le y.end 0f)) zero_rect (rect_of x y))
