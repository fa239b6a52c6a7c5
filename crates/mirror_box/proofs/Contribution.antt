-- Step 7: a box and its image add the same rectangle to the overflow. Assumes nothing.
use Rattle.std.specs.Prelude.{Float}
use mathlib.Core.Path.{◌≡◌, refl, ap, ap₂}
use mathlib.Core.Bool.{Bool, ◌&&◌, ◌||◌}
use Prim.Native.Nat.{ℕ}
use lib.Dec.{lit<, lit≤}
use lib.Ieee.{Float, le}
use Rattle.util.specs.Number.{0f}
use Rattle.geometry.specs.Geometry.{zero_rect, line_x, line_y}
use Rattle.geometry.specs.declared.Line.{Line}
use Rattle.geometry.specs.declared.Point.{Point}
use Rattle.style.specs.declared.Overflow.{Overflow}
use Rattle.geometry.specs.declared.Rect.{Rect}
use Rattle.geometry.specs.declared.Size.{Size}
use Rattle.style.specs.declared.Contain.{Contain}
use Rattle.oof_common.specs.ScrollableOverflow.{propagates, reach, placed_at, contribution}
use Rattle.util_exact.proofs.Tests.{pick}
use Rattle.util_exact.proofs.Same.{Same, quarters_same, widen_same, any_same, zero_same, add_same, smaller_same, larger_same, le_same, equal}
use Rattle.mirror_box.specs.Quarter.{QuarterOverflow}
use Rattle.mirror_box.specs.Mirrored.{SameRect}
use Rattle.mirror_box.proofs.Bounds.{fit_bound, origin_bound, reach_bound}
use Rattle.mirror_box.proofs.Shared.{SizeShared}

-- a line along x, as numbers
record LineSame (b : ℕ) (l l' : Line Float) : Type 0 where
  start : Same 1 b l.start l'.start
  end : Same 1 b l.end l'.end

reach_same : (shows : Bool) {s s' : Float} → Same 1 fit_bound s s' → (own : Line Float) → Same 1 fit_bound own.start own.start → Same 1 fit_bound own.end own.end → LineSame fit_bound (reach shows s own) (reach shows s' own)
unfolding reach
reach_same shows h own k k' =
    pick (LineSame fit_bound) {t = shows} refl (record { start = smaller_same zero_same k; end = larger_same h k' }) (record { start = zero_same; end = h })

placed_same : {x x' : Float} {l l' : Line Float} → Same 1 origin_bound x x' → LineSame fit_bound l l' → LineSame reach_bound (placed_at x l) (placed_at x' l')
unfolding placed_at
placed_same h k = record { start = add_same h k.start (lit< tt); end = add_same h k.end (lit< tt) }

pub zero_rect_lem : SameRect zero_rect zero_rect
zero_rect_lem = let z = equal (zero_same {g = 1} {b = 0}) in record { left = z; right = z; top = refl; bottom = refl }

-- whether an end is at most 0
end_words : {l l' : Line Float} → l ≡ l' → le l.end 0f ≡ le l'.end 0f
end_words e = ap (λ (l : Line Float). le l.end 0f) e

ends : {b : ℕ} {l l' : Line Float} → LineSame b l l' → le l.end 0f ≡ le l'.end 0f
ends {b} h = le_same h.end (zero_same {g = 1} {b = b})

pub contribution_same : {at at' : Point Float} {size size' : Size Float} → Same 1 origin_bound at.x at'.x → at.y ≡ at'.y → SizeShared fit_bound size size'
    → (own : Rect Float) → QuarterOverflow own → (overflow : Point Overflow) (contain : Contain) (scrolls : Bool)
    → SameRect (contribution at size own overflow contain scrolls) (contribution at' size' own overflow contain scrolls)
unfolding contribution
contribution_same {at} {at'} {size} {size'} x y hs own q overflow contain scrolls =
    let left = widen_same (lit≤ tt) (any_same (quarters_same q.left)) in
    let right = widen_same (lit≤ tt) (any_same (quarters_same q.right)) in
    let across = reach_same (propagates overflow.x overflow contain) (any_same hs.width) (line_x own) left right in
    let down = ap (λ (s : Float). reach (propagates overflow.y overflow contain) s (line_y own)) hs.height in
    let wide = placed_same x across in
    let tall = ap₂ placed_at y down in
    pick SameRect (ap₂ ◌||◌ (ends across) (end_words down)) zero_rect_lem
    (pick SameRect (ap (λ (t : Bool). scrolls && t) (ap₂ ◌||◌ (ends wide) (end_words tall))) zero_rect_lem
    (record { left = equal wide.start; right = equal wide.end; top = ap (λ (l : Line Float). l.start) tall; bottom = ap (λ (l : Line Float). l.end) tall }))
