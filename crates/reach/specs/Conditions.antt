-- When request #102 refuses, in its own words. Assumes nothing.
use Rattle.std.specs.Prelude.{ℕ, ◌≤◌, List, [], ◌∷◌, ◌⊎◌, Float}
use Rattle.geometry.specs.declared.Rect.{Rect}
use Rattle.tree.specs.declared.layout.Layout.{Layout}
use Rattle.tree.specs.declared.layout.OofPositioningArea.{OofPositioningArea}
use Rattle.pixels.specs.Conditions.{IsInEighths, NotAllInEighths}
use Rattle.run.specs.Call.{Slices}
use Rattle.run.specs.Run.{layout_at}
use Rattle.run.specs.declared.State.{State}
use Rattle.finished.specs.Conditions.{finished_tests}

-- 9: "numbers of the area, that box and the overflow rectangle that #101 doesn't accept": each of the area and of the rectangle, whether it is
-- used or not, and of the box those that #101 reads, x, y, width and height
abbrev pub NotInEighthsHere : OofPositioningArea → Rect Float → Layout → Type 0
NotInEighthsHere area rectangle box =
    NotAllInEighths box area.offset
    ⊎ (¬ IsInEighths area.size.width)
    ⊎ (¬ IsInEighths area.size.height)
    ⊎ (¬ IsInEighths rectangle.left)
    ⊎ (¬ IsInEighths rectangle.right)
    ⊎ (¬ IsInEighths rectangle.top)
    ⊎ (¬ IsInEighths rectangle.bottom)

-- 2 "here also for a place without a box": one at or above the count of filled records. A place below the count, where the count is above the
-- list, is 6
abbrev pub NoBoxAt : ℕ → State → Type 0
NoBoxAt place s = s.counts.filled.working ≤ place

abbrev pub reach_tests : ℕ → State → Slices → List (ℕ × Type 0)
reach_tests place s lent =
    finished_tests s lent (NoBoxAt place s)
    ((9, NotInEighthsHere s.opened.container.area s.overflow (layout_at lent.layouts lent.working place)) ∷ [])
