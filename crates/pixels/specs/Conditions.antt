-- When request #101 refuses, in its own words. That a call is refused exactly then, and with the number 9, is a demand
-- (demands/specs/Demands.antt). Assumes nothing.
use Rattle.std.specs.Prelude.{ℕ, ◌≤◌, Bool, List, [], ◌∷◌, ◌⊎◌, Float}
use Rattle.std.specs.Float.Ieee.Exact.{HasValue}
use Rattle.geometry.specs.declared.Point.{Point}
use Rattle.tree.specs.declared.layout.Layout.{Layout}

-- x is finite, n / 8 in size and of the sign s (-0 is n = 0 with s true), and n is at most 9,999,999
abbrev pub SmallEighths : Float → Bool → ℕ → Type 0
SmallEighths x s n = HasValue x s n 8 × (n ≤ 9999999)

-- "a whole eighth and at most 9,999,999 eighths in size"
abbrev pub IsInEighths : Float → Type 0
IsInEighths x = (s : Bool) × (n : ℕ) × SmallEighths x s n

-- 9, "not in eighths": one of "x, y, width, height and the offset" isn't so
abbrev pub NotAllInEighths : Layout → Point Float → Type 0
NotAllInEighths layout offset =
    (¬ IsInEighths layout.location.x)
    ⊎ (¬ IsInEighths layout.location.y)
    ⊎ (¬ IsInEighths layout.size.width)
    ⊎ (¬ IsInEighths layout.size.height)
    ⊎ (¬ IsInEighths offset.x)
    ⊎ (¬ IsInEighths offset.y)

-- what is tested, by its number, as opening_tests of run/specs/Conditions.antt. 9 "is tested after 1 to 7": of those none can hold here, where
-- no code, slice, style, candidate, reply or alignment is taken, so that 9 stands alone
abbrev pub pixel_tests : Layout → Point Float → List (ℕ × Type 0)
pixel_tests layout offset = (9, NotAllInEighths layout offset) ∷ []
