-- The size that step 2 resolved: ratio and clamp change nothing. Assumes nothing.
use Rattle.std.specs.Prelude.{Float, None, Option, Some}
use mathlib.Core.Path.{◌≡◌, refl, ap, ap₂}
use Rattle.util.specs.Maybe.{map_add, map_clamped}
use Rattle.geometry.specs.Geometry.{added_size, clamped_size, completed, with_ratio}
use Rattle.geometry.specs.declared.Size.{Size}
use Rattle.style.specs.Resolve.{resolved_size}
use Rattle.oof_resolve.specs.Resolved.{style_size, resolved_box}
use Rattle.oof_box.specs.Box.{settled, ◌by◌}
use Rattle.oof_box_laws.specs.Laws.{SizeIsSettled}
use Rattle.oof_box_laws.proofs.Clamp.{clamp_is_settled}

clamped_again : (m min max : Option Float) → map_clamped (map_clamped m min max) min max ≡ map_clamped m min max
unfolding map_clamped
clamped_again None min max = refl
clamped_again (Some x) min max = ap Some (clamp_is_settled x min max)

-- with a ratio both sides are there or neither is
settled_again : (ratio : Option Float) (w h : Option Float) (add : Size Float) (min max : Size (Option Float))
    → let z = clamped_size (added_size (with_ratio ratio (w by h)) add) min max in clamped_size (with_ratio ratio z) min max ≡ z
unfolding clamped_size added_size with_ratio completed map_add map_clamped
settled_again None w h add min max = ap₂ ◌by◌ (clamped_again (map_add w add.width) min.width max.width) (clamped_again (map_add h add.height) min.height max.height)
settled_again (Some r) None None add min max = refl
settled_again (Some r) (Some w) None add min max = ap₂ ◌by◌ (clamped_again (Some _) min.width max.width) (clamped_again (Some _) min.height max.height)
settled_again (Some r) None (Some h) add min max = ap₂ ◌by◌ (clamped_again (Some _) min.width max.width) (clamped_again (Some _) min.height max.height)
settled_again (Some r) (Some w) (Some h) add min max = ap₂ ◌by◌ (clamped_again (Some _) min.width max.width) (clamped_again (Some _) min.height max.height)

pub size_is_settled : SizeIsSettled
unfolding settled resolved_box style_size resolved_size
size_is_settled container style candidate = settled_again style.ratio _ _ _ _ _
