-- The law of the final size: never below padding plus border, where that is a number. Assumes nothing.
use Rattle.std.specs.Prelude.{Float, None, Option, Some}
use Rattle.std.specs.Option.{option_or}
use mathlib.Core.Bool.{Bool, true, false, cond}
use lib.Ieee.{Float}
use Rattle.util.specs.Laws.{AtOrAbove}
use Rattle.util.specs.Order.{larger}
use Rattle.util.specs.Maybe.{map_larger, clamped}
use Rattle.util.proofs.Laws.{onwards, larger_bounds, min_wins}
use Rattle.geometry.specs.Geometry.{sums, rect_sum, definite, first_size, raised_size, clamped_floats}
use Rattle.geometry.specs.declared.Size.{Size}
use Rattle.style.specs.declared.Style.{Style}
use Rattle.oof_place.specs.Placing.{layout_of, box_layout}
use Rattle.oof_resolve.specs.Resolved.{min_size, resolved_box}
use Rattle.oof_resolve.specs.declared.ResolvedBox.{ResolvedBox}
use Rattle.oof_box.specs.Box.{size_keywords, raised_min, stretched, final_size}
use Rattle.oof_box.specs.Cut.{known_by, stretched_by, size_by, layout_after}
use Rattle.oof_box.specs.Theorems.{SizeLaw}
use Rattle.oof_box.specs.declared.sizing.Stretched.{Stretched}

-- a bound that is present and at least e
data Floor (e : Float) : Option Float → Type 0 where
  floor : (low : Float) → AtOrAbove e low → Floor e (Some low)

-- step 2: min is raised to padding plus border, or is that sum
raised : (e : Float) (min : Option Float) → Floor e (map_larger (option_or min (Some e)) e)
unfolding map_larger
raised e None = floor (larger e e) (larger_bounds e e).1
raised e (Some x) = floor (larger x e) (larger_bounds x e).1

-- step 5: a table's min is only raised
raised_more : (e : Float) (b : Bool) (min : Option Float) (fit : Float) → Floor e min → Floor e (raised_min b min fit)
unfolding raised_min
raised_more e true _ fit (floor low h) = floor (larger low fit) (onwards e low (larger low fit) h (larger_bounds low fit).0)
raised_more e false _ fit (floor low h) = floor low h

-- step 6: min wins the clamp
clamped_above : (e x : Float) (min max : Option Float) → Floor e min → AtOrAbove e (clamped x min max)
clamped_above e x _ max (floor low h) = onwards e low (clamped x (Some low) max) h (min_wins x low max)

chosen : (e : Float) (side : Stretched → Option Float) (t : Bool) (a b : Stretched) → Floor e (side a) → Floor e (side b) → Floor e (side (cond t a b))
chosen e side true a b h k = h
chosen e side false a b h k = k

min_across : (style : Style) (box : ResolvedBox) (known : Size (Option Float)) (e : Float) → Floor e box.min.width → Floor e (stretched style box known).min.width
unfolding stretched
min_across style box known e h = chosen e (λ s. s.min.width) style.table _ _ (raised_more e _ box.min.width box.fit.width h) h

min_down : (style : Style) (box : ResolvedBox) (known : Size (Option Float)) (e : Float) → Floor e box.min.height → Floor e (stretched style box known).min.height
unfolding stretched
min_down style box known e h = chosen e (λ s. s.min.height) style.table _ _ (raised_more e _ box.min.height box.fit.height h) h

pub size_law : SizeLaw
unfolding layout_after box_layout layout_of size_by stretched_by final_size clamped_floats resolved_box min_size raised_size first_size definite
size_law container style candidate replies overflow =
    let box = resolved_box container style candidate in
    let paddingBorder = sums (rect_sum box.padding box.border) in
    let known = known_by style box (size_keywords style box) replies.keyword in (
      clamped_above paddingBorder.width _ _ _ (min_across style box known paddingBorder.width (raised paddingBorder.width _)),
      clamped_above paddingBorder.height _ _ _ (min_down style box known paddingBorder.height (raised paddingBorder.height _)),
    )
