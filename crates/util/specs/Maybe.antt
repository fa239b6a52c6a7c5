-- Floats that may be absent (`Option<f32>` of the Rust). Assumes nothing.
use Rattle.std.specs.Prelude.{Float, Option, None, Some, unwrap_or, option_map}
use Rattle.util.specs.Number.{◌⊕◌, 0f}
use Rattle.util.specs.Order.{larger, smaller}

-- absent counts as 0
abbrev pub or_zero : Option Float → Float
or_zero a = unwrap_or a 0f

unfoldable pub map_add : Option Float → Float → Option Float
map_add a b = option_map (λ x. x ⊕ b) a

unfoldable pub map_larger : Option Float → Float → Option Float
map_larger a b = option_map (λ x. larger x b) a

-- a bound that is absent doesn't bind
unfoldable pub at_most : Float → Option Float → Float
at_most x None = x
at_most x (Some high) = smaller x high

unfoldable pub at_least : Float → Option Float → Float
at_least x None = x
at_least x (Some low) = larger x low

-- document 01, step 2: the smaller of size and max, then the larger of that and min
unfoldable pub clamped : Float → Option Float → Option Float → Float
clamped x min max = at_least (at_most x max) min

unfoldable pub map_clamped : Option Float → Option Float → Option Float → Option Float
map_clamped a min max = option_map (λ x. clamped x min max) a
