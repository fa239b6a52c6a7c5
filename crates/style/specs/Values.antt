-- Values of the properties that placement reads: position, overflow, containment, direction, self-alignment, available space
-- (style/mod.rs, style/alignment.rs, style/available_space.rs). Assumes nothing.
use Rattle.std.specs.Prelude.{Bool, true, false, cond, not, ◌&&◌, ◌||◌, Float, Option}
use Rattle.util.specs.Maybe.{clamped}
use Rattle.geometry.specs.Geometry.{clamped_each}
use Rattle.geometry.specs.declared.Size.{Size}
use Rattle.style.specs.declared.Position.{Position}
use Rattle.style.specs.declared.Position.TheVariants as position
use Rattle.style.specs.declared.ContainingBlockClaims.{ContainingBlockClaims}
use Rattle.style.specs.declared.BoxSizing.{BoxSizing}
use Rattle.style.specs.declared.BoxSizing.TheVariants.{BorderBox, ContentBox}
use Rattle.style.specs.declared.Overflow.{Overflow}
use Rattle.style.specs.declared.Overflow.TheVariants.{Visible, Clip, Hidden, Scroll}
use Rattle.geometry.specs.declared.Point.{Point}
use Rattle.style.specs.declared.Contain.{Contain}
use Rattle.style.specs.declared.Direction.{Direction}
use Rattle.style.specs.declared.Direction.TheVariants.{Ltr, Rtl}
use Rattle.style.specs.declared.alignment.AlignItemsKeyword.{AlignItemsKeyword}
use Rattle.style.specs.declared.alignment.AlignItemsKeyword.TheVariants as keyword
use Rattle.style.specs.declared.alignment.AlignItems.{AlignItems}
use Rattle.style.specs.declared.available_space.AvailableSpace.{AvailableSpace}
use Rattle.style.specs.declared.available_space.AvailableSpace.TheVariants.{Definite, MinContent, MaxContent}

-- ---- claims: absolute boxes by one bit, fixed ones by another, no others

abbrev pub claims : ContainingBlockClaims → Position → Bool
claims c position.Static = false
claims c position.Relative = false
claims c position.Absolute = c.absolute
claims c position.Fixed = c.fixed
claims c position.Sticky = false

-- ---- box sizing, overflow, containment

abbrev pub is_content_box : BoxSizing → Bool
is_content_box BorderBox = false
is_content_box ContentBox = true

abbrev pub is_scroll_container : Overflow → Bool
is_scroll_container Visible = false
is_scroll_container Clip = false
is_scroll_container Hidden = true
is_scroll_container Scroll = true

abbrev pub any_scroll_container : Point Overflow → Bool
any_scroll_container o = is_scroll_container o.x || is_scroll_container o.y

abbrev pub is_visible : Overflow → Bool
is_visible Visible = true
is_visible Clip = false
is_visible Hidden = false
is_visible Scroll = false

abbrev pub is_scroll : Overflow → Bool
is_scroll Visible = false
is_scroll Clip = false
is_scroll Hidden = false
is_scroll Scroll = true

abbrev pub contains_overflow : Contain → Bool
contains_overflow c = c.layout || c.paint

-- ---- direction

abbrev pub is_rtl : Direction → Bool
is_rtl Ltr = false
is_rtl Rtl = true

abbrev pub differs : Direction → Direction → Bool
differs Ltr d = is_rtl d
differs Rtl d = not (is_rtl d)

-- ---- self-alignment: self-start and self-end by the containing block's start and end

-- self-start and self-end: to be resolved against the container's direction first
abbrev pub is_self_relative : AlignItemsKeyword → Bool
is_self_relative keyword.Normal = false
is_self_relative keyword.Start = false
is_self_relative keyword.End = false
is_self_relative keyword.FlexStart = false
is_self_relative keyword.FlexEnd = false
is_self_relative keyword.SelfStart = true
is_self_relative keyword.SelfEnd = true
is_self_relative keyword.Center = false
is_self_relative keyword.Baseline = false
is_self_relative keyword.Stretch = false

abbrev pub keyword_relative : AlignItemsKeyword → Bool → AlignItemsKeyword
keyword_relative keyword.Normal flipped = keyword.Normal
keyword_relative keyword.Start flipped = keyword.Start
keyword_relative keyword.End flipped = keyword.End
keyword_relative keyword.FlexStart flipped = keyword.FlexStart
keyword_relative keyword.FlexEnd flipped = keyword.FlexEnd
keyword_relative keyword.SelfStart flipped = cond flipped keyword.End keyword.Start
keyword_relative keyword.SelfEnd flipped = cond flipped keyword.Start keyword.End
keyword_relative keyword.Center flipped = keyword.Center
keyword_relative keyword.Baseline flipped = keyword.Baseline
keyword_relative keyword.Stretch flipped = keyword.Stretch

-- they change places in the inline axis where item and container run in different directions
unfoldable pub self_relative : AlignItems → Direction → Direction → Bool → AlignItems
self_relative a item container inline =
    record { keyword = keyword_relative a.keyword (inline && differs item container); safety = a.safety }

-- ---- available space

-- a definite space is clamped; min-content and max-content stay
unfoldable pub clamped_space : AvailableSpace → Option Float → Option Float → AvailableSpace
clamped_space (Definite x) min max = Definite (clamped x min max)
clamped_space MinContent min max = MinContent
clamped_space MaxContent min max = MaxContent

unfoldable pub clamped_spaces : Size AvailableSpace → Size (Option Float) → Size (Option Float) → Size AvailableSpace
clamped_spaces = clamped_each clamped_space

unfoldable pub definite_spaces : Size Float → Size AvailableSpace
definite_spaces size = record { width = Definite size.width; height = Definite size.height }
