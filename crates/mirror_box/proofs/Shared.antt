-- Sizes that the two runs share: the width as a number, the height as a word. One lemma for each operation on sizes. Assumes nothing.
use Rattle.std.specs.Prelude.{Float, Option, Some, is_some, unwrap_or}
use Rattle.std.specs.Option.{option_or}
use mathlib.Core.Path.{◌≡◌, refl, ap, ap₂}
use mathlib.Core.Bool.{◌&&◌}
use Prim.Native.Nat.{ℕ, ◌+◌, ◌≤◌, ◌<◌}
use lib.Ieee.{Float}
use Rattle.util.specs.Order.{smaller}
use Rattle.util.specs.Maybe.{map_add, map_larger}
use Rattle.geometry.specs.Geometry.{zero_size, smaller_size, definite, both_present, first_size, filled_size, added_size, raised_size, clamped_size, clamped_floats}
use Rattle.geometry.specs.declared.Size.{Size}
use Rattle.style.specs.Values.{clamped_space, clamped_spaces, definite_spaces}
use Rattle.style.specs.declared.available_space.AvailableSpace.{AvailableSpace}
use Rattle.style.specs.declared.available_space.AvailableSpace.TheVariants.{Definite, MinContent, MaxContent}
use Rattle.util_exact.proofs.Same.{Same, MaybeSame, given, absent, widen_same, zero_same, smaller_same, equal, present_same, else_same, unwrap_same, map_add_same, map_larger_same, clamped_same, map_clamped_same}
use Rattle.mirror_box.specs.Mirrored.{SameKnown, known, none, SameSpace, definite as definiteSpace, min_content, max_content, SameKnownSize, SameAvailableSize, SameSize}

pub data SpaceSame (b : ℕ) : AvailableSpace → AvailableSpace → Type 0 where
  space : {x x' : Float} → Same 4 b x x' → SpaceSame b (Definite x) (Definite x')
  min : SpaceSame b MinContent MinContent
  max : SpaceSame b MaxContent MaxContent

pub record SizeShared (b : ℕ) (s s' : Size Float) : Type 0 where
  pub width : Same 4 b s.width s'.width
  pub height : s.height ≡ s'.height

pub record KnownShared (b : ℕ) (s s' : Size (Option Float)) : Type 0 where
  pub width : MaybeSame 4 b s.width s'.width
  pub height : s.height ≡ s'.height

pub record SpaceShared (b : ℕ) (s s' : Size AvailableSpace) : Type 0 where
  pub width : SpaceSame b s.width s'.width
  pub height : s.height ≡ s'.height

-- ---- what the law says of them

known_equal : {b : ℕ} {m m' : Option Float} → MaybeSame 4 b m m' → SameKnown m m'
known_equal (given h) = known (equal h)
known_equal absent = none

pub space_equal : {b : ℕ} {s s' : AvailableSpace} → SpaceSame b s s' → SameSpace s s'
space_equal (space h) = definiteSpace (equal h)
space_equal min = min_content
space_equal max = max_content

pub size_told : {b : ℕ} {s s' : Size Float} → SizeShared b s s' → SameSize s s'
size_told h = record { width = equal h.width; height = h.height }

pub known_told : {b : ℕ} {s s' : Size (Option Float)} → KnownShared b s s' → SameKnownSize s s'
known_told h = record { width = known_equal h.width; height = h.height }

pub space_told : {b : ℕ} {s s' : Size AvailableSpace} → SpaceShared b s s' → SameAvailableSize s s'
space_told h = record { width = space_equal h.width; height = h.height }

-- ---- wider bounds

pub widen_maybe : {b c : ℕ} {m m' : Option Float} → b ≤ c → MaybeSame 4 b m m' → MaybeSame 4 c m m'
widen_maybe i (given h) = given (widen_same i h)
widen_maybe i absent = absent

pub widen_known : {b c : ℕ} {s s' : Size (Option Float)} → b ≤ c → KnownShared b s s' → KnownShared c s s'
widen_known i h = record { width = widen_maybe i h.width; height = h.height }

pub widen_size : {b c : ℕ} {s s' : Size Float} → b ≤ c → SizeShared b s s' → SizeShared c s s'
widen_size i h = record { width = widen_same i h.width; height = h.height }

-- ---- operations

pub zero_shared : {b : ℕ} → SizeShared b zero_size zero_size
zero_shared = record { width = zero_same; height = refl }

pub definite_shared : {b : ℕ} {s s' : Size Float} → SizeShared b s s' → KnownShared b (definite s) (definite s')
unfolding definite
definite_shared h = record { width = given h.width; height = ap Some h.height }

pub smaller_shared : {b : ℕ} {s s' t t' : Size Float} → SizeShared b s s' → SizeShared b t t' → SizeShared b (smaller_size s t) (smaller_size s' t')
unfolding smaller_size
smaller_shared h k = record { width = smaller_same h.width k.width; height = ap₂ smaller h.height k.height }

pub first_shared : {b : ℕ} {s s' t t' : Size (Option Float)} → KnownShared b s s' → KnownShared b t t' → KnownShared b (first_size s t) (first_size s' t')
unfolding first_size
first_shared h k = record { width = else_same h.width k.width; height = ap₂ option_or h.height k.height }

pub filled_shared : {b : ℕ} {s s' : Size (Option Float)} {t t' : Size Float} → KnownShared b s s' → SizeShared b t t' → SizeShared b (filled_size s t) (filled_size s' t')
unfolding filled_size
filled_shared h k = record { width = unwrap_same h.width k.width; height = ap₂ unwrap_or h.height k.height }

pub added_shared : {b c : ℕ} {s s' : Size (Option Float)} {t t' : Size Float} → KnownShared b s s' → SizeShared c t t' → b + c < 16777216 → KnownShared (b + c) (added_size s t) (added_size s' t')
unfolding added_size
added_shared h k i = record { width = map_add_same h.width k.width i; height = ap₂ map_add h.height k.height }

pub raised_shared : {b : ℕ} {s s' : Size (Option Float)} {t t' : Size Float} → KnownShared b s s' → SizeShared b t t' → KnownShared b (raised_size s t) (raised_size s' t')
unfolding raised_size
raised_shared h k = record { width = map_larger_same h.width k.width; height = ap₂ map_larger h.height k.height }

module _ {b : ℕ} {low low' high high' : Size (Option Float)} (l : KnownShared b low low') (u : KnownShared b high high') where
  pub clamped_shared : {s s' : Size (Option Float)} → KnownShared b s s' → KnownShared b (clamped_size s low high) (clamped_size s' low' high')
  unfolding clamped_size
  clamped_shared h = record { width = map_clamped_same h.width l.width u.width; height = rw (h.height, l.height, u.height) }

  pub floats_shared : {s s' : Size Float} → SizeShared b s s' → SizeShared b (clamped_floats s low high) (clamped_floats s' low' high')
  unfolding clamped_floats
  floats_shared h = record { width = clamped_same h.width l.width u.width; height = rw (h.height, l.height, u.height) }

  spaces_same : {s s' : AvailableSpace} → SpaceSame b s s' → SpaceSame b (clamped_space s low.width high.width) (clamped_space s' low'.width high'.width)
  unfolding clamped_space
  spaces_same (space h) = space (clamped_same h l.width u.width)
  spaces_same min = min
  spaces_same max = max

  pub spaces_shared : {s s' : Size AvailableSpace} → SpaceShared b s s' → SpaceShared b (clamped_spaces s low high) (clamped_spaces s' low' high')
  unfolding clamped_spaces
  spaces_shared h = record { width = spaces_same h.width; height = rw (h.height, l.height, u.height) }

pub definite_spaces_lem : {b : ℕ} {s s' : Size Float} → SizeShared b s s' → SpaceShared b (definite_spaces s) (definite_spaces s')
unfolding definite_spaces
definite_spaces_lem h = record { width = space h.width; height = ap Definite h.height }

-- ---- tests

pub both_present_lem : {b : ℕ} {s s' : Size (Option Float)} → KnownShared b s s' → both_present s ≡ both_present s'
unfolding both_present
both_present_lem h = ap₂ ◌&&◌ (present_same h.width) (ap is_some h.height)
