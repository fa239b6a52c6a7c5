-- Sizes of whole quarter pixels: one lemma for each operation on both sides of a size. Assumes nothing.
use Rattle.std.specs.Prelude.{Float, Option}
use mathlib.Core.Bool.{Bool, true, false, cond}
use Prim.Native.Nat.{ℕ, ◌+◌, ◌≤◌, ◌<◌}
use lib.Ieee.{Float}
use Rattle.geometry.specs.Geometry.{zero_size, definite, first_size, filled_size, added_size, raised_size, clamped_size, clamped_floats}
use Rattle.geometry.specs.declared.Size.{Size}
use Rattle.util_exact.proofs.Same.{Same, MaybeSame, given, widen_same, zero_same, unwrap_same, else_same, map_add_same, map_larger_same, clamped_same, map_clamped_same}
use Rattle.mirror_box.proofs.Shared.{widen_maybe}

-- a branch, either way
pub either : {A : Type 0} (P : A → Type 0) (t : Bool) {x y : A} → P x → P y → P (cond t x y)
either P true h k = h
either P false h k = k

-- a number of whole quarters, of b sixteenths at most, is the same as itself
abbrev pub In : ℕ → Float → Type 0
In b x = Same 4 b x x

abbrev pub MaybeIn : ℕ → Option Float → Type 0
MaybeIn b m = MaybeSame 4 b m m

pub record SizeIn (b : ℕ) (s : Size Float) : Type 0 where
  pub width : In b s.width
  pub height : In b s.height

pub record KnownIn (b : ℕ) (s : Size (Option Float)) : Type 0 where
  pub width : MaybeIn b s.width
  pub height : MaybeIn b s.height

pub widen_size : {b c : ℕ} {s : Size Float} → b ≤ c → SizeIn b s → SizeIn c s
widen_size i h = record { width = widen_same i h.width; height = widen_same i h.height }

pub widen_known : {b c : ℕ} {s : Size (Option Float)} → b ≤ c → KnownIn b s → KnownIn c s
widen_known i h = record { width = widen_maybe i h.width; height = widen_maybe i h.height }

pub zero_in : {b : ℕ} → SizeIn b zero_size
zero_in = record { width = zero_same; height = zero_same }

pub definite_in_lem : {b : ℕ} {s : Size Float} → SizeIn b s → KnownIn b (definite s)
unfolding definite
definite_in_lem h = record { width = given h.width; height = given h.height }

pub first_in : {b : ℕ} {s t : Size (Option Float)} → KnownIn b s → KnownIn b t → KnownIn b (first_size s t)
unfolding first_size
first_in h k = record { width = else_same h.width k.width; height = else_same h.height k.height }

pub filled_in : {b : ℕ} {s : Size (Option Float)} {t : Size Float} → KnownIn b s → SizeIn b t → SizeIn b (filled_size s t)
unfolding filled_size
filled_in h k = record { width = unwrap_same h.width k.width; height = unwrap_same h.height k.height }

pub added_in : {b c : ℕ} {s : Size (Option Float)} {t : Size Float} → KnownIn b s → SizeIn c t → b + c < 16777216 → KnownIn (b + c) (added_size s t)
unfolding added_size
added_in h k i = record { width = map_add_same h.width k.width i; height = map_add_same h.height k.height i }

pub raised_in : {b : ℕ} {s : Size (Option Float)} {t : Size Float} → KnownIn b s → SizeIn b t → KnownIn b (raised_size s t)
unfolding raised_size
raised_in h k = record { width = map_larger_same h.width k.width; height = map_larger_same h.height k.height }

pub clamped_in : {b : ℕ} {s low high : Size (Option Float)} → KnownIn b s → KnownIn b low → KnownIn b high → KnownIn b (clamped_size s low high)
unfolding clamped_size
clamped_in h l u = record { width = map_clamped_same h.width l.width u.width; height = map_clamped_same h.height l.height u.height }

pub floats_in : {b : ℕ} {s : Size Float} {low high : Size (Option Float)} → SizeIn b s → KnownIn b low → KnownIn b high → SizeIn b (clamped_floats s low high)
unfolding clamped_floats
floats_in h l u = record { width = clamped_same h.width l.width u.width; height = clamped_same h.height l.height u.height }
