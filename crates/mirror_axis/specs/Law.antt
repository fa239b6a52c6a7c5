-- The mirror law of one axis, as statements. `proofs/Law.antt` and `proofs/Offset.antt` prove each, under its name in small letters.
-- Assumes nothing.
use Rattle.std.specs.Prelude.{◌≡◌, [], ◌∷◌, Bool, ℕ, ◌+◌, ◌*◌, T, ltb, Float}
use Rattle.util.specs.Number.{0f}
use Rattle.geometry.specs.Geometry.{◌to◌}
use Rattle.geometry.specs.declared.Line.{Line}
use Rattle.tree.specs.declared.layout.AxisStaticPosition.{AxisStaticPosition}
use Rattle.oof_axis.specs.Axis.{block, stretch_fit, stretches, placement}
use Rattle.oof_axis.specs.StaticOffset.{axis_offset}
use Rattle.oof_axis.specs.declared.OofAxis.{OofAxis}
use Rattle.util_exact.specs.Value.{◌≐◌, AddUp, Quarters, MaybeQuarters}
use Rattle.mirror_axis.specs.Image.{image, reflected_place}

-- whole quarter pixels: the area's size, insets and margins of L quarters at most, the static area of A
pub record Bounded (L A : ℕ) (a : OofAxis) : Type 0 where
  pub size : Quarters L a.size
  pub inset_start : MaybeQuarters L a.inset.start
  pub inset_end : MaybeQuarters L a.inset.end
  pub margin_start : MaybeQuarters L a.margin.start
  pub margin_end : MaybeQuarters L a.margin.end
  pub area_start : Quarters A a.place.area.start
  pub area_end : Quarters A a.place.area.end

-- the one condition on the bounds of lengths, static area and box size, in quarters: nothing that an axis computes reaches 2 ^ 20
-- pixels, below which an f32 holds every sixteenth
abbrev pub Room : ℕ → ℕ → ℕ → Type 0
Room L A S = T (ltb (16 * L + 6 * A + S) 4194304)

-- an axis beside another of which it is the mirror image, with the box size in each
pub record Mirrored (a a' : OofAxis) (size size' : Float) : Type 0 where
  -- the blocks are mirrored in the area
  pub block_start : AddUp ((block a).start ∷ (block a').end ∷ []) a.size
  pub block_end : AddUp ((block a).end ∷ (block a').start ∷ []) a.size
  -- the sizes are shared
  pub stretch_fit : stretch_fit a' ≐ stretch_fit a
  pub stretches : (plain : Bool) → stretches a' plain ≡ stretches a plain
  -- the margins change places
  pub margin_start : (placement a' size').margin.start ≐ (placement a size).margin.end
  pub margin_end : (placement a' size').margin.end ≐ (placement a size).margin.start
  -- the box stands as far from the left edge in one as from the right edge in the other
  pub position : AddUp ((placement a size).position ∷ (placement a' size').position ∷ size ∷ []) a.size

-- for every pairing of insets, margins, alignment, safety, direction and scrolling. The box sizes are one number, not one float: +0 and
-- -0 may differ. A size of 0 is left out for one case only: no insets, centered, at equal distance from both edges.
abbrev pub AxisMirror : Type 0
AxisMirror =
    (L A S : ℕ) → Room L A S → (a : OofAxis) (size size' : Float) → Bounded L A a → (a.size ≐ 0f → ⊥) → Quarters S size → Quarters S size' → size' ≐ size
    → Mirrored a (image a) size size'

-- the bounds of the mirror theorem: lengths of 4,096 pixels at most, a static area that is the difference of two such lengths, a box of
-- 131,072 pixels at most (padding, border and a stretched size can make a box larger than a length)
abbrev pub QuarterMirror : Type 0
QuarterMirror =
    (a : OofAxis) (size size' : Float) → Bounded 16384 32768 a → (a.size ≐ 0f → ⊥) → Quarters 524288 size → Quarters 524288 size' → size' ≐ size → Mirrored a (image a) size size'

-- the offset by the static position alone, which reads the fallback edge: in a width w, with the margins exchanged. Any width will do.
abbrev pub OffsetMirror : Type 0
OffsetMirror =
    (L A S : ℕ) → Room L A S → (p : AxisStaticPosition) (w size : Float) (m : Line Float) → Quarters L w → Quarters A p.area.start → Quarters A p.area.end
    → Quarters S size → Quarters L m.start → Quarters L m.end → AddUp (axis_offset p size m ∷ axis_offset (reflected_place w p) size (m.end to m.start) ∷ size ∷ []) w
