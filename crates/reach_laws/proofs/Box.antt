-- A box and its mirror image. Assumes nothing.
use Rattle.std.specs.Prelude.{Float}
use native.Mathlib.Omega.{arith}
use Rattle.std.proofs.lemmas.Int.{ints}
use mathlib.Core.Bool.{Bool, true, false, not}
use mathlib.Core.Path.{◌≡◌, refl, sym, ap, ◌∙◌}
use lib.IntN.{ℤ, ◌+ℤ◌, ◌-ℤ◌}
use Rattle.geometry.specs.declared.Rect.{Rect}
use Rattle.style.specs.declared.Direction.{Direction}
use Rattle.style.specs.declared.Direction.TheVariants.{Ltr, Rtl}
use Rattle.tree.specs.declared.layout.Layout.{Layout}
use Rattle.oof_resolve.specs.declared.ContainingBlock.{ContainingBlock}
use Rattle.pixels.specs.Accepted.{in_eighths}
use Rattle.pixels.specs.Pixels.{all_accepted}
use Rattle.mirror_box.specs.Image.{other_direction, image_container}
use Rattle.run.proofs.Decides.{Decides}
use Rattle.reach.specs.Conditions.{NotInEighthsHere}
use Rattle.reach.specs.Laws.{AllInEighths}
use Rattle.reach.specs.Reach.{from_start, last_offset, axis_of, across, down, numbers_of, box_reached}
use Rattle.reach.proofs.Numbers.{numbers_decided}
use Rattle.reach_laws.specs.Laws.{MirroredBox}

-- ---- along x

-- from the left in one, from the right in the other
starts_alike : (d : Direction) (area left left' size : ℤ) → left +ℤ left' +ℤ size ≡ area → from_start d area left size ≡ from_start (other_direction d) area left' size
unfolding other_direction
starts_alike Ltr area left left' size e = omega (arith, ints)
starts_alike Rtl area left left' size e = omega (arith, ints)

-- ---- both axes

module _ (c : ContainingBlock) (overflow overflow' : Rect Float) (box box' : Layout) where
  pub across_alike :
      (in_eighths box.location.x -ℤ in_eighths c.area.offset.x) +ℤ (in_eighths box'.location.x -ℤ in_eighths c.area.offset.x) +ℤ in_eighths box.size.width
      ≡ in_eighths c.area.size.width
      → in_eighths box.size.width ≡ in_eighths box'.size.width
      → in_eighths overflow.right ≡ in_eighths overflow'.right
      → across c overflow box ≡ across (image_container c) overflow' box'
  unfolding axis_of last_offset image_container
  across_alike x w r =
      rw (← w, ← r, starts_alike c.direction (in_eighths c.area.size.width) (in_eighths box.location.x -ℤ in_eighths c.area.offset.x) (in_eighths box'.location.x -ℤ in_eighths c.area.offset.x) (in_eighths box.size.width) x)
      refl

  pub down_alike :
      in_eighths box.location.y ≡ in_eighths box'.location.y
      → in_eighths box.size.height ≡ in_eighths box'.size.height
      → in_eighths overflow.bottom ≡ in_eighths overflow'.bottom
      → down c overflow box ≡ down (image_container c) overflow' box'
  unfolding axis_of last_offset image_container
  down_alike y h b = rw (y, h, b) refl

-- ---- a box whose numbers are accepted alike

pub reached_alike : (c c' : ContainingBlock) (overflow overflow' : Rect Float) (box box' : Layout)
    → all_accepted (numbers_of c.area overflow box) ≡ all_accepted (numbers_of c'.area overflow' box')
    → across c overflow box ≡ across c' overflow' box'
    → down c overflow box ≡ down c' overflow' box'
    → box_reached c overflow box ≡ box_reached c' overflow' box'
unfolding box_reached
reached_alike c c' overflow overflow' box box' a x y = rw (a, x, y) refl

-- ---- all accepted

all_accepted_lem : (c : ContainingBlock) (overflow : Rect Float) (box : Layout) → AllInEighths c overflow box → all_accepted (numbers_of c.area overflow box) ≡ true
all_accepted_lem c overflow box h = go (all_accepted (numbers_of c.area overflow box)) (numbers_decided c.area overflow box)
  where
    go : (b : Bool) → Decides (not b) (NotInEighthsHere c.area overflow box) → b ≡ true
    go true d = refl
    go false d = absurd (h (d.holds refl))

pub mirrored_box : MirroredBox
mirrored_box c c' overflow overflow' box box' h =
    reached_alike c c' overflow overflow' box box' (all_accepted_lem c overflow box h.accepted ∙ sym (all_accepted_lem c' overflow' box' h.image_accepted))
    (across_alike c overflow overflow' box box' h.x h.width h.right ∙ ap (λ (c : ContainingBlock). across c overflow' box') (sym h.image))
    (down_alike c overflow overflow' box box' h.y h.height h.bottom ∙ ap (λ (c : ContainingBlock). down c overflow' box') (sym h.image))
