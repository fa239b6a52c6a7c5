-- A pair of offsets, as it is looked at from the area's left and top edges. Assumes nothing.
use Rattle.std.proofs.Common.{ℕ, ◌≤◌, ◌≡◌, true, arith, ℤ, pos, ◌+ℤ◌, ◌-ℤ◌}
use Rattle.std.proofs.lemmas.Int.{ints}
use Rattle.std.specs.Prelude.{Float, Some, None, Ok}
use mathlib.Core.Logic.Iff
use mathlib.Core.Logic.{◌↔◌}
use Rattle.style.specs.declared.Direction.{Direction}
use Rattle.style.specs.declared.Direction.TheVariants.{Ltr, Rtl}
use Rattle.pixels.specs.Accepted.{in_eighths}
use Rattle.reach.specs.declared.Along.{Along}
use Rattle.reach.specs.Reach.{Axis, shares, from_start, axis_of, box_reached}
use Rattle.reach.specs.Laws.{IsOffset, SharesPatch, InView, InBox, moved, ShowsPatch, PatchIsShown, AllInEighths, SeenIs, UnseenIs}
use Rattle.reach.proofs.Shares.{shares_means}
use Rattle.reach.proofs.Least.{last_offset_is}
use Rattle.reach.proofs.Boxes.{seen_shares, unseen_shares}

-- an eighth of the view that is the box's
abbrev Shown : Direction → Float → ℤ → Float → ℕ → Type 0
Shown d area begins size o = (u : ℤ) × InView u area × InBox u (moved d begins o) size

module _ (area size : Float) (begins : ℤ) (last o : ℕ) where
  abbrev axis : Direction → Axis
  axis d = record { area = in_eighths area; start = from_start d (in_eighths area) begins (in_eighths size); size = in_eighths size; last = last }

  -- right-to-left the eighth at t is as far from the view's right edge as the one at t - o is from its left
  abbrev turned : ℤ → ℤ
  turned t = in_eighths area +ℤ pos o -ℤ t -ℤ pos 1

  eighth_shown : (d : Direction) → (shares (axis d) o ≡ true) ↔ Shown d area begins size o
  eighth_shown Ltr =
      Iff.trans (shares_means (axis Ltr) o) (
        λ g. (g.0 -ℤ pos o, (omega (arith, ints, g.1), omega (arith, ints, g.1)), (omega (arith, ints, g.1), omega (arith, ints, g.1))),
        λ g. (g.0 +ℤ pos o, (omega (arith, ints, g.1), omega (arith, ints, g.1), omega (arith, ints, g.1), omega (arith, ints, g.1))),
      )
  eighth_shown Rtl =
      Iff.trans (shares_means (axis Rtl) o) (
        λ g. (turned g.0, (omega (arith, ints, g.1), omega (arith, ints, g.1)), (omega (arith, ints, g.1), omega (arith, ints, g.1))),
        λ g. (turned g.0, (omega (arith, ints, g.1), omega (arith, ints, g.1), omega (arith, ints, g.1), omega (arith, ints, g.1))),
      )

-- an axis: its offsets, and where it shares
along_offset : (a : Along) (o : ℕ) → (o ≤ (axis_of a).last) ↔ IsOffset a.overflow a.far a.area o
unfolding axis_of
along_offset a o = last_offset_is a.overflow a.far a.area o

along_shown : (a : Along) (o : ℕ) → (shares (axis_of a) o ≡ true) ↔ Shown a.direction a.area (in_eighths a.at -ℤ in_eighths a.offset) a.size o
unfolding axis_of
along_shown a o = eighth_shown a.area a.size (in_eighths a.at -ℤ in_eighths a.offset) (axis_of a).last o a.direction

pub patch_is_shown : PatchIsShown
patch_is_shown c rectangle box x y = (there, back)
  where
    there : SharesPatch c rectangle box x y → ShowsPatch c rectangle box x y
    there s =
        record {
          offset_across = (along_offset _ x).0 s.offset_across;
          offset_down = (along_offset _ y).0 s.offset_down;
          width = (along_shown _ x).0 s.width;
          height = (along_shown _ y).0 s.height;
        }

    back : ShowsPatch c rectangle box x y → SharesPatch c rectangle box x y
    back s =
        record {
          offset_across = (along_offset _ x).1 s.offset_across;
          offset_down = (along_offset _ y).1 s.offset_down;
          width = (along_shown _ x).1 s.width;
          height = (along_shown _ y).1 s.height;
        }

-- so what is told goes by the patches that are shown
pub seen_is : SeenIs
seen_is c rectangle box x y = (there, back)
  where
    there : box_reached c rectangle box ≡ Ok (Some (record { across = x; down = y }))
        → AllInEighths c rectangle box × ShowsPatch c rectangle box x y × ((i j : ℕ) → ShowsPatch c rectangle box i j → (x ≤ i) × (y ≤ j))
    there e =
        let s = (seen_shares c rectangle box x y).0 e in
        (s.0, (patch_is_shown c rectangle box x y).0 s.1, λ i j p. s.2 i j ((patch_is_shown c rectangle box i j).1 p))

    back : AllInEighths c rectangle box × ShowsPatch c rectangle box x y × ((i j : ℕ) → ShowsPatch c rectangle box i j → (x ≤ i) × (y ≤ j))
        → box_reached c rectangle box ≡ Ok (Some (record { across = x; down = y }))
    back h =
        (seen_shares c rectangle box x y).1
        (h.0, (patch_is_shown c rectangle box x y).1 h.1, λ i j p. h.2 i j ((patch_is_shown c rectangle box i j).0 p))

pub unseen_is : UnseenIs
unseen_is c rectangle box = (there, back)
  where
    there : box_reached c rectangle box ≡ Ok None → AllInEighths c rectangle box × ((i j : ℕ) → ¬ ShowsPatch c rectangle box i j)
    there e = let s = (unseen_shares c rectangle box).0 e in (s.0, λ i j p. s.1 i j ((patch_is_shown c rectangle box i j).1 p))

    back : AllInEighths c rectangle box × ((i j : ℕ) → ¬ ShowsPatch c rectangle box i j) → box_reached c rectangle box ≡ Ok None
    back h = (unseen_shares c rectangle box).1 (h.0, λ i j p. h.1 i j ((patch_is_shown c rectangle box i j).0 p))
