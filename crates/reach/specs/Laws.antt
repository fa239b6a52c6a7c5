-- What the definitions of this crate mean, as statements. `proofs/` proves each, under its name in small letters. `a ≤ℤ b` is the
-- order of the integers. Assumes nothing.
use Rattle.std.specs.Prelude.{ℕ, ◌≤◌, ◌<◌, true, false, ◌↔◌, ◌⊎◌, ◌≡◌, ℤ, pos, ◌+ℤ◌, ◌-ℤ◌, ◌≤ℤ◌, ◌<ℤ◌, Float, Option, Some, None, Ok, Err, IsOk}
use Rattle.geometry.specs.declared.Rect.{Rect}
use Rattle.refusal.specs.declared.Refusal.{Refusal}
use Rattle.refusal.specs.declared.Refusal.TheVariants.{NotInEighths}
use Rattle.refusal.specs.Refusal.{number_of}
use Rattle.style.specs.declared.Direction.{Direction}
use Rattle.style.specs.declared.Direction.TheVariants.{Ltr, Rtl}
use Rattle.style.specs.declared.Overflow.{Overflow}
use Rattle.style.specs.declared.Overflow.TheVariants.{Hidden, Scroll}
use Rattle.tree.specs.declared.layout.Layout.{Layout}
use Rattle.oof_resolve.specs.declared.ContainingBlock.{ContainingBlock}
use Rattle.pixels.specs.Accepted.{in_eighths}
use Rattle.run.specs.Call.{Slices}
use Rattle.run.specs.Conditions.{FirstIs, NoneHolds}
use Rattle.run.specs.Run.{layout_at}
use Rattle.run.specs.declared.State.{State}
use Rattle.reach.specs.Reach.{Axis, shares, least, or_zero, last_offset, across, down, box_reached, reached}
use Rattle.reach.specs.Conditions.{NotInEighthsHere, reach_tests}

-- ---- one axis

-- "share a patch of positive" length: some eighth, from t to t + 1, lies in the box and in the area as it stands at the offset
abbrev pub SharesAnEighth : Axis → ℕ → ℤ → Type 0
SharesAnEighth a o t =
    (a.start ≤ℤ t) × ((t +ℤ pos 1) ≤ℤ (a.start +ℤ a.size)) × (pos o ≤ℤ t) × ((t +ℤ pos 1) ≤ℤ (pos o +ℤ a.area))

abbrev pub SharesMeans : Type 0
SharesMeans = (a : Axis) (o : ℕ) → (shares a o ≡ true) ↔ ((t : ℤ) × SharesAnEighth a o t)

-- the least of an axis' offsets at which they share, or that there is none
abbrev pub IsLeast : Axis → Option ℕ → Type 0
IsLeast a None = (o : ℕ) → o ≤ a.last → shares a o ≡ false
IsLeast a (Some o) = (o ≤ a.last) × (shares a o ≡ true) × ((i : ℕ) → i < o → shares a i ≡ false)

abbrev pub LeastIs : Type 0
LeastIs = (a : Axis) (r : Option ℕ) → (least a ≡ r) ↔ IsLeast a r

-- what can't be seen at any offset: what has no size, or an area without one; what ends at or before the area's start edge
abbrev pub NoSize : Axis → Type 0
NoSize a = (a.size ≤ℤ pos 0) ⊎ (a.area ≤ℤ pos 0)

abbrev pub EndsBefore : Axis → Type 0
EndsBefore a = (a.start +ℤ a.size) ≤ℤ pos 0

-- the least offset, worked out. Box, area and what of the box lies past the start edge have to be above 0; then it is the offset at which the
-- area's end is one eighth past the box's start, or 0 if it is past it already
abbrev pub first_past : Axis → ℕ
first_past a = or_zero (a.start -ℤ a.area +ℤ pos 1)

abbrev pub LeastWorkedOut : Type 0
LeastWorkedOut =
    (a : Axis) (o : ℕ)
    → (least a ≡ Some o)
    ↔ ((pos 0 <ℤ a.size) × (pos 0 <ℤ a.area) × (pos 0 <ℤ (a.start +ℤ a.size)) × (o ≡ first_past a) × (o ≤ a.last))

-- and there is none exactly where one of the three isn't above 0, or that offset is past the last
abbrev pub NowhereWorkedOut : Type 0
NowhereWorkedOut = (a : Axis) → (least a ≡ None) ↔ (NoSize a ⊎ EndsBefore a ⊎ (a.last < first_past a))

-- "offsets from 0, in eighths, to the overflow rectangle's far edge less the area's size, or only 0": 0, and on a scroll axis what is at most that
abbrev pub IsOffset : Overflow → Float → Float → ℕ → Type 0
IsOffset code far size o = (o ≡ 0) ⊎ (((code ≡ Hidden) ⊎ (code ≡ Scroll)) × (pos o ≤ℤ (in_eighths far -ℤ in_eighths size)))

abbrev pub LastOffsetIs : Type 0
LastOffsetIs = (code : Overflow) (far size : Float) (o : ℕ) → (o ≤ last_offset code far size) ↔ IsOffset code far size o

-- where 0 is the only offset nothing is seen that starts at or after the area's end, either
abbrev pub StillAxis : Type 0
StillAxis = (a : Axis) → a.last ≡ 0 → (least a ≡ None) ↔ (NoSize a ⊎ EndsBefore a ⊎ (a.area ≤ℤ a.start))

-- on a scroll axis whose far edge is at or after the box's end only what has no size or ends at or before the start edge is unseen
abbrev pub HeldAxis : Type 0
HeldAxis =
    (a : Axis) (far : ℤ) → (a.start +ℤ a.size) ≤ℤ far → ((o : ℕ) → (o ≤ a.last) ↔ ((o ≡ 0) ⊎ (pos o ≤ℤ (far -ℤ a.area))))
    → (least a ≡ None) ↔ (NoSize a ⊎ EndsBefore a)

-- ---- a box

-- a pair of offsets at which "box and area share a patch of positive width and height", along the definition's axes
pub record SharesPatch (c : ContainingBlock) (rectangle : Rect Float) (box : Layout) (x y : ℕ) : Type 0 where
  pub offset_across : x ≤ (across c rectangle box).last
  pub offset_down : y ≤ (down c rectangle box).last
  pub width : shares (across c rectangle box) x ≡ true
  pub height : shares (down c rectangle box) y ≡ true

-- ---- such a pair as it is looked at, from the area's left and top edges

-- the eighth from t to t + 1 lies in the view, which is as long as the area
abbrev pub InView : ℤ → Float → Type 0
InView t area = (pos 0 ≤ℤ t) × ((t +ℤ pos 1) ≤ℤ in_eighths area)

-- it lies in the box, which begins at `begins`
abbrev pub InBox : ℤ → ℤ → Float → Type 0
InBox t begins size = (begins ≤ℤ t) × ((t +ℤ pos 1) ≤ℤ (begins +ℤ in_eighths size))

-- scrolling by o moves the box o eighths to the left, in a right-to-left container to the right
abbrev pub moved : Direction → ℤ → ℕ → ℤ
moved Ltr begins o = begins -ℤ pos o
moved Rtl begins o = begins +ℤ pos o

-- scrolled by x and y, an eighth by an eighth of the view, at u and v, is the box's. Scrolling down moves the box up in both directions
pub record ShowsPatch (c : ContainingBlock) (rectangle : Rect Float) (box : Layout) (x y : ℕ) : Type 0 where
  pub offset_across : IsOffset c.overflow.x rectangle.right c.area.size.width x
  pub offset_down : IsOffset c.overflow.y rectangle.bottom c.area.size.height y
  pub width : (u : ℤ)
      × InView u c.area.size.width
      × InBox u (moved c.direction (in_eighths box.location.x -ℤ in_eighths c.area.offset.x) x) box.size.width
  pub height : (v : ℤ)
      × InView v c.area.size.height
      × InBox v (in_eighths box.location.y -ℤ in_eighths c.area.offset.y -ℤ pos y) box.size.height

abbrev pub PatchIsShown : Type 0
PatchIsShown =
    (c : ContainingBlock) (rectangle : Rect Float) (box : Layout) (x y : ℕ) → SharesPatch c rectangle box x y ↔ ShowsPatch c rectangle box x y

-- ---- what is told of a box

abbrev pub AllInEighths : ContainingBlock → Rect Float → Layout → Type 0
AllInEighths c rectangle box = ¬ NotInEighthsHere c.area rectangle box

-- "seen comes with such a pair, the least on each axis"
abbrev pub SeenIs : Type 0
SeenIs =
    (c : ContainingBlock) (rectangle : Rect Float) (box : Layout) (x y : ℕ)
    → (box_reached c rectangle box ≡ Ok (Some (record { across = x; down = y })))
    ↔ (AllInEighths c rectangle box × ShowsPatch c rectangle box x y × ((i j : ℕ) → ShowsPatch c rectangle box i j → (x ≤ i) × (y ≤ j)))

-- "Unseen means that no pair of offsets" does
abbrev pub UnseenIs : Type 0
UnseenIs =
    (c : ContainingBlock) (rectangle : Rect Float) (box : Layout)
    → (box_reached c rectangle box ≡ Ok None) ↔ (AllInEighths c rectangle box × ((i j : ℕ) → ¬ ShowsPatch c rectangle box i j))

-- and it is refused, with 9, exactly for a number that isn't accepted
abbrev pub BoxRefusedExactly : Type 0
BoxRefusedExactly =
    (c : ContainingBlock) (rectangle : Rect Float) (box : Layout) (r : Refusal)
    → (box_reached c rectangle box ≡ Err r) ↔ ((r ≡ NotInEighths) × NotInEighthsHere c.area rectangle box)

-- an offset that is told is at most 9,999,998
abbrev pub OffsetsAreSmall : Type 0
OffsetsAreSmall =
    (c : ContainingBlock) (rectangle : Rect Float) (box : Layout) (x y : ℕ) → box_reached c rectangle box ≡ Ok (Some (record { across = x; down = y })) → (x ≤ 9999998) × (y ≤ 9999998)

-- ---- a box of a run

-- each refusal exactly under its condition, by the tests in their order
abbrev pub RefusedExactly : Type 0
RefusedExactly =
    (place : ℕ) (s : State) (lent : Slices) (r : Refusal) → (reached place s lent ≡ Err r) ↔ FirstIs (reach_tests place s lent) (number_of r)

-- where none holds, what is told is that of the run's container and rectangle and of the layout at the place
abbrev pub AnswerIs : Type 0
AnswerIs =
    (place : ℕ) (s : State) (lent : Slices) → NoneHolds (reach_tests place s lent)
    → reached place s lent ≡ box_reached s.opened.container s.overflow (layout_at lent.layouts lent.working place)

-- so an answer exactly where none holds
abbrev pub AnsweredExactly : Type 0
AnsweredExactly = (place : ℕ) (s : State) (lent : Slices) → IsOk (reached place s lent) ↔ NoneHolds (reach_tests place s lent)
