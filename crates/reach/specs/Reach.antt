-- Request #102: whether scrolling brings a box up, and how far. Read `reached`, at the end, and `box_reached` first. Assumes nothing.
use Rattle.std.specs.Prelude.{ℕ, zero, suc, Bool, cond, List, [], ◌∷◌, ◌++◌, leb, ℤ, pos, negsuc, ◌+ℤ◌, ◌-ℤ◌, Float, Option, Some, None, Result, Ok, Err}
use Rattle.std.specs.Int.Signed.{lt_z}
use Rattle.geometry.specs.declared.Rect.{Rect}
use Rattle.refusal.specs.declared.Refusal.{Refusal}
use Rattle.refusal.specs.declared.Refusal.TheVariants.{NotInEighths}
use Rattle.style.specs.Values.{is_scroll_container}
use Rattle.style.specs.declared.Direction.{Direction}
use Rattle.style.specs.declared.Direction.TheVariants.{Ltr, Rtl}
use Rattle.style.specs.declared.Overflow.{Overflow}
use Rattle.tree.specs.declared.layout.Layout.{Layout}
use Rattle.tree.specs.declared.layout.OofPositioningArea.{OofPositioningArea}
use Rattle.oof_resolve.specs.declared.ContainingBlock.{ContainingBlock}
use Rattle.pixels.specs.Accepted.{in_eighths}
use Rattle.pixels.specs.Pixels.{numbers_read, all_accepted}
use Rattle.run.specs.Call.{Slices}
use Rattle.run.specs.Refusals.{Verdict}
use Rattle.run.specs.Run.{layout_at}
use Rattle.run.specs.declared.State.{State}
use Rattle.finished.specs.Finished.{finished_verdict}
use Rattle.reach.specs.declared.Along.{Along}
use Rattle.reach.specs.declared.Offsets.{Offsets}

-- ---- one axis, in eighths from the area's start edge, away from which offsets grow

pub record Axis : Type 0 where
  -- the area's size, where the box starts, its size
  pub area : ℤ
  pub start : ℤ
  pub size : ℤ
  -- the offsets are 0 to this one
  pub last : ℕ

abbrev pub later : ℤ → ℤ → ℤ
later a b = cond (lt_z a b) b a

abbrev pub earlier : ℤ → ℤ → ℤ
earlier a b = cond (lt_z b a) b a

-- at offset o the area is from o to o + its size. It and the box share a stretch of positive length: the later start is before the earlier end
unfoldable pub shares : Axis → ℕ → Bool
shares a o = lt_z (later a.start (pos o)) (earlier (a.start +ℤ a.size) (pos o +ℤ a.area))

-- the first offset at which they do, of o and the n after it
unfoldable pub first_from : Axis → ℕ → ℕ → Option ℕ
first_from a zero o = cond (shares a o) (Some o) None
first_from a (suc n) o = cond (shares a o) (Some o) (first_from a n (suc o))

-- the least offset at which they do
unfoldable pub least : Axis → Option ℕ
least a = first_from a a.last 0

-- ---- the two axes of a box

abbrev pub or_zero : ℤ → ℕ
or_zero (pos n) = n
or_zero (negsuc n) = 0

-- "A scroll axis (hidden or scroll) has offsets from 0, in eighths, to the overflow rectangle's far edge less the area's size, or only 0 if that
-- is negative. An axis that doesn't scroll has offset 0 alone."
unfoldable pub last_offset : Overflow → Float → Float → ℕ
last_offset code far area = cond (is_scroll_container code) (or_zero (in_eighths far -ℤ in_eighths area)) 0

-- "relative to the area, from its right edge in a right-to-left container": there the box's right end, at `left` + `size` from the left edge,
-- is the rest of the area, area - left - size, away from the right edge; negative where it is beyond it
abbrev pub from_start : Direction → ℤ → ℤ → ℤ → ℤ
from_start Ltr area left size = left
from_start Rtl area left size = area -ℤ left -ℤ size

unfoldable pub axis_of : Along → Axis
axis_of a =
    record {
      area = in_eighths a.area;
      start = from_start a.direction (in_eighths a.area) (in_eighths a.at -ℤ in_eighths a.offset) (in_eighths a.size);
      size = in_eighths a.size;
      last = last_offset a.overflow a.far a.area;
    }

-- a run's rectangle counts from the area's start edges, its offset taken off, in either direction, as offsets do: its far edges are its right and
-- its bottom (`from_origin` of oof_place/specs/Placing.antt; what it holds: the laws of a contribution in oof_box_laws/specs/Laws.antt)
abbrev pub across : ContainingBlock → Rect Float → Layout → Axis
across c rectangle box =
    axis_of
    (record {
      direction = c.direction;
      overflow = c.overflow.x;
      area = c.area.size.width;
      offset = c.area.offset.x;
      at = box.location.x;
      size = box.size.width;
      far = rectangle.right;
    })

-- from the top, whatever the direction
abbrev pub down : ContainingBlock → Rect Float → Layout → Axis
down c rectangle box =
    axis_of
    (record {
      direction = Ltr;
      overflow = c.overflow.y;
      area = c.area.size.height;
      offset = c.area.offset.y;
      at = box.location.y;
      size = box.size.height;
      far = rectangle.bottom;
    })

-- ---- a box

-- "numbers of the area, that box and the overflow rectangle": of the box those that #101 reads
abbrev pub numbers_of : OofPositioningArea → Rect Float → Layout → List Float
numbers_of area rectangle box =
    numbers_read box.location box.size area.offset
    ++ (area.size.width ∷ area.size.height ∷ rectangle.left ∷ rectangle.right ∷ rectangle.top ∷ rectangle.bottom ∷ [])

-- an offset on one axis alone is none
abbrev pub pair_of : Option ℕ → Option ℕ → Option Offsets
pair_of None y = None
pair_of (Some x) None = None
pair_of (Some x) (Some y) = Some (record { across = x; down = y })

-- of an area with its direction and its overflow codes, the overflow rectangle and a layout: the least offsets at which box and area share a
-- patch, or that there are none. A pair of offsets is good where each is good on
-- its axis: so the least on each axis are a pair, if there is one
unfoldable pub box_reached : ContainingBlock → Rect Float → Layout → Result (Option Offsets) Refusal
box_reached c rectangle box =
    cond (all_accepted (numbers_of c.area rectangle box)) (Ok (pair_of (least (across c rectangle box)) (least (down c rectangle box)))) (Err NotInEighths)

-- ---- a box of a finished run, by its place in the hoisted order from 0. A node hoisted twice has one layout, its last, at both places

abbrev pub answered_by : Verdict → Result (Option Offsets) Refusal → Result (Option Offsets) Refusal
answered_by (Ok tt) answer = answer
answered_by (Err r) answer = Err r

unfoldable pub reached : ℕ → State → Slices → Result (Option Offsets) Refusal
reached place s lent =
    answered_by (finished_verdict s lent (leb s.counts.filled.working place)) (box_reached s.opened.container s.overflow (layout_at lent.layouts lent.working place))
