-- Rows worked out by hand; `proofs/Rows.antt` computes each. `e 8` is the word of eight eighths of a pixel, `8e` in the comments. Assumes
-- nothing.
use Rattle.std.specs.Prelude.{ℕ, ◌+◌, ◌*◌, true, false, List, [], ◌++◌, ◌≡◌, pos, neg_ℤ, Float, replicate, Option, Some, None, Ok, Err, Result}
use Rattle.refusal.specs.declared.Refusal.{Refusal}
use Rattle.reach.specs.declared.Offsets.{Offsets}
use Rattle.geometry.specs.declared.Rect.{Rect}
use Rattle.refusal.specs.declared.Refusal.TheVariants.{BadExtent, BadCandidate, WrongReply, NotInEighths}
use Rattle.style.specs.declared.Direction.{Direction}
use Rattle.style.specs.declared.Direction.TheVariants.{Ltr, Rtl}
use Rattle.style.specs.declared.Overflow.{Overflow}
use Rattle.style.specs.declared.Overflow.TheVariants.{Visible, Clip, Hidden, Scroll}
use Rattle.style_record.specs.Record.{style_words, items}
use Rattle.tree.specs.declared.layout.Layout.{Layout}
use Rattle.oof_resolve.specs.declared.ContainingBlock.{ContainingBlock}
use Rattle.oof_box.specs.declared.question.Stage.{Stage}
use Rattle.oof_box.specs.Cut.{no_replies}
use Rattle.oof_box.specs.declared.question.Stage.TheVariants as stage
use Rattle.run.specs.Call.{Slices, Lent, slices}
use Rattle.run.specs.Run.{extents_of, closed}
use Rattle.run.specs.declared.Counts.{Counts}
use Rattle.run.specs.declared.State.{State}
use Rattle.finished.specs.RowWords.{e, minus, nan, half, float, styles, layout, candidate, on_layer, counts, with_tally}
use Rattle.reach.specs.Reach.{Axis, least, last_offset, axis_of, box_reached, reached}

-- ---- words

abbrev pub WordRows : Type 0
WordRows = (e 0 ≡ 0) × (e 1 ≡ 0x3E00_0000) × (e 8 ≡ 0x3F80_0000) × (minus 12 ≡ 0xBFC0_0000)

-- -0.1
abbrev tenth : ℕ
tenth = 0xBDCC_CCCD

-- ---- one axis

-- direction and overflow code; the area's size and offset; where the box begins and its size; the rectangle's far edge
abbrev along : Direction → Overflow → ℕ → ℕ → ℕ → ℕ → ℕ → Axis
along direction overflow area offset at size far =
    axis_of
    (record { direction = direction; overflow = overflow; area = float area; offset = float offset; at = float at; size = float size; far = float far })

abbrev pub StartRows : Type 0
StartRows =
    -- right-to-left, an area of 8e, a box from 6e to 8e: it starts at the right edge
    ((along Rtl Scroll (e 8) 0 (e 6) (e 2) (e 8)).start ≡ pos 0)
    -- left-to-right it is 6e from the left edge
    × ((along Ltr Scroll (e 8) 0 (e 6) (e 2) (e 8)).start ≡ pos 6)
    -- both relative to the area: it stands at 3e, the box from 9e to 11e
    × ((along Rtl Scroll (e 8) (e 3) (e 9) (e 2) (e 8)).start ≡ pos 0)
    × ((along Ltr Scroll (e 8) (e 3) (e 9) (e 2) (e 8)).start ≡ pos 6)
    -- beyond the right edge is before the start
    × ((along Rtl Scroll (e 8) 0 (e 9) (e 2) (e 8)).start ≡ neg_ℤ (pos 3))

abbrev pub LastRows : Type 0
LastRows =
    -- an area of 8e and a far edge at 20e: hidden and scroll scroll, visible and clip don't
    (last_offset Visible (float (e 20)) (float (e 8)) ≡ 0)
    × (last_offset Clip (float (e 20)) (float (e 8)) ≡ 0)
    × (last_offset Hidden (float (e 20)) (float (e 8)) ≡ 12)
    × (last_offset Scroll (float (e 20)) (float (e 8)) ≡ 12)
    -- a far edge at 4e: 0 alone
    × (last_offset Scroll (float (e 4)) (float (e 8)) ≡ 0)

-- the least offset of such an axis; left-to-right, the area at 0
abbrev Least : Overflow → ℕ → ℕ → ℕ → ℕ → Option ℕ → Type 0
Least overflow area at size far r = least (along Ltr overflow area 0 at size far) ≡ r

abbrev pub LeastRows : Type 0
LeastRows =
    -- in an area of 8e: a box from 8e to 10e is beside it, one from 7e to 9e is seen
    Least Visible (e 8) (e 8) (e 2) (e 10) None
    × Least Visible (e 8) (e 7) (e 2) (e 10) (Some 0)
    -- so at the start edge: -2e to 0, and -1e to 1e
    × Least Visible (e 8) (minus 2) (e 2) (e 10) None
    × Least Visible (e 8) (minus 1) (e 2) (e 10) (Some 0)
    -- a size of 0 or below: of the box, of the area
    × Least Scroll (e 8) (e 4) 0 (e 24) None
    × Least Scroll (e 8) (e 4) (minus 2) (e 24) None
    × Least Scroll 0 (e 4) (e 2) (e 24) None
    × Least Scroll (minus 8) (e 4) (e 2) (e 24) None
    -- a box from 20e to 24e: at 12 it touches the area's far end, at 16 the whole box is in view
    × Least Scroll (e 8) (e 20) (e 4) (e 24) (Some 13)
    × Least Hidden (e 8) (e 20) (e 4) (e 24) (Some 13)
    × Least Clip (e 8) (e 20) (e 4) (e 24) None
    × Least Visible (e 8) (e 20) (e 4) (e 24) None
    -- a far edge at 21e is enough, one at 20e isn't: there 12 is the last offset
    × Least Scroll (e 8) (e 20) (e 4) (e 21) (Some 13)
    × Least Scroll (e 8) (e 20) (e 4) (e 20) None
    -- a far edge before the area's end: 0 alone
    × Least Scroll (e 8) (e 8) (e 2) (e 4) None
    -- what begins before the start edge and ends after the area is seen as it is; what ends before the start edge never is
    × Least Scroll (e 8) (minus 4) (e 20) (e 24) (Some 0)
    × Least Scroll (e 8) (minus 12) (e 4) (e 24) None

-- ---- a box

abbrev seen : ℕ → ℕ → Result (Option Offsets) Refusal
seen x y = Ok (Some (record { across = x; down = y }))

-- direction, overflow codes across and down; width and height of the area, its offset x and y
abbrev container : Direction → Overflow → Overflow → ℕ → ℕ → ℕ → ℕ → ContainingBlock
container direction overflowx overflowy width height x y =
    record {
      area = record { size = record { width = float width; height = float height }; offset = record { x = float x; y = float y } };
      direction = direction;
      overflow = record { x = overflowx; y = overflowy };
    }

abbrev rect : ℕ → ℕ → ℕ → ℕ → Rect Float
rect left right top bottom = record { left = float left; right = float right; top = float top; bottom = float bottom }

-- x, y, width and height; every other float is `other`
abbrev box_with : ℕ → ℕ → ℕ → ℕ → ℕ → Layout
box_with x y width height other =
    record {
      order = 0;
      size = record { width = float width; height = float height };
      overflow = rect other other other other;
      scrollbar = record { width = float other; height = float other };
      location = record { x = float x; y = float y };
      padding = rect other other other other;
      border = rect other other other other;
      margin = rect other other other other;
    }

abbrev box : ℕ → ℕ → ℕ → ℕ → Layout
box x y width height = box_with x y width height 0

abbrev pub BoxRows : Type 0
BoxRows =
    -- right-to-left, an area of 8e by 8e that scrolls across, a box from -12e to -8e, the rectangle 0 to 20e: its far edge is its right
    (box_reached (container Rtl Scroll Visible (e 8) (e 8) 0 0) (rect 0 (e 20) 0 (e 8)) (box (minus 12) 0 (e 4) (e 8)) ≡ seen 9 0)
    -- its left doesn't count
    × (box_reached (container Rtl Scroll Visible (e 8) (e 8) 0 0) (rect (minus 20) 0 0 (e 8)) (box (minus 12) 0 (e 4) (e 8)) ≡ Ok None)
    -- the mirror image, left-to-right: the same offset
    × (box_reached (container Ltr Scroll Visible (e 8) (e 8) 0 0) (rect 0 (e 20) 0 (e 8)) (box (e 16) 0 (e 4) (e 8)) ≡ seen 9 0)
    -- not so where the container isn't turned with it
    × (box_reached (container Ltr Scroll Visible (e 8) (e 8) 0 0) (rect 0 (e 20) 0 (e 8)) (box (minus 12) 0 (e 4) (e 8)) ≡ Ok None)
    -- both axes: an area of 8e by 16e at 3e, 5e; the box from 20e to 24e across, 30e to 40e down
    × (box_reached (container Ltr Hidden Scroll (e 8) (e 16) (e 3) (e 5)) (rect 0 (e 24) 0 (e 40)) (box (e 23) (e 35) (e 4) (e 10)) ≡ seen 13 15)
    -- from the top in a right-to-left container too; the box is from 7e to 3e left of the area
    × (box_reached (container Rtl Hidden Scroll (e 8) (e 16) (e 3) (e 5)) (rect 0 (e 24) 0 (e 40)) (box (minus 4) (e 35) (e 4) (e 10)) ≡ seen 4 15)
    -- an offset on one axis alone is none: what can't be seen across, and what can't be seen down
    × (box_reached (container Ltr Clip Scroll (e 8) (e 16) (e 3) (e 5)) (rect 0 (e 24) 0 (e 40)) (box (e 23) (e 35) (e 4) (e 10)) ≡ Ok None)
    × (box_reached (container Ltr Hidden Visible (e 8) (e 16) (e 3) (e 5)) (rect 0 (e 24) 0 (e 40)) (box (e 23) (e 35) (e 4) (e 10)) ≡ Ok None)

-- an area of 8e by 16e at 3e, 5e; the rectangle from -60e to 24e across, -60e to 40e down
abbrev Edge : Direction → Overflow → Overflow → ℕ → ℕ → ℕ → ℕ → Result (Option Offsets) Refusal → Type 0
Edge direction overflowx overflowy x y width height answer =
    box_reached (container direction overflowx overflowy (e 8) (e 16) (e 3) (e 5)) (rect (minus 60) (e 24) (minus 60) (e 40)) (box x y width height) ≡ answer

abbrev pub EdgeRows : Type 0
EdgeRows =
    -- scrolling down ends too, at 40e less 16e: the near edge, at -60e, isn't counted, nor the area's 5e
    Edge Ltr Visible Scroll (e 3) (e 44) (e 4) (e 2) (seen 0 24)
    × Edge Ltr Visible Scroll (e 3) (e 45) (e 4) (e 2) (Ok None)
    -- and across at 24e less 8e, without the area's 3e
    × Edge Ltr Hidden Visible (e 26) (e 5) (e 4) (e 2) (seen 16 0)
    × Edge Ltr Hidden Visible (e 27) (e 5) (e 4) (e 2) (Ok None)
    -- and right-to-left, where the left edge isn't the far one
    × Edge Rtl Hidden Visible (minus 16) (e 5) (e 4) (e 2) (seen 16 0)
    × Edge Rtl Hidden Visible (minus 17) (e 5) (e 4) (e 2) (Ok None)
    -- its height, not its width, says where a box ends down: one that ends at the top edge, one an eighth below it
    × Edge Ltr Scroll Scroll (e 3) (e 1) (e 10) (e 4) (Ok None)
    × Edge Ltr Scroll Scroll (e 3) (e 1) (e 2) (e 5) (seen 0 0)
    -- and its width where it ends across
    × Edge Ltr Scroll Scroll (minus 1) (e 5) (e 4) (e 10) (Ok None)
    × Edge Ltr Scroll Scroll (minus 1) (e 5) (e 5) (e 2) (seen 0 0)

-- 9, and what isn't tested. The area is 8e by 8e, the box from 2e to 6e on both axes
abbrev Tested : Overflow → Rect Float → Layout → Result (Option Offsets) Refusal → Type 0
Tested overflow r b answer = box_reached (container Ltr overflow overflow (e 8) (e 8) 0 0) r b ≡ answer

abbrev pub TestedRows : Type 0
TestedRows =
    Tested Scroll (rect 0 (e 8) 0 (e 8)) (box (e 2) (e 2) (e 4) (e 4)) (seen 0 0)
    -- each number of the rectangle; on an axis that doesn't scroll too
    × Tested Scroll (rect tenth (e 8) 0 (e 8)) (box (e 2) (e 2) (e 4) (e 4)) (Err NotInEighths)
    × Tested Visible (rect tenth (e 8) 0 (e 8)) (box (e 2) (e 2) (e 4) (e 4)) (Err NotInEighths)
    × Tested Visible (rect 0 nan 0 (e 8)) (box (e 2) (e 2) (e 4) (e 4)) (Err NotInEighths)
    × Tested Visible (rect 0 (e 8) half (e 8)) (box (e 2) (e 2) (e 4) (e 4)) (Err NotInEighths)
    × Tested Visible (rect 0 (e 8) 0 1) (box (e 2) (e 2) (e 4) (e 4)) (Err NotInEighths)
    -- of the box x, y, width and height, also where it can't be seen; nothing else
    × Tested Scroll (rect 0 (e 8) 0 (e 8)) (box half (e 2) (e 4) (e 4)) (Err NotInEighths)
    × Tested Scroll (rect 0 (e 8) 0 (e 8)) (box (e 2) nan (e 4) (e 4)) (Err NotInEighths)
    × Tested Scroll (rect 0 (e 8) 0 (e 8)) (box (minus 9) (e 2) (e 4) half) (Err NotInEighths)
    × Tested Scroll (rect 0 (e 8) 0 (e 8)) (box (e 2) (minus 9) half (e 4)) (Err NotInEighths)
    × Tested Scroll (rect 0 (e 8) 0 (e 8)) (box_with (e 2) (e 2) (e 4) (e 4) nan) (seen 0 0)
    -- each number of the area
    × (box_reached (container Ltr Scroll Scroll half (e 8) 0 0) (rect 0 (e 8) 0 (e 8)) (box (e 2) (e 2) (e 4) (e 4)) ≡ Err NotInEighths)
    × (box_reached (container Ltr Scroll Scroll (e 8) half 0 0) (rect 0 (e 8) 0 (e 8)) (box (e 2) (e 2) (e 4) (e 4)) ≡ Err NotInEighths)
    × (box_reached (container Ltr Scroll Scroll (e 8) (e 8) half 0) (rect 0 (e 8) 0 (e 8)) (box (e 2) (e 2) (e 4) (e 4)) ≡ Err NotInEighths)
    × (box_reached (container Ltr Scroll Scroll (e 8) (e 8) 0 half) (rect 0 (e 8) 0 (e 8)) (box (e 2) (e 2) (e 4) (e 4)) ≡ Err NotInEighths)

-- the incident: a panel of 800 by 480 pixels that scrolls, right-to-left in its mirror image; the rectangle 184 by 40 pixels
abbrev Incident : Direction → ℕ → ℕ → ℕ → ℕ → Result (Option Offsets) Refusal → Type 0
Incident direction x y width height answer =
    box_reached (container direction Scroll Scroll (e 6400) (e 3840) 0 0) (rect 0 (e 1472) 0 (e 320)) (box x y width height) ≡ answer

abbrev pub IncidentRows : Type 0
IncidentRows =
    -- the label, 24 pixels from the start edge
    Incident Ltr (e 192) (e 128) (e 1280) (e 192) (seen 0 0)
    × Incident Rtl (e 4928) (e 128) (e 1280) (e 192) (seen 0 0)
    -- the note, which ends 8 pixels before it
    × Incident Ltr (minus 2624) (e 1600) (e 2560) (e 768) (Ok None)
    × Incident Rtl (e 6464) (e 1600) (e 2560) (e 768) (Ok None)

-- ---- a box of a run

-- node 0 is 4e by 3e, 40e from the left of its area and 2e from the top; node 1 is 6e by 10e, 20e and 5e from there. The area stands at
-- 24e, 40e
abbrev layouts : List ℕ
layouts = layout (e 64) (e 42) (e 4) (e 3) ++ layout (e 44) (e 45) (e 6) (e 10)

-- two items, hoisted as 1, 0
abbrev two : Slices
two = slices (styles 2) layouts (candidate 1 2 ++ candidate 0 2) []

-- in an area of 16e by 8e
abbrev panel : Direction → Overflow → Overflow → ContainingBlock
panel direction overflowx overflowy = container direction overflowx overflowy (e 16) (e 8) (e 24) (e 40)

-- with one of a word for each item
abbrev at_opening : Slices → Lent
at_opening l = with_tally (items l.styles) l

-- a state: its progress, its counts, its container and its rectangle; what its opening was lent
abbrev state : Option Stage → Counts → ContainingBlock → Rect Float → Lent → State
state progress c by overflow opening =
    record {
      progress = progress;
      replies = no_replies;
      counts = c;
      overflow = overflow;
      opened = record { container = by; claims = record { absolute = true; fixed = false }; extents = extents_of opening };
    }

-- scroll across and visible down; the rectangle 48e across, 60e down
abbrev with_counts : Option Stage → Counts → Slices → State
with_counts progress c l = state progress c (panel Ltr Scroll Visible) (rect 0 (e 48) 0 (e 60)) (at_opening l)

abbrev done : Slices → State
done l = with_counts None (counts 2 0 2 2) l

abbrev asked : Slices → State
asked l = with_counts (Some stage.LayOut) (counts 2 0 2 2) l

abbrev by : Direction → Overflow → Overflow → State
by direction overflowx overflowy = state None (counts 2 0 2 2) (panel direction overflowx overflowy) (rect 0 (e 48) 0 (e 60)) (at_opening two)

-- three items, hoisted as 2, 0, 1: node 1 is 6e by 10e, 4e from the left of the area and 30e from its top; node 0 as node 0 above, node 2 as
-- node 1 above
abbrev three : Slices
three = slices (styles 3) (layout (e 64) (e 42) (e 4) (e 3) ++ layout (e 28) (e 70) (e 6) (e 10) ++ layout (e 44) (e 45) (e 6) (e 10)) (candidate 2 2 ++ candidate 0 2 ++ candidate 1 2) []

abbrev three_by : Overflow → Overflow → State
three_by overflowx overflowy = state None (counts 3 0 3 3) (panel Ltr overflowx overflowy) (rect 0 (e 48) 0 (e 60)) (at_opening three)

-- one item, with the layout of node 0 above
abbrev one : Slices
one = slices (styles 1) (layout (e 64) (e 42) (e 4) (e 3)) (candidate 0 2) []

-- its finished run; at the opening the tally had n words
abbrev tallied : ℕ → State
tallied n = state None (counts 1 0 1 1) (panel Ltr Scroll Visible) (rect 0 (e 48) 0 (e 60)) (with_tally n one)

-- a rectangle with a NaN
abbrev broken : Slices → State
broken l = state None (counts 2 0 2 2) (panel Ltr Scroll Visible) (rect nan (e 48) 0 (e 60)) (at_opening l)

abbrev pub RunRows : Type 0
RunRows =
    -- place 0 is node 1, place 1 is node 0
    (reached 0 (done two) two ≡ seen 5 0)
    × (reached 1 (done two) two ≡ seen 25 0)
    -- each axis by its own code
    × (reached 0 (by Ltr Visible Scroll) two ≡ Ok None)
    × (reached 1 (by Ltr Visible Scroll) two ≡ Ok None)
    -- so down: with the codes exchanged what is seen isn't, and the others are
    × (reached 2 (three_by Visible Scroll) three ≡ seen 0 23)
    × (reached 2 (three_by Scroll Visible) three ≡ Ok None)
    × (reached 0 (three_by Visible Scroll) three ≡ Ok None)
    × (reached 0 (three_by Scroll Visible) three ≡ seen 5 0)
    × (reached 1 (three_by Visible Scroll) three ≡ Ok None)
    × (reached 1 (three_by Scroll Visible) three ≡ seen 25 0)
    -- from the right edge both end before the start
    × (reached 0 (by Rtl Scroll Visible) two ≡ Ok None)
    × (reached 1 (by Rtl Scroll Visible) two ≡ Ok None)
    -- a node that is hoisted twice has one layout
    × (let l = slices (styles 2) layouts (candidate 0 2 ++ candidate 0 2) [] in (reached 0 (done l) l ≡ seen 25 0) × (reached 1 (done l) l ≡ seen 25 0))
    -- the words of the styles aren't read, nor another box's numbers
    × (let l = slices (replicate (style_words * 2) 2) layouts (candidate 1 2 ++ candidate 0 2) [] in reached 0 (done l) l ≡ seen 5 0)
    × (let l = slices (styles 2) (layout nan nan nan nan ++ layout (e 44) (e 45) (e 6) (e 10)) (candidate 1 2 ++ candidate 0 2) [] in (reached 0 (done l) l ≡ seen 5 0) × (reached 1 (done l) l ≡ Err NotInEighths))
    -- one item, asked after request #107 has landed: answered, though no tally is lent, and whatever length it had at the opening
    × (reached 0 (tallied 1) one ≡ seen 25 0)
    × (reached 0 (tallied 7) one ≡ seen 25 0)

abbrev pub ExtentRows : Type 0
ExtentRows =
    -- a place without a box, in a finished run and before 6 in an unfinished one; a run without boxes
    (reached 2 (done two) two ≡ Err BadExtent)
    × (reached 0 (with_counts (Some stage.LayOut) (counts 0 0 0 0) two) two ≡ Err BadExtent)
    × (reached 0 (closed (at_opening two)) two ≡ Err BadExtent)
    -- places go by the filled records: the list's second isn't one
    × (reached 1 (with_counts None (counts 1 0 1 1) two) two ≡ Err BadExtent)
    -- one style word more than an item has, though the state recorded so many, before 6 too; a slice of another length than at the opening
    × (let l = slices (replicate (style_words + 1) 0) (layout (e 64) (e 42) (e 4) (e 3)) (candidate 0 2 ++ candidate 0 2) [] in (reached 0 (done l) l ≡ Err BadExtent) × (reached 0 (asked l) l ≡ Err BadExtent))
    × (reached 0 (done two) (slices (styles 2) layouts (candidate 1 2) []) ≡ Err BadExtent)

abbrev pub ProgressRows : Type 0
ProgressRows =
    -- an unfinished run, and before 4 where a record is bad too
    (reached 0 (asked two) two ≡ Err WrongReply)
    × (let l = slices (styles 2) layouts (candidate 1 2 ++ candidate 0 5) [] in reached 0 (asked l) l ≡ Err WrongReply)
    -- counts above the lists: one record, 2 filled, place 1; and no unclaimed record, 1 filled
    × (let l = slices (styles 2) layouts (candidate 1 2) [] in reached 1 (done l) l ≡ Err WrongReply)
    × (reached 0 (with_counts None (counts 2 1 2 2) two) two ≡ Err WrongReply)
    -- boxes begun and questions answered aren't looked at
    × (reached 0 (with_counts None (counts 2 0 7 99) two) two ≡ seen 5 0)
    × (reached 0 (with_counts None (counts 2 0 0 0) two) two ≡ seen 5 0)

abbrev pub CandidateRows : Type 0
CandidateRows =
    -- a code or a node of another filled record, and before 9 too
    (let l = slices (styles 2) layouts (candidate 1 2 ++ candidate 0 5) [] in (reached 0 (done l) l ≡ Err BadCandidate) × (reached 0 (broken l) l ≡ Err BadCandidate))
    × (let l = slices (styles 2) layouts (candidate 1 2 ++ candidate 2 2) [] in reached 0 (done l) l ≡ Err BadCandidate)
    -- a layer above 255 of another filled record; 255 is one
    × (let l = slices (styles 2) layouts (candidate 1 2 ++ on_layer 256 0 2) [] in reached 0 (done l) l ≡ Err BadCandidate)
    × (let l = slices (styles 2) layouts (candidate 1 2 ++ on_layer 255 0 2) [] in reached 0 (done l) l ≡ seen 5 0)
    × (reached 0 (broken two) two ≡ Err NotInEighths)
    -- not one past the filled records, nor an unclaimed one
    × (let l = slices (styles 2) layouts (candidate 1 2 ++ candidate 0 2 ++ candidate 2 5) [] in reached 0 (done l) l ≡ seen 5 0)
    × (let l = slices (styles 2) layouts (candidate 1 2 ++ candidate 0 2) (candidate 2 5) in reached 0 (with_counts None (counts 2 1 2 2) l) l ≡ seen 5 0)
