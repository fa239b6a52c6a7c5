-- Rows worked out by hand; `proofs/Rows.antt` computes each. `e 8` is the word of eight eighths of a pixel, `8e` in the comments. Assumes
-- nothing.
use Rattle.std.specs.Prelude.{ℕ, ◌*◌, ◌-◌, List, [], ◌∷◌, ◌++◌, ◌≡◌, replicate, pos, neg_ℤ, Option, Some, None}
use Rattle.std.specs.Float.Ieee.{div, of_int, to_bits}
use Rattle.std.specs.Float.{binary32}
use Rattle.refusal.specs.declared.Refusal.TheVariants.{BadExtent, BadCandidate, WrongReply, NotInEighths}
use Rattle.style.specs.declared.Direction.TheVariants.{Ltr}
use Rattle.style.specs.declared.Overflow.TheVariants.{Visible}
use Rattle.style_record.specs.Record.{style_words, items}
use Rattle.tree.specs.declared.layout.OofPositioningArea.{OofPositioningArea}
use Rattle.oof_box.specs.declared.question.Stage.{Stage}
use Rattle.oof_box.specs.declared.question.Stage.TheVariants as stage
use Rattle.run.specs.Call.{Slices, slices}
use Rattle.run.specs.Refusals.{Verdict, accepted, refused}
use Rattle.run.specs.Run.{closed}
use Rattle.run.specs.declared.Counts.{Counts}
use Rattle.run.specs.declared.State.{State}
use Rattle.finished.specs.RowWords.{e, minus, nan, half, float, styles, layout, layout_with, candidate, on_layer, counts, with_tally}
use Rattle.touch.specs.Touch.{five_words, touched}

-- ---- words

-- n sixteenths
abbrev sixteenths : ℕ → ℕ
sixteenths n = to_bits binary32 (div binary32 (of_int binary32 (pos n)) (of_int binary32 (pos 16)))

-- an infinity, and -0
abbrev infinity : ℕ
infinity = 0x7F80_0000

abbrev minus_zero : ℕ
minus_zero = 0x8000_0000

-- 9,999,999e, -9,999,999e and 10,000,000e
abbrev most : ℕ
most = 0x4998_967F

abbrev minus_most : ℕ
minus_most = 0xC998_967F

abbrev too_much : ℕ
too_much = 0x4998_9680

abbrev pub WordRows : Type 0
WordRows =
    (e 8 ≡ 0x3F80_0000)
    × (minus 5 ≡ 0xBF20_0000)
    × (most ≡ e 9999999)
    × (minus_most ≡ minus 9999999)
    × (too_much ≡ e 10000000)
    × (half ≡ sixteenths 1)
    × (minus_zero ≡ minus 0)
    -- the order of the words, and two's complement
    × (five_words 1023 (record { left = neg_ℤ (pos 1); right = neg_ℤ (pos 2); top = pos 3; bottom = pos 4 }) ≡ 1023 ∷ 0xFFFF_FFFF ∷ 0xFFFF_FFFE ∷ 3 ∷ 4 ∷ [])

-- ---- a run

-- the slices of n items; their layouts, and both lists
abbrev lends : ℕ → List ℕ → List ℕ → List ℕ → Slices
lends n layouts working unclaimed = slices (styles n) layouts working unclaimed

-- one item, 8e by 8e at -5e, 0e
abbrev one : Slices
one = lends 1 (layout (minus 5) 0 (e 8) (e 8)) (candidate 0 2) []

-- three items, hoisted as 2, 0, 1; node 0 is 32e by 80e at 8e, 24e, node 1 is 8e by 8e at 0e, -64e, node 2 is 16e by 24e at -40e, 160e
abbrev layouts : List ℕ
layouts = layout (e 8) (e 24) (e 32) (e 80) ++ layout 0 (minus 64) (e 8) (e 8) ++ layout (minus 40) (e 160) (e 16) (e 24)

abbrev three : Slices
three = lends 3 layouts (candidate 2 2 ++ candidate 0 2 ++ candidate 1 2) []

-- a refused opening's state
abbrev no_boxes : Slices → State
no_boxes l = closed (with_tally (items l.styles) l)

-- of this width and height, at this x and y
abbrev pub area : ℕ → ℕ → ℕ → ℕ → OofPositioningArea
area width height x y = record { size = record { width = float width; height = float height }; offset = record { x = float x; y = float y } }

-- a state with this progress and these counts, opened over these slices in this area
abbrev state : Option Stage → Counts → OofPositioningArea → Slices → State
state progress c area l =
    let zeros = no_boxes l in
    record {
      progress = progress;
      replies = zeros.replies;
      counts = c;
      overflow = zeros.overflow;
      opened =
          record {
            container =
                record { area = area; direction = Ltr; overflow = record { x = Visible; y = Visible } };
            claims = zeros.opened.claims;
            extents = zeros.opened.extents;
          };
    }

-- 800e by 800e at 0e, 0e
abbrev panel : OofPositioningArea
panel = area (e 800) (e 800) 0 0

abbrev done : ℕ → Slices → State
done n l = state None (counts n 0 n n) panel l

abbrev asked : ℕ → Slices → State
asked n l = state (Some stage.LayOut) (counts n 0 n n) panel l

-- the words that come in
abbrev nines : ℕ → List ℕ
nines n = replicate n 9

-- what a call leaves
abbrev Leaves : State → Slices → List ℕ → Verdict → List ℕ → Type 0
Leaves s l before verdict after = touched s l before ≡ record { verdict = verdict; words = after }

-- accepted, it leaves these words
abbrev Tells : State → Slices → ℕ → List ℕ → Type 0
Tells s l n words = Leaves s l (nines n) accepted words

-- refused, it leaves what came
abbrev Refuses : State → Slices → ℕ → Verdict → Type 0
Refuses s l n verdict = Leaves s l (nines n) verdict (nines n)

-- the words of the box of `one`, and those of `three`, whose records stand as 2, 0, 1
abbrev of_one : List ℕ
of_one = 0 ∷ 0xFFFF_FFFF ∷ 0 ∷ 0 ∷ 1 ∷ []

abbrev of_three : List ℕ
of_three = 2 ∷ 0xFFFF_FFFB ∷ 0xFFFF_FFFD ∷ 20 ∷ 23 ∷ 0 ∷ 1 ∷ 5 ∷ 3 ∷ 13 ∷ 1 ∷ 0 ∷ 1 ∷ 0xFFFF_FFF8 ∷ 0xFFFF_FFF9 ∷ []

abbrev pub RunRows : Type 0
RunRows =
    -- -5e to 3e, and 0e to 8e: left, right, top, bottom
    Tells (done 1 one) one 5 of_one
    -- in hoisted order, and each by the layout at its node's place, not at its own
    × Tells (done 3 three) three 15 of_three
    -- a node that is hoisted twice has its one layout at both its places
    × (let l = lends 3 layouts (candidate 1 2 ++ candidate 2 2 ++ candidate 1 2) [] in
    Tells (done 3 l) l 15 (1 ∷ 0 ∷ 1 ∷ 0xFFFF_FFF8 ∷ 0xFFFF_FFF9 ∷ 2 ∷ 0xFFFF_FFFB ∷ 0xFFFF_FFFD ∷ 20 ∷ 23 ∷ 1 ∷ 0 ∷ 1 ∷ 0xFFFF_FFF8 ∷ 0xFFFF_FFF9 ∷ []))
    -- relative to the area, which stands at 8e, 9,999,999e
    × Tells (state None (counts 1 0 1 1) (area (e 800) (e 800) (e 8) most) one) one 5 (0 ∷ 0xFFFF_FFFE ∷ 0xFFFF_FFFF ∷ 0xFFEC_ED30 ∷ 0xFFEC_ED31 ∷ [])
    -- no boxes: of a refused opening's state, of a run without any, and in an area at a NaN
    × Tells (no_boxes three) three 0 []
    × Tells (done 0 three) three 0 []
    × Tells (state None (counts 0 0 0 0) (area nan nan nan nan) three) three 0 []
    -- the area's size isn't read
    × Tells (state None (counts 1 0 1 1) (area nan half 0 0) one) one 5 of_one
    -- nor are the words of the styles, nor the others of a layout: no padding, border or margin reaches the driver
    × (let l = slices (replicate (style_words * 1) 2) (layout_with nan (minus 5) 0 (e 8) (e 8)) (candidate 0 2) [] in Tells (done 1 l) l 5 of_one)
    -- nor an item that isn't placed, a record past the filled ones, or an unclaimed one
    × (let l = lends 2 (layout (minus 5) 0 (e 8) (e 8) ++ layout nan nan nan nan) (candidate 0 2 ++ candidate 1 5) (on_layer 256 9 5) in
    Tells (state None (counts 1 1 1 1) panel l) l 5 of_one)
    -- -0 is 0, of the box and of the area
    × (let l = lends 1 (layout minus_zero 0 (e 8) minus_zero) (candidate 0 2) [] in
    Tells (state None (counts 1 0 1 1) (area (e 800) (e 800) minus_zero 0) l) l 5 (0 ∷ 0 ∷ 1 ∷ 0 ∷ 0 ∷ []))
    -- boxes begun and questions answered aren't looked at, nor how many words the tally had at the opening: none is lent here (request #107)
    × Tells (state None (counts 1 0 7 99) panel one) one 5 of_one
    × Tells (closed (with_tally 7 three)) three 0 []

-- left and right of a box at this x, of this width, in an area at this offset. Top and bottom are the same, of the same numbers
abbrev Edges : ℕ → ℕ → ℕ → ℕ → ℕ → Type 0
Edges x width offset left right =
    let l = lends 1 (layout x x width width) (candidate 0 2) [] in
    Tells (state None (counts 1 0 1 1) (area (e 800) (e 800) offset offset) l) l 5 (0 ∷ left ∷ right ∷ left ∷ right ∷ [])

abbrev pub EdgeRows : Type 0
EdgeRows =
    -- a half goes to the right and down, also below zero: 4e to 12e, and -12e to -4e
    Edges (e 4) (e 8) 0 1 2
    × Edges (minus 12) (e 8) 0 0xFFFF_FFFF 0
    -- no size is rounded by itself: 3e to 12e
    × Edges (e 3) (e 9) 0 0 2
    -- nor an offset: 3e less 4e is -1e
    × Edges (e 3) (e 8) (e 4) 0 1
    -- a negative size turns the edges round: 8e to -8e
    × Edges (e 8) (minus 16) 0 1 0xFFFF_FFFF
    -- the furthest edges there are, 2,500,000 and 3,750,000 pixels away on either side
    × Edges most most minus_most 2500000 3750000
    × Edges minus_most minus_most most 0xFFD9_DA60 0xFFC6_C790

abbrev pub ExtentRows : Type 0
ExtentRows =
    -- no words, one word a box, as many as a layout has, one word less or more, and one word for no box
    Refuses (done 1 one) one 0 (refused BadExtent)
    × Refuses (done 1 one) one 1 (refused BadExtent)
    × Refuses (done 1 one) one 23 (refused BadExtent)
    × Refuses (done 1 one) one 4 (refused BadExtent)
    × Refuses (done 1 one) one 6 (refused BadExtent)
    × Refuses (no_boxes one) one 1 (refused BadExtent)
    -- five words for each of the list's records, of which two are filled
    × Refuses (done 2 three) three 15 (refused BadExtent)
    -- forged counts, five times which are 2^32 + 4 and 2^64 + 4
    × Refuses (done 0x3333_3334 one) one 4 (refused BadExtent)
    × Refuses (done 0x3333_3333_3333_3334 one) one 4 (refused BadExtent)
    -- before 6, before 4, and before 9
    × Refuses (asked 1 one) one 6 (refused BadExtent)
    × (let l = lends 1 (layout nan 0 0 0) (candidate 1 2) [] in Refuses (done 1 l) l 6 (refused BadExtent))
    -- one style word less than two items have, a layout word more than one has, a list of 13 words, though the state recorded so many
    × (let l = slices (replicate (style_words * 2 - 1) 0) (layout 0 0 0 0) (candidate 0 2) [] in Refuses (done 1 l) l 5 (refused BadExtent))
    × (let l = lends 1 (layout 0 0 0 0 ++ (0 ∷ [])) (candidate 0 2) [] in Refuses (done 1 l) l 5 (refused BadExtent))
    × (let l = lends 1 (layout 0 0 0 0) (replicate 13 0) [] in Refuses (done 0 l) l 0 (refused BadExtent))
    × (let l = lends 1 (layout 0 0 0 0) [] (replicate 13 0) in Refuses (done 0 l) l 0 (refused BadExtent))
    -- another length than at the opening: of the working list, of the unclaimed one, of styles and layouts
    × Refuses (done 3 three) (lends 3 layouts (candidate 2 2 ++ candidate 0 2) []) 15 (refused BadExtent)
    × Refuses (done 3 three) (lends 3 layouts (candidate 2 2 ++ candidate 0 2 ++ candidate 1 2) (candidate 0 2)) 15 (refused BadExtent)
    × Refuses (done 1 one) (lends 2 (layout 0 0 0 0 ++ layout 0 0 0 0) (candidate 0 2) []) 5 (refused BadExtent)

abbrev pub ProgressRows : Type 0
ProgressRows =
    -- an unfinished run, one without a box too, at any stage, and before 4 and 9 where a record and a layout are bad too
    Refuses (asked 1 one) one 5 (refused WrongReply)
    × Refuses (asked 0 three) three 0 (refused WrongReply)
    × Refuses (state (Some stage.Fill) (counts 1 0 1 0) panel one) one 5 (refused WrongReply)
    × (let l = lends 1 (layout nan 0 0 0) (candidate 1 2) [] in Refuses (asked 1 l) l 5 (refused WrongReply))
    -- two records, 3 filled: with five words for each of 3 it is 6, for each of 2 it is 2
    × (let l = lends 3 layouts (candidate 2 2 ++ candidate 0 2) [] in Refuses (done 3 l) l 15 (refused WrongReply) × Refuses (done 3 l) l 10 (refused BadExtent))
    -- before 4, where a record is bad too
    × (let l = lends 3 layouts (candidate 3 2) [] in Refuses (done 2 l) l 10 (refused WrongReply))
    -- no unclaimed record, 1 filled
    × Refuses (state None (counts 3 1 3 3) panel three) three 15 (refused WrongReply)

abbrev pub CandidateRows : Type 0
CandidateRows =
    -- a node, a code or a layer of a filled record, before 9
    (let l = lends 2 (layout nan 0 0 0 ++ layout 0 0 0 0) (candidate 0 2 ++ candidate 2 2) [] in Refuses (done 2 l) l 10 (refused BadCandidate))
    × (let l = lends 1 (layout 0 0 0 0) (candidate 0 5) [] in Refuses (done 1 l) l 5 (refused BadCandidate))
    × (let l = lends 1 (layout 0 0 0 0) (on_layer 256 0 2) [] in Refuses (done 1 l) l 5 (refused BadCandidate))
    -- 255 is a layer
    × (let l = lends 1 (layout (minus 5) 0 (e 8) (e 8)) (on_layer 255 0 2) [] in Tells (done 1 l) l 5 of_one)

-- node 0 is fine, node 1 is this
abbrev Beside : List ℕ → Type 0
Beside other =
    let l = lends 2 (layout (minus 5) 0 (e 8) (e 8) ++ other) (candidate 0 2 ++ candidate 1 2) [] in Refuses (done 2 l) l 10 (refused NotInEighths)

abbrev pub EighthsRows : Type 0
EighthsRows =
    -- each of the four is tested, and one box outside the eighths refuses all: no word of the box before it is written
    Beside (layout half 0 0 0)
    × Beside (layout 0 nan 0 0)
    × Beside (layout 0 0 infinity 0)
    × Beside (layout 0 0 0 too_much)
    -- nor of the one behind it
    × (let l = lends 2 (layout (minus 5) 0 (e 8) (e 8) ++ layout nan 0 0 0) (candidate 1 2 ++ candidate 0 2) [] in Refuses (done 2 l) l 10 (refused NotInEighths))
    -- so is the area's offset, where there is a box
    × Refuses (state None (counts 1 0 1 1) (area (e 800) (e 800) nan 0) one) one 5 (refused NotInEighths)
    × Refuses (state None (counts 1 0 1 1) (area (e 800) (e 800) 0 half) one) one 5 (refused NotInEighths)
    -- a box of 801e that auto margins center in an area of 6,400e: it begins at 5,599 sixteenths
    × (let l = lends 1 (layout (sixteenths 5599) 0 (e 801) 0) (candidate 0 2) [] in
    Refuses (state None (counts 1 0 1 1) (area (e 6400) (e 800) 0 0) l) l 5 (refused NotInEighths))
