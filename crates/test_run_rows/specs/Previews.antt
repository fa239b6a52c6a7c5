-- Calls of previews that tell the readings of request #109 apart, each with what it leaves. The area is 100 by 100 at 0, left-to-right, and claims
-- absolute boxes only, unless said; n is the number of items. `proofs/Previews.antt` computes each row. Assumes nothing.
use Rattle.std.specs.Prelude.{ℕ, ◌≡◌, true, List, [], ◌∷◌, ◌++◌, get_or, replicate, set, Err}
use Rattle.refusal.specs.declared.Refusal.{Refusal}
use Rattle.refusal.specs.declared.Refusal.TheVariants.{BadArea, BadExtent, BadStyle, BadCandidate, ListFull, WrongReply}
use Rattle.records.specs.Records.{record_at}
use Rattle.style_record.specs.Record.{contain_word}
use Rattle.style_record.specs.Check.{bad_at, checked}
use Rattle.style_record.specs.Table.{with_style}
use Rattle.tree_record.specs.Layout.{layout_width}
use Rattle.run.specs.Call.{Lent, Outcome, unwritten}
use Rattle.run.specs.Run.{closed}
use Rattle.run.specs.Theorems.{Heard, next}
use Rattle.run.specs.Preview.{preview_opened, preview_replied}
use Rattle.test_run_rows.specs.Script.{opening_of, both, none, told, same_all}
use Rattle.test_run_rows.specs.Readings.{px, item, sized, box, broken, absolute, bad_absolute, over, left, opening, surfacing, twelve, pair, aside, both_items, with_tally, over_pair, box_asked, box_end, lays_out, measures_both, finishes}

-- ---- calls, each with its node and replacement

abbrev previewing_in : ℕ → List ℕ → ℕ → List ℕ → Lent → Outcome
previewing_in direction candidates node style lent =
    preview_opened (opening_of (px 100 ∷ px 100 ∷ 0 ∷ 0 ∷ direction ∷ 1 ∷ 0 ∷ 0 ∷ [])) candidates node style lent

abbrev previewing : List ℕ → ℕ → List ℕ → Lent → Outcome
previewing candidates node style lent = previewing_in 0 candidates node style lent

-- a reply after a call, over these words
abbrev hearing : Outcome → Heard → ℕ → List ℕ → Lent → Outcome
hearing o h node style lent = preview_replied o.step.state h.reply h.surfaced node style lent

-- over the words as that call left them, and the live table
abbrev going_on : Outcome → Heard → ℕ → List ℕ → List ℕ → Outcome
going_on o h node style styles = hearing o h node style (left styles o)

-- a lay-out reply that surfaces nothing
abbrev laid_out : Heard
laid_out = surfacing []

-- ---- words

-- one word less than a style
abbrev seventy_eight : List ℕ
seventy_eight = replicate 78 0

-- 257 is no tag: word 3, the tag of the second length, is the first that breaks a rule
abbrev broken_at_3 : List ℕ
broken_at_3 = set box 3 257

abbrev fifty_wide : List ℕ
fifty_wide = sized 1 (px 50) 1 (px 20)

-- ---- what is found

abbrev Refuses : Refusal → Outcome → Type 0
Refuses r o = o.step.answer ≡ Err r

abbrev LaysOut : List ℕ → Outcome → Type 0
LaysOut words o = lays_out words o ≡ true

abbrev Finishes : List ℕ → Outcome → Type 0
Finishes words o = finishes words o ≡ true

-- the words of a node's layout that say where it is: x, y
abbrev At : ℕ → List ℕ → Outcome → Type 0
At node words o = let layout = record_at layout_width o.layouts node in get_or layout 9 0 ∷ get_or layout 10 0 ∷ [] ≡ words

-- two calls leave the same answer, layouts, lists and tally
abbrev Alike : Outcome → Outcome → Type 0
Alike o o' = same_all (told [] o []) (told [] o' []) ≡ true

-- ---- an opening: 1, 2, the node, 3, 4, 5

abbrev pub PreviewOpeningOrderRows : Type 0
PreviewOpeningOrderRows =
    -- node n, with a box and without one; of no items each node; the whole word counts, 2 ^ 16 and 2 ^ 32 - 1 among them
    Refuses BadCandidate (previewing absolute 1 box (over box 1 1))
    × Refuses BadCandidate (previewing [] 1 box (over box 0 0))
    × Refuses BadCandidate (previewing [] 0 box (over [] 0 0))
    × Refuses BadCandidate (previewing absolute 65536 box (over pair 1 1))
    × Refuses BadCandidate (previewing absolute 4294967295 box (over pair 1 1))
    -- the last node below n is none of these, nor the first
    × LaysOut box_asked (previewing absolute 1 box (over pair 1 1))
    × LaysOut box_asked (previewing absolute 0 box (over pair 1 1))
    -- node n and a bad style, the table's or the replacement: "tested right after the extents"
    × Refuses BadCandidate (previewing absolute 2 box (over (broken ++ box) 1 1))
    × Refuses BadCandidate (previewing absolute 1 broken (over box 1 1))
    -- a replacement of 78 words, of 80, of two records, of none: "a bad extent"
    × Refuses BadExtent (previewing absolute 0 seventy_eight (over box 1 1))
    × Refuses BadExtent (previewing absolute 0 (box ++ (0 ∷ [])) (over box 1 1))
    × Refuses BadExtent (previewing absolute 0 pair (over pair 1 1))
    × Refuses BadExtent (previewing absolute 0 [] (over box 1 1))
    -- 2 before the node: node n and such a replacement, a tally of n + 1 words, 12 words of candidates
    × Refuses BadExtent (previewing absolute 1 seventy_eight (over box 1 1))
    × Refuses BadExtent (previewing absolute 1 box (with_tally (7 ∷ 9 ∷ []) (over box 1 1)))
    × Refuses BadExtent (previewing twelve 1 box (over box 1 1))
    -- 1 before 2, and before the node: direction 2
    × Refuses BadArea (previewing_in 2 absolute 0 seventy_eight (over box 1 1))
    × Refuses BadArea (previewing_in 2 absolute 1 box (over box 1 1))
    -- 3, 4, 5, with a good node
    × Refuses BadStyle (previewing bad_absolute 0 broken (over box 0 0))
    × Refuses BadCandidate (previewing bad_absolute 0 box (over box 0 0))
    × Refuses ListFull (previewing absolute 0 box (over box 0 0))
    -- refused for the node, it writes nothing and leaves a finished run of these lengths, as every refused opening does
    × (previewing absolute 1 box (over box 1 1) ≡ unwritten (over box 1 1) (record { state = closed (over box 1 1); answer = Err BadCandidate }))

-- ---- "all other checks are those of the copy"

abbrev pub PreviewCheckRows : Type 0
PreviewCheckRows =
    -- the live record of node 0 is broken: a good replacement for it is read in its place, one for node 1 leaves it in the copy
    LaysOut box_asked (previewing absolute 0 box (over broken 1 1))
    × Refuses BadStyle (previewing absolute 1 box (over (broken ++ box) 1 1))
    -- a broken replacement in a good table, for a node that no candidate names
    × Refuses BadStyle (previewing absolute 1 broken (over pair 1 1))
    × Refuses BadStyle (previewing [] 0 broken (over box 0 0))
    -- each of its words is looked at, the first above and the last
    × Refuses BadStyle (previewing absolute 1 (set box contain_word 256) (over pair 1 1))
    -- the first bad word, of the copy itself (a call answers 3 alone). Live item 2 is bad at word 0, the replacement for item 1 at word 3
    × (checked (with_style (box ++ box ++ broken) 1 broken_at_3) ≡ bad_at 1 3)
    -- a good one for item 1, which is bad too: item 2 is named; a bad one for item 2, with item 1 bad: item 1 is
    × (checked (with_style (box ++ broken_at_3 ++ broken) 1 box) ≡ bad_at 2 0)
    × (checked (with_style (box ++ broken_at_3 ++ box) 2 broken) ≡ bad_at 1 3)
    -- so in a reply: the live record may be broken since, the replacement may not
    × (let o = previewing absolute 0 box (over box 1 1) in Finishes (box_end 1) (going_on o laid_out 0 box broken))
    × (let o = previewing absolute 0 box (over box 1 1) in Refuses BadStyle (going_on o laid_out 0 broken box))
    × (let o = previewing absolute 0 box (over pair 1 1) in Refuses BadStyle (going_on o laid_out 0 box (box ++ broken)))

-- ---- a reply: 2, the node, 6, 3, 4, 5

-- two items, both claimed, node 0 replaced by what it is; the first is to be laid out, and no question is answered
abbrev opened_two : Outcome
opened_two = previewing both_items 0 box (over_pair (7 ∷ 9 ∷ []))

-- a lay-out reply with such a tally
abbrev over_tally : List ℕ → ℕ → List ℕ → Outcome
over_tally tally node style = hearing opened_two laid_out node style (with_tally tally (left pair opened_two))

abbrev finished : Outcome
finished = going_on (going_on opened_two laid_out 0 box pair) laid_out 0 box pair

abbrev pub PreviewReplyOrderRows : Type 0
PreviewReplyOrderRows =
    -- node n, and a tally word above the count: "right after the extents", so before 6, where a good node gets 6
    Refuses BadCandidate (over_tally (1 ∷ 0 ∷ []) 2 box)
    × Refuses WrongReply (over_tally (1 ∷ 0 ∷ []) 1 box)
    -- the same with a measure in reply to a lay-out question
    × Refuses BadCandidate (going_on opened_two (both 0 0) 2 box pair)
    × Refuses WrongReply (going_on opened_two (both 0 0) 1 box pair)
    -- and after the finish
    × Finishes (box_end 2) finished
    × Refuses BadCandidate (going_on finished laid_out 2 box pair)
    × Refuses WrongReply (going_on finished laid_out 1 box pair)
    -- 2 before the node: a tally of n + 1 words, a replacement of 78, surfaced words that are no records
    × Refuses BadExtent (over_tally (0 ∷ 0 ∷ 0 ∷ []) 2 box)
    × Refuses BadExtent (going_on opened_two laid_out 2 seventy_eight pair)
    × Refuses BadExtent (going_on opened_two (surfacing twelve) 2 box pair)
    -- a table of one item in place of the two, of which node 1 is none
    × Refuses BadExtent (going_on opened_two laid_out 1 box box)
    -- and 2 before 6: a replacement of 78 words and a tally word above the count, or a measure
    × Refuses BadExtent (over_tally (1 ∷ 0 ∷ []) 1 seventy_eight)
    × Refuses BadExtent (going_on opened_two (both 0 0) 1 seventy_eight pair)
    -- node n and a bad style, the table's or the replacement; and alone
    × Refuses BadCandidate (going_on opened_two laid_out 2 box (broken ++ box))
    × Refuses BadCandidate (going_on opened_two laid_out 2 broken pair)
    × Refuses BadCandidate (going_on opened_two laid_out 4294967295 box pair)
    -- 6, 3, 4, 5, with a good node
    × Refuses WrongReply (going_on opened_two (both 0 0) 0 broken pair)
    × Refuses BadStyle (going_on opened_two (surfacing bad_absolute) 0 broken pair)
    × Refuses BadCandidate (going_on opened_two (surfacing bad_absolute) 0 box pair)
    × Refuses ListFull (going_on opened_two (surfacing absolute) 0 box pair)
    -- refused for the node, it writes nothing and returns the state as it came
    × (going_on opened_two laid_out 2 box pair
    ≡ unwritten (left pair opened_two) (record { state = opened_two.step.state; answer = Err BadCandidate }))

-- ---- previews from the opening on

-- item 0 moved to 10, 5
abbrev moving : Outcome
moving = previewing absolute 0 aside (over box 1 1)

-- items 0 and 1, of which item 1 is replaced
abbrev moving_second : Outcome
moving_second = previewing both_items 1 aside (over_pair (7 ∷ 9 ∷ []))

abbrev second_moved : Outcome
second_moved = going_on (going_on moving_second laid_out 1 aside pair) laid_out 1 aside pair

-- a run over this table
abbrev run_of_two : List ℕ → Outcome
run_of_two styles = next styles (next styles (opening both_items (with_tally (7 ∷ 9 ∷ []) (over styles 2 0))) laid_out) laid_out

-- item 0 is asked for both sides
abbrev measuring : Outcome
measuring = previewing absolute 0 item (over box 1 1)

abbrev pub PreviewRunRows : Type 0
PreviewRunRows =
    -- its layout is the replacement's, where the same calls of a run have the live one
    At 0 (px 10 ∷ px 5 ∷ []) (going_on moving laid_out 0 aside box)
    × At 0 (0 ∷ 0 ∷ []) (next box (opening absolute (over box 1 1)) laid_out)
    -- its question too
    × LaysOut (0 ∷ px 50 ∷ px 20 ∷ px 100 ∷ px 100 ∷ []) (previewing absolute 0 fifty_wide (over box 1 1))
    × (measures_both (0 ∷ none ∷ none ∷ px 100 ∷ px 100 ∷ []) measuring ≡ true)
    -- it leaves what the run over the copy does
    × Alike (going_on moving laid_out 0 aside box) (next aside (opening absolute (over aside 1 1)) laid_out)
    -- the replacement is that node's alone: of two items only item 1 moves
    × At 0 (0 ∷ 0 ∷ []) second_moved
    × At 1 (px 10 ∷ px 5 ∷ []) second_moved
    × Alike second_moved (run_of_two (box ++ aside))
    -- another replacement at a later call: that call goes over the copy with that one, and nothing of the first is kept
    × At 0 (0 ∷ 0 ∷ []) (going_on moving laid_out 0 box box)
    × At 0 (px 10 ∷ px 5 ∷ []) (going_on (previewing absolute 0 box (over box 1 1)) laid_out 0 aside box)
    × Alike (going_on moving laid_out 0 box broken) (next box (opening absolute (over aside 1 1)) laid_out)
    -- so another node
    × At 0 (0 ∷ 0 ∷ []) (going_on (previewing absolute 0 aside (over pair 1 1)) laid_out 1 aside pair)
    -- measured, with the same replacement at the reply, and with one that has a width
    × LaysOut box_asked (going_on measuring (both (px 30) (px 20)) 0 item box)
    × LaysOut (0 ∷ px 50 ∷ px 20 ∷ px 100 ∷ px 100 ∷ []) (going_on measuring (both (px 30) (px 20)) 0 (sized 1 (px 50) 3 0) box)
