-- Inputs that tell the readings of document 01 apart, each with its answer: numbers are those of docs/DECISIONS.md. The area is 100 by 100
-- at 0, left-to-right, and claims absolute boxes only, unless said. Assumes nothing.
use Rattle.std.specs.Prelude.{ℕ, zero, suc, ◌+◌, ◌*◌, Bool, true, ◌&&◌, List, [], ◌∷◌, ◌++◌, eqb, pos, get_or, replicate, set, sum, Some}
use Rattle.std.specs.Float.Ieee.{of_int, to_bits}
use Rattle.std.specs.Float.{binary32}
use Rattle.records.specs.Records.{record_at, written}
use Rattle.style_record.specs.Record.{code_words, style_words, tag_word, ratio_word, flags_word, justify_word, items}
use Rattle.tree_record.specs.Candidate.{candidate_width, layer_word}
use Rattle.tree_record.specs.Layout.{layout_width}
use Rattle.oof_box.specs.declared.question.Stage.TheVariants.{LayOut}
use Rattle.run.specs.declared.State.{State}
use Rattle.run.specs.Call.{Lent, Outcome}
use Rattle.run.specs.Run.{opened, replied}
use Rattle.run.specs.Theorems.{Heard, next}
use Rattle.test_run_rows.specs.Script.{opening_of, both, width, height, laid, none, least, most, answer_words, same, unused}

-- ---- what is lent

-- a whole number of pixels, as a word
unfoldable pub px : ℕ → ℕ
px n = to_bits binary32 (of_int binary32 (pos n))

unfoldable pub minus : ℕ → ℕ
minus n = px n + 2147483648

abbrev pub nan : ℕ
nan = 2143289344

-- a length by its tag and value; its second value is 0
unfoldable pub length_of : ℕ → ℕ → List ℕ
length_of tag value = tag ∷ value ∷ 0 ∷ []

-- so many lengths of one tag
unfoldable pub lengths : ℕ → ℕ → List ℕ
lengths zero tag = []
lengths (suc n) tag = length_of tag 0 ++ lengths n tag

-- an item: insets, size, min and max auto; margins, padding and borders 0 pixels; all other words 0
unfoldable pub item : List ℕ
item = lengths 4 3 ++ lengths 12 1 ++ lengths 6 3 ++ replicate code_words 0

-- tag and value of its width and of its height
unfoldable pub sized : ℕ → ℕ → ℕ → ℕ → List ℕ
sized widthTag w heightTag h = written item (tag_word 16) (length_of widthTag w ++ length_of heightTag h)

-- 30 by 20 pixels: it is laid out without a measure
unfoldable pub box : List ℕ
box = sized 1 (px 30) 1 (px 20)

-- 257 is no tag
unfoldable pub broken : List ℕ
broken = set item (tag_word 0) 257

-- node, order, position; static areas from 0 to 0, start edges; layer 1
unfoldable pub candidate : ℕ → ℕ → ℕ → List ℕ
candidate node order position = node ∷ order ∷ position ∷ (replicate 10 0 ++ (1 ∷ []))

unfoldable pub on_layer : ℕ → List ℕ → List ℕ
on_layer layer c = set c layer_word layer

unfoldable pub absolute : List ℕ
absolute = candidate 0 0 2

unfoldable pub fixed : List ℕ
fixed = candidate 0 0 3

-- an edge of 3
unfoldable pub bad_absolute : List ℕ
bad_absolute = set absolute 5 3

unfoldable pub bad_fixed : List ℕ
bad_fixed = set fixed 12 3

-- a table of styles, lists of so many records, and a tally of one word an item; all words unused
unfoldable pub over : List ℕ → ℕ → ℕ → Lent
over styles working unclaimed =
    record {
      styles = styles;
      layouts = replicate (layout_width * items styles) unused;
      working = replicate (candidate_width * working) unused;
      unclaimed = replicate (candidate_width * unclaimed) unused;
      tally = replicate (items styles) unused;
    }

-- what a call left, with a table of styles
unfoldable pub left : List ℕ → Outcome → Lent
left styles o = record { styles = styles; layouts = o.layouts; working = o.working; unclaimed = o.unclaimed; tally = o.tally }

-- ---- calls

-- width, direction, claims, overflow x
unfoldable pub opening_in : ℕ → ℕ → ℕ → ℕ → List ℕ → Lent → Outcome
opening_in w direction claims overflow candidates lent =
    opened (opening_of (w ∷ px 100 ∷ 0 ∷ 0 ∷ direction ∷ claims ∷ overflow ∷ 0 ∷ [])) candidates lent

unfoldable pub opening : List ℕ → Lent → Outcome
opening candidates lent = opening_in (px 100) 0 1 0 candidates lent

unfoldable pub reply : State → Lent → Heard → Outcome
reply s lent h = replied s h.reply h.surfaced lent

-- a lay-out reply without overflow, and what is surfaced with it
unfoldable pub surfacing : List ℕ → Heard
surfacing candidates = laid 0 0 0 0 candidates

-- words lent with a reply of any kind
unfoldable pub lending : List ℕ → Heard → Heard
lending words h = record { reply = h.reply; surfaced = words }

-- ---- forged states

unfoldable pub with_extents : State → ℕ → State
with_extents s styles =
    let e = s.opened.extents in
    record {
      progress = s.progress;
      replies = s.replies;
      counts = s.counts;
      overflow = s.overflow;
      opened =
          record {
            container = s.opened.container;
            claims = s.opened.claims;
            extents = record { styles = styles; layouts = e.layouts; working = e.working; unclaimed = e.unclaimed; tally = e.tally };
          };
    }

-- filled working and unclaimed records, boxes begun, questions answered
unfoldable pub with_counts : State → ℕ → ℕ → ℕ → ℕ → State
with_counts s working unclaimed begun answered =
    record {
      progress = s.progress;
      replies = s.replies;
      counts = record { filled = record { working = working; unclaimed = unclaimed }; begun = begun; answered = answered };
      overflow = s.overflow;
      opened = s.opened;
    }

unfoldable pub at_lay_out : State → State
at_lay_out s = record { progress = Some LayOut; replies = s.replies; counts = s.counts; overflow = s.overflow; opened = s.opened }

-- ---- what is found

unfoldable pub refuses : ℕ → Outcome → Bool
refuses number o = same (answer_words o.step.answer) (5 ∷ number ∷ [])

-- node, known sizes, spaces
unfoldable pub measures_both : List ℕ → Outcome → Bool
measures_both words o = same (answer_words o.step.answer) (0 ∷ words)

unfoldable pub measures_width : List ℕ → Outcome → Bool
measures_width words o = same (answer_words o.step.answer) (1 ∷ words)

unfoldable pub measures_height : List ℕ → Outcome → Bool
measures_height words o = same (answer_words o.step.answer) (2 ∷ words)

-- node, size, spaces
unfoldable pub lays_out : List ℕ → Outcome → Bool
lays_out words o = same (answer_words o.step.answer) (3 ∷ words)

-- overflow left, right, top, bottom, and the count
unfoldable pub finishes : List ℕ → Outcome → Bool
finishes words o = same (answer_words o.step.answer) (4 ∷ words)

unfoldable pub unwritten : Lent → Outcome → Bool
unwritten lent o =
    same o.layouts lent.layouts && same o.working lent.working && same o.unclaimed lent.unclaimed && same o.tally lent.tally

unfoldable pub counts : List ℕ → Outcome → Bool
counts words o =
    let c = o.step.state.counts in
    same (c.filled.working ∷ c.filled.unclaimed ∷ c.begun ∷ c.answered ∷ []) words

-- the layout of a node: its order, width, height
unfoldable pub laid_at : ℕ → List ℕ → Outcome → Bool
laid_at node words o =
    let layout = record_at layout_width o.layouts node in
    same (get_or layout 0 0 ∷ get_or layout 1 0 ∷ get_or layout 2 0 ∷ []) words

unfoldable pub never_laid : ℕ → Outcome → Bool
never_laid node o = same (record_at layout_width o.layouts node) (replicate layout_width unused)

-- what is asked of `box`, and how a run of it ends
unfoldable pub box_asked : List ℕ
box_asked = 0 ∷ px 30 ∷ px 20 ∷ px 100 ∷ px 100 ∷ []

unfoldable pub box_end : ℕ → List ℕ
box_end count = 0 ∷ px 30 ∷ 0 ∷ px 20 ∷ count ∷ []

unfoldable pub all : List Bool → Bool
all [] = true
all (b ∷ bs) = b && all bs

-- ---- 1, 2, 3: a refused opening; lengths

unfoldable pub refused_opening : Outcome
refused_opening = opening absolute (over broken 1 1)

-- 57 style words and so many words for layouts
unfoldable pub lending57 : ℕ → Lent
lending57 words =
    record {
      styles = replicate 57 1;
      layouts = replicate words unused;
      working = replicate candidate_width unused;
      unclaimed = [];
      tally = [];
    }

-- one word more than an item has
unfoldable pub one_more : Lent
one_more = over (box ++ (0 ∷ [])) 1 1

unfoldable pub opened_box : Outcome
opened_box = opening absolute (over box 1 1)

unfoldable pub finished : Outcome
finished = next box opened_box (surfacing [])

unfoldable pub lengths_kept : List Bool
lengths_kept =
    -- refused, it is finished with all counts 0, and writes nothing; a reply with the same slices
    refuses 3 refused_opening
    ∷ counts (0 ∷ 0 ∷ 0 ∷ 0 ∷ []) refused_opening
    ∷ unwritten (over broken 1 1) refused_opening
    ∷ refuses 6 (next broken refused_opening (surfacing []))
    -- 57 words, as a style had before request #105, are no table, and one item's layout doesn't make them one
    ∷ refuses 2 (opening absolute (lending57 0))
    ∷ refuses 2 (opening absolute (lending57 layout_width))
    -- one style word more, then one item
    ∷ refuses 2 (opening absolute one_more)
    ∷ refuses 2 (reply (opening absolute one_more).step.state (over box 1 1) (surfacing []))
    -- a forged state that records as many as are lent
    ∷ refuses 2 (reply (with_extents opened_box.step.state (style_words + 1)) one_more (surfacing []))
    -- an accepted run: a reply with another list; its finish; a reply after that
    ∷ refuses 2 (reply opened_box.step.state (over box 2 1) (surfacing []))
    ∷ finishes (box_end 1) finished
    ∷ refuses 6 (next box finished (surfacing []))
    ∷ []

-- ---- 4: the surfaced slice goes by the reply's kind

unfoldable pub twelve : List ℕ
twelve = replicate 12 0

unfoldable pub measuring : Outcome
measuring = opening absolute (over item 1 1)

unfoldable pub measured : Outcome
measured = next item measuring (both (px 30) (px 20))

unfoldable pub surfaced_by_kind : List Bool
surfaced_by_kind =
    -- two openings, one that asks to measure and one that asks to lay out
    measures_both (0 ∷ none ∷ none ∷ px 100 ∷ px 100 ∷ []) measuring
    ∷ lays_out box_asked opened_box
    -- lay out, 12 words, to a measure question; a measure, 12 words, to a lay-out question; lay out, 12 words, after the finish
    ∷ refuses 2 (next item measuring (surfacing twelve))
    ∷ refuses 6 (next box opened_box (lending twelve (both 0 0)))
    ∷ refuses 2 (next box finished (surfacing twelve))
    -- a measure, 12 words, to its question
    ∷ lays_out box_asked (next item measuring (lending twelve (both (px 30) (px 20))))
    ∷ []

-- ---- 5: limits. What is within them is refused for its first record

unfoldable pub limits : List Bool
limits =
    -- 1,024 items, 1,025; lists of 4,096 records, 4,097
    refuses 3 (opening absolute (over (replicate (style_words * 1024) 0) 1 1))
    ∷ refuses 2 (opening absolute (over (replicate (style_words * 1025) 0) 1 1))
    ∷ refuses 3 (opening absolute (over broken 4096 4096))
    ∷ refuses 2 (opening absolute (over broken 4097 1))
    ∷ refuses 2 (opening absolute (over broken 1 4097))
    -- candidates and surfaced candidates have no limit
    ∷ refuses 4 (opening (bad_absolute ++ replicate (candidate_width * 4096) 0) (over box 1 1))
    ∷ refuses 4 (next box opened_box (surfacing (bad_absolute ++ replicate (candidate_width * 4096) 0)))
    ∷ []

-- ---- 6, 7: no candidates; any area

unfoldable pub unclaimed_only : Outcome
unclaimed_only = opening fixed (over box 0 1)

unfoldable pub without_boxes : List Bool
without_boxes =
    -- no candidates; with a bad style; one candidate, no item
    finishes (replicate 5 0) (opening [] (over box 0 0))
    ∷ refuses 3 (opening [] (over broken 0 0))
    ∷ refuses 4 (opening absolute (over [] 1 1))
    -- all candidates unclaimed
    ∷ finishes (replicate 5 0) unclaimed_only
    ∷ same unclaimed_only.unclaimed fixed
    ∷ counts (0 ∷ 1 ∷ 0 ∷ 0 ∷ []) unclaimed_only
    -- a NaN width, of which 50 percent are a size: clamped, it is 0, as is the space
    ∷ lays_out (0 ∷ 0 ∷ px 20 ∷ 0 ∷ px 100 ∷ []) (opening_in nan 0 1 0 absolute (over (sized 5 1056964608 1 (px 20)) 1 0))
    ∷ []

-- ---- [3], of lengths and styles

unfoldable pub styles : List Bool
styles =
    -- 257 as a tag is `broken`; keyword 10 with safety 7, and keyword 9
    lays_out box_asked (opening absolute (over (written box justify_word (10 ∷ 7 ∷ [])) 1 1))
    ∷ refuses 3 (opening absolute (over (written box justify_word (9 ∷ 7 ∷ [])) 1 1))
    -- flags 3, then 4; the ratio's word where it is absent
    ∷ lays_out box_asked (opening absolute (over (set box flags_word 3) 1 1))
    ∷ refuses 3 (opening absolute (over (set box flags_word 4) 1 1))
    ∷ lays_out box_asked (opening absolute (over (set box ratio_word nan) 1 1))
    -- an item that nobody names
    ∷ refuses 3 (opening absolute (over (box ++ broken) 1 1))
    -- request #105: a sum, 129: half the area less 12 wide; a padding of as much, which is the least width; 385 and the Rust's own 4 (style/compact_length.rs) are none
    ∷ lays_out (0 ∷ px 38 ∷ px 20 ∷ px 100 ∷ px 100 ∷ []) (opening absolute (over (written box (tag_word 16) (129 ∷ 1056964608 ∷ minus 12 ∷ [])) 1 1))
    ∷ lays_out (0 ∷ px 38 ∷ px 20 ∷ px 100 ∷ px 100 ∷ []) (opening absolute (over (written box (tag_word 8) (129 ∷ 1056964608 ∷ minus 12 ∷ [])) 1 1))
    ∷ refuses 3 (opening absolute (over (set box (tag_word 8) 385) 1 1))
    ∷ refuses 3 (opening absolute (over (set box (tag_word 8) 4) 1 1))
    -- the second value of any other tag may be any word
    ∷ lays_out box_asked (opening absolute (over (set (set box (tag_word 8 + 2) nan) (tag_word 16 + 2) (px 7)) 1 1))
    ∷ []

-- ---- 8: [4]

unfoldable pub opened_two : Outcome
opened_two = opening (absolute ++ fixed ++ candidate 0 1 2) (over box 3 1)

unfoldable pub after_one : Outcome
after_one = next box opened_two (surfacing [])

-- word k of its working list rewritten, the next reply
unfoldable pub rewriting : ℕ → ℕ → Outcome
rewriting k word =
    reply after_one.step.state
    (record {
      styles = box;
      layouts = after_one.layouts;
      working = set after_one.working k word;
      unclaimed = after_one.unclaimed;
      tally = after_one.tally;
    })
    (surfacing [])

-- all words of its unclaimed list rewritten
unfoldable pub rewriting_unclaimed : Outcome
rewriting_unclaimed =
    reply after_one.step.state
    (record {
      styles = box;
      layouts = after_one.layouts;
      working = after_one.working;
      unclaimed = replicate candidate_width 99;
      tally = after_one.tally;
    })
    (surfacing [])

unfoldable pub candidates : List Bool
candidates =
    refuses 4 (opening bad_absolute (over box 1 1))
    ∷ refuses 4 (opening bad_fixed (over box 1 1))
    ∷ refuses 4 (next box opened_two (surfacing bad_fixed))
    -- an edge in the record of a box laid out before; of the box at hand; of a record that isn't filled
    ∷ refuses 4 (rewriting 5 3)
    ∷ refuses 4 (rewriting (candidate_width + 5) 3)
    ∷ finishes (box_end 2) (rewriting (candidate_width * 2 + 5) 3)
    ∷ finishes (box_end 2) rewriting_unclaimed
    -- a position that isn't claimed
    ∷ finishes (box_end 2) (rewriting (candidate_width + 2) 0)
    ∷ laid_at 0 (1 ∷ px 30 ∷ px 20 ∷ []) (rewriting (candidate_width + 2) 0)
    ∷ []

-- ---- 9: [5]

unfoldable pub opened_in_two : Outcome
opened_in_two = opening absolute (over box 2 1)

unfoldable pub full_by_one : Outcome
full_by_one = next box opened_in_two (surfacing (absolute ++ absolute))

unfoldable pub full : List Bool
full =
    -- at the opening
    refuses 5 (opening (absolute ++ absolute) (over box 1 0))
    ∷ refuses 5 (opening (absolute ++ fixed) (over box 1 0))
    ∷ unwritten (over box 1 0) (opening (absolute ++ fixed) (over box 1 0))
    -- in a reply: no word written, and the state as it came; then fewer records
    ∷ refuses 5 full_by_one
    ∷ unwritten (left box opened_in_two) full_by_one
    ∷ lays_out box_asked (next box full_by_one (surfacing (absolute ++ fixed)))
    ∷ refuses 5 (next box opened_in_two (surfacing (fixed ++ fixed)))
    ∷ []

-- ---- 10, 11: counts

unfoldable pub counted : ℕ → ℕ → ℕ → ℕ → Outcome
counted working unclaimed begun answered =
    reply (with_counts opened_box.step.state working unclaimed begun answered) (left box opened_box) (surfacing [])

unfoldable pub forged : List Bool
forged =
    -- begun 1, answered 3, then 4
    finishes (box_end 4) (counted 1 0 1 3)
    ∷ refuses 6 (counted 1 0 1 4)
    -- none begun; more begun than filled; more filled than the lists hold
    ∷ refuses 6 (counted 1 0 0 0)
    ∷ refuses 6 (counted 1 0 2 0)
    ∷ refuses 6 (counted 2 0 1 0)
    ∷ refuses 6 (counted 1 2 1 0)
    -- a measure and a lay out are two
    ∷ finishes (box_end 2) (next item measured (surfacing []))
    ∷ []

-- ---- 12, 13: what the state keeps; words rewritten between calls

-- two items, and the node of the box at hand rewritten from 0 to 1
unfoldable pub pair : List ℕ
pair = box ++ box

unfoldable pub opened_pair : Outcome
opened_pair = opening absolute (over pair 1 0)

unfoldable pub redirected : Outcome
redirected =
    reply opened_pair.step.state
    (record {
      styles = pair;
      layouts = opened_pair.layouts;
      working = set opened_pair.working 0 1;
      unclaimed = opened_pair.unclaimed;
      tally = opened_pair.tally;
    })
    (surfacing [])

unfoldable pub kept : List Bool
kept =
    -- sides that are absent when the box is laid out
    laid_at 0 (0 ∷ 0 ∷ 0 ∷ []) (reply (at_lay_out measuring.step.state) (left item measuring) (surfacing []))
    -- both sides were measured, then a width is given
    ∷ laid_at 0 (0 ∷ px 30 ∷ px 20 ∷ []) (next item measured (surfacing []))
    ∷ laid_at 0 (0 ∷ px 50 ∷ px 20 ∷ []) (next (sized 1 (px 50) 3 0) measured (surfacing []))
    -- the layout goes to the new node
    ∷ never_laid 0 redirected
    ∷ laid_at 1 (0 ∷ px 30 ∷ px 20 ∷ []) redirected
    ∷ []

-- ---- 16: at most one measure of one side

unfoldable pub first : List ℕ → Outcome
first style = opening absolute (over style 1 0)

-- tags: 1 pixels, 3 auto, 11 min-content, 27 max-content, 75 stretch
unfoldable pub least_by_stretch : List ℕ
least_by_stretch = sized 11 0 75 0

unfoldable pub least_by_most : List ℕ
least_by_most = sized 11 0 27 0

unfoldable pub least_by_auto : List ℕ
least_by_auto = sized 11 0 3 0

-- at most 20 wide
unfoldable pub narrow : List ℕ → List ℕ
narrow style = written style (tag_word 20) (length_of 1 (px 20))

unfoldable pub hundred_by_least : List ℕ
hundred_by_least = narrow (sized 1 (px 100) 11 0)

unfoldable pub stretch_by_least : List ℕ
stretch_by_least = narrow (sized 75 0 11 0)

unfoldable pub measures : List Bool
measures =
    measures_width (0 ∷ none ∷ none ∷ least ∷ px 100 ∷ []) (first least_by_stretch)
    ∷ measures_height (0 ∷ px 20 ∷ none ∷ px 20 ∷ least ∷ []) (first hundred_by_least)
    -- before any clamp; then laid out with 20
    ∷ measures_height (0 ∷ px 100 ∷ none ∷ px 100 ∷ least ∷ []) (first stretch_by_least)
    ∷ lays_out (0 ∷ px 20 ∷ px 10 ∷ px 20 ∷ px 100 ∷ []) (next stretch_by_least (first stretch_by_least) (height (px 10)))
    -- two measured sides are one question; a reply of another kind
    ∷ measures_both (0 ∷ none ∷ none ∷ least ∷ most ∷ []) (first least_by_most)
    ∷ refuses 6 (next least_by_most (first least_by_most) (width (px 30)))
    ∷ lays_out box_asked (next least_by_most (first least_by_most) (both (px 30) (px 20)))
    -- three questions of one box, the most that there are: the second fills the absent side only
    ∷ measures_width (0 ∷ none ∷ none ∷ least ∷ px 100 ∷ []) (first least_by_auto)
    ∷ measures_both (0 ∷ px 30 ∷ none ∷ px 100 ∷ px 100 ∷ []) (next least_by_auto (first least_by_auto) (width (px 30)))
    ∷ lays_out box_asked (next least_by_auto (next least_by_auto (first least_by_auto) (width (px 30))) (both (px 99) (px 20)))
    ∷ []

-- ---- 24: a node claimed twice has its last layout; no other node is written

unfoldable pub claimed_twice : Outcome
claimed_twice = opening (candidate 1 4 2 ++ candidate 1 5 2) (over pair 2 0)

unfoldable pub layouts : List Bool
layouts =
    laid_at 1 (4 ∷ px 30 ∷ px 20 ∷ []) (next pair claimed_twice (surfacing []))
    ∷ laid_at 1 (5 ∷ px 30 ∷ px 20 ∷ []) (next pair (next pair claimed_twice (surfacing [])) (surfacing []))
    ∷ never_laid 0 (next pair (next pair claimed_twice (surfacing [])) (surfacing []))
    ∷ []

-- ---- rows 12 and 13 of document 01

-- a box without size in x, and the right edge of its overflow
unfoldable pub flat_box : ℕ → Outcome
flat_box right = let s = sized 1 0 1 (px 10) in next s (opening absolute (over s 1 0)) (laid 0 right 0 0 [])

-- a box 40 wide in a scrolling parent, so far left of its start
unfoldable pub outside : ℕ → Outcome
outside n =
    let s = written (sized 1 (px 40) 1 (px 20)) (tag_word 0) (length_of 1 (minus n)) in
    next s (opening_in (px 100) 0 1 3 absolute (over s 1 0)) (surfacing [])

unfoldable pub overflows : List Bool
overflows =
    finishes (0 ∷ 0 ∷ 0 ∷ 0 ∷ 1 ∷ []) (flat_box 0)
    ∷ finishes (0 ∷ px 5 ∷ 0 ∷ px 10 ∷ 1 ∷ []) (flat_box (px 5))
    ∷ finishes (0 ∷ 0 ∷ 0 ∷ 0 ∷ 1 ∷ []) (outside 40)
    ∷ finishes (minus 39 ∷ px 1 ∷ 0 ∷ px 20 ∷ 1 ∷ []) (outside 39)
    ∷ []

-- ---- 71, 72, 73: layers

-- a candidate as it was before it had a layer
unfoldable pub thirteen : List ℕ
thirteen = 0 ∷ 0 ∷ 2 ∷ replicate 10 0

-- 7FC00001 hex: a NaN, if it were a float
abbrev pub payload : ℕ
payload = 2143289345

-- lists of so many words, over a broken item
unfoldable pub over_words : ℕ → ℕ → Lent
over_words working unclaimed =
    record {
      styles = broken;
      layouts = (over broken 1 1).layouts;
      working = replicate working 0;
      unclaimed = replicate unclaimed 0;
      tally = (over broken 1 1).tally;
    }

-- the layer of the unclaimed record rewritten
unfoldable pub rewriting_unclaimed_layer : ℕ → Outcome
rewriting_unclaimed_layer layer =
    reply after_one.step.state
    (record {
      styles = box;
      layouts = after_one.layouts;
      working = after_one.working;
      unclaimed = set after_one.unclaimed layer_word layer;
      tally = after_one.tally;
    })
    (surfacing [])

-- a box at 10, 5, on layer 3; it surfaces one that is claimed, on layer 255, and one that isn't, on layer 4
unfoldable pub aside : List ℕ
aside = written box (tag_word 0) (length_of 1 (px 10) ++ length_of 3 0 ++ length_of 1 (px 5) ++ length_of 3 0)

unfoldable pub surfacing_two : Outcome
surfacing_two =
    next aside (opening (on_layer 3 absolute) (over aside 2 1)) (surfacing (on_layer 255 absolute ++ on_layer 4 fixed))

-- a candidate whose areas were at 0, shifted by that box's location
unfoldable pub shifted : List ℕ → List ℕ
shifted c = written (written c 3 (px 10 ∷ px 10 ∷ [])) 8 (px 5 ∷ px 5 ∷ [])

unfoldable pub layers : List Bool
layers =
    -- records of 13 words; lists of 4,096 records
    refuses 2 (opening thirteen (over box 1 1))
    ∷ refuses 2 (next box opened_box (surfacing thirteen))
    ∷ refuses 3 (opening absolute (over_words 57344 57344))
    ∷ refuses 2 (opening absolute (over_words 57358 14))
    -- the highest layer, and the first that is none: claimed, unclaimed; and a word that would be another NaN as a float
    ∷ lays_out box_asked (opening (on_layer 255 absolute) (over box 1 1))
    ∷ refuses 4 (opening (on_layer 256 absolute) (over box 1 1))
    ∷ refuses 4 (opening (on_layer 256 fixed) (over box 1 1))
    ∷ refuses 4 (opening (on_layer payload absolute) (over box 1 1))
    ∷ refuses 4 (opening (absolute ++ on_layer 4294967295 fixed) (over box 1 1))
    -- surfaced by a lay-out reply: claimed, unclaimed; lent with a measure
    ∷ lays_out box_asked (next box opened_in_two (surfacing (on_layer 255 absolute)))
    ∷ refuses 4 (next box opened_in_two (surfacing (on_layer 256 absolute)))
    ∷ refuses 4 (next box opened_in_two (surfacing (on_layer 256 fixed)))
    ∷ lays_out box_asked (next item measuring (lending (on_layer 256 absolute) (both (px 30) (px 20))))
    -- in the record of a box laid out before; of the box at hand; of a record that isn't filled; of an unclaimed one
    ∷ finishes (box_end 2) (rewriting layer_word 255)
    ∷ refuses 4 (rewriting layer_word 256)
    ∷ refuses 4 (rewriting layer_word payload)
    ∷ refuses 4 (rewriting (candidate_width + layer_word) 256)
    ∷ finishes (box_end 2) (rewriting (candidate_width * 2 + layer_word) 256)
    ∷ finishes (box_end 2) (rewriting_unclaimed_layer 256)
    ∷ same (rewriting_unclaimed_layer payload).unclaimed (on_layer payload fixed)
    -- the lists of an opening, and of a reply whose surfaced records are shifted
    ∷ same (opening (on_layer 255 absolute ++ on_layer 0 fixed) (over box 1 1)).working (on_layer 255 absolute)
    ∷ same (opening (on_layer 255 absolute ++ on_layer 0 fixed) (over box 1 1)).unclaimed (on_layer 0 fixed)
    ∷ same surfacing_two.working (on_layer 3 absolute ++ shifted (on_layer 255 absolute))
    ∷ same surfacing_two.unclaimed (shifted (on_layer 4 fixed))
    ∷ []

-- ---- request #107: the tally

unfoldable pub with_tally : List ℕ → Lent → Lent
with_tally tally lent =
    record { styles = lent.styles; layouts = lent.layouts; working = lent.working; unclaimed = lent.unclaimed; tally = tally }

unfoldable pub tallies : List ℕ → Outcome → Bool
tallies words o = same o.tally words

-- refused, with such a tally
unfoldable pub refuses_over : ℕ → List ℕ → Outcome → Bool
refuses_over number tally o = refuses number o && tallies tally o

-- the words add up to the questions answered
unfoldable pub adds_up : Outcome → Bool
adds_up o = eqb (sum o.tally) o.step.state.counts.answered

-- two items and such a tally, with places for two claimed boxes; candidates that name one item each
unfoldable pub over_pair : List ℕ → Lent
over_pair tally = with_tally tally (over pair 2 0)

unfoldable pub both_items : List ℕ
both_items = absolute ++ candidate 1 0 2

unfoldable pub broken_pair : List ℕ
broken_pair = box ++ broken

unfoldable pub opened_both : Outcome
opened_both = opening both_items (over_pair (7 ∷ 9 ∷ []))

unfoldable pub after_first : Outcome
after_first = next pair opened_both (surfacing [])

unfoldable pub after_both : Outcome
after_both = next pair after_first (surfacing [])

-- three words for two items
unfoldable pub opened_by_three : Outcome
opened_by_three = opening both_items (over_pair (7 ∷ 9 ∷ 8 ∷ []))

-- a reply for the first box, lent such a tally, at a forged count of questions answered
unfoldable pub at_count : ℕ → List ℕ → Outcome
at_count answered tally =
    reply (with_counts opened_both.step.state 2 0 1 answered) (with_tally tally (left pair opened_both)) (surfacing [])

-- item 0 is measured and surfaces item 1, which isn't
unfoldable pub measured_and_not : List ℕ
measured_and_not = item ++ box

unfoldable pub measured_first : Outcome
measured_first = next measured_and_not (opening absolute (over measured_and_not 2 0)) (both (px 30) (px 20))

unfoldable pub surfaced_next : Outcome
surfaced_next = next measured_and_not measured_first (surfacing (candidate 1 0 2))

unfoldable pub surfaced_last : Outcome
surfaced_last = next measured_and_not surfaced_next (surfacing [])

-- two items that are measured
unfoldable pub measured_pair : List ℕ
measured_pair = item ++ item

-- a box measured and laid out
unfoldable pub measured_box : Outcome → Outcome
measured_box o = next measured_pair (next measured_pair o (both (px 30) (px 20))) (surfacing [])

-- the second is claimed twice
unfoldable pub measured_twice : Outcome
measured_twice = measured_box (measured_box (opening (candidate 1 4 2 ++ candidate 1 5 2) (over measured_pair 2 0)))

-- as `redirected`, where a measure is open
unfoldable pub redirected_measure : Outcome
redirected_measure =
    let o = opening absolute (over measured_pair 1 0) in
    reply o.step.state
    (record { styles = measured_pair; layouts = o.layouts; working = set o.working 0 1; unclaimed = o.unclaimed; tally = o.tally })
    (both (px 30) (px 20))

unfoldable pub of_tally : List Bool
of_tally =
    -- a word more or less than the items, or none: of an opening, and of a reply; with the lengths of a refused opening
    refuses_over 2 (7 ∷ 9 ∷ 8 ∷ []) opened_by_three
    ∷ refuses_over 2 (7 ∷ []) (opening both_items (over_pair (7 ∷ [])))
    ∷ refuses 2 (opening both_items (over_pair []))
    ∷ refuses_over 2 (0 ∷ 0 ∷ 0 ∷ []) (at_count 0 (0 ∷ 0 ∷ 0 ∷ []))
    ∷ refuses_over 2 (0 ∷ []) (at_count 0 (0 ∷ []))
    ∷ refuses 2 (at_count 0 [])
    ∷ refuses 2 (reply opened_by_three.step.state (over_pair (0 ∷ 0 ∷ [])) (surfacing []))
    ∷ refuses 2 (reply opened_by_three.step.state (over_pair (0 ∷ 0 ∷ 0 ∷ [])) (surfacing []))
    -- no items: no words, or one
    ∷ finishes (replicate 5 0) (opening [] (over [] 0 0))
    ∷ refuses_over 2 (7 ∷ []) (opening [] (with_tally (7 ∷ []) (over [] 0 0)))
    -- an opening clears every word, whatever it is, and that of an item without a box; also where it finishes at once, without candidates or
    -- with none claimed
    ∷ tallies (0 ∷ 0 ∷ []) opened_both
    ∷ tallies (0 ∷ 0 ∷ []) (opening both_items (over_pair (4294967295 ∷ 4294967295 ∷ [])))
    ∷ tallies (0 ∷ 0 ∷ []) (opening absolute (over_pair (7 ∷ 9 ∷ [])))
    ∷ tallies (0 ∷ 0 ∷ []) (opening [] (over_pair (7 ∷ 9 ∷ [])))
    ∷ tallies (0 ∷ 0 ∷ []) (opening fixed (with_tally (7 ∷ 9 ∷ []) (over pair 0 1)))
    -- refused, it clears none: 1, 3, 4, 5
    ∷ refuses_over 1 (7 ∷ 9 ∷ []) (opening_in (px 100) 2 1 0 both_items (over_pair (7 ∷ 9 ∷ [])))
    ∷ refuses_over 3 (7 ∷ 9 ∷ []) (opening both_items (with_tally (7 ∷ 9 ∷ []) (over broken_pair 2 0)))
    ∷ refuses_over 4 (7 ∷ 9 ∷ []) (opening bad_absolute (over_pair (7 ∷ 9 ∷ [])))
    ∷ refuses_over 5 (7 ∷ 9 ∷ []) (opening both_items (with_tally (7 ∷ 9 ∷ []) (over pair 1 0)))
    -- a lay-out reply counts for the box just laid out, not for the one that is asked next; so does the last one
    ∷ tallies (1 ∷ 0 ∷ []) after_first
    ∷ lays_out (1 ∷ px 30 ∷ px 20 ∷ px 100 ∷ px 100 ∷ []) after_first
    ∷ tallies (1 ∷ 1 ∷ []) after_both
    ∷ finishes (box_end 2) after_both
    -- a measure and a lay out are two; then the surfaced box
    ∷ tallies (1 ∷ 0 ∷ []) measured_first
    ∷ tallies (2 ∷ 0 ∷ []) surfaced_next
    ∷ tallies (2 ∷ 1 ∷ []) surfaced_last
    ∷ finishes (box_end 3) surfaced_last
    -- an item claimed twice has the questions of both boxes
    ∷ tallies (0 ∷ 2 ∷ []) (next pair (next pair claimed_twice (surfacing [])) (surfacing []))
    ∷ tallies (0 ∷ 4 ∷ []) measured_twice
    -- by the record as it is now, its node rewritten from 0 to 1
    ∷ tallies (0 ∷ 1 ∷ []) redirected
    ∷ tallies (0 ∷ 1 ∷ []) redirected_measure
    -- a refused reply counts for none: 2, 6, 3, 4, 5
    ∷ refuses_over 2 (1 ∷ 0 ∷ []) (next pair after_first (surfacing twelve))
    ∷ refuses_over 6 (1 ∷ 0 ∷ []) (next pair after_first (both 0 0))
    ∷ refuses_over 3 (1 ∷ 0 ∷ []) (next broken_pair after_first (surfacing []))
    ∷ refuses_over 4 (1 ∷ 0 ∷ []) (next pair after_first (surfacing bad_absolute))
    ∷ refuses_over 5 (1 ∷ 0 ∷ []) (next pair after_first (surfacing absolute))
    -- some word above the count before this reply, that of the box at hand or another one; words as high as the count; below it, rewritten
    ∷ refuses_over 6 (0 ∷ 1 ∷ []) (at_count 0 (0 ∷ 1 ∷ []))
    ∷ refuses_over 6 (1 ∷ 0 ∷ []) (at_count 0 (1 ∷ 0 ∷ []))
    ∷ refuses_over 6 (1 ∷ 2 ∷ []) (at_count 1 (1 ∷ 2 ∷ []))
    ∷ refuses 6 (at_count 3 (0 ∷ 4294967295 ∷ []))
    ∷ tallies (2 ∷ 1 ∷ []) (at_count 1 (1 ∷ 1 ∷ []))
    ∷ tallies (4 ∷ 3 ∷ []) (at_count 3 (3 ∷ 3 ∷ []))
    ∷ tallies (1 ∷ 0 ∷ []) (at_count 3 (0 ∷ 0 ∷ []))
    -- 1 before 2, 2 before 3, 2 before 6, 6 before 3
    ∷ refuses 1 (opening_in (px 100) 2 1 0 both_items (over_pair []))
    ∷ refuses 2 (opening both_items (with_tally (0 ∷ []) (over broken_pair 2 0)))
    ∷ refuses 2 (reply opened_both.step.state (with_tally (1 ∷ []) (left pair opened_both)) (both 0 0))
    ∷ refuses 6 (reply opened_both.step.state (with_tally (0 ∷ 1 ∷ []) (left broken_pair opened_both)) (surfacing bad_absolute))
    -- the words add up, after an opening and after each reply
    ∷ adds_up opened_both
    ∷ adds_up after_first
    ∷ adds_up after_both
    ∷ adds_up surfaced_last
    ∷ adds_up measured_twice
    ∷ adds_up (next pair after_first (surfacing absolute))
    ∷ []

-- ---- the order of the tests

unfoldable pub in_order : List Bool
in_order =
    -- an opening: 1, 2, 3, 4, 5
    refuses 1 (opening_in (px 100) 2 1 0 twelve (over broken 0 0))
    ∷ refuses 1 (opening_in (px 100) 0 4 0 twelve (over broken 0 0))
    ∷ refuses 1 (opening_in (px 100) 0 1 4 twelve (over broken 0 0))
    ∷ refuses 2 (opening (bad_absolute ++ twelve) (over broken 0 0))
    ∷ refuses 3 (opening bad_absolute (over broken 0 0))
    ∷ refuses 4 (opening bad_absolute (over box 0 0))
    ∷ refuses 5 (opening absolute (over box 0 0))
    -- a reply: 2, 6, 3, 4, 5
    ∷ refuses 2 (next broken finished (surfacing twelve))
    ∷ refuses 6 (next broken finished (surfacing bad_absolute))
    ∷ refuses 3 (next broken opened_box (surfacing bad_absolute))
    ∷ refuses 4 (next box opened_box (surfacing bad_absolute))
    ∷ refuses 5 (next box opened_box (surfacing absolute))
    ∷ []

unfoldable pub readings : List Bool
readings =
    surfaced_by_kind ++ lengths_kept ++ limits ++ without_boxes ++ styles ++ candidates ++ full ++ forged ++ kept ++ measures ++ layouts
    ++ overflows
    ++ layers
    ++ of_tally
    ++ in_order
