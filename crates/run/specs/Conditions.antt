-- When a call is refused: rows 1 to 7 of document 01's table, each as a proposition, with document 01's numbers, and the order in which they
-- are tested. `Theorems.antt` states that a call is refused exactly so. Row 8 is of the programs: `IsScreen` of screen/specs/Laws.antt; row 9
-- stands in pixels/specs and reach/specs. Assumes nothing.
use Rattle.std.specs.Prelude.{ℕ, ◌+◌, ◌*◌, ◌-◌, ◌/◌, ◌<◌, ◌≤◌, ◌⊎◌, ◌≢◌, ◌≡◌, List, [], ◌∷◌, length, get_or, drop, Option, Some, None}
use Rattle.style.specs.Laws.{tags_of}
use Rattle.style.specs.declared.alignment.AlignItems.{AlignItems}
use Rattle.style.specs.declared.alignment.AlignItemsKeyword.TheVariants as side
use Rattle.style_record.specs.Record.{Kind, tag, number, up_to, ratio, keyword, safety, contain, kind_of, item, items}
use Rattle.sweep.specs.Laws.{Exceeds}
use Rattle.sweep.specs.Sweep.{candidates_in}
use Rattle.oof_box.specs.declared.question.Question.{Question}
use Rattle.oof_box.specs.declared.question.Question.TheVariants as question
use Rattle.oof_box.specs.declared.question.Reply.{Reply}
use Rattle.oof_box.specs.declared.question.Reply.TheVariants as reply
use Rattle.oof_box.specs.declared.question.Stage.{Stage}
use Rattle.oof_box.specs.declared.question.Stage.TheVariants as stage
use Rattle.run.specs.declared.Opening.{Opening}
use Rattle.run.specs.declared.Counts.{Counts}
use Rattle.run.specs.declared.State.{State}
use Rattle.run.specs.Call.{Slices, Lent, slices_of}
use Rattle.run.specs.Refusals.{lent_by}
use Rattle.run.specs.Preview.{over_copy}
use Rattle.run.specs.Run.{claims_of, extents_of, none_filled}

-- ---- 1, bad area: "direction above 1, claims above 3, an overflow above 3"

abbrev pub AreaIsBad : Opening → Type 0
AreaIsBad o = (1 < o.direction) ⊎ (3 < o.claims) ⊎ (3 < o.overflowx) ⊎ (3 < o.overflowy)

-- ---- 2, bad extent

-- "Style, 57 words"; by request #105 "A style is then 79 words"
abbrev pub item_words : ℕ
item_words = 79

-- "styles .. 57 × n words", 79 × n since #105, "with n ≤ 1,024; layouts .. 23 × n"
abbrev pub GoodTable : List ℕ → List ℕ → Type 0
GoodTable styles layouts = (n : ℕ) × (n ≤ 1024) × (length styles ≡ item_words * n) × (length layouts ≡ 23 * n)

-- "Candidate, 13 words"; by request #104 it has "a fourteenth word, its layer"
abbrev pub record_words : ℕ
record_words = 14

-- whole records of candidates
abbrev pub Whole : List ℕ → Type 0
Whole list = (n : ℕ) × (length list ≡ record_words * n)

-- at most 4,096 of them: a working or an unclaimed list
abbrev pub GoodList : List ℕ → Type 0
GoodList list = (n : ℕ) × (n ≤ 4096) × (length list ≡ record_words * n)

abbrev pub SlicesAreBad : Slices → Type 0
SlicesAreBad lent = (¬ GoodTable lent.styles lent.layouts) ⊎ (¬ GoodList lent.working) ⊎ (¬ GoodList lent.unclaimed)

-- request #107: "A slice that doesn't hold n words is a bad extent"
abbrev pub TallyIsBad : Lent → Type 0
TallyIsBad lent = length lent.tally ≢ items lent.styles

-- "in a reply, any but surfaced of another length than at opening"
abbrev pub LengthsDiffer : State → Lent → Type 0
LengthsDiffer s lent = extents_of lent ≢ s.opened.extents

-- ---- 3, bad style: "a code or tag not allowed in its field"

abbrev pub Among : List ℕ → ℕ → Type 0
Among [] w = ⊥
Among (x ∷ xs) w = (w ≡ x) ⊎ Among xs w

-- a word of a kind, after the word before it: a safety is ignored where its keyword is 10, absent
abbrev pub Allowed : Kind → ℕ → ℕ → Type 0
Allowed (tag field) before w = Among (tags_of field) w
Allowed number before w = Unit {0}
Allowed (up_to last) before w = w ≤ last
Allowed ratio before w = Unit {0}
Allowed keyword before w = w ≤ 10
Allowed safety before w = (before ≡ 10) ⊎ (w ≤ 2)
Allowed contain before w = w ≤ 255

-- word k of item i
abbrev pub WordIsAllowed : List ℕ → ℕ → ℕ → Type 0
WordIsAllowed styles i k = Allowed (kind_of k) (item styles i (k - 1)) (item styles i k)

-- some word of some item is not allowed
abbrev pub StyleIsBad : List ℕ → Type 0
StyleIsBad styles = (i : ℕ) × (k : ℕ) × (i < items styles) × (k < item_words) × (¬ WordIsAllowed styles i k)

-- request #103, "that item and the first of its words": word k of item i is not allowed, all words before it in its item are, and all of the
-- items before
pub record FirstNotAllowed (styles : List ℕ) (i k : ℕ) : Type 0 where
  pub item_there : i < items styles
  pub word_there : k < item_words
  pub not_allowed : ¬ WordIsAllowed styles i k
  pub words_before : (l : ℕ) → l < k → WordIsAllowed styles i l
  pub items_before : (j : ℕ) → j < i → (l : ℕ) → l < item_words → WordIsAllowed styles j l

-- no word of the table breaks a rule; a part of a record behind the last whole one is no item
abbrev pub AllAllowed : List ℕ → Type 0
AllAllowed styles = (i : ℕ) → i < items styles → (k : ℕ) → k < item_words → WordIsAllowed styles i k

-- ---- 4, bad candidate: "node not below n, or a code outside its list"; by request #104 "a higher layer" than 255 too

-- how many whole records a list has places for
abbrev pub places : List ℕ → ℕ
places list = length list / record_words

-- word k of record i
abbrev pub word : List ℕ → ℕ → ℕ → ℕ
word list i k = get_or list (record_words * i + k) 0

-- edge, safety, fallback edge of an axis, whose words are those from k on
abbrev pub AxisIsBad : List ℕ → ℕ → ℕ → Type 0
AxisIsBad list i k = (2 < word list i (k + 2)) ⊎ (2 < word list i (k + 3)) ⊎ (2 < word list i (k + 4))

-- node, position, x, y, layer
abbrev pub RecordIsBad : ℕ → List ℕ → ℕ → Type 0
RecordIsBad n list i = (n ≤ word list i 0) ⊎ (4 < word list i 2) ⊎ AxisIsBad list i 3 ⊎ AxisIsBad list i 8 ⊎ (255 < word list i 13)

-- one of the first `count` records, over a table of styles
abbrev pub CandidateIsBad : List ℕ → List ℕ → ℕ → Type 0
CandidateIsBad styles list count = (i : ℕ) × (i < count) × RecordIsBad (items styles) list i

-- ---- 5, list full: "the claimed or unclaimed records would exceed their list". `Exceeds` of sweep/specs/Laws.antt: the records held and
-- those that come are more than the list has places for

-- ---- 6, wrong reply

-- the kinds of questions and of replies
pub data QuestionKind : Type 0 where
  both : QuestionKind
  width : QuestionKind
  height : QuestionKind
  lay_out : QuestionKind

abbrev pub kind_of_question : Question → QuestionKind
kind_of_question (question.MeasureBoth m) = both
kind_of_question (question.MeasureWidth m) = width
kind_of_question (question.MeasureHeight m) = height
kind_of_question (question.LayOut l) = lay_out

abbrev pub kind_of_reply : Reply → QuestionKind
kind_of_reply (reply.Both size) = both
kind_of_reply (reply.Width w) = width
kind_of_reply (reply.Height h) = height
kind_of_reply (reply.LaidOut overflow) = lay_out

-- a state keeps the stage of its question, which tells the kind (`StageTellsKind`)
abbrev pub kind_at : Stage → QuestionKind
kind_at stage.KeywordBoth = both
kind_at stage.KeywordWidth = width
kind_at stage.KeywordHeight = height
kind_at stage.Fill = both
kind_at stage.LayOut = lay_out

-- "reply kind differs from the question, run finished"
abbrev pub NotAsked : Option Stage → Reply → Type 0
NotAsked p given = (p ≡ None) ⊎ ((at : Stage) × (p ≡ Some at) × (kind_of_reply given ≢ kind_at at))

-- "state counts exceed the lists, boxes begun not 1 to the filled working records, or question count above 3 × the boxes begun"
abbrev pub CountsAreWrong : Lent → Counts → Type 0
CountsAreWrong lent c =
    (places lent.working < c.filled.working) ⊎ (places lent.unclaimed < c.filled.unclaimed)
    ⊎ (c.begun < 1) ⊎ (c.filled.working < c.begun)
    ⊎ (3 * c.begun < c.answered)

-- request #107: "On a reply, a word above the run's own count of questions answered is a wrong reply"
abbrev pub WordIsAbove : Lent → Counts → Type 0
WordIsAbove lent c = (i : ℕ) × (i < length lent.tally) × (c.answered < get_or lent.tally i 0)

-- ---- 7, unresolved side: "self-start or self-end given to `from_alignment`", of crate `tree`

abbrev pub SideIsUnresolved : AlignItems → Type 0
SideIsUnresolved a = (a.keyword ≡ side.SelfStart) ⊎ (a.keyword ≡ side.SelfEnd)

-- ---- The order of the tests.

-- of conditions by their numbers, in the order in which they are tested: the first that holds has number r. It holds, and none before it
abbrev pub FirstIs : List (ℕ × Type 0) → ℕ → Type 0
FirstIs [] r = ⊥
FirstIs (test ∷ tests) r = (test.1 × (r ≡ test.0)) ⊎ ((¬ test.1) × FirstIs tests r)

abbrev pub NoneHolds : List (ℕ × Type 0) → Type 0
NoneHolds [] = Unit {0}
NoneHolds (test ∷ tests) = (¬ test.1) × NoneHolds tests

-- "Opening tests 1, 2, 3, 4, 5 in that order"
abbrev pub opening_tests : Opening → List ℕ → Lent → List (ℕ × Type 0)
opening_tests o candidates lent =
    (1, AreaIsBad o)
    ∷ (2, SlicesAreBad (slices_of lent) ⊎ TallyIsBad lent ⊎ (¬ Whole candidates))
    ∷ (3, StyleIsBad lent.styles)
    ∷ (4, CandidateIsBad lent.styles candidates (places candidates))
    ∷ (5, Exceeds (claims_of o) (candidates_in candidates) lent.working lent.unclaimed none_filled)
    ∷ []

-- "a reply 2, 6, 3, 4, 5". Its surfaced slice is looked at with a lay-out reply only (`lent_by`)
abbrev pub reply_tests : State → Reply → List ℕ → Lent → List (ℕ × Type 0)
reply_tests s given slice lent =
    let surfaced = lent_by given slice in
    (2, SlicesAreBad (slices_of lent) ⊎ TallyIsBad lent ⊎ LengthsDiffer s lent ⊎ (¬ Whole surfaced))
    ∷ (6, NotAsked s.progress given ⊎ CountsAreWrong lent s.counts ⊎ WordIsAbove lent s.counts)
    ∷ (3, StyleIsBad lent.styles)
    ∷ (4, CandidateIsBad lent.styles lent.working s.counts.filled.working ⊎ CandidateIsBad lent.styles surfaced (places surfaced))
    ∷ (5, Exceeds s.opened.claims (candidates_in surfaced) lent.working lent.unclaimed s.counts.filled)
    ∷ []

-- ---- Request #109, a preview: "A replacement that isn't one style record is a bad extent. A node that isn't below n is a bad candidate, tested right
-- after the extents; all other checks are those of the copy". The tests of its opening and of its reply, in turn, each with its refusal's number.
-- Of the copy, 3 reads the words and 4 how many items it has; all other tests read what is lent.

abbrev pub ReplacementIsBad : List ℕ → Type 0
ReplacementIsBad style = length style ≢ item_words

abbrev pub NodeIsBad : ℕ → Lent → Type 0
NodeIsBad node lent = items lent.styles ≤ node

abbrev pub preview_opening_tests : Opening → List ℕ → ℕ → List ℕ → Lent → List (ℕ × Type 0)
preview_opening_tests o candidates node style lent =
    (1, AreaIsBad o)
    ∷ (2, SlicesAreBad (slices_of lent) ⊎ TallyIsBad lent ⊎ (¬ Whole candidates) ⊎ ReplacementIsBad style)
    ∷ (4, NodeIsBad node lent)
    -- 3, 4 and 5
    ∷ drop 2 (opening_tests o candidates (over_copy node style lent))

abbrev pub preview_reply_tests : State → Reply → List ℕ → ℕ → List ℕ → Lent → List (ℕ × Type 0)
preview_reply_tests s given slice node style lent =
    let surfaced = lent_by given slice in
    (2, SlicesAreBad (slices_of lent) ⊎ TallyIsBad lent ⊎ LengthsDiffer s lent ⊎ (¬ Whole surfaced) ⊎ ReplacementIsBad style)
    ∷ (4, NodeIsBad node lent)
    -- 6, 3, 4 and 5
    ∷ drop 1 (reply_tests s given slice (over_copy node style lent))
