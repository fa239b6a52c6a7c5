-- What holds of runs; each statement says what the host may do. `proofs/` proves each, under its name in small letters. Assumes nothing.
use Rattle.std.specs.Prelude.{ℕ, ◌+◌, ◌-◌, ◌*◌, ◌<◌, ◌≤◌, ◌↔◌, ◌≡◌, Bool, true, false, cond, eqb, length, get_or, replicate, sum, count_by, Option, None, Some, Result, Ok, Err, is_err, option_map, ⊤, Float}
use mathlib.Core.List.{List, [], ◌∷◌, ◌++◌, map, foldl}
use Rattle.refusal.specs.Refusal.{number_of}
use Rattle.refusal.specs.declared.Refusal.{Refusal}
use Rattle.refusal.specs.declared.Refusal.TheVariants.{BadExtent}
use Rattle.geometry.specs.declared.Line.{Line}
use Rattle.geometry.specs.declared.Rect.{Rect}
use Rattle.style.specs.declared.alignment.AlignItems.{AlignItems}
use Rattle.tree.specs.Static.{from_alignment}
use Rattle.style.specs.declared.Style.{Style}
use Rattle.tree.specs.declared.layout.Layout.{Layout}
use Rattle.tree.specs.declared.layout.OofCandidate.{OofCandidate}
use Rattle.records.specs.Records.{written}
use Rattle.tree_record.specs.Layout.{layout_width, layout_words}
use Rattle.style_record.specs.Check.{bad_at, checked}
use Rattle.style_record.specs.Decode.{style_at}
use Rattle.style_record.specs.declared.check.BadWord.{BadWord}
use Rattle.sweep.specs.Sweep.{first_candidates, candidates_in, appended}
use Rattle.oof_resolve.specs.declared.ContainingBlock.{ContainingBlock}
use Rattle.oof_box.specs.declared.question.Stage.{Stage}
use Rattle.oof_box.specs.Cut.{asked_after}
use Rattle.oof_box.specs.Theorems.{reply_to}
use Rattle.oof_box.specs.declared.question.Replies.{Replies}
use Rattle.oof_box.specs.declared.question.LayoutInput.{LayoutInput}
use Rattle.oof_box.specs.declared.question.Question.{Question}
use Rattle.oof_box.specs.declared.question.Question.TheVariants.{MeasureBoth, MeasureWidth, MeasureHeight, LayOut}
use Rattle.oof_box.specs.declared.question.Reply.{Reply}
use Rattle.oof_box.specs.declared.question.Reply.TheVariants.{LaidOut}
use Rattle.run.specs.declared.Opening.{Opening}
use Rattle.run.specs.declared.State.{State}
use Rattle.run.specs.declared.Answer.{Answer}
use Rattle.run.specs.declared.Finish as ending
use Rattle.run.specs.declared.Answer.TheVariants.{Ask, Finish}
use Rattle.run.specs.declared.Step.{Step}
use Rattle.run.specs.Call.{Lent, Outcome, unwritten}
use Rattle.run.specs.Run.{box_at_hand, charged, opened, replied, closed, claims_of, container_of}
use Rattle.run.specs.Conditions.{StyleIsBad, FirstNotAllowed, AllAllowed, LengthsDiffer, SideIsUnresolved, FirstIs, NoneHolds, WordIsAbove, opening_tests, reply_tests, QuestionKind, kind_of_question, kind_at}
use Rattle.run.specs.Straight.{World, Box, Course, ended, asks, straight}

-- ---- A call is refused with r exactly when r's condition is the first that holds, by document 01's numbers and in its order
-- (`Conditions.antt`), and accepted exactly when none holds.

abbrev pub OpeningRefusedExactly : Type 0
OpeningRefusedExactly =
    (o : Opening) (candidates : List ℕ) (lent : Lent) (r : Refusal)
    → ((opened o candidates lent).step.answer ≡ Err r) ↔ FirstIs (opening_tests o candidates lent) (number_of r)

abbrev pub OpeningAcceptedExactly : Type 0
OpeningAcceptedExactly =
    (o : Opening) (candidates : List ℕ) (lent : Lent)
    → (is_err (opened o candidates lent).step.answer ≡ false) ↔ NoneHolds (opening_tests o candidates lent)

abbrev pub ReplyRefusedExactly : Type 0
ReplyRefusedExactly =
    (s : State) (reply : Reply) (surfaced : List ℕ) (lent : Lent) (r : Refusal)
    → ((replied s reply surfaced lent).step.answer ≡ Err r) ↔ FirstIs (reply_tests s reply surfaced lent) (number_of r)

abbrev pub ReplyAcceptedExactly : Type 0
ReplyAcceptedExactly =
    (s : State) (reply : Reply) (surfaced : List ℕ) (lent : Lent)
    → (is_err (replied s reply surfaced lent).step.answer ≡ false) ↔ NoneHolds (reply_tests s reply surfaced lent)

-- and `from_alignment` with 7
abbrev pub UnresolvedExactly : Type 0
UnresolvedExactly =
    (a : AlignItems) (area : Line Float) (rtl : Bool) (r : Refusal)
    → (from_alignment a area rtl ≡ Err r) ↔ FirstIs ((7, SideIsUnresolved a) ∷ []) (number_of r)

-- the stage that a state keeps is of its question's kind
abbrev pub StageTellsKind : Type 0
StageTellsKind =
    (container : ContainingBlock) (style : Style) (candidate : OofCandidate) (replies : Replies)
    → let asked = asked_after container style candidate replies in
    kind_of_question asked.question ≡ kind_at asked.stage

-- the item that a question names
abbrev pub item_named : Question → ℕ
item_named (MeasureBoth m) = m.node
item_named (MeasureWidth m) = m.node
item_named (MeasureHeight m) = m.node
item_named (LayOut l) = l.node

-- it is that of the box's record
abbrev pub ItemIsNamed : Type 0
ItemIsNamed =
    (container : ContainingBlock) (style : Style) (candidate : OofCandidate) (replies : Replies)
    → item_named (asked_after container style candidate replies).question ≡ candidate.node

-- ---- The check of a table names exactly its first word that is not allowed, and nothing exactly where every word is (request #103). It names
-- one exactly where refusal 3's condition holds.

-- some item and word is named
abbrev pub Names : Result ⊤ BadWord → Type 0
Names found = (i : ℕ) × (k : ℕ) × (found ≡ bad_at i k)

abbrev pub NamedExactly : Type 0
NamedExactly = (styles : List ℕ) (i k : ℕ) → (checked styles ≡ bad_at i k) ↔ FirstNotAllowed styles i k

abbrev pub NothingExactly : Type 0
NothingExactly = (styles : List ℕ) → (checked styles ≡ Ok tt) ↔ AllAllowed styles

abbrev pub NamedWhereBad : Type 0
NamedWhereBad = (styles : List ℕ) → Names (checked styles) ↔ StyleIsBad styles

-- ---- A refused call writes no lent word and returns the state as it came; a refused opening, that of a finished run with all counts 0.

abbrev pub RefusedReplyKeeps : Type 0
RefusedReplyKeeps =
    (s : State) (reply : Reply) (surfaced : List ℕ) (lent : Lent) (r : Refusal)
    → (replied s reply surfaced lent).step.answer ≡ Err r
    → replied s reply surfaced lent ≡ unwritten lent (record { state = s; answer = Err r })

abbrev pub RefusedOpeningKeeps : Type 0
RefusedOpeningKeeps =
    (o : Opening) (candidates : List ℕ) (lent : Lent) (r : Refusal)
    → (opened o candidates lent).step.answer ≡ Err r
    → opened o candidates lent ≡ unwritten lent (record { state = closed lent; answer = Err r })

-- a finished run refuses every reply, as does one whose opening was refused
abbrev pub FinishedRefuses : Type 0
FinishedRefuses =
    (s : State) (reply : Reply) (surfaced : List ℕ) (lent : Lent)
    → s.progress ≡ None
    → is_err (replied s reply surfaced lent).step.answer ≡ true

-- ---- At most three questions are asked for each box begun, over any list of calls: the caller may rewrite any word between them, and
-- lend other slices.

-- a reply, with the words lent to it
pub record Call : Type 0 where
  pub reply : Reply
  pub surfaced : List ℕ
  pub lent : Lent

-- the questions asked so far, and the state that the last call returned
pub record Asked : Type 0 where
  pub questions : ℕ
  pub state : State

abbrev pub one_if_asked : Result Answer Refusal → ℕ
one_if_asked (Ok (Ask q)) = 1
one_if_asked (Ok (Finish f)) = 0
one_if_asked (Err r) = 0

unfoldable pub asked_at_opening : Opening → List ℕ → Lent → Asked
asked_at_opening o candidates lent =
    let step = (opened o candidates lent).step in
    record { questions = one_if_asked step.answer; state = step.state }

unfoldable pub asked_with : Asked → Call → Asked
asked_with a call =
    let step = (replied a.state call.reply call.surfaced call.lent).step in
    record { questions = a.questions + one_if_asked step.answer; state = step.state }

abbrev pub ThreeQuestionsABox : Type 0
ThreeQuestionsABox =
    (o : Opening) (candidates : List ℕ) (lent : Lent) (calls : List Call)
    → let a = foldl asked_with (asked_at_opening o candidates lent) calls in
    a.questions ≤ 3 * a.state.counts.begun

-- and each box begun is one of those hoisted: the filled records of the working list
abbrev pub BegunAreHoisted : Type 0
BegunAreHoisted =
    (o : Opening) (candidates : List ℕ) (lent : Lent) (calls : List Call)
    → let a = foldl asked_with (asked_at_opening o candidates lent) calls in
    a.state.counts.begun ≤ a.state.counts.filled.working

-- ---- And at most three for each box, counted by box. Box i is record i of the working list; it is at hand while i + 1 boxes are begun.

-- the questions that a call asks for box i: the state that it returns says which box is at hand
abbrev pub asked_for : ℕ → Step → ℕ
asked_for i step = cond (eqb step.state.counts.begun (i + 1)) (one_if_asked step.answer) 0

-- those that all calls asked for it
unfoldable pub asked_for_in : ℕ → ℕ → State → List Call → ℕ
asked_for_in i before s [] = before
asked_for_in i before s (c ∷ calls) =
    let step = (replied s c.reply c.surfaced c.lent).step in asked_for_in i (before + asked_for i step) step.state calls

abbrev pub ThreeQuestionsForEachBox : Type 0
ThreeQuestionsForEachBox =
    (i : ℕ) (o : Opening) (candidates : List ℕ) (lent : Lent) (calls : List Call)
    → let first = (opened o candidates lent).step in
    asked_for_in i (asked_for i first) first.state calls ≤ 3

-- ---- Request #107. An accepted opening has answered no question and clears the tally. An accepted reply has answered one more, and counts for one
-- item: that of the box at hand, as its record says now. So it is from any state, whatever words the host rewrote.

pub record CountsNone (lent : Lent) (has : Outcome) : Type 0 where
  pub answered : has.step.state.counts.answered ≡ 0
  pub tally : has.tally ≡ replicate (length lent.tally) 0

abbrev pub OpeningCountsNone : Type 0
OpeningCountsNone =
    (o : Opening) (candidates : List ℕ) (lent : Lent)
    → is_err (opened o candidates lent).step.answer ≡ false
    → CountsNone lent (opened o candidates lent)

pub record CountsOne (s : State) (lent : Lent) (has : Outcome) : Type 0 where
  pub answered : has.step.state.counts.answered ≡ s.counts.answered + 1
  pub has_word : (box_at_hand lent.working s.counts).node < length lent.tally
  pub tally : has.tally ≡ charged lent.tally (box_at_hand lent.working s.counts).node

abbrev pub ReplyCountsOne : Type 0
ReplyCountsOne =
    (s : State) (reply : Reply) (surfaced : List ℕ) (lent : Lent)
    → is_err (replied s reply surfaced lent).step.answer ≡ false
    → CountsOne s lent (replied s reply surfaced lent)

-- so the questions answered are the replies accepted
abbrev pub one_if_accepted : Result Answer Refusal → ℕ
one_if_accepted (Ok answer) = 1
one_if_accepted (Err r) = 0

abbrev pub RepliesAreCounted : Type 0
RepliesAreCounted =
    (s : State) (reply : Reply) (surfaced : List ℕ) (lent : Lent)
    → let step = (replied s reply surfaced lent).step in
    step.state.counts.answered ≡ s.counts.answered + one_if_accepted step.answer

-- ---- "The words always add up to the run's questions answered so far, at the end the count in the finish." So a reply that is lent them as
-- they are is never refused for one above that count.

pub record AddsUp (has : Outcome) : Type 0 where
  pub so_far : sum has.tally ≡ has.step.state.counts.answered
  pub at_finish : (f : ending.Finish) → has.step.answer ≡ Ok (Finish f) → sum has.tally ≡ f.count
  pub none_above : (lent : Lent) → lent.tally ≡ has.tally → ¬ WordIsAbove lent has.step.state.counts

abbrev pub OpeningAddsUp : Type 0
OpeningAddsUp =
    (o : Opening) (candidates : List ℕ) (lent : Lent)
    → is_err (opened o candidates lent).step.answer ≡ false
    → AddsUp (opened o candidates lent)

-- and each reply that is lent the tally, and given the state, as the last call left them keeps it so, refused or not, whatever else it is lent
abbrev pub ReplyAddsUp : Type 0
ReplyAddsUp =
    (before : Outcome) (reply : Reply) (surfaced : List ℕ) (lent : Lent)
    → AddsUp before → lent.tally ≡ before.tally
    → AddsUp (replied before.step.state reply surfaced lent)

-- ---- With nobody else writing the lent words, the calls are the straight run: after an opening that isn't refused and any list of
-- replies, the words and the state are those of the boxes so far, and a call that isn't refused says what the run says next. Replies may
-- be refused, for any reason, and may lend other slices where they are. A list may end anywhere, so this holds after each call.

-- a reply, and the words of the candidates lent with it
pub record Heard : Type 0 where
  pub reply : Reply
  pub surfaced : List ℕ

-- a call that is given what the call before it left, over one table of styles
unfoldable pub next : List ℕ → Outcome → Heard → Outcome
next styles o h =
    replied o.step.state h.reply h.surfaced
    (record { styles = styles; layouts = o.layouts; working = o.working; unclaimed = o.unclaimed; tally = o.tally })

-- what a call is lent: the run's own slices, with the words that the last call left in them; or others
pub data Loan : Type 0 where
  own : Loan
  other : Lent → Loan

-- a reply, and what is lent with it
pub record Turn : Type 0 where
  pub heard : Heard
  pub loan : Loan

-- what a call leaves of a run: if it was lent other slices, the run's own keep their words
abbrev pub next_with : List ℕ → Outcome → Heard → Loan → Outcome
next_with styles o h own = next styles o h
next_with styles o h (other lent) =
    record {
      step = (replied o.step.state h.reply h.surfaced lent).step;
      layouts = o.layouts;
      working = o.working;
      unclaimed = o.unclaimed;
      tally = o.tally;
    }

abbrev pub turned : List ℕ → Outcome → Turn → Outcome
turned styles o t = next_with styles o t.heard t.loan

-- other slices are lent with a call only where it is refused
abbrev pub Lends : Loan → Result Answer Refusal → Type 0
Lends own answer = Unit {0}
Lends (other lent) answer = is_err answer ≡ true

-- along a whole list
abbrev pub AllLend : List ℕ → Outcome → List Turn → Type 0
AllLend styles o [] = Unit {0}
AllLend styles o (t ∷ ts) = Lends t.loan (turned styles o t).step.answer × AllLend styles (turned styles o t) ts

-- the replies that are not refused
unfoldable pub heeded : List ℕ → Outcome → List Turn → List Heard
heeded styles o [] = []
heeded styles o (t ∷ ts) =
    let later = heeded styles (turned styles o t) ts in
    cond (is_err (turned styles o t).step.answer) later (t.heard ∷ later)

-- the course after a reply to its question; a reply of another kind changes nothing
abbrev pub or_stay : {R : Type 0} → Option R → (R → Course) → Course → Course
or_stay None next stay = stay
or_stay (Some r) next stay = next r

unfoldable pub hearing : Course → Heard → Course
hearing (ended w) h = ended w
hearing (asks w q next) h = or_stay (reply_to q (record { reply = h.reply; surfaced = candidates_in h.surfaced })) next (asks w q next)

-- how far it has come
abbrev pub so_far : Course → World
so_far (ended w) = w
so_far (asks w q next) = w

-- what it says next, after so many replies
abbrev pub said_after : ℕ → Course → Result Answer Refusal
said_after answered (ended w) = Ok (Finish (record { overflow = w.overflow; count = answered }))
said_after answered (asks w q next) = Ok (Ask q)

-- the item that the open question names, if one is open
abbrev pub item_open : Course → List ℕ
item_open (ended w) = []
item_open (asks w q next) = item_named q ∷ []

-- the items that the questions named which these replies answer, in turn; each is of the kind that is asked for
unfoldable pub items_answered : Course → List Heard → List ℕ
items_answered course [] = []
items_answered course (h ∷ hs) = item_open course ++ items_answered (hearing course h) hs

-- the layouts of a run's boxes, written in turn, each at its node's place: a node claimed twice has its last layout
unfoldable pub laid_into : List ℕ → List Box → List ℕ
laid_into layouts [] = layouts
laid_into layouts (b ∷ bs) = laid_into (written layouts (layout_width * b.candidate.node) (layout_words b.layout)) bs

-- all claimed candidates, in the order in which they were claimed
abbrev pub claimed_in : World → List OofCandidate
claimed_in w = map (λ (b : Box). b.candidate) w.laid ++ w.waiting

-- how many boxes are laid out: all that were begun, but for the one at hand
abbrev pub laid_count : Option Stage → ℕ → ℕ
laid_count None begun = begun
laid_count (Some stage) begun = begun - 1

abbrev pub laid_so_far : Outcome → ℕ
laid_so_far o = laid_count o.step.state.progress o.step.state.counts.begun

-- how many boxes are begun: those laid out, and the one at hand
abbrev pub begun_in : Course → ℕ
begun_in (ended w) = length w.laid
begun_in (asks w q next) = length w.laid + 1

-- what a state has open, by the words as they are: the question of the box at hand, or the finish
abbrev pub open_by : Option Stage → List ℕ → List ℕ → State → Result Answer Refusal
open_by None styles working s = Ok (Finish (record { overflow = s.overflow; count = s.counts.answered }))
open_by (Some stage) styles working s =
    let box = box_at_hand working s.counts in
    Ok (Ask (asked_after s.opened.container (style_at styles box.node) box s.replies).question)

abbrev pub open_in : List ℕ → Outcome → Result Answer Refusal
open_in styles o = open_by o.step.state.progress styles o.working o.step.state

-- the kind of reply that is waited for, by the state and by the course
abbrev pub awaited : Option Stage → Option QuestionKind
awaited progress = option_map kind_at progress

abbrev pub awaited_in : Course → Option QuestionKind
awaited_in (ended w) = None
awaited_in (asks w q next) = Some (kind_of_question q)

-- what a call left is where the course stands, after replies that weren't refused to questions that named these items: every word of the lent
-- slices, the counts, the overflow so far, what is still open, and the answer unless it is a refusal
pub record Stands (lent : Lent) (answered : List ℕ) (o : Outcome) (course : Course) : Type 0 where
  pub layouts : o.layouts ≡ laid_into lent.layouts (so_far course).laid
  pub working : o.working ≡ appended lent.working 0 (claimed_in (so_far course))
  pub unclaimed : o.unclaimed ≡ appended lent.unclaimed 0 (so_far course).unclaimed
  pub filled : o.step.state.counts.filled ≡ record { working = length (claimed_in (so_far course)); unclaimed = length (so_far course).unclaimed }
  pub begun : o.step.state.counts.begun ≡ begun_in course
  pub counted : o.step.state.counts.answered ≡ length answered
  -- request #107: a word for each item, "the number of questions answered for that item in this run"
  pub tally_length : length o.tally ≡ length lent.tally
  pub tally : (i : ℕ) → i < length lent.tally → get_or o.tally i 0 ≡ count_by (eqb i) answered
  pub laid : laid_so_far o ≡ length (so_far course).laid
  pub overflow : o.step.state.overflow ≡ (so_far course).overflow
  pub pending : open_in lent.styles o ≡ said_after (length answered) course
  pub kind : awaited o.step.state.progress ≡ awaited_in course
  pub answer : is_err o.step.answer ≡ false → o.step.answer ≡ said_after (length answered) course

-- what an opening and the calls after it leave
abbrev pub called : Opening → List ℕ → Lent → List Turn → Outcome
called o candidates lent turns = foldl (turned lent.styles) (opened o candidates lent) turns

-- the replies among them that are not refused
abbrev pub heeded_in : Opening → List ℕ → Lent → List Turn → List Heard
heeded_in o candidates lent turns = heeded lent.styles (opened o candidates lent) turns

-- where the straight run stands at the opening; 4,096 records are the most that a working list holds
abbrev pub course_opened : Opening → List ℕ → Lent → Course
course_opened o candidates lent = straight 4096 (container_of o) (claims_of o) (style_at lent.styles) (candidates_in candidates)

-- and after these
abbrev pub course_of : Opening → List ℕ → Lent → List Turn → Course
course_of o candidates lent turns = foldl hearing (course_opened o candidates lent) (heeded_in o candidates lent turns)

-- the items that their questions named
abbrev pub answered_in : Opening → List ℕ → Lent → List Turn → List ℕ
answered_in o candidates lent turns = items_answered (course_opened o candidates lent) (heeded_in o candidates lent turns)

abbrev pub StraightRun : Type 0
StraightRun =
    (o : Opening) (candidates : List ℕ) (lent : Lent) (turns : List Turn)
    → is_err (opened o candidates lent).step.answer ≡ false
    → AllLend lent.styles (opened o candidates lent) turns
    → Stands lent (answered_in o candidates lent turns) (called o candidates lent turns) (course_of o candidates lent turns)

-- slices of other lengths than at the opening are always refused, whatever the state and the reply
abbrev pub OtherLengthsRefused : Type 0
OtherLengthsRefused =
    (s : State) (reply : Reply) (surfaced : List ℕ) (lent : Lent)
    → LengthsDiffer s lent
    → (replied s reply surfaced lent).step.answer ≡ Err BadExtent

-- ---- The hoisted order.

-- the candidates that were claimed so far, as the filled working records hold them
abbrev pub claimed_so_far : Outcome → List OofCandidate
claimed_so_far o = first_candidates o.step.state.counts.filled.working o.working

-- their nodes, in turn
abbrev pub hoisted : Outcome → List ℕ
hoisted o = map (λ (c : OofCandidate). c.node) (claimed_so_far o)

-- at the end of a run it is that of the boxes laid out
abbrev pub HoistedOrder : Type 0
HoistedOrder =
    (o : Opening) (candidates : List ℕ) (lent : Lent) (turns : List Turn) (w : World)
    → is_err (opened o candidates lent).step.answer ≡ false
    → AllLend lent.styles (opened o candidates lent) turns
    → course_of o candidates lent turns ≡ ended w
    → hoisted (called o candidates lent turns) ≡ map (λ (b : Box). b.candidate.node) w.laid

-- ---- The size told in a lay-out question is the size written, with the words as the call left them, whatever replies are refused between.

-- what some call left, an opening or a reply to any state, with these styles
pub data Left (styles : List ℕ) : Outcome → Type 0 where
  opening : (o : Opening) (candidates : List ℕ) (lent : Lent) → lent.styles ≡ styles → Left styles (opened o candidates lent)
  reply : (s : State) (reply : Reply) (surfaced : List ℕ) (lent : Lent) → lent.styles ≡ styles → Left styles (replied s reply surfaced lent)

-- request #107: an accepted reply counts for the item that the question named, while the record of the box that was asked about stands. All other
-- words may be rewritten, and replies may be refused between: they return the state as it came
abbrev pub NamedItemCounts : Type 0
NamedItemCounts =
    (styles : List ℕ) (asked : Outcome) (q : Question) (reply : Reply) (surfaced : List ℕ) (lent : Lent)
    → Left styles asked
    → asked.step.answer ≡ Ok (Ask q)
    → box_at_hand lent.working asked.step.state.counts ≡ box_at_hand asked.working asked.step.state.counts
    → is_err (replied asked.step.state reply surfaced lent).step.answer ≡ false
    → (replied asked.step.state reply surfaced lent).tally ≡ charged lent.tally (item_named q)

abbrev pub AllRefused : List ℕ → Outcome → List Turn → Type 0
AllRefused styles o [] = Unit {0}
AllRefused styles o (t ∷ ts) = (is_err (turned styles o t).step.answer ≡ true) × AllRefused styles (turned styles o t) ts

-- a layout of this size was written at this node's place, and no other word of the layouts
pub record WroteSize (input : LayoutInput) (before after : List ℕ) : Type 0 where
  pub layout : Layout
  pub wrote : after ≡ written before (layout_width * input.node) (layout_words layout)
  pub size : layout.size ≡ input.size

abbrev pub ToldIsWritten : Type 0
ToldIsWritten =
    (styles : List ℕ) (o : Outcome) (input : LayoutInput) (between : List Turn) (overflow : Rect Float) (surfaced : List ℕ)
    → Left styles o
    → o.step.answer ≡ Ok (Ask (LayOut input))
    → AllRefused styles o between
    → let last = next styles (foldl (turned styles) o between) (record { reply = LaidOut overflow; surfaced = surfaced }) in
    is_err last.step.answer ≡ false
    → WroteSize input o.layouts last.layouts
