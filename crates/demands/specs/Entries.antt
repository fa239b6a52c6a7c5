-- What a host does with the entries, and all that it knows of them: their contracts. `demands::open` and `demands::reply` (src/lib.rt) are
-- the calls themselves and ensure `Opens` and `RepliesTo` of each, `demands::preview_open` and `demands::preview_reply`
-- `PreviewOpens` and `PreviewRepliesTo`, so that what is shown here of lists of such calls holds of the code.
-- Assumes nothing.
use Rattle.std.specs.Prelude.{ℕ, ◌+◌, ◌≡◌, true, false, List, [], ◌∷◌, ◌++◌, is_err}
use Rattle.oof_box.specs.declared.question.Reply.{Reply}
use Rattle.run.specs.declared.Opening.{Opening}
use Rattle.run.specs.declared.State.{State}
use Rattle.run.specs.Call.{Lent, Outcome, lent, outcome}
use Rattle.run.specs.Run.{opened, replied}
use Rattle.run.specs.Preview.{preview_opened, preview_replied}
use Rattle.run.specs.Theorems.{one_if_asked, one_if_accepted, asked_for, Heard, Loan, own, other, Turn, Lends}
use Rattle.mirror_run.specs.Image.{image_opening, image_styles, image_candidates}
use Rattle.mirror_run.specs.Runs.{Message, Fair}

-- ---- A call, and what the host has after it: what was returned, and the words of the slices that it lent.

abbrev pub Opens : Opening → List ℕ → Lent → Outcome → Type 0
Opens o candidates lent has = has ≡ opened o candidates lent

abbrev pub RepliesTo : State → Reply → List ℕ → Lent → Outcome → Type 0
RepliesTo s reply surfaced lent has = has ≡ replied s reply surfaced lent

-- request #109: a preview's, with a node and the words of the style in its place
abbrev pub PreviewOpens : ℕ → List ℕ → Opening → List ℕ → Lent → Outcome → Type 0
PreviewOpens node style o candidates lent has = has ≡ preview_opened o candidates node style lent

abbrev pub PreviewRepliesTo : ℕ → List ℕ → State → Reply → List ℕ → Lent → Outcome → Type 0
PreviewRepliesTo node style s reply surfaced lent has = has ≡ preview_replied s reply surfaced node style lent

-- a run's, or a preview's with any node and any words for its style
pub data OpensAny (o : Opening) (candidates : List ℕ) (lent : Lent) (has : Outcome) : Type 0 where
  of_run : Opens o candidates lent has → OpensAny o candidates lent has
  of_preview : (node : ℕ) (style : List ℕ) → PreviewOpens node style o candidates lent has → OpensAny o candidates lent has

pub data RepliesToAny (s : State) (reply : Reply) (surfaced : List ℕ) (lent : Lent) (has : Outcome) : Type 0 where
  of_run : RepliesTo s reply surfaced lent has → RepliesToAny s reply surfaced lent has
  of_preview : (node : ℕ) (style : List ℕ) → PreviewRepliesTo node style s reply surfaced lent has → RepliesToAny s reply surfaced lent has

-- ---- Any calls, of runs and of previews: each reply is given the state that the last call returned, and any words in slices of any length. `n`
-- questions were asked for box i, the record i of the working list, each while it was at hand; `m` were asked in all.

pub data AnyCalls (i : ℕ) : ℕ → ℕ → Outcome → Type 0 where
  opening :
      {has : Outcome} (o : Opening) (candidates : List ℕ) (lent : Lent)
      → OpensAny o candidates lent has
      → AnyCalls i (asked_for i has.step) (one_if_asked has.step.answer) has
  reply :
      {n m : ℕ} {before has : Outcome} (reply : Reply) (surfaced : List ℕ) (lent : Lent)
      → AnyCalls i n m before
      → RepliesToAny before.step.state reply surfaced lent has
      → AnyCalls i (n + asked_for i has.step) (m + one_if_asked has.step.answer) has

-- ---- Calls of which nobody else writes the tally (request #107): after an opening that isn't refused, each reply is given the state and the
-- tally that the last call left, and any other words, in slices of any length. A reply may be lent another tally if it is then refused: the
-- host's own keeps its words. `m` replies were accepted.

pub data TallyKept : ℕ → Outcome → Type 0 where
  opening :
      {has : Outcome} (o : Opening) (candidates : List ℕ) (lent : Lent)
      → OpensAny o candidates lent has
      → is_err has.step.answer ≡ false
      → TallyKept 0 has
  reply :
      {m : ℕ} {before has : Outcome} (reply : Reply) (surfaced : List ℕ) (lent : Lent)
      → TallyKept m before
      → lent.tally ≡ before.tally
      → RepliesToAny before.step.state reply surfaced lent has
      → TallyKept (m + one_if_accepted has.step.answer) has
  other_tally :
      {m : ℕ} {before left : Outcome} (reply : Reply) (surfaced : List ℕ) (lent : Lent)
      → TallyKept m before
      → RepliesToAny before.step.state reply surfaced lent left
      → is_err left.step.answer ≡ true
      → TallyKept m (outcome left.step left.layouts left.working left.unclaimed before.tally)

-- ---- A run: nobody else writes the lent words.

-- the run's own slices, with the words that the last call left in them
abbrev pub own_slices : List ℕ → Outcome → Lent
own_slices styles before = lent styles before.layouts before.working before.unclaimed before.tally

-- what the host has of a run after a reply: if it lent other slices, the run's own keep their words. By the call that takes replies
pub data TakesBy (replies : State → Reply → List ℕ → Lent → Outcome → Type 0) (styles : List ℕ) (before : Outcome) (h : Heard) : Loan → Outcome → Type 0 where
  lent_own :
      {has : Outcome}
      → replies before.step.state h.reply h.surfaced (own_slices styles before) has
      → TakesBy replies styles before h own has
  lent_other :
      {slices : Lent} {left : Outcome}
      → replies before.step.state h.reply h.surfaced slices left
      → TakesBy replies styles before h (other slices) (outcome left.step before.layouts before.working before.unclaimed before.tally)

-- an opening that isn't refused, then replies, each given the state that the last call returned. One that lends other slices is refused. By the
-- calls that open and that take replies
pub data RunBy
    (opens : Opening → List ℕ → Lent → Outcome → Type 0)
    (replies : State → Reply → List ℕ → Lent → Outcome → Type 0)
    (o : Opening)
    (candidates : List ℕ)
    (lent : Lent) : List Turn → Outcome → Type 0 where
  opening : {has : Outcome} → opens o candidates lent has → is_err has.step.answer ≡ false → RunBy opens replies o candidates lent [] has
  reply :
      {turns : List Turn} {before has : Outcome} (t : Turn)
      → RunBy opens replies o candidates lent turns before
      → TakesBy replies lent.styles before t.heard t.loan has
      → Lends t.loan has.step.answer
      → RunBy opens replies o candidates lent (turns ++ (t ∷ [])) has

-- what the host has after replies that were each refused, since it had `asked`
pub data RefusedBy (replies : State → Reply → List ℕ → Lent → Outcome → Type 0) (styles : List ℕ) (asked : Outcome) : Outcome → Type 0 where
  none : RefusedBy replies styles asked asked
  more :
      {before has : Outcome} (t : Turn)
      → RefusedBy replies styles asked before
      → TakesBy replies styles before t.heard t.loan has
      → is_err has.step.answer ≡ true
      → RefusedBy replies styles asked has

-- by `open` and `reply`
abbrev pub Takes : List ℕ → Outcome → Heard → Loan → Outcome → Type 0
Takes = TakesBy RepliesTo

abbrev pub Run : Opening → List ℕ → Lent → List Turn → Outcome → Type 0
Run = RunBy Opens RepliesTo

abbrev pub RefusedSince : List ℕ → Outcome → Outcome → Type 0
RefusedSince = RefusedBy RepliesTo

-- by `preview_open` and `preview_reply`, "and at each call the same replacement and node"
abbrev pub PreviewTakes : ℕ → List ℕ → List ℕ → Outcome → Heard → Loan → Outcome → Type 0
PreviewTakes node style = TakesBy (PreviewRepliesTo node style)

abbrev pub Previews : ℕ → List ℕ → Opening → List ℕ → Lent → List Turn → Outcome → Type 0
Previews node style = RunBy (PreviewOpens node style) (PreviewRepliesTo node style)

abbrev pub PreviewRefusedSince : ℕ → List ℕ → List ℕ → Outcome → Outcome → Type 0
PreviewRefusedSince node style = RefusedBy (PreviewRepliesTo node style)

-- ---- A run and its mirror image, side by side: each message is one reply, given to both. What is asked of it is `Fair`
-- (mirror_run/specs/Runs.antt), by the state that came with it and by what was answered to it. `opens` and `replies` are the calls of the one, `opens'`
-- and `replies'` those of its image

pub data BothBy
    (opens opens' : Opening → List ℕ → Lent → Outcome → Type 0)
    (replies replies' : State → Reply → List ℕ → Lent → Outcome → Type 0)
    (o : Opening)
    (candidates : List ℕ)
    (lent lent' : Lent) : List Message → Outcome → Outcome → Type 0 where
  opening :
      {has has' : Outcome}
      → opens o candidates lent has
      → opens' (image_opening o) (image_candidates o.area candidates) lent' has'
      → BothBy opens opens' replies replies' o candidates lent lent' [] has has'
  reply :
      {messages : List Message} {before before' has has' : Outcome} (m : Message)
      → BothBy opens opens' replies replies' o candidates lent lent' messages before before'
      → TakesBy replies lent.styles before m.turn.heard m.turn.loan has
      → TakesBy replies' lent'.styles before' m.image.heard m.image.loan has'
      → Fair before.step.state has.step.answer m
      → BothBy opens opens' replies replies' o candidates lent lent' (messages ++ (m ∷ [])) has has'

-- by `open` and `reply`
abbrev pub BothRuns : Opening → List ℕ → Lent → Lent → List Message → Outcome → Outcome → Type 0
BothRuns = BothBy Opens Opens RepliesTo RepliesTo

-- previews: at each call the image is given the same node, and the mirror image of the style
abbrev pub BothPreviews : ℕ → List ℕ → Opening → List ℕ → Lent → Lent → List Message → Outcome → Outcome → Type 0
BothPreviews node style =
    BothBy (PreviewOpens node style) (PreviewOpens node (image_styles style)) (PreviewRepliesTo node style) (PreviewRepliesTo node (image_styles style))

-- P holds of what the host has of both after the opening and after each reply
abbrev pub AfterEach :
    {opens opens' : Opening → List ℕ → Lent → Outcome → Type 0} {replies replies' : State → Reply → List ℕ → Lent → Outcome → Type 0}
    {o : Opening} {candidates : List ℕ} {lent lent' : Lent} {messages : List Message} {has has' : Outcome}
    → (Outcome → Outcome → Type 0)
    → BothBy opens opens' replies replies' o candidates lent lent' messages has has'
    → Type 0
AfterEach P (BothBy.opening {has = has} {has' = has'} c c') = P has has'
AfterEach P (BothBy.reply {has = has} {has' = has'} m earlier c c' fair) = AfterEach P earlier × P has has'
