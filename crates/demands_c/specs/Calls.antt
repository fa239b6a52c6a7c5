-- What a C host does with the entries, and all that it knows of them: their contracts. The functions of src/lib.rt are the calls themselves
-- and ensure `Opens` or `RepliesTo` of each, those of src/preview.rt `PreviewOpens` or `PreviewRepliesTo`, so that what is shown here of
-- lists of such calls holds of the code. Assumes nothing.
use Rattle.std.specs.Prelude.{ℕ, ◌+◌, cond, not, ◌&&◌, List, [], ◌∷◌, ◌++◌, ◌≢◌, ◌≡◌, eqb}
use Rattle.tree_record.specs.Laws.{FitsSize, FitsPoint}
use Rattle.oof_box.specs.declared.question.Reply.{Reply}
use Rattle.run.specs.Call.{Lent}
use Rattle.run.specs.Theorems.{Heard, Loan, own, other, Turn}
use Rattle.run.specs.declared.Opening.{Opening}
use Rattle.oof_c_words.specs.StateWords.{at}
use Rattle.oof_c_words.specs.Entry.{Words, words, Returned, opened_in_words, replied_in_words, preview_opened_in_words, preview_replied_in_words}
use Rattle.oof_c_words.specs.Laws.{FitsReply}

-- ---- A call, and what the host has after it: its result, and the words that it may write.

abbrev pub Opens : Opening → List ℕ → List ℕ → Words → Returned → Type 0
Opens o candidates styles before has = has ≡ opened_in_words o candidates styles before

abbrev pub RepliesTo : Reply → List ℕ → List ℕ → Words → Returned → Type 0
RepliesTo reply surfaced styles before has = has ≡ replied_in_words reply surfaced styles before

-- request #109: a preview's, with a node and the words of the style in its place
abbrev pub PreviewOpens : ℕ → List ℕ → Opening → List ℕ → List ℕ → Words → Returned → Type 0
PreviewOpens node style o candidates styles before has = has ≡ preview_opened_in_words o candidates styles node style before

abbrev pub PreviewRepliesTo : ℕ → List ℕ → Reply → List ℕ → List ℕ → Words → Returned → Type 0
PreviewRepliesTo node style reply surfaced styles before has = has ≡ preview_replied_in_words reply surfaced styles node style before

-- a run's, or a preview's with any node and any words for its style
pub data OpensAny (o : Opening) (candidates styles : List ℕ) (before : Words) (has : Returned) : Type 0 where
  of_run : Opens o candidates styles before has → OpensAny o candidates styles before has
  of_preview : (node : ℕ) (style : List ℕ) → PreviewOpens node style o candidates styles before has → OpensAny o candidates styles before has

pub data RepliesToAny (reply : Reply) (surfaced styles : List ℕ) (before : Words) (has : Returned) : Type 0 where
  of_run : RepliesTo reply surfaced styles before has → RepliesToAny reply surfaced styles before has
  of_preview : (node : ℕ) (style : List ℕ) → PreviewRepliesTo node style reply surfaced styles before has → RepliesToAny reply surfaced styles before has

-- an opening's floats are f32s, as a C call's are
abbrev pub FitsOpening : Opening → Type 0
FitsOpening o = FitsSize o.area.size × FitsPoint o.area.offset

-- ---- Any calls, of runs and of previews: each reply is lent the state's words that the last call left, and any other words, in slices of any
-- length.

-- the questions that a call asked for box i, record i of the working list, as its words say: its result is 0, its answer's kind isn't 0, a
-- finish, and i + 1 boxes are begun
abbrev pub asked_for : ℕ → Returned → ℕ
asked_for i has =
    cond (eqb has.result 0 && not (eqb (at has.words.answer 0) 0) && eqb (at has.words.state 9) (i + 1)) 1 0

-- `n` questions were asked for box i
pub data AnyCalls (i : ℕ) : ℕ → Returned → Type 0 where
  opening :
      {has : Returned} (o : Opening) (candidates styles : List ℕ) (before : Words)
      → FitsOpening o
      → OpensAny o candidates styles before has
      → AnyCalls i (asked_for i has) has
  reply :
      {n : ℕ} {last has : Returned} (reply : Reply) (surfaced styles : List ℕ) (before : Words)
      → FitsReply reply
      → AnyCalls i n last
      → before.state ≡ last.words.state
      → RepliesToAny reply surfaced styles before has
      → AnyCalls i (n + asked_for i has) has

-- ---- Calls, of runs and of previews, of which nobody else writes the tally: after an opening that isn't refused, each reply is lent the tally's and
-- the state's words as the last call left them, and any other words, in slices of any length. A reply may be lent another tally if it is then
-- refused: the host's own keeps its words. `m` replies were accepted.

-- a result is 0 where the call is accepted
abbrev pub one_if_accepted : ℕ → ℕ
one_if_accepted result = cond (eqb result 0) 1 0

pub data TallyKept : ℕ → Returned → Type 0 where
  opening :
      {has : Returned} (o : Opening) (candidates styles : List ℕ) (before : Words)
      → FitsOpening o
      → OpensAny o candidates styles before has
      → has.result ≡ 0
      → TallyKept 0 has
  reply :
      {m : ℕ} {last has : Returned} (reply : Reply) (surfaced styles : List ℕ) (before : Words)
      → FitsReply reply
      → TallyKept m last
      → before.state ≡ last.words.state
      → before.tally ≡ last.words.tally
      → RepliesToAny reply surfaced styles before has
      → TallyKept (m + one_if_accepted has.result) has
  other_tally :
      {m : ℕ} {last left : Returned} (reply : Reply) (surfaced styles : List ℕ) (before : Words)
      → TallyKept m last
      → before.state ≡ last.words.state
      → RepliesToAny reply surfaced styles before left
      → left.result ≢ 0
      → TallyKept m
      (record {
        result = left.result;
        words = words left.words.layouts left.words.working left.words.unclaimed last.words.tally left.words.state left.words.answer;
      })

-- ---- A run: nobody else writes the lent words, the state's and the answer's.

-- what the host has of a run after a reply: if it lent other slices, the run's own keep their words. By the call that takes replies
pub data TakesBy
    (replies : Reply → List ℕ → List ℕ → Words → Returned → Type 0)
    (styles : List ℕ)
    (last : Words)
    (h : Heard) : Loan → Returned → Type 0 where
  lent_own : {has : Returned} → replies h.reply h.surfaced styles last has → TakesBy replies styles last h own has
  lent_other :
      {slices : Lent} {left : Returned}
      → replies h.reply h.surfaced slices.styles (words slices.layouts slices.working slices.unclaimed slices.tally last.state last.answer) left
      → TakesBy replies styles last h (other slices)
      (record {
        result = left.result;
        words = words last.layouts last.working last.unclaimed last.tally left.words.state left.words.answer;
      })

-- other slices are lent with a call only where it is refused
abbrev pub Lends : Loan → ℕ → Type 0
Lends own result = Unit {0}
Lends (other slices) result = result ≢ 0

-- an opening that isn't refused, then replies, each lent what the last call left. By the calls that open and that take replies
pub data RunBy
    (opens : Opening → List ℕ → List ℕ → Words → Returned → Type 0)
    (replies : Reply → List ℕ → List ℕ → Words → Returned → Type 0)
    (o : Opening)
    (candidates styles : List ℕ)
    (before : Words) : List Turn → Returned → Type 0 where
  opening :
      {has : Returned} → FitsOpening o → opens o candidates styles before has → has.result ≡ 0
      → RunBy opens replies o candidates styles before [] has
  reply :
      {turns : List Turn} {last has : Returned} (t : Turn)
      → FitsReply t.heard.reply
      → RunBy opens replies o candidates styles before turns last
      → TakesBy replies styles last.words t.heard t.loan has
      → Lends t.loan has.result
      → RunBy opens replies o candidates styles before (turns ++ (t ∷ [])) has

-- by `oof_open` and the `oof_reply` entries
abbrev pub Takes : List ℕ → Words → Heard → Loan → Returned → Type 0
Takes = TakesBy RepliesTo

abbrev pub Run : Opening → List ℕ → List ℕ → Words → List Turn → Returned → Type 0
Run = RunBy Opens RepliesTo

-- by `oof_preview_open` and the `oof_preview_reply` entries, "and at each call the same replacement and node"
abbrev pub Previews : ℕ → List ℕ → Opening → List ℕ → List ℕ → Words → List Turn → Returned → Type 0
Previews node style = RunBy (PreviewOpens node style) (PreviewRepliesTo node style)
