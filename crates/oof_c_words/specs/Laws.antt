-- What the words of a C call mean, as statements. `proofs/` proves each, under its name in small letters.
-- `fits binary32 x` says that x is a value of an f32, written in its one way: true of every f32 of a program. Assumes nothing.
use Rattle.std.specs.Prelude.{ℕ, ◌<◌, ◌≡◌, T, ℤ, length, replicate, unwrap_or, Float}
use mathlib.Core.List.{List, [], map, foldl}
use Rattle.std.specs.Float.Ieee.{fits}
use Rattle.std.specs.Float.{binary32}
use Rattle.geometry.specs.Geometry.{zero_size}
use Rattle.geometry.specs.declared.Point.{Point}
use Rattle.tree_record.specs.Laws.{FitsSize, FitsPoint, FitsRect}
use Rattle.oof_box.specs.declared.question.Reply.{Reply}
use Rattle.oof_box.specs.declared.question.Reply.TheVariants.{Both, Width, Height, LaidOut}
use Rattle.run.specs.Call.{Lent}
use Rattle.run.specs.Run.{closed, opened, replied}
use Rattle.run.specs.Theorems.{Call, asked_at_opening, asked_with}
use Rattle.run.specs.declared.Opening.{Opening}
use Rattle.run.specs.declared.State.{State}
use Rattle.oof_c_words.specs.StateWords.{at, keyword_width, keyword_height, state_of, state_words}
use Rattle.oof_c_words.specs.Entry.{Words, words, lent_in, opened_in_words, replied_in_words}
use Rattle.oof_c_words.specs.PixelWords.{pixels_in_words}

-- ---- the words of a state mean that state

-- its floats are f32s
pub record Floats (s : State) : Type 0 where
  pub keyword_width : T (fits binary32 (keyword_width s.replies.keyword))
  pub keyword_height : T (fits binary32 (keyword_height s.replies.keyword))
  pub fill : FitsSize (unwrap_or s.replies.fill zero_size)
  pub overflow : FitsRect s.overflow
  pub size : FitsSize s.opened.container.area.size
  pub offset : FitsPoint s.opened.container.area.offset

abbrev pub InAWord : ℕ → Type 0
InAWord n = n < 4294967296

-- its counts and lengths are below 2 ^ 32
pub record Counted (s : State) : Type 0 where
  pub working : InAWord s.counts.filled.working
  pub unclaimed : InAWord s.counts.filled.unclaimed
  pub begun : InAWord s.counts.begun
  pub answered : InAWord s.counts.answered
  pub styles_lent : InAWord s.opened.extents.styles
  pub layouts_lent : InAWord s.opened.extents.layouts
  pub working_lent : InAWord s.opened.extents.working
  pub unclaimed_lent : InAWord s.opened.extents.unclaimed
  pub tally_lent : InAWord s.opened.extents.tally

abbrev pub StateBack : Type 0
StateBack = (s : State) → Floats s → Counted s → state_of (state_words s) ≡ s

-- 28 zeros are a finished run with all counts 0, opened over nothing
abbrev pub ZeroState : Type 0
ZeroState = state_of (replicate 28 0) ≡ closed (record { styles = []; layouts = []; working = []; unclaimed = []; tally = [] })

-- ---- a call of a run whose result isn't 0 writes no lent word

-- a refused opening leaves the state of a finished run with all counts 0 and the lengths as lent; every other word stays
abbrev pub RefusedOpeningCloses : Type 0
RefusedOpeningCloses =
    (o : Opening) (candidates styles : List ℕ) (before : Words)
    → ((opened_in_words o candidates styles before).result ≡ 0 → ⊥)
    → (opened_in_words o candidates styles before).words
    ≡ words before.layouts before.working before.unclaimed before.tally (state_words (closed (lent_in styles before))) before.answer

-- so no reply is taken after it, whatever is lent with one
abbrev pub NoReplyAfterRefusedOpening : Type 0
NoReplyAfterRefusedOpening =
    (o : Opening) (candidates styles : List ℕ) (before : Words)
    → ((opened_in_words o candidates styles before).result ≡ 0 → ⊥)
    → (reply : Reply) (surfaced styles' : List ℕ) (later : Words)
    → later.state ≡ (opened_in_words o candidates styles before).words.state
    → (replied_in_words reply surfaced styles' later).result ≡ 0
    → ⊥

-- a refused reply leaves every word, those of state and answer included
abbrev pub RefusedReplyWritesNothing : Type 0
RefusedReplyWritesNothing =
    (reply : Reply) (surfaced styles : List ℕ) (before : Words)
    → ((replied_in_words reply surfaced styles before).result ≡ 0 → ⊥)
    → (replied_in_words reply surfaced styles before).words ≡ before

-- ---- a run by C calls is the run of the definition

abbrev pub FitsReply : Reply → Type 0
FitsReply (Both size) = FitsSize size
FitsReply (Width width) = T (fits binary32 width)
FitsReply (Height height) = T (fits binary32 height)
FitsReply (LaidOut overflow) = FitsRect overflow

-- slices of fewer than 2 ^ 32 words each
pub record Short (lent : Lent) : Type 0 where
  pub styles : InAWord (length lent.styles)
  pub layouts : InAWord (length lent.layouts)
  pub working : InAWord (length lent.working)
  pub unclaimed : InAWord (length lent.unclaimed)
  pub tally : InAWord (length lent.tally)

-- an opening whose floats are f32s and whose lengths a state's words can keep: an accepted one's always are such
pub record Keeps (o : Opening) (candidates styles : List ℕ) (before : Words) : Type 0 where
  pub size : FitsSize o.area.size
  pub offset : FitsPoint o.area.offset
  pub lengths : ((opened_in_words o candidates styles before).result ≡ 0 → ⊥) → Short (lent_in styles before)

-- the words that an opening writes mean the state that it returns, refused or not
abbrev pub OpeningIsKept : Type 0
OpeningIsKept =
    (o : Opening) (candidates styles : List ℕ) (before : Words) → Keeps o candidates styles before
    → state_of (opened_in_words o candidates styles before).words.state ≡ (opened o candidates (lent_in styles before)).step.state

-- and so do those after a reply
abbrev pub ReplyIsKept : Type 0
ReplyIsKept =
    (reply : Reply) (surfaced styles : List ℕ) (before : Words) → FitsReply reply
    → state_of (replied_in_words reply surfaced styles before).words.state
    ≡ (replied (state_of before.state) reply surfaced (lent_in styles before)).step.state

-- a reply by a C call, with all that it is lent but the state's words
pub record Made : Type 0 where
  pub reply : Reply
  pub floats : FitsReply reply
  pub surfaced : List ℕ
  pub lent : Lent
  pub answer : List ℕ

-- lent these words of the state, it leaves those
unfoldable pub state_after : List ℕ → Made → List ℕ
state_after state c =
    (replied_in_words c.reply c.surfaced c.lent.styles (words c.lent.layouts c.lent.working c.lent.unclaimed c.lent.tally state c.answer)).words.state

-- as the theorems of run/specs/Theorems.antt have it
abbrev pub call : Made → Call
call c = record { reply = c.reply; surfaced = c.surfaced; lent = c.lent }

-- after any opening and any replies, each lent the state's words that the last call left and any other words, the state's words mean the
-- state that those theorems speak of
abbrev pub RunIsKept : Type 0
RunIsKept =
    (o : Opening) (candidates styles : List ℕ) (before : Words) (calls : List Made) → Keeps o candidates styles before
    → state_of (foldl state_after (opened_in_words o candidates styles before).words.state calls)
    ≡ (foldl asked_with (asked_at_opening o candidates (lent_in styles before)) (map call calls)).state

-- ---- pixel edges: of a layout's words only x, y, width and height are read

abbrev pub OnlyFourWordsAreRead : Type 0
OnlyFourWordsAreRead =
    (a b : List ℕ) (offset : Point Float) (before : List ℤ)
    → at a 9 ≡ at b 9 → at a 10 ≡ at b 10 → at a 1 ≡ at b 1 → at a 2 ≡ at b 2
    → pixels_in_words a offset before ≡ pixels_in_words b offset before
