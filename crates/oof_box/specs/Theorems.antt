-- What is proved of one box beside the contracts, as statements. proofs/Talks.antt and proofs/Floor.antt prove each, under its name in
-- small letters.
-- Assumes nothing.
use Rattle.std.specs.Prelude.{ℕ, suc, ◌≡◌, Bool, true, false, Float, Option, None, Some, is_some}
use mathlib.Core.List.{List, foldl}
use Rattle.util.specs.Laws.{AtOrAbove}
use Rattle.geometry.specs.Geometry.{sums, rect_sum}
use Rattle.geometry.specs.declared.Rect.{Rect}
use Rattle.geometry.specs.declared.Size.{Size}
use Rattle.style.specs.declared.Style.{Style}
use Rattle.tree.specs.declared.layout.OofCandidate.{OofCandidate}
use Rattle.oof_resolve.specs.declared.ContainingBlock.{ContainingBlock}
use Rattle.oof_box.specs.Talk.{Talk, done, ask, ReplyTo, Laid}
use Rattle.oof_box.specs.Box.{placed, Placed}
use Rattle.oof_box.specs.Cut.{no_replies, taken, asked_after, layout_after}
use Rattle.oof_box.specs.declared.question.LayoutInput.{LayoutInput}
use Rattle.oof_box.specs.declared.question.Question.{Question}
use Rattle.oof_box.specs.declared.question.Question.TheVariants.{MeasureBoth, MeasureWidth, MeasureHeight, LayOut}
use Rattle.oof_box.specs.declared.question.Reply.{Reply}
use Rattle.oof_box.specs.declared.question.Reply.TheVariants as reply
use Rattle.oof_box.specs.declared.question.Stage.{Stage}
use Rattle.oof_box.specs.declared.question.Stage.TheVariants as stage
use Rattle.oof_box.specs.declared.question.Replies.{Replies}
use Rattle.oof_box.specs.declared.question.Taken.{Taken}
use Rattle.oof_box.specs.declared.question.Taken.TheVariants as taking

-- ---- The definition in the code's cut (specs/Cut.antt), fed any list of replies, gives the questions and the layout of the definition read straight
-- through (specs/Box.antt). The contracts say that the code is the cut.

-- a reply as the host gives it: what it says, and the candidates lent with it, which only lay out reads
pub record Heard : Type 0 where
  pub reply : Reply
  pub surfaced : List OofCandidate

-- The definition, fed replies: one that is of its question's kind leads on, any other changes nothing.

abbrev pub both_in : Reply → Option (Size Float)
both_in (reply.Both s) = Some s
both_in _ = None

abbrev pub width_in : Reply → Option Float
width_in (reply.Width w) = Some w
width_in _ = None

abbrev pub height_in : Reply → Option Float
height_in (reply.Height h) = Some h
height_in _ = None

abbrev pub laid_in : Reply → List OofCandidate → Option Laid
laid_in (reply.LaidOut overflow) surfaced = Some (record { overflow = overflow; surfaced = surfaced })
laid_in _ surfaced = None

abbrev pub reply_to : (q : Question) → Heard → Option (ReplyTo q)
reply_to (MeasureBoth m) h = both_in h.reply
reply_to (MeasureWidth m) h = width_in h.reply
reply_to (MeasureHeight m) h = height_in h.reply
reply_to (LayOut l) h = laid_in h.reply h.surfaced

abbrev pub or_stay : {A R : Type 0} → Option R → (R → Talk A) → Talk A → Talk A
or_stay None next stay = stay
or_stay (Some r) next stay = next r

abbrev pub after : {A : Type 0} → Talk A → Heard → Talk A
after (done p) h = done p
after (ask q next) h = or_stay (reply_to q h) next (ask q next)

-- The cut, fed replies: each is taken at the box's stage; one that is kept brings the next question, by all that is kept.

pub data Standing : Type 0 where
  waiting : Stage → Replies → Standing
  finished : Placed → Standing

abbrev pub on_taken : ContainingBlock → Style → OofCandidate → Stage → Replies → List OofCandidate → Option Taken → Standing
on_taken container style candidate at replies surfaced None = waiting at replies
on_taken container style candidate at replies surfaced (Some (taking.Kept r)) = waiting (asked_after container style candidate r).stage r
on_taken container style candidate at replies surfaced (Some (taking.Laid overflow)) =
    finished (record { outcome = layout_after container style candidate replies overflow; surfaced = surfaced })

abbrev pub step : ContainingBlock → Style → OofCandidate → Standing → Heard → Standing
step container style candidate (waiting at replies) h = on_taken container style candidate at replies h.surfaced (taken replies at h.reply)
step container style candidate (finished p) h = finished p

abbrev pub begun : ContainingBlock → Style → OofCandidate → Standing
begun container style candidate = waiting (asked_after container style candidate no_replies).stage no_replies

-- What the host sees: the open question, or the outcome.

pub data Seen : Type 0 where
  asked : Question → Seen
  ended : Placed → Seen

abbrev pub seen_of : Talk Placed → Seen
seen_of (done p) = ended p
seen_of (ask q next) = asked q

abbrev pub seen_by : ContainingBlock → Style → OofCandidate → Standing → Seen
seen_by container style candidate (waiting at replies) = asked (asked_after container style candidate replies).question
seen_by container style candidate (finished p) = ended p

-- the two definitions are one
abbrev pub CutIsDefinition : Type 0
CutIsDefinition =
    (container : ContainingBlock) (style : Style) (candidate : OofCandidate) (heard : List Heard)
    → seen_by container style candidate (foldl (step container style candidate) (begun container style candidate) heard)
    ≡ seen_of (foldl after (placed container style candidate) heard)

-- ---- The final size: where padding plus border of an axis isn't NaN, the size is no NaN and at least that, whatever was replied, in
-- whatever stage, by whatever state.

abbrev pub SizeLaw : Type 0
SizeLaw =
    (container : ContainingBlock) (style : Style) (candidate : OofCandidate) (replies : Replies) (overflow : Rect Float)
    → let l = (layout_after container style candidate replies overflow).layout in
    let paddingBorder = sums (rect_sum l.padding l.border) in
    AtOrAbove paddingBorder.width l.size.width × AtOrAbove paddingBorder.height l.size.height

-- ---- A box asks at most three questions: at most two to measure, then one to lay out, and no other.

abbrev pub is_measure : Question → Bool
is_measure (MeasureBoth m) = true
is_measure (MeasureWidth m) = true
is_measure (MeasureHeight m) = true
is_measure (LayOut l) = false

-- at most n measure questions, then lay out, then done, whatever the replies
pub data LaysOutWithin : ℕ → Talk Placed → Type 0 where
  lays_out : {n : ℕ} {l : LayoutInput} {outcome : Laid → Placed} → LaysOutWithin n (ask (LayOut l) (λ r. done (outcome r)))
  measures :
      {n : ℕ} {q : Question} {next : ReplyTo q → Talk Placed}
      → is_measure q ≡ true
      → ((r : ReplyTo q) → LaysOutWithin n (next r))
      → LaysOutWithin (suc n) (ask q next)

abbrev pub ThreeQuestions : Type 0
ThreeQuestions = (container : ContainingBlock) (style : Style) (candidate : OofCandidate) → LaysOutWithin 2 (placed container style candidate)

-- ---- Stages only move forward, whatever words the caller has rewritten since: after a kept keyword reply no keyword question comes,
-- after a kept reply to step 6 only lay out.

abbrev pub is_keyword_stage : Stage → Bool
is_keyword_stage stage.KeywordBoth = true
is_keyword_stage stage.KeywordWidth = true
is_keyword_stage stage.KeywordHeight = true
is_keyword_stage stage.Fill = false
is_keyword_stage stage.LayOut = false

abbrev pub StagesMoveForward : Type 0
StagesMoveForward =
    (container : ContainingBlock) (style : Style) (candidate : OofCandidate) (replies : Replies)
    → (is_some replies.keyword ≡ true → is_keyword_stage (asked_after container style candidate replies).stage ≡ false)
    × (is_some replies.fill ≡ true → (asked_after container style candidate replies).stage ≡ stage.LayOut)
