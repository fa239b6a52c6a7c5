-- At most three questions are asked for each box begun. Between two calls of a run: a finished one has asked at most three questions a
-- box; one that asks has asked one question more than the replies that it keeps of the box at hand, and at most three for each box
-- before. Assumes nothing.
use Rattle.std.specs.Prelude.{Option, None, Some, is_none, is_some, Float}
use Prim.Native.Nat.{ℕ, ◌+◌, ◌*◌, ◌≤◌}
use native.Mathlib.Omega.{arith}
use native.Mathlib.Nat.{add-zero, zero-add}
use mathlib.Core.Path.{◌≡◌, refl, ap, subst}
use mathlib.Core.Bool.{Bool, true, false}
use mathlib.Core.List.{List, [], ◌∷◌, foldl}
use Rattle.util.proofs.Floats.{no}
use Rattle.geometry.specs.declared.Rect.{Rect}
use Rattle.oof_box.specs.Cut.{no_replies, taken}
use Rattle.oof_box.specs.Theorems.{is_keyword_stage}
use Rattle.oof_box.proofs.Talks.{stages_move_forward}
use Rattle.oof_box.specs.declared.question.Reply.{Reply}
use Rattle.oof_box.specs.declared.question.Reply.TheVariants as reply
use Rattle.oof_box.specs.declared.question.Replies.{Replies}
use Rattle.oof_box.specs.declared.question.Stage.{Stage}
use Rattle.oof_box.specs.declared.question.Stage.TheVariants.{KeywordBoth, KeywordWidth, KeywordHeight, Fill, LayOut}
use Rattle.oof_box.specs.declared.question.Taken.{Taken}
use Rattle.oof_box.specs.declared.question.Taken.TheVariants.{Kept, Laid}
use Rattle.run.specs.declared.Opening.{Opening}
use Rattle.run.specs.declared.Counts.{Counts}
use Rattle.run.specs.declared.Opened.{Opened}
use Rattle.run.specs.declared.State.{State}
use Rattle.run.specs.declared.Step.{Step}
use Rattle.run.specs.Call.{Lent}
use Rattle.run.specs.Run.{asking, finishing, proceeding, closed, begun, opened, measured_on, laid_out, taken_by, taken_in, replied}
use Rattle.run.specs.Theorems.{Call, Asked, one_if_asked, asked_at_opening, asked_with, ThreeQuestionsABox, BegunAreHoisted}
use Rattle.run.proofs.Ways.{NextWay, asks, ends, next_way, OpeningWay, begins, opening_way, ReplyWay, measures, lays_out, reply_way}

-- ---- the replies kept of the box at hand

abbrev pub one : Bool → ℕ
one true = 1
one false = 0

abbrev pub kept : Replies → ℕ
kept r = one (is_some r.keyword) + one (is_some r.fill)

pub at_most_two : (r : Replies) → kept r ≤ 2
at_most_two r = go (is_some r.keyword) (is_some r.fill)
  where
    go : (a b : Bool) → one a + one b ≤ 2
    go true true = omega arith
    go true false = omega arith
    go false true = omega arith
    go false false = omega arith

-- the open question is behind no kept reply
abbrev pub Forward : Stage → Replies → Type 0
Forward stage r = (is_some r.keyword ≡ true → is_keyword_stage stage ≡ false) × (is_some r.fill ≡ true → stage ≡ LayOut)

is_lay_out : Stage → Bool
is_lay_out KeywordBoth = false
is_lay_out KeywordWidth = false
is_lay_out KeywordHeight = false
is_lay_out Fill = false
is_lay_out LayOut = true

-- what a question asks for is not kept yet
not_given : (stage : Stage) (r : Replies) → Forward stage r → is_keyword_stage stage ≡ true → is_some r.keyword ≡ false
not_given stage r f k = go (is_some r.keyword) refl
  where
    go : (b : Bool) → is_some r.keyword ≡ b → b ≡ false
    go true e = no k (f.0 e)
    go false e = refl

not_filled : (stage : Stage) (r : Replies) → Forward stage r → is_lay_out stage ≡ false → is_some r.fill ≡ false
unfolding is_lay_out
not_filled stage r f k = go (is_some r.fill) refl
  where
    go : (b : Bool) → is_some r.fill ≡ b → b ≡ false
    go true e = no (ap is_lay_out (f.1 e)) k
    go false e = refl

-- so each reply that is kept is one more
abbrev pub OneMore : Replies → Option Taken → Type 0
OneMore r None = Unit {0}
OneMore r (Some (Kept after)) = kept after ≡ kept r + 1
OneMore r (Some (Laid overflow)) = Unit {0}

pub one_more : (r : Replies) (stage : Stage) (given : Reply) → Forward stage r → OneMore r (taken r stage given)
unfolding taken is_lay_out
one_more r stage given f = go stage given (not_given stage r f) (not_filled stage r f)
  where
    keyword : is_some r.keyword ≡ false → 1 + one (is_some r.fill) ≡ kept r + 1
    keyword e = rw e (omega arith)

    filled : is_some r.fill ≡ false → one (is_some r.keyword) + 1 ≡ kept r + 1
    filled e = rw e (omega arith)

    go : (stage : Stage) (given : Reply) → (is_keyword_stage stage ≡ true → is_some r.keyword ≡ false)
        → (is_lay_out stage ≡ false → is_some r.fill ≡ false)
        → OneMore r (taken r stage given)
    go KeywordBoth (reply.Both s) g h = keyword (g refl)
    go KeywordWidth (reply.Width w) g h = keyword (g refl)
    go KeywordHeight (reply.Height y) g h = keyword (g refl)
    go Fill (reply.Both s) g h = filled (h refl)
    go LayOut (reply.LaidOut o) g h = tt
    go _ _ g h = tt

-- ---- between two calls

-- by the questions asked so far, the boxes begun, and whether one is asked now
abbrev pub Within : ℕ → ℕ → Replies → Option Stage → Type 0
Within questions begun r None = questions ≤ 3 * begun
Within questions begun r (Some stage) = (questions + 2 ≤ 3 * begun + kept r) × Forward stage r

abbrev pub Bounded : ℕ → State → Type 0
Bounded questions s = Within questions s.counts.begun s.replies s.progress

pub three_at_most : (questions : ℕ) (s : State) → Bounded questions s → questions ≤ 3 * s.counts.begun
three_at_most questions s b = go s.progress b
  where
    go : (p : Option Stage) → Within questions s.counts.begun s.replies p → questions ≤ 3 * s.counts.begun
    go None b = b
    go (Some stage) b = let n = b.0 in omega (arith, at_most_two s.replies)

-- after one more call: what it asked is counted
abbrev pub BoundedBy : ℕ → Step → Type 0
BoundedBy questions t = Bounded (questions + one_if_asked t.answer) t.state

-- a reply that is kept leaves room for one question more
one_kept : (questions begun : ℕ) (r : Replies) (p : Option Stage) (given : Reply) {after : Replies} → Within questions begun r p
    → taken_in p r given ≡ Some (Kept after)
    → questions + 3 ≤ 3 * begun + kept after
one_kept questions begun r None given b e = no {b = true} refl (ap is_none e)
one_kept questions begun r (Some stage) given b e =
    let n = b.0 in
    let k = subst (OneMore r) e (one_more r stage given b.1) in
    omega arith

asking_bounded : (styles working : List ℕ) (run : Opened) (counts : Counts) (overflow : Rect Float) (r : Replies) (questions : ℕ)
    → questions + 3 ≤ 3 * counts.begun + kept r
    → BoundedBy questions (asking styles working run counts overflow r)
unfolding asking
asking_bounded styles working run counts overflow r questions h = (omega arith, stages_move_forward _ _ _ r)

proceeding_bounded : (styles working : List ℕ) (run : Opened) (counts : Counts) (overflow : Rect Float) (questions : ℕ)
    → questions ≤ 3 * counts.begun
    → BoundedBy questions (proceeding styles working run counts overflow)
unfolding finishing
proceeding_bounded styles working run counts overflow questions h = go (next_way styles working run counts overflow)
  where
    go : NextWay styles working run counts overflow → BoundedBy questions (proceeding styles working run counts overflow)
    go (asks l e) = rw e (asking_bounded styles working run _ overflow no_replies questions (omega arith))
    go (ends l e) = rw e (omega arith)

pub opening_bounded : (o : Opening) (candidates : List ℕ) (lent : Lent) → BoundedBy 0 (opened o candidates lent).step
unfolding closed begun
opening_bounded o candidates lent = go (opening_way o candidates lent)
  where
    go : OpeningWay o candidates lent → BoundedBy 0 (opened o candidates lent).step
    go (OpeningWay.turned_down r e) = rw e (omega arith)
    go (begins v e) = rw e (proceeding_bounded _ _ _ _ _ 0 (omega arith))

pub reply_bounded : (questions : ℕ) (s : State) (given : Reply) (surfaced : List ℕ) (lent : Lent) → Bounded questions s
    → BoundedBy questions (replied s given surfaced lent).step
unfolding taken_by measured_on laid_out
reply_bounded questions s given surfaced lent b = go (reply_way s given surfaced lent)
  where
    go : ReplyWay s given surfaced lent → BoundedBy questions (replied s given surfaced lent).step
    go (ReplyWay.turned_down r e) = rw (e, add-zero) b
    go (measures replies v t e) = rw e (asking_bounded _ _ _ _ _ replies questions (one_kept questions s.counts.begun s.replies s.progress given b t))
    go (lays_out overflow v t e) = rw e (proceeding_bounded _ _ _ _ _ questions (three_at_most questions s b))

run_bounded : (a : Asked) (calls : List Call) → Bounded a.questions a.state
    → let z = foldl asked_with a calls in
    z.questions ≤ 3 * z.state.counts.begun
unfolding asked_with
run_bounded a [] b = three_at_most a.questions a.state b
run_bounded a (c ∷ calls) b = run_bounded (asked_with a c) calls (reply_bounded a.questions a.state c.reply c.surfaced c.lent b)

pub three_questions_a_box : ThreeQuestionsABox
unfolding asked_at_opening
three_questions_a_box o candidates lent calls =
    run_bounded (asked_at_opening o candidates lent) calls (rw zero-add at (opening_bounded o candidates lent))

-- ---- the boxes begun are among the filled records

abbrev pub Hoisted : State → Type 0
Hoisted s = s.counts.begun ≤ s.counts.filled.working

proceeding_hoisted : (styles working : List ℕ) (run : Opened) (counts : Counts) (overflow : Rect Float) → counts.begun ≤ counts.filled.working
    → Hoisted (proceeding styles working run counts overflow).state
unfolding asking finishing
proceeding_hoisted styles working run counts overflow h = go (next_way styles working run counts overflow)
  where
    go : NextWay styles working run counts overflow → Hoisted (proceeding styles working run counts overflow).state
    go (asks l e) = rw e (omega arith)
    go (ends l e) = rw e h

pub opening_hoisted : (o : Opening) (candidates : List ℕ) (lent : Lent) → Hoisted (opened o candidates lent).step.state
unfolding closed begun
opening_hoisted o candidates lent = go (opening_way o candidates lent)
  where
    go : OpeningWay o candidates lent → Hoisted (opened o candidates lent).step.state
    go (OpeningWay.turned_down r e) = rw e (omega arith)
    go (begins v e) = rw e (proceeding_hoisted _ _ _ _ _ (omega arith))

pub reply_hoisted : (s : State) (given : Reply) (surfaced : List ℕ) (lent : Lent) → Hoisted s → Hoisted (replied s given surfaced lent).step.state
unfolding measured_on asking laid_out
reply_hoisted s given surfaced lent h = go (reply_way s given surfaced lent)
  where
    go : ReplyWay s given surfaced lent → Hoisted (replied s given surfaced lent).step.state
    go (ReplyWay.turned_down r e) = rw e h
    go (measures replies v t e) = rw e h
    go (lays_out overflow v t e) = rw e (proceeding_hoisted _ _ _ _ _ (omega arith))

run_hoisted : (a : Asked) (calls : List Call) → Hoisted a.state → Hoisted (foldl asked_with a calls).state
unfolding asked_with
run_hoisted a [] h = h
run_hoisted a (c ∷ calls) h = run_hoisted (asked_with a c) calls (reply_hoisted a.state c.reply c.surfaced c.lent h)

pub begun_are_hoisted : BegunAreHoisted
unfolding asked_at_opening
begun_are_hoisted o candidates lent calls = run_hoisted (asked_at_opening o candidates lent) calls (opening_hoisted o candidates lent)
