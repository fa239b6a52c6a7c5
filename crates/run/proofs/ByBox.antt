-- At most three questions are asked for each box, and none for a box that isn't begun: while box i is at hand, those asked for it are at
-- most one more than the replies that are kept of it. Assumes nothing.
use Rattle.std.specs.Prelude.{Some, is_none, Option, None, Float}
use Prim.Native.Nat.{ℕ, ◌+◌, ◌≤◌}
use native.Mathlib.Omega.{arith}
use native.Mathlib.Nat.{add-zero, zero-add}
use mathlib.Core.Path.{◌≡◌, refl, ap, subst}
use mathlib.Core.Bool.{Bool, true, false, cond}
use mathlib.Core.List.{List, [], ◌∷◌}
use lib.Dec.{eqb}
use borrow.Author.Tests.{eqb-true, eqb-false}
use Rattle.util.proofs.Floats.{no}
use Rattle.geometry.specs.declared.Rect.{Rect}
use Rattle.oof_box.specs.declared.question.Stage.{Stage}
use Rattle.oof_box.specs.Cut.{no_replies}
use Rattle.oof_box.proofs.Talks.{stages_move_forward}
use Rattle.oof_box.specs.declared.question.Reply.{Reply}
use Rattle.oof_box.specs.declared.question.Replies.{Replies}
use Rattle.oof_box.specs.declared.question.Taken.TheVariants.{Kept}
use Rattle.run.specs.declared.Opening.{Opening}
use Rattle.run.specs.declared.Counts.{Counts}
use Rattle.run.specs.declared.Opened.{Opened}
use Rattle.run.specs.declared.State.{State}
use Rattle.run.specs.declared.Step.{Step}
use Rattle.run.specs.Call.{Lent}
use Rattle.run.specs.Run.{asking, finishing, proceeding, closed, begun, opened, measured_on, laid_out, taken_by, taken_in, refusing, replied}
use Rattle.run.specs.Theorems.{Call, asked_for, asked_for_in, ThreeQuestionsForEachBox}
use Rattle.run.proofs.Ways.{NextWay, asks, ends, next_way, OpeningWay, begins, opening_way, ReplyWay, measures, lays_out, reply_way}
use Rattle.run.proofs.Questions.{kept, at_most_two, Forward, OneMore, one_more}

-- while a question is open: by the questions asked for box i so far and the boxes begun
abbrev Open : ℕ → ℕ → ℕ → Replies → Option Stage → Type 0
Open i n begun r None = Unit {0}
Open i n begun r (Some stage) = (begun ≡ i + 1 → n ≤ kept r + 1) × Forward stage r

pub record ForBox (i n : ℕ) (s : State) : Type 0 where
  pub three : n ≤ 3
  pub none : s.counts.begun ≤ i → n ≡ 0
  pub now : Open i n s.counts.begun s.replies s.progress

-- after one more call: what it asked is counted
abbrev ForBoxBy : ℕ → ℕ → Step → Type 0
ForBoxBy i n t = ForBox i (n + asked_for i t) t.state

-- a question that is asked with room for it
asking_for : (i n : ℕ) (styles working : List ℕ) (run : Opened) (counts : Counts) (overflow : Rect Float) (r : Replies)
    → n ≤ 3
    → (counts.begun ≤ i → n ≡ 0)
    → (counts.begun ≡ i + 1 → n ≤ kept r)
    → ForBoxBy i n (asking styles working run counts overflow r)
unfolding asking
asking_for i n styles working run counts overflow r three none room = go (eqb counts.begun (i + 1)) refl
  where
    go : (b : Bool) → eqb counts.begun (i + 1) ≡ b → ForBoxBy i n (asking styles working run counts overflow r)
    go true e =
        let at = eqb-true counts.begun (i + 1) e in
        let most = at_most_two r in
        let k = room at in
        rw e
        (record { three = omega arith; none = λ h. omega arith; now = (λ h. omega arith, stages_move_forward _ _ _ r) })
    go false e =
        let off = eqb-false counts.begun (i + 1) e in
        rw (e, add-zero)
        (record { three = three; none = none; now = (λ h. let k = room h in omega arith, stages_move_forward _ _ _ r) })

-- the next box
proceeding_for : (i n : ℕ) (styles working : List ℕ) (run : Opened) (counts : Counts) (overflow : Rect Float) → n ≤ 3 → (counts.begun ≤ i → n ≡ 0)
    → ForBoxBy i n (proceeding styles working run counts overflow)
unfolding finishing
proceeding_for i n styles working run counts overflow three none = go (next_way styles working run counts overflow)
  where
    go : NextWay styles working run counts overflow → ForBoxBy i n (proceeding styles working run counts overflow)
    go (asks l e) =
        rw e
        (asking_for i n styles working run _ overflow no_replies three (λ h. none (omega arith))
        (λ h. let z = none (omega arith) in omega arith))
    go (ends l e) = rw e (finished (eqb counts.begun (i + 1)))
      where
        finished : (b : Bool) → ForBox i (n + cond b 0 0) (finishing run counts overflow).state
        finished true = rw add-zero (record { three = three; none = none; now = tt })
        finished false = rw add-zero (record { three = three; none = none; now = tt })

first_for : (i : ℕ) (o : Opening) (candidates : List ℕ) (lent : Lent) → ForBoxBy i 0 (opened o candidates lent).step
unfolding closed begun
first_for i o candidates lent = go (opening_way o candidates lent)
  where
    go : OpeningWay o candidates lent → ForBoxBy i 0 (opened o candidates lent).step
    go (OpeningWay.turned_down r e) = rw e (unasked (eqb 0 (i + 1)))
      where
        unasked : (b : Bool) → ForBox i (0 + cond b 0 0) (closed lent)
        unasked true = record { three = omega arith; none = λ h. refl; now = tt }
        unasked false = record { three = omega arith; none = λ h. refl; now = tt }
    go (begins v e) = rw e (proceeding_for i 0 _ _ _ _ _ (omega arith) (λ h. refl))

pub opening_for : (i : ℕ) (o : Opening) (candidates : List ℕ) (lent : Lent) → ForBox i (asked_for i (opened o candidates lent).step) (opened o candidates lent).step.state
opening_for i o candidates lent = rw zero-add at (first_for i o candidates lent)

-- a reply that is kept leaves room for one question more
one_kept : (i n begun : ℕ) (r : Replies) (p : Option Stage) (given : Reply) {after : Replies} → Open i n begun r p → taken_in p r given ≡ Some (Kept after)
    → begun ≡ i + 1
    → n ≤ kept after
one_kept i n begun r None given b e h = no {b = true} refl (ap is_none e)
one_kept i n begun r (Some stage) given b e h =
    let k = subst (OneMore r) e (one_more r stage given b.1) in
    let m = b.0 h in
    omega arith

pub reply_for : (i n : ℕ) (s : State) (given : Reply) (surfaced : List ℕ) (lent : Lent) → ForBox i n s → ForBoxBy i n (replied s given surfaced lent).step
unfolding taken_by measured_on laid_out
reply_for i n s given surfaced lent b = go (reply_way s given surfaced lent)
  where
    go : ReplyWay s given surfaced lent → ForBoxBy i n (replied s given surfaced lent).step
    go (ReplyWay.turned_down r e) = rw e (unasked (eqb s.counts.begun (i + 1)))
      where
        -- boxes begun, replies and progress are what they were
        unasked : (b : Bool) → ForBox i (n + cond b 0 0) (refusing s lent r).step.state
        unasked true = rw add-zero (record { three = b.three; none = b.none; now = b.now })
        unasked false = rw add-zero (record { three = b.three; none = b.none; now = b.now })
    go (measures replies v t e) =
        rw e (asking_for i n _ _ _ _ _ replies b.three b.none (one_kept i n s.counts.begun s.replies s.progress given b.now t))
    go (lays_out overflow v t e) = rw e (proceeding_for i n _ _ _ _ _ b.three b.none)

run_for : (i : ℕ) (calls : List Call) (n : ℕ) (s : State) → ForBox i n s → asked_for_in i n s calls ≤ 3
unfolding asked_for_in
run_for i [] n s b = b.three
run_for i (c ∷ calls) n s b = run_for i calls _ _ (reply_for i n s c.reply c.surfaced c.lent b)

pub three_questions_for_each_box : ThreeQuestionsForEachBox
three_questions_for_each_box i o candidates lent calls = run_for i calls _ _ (opening_for i o candidates lent)
