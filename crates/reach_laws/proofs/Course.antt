-- What is known of a run after its replies: its container and claims, that at the finish every box is laid out, and that it is heard in
-- whole quarters. Assumes nothing.
use Prim.Native.Nat.{ℕ, ◌≤◌}
use mathlib.Core.Bool.{Bool, true, false, cond}
use mathlib.Core.List.{List, [], ◌∷◌, map, foldl}
use mathlib.Core.Path.{◌≡◌, refl, sym, ap, ◌∙◌, subst}
use Rattle.std.specs.Prelude.{None, is_some, Result, is_err, All, Float}
use Rattle.util.proofs.Floats.{no}
use Rattle.geometry.specs.declared.Rect.{Rect}
use Rattle.style.specs.declared.ContainingBlockClaims.{ContainingBlockClaims}
use Rattle.sweep.specs.Sweep.{candidates_in, claimed}
use Rattle.oof_box.specs.declared.question.Reply.{Reply}
use Rattle.refusal.specs.declared.Refusal.{Refusal}
use Rattle.run.specs.declared.Answer.{Answer}
use Rattle.run.specs.declared.Counts.{Counts}
use Rattle.run.specs.declared.Opened.{Opened}
use Rattle.run.specs.declared.Opening.{Opening}
use Rattle.run.specs.declared.State.{State}
use Rattle.run.specs.declared.Step.{Step}
use Rattle.run.specs.Call.{Lent, Outcome}
use Rattle.run.specs.Run.{claims_of, container_of, asking, finishing, proceeding, closed, begun, measured_on, laid_out, replied}
use Rattle.run.specs.Theorems.{Loan, own, other, Turn, next, next_with, turned, Lends, AllLend, heeded}
use Rattle.run.proofs.Refusals.{refused_in, measured_accepts, laid_accepts, finished_refuses}
use Rattle.run.proofs.Ways.{NextWay, asks, ends, next_way, ReplyWay, turned_down, measures, lays_out, reply_way}
use Rattle.mirror_run.specs.Runs.{Message, run_next, image_next, surfaced_in, Fair, AllFair}
use Rattle.mirror_run.proofs.Unread.{accepted_read}
use Rattle.std.proofs.lemmas.List.Elements.{All-nil, All-cons}
use Rattle.pixels_laws.specs.Laws.{QuarterHeard}

-- ---- what each of the two is given

abbrev pub turns_of : List Message → List Turn
turns_of ms = map (λ (m : Message). m.turn) ms

abbrev pub images_of : List Message → List Turn
images_of ms = map (λ (m : Message). m.image) ms

pub turns_are : (styles : List ℕ) (x : Outcome) (ms : List Message) → foldl (turned styles) x (turns_of ms) ≡ foldl (run_next styles) x ms
turns_are styles x [] = refl
turns_are styles x (m ∷ ms) = turns_are styles (turned styles x m.turn) ms

pub images_are : (styles : List ℕ) (x : Outcome) (ms : List Message) → foldl (turned styles) x (images_of ms) ≡ foldl (image_next styles) x ms
images_are styles x [] = refl
images_are styles x (m ∷ ms) = images_are styles (turned styles x m.image) ms

-- ---- the states of a run whose opening was accepted

pub record Goes (o : Opening) (s : State) : Type 0 where
  pub container : s.opened.container ≡ container_of o
  pub claims : s.opened.claims ≡ claims_of o
  pub all : s.progress ≡ None → s.counts.filled.working ≤ s.counts.begun

module _ (o : Opening) where
  asking_goes : (styles working : List ℕ) (run : Opened) (counts : Counts) (overflow : Rect Float) (replies : _) → run.container ≡ container_of o → run.claims ≡ claims_of o
      → Goes o (asking styles working run counts overflow replies).state
  unfolding asking
  asking_goes styles working run counts overflow replies c d = record { container = c; claims = d; all = λ e. no {b = true} refl (ap is_some e) }

  finishing_goes : (run : Opened) (counts : Counts) (overflow : Rect Float) → run.container ≡ container_of o → run.claims ≡ claims_of o → counts.filled.working ≤ counts.begun
      → Goes o (finishing run counts overflow).state
  unfolding finishing
  finishing_goes run counts overflow c d h = record { container = c; claims = d; all = λ e. h }

  proceeding_goes : (styles working : List ℕ) (run : Opened) (counts : Counts) (overflow : Rect Float) → run.container ≡ container_of o → run.claims ≡ claims_of o
      → Goes o (proceeding styles working run counts overflow).state
  proceeding_goes styles working run counts overflow c d = go (next_way styles working run counts overflow)
    where
      go : NextWay styles working run counts overflow → Goes o (proceeding styles working run counts overflow).state
      go (asks h e) = subst (λ (step : Step). Goes o step.state) (sym e) (asking_goes styles working run _ overflow _ c d)
      go (ends h e) = subst (λ (step : Step). Goes o step.state) (sym e) (finishing_goes run counts overflow c d h)

  pub begun_goes : (candidates : List ℕ) (lent : Lent) → Goes o (begun o candidates lent).step.state
  unfolding begun
  begun_goes candidates lent = proceeding_goes lent.styles _ _ _ _ refl refl

  reply_goes : (s : State) (reply : Reply) (surfaced : List ℕ) (lent : Lent) → Goes o s → Goes o (replied s reply surfaced lent).step.state
  unfolding measured_on laid_out
  reply_goes s reply surfaced lent h = go (reply_way s reply surfaced lent)
    where
      go : ReplyWay s reply surfaced lent → Goes o (replied s reply surfaced lent).step.state
      go (turned_down r e) = subst (λ (x : Outcome). Goes o x.step.state) (sym e) h
      go (measures replies v t e) = subst (λ (x : Outcome). Goes o x.step.state) (sym e) (asking_goes lent.styles lent.working s.opened _ _ _ h.container h.claims)
      go (lays_out overflow v t e) = subst (λ (x : Outcome). Goes o x.step.state) (sym e) (proceeding_goes lent.styles _ s.opened _ _ h.container h.claims)

  turn_goes : (styles : List ℕ) (x : Outcome) (t : Turn) → Goes o x.step.state → Goes o (turned styles x t).step.state
  unfolding next
  turn_goes styles x t h = go t.loan
    where
      go : (l : Loan) → Goes o (next_with styles x t.heard l).step.state
      go own = reply_goes x.step.state t.heard.reply t.heard.surfaced _ h
      go (other lent) = reply_goes x.step.state t.heard.reply t.heard.surfaced lent h

  pub turns_go : (styles : List ℕ) (x : Outcome) (ts : List Turn) → Goes o x.step.state → Goes o (foldl (turned styles) x ts).step.state
  turns_go styles x [] h = h
  turns_go styles x (t ∷ ts) h = turns_go styles (turned styles x t) ts (turn_goes styles x t h)

  -- ---- messages that are fair: they are lent as a run's are, and those that aren't refused are of whole quarters

  lends : (before : State) (answer : Result Answer Refusal) (m : Message) → Fair before answer m → Lends m.turn.loan answer
  lends before answer m fair = go m.turn.loan refl
    where
      go : (l : Loan) → m.turn.loan ≡ l → Lends l answer
      go own e = tt
      go (other lent) e = read (is_err answer) refl
        where
          is_other : Loan → Bool
          is_other own = false
          is_other (other lent) = true

          read : (b : Bool) → is_err answer ≡ b → b ≡ true
          read true d = refl
          read false d = no refl (ap is_other (sym e ∙ (fair.words (accepted_read answer d)).slices))

  pub all_lend : (styles : List ℕ) (x : Outcome) (ms : List Message) → AllFair styles x ms → AllLend styles x (turns_of ms)
  all_lend styles x [] fair = tt
  all_lend styles x (m ∷ ms) fair =
      (lends x.step.state (turned styles x m.turn).step.answer m fair.0, all_lend styles (turned styles x m.turn) ms fair.1)

  pub all_heard : (styles : List ℕ) (x : Outcome) (ms : List Message) → Goes o x.step.state → AllFair styles x ms → All (QuarterHeard (claims_of o)) (heeded styles x (turns_of ms))
  unfolding heeded
  all_heard styles x [] h fair = All-nil (QuarterHeard (claims_of o))
  all_heard styles x (m ∷ ms) h fair = go (is_err (turned styles x m.turn).step.answer) refl (all_heard styles (turned styles x m.turn) ms (turn_goes styles x m.turn h) fair.1)
    where
      go : (b : Bool) → is_err (turned styles x m.turn).step.answer ≡ b
          → All (QuarterHeard (claims_of o)) (heeded styles (turned styles x m.turn) (turns_of ms))
          → All (QuarterHeard (claims_of o)) (cond b (heeded styles (turned styles x m.turn) (turns_of ms)) (m.turn.heard ∷ heeded styles (turned styles x m.turn) (turns_of ms)))
      go true e rest = rest
      go false e rest =
          All-cons (QuarterHeard (claims_of o)) _ _
          (fair.0.quarters e, subst (λ (by : ContainingBlockClaims). claimed by (candidates_in (surfaced_in m.turn)) ≡ []) h.claims (fair.0.surfaces_none e)) rest

-- ---- a run whose opening was refused: a finished one, without a box, stays so

pub record Shut (s : State) : Type 0 where
  pub finished : s.progress ≡ None
  pub none : s.counts.filled.working ≡ 0

reply_shut : (s : State) (reply : Reply) (surfaced : List ℕ) (lent : Lent) → Shut s → Shut (replied s reply surfaced lent).step.state
reply_shut s reply surfaced lent h = go (reply_way s reply surfaced lent)
  where
    refuses : is_err (replied s reply surfaced lent).step.answer ≡ true
    refuses = finished_refuses s reply surfaced lent h.finished

    go : ReplyWay s reply surfaced lent → Shut (replied s reply surfaced lent).step.state
    go (turned_down r e) = subst (λ (x : Outcome). Shut x.step.state) (sym e) h
    go (measures replies v t e) = no refuses (ap refused_in e ∙ measured_accepts s replies lent)
    go (lays_out overflow v t e) = no refuses (ap refused_in e ∙ laid_accepts s overflow surfaced lent)

turn_shut : (styles : List ℕ) (x : Outcome) (t : Turn) → Shut x.step.state → Shut (turned styles x t).step.state
unfolding next
turn_shut styles x t h = go t.loan
  where
    go : (l : Loan) → Shut (next_with styles x t.heard l).step.state
    go own = reply_shut x.step.state t.heard.reply t.heard.surfaced _ h
    go (other lent) = reply_shut x.step.state t.heard.reply t.heard.surfaced lent h

pub turns_shut : (styles : List ℕ) (x : Outcome) (ts : List Turn) → Shut x.step.state → Shut (foldl (turned styles) x ts).step.state
turns_shut styles x [] h = h
turns_shut styles x (t ∷ ts) h = turns_shut styles (turned styles x t) ts (turn_shut styles x t h)

pub closed_shut : (lent : Lent) → Shut (closed lent)
unfolding closed
closed_shut lent = record { finished = refl; none = refl }
