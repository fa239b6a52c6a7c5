-- The size told in a lay-out question is the size written. Assumes nothing.
use Prim.Native.Nat.{ℕ, ◌*◌}
use mathlib.Core.Path.{◌≡◌, refl, sym, ap, subst, ◌∙◌}
use mathlib.Core.Bool.{Bool, true, false}
use mathlib.Core.List.{List, [], ◌∷◌, foldl}
use Rattle.std.specs.Prelude.{Option, Some, None, Result, Ok, Err, is_err, Float}
use Rattle.util.proofs.Floats.{no}
use Rattle.geometry.specs.declared.Rect.{Rect}
use Rattle.geometry.specs.declared.Size.{Size}
use Rattle.style.specs.declared.Style.{Style}
use Rattle.tree.specs.declared.layout.OofCandidate.{OofCandidate}
use Rattle.records.specs.Records.{written}
use Rattle.tree_record.specs.Layout.{layout_width, layout_words}
use Rattle.style_record.specs.Decode.{style_at}
use Rattle.oof_resolve.specs.Resolved.{resolved_box}
use Rattle.oof_resolve.specs.declared.ContainingBlock.{ContainingBlock}
use Rattle.oof_place.specs.Placing.{layout_of, box_layout}
use Rattle.oof_box.specs.declared.question.Stage.{Stage}
use Rattle.oof_box.specs.Box.{size_keywords}
use Rattle.oof_box.specs.Cut.{size_by, asked_after, layout_after, sizing}
use Rattle.oof_box.specs.declared.question.LayoutInput.{LayoutInput}
use Rattle.oof_box.specs.declared.question.Question.{Question}
use Rattle.oof_box.specs.declared.question.Question.TheVariants.{MeasureBoth, MeasureWidth, MeasureHeight, LayOut}
use Rattle.oof_box.specs.declared.question.Replies.{Replies}
use Rattle.oof_box.specs.declared.question.Reply.TheVariants.{LaidOut}
use Rattle.refusal.specs.declared.Refusal.{Refusal}
use Rattle.run.specs.declared.Counts.{Counts}
use Rattle.run.specs.declared.Opened.{Opened}
use Rattle.run.specs.declared.State.{State}
use Rattle.run.specs.declared.Answer.{Answer}
use Rattle.run.specs.declared.Answer.TheVariants.{Ask, Finish}
use Rattle.run.specs.declared.Step.{Step}
use Rattle.run.specs.Call.{Lent, Outcome}
use Rattle.run.specs.Run.{box_at_hand, asking, finishing, proceeding, begun, opened, charged, measured_on, laid_out, replied}
use Rattle.run.specs.Theorems.{item_named, NamedItemCounts, Heard, next, Turn, turned, open_by, open_in, Left, opening, reply, AllRefused, WroteSize, ToldIsWritten}
use Rattle.run.proofs.Ways.{NextWay, asks, ends, next_way, OpeningWay, begins, opening_way, ReplyWay, measures, lays_out, reply_way, never_kept}
use Rattle.run.proofs.Refusals.{refused_in, saying, turn_refused}
use Rattle.run.proofs.EachQuestion.{of_asked, item_is_named}
use Rattle.run.proofs.Sums.{reply_counts_one}

-- ---- of a box

abbrev Tells : ℕ → Size Float → Question → Type 0
Tells node size (MeasureBoth m) = Unit {0}
Tells node size (MeasureWidth m) = Unit {0}
Tells node size (MeasureHeight m) = Unit {0}
Tells node size (LayOut l) = (node ≡ l.node) × (size ≡ l.size)

pub asked_size : (container : ContainingBlock) (style : Style) (candidate : OofCandidate) (replies : Replies) (overflow : Rect Float) (input : LayoutInput)
    → (asked_after container style candidate replies).question ≡ LayOut input
    → (candidate.node ≡ input.node) × ((layout_after container style candidate replies overflow).layout.size ≡ input.size)
unfolding layout_after box_layout layout_of
asked_size container style candidate replies overflow input e =
    let box = resolved_box container style candidate in
    subst (Tells candidate.node (size_by (sizing style box (size_keywords style box) replies))) e
    (of_asked (λ a. Tells candidate.node (size_by (sizing style box (size_keywords style box) replies)) a.question)
    candidate
    (record { both = λ m e. tt; width = λ m e. tt; height = λ m e. tt; fill = λ m e. tt })
    container style replies
    (λ space. (refl, refl)))

-- ---- what a call says is what it leaves open

abbrev open_at : List ℕ → List ℕ → Step → Result Answer Refusal
open_at styles working step = open_by step.state.progress styles working step.state

proceeding_open : (styles working : List ℕ) (run : Opened) (counts : Counts) (overflow : Rect Float)
    → open_at styles working (proceeding styles working run counts overflow) ≡ (proceeding styles working run counts overflow).answer
unfolding asking finishing
proceeding_open styles working run counts overflow = go (next_way styles working run counts overflow)
  where
    go : NextWay styles working run counts overflow
        → open_at styles working (proceeding styles working run counts overflow) ≡ (proceeding styles working run counts overflow).answer
    go (asks h e) = rw e refl
    go (ends h e) = rw e refl

left_open : {styles : List ℕ} {o : Outcome} → Left styles o → refused_in o ≡ false → open_in styles o ≡ o.step.answer
unfolding begun measured_on asking laid_out
left_open (opening o candidates lent s) n = subst (λ (l : List ℕ). open_in l (opened o candidates lent) ≡ (opened o candidates lent).step.answer) s (go (opening_way o candidates lent))
  where
    go : OpeningWay o candidates lent → open_in lent.styles (opened o candidates lent) ≡ (opened o candidates lent).step.answer
    go (OpeningWay.turned_down r e) = no (ap refused_in e) n
    go (begins v e) = rw e (proceeding_open lent.styles _ _ _ _)
left_open (reply s given surfaced lent l) n = subst (λ (l : List ℕ). open_in l (replied s given surfaced lent) ≡ (replied s given surfaced lent).step.answer) l (go (reply_way s given surfaced lent))
  where
    go : ReplyWay s given surfaced lent → open_in lent.styles (replied s given surfaced lent) ≡ (replied s given surfaced lent).step.answer
    go (ReplyWay.turned_down r e) = no (ap refused_in e) n
    go (measures replies v t e) = rw e refl
    go (lays_out overflow v t e) = rw e (proceeding_open lent.styles _ _ _ _)

-- ---- refused replies between

all_refused : (styles : List ℕ) (o : Outcome) (ts : List Turn) → AllRefused styles o ts
    → foldl (turned styles) o ts ≡ saying (foldl (turned styles) o ts).step.answer o
all_refused styles o [] r = refl
all_refused styles o (t ∷ ts) r =
    let a = (foldl (turned styles) (turned styles o t) ts).step.answer in
    all_refused styles (turned styles o t) ts r.1 ∙ ap (saying a) (turn_refused styles o t r.0)

-- ---- the reply that lays out

abbrev is_ask : Result Answer Refusal → Bool
is_ask (Ok (Ask q)) = true
is_ask (Ok (Finish f)) = false
is_ask (Err r) = false

abbrev question_in : Result Answer Refusal → Question → Question
question_in (Ok (Ask q)) other = q
question_in (Ok (Finish f)) other = other
question_in (Err r) other = other

-- the question that is open is that of the box at hand
open_question : (p : Option Stage) (styles working : List ℕ) (s : State) (q : Question) → open_by p styles working s ≡ Ok (Ask q)
    → let box = box_at_hand working s.counts in
    (asked_after s.opened.container (style_at styles box.node) box s.replies).question ≡ q
open_question None styles working s q e = no {b = false} (ap is_ask e) refl
open_question (Some stage) styles working s q e = ap (λ (a : Result Answer Refusal). question_in a q) e

pub lays_out_lem : (styles : List ℕ) (o : Outcome) (input : LayoutInput) (overflow : Rect Float) (surfaced : List ℕ)
    → open_in styles o ≡ Ok (Ask (LayOut input))
    → let last = next styles o (record { reply = LaidOut overflow; surfaced = surfaced }) in
    refused_in last ≡ false
    → WroteSize input o.layouts last.layouts
unfolding next laid_out
lays_out_lem styles o input overflow surfaced e n = go (reply_way s (LaidOut overflow) surfaced lent)
  where
    s : State
    s = o.step.state

    lent : Lent
    lent = record { styles = styles; layouts = o.layouts; working = o.working; unclaimed = o.unclaimed; tally = o.tally }

    box : OofCandidate
    box = box_at_hand o.working s.counts

    go : ReplyWay s (LaidOut overflow) surfaced lent → WroteSize input o.layouts (replied s (LaidOut overflow) surfaced lent).layouts
    go (ReplyWay.turned_down r x) = no (ap refused_in x) n
    go (measures replies v t x) = never_kept s overflow t
    go (lays_out rect v t x) =
        let layout = (layout_after s.opened.container (style_at styles box.node) box s.replies rect).layout in
        let told = asked_size s.opened.container (style_at styles box.node) box s.replies rect input (open_question s.progress styles o.working s (LayOut input) e) in
        record {
          layout = layout;
          wrote = ap (λ (x : Outcome). x.layouts) x ∙ ap (λ (node : ℕ). written o.layouts (layout_width * node) (layout_words layout)) told.0;
          size = told.1;
        }

pub told_is_written : ToldIsWritten
unfolding next
told_is_written styles o input between overflow surfaced left e refused n =
    let h : Heard = record { reply = LaidOut overflow; surfaced = surfaced } in
    let same = ap (λ (x : Outcome). next styles x h) (all_refused styles o between refused) in
    subst (λ (x : Outcome). WroteSize input o.layouts x.layouts) (sym same)
    (lays_out_lem styles o input overflow surfaced (left_open left (ap is_err e) ∙ e) (sym (ap refused_in same) ∙ n))

-- ---- the item that counts is the one that was named

pub named_item_counts : NamedItemCounts
named_item_counts styles asked q given surfaced lent left e stands n =
    let s = asked.step.state in
    let box = box_at_hand asked.working s.counts in
    let told = open_question s.progress styles asked.working s q (left_open left (ap is_err e) ∙ e) in
    (reply_counts_one s given surfaced lent n).tally
    ∙ ap (λ (c : OofCandidate). charged lent.tally c.node) stands
    ∙ ap (charged lent.tally) (sym (item_is_named s.opened.container (style_at styles box.node) box s.replies) ∙ ap item_named told)
