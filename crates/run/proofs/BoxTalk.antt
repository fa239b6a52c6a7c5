-- Where the dialogue of one box stands after the replies kept, alone and in the course of a run. Assumes nothing.
use Rattle.std.specs.Prelude.{Some, Option, None, Float}
use mathlib.Core.Path.{◌≡◌, refl, sym, ap, ◌∙◌, subst}
use mathlib.Core.List.{List, [], ◌∷◌, ◌++◌, foldl, foldl-append}
use Rattle.geometry.specs.declared.Rect.{Rect}
use Rattle.style.specs.declared.Style.{Style}
use Rattle.tree.specs.declared.layout.OofCandidate.{OofCandidate}
use Rattle.oof_resolve.specs.declared.ContainingBlock.{ContainingBlock}
use Rattle.sweep.specs.Sweep.{candidates_in}
use Rattle.oof_box.specs.Talk.{Talk, done, ask, ReplyTo}
use Rattle.oof_box.specs.Box.{placed, Placed}
use Rattle.oof_box.specs.Cut.{no_replies, taken, asked_after, layout_after}
use Rattle.oof_box.specs.Theorems.{Heard, reply_to, or_stay, after, Standing, waiting, on_taken, step, begun, Seen, asked, ended, seen_of, seen_by}
use Rattle.oof_box.proofs.Talks.{cut_is_definition}
use Rattle.oof_box.specs.declared.question.Question.{Question}
use Rattle.oof_box.specs.declared.question.Replies.{Replies}
use Rattle.oof_box.specs.declared.question.Taken.{Taken}
use Rattle.oof_box.specs.declared.question.Taken.TheVariants.{Kept, Laid}
use Rattle.run.specs.Straight.{World, Course, during}
use Rattle.run.specs.Theorems as run
use Rattle.run.specs.Theorems.{hearing}

-- a dialogue that asks this question
pub data Asks {A : Type 0} (q : Question) : Talk A → Type 0 where
  asks : (next : ReplyTo q → Talk A) → Asks q (ask q next)

-- what a box hears
abbrev pub heard_by : run.Heard → Heard
heard_by h = record { reply = h.reply; surfaced = candidates_in h.surfaced }

-- a reply to a box, in the course of a run
pub hearing_during : (w : World) (k : Placed → Course) (h : run.Heard) {q : Question} {t : Talk Placed} → Asks q t
    → hearing (during w t k) h ≡ during w (after t (heard_by h)) k
unfolding during hearing
hearing_during w k h {q} (asks next) = go (reply_to q (heard_by h))
  where
    go : (r : Option (ReplyTo q))
        → run.or_stay r (λ x. during w (next x) k) (Course.asks w q (λ x. during w (next x) k)) ≡ during w (or_stay r next (ask q next)) k
    go None = refl
    go (Some r) = refl

-- what the host sees tells where a dialogue stands
abbrev Shows : Talk Placed → Seen → Type 0
Shows t (asked q) = Asks q t
Shows t (ended p) = t ≡ done p

shows : (t : Talk Placed) → Shows t (seen_of t)
shows (done p) = refl
shows (ask q next) = asks next

module _ (container : ContainingBlock) (style : Style) (candidate : OofCandidate) where
  -- these replies are kept, and the box's dialogue is t
  pub record At (replies : Replies) (t : Talk Placed) : Type 0 where
    pub heard : List Heard
    pub code : foldl (step container style candidate) (begun container style candidate) heard ≡ waiting (asked_after container style candidate replies).stage replies
    pub talk : foldl after (placed container style candidate) heard ≡ t

  pub at_first : At no_replies (placed container style candidate)
  at_first = record { heard = []; code = refl; talk = refl }

  -- the host sees as much of the one as of the other
  shows_at : (hs : List Heard) {x : Standing} {t : Talk Placed}
      → foldl (step container style candidate) (begun container style candidate) hs ≡ x
      → foldl after (placed container style candidate) hs ≡ t
      → Shows t (seen_by container style candidate x)
  shows_at hs {t = t} d e =
      subst (Shows t) (sym (ap (seen_by container style candidate) (sym d) ∙ cut_is_definition container style candidate hs ∙ ap seen_of e)) (shows t)

  pub asks_at : {replies : Replies} {t : Talk Placed} → At replies t → Asks (asked_after container style candidate replies).question t
  asks_at a = shows_at a.heard a.code a.talk

  -- one reply more
  more : {A B : Type 0} (f : A → B → A) {x y : A} (z : A) (bs : List B) (b : B) → foldl f z bs ≡ x → f x b ≡ y → foldl f z (bs ++ (b ∷ [])) ≡ y
  more f z bs b d e = foldl-append f z bs (b ∷ []) ∙ ap (λ x. f x b) d ∙ e

  code_more : {replies : Replies} {t : Talk Placed} {o : Option Taken} (h : Heard) (a : At replies t)
      → taken replies (asked_after container style candidate replies).stage h.reply ≡ o
      → foldl (step container style candidate) (begun container style candidate) (a.heard ++ (h ∷ []))
      ≡ on_taken container style candidate (asked_after container style candidate replies).stage replies h.surfaced o
  code_more {replies} h a e =
      more (step container style candidate) _ a.heard h a.code
      (ap (on_taken container style candidate (asked_after container style candidate replies).stage replies h.surfaced) e)

  pub kept_at : {replies r : Replies} {t : Talk Placed} (h : Heard) → At replies t
      → taken replies (asked_after container style candidate replies).stage h.reply ≡ Some (Kept r)
      → At r (after t h)
  kept_at h a e = record { heard = a.heard ++ (h ∷ []); code = code_more h a e; talk = more after _ a.heard h a.talk refl }

  pub laid_at_lem : {replies : Replies} {t : Talk Placed} {overflow : Rect Float} (h : Heard) → At replies t
      → taken replies (asked_after container style candidate replies).stage h.reply ≡ Some (Laid overflow)
      → after t h ≡ done (record { outcome = layout_after container style candidate replies overflow; surfaced = h.surfaced })
  laid_at_lem h a e = shows_at (a.heard ++ (h ∷ [])) (code_more h a e) (more after _ a.heard h a.talk refl)
