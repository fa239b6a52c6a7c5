-- The run read straight through: the boxes one after another, each as oof_box/specs/Box.antt defines it, over candidates and styles and
-- not over words (`perform_oof_layout` of the Rust). Assumes nothing.
use Rattle.std.specs.Prelude.{ℕ, zero, suc, List, [], ◌∷◌, ◌++◌, map, Float}
use Rattle.geometry.specs.Geometry.{union_of, zero_rect}
use Rattle.geometry.specs.declared.Rect.{Rect}
use Rattle.style.specs.declared.Style.{Style}
use Rattle.style.specs.declared.ContainingBlockClaims.{ContainingBlockClaims}
use Rattle.tree.specs.Static.{translated}
use Rattle.tree.specs.declared.layout.Layout.{Layout}
use Rattle.tree.specs.declared.layout.OofCandidate.{OofCandidate}
use Rattle.sweep.specs.Sweep.{claimed, others}
use Rattle.oof_resolve.specs.declared.ContainingBlock.{ContainingBlock}
use Rattle.oof_box.specs.Talk.{Talk, done, ask, ReplyTo}
use Rattle.oof_box.specs.Box.{placed, Placed}
use Rattle.oof_box.specs.declared.question.Question.{Question}

-- a box that was laid out
pub record Box : Type 0 where
  pub candidate : OofCandidate
  pub layout : Layout

-- how far a run has come: the boxes laid out, in turn; the claimed candidates that wait; the unclaimed ones; the overflow so far
pub record World : Type 0 where
  pub laid : List Box
  pub waiting : List OofCandidate
  pub unclaimed : List OofCandidate
  pub overflow : Rect Float

-- at the opening: candidates claimed, or not
unfoldable pub at_opening : ContainingBlockClaims → List OofCandidate → World
at_opening by cs = record { laid = []; waiting = claimed by cs; unclaimed = others by cs; overflow = zero_rect }

-- after the box of c, behind which `rest` wait: what it surfaced, shifted by its location, is claimed at the rear, or not; its
-- contribution is joined
unfoldable pub after_box : ContainingBlockClaims → World → OofCandidate → List OofCandidate → Placed → World
after_box by w c rest p =
    let more = map (λ s. translated s p.outcome.layout.location) p.surfaced in
    record {
      laid = w.laid ++ (record { candidate = c; layout = p.outcome.layout } ∷ []);
      waiting = rest ++ claimed by more;
      unclaimed = w.unclaimed ++ others by more;
      overflow = union_of w.overflow p.outcome.contribution;
    }

-- the course of a run: at each question, and at the end, how far it has come
pub data Course : Type 0 where
  ended : World → Course
  asks : World → (q : Question) → (ReplyTo q → Course) → Course

-- the dialogue of a box, during which the world stays as it is; then what follows
unfoldable pub during : World → Talk Placed → (Placed → Course) → Course
during w (done p) next = next p
during w (ask q reply) next = asks w q (λ r. during w (reply r) next)

-- the boxes that wait, from the front; `most` bounds their number, since a host may surface ever more
unfoldable pub boxes : ℕ → ContainingBlock → ContainingBlockClaims → (ℕ → Style) → World → List OofCandidate → Course
boxes zero container by style w waiting = ended w
boxes (suc most) container by style w [] = ended w
boxes (suc most) container by style w (c ∷ rest) =
    during w (placed container (style c.node) c) (λ p. let next = after_box by w c rest p in boxes most container by style next next.waiting)

-- a whole run
unfoldable pub straight : ℕ → ContainingBlock → ContainingBlockClaims → (ℕ → Style) → List OofCandidate → Course
straight most container by style cs = let w = at_opening by cs in boxes most container by style w w.waiting
