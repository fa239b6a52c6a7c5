-- From one question to the next: both runs ask the same, or both finish. Assumes nothing.
use Prim.Native.Nat.{◌+◌, ◌-◌, ◌<◌, ◌≤◌}
use native.Mathlib.Omega.{arith}
use mathlib.Core.Path.{◌≡◌, refl, subst}
use mathlib.Core.Bool.{Bool, true, false, cond}
use lib.Dec.{ltb}
use borrow.Author.Tests.{ltb-true}
use Rattle.std.specs.Prelude.{Some, None, Ok}
use Rattle.style.specs.declared.ContainingBlockClaims.{ContainingBlockClaims}
use Rattle.style_record.specs.Record.{items}
use Rattle.style_record.specs.Decode.{style_at}
use Rattle.oof_box.specs.Cut.{no_replies, asked_after}
use Rattle.oof_box.specs.declared.question.Asked.{Asked}
use Rattle.oof_box.specs.declared.question.Replies.{Replies}
use Rattle.oof_box.specs.declared.question.Stage.{Stage}
use Rattle.run.specs.declared.Counts.{Counts}
use Rattle.run.specs.declared.Opened.{Opened}
use Rattle.run.specs.declared.Step.{Step}
use Rattle.run.specs.declared.Answer.TheVariants.{Ask}
use Rattle.run.specs.Call.{Outcome}
use Rattle.run.specs.Refusals.{bad_style}
use Rattle.run.specs.Run.{box_at_hand, asking, finishing, proceeding}
use Rattle.mirror_box.specs.Quarter.{QuarterReplies}
use Rattle.mirror_box.specs.Mirrored.{SameAsked, SameRect}
use Rattle.mirror_run.specs.Image.{image_styles}
use Rattle.mirror_run.specs.Runs.{ask, finish}
use Rattle.mirror_run.proofs.Lists.{first_each}
use Rattle.mirror_run.proofs.Linked.{Frame, QuarterFrame, Shared, Own, outcome_of, Ready, box_of, Accepted, Lists, Within, Laid, Blocks, Linked, linked}
use Rattle.mirror_run.proofs.Box.{asked_same}

abbrev pub opened_of : Frame → ContainingBlockClaims → Own → Opened
opened_of f by p = record { container = p.container; claims = by; extents = f.extents }

-- a step, and the words that it leaves
abbrev pub leaving : Step → Own → Outcome
leaving step p = record { step = step; layouts = p.layouts; working = p.working; unclaimed = p.unclaimed; tally = p.tally }

module _ (f : Frame) (q : QuarterFrame f) (style : bad_style f.styles ≡ false) (by : ContainingBlockClaims) (p p' : Own) (blocks : Blocks f p p') (overflow : SameRect p.overflow p'.overflow) where
  -- a box of the working list, and its image
  pub ready_at : (c : Counts) → Lists f c.filled p p' → 0 < c.begun → c.begun ≤ c.filled.working
      → Ready f.container.area (items f.styles) (box_of p (c.begun - 1)) (box_of p' (c.begun - 1))
  ready_at c lists h l = first_each c.filled.working p.working p'.working lists.claimed (c.begun - 1) (omega arith)

  -- both ask
  pub asks_linked : (c : Counts) (replies : Replies) → Lists f c.filled p p' → Laid f (c.begun - 1) p p' → (Accepted f → Within c.answered p.tally) → QuarterReplies replies
      → 0 < c.begun → c.begun ≤ c.filled.working
      → Linked f (leaving (asking f.styles p.working (opened_of f by p) c p.overflow replies) p)
      (leaving (asking (image_styles f.styles) p'.working (opened_of f by p') c p'.overflow replies) p')
  unfolding asking box_at_hand
  asks_linked c replies lists laid within given h l =
      let b = box_of p (c.begun - 1) in
      let b' = box_of p' (c.begun - 1) in
      at (asked_after p.container (style_at f.styles b.node) b replies) (asked_after p'.container (style_at (image_styles f.styles) b'.node) b' replies)
      (asked_same f q p p' blocks style b b' (ready_at c lists h l) replies given)
    where
      shared : Stage → Shared
      shared stage = record { progress = Some stage; replies = replies; counts = c; claims = by }

      at : (a a' : Asked) → SameAsked a a' → Linked f (outcome_of f (shared a.stage) p (Ok (Ask a.question))) (outcome_of f (shared a'.stage) p' (Ok (Ask a'.question)))
      at a a' e =
          subst (λ (stage : Stage). Linked f (outcome_of f (shared a.stage) p (Ok (Ask a.question))) (outcome_of f (shared stage) p' (Ok (Ask a'.question)))) e.stage
          (linked (shared a.stage) p p' (record { lists = lists; laid = laid; overflow = overflow; replies = given; blocks = λ stage s. blocks; within = within }) (ask e.question))

  -- both go on to the next box, or both finish
  pub proceeds_linked : (c : Counts) → Lists f c.filled p p' → Laid f c.begun p p' → (Accepted f → Within c.answered p.tally)
      → Linked f (leaving (proceeding f.styles p.working (opened_of f by p) c p.overflow) p)
      (leaving (proceeding (image_styles f.styles) p'.working (opened_of f by p') c p'.overflow) p')
  unfolding proceeding finishing
  proceeds_linked c lists laid within = go (ltb c.begun c.filled.working) refl
    where
      more : Counts
      more = record { filled = c.filled; begun = c.begun + 1; answered = c.answered }

      go : (b : Bool) → ltb c.begun c.filled.working ≡ b
          → Linked f
          (leaving (cond b (asking f.styles p.working (opened_of f by p) more p.overflow no_replies) (finishing (opened_of f by p) c p.overflow)) p)
          (leaving (cond b (asking (image_styles f.styles) p'.working (opened_of f by p') more p'.overflow no_replies) (finishing (opened_of f by p') c p'.overflow)) p')
      go true e =
          let l = ltb-true c.begun c.filled.working e in
          asks_linked more no_replies lists (λ i h. laid i (omega arith)) within (record { keyword = tt; fill = tt }) (omega arith) (omega arith)
      go false e =
          linked (record { progress = None; replies = no_replies; counts = c; claims = by }) p p'
          (record { lists = lists; laid = laid; overflow = overflow; replies = record { keyword = tt; fill = tt }; blocks = λ stage s. blocks; within = within })
          (finish overflow refl)
