-- What a run and its image have in common between calls: all of the state but the block and the overflow, and their words as far as the
-- boxes go. Assumes nothing.
use Prim.Native.Nat.{ℕ, ◌<◌, ◌≤◌}
use mathlib.Core.Path.{◌≡◌, refl}
use mathlib.Core.Bool.{false}
use mathlib.Core.List.{List, map}
use lib.ListN.{length, get_or}
use Rattle.std.specs.Prelude.{Option, Some, Result, is_err, Float}
use Rattle.geometry.specs.declared.Rect.{Rect}
use Rattle.style.specs.declared.ContainingBlockClaims.{ContainingBlockClaims}
use Rattle.tree.specs.declared.layout.Layout.{Layout}
use Rattle.tree.specs.declared.layout.OofCandidate.{OofCandidate}
use Rattle.tree.specs.declared.layout.OofPositioningArea.{OofPositioningArea}
use Rattle.records.specs.Records.{record_at}
use Rattle.tree_record.specs.Candidate.{candidate_width, candidate_of}
use Rattle.tree_record.specs.Layout.{layout_width, layout_of}
use Rattle.style_record.specs.Record.{items}
use Rattle.style_record.specs.Decode.{style_at}
use Rattle.sweep.specs.Sweep.{first_candidates}
use Rattle.sweep.specs.declared.Filled.{Filled}
use Rattle.sweep.proofs.Listed.{IsBelow}
use Rattle.oof_resolve.specs.declared.ContainingBlock.{ContainingBlock}
use Rattle.oof_box.specs.declared.question.Replies.{Replies}
use Rattle.oof_box.specs.declared.question.Stage.{Stage}
use Rattle.refusal.specs.declared.Refusal.{Refusal}
use Rattle.run.specs.declared.Counts.{Counts}
use Rattle.run.specs.declared.Extents.{Extents}
use Rattle.run.specs.declared.State.{State}
use Rattle.run.specs.declared.Answer.{Answer}
use Rattle.run.specs.Call.{Lent, Outcome}
use Rattle.run.specs.Refusals.{bad_style, bad_candidate}
use Rattle.run.specs.Run.{extents_of}
use Rattle.mirror_box.specs.Image.{image_container}
use Rattle.mirror_box.specs.Quarter.{QuarterContainer, QuarterStyle, QuarterCandidate, QuarterReplies}
use Rattle.mirror_box.specs.Mirrored.{CandidateImage, MirroredLayout, SameRect}
use Rattle.mirror_run.specs.Image.{image_styles}
use Rattle.mirror_run.specs.Runs.{SameAnswer, Each, none, one, Unclaimed, MirroredRuns}
use Rattle.run.specs.Theorems.{laid_count}
use Rattle.mirror_run.proofs.Lists.{each_weaker}

-- ---- what never changes

pub record Frame : Type 0 where
  pub container : ContainingBlock
  pub styles : List ℕ
  pub extents : Extents
  pub opening : Outcome

-- as demand 3 asks, of a table that passes refusal 3
pub record QuarterFrame (f : Frame) : Type 0 where
  pub container : QuarterContainer f.container
  pub style : bad_style f.styles ≡ false → (i : ℕ) → i < items f.styles → QuarterStyle (style_at f.styles i)

-- ---- what the two share, and what each has for itself

pub record Shared : Type 0 where
  pub progress : Option Stage
  pub replies : Replies
  pub counts : Counts
  pub claims : ContainingBlockClaims

pub record Own : Type 0 where
  pub container : ContainingBlock
  pub overflow : Rect Float
  pub layouts : List ℕ
  pub working : List ℕ
  pub unclaimed : List ℕ
  pub tally : List ℕ

abbrev pub state_of : Frame → Shared → Own → State
state_of f s p =
    record {
      progress = s.progress;
      replies = s.replies;
      counts = s.counts;
      overflow = p.overflow;
      opened = record { container = p.container; claims = s.claims; extents = f.extents };
    }

abbrev pub outcome_of : Frame → Shared → Own → Result Answer Refusal → Outcome
outcome_of f s p a =
    record { step = record { state = state_of f s p; answer = a }; layouts = p.layouts; working = p.working; unclaimed = p.unclaimed; tally = p.tally }

abbrev pub lent_of : List ℕ → Own → Lent
lent_of styles p = record { styles = styles; layouts = p.layouts; working = p.working; unclaimed = p.unclaimed; tally = p.tally }

-- a claimed candidate, its image, its item and its layer
pub record Ready (area : OofPositioningArea) (n : ℕ) (c c' : OofCandidate) : Type 0 where
  pub image : CandidateImage area c c'
  pub quarter : QuarterCandidate c
  pub there : IsBelow n c

-- box i of a working list, and its layout
abbrev pub box_of : Own → ℕ → OofCandidate
box_of p i = candidate_of (record_at candidate_width p.working i)

abbrev pub layout_at : Own → ℕ → Layout
layout_at p node = layout_of (record_at layout_width p.layouts node)

-- whether the opening was accepted
abbrev pub Accepted : Frame → Type 0
Accepted f = is_err f.opening.step.answer ≡ false

-- the lists, and the tallies
pub record Lists (f : Frame) (filled : Filled) (p p' : Own) : Type 0 where
  pub lengths : extents_of (lent_of f.styles p) ≡ f.extents
  pub lengths' : extents_of (lent_of (image_styles f.styles) p') ≡ f.extents
  pub claimed : Each (Ready f.container.area (items f.styles)) (first_candidates filled.working p.working) (first_candidates filled.working p'.working)
  pub good : bad_candidate f.styles p.working filled.working ≡ false
  pub good' : bad_candidate (image_styles f.styles) p'.working filled.working ≡ false
  pub unclaimed : Unclaimed f.container.area f.opening.step.state.counts.filled.unclaimed (first_candidates filled.unclaimed p.unclaimed) (first_candidates filled.unclaimed p'.unclaimed)
  pub tally : Accepted f → p.tally ≡ p'.tally

-- no word of a tally is above n
abbrev pub Within : ℕ → List ℕ → Type 0
Within n tally = (i : ℕ) → i < length tally → get_or tally i 0 ≤ n

-- the boxes laid out
abbrev pub Laid : Frame → ℕ → Own → Own → Type 0
Laid f n p p' = (i : ℕ) → i < n → MirroredLayout f.container.area (layout_at p (box_of p i).node) (layout_at p' (box_of p' i).node)

-- while a question is open, each has its block, and the opening was accepted
abbrev pub Blocks : Frame → Own → Own → Type 0
Blocks f p p' = (p.container ≡ f.container) × (p'.container ≡ image_container f.container) × Accepted f

pub record Links (f : Frame) (s : Shared) (p p' : Own) : Type 0 where
  pub lists : Lists f s.counts.filled p p'
  pub laid : Laid f (laid_count s.progress s.counts.begun) p p'
  pub overflow : SameRect p.overflow p'.overflow
  pub replies : QuarterReplies s.replies
  pub blocks : (stage : Stage) → s.progress ≡ Some stage → Blocks f p p'
  pub within : Accepted f → Within s.counts.answered p.tally

pub data Linked (f : Frame) : Outcome → Outcome → Type 0 where
  linked :
      (s : Shared) (p p' : Own) {a a' : Result Answer Refusal} → Links f s p p' → SameAnswer a a' → Linked f (outcome_of f s p a) (outcome_of f s p' a')

pub both_are : (f : Frame) {o o' r r' : Outcome} → o ≡ r → o' ≡ r' → Linked f r r' → Linked f o o'
both_are f d e h = rw (d, e) h

-- ---- so the runs are mirrored

same_nodes : {area : OofPositioningArea} {n : ℕ} {cs cs' : List OofCandidate} → Each (Ready area n) cs cs'
    → map (λ (c : OofCandidate). c.node) cs ≡ map (λ (c : OofCandidate). c.node) cs'
same_nodes none = refl
same_nodes (one {cs = cs} {cs' = cs'} r e) = rw (r.image.node, same_nodes e) refl

pub mirrored : {f : Frame} {o o' : Outcome} → Linked f o o' → MirroredRuns f.container.area f.opening o o'
mirrored (linked s p p' h a) =
    record {
      answer = a;
      counts = refl;
      progress = refl;
      overflow = h.overflow;
      order = same_nodes h.lists.claimed;
      claimed = each_weaker (λ c c' r. r.image) h.lists.claimed;
      unclaimed = h.lists.unclaimed;
      laid = refl;
      boxes = h.laid;
      tally = h.lists.tally;
    }
