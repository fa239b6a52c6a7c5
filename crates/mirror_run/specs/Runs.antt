-- A run and its mirror image, given one list of replies: what is asked of each reply, and what the two then have in common.
-- Assumes nothing.
use Rattle.std.specs.Prelude.{ℕ, suc, ◌<◌, ◌≡◌, Bool, false, ◌||◌, List, [], ◌∷◌, eqb, length, Result, Ok, Err, is_err}
use Rattle.refusal.specs.Refusal.{number_of}
use Rattle.refusal.specs.declared.Refusal.{Refusal}
use Rattle.refusal.specs.declared.Refusal.TheVariants.{WrongReply}
use Rattle.tree.specs.declared.layout.Layout.{Layout}
use Rattle.tree.specs.declared.layout.OofCandidate.{OofCandidate}
use Rattle.tree.specs.declared.layout.OofPositioningArea.{OofPositioningArea}
use Rattle.sweep.specs.Sweep.{first_candidates, candidates_in, claimed}
use Rattle.oof_box.specs.declared.question.Question.{Question}
use Rattle.run.specs.declared.Extents.{Extents}
use Rattle.run.specs.declared.Finish as ending
use Rattle.run.specs.declared.Answer.{Answer}
use Rattle.run.specs.declared.Answer.TheVariants.{Ask, Finish}
use Rattle.run.specs.Call.{Outcome}
use Rattle.run.specs.declared.Counts.{Counts}
use Rattle.run.specs.declared.State.{State}
use Rattle.run.specs.Conditions.{NotAsked, WordIsAbove}
use Rattle.run.specs.Refusals.{lent_by}
use Rattle.run.specs.Run.{layout_at, extents_of}
use Rattle.run.specs.Theorems.{Loan, own, other, Turn, turned, laid_so_far, claimed_so_far, hoisted}
use Rattle.mirror_box.specs.Mirrored.{CandidateImage, SameQuestion, MirroredLayout, SameRect}
use Rattle.mirror_run.specs.Quarter.{QuarterReply}

-- ---- replies

-- a reply that both are given, with what each is lent
pub record Message : Type 0 where
  pub turn : Turn
  pub image : Turn

abbrev pub run_next : List ℕ → Outcome → Message → Outcome
run_next styles o m = turned styles o m.turn

abbrev pub image_next : List ℕ → Outcome → Message → Outcome
image_next styles o m = turned styles o m.image

-- ---- what is asked of them: `Fair`, at the end, of each

-- the surfaced words of a lay-out reply: those lent with a measure reply are neither checked nor read
abbrev pub surfaced_in : Turn → List ℕ
surfaced_in t = lent_by t.heard.reply t.heard.surfaced

-- the lengths of the slices that are lent
abbrev pub lengths_of : Extents → Loan → Extents
lengths_of at_opening own = at_opening
lengths_of at_opening (other lent) = extents_of lent

-- "the same kind, values and slice lengths for both"
pub record Alike (at_opening : Extents) (t t' : Turn) : Type 0 where
  pub reply : t.heard.reply ≡ t'.heard.reply
  pub surfaced : length (surfaced_in t) ≡ length (surfaced_in t')
  pub slices : lengths_of at_opening t.loan ≡ lengths_of at_opening t'.loan

-- "nobody else writes the lent words": both are lent their own slices. What a box surfaces is part of its reply: the same words for both
pub record SameWords (t t' : Turn) : Type 0 where
  pub slices : t.loan ≡ own
  pub image_slices : t'.loan ≡ own
  pub surfaced : surfaced_in t ≡ surfaced_in t'

-- refused with 2 or 6, which go by lengths, the reply's kind, the state and the tally: no word of another slice was read
abbrev pub is_unread : Result Answer Refusal → Bool
is_unread (Ok (Ask q)) = false
is_unread (Ok (Finish f)) = false
is_unread (Err r) = eqb (number_of r) 2 || eqb (number_of r) 6

-- the tally lent has a word above the count of questions answered. After an opening that isn't refused the run's own has none (`AddsUp` of
-- run/specs/Theorems.antt); after a refused one no reply is asked for
abbrev pub LendsAbove : Counts → Loan → Type 0
LendsAbove c own = ⊥
LendsAbove c (other lent) = WordIsAbove lent c

-- request #107: refused with 6, and not since no reply is asked for, or one of another kind. That leaves the tally: the counts of a state that a call
-- returned are never wrong
pub record ForTally (before : State) (answer : Result Answer Refusal) (t : Turn) : Type 0 where
  pub asked : ¬ NotAsked before.progress t.heard.reply
  pub wrong : answer ≡ Err WrongReply
  pub above : LendsAbove before.counts t.loan

-- by the state that the run's last call returned, and the run's answer to this one
pub record Fair (before : State) (answer : Result Answer Refusal) (m : Message) : Type 0 where
  pub alike : Alike before.opened.extents m.turn m.image
  -- unless no word was read but the tally's
  pub words : is_unread answer ≡ false → SameWords m.turn m.image
  -- and where it was refused for its tally, the tally lent to the image has a word above the count too
  pub tally : ForTally before answer m.turn → LendsAbove before.counts m.image.loan
  -- an accepted reply: its values are whole quarter pixels, and no box that it surfaces is claimed
  pub quarters : is_err answer ≡ false → QuarterReply m.turn.heard.reply
  pub surfaces_none : is_err answer ≡ false → claimed before.opened.claims (candidates_in (surfaced_in m.turn)) ≡ []

-- each reply of a list, o being what the run's last call left
abbrev pub AllFair : List ℕ → Outcome → List Message → Type 0
AllFair styles o [] = Unit {0}
AllFair styles o (m ∷ ms) = Fair o.step.state (run_next styles o m).step.answer m × AllFair styles (run_next styles o m) ms

-- ---- what they have in common

-- the same question, finish or refusal
pub data SameAnswer : Result Answer Refusal → Result Answer Refusal → Type 0 where
  ask : {q q' : Question} → SameQuestion q q' → SameAnswer (Ok (Ask q)) (Ok (Ask q'))
  finish : {f f' : ending.Finish} → SameRect f.overflow f'.overflow → f.count ≡ f'.count → SameAnswer (Ok (Finish f)) (Ok (Finish f'))
  refused : {r : Refusal} → SameAnswer (Err r) (Err r)

-- one by one, in turn
pub data Each (R : OofCandidate → OofCandidate → Type 0) : List OofCandidate → List OofCandidate → Type 0 where
  none : Each R [] []
  one : {c c' : OofCandidate} {cs cs' : List OofCandidate} → R c c' → Each R cs cs' → Each R (c ∷ cs) (c' ∷ cs')

-- two records that a box surfaced, each moved by the box's own location: only their x areas differ
pub record SameButX (c c' : OofCandidate) : Type 0 where
  pub node : c.node ≡ c'.node
  pub order : c.order ≡ c'.order
  pub position : c.position ≡ c'.position
  pub align : c.place.x.align ≡ c'.place.x.align
  pub y : c.place.y ≡ c'.place.y
  pub layer : c.layer ≡ c'.layer

-- unclaimed records: the first n, which are the opening's, are mirror images; after them stand those that boxes surfaced
pub data Unclaimed (area : OofPositioningArea) : ℕ → List OofCandidate → List OofCandidate → Type 0 where
  surfaced : {cs cs' : List OofCandidate} → Each SameButX cs cs' → Unclaimed area 0 cs cs'
  image : {n : ℕ} {c c' : OofCandidate} {cs cs' : List OofCandidate} → CandidateImage area c c' → Unclaimed area n cs cs' → Unclaimed area (suc n) (c ∷ cs) (c' ∷ cs')

-- the unclaimed records so far
abbrev pub unclaimed_so_far : Outcome → List OofCandidate
unclaimed_so_far o = first_candidates o.step.state.counts.filled.unclaimed o.unclaimed

-- the layout of box i as its words say, at its node's place
abbrev pub layout_of_box : Outcome → ℕ → Layout
layout_of_box o i = layout_at o.layouts o.working i

-- `opening` is what the run's opening left: as many unclaimed records as it filled are the opening's, none if it was refused
pub record MirroredRuns (area : OofPositioningArea) (opening o o' : Outcome) : Type 0 where
  -- the answer to the last call
  pub answer : SameAnswer o.step.answer o'.step.answer
  -- filled records, boxes begun, questions answered
  pub counts : o.step.state.counts ≡ o'.step.state.counts
  pub progress : o.step.state.progress ≡ o'.step.state.progress
  pub overflow : SameRect o.step.state.overflow o'.step.state.overflow
  pub order : hoisted o ≡ hoisted o'
  pub claimed : Each (CandidateImage area) (claimed_so_far o) (claimed_so_far o')
  pub unclaimed : Unclaimed area opening.step.state.counts.filled.unclaimed (unclaimed_so_far o) (unclaimed_so_far o')
  pub laid : laid_so_far o ≡ laid_so_far o'
  -- as far from the area's left edge as from its right edge, left and right exchanged, all else equal
  pub boxes : (i : ℕ) → i < laid_so_far o → MirroredLayout area (layout_of_box o i) (layout_of_box o' i)
  -- request #107: equal counts by item. After a refused opening, which writes none, the tallies may differ as they did before it
  pub tally : is_err opening.step.answer ≡ false → o.tally ≡ o'.tally
