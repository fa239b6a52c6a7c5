-- Request #104: layers over runs. A run keeps the layers of its candidates, and finished it is drawn by them; placement doesn't read them;
-- under what `Mirror` asks (mirror_run), the mirror image of a run is drawn in the same order. As statements: `proofs/` proves each, under its
-- name in small letters. Assumes nothing.
use Rattle.std.specs.Prelude.{ℕ, ◌+◌, ◌*◌, ◌/◌, ◌<◌, false, ◌≡◌, length, get_or, None, is_err, Float}
use mathlib.Core.List.{List, [], ◌∷◌, ◌++◌, foldl}
use Rattle.geometry.specs.declared.Rect.{Rect}
use Rattle.style.specs.declared.ContainingBlockClaims.{ContainingBlockClaims}
use Rattle.style.specs.declared.Style.{Style}
use Rattle.tree.specs.declared.layout.OofCandidate.{OofCandidate}
use Rattle.tree_record.specs.Candidate.{candidate_width, layer_word, layer_count}
use Rattle.sweep.specs.Sweep.{candidates_in, layers_of, claimed, others}
use Rattle.oof_resolve.specs.declared.ContainingBlock.{ContainingBlock}
use Rattle.oof_box.specs.Box.{placed}
use Rattle.oof_box.specs.Cut.{asked_after, layout_after}
use Rattle.oof_box.specs.declared.question.Replies.{Replies}
use Rattle.oof_box.specs.declared.question.Reply.{Reply}
use Rattle.run.specs.declared.Opening.{Opening}
use Rattle.run.specs.declared.State.{State}
use Rattle.run.specs.Call.{Lent, Outcome, slices}
use Rattle.run.specs.Refusals.{accepted, lent_by}
use Rattle.run.specs.Run.{claims_of, extents_of, opened, replied}
use Rattle.run.specs.Theorems.{Heard, Loan, own, other, Turn, AllLend, called, heeded_in, claimed_so_far}
use Rattle.mirror_run.specs.Image.{image_opening, image_styles, image_candidates}
use Rattle.mirror_run.specs.Quarter.{QuarterArea, QuarterTable, QuarterCandidates}
use Rattle.mirror_run.specs.Runs.{Message, run_next, image_next, surfaced_in, AllFair, unclaimed_so_far}
use Rattle.drawing.specs.Drawing.{drawing_order, Drawn, drawn}

-- ---- layers are kept

-- the candidates that lay-out replies surfaced, in turn, with the words that the host wrote: not yet moved, and claimed or not
abbrev pub surfaced_by : List Heard → List OofCandidate
surfaced_by [] = []
surfaced_by (h ∷ hs) = candidates_in (lent_by h.reply h.surfaced) ++ surfaced_by hs

-- all candidates that came, in turn: the opening's, then the surfaced ones
abbrev pub all_came : List ℕ → List Heard → List OofCandidate
all_came candidates heard = candidates_in candidates ++ surfaced_by heard

-- what a run has: its filled working records have the layers of the claimed ones, in turn, and its unclaimed records those of the others
pub record KeepsLayers (by : ContainingBlockClaims) (came : List OofCandidate) (has : Outcome) : Type 0 where
  pub working : layers_of (claimed_so_far has) ≡ layers_of (claimed by came)
  pub unclaimed : layers_of (unclaimed_so_far has) ≡ layers_of (others by came)

-- after an opening that isn't refused and any calls. A list may end anywhere, so this holds after each call
abbrev pub LayersOfARun : Type 0
LayersOfARun =
    (o : Opening) (candidates : List ℕ) (lent : Lent) (turns : List Turn)
    → is_err (opened o candidates lent).step.answer ≡ false
    -- nobody else writes the run's words: a call that lends other slices is refused
    → AllLend lent.styles (opened o candidates lent) turns
    -- what a refused reply surfaces isn't taken in
    → KeepsLayers (claims_of o) (all_came candidates (heeded_in o candidates lent turns)) (called o candidates lent turns)

-- ---- a finished run is drawn, by the layers that came

-- what a drawing call leaves, by the state and the words that the last call of a run left; `before` are the words of its slice as it came
abbrev pub drawn_of : List ℕ → List ℕ → Outcome → Drawn
drawn_of before styles has = drawn has.step.state (slices styles has.layouts has.working has.unclaimed) before

-- lent a slice of one word a box, a drawing call is accepted, and its order is that of the layers of the claimed candidates, surfaced ones
-- included, whatever the numbers of the run
abbrev pub FinishedIsDrawn : Type 0
FinishedIsDrawn =
    (o : Opening) (candidates : List ℕ) (lent : Lent) (turns : List Turn) (before : List ℕ)
    → is_err (opened o candidates lent).step.answer ≡ false
    -- nobody else writes the run's words: a call that lends other slices is refused
    → AllLend lent.styles (opened o candidates lent) turns
    → let has = called o candidates lent turns in
    let boxes = claimed (claims_of o) (all_came candidates (heeded_in o candidates lent turns)) in
    has.step.state.progress ≡ None → length before ≡ has.step.state.counts.filled.working
    → drawn_of before lent.styles has ≡ record { verdict = accepted; order = drawing_order (layers_of boxes) }

-- ---- "Placement doesn't read the layer": a box

-- the candidate, on layer v
abbrev pub on_layer : ℕ → OofCandidate → OofCandidate
on_layer v c = record { node = c.node; order = c.order; position = c.position; place = c.place; layer = v }

-- its whole dialogue is the same on every layer: questions, layout, contribution
abbrev pub BoxReadsNoLayer : Type 0
BoxReadsNoLayer =
    (container : ContainingBlock) (style : Style) (c : OofCandidate) (v : ℕ) → placed container style (on_layer v c) ≡ placed container style c

-- and so is what a call works out of it, whatever replies the state has kept: the next question, and the layout
abbrev pub CutReadsNoLayer : Type 0
CutReadsNoLayer =
    (container : ContainingBlock) (style : Style) (c : OofCandidate) (v : ℕ) (replies : Replies)
    → (asked_after container style (on_layer v c) replies ≡ asked_after container style c replies)
    × ((overflow : Rect Float) → layout_after container style (on_layer v c) replies overflow ≡ layout_after container style c replies overflow)

-- ---- and a run: two of them whose records differ in layers only, all of them allowed, go the same way

-- as long, and word for word equal but for each record's layer
pub record SameButLayers (ws ws' : List ℕ) : Type 0 where
  pub long : length ws ≡ length ws'
  pub words : (i k : ℕ) → k < layer_word → get_or ws (candidate_width * i + k) 0 ≡ get_or ws' (candidate_width * i + k) 0

-- the first n records have layers from 0 to 255
abbrev pub LayersAllowed : ℕ → List ℕ → Type 0
LayersAllowed n ws = (i : ℕ) → i < n → get_or ws (candidate_width * i + layer_word) 0 < layer_count

-- two slices of candidates. "A higher layer is a bad candidate": so that both are refused for it or neither, all layers are allowed
pub record SameCandidates (ws ws' : List ℕ) : Type 0 where
  pub same : SameButLayers ws ws'
  pub allowed : LayersAllowed (length ws / candidate_width) ws
  pub allowed' : LayersAllowed (length ws' / candidate_width) ws'

-- what two calls are lent: the same styles, layouts and tally, and lists that differ in layers only
pub record SameSlices (lent lent' : Lent) : Type 0 where
  pub styles : lent.styles ≡ lent'.styles
  pub layouts : lent.layouts ≡ lent'.layouts
  pub working : SameButLayers lent.working lent'.working
  pub unclaimed : SameButLayers lent.unclaimed lent'.unclaimed
  pub tally : lent.tally ≡ lent'.tally

-- what two calls leave: the same answer and state, its counts among it, the same layouts and tally, and lists that differ in layers only
pub record SameOutcomes (has has' : Outcome) : Type 0 where
  pub step : has.step ≡ has'.step
  pub layouts : has.layouts ≡ has'.layouts
  pub working : SameButLayers has.working has'.working
  pub unclaimed : SameButLayers has.unclaimed has'.unclaimed
  -- request #107
  pub tally : has.tally ≡ has'.tally

-- refused or not. Of the lists an opening reads no word
abbrev pub OpeningReadsNoLayer : Type 0
OpeningReadsNoLayer =
    (o : Opening) (candidates candidates' : List ℕ) (lent lent' : Lent)
    → SameCandidates candidates candidates' → SameSlices lent lent'
    → SameOutcomes (opened o candidates lent) (opened o candidates' lent')

-- from any state. The filled working records are candidates that the call looks at
abbrev pub ReplyReadsNoLayer : Type 0
ReplyReadsNoLayer =
    (s : State) (reply : Reply) (surfaced surfaced' : List ℕ) (lent lent' : Lent)
    -- the surfaced words of a measure reply are neither checked nor read
    → SameCandidates (lent_by reply surfaced) (lent_by reply surfaced') → SameSlices lent lent'
    → LayersAllowed s.counts.filled.working lent.working → LayersAllowed s.counts.filled.working lent'.working
    → SameOutcomes (replied s reply surfaced lent) (replied s reply surfaced' lent')

-- both are lent their own slices, or both others. Of these every whole working record has an allowed layer: a call looks at the filled ones
-- alone, and how many they are stands in the state
pub data SameLoan : Loan → Loan → Type 0 where
  both_own : SameLoan own own
  both_other : {lent lent' : Lent} → SameSlices lent lent' → SameCandidates lent.working lent'.working → SameLoan (other lent) (other lent')

pub record SameTurn (t t' : Turn) : Type 0 where
  pub reply : t.heard.reply ≡ t'.heard.reply
  pub surfaced : SameCandidates (surfaced_in t) (surfaced_in t')
  pub loan : SameLoan t.loan t'.loan

-- turn by turn
pub data SameTurns : List Turn → List Turn → Type 0 where
  none : SameTurns [] []
  one : {t t' : Turn} {ts ts' : List Turn} → SameTurn t t' → SameTurns ts ts' → SameTurns (t ∷ ts) (t' ∷ ts')

-- after the opening and any calls, refused ones included. A list may end anywhere, so this holds after each call
abbrev pub RunReadsNoLayer : Type 0
RunReadsNoLayer =
    (o : Opening) (candidates candidates' : List ℕ) (lent lent' : Lent) (turns turns' : List Turn)
    → SameCandidates candidates candidates' → SameSlices lent lent' → SameTurns turns turns'
    -- nobody else writes the run's words: a call that lends other slices is refused
    → AllLend lent.styles (opened o candidates lent) turns
    → SameOutcomes (called o candidates lent turns) (called o candidates' lent' turns')

-- ---- a run and its image, after the same replies, under what mirror_run's `Mirror` asks

-- the same order, or refused with the same number, after every call
abbrev pub MirroredDrawing : Type 0
MirroredDrawing =
    (o : Opening) (candidates : List ℕ) (lent lent' : Lent) (messages : List Message) (before : List ℕ)
    → QuarterArea o.area → QuarterTable lent.styles → QuarterCandidates candidates
    → lent'.styles ≡ image_styles lent.styles → extents_of lent ≡ extents_of lent'
    → AllFair lent.styles (opened o candidates lent) messages
    → drawn_of before lent.styles (foldl (run_next lent.styles) (opened o candidates lent) messages)
    ≡ drawn_of before lent'.styles (foldl (image_next lent'.styles) (opened (image_opening o) (image_candidates o.area candidates) lent') messages)
