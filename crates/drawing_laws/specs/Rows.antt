-- Layers through an opening and a reply, and from an opening to the drawing order, on a few words; `proofs/Rows.antt` computes each row.
-- Assumes nothing.
use Rattle.std.specs.Prelude.{ℕ, zero, suc, List, [], ◌∷◌, ◌++◌, ◌≡◌, replicate, Some, Err}
use Rattle.geometry.specs.Geometry.{zero_point, zero_rect, zero_size}
use Rattle.refusal.specs.declared.Refusal.TheVariants.{BadExtent, BadCandidate}
use Rattle.style_record.specs.Record.{lengths, code_words}
use Rattle.sweep.specs.Sweep.{layers_of}
use Rattle.oof_box.specs.Cut.{no_replies}
use Rattle.oof_box.specs.declared.question.Reply.TheVariants.{LaidOut}
use Rattle.oof_box.specs.declared.question.Stage.TheVariants.{LayOut}
use Rattle.run.specs.declared.Opening.{Opening}
use Rattle.run.specs.declared.State.{State}
use Rattle.run.specs.Call.{Lent, Outcome, lent}
use Rattle.run.specs.Refusals.{accepted}
use Rattle.run.specs.Run.{claims_of, container_of, extents_of, opened, replied}
use Rattle.run.specs.Theorems.{own, Turn, called, claimed_so_far}
use Rattle.mirror_run.specs.Runs.{unclaimed_so_far}
use Rattle.drawing_laws.specs.Laws.{drawn_of}

-- a candidate of node 0, by its position and its layer: 2 is absolute, which is claimed, 3 is fixed, which isn't
abbrev candidate : ℕ → ℕ → List ℕ
candidate position layer = 0 ∷ 0 ∷ position ∷ (replicate 10 0 ++ (layer ∷ []))

abbrev panel : Opening
panel = record { area = record { size = zero_size; offset = zero_point }; direction = 0; claims = 1; overflowx = 0; overflowy = 0 }

-- n lengths of 0 pixels
abbrev pixels : ℕ → List ℕ
pixels zero = []
pixels (suc n) = 1 ∷ 0 ∷ 0 ∷ pixels n

-- one item, which is laid out without a measure
abbrev table : List ℕ
table = pixels lengths ++ replicate code_words 0

-- what is lent with these lists; its tally has one word
abbrev lends : List ℕ → List ℕ → Lent
lends working unclaimed = lent table (replicate 23 0) working unclaimed (0 ∷ [])

-- three places in the working list and two in the unclaimed one
abbrev empty : Lent
empty = lends (replicate 42 0) (replicate 28 0)

abbrev opens : List ℕ → Outcome
opens candidates = opened panel candidates empty

-- a working list with two records filled and an unclaimed one with one; the first box is to be laid out
abbrev held : Lent
held = lends (candidate 2 9 ++ candidate 2 3 ++ replicate 14 0) (candidate 3 255 ++ replicate 14 0)

abbrev at_lay_out : State
at_lay_out =
    record {
      progress = Some LayOut;
      replies = no_replies;
      counts = record { filled = record { working = 2; unclaimed = 1 }; begun = 1; answered = 0 };
      overflow = zero_rect;
      opened = record { container = container_of panel; claims = claims_of panel; extents = extents_of held };
    }

abbrev surfaces : List ℕ → Outcome
surfaces records = replied at_lay_out (LaidOut zero_rect) records held

abbrev pub LayerRows : Type 0
LayerRows =
    -- each list has its candidates' layers in turn, not sorted
    (layers_of (claimed_so_far (opens (candidate 2 9 ++ candidate 3 255 ++ candidate 2 3))) ≡ 9 ∷ 3 ∷ [])
    × (layers_of (unclaimed_so_far (opens (candidate 2 9 ++ candidate 3 255 ++ candidate 2 3))) ≡ 255 ∷ [])
    -- surfaced ones come behind them
    × (layers_of (claimed_so_far (surfaces (candidate 3 7 ++ candidate 2 0))) ≡ 9 ∷ 3 ∷ 0 ∷ [])
    × (layers_of (unclaimed_so_far (surfaces (candidate 3 7 ++ candidate 2 0))) ≡ 255 ∷ 7 ∷ [])
    -- 256 is no layer, of one that is claimed and of one that isn't
    × ((opens (candidate 2 256)).step.answer ≡ Err BadCandidate)
    × ((opens (candidate 3 256)).step.answer ≡ Err BadCandidate)
    × ((surfaces (candidate 2 256)).step.answer ≡ Err BadCandidate)
    × ((surfaces (candidate 3 256)).step.answer ≡ Err BadCandidate)
    -- 13 words, a record without its layer, are no candidate
    × ((opens (replicate 13 0)).step.answer ≡ Err BadExtent)
    × ((surfaces (replicate 13 0)).step.answer ≡ Err BadExtent)

-- ---- from an opening to the drawing order

-- a box is laid out, and surfaces these
abbrev laid : List ℕ → Turn
laid surfaced = record { heard = record { reply = LaidOut zero_rect; surfaced = surfaced }; loan = own }

-- a run over these candidates and turns has three boxes, and finished it is drawn in this order
abbrev Draws : List ℕ → List Turn → List ℕ → Type 0
Draws candidates turns order = drawn_of (replicate 3 9) table (called panel candidates empty turns) ≡ record { verdict = accepted; order = order }

abbrev pub DrawnRows : Type 0
DrawnRows =
    -- three boxes on layers 2, 0, 1
    Draws (candidate 2 2 ++ candidate 2 0 ++ candidate 2 1) (laid [] ∷ laid [] ∷ laid [] ∷ []) (1 ∷ 2 ∷ 0 ∷ [])
    -- the first of them surfaces the others
    × Draws (candidate 2 2) (laid (candidate 2 0 ++ candidate 2 1) ∷ laid [] ∷ laid [] ∷ []) (1 ∷ 2 ∷ 0 ∷ [])
