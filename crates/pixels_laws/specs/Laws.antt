-- Whole quarter pixels in, whole eighths out, as statements. `proofs/` proves each, under its name in small letters. Assumes nothing.
use Rattle.std.specs.Prelude.{◌≡◌, false, List, [], ℕ, ◌<◌, All, IsOk, is_err, Float}
use Rattle.geometry.specs.declared.Point.{Point}
use Rattle.style.specs.declared.ContainingBlockClaims.{ContainingBlockClaims}
use Rattle.style.specs.declared.Style.{Style}
use Rattle.tree.specs.declared.layout.Layout.{Layout}
use Rattle.tree.specs.declared.layout.OofCandidate.{OofCandidate}
use Rattle.oof_resolve.specs.declared.ContainingBlock.{ContainingBlock}
use Rattle.oof_box.specs.Box.{Placed, placed}
use Rattle.pixels.specs.Pixels.{pixel_edges}
use Rattle.sweep.specs.Sweep.{candidates_in, claimed}
use Rattle.run.specs.declared.Opening.{Opening}
use Rattle.run.specs.Call.{Lent}
use Rattle.run.specs.Refusals.{lent_by}
use Rattle.run.specs.Run.{claims_of, opened}
use Rattle.run.specs.Theorems.{Heard, Turn, AllLend, laid_so_far, called, heeded_in}
use Rattle.mirror_run.specs.Quarter.{AreaInQuarters, QuarterPlace, QuarterTable, QuarterCandidates, QuarterReply}
use Rattle.mirror_run.specs.Runs.{layout_of_box}
use Rattle.pixels_laws.specs.Quarter.{StyleInQuarters, AnsweredInQuarters}

-- `pixel_edges` has edges for it, and no refusal
abbrev pub HasEdges : Layout → Point Float → Type 0
HasEdges l offset = IsOk (pixel_edges l offset)

-- ---- a box, whatever it surfaces; the area's width may be 0

abbrev pub BoxHasEdges : Type 0
BoxHasEdges =
    (container : ContainingBlock) (style : Style) (candidate : OofCandidate)
    → AreaInQuarters container.area → StyleInQuarters style → QuarterPlace candidate
    → AnsweredInQuarters (λ laid. Unit {0}) (λ (p : Placed). HasEdges p.outcome.layout container.area.offset) (placed container style candidate)

-- ---- a run, after its opening and any replies, under demand 3's conditions, but for a width of 0 and in either direction: nobody else writes the lent words, and a reply that isn't refused
-- is of whole quarter pixels and surfaces no box that is claimed

abbrev pub QuarterHeard : ContainingBlockClaims → Heard → Type 0
QuarterHeard by h = QuarterReply h.reply × (claimed by (candidates_in (lent_by h.reply h.surfaced)) ≡ [])

-- each layout written, as its words say
abbrev pub RunHasEdges : Type 0
RunHasEdges =
    (o : Opening) (candidates : List ℕ) (lent : Lent) (turns : List Turn)
    → AreaInQuarters o.area → QuarterTable lent.styles → QuarterCandidates candidates
    → is_err (opened o candidates lent).step.answer ≡ false
    → AllLend lent.styles (opened o candidates lent) turns
    → All (QuarterHeard (claims_of o)) (heeded_in o candidates lent turns)
    → let has = called o candidates lent turns in
    (i : ℕ) → i < laid_so_far has → HasEdges (layout_of_box has i) o.area.offset
