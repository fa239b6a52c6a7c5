-- What demand 3 asks of a run: whole quarter pixels of size 4,096 at most (`Quarter`), an area whose width isn't 0, no percentage, by
-- request #105 no sum with one, and no ratio. The mirror puts to use only what bears on x, since along y both runs have the same words;
-- whole pixels, both (pixels_laws), and no width that isn't 0. Assumes nothing.
use Rattle.std.specs.Prelude.{ℕ, ◌/◌, ◌<◌, ◌≡◌, List, length, Float}
use Rattle.std.specs.Float.Ieee.{of_bits}
use Rattle.std.specs.Float.{binary32}
use Rattle.util.specs.Number.{0f}
use Rattle.geometry.specs.declared.Line.{Line}
use Rattle.tree.specs.declared.layout.OofPositioningArea.{OofPositioningArea}
use Rattle.tree.specs.declared.layout.OofCandidate.{OofCandidate}
use Rattle.records.specs.Records.{record_at}
use Rattle.tree_record.specs.Candidate.{candidate_width, candidate_of}
use Rattle.style_record.specs.Record.{lengths, tag_word, ratio_present_word, scrollbar_word, item, items}
use Rattle.style_record.specs.Decode.{length_at}
use Rattle.oof_box.specs.declared.question.Reply.{Reply}
use Rattle.oof_box.specs.declared.question.Reply.TheVariants.{Both, Width, Height, LaidOut}
use Rattle.util_exact.specs.Value.{◌≐◌, Quarter}
use Rattle.mirror_box.specs.Quarter.{QuarterLength}

pub record AreaInQuarters (area : OofPositioningArea) : Type 0 where
  pub width : Quarter area.size.width
  pub height : Quarter area.size.height
  pub x : Quarter area.offset.x
  pub y : Quarter area.offset.y

-- and demand 3's "area width not 0"
pub record QuarterArea (area : OofPositioningArea) : Type 0 where
  pub quarters : AreaInQuarters area
  pub not_zero : area.size.width ≐ 0f → ⊥

-- a style: each of its lengths by its tag, the scrollbar width; no ratio is present
pub record QuarterItem (word : ℕ → ℕ) : Type 0 where
  pub each : (l : ℕ) → l < lengths → QuarterLength (length_at word (tag_word l))
  pub scrollbar : Quarter (of_bits binary32 (word scrollbar_word))
  pub ratio : word ratio_present_word ≡ 1 → ⊥

abbrev pub QuarterTable : List ℕ → Type 0
QuarterTable styles = (i : ℕ) → i < items styles → QuarterItem (item styles i)

abbrev pub QuarterLine : Line Float → Type 0
QuarterLine l = Quarter l.start × Quarter l.end

abbrev pub QuarterPlace : OofCandidate → Type 0
QuarterPlace c = QuarterLine c.place.x.area × QuarterLine c.place.y.area

abbrev pub QuarterCandidates : List ℕ → Type 0
QuarterCandidates candidates = (i : ℕ) → i < length candidates / candidate_width → QuarterPlace (candidate_of (record_at candidate_width candidates i))

abbrev pub QuarterReply : Reply → Type 0
QuarterReply (Both s) = Quarter s.width × Quarter s.height
QuarterReply (Width w) = Quarter w
QuarterReply (Height h) = Quarter h
QuarterReply (LaidOut r) = Quarter r.left × Quarter r.right × Quarter r.top × Quarter r.bottom
