-- What the definitions of this crate mean, as statements. `proofs/Laws.antt` proves each, under its name in small letters.
-- `fits binary32 x` says that x is a value of an f32, written in its one way: true of every f32 of a program. Assumes nothing.
use Rattle.std.specs.Prelude.{ℕ, true, List, ◌≡◌, T, length, Float}
use Rattle.std.specs.Float.Ieee.{fits}
use Rattle.std.specs.Float.{binary32}
use Rattle.geometry.specs.declared.Line.{Line}
use Rattle.geometry.specs.declared.Point.{Point}
use Rattle.geometry.specs.declared.Rect.{Rect}
use Rattle.geometry.specs.declared.Size.{Size}
use Rattle.records.specs.Records.{canonical, good}
use Rattle.tree.specs.declared.layout.OofCandidate.{OofCandidate}
use Rattle.tree.specs.declared.layout.Layout.{Layout}
use Rattle.tree_record.specs.Candidate.{candidate_width, candidate_kinds, candidate_of, candidate_words}
use Rattle.tree_record.specs.Layout.{layout_width, layout_kinds, layout_of, layout_words}

-- ---- candidates

-- as many kinds as words, and as many words written
abbrev pub CandidateWidths : Type 0
CandidateWidths = ((n : ℕ) → length (candidate_kinds n) ≡ candidate_width) × ((c : OofCandidate) → length (candidate_words c) ≡ candidate_width)

abbrev pub FitsLine : Line Float → Type 0
FitsLine l = T (fits binary32 l.start) × T (fits binary32 l.end)

abbrev pub FitsCandidate : OofCandidate → Type 0
FitsCandidate c = FitsLine c.place.x.area × FitsLine c.place.y.area

-- what a record holds, fits
abbrev pub DecodedFits : Type 0
DecodedFits = (r : List ℕ) → FitsCandidate (candidate_of r)

-- what was written is read back
abbrev pub CandidateBack : Type 0
CandidateBack = (c : OofCandidate) → FitsCandidate c → candidate_of (candidate_words c) ≡ c

-- a good record, read and written, is that record with every NaN as 7FC00000
abbrev pub RecordRewritten : Type 0
RecordRewritten =
    (n : ℕ) (r : List ℕ) → good (candidate_kinds n) r 0 ≡ true → candidate_words (candidate_of r) ≡ canonical (candidate_kinds n) r

-- ---- layouts

abbrev pub LayoutWidths : Type 0
LayoutWidths = (length layout_kinds ≡ layout_width) × ((l : Layout) → length (layout_words l) ≡ layout_width)

abbrev pub FitsSize : Size Float → Type 0
FitsSize s = T (fits binary32 s.width) × T (fits binary32 s.height)

abbrev pub FitsPoint : Point Float → Type 0
FitsPoint p = T (fits binary32 p.x) × T (fits binary32 p.y)

abbrev pub FitsRect : Rect Float → Type 0
FitsRect r =
    T (fits binary32 r.left) × T (fits binary32 r.right) × T (fits binary32 r.top) × T (fits binary32 r.bottom)

pub record FitsLayout (l : Layout) : Type 0 where
  pub size : FitsSize l.size
  pub overflow : FitsRect l.overflow
  pub scrollbar : FitsSize l.scrollbar
  pub location : FitsPoint l.location
  pub padding : FitsRect l.padding
  pub border : FitsRect l.border
  pub margin : FitsRect l.margin

abbrev pub LayoutBack : Type 0
LayoutBack = (l : Layout) → FitsLayout l → layout_of (layout_words l) ≡ l

abbrev pub LayoutRewritten : Type 0
LayoutRewritten = (r : List ℕ) → layout_words (layout_of r) ≡ canonical layout_kinds r
