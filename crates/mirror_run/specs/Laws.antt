-- What the mirror image of words means, as statements. `proofs/Laws.antt` proves each, under its name in small letters. Assumes nothing.
use Rattle.std.specs.Prelude.{ℕ, ◌*◌, ◌/◌, ◌≤◌, ◌<◌, ◌≡◌, ◌≢◌, true, false, List, length, get_or}
use Rattle.records.specs.Records.{record_at, good_records}
use Rattle.tree.specs.declared.layout.OofPositioningArea.{OofPositioningArea}
use Rattle.tree_record.specs.Candidate.{candidate_width, candidate_kinds, candidate_of}
use Rattle.style_record.specs.Record.{item, items}
use Rattle.style_record.specs.Decode.{style_at}
use Rattle.run.specs.Refusals.{bad_style}
use Rattle.mirror_box.specs.Image as box
use Rattle.mirror_run.specs.Image.{each_record, image_styles, image_candidates}
use Rattle.mirror_run.specs.Quarter.{QuarterTable}

-- ---- any list of records

abbrev pub ImageIsAsLong : Type 0
ImageIsAsLong = (w : ℕ) (image : (ℕ → ℕ) → ℕ → ℕ) (ws : List ℕ) → length (each_record w image ws) ≡ length ws

-- the words after the last whole record stay
abbrev pub PartStays : Type 0
PartStays = (w : ℕ) (image : (ℕ → ℕ) → ℕ → ℕ) (ws : List ℕ) (j : ℕ) → length ws / w ≤ j / w → get_or (each_record w image ws) j 0 ≡ get_or ws j 0

-- ---- styles

-- the image of the image is the table itself
abbrev pub StylesTwice : Type 0
StylesTwice = (styles : List ℕ) → image_styles (image_styles styles) ≡ styles

-- the image passes refusal 3 exactly where the table does
abbrev pub StylesPass : Type 0
StylesPass = (styles : List ℕ) → bad_style (image_styles styles) ≡ bad_style styles

-- then each item of the image is the image of the item (mirror_box/specs/Image.antt: left and right lengths exchanged whole)
abbrev pub StylesDecode : Type 0
StylesDecode =
    (styles : List ℕ) (i : ℕ) → bad_style styles ≡ false → i < items styles
    → style_at (image_styles styles) i ≡ box.image_style (style_at styles i)

-- where the mirror's hypotheses hold, no length of the table is a percentage, a fit-content percentage or a sum
abbrev pub PercentagesLeftOut : Type 0
PercentagesLeftOut =
    (styles : List ℕ) (i l : ℕ) → QuarterTable styles → i < items styles → l < 22
    → (item styles i (3 * l) ≢ 5) × (item styles i (3 * l) ≢ 15) × (item styles i (3 * l) ≢ 129)

-- ---- candidates, n being the number of items

abbrev pub CandidatesPass : Type 0
CandidatesPass =
    (area : OofPositioningArea) (n : ℕ) (candidates : List ℕ)
    → good_records (candidate_kinds n) (image_candidates area candidates) (length (image_candidates area candidates) / candidate_width)
    ≡ good_records (candidate_kinds n) candidates (length candidates / candidate_width)

abbrev pub CandidatesDecode : Type 0
CandidatesDecode =
    (area : OofPositioningArea) (n : ℕ) (candidates : List ℕ) (i : ℕ)
    → good_records (candidate_kinds n) candidates (length candidates / candidate_width) ≡ true
    → i < length candidates / candidate_width
    → candidate_of (record_at candidate_width (image_candidates area candidates) i) ≡ box.image_candidate area (candidate_of (record_at candidate_width candidates i))
