-- Demand 3 for one box, as statements. `proofs/Law.antt` proves each, under its name in small letters. Assumes nothing.
use Rattle.std.specs.Prelude.{◌≡◌, Float}
use Rattle.geometry.specs.Geometry.{union_of}
use Rattle.geometry.specs.declared.Rect.{Rect}
use Rattle.style.specs.declared.Style.{Style}
use Rattle.tree.specs.declared.layout.OofCandidate.{OofCandidate}
use Rattle.oof_resolve.specs.declared.ContainingBlock.{ContainingBlock}
use Rattle.oof_box.specs.Cut.{asked_after, layout_after}
use Rattle.oof_box.specs.declared.question.Replies.{Replies}
use Rattle.mirror_box.specs.Image.{image_container, image_style, image_candidate}
use Rattle.mirror_box.specs.Quarter.{QuarterContainer, QuarterStyle, QuarterCandidate, QuarterReplies, QuarterOverflow}
use Rattle.mirror_box.specs.Mirrored.{CandidateImage, SameAsked, SameRect, MirroredBox}

-- Whatever was replied so far, a box and its mirror image are at the same stage and ask the same question.
abbrev pub AsksMirrored : Type 0
AsksMirrored =
    (container : ContainingBlock) (style : Style) (candidate candidate' : OofCandidate) (replies : Replies)
    → QuarterContainer container → QuarterStyle style → QuarterCandidate candidate → CandidateImage container.area candidate candidate' → QuarterReplies replies
    → SameAsked (asked_after container style candidate replies) (asked_after (image_container container) (image_style style) candidate' replies)

-- Laid out, with the same rectangle in reply, their layouts are mirrored, and they add the same to the overflow.
abbrev pub LaysOutMirrored : Type 0
LaysOutMirrored =
    (container : ContainingBlock) (style : Style) (candidate candidate' : OofCandidate) (replies : Replies) (overflow : Rect Float)
    → QuarterContainer container → QuarterStyle style → QuarterCandidate candidate → CandidateImage container.area candidate candidate' → QuarterReplies replies
    → QuarterOverflow overflow
    → MirroredBox container.area (layout_after container style candidate replies overflow) (layout_after (image_container container) (image_style style) candidate' replies overflow)

-- The union of what any number of boxes add stays the same.
abbrev pub UnionsMirrored : Type 0
UnionsMirrored = (r r' s s' : Rect Float) → SameRect r r' → SameRect s s' → SameRect (union_of r s) (union_of r' s')

-- The image as document 01 writes it, by rounded operations, is exact.
abbrev pub ImageIsExact : Type 0
ImageIsExact =
    (container : ContainingBlock) (candidate : OofCandidate)
    → QuarterContainer container → QuarterCandidate candidate → CandidateImage container.area candidate (image_candidate container.area candidate)

-- The image of the image is the thing itself.
abbrev pub TwiceIsOnce : Type 0
TwiceIsOnce = (container : ContainingBlock) (style : Style) → (image_container (image_container container) ≡ container) × (image_style (image_style style) ≡ style)
