-- Size keywords of an absolutely positioned box (document 01, step 4; compute/common/sizing_keyword.rs). Assumes nothing.
use Rattle.std.specs.Prelude.{Float, Option, None, Some}
use Rattle.std.specs.declared.option.Option.TheVariants as option
use Rattle.util.specs.Number.{◌⊖◌, 0f}
use Rattle.util.specs.Order.{larger}
use Rattle.util.specs.Maybe.{or_zero}
use Rattle.geometry.specs.declared.Line.{Line}
use Rattle.geometry.specs.declared.Size.{Size}
use Rattle.style.specs.Resolve.{resolved}
use Rattle.style.specs.declared.compact_length.CompactLength.{CompactLength}
use Rattle.style.specs.declared.available_space.AvailableSpace.TheVariants.{Definite, MinContent, MaxContent}
use Rattle.style.specs.declared.resolve.Field.TheVariants as field
use Rattle.style.specs.declared.resolve.SizingKeyword.{SizingKeyword}
use Rattle.style.specs.declared.resolve.SizingKeyword.TheVariants as keyword
use Rattle.style.specs.declared.resolve.Resolved.{Resolved}
use Rattle.style.specs.declared.resolve.Resolved.TheVariants.{NotAllowed, Absent, Length, Keyword}
use Rattle.oof_common.specs.declared.sizing_keyword.SizingKeywordResolution.{SizingKeywordResolution}
use Rattle.oof_common.specs.declared.sizing_keyword.SizingKeywordResolution.TheVariants.{Exact, Measure}

-- stretch is exact; the others are measured: under a min-content or max-content constraint, in the stretch size, or in a limit
unfoldable pub by_keyword : SizingKeyword → Float → SizingKeywordResolution
by_keyword keyword.MinContent stretch = Measure MinContent
by_keyword keyword.MaxContent stretch = Measure MaxContent
by_keyword keyword.FitContent stretch = Measure (Definite stretch)
by_keyword (keyword.FitContentLimit limit) stretch = Measure (Definite limit)
by_keyword keyword.Stretch stretch = Exact stretch

unfoldable pub of_resolved : Resolved → Float → Option SizingKeywordResolution
of_resolved NotAllowed stretch = option.None
of_resolved Absent stretch = option.None
of_resolved (Length x) stretch = option.None
of_resolved (Keyword k) stretch = option.Some (by_keyword k stretch)

-- what a size style asks for in one axis, given its stretch size and what percentages are taken of
unfoldable pub keyword_of : CompactLength → Float → Float → Option SizingKeywordResolution
keyword_of style stretch basis = of_resolved (resolved field.Size style basis) stretch

-- the stretch size of a size keyword (request #106): the inset-modified block's size less the margins, each in turn, an auto one as 0; at least
-- 0. It is CSS's stretch-fit size. `stretch_fit`, of an auto size, takes the margins' sum off, as the Rust does there; the two differ in rounding
-- alone (`StretchSizeIsStretchFit`).
unfoldable pub absolute_stretch : Float → Line (Option Float) → Float
absolute_stretch blockSize margin = larger (blockSize ⊖ or_zero margin.start ⊖ or_zero margin.end) 0f

-- a known side needs no keyword
unfoldable pub if_absent : Option Float → Option SizingKeywordResolution → Option SizingKeywordResolution
if_absent None k = k
if_absent (Some x) k = option.None

-- the keywords of the absent sides, each side's stretch size being given
unfoldable pub keywords_of : Size (Option Float) → Size CompactLength → Size Float → Size Float → Size (Option SizingKeywordResolution)
keywords_of known style areaSize stretch =
    record {
      width = if_absent known.width (keyword_of style.width stretch.width areaSize.width);
      height = if_absent known.height (keyword_of style.height stretch.height areaSize.height);
    }
