-- Lengths: which tags a field takes, and what a length comes to in it (document 01, "Tags"; step 1 and step 2; request #105). Assumes nothing.
use Rattle.std.specs.Prelude.{ℕ, Bool, true, false, cond, eqb, Float, None, Option, Some}
use Rattle.util.specs.Number.{◌⊕◌, ◌⊗◌, 0f}
use Rattle.geometry.specs.declared.Size.{Size}
use Rattle.geometry.specs.declared.Rect.{Rect}
use Rattle.style.specs.declared.compact_length.CompactLength.{CompactLength}
use Rattle.style.specs.declared.resolve.Field.{Field}
use Rattle.style.specs.declared.resolve.Field.TheVariants as field
use Rattle.style.specs.declared.resolve.SizingKeyword.TheVariants as keyword
use Rattle.style.specs.declared.resolve.Resolved.{Resolved}
use Rattle.style.specs.declared.resolve.Resolved.TheVariants.{NotAllowed, Absent, Length, Keyword}

-- auto has no value; padding and border don't take it
abbrev pub auto_in : Field → Resolved
auto_in field.InsetOrMargin = Absent
auto_in field.PaddingOrBorder = NotAllowed
auto_in field.Size = Absent
auto_in field.MinOrMax = Absent

-- the tags that only sizes take, in the size itself: content is auto, the others are sizing keywords
abbrev pub in_size : ℕ → Float → Float → Resolved
in_size tag value basis =
    cond (eqb tag 11) (Keyword keyword.MinContent)
    (cond (eqb tag 15) (Keyword (keyword.FitContentLimit (basis ⊗ value)))
    (cond (eqb tag 27) (Keyword keyword.MaxContent)
    (cond (eqb tag 35) Absent
    (cond (eqb tag 43) (Keyword (keyword.FitContentLimit value))
    (cond (eqb tag 59) (Keyword keyword.FitContent)
    (cond (eqb tag 75) (Keyword keyword.Stretch) NotAllowed))))))

-- a sizing keyword has no value in min and max
abbrev pub without_keyword : Resolved → Resolved
without_keyword NotAllowed = NotAllowed
without_keyword Absent = Absent
without_keyword (Length x) = Length x
without_keyword (Keyword k) = Absent

-- a tag that only sizes take: what it comes to in a field, from what it comes to in the size
abbrev pub from_size : Field → Resolved → Resolved
from_size field.InsetOrMargin size = NotAllowed
from_size field.PaddingOrBorder size = NotAllowed
from_size field.Size size = size
from_size field.MinOrMax size = without_keyword size

-- by tag, the whole word: 257 is no 1. 129 is a sum: basis × value, rounded, plus second value, rounded
unfoldable pub by_tag : Field → ℕ → Float → Float → Float → Resolved
by_tag f tag value second basis =
    cond (eqb tag 1) (Length value)
    (cond (eqb tag 3) (auto_in f)
    (cond (eqb tag 5) (Length (basis ⊗ value))
    (cond (eqb tag 129) (Length ((basis ⊗ value) ⊕ second))
    (from_size f (in_size tag value basis)))))

-- what a length comes to in a field, percentages and sums being taken of the basis. There is always one: the area's width or height, of any
-- bits
unfoldable pub resolved : Field → CompactLength → Float → Resolved
resolved f length basis = by_tag f length.tag length.value length.second basis

-- ---- admission

abbrev pub is_allowed : Resolved → Bool
is_allowed NotAllowed = false
is_allowed Absent = true
is_allowed (Length x) = true
is_allowed (Keyword k) = true

-- whether a field takes a tag; values and basis have no say (`AdmissionIsOfTheTag`)
unfoldable pub takes : Field → ℕ → Bool
takes f tag = is_allowed (resolved f (record { tag = tag; value = 0f; second = 0f }) 0f)

-- ---- values

-- the number of pixels, if it comes to one
abbrev pub value_of : Resolved → Option Float
value_of NotAllowed = None
value_of Absent = None
value_of (Length x) = Some x
value_of (Keyword k) = None

unfoldable pub maybe_resolved : Field → CompactLength → Float → Option Float
maybe_resolved f length basis = value_of (resolved f length basis)

-- four sides: left and right against one basis, top and bottom against another
unfoldable pub resolved_rect : Field → Rect CompactLength → Float → Float → Rect (Option Float)
resolved_rect f sides basisX basisY =
    record {
      left = maybe_resolved f sides.left basisX;
      right = maybe_resolved f sides.right basisX;
      top = maybe_resolved f sides.top basisY;
      bottom = maybe_resolved f sides.bottom basisY;
    }

-- width and height, each against its own basis
unfoldable pub resolved_size : Field → Size CompactLength → Size Float → Size (Option Float)
resolved_size f size basis =
    record { width = maybe_resolved f size.width basis.width; height = maybe_resolved f size.height basis.height }
