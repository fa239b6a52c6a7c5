-- One axis on integers: the rules of `oof_axis/specs/Axis.antt` with no rounding, in sixteenths. `Shape` has what is no number.
-- Only proofs use it. Assumes nothing.
use Rattle.std.specs.Prelude.{is_some}
use mathlib.Core.Bool.{Bool, true, false, not, ◌&&◌, ◌||◌, cond}
use Rattle.style.specs.declared.alignment.AlignmentSafety.{AlignmentSafety}
use Rattle.style.specs.declared.alignment.AlignmentSafety.TheVariants.{Default, Unsafe, Safe}
use Rattle.tree.specs.declared.layout.AxisStaticEdge.{AxisStaticEdge}
use Rattle.tree.specs.declared.layout.AxisStaticEdge.TheVariants.{Start, Center, End}
use Rattle.oof_axis.specs.declared.OofAlignment.{OofAlignment}
use Rattle.oof_axis.specs.declared.OofAlignment.TheVariants as align
use Rattle.oof_axis.specs.declared.OofAxis.{OofAxis}
use Rattle.oof_axis.specs.Axis.{is_normal}
use Rattle.util_exact.specs.Integer.{N, zero_n, add_n}
use Rattle.util_exact.proofs.Integers.{sub_n, dbl_n, half_n, max_n, min_n, mag_n, lt_n, le_n}

pub record LineN : Type 0 where
  pub start : N
  pub end : N

infix 60 ◌toN◌
abbrev pub ◌toN◌ : N → N → LineN
a toN b = record { start = a; end = b }

abbrev pub span_n : LineN → N
span_n l = sub_n l.end l.start

-- the numbers of an axis; of an absent inset or margin any number
pub record AxisN : Type 0 where
  pub size : N
  pub inset : LineN
  pub margin : LineN
  pub area : LineN

-- all else: of insets and margins, whether they are present
pub record Shape : Type 0 where
  pub inset_start : Bool
  pub inset_end : Bool
  pub margin_start : Bool
  pub margin_end : Bool
  pub keyword : AxisStaticEdge
  pub place_safety : AlignmentSafety
  pub alignment : OofAlignment
  pub safety : AlignmentSafety
  pub inline : Bool
  pub reversed : Bool
  pub scrolls : Bool

abbrev pub shape : OofAxis → Shape
shape a =
    record {
      inset_start = is_some a.inset.start;
      inset_end = is_some a.inset.end;
      margin_start = is_some a.margin.start;
      margin_end = is_some a.margin.end;
      keyword = a.place.align.keyword;
      place_safety = a.place.align.safety;
      alignment = a.alignment;
      safety = a.safety;
      inline = a.inline;
      reversed = a.reversed;
      scrolls = a.scrolls;
    }

-- ---- edges

abbrev pub start_of : Bool → AxisStaticEdge
start_of reversed = cond reversed End Start

abbrev pub end_of : Bool → AxisStaticEdge
end_of reversed = cond reversed Start End

abbrev pub align_n : LineN → N → AxisStaticEdge → N
align_n l box Start = l.start
align_n l box Center = half_n (sub_n (add_n l.start l.end) box)
align_n l box End = sub_n l.end box

-- ---- the block

abbrev pub centered_n : N → N → LineN
centered_n c w = cond (le_n (mag_n c) (mag_n (sub_n w c))) (zero_n toN dbl_n c) (sub_n w (dbl_n (sub_n w c)) toN w)

abbrev pub static_n : AxisStaticEdge → LineN → N → LineN
static_n Start area w = area.start toN w
static_n Center area w = centered_n (half_n (add_n area.start area.end)) w
static_n End area w = zero_n toN area.end

abbrev pub inset_n : Bool → Bool → AxisStaticEdge → AxisN → LineN
inset_n true true k α = α.inset.start toN sub_n α.size α.inset.end
inset_n true false k α = α.inset.start toN α.size
inset_n false true k α = zero_n toN sub_n α.size α.inset.end
inset_n false false k α = static_n k α.area α.size

abbrev pub weaker_of : Bool → Bool → Bool → AxisStaticEdge
weaker_of true true reversed = end_of reversed
weaker_of true false reversed = End
weaker_of false true reversed = Start
weaker_of false false reversed = end_of reversed

abbrev pub closed_n : AxisStaticEdge → LineN → LineN
closed_n Start l = l.end toN l.end
closed_n Center l = l.start toN l.start
closed_n End l = l.start toN l.start

abbrev pub repaired_n : AxisStaticEdge → LineN → LineN
repaired_n weaker l = cond (lt_n l.end l.start) (closed_n weaker l) l

abbrev pub block_n : Shape → AxisN → LineN
block_n σ α = repaired_n (weaker_of σ.inset_start σ.inset_end σ.reversed) (inset_n σ.inset_start σ.inset_end σ.keyword α)

-- ---- sizes and margins

abbrev pub or_zero_n : Bool → N → N
or_zero_n true a = a
or_zero_n false a = zero_n

abbrev pub stretch_fit_n : Shape → AxisN → N
stretch_fit_n σ α = max_n (sub_n (span_n (block_n σ α)) (add_n (or_zero_n σ.margin_start α.margin.start) (or_zero_n σ.margin_end α.margin.end))) zero_n

abbrev pub halves_n : N → Bool → Bool → LineN
halves_n free inline reversed = cond (lt_n free zero_n && inline) (cond reversed (free toN zero_n) (zero_n toN free)) (half_n free toN half_n free)

abbrev pub filled_n : Bool → Bool → LineN → N → Bool → Bool → LineN
filled_n true true m free inline reversed = m.start toN m.end
filled_n true false m free inline reversed = m.start toN sub_n free m.start
filled_n false true m free inline reversed = sub_n free m.end toN m.end
filled_n false false m free inline reversed = halves_n free inline reversed

-- the margins fill the block: both insets are given and a margin is auto
abbrev pub fills : Bool → Bool → Bool → Bool → Bool
fills s e ms me = s && e && not (ms && me)

abbrev pub margins_in : Bool → LineN → Shape → AxisN → N → LineN
margins_in both l σ α size =
    cond both (filled_n σ.margin_start σ.margin_end α.margin (sub_n (span_n l) size) σ.inline σ.reversed)
    (or_zero_n σ.margin_start α.margin.start toN or_zero_n σ.margin_end α.margin.end)

abbrev pub margins_n : Shape → AxisN → N → LineN
margins_n σ α size = margins_in (σ.inset_start && σ.inset_end) (block_n σ α) σ α size

-- ---- position

abbrev pub align_of : OofAlignment → Bool → AxisStaticEdge
align_of align.Normal reversed = start_of reversed
align_of align.Stretch reversed = start_of reversed
align_of align.Start reversed = start_of reversed
align_of align.Center reversed = Center
align_of align.End reversed = end_of reversed

-- the limit where it is finite
abbrev pub limit_n : N → LineN → LineN
limit_n w l = min_n l.start zero_n toN max_n l.end w

abbrev pub kept_n : LineN → Bool → LineN → N → AxisStaticEdge → N
kept_n lim reversed l box k = cond (le_n box (span_n lim)) (max_n (min_n (align_n l box k) (sub_n lim.end box)) lim.start) (align_n lim box (start_of reversed))

-- kept within the limit, which is open at the end (of a reversed axis at the start) where the container scrolls
abbrev pub limited_n : Bool → Bool → N → LineN → N → AxisStaticEdge → N
limited_n false reversed w l box k = kept_n (limit_n w l) reversed l box k
limited_n true false w l box k = max_n (align_n l box k) (limit_n w l).start
limited_n true true w l box k = min_n (align_n l box k) (sub_n (limit_n w l).end box)

abbrev pub self_n : AlignmentSafety → Shape → N → LineN → N → AxisStaticEdge → N
self_n Unsafe σ w l box k = align_n l box k
self_n Safe σ w l box k = align_n l box (cond (lt_n (span_n l) box) (start_of σ.reversed) k)
self_n Default σ w l box k = cond (le_n box (span_n l) || is_normal σ.alignment) (align_n l box k) (limited_n σ.scrolls σ.reversed w l box k)

abbrev pub static_place_n : AlignmentSafety → Shape → LineN → LineN → N → N
static_place_n Default σ area l box = align_n area box σ.keyword
static_place_n Unsafe σ area l box = align_n area box σ.keyword
static_place_n Safe σ area l box = cond (lt_n (span_n l) box) (align_n l box (start_of σ.reversed)) (align_n area box σ.keyword)

abbrev pub box_n : N → LineN → N
box_n size m = add_n (add_n size m.start) m.end

abbrev pub position_n : Bool → Bool → Shape → AxisN → LineN → N → LineN → N
position_n false false σ α l size m = add_n (static_place_n σ.place_safety σ α.area l (box_n size m)) m.start
position_n true false σ α l size m = add_n l.start m.start
position_n false true σ α l size m = sub_n (sub_n l.end size) m.end
position_n true true σ α l size m =
    cond (σ.margin_start && σ.margin_end)
    (add_n (self_n σ.safety σ α.size l (box_n size m) (align_of σ.alignment σ.reversed)) m.start)
    (add_n l.start m.start)

abbrev pub place_n : Shape → AxisN → N → N
place_n σ α size = position_n σ.inset_start σ.inset_end σ α (block_n σ α) size (margins_n σ α size)
