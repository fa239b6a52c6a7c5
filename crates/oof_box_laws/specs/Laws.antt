-- What CSS says of one box (css-position-3 #abspos-auto-size, css-sizing-3 #min-size-properties, css-tables-3 #abspos) and of what it adds to
-- the scrollable overflow (css-overflow-3 #scrollable), as laws of `placed`: they hold of the whole dialogue, whatever the host replies.
-- (Three are of a part: `ClampIsSettled` of a clamp, `SizeIsSettled` of ratio and clamp, `ClippedOverflowIsNotCounted` of `contribution`.)
-- What the style comes to first is said by Resolved.antt; where a box stands in an axis by the laws of one axis (oof_axis/specs/Laws.antt,
-- oof_axis_laws/specs/Laws.antt), to which `StandsByItsAxes` leads. `proofs/` proves each, under its name in small letters. Assumes nothing.
use Rattle.std.specs.Prelude.{◌≡◌, ◌⊎◌, [], ◌∷◌, Bool, true, false, cond, not, ◌&&◌, ℕ, ◌≤◌, Float, None, Option, Some}
use Rattle.std.specs.Float.Ieee.{lt, le}
use Rattle.std.specs.Float.Ieee.Exact.{HasValue}
use Rattle.util.specs.Number.{◌⊕◌, ◌⊖◌, 0f}
use Rattle.util.specs.Order.{larger, smaller}
use Rattle.util.specs.Maybe.{clamped, or_zero}
use Rattle.util.specs.Laws.{AtOrAbove, AtOrBelow}
use Rattle.geometry.specs.Geometry.{◌to◌, zero_rect, rect_of, counted_from, line_x, line_y}
use Rattle.geometry.specs.declared.Line.{Line}
use Rattle.geometry.specs.declared.Point.{Point}
use Rattle.geometry.specs.declared.Rect.{Rect}
use Rattle.geometry.specs.declared.Size.{Size}
use Rattle.style.specs.declared.available_space.AvailableSpace.{AvailableSpace}
use Rattle.style.specs.declared.Contain.{Contain}
use Rattle.style.specs.declared.Direction.TheVariants.{Ltr, Rtl}
use Rattle.style.specs.declared.Overflow.{Overflow}
use Rattle.style.specs.declared.Overflow.TheVariants.{Visible, Clip, Hidden, Scroll}
use Rattle.style.specs.declared.Style.{Style}
use Rattle.style.specs.declared.compact_length.CompactLength.{CompactLength}
use Rattle.style.specs.declared.available_space.AvailableSpace.TheVariants.{Definite}
use Rattle.tree.specs.declared.layout.AxisStaticPosition.{AxisStaticPosition}
use Rattle.tree.specs.declared.layout.Layout.{Layout}
use Rattle.tree.specs.declared.layout.OofCandidate.{OofCandidate}
use Rattle.oof_axis.specs.Axis.{block, stretch_fit, stretches, placement}
use Rattle.oof_axis.specs.declared.OofAxis.{OofAxis}
use Rattle.oof_resolve.specs.Resolved.{resolved_box}
use Rattle.oof_resolve.specs.declared.ContainingBlock.{ContainingBlock}
use Rattle.oof_resolve.specs.declared.ResolvedBox.{ResolvedBox}
use Rattle.oof_common.specs.ScrollableOverflow.{contribution}
use Rattle.oof_box.specs.Talk.{Talk, done, ask, ReplyTo, Laid}
use Rattle.oof_box.specs.Box.{Placed, placed, settled}
use Rattle.oof_box.specs.declared.question.LayoutInput.{LayoutInput}
use Rattle.oof_box.specs.declared.question.MeasureInput.{MeasureInput}
use Rattle.oof_box.specs.declared.question.Question.{Question}
use Rattle.oof_box.specs.declared.question.Question.TheVariants.{MeasureBoth, MeasureWidth, MeasureHeight, LayOut}
use Rattle.util_exact.specs.Value.{Quarter, MaybeQuarters}
use Rattle.oof_axis_laws.specs.Laws.{◌=Σ◌, ◌≤Σ◌}
use Rattle.oof_box_laws.specs.Resolved.{IsAutoSize, HasKeyword}

-- ---- whatever the host replies

-- P holds of the outcome of a dialogue, for every list of replies
pub data Always {A : Type 0} (P : A → Type 0) : Talk A → Type 0 where
  now : {a : A} → P a → Always P (done a)
  later : {q : Question} {next : ReplyTo q → Talk A} → ((r : ReplyTo q) → Always P (next r)) → Always P (ask q next)

-- of the laid-out size
abbrev pub SizeAlways : (Size Float → Type 0) → ContainingBlock → Style → OofCandidate → Type 0
SizeAlways P container style candidate = Always (λ (p : Placed). P p.outcome.layout.size) (placed container style candidate)

-- P holds of every question
pub data Asks {A : Type 0} (P : Question → Type 0) : Talk A → Type 0 where
  ends : {a : A} → Asks P (done a)
  asks : {q : Question} {next : ReplyTo q → Talk A} → P q → ((r : ReplyTo q) → Asks P (next r)) → Asks P (ask q next)

-- nothing is measured
abbrev pub OnlyLayOut : Question → Type 0
OnlyLayOut (MeasureBoth m) = ⊥
OnlyLayOut (MeasureWidth m) = ⊥
OnlyLayOut (MeasureHeight m) = ⊥
OnlyLayOut (LayOut l) = Unit {0}

-- both sizes are asked for, after questions that B holds of, if any, and then nothing is measured; P holds of that question, of its reply and of
-- the outcome
pub data Measures (B : Question → Type 0) (P : MeasureInput → Size Float → Placed → Type 0) : Talk Placed → Type 0 where
  measures : {m : MeasureInput} {next : Size Float → Talk Placed} → ((r : Size Float) → Always (P m r) (next r)) → ((r : Size Float) → Asks OnlyLayOut (next r)) → Measures B P (ask (MeasureBoth m) next)
  after : {q : Question} {next : ReplyTo q → Talk Placed} → B q → ((r : ReplyTo q) → Measures B P (next r)) → Measures B P (ask q next)

-- ---- sizes. Min, max and size are those of step 2, as Resolved.antt says on the style's words.

-- min ≤ size
abbrev pub MinHolds : Type 0
MinHolds =
    (container : ContainingBlock) (style : Style) (candidate : OofCandidate) (low : Float)
    → let box = resolved_box container style candidate in
    (box.min.width ≡ Some low → SizeAlways (λ s. AtOrAbove low s.width) container style candidate)
    × (box.min.height ≡ Some low → SizeAlways (λ s. AtOrAbove low s.height) container style candidate)

-- size ≤ max, unless min is above max, or, of a table that stretches, its stretch-fit size, to which its min is raised (document 01)
abbrev pub MaxHolds : Type 0
MaxHolds =
    (container : ContainingBlock) (style : Style) (candidate : OofCandidate) (low high : Float)
    → let box = resolved_box container style candidate in
    (box.min.width ≡ Some low → box.max.width ≡ Some high → lt high low ≡ false → (style.table ≡ true → box.size.width ≡ None → stretches box.horizontal false ≡ true → lt high (stretch_fit box.horizontal) ≡ false)
    → SizeAlways (λ s. AtOrBelow high s.width) container style candidate)
    × (box.min.height ≡ Some low → box.max.height ≡ Some high → lt high low ≡ false → (style.table ≡ true → box.size.height ≡ None → stretches box.vertical false ≡ true → lt high (stretch_fit box.vertical) ≡ false)
    → SizeAlways (λ s. AtOrBelow high s.height) container style candidate)

-- a size that step 2 has (given, or by the ratio; clamped) is the size: no reply, no alignment and no keyword of the other side changes it
abbrev pub GivenSizeStays : Type 0
GivenSizeStays =
    (container : ContainingBlock) (style : Style) (candidate : OofCandidate) (x : Float)
    → let box = resolved_box container style candidate in
    (box.size.width ≡ Some x → SizeAlways (λ s. s.width ≡ x) container style candidate)
    × (box.size.height ≡ Some x → SizeAlways (λ s. s.height ≡ x) container style candidate)

-- neither a ratio nor a size keyword has a say: each side is in pixels, a percentage, a sum of both, or auto
abbrev pub NoSizeKeyword : CompactLength → Type 0
NoSizeKeyword l = (l.tag ≡ 1) ⊎ ((l.tag ≡ 5) ⊎ ((l.tag ≡ 129) ⊎ IsAutoSize l))

pub record Plain (style : Style) : Type 0 where
  pub ratio : style.ratio ≡ None
  pub width : NoSizeKeyword style.size.width
  pub height : NoSizeKeyword style.size.height

-- a box that normal alignment stretches: neither replaced nor a table
abbrev pub stretchable : Style → Bool
stretchable style = not style.replaced && not style.table

-- stretch fills: an auto size that stretches is the stretch-fit size, clamped, whatever is measured, also beside a side with a size keyword.
-- Where the box then stands is said by `StretchedBoxFillsItsBlock`.
abbrev pub StretchFills : Type 0
StretchFills =
    (container : ContainingBlock) (style : Style) (candidate : OofCandidate)
    → let box = resolved_box container style candidate in
    style.ratio ≡ None → style.table ≡ false
    → (IsAutoSize style.size.width → stretches box.horizontal (stretchable style) ≡ true
    → SizeAlways (λ s. s.width ≡ clamped (stretch_fit box.horizontal) box.min.width box.max.width) container style candidate)
    × (IsAutoSize style.size.height → stretches box.vertical (stretchable style) ≡ true
    → SizeAlways (λ s. s.height ≡ clamped (stretch_fit box.vertical) box.min.height box.max.height) container style candidate)

-- a question for one side alone, by its size keyword (step 4: Keywords.antt), with the other side unknown; of a side without a keyword there is
-- none
abbrev pub WidthByKeyword : Style → Question → Type 0
WidthByKeyword style (MeasureBoth m) = ⊥
WidthByKeyword style (MeasureWidth m) = HasKeyword style.size.width × (m.known.height ≡ None)
WidthByKeyword style (MeasureHeight m) = ⊥
WidthByKeyword style (LayOut l) = ⊥

abbrev pub HeightByKeyword : Style → Question → Type 0
HeightByKeyword style (MeasureBoth m) = ⊥
HeightByKeyword style (MeasureWidth m) = ⊥
HeightByKeyword style (MeasureHeight m) = HasKeyword style.size.height × (m.known.width ≡ None)
HeightByKeyword style (LayOut l) = ⊥

-- any other auto size is fit-content: it is asked for with the other side, and is the reply, clamped, also beside a side with a size keyword,
-- whose question comes first. (What is told of that side: `StretchKeywordIsTold`, `WidthIsMeasured`, `HeightIsMeasured`; in which space:
-- `FilledInTheSpace`.)
abbrev pub MeasuredIsTheReply : Type 0
MeasuredIsTheReply =
    (container : ContainingBlock) (style : Style) (candidate : OofCandidate)
    → let box = resolved_box container style candidate in
    style.ratio ≡ None → style.table ≡ false
    → (IsAutoSize style.size.width → stretches box.horizontal (stretchable style) ≡ false
    → Measures (HeightByKeyword style) (λ m r p. (m.known.width ≡ None) × (p.outcome.layout.size.width ≡ clamped r.width box.min.width box.max.width)) (placed container style candidate))
    × (IsAutoSize style.size.height → stretches box.vertical (stretchable style) ≡ false
    → Measures (WidthByKeyword style) (λ m r p. (m.known.height ≡ None) × (p.outcome.layout.size.height ≡ clamped r.height box.min.height box.max.height)) (placed container style candidate))

-- an auto size of a table is never stretched (css-tables-3) but asked for, and is the reply, clamped, with its min raised to the stretch-fit size
-- between two insets where the alignment is stretch
abbrev pub table_min : Bool → Float → Float → Float
table_min stretchesSide low fit = cond stretchesSide (larger low fit) low

abbrev pub TableIsMeasured : Type 0
TableIsMeasured =
    (container : ContainingBlock) (style : Style) (candidate : OofCandidate) (low : Float)
    → let box = resolved_box container style candidate in
    style.ratio ≡ None → style.table ≡ true
    → (IsAutoSize style.size.width → box.min.width ≡ Some low
    → Measures (HeightByKeyword style)
    (λ m r p. (m.known.width ≡ None)
    × (p.outcome.layout.size.width ≡ clamped r.width (Some (table_min (stretches box.horizontal false) low (stretch_fit box.horizontal))) box.max.width)) (placed container style candidate))
    × (IsAutoSize style.size.height → box.min.height ≡ Some low
    → Measures (WidthByKeyword style)
    (λ m r p. (m.known.height ≡ None)
    × (p.outcome.layout.size.height ≡ clamped r.height (Some (table_min (stretches box.vertical false) low (stretch_fit box.vertical))) box.max.height)) (placed container style candidate))

-- ---- what the host is asked

-- the room of a side: the inset-modified block less the margins that aren't auto, at least 0 (the stretch-fit size); of a table no more than
-- the containing block less them (css-tables-3)
abbrev pub room_of : Bool → OofAxis → Float
room_of table a = cond table (smaller (stretch_fit a) (larger (a.size ⊖ (or_zero a.margin.start ⊕ or_zero a.margin.end)) 0f)) (stretch_fit a)

-- the available space is that room, clamped as a size of the box is
abbrev pub space_of : Style → ResolvedBox → Size AvailableSpace
space_of style box =
    record {
      width = Definite (clamped (room_of style.table box.horizontal) box.min.width box.max.width);
      height = Definite (clamped (room_of style.table box.vertical) box.min.height box.max.height);
    }

abbrev pub AskedIn : Size AvailableSpace → Question → Type 0
AskedIn space (MeasureBoth m) = m.space ≡ space
AskedIn space (MeasureWidth m) = m.space ≡ space
AskedIn space (MeasureHeight m) = m.space ≡ space
AskedIn space (LayOut l) = l.space ≡ space

abbrev pub LaidOutIn : Size AvailableSpace → Question → Type 0
LaidOutIn space (MeasureBoth m) = Unit {0}
LaidOutIn space (MeasureWidth m) = Unit {0}
LaidOutIn space (MeasureHeight m) = Unit {0}
LaidOutIn space (LayOut l) = l.space ≡ space

-- a box is laid out in that space; without a size keyword it is measured in it too
abbrev pub SpaceIsTheBlock : Type 0
SpaceIsTheBlock =
    (container : ContainingBlock) (style : Style) (candidate : OofCandidate)
    → let box = resolved_box container style candidate in
    Asks (LaidOutIn (space_of style box)) (placed container style candidate) × (Plain style → Asks (AskedIn (space_of style box)) (placed container style candidate))

-- a width x is told with each question, and never asked for alone; a height likewise
abbrev pub WidthTold : Float → Question → Type 0
WidthTold x (MeasureBoth m) = m.known.width ≡ Some x
WidthTold x (MeasureWidth m) = ⊥
WidthTold x (MeasureHeight m) = m.known.width ≡ Some x
WidthTold x (LayOut l) = l.size.width ≡ x

abbrev pub HeightTold : Float → Question → Type 0
HeightTold x (MeasureBoth m) = m.known.height ≡ Some x
HeightTold x (MeasureWidth m) = m.known.height ≡ Some x
HeightTold x (MeasureHeight m) = ⊥
HeightTold x (LayOut l) = l.size.height ≡ x

-- a size that step 2 has is told
abbrev pub GivenSizeIsTold : Type 0
GivenSizeIsTold =
    (container : ContainingBlock) (style : Style) (candidate : OofCandidate) (x : Float)
    → let box = resolved_box container style candidate in
    (box.size.width ≡ Some x → Asks (WidthTold x) (placed container style candidate)) × (box.size.height ≡ Some x → Asks (HeightTold x) (placed container style candidate))

-- an auto size that stretches is told: the height of a stretched width is measured at that width. Only the question of the other side's keyword,
-- which comes first, doesn't tell it.
abbrev pub StretchedSizeIsTold : Type 0
StretchedSizeIsTold =
    (container : ContainingBlock) (style : Style) (candidate : OofCandidate)
    → let box = resolved_box container style candidate in
    style.ratio ≡ None → style.table ≡ false
    → (IsAutoSize style.size.width → stretches box.horizontal (stretchable style) ≡ true
    → Asks (λ q. WidthTold (clamped (stretch_fit box.horizontal) box.min.width box.max.width) q ⊎ HeightByKeyword style q) (placed container style candidate))
    × (IsAutoSize style.size.height → stretches box.vertical (stretchable style) ≡ true
    → Asks (λ q. HeightTold (clamped (stretch_fit box.vertical) box.min.height box.max.height) q ⊎ WidthByKeyword style q) (placed container style candidate))

-- the last question is lay out, and P holds of it, of its reply and of the outcome
pub data LaysOut (P : LayoutInput → Laid → Placed → Type 0) : Talk Placed → Type 0 where
  last : {l : LayoutInput} {outcome : Laid → Placed} → ((r : Laid) → P l r (outcome r)) → LaysOut P (ask (LayOut l) (λ r. done (outcome r)))
  before : {q : Question} {next : ReplyTo q → Talk Placed} → ((r : ReplyTo q) → LaysOut P (next r)) → LaysOut P (ask q next)

-- the layout has the size that was laid out, and the overflow of the reply; the candidates that the reply surfaces are passed on
abbrev pub LayoutIsTheReply : Type 0
LayoutIsTheReply =
    (container : ContainingBlock) (style : Style) (candidate : OofCandidate)
    → LaysOut
    (λ l r p. (p.outcome.layout.size ≡ l.size) × (p.outcome.layout.overflow ≡ r.overflow) × (p.surfaced ≡ r.surfaced))
    (placed container style candidate)

-- ---- clamps

-- a clamp that is done changes nothing when done again
abbrev pub ClampIsSettled : Type 0
ClampIsSettled = (x : Float) (min max : Option Float) → clamped (clamped x min max) min max ≡ clamped x min max

-- nor do ratio and clamp change the size that step 2 resolved
abbrev pub SizeIsSettled : Type 0
SizeIsSettled = (container : ContainingBlock) (style : Style) (candidate : OofCandidate) → let box = resolved_box container style candidate in settled style.ratio box box.size ≡ box.size

-- ---- where a box stands

-- where its axes place it, moved by the area's offset, with the margins of its axes
abbrev pub StandsByItsAxes : Type 0
StandsByItsAxes =
    (container : ContainingBlock) (style : Style) (candidate : OofCandidate)
    → let box = resolved_box container style candidate in
    Always
    (λ (p : Placed). let l = p.outcome.layout in
    (l.location.x ≡ (placement box.horizontal l.size.width).position ⊕ container.area.offset.x)
    × (l.location.y ≡ (placement box.vertical l.size.height).position ⊕ container.area.offset.y)
    × (l.margin ≡ rect_of (placement box.horizontal l.size.width).margin (placement box.vertical l.size.height).margin))
    (placed container style candidate)

-- an auto size stretches (between two insets, by its alignment: `StretchesBetweenInsets`), to a stretch-fit size above 0 that neither min nor max
-- changes. An auto min is padding plus border, an auto max is none (`AutoIsNoSize`).
pub record StretchesFreely (a : OofAxis) (plain : Bool) (min max : Option Float) : Type 0 where
  pub stretching : stretches a plain ≡ true
  pub room : lt 0f (stretch_fit a) ≡ true
  pub at_least_min : (low : Float) → min ≡ Some low → lt (stretch_fit a) low ≡ false
  pub at_most_max : (high : Float) → max ≡ Some high → lt high (stretch_fit a) ≡ false

-- whole quarter pixels of size 4,096 at most: the area's extent and offset, insets and margins
pub record InQuarters (a : OofAxis) (offset : Float) : Type 0 where
  pub area : Quarter a.size
  pub area_offset : Quarter offset
  pub inset_start : MaybeQuarters 16384 a.inset.start
  pub inset_end : MaybeQuarters 16384 a.inset.end
  pub margin_start : MaybeQuarters 16384 a.margin.start
  pub margin_end : MaybeQuarters 16384 a.margin.end

-- the margin box, of a border box that begins at `at`, is the line l, which counts from the area's edge: it begins and ends where l does
abbrev pub MarginBoxIs : Line Float → Float → Float → Float → Line Float → Type 0
MarginBoxIs l offset at size margin = (at ∷ [] =Σ offset ∷ l.start ∷ margin.start ∷ []) × (at ∷ size ∷ margin.end ∷ [] =Σ offset ∷ l.end ∷ [])

-- a stretched box fills its block: its margin box is the block, with no rounding, whatever is replied, whatever direction, safety, scrolling
-- and static position, and whether margins are given or auto
abbrev pub StretchedBoxFillsItsBlock : Type 0
StretchedBoxFillsItsBlock =
    (container : ContainingBlock) (style : Style) (candidate : OofCandidate)
    → let box = resolved_box container style candidate in
    let offset = container.area.offset in
    style.ratio ≡ None → style.table ≡ false
    → (IsAutoSize style.size.width → StretchesFreely box.horizontal (stretchable style) box.min.width box.max.width → InQuarters box.horizontal offset.x
    → Always
    (λ (p : Placed). let l = p.outcome.layout in MarginBoxIs (block box.horizontal) offset.x l.location.x l.size.width (line_x l.margin))
    (placed container style candidate))
    × (IsAutoSize style.size.height → StretchesFreely box.vertical (stretchable style) box.min.height box.max.height → InQuarters box.vertical offset.y
    → Always
    (λ (p : Placed). let l = p.outcome.layout in MarginBoxIs (block box.vertical) offset.y l.location.y l.size.height (line_y l.margin))
    (placed container style candidate))

-- the gutter of a scrollbar: overflow scroll has one, as wide as the bar; no other value has (css-overflow-3 #scrollbar-layout)
pub record GutterOf (overflow : Overflow) (bar gutter : Float) : Type 0 where
  pub visible : overflow ≡ Visible → gutter ≡ 0f
  pub clip : overflow ≡ Clip → gutter ≡ 0f
  pub hidden : overflow ≡ Hidden → gutter ≡ 0f
  pub scroll : overflow ≡ Scroll → gutter ≡ bar

-- the bar that scrolls up and down takes width, the one that scrolls across takes height; padding and border are as resolved
abbrev pub GuttersAndEdges : Type 0
GuttersAndEdges =
    (container : ContainingBlock) (style : Style) (candidate : OofCandidate)
    → let box = resolved_box container style candidate in
    Always
    (λ (p : Placed). let l = p.outcome.layout in
    GutterOf style.overflow.y style.scrollbar l.scrollbar.width × GutterOf style.overflow.x style.scrollbar l.scrollbar.height
    × (l.padding ≡ box.padding) × (l.border ≡ box.border) × (l.order ≡ candidate.order))
    (placed container style candidate)

-- the same block at another offset
abbrev pub with_offset : Point Float → ContainingBlock → ContainingBlock
with_offset offset container = record { area = record { size = container.area.size; offset = offset }; direction = container.direction; overflow = container.overflow }

-- two static positions that, counted from their areas' edges, are one
pub record SamePlace (p : AxisStaticPosition) (offset : Float) (p' : AxisStaticPosition) (offset' : Float) : Type 0 where
  pub area : counted_from p'.area offset' ≡ counted_from p.area offset
  pub align : p'.align ≡ p.align

pub record StandAlike (c : OofCandidate) (offset : Point Float) (c' : OofCandidate) (offset' : Point Float) : Type 0 where
  pub node : c'.node ≡ c.node
  pub order : c'.order ≡ c.order
  pub x : SamePlace c.place.x offset.x c'.place.x offset'.x
  pub y : SamePlace c.place.y offset.y c'.place.y offset'.y

-- two dialogues that ask the same questions, whatever the replies, and R holds of their outcomes
pub data Alike (R : Placed → Placed → Type 0) : Talk Placed → Talk Placed → Type 0 where
  ended : {p p' : Placed} → R p p' → Alike R (done p) (done p')
  asking : {q : Question} {next next' : ReplyTo q → Talk Placed} → ((r : ReplyTo q) → Alike R (next r) (next' r)) → Alike R (ask q next) (ask q next')

abbrev pub plus : Point Float → Point Float → Point Float
plus p q = record { x = p.x ⊕ q.x; y = p.y ⊕ q.y }

abbrev pub less : Point Float → Point Float → Point Float
less p q = record { x = p.x ⊖ q.x; y = p.y ⊖ q.y }

abbrev pub located_at : Point Float → Layout → Layout
located_at location l =
    record {
      order = l.order;
      size = l.size;
      overflow = l.overflow;
      scrollbar = l.scrollbar;
      location = location;
      padding = l.padding;
      border = l.border;
      margin = l.margin;
    }

-- one place in the area: the layouts are the same but for the offset in their location, and they add the same to the overflow where an offset
-- that is added and taken off again rounds nothing
pub record MovedAlone (offset offset' : Point Float) (p p' : Placed) : Type 0 where
  pub place : Point Float
  pub location : p.outcome.layout.location ≡ plus place offset
  pub layout : p'.outcome.layout ≡ located_at (plus place offset') p.outcome.layout
  pub surfaced : p'.surfaced ≡ p.surfaced
  pub contribution :
      less (plus place offset) offset ≡ place → less (plus place offset') offset' ≡ place → p'.outcome.contribution ≡ p.outcome.contribution

-- layouts move with the offset alone
abbrev pub OffsetMovesAlone : Type 0
OffsetMovesAlone =
    (container : ContainingBlock) (offset' : Point Float) (style : Style) (candidate candidate' : OofCandidate) → StandAlike candidate container.area.offset candidate' offset'
    → Alike (MovedAlone container.area.offset offset') (placed container style candidate) (placed (with_offset offset' container) style candidate')

-- ---- the contribution to the scrollable overflow

-- overflow hidden or scroll, in either axis, makes a scroll container
abbrev pub Scroller : Point Overflow → Type 0
Scroller o = ((o.x ≡ Hidden) ⊎ (o.x ≡ Scroll)) ⊎ ((o.y ≡ Hidden) ⊎ (o.y ≡ Scroll))

-- visible or clip, in both, makes none
abbrev pub NoScroller : Point Overflow → Type 0
NoScroller o = ((o.x ≡ Visible) ⊎ (o.x ≡ Clip)) × ((o.y ≡ Visible) ⊎ (o.y ≡ Clip))

-- layout and paint containment each hold overflow in
abbrev pub Contained : Contain → Type 0
Contained c = (c.layout ≡ true) ⊎ (c.paint ≡ true)

abbrev pub NotContained : Contain → Type 0
NotContained c = (c.layout ≡ false) × (c.paint ≡ false)

-- in a scrolling parent it is zeros, or can be scrolled to: right and bottom are above 0. It counts from the start edge by direction, so
-- that this is one law for both.
abbrev pub ScrollingContributionIsReachable : Type 0
ScrollingContributionIsReachable =
    (container : ContainingBlock) (style : Style) (candidate : OofCandidate) → Scroller container.overflow
    → Always
    (λ (p : Placed). let r = p.outcome.contribution in (r ≡ zero_rect) ⊎ ((le r.right 0f ≡ false) × (le r.bottom 0f ≡ false)))
    (placed container style candidate)

-- whole sixteenths of a pixel (to which boxes of quarter pixels are aligned), of size 131,072 at most
pub record Sixteenth (x : Float) : Type 0 where
  pub sign : Bool
  pub k : ℕ
  pub value : HasValue x sign k 16
  pub small : k ≤ 2097152

-- the numbers of a laid-out box, its area, its place and its own overflow
pub record Fine (container : ContainingBlock) (l : Layout) : Type 0 where
  pub width : Sixteenth container.area.size.width
  pub offset_x : Sixteenth container.area.offset.x
  pub offset_y : Sixteenth container.area.offset.y
  pub x : Sixteenth l.location.x
  pub y : Sixteenth l.location.y
  pub size_x : Sixteenth l.size.width
  pub size_y : Sixteenth l.size.height
  pub left : Sixteenth l.overflow.left
  pub right : Sixteenth l.overflow.right
  pub top : Sixteenth l.overflow.top
  pub bottom : Sixteenth l.overflow.bottom

-- r holds, or is, what reaches from l.start to l.end of the box's start edge: in y, and in x left-to-right, from the area's top or left
-- edge on; in x right-to-left, from its right edge leftwards
abbrev pub HoldsForwards : Line Float → Float → Float → Line Float → Type 0
HoldsForwards r offset at l = (r.start ∷ offset ∷ [] ≤Σ at ∷ l.start ∷ []) × (at ∷ l.end ∷ [] ≤Σ r.end ∷ offset ∷ [])

abbrev pub HoldsBackwards : Line Float → Float → Float → Float → Float → Line Float → Type 0
HoldsBackwards r offset width at size l =
    (r.start ∷ at ∷ size ∷ [] ≤Σ offset ∷ width ∷ l.start ∷ []) × (offset ∷ width ∷ l.end ∷ [] ≤Σ r.end ∷ at ∷ size ∷ [])

abbrev pub HoldsAcross : ContainingBlock → Layout → Line Float → Line Float → Type 0
HoldsAcross container l r x =
    (container.direction ≡ Ltr → HoldsForwards r container.area.offset.x l.location.x x)
    × (container.direction ≡ Rtl → HoldsBackwards r container.area.offset.x container.area.size.width l.location.x l.size.width x)

abbrev pub HoldsDown : ContainingBlock → Layout → Line Float → Line Float → Type 0
HoldsDown container l r y = HoldsForwards r container.area.offset.y l.location.y y

-- the border box, from its start edges
abbrev pub HoldsTheBox : ContainingBlock → Layout → Rect Float → Type 0
HoldsTheBox container l r = HoldsAcross container l (line_x r) (0f to l.size.width) × HoldsDown container l (line_y r) (0f to l.size.height)

-- it is zeros, or it holds the border box, in both directions
abbrev pub ContributionHoldsTheBox : Type 0
ContributionHoldsTheBox =
    (container : ContainingBlock) (style : Style) (candidate : OofCandidate)
    → Always
    (λ (p : Placed). let r = p.outcome.contribution in Fine container p.outcome.layout → (r ≡ zero_rect) ⊎ HoldsTheBox container p.outcome.layout r)
    (placed container style candidate)

-- and the box's own overflow, along an axis in which that is visible, where the box is no scroll container and nothing contains it
abbrev pub ContributionHoldsItsOverflow : Type 0
ContributionHoldsItsOverflow =
    (container : ContainingBlock) (style : Style) (candidate : OofCandidate) → NoScroller style.overflow → NotContained style.contain
    → Always
    (λ (p : Placed). let l = p.outcome.layout in let r = p.outcome.contribution in
    Fine container l
    → (r ≡ zero_rect)
    ⊎ ((style.overflow.x ≡ Visible → HoldsAcross container l (line_x r) (line_x l.overflow)) × (style.overflow.y ≡ Visible → HoldsDown container l (line_y r) (line_y l.overflow))))
    (placed container style candidate)

-- the box ends after the area's start edges
abbrev pub PastTheStart : ContainingBlock → Layout → Type 0
PastTheStart container l =
    (container.direction ≡ Ltr → (l.location.x ∷ l.size.width ∷ [] ≤Σ container.area.offset.x ∷ []) → ⊥)
    × (container.direction ≡ Rtl → (container.area.offset.x ∷ container.area.size.width ∷ [] ≤Σ l.location.x ∷ []) → ⊥)
    × ((l.location.y ∷ l.size.height ∷ [] ≤Σ container.area.offset.y ∷ []) → ⊥)

-- a box with a size that can be scrolled to counts
abbrev pub ContributionCounts : Type 0
ContributionCounts =
    (container : ContainingBlock) (style : Style) (candidate : OofCandidate)
    → Always
    (λ (p : Placed). let l = p.outcome.layout in
    Fine container l → lt 0f l.size.width ≡ true → lt 0f l.size.height ≡ true → (Scroller container.overflow → PastTheStart container l)
    → HoldsTheBox container l p.outcome.contribution)
    (placed container style candidate)

-- it holds no more than the border box where the box's own overflow is within it: no margin
abbrev pub WithinTheBox : Layout → Type 0
WithinTheBox l =
    (le 0f l.overflow.left ≡ true) × (le l.overflow.right l.size.width ≡ true)
    × (le 0f l.overflow.top ≡ true) × (le l.overflow.bottom l.size.height ≡ true)

abbrev pub ContributionHoldsNoMore : Type 0
ContributionHoldsNoMore =
    (container : ContainingBlock) (style : Style) (candidate : OofCandidate)
    → Always
    (λ (p : Placed). let l = p.outcome.layout in let r = p.outcome.contribution in
    Fine container l → WithinTheBox l → (r ≡ zero_rect) ⊎ ((r.left ∷ l.size.width ∷ [] =Σ r.right ∷ []) × (r.top ∷ l.size.height ∷ [] =Σ r.bottom ∷ [])))
    (placed container style candidate)

-- what the box clips isn't counted: own overflow that a scroll container or containment holds, in both axes; along an axis that clips, in
-- that one
abbrev pub ClippedOverflowIsNotCounted : Type 0
ClippedOverflowIsNotCounted =
    (location : Point Float) (size : Size Float) (own own' : Rect Float) (overflow : Point Overflow) (contain : Contain) (parentScrolls : Bool)
    → (Scroller overflow ⊎ Contained contain → contribution location size own overflow contain parentScrolls ≡ contribution location size own' overflow contain parentScrolls)
    × (overflow.x ≡ Clip → line_y own ≡ line_y own' → contribution location size own overflow contain parentScrolls ≡ contribution location size own' overflow contain parentScrolls)
    × (overflow.y ≡ Clip → line_x own ≡ line_x own' → contribution location size own overflow contain parentScrolls ≡ contribution location size own' overflow contain parentScrolls)

-- how far a box reaches along an axis, from its own start edge: over its border box, and over its own overflow where that shows
pub record Reaches (style : Style) (along : Overflow) (size : Float) (own reach : Line Float) : Type 0 where
  pub shown : along ≡ Visible → NoScroller style.overflow → NotContained style.contain → reach ≡ smaller 0f own.start to larger size own.end
  pub clipped : along ≡ Clip → reach ≡ 0f to size
  pub scrolled : Scroller style.overflow → reach ≡ 0f to size
  pub contained : Contained style.contain → reach ≡ 0f to size

-- r is what reaches from l.start to l.end of the box's start edge, as `HoldsForwards` and `HoldsBackwards` count it
abbrev pub IsForwards : Line Float → Float → Float → Line Float → Type 0
IsForwards r offset at l = (r.start ∷ offset ∷ [] =Σ at ∷ l.start ∷ []) × (r.end ∷ offset ∷ [] =Σ at ∷ l.end ∷ [])

abbrev pub IsBackwards : Line Float → Float → Float → Float → Float → Line Float → Type 0
IsBackwards r offset width at size l =
    (r.start ∷ at ∷ size ∷ [] =Σ offset ∷ width ∷ l.start ∷ []) × (r.end ∷ at ∷ size ∷ [] =Σ offset ∷ width ∷ l.end ∷ [])

abbrev pub IsAcross : ContainingBlock → Layout → Line Float → Line Float → Type 0
IsAcross container l r x =
    (container.direction ≡ Ltr → IsForwards r container.area.offset.x l.location.x x)
    × (container.direction ≡ Rtl → IsBackwards r container.area.offset.x container.area.size.width l.location.x l.size.width x)

-- The union of border box and own overflow that shows, counted from the area's start edges, is the contribution; but that is zeros where the
-- union's extent beyond the box's start edge is at most 0 in an axis (document 01; css-overflow-3 counts boxes without an area), and, in a
-- scrolling parent, where the union ends at or before a start edge of the area, to which nothing scrolls.
pub record Counted (container : ContainingBlock) (style : Style) (l : Layout) (r : Rect Float) : Type 0 where
  pub x : Line Float
  pub y : Line Float
  pub reach_x : Reaches style style.overflow.x l.size.width (line_x l.overflow) x
  pub reach_y : Reaches style style.overflow.y l.size.height (line_y l.overflow) y
  pub union : Rect Float
  pub union_x : Fine container l → IsAcross container l (line_x union) x
  pub union_y : Fine container l → IsForwards (line_y union) container.area.offset.y l.location.y y
  pub empty : (le x.end 0f ≡ true) ⊎ (le y.end 0f ≡ true) → r ≡ zero_rect
  pub unreachable : Scroller container.overflow → (le union.right 0f ≡ true) ⊎ (le union.bottom 0f ≡ true) → r ≡ zero_rect
  pub counts :
      le x.end 0f ≡ false → le y.end 0f ≡ false → NoScroller container.overflow ⊎ ((le union.right 0f ≡ false) × (le union.bottom 0f ≡ false))
      → r ≡ union

abbrev pub ContributionIsTheUnion : Type 0
ContributionIsTheUnion =
    (container : ContainingBlock) (style : Style) (candidate : OofCandidate)
    → Always (λ (p : Placed). Counted container style p.outcome.layout p.outcome.contribution) (placed container style candidate)
