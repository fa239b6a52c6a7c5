-- What a run and its mirror image have in common, box by box: questions, layouts, overflow. Equality is as numbers (`≐`, document 01)
-- where x is at work; along y it is of words (`≡`). Assumes nothing.
use Rattle.std.specs.Prelude.{◌≡◌, List, [], ◌∷◌, Float, None, Option, Some}
use Rattle.geometry.specs.declared.Size.{Size}
use Rattle.geometry.specs.declared.Rect.{Rect}
use Rattle.style.specs.declared.available_space.AvailableSpace.{AvailableSpace}
use Rattle.style.specs.declared.available_space.AvailableSpace.TheVariants.{Definite, MinContent, MaxContent}
use Rattle.tree.specs.declared.layout.Layout.{Layout}
use Rattle.tree.specs.declared.layout.OofCandidate.{OofCandidate}
use Rattle.tree.specs.declared.layout.OofPositioningArea.{OofPositioningArea}
use Rattle.oof_box.specs.declared.question.MeasureInput.{MeasureInput}
use Rattle.oof_box.specs.declared.question.LayoutInput.{LayoutInput}
use Rattle.oof_box.specs.declared.question.Question.{Question}
use Rattle.oof_box.specs.declared.question.Question.TheVariants.{MeasureBoth, MeasureWidth, MeasureHeight, LayOut}
use Rattle.oof_box.specs.declared.question.Asked.{Asked}
use Rattle.oof_place.specs.declared.OofBoxLayout.{OofBoxLayout}
use Rattle.util_exact.specs.Integer.{N}
use Rattle.util_exact.specs.Value.{◌≐◌, Total}
use Rattle.mirror_axis.specs.Image.{other_align}
use Rattle.mirror_box.specs.Image.{exchanged_rect}

-- the numbers of a list add up to 2 × offset + width, with no rounding
abbrev pub MirrorSum : OofPositioningArea → List Float → Type 0
MirrorSum a xs = (s : N) × Total xs s × Total (a.offset.x ∷ a.offset.x ∷ a.size.width ∷ []) s

-- ---- candidates: c' is the mirror image of c, whatever floats its x area is written with

pub record CandidateImage (a : OofPositioningArea) (c c' : OofCandidate) : Type 0 where
  pub node : c'.node ≡ c.node
  pub order : c'.order ≡ c.order
  pub position : c'.position ≡ c.position
  pub start : MirrorSum a (c.place.x.area.start ∷ c'.place.x.area.end ∷ [])
  pub end : MirrorSum a (c.place.x.area.end ∷ c'.place.x.area.start ∷ [])
  pub align : c'.place.x.align ≡ other_align c.place.x.align
  pub y : c'.place.y ≡ c.place.y
  pub layer : c'.layer ≡ c.layer

-- ---- questions

pub data SameKnown : Option Float → Option Float → Type 0 where
  known : {x x' : Float} → x ≐ x' → SameKnown (Some x) (Some x')
  none : SameKnown None None

pub data SameSpace : AvailableSpace → AvailableSpace → Type 0 where
  definite : {x x' : Float} → x ≐ x' → SameSpace (Definite x) (Definite x')
  min_content : SameSpace MinContent MinContent
  max_content : SameSpace MaxContent MaxContent

pub record SameKnownSize (s s' : Size (Option Float)) : Type 0 where
  pub width : SameKnown s.width s'.width
  pub height : s.height ≡ s'.height

pub record SameAvailableSize (s s' : Size AvailableSpace) : Type 0 where
  pub width : SameSpace s.width s'.width
  pub height : s.height ≡ s'.height

pub record SameSize (s s' : Size Float) : Type 0 where
  pub width : s.width ≐ s'.width
  pub height : s.height ≡ s'.height

pub record SameMeasure (m m' : MeasureInput) : Type 0 where
  pub node : m.node ≡ m'.node
  pub known : SameKnownSize m.known m'.known
  pub space : SameAvailableSize m.space m'.space

pub record SameLayOut (l l' : LayoutInput) : Type 0 where
  pub node : l.node ≡ l'.node
  pub size : SameSize l.size l'.size
  pub space : SameAvailableSize l.space l'.space

pub data SameQuestion : Question → Question → Type 0 where
  measure_both : {m m' : MeasureInput} → SameMeasure m m' → SameQuestion (MeasureBoth m) (MeasureBoth m')
  measure_width : {m m' : MeasureInput} → SameMeasure m m' → SameQuestion (MeasureWidth m) (MeasureWidth m')
  measure_height : {m m' : MeasureInput} → SameMeasure m m' → SameQuestion (MeasureHeight m) (MeasureHeight m')
  lay_out : {l l' : LayoutInput} → SameLayOut l l' → SameQuestion (LayOut l) (LayOut l')

pub record SameAsked (a a' : Asked) : Type 0 where
  pub stage : a.stage ≡ a'.stage
  pub question : SameQuestion a.question a'.question

-- ---- layouts

-- as far from the area's left edge in one as from its right edge in the other; left and right margins, padding and borders exchanged;
-- all else equal
pub record MirroredLayout (a : OofPositioningArea) (l l' : Layout) : Type 0 where
  pub order : l.order ≡ l'.order
  pub size : SameSize l.size l'.size
  pub overflow : l.overflow ≡ l'.overflow
  pub scrollbar : l.scrollbar ≡ l'.scrollbar
  pub x : MirrorSum a (l.location.x ∷ l'.location.x ∷ l.size.width ∷ [])
  pub y : l.location.y ≡ l'.location.y
  pub padding : exchanged_rect l.padding ≡ l'.padding
  pub border : exchanged_rect l.border ≡ l'.border
  pub margin_left : l.margin.left ≐ l'.margin.right
  pub margin_right : l.margin.right ≐ l'.margin.left
  pub margin_top : l.margin.top ≡ l'.margin.top
  pub margin_bottom : l.margin.bottom ≡ l'.margin.bottom

-- overflow rectangles: x counts from the start edge in both
pub record SameRect (r r' : Rect Float) : Type 0 where
  pub left : r.left ≐ r'.left
  pub right : r.right ≐ r'.right
  pub top : r.top ≡ r'.top
  pub bottom : r.bottom ≡ r'.bottom

pub record MirroredBox (a : OofPositioningArea) (b b' : OofBoxLayout) : Type 0 where
  pub layout : MirroredLayout a b.layout b'.layout
  pub contribution : SameRect b.contribution b'.contribution
