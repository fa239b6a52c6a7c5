-- Whole quarter pixels of size 4,096 at most, along both axes, for one box: of what demand 3 asks of a style and of replies
-- (mirror_run/specs/Quarter.antt) as much as bears on pixel edges, so no scrollbar width; of a reply's overflow what S asks. A length is one
-- by its tag, so that no percentage and no sum stands. Assumes nothing.
use Rattle.std.specs.Prelude.{◌≡◌, None}
use Rattle.style.specs.declared.Style.{Style}
use Rattle.geometry.specs.declared.Rect.{Rect}
use Rattle.style.specs.declared.compact_length.CompactLength.{CompactLength}
use Rattle.geometry.specs.declared.Size.{Size}
use Rattle.oof_box.specs.Talk.{Laid, Talk, done, ask, ReplyTo}
use Rattle.oof_box.specs.declared.question.Question.{Question}
use Rattle.oof_box.specs.declared.question.Question.TheVariants.{MeasureBoth, MeasureWidth, MeasureHeight, LayOut}
use Rattle.util_exact.specs.Value.{Quarter}
use Rattle.mirror_box.specs.Quarter.{QuarterLength}

-- each length by its tag
pub record SidesInQuarters (r : Rect CompactLength) : Type 0 where
  pub left : QuarterLength r.left
  pub right : QuarterLength r.right
  pub top : QuarterLength r.top
  pub bottom : QuarterLength r.bottom

pub record SizeInQuarters (s : Size CompactLength) : Type 0 where
  pub width : QuarterLength s.width
  pub height : QuarterLength s.height

pub record StyleInQuarters (s : Style) : Type 0 where
  pub inset : SidesInQuarters s.inset
  pub margin : SidesInQuarters s.margin
  pub padding : SidesInQuarters s.padding
  pub border : SidesInQuarters s.border
  pub size : SizeInQuarters s.size
  pub min : SizeInQuarters s.min
  pub max : SizeInQuarters s.max
  pub ratio : s.ratio ≡ None

-- a reply to a question, S being asked of the reply to lay out: nothing of a box by itself; in a run that its rectangle is of whole quarters,
-- and that no candidate that it surfaces is claimed
abbrev pub QuarterTo : (Laid → Type 0) → (q : Question) → ReplyTo q → Type 0
QuarterTo S (MeasureBoth m) r = Quarter r.width × Quarter r.height
QuarterTo S (MeasureWidth m) r = Quarter r
QuarterTo S (MeasureHeight m) r = Quarter r
QuarterTo S (LayOut l) r = S r

-- P holds of the outcome of a dialogue, for every list of such replies
pub data AnsweredInQuarters {A : Type 0} (S : Laid → Type 0) (P : A → Type 0) : Talk A → Type 0 where
  now : {a : A} → P a → AnsweredInQuarters S P (done a)
  later : {q : Question} {next : ReplyTo q → Talk A} → ((r : ReplyTo q) → QuarterTo S q r → AnsweredInQuarters S P (next r)) → AnsweredInQuarters S P (ask q next)
