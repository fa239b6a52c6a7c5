-- A dialogue with the host: done, or a question and what follows each reply to it (document 01, "The dialogue"). Assumes nothing.
use Rattle.std.specs.Prelude.{List, Float}
use Rattle.geometry.specs.declared.Rect.{Rect}
use Rattle.geometry.specs.declared.Size.{Size}
use Rattle.tree.specs.declared.layout.OofCandidate.{OofCandidate}
use Rattle.oof_box.specs.declared.question.MeasureInput.{MeasureInput}
use Rattle.oof_box.specs.declared.question.LayoutInput.{LayoutInput}
use Rattle.oof_box.specs.declared.question.Question.{Question}
use Rattle.oof_box.specs.declared.question.Question.TheVariants.{MeasureBoth, MeasureWidth, MeasureHeight, LayOut}

infixl 10 ◌>>=◌
-- the reply to lay out: the box's scrollable overflow, and the candidates that it surfaces
pub record Laid : Type 0 where
  pub overflow : Rect Float
  pub surfaced : List OofCandidate

-- what a question is answered by
abbrev pub ReplyTo : Question → Type 0
ReplyTo (MeasureBoth m) = Size Float
ReplyTo (MeasureWidth m) = Float
ReplyTo (MeasureHeight m) = Float
ReplyTo (LayOut l) = Laid

pub data Talk (A : Type 0) : Type 0 where
  done : A → Talk A
  ask : (q : Question) → (ReplyTo q → Talk A) → Talk A

-- one dialogue after another, by the first one's outcome
unfoldable pub ◌>>=◌ : {A B : Type 0} → Talk A → (A → Talk B) → Talk B
done a >>= next = next a
ask q reply >>= next = ask q (λ r. reply r >>= next)

abbrev pub measure_both : MeasureInput → Talk (Size Float)
measure_both m = ask (MeasureBoth m) done

abbrev pub measure_width : MeasureInput → Talk Float
measure_width m = ask (MeasureWidth m) done

abbrev pub measure_height : MeasureInput → Talk Float
measure_height m = ask (MeasureHeight m) done

abbrev pub lay_out : LayoutInput → Talk Laid
lay_out l = ask (LayOut l) done
