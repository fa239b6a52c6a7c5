-- What holds of each of the five questions of a box holds of the one that is asked. Assumes nothing.
use Rattle.std.specs.Prelude.{Option, Some, is_some, unwrap_or, Float}
use mathlib.Core.Path.{◌≡◌, refl}
use mathlib.Core.Bool.{Bool, true, false, cond, ◌||◌}
use Prim.Native.Nat.{ℕ}
use Rattle.geometry.specs.Geometry.{both_present}
use Rattle.geometry.specs.declared.Size.{Size}
use Rattle.style.specs.declared.available_space.AvailableSpace.{AvailableSpace}
use Rattle.style.specs.declared.Style.{Style}
use Rattle.tree.specs.declared.layout.OofCandidate.{OofCandidate}
use Rattle.oof_common.specs.declared.sizing_keyword.SizingKeywordResolution.{SizingKeywordResolution}
use Rattle.oof_common.specs.declared.sizing_keyword.SizingKeywordResolution.TheVariants.{Measure}
use Rattle.oof_resolve.specs.Resolved.{resolved_box}
use Rattle.oof_resolve.specs.declared.ContainingBlock.{ContainingBlock}
use Rattle.oof_box.specs.Box.{keyword_stretch, size_keywords}
use Rattle.oof_box.specs.Cut.{is_first, stretched_by, size_by, lay_out_asked, keyword_asked, size_asked, asked_of, asked_after, sizing}
use Rattle.oof_box.specs.declared.question.Asked.{Asked}
use Rattle.oof_box.specs.declared.question.MeasureInput.{MeasureInput}
use Rattle.oof_box.specs.declared.question.Question.TheVariants.{MeasureBoth, MeasureWidth, MeasureHeight}
use Rattle.oof_box.specs.declared.question.Replies.{Replies}
use Rattle.run.specs.Conditions.{kind_of_question, kind_at}
use Rattle.run.specs.Theorems.{StageTellsKind, item_named, ItemIsNamed}
use Rattle.oof_box.specs.declared.question.Stage.TheVariants.{KeywordBoth, KeywordWidth, KeywordHeight, Fill}

-- of each measure question about this item
pub record OfMeasures (node : ℕ) (P : Asked → Type 0) : Type 0 where
  pub both : (m : MeasureInput) → m.node ≡ node → P (record { stage = KeywordBoth; question = MeasureBoth m })
  pub width : (m : MeasureInput) → m.node ≡ node → P (record { stage = KeywordWidth; question = MeasureWidth m })
  pub height : (m : MeasureInput) → m.node ≡ node → P (record { stage = KeywordHeight; question = MeasureHeight m })
  pub fill : (m : MeasureInput) → m.node ≡ node → P (record { stage = Fill; question = MeasureBoth m })

module _ (P : Asked → Type 0) (candidate : OofCandidate) (each : OfMeasures candidate.node P) where
  chosen : (b : Bool) (x y : Asked) → P x → P y → P (cond b x y)
  chosen true x y h k = h
  chosen false x y h k = k

  after_keywords_lem : (across down : Option SizingKeywordResolution) (known : Size (Option Float)) (stretch : Size Float) (later : Asked) → P later
      → P (unwrap_or (keyword_asked candidate.node across down known stretch) later)
  unfolding keyword_asked
  after_keywords_lem (Some (Measure across)) (Some (Measure down)) known stretch later h = each.both _ refl
  after_keywords_lem (Some (Measure across)) _ known stretch later h = each.width _ refl
  after_keywords_lem _ (Some (Measure down)) known stretch later h = each.height _ refl
  after_keywords_lem _ _ known stretch later h = h

  -- lay out tells the node of its box and the size that the replies kept come to
  pub of_asked : (container : ContainingBlock) (style : Style) (replies : Replies)
      → let box = resolved_box container style candidate in
      ((space : Size AvailableSpace) → P (lay_out_asked candidate.node (size_by (sizing style box (size_keywords style box) replies)) space))
      → P (asked_after container style candidate replies)
  unfolding asked_after asked_of size_asked size_by
  of_asked container style replies lays =
      let box = resolved_box container style candidate in
      let keywords = size_keywords style box in
      let later = size_asked candidate.node (sizing style box keywords replies) in
      let h : P later = chosen (is_some replies.fill || both_present (stretched_by (sizing style box keywords replies)).known) _ _ (lays box.space) (each.fill _ refl) in
      chosen (is_first replies) _ later
      (after_keywords_lem keywords.width keywords.height box.size (keyword_stretch box) later h)
      h

-- so the stage tells the kind
pub stage_tells_kind : StageTellsKind
stage_tells_kind container style candidate replies =
    of_asked (λ a. kind_of_question a.question ≡ kind_at a.stage) candidate
    (record { both = λ m e. refl; width = λ m e. refl; height = λ m e. refl; fill = λ m e. refl })
    container style replies (λ space. refl)

-- and the item named is the box's
pub item_is_named : ItemIsNamed
item_is_named container style candidate replies =
    of_asked (λ a. item_named a.question ≡ candidate.node) candidate
    (record { both = λ m e. e; width = λ m e. e; height = λ m e. e; fill = λ m e. e })
    container style replies (λ space. refl)
