-- The box at hand and its image: the mirror law of one box, in the words of the two runs. Assumes nothing.
use Rattle.std.specs.Prelude.{Float}
use mathlib.Core.Path.{◌≡◌, sym, ap, ap₂, ◌∙◌, subst}
use mathlib.Core.Bool.{false}
use Rattle.geometry.specs.declared.Rect.{Rect}
use Rattle.style.specs.declared.Style.{Style}
use Rattle.tree.specs.declared.layout.OofCandidate.{OofCandidate}
use Rattle.style_record.specs.Record.{items}
use Rattle.style_record.specs.Decode.{style_at}
use Rattle.oof_resolve.specs.declared.ContainingBlock.{ContainingBlock}
use Rattle.oof_box.specs.Cut.{asked_after, layout_after}
use Rattle.oof_box.specs.declared.question.Replies.{Replies}
use Rattle.run.specs.Refusals.{bad_style}
use Rattle.mirror_box.specs.Image as box
use Rattle.mirror_box.specs.Quarter.{QuarterStyle, QuarterReplies, QuarterOverflow}
use Rattle.mirror_box.specs.Mirrored.{SameAsked, MirroredBox}
use Rattle.mirror_box.proofs.Law.{asks_mirrored, lays_out_mirrored}
use Rattle.mirror_run.specs.Image.{image_styles}
use Rattle.mirror_run.proofs.Styles.{image_style_lem}
use Rattle.mirror_run.proofs.ReadBack.{Read, layouts_read}
use Rattle.mirror_run.proofs.Linked.{Frame, QuarterFrame, Own, Ready, Blocks}

module _ (f : Frame) (q : QuarterFrame f) (p p' : Own) (blocks : Blocks f p p') (style : bad_style f.styles ≡ false) (c c' : OofCandidate)
    (ready : Ready f.container.area (items f.styles) c c') (replies : Replies) (given : QuarterReplies replies) where
  style_of_image : style_at (image_styles f.styles) c'.node ≡ box.image_style (style_at f.styles c.node)
  style_of_image = ap (style_at (image_styles f.styles)) ready.image.node ∙ image_style_lem f.styles style c.node ready.there.0

  -- what holds of a style's image and of the block's, holds of the image table's item and of the second run's block
  by_words : {A : Type 0} (g : ContainingBlock → Style → OofCandidate → A) (R : A → A → Type 0)
      → R (g f.container (style_at f.styles c.node) c) (g (box.image_container f.container) (box.image_style (style_at f.styles c.node)) c')
      → R (g p.container (style_at f.styles c.node) c) (g p'.container (style_at (image_styles f.styles) c'.node) c')
  by_words g R h =
      subst (λ x. R x (g p'.container (style_at (image_styles f.styles) c'.node) c')) (ap (λ (b : ContainingBlock). g b (style_at f.styles c.node) c) (sym blocks.0))
      (subst (R (g f.container (style_at f.styles c.node) c)) (ap₂ (λ (b : ContainingBlock) (s : Style). g b s c') (sym blocks.1) (sym style_of_image)) h)

  fit : QuarterStyle (style_at f.styles c.node)
  fit = q.style style c.node ready.there.0

  pub asked_same : SameAsked (asked_after p.container (style_at f.styles c.node) c replies)
      (asked_after p'.container (style_at (image_styles f.styles) c'.node) c' replies)
  asked_same =
      by_words (λ b s d. asked_after b s d replies) SameAsked
      (asks_mirrored f.container (style_at f.styles c.node) c c' replies q.container fit ready.quarter ready.image given)

  module _ (overflow : Rect Float) (h : QuarterOverflow overflow) where
    pub laid_same : MirroredBox f.container.area (layout_after p.container (style_at f.styles c.node) c replies overflow)
        (layout_after p'.container (style_at (image_styles f.styles) c'.node) c' replies overflow)
    laid_same =
        by_words (λ b s d. layout_after b s d replies overflow) (MirroredBox f.container.area)
        (lays_out_mirrored f.container (style_at f.styles c.node) c c' replies overflow q.container fit ready.quarter ready.image given h)

    pub read_same : Read f.container.area (layout_after p.container (style_at f.styles c.node) c replies overflow).layout
        (layout_after p'.container (style_at (image_styles f.styles) c'.node) c' replies overflow).layout
    read_same =
        by_words (λ b s d. (layout_after b s d replies overflow).layout) (Read f.container.area)
        (layouts_read f.container (style_at f.styles c.node) c c' replies overflow q.container fit ready.quarter ready.image given h)
