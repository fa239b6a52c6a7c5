-- A second value has no say but in a sum, in the whole dialogue of a box. Assumes nothing.
use Rattle.std.specs.Prelude.{Float}
use mathlib.Core.Path.{◌≡◌, refl}
use mathlib.Core.Bool.{Bool, true, false, cond}
use lib.Dec.{eqb}
use lib.Ieee.{Float}
use borrow.Author.Tests.{eqb-false}
use Rattle.util.specs.Number.{0f}
use Rattle.geometry.specs.declared.Size.{Size}
use Rattle.style.specs.Resolve.{resolved, maybe_resolved, resolved_rect, resolved_size}
use Rattle.style.proofs.Laws.{second_is_of_sums}
use Rattle.style.specs.declared.Style.{Style}
use Rattle.style.specs.declared.compact_length.CompactLength.{CompactLength}
use Rattle.geometry.specs.declared.Rect.{Rect}
use Rattle.style.specs.declared.resolve.Field.{Field}
use Rattle.style.specs.declared.resolve.Field.TheVariants as field
use Rattle.tree.specs.declared.layout.OofCandidate.{OofCandidate}
use Rattle.oof_common.specs.SizingKeyword.{keyword_of, keywords_of}
use Rattle.oof_resolve.specs.Resolved.{of_width, of_each_axis, horizontal, vertical, padding_or_border, style_size, min_size, space_for, resolved_box}
use Rattle.oof_resolve.specs.declared.ContainingBlock.{ContainingBlock}
use Rattle.oof_place.specs.Placing.{layout_of, box_layout}
use Rattle.oof_box.specs.Box.{size_keywords, keyword_sizes, stretch_ratio, stretched, placed}
use Rattle.oof_box_laws.specs.Resolved.{without_second, rect_without_seconds, size_without_seconds, without_seconds, SecondValuesUnread}

same : (f : Field) (l : CompactLength) (basis : Float) → resolved f (without_second l) basis ≡ resolved f l basis
same f l basis = go (eqb l.tag 129) refl
  where
    go : (b : Bool) → eqb l.tag 129 ≡ b → resolved f (record { tag = l.tag; value = l.value; second = cond b l.second 0f }) basis ≡ resolved f l basis
    go true e = refl
    go false e = second_is_of_sums f _ l basis (eqb-false l.tag 129 e) refl refl

same_rect : (f : Field) (r : Rect CompactLength) (x y : Float) → resolved_rect f (rect_without_seconds r) x y ≡ resolved_rect f r x y
unfolding resolved_rect maybe_resolved
same_rect f r x y = rw (same f r.left x, same f r.right x, same f r.top y, same f r.bottom y) refl

same_size : (f : Field) (s : Size CompactLength) (basis : Size Float) → resolved_size f (size_without_seconds s) basis ≡ resolved_size f s basis
unfolding resolved_size maybe_resolved
same_size f s basis = rw (same f s.width basis.width, same f s.height basis.height) refl

same_keyword : (l : CompactLength) (stretch basis : Float) → keyword_of (without_second l) stretch basis ≡ keyword_of l stretch basis
unfolding keyword_of
same_keyword l stretch basis = rw (same field.Size l basis) refl

module _ (container : ContainingBlock) (style : Style) (candidate : OofCandidate) where
  same_box : resolved_box container (without_seconds style) candidate ≡ resolved_box container style candidate
  unfolding resolved_box horizontal vertical of_each_axis of_width padding_or_border style_size min_size space_for
  same_box =
      let area = container.area.size in
      rw (
        same_rect field.InsetOrMargin style.inset area.width area.height,
        same_rect field.InsetOrMargin style.margin area.width area.width,
        same_rect field.PaddingOrBorder style.padding area.width area.width,
        same_rect field.PaddingOrBorder style.border area.width area.width,
        same_size field.Size style.size area,
        same_size field.MinOrMax style.min area,
        same_size field.MinOrMax style.max area,
      )
      refl

pub second_values_unread : SecondValuesUnread
unfolding placed size_keywords keywords_of keyword_sizes stretch_ratio stretched layout_of box_layout
second_values_unread container style candidate =
    rw (same_box container style candidate) (rw (same_keyword style.size.width _ _, same_keyword style.size.height _ _) refl)
