-- Where a box stands. Assumes nothing.
use Rattle.std.specs.Prelude.{Float}
use mathlib.Core.Path.{◌≡◌, refl, sym, ap, ap₂, ◌∙◌}
use mathlib.Core.Bool.{true, false, cond}
use lib.Ieee.{Float}
use Rattle.util.specs.Number.{◌⊖◌}
use Rattle.geometry.specs.Geometry.{line_x, line_y}
use Rattle.geometry.specs.declared.Line.{Line}
use Rattle.geometry.specs.declared.Point.{Point}
use Rattle.geometry.specs.declared.Size.{Size}
use Rattle.style.specs.Values.{is_rtl, is_scroll_container, self_relative, any_scroll_container}
use Rattle.style.specs.declared.Overflow.{Overflow}
use Rattle.style.specs.declared.Style.{Style}
use Rattle.style.specs.declared.resolve.Field.TheVariants as field
use Rattle.tree.specs.declared.layout.AxisStaticAlign.{AxisStaticAlign}
use Rattle.tree.specs.declared.layout.AxisStaticPosition.{AxisStaticPosition}
use Rattle.tree.specs.declared.layout.OofCandidate.{OofCandidate}
use Rattle.oof_axis.specs.Axis.{from_resolved, placement}
use Rattle.oof_resolve.specs.Resolved.{of_width, of_each_axis, less_offset, horizontal, vertical, resolved_box}
use Rattle.oof_resolve.specs.declared.ContainingBlock.{ContainingBlock}
use Rattle.oof_resolve.specs.declared.ResolvedBox.{ResolvedBox}
use Rattle.oof_common.specs.ScrollableOverflow.{contribution}
use Rattle.oof_place.specs.Placing.{scrollbar_of, layout_of, from_origin, box_layout}
use Rattle.oof_box.specs.Talk.{◌>>=◌, Laid}
use Rattle.oof_box.specs.Box.{placed, stretched, measured, keyword_sizes, size_keywords}
use Rattle.oof_box_laws.specs.Laws.{StandsByItsAxes, with_offset, SamePlace, StandAlike, ended, asking, MovedAlone, OffsetMovesAlone, GutterOf, GuttersAndEdges}
use Rattle.oof_box_laws.proofs.Always.{alike_bind, placed_always}

-- ---- where a box stands

pub stands_by_its_axes : StandsByItsAxes
unfolding box_layout layout_of
stands_by_its_axes container style candidate = placed_always _ container style candidate (λ size laid. (refl, refl, refl))

gutter_of : (o : Overflow) (bar : Float) → GutterOf o bar (scrollbar_of o bar)
unfolding scrollbar_of
gutter_of o bar = record { visible = λ e. rw e refl; clip = λ e. rw e refl; hidden = λ e. rw e refl; scroll = λ e. rw e refl }

pub gutters_and_edges : GuttersAndEdges
unfolding box_layout layout_of
gutters_and_edges container style candidate =
    placed_always _ container style candidate (λ size laid. (gutter_of style.overflow.y style.scrollbar, gutter_of style.overflow.x style.scrollbar, refl, refl, refl))

-- ---- at another offset

same_place : (p p' : AxisStaticPosition) (offset offset' : Float) → SamePlace p offset p' offset' → less_offset p' offset' ≡ less_offset p offset
unfolding less_offset
same_place p p' offset offset' h = ap₂ (λ (l : Line Float) (s : AxisStaticAlign). record { area = l; align = s }) h.area h.align

module _ (container : ContainingBlock) (offset' : Point Float) (style : Style) (candidate candidate' : OofCandidate) (h : StandAlike candidate container.area.offset candidate' offset') where
  same_across : horizontal (with_offset offset' container) style candidate' ≡ horizontal container style candidate
  unfolding horizontal
  same_across =
      let justify = self_relative style.justify style.direction container.direction true in
      ap
      (λ (p : AxisStaticPosition).
      record {
        size = container.area.size.width;
        inset = line_x (of_each_axis style.inset container.area.size);
        margin = line_x (of_width field.InsetOrMargin style.margin container.area.size);
        place = p;
        alignment = from_resolved justify.keyword;
        safety = justify.safety;
        inline = true;
        reversed = is_rtl container.direction;
        scrolls = is_scroll_container container.overflow.x;
      })
      (same_place candidate.place.x candidate'.place.x container.area.offset.x offset'.x h.x)

  same_down : vertical (with_offset offset' container) style candidate' ≡ vertical container style candidate
  unfolding vertical
  same_down =
      let align = self_relative style.align style.direction container.direction false in
      ap
      (λ (p : AxisStaticPosition).
      record {
        size = container.area.size.height;
        inset = line_y (of_each_axis style.inset container.area.size);
        margin = line_y (of_width field.InsetOrMargin style.margin container.area.size);
        place = p;
        alignment = from_resolved align.keyword;
        safety = align.safety;
        inline = false;
        reversed = false;
        scrolls = is_scroll_container container.overflow.y;
      })
      (same_place candidate.place.y candidate'.place.y container.area.offset.y offset'.y h.y)

  same_box : resolved_box (with_offset offset' container) style candidate' ≡ resolved_box container style candidate
  unfolding resolved_box
  same_box = rw (same_across, same_down) refl

  abbrev box : ResolvedBox
  box = resolved_box container style candidate

  -- from the scroll origin, the offset taken off
  abbrev counted : Point Float → Size Float → Point Float
  counted p size = record { x = cond (is_rtl container.direction) (container.area.size.width ⊖ p.x ⊖ size.width) p.x; y = p.y }

  moved : (size : Size Float) (laid : Laid)
      → MovedAlone container.area.offset offset' (record { outcome = box_layout container style candidate box size laid.overflow; surfaced = laid.surfaced })
      (record { outcome = box_layout (with_offset offset' container) style candidate' box size laid.overflow; surfaced = laid.surfaced })
  unfolding box_layout layout_of from_origin
  moved size laid =
      record {
        place = record { x = (placement box.horizontal size.width).position; y = (placement box.vertical size.height).position };
        location = refl;
        layout = rw h.order refl;
        surfaced = refl;
        contribution =
            λ e e'. ap (λ (p : Point Float). contribution (counted p size) size laid.overflow style.overflow style.contain (any_scroll_container container.overflow)) (e' ∙ sym e);
      }

pub offset_moves_alone : OffsetMovesAlone
unfolding placed box_layout layout_of ◌>>=◌
offset_moves_alone container offset' style candidate candidate' h =
    rw (same_box container offset' style candidate candidate' h, h.node)
    (alike_bind (MovedAlone container.area.offset offset') (keyword_sizes candidate.node style (resolved_box container style candidate) (size_keywords style (resolved_box container style candidate))) _ _
    (λ known. alike_bind (MovedAlone container.area.offset offset') (measured candidate.node (resolved_box container style candidate) (stretched style (resolved_box container style candidate) known)) _ _
    (λ size. asking (λ laid. ended (moved container offset' style candidate candidate' h size laid)))))
