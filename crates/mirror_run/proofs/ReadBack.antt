-- Mirrored layouts are mirrored in their words too: their x's are read back as the numbers that were written. Assumes nothing.
use Rattle.std.specs.Prelude.{Float}
use Prim.Native.Nat.{ℕ, ◌+◌, ◌*◌}
use mathlib.Core.Path.{ap}
use mathlib.Core.List.{[], ◌∷◌}
use lib.Dec.{T, lit<}
use lib.Ieee.{fits, binary32}
use lib.Ieee.Fits.{add-fits}
use Rattle.util.proofs.Laws.{float_back}
use Rattle.geometry.specs.declared.Rect.{Rect}
use Rattle.geometry.specs.declared.Size.{Size}
use Rattle.style.specs.declared.Style.{Style}
use Rattle.tree.specs.declared.layout.Layout.{Layout}
use Rattle.tree.specs.declared.layout.OofCandidate.{OofCandidate}
use Rattle.tree.specs.declared.layout.OofPositioningArea.{OofPositioningArea}
use Rattle.tree_record.specs.Layout.{rect_of, layout_of, layout_words}
use Rattle.oof_resolve.specs.Resolved.{resolved_box}
use Rattle.oof_resolve.specs.declared.ContainingBlock.{ContainingBlock}
use Rattle.oof_place.specs.Placing as place
use Rattle.oof_box.specs.Cut.{layout_after}
use Rattle.oof_box.specs.declared.question.Replies.{Replies}
use Rattle.util_exact.proofs.Same.{Same, equal}
use Rattle.mirror_axis.proofs.Facing.{start_is_end, end_is_start}
use Rattle.mirror_box.specs.Image.{exchanged_rect, image_container, image_style}
use Rattle.mirror_box.specs.Quarter.{QuarterContainer, QuarterStyle, QuarterCandidate, QuarterReplies, QuarterOverflow}
use Rattle.mirror_box.specs.Mirrored.{CandidateImage, MirrorSum, MirroredLayout}
use Rattle.mirror_box.proofs.Bounds.{length_bound, static_bound, fit_bound}
use Rattle.mirror_box.proofs.Resolve.{resolved_shared}
use Rattle.mirror_box.proofs.Keywords.{keywords_shared}
use Rattle.mirror_box.proofs.Stretch.{size_by_lem}
use Rattle.mirror_box.proofs.Law.{lays_out_mirrored}
use Rattle.mirror_run.proofs.Again.{again, again_same, again_sixteenths}

-- two layouts written, as they are read
abbrev pub Read : OofPositioningArea → Layout → Layout → Type 0
Read area l l' = MirroredLayout area (layout_of (layout_words l)) (layout_of (layout_words l'))

abbrev margin_bound : ℕ
margin_bound = 7 * length_bound + 4 * static_bound + fit_bound

-- their x's are numbers of sixteenths that an f32 holds
record Held (l l' : Layout) : Type 0 where
  width : Same 4 fit_bound l.size.width l'.size.width
  left : Same 2 margin_bound l.margin.left l'.margin.right
  right : Same 2 margin_bound l.margin.right l'.margin.left
  x : T (fits binary32 l.location.x)
  x' : T (fits binary32 l'.location.x)

abbrev again_rect : Rect Float → Rect Float
again_rect r = record { left = again r.left; right = again r.right; top = again r.top; bottom = again r.bottom }

abbrev again_size : Size Float → Size Float
again_size s = record { width = again s.width; height = again s.height }

module _ (area : OofPositioningArea) (l l' : Layout) (m : MirroredLayout area l l') (h : Held l l') where
  sum_read : MirrorSum area (again l.location.x ∷ again l'.location.x ∷ again l.size.width ∷ [])
  sum_read =
      let total = m.x.1 in
      let rest = total.3 in
      let last = rest.3 in
      rw (float_back l.location.x h.x, float_back l'.location.x h.x') (
        m.x.0,
        (total.0, total.1, total.2, (rest.0, rest.1, rest.2, (last.0, last.1, again_sixteenths (lit< tt) h.width.l last.2, last.3, last.4), rest.4), total.4),
        m.x.2,
      )

  read_back : Read area l l'
  unfolding layout_of layout_words rect_of exchanged_rect
  read_back =
      record {
        order = m.order;
        size = record { width = equal (again_same (lit< tt) h.width); height = ap again m.size.height };
        overflow = ap again_rect m.overflow;
        scrollbar = ap again_size m.scrollbar;
        x = sum_read;
        y = ap again m.y;
        padding = ap again_rect m.padding;
        border = ap again_rect m.border;
        margin_left = equal (again_same (lit< tt) h.left);
        margin_right = equal (again_same (lit< tt) h.right);
        margin_top = ap again m.margin_top;
        margin_bottom = ap again m.margin_bottom;
      }

-- ---- a box laid out

module _ (container : ContainingBlock) (style : Style) (c c' : OofCandidate) (r : Replies) (overflow : Rect Float) (hb : QuarterContainer container) (hs : QuarterStyle style) (hc : QuarterCandidate c)
    (hi : CandidateImage container.area c c') (q : QuarterReplies r) (qo : QuarterOverflow overflow) where
  held : Held (layout_after container style c r overflow).layout (layout_after (image_container container) (image_style style) c' r overflow).layout
  unfolding layout_after place.box_layout place.layout_of
  held =
      let b = resolved_box container style c in
      let b' = resolved_box (image_container container) (image_style style) c' in
      let h = resolved_shared container style c c' hb hs hc hi in
      let size = size_by_lem style hs b b' h (keywords_shared style hs b b' h) r q in
      record {
        width = size.width;
        left = start_is_end length_bound static_bound fit_bound (lit< tt) b.horizontal b'.horizontal h.faces _ _ size.width;
        right = end_is_start length_bound static_bound fit_bound (lit< tt) b.horizontal b'.horizontal h.faces _ _ size.width;
        x = add-fits binary32 _ _;
        x' = add-fits binary32 _ _;
      }

  pub layouts_read : Read container.area (layout_after container style c r overflow).layout (layout_after (image_container container) (image_style style) c' r overflow).layout
  layouts_read = read_back container.area _ _ (lays_out_mirrored container style c c' r overflow hb hs hc hi q qo).layout held
