-- Steps 1 to 3: what is known of a box and of its image before the host is asked. Assumes nothing.
use borrow.Author.Rules.{rules}
use Rattle.std.specs.Prelude.{Float, Option}
use mathlib.Core.Path.{◌≡◌, refl, ap, subst}
use mathlib.Core.Bool.{Bool, not}
use Prim.Native.Nat.{ℕ, ◌+◌, ◌<◌}
use lib.Dec.{lit<, lit≤}
use lib.Ieee.{Float}
use Rattle.util.specs.Number.{◌⊕◌}
use Rattle.util.specs.Maybe.{or_zero}
use Rattle.geometry.specs.Geometry.{rect_or_zero, rect_sum, sum_x, sum_y, sums, with_ratio}
use Rattle.geometry.specs.declared.Size.{Size}
use Rattle.style.specs.Resolve.{maybe_resolved, resolved_rect, resolved_size}
use Rattle.style.specs.Values.{is_content_box, is_rtl, differs, keyword_relative, self_relative}
use Rattle.style.specs.declared.Direction.{Direction}
use Rattle.style.specs.declared.Direction.TheVariants.{Ltr, Rtl}
use Rattle.style.specs.declared.Style.{Style}
use Rattle.style.specs.declared.compact_length.CompactLength.{CompactLength}
use Rattle.geometry.specs.declared.Rect.{Rect}
use Rattle.style.specs.declared.resolve.Field.{Field}
use Rattle.style.specs.declared.resolve.Field.TheVariants as field
use Rattle.tree.specs.declared.layout.AxisStaticAlign.{AxisStaticAlign}
use Rattle.tree.specs.declared.layout.OofCandidate.{OofCandidate}
use Rattle.oof_axis.specs.Axis.{from_resolved, stretch_fit}
use Rattle.oof_resolve.specs.Resolved.{of_width, of_each_axis, less_offset, horizontal, vertical, padding_or_border, style_size, min_size, less_margins, space_for, resolved_box}
use Rattle.oof_resolve.specs.declared.ContainingBlock.{ContainingBlock}
use Rattle.oof_resolve.specs.declared.ResolvedBox.{ResolvedBox}
use Rattle.util_exact.proofs.Commute.{add_commute}
use Rattle.util_exact.proofs.Tests.{pick}
use Rattle.util_exact.proofs.Quarters.{units, quarters_exact}
use Rattle.util_exact.proofs.Same.{Same, MaybeSame, quarters_same, zero_same, add_same, sub_same, larger_same, unwrap_same}
use Rattle.mirror_axis.specs.Image.{other_align}
use Rattle.mirror_axis.proofs.Opposite.{Opposite, opposite_faces}
use Rattle.mirror_axis.proofs.Facing.{Facing, stretch_shared}
use Rattle.mirror_box.specs.Image.{other_direction, exchanged_lengths, exchanged_rect, image_container, image_style}
use Rattle.mirror_box.specs.Quarter.{QuarterLength, QuarterContainer, QuarterStyle, QuarterCandidate}
use Rattle.mirror_box.specs.Mirrored.{CandidateImage}
use Rattle.mirror_box.proofs.Bounds.{length_bound, static_bound, edges_bound, size_bound, fit_bound}
use Rattle.mirror_box.proofs.Lengths.{length_same}
use Rattle.mirror_box.proofs.Reflect.{mirrored_across}
use Rattle.mirror_box.proofs.Shared.{SizeShared, KnownShared, SpaceShared, widen_known, widen_size, zero_shared, definite_shared, smaller_shared, first_shared, added_shared, raised_shared, clamped_shared, definite_spaces_lem, spaces_shared}

-- ---- directions

pub rtl_other : (d : Direction) → is_rtl (other_direction d) ≡ not (is_rtl d)
unfolding other_direction
rtl_other Ltr = refl
rtl_other Rtl = refl

differs_other : (d e : Direction) → differs (other_direction d) (other_direction e) ≡ differs d e
unfolding other_direction
differs_other Ltr Ltr = refl
differs_other Ltr Rtl = refl
differs_other Rtl Ltr = refl
differs_other Rtl Rtl = refl

-- ---- sums of left and right, in either order

sum_turned : {b c : ℕ} {x x' y y' : Float} → Same 4 b x x' → Same 4 c y y' → b + c < 16777216 → Same 4 (b + c) (x ⊕ y) (y' ⊕ x')
sum_turned {b} {c} {x} {x'} {y} {y'} h k i = subst (λ (z : Float). Same 4 (b + c) (x ⊕ y) z) (add_commute x' y') (add_same h k i)

pub or_zero_lem : {b : ℕ} {m m' : Option Float} → MaybeSame 4 b m m' → Same 4 b (or_zero m) (or_zero m')
or_zero_lem h = unwrap_same h zero_same

-- a box and its image
pub record BoxShared (box box' : ResolvedBox) : Type 0 where
  pub width : box.horizontal.size ≡ box'.horizontal.size
  pub faces : Facing length_bound static_bound box.horizontal box'.horizontal
  pub opposite : Opposite length_bound static_bound box.horizontal box'.horizontal
  pub vertical : box.vertical ≡ box'.vertical
  pub padding : exchanged_rect box.padding ≡ box'.padding
  pub border : exchanged_rect box.border ≡ box'.border
  pub size : KnownShared size_bound box.size box'.size
  pub min : KnownShared size_bound box.min box'.min
  pub max : KnownShared size_bound box.max box'.max
  pub fit : SizeShared fit_bound box.fit box'.fit
  pub space : SpaceShared fit_bound box.space box'.space

module _ (container : ContainingBlock) (style : Style) (candidate candidate' : OofCandidate) (hb : QuarterContainer container) (hs : QuarterStyle style) (hc : QuarterCandidate candidate)
    (hi : CandidateImage container.area candidate candidate') where
  abbrev area : Size Float
  area = container.area.size

  -- ---- step 1

  sides : (l : CompactLength) → QuarterLength l → MaybeSame 4 length_bound (maybe_resolved field.InsetOrMargin l area.width) (maybe_resolved field.InsetOrMargin l area.width)
  sides l = length_same field.InsetOrMargin l area.width

  pub horizontal_opposite : Opposite length_bound static_bound (horizontal container style candidate) (horizontal (image_container container) (image_style style) candidate')
  unfolding horizontal less_offset of_each_axis of_width resolved_rect self_relative image_container image_style exchanged_lengths other_align
  horizontal_opposite =
      record {
        size = record { a = units hb.width; l = quarters_exact hb.width; r = quarters_exact hb.width };
        inset_start = sides style.inset.left hs.inset.left;
        inset_end = sides style.inset.right hs.inset.right;
        margin_start = sides style.margin.left hs.margin.left;
        margin_end = sides style.margin.right hs.margin.right;
        area_start = mirrored_across hb.offset hb.width hc.start candidate'.place.x.area.end hi.start.0 hi.start.1 hi.start.2;
        area_end = mirrored_across hb.offset hb.width hc.end candidate'.place.x.area.start hi.end.0 hi.end.1 hi.end.2;
        keyword = ap (λ (s : AxisStaticAlign). s.keyword) hi.align;
        place_safety = ap (λ (s : AxisStaticAlign). s.safety) hi.align;
        alignment = ap (λ (t : Bool). from_resolved (keyword_relative style.justify.keyword t)) (differs_other style.direction container.direction);
        safety = refl;
        inline = refl;
        reversed = rtl_other container.direction;
        scrolls = refl;
      }

  pub vertical_same : vertical container style candidate ≡ vertical (image_container container) (image_style style) candidate'
  unfolding vertical of_each_axis of_width resolved_rect self_relative image_container image_style exchanged_lengths
  vertical_same = rw hi.y

  -- padding, or border: left and right are exchanged
  pub padding_exchanged : (r : Rect CompactLength) → exchanged_rect (padding_or_border r area) ≡ padding_or_border (exchanged_lengths r) area
  unfolding padding_or_border of_width resolved_rect rect_or_zero exchanged_rect exchanged_lengths
  padding_exchanged r = refl

  -- ---- step 2

  -- padding plus border
  pub edges_shared : SizeShared edges_bound (sums (rect_sum (padding_or_border style.padding area) (padding_or_border style.border area)))
      (sums (rect_sum (padding_or_border (image_style style).padding area) (padding_or_border (image_style style).border area)))
  unfolding sums sum_x sum_y rect_sum padding_or_border of_width resolved_rect rect_or_zero image_style exchanged_lengths
  edges_shared =
      record {
        width =
            sum_turned (add_same (edge style.padding.left hs.padding.left) (edge style.border.left hs.border.left) (lit< tt))
            (add_same (edge style.padding.right hs.padding.right) (edge style.border.right hs.border.right) (lit< tt)) (lit< tt);
        height = refl;
      }
    where
      edge : (l : CompactLength) → QuarterLength l → Same 4 length_bound (or_zero (maybe_resolved field.PaddingOrBorder l area.width)) (or_zero (maybe_resolved field.PaddingOrBorder l area.width))
      edge l h = or_zero_lem (length_same field.PaddingOrBorder l area.width h)

  size_shared : (f : Field) (lengths : Size CompactLength) → QuarterLength lengths.width → (e e' : Size Float) → SizeShared edges_bound e e'
      → KnownShared size_bound (style_size f lengths style area e) (style_size f lengths (image_style style) area e')
  unfolding style_size with_ratio resolved_size image_style
  size_shared f lengths h e e' k =
      rw hs.ratio
      (added_shared (record { width = length_same f lengths.width area.width h; height = refl }) (pick (SizeShared edges_bound) {t = is_content_box style.sizing} refl k zero_shared) (lit< tt))

  min_shared : (e e' : Size Float) → SizeShared edges_bound e e' → KnownShared size_bound (min_size style area e) (min_size (image_style style) area e')
  unfolding min_size image_style
  min_shared e e' k =
      let k' = widen_size (lit≤ tt) k in
      raised_shared (first_shared (size_shared field.MinOrMax style.min hs.min e e' k) (definite_shared k')) k'

  -- ---- step 3

  faces : Facing length_bound static_bound (horizontal container style candidate) (horizontal (image_container container) (image_style style) candidate')
  unfolding horizontal
  faces = search (rules, horizontal_opposite, opposite_faces)

  fit_shared : SizeShared fit_bound (record { width = stretch_fit (horizontal container style candidate); height = stretch_fit (vertical container style candidate) })
      (record {
        width = stretch_fit (horizontal (image_container container) (image_style style) candidate');
        height = stretch_fit (vertical (image_container container) (image_style style) candidate');
      })
  fit_shared =
      record {
        width = stretch_shared length_bound static_bound (lit< tt) (horizontal container style candidate) (horizontal (image_container container) (image_style style) candidate') faces;
        height = ap stretch_fit vertical_same;
      }

  less_shared : SizeShared static_bound (less_margins area (rect_or_zero (of_width field.InsetOrMargin style.margin area)))
      (less_margins area (rect_or_zero (of_width field.InsetOrMargin (image_style style).margin area)))
  unfolding less_margins sum_x sum_y rect_or_zero of_width resolved_rect image_style exchanged_lengths
  less_shared =
      record {
        width =
            larger_same
            (sub_same (quarters_same hb.width)
            (sum_turned (or_zero_lem (sides style.margin.left hs.margin.left)) (or_zero_lem (sides style.margin.right hs.margin.right)) (lit< tt)) (lit< tt)) zero_same;
        height = refl;
      }

  space_shared : (fit fit' : Size Float) → SizeShared fit_bound fit fit' → SizeShared fit_bound (space_for style area fit) (space_for (image_style style) area fit')
  unfolding space_for image_style
  space_shared fit fit' k = pick (SizeShared fit_bound) {t = style.table} refl (smaller_shared k (widen_size (lit≤ tt) less_shared)) k

  -- ---- all of it

  pub resolved_shared : BoxShared (resolved_box container style candidate) (resolved_box (image_container container) (image_style style) candidate')
  unfolding resolved_box horizontal image_container image_style
  resolved_shared =
      let min = min_shared _ _ edges_shared in
      let max = size_shared field.MinOrMax style.max hs.max _ _ edges_shared in
      let size = size_shared field.Size style.size hs.size _ _ edges_shared in
      record {
        width = refl;
        faces = faces;
        opposite = horizontal_opposite;
        vertical = vertical_same;
        padding = padding_exchanged style.padding;
        border = padding_exchanged style.border;
        size = clamped_shared min max size;
        min = min;
        max = max;
        fit = fit_shared;
        space = spaces_shared (widen_known (lit≤ tt) min) (widen_known (lit≤ tt) max) (definite_spaces_lem (space_shared _ _ fit_shared));
      }
