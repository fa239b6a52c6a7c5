-- Steps 1 to 3: what is known of a box before the host is asked is whole quarter pixels. Assumes nothing.
use Rattle.std.specs.Prelude.{Float, Option}
use Prim.Native.Nat.{ℕ}
use lib.Dec.{lit<, lit≤}
use lib.Ieee.{Float}
use Rattle.util.specs.Number.{◌⊕◌, ◌⊖◌}
use Rattle.util.specs.Maybe.{or_zero}
use Rattle.geometry.specs.Geometry.{rect_or_zero, rect_sum, sum_x, sum_y, sums, with_ratio}
use Rattle.geometry.specs.declared.Size.{Size}
use Rattle.style.specs.Resolve.{maybe_resolved, resolved_rect, resolved_size}
use Rattle.style.specs.Values.{is_content_box}
use Rattle.style.specs.declared.Style.{Style}
use Rattle.style.specs.declared.compact_length.CompactLength.{CompactLength}
use Rattle.style.specs.declared.resolve.Field.{Field}
use Rattle.style.specs.declared.resolve.Field.TheVariants as field
use Rattle.tree.specs.declared.layout.OofCandidate.{OofCandidate}
use Rattle.oof_axis.specs.Axis.{stretch_fit}
use Rattle.oof_axis.specs.declared.OofAxis.{OofAxis}
use Rattle.oof_common.specs.SizingKeyword.{absolute_stretch}
use Rattle.oof_resolve.specs.Resolved.{of_width, of_each_axis, less_offset, horizontal, vertical, padding_or_border, style_size, min_size, resolved_box}
use Rattle.oof_resolve.specs.declared.ContainingBlock.{ContainingBlock}
use Rattle.oof_resolve.specs.declared.ResolvedBox.{ResolvedBox}
use Rattle.oof_box.specs.Box.{axis_stretch}
use Rattle.util_exact.specs.Integer.{N, zero_n}
use Rattle.util_exact.specs.Value.{Quarter}
use Rattle.util_exact.proofs.Quarters.{MaybeExact}
use Rattle.util_exact.proofs.Same.{given, absent, itself, quarters_same, widen_same, zero_same, add_same, sub_same, larger_same}
use Rattle.mirror_axis.proofs.Model.{◌toN◌, AxisN}
use Rattle.mirror_axis.proofs.ExactBlock.{ExactAxis}
use Rattle.mirror_axis.proofs.ExactMargins.{span_exact, stretch_exact}
use Rattle.mirror_box.specs.Quarter.{QuarterLength}
use Rattle.mirror_box.proofs.Bounds.{length_bound, static_bound, edges_bound, size_bound, fit_bound}
use Rattle.mirror_box.proofs.Lengths.{length_same}
use Rattle.mirror_box.proofs.Resolve.{or_zero_lem}
use Rattle.mirror_run.specs.Quarter.{AreaInQuarters, QuarterPlace}
use Rattle.pixels_laws.specs.Quarter.{SizeInQuarters, StyleInQuarters}
use Rattle.pixels_laws.proofs.Sizes.{either, In, MaybeIn, SizeIn, KnownIn, widen_size, zero_in, definite_in_lem, first_in, added_in, raised_in, clamped_in}

-- ---- an axis

pub record AxisIn (a : OofAxis) : Type 0 where
  pub size : In length_bound a.size
  pub inset_start : MaybeIn length_bound a.inset.start
  pub inset_end : MaybeIn length_bound a.inset.end
  pub margin_start : MaybeIn length_bound a.margin.start
  pub margin_end : MaybeIn length_bound a.margin.end
  pub area_start : In static_bound a.place.area.start
  pub area_end : In static_bound a.place.area.end

-- its integers
number : {b : ℕ} {m : Option Float} → MaybeIn b m → (n : N) × MaybeExact 4 b m n
number (given h) = (h.a, h.l)
number absent = (zero_n, tt)

pub axis_exact : (a : OofAxis) → AxisIn a → (α : AxisN) × ExactAxis length_bound static_bound a α
axis_exact a h =
    let is = number h.inset_start in
    let ie = number h.inset_end in
    let ms = number h.margin_start in
    let me = number h.margin_end in (
      record { size = h.size.a; inset = is.0 toN ie.0; margin = ms.0 toN me.0; area = h.area_start.a toN h.area_end.a },
      record { size = h.size.l; inset_start = is.1; inset_end = ie.1; margin_start = ms.1; margin_end = me.1; area = record { start = h.area_start.l; end = h.area_end.l } },
    )

fit_in : (a : OofAxis) → AxisIn a → In fit_bound (stretch_fit a)
fit_in a h = let e = axis_exact a h in itself (stretch_exact length_bound static_bound (lit< tt) a e.0 e.1)

pub keyword_in : (a : OofAxis) → AxisIn a → In fit_bound (axis_stretch a)
unfolding absolute_stretch
keyword_in a h =
    let e = axis_exact a h in
    let s = itself (span_exact length_bound static_bound (lit< tt) a e.0 e.1) in
    larger_same (sub_same (sub_same s (or_zero_lem h.margin_start) (lit< tt)) (or_zero_lem h.margin_end) (lit< tt)) zero_same

-- ---- the box

pub record BoxIn (box : ResolvedBox) : Type 0 where
  pub across : AxisIn box.horizontal
  pub down : AxisIn box.vertical
  pub size : KnownIn size_bound box.size
  pub min : KnownIn size_bound box.min
  pub max : KnownIn size_bound box.max
  pub fit : SizeIn fit_bound box.fit

module _ (container : ContainingBlock) (style : Style) (candidate : OofCandidate) (hb : AreaInQuarters container.area) (hs : StyleInQuarters style) (hc : QuarterPlace candidate) where
  abbrev area : Size Float
  area = container.area.size

  length : (f : Field) (l : CompactLength) (basis : Float) → QuarterLength l → MaybeIn length_bound (maybe_resolved f l basis)
  length f l basis h = length_same f l basis h

  counted : {x o : Float} → Quarter x → Quarter o → In static_bound (x ⊖ o)
  counted h k = widen_same (lit≤ tt) (sub_same (quarters_same h) (quarters_same k) (lit< tt))

  across : AxisIn (horizontal container style candidate)
  unfolding horizontal less_offset of_each_axis of_width resolved_rect
  across =
      record {
        size = quarters_same hb.width;
        inset_start = length field.InsetOrMargin style.inset.left area.width hs.inset.left;
        inset_end = length field.InsetOrMargin style.inset.right area.width hs.inset.right;
        margin_start = length field.InsetOrMargin style.margin.left area.width hs.margin.left;
        margin_end = length field.InsetOrMargin style.margin.right area.width hs.margin.right;
        area_start = counted hc.0.0 hb.x;
        area_end = counted hc.0.1 hb.x;
      }

  down : AxisIn (vertical container style candidate)
  unfolding vertical less_offset of_each_axis of_width resolved_rect
  down =
      record {
        size = quarters_same hb.height;
        inset_start = length field.InsetOrMargin style.inset.top area.height hs.inset.top;
        inset_end = length field.InsetOrMargin style.inset.bottom area.height hs.inset.bottom;
        margin_start = length field.InsetOrMargin style.margin.top area.width hs.margin.top;
        margin_end = length field.InsetOrMargin style.margin.bottom area.width hs.margin.bottom;
        area_start = counted hc.1.0 hb.y;
        area_end = counted hc.1.1 hb.y;
      }

  -- padding plus border
  edge : (l : CompactLength) → QuarterLength l → In length_bound (or_zero (maybe_resolved field.PaddingOrBorder l area.width))
  edge l h = or_zero_lem (length field.PaddingOrBorder l area.width h)

  edges : SizeIn edges_bound (sums (rect_sum (padding_or_border style.padding area) (padding_or_border style.border area)))
  unfolding sums sum_x sum_y rect_sum padding_or_border of_width resolved_rect rect_or_zero
  edges =
      record {
        width = four (edge _ hs.padding.left) (edge _ hs.border.left) (edge _ hs.padding.right) (edge _ hs.border.right);
        height = four (edge _ hs.padding.top) (edge _ hs.border.top) (edge _ hs.padding.bottom) (edge _ hs.border.bottom);
      }
    where
      four : {a b c d : Float} → In length_bound a → In length_bound b → In length_bound c → In length_bound d → In edges_bound (a ⊕ b ⊕ (c ⊕ d))
      four h i j k = add_same (add_same h i (lit< tt)) (add_same j k (lit< tt)) (lit< tt)

  size_in : (f : Field) (lengths : Size CompactLength) → SizeInQuarters lengths → (e : Size Float) → SizeIn edges_bound e → KnownIn size_bound (style_size f lengths style area e)
  unfolding style_size with_ratio resolved_size
  size_in f lengths h e k =
      rw hs.ratio
      (added_in (record { width = length f lengths.width area.width h.width; height = length f lengths.height area.height h.height })
      (either (SizeIn edges_bound) (is_content_box style.sizing) k zero_in) (lit< tt))

  min_in : (e : Size Float) → SizeIn edges_bound e → KnownIn size_bound (min_size style area e)
  unfolding min_size
  min_in e k = let k' = widen_size (lit≤ tt) k in raised_in (first_in (size_in field.MinOrMax style.min hs.min e k) (definite_in_lem k')) k'

  pub resolved_in : BoxIn (resolved_box container style candidate)
  unfolding resolved_box
  resolved_in =
      let min = min_in _ edges in
      let max = size_in field.MinOrMax style.max hs.max _ edges in
      record {
        across = across;
        down = down;
        size = clamped_in (size_in field.Size style.size hs.size _ edges) min max;
        min = min;
        max = max;
        fit = record { width = fit_in (horizontal container style candidate) across; height = fit_in (vertical container style candidate) down };
      }
