-- What a style comes to before the host is asked. Assumes nothing.
use borrow.Author.Rules.{rules}
use Rattle.std.specs.Prelude.{Float, None, Option, Some}
use Rattle.std.specs.Option.{option_or}
use mathlib.Core.Path.{◌≡◌, refl, sym, ap, ap₂, ◌∙◌}
use mathlib.Core.Logic.{◌⊎◌, inl, inr}
use mathlib.Core.Bool.{Bool, true, false, cond}
use lib.Ieee.{Float, binary32}
use lib.Ieee.Fits.{mul-fits}
use Rattle.util.specs.Number.{◌⊕◌, ◌⊗◌, ◌⊘◌}
use Rattle.util.specs.Order.{larger}
use Rattle.util.specs.Maybe.{or_zero, map_add, map_larger, map_clamped, clamped}
use Rattle.util.proofs.Laws.{larger_is_one}
use Rattle.util_exact.proofs.Nothing.{nothing_added}
use Rattle.geometry.specs.Geometry.{zero_size, definite, first_size, added_size, raised_size, clamped_size, rect_or_zero, completed, with_ratio}
use Rattle.geometry.specs.declared.Size.{Size}
use Rattle.style.proofs.Laws.{percent_in_every_field, sum_in_every_field}
use Rattle.style.specs.Resolve.{by_tag, resolved, maybe_resolved, resolved_rect, resolved_size}
use Rattle.style.specs.Values.{is_content_box, is_scroll_container, differs, keyword_relative, self_relative}
use Rattle.style.specs.declared.BoxSizing.{BoxSizing}
use Rattle.style.specs.declared.BoxSizing.TheVariants.{BorderBox, ContentBox}
use Rattle.style.specs.declared.Direction.{Direction}
use Rattle.style.specs.declared.Direction.TheVariants.{Ltr, Rtl}
use Rattle.style.specs.declared.Overflow.{Overflow}
use Rattle.style.specs.declared.Style.{Style}
use Rattle.style.specs.declared.alignment.AlignItemsKeyword.{AlignItemsKeyword}
use Rattle.style.specs.declared.compact_length.CompactLength.{CompactLength}
use Rattle.style.specs.declared.resolve.Field.{Field}
use Rattle.style.specs.declared.resolve.Field.TheVariants as field
use Rattle.style.specs.declared.resolve.Resolved.TheVariants.{Length}
use Rattle.style.specs.declared.alignment.AlignItemsKeyword.TheVariants as keyword
use Rattle.oof_axis.specs.Axis.{from_resolved}
use Rattle.oof_axis.specs.declared.OofAlignment.TheVariants as align
use Rattle.oof_resolve.specs.Resolved.{of_width, of_each_axis, less_offset, horizontal, vertical, padding_or_border, style_size, min_size, resolved_box}
use Rattle.oof_box.specs.Box.{◌by◌}
use Rattle.oof_box_laws.specs.Resolved.{IsAuto, IsAutoSize, HasKeyword, NoLength, ScrollsBy, AxesOfTheBlock, AutoSidesAreNone, AlignedBy, AlignmentOfTheStyle, Comes, as_pixels, as_percent, as_sum, SumWithNothing, padding_border_of, left_out, SizesOfItsBox, AutoIsNoSize, RatioCompletes, PercentagesOfTheWidth, InsetsOfTheirAxis}

-- ---- lengths, by tag

pub sum_with_nothing : SumWithNothing
sum_with_nothing f l basis e z =
    let product = basis ⊗ l.value in
    sum_in_every_field f l basis e
    ∙ ap Length (ap (λ (y : Float). product ⊕ y) z ∙ nothing_added product (mul-fits binary32 basis l.value))
    ∙ sym (percent_in_every_field f (record { tag = 5; value = l.value; second = l.second }) basis refl)

-- ---- axes

scrolls_by : (o : Overflow) → ScrollsBy o (is_scroll_container o)
scrolls_by o = record { visible = λ e. rw e refl; clip = λ e. rw e refl; hidden = λ e. rw e refl; scroll = λ e. rw e refl }

pub axes_of_the_block : AxesOfTheBlock
unfolding resolved_box horizontal vertical less_offset
axes_of_the_block container style candidate =
    record {
      width = refl;
      height = refl;
      inline_axis = refl;
      block_axis = refl;
      place_x = refl;
      place_y = refl;
      place_align_x = refl;
      place_align_y = refl;
      left_to_right = λ e. rw e refl;
      right_to_left = λ e. rw e refl;
      top_to_bottom = refl;
      scrolls_x = scrolls_by container.overflow.x;
      scrolls_y = scrolls_by container.overflow.y;
    }

-- ---- insets, margins, padding and border

comes_to : (f : Field) (l : CompactLength) (basis x : Float) → Comes basis l x → maybe_resolved f l basis ≡ Some x
unfolding maybe_resolved resolved by_tag
comes_to f _ basis _ (as_pixels) = refl
comes_to f _ basis _ (as_percent) = refl
comes_to f _ basis _ (as_sum) = refl

comes_or_zero : (f : Field) (l : CompactLength) (basis x : Float) → Comes basis l x → or_zero (maybe_resolved f l basis) ≡ x
comes_or_zero f l basis x e = rw (comes_to f l basis x e) refl

pub percentages_of_the_width : PercentagesOfTheWidth
unfolding resolved_box horizontal vertical of_width padding_or_border resolved_rect rect_or_zero
percentages_of_the_width container style candidate x =
    let w = container.area.size.width in
    record {
      margin_left = comes_to field.InsetOrMargin style.margin.left w x;
      margin_right = comes_to field.InsetOrMargin style.margin.right w x;
      margin_top = comes_to field.InsetOrMargin style.margin.top w x;
      margin_bottom = comes_to field.InsetOrMargin style.margin.bottom w x;
      padding_left = comes_or_zero field.PaddingOrBorder style.padding.left w x;
      padding_right = comes_or_zero field.PaddingOrBorder style.padding.right w x;
      padding_top = comes_or_zero field.PaddingOrBorder style.padding.top w x;
      padding_bottom = comes_or_zero field.PaddingOrBorder style.padding.bottom w x;
      border_left = comes_or_zero field.PaddingOrBorder style.border.left w x;
      border_right = comes_or_zero field.PaddingOrBorder style.border.right w x;
      border_top = comes_or_zero field.PaddingOrBorder style.border.top w x;
      border_bottom = comes_or_zero field.PaddingOrBorder style.border.bottom w x;
    }

pub insets_of_their_axis : InsetsOfTheirAxis
unfolding resolved_box horizontal vertical of_each_axis resolved_rect
insets_of_their_axis container style candidate x =
    record {
      left = comes_to field.InsetOrMargin style.inset.left container.area.size.width x;
      right = comes_to field.InsetOrMargin style.inset.right container.area.size.width x;
      top = comes_to field.InsetOrMargin style.inset.top container.area.size.height x;
      bottom = comes_to field.InsetOrMargin style.inset.bottom container.area.size.height x;
    }

auto_is : (l : CompactLength) (basis : Float) → IsAuto l → maybe_resolved field.InsetOrMargin l basis ≡ None
unfolding maybe_resolved resolved by_tag
auto_is l basis e = rw e refl

pub auto_sides_are_none : AutoSidesAreNone
unfolding resolved_box horizontal vertical of_width of_each_axis resolved_rect
auto_sides_are_none container style candidate =
    let w = container.area.size.width in
    let h = container.area.size.height in
    record {
      left = auto_is style.inset.left w;
      right = auto_is style.inset.right w;
      top = auto_is style.inset.top h;
      bottom = auto_is style.inset.bottom h;
      margin_left = auto_is style.margin.left w;
      margin_right = auto_is style.margin.right w;
      margin_top = auto_is style.margin.top w;
      margin_bottom = auto_is style.margin.bottom w;
    }

-- ---- self-alignment

aligned_by : (k : AlignItemsKeyword) (flipped : Bool) → AlignedBy k (cond flipped align.End align.Start) (cond flipped align.Start align.End) (from_resolved (keyword_relative k flipped))
unfolding from_resolved
aligned_by k flipped =
    record {
      normal = λ e. rw e refl;
      stretch = λ e. rw e refl;
      center = λ e. rw e refl;
      start = λ e. rw e refl;
      end = λ e. rw e refl;
      flex_start = λ e. rw e refl;
      flex_end = λ e. rw e refl;
      self_start = λ e. rw e (start_of flipped);
      self_end = λ e. rw e (end_of flipped);
      baseline = λ e. rw e refl;
    }
  where
    start_of : (b : Bool) → from_resolved (keyword_relative keyword.SelfStart b) ≡ cond b align.End align.Start
    start_of true = refl
    start_of false = refl

    end_of : (b : Bool) → from_resolved (keyword_relative keyword.SelfEnd b) ≡ cond b align.Start align.End
    end_of true = refl
    end_of false = refl

same_way : (d e : Direction) → d ≡ e → differs d e ≡ false
same_way Ltr e p = rw (sym p) refl
same_way Rtl e p = rw (sym p) refl

other_way : (d e : Direction) → (d ≡ e → ⊥) → differs d e ≡ true
other_way Ltr Ltr f = absurd (f refl)
other_way Ltr Rtl f = refl
other_way Rtl Ltr f = refl
other_way Rtl Rtl f = absurd (f refl)

pub alignment_of_the_style : AlignmentOfTheStyle
unfolding resolved_box horizontal vertical self_relative
alignment_of_the_style container style candidate =
    record {
      along = λ e. rw (same_way style.direction container.direction e) (aligned_by style.justify.keyword false);
      against = λ f. rw (other_way style.direction container.direction f) (aligned_by style.justify.keyword true);
      vertical = aligned_by style.align.keyword false;
      justify_safety = refl;
      align_safety = refl;
    }

-- ---- size, min and max

-- the fields of sizes
pub data Sizing : Field → Type 0 where
  size : Sizing field.Size
  bound : Sizing field.MinOrMax

pub auto_size : {f : Field} → Sizing f → (l : CompactLength) (basis : Float) → IsAutoSize l → maybe_resolved f l basis ≡ None
unfolding maybe_resolved resolved by_tag
auto_size size l basis (inl e) = rw e refl
auto_size size l basis (inr e) = rw e refl
auto_size bound l basis (inl e) = rw e refl
auto_size bound l basis (inr e) = rw e refl

-- a keyword has no value in a size, nor in a min or max
pub keyword_size : {f : Field} → Sizing f → (l : CompactLength) (basis : Float) → HasKeyword l → maybe_resolved f l basis ≡ None
unfolding maybe_resolved resolved by_tag
keyword_size s l basis k = search rules

pub no_length : {f : Field} → Sizing f → (l : CompactLength) (basis : Float) → NoLength l → maybe_resolved f l basis ≡ None
no_length s l basis (inl a) = auto_size s l basis a
no_length s l basis (inr k) = keyword_size s l basis k

left_out_lem : (sizing : BoxSizing) (edges : Size Float) → cond (is_content_box sizing) edges zero_size ≡ left_out sizing edges
left_out_lem BorderBox edges = refl
left_out_lem ContentBox edges = refl

-- a ratio leaves a side that is given
completed_width : (r : Float) (w h : Option Float) (s : Size (Option Float)) (x : Float) → w ≡ Some x → s.width ≡ Some x → (completed r w h s).width ≡ Some x
unfolding completed
completed_width r w None s x e f = rw e refl
completed_width r w (Some h) s x e f = rw e f

completed_height : (r : Float) (w h : Option Float) (s : Size (Option Float)) (x : Float) → h ≡ Some x → s.height ≡ Some x → (completed r w h s).height ≡ Some x
unfolding completed
completed_height r None h s x e f = rw e refl
completed_height r (Some w) h s x e f = rw e f

pub ratio_width : (ratio : Option Float) (s : Size (Option Float)) (x : Float) → s.width ≡ Some x → (with_ratio ratio s).width ≡ Some x
unfolding with_ratio
ratio_width None s x e = e
ratio_width (Some r) s x e = completed_width r s.width s.height s x e e

pub ratio_height : (ratio : Option Float) (s : Size (Option Float)) (x : Float) → s.height ≡ Some x → (with_ratio ratio s).height ≡ Some x
unfolding with_ratio
ratio_height None s x e = e
ratio_height (Some r) s x e = completed_height r s.width s.height s x e e

lone_width : (ratio : Option Float) (s : Size (Option Float)) (r x : Float) → ratio ≡ Some r → s.width ≡ Some x → s.height ≡ None → (with_ratio ratio s).height ≡ Some (x ⊘ r)
unfolding with_ratio completed
lone_width ratio s r x e f g = rw (e, f, g) refl

lone_height : (ratio : Option Float) (s : Size (Option Float)) (r x : Float) → ratio ≡ Some r → s.width ≡ None → s.height ≡ Some x → (with_ratio ratio s).width ≡ Some (x ⊗ r)
unfolding with_ratio completed
lone_height ratio s r x e f g = rw (e, f, g) refl

no_side : (ratio : Option Float) (s : Size (Option Float)) → s.width ≡ None → s.height ≡ None → with_ratio ratio s ≡ s
unfolding with_ratio completed
no_side None s e f = refl
no_side (Some r) s e f = rw (e, f) refl

added_is : (m : Option Float) (a b x : Float) → m ≡ Some x → a ≡ b → map_add m a ≡ Some (x ⊕ b)
unfolding map_add
added_is m a b x e f = rw (e, f) refl

none_added : (m : Option Float) (a : Float) → m ≡ None → map_add m a ≡ None
unfolding map_add
none_added m a e = rw e refl

clamped_is : (m min max : Option Float) (x : Float) → m ≡ Some x → map_clamped m min max ≡ Some (clamped x min max)
unfolding map_clamped
clamped_is m min max x e = rw e refl

pub none_clamped : (m min max : Option Float) → m ≡ None → map_clamped m min max ≡ None
unfolding map_clamped
none_clamped m min max e = rw e refl

raised_is : (m : Option Float) (e x : Float) → m ≡ Some x → map_larger (option_or m (Some e)) e ≡ Some (larger x e)
unfolding map_larger
raised_is m e x p = rw p refl

larger_itself : (x : Float) → larger x x ≡ x
larger_itself x = go (larger_is_one x x)
  where
    go : (larger x x ≡ x) ⊎ (larger x x ≡ x) → larger x x ≡ x
    go (inl e) = e
    go (inr e) = e

pub none_raised : (m : Option Float) (e : Float) → m ≡ None → map_larger (option_or m (Some e)) e ≡ Some e
unfolding map_larger
none_raised m e p = rw p (ap Some (larger_itself e))

-- the sides of a style's size, min or max, before it is raised or clamped
module _ (style : Style) (area edges : Size Float) (f : Field) (lengths : Size CompactLength) where
  abbrev across : Option Float
  across = (style_size f lengths style area edges).width

  abbrev down : Option Float
  down = (style_size f lengths style area edges).height

  given_width : (x : Float) → Comes area.width lengths.width x → across ≡ Some (x ⊕ (left_out style.sizing edges).width)
  unfolding style_size added_size resolved_size
  given_width x c = added_is _ _ _ x (ratio_width style.ratio _ x (comes_to f lengths.width area.width x c)) (ap (λ (s : Size Float). s.width) (left_out_lem style.sizing edges))

  given_height : (x : Float) → Comes area.height lengths.height x → down ≡ Some (x ⊕ (left_out style.sizing edges).height)
  unfolding style_size added_size resolved_size
  given_height x c = added_is _ _ _ x (ratio_height style.ratio _ x (comes_to f lengths.height area.height x c)) (ap (λ (s : Size Float). s.height) (left_out_lem style.sizing edges))

  -- a length that comes to nothing, without a ratio
  pub none_width : style.ratio ≡ None → maybe_resolved f lengths.width area.width ≡ None → across ≡ None
  unfolding style_size added_size resolved_size with_ratio
  none_width e n = rw e (none_added _ _ n)

  pub none_height : style.ratio ≡ None → maybe_resolved f lengths.height area.height ≡ None → down ≡ None
  unfolding style_size added_size resolved_size with_ratio
  none_height e n = rw e (none_added _ _ n)

  pub none_both : maybe_resolved f lengths.width area.width ≡ None → maybe_resolved f lengths.height area.height ≡ None → (across ≡ None) × (down ≡ None)
  unfolding style_size added_size resolved_size
  none_both p q =
      let e = no_side style.ratio _ p q in
      (none_added _ _ (ap (λ (s : Size (Option Float)). s.width) e ∙ p), none_added _ _ (ap (λ (s : Size (Option Float)). s.height) e ∙ q))

  module _ (sizing : Sizing f) where
    width_by_ratio : (r x : Float) → style.ratio ≡ Some r → NoLength lengths.width → Comes area.height lengths.height x → across ≡ Some (x ⊗ r ⊕ (left_out style.sizing edges).width)
    unfolding style_size added_size resolved_size
    width_by_ratio r x e a c =
        added_is _ _ _ (x ⊗ r) (lone_height style.ratio _ r x e (no_length sizing lengths.width area.width a) (comes_to f lengths.height area.height x c)) (ap (λ (s : Size Float). s.width) (left_out_lem style.sizing edges))

    height_by_ratio : (r x : Float) → style.ratio ≡ Some r → NoLength lengths.height → Comes area.width lengths.width x → down ≡ Some (x ⊘ r ⊕ (left_out style.sizing edges).height)
    unfolding style_size added_size resolved_size
    height_by_ratio r x e a c =
        added_is _ _ _ (x ⊘ r) (lone_width style.ratio _ r x e (comes_to f lengths.width area.width x c) (no_length sizing lengths.height area.height a)) (ap (λ (s : Size Float). s.height) (left_out_lem style.sizing edges))

    auto_width_lem : style.ratio ≡ None → IsAutoSize lengths.width → across ≡ None
    auto_width_lem e a = none_width e (auto_size sizing lengths.width area.width a)

    auto_height_lem : style.ratio ≡ None → IsAutoSize lengths.height → down ≡ None
    auto_height_lem e a = none_height e (auto_size sizing lengths.height area.height a)

    auto_both : IsAutoSize lengths.width → IsAutoSize lengths.height → (across ≡ None) × (down ≡ None)
    auto_both a b = none_both (auto_size sizing lengths.width area.width a) (auto_size sizing lengths.height area.height b)

pub sizes_of_its_box : SizesOfItsBox
unfolding resolved_box clamped_size min_size raised_size first_size definite
sizes_of_its_box container style candidate x =
    let area = container.area.size in
    let edges = padding_border_of (resolved_box container style candidate) in
    record {
      max_width = given_width style area edges field.MinOrMax style.max x;
      max_height = given_height style area edges field.MinOrMax style.max x;
      min_width = λ c. raised_is _ _ _ (given_width style area edges field.MinOrMax style.min x c);
      min_height = λ c. raised_is _ _ _ (given_height style area edges field.MinOrMax style.min x c);
      width = λ c. clamped_is _ _ _ _ (given_width style area edges field.Size style.size x c);
      height = λ c. clamped_is _ _ _ _ (given_height style area edges field.Size style.size x c);
    }

pub ratio_completes : RatioCompletes
unfolding resolved_box clamped_size min_size raised_size first_size definite
ratio_completes container style candidate r x e =
    let area = container.area.size in
    let edges = padding_border_of (resolved_box container style candidate) in
    record {
      max_width = width_by_ratio style area edges field.MinOrMax style.max bound r x e;
      max_height = height_by_ratio style area edges field.MinOrMax style.max bound r x e;
      min_width = λ a c. raised_is _ _ _ (width_by_ratio style area edges field.MinOrMax style.min bound r x e a c);
      min_height = λ a c. raised_is _ _ _ (height_by_ratio style area edges field.MinOrMax style.min bound r x e a c);
      width = λ a c. clamped_is _ _ _ _ (width_by_ratio style area edges field.Size style.size size r x e a c);
      height = λ a c. clamped_is _ _ _ _ (height_by_ratio style area edges field.Size style.size size r x e a c);
    }

pub two_sides : (w w' h h' : Option Float) → w ≡ w' → h ≡ h' → w by h ≡ w' by h'
two_sides w w' h h' e f = ap₂ ◌by◌ e f

pub auto_is_no_size : AutoIsNoSize
unfolding resolved_box clamped_size min_size raised_size first_size definite
auto_is_no_size container style candidate =
    let area = container.area.size in
    let edges = padding_border_of (resolved_box container style candidate) in (
      record {
        width = λ e a. none_clamped _ _ _ (auto_width_lem style area edges field.Size style.size size e a);
        height = λ e a. none_clamped _ _ _ (auto_height_lem style area edges field.Size style.size size e a);
        both = λ a b. (let n = auto_both style area edges field.Size style.size size a b in two_sides _ _ _ _ (none_clamped _ _ _ n.0) (none_clamped _ _ _ n.1));
      },
      record {
        width = auto_width_lem style area edges field.MinOrMax style.max bound;
        height = auto_height_lem style area edges field.MinOrMax style.max bound;
        both = λ a b. (let n = auto_both style area edges field.MinOrMax style.max bound a b in two_sides _ _ _ _ n.0 n.1);
      },
      record {
        width = λ e a. none_raised _ _ (auto_width_lem style area edges field.MinOrMax style.min bound e a);
        height = λ e a. none_raised _ _ (auto_height_lem style area edges field.MinOrMax style.min bound e a);
        both = λ a b. (let n = auto_both style area edges field.MinOrMax style.min bound a b in two_sides _ _ _ _ (none_raised _ _ n.0) (none_raised _ _ n.1));
      },
    )
