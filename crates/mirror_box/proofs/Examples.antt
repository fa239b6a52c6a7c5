-- The law on boxes that are computed: its hypotheses can be met, and those on percentages, sums and ratio are needed. Assumes nothing.
use Rattle.std.specs.Prelude.{Float, None, Option, Some}
use mathlib.Core.Path.{◌≡◌, refl, sym, ◌∙◌}
use mathlib.Core.List.{[], ◌∷◌}
use mathlib.Core.Bool.{false, false≢true}
use Prim.Native.Nat.{ℕ}
use lib.IntN.{pos, negsuc}
use lib.Dec.{T, leb, lit≤}
use lib.Ieee.{Float, nan, fin, add, sub, mul, div, neg, lt, le, eq, is_nan, of_bits, of_int, binary32}
use lib.Ieee.Exact.{HasValue}
use Rattle.util.specs.Number.{0f}
use Rattle.util.specs.Order.{zero_of, before, larger, smaller, magnitude}
use Rattle.util.specs.Maybe.{map_add, map_larger, at_most, at_least, clamped, map_clamped}
use Rattle.geometry.specs.Geometry.{◌to◌, zero_rect, zero_size, rect_or_zero, sum_x, sum_y, sums, rect_sum, smaller_size, definite, both_present, first_size, filled_size, added_size, raised_size, clamped_size, clamped_floats, completed, with_ratio}
use Rattle.geometry.specs.declared.Rect.{Rect}
use Rattle.style.specs.Resolve.{by_tag, resolved, maybe_resolved, resolved_rect, resolved_size}
use Rattle.style.specs.Values.{self_relative, clamped_space, clamped_spaces, definite_spaces}
use Rattle.style.specs.declared.BoxSizing.TheVariants.{BorderBox}
use Rattle.style.specs.declared.Direction.{Direction}
use Rattle.style.specs.declared.Direction.TheVariants.{Ltr, Rtl}
use Rattle.style.specs.declared.Overflow.TheVariants.{Visible}
use Rattle.style.specs.declared.Position.TheVariants.{Absolute}
use Rattle.style.specs.declared.Style.{Style}
use Rattle.style.specs.declared.alignment.AlignItemsKeyword.{AlignItemsKeyword}
use Rattle.style.specs.declared.alignment.AlignItemsKeyword.TheVariants as keyword
use Rattle.style.specs.declared.alignment.AlignmentSafety.TheVariants.{Default, Safe}
use Rattle.style.specs.declared.compact_length.CompactLength.{CompactLength}
use Rattle.geometry.specs.declared.Size.{Size}
use Rattle.tree.specs.declared.layout.AxisStaticEdge.{AxisStaticEdge}
use Rattle.tree.specs.declared.layout.AxisStaticEdge.TheVariants.{Start, Center}
use Rattle.tree.specs.declared.layout.AxisStaticPosition.{AxisStaticPosition}
use Rattle.tree.specs.declared.layout.OofCandidate.{OofCandidate}
use Rattle.oof_axis.specs.Axis.{from_resolved, align_in, centered_block, static_block, inset_block, start_is_weaker, repaired, block, both_insets, stretch_fit, stretching, stretches, is_stretch, halves, filled_margins, margins, is_normal, align_edge, limit, kept_within, self_aligned, static_aligned, position_in, position, placement}
use Rattle.oof_resolve.specs.Resolved.{of_width, of_each_axis, less_offset, horizontal, vertical, padding_or_border, style_size, min_size, less_margins, space_for, resolved_box}
use Rattle.oof_resolve.specs.declared.ContainingBlock.{ContainingBlock}
use Rattle.oof_common.specs.SizingKeyword.{by_keyword, of_resolved, keyword_of, absolute_stretch, if_absent, keywords_of}
use Rattle.oof_common.specs.ScrollableOverflow.{propagates, reach, placed_at, contribution}
use Rattle.oof_box.specs.Box.{keyword_stretch, size_keywords, settled, ignores_ratio, stretch_ratio, widened, heightened, raised_min, stretched, final_size}
use Rattle.oof_place.specs.Placing.{scrollbar_of, layout_of, from_origin, box_layout}
use Rattle.oof_box.specs.Cut.{no_replies, known_by, stretched_by, size_by, layout_after}
use Rattle.oof_place.specs.declared.OofBoxLayout.{OofBoxLayout}
use Rattle.oof_box.specs.declared.question.KeywordReply.TheVariants as reply
use Rattle.std.specs.declared.option.Option.TheVariants as option
use Rattle.oof_box.specs.declared.question.Replies.{Replies}
use Rattle.util_exact.specs.Value.{Quarter}
use Rattle.mirror_axis.specs.Image.{reflected, reflected_place, other_align, other_edge}
use Rattle.mirror_box.specs.Image.{other_direction, exchanged_lengths, image_container, image_style, edge_sum, image_candidate}
use Rattle.mirror_box.specs.Quarter.{QuarterContainer, QuarterCandidate}
use Rattle.mirror_box.specs.Mirrored.{MirroredBox}
use Rattle.mirror_box.proofs.Law.{lays_out_mirrored, image_is_exact}

-- ---- lengths

abbrev whole : ℕ → Float
whole n = of_int binary32 (pos n)

-- of an odd number
abbrev quarters : ℕ → Float
quarters n = fin false n (negsuc 1)

-- the second value of these may be anything
abbrev tagged : ℕ → Float → CompactLength
tagged t x = record { tag = t; value = x; second = nan }

abbrev px : ℕ → CompactLength
px n = tagged 1 (whole n)

-- the value of these may be anything
abbrev auto : CompactLength
auto = tagged 3 nan

abbrev min_content : CompactLength
min_content = tagged 11 nan

abbrev across : CompactLength → CompactLength → Rect CompactLength
across l r = record { left = l; right = r; top = px 0; bottom = px 0 }

abbrev none : Rect CompactLength
none = across (px 0) (px 0)

infix 60 ◌by◌
abbrev ◌by◌ : CompactLength → CompactLength → Size CompactLength
w by h = record { width = w; height = h }

-- ---- boxes

abbrev container_of : Float → Float → Direction → ContainingBlock
container_of w off d =
    record {
      area = record { size = record { width = w; height = whole 50 }; offset = record { x = off; y = 0f } };
      direction = d;
      overflow = record { x = Visible; y = Visible };
    }

abbrev style_of : Rect CompactLength → Rect CompactLength → Rect CompactLength → Rect CompactLength → Size CompactLength → Option Float → AlignItemsKeyword → Direction → Style
style_of inset margin padding border size ratio justify d =
    record {
      inset = inset;
      margin = margin;
      padding = padding;
      border = border;
      size = size;
      min = auto by auto;
      max = auto by auto;
      ratio = ratio;
      sizing = BorderBox;
      replaced = false;
      table = false;
      direction = d;
      justify = record { keyword = justify; safety = Safe };
      align = record { keyword = keyword.Normal; safety = Default };
      overflow = record { x = Visible; y = Visible };
      scrollbar = 0f;
      contain = record { layout = false; paint = false };
    }

abbrev place_at : Float → AxisStaticEdge → AxisStaticPosition
place_at x edge = record { area = x to x; align = record { keyword = edge; safety = Safe; fallback = Start } }

abbrev candidate_at : Float → AxisStaticEdge → OofCandidate
candidate_at x edge = record { node = 0; order = 0; position = Absolute; place = record { x = place_at x edge; y = place_at 0f Start }; layer = 0 }

abbrev replied : Float → Replies
replied w = record { keyword = option.Some (reply.Width w); fill = option.None }

-- measured for step 6: nothing
abbrev empty : Replies
empty = record { keyword = option.None; fill = option.Some zero_size }

abbrev laid : ContainingBlock → Style → OofCandidate → Replies → OofBoxLayout
laid b s c r = layout_after b s c r zero_rect

abbrev laid_image : ContainingBlock → Style → OofCandidate → Replies → OofBoxLayout
laid_image b s c r = layout_after (image_container b) (image_style s) (image_candidate b.area c) r zero_rect

-- x, x of the image, width, and its width
abbrev both : ContainingBlock → Style → OofCandidate → Replies → Rect Float
both b s c r =
    record {
      left = (laid b s c r).layout.location.x;
      right = (laid_image b s c r).layout.location.x;
      top = (laid b s c r).layout.size.width;
      bottom = (laid_image b s c r).layout.size.width;
    }

abbrev row : Float → Float → Float → Rect Float
row x x' w = record { left = x; right = x'; top = w; bottom = w }

-- ---- an area 100 wide at 8

abbrev panel : ContainingBlock
panel = container_of (whole 100) (whole 8) Ltr

-- insets 10, 20; auto margins; measured for min-content
abbrev filled : Style
filled = style_of (across (px 10) (px 20)) (across auto auto) (across (px 3) (px 0)) (across (px 0) (tagged 1 (quarters 5))) (min_content by px 20) None keyword.Center Rtl

-- self-start of a right-to-left item is the end here; safe; measured for fit-content of 16.5
abbrev self_start : Style
self_start = style_of (across (px 10) (px 20)) none none none (tagged 43 (fin false 33 (negsuc 0)) by px 20) None keyword.SelfStart Rtl

-- no insets, centered in its static area
abbrev static : Style
static = style_of (across auto auto) none none none (px 30 by px 20) None keyword.Normal Ltr

-- ---- an area a quarter pixel wide at 0, where not all holds

abbrev narrow : ContainingBlock
narrow = container_of (quarters 1) 0f Ltr

-- the left border is 5 percent of the width
abbrev percentage : Style
percentage = style_of (across auto auto) none none (across (tagged 5 (of_bits binary32 1028443341)) (px 0)) (auto by px 20) None keyword.Normal Ltr

-- and a sum with nothing
abbrev percentage_and_nothing : Style
percentage_and_nothing =
    style_of (across auto auto) none none (across (record { tag = 129; value = of_bits binary32 1028443341; second = 0f }) (px 0)) (auto by px 20) None keyword.Normal Ltr

-- 0.1, which is no whole number of quarters
abbrev tenth : Float
tenth = of_bits binary32 1036831949

-- a height of a quarter pixel, and a ratio of 0.1
abbrev tall : Style
tall = style_of (across auto auto) none none none (auto by tagged 1 (quarters 1)) (Some tenth) keyword.Normal Ltr

-- measured for min-content
abbrev measured : Style
measured = style_of (across auto auto) none none none (min_content by px 20) None keyword.Normal Ltr

-- how far the box reaches to the left of its start edge
abbrev leftmost : OofBoxLayout → Float
leftmost l = l.contribution.left

-- x, x of the image and the width make 116 in each row; the two widths are one; the padding changes its side
computed :
    (both panel filled (candidate_at 0f Start) (replied (quarters 121)) ∷ both panel self_start (candidate_at 0f Start) (replied (whole 30))
    ∷ both panel self_start (candidate_at 0f Start) (replied (whole 90)) ∷ both panel static (candidate_at (whole 78) Center) no_replies ∷ []
    ≡ row (fin false 303 (negsuc 2)) (fin false 383 (negsuc 2)) (quarters 121) ∷ row (whole 58) (whole 28) (whole 30) ∷ row (whole 18) (whole 8) (whole 90) ∷ row (whole 63) (whole 23) (whole 30) ∷ [])
    × (eq (leftmost (laid narrow percentage (candidate_at 0f Start) empty)) (leftmost (laid_image narrow percentage (candidate_at 0f Start) empty)) ≡ false)
    × (eq (leftmost (laid narrow tall (candidate_at 0f Start) no_replies)) (leftmost (laid_image narrow tall (candidate_at 0f Start) no_replies)) ≡ false)
    × (eq (leftmost (laid narrow measured (candidate_at 0f Start) (replied tenth))) (leftmost (laid_image narrow measured (candidate_at 0f Start) (replied tenth))) ≡ false)
    × (eq (leftmost (laid narrow percentage_and_nothing (candidate_at 0f Start) empty)) (leftmost (laid_image narrow percentage_and_nothing (candidate_at 0f Start) empty)) ≡ false)
    × ((laid panel filled (candidate_at 0f Start) no_replies).layout.padding ≡ record { left = whole 3; right = 0f; top = 0f; bottom = 0f })
    × ((laid_image panel filled (candidate_at 0f Start) no_replies).layout.padding ≡ record { left = 0f; right = whole 3; top = 0f; bottom = 0f })
unfolding add sub mul div neg lt le eq is_nan of_bits of_int zero_of before larger smaller magnitude map_add map_larger at_most at_least clamped map_clamped rect_or_zero sum_x sum_y sums rect_sum smaller_size definite both_present first_size filled_size added_size raised_size clamped_size clamped_floats completed with_ratio by_tag resolved maybe_resolved resolved_rect resolved_size self_relative clamped_space clamped_spaces definite_spaces from_resolved align_in centered_block static_block inset_block start_is_weaker repaired block both_insets stretch_fit stretching stretches is_stretch halves filled_margins margins is_normal align_edge limit kept_within self_aligned static_aligned position_in position placement of_width of_each_axis less_offset horizontal vertical padding_or_border style_size min_size less_margins space_for resolved_box by_keyword of_resolved keyword_of absolute_stretch if_absent keywords_of propagates reach placed_at contribution keyword_stretch size_keywords settled ignores_ratio stretch_ratio widened heightened raised_min stretched final_size scrollbar_of layout_of from_origin box_layout known_by stretched_by size_by layout_after other_direction exchanged_lengths image_container image_style edge_sum image_candidate reflected reflected_place other_align other_edge
computed = (refl, refl, refl, refl, refl, refl, refl)

-- ---- the hypotheses can be met

exactly : {x : Float} (k : ℕ) → T (leb k 16384) → HasValue x false k 4 → Quarter x
exactly k l v = record { sign = false; k = k; value = v; small = lit≤ l }

met : MirroredBox panel.area (laid panel filled (candidate_at 0f Start) (replied (quarters 121))) (laid_image panel filled (candidate_at 0f Start) (replied (quarters 121)))
unfolding of_bits of_int eq
met =
    let zero : Quarter 0f = exactly 0 tt (refl, refl) in
    let hb : QuarterContainer panel = record { width = exactly 400 tt (refl, refl); not_zero = false≢true; offset = exactly 32 tt (refl, refl) } in
    let hc : QuarterCandidate (candidate_at 0f Start) = record { start = zero; end = zero } in
    lays_out_mirrored panel filled (candidate_at 0f Start) (image_candidate panel.area (candidate_at 0f Start)) (replied (quarters 121)) zero_rect hb
    (record {
      inset = record { left = exactly 40 tt (refl, refl); right = exactly 80 tt (refl, refl) };
      margin = record { left = tt; right = tt };
      padding = record { left = exactly 12 tt (refl, refl); right = zero };
      border = record { left = zero; right = exactly 5 tt (refl, refl) };
      size = tt;
      min = tt;
      max = tt;
      ratio = refl;
    })
    hc (image_is_exact panel (candidate_at 0f Start) hb hc) (record { keyword = exactly 121 tt (refl, refl); fill = tt }) (record { left = zero; right = zero })

-- ---- without percentages, without sums, without ratio and with sizes of whole quarters only

percentages_are_left_out : MirroredBox narrow.area (laid narrow percentage (candidate_at 0f Start) empty) (laid_image narrow percentage (candidate_at 0f Start) empty) → ⊥
percentages_are_left_out h = false≢true (sym computed.1 ∙ h.contribution.left)

sums_are_left_out : MirroredBox narrow.area (laid narrow percentage_and_nothing (candidate_at 0f Start) empty) (laid_image narrow percentage_and_nothing (candidate_at 0f Start) empty) → ⊥
sums_are_left_out h = false≢true (sym computed.4 ∙ h.contribution.left)

a_ratio_is_left_out : MirroredBox narrow.area (laid narrow tall (candidate_at 0f Start) no_replies) (laid_image narrow tall (candidate_at 0f Start) no_replies) → ⊥
a_ratio_is_left_out h = false≢true (sym computed.2 ∙ h.contribution.left)

a_measured_width_is_whole : MirroredBox narrow.area (laid narrow measured (candidate_at 0f Start) (replied tenth)) (laid_image narrow measured (candidate_at 0f Start) (replied tenth)) → ⊥
a_measured_width_is_whole h = false≢true (sym computed.3 ∙ h.contribution.left)
