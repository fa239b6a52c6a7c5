-- A stretched box fills its block. Assumes nothing.
use borrow.Author.Rules.{rules}
use Rattle.std.proofs.lemmas.Bool.{and_right, and_parts}
use Rattle.std.specs.Prelude.{Float, None, Option, Some, is_some}
use mathlib.Core.Path.{◌≡◌, refl, ap, ◌∙◌}
use mathlib.Core.List.{List, [], ◌∷◌}
use mathlib.Core.Bool.{Bool, true, false, false≢true, cond}
use Prim.Native.Nat.{ℕ, ◌+◌, ◌-◌, ◌*◌, ◌<◌}
use native.Mathlib.Omega.{arith}
use lib.Dec.{lit<}
use lib.Ieee.{Float, nan, inf, fin, up, down, lt, is_nan, of_bits}
use Rattle.util.specs.Number.{◌⊕◌, ◌⊖◌, 0f}
use Rattle.util.specs.Order.{zero_of, before, larger, smaller}
use Rattle.util.specs.Maybe.{at_most, at_least, clamped}
use Rattle.util.proofs.Order.{eq_self, eq_le, lt_le, le_numbers, not_above_lem, zeros}
use Rattle.geometry.specs.Geometry.{◌to◌, span, line_x, line_y}
use Rattle.geometry.specs.declared.Line.{Line}
use Rattle.style.specs.declared.alignment.AlignmentSafety.{AlignmentSafety}
use Rattle.style.specs.declared.alignment.AlignmentSafety.TheVariants.{Default, Unsafe, Safe}
use Rattle.tree.specs.declared.layout.AxisStaticEdge.{AxisStaticEdge}
use Rattle.oof_axis.specs.Axis.{inset_block, start_is_weaker, block, both_insets, stretch_fit, stretches, halves, filled_margins, margins, align_edge, limit, kept_within, self_aligned, position_in, position, placement}
use Rattle.oof_axis.specs.Laws.{TwoInsets}
use Rattle.oof_axis.specs.declared.OofAlignment.{OofAlignment}
use Rattle.oof_axis.specs.declared.OofAlignment.TheVariants as align
use Rattle.oof_axis.specs.declared.OofAxis.{OofAxis}
use Rattle.oof_resolve.specs.Resolved.{resolved_box}
use Rattle.oof_resolve.specs.declared.ContainingBlock.{ContainingBlock}
use Rattle.oof_resolve.specs.declared.ResolvedBox.{ResolvedBox}
use Rattle.style.specs.declared.Style.{Style}
use Rattle.tree.specs.declared.layout.OofCandidate.{OofCandidate}
use Rattle.oof_box.specs.Box.{Placed, placed}
use Rattle.util_exact.specs.Integer.{N, add_n}
use Rattle.util_exact.specs.Value.{Quarters, Quarter}
use Rattle.util_exact.proofs.Exact.{Val, Exact, sixteenths, any, zero_exact}
use Rattle.util_exact.proofs.Laws.{one_integer}
use Rattle.util_exact.proofs.Sum.{add_exact}
use Rattle.util_exact.proofs.Quarters.{quarters_exact}
use Rattle.mirror_axis.specs.Law.{Bounded}
use Rattle.mirror_axis.proofs.Model.{shape, stretch_fit_n}
use Rattle.mirror_axis.proofs.ExactMargins.{stretch_exact}
use Rattle.mirror_axis.proofs.ExactPlace.{place_exact}
use Rattle.mirror_axis.proofs.Law.{numbers, axis_exact}
use Rattle.oof_axis_laws.specs.Laws.{Whole, ◌=Σ◌, BeginsAt, EndsAt}
use Rattle.oof_axis_laws.proofs.Laws.{auto_margins_fill, stretched_box_is_the_block}
use Rattle.oof_box_laws.specs.Laws.{Always, SizeAlways, InQuarters, MarginBoxIs, StretchedBoxFillsItsBlock}
use Rattle.oof_box_laws.proofs.Always.{always_map, always_both}
use Rattle.oof_box_laws.proofs.Sizes.{stretch_fills}
use Rattle.oof_box_laws.proofs.Places.{stands_by_its_axes}

-- ---- min and max that change nothing

zero : zero_of false 0f ≡ true
unfolding zero_of of_bits
zero = refl

module _ (x : Float) (positive : lt 0f x ≡ true) where
  no_zero : (s : Bool) → zero_of s x ≡ false
  no_zero s = go (zero_of s x) refl
    where
      go : (b : Bool) → zero_of s x ≡ b → b ≡ false
      go true e = absurd (not_above_lem 0f x positive (eq_le x 0f (zeros s false x 0f e zero)))
      go false e = refl

  number : is_nan x ≡ false
  number = (le_numbers 0f x (lt_le 0f x positive)).1

  above_min : (low : Float) → lt x low ≡ false → larger x low ≡ x
  unfolding larger before
  above_min low e = rw (number, e, no_zero true) (go (is_nan low))
    where
      go : (b : Bool) → cond b x x ≡ x
      go true = refl
      go false = refl

  below_max : (high : Float) → lt high x ≡ false → smaller x high ≡ x
  unfolding smaller before
  below_max high e = search (rules, and_right, no_zero, number)

  pub unchanged : (min max : Option Float) → ((low : Float) → min ≡ Some low → lt x low ≡ false) → ((high : Float) → max ≡ Some high → lt high x ≡ false) → clamped x min max ≡ x
  unfolding clamped at_most at_least
  unchanged min max h k = search (rules, above_min, below_max)

-- ---- exact numbers

-- a multiple of four sixteenths is of whole quarters
pub quarters_of : {x : Float} {a : N} (n : ℕ) → Exact 4 (4 * n) x a → Quarters n x
quarters_of {x} {a} n h = go x h.val
  where
    fourth : (M D z k : ℕ) → z ≡ 4 * k → M * 16 ≡ z * D → M * 4 ≡ k * D
    fourth M D z k e f = (let g : M * 16 ≡ 4 * k * D = f ∙ ap (λ (w : ℕ). w * D) e in omega (arith, g))

    go : (x : Float) → Val x a h.z → Quarters n x
    go nan v = absurd v
    go (inf s) v = absurd v
    go (fin false m e) v =
        let k = h.mult.0 - h.mult.1 in
        let f : h.z ≡ 4 * k = omega (arith, v.1, h.mult.2) in
        record { sign = false; k = k; value = (refl, fourth (m * up e) (down e) h.z k f v.0); small = omega (arith, f, h.small) }
    go (fin true m e) v =
        let k = h.mult.1 - h.mult.0 in
        let f : h.z ≡ 4 * k = omega (arith, v.1, h.mult.2) in
        record { sign = true; k = k; value = (refl, fourth (m * up e) (down e) h.z k f v.0); small = omega (arith, f, h.small) }

-- a number added to one of a sum is added to the sum
pub moved : {b c : ℕ} {x y : Float} {a d : N} (xs ys : List Float) → Exact 1 b x a → Exact 1 c y d → b + c < 16777216 → x ∷ xs =Σ ys → (x ⊕ y) ∷ xs =Σ y ∷ ys
moved {x = x} {a = a} {d = d} xs ys h k l (t, u, (p, c, s, rest, e), all, f) =
    (add_n (add_n a d) c, add_n d u, (add_n a d, c, sixteenths (add_exact h k l), rest, refl), (d, u, sixteenths k, all, refl), omega (arith, one_integer x p a s (sixteenths h), e, f))

-- a margin box that is the block in its area is it at the area's offset
pub on_the_panel : {c : ℕ} {n : N} (a : OofAxis) (offset size : Float) → Exact 1 c (placement a size).position n → Quarter offset → c + 65536 < 16777216
    → BeginsAt a size (block a).start × EndsAt a size (block a).end → MarginBoxIs (block a) offset ((placement a size).position ⊕ offset) size (placement a size).margin
on_the_panel a offset size at o room sums =
    let by = any (quarters_exact o) in
    let margin = (placement a size).margin in (
      moved [] ((block a).start ∷ margin.start ∷ []) at by room sums.0,
      moved (size ∷ margin.end ∷ []) ((block a).end ∷ []) at by room sums.1,
    )

-- ---- the static area isn't read between two insets

abbrev pub without_static : OofAxis → OofAxis
without_static a =
    record {
      size = a.size;
      inset = a.inset;
      margin = a.margin;
      place = record { area = 0f to 0f; align = a.place.align };
      alignment = a.alignment;
      safety = a.safety;
      inline = a.inline;
      reversed = a.reversed;
      scrolls = a.scrolls;
    }

same_filled : (s t : Option Float) (free : Float) (a : OofAxis) → filled_margins s t free (without_static a) ≡ filled_margins s t free a
unfolding filled_margins halves
same_filled (Some s) (Some t) free a = refl
same_filled (Some s) None free a = refl
same_filled None (Some t) free a = refl
same_filled None None free a = refl

same_edge : (k : OofAlignment) (a : OofAxis) → align_edge k (without_static a) ≡ align_edge k a
unfolding align_edge
same_edge align.Normal a = refl
same_edge align.Stretch a = refl
same_edge align.Start a = refl
same_edge align.Center a = refl
same_edge align.End a = refl

same_aligned : (s : AlignmentSafety) (a : OofAxis) (l : Line Float) (outer : Float) (edge : AxisStaticEdge) → self_aligned s (without_static a) l outer edge ≡ self_aligned s a l outer edge
unfolding self_aligned kept_within limit
same_aligned Default a l outer edge = refl
same_aligned Unsafe a l outer edge = refl
same_aligned Safe a l outer edge = refl

module _ (a : OofAxis) (i : TwoInsets a) where
  same_inset_block : (s t : Option Float) → is_some s ≡ true → is_some t ≡ true → inset_block s t (without_static a) ≡ inset_block s t a
  unfolding inset_block
  same_inset_block None t e f = absurd (false≢true e)
  same_inset_block (Some x) None e f = absurd (false≢true f)
  same_inset_block (Some x) (Some y) e f = refl

  same_weaker : (s t : Option Float) → start_is_weaker s t (without_static a) ≡ start_is_weaker s t a
  unfolding start_is_weaker
  same_weaker (Some x) (Some y) = refl
  same_weaker (Some x) None = refl
  same_weaker None (Some y) = refl
  same_weaker None None = refl

  pub same_block : block (without_static a) ≡ block a
  unfolding block
  same_block = rw (same_weaker a.inset.start a.inset.end, same_inset_block a.inset.start a.inset.end i.start i.end) refl

  same_fit : stretch_fit (without_static a) ≡ stretch_fit a
  unfolding stretch_fit
  same_fit = rw same_block refl

  same_margins : (size : Float) → margins (without_static a) size ≡ margins a size
  unfolding margins both_insets
  same_margins size = rw (same_block, same_filled a.margin.start a.margin.end (span (block a) ⊖ size) a) refl

  same_position_in : (s t : Option Float) → is_some s ≡ true → is_some t ≡ true → (l : Line Float) (size : Float) (m : Line Float) → position_in s t (without_static a) l size m ≡ position_in s t a l size m
  unfolding position_in
  same_position_in s t h k l size m = search (rules, same_aligned, same_edge)

  same_placement : (size : Float) → placement (without_static a) size ≡ placement a size
  unfolding placement position
  same_placement size = rw (same_margins size, same_block, same_position_in a.inset.start a.inset.end i.start i.end (block a) size (margins a size)) refl

-- ---- an axis

-- one without a static area
fills_with : (a : OofAxis) (offset : Float) → TwoInsets a → lt 0f (stretch_fit a) ≡ true → Bounded 16384 0 a → Quarter offset
    → MarginBoxIs (block a) offset ((placement a (stretch_fit a)).position ⊕ offset) (stretch_fit a) (placement a (stretch_fit a)).margin
fills_with a offset insets positive q o =
    let h = axis_exact 16384 0 a q in
    let fit : Exact 4 786432 (stretch_fit a) (stretch_fit_n (shape a) (numbers 16384 0 a q)) = stretch_exact 65536 65536 (lit< tt) a _ h in
    let sums = go (is_some a.margin.start) (is_some a.margin.end) refl refl (record { lengths = 16384; static = 0; sizes = 196608; room = tt; axis = q; box = quarters_of 196608 fit }) in
    on_the_panel a offset (stretch_fit a) (any (place_exact 65536 65536 786432 (lit< tt) a _ h fit)) o (lit< tt) sums
  where
    go : (b c : Bool) → is_some a.margin.start ≡ b → is_some a.margin.end ≡ c → Whole a (stretch_fit a) → BeginsAt a (stretch_fit a) (block a).start × EndsAt a (stretch_fit a) (block a).end
    go true true e f w =
        stretched_box_is_the_block a (stretch_fit a) w (record { insets = insets; margin_start = e; margin_end = f }) (eq_self (stretch_fit a) (number (stretch_fit a) positive)) positive
    go true false e f w = auto_margins_fill a (stretch_fit a) w insets (rw (e, f) refl)
    go false c e f w = auto_margins_fill a (stretch_fit a) w insets (rw e refl)

fills : (a : OofAxis) (plain : Bool) (offset : Float) → stretches a plain ≡ true → lt 0f (stretch_fit a) ≡ true → InQuarters a offset
    → MarginBoxIs (block a) offset ((placement a (stretch_fit a)).position ⊕ offset) (stretch_fit a) (placement a (stretch_fit a)).margin
unfolding stretches both_insets
fills a plain offset s positive q =
    let i = and_parts _ _ (and_parts _ _ s).0 in
    let two : TwoInsets a = record { start = i.0; end = i.1 } in
    let none = quarters_of 0 zero_exact in
    rw (same_fit a two, same_placement a two (stretch_fit a), same_block a two) at
    (fills_with (without_static a) offset (record { start = i.0; end = i.1 }) (rw (same_fit a two) positive)
    (record { size = q.area; inset_start = q.inset_start; inset_end = q.inset_end; margin_start = q.margin_start; margin_end = q.margin_end; area_start = none; area_end = none })
    q.area_offset)

-- ---- the placed box

-- what holds of a size that a side always has, as its axis places it, holds of the layout
module _ (container : ContainingBlock) (style : Style) (candidate : OofCandidate) (P : Float → Float → Line Float → Type 0) (x : Float) where
  abbrev own : ResolvedBox
  own = resolved_box container style candidate

  pub placed_across : SizeAlways (λ s. s.width ≡ x) container style candidate
      → P ((placement own.horizontal x).position ⊕ container.area.offset.x) x (placement own.horizontal x).margin
      → Always (λ (p : Placed). let l = p.outcome.layout in P l.location.x l.size.width (line_x l.margin)) (placed container style candidate)
  placed_across s h =
      always_map _ _ (placed container style candidate) (λ p k. rw (k.1.0, k.1.2, k.0) h) (always_both _ _ (placed container style candidate) s (stands_by_its_axes container style candidate))

  pub placed_down : SizeAlways (λ s. s.height ≡ x) container style candidate
      → P ((placement own.vertical x).position ⊕ container.area.offset.y) x (placement own.vertical x).margin
      → Always (λ (p : Placed). let l = p.outcome.layout in P l.location.y l.size.height (line_y l.margin)) (placed container style candidate)
  placed_down s h =
      always_map _ _ (placed container style candidate) (λ p k. rw (k.1.1, k.1.2, k.0) h) (always_both _ _ (placed container style candidate) s (stands_by_its_axes container style candidate))

pub stretched_box_fills_its_block : StretchedBoxFillsItsBlock
stretched_box_fills_its_block container style candidate k t =
    let box = resolved_box container style candidate in
    let size = stretch_fills container style candidate k t in (
      λ e s q. placed_across container style candidate (MarginBoxIs (block box.horizontal) container.area.offset.x) _ (size.0 e s.stretching) (rw (unchanged _ s.room _ _ s.at_least_min s.at_most_max) (fills box.horizontal _ _ s.stretching s.room q)),
      λ e s q. placed_down container style candidate (MarginBoxIs (block box.vertical) container.area.offset.y) _ (size.1 e s.stretching) (rw (unchanged _ s.room _ _ s.at_least_min s.at_most_max) (fills box.vertical _ _ s.stretching s.room q)),
    )
