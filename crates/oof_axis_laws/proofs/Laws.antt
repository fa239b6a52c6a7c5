-- The laws of `specs/Laws.antt`, by the integers of an axis. Assumes nothing.
use borrow.Author.Rules.{rules}
use Rattle.std.specs.Prelude.{Float, None, Option, Some, is_some}
use mathlib.Core.Path.{◌≡◌, refl, sym, ap, subst, ◌∙◌}
use mathlib.Core.List.{List, [], ◌∷◌}
use mathlib.Core.Bool.{Bool, true, false, not, ◌&&◌}
use Prim.Native.Nat.{ℕ, ◌+◌, ◌*◌, ◌<◌}
use native.Mathlib.Omega.{arith}
use lib.Dec.{ltb→lt}
use lib.Ieee.{Float, lt, le, is_nan, of_bits}
use Rattle.util.specs.Number.{◌⊖◌, 0f}
use Rattle.util.specs.Maybe.{or_zero}
use Rattle.util.proofs.Laws.{larger_bounds}
use Rattle.geometry.specs.Geometry.{◌to◌, span}
use Rattle.style.specs.declared.alignment.AlignmentSafety.{AlignmentSafety}
use Rattle.style.specs.declared.alignment.AlignmentSafety.TheVariants.{Unsafe, Safe}
use Rattle.tree.specs.declared.layout.AxisStaticEdge.{AxisStaticEdge}
use Rattle.tree.specs.declared.layout.AxisStaticEdge.TheVariants.{Start, Center, End}
use Rattle.oof_axis.specs.declared.OofAlignment.{OofAlignment}
use Rattle.oof_axis.specs.declared.OofAlignment.TheVariants as align
use Rattle.oof_axis.specs.declared.OofAxis.{OofAxis}
use Rattle.oof_axis.specs.Axis.{block, stretch_fit, placement}
use Rattle.util_exact.specs.Integer.{N, zero_n, add_n, EqN}
use Rattle.util_exact.proofs.Integers.{Multiple, sub_n, max_n, lt_n, le_n, add_mult, sub_mult, even_of, half_twice}
use mathlib.Core.Logic.{◌⊎◌, inl, inr}
use borrow.Author.Tests.{le-leb}
use Rattle.util_exact.specs.Value.{◌≐◌, Total}
use Rattle.util_exact.proofs.Exact.{Exact, sixteenths, widen, any, zero_exact}
use Rattle.util_exact.proofs.Laws.{one_integer}
use Rattle.util_exact.proofs.Sum.{sub_exact}
use Rattle.util_exact.proofs.Compare.{lt_exact, le_exact, same_number, same_integer}
use Rattle.util_exact.proofs.Order.{larger_exact, smaller_exact}
use Rattle.util_exact.proofs.Quarters.{MaybeExact, units, quarters_exact}
use Rattle.mirror_axis.specs.Law.{Room}
use Rattle.mirror_axis.proofs.Model.{LineN, ◌toN◌, span_n, AxisN, shape, block_n, fills, or_zero_n, margins_n, end_of, align_n, static_n, repaired_n, static_place_n, stretch_fit_n, align_of, limit_n, limited_n, self_n, box_n, place_n}
use Rattle.mirror_axis.proofs.ExactBlock.{LineExact, ExactAxis, block_exact}
use Rattle.mirror_axis.proofs.ExactMargins.{or_zero_exact, span_exact, stretch_exact, margins_exact, margins_eighths}
use Rattle.mirror_axis.proofs.ExactPlace.{box_exact, span_of, place_exact}
use Rattle.mirror_axis.proofs.FlipMargins.{margins_fill}
use Rattle.mirror_axis.proofs.Law.{numbers, axis_exact}
use Rattle.oof_axis.specs.Laws.{NoInset, TwoInsets, Aligned, Overflows, margin_box}
use Rattle.oof_axis.proofs.Laws.{not_normal}
use Rattle.oof_axis_laws.specs.Laws.{Whole, LeN, ◌=Σ◌, ◌≤Σ◌, BeginsAt, BeginsFrom, BeginsBy, EndsAt, EndsFrom, EndsBy, EndInsetExact, AutoMarginsFill, FitsInside, SameSizeIsTheBlock, CenterIsEven, AtTheEnd, EndAtEnd, StartKept, SafeKeepsStart, StaticSafeKeepsStart, StaticFitsInside, OverflowCovers, bounds, OverflowStaysWithin, OverflowKeepsStart, with_safety, OverflowMovesNoMore, OverflowStopsAtStart, OverflowStopsAtEnd, TooLargeAtStart, AroundStaticCenter, BlockAroundStaticCenter, StretchIs, StretchFits, StretchedBoxIsTheBlock, StretchedBoxIsTheBlockWithAnyInsets, StaticPositionInside, StaticBlockInside, StaticPositionLeavesNothing, StaticBlockIsEmpty, stretch_size, StretchSizeIsASize, StretchSizeIsStretchFit, rust_stretch_size, StretchSizeAsTheRust}
use Rattle.oof_axis_laws.proofs.Numbers.{Sum, nil, ◌and◌, equal_sums, at_most_sums, at_most, above, below, not_below, Middle, align_inside, fits_told, safe_keeps, limited_covers, limited_within, limited_start, limited_told, limited_low, limited_high, limited_large, overflow_self, static_keeps, around, static_fills, static_fits, static_told, start_inside, end_inside, start_outside, center_outside, end_outside}

-- ---- the integers of a placed box: block, size, margins, and where the margin box begins

pub record Stands (a : OofAxis) (size : Float) : Type 0 where
  pub l : LineN
  pub u : N
  pub ms : N
  pub me : N
  pub at : N
  pub b : ℕ
  pub c : ℕ
  pub d : ℕ
  pub e : ℕ
  pub f : ℕ
  pub within : LineExact 4 b (block a) l
  pub border : Exact 4 c size u
  pub margin_start : Exact 2 d (placement a size).margin.start ms
  pub margin_end : Exact 2 e (placement a size).margin.end me
  pub position : Exact 1 f (placement a size).position (add_n at ms)

begins_at : {a : OofAxis} {size x : Float} {g b : ℕ} {ξ : N} (s : Stands a size) → Exact g b x ξ → EqN s.at ξ → BeginsAt a size x
begins_at s h e = equal_sums (s.position and nil) (h and s.margin_start and nil) (omega arith)

begins_from : {a : OofAxis} {size x : Float} {g b : ℕ} {ξ : N} (s : Stands a size) → Exact g b x ξ → LeN ξ s.at → BeginsFrom a size x
begins_from s h e = at_most_sums (h and s.margin_start and nil) (s.position and nil) (omega arith)

begins_by : {a : OofAxis} {size x : Float} {g b : ℕ} {ξ : N} (s : Stands a size) → Exact g b x ξ → LeN s.at ξ → BeginsBy a size x
begins_by s h e = at_most_sums (s.position and nil) (h and s.margin_start and nil) (omega arith)

-- the margin box's size
abbrev box_of : {a : OofAxis} {size : Float} → Stands a size → N
box_of s = add_n (add_n s.u s.ms) s.me

ends_at : {a : OofAxis} {size x : Float} {g b : ℕ} {ξ : N} (s : Stands a size) → Exact g b x ξ → EqN (add_n s.at (box_of s)) ξ → EndsAt a size x
ends_at s h e = equal_sums (s.position and s.border and s.margin_end and nil) (h and nil) (omega arith)

ends_by : {a : OofAxis} {size x : Float} {g b : ℕ} {ξ : N} (s : Stands a size) → Exact g b x ξ → LeN (add_n s.at (box_of s)) ξ → EndsBy a size x
ends_by s h e = at_most_sums (s.position and s.border and s.margin_end and nil) (h and nil) (omega arith)

ends_from : {a : OofAxis} {size x : Float} {g b : ℕ} {ξ : N} (s : Stands a size) → Exact g b x ξ → LeN ξ (add_n s.at (box_of s)) → EndsFrom a size x
ends_from s h e = at_most_sums (h and nil) (s.position and s.border and s.margin_end and nil) (omega arith)

is_absent : (m : Option Float) → m ≡ None → is_some m ≡ false
is_absent m e = rw e refl

is_given : (m : Option Float) (x : Float) → m ≡ Some x → is_some m ≡ true
is_given m x e = rw e refl

inset : {g b : ℕ} {c : N} (m : Option Float) (x : Float) → m ≡ Some x → MaybeExact g b m c → Exact g b x c
inset {g} {b} {c} m x e h = subst (λ (m : Option Float). MaybeExact g b m c) e h

-- ---- an axis and its integers

module _ (L A S : ℕ) (room : 10 * L + 6 * A + S < 16777216) (a : OofAxis) (α : AxisN) (h : ExactAxis L A a α) {size : Float} {u : N} (hu : Exact 4 S size u) where
  abbrev ℓ : LineN
  ℓ = block_n (shape a) α

  abbrev μ : LineN
  μ = or_zero_n (is_some a.margin.start) α.margin.start toN or_zero_n (is_some a.margin.end) α.margin.end

  abbrev told : AxisStaticEdge
  told = align_of a.alignment a.reversed

  line : LineExact 4 (3 * L + 2 * A) (block a) ℓ
  line = block_exact L A (omega arith) a α h

  given_start : Exact 4 L (or_zero a.margin.start) μ.start
  given_start = or_zero_exact a.margin.start α.margin.start h.margin_start

  given_end : Exact 4 L (or_zero a.margin.end) μ.end
  given_end = or_zero_exact a.margin.end α.margin.end h.margin_end

  -- the margin box as a float
  box : Exact 4 (2 * L + S) (margin_box a size) (box_n u μ)
  box = box_exact L A S room {m = or_zero a.margin.start to or_zero a.margin.end} hu (record { start = given_start; end = given_end })

  -- any axis
  abbrev bound : ℕ
  bound = 7 * L + 4 * A + S

  any_margins : LineExact 2 bound (placement a size).margin (margins_n (shape a) α u)
  unfolding placement
  any_margins = margins_eighths L A S (fills (is_some a.inset.start) (is_some a.inset.end) (is_some a.margin.start) (is_some a.margin.end)) (margins_exact L A S room a α h hu)

  abbrev stands : (m : LineN) (at : N) → margins_n (shape a) α u ≡ m → place_n (shape a) α u ≡ add_n at m.start → Stands a size
  stands m at e f =
      record {
        l = ℓ;
        u = u;
        ms = m.start;
        me = m.end;
        at = at;
        b = 3 * L + 2 * A;
        c = S;
        d = bound;
        e = bound;
        f = 10 * L + 6 * A + S;
        within = line;
        border = hu;
        margin_start = subst (λ (x : LineN). Exact 2 bound (placement a size).margin.start x.start) e any_margins.start;
        margin_end = subst (λ (x : LineN). Exact 2 bound (placement a size).margin.end x.end) e any_margins.end;
        position = subst (λ (x : N). Exact 1 (10 * L + 6 * A + S) (placement a size).position x) f (any (place_exact L A S room a α h hu));
      }

  -- two insets and two margins
  abbrev aligned : Aligned a → Stands a size
  aligned g =
      stands μ (self_n a.safety (shape a) α.size ℓ (box_n u μ) told)
      (rw (g.insets.start, g.insets.end, g.margin_start, g.margin_end) refl)
      (rw (g.insets.start, g.insets.end, g.margin_start, g.margin_end) refl)

  -- ---- tests and evenness

  fits : le (margin_box a size) (span (block a)) ≡ true → le_n (box_n u μ) (span_n ℓ) ≡ true
  fits f = sym (le_exact box (span_of L A S room line)) ∙ f

  over : le (margin_box a size) (span (block a)) ≡ false → le_n (box_n u μ) (span_n ℓ) ≡ false
  over f = sym (le_exact box (span_of L A S room line)) ∙ f

  middle : Middle ℓ (box_n u μ)
  middle =
      sub_mult 2 (add_n ℓ.start ℓ.end) (box_n u μ) (add_mult 2 ℓ.start ℓ.end (even_of 2 ℓ.start line.start.mult) (even_of 2 ℓ.end line.end.mult)) (even_of 2 (box_n u μ) box.mult)

  -- ---- what fits

  fits_inside_at : Aligned a → le (margin_box a size) (span (block a)) ≡ true → BeginsFrom a size (block a).start × EndsBy a size (block a).end
  fits_inside_at g f =
      let i = align_inside ℓ (box_n u μ) told middle (at_most (box_n u μ) (span_n ℓ) (fits f)) in
      let e = fits_told a.safety (shape a) α.size ℓ (box_n u μ) told (fits f) in
      (begins_from (aligned g) line.start (rw e i.0), ends_by (aligned g) line.end (rw e i.1))

  same_size_at : Aligned a → margin_box a size ≐ span (block a) → BeginsAt a size (block a).start × EndsAt a size (block a).end
  same_size_at g q =
      let v = same_integer box (span_of L A S room line) q in
      let f = le_exact box (span_of L A S room line) ∙ le-leb ((box_n u μ).p + (span_n ℓ).n) ((span_n ℓ).p + (box_n u μ).n) (omega (arith, v)) in
      let i = align_inside ℓ (box_n u μ) told middle (at_most (box_n u μ) (span_n ℓ) (fits f)) in
      let e = fits_told a.safety (shape a) α.size ℓ (box_n u μ) told (fits f) in
      (begins_at (aligned g) line.start (rw e (omega (arith, v, i.0, i.1))), ends_at (aligned g) line.end (rw e (omega (arith, v, i.0, i.1))))

  -- a stretched box is as large as the block
  as_the_block : size ≐ stretch_fit a → lt 0f size ≡ true → EqN (box_n u μ) (span_n ℓ)
  as_the_block q e =
      let v = same_integer hu (stretch_exact L A (omega arith) a α h) q in
      let p = below zero_n u (sym (lt_exact (zero_exact {g = 4} {b = 0}) hu) ∙ e) in
      omega (arith, v, p)

  stretched_at : Aligned a → size ≐ stretch_fit a → lt 0f size ≡ true → BeginsAt a size (block a).start × EndsAt a size (block a).end
  stretched_at g q e = same_size_at g (same_number box (span_of L A S room line) (as_the_block q e))

  center_at : Aligned a → a.alignment ≡ align.Center → le (margin_box a size) (span (block a)) ≡ true
      → (placement a size).position ∷ (placement a size).position ∷ size ∷ (placement a size).margin.end ∷ [] =Σ (block a).start ∷ (block a).end ∷ (placement a size).margin.start ∷ []
  center_at g c f =
      let s = aligned g in
      let e = fits_told a.safety (shape a) α.size ℓ (box_n u μ) told (fits f) ∙ ap (λ (k : OofAlignment). align_n ℓ (box_n u μ) (align_of k a.reversed)) c in
      let t = half_twice (sub_n (add_n ℓ.start ℓ.end) (box_n u μ)) middle in
      equal_sums (s.position and s.position and s.border and s.margin_end and nil) (line.start and line.end and s.margin_start and nil) (rw e (omega (arith, t)))

  end_at : Aligned a → a.alignment ≡ align.End → le (margin_box a size) (span (block a)) ≡ true → AtTheEnd a size
  end_at g c f =
      let s = aligned g in
      let e = fits_told a.safety (shape a) α.size ℓ (box_n u μ) told (fits f) ∙ ap (λ (k : OofAlignment). align_n ℓ (box_n u μ) (align_of k a.reversed)) c in (
        λ r. ends_at s line.end (rw (e ∙ ap (λ (r : Bool). align_n ℓ (box_n u μ) (align_of align.End r)) r) (omega arith)),
        λ r. begins_at s line.start (rw (e ∙ ap (λ (r : Bool). align_n ℓ (box_n u μ) (align_of align.End r)) r) (omega arith)),
      )

  -- ---- safe

  safe_at : Aligned a → a.safety ≡ Safe → StartKept a size
  safe_at g s =
      let i = safe_keeps (shape a) α.size ℓ (box_n u μ) told middle in
      let e = ap (λ (s : AlignmentSafety). self_n s (shape a) α.size ℓ (box_n u μ) told) s in
      (λ r. begins_from (aligned g) line.start (rw e (i.0 r)), λ r. ends_by (aligned g) line.end (rw e (i.1 r)))

  -- ---- default overflow

  abbrev lim : LineN
  lim = limit_n α.size ℓ

  low : Exact 4 (3 * L + 2 * A) (bounds a).start lim.start
  low = smaller_exact line.start zero_exact

  high : Exact 4 (3 * L + 2 * A) (bounds a).end lim.end
  high = larger_exact line.end (widen (omega arith) h.size)

  module _ (o : Overflows a size) where
    place_is : self_n a.safety (shape a) α.size ℓ (box_n u μ) told ≡ limited_n a.scrolls a.reversed α.size ℓ (box_n u μ) told
    place_is = search (rules, not_normal, over, overflow_self)

    covers_at : BeginsBy a size (block a).start × EndsFrom a size (block a).end
    covers_at =
        let v = above (box_n u μ) (span_n ℓ) (over o.over) in
        let c = limited_covers a.scrolls a.reversed α.size ℓ (box_n u μ) told middle (omega (arith, v)) in
        (begins_by (aligned o.aligned) line.start (rw place_is c.0), ends_from (aligned o.aligned) line.end (rw place_is c.1))

    within_at : a.scrolls ≡ false → le (margin_box a size) (span (bounds a)) ≡ true → BeginsFrom a size (bounds a).start × EndsBy a size (bounds a).end
    within_at n f =
        let e = place_is ∙ ap (λ (s : Bool). limited_n s a.reversed α.size ℓ (box_n u μ) told) n in
        let c = limited_within a.reversed α.size ℓ (box_n u μ) told (sym (le_exact box (sub_exact high low (omega arith))) ∙ f) in
        (begins_from (aligned o.aligned) low (rw e c.0), ends_by (aligned o.aligned) high (rw e c.1))

    keeps_start_at : (a.reversed ≡ false → BeginsFrom a size (bounds a).start) × (a.reversed ≡ true → EndsBy a size (bounds a).end)
    keeps_start_at =
        let c = limited_start a.scrolls a.reversed α.size ℓ (box_n u μ) told in
        (λ r. begins_from (aligned o.aligned) low (rw place_is (c.0 r)), λ r. ends_by (aligned o.aligned) high (rw place_is (c.1 r)))

  -- the same box, unsafe: its place is as told
  unsafe_exact : ExactAxis L A (with_safety Unsafe a) α
  unsafe_exact = search rules

  -- ---- margins and insets

  -- with an auto margin the margin box begins where the block does
  place_from_start : TwoInsets a → is_some a.margin.start && is_some a.margin.end ≡ false → place_n (shape a) α u ≡ add_n ℓ.start (margins_n (shape a) α u).start
  place_from_start i n = rw (i.start, i.end, n) refl

  auto_at : TwoInsets a → is_some a.margin.start && is_some a.margin.end ≡ false → BeginsAt a size (block a).start × EndsAt a size (block a).end
  auto_at i n =
      let s = stands (margins_n (shape a) α u) ℓ.start refl (place_from_start i n) in
      let even = even_of 2 (sub_n (span_n ℓ) u) (sub_exact (span_exact L A (omega arith) a α h) hu (omega arith)).mult in
      let t = margins_fill (shape a) α ℓ u even (rw (i.start, i.end, n) refl) in
      (begins_at s line.start (omega arith), ends_at s line.end (omega (arith, t)))

  -- one inset, at the end: the block ends there
  far_end : is_some a.inset.start ≡ false → is_some a.inset.end ≡ true → ℓ.end ≡ sub_n α.size α.inset.end
  far_end p q = search (rules, inset)

  end_inset_at : (y : Float) → a.inset.start ≡ None → a.inset.end ≡ Some y → (placement a size).position ∷ size ∷ (placement a size).margin.end ∷ y ∷ [] =Σ a.size ∷ []
  end_inset_at y p q =
      let absent = is_absent a.inset.start p in
      let given = is_given a.inset.end y q in
      equal_sums (place_exact L A S room a α h hu and hu and margin_end_lem absent and inset a.inset.end y q h.inset_end and nil) (h.size and nil)
      (rw (place absent given, far_end absent given) (omega arith))
    where
      place : is_some a.inset.start ≡ false → is_some a.inset.end ≡ true → place_n (shape a) α u ≡ sub_n (sub_n ℓ.end u) μ.end
      place p q = rw (p, q) refl

      margin_end_lem : is_some a.inset.start ≡ false → Exact 2 bound (placement a size).margin.end μ.end
      margin_end_lem p =
          let e : margins_n (shape a) α u ≡ μ = rw p refl in
          subst (λ (m : LineN). Exact 2 bound (placement a size).margin.end m.end) e any_margins.end

  -- ---- no insets

  abbrev area : LineN
  area = α.area

  static_middle : Middle area (box_n u μ)
  static_middle =
      sub_mult 2 (add_n area.start area.end) (box_n u μ) (add_mult 2 area.start area.end (even_of 2 area.start h.area.start.mult) (even_of 2 area.end h.area.end.mult)) (even_of 2 (box_n u μ) box.mult)

  static_even : Multiple 2 (add_n area.start area.end)
  static_even = add_mult 2 area.start area.end (even_of 2 area.start h.area.start.mult) (even_of 2 area.end h.area.end.mult)

  abbrev unset : NoInset a → Stands a size
  unset n =
      stands μ (static_place_n a.place.align.safety (shape a) area ℓ (box_n u μ))
      (rw (is_absent a.inset.start n.start) refl)
      (rw (is_absent a.inset.start n.start, is_absent a.inset.end n.end) refl)

  -- the block as the static position has it
  static_line : NoInset a → ℓ ≡ repaired_n (end_of a.reversed) (static_n a.place.align.keyword area α.size)
  static_line n = rw (is_absent a.inset.start n.start, is_absent a.inset.end n.end) refl

  static_safe_at : NoInset a → a.place.align.safety ≡ Safe → lt 0f (margin_box a size) ≡ true → StartKept a size
  static_safe_at n s p =
      let i = static_keeps a.reversed a.place.align.keyword area α.size (box_n u μ) static_middle static_even (sym (lt_exact (zero_exact {g = 2} {b = 0}) box) ∙ p) in
      let e = ap (λ (s : AlignmentSafety). static_place_n s (shape a) area ℓ (box_n u μ)) s ∙ ap (λ (l : LineN). static_place_n Safe (shape a) area l (box_n u μ)) (static_line n) in
      (λ r. begins_from (unset n) line.start (rw (e, static_line n) (i.0 r)), λ r. ends_by (unset n) line.end (rw (e, static_line n) (i.1 r)))

  static_fits_at : NoInset a → lt 0f (span (block a)) ≡ true → le (margin_box a size) (span (block a)) ≡ true → BeginsFrom a size (block a).start × EndsBy a size (block a).end
  static_fits_at n p f =
      let v = at_most (box_n u μ) (span_n ℓ) (fits f) in
      let l = static_line n in
      let told = static_told a.place.align.safety (shape a) area ℓ (box_n u μ) v in
      let larger : lt_n zero_n (span_n ℓ) ≡ true = sym (lt_exact (zero_exact {g = 4} {b = 0}) (span_of L A S room line)) ∙ p in
      let i = static_fits (end_of a.reversed) a.place.align.keyword area α.size (box_n u μ) static_middle static_even (subst (λ (l : LineN). LeN (box_n u μ) (span_n l)) l v) (subst (λ (l : LineN). lt_n zero_n (span_n l) ≡ true) l larger) in
      (begins_from (unset n) line.start (rw (told, l) i.0), ends_by (unset n) line.end (rw (told, l) i.1))

  -- ---- a stretched box, by its insets

  absent_is : (m : Option Float) → is_some m ≡ false → m ≡ None
  absent_is m e = search rules

  -- one inset: at its edge
  at_start_inset : is_some a.inset.start ≡ true → is_some a.inset.end ≡ false → EqN (box_n u μ) (span_n ℓ) → BeginsAt a size (block a).start × EndsAt a size (block a).end
  at_start_inset p q v =
      let s = stands μ ℓ.start (rw (p, q) refl) (rw (p, q) refl) in
      (begins_at s line.start (omega arith), ends_at s line.end (omega (arith, v)))

  at_end_inset : is_some a.inset.start ≡ false → is_some a.inset.end ≡ true → EqN (box_n u μ) (span_n ℓ) → BeginsAt a size (block a).start × EndsAt a size (block a).end
  at_end_inset p q v =
      let m : margins_n (shape a) α u ≡ μ = rw p refl in
      let at : place_n (shape a) α u ≡ sub_n (sub_n ℓ.end u) μ.end = rw (p, q) refl in
      let ms = subst (λ (m : LineN). Exact 2 bound (placement a size).margin.start m.start) m any_margins.start in
      let me = subst (λ (m : LineN). Exact 2 bound (placement a size).margin.end m.end) m any_margins.end in
      let place = place_exact L A S room a α h hu in
      (equal_sums (place and nil) (line.start and ms and nil) (rw at (omega (arith, v))), equal_sums (place and hu and me and nil) (line.end and nil) (rw at (omega arith)))

  -- none: at the static position
  at_static : NoInset a → EqN (box_n u μ) (span_n ℓ) → lt_n zero_n (span_n ℓ) ≡ true → BeginsAt a size (block a).start × EndsAt a size (block a).end
  at_static n v p =
      let s = unset n in
      let l = static_line n in
      let told = static_told a.place.align.safety (shape a) area ℓ (box_n u μ) (omega (arith, v)) in
      let f = static_fills (end_of a.reversed) a.place.align.keyword area α.size (box_n u μ) static_middle static_even (subst (λ (l : LineN). EqN (box_n u μ) (span_n l)) l v) (subst (λ (l : LineN). lt_n zero_n (span_n l) ≡ true) l p) in
      let e : EqN s.at ℓ.start = rw (told, l) f in
      (begins_at s line.start e, ends_at s line.end (omega (arith, e, v)))

  own_block_at : size ≐ stretch_fit a → lt 0f size ≡ true → lt 0f (span (block a)) ≡ true → BeginsAt a size (block a).start × EndsAt a size (block a).end
  own_block_at q e s = by_insets (is_some a.inset.start) (is_some a.inset.end) refl refl
    where
      v : EqN (box_n u μ) (span_n ℓ)
      v = as_the_block q e

      two : TwoInsets a → BeginsAt a size (block a).start × EndsAt a size (block a).end
      two i = search (rules, stretched_at, auto_at)

      by_insets : (b c : Bool) → is_some a.inset.start ≡ b → is_some a.inset.end ≡ c → BeginsAt a size (block a).start × EndsAt a size (block a).end
      by_insets true true i j = two (record { start = i; end = j })
      by_insets true false i j = at_start_inset i j v
      by_insets false true i j = at_end_inset i j v
      by_insets false false i j =
          at_static (record { start = absent_is a.inset.start i; end = absent_is a.inset.end j }) v (sym (lt_exact (zero_exact {g = 4} {b = 0}) (span_of L A S room line)) ∙ s)

  -- ---- the stretch size of a size keyword

  abbrev stretch_size_n : N
  stretch_size_n = max_n (sub_n (sub_n (span_n ℓ) μ.start) μ.end) zero_n

  pub stretch_size_exact : Exact 4 (6 * L + 4 * A + L + L) (stretch_size a) stretch_size_n
  stretch_size_exact = larger_exact (sub_exact (sub_exact (span_exact L A (omega arith) a α h) given_start (omega arith)) given_end (omega arith)) zero_exact

  stretch_size_is_fit_at : stretch_size a ≐ stretch_fit a
  stretch_size_is_fit_at = same_number stretch_size_exact (stretch_exact L A (omega arith) a α h) (omega arith)

  -- one no larger than that fits
  no_larger_at : le size (stretch_size a) ≡ true → lt 0f (stretch_size a) ≡ true → le (margin_box a size) (span (block a)) ≡ true
  no_larger_at e p =
      let v = at_most u stretch_size_n (sym (le_exact hu stretch_size_exact) ∙ e) in
      let w = below zero_n stretch_size_n (sym (lt_exact (zero_exact {g = 4} {b = 0}) stretch_size_exact) ∙ p) in
      le_exact box (span_of L A S room line) ∙ le-leb ((box_n u μ).p + (span_n ℓ).n) ((span_n ℓ).p + (box_n u μ).n) (omega (arith, v, w))

  as_the_rust_at : TwoInsets a → lt (a.size ⊖ or_zero a.inset.end) (or_zero a.inset.start) ≡ false → stretch_size a ≐ rust_stretch_size a
  as_the_rust_at i f =
      let s = or_zero_exact a.inset.start α.inset.start h.inset_start in
      let e = or_zero_exact a.inset.end α.inset.end h.inset_end in
      let t : lt_n (sub_n α.size α.inset.end) α.inset.start ≡ false = rw (i.start, i.end) at (sym (lt_exact (sub_exact h.size e (omega arith)) s) ∙ f) in
      let l : ℓ ≡ α.inset.start toN sub_n α.size α.inset.end = rw (i.start, i.end, t) refl in
      let less = sub_exact (sub_exact (sub_exact (sub_exact h.size s (omega arith)) e (omega arith)) given_start (omega arith)) given_end (omega arith) in
      same_number stretch_size_exact (larger_exact less zero_exact) (rw (l, i.start, i.end) (omega arith))

-- what the sums say of the integers
total_is : {xs : List Float} {t : N} → Sum xs t → (u : N) → Total xs u → EqN t u
total_is nil u k = omega (arith, k)
total_is (◌and◌ {x = x} {c = c} h s) u k = omega (arith, k.4, one_integer x c k.0 (sixteenths h) k.2, total_is s k.1 k.3)

at_most_of : {xs ys : List Float} {t u : N} → Sum xs t → Sum ys u → xs ≤Σ ys → LeN t u
at_most_of h k e = omega (arith, total_is h e.0 e.2, total_is k e.1 e.3, e.4)

module _ (L A S : ℕ) (room : 10 * L + 6 * A + S < 16777216) (a : OofAxis) (α : AxisN) (h : ExactAxis L A a α) {size : Float} {u : N} (hu : Exact 4 S size u) where
  abbrev unsafe : Aligned a → Stands (with_safety Unsafe a) size
  unsafe g =
      aligned L A S room (with_safety Unsafe a) α (unsafe_exact L A S room a α h hu) hu
      (record { insets = record { start = g.insets.start; end = g.insets.end }; margin_start = g.margin_start; margin_end = g.margin_end })

  module _ (o : Overflows a size) where
    abbrev s : Stands a size
    s = aligned L A S room a α h hu o.aligned

    abbrev q : Stands (with_safety Unsafe a) size
    q = unsafe o.aligned

    abbrev edges : LineN
    edges = limit_n α.size s.l

    lowest : Exact 4 (3 * L + 2 * A) (bounds a).start edges.start
    lowest = low L A S room a α h hu

    highest : Exact 4 (3 * L + 2 * A) (bounds a).end edges.end
    highest = high L A S room a α h hu

    told_begins_from : BeginsFrom (with_safety Unsafe a) size (bounds a).start → LeN edges.start q.at
    told_begins_from f = let z = at_most_of (lowest and q.margin_start and nil) (q.position and nil) f in omega (arith, z)

    told_ends_by : EndsBy (with_safety Unsafe a) size (bounds a).end → LeN (add_n q.at (box_of q)) edges.end
    told_ends_by f = let z = at_most_of (q.position and q.border and q.margin_end and nil) (highest and nil) f in omega (arith, z)

    told_begins_by : BeginsBy (with_safety Unsafe a) size (bounds a).start → LeN q.at edges.start
    told_begins_by f = let z = at_most_of (q.position and nil) (lowest and q.margin_start and nil) f in omega (arith, z)

    told_ends_from : EndsFrom (with_safety Unsafe a) size (bounds a).end → LeN edges.end (add_n q.at (box_of q))
    told_ends_from f = let z = at_most_of (highest and nil) (q.position and q.border and q.margin_end and nil) f in omega (arith, z)

    no_more_at : (a.scrolls && a.reversed ≡ false → BeginsFrom (with_safety Unsafe a) size (bounds a).start)
        → (a.scrolls && not a.reversed ≡ false → EndsBy (with_safety Unsafe a) size (bounds a).end)
        → (placement a size).position ∷ [] =Σ (placement (with_safety Unsafe a) size).position ∷ []
    no_more_at f g =
        let t = limited_told a.scrolls a.reversed α.size s.l (box_of s) (align_of a.alignment a.reversed) (λ e. told_begins_from (f e)) (λ e. told_ends_by (g e)) in
        equal_sums (s.position and nil) (q.position and nil) (rw (place_is L A S room a α h hu o) (omega (arith, t)))

    -- past an edge as told: it stops there
    at_low : a.scrolls && a.reversed ≡ false → (a.scrolls ≡ false → le (margin_box a size) (span (bounds a)) ≡ true)
        → BeginsBy (with_safety Unsafe a) size (bounds a).start → BeginsAt a size (bounds a).start
    at_low n f g =
        let t = limited_low a.scrolls a.reversed α.size s.l (box_of s) (align_of a.alignment a.reversed) n (λ e. sym (le_exact (box L A S room a α h hu) (sub_exact highest lowest (omega arith))) ∙ f e) (told_begins_by g) in
        begins_at s lowest (rw (place_is L A S room a α h hu o) t)

    at_high : a.scrolls && not a.reversed ≡ false → (a.scrolls ≡ false → le (margin_box a size) (span (bounds a)) ≡ true)
        → EndsFrom (with_safety Unsafe a) size (bounds a).end → EndsAt a size (bounds a).end
    at_high n f g =
        let t = limited_high a.scrolls a.reversed α.size s.l (box_of s) (align_of a.alignment a.reversed) n (λ e. sym (le_exact (box L A S room a α h hu) (sub_exact highest lowest (omega arith))) ∙ f e) (told_ends_from g) in
        ends_at s highest (rw (place_is L A S room a α h hu o) t)

    too_large_at : a.scrolls ≡ false → le (margin_box a size) (span (bounds a)) ≡ false
        → (a.reversed ≡ false → BeginsAt a size (bounds a).start) × (a.reversed ≡ true → EndsAt a size (bounds a).end)
    too_large_at n f =
        let e = place_is L A S room a α h hu o ∙ ap (λ (t : Bool). limited_n t a.reversed α.size s.l (box_of s) (align_of a.alignment a.reversed)) n in
        let t = limited_large a.reversed α.size s.l (box_of s) (align_of a.alignment a.reversed) (sym (le_exact (box L A S room a α h hu) (sub_exact highest lowest (omega arith))) ∙ f) in
        (λ r. begins_at s lowest (rw e (t.0 r)), λ r. ends_at s highest (rw e (t.1 r)))

  -- ---- the block around the static center

  around_at : NoInset a → a.place.align.keyword ≡ Center → (0f ∷ [] ≤Σ a.place.area.start ∷ a.place.area.end ∷ []) → (a.place.area.start ∷ a.place.area.end ∷ [] ≤Σ a.size ∷ a.size ∷ [])
      → AroundStaticCenter a
  around_at n k f g =
      let c = h.area.start and h.area.end and nil in
      let low0 = at_most_of (zero_exact {g = 4} {b = 0} and nil) c f in
      let high0 = at_most_of c (h.size and h.size and nil) g in
      let e = static_line L A S room a α h hu n ∙ ap (λ (k : AxisStaticEdge). repaired_n (end_of a.reversed) (static_n k α.area α.size)) k in
      let t = around (end_of a.reversed) α.area α.size (static_even L A S room a α h hu) (omega (arith, low0)) (omega (arith, high0)) in
      let l = line L A S room a α h hu in
      record {
        even = equal_sums (l.start and l.end and nil) c (rw e (omega (arith, t.0)));
        in_start = at_most_sums (zero_exact {g = 4} {b = 0} and nil) (l.start and nil) (rw e (omega (arith, t.1)));
        in_end = at_most_sums (l.end and nil) (h.size and nil) (rw e (omega (arith, t.2)));
        touches = touch a.reversed e t.3;
      }
    where
      touch : (r : Bool) → block_n (shape a) α ≡ repaired_n (end_of r) (static_n Center α.area α.size)
          → EqN (repaired_n (end_of r) (static_n Center α.area α.size)).start zero_n ⊎ EqN (repaired_n (end_of r) (static_n Center α.area α.size)).end α.size
          → ((block a).start ≐ 0f) ⊎ ((block a).end ≐ a.size)
      touch r e (inl t) = inl (same_number (line L A S room a α h hu).start (zero_exact {g = 4} {b = 0}) (rw e t))
      touch r e (inr t) = inr (same_number (line L A S room a α h hu).end h.size (rw e t))

  -- ---- the block of an anchor in the area

  static_inside_at : NoInset a → StaticPositionInside a → (0f ∷ [] ≤Σ (block a).start ∷ []) × ((block a).end ∷ [] ≤Σ a.size ∷ [])
  static_inside_at n i = go a.place.align.keyword refl
    where
      zero : Exact 4 0 0f zero_n
      zero = zero_exact

      by : (k : AxisStaticEdge) → a.place.align.keyword ≡ k → let l = repaired_n (end_of a.reversed) (static_n k α.area α.size) in LeN zero_n l.start × LeN l.end α.size
          → (0f ∷ [] ≤Σ (block a).start ∷ []) × ((block a).end ∷ [] ≤Σ a.size ∷ [])
      by k q t =
          let l = line L A S room a α h hu in
          let e = static_line L A S room a α h hu n ∙ ap (λ (k : AxisStaticEdge). repaired_n (end_of a.reversed) (static_n k α.area α.size)) q in
          (at_most_sums (zero and nil) (l.start and nil) (rw e (omega (arith, t.0))), at_most_sums (l.end and nil) (h.size and nil) (rw e (omega (arith, t.1))))

      go : (k : AxisStaticEdge) → a.place.align.keyword ≡ k → (0f ∷ [] ≤Σ (block a).start ∷ []) × ((block a).end ∷ [] ≤Σ a.size ∷ [])
      go Start q =
          let low = at_most_of (zero and nil) (h.area.start and nil) (i.start q).0 in
          let high = at_most_of (h.area.start and nil) (h.size and nil) (i.start q).1 in
          by Start q (start_inside (end_of a.reversed) α.area.start α.size (omega (arith, low)) (omega (arith, high)))
      go Center q = let c = around_at n q (i.center q).0 (i.center q).1 in (c.in_start, c.in_end)
      go End q =
          let low = at_most_of (zero and nil) (h.area.end and nil) (i.end q).0 in
          let high = at_most_of (h.area.end and nil) (h.size and nil) (i.end q).1 in
          by End q (end_inside (end_of a.reversed) α.area.end α.size (omega (arith, low)) (omega (arith, high)))

  -- ---- the block of an anchor outside the area

  static_outside_at : NoInset a → lt 0f a.size ≡ true → StaticPositionLeavesNothing a → span (block a) ≐ 0f
  static_outside_at n p o = go a.place.align.keyword refl
    where
      zero : Exact 4 0 0f zero_n
      zero = zero_exact

      by : (k : AxisStaticEdge) → a.place.align.keyword ≡ k → let l = repaired_n (end_of a.reversed) (static_n k α.area α.size) in EqN l.start l.end → span (block a) ≐ 0f
      by k q t =
          let e = static_line L A S room a α h hu n ∙ ap (λ (k : AxisStaticEdge). repaired_n (end_of a.reversed) (static_n k α.area α.size)) q in
          same_number (span_of L A S room (line L A S room a α h hu)) zero (rw e (omega (arith, t)))

      middle_outside : (a.place.area.start ∷ a.place.area.end ∷ [] ≤Σ 0f ∷ []) ⊎ (a.size ∷ a.size ∷ [] ≤Σ a.place.area.start ∷ a.place.area.end ∷ [])
          → LeN (add_n α.area.start α.area.end) zero_n ⊎ LeN (add_n α.size α.size) (add_n α.area.start α.area.end)
      middle_outside (inl f) = inl (let b = at_most_of (h.area.start and h.area.end and nil) (zero and nil) f in omega (arith, b))
      middle_outside (inr f) = inr (let b = at_most_of (h.size and h.size and nil) (h.area.start and h.area.end and nil) f in omega (arith, b))

      go : (k : AxisStaticEdge) → a.place.align.keyword ≡ k → span (block a) ≐ 0f
      go Start q = let b = at_most_of (h.size and nil) (h.area.start and nil) (o.start q) in by Start q (start_outside (end_of a.reversed) α.area.start α.size (omega (arith, b)))
      go Center q = by Center q (center_outside (end_of a.reversed) α.area α.size (static_even L A S room a α h hu) (sym (lt_exact zero h.size) ∙ p) (middle_outside (o.center q)))
      go End q = let b = at_most_of (h.area.end and nil) (zero and nil) (o.end q) in by End q (end_outside (end_of a.reversed) α.area.end (omega (arith, b)))

  -- ---- the stretch-fit size

  stretch_at : StretchIs a
  stretch_at =
      let f = stretch_exact L A (omega arith) a α h in
      let l = line L A S room a α h hu in
      let ms = given_start L A S room a α h hu in
      let me = given_end L A S room a α h hu in
      let z = zero_exact {g = 4} {b = 0} in
      record {
        fills =
            λ e. (let p = below zero_n (stretch_fit_n (shape a) α) (sym (lt_exact z f) ∙ e) in equal_sums (l.start and ms and f and me and nil) (l.end and nil) (omega (arith, p)));
        none =
            λ e. (let p = not_below zero_n (stretch_fit_n (shape a) α) (sym (lt_exact z f) ∙ e) in (same_number f z (omega (arith, p)), at_most_sums (l.end and nil) (l.start and ms and me and nil) (omega (arith, p))));
      }

-- ---- the laws

enough : (L A S : ℕ) → Room L A S → 10 * (4 * L) + 6 * (4 * L + 4 * A) + 4 * S < 16777216
enough L A S t = omega (arith, ltb→lt)

-- a law of an axis and its integers, of whole quarters
whole : {P : OofAxis → Float → Type 0}
    → ((L A S : ℕ) → 10 * L + 6 * A + S < 16777216 → (a : OofAxis) (α : AxisN) → ExactAxis L A a α → (size : Float) (u : N) → Exact 4 S size u → P a size)
    → (a : OofAxis) (size : Float) → Whole a size → P a size
whole f a size w =
    f (4 * w.lengths) (4 * w.lengths + 4 * w.static) (4 * w.sizes) (enough w.lengths w.static w.sizes w.room) a
    (numbers w.lengths w.static a w.axis) (axis_exact w.lengths w.static a w.axis) size (units w.box) (quarters_exact w.box)

pub fits_inside : FitsInside
fits_inside = whole fits_inside_at

pub center_is_even : CenterIsEven
center_is_even = whole center_at

pub end_at_end : EndAtEnd
end_at_end = whole end_at

pub safe_keeps_start : SafeKeepsStart
safe_keeps_start = whole safe_at

pub overflow_covers : OverflowCovers
overflow_covers = whole covers_at

pub overflow_stays_within : OverflowStaysWithin
overflow_stays_within = whole within_at

pub overflow_keeps_start : OverflowKeepsStart
overflow_keeps_start = whole keeps_start_at

pub auto_margins_fill : AutoMarginsFill
auto_margins_fill = whole auto_at

pub end_inset_exact : EndInsetExact
end_inset_exact = whole end_inset_at

pub static_safe_keeps_start : StaticSafeKeepsStart
static_safe_keeps_start = whole static_safe_at

pub static_fits_inside : StaticFitsInside
static_fits_inside = whole static_fits_at

pub no_larger_than_the_stretch_size_fits : (a : OofAxis) (size : Float) → Whole a size → le size (stretch_size a) ≡ true → lt 0f (stretch_size a) ≡ true → le (margin_box a size) (span (block a)) ≡ true
no_larger_than_the_stretch_size_fits = whole no_larger_at

pub overflow_moves_no_more : OverflowMovesNoMore
overflow_moves_no_more = whole no_more_at

pub overflow_stops_at_start : OverflowStopsAtStart
overflow_stops_at_start = whole at_low

pub overflow_stops_at_end : OverflowStopsAtEnd
overflow_stops_at_end = whole at_high

pub too_large_at_start : TooLargeAtStart
too_large_at_start = whole too_large_at

pub block_around_static_center : BlockAroundStaticCenter
block_around_static_center = whole around_at

pub stretch_fits : StretchFits
stretch_fits = whole stretch_at

pub same_size_is_the_block : SameSizeIsTheBlock
same_size_is_the_block = whole same_size_at

pub stretched_box_is_the_block : StretchedBoxIsTheBlock
stretched_box_is_the_block = whole stretched_at

pub stretched_box_is_the_block_with_any_insets : StretchedBoxIsTheBlockWithAnyInsets
stretched_box_is_the_block_with_any_insets = whole own_block_at

pub static_block_inside : StaticBlockInside
static_block_inside = whole static_inside_at

pub static_block_is_empty : StaticBlockIsEmpty
static_block_is_empty = whole static_outside_at

zero_is_a_number : is_nan 0f ≡ false
unfolding is_nan of_bits
zero_is_a_number = refl

pub stretch_size_is_a_size : StretchSizeIsASize
stretch_size_is_a_size a = (larger_bounds (span (block a) ⊖ or_zero a.margin.start ⊖ or_zero a.margin.end) 0f).1 zero_is_a_number

pub stretch_size_is_stretch_fit : StretchSizeIsStretchFit
stretch_size_is_stretch_fit = whole stretch_size_is_fit_at

pub stretch_size_as_the_rust : StretchSizeAsTheRust
stretch_size_as_the_rust = whole as_the_rust_at
