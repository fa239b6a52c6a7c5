-- A box with the keyword stretch on its block and in the area; the stretch size beside the Rust's. Assumes nothing.
use borrow.Author.Rules.{rules}
use mathlib.Core.Path.{◌≡◌, refl, sym, ap, subst, ◌∙◌}
use mathlib.Core.List.{List, [], ◌∷◌}
use mathlib.Core.Logic.{◌⊎◌, inl, inr}
use mathlib.Core.Bool.{true, false, false≢true}
use Prim.Native.Nat.{ℕ, ◌+◌, ◌<◌}
use native.Mathlib.Omega.{arith}
use borrow.Author.Tests.{le-leb}
use lib.Dec.{lit<}
use lib.Ieee.{Float, lt}
use Rattle.std.specs.Prelude.{Option, None, Some, is_some, unwrap_or}
use Rattle.util.specs.Number.{◌⊕◌, ◌⊖◌, 0f}
use Rattle.util.specs.Maybe.{or_zero, at_most, at_least, clamped}
use Rattle.geometry.specs.Geometry.{span}
use Rattle.style.specs.Resolve.{by_tag, resolved, maybe_resolved, resolved_rect}
use Rattle.style.specs.declared.compact_length.CompactLength.{CompactLength}
use Rattle.style.specs.declared.resolve.Field.TheVariants as field
use Rattle.oof_axis.specs.Axis.{block, placement}
use Rattle.oof_axis.specs.Laws.{NoInset, TwoInsets}
use Rattle.oof_axis.specs.declared.OofAxis.{OofAxis}
use Rattle.oof_resolve.specs.Resolved.{of_width, of_each_axis, less_offset, horizontal, vertical, resolved_box}
use Rattle.oof_common.specs.SizingKeyword.{absolute_stretch}
use Rattle.oof_box.specs.Box.{keyword_stretch}
use Rattle.util_exact.specs.Integer.{N, zero_n, add_n}
use Rattle.util_exact.specs.Value.{◌≐◌, Quarter, MaybeQuarters}
use Rattle.util_exact.proofs.Integers.{max_n, min_n}
use Rattle.util_exact.proofs.Exact.{Exact, sixteenths, widen, any, zero_exact}
use Rattle.util_exact.proofs.Laws.{one_integer}
use Rattle.util_exact.proofs.Sum.{add_exact}
use Rattle.util_exact.proofs.Compare.{lt_exact, le_exact}
use Rattle.util_exact.proofs.Order.{larger_exact, smaller_exact}
use Rattle.util_exact.proofs.Quarters.{units, quarters_exact}
use Rattle.mirror_axis.specs.Law.{Bounded}
use Rattle.mirror_axis.proofs.ExactPlace.{place_exact}
use Rattle.mirror_axis.proofs.Law.{axis_exact}
use Rattle.oof_axis_laws.specs.Laws.{Whole, LeN, ◌≤Σ◌, StaticPositionInside, stretch_size, rust_stretch_size}
use Rattle.oof_axis_laws.proofs.Numbers.{not_below}
use Rattle.oof_axis_laws.proofs.Laws.{stretch_size_exact, stretched_box_is_the_block_with_any_insets, static_fits_inside, no_larger_than_the_stretch_size_fits, static_block_inside, stretch_size_is_stretch_fit, stretch_size_as_the_rust}
use Rattle.oof_box_laws.specs.Resolved.{IsAuto}
use Rattle.oof_box_laws.specs.Laws.{MarginBoxIs}
use Rattle.oof_box_laws.specs.Keywords.{AllInQuarters, StretchKeywordIsItsBlock, MarginBoxInside, StretchesAtMost, StretchKeywordStaysInTheArea, InQuarterPixels, StretchAsTheRust}
use Rattle.oof_box_laws.proofs.Fills.{unchanged, quarters_of, on_the_panel, without_static, same_block, placed_across, placed_down}
use Rattle.oof_box_laws.proofs.Keywords.{stretch_keyword_fills}

-- ---- an axis in whole quarters

bounded : (a : OofAxis) (offset : Float) → AllInQuarters a offset → Bounded 16384 32768 a
bounded a offset q =
    record {
      size = q.axis.area;
      inset_start = q.axis.inset_start;
      inset_end = q.axis.inset_end;
      margin_start = q.axis.margin_start;
      margin_end = q.axis.margin_end;
      area_start = q.static_start;
      area_end = q.static_end;
    }

-- the stretch size as an integer, in sixteenths
in_sixteenths : (a : OofAxis) (q : Bounded 16384 32768 a) → (n : N) × Exact 4 1310720 (stretch_size a) n
in_sixteenths a q = (_, stretch_size_exact 65536 196608 0 (lit< tt) a _ (axis_exact 16384 32768 a q) {size = 0f} zero_exact)

-- a box of that size
whole_stretch : (a : OofAxis) (q : Bounded 16384 32768 a) → Whole a (stretch_size a)
whole_stretch a q = record { lengths = 16384; static = 32768; sizes = 327680; room = tt; axis = q; box = quarters_of 327680 (in_sixteenths a q).1 }

-- the margin box of one is the block
on_its_block : (a : OofAxis) (offset : Float) → AllInQuarters a offset → lt 0f (span (block a)) ≡ true → lt 0f (stretch_size a) ≡ true
    → MarginBoxIs (block a) offset ((placement a (stretch_size a)).position ⊕ offset) (stretch_size a) (placement a (stretch_size a)).margin
on_its_block a offset q s r =
    let b = bounded a offset q in
    let w = whole_stretch a b in
    let h = axis_exact 16384 32768 a b in
    on_the_panel a offset (stretch_size a) (any (place_exact 65536 196608 1310720 (lit< tt) a _ h (in_sixteenths a b).1)) q.axis.area_offset (lit< tt)
    (stretched_box_is_the_block_with_any_insets a (stretch_size a) w (stretch_size_is_stretch_fit a (stretch_size a) w) r s)

-- ---- the placed box

pub stretch_keyword_is_its_block : StretchKeywordIsItsBlock
stretch_keyword_is_its_block container style candidate =
    let box = resolved_box container style candidate in
    let size = stretch_keyword_fills container style candidate in (
      λ e s f q. placed_across container style candidate (MarginBoxIs (block box.horizontal) container.area.offset.x) _ (size.0 e s) (rw (unchanged _ f.size _ _ f.at_least_min f.at_most_max) (on_its_block box.horizontal _ q f.block f.size)),
      λ e s f q. placed_down container style candidate (MarginBoxIs (block box.vertical) container.area.offset.y) _ (size.1 e s) (rw (unchanged _ f.size _ _ f.at_least_min f.at_most_max) (on_its_block box.vertical _ q f.block f.size)),
    )

-- ---- on the panel

-- at or after a line's start that isn't before 0; at or before a line's end that isn't after the area's
from_start : (o x m at : Float) → o ∷ x ∷ m ∷ [] ≤Σ at ∷ [] → 0f ∷ [] ≤Σ x ∷ [] → o ∷ m ∷ [] ≤Σ at ∷ []
from_start o x m at (u, t, (o', r, so, (x', r', sx, (m', r'', sm, n, e), f), g), all, h) (z, v, (z', r3, sz, n3, e3), (x'', r4, sx', n4, e4), i) = (
  add_n o' (add_n m' zero_n),
  t,
  (o', add_n m' zero_n, so, (m', zero_n, sm, refl, refl), refl),
  all,
  omega (arith, h, g, f, e, n, i, e3, e4, n3, n4, one_integer x x' x'' sx sx', one_integer 0f z' zero_n sz (sixteenths (zero_exact {g = 4} {b = 0}))),
)

to_end : (at s m o y w : Float) → at ∷ s ∷ m ∷ [] ≤Σ o ∷ y ∷ [] → y ∷ [] ≤Σ w ∷ [] → at ∷ s ∷ m ∷ [] ≤Σ o ∷ w ∷ []
to_end at s m o y w (t, u, all, (o', r, so, (y', r', sy, n, e), f), g) (v, z, (y'', r3, sy', n3, e3), (w', r4, sw, n4, e4), i) = (
  t,
  add_n o' (add_n w' zero_n),
  all,
  (o', add_n w' zero_n, so, (w', zero_n, sw, refl, refl), refl),
  omega (arith, g, f, e, n, i, e3, e4, n3, n4, one_integer y y' y'' sy sy'),
)

-- a number added to one of a sum is added to the sum
moved_after : {b c : ℕ} {x y : Float} {a d : N} (xs ys : List Float) → Exact 1 b x a → Exact 1 c y d → b + c < 16777216 → ys ≤Σ x ∷ xs → y ∷ ys ≤Σ (x ⊕ y) ∷ xs
moved_after {x = x} {a = a} {d = d} xs ys h k l (u, t, all, (p, c, s, rest, e), f) =
    (add_n d u, add_n (add_n a d) c, (d, u, sixteenths k, all, refl), (add_n a d, c, sixteenths (add_exact h k l), rest, refl), omega (arith, one_integer x p a s (sixteenths h), e, f))

moved_before : {b c : ℕ} {x y : Float} {a d : N} (xs ys : List Float) → Exact 1 b x a → Exact 1 c y d → b + c < 16777216 → x ∷ xs ≤Σ ys → (x ⊕ y) ∷ xs ≤Σ y ∷ ys
moved_before {x = x} {a = a} {d = d} xs ys h k l (t, u, (p, c, s, rest, e), all, f) =
    (add_n (add_n a d) c, add_n d u, (add_n a d, c, sixteenths (add_exact h k l), rest, refl), (d, u, sixteenths k, all, refl), omega (arith, one_integer x p a s (sixteenths h), e, f))

-- the size as min and max leave it: no larger than the stretch size
module _ (x : Float) (n : N) (h : Exact 4 1310720 x n) (positive : lt 0f x ≡ true) where
  no_larger : (min max : Option Float) → ((low : Float) → min ≡ Some low → lt x low ≡ false)
      → ((high : Float) → max ≡ Some high → (lt high x ≡ false) ⊎ (Quarter high × MaybeQuarters 16384 min)) → (c : N) × Exact 4 1310720 (clamped x min max) c × LeN c n
  unfolding clamped at_most at_least
  no_larger min None f g = (n, rw (unchanged x positive min None f (λ high e. absurd (false≢true (ap is_some e)))) h, omega arith)
  no_larger min (Some high) f g = go min f (g high refl)
    where
      go : (min : Option Float) → ((low : Float) → min ≡ Some low → lt x low ≡ false) → (lt high x ≡ false) ⊎ (Quarter high × MaybeQuarters 16384 min)
          → (c : N) × Exact 4 1310720 (clamped x min (Some high)) c × LeN c n
      go min f (inl k) = (n, rw (unchanged x positive min (Some high) f (λ y e. subst (λ (m : Option Float). lt (unwrap_or m 0f) x ≡ false) e k)) h, omega arith)
      go None f (inr (q, r)) = (min_n n (units q), smaller_exact h (widen (omega arith) (quarters_exact q)), omega arith)
      go (Some low) f (inr (q, r)) =
          let v = not_below n (units r) (sym (lt_exact h (quarters_exact r)) ∙ f low refl) in
          (max_n (min_n n (units q)) (units r), larger_exact (smaller_exact h (widen (omega arith) (quarters_exact q))) (widen (omega arith) (quarters_exact r)), omega (arith, v))

-- a box of that size, without insets
inside : (a : OofAxis) (offset size : Float) → AllInQuarters a offset → NoInset a → StaticPositionInside a → lt 0f (span (block a)) ≡ true → lt 0f (stretch_size a) ≡ true
    → (q : Bounded 16384 32768 a) → (c : N) × Exact 4 1310720 size c × LeN c (in_sixteenths a q).0
    → MarginBoxInside a.size offset ((placement a size).position ⊕ offset) size (placement a size).margin
inside a offset size q n k s p b (c, hc, v) =
    let w : Whole a size = record { lengths = 16384; static = 32768; sizes = 327680; room = tt; axis = b; box = quarters_of 327680 hc } in
    let at = any (place_exact 65536 196608 1310720 (lit< tt) a _ (axis_exact 16384 32768 a b) hc) in
    let by = any (quarters_exact q.axis.area_offset) in
    let m = (placement a size).margin in
    let fits = no_larger_than_the_stretch_size_fits a size w (le_exact hc (in_sixteenths a b).1 ∙ le-leb (c.p + (in_sixteenths a b).0.n) ((in_sixteenths a b).0.p + c.n) v) p in
    let i = static_fits_inside a size w n s fits in
    let e = static_block_inside a size w n k in (
      from_start offset (block a).start m.start _ (moved_after [] ((block a).start ∷ m.start ∷ []) at by (lit< tt) i.0) e.0,
      to_end _ size m.end offset (block a).end a.size (moved_before (size ∷ m.end ∷ []) ((block a).end ∷ []) at by (lit< tt) i.1) e.1,
    )

stays : (a : OofAxis) (offset : Float) (min max : Option Float) → NoInset a → StaticPositionInside a → StretchesAtMost a min max → AllInQuarters a offset
    → let size = clamped (stretch_size a) min max in MarginBoxInside a.size offset ((placement a size).position ⊕ offset) size (placement a size).margin
stays a offset min max n k f q =
    let b = bounded a offset q in
    inside a offset _ q n k f.block f.size b (no_larger (stretch_size a) _ (in_sixteenths a b).1 f.size min max f.at_least_min f.at_most_max)

pub stretch_keyword_stays_in_the_area : StretchKeywordStaysInTheArea
unfolding resolved_box horizontal vertical
stretch_keyword_stays_in_the_area container style candidate =
    let box = resolved_box container style candidate in
    let size = stretch_keyword_fills container style candidate in (
      λ e s n k f q. placed_across container style candidate (MarginBoxInside container.area.size.width container.area.offset.x) _ (size.0 e s) (stays box.horizontal _ _ _ n k f q),
      λ e s n k f q. placed_down container style candidate (MarginBoxInside container.area.size.height container.area.offset.y) _ (size.1 e s) (stays box.vertical _ _ _ n k f q),
    )

-- ---- beside the Rust: the static area has no say between two insets

as_the_rust_has_it : (a : OofAxis) → TwoInsets a → lt (a.size ⊖ or_zero a.inset.end) (or_zero a.inset.start) ≡ false → Bounded 16384 32768 (without_static a) → stretch_size a ≐ rust_stretch_size a
as_the_rust_has_it a i o b =
    rw (same_block a i) at (stretch_size_as_the_rust (without_static a) _ (whole_stretch (without_static a) b) (record { start = i.start; end = i.end }) o)

pixels_are : (l : CompactLength) (basis : Float) → InQuarterPixels l → maybe_resolved field.InsetOrMargin l basis ≡ Some l.value
unfolding maybe_resolved resolved by_tag
pixels_are l basis (e, q) = rw e refl

inset_quarters : (l : CompactLength) (basis : Float) → InQuarterPixels l → MaybeQuarters 16384 (maybe_resolved field.InsetOrMargin l basis)
inset_quarters l basis p = rw (pixels_are l basis p) p.1

margin_quarters : (l : CompactLength) (basis : Float) → InQuarterPixels l ⊎ IsAuto l → MaybeQuarters 16384 (maybe_resolved field.InsetOrMargin l basis)
unfolding maybe_resolved resolved by_tag
margin_quarters l basis p = search (rules, inset_quarters)

-- two insets in pixels that don't cross
in_order : (size : Float) (s e : Option Float) (x y : Float) → s ≡ Some x → e ≡ Some y → lt (size ⊖ y) x ≡ false → lt (size ⊖ or_zero e) (or_zero s) ≡ false
in_order size s e x y p q o = rw (p, q) o

pub stretch_as_the_rust : StretchAsTheRust
unfolding keyword_stretch absolute_stretch resolved_box horizontal vertical less_offset of_each_axis of_width resolved_rect
stretch_as_the_rust container style candidate c =
    let area = container.area.size in
    let none = quarters_of 32768 zero_exact in
    let left = pixels_are style.inset.left area.width c.left in
    let right = pixels_are style.inset.right area.width c.right in
    let top = pixels_are style.inset.top area.height c.top in
    let bottom = pixels_are style.inset.bottom area.height c.bottom in (
      as_the_rust_has_it (horizontal container style candidate) (record { start = rw left refl; end = rw right refl }) (in_order area.width _ _ _ _ left right c.across)
          (record {
            size = c.width;
            inset_start = inset_quarters style.inset.left area.width c.left;
            inset_end = inset_quarters style.inset.right area.width c.right;
            margin_start = margin_quarters style.margin.left area.width c.margin_left;
            margin_end = margin_quarters style.margin.right area.width c.margin_right;
            area_start = none;
            area_end = none;
          }),
      as_the_rust_has_it (vertical container style candidate) (record { start = rw top refl; end = rw bottom refl }) (in_order area.height _ _ _ _ top bottom c.down)
          (record {
            size = c.height;
            inset_start = inset_quarters style.inset.top area.height c.top;
            inset_end = inset_quarters style.inset.bottom area.height c.bottom;
            margin_start = margin_quarters style.margin.top area.width c.margin_top;
            margin_end = margin_quarters style.margin.bottom area.width c.margin_bottom;
            area_start = none;
            area_end = none;
          }),
    )
