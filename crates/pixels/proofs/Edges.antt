-- The laws of `specs/Laws.antt` on the edges of a box. Assumes nothing.
use native.Mathlib.Omega.{arith}
use Rattle.std.proofs.lemmas.Int.{ints}
use mathlib.Core.Bool.{Bool, true, false, cond, and-eq-true_iff}
use mathlib.Core.List.{[], ◌∷◌}
use mathlib.Core.Logic.{◌↔◌}
use mathlib.Core.Path.{◌≡◌, refl, sym, ap, ◌∙◌}
use lib.IntN.{ℤ, ◌+ℤ◌, ◌-ℤ◌}
use lib.Ieee.{Float, eq}
use Rattle.std.specs.Prelude.{Ok, Err, Float}
use Rattle.util.specs.Number.{◌⊕◌}
use Rattle.util.proofs.Floats.{no}
use Rattle.geometry.specs.declared.Point.{Point}
use Rattle.refusal.specs.declared.Refusal.TheVariants.{NotInEighths}
use Rattle.tree.specs.declared.layout.Layout.{Layout}
use Rattle.geometry.specs.declared.Rect.{Rect}
use Rattle.pixels.specs.Accepted.{accepted, in_eighths}
use Rattle.pixels.specs.Pixels.{pixel_of, line_of, edges_of, all_accepted, numbers_read, pixel_edges}
use Rattle.pixels.specs.Conditions.{NotAllInEighths}
use Rattle.pixels.specs.Laws.{RefusedExactly, OnlySixAreRead, EdgesAreExact, OffsetDropsOut, TouchingStays, TouchingByFloatsStays, Near, SizesAreNear, Ordered, EdgesInOrder, Small, EdgesAreSmall}
use Rattle.pixels.proofs.Laws.{pixel_means, order_is_kept}
use Rattle.pixels.proofs.Numbers.{eighths_small, not_all}
use Rattle.pixels.proofs.Sums.{accepted_sum_is_exact}

-- ---- what is answered, by the test

pub refused_exactly : RefusedExactly
unfolding pixel_edges
refused_exactly l o r =
    go (all_accepted (numbers_read l.location l.size o)) (not_all l.location.x (l.location.y ∷ l.size.width ∷ l.size.height ∷ o.x ∷ o.y ∷ []))
  where
    go : (b : Bool) → (b ≡ false) ↔ NotAllInEighths l o
        → (cond b (Ok (edges_of l.location l.size o)) (Err NotInEighths) ≡ Err r) ↔ ((r ≡ NotInEighths) × NotAllInEighths l o)
    go true i = (λ e. absurd cc, λ k. no refl (i.1 k.1))
    go false i = (λ e. (cc, i.0 refl), λ k. ap Err (sym k.0))

pub only_six_are_read : OnlySixAreRead
unfolding pixel_edges
only_six_are_read a b o p q = rw (p, q) refl

-- ---- where edges are given: all six numbers are accepted, and these are the edges

record Given (l : Layout) (o : Point Float) (p : Rect ℤ) : Type 0 where
  x : accepted l.location.x ≡ true
  y : accepted l.location.y ≡ true
  width : accepted l.size.width ≡ true
  height : accepted l.size.height ≡ true
  offset_x : accepted o.x ≡ true
  offset_y : accepted o.y ≡ true
  edges : p ≡ edges_of l.location l.size o

given : (l : Layout) (o : Point Float) (p : Rect ℤ) → pixel_edges l o ≡ Ok p → Given l o p
unfolding pixel_edges all_accepted
given l o p = go (all_accepted (numbers_read l.location l.size o)) refl
  where
    go : (b : Bool) → all_accepted (numbers_read l.location l.size o) ≡ b
        → cond b (Ok (edges_of l.location l.size o)) (Err NotInEighths) ≡ Ok p
        → Given l o p
    go false t e = absurd cc
    go true t e =
        let x = (and-eq-true_iff (accepted l.location.x) _).0 t in
        let y = (and-eq-true_iff (accepted l.location.y) _).0 x.1 in
        let w = (and-eq-true_iff (accepted l.size.width) _).0 y.1 in
        let h = (and-eq-true_iff (accepted l.size.height) _).0 w.1 in
        let a = (and-eq-true_iff (accepted o.x) _).0 h.1 in
        let b = (and-eq-true_iff (accepted o.y) _).0 a.1 in
        record { x = x.0; y = y.0; width = w.0; height = h.0; offset_x = a.0; offset_y = b.0; edges = cc }

pub edges_are_exact : EdgesAreExact
unfolding edges_of line_of
edges_are_exact l o p e =
    rw (given l o p e).edges
    (record {
      left = refl;
      right = ap pixel_of (omega (arith, ints));
      top = refl;
      bottom = ap pixel_of (omega (arith, ints));
    })

-- what is added in floats is taken off in integers
dropped : (begin offset at : Float) → accepted begin ≡ true → accepted offset ≡ true → accepted at ≡ true → eq (begin ⊕ offset) at ≡ true
    → in_eighths at -ℤ in_eighths offset ≡ in_eighths begin
dropped begin offset at a b c e = let s = accepted_sum_is_exact begin offset at a b c e in omega (arith, ints)

pub offset_drops_out : OffsetDropsOut
offset_drops_out l o p e begin b =
    let g = given l o p e in
    let s = edges_are_exact l o p e in (
      λ k. from l.location.x o.x l.size.width s.left s.right (dropped _ _ _ b g.offset_x g.x k),
      λ k. from l.location.y o.y l.size.height s.top s.bottom (dropped _ _ _ b g.offset_y g.y k),
    )
  where
    from : (at offset size : Float) {start end : ℤ}
        → start ≡ pixel_of (in_eighths at -ℤ in_eighths offset)
        → end ≡ pixel_of (in_eighths at +ℤ in_eighths size -ℤ in_eighths offset)
        → in_eighths at -ℤ in_eighths offset ≡ in_eighths begin
        → (start ≡ pixel_of (in_eighths begin)) × (end ≡ pixel_of (in_eighths begin +ℤ in_eighths size))
    from at offset size h k d = (h ∙ ap pixel_of d, k ∙ ap pixel_of (omega (arith, ints)))

pub touching_stays : TouchingStays
touching_stays a b o p q e f =
    let s = edges_are_exact a o p e in
    let t = edges_are_exact b o q f in (
      λ k. s.right ∙ ap (λ (z : ℤ). pixel_of (z -ℤ in_eighths o.x)) k ∙ sym t.left,
      λ k. s.bottom ∙ ap (λ (z : ℤ). pixel_of (z -ℤ in_eighths o.y)) k ∙ sym t.top,
    )

pub touching_by_floats_stays : TouchingByFloatsStays
touching_by_floats_stays a b o p q e f =
    let g = given a o p e in
    let h = given b o q f in
    let t = touching_stays a b o p q e f in (
      λ k. t.0 (accepted_sum_is_exact _ _ _ g.x g.width h.x k),
      λ k. t.1 (accepted_sum_is_exact _ _ _ g.y g.height h.y k),
    )

-- ---- along one axis

near : (at size offset : Float) → let l = line_of at size offset in Near (l.end -ℤ l.start) size
unfolding line_of
near at size offset =
    let n = in_eighths at -ℤ in_eighths offset in
    let a = pixel_means n in
    let b = pixel_means (n +ℤ in_eighths size) in
    (omega (arith, ints), omega (arith, ints))

pub sizes_are_near : SizesAreNear
unfolding edges_of
sizes_are_near l o p e = rw (given l o p e).edges (near _ _ _, near _ _ _)

in_order : (at size offset : Float) → let l = line_of at size offset in Ordered l.start l.end size
unfolding line_of
in_order at size offset =
    let n = in_eighths at -ℤ in_eighths offset in
    let m = n +ℤ in_eighths size in
    (λ h. order_is_kept n m (omega (arith, ints)), λ h. order_is_kept m n (omega (arith, ints)))

pub edges_in_order : EdgesInOrder
unfolding edges_of
edges_in_order l o p e = rw (given l o p e).edges (in_order _ _ _, in_order _ _ _)

smalls : (at size offset : Float) → let l = line_of at size offset in Small l.start × Small l.end
unfolding line_of
smalls at size offset =
    let n = in_eighths at -ℤ in_eighths offset in
    let a = pixel_means n in
    let b = pixel_means (n +ℤ in_eighths size) in
    let h = eighths_small at in
    let k = eighths_small size in
    let l = eighths_small offset in
    ((omega (arith, ints), omega (arith, ints)), (omega (arith, ints), omega (arith, ints)))

pub edges_are_small : EdgesAreSmall
unfolding edges_of
edges_are_small l o p e =
    rw (given l o p e).edges
    (let x = smalls l.location.x l.size.width o.x in let y = smalls l.location.y l.size.height o.y in (x.0, x.1, y.0, y.1))
