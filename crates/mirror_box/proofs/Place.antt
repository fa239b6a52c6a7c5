-- Step 7: layouts of a box and of its image are mirrored. Assumes nothing.
use Rattle.std.specs.Prelude.{Float}
use mathlib.Core.Path.{◌≡◌, refl, sym, ap, ap₂, subst}
use mathlib.Core.List.{[], ◌∷◌}
use mathlib.Core.Bool.{cond}
use Prim.Native.Nat.{◌*◌}
use native.Mathlib.Omega.{arith}
use lib.Dec.{lit<, lit≤}
use lib.Ieee.{Float}
use Rattle.util.specs.Number.{◌⊕◌, ◌⊖◌}
use Rattle.geometry.specs.declared.Rect.{Rect}
use Rattle.geometry.specs.declared.Size.{Size}
use Rattle.style.specs.Values.{is_rtl}
use Rattle.style.specs.declared.Direction.{Direction}
use Rattle.style.specs.declared.Direction.TheVariants.{Ltr, Rtl}
use Rattle.style.specs.declared.Style.{Style}
use Rattle.tree.specs.declared.layout.OofCandidate.{OofCandidate}
use Rattle.oof_axis.specs.Axis.{placement}
use Rattle.oof_axis.specs.declared.AxisPlacement.{AxisPlacement}
use Rattle.oof_resolve.specs.declared.ContainingBlock.{ContainingBlock}
use Rattle.oof_resolve.specs.declared.ResolvedBox.{ResolvedBox}
use Rattle.oof_place.specs.Placing.{layout_of, from_origin}
use Rattle.util_exact.specs.Integer.{N, zero_n, add_n}
use Rattle.util_exact.proofs.Integers.{sub_n}
use Rattle.util_exact.specs.Value.{Total, Quarter}
use Rattle.util_exact.proofs.Exact.{Exact, sixteenths, recast, widen, any}
use Rattle.util_exact.proofs.Sum.{add_exact, sub_exact}
use Rattle.util_exact.proofs.Quarters.{units, quarters_exact}
use Rattle.util_exact.proofs.Same.{Same, same, equal}
use Rattle.mirror_axis.proofs.Facing.{Filled, start_is_end, end_is_start, positions}
use Rattle.mirror_box.specs.Image.{other_direction, image_container, image_style}
use Rattle.mirror_box.specs.Quarter.{QuarterContainer}
use Rattle.mirror_box.specs.Mirrored.{CandidateImage, MirroredLayout}
use Rattle.mirror_box.proofs.Bounds.{length_bound, static_bound, fit_bound, place_bound, origin_bound}
use Rattle.mirror_box.proofs.Reflect.{edges, edges_total}
use Rattle.mirror_box.proofs.Shared.{SizeShared, size_told}
use Rattle.mirror_box.proofs.Resolve.{BoxShared}

-- ---- places in the area, and positions from the offset

module _ {off : Float} (qo : Quarter off) {p : Float} {a : N} (hp : Exact 1 place_bound p a) where
  moved : Exact 1 (49 * length_bound) (p ⊕ off) (add_n a (units qo))
  moved = add_exact hp (any (quarters_exact qo)) (lit< tt)

  -- from the area's left edge
  from_left : Exact 1 (50 * length_bound) (p ⊕ off ⊖ off) a
  from_left = recast (omega arith) (sub_exact moved (any (quarters_exact qo)) (lit< tt))

  -- from its right edge, to the far side of the box
  from_right : {w s : Float} {ω u : N} → Exact 4 length_bound w ω → Exact 4 fit_bound s u → Exact 1 origin_bound (w ⊖ (p ⊕ off ⊖ off) ⊖ s) (sub_n (sub_n ω a) u)
  from_right hw hs = sub_exact (sub_exact (any hw) from_left (lit< tt)) (any hs) (lit< tt)

module _ {off w s s' p p' : Float} {ω : N} (qo : Quarter off) (hw : Exact 4 length_bound w ω) (hs : Same 4 fit_bound s s') (hp : Filled place_bound ω hs.a p p') where
  -- the two x and the width make 2 × offset + the area's width
  pub x_total : Total ((p ⊕ off) ∷ (p' ⊕ off) ∷ s ∷ []) (edges (units qo) ω)
  x_total =
      let a = add_n hp.a (units qo) in
      let a' = add_n hp.a' (units qo) in
      let u = hs.a in
      let e = hp.fill in
      (a, add_n a' (add_n u zero_n), sixteenths (moved qo hp.l), (a', add_n u zero_n, sixteenths (moved qo hp.r), (u, zero_n, sixteenths hs.l, refl, refl), refl), omega arith)

  -- counted from the start edge, in either direction, the two are one number
  pub origin_same : (d : Direction) → Same 1 origin_bound (cond (is_rtl d) (w ⊖ (p ⊕ off ⊖ off) ⊖ s) (p ⊕ off ⊖ off)) (cond (is_rtl (other_direction d)) (w ⊖ (p' ⊕ off ⊖ off) ⊖ s') (p' ⊕ off ⊖ off))
  unfolding other_direction
  origin_same Ltr = let e = hp.fill in same (widen (lit≤ tt) (from_left qo hp.l)) (from_right qo hp.r hw hs.r) (omega arith)
  origin_same Rtl = let e = hp.fill in same (from_right qo hp.l hw hs.l) (widen (lit≤ tt) (from_left qo hp.r)) (omega arith)

-- ---- layouts

module _ (container : ContainingBlock) (hb : QuarterContainer container) (style : Style) (candidate candidate' : OofCandidate) (hi : CandidateImage container.area candidate candidate')
    (box box' : ResolvedBox) (h : BoxShared box box') (width : box.horizontal.size ≡ container.area.size.width) (size size' : Size Float) (hs : SizeShared fit_bound size size') where
  wide : Exact 4 length_bound container.area.size.width h.faces.α.size
  wide = subst (λ (x : Float). Exact 4 length_bound x h.faces.α.size) width h.faces.left.size

  places : Filled place_bound h.faces.α.size hs.width.a (placement box.horizontal size.width).position (placement box'.horizontal size'.width).position
  places = positions length_bound static_bound fit_bound (lit< tt) box.horizontal box'.horizontal h.faces size.width size'.width hs.width

  -- y: one word
  downward : placement box.vertical size.height ≡ placement box'.vertical size'.height
  downward = ap₂ placement h.vertical hs.height

  pub layout_mirrored : (overflow : Rect Float) → MirroredLayout container.area (layout_of container style candidate box size overflow) (layout_of (image_container container) (image_style style) candidate' box' size' overflow)
  unfolding layout_of image_container image_style
  layout_mirrored overflow =
      record {
        order = sym hi.order;
        size = size_told hs;
        overflow = refl;
        scrollbar = refl;
        x = (edges (units hb.offset) h.faces.α.size, x_total hb.offset wide hs.width places, edges_total (quarters_exact hb.offset) wide);
        y = ap (λ (p : AxisPlacement). p.position ⊕ container.area.offset.y) downward;
        padding = h.padding;
        border = h.border;
        margin_left = equal (start_is_end length_bound static_bound fit_bound (lit< tt) box.horizontal box'.horizontal h.faces size.width size'.width hs.width);
        margin_right = equal (end_is_start length_bound static_bound fit_bound (lit< tt) box.horizontal box'.horizontal h.faces size.width size'.width hs.width);
        margin_top = ap (λ (p : AxisPlacement). p.margin.start) downward;
        margin_bottom = ap (λ (p : AxisPlacement). p.margin.end) downward;
      }

  -- ---- the location from the scroll origin

  pub origin_x : (overflow : Rect Float) → Same 1 origin_bound (from_origin container (layout_of container style candidate box size overflow).location size).x
      (from_origin (image_container container) (layout_of (image_container container) (image_style style) candidate' box' size' overflow).location size').x
  unfolding from_origin layout_of image_container
  origin_x overflow = origin_same hb.offset wide hs.width places container.direction

  pub origin_y : (overflow : Rect Float) → (from_origin container (layout_of container style candidate box size overflow).location size).y
      ≡ (from_origin (image_container container) (layout_of (image_container container) (image_style style) candidate' box' size' overflow).location size').y
  unfolding from_origin image_container
  origin_y overflow = ap (λ (y : Float). y ⊖ container.area.offset.y) (layout_mirrored overflow).y
