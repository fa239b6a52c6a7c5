-- What boxes of whole quarter pixels add to the overflow is whole eighths. Assumes nothing.
use Rattle.std.specs.Prelude.{Float}
use mathlib.Core.Bool.{Bool, ◌&&◌, ◌||◌}
use Prim.Native.Nat.{ℕ}
use lib.Dec.{lit<, lit≤}
use lib.Ieee.{Float, le}
use Rattle.util.specs.Number.{0f}
use Rattle.geometry.specs.Geometry.{zero_rect, union_of, line_x, line_y}
use Rattle.geometry.specs.declared.Line.{Line}
use Rattle.geometry.specs.declared.Rect.{Rect}
use Rattle.style.specs.Values.{is_rtl, any_scroll_container}
use Rattle.style.specs.declared.Style.{Style}
use Rattle.tree.specs.declared.layout.Layout.{Layout}
use Rattle.oof_common.specs.ScrollableOverflow.{propagates, reach, placed_at, contribution}
use Rattle.oof_resolve.specs.declared.ContainingBlock.{ContainingBlock}
use Rattle.oof_place.specs.Placing.{from_origin}
use Rattle.oof_box.specs.declared.question.Reply.TheVariants.{LaidOut}
use Rattle.util_exact.specs.Value.{Quarter}
use Rattle.util_exact.proofs.Same.{Same, itself, quarters_same, widen_same, eighths_same, zero_same, add_same, sub_same, smaller_same, larger_same}
use Rattle.mirror_box.proofs.Bounds.{length_bound, fit_bound, origin_bound, reach_bound}
use Rattle.mirror_run.specs.Quarter.{AreaInQuarters, QuarterReply}
use Rattle.pixels_laws.proofs.Sizes.{either}
use Rattle.pixels_laws.proofs.Box.{LayoutIn, adds}

-- a number of whole eighths, of b sixteenths at most
abbrev pub EighthsIn : ℕ → Float → Type 0
EighthsIn b x = Same 2 b x x

pub record RectIn (r : Rect Float) : Type 0 where
  pub left : EighthsIn reach_bound r.left
  pub right : EighthsIn reach_bound r.right
  pub top : EighthsIn reach_bound r.top
  pub bottom : EighthsIn reach_bound r.bottom

pub zero_rect_in : RectIn zero_rect
zero_rect_in = record { left = zero_same; right = zero_same; top = zero_same; bottom = zero_same }

pub union_in : (r s : Rect Float) → RectIn r → RectIn s → RectIn (union_of r s)
unfolding union_of
union_in r s h k =
    record {
      left = smaller_same h.left k.left;
      right = larger_same h.right k.right;
      top = smaller_same h.top k.top;
      bottom = larger_same h.bottom k.bottom;
    }

-- ---- one axis

record LineIn (b : ℕ) (l : Line Float) : Type 0 where
  start : EighthsIn b l.start
  end : EighthsIn b l.end

quarter_in : {x : Float} → Quarter x → EighthsIn fit_bound x
quarter_in q = widen_same (lit≤ tt) (eighths_same (quarters_same q))

reach_in : (shows : Bool) {s : Float} → EighthsIn fit_bound s → (own : Line Float) → Quarter own.start → Quarter own.end → LineIn fit_bound (reach shows s own)
unfolding reach
reach_in shows h own k l =
    either (LineIn fit_bound) shows (record { start = smaller_same zero_same (quarter_in k); end = larger_same h (quarter_in l) }) (record { start = zero_same; end = h })

line_in : {x : Float} {l : Line Float} → EighthsIn origin_bound x → LineIn fit_bound l → LineIn reach_bound (placed_at x l)
unfolding placed_at
line_in h k = record { start = add_same h k.start (lit< tt); end = add_same h k.end (lit< tt) }

-- ---- a box

module _ (container : ContainingBlock) (area : AreaInQuarters container.area) (style : Style) (l : Layout) (h : LayoutIn l) where
  offset_in_lem : {x : Float} → Quarter x → EighthsIn length_bound x
  offset_in_lem q = eighths_same (quarters_same q)

  across_in_lem : EighthsIn origin_bound (from_origin container l.location l.size).x
  unfolding from_origin
  across_in_lem =
      let x = sub_same (itself h.x.1) (offset_in_lem area.x) (lit< tt) in
      either (EighthsIn origin_bound) (is_rtl container.direction) (sub_same (sub_same (offset_in_lem area.width) x (lit< tt)) (eighths_same h.size.width) (lit< tt)) (widen_same (lit≤ tt) x)

  down_in_lem : EighthsIn origin_bound (from_origin container l.location l.size).y
  unfolding from_origin
  down_in_lem = widen_same (lit≤ tt) (sub_same (itself h.y.1) (offset_in_lem area.y) (lit< tt))

  -- how far it reaches
  abbrev reach_x : Line Float
  reach_x = reach (propagates style.overflow.x style.overflow style.contain) l.size.width (line_x l.overflow)

  abbrev reach_y : Line Float
  reach_y = reach (propagates style.overflow.y style.overflow style.contain) l.size.height (line_y l.overflow)

  -- counted from the origin
  abbrev from_x : Line Float
  from_x = placed_at (from_origin container l.location l.size).x reach_x

  abbrev from_y : Line Float
  from_y = placed_at (from_origin container l.location l.size).y reach_y

  pub adds_in : QuarterReply (LaidOut l.overflow) → RectIn (adds container style l)
  unfolding contribution
  adds_in q =
      let x = line_in across_in_lem (reach_in (propagates style.overflow.x style.overflow style.contain) (eighths_same h.size.width) (line_x l.overflow) q.0 q.1) in
      let y = line_in down_in_lem (reach_in (propagates style.overflow.y style.overflow style.contain) (eighths_same h.size.height) (line_y l.overflow) q.2 q.3) in
      either RectIn (le reach_x.end 0f || le reach_y.end 0f) zero_rect_in
      (either RectIn (any_scroll_container container.overflow && (le from_x.end 0f || le from_y.end 0f)) zero_rect_in
      (record { left = x.start; right = x.end; top = y.start; bottom = y.end }))
