-- Demand 3 for one box. Assumes nothing.
use mathlib.Core.Path.{◌≡◌, refl, sym}
use Rattle.style.specs.Values.{any_scroll_container}
use Rattle.style.specs.declared.Direction.{Direction}
use Rattle.style.specs.declared.Direction.TheVariants.{Ltr, Rtl}
use Rattle.oof_resolve.specs.Resolved.{horizontal, resolved_box}
use Rattle.oof_place.specs.Placing.{box_layout}
use Rattle.oof_box.specs.Cut.{asked_after, layout_after}
use Rattle.util_exact.proofs.Quarters.{units, quarters_exact}
use Rattle.mirror_axis.specs.Image.{reflected, reflected_place}
use Rattle.mirror_box.specs.Image.{other_direction, exchanged_lengths, edge_sum, image_container, image_style, image_candidate}
use Rattle.mirror_box.specs.Law.{AsksMirrored, LaysOutMirrored, UnionsMirrored, ImageIsExact, TwiceIsOnce}
use Rattle.mirror_box.proofs.Reflect.{edges, edges_total, mirrored_total}
use Rattle.mirror_box.proofs.Resolve.{resolved_shared}
use Rattle.mirror_box.proofs.Keywords.{keywords_shared}
use Rattle.mirror_box.proofs.Stretch.{size_by_lem}
use Rattle.mirror_box.proofs.Questions.{asked_of_lem}
use Rattle.mirror_box.proofs.Place.{layout_mirrored, origin_x, origin_y}
use Rattle.mirror_box.proofs.Contribution.{contribution_same}
use Rattle.mirror_box.proofs.Union as union

pub asks_mirrored : AsksMirrored
unfolding asked_after
asks_mirrored container style candidate candidate' r hb hs hc hi q =
    let box = resolved_box container style candidate in
    let box' = resolved_box (image_container container) (image_style style) candidate' in
    let h = resolved_shared container style candidate candidate' hb hs hc hi in
    asked_of_lem style hs box box' h (keywords_shared style hs box box' h) (sym hi.node) r q

pub lays_out_mirrored : LaysOutMirrored
unfolding layout_after box_layout resolved_box horizontal image_container image_style
lays_out_mirrored container style candidate candidate' r overflow hb hs hc hi q qo =
    let box = resolved_box container style candidate in
    let box' = resolved_box (image_container container) (image_style style) candidate' in
    let h = resolved_shared container style candidate candidate' hb hs hc hi in
    let size = size_by_lem style hs box box' h (keywords_shared style hs box box' h) r q in
    record {
      layout = layout_mirrored container hb style candidate candidate' hi box box' h refl _ _ size overflow;
      contribution =
          contribution_same (origin_x container hb style candidate candidate' hi box box' h refl _ _ size overflow)
          (origin_y container hb style candidate candidate' hi box box' h refl _ _ size overflow) size overflow qo style.overflow style.contain
          (any_scroll_container container.overflow);
    }

pub unions_mirrored : UnionsMirrored
unions_mirrored = union.unions_mirrored

pub image_is_exact : ImageIsExact
unfolding image_candidate edge_sum reflected reflected_place
image_is_exact container candidate hb hc =
    let total = edges_total (quarters_exact hb.offset) (quarters_exact hb.width) in
    let sum = edges (units hb.offset) (units hb.width) in
    record {
      node = refl;
      order = refl;
      position = refl;
      start = (sum, mirrored_total hb.offset hb.width hc.start, total);
      end = (sum, mirrored_total hb.offset hb.width hc.end, total);
      align = refl;
      y = refl;
      layer = refl;
    }

other_twice : (d : Direction) → other_direction (other_direction d) ≡ d
unfolding other_direction
other_twice Ltr = refl
other_twice Rtl = refl

pub twice_is_once : TwiceIsOnce
unfolding image_container image_style exchanged_lengths
twice_is_once container style = (rw other_twice, rw other_twice)
