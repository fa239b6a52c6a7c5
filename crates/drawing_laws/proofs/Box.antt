-- A box is placed the same on every layer. Assumes nothing.
use mathlib.Core.Path.{refl}
use Rattle.oof_resolve.specs.Resolved.{horizontal, vertical, resolved_box}
use Rattle.oof_place.specs.Placing.{layout_of, box_layout}
use Rattle.oof_box.specs.Box.{placed}
use Rattle.oof_box.specs.Cut.{asked_after, layout_after}
use Rattle.drawing_laws.specs.Laws.{BoxReadsNoLayer, CutReadsNoLayer}

pub box_reads_no_layer : BoxReadsNoLayer
unfolding placed resolved_box horizontal vertical box_layout layout_of
box_reads_no_layer container style c v = refl

pub cut_reads_no_layer : CutReadsNoLayer
unfolding asked_after layout_after resolved_box horizontal vertical box_layout layout_of
cut_reads_no_layer container style c v replies = (refl, λ overflow. refl)
