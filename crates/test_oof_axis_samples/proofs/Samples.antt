-- The definitions agree with the stored boxes, by computation: zeros are equal, and so are NaNs.
use Rattle.std.specs.Prelude.{is_some, unwrap_or}
use mathlib.Core.Path.{◌≡◌, refl}
use mathlib.Core.Bool.{true}
use lib.Ieee.{add, sub, mul, div, neg, lt, le, eq, is_nan, sum, round, units, odd, size, span, climb, of_bits, to_bits, of_fields, nan_bits}
use Rattle.util.specs.Order.{zero_of, before, larger, smaller, magnitude}
use Rattle.oof_axis.specs.Axis.{from_resolved, align_in, centered_block, static_block, inset_block, start_is_weaker, repaired, block, both_insets, halves, filled_margins, margins, is_normal, align_edge, limit, kept_within, self_aligned, static_aligned, position_in, position, placement}
use Rattle.oof_axis.specs.StaticOffset.{offset_edge, axis_offset, static_offset}
use Rattle.style.specs.Codes.{safety_of}
use Rattle.test_oof_axis_samples.specs.Sample.{word, float, maybe, flag, edge_of, keyword_from, keyword_of, static_of, axis_of, same, found, agrees, all_agree, offset_of, offset_agrees, all_offsets_agree}
use Rattle.test_oof_axis_samples.specs.Quarter.{boxes as quarter-boxes}
use Rattle.test_oof_axis_samples.specs.Typical.{boxes as typical-boxes}
use Rattle.test_oof_axis_samples.specs.Wild.{boxes as wild-boxes}
use Rattle.test_oof_axis_samples.specs.Directed.{boxes as directed-boxes}
use Rattle.test_oof_axis_samples.specs.Offsets.{offsets}

samples_agree : (all_agree quarter-boxes ≡ true) × (all_agree typical-boxes ≡ true) × (all_agree wild-boxes ≡ true) × (all_agree directed-boxes ≡ true) × (all_offsets_agree offsets ≡ true)
unfolding quarter-boxes typical-boxes wild-boxes directed-boxes offsets add sub mul div neg lt le eq is_nan sum round units odd size span climb of_bits to_bits of_fields nan_bits zero_of before larger smaller magnitude from_resolved align_in centered_block static_block inset_block start_is_weaker repaired block both_insets halves filled_margins margins is_normal align_edge limit kept_within self_aligned static_aligned position_in position placement offset_edge axis_offset static_offset word float maybe flag edge_of safety_of keyword_from keyword_of static_of axis_of same found agrees all_agree offset_of offset_agrees all_offsets_agree
samples_agree = (refl, refl, refl, refl, refl)
