-- Two previews, computed: what `OfPreviewImages` supposes can be met. The table's own style is not of whole quarter pixels, and demand 3 is false of it
-- (`quarter_lengths_needed` of mirror_run/proofs/Examples.antt); with another style in its place the preview and its image are measured, laid out and
-- finished. Assumes nothing.
use Prim.Native.Nat.{ℕ, ◌<◌}
use mathlib.Core.Path.{◌≡◌, refl}
use mathlib.Core.List.{List, [], ◌∷◌}
use lib.ListN.{length, replicate}
use lib.Dec.{lit<}
use lib.Ieee.{add, sub, mul, div, neg, lt, le, eq, is_nan, sum, round, units, odd, size, span, climb, of_bits, to_bits, of_fields, nan_bits}
use Rattle.util.specs.Order as util-order
use Rattle.util.specs.Maybe as util-maybe
use Rattle.geometry.specs.Geometry as geometry-geometry
use Rattle.style.specs.Resolve as style-resolve
use Rattle.style.specs.Values as style-values
use Rattle.style.specs.Codes as style-codes
use Rattle.style_record.specs.Record as style-record-record
use Rattle.style_record.specs.Check as style-record-check
use Rattle.style_record.specs.Decode as style-record-decode
use Rattle.records.specs.Records as records-records
use Rattle.tree.specs.Codes as tree-codes
use Rattle.tree.specs.Static as tree-static
use Rattle.tree_record.specs.Candidate as tree-record-candidate
use Rattle.tree_record.specs.Layout as tree-record-layout
use Rattle.sweep.specs.Sweep as sweep-sweep
use Rattle.oof_axis.specs.Axis as oof-axis-axis
use Rattle.oof_common.specs.SizingKeyword as common-sizingkeyword
use Rattle.oof_common.specs.ScrollableOverflow as common-scrollableoverflow
use Rattle.oof_resolve.specs.Resolved as oof-resolve-resolved
use Rattle.oof_place.specs.Placing as oof-place-placing
use Rattle.oof_box.specs.Box as oof-box-box
use Rattle.oof_box.specs.Cut as oof-box-cut
use Rattle.run.specs.Refusals as run-refusals
use Rattle.run.specs.Run as run-run
use Rattle.mirror_box.specs.Image as mirror-box-image
use Rattle.run.specs.Theorems as theorems
use Rattle.util.proofs.Floats.{no}
use Rattle.style_record.specs.Record.{style_words, items}
use Rattle.style_record.specs.Table.{with_style}
use Rattle.tree_record.specs.Candidate.{candidate_width}
use Rattle.tree_record.specs.Layout.{layout_width}
use Rattle.sweep.specs.Sweep.{candidates_in, claimed}
use Rattle.oof_box.specs.declared.question.Reply.{Reply}
use Rattle.oof_box.specs.declared.question.Reply.TheVariants.{Width}
use Rattle.run.specs.declared.Answer.{Answer}
use Rattle.run.specs.declared.State.{State}
use Rattle.run.specs.Call.{Lent, Outcome}
use Rattle.run.specs.Refusals.{lent_by}
use Rattle.run.specs.Preview.{over_copy, preview_opened, preview_replied}
use Rattle.run.specs.Preview as run-preview
use Rattle.run.specs.Theorems.{own}
use Rattle.refusal.specs.declared.Refusal.{Refusal}
use Rattle.std.specs.Prelude.{Result}
use Rattle.util_exact.specs.Value.{Quarter}
use Rattle.mirror_run.specs.Image.{image_opening, image_styles, image_candidates, other_direction, other_edge, counterpart, image_style, reflected_word, image_candidate, listed, each_record}
use Rattle.mirror_run.specs.Quarter.{QuarterArea, QuarterTable, QuarterCandidates, QuarterReply}
use Rattle.mirror_run.specs.Runs.{Message, Fair}
use Rattle.mirror_run.proofs.Decided.{quarter_decided, table_decided, candidates_decided}
use Rattle.mirror_run.proofs.Screens.{word, turn, nothing, content, tenths, at_start, small, number}
use Rattle.demands.specs.Entries.{TakesBy, BothBy, BothPreviews, AfterEach, own_slices}
use Rattle.demands.specs.Demands.{AreMirrored}
use Rattle.demands.proofs.PreviewImages.{preview_mirror_image}

-- ---- the screen, and two replies: measured as 0.25 wide, and laid out

abbrev lent_with : List ℕ → ℕ → Lent
lent_with styles filler =
    record {
      styles = styles;
      layouts = replicate layout_width filler;
      working = replicate candidate_width filler;
      unclaimed = replicate candidate_width filler;
      tally = filler ∷ [];
    }

abbrev live : Lent
live = lent_with tenths 0

abbrev live' : Lent
live' = lent_with (image_styles tenths) 7

abbrev to_both : Reply → Message
to_both reply = record { turn = turn reply [] own; image = turn reply [] own }

abbrev measured : Reply
measured = Width (word 1048576000)

-- ---- the calls

abbrev start : Outcome
start = preview_opened small at_start 0 content live

abbrev start' : Outcome
start' = preview_opened (image_opening small) (image_candidates small.area at_start) 0 (image_styles content) live'

abbrev next : Outcome → Reply → Outcome
next before reply = preview_replied before.step.state reply [] 0 content (own_slices tenths before)

abbrev next' : Outcome → Reply → Outcome
next' before reply = preview_replied before.step.state reply [] 0 (image_styles content) (own_slices (image_styles tenths) before)

abbrev finish : Outcome
finish = next (next start measured) nothing

abbrev finish' : Outcome
finish' = next' (next' start' measured) nothing

own_fair : (before : State) (answer : Result Answer Refusal) (reply : Reply) → QuarterReply reply → claimed before.opened.claims (candidates_in (lent_by reply [])) ≡ [] → Fair before answer (to_both reply)
own_fair before answer reply quarters unclaimed =
    record {
      alike = record { reply = refl; surfaced = refl; slices = refl };
      words = λ e. record { slices = refl; image_slices = refl; surfaced = refl };
      tally = λ t. t.above;
      quarters = λ e. quarters;
      surfaces_none = λ e. unclaimed;
    }

nought : Quarter (word 0)
unfolding of_bits
nought = quarter_decided (word 0) refl

both : BothPreviews 0 content small at_start live live' (to_both measured ∷ to_both nothing ∷ []) finish finish'
unfolding of_bits sweep-sweep.first_candidates candidates_in sweep-sweep.keep records-records.records
both =
    BothBy.reply (to_both nothing)
    (BothBy.reply (to_both measured) (BothBy.opening refl refl) (TakesBy.lent_own refl) (TakesBy.lent_own refl)
    (own_fair start.step.state (next start measured).step.answer measured (quarter_decided (word 1048576000) refl) refl))
    (TakesBy.lent_own refl)
    (TakesBy.lent_own refl)
    (own_fair (next start measured).step.state finish.step.answer nothing (nought, nought, nought, nought) refl)

-- ---- what is supposed is met, so both are mirrored

is_one : length content ≡ style_words
is_one = refl

has_one : 0 < items tenths
unfolding items
has_one = lit< tt

quarter_area : QuarterArea small.area
unfolding of_bits eq
quarter_area =
    record {
      quarters = record { width = quarter_decided (word 1048576000) refl; height = quarter_decided (word 1048576000) refl; x = nought; y = nought };
      not_zero = λ e. no e refl;
    }

quarter_copy : QuarterTable (with_style tenths 0 content)
unfolding of_bits records-records.every records-records.written style-record-record.items style-record-decode.length_at
quarter_copy = table_decided (with_style tenths 0 content) refl

quarter_places : QuarterCandidates at_start
unfolding of_bits records-records.every records-records.record_at tree-record-candidate.candidate_of tree-record-candidate.axis_of
quarter_places = candidates_decided at_start refl

same_lengths : run-run.extents_of live ≡ run-run.extents_of live'
unfolding listed each_record
same_lengths = refl

mirrored : AfterEach (AreMirrored small at_start (over_copy 0 content live) (over_copy 0 (image_styles content) live')) both
mirrored = preview_mirror_image 0 content small at_start live live' _ _ _ is_one has_one quarter_area quarter_copy quarter_places refl same_lengths both

-- ---- and both are accepted: they finish with two questions answered

pub record Finished : Type 0 where
  pub told : number finish.step.answer ≡ 12
  pub image_told : number finish'.step.answer ≡ 12

pub finished : Finished
unfolding add sub mul div neg lt le eq is_nan sum round units odd size span climb of_bits to_bits of_fields nan_bits util-order.zero_of util-order.before util-order.larger util-order.smaller util-order.magnitude util-maybe.map_add util-maybe.map_larger util-maybe.at_most util-maybe.at_least util-maybe.clamped util-maybe.map_clamped geometry-geometry.rect_or_zero geometry-geometry.sum_x geometry-geometry.sum_y geometry-geometry.sums geometry-geometry.rect_sum geometry-geometry.union_of geometry-geometry.smaller_size geometry-geometry.definite geometry-geometry.both_present geometry-geometry.first_size geometry-geometry.filled_size geometry-geometry.added_size geometry-geometry.raised_size geometry-geometry.clamped_size geometry-geometry.clamped_floats geometry-geometry.completed geometry-geometry.with_ratio style-resolve.by_tag style-resolve.resolved style-resolve.takes style-resolve.maybe_resolved style-resolve.resolved_rect style-resolve.resolved_size style-values.self_relative style-values.clamped_space style-values.clamped_spaces style-values.definite_spaces style-codes.sizing_code style-codes.overflow_code style-codes.direction_code style-codes.safety_code style-codes.keyword_code style-codes.bits_code style-codes.sizing_of style-codes.overflow_of style-codes.direction_of style-codes.safety_of style-codes.keyword_of style-codes.alignment_of style-codes.contain_of style-record-record.length_field style-record-record.length_kinds style-record-record.code_kinds style-record-record.kind_of style-record-record.items style-record-check.safety_breaks style-record-check.breaks_as style-record-check.breaks_rule style-record-check.breaks style-record-check.first_from style-record-check.first_broken style-record-check.or_rest style-record-check.checked_from style-record-check.checked style-record-decode.length_at style-record-decode.rect_at style-record-decode.size_at style-record-decode.align_at style-record-decode.ratio_at style-record-decode.overflow_at style-record-decode.style_of style-record-decode.style_at records-records.record_at records-records.records records-records.room records-records.written records-records.wrong records-records.every records-records.breaks records-records.good records-records.good_records tree-static.shifted_axis tree-static.translated style-codes.position_code style-codes.position_of tree-codes.edge_code tree-codes.edge_of tree-record-candidate.axis_of tree-record-candidate.candidate_of tree-record-candidate.candidate_words tree-record-layout.rect_of tree-record-layout.layout_of tree-record-layout.layout_words sweep-sweep.first_candidates sweep-sweep.candidates_in sweep-sweep.moved sweep-sweep.side sweep-sweep.keep sweep-sweep.list_words oof-axis-axis.from_resolved oof-axis-axis.align_in oof-axis-axis.centered_block oof-axis-axis.static_block oof-axis-axis.inset_block oof-axis-axis.start_is_weaker oof-axis-axis.repaired oof-axis-axis.block oof-axis-axis.both_insets oof-axis-axis.stretch_fit oof-axis-axis.stretching oof-axis-axis.stretches oof-axis-axis.is_stretch oof-axis-axis.halves oof-axis-axis.filled_margins oof-axis-axis.margins oof-axis-axis.is_normal oof-axis-axis.align_edge oof-axis-axis.limit oof-axis-axis.kept_within oof-axis-axis.self_aligned oof-axis-axis.static_aligned oof-axis-axis.position_in oof-axis-axis.position oof-axis-axis.placement common-sizingkeyword.by_keyword common-sizingkeyword.of_resolved common-sizingkeyword.keyword_of common-sizingkeyword.absolute_stretch common-sizingkeyword.if_absent common-sizingkeyword.keywords_of common-scrollableoverflow.propagates common-scrollableoverflow.reach common-scrollableoverflow.placed_at common-scrollableoverflow.contribution oof-resolve-resolved.of_width oof-resolve-resolved.of_each_axis oof-resolve-resolved.less_offset oof-resolve-resolved.horizontal oof-resolve-resolved.vertical oof-resolve-resolved.padding_or_border oof-resolve-resolved.style_size oof-resolve-resolved.min_size oof-resolve-resolved.less_margins oof-resolve-resolved.space_for oof-resolve-resolved.resolved_box oof-place-placing.scrollbar_of oof-place-placing.layout_of oof-place-placing.from_origin oof-place-placing.box_layout oof-box-box.keyword_stretch oof-box-box.size_keywords oof-box-box.settled oof-box-box.ignores_ratio oof-box-box.stretch_ratio oof-box-box.widened oof-box-box.heightened oof-box-box.raised_min oof-box-box.stretched oof-box-box.final_size oof-box-cut.taken oof-box-cut.known_by oof-box-cut.stretched_by oof-box-cut.size_by oof-box-cut.keyword_asked oof-box-cut.size_asked oof-box-cut.asked_of oof-box-cut.asked_after oof-box-cut.layout_after run-refusals.◌when◌else◌ run-refusals.bad_area run-refusals.bad_table run-refusals.bad_list run-refusals.bad_slices run-refusals.other_lengths run-refusals.bad_style run-refusals.bad_candidate run-refusals.list_full run-refusals.wrong_counts run-run.box_at_hand run-run.asking run-run.finishing run-run.proceeding run-run.opening_verdict run-run.closed run-run.begun run-run.opened run-run.taken_by run-run.reply_verdict run-run.charged run-run.measured_on run-run.laid_out run-run.replied mirror-box-image.edge_sum other_direction other_edge counterpart image_style reflected_word image_candidate listed each_record theorems.next run-preview.opening_before_copy run-preview.preview_opened run-preview.reply_before_copy run-preview.preview_replied
finished = record { told = refl; image_told = refl }
