-- The check looks for no theorem in a function without a body: each is named here.
use Rattle.demands.proofs.Demands.{three_questions_each, openings_go_by_the_check, replies_go_by_the_check, equals_straight_run, laid_out_as_asked, mirror_image, mirrored_reach, mirrored_drawing, layers_are_kept, finished_is_drawn, placement_reads_no_layer, finished_is_touched, runs_are_seen_alike, quarters_have_edges, quarters_are_answered, quarters_are_touched, counts_add_up}
use Rattle.demands.proofs.Previews.{preview_is_a_run, preview_equals_straight_run, preview_laid_out_as_asked, preview_is_asked_by_the_table}
use Rattle.demands.proofs.PreviewImages.{preview_mirror_image, preview_mirrored_reach, preview_mirrored_drawing}
use Rattle.run.proofs.EachQuestion.{stage_tells_kind, item_is_named}
use Rattle.run.proofs.Told.{named_item_counts}
use Rattle.boxlist_print.proofs.Listed.{run_is_listed, only_nine_in_rows}
use Rattle.demands.proofs.demanded.Goals as goal

pub returns : goal.returns
returns c =
    record {
      three_questions_each = three_questions_each;
      stage_tells_kind = stage_tells_kind;
      item_is_named = item_is_named;
      named_item_counts = named_item_counts;
      counts_add_up = counts_add_up;
      openings_go_by_the_check = openings_go_by_the_check;
      replies_go_by_the_check = replies_go_by_the_check;
      equals_straight_run = equals_straight_run;
      laid_out_as_asked = laid_out_as_asked;
      mirror_image = mirror_image;
      mirrored_reach = mirrored_reach;
      mirrored_drawing = mirrored_drawing;
      layers_are_kept = layers_are_kept;
      finished_is_drawn = finished_is_drawn;
      placement_reads_no_layer = placement_reads_no_layer;
      finished_is_touched = finished_is_touched;
      runs_are_seen_alike = runs_are_seen_alike;
      preview_is_a_run = preview_is_a_run;
      preview_equals_straight_run = preview_equals_straight_run;
      preview_laid_out_as_asked = preview_laid_out_as_asked;
      preview_mirror_image = preview_mirror_image;
      preview_mirrored_reach = preview_mirrored_reach;
      preview_mirrored_drawing = preview_mirrored_drawing;
      preview_is_asked_by_the_table = preview_is_asked_by_the_table;
      quarters_have_edges = quarters_have_edges;
      quarters_are_answered = quarters_are_answered;
      quarters_are_touched = quarters_are_touched;
      run_is_listed = run_is_listed;
      only_nine_in_rows = only_nine_in_rows;
    }
