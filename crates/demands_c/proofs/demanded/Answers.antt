-- The check looks for no theorem in a function without a body: each is named here.
use Rattle.demands_c.proofs.Demands.{three_questions_each, counts_add_up, equals_straight_run, preview_is_a_run, preview_equals_straight_run, preview_is_asked_by_the_table, quarters_have_edges, quarters_are_answered, finished_is_touched, runs_are_seen_alike, quarters_are_touched}
use Rattle.demands_c.proofs.demanded.Goals as goal

pub returns : goal.returns
returns c = record { three_questions_each = three_questions_each; counts_add_up = counts_add_up; equals_straight_run = equals_straight_run; preview_is_a_run = preview_is_a_run; preview_equals_straight_run = preview_equals_straight_run; preview_is_asked_by_the_table = preview_is_asked_by_the_table; quarters_have_edges = quarters_have_edges; quarters_are_answered = quarters_are_answered; finished_is_touched = finished_is_touched; runs_are_seen_alike = runs_are_seen_alike; quarters_are_touched = quarters_are_touched }
