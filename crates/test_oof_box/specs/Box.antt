-- The words of a recorded box. Assumes nothing.
use Rattle.std.specs.Prelude.{ℕ, ◌+◌}
use Rattle.style_record.specs.Record.{style_words}
use Rattle.tree_record.specs.Candidate.{candidate_width}
use Rattle.tree_record.specs.Layout.{layout_width}

-- style; area, finish, stages; candidate; replies; layout; questions
abbrev pub box_words : ℕ
box_words = style_words + (8 + 4 + 1) + candidate_width + (2 + 2 + 4) + layout_width + 12
