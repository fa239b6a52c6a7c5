use Rattle.style_record.proofs.Walk.{From, Tags}
use Rattle.style_record.specs.Check.{checked_from}
use Rattle.style_record.specs.Record.{after_lengths, style_words, tag_word, items}
use Rattle.std.specs.Prelude.{Ok}
use mathlib.Core.Path.{◌≡◌}
use Prim.Native.Nat.{◌-◌}
use Rattle.style_record.proofs.check.check_styles.Given as goal

-- the three walks over tags, and the one over codes
abbrev pub invariant-loop-word : goal.invariant-loop-word
invariant-loop-word l = (l.found ≡ Ok tt) × Tags (tag_word 0) (tag_word 8) l.styles l.item l.word

abbrev pub decreases-loop-word : goal.decreases-loop-word
decreases-loop-word l = style_words - l.word

abbrev pub invariant-loop-word-2 : goal.invariant-loop-word-2
invariant-loop-word-2 l = (l.found ≡ Ok tt) × Tags (tag_word 8) (tag_word 16) l.styles l.item l.word

abbrev pub decreases-loop-word-2 : goal.decreases-loop-word-2
decreases-loop-word-2 l = style_words - l.word

abbrev pub invariant-loop-word-3 : goal.invariant-loop-word-3
invariant-loop-word-3 l = (l.found ≡ Ok tt) × Tags (tag_word 16) after_lengths l.styles l.item l.word

abbrev pub decreases-loop-word-3 : goal.decreases-loop-word-3
decreases-loop-word-3 l = style_words - l.word

abbrev pub invariant-loop-word-4 : goal.invariant-loop-word-4
invariant-loop-word-4 l = (l.found ≡ Ok tt) × From l.styles l.item l.word

abbrev pub invariant-items : goal.invariant-items
invariant-items l = (l.found ≡ Ok tt) × (checked_from l.styles (items l.styles) 0 ≡ checked_from l.styles (items l.styles - l.item) l.item)
