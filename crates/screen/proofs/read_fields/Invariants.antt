use Rattle.std.proofs.Common.{◌≡◌, ℕ, ◌+◌, ◌*◌, ◌<◌, length, get_or, take, drop, unwrap_or}
use Rattle.screen_fields.specs.declared.format.Kind.TheVariants.{Code}
use Rattle.screen_fields.specs.Format.{fields_of, COLUMNS}
use Rattle.screen_fields.specs.Field.{word_of}
use Rattle.screen.proofs.read_fields.Given as goal

abbrev pub invariant-loop-j : goal.invariant-loop-j
invariant-loop-j l =
    (length l.out ≡ length l.initial.out)
    × ((k : ℕ) → k < l.j → get_or l.out k 0 ≡ unwrap_or (word_of (get_or (fields_of l.line) (l.first + k) Code) (take COLUMNS (drop (COLUMNS * (l.first + k)) l.text))) 0)
