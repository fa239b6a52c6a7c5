-- What the definition of this crate means, as a statement. `proofs/Laws.antt` proves it, under its name in small letters. Assumes nothing.
use Rattle.std.specs.Prelude.{◌≡◌}
use Rattle.refusal.specs.declared.Refusal.{Refusal}
use Rattle.refusal.specs.Refusal.{number_of}

-- no two refusals share a number
abbrev pub NumbersDiffer : Type 0
NumbersDiffer = (a b : Refusal) → number_of a ≡ number_of b → a ≡ b
