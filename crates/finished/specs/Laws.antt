-- What the definitions of this crate mean, as statements. `proofs/` proves each, under its name in small letters. Assumes nothing.
use Rattle.std.specs.Prelude.{Bool, true, [], ◌↔◌, ◌≡◌}
use Rattle.refusal.specs.declared.Refusal.{Refusal}
use Rattle.refusal.specs.Refusal.{number_of}
use Rattle.run.specs.Call.{Slices}
use Rattle.run.specs.Refusals.{accepted, refused}
use Rattle.run.specs.Conditions.{FirstIs, NoneHolds}
use Rattle.run.specs.declared.State.{State}
use Rattle.finished.specs.Finished.{finished_verdict}
use Rattle.finished.specs.Conditions.{finished_tests}

-- each refusal exactly under its condition, and none exactly where none holds
abbrev pub RefusedExactly : Type 0
RefusedExactly =
    (s : State) (lent : Slices) (other : Bool) (r : Refusal)
    → (finished_verdict s lent other ≡ refused r) ↔ FirstIs (finished_tests s lent (other ≡ true) []) (number_of r)

abbrev pub AcceptedExactly : Type 0
AcceptedExactly =
    (s : State) (lent : Slices) (other : Bool) → (finished_verdict s lent other ≡ accepted) ↔ NoneHolds (finished_tests s lent (other ≡ true) [])
