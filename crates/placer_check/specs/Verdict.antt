-- A call's verdict, by the tests before that of room. Assumes nothing.
use Rattle.std.specs.Prelude.{Bool, Ok, Err}
use Rattle.refusal.specs.declared.Refusal.TheVariants.{ListFull}
use Rattle.run.specs.Refusals.{Verdict, accepted, refused, ◌when◌else◌}

-- what those tests found, then refusal 5 under its condition
abbrev pub then_room : Verdict → Bool → Verdict
then_room (Err r) full = refused r
then_room (Ok tt) full = ListFull when full else accepted
