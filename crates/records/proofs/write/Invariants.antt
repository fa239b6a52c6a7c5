use Rattle.std.proofs.Common.{◌≡◌, take}
use Rattle.records.specs.Records.{written}
use Rattle.records.proofs.write.Given as goal

abbrev pub invariant-loop-k : goal.invariant-loop-k
invariant-loop-k l = l.list ≡ written l.initial.list l.at (take l.k l.words)
