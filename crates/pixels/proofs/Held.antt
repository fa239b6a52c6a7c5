-- What `grind` is given of signed numbers that are passed and read back. Assumes nothing.
use Rattle.std.proofs.lemmas.Int.{ints, to_z-of_z}

pub ruleset held = (ints, to_z-of_z)
