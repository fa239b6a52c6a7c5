-- Whether a program ended by a read that failed. Assumes nothing.
use Rattle.screen_program.specs.declared.Failure.{Failure}
use Rattle.screen_program.specs.declared.Failure.TheVariants.{NotRead, NotWritten}

abbrev pub IsNotRead : Failure → Type 0
IsNotRead (NotRead e) = Unit {0}
IsNotRead (NotWritten e) = ⊥
