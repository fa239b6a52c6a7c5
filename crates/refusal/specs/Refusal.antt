-- The numbers of the refusals (document 01's table; 9 is of request #101). Assumes nothing.
use Rattle.std.specs.Prelude.{ℕ}
use Rattle.refusal.specs.declared.Refusal.{Refusal}
use Rattle.refusal.specs.declared.Refusal.TheVariants.{BadArea, BadExtent, BadStyle, BadCandidate, ListFull, WrongReply, UnresolvedSide, BadScreenLine, NotInEighths}

abbrev pub number_of : Refusal → ℕ
number_of BadArea = 1
number_of BadExtent = 2
number_of BadStyle = 3
number_of BadCandidate = 4
number_of ListFull = 5
number_of WrongReply = 6
number_of UnresolvedSide = 7
number_of BadScreenLine = 8
number_of NotInEighths = 9
