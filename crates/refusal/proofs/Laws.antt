-- The law of `specs/Laws.antt`. Assumes nothing.
use Prim.Native.Nat.{ℕ}
use mathlib.Core.List.{[], ◌∷◌}
use mathlib.Core.Path.{◌≡◌, refl, sym, ap, ◌∙◌}
use lib.ListN.{get_or}
use Rattle.refusal.specs.declared.Refusal.{Refusal}
use Rattle.refusal.specs.declared.Refusal.TheVariants.{BadArea, BadExtent, BadStyle, BadCandidate, ListFull, WrongReply, UnresolvedSide, BadScreenLine, NotInEighths}
use Rattle.refusal.specs.Refusal.{number_of}
use Rattle.refusal.specs.Laws.{NumbersDiffer}

-- the refusal of a number, from 1 on
abbrev by_number : ℕ → Refusal
by_number n =
    get_or
    (BadArea ∷ BadArea ∷ BadExtent ∷ BadStyle ∷ BadCandidate ∷ ListFull ∷ WrongReply ∷ UnresolvedSide ∷ BadScreenLine ∷ NotInEighths ∷ [])
    n
    BadArea

back : (a : Refusal) → by_number (number_of a) ≡ a
back BadArea = refl
back BadExtent = refl
back BadStyle = refl
back BadCandidate = refl
back ListFull = refl
back WrongReply = refl
back UnresolvedSide = refl
back BadScreenLine = refl
back NotInEighths = refl

pub numbers_differ : NumbersDiffer
numbers_differ a b e = sym (back a) ∙ ap by_number e ∙ back b
