-- Edges as words, and read back. Assumes nothing.
use native.Mathlib.Omega.{arith}
use mathlib.Core.Logic.{inl, inr}
use mathlib.Core.Path.{◌≡◌, ap, ◌∙◌}
use lib.IntN.{ℤ, pos, negsuc}
use Rattle.std.specs.Prelude.{FitsSigned}
use Rattle.std.specs.Int.{cast_unsigned, cast_signed, w32}
use Rattle.std.proofs.lemmas.Int.{ints, to_z-of_z}
use Rattle.pixels.specs.Laws.{Small}
use Rattle.touch.specs.Laws.{IsTwosComplement, TwosComplement, SignedBack}

is_word : (z : ℤ) → FitsSigned w32 z → IsTwosComplement (cast_unsigned w32 z) z
is_word (pos n) f = (f, omega (arith, ints), inl (omega (arith, ints)))
is_word (negsuc n) f = (f, omega (arith, ints), inr (omega (arith, ints)))

pub twos_complement : TwosComplement
twos_complement w z f = (λ e. rw e (is_word z f), back z)
  where
    back : (z : ℤ) → IsTwosComplement w z → w ≡ cast_unsigned w32 z
    back (pos n) (f, l, inl e) = omega (arith, ints)
    back (pos n) (f, l, inr e) = omega (arith, ints)
    back (negsuc n) (f, l, inl e) = omega (arith, ints)
    back (negsuc n) (f, l, inr e) = omega (arith, ints)

pub signed_back : SignedBack
signed_back w z i = ap (cast_signed w32) ((twos_complement w z i.0).1 i) ∙ to_z-of_z w32 z i.0

-- an edge is in the range of an i32
pub edge_word : (z : ℤ) → Small z → IsTwosComplement (cast_unsigned w32 z) z
edge_word z s = is_word z (omega (arith, ints, s))
