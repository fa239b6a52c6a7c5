-- Sums worked out by hand (request #105), the same in every field, and limits of fit-content beside them; `proofs/Computed.antt` computes each.
-- Assumes nothing.
use Rattle.std.specs.Prelude.{◌≡◌, Float}
use Rattle.std.specs.Float.Ieee.{of_bits}
use Rattle.std.specs.Float.{binary32}
use Rattle.util.specs.Number.{0f}
use Rattle.style.specs.declared.resolve.Field.{Field}
use Rattle.style.specs.declared.resolve.Field.TheVariants as field
use Rattle.style.specs.declared.resolve.SizingKeyword.TheVariants as keyword
use Rattle.style.specs.declared.resolve.Resolved.{Resolved}
use Rattle.style.specs.declared.resolve.Resolved.TheVariants.{Length, Keyword}
use Rattle.style.specs.Resolve.{resolved}

-- what a sum comes to: basis × value + second value
abbrev pub sum_in : Field → Float → Float → Float → Resolved
sum_in f basis value second = resolved f (record { tag = 129; value = value; second = second }) basis

abbrev pub SumRows : Type 0
SumRows =
    (f : Field)
    -- half of 800 less 12: 388; half of 10 less 12: -7, since nothing raises it to 0
    → (sum_in f (of_bits binary32 0x4448_0000) (of_bits binary32 0x3F00_0000) (of_bits binary32 0xC140_0000) ≡ Length (of_bits binary32 0x43C2_0000))
    × (sum_in f (of_bits binary32 0x4120_0000) (of_bits binary32 0x3F00_0000) (of_bits binary32 0xC140_0000) ≡ Length (of_bits binary32 0xC0E0_0000))
    -- a tenth of 10 less 1: 0, for the product is rounded first, to 1. As an f32 a tenth is a little more, so that rounded once it would be
    -- 1.5 × 10⁻⁸
    × (sum_in f (of_bits binary32 0x4120_0000) (of_bits binary32 0x3DCC_CCCD) (of_bits binary32 0xBF80_0000) ≡ Length 0f)
    -- the whole of 2²⁴ and 1: the sum is rounded too, to 2²⁴
    × (sum_in f (of_bits binary32 0x4B80_0000) (of_bits binary32 0x3F80_0000) (of_bits binary32 0x3F80_0000) ≡ Length (of_bits binary32 0x4B80_0000))
    -- 0 × an infinite basis, plus 12: NaN, as the product is; not 12, and not absent. So is half of a NaN basis plus 12
    × (sum_in f (of_bits binary32 0x7F80_0000) 0f (of_bits binary32 0x4140_0000) ≡ Length (of_bits binary32 0x7FC0_0000))
    × (sum_in f (of_bits binary32 0x7FC0_0000) (of_bits binary32 0x3F00_0000) (of_bits binary32 0x4140_0000) ≡ Length (of_bits binary32 0x7FC0_0000))
    -- half of 800 and an infinite second value: infinite; half of an infinite basis less infinity: NaN
    × (sum_in f (of_bits binary32 0x4448_0000) (of_bits binary32 0x3F00_0000) (of_bits binary32 0x7F80_0000) ≡ Length (of_bits binary32 0x7F80_0000))
    × (sum_in f (of_bits binary32 0x7F80_0000) (of_bits binary32 0x3F00_0000) (of_bits binary32 0xFF80_0000) ≡ Length (of_bits binary32 0x7FC0_0000))

-- the limits of fit-content ignore the second value: with one of 7, half of 800 stays 400, and 100 stays 100
abbrev pub LimitRows : Type 0
LimitRows =
    (resolved field.Size (record { tag = 15; value = of_bits binary32 0x3F00_0000; second = of_bits binary32 0x40E0_0000 }) (of_bits binary32 0x4448_0000)
    ≡ Keyword (keyword.FitContentLimit (of_bits binary32 0x43C8_0000)))
    × (resolved field.Size (record { tag = 43; value = of_bits binary32 0x42C8_0000; second = of_bits binary32 0x40E0_0000 }) (of_bits binary32 0x4448_0000)
    ≡ Keyword (keyword.FitContentLimit (of_bits binary32 0x42C8_0000)))
