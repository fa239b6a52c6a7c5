-- Arithmetic of f32: each operation is rounded once, to nearest. Assumes nothing.
use Rattle.std.specs.Prelude.{from_bits, Float}
use Rattle.std.specs.Float.Ieee.{add, sub, mul, div}
use Rattle.std.specs.Float.{binary32}

infixl 65 ◌⊕◌ ◌⊖◌
infixl 67 ◌⊗◌ ◌⊘◌
abbrev pub ◌⊕◌ : Float → Float → Float
a ⊕ b = add binary32 a b

abbrev pub ◌⊖◌ : Float → Float → Float
a ⊖ b = sub binary32 a b

abbrev pub ◌⊗◌ : Float → Float → Float
a ⊗ b = mul binary32 a b

abbrev pub ◌⊘◌ : Float → Float → Float
a ⊘ b = div binary32 a b

abbrev pub 0f : Float
0f = from_bits binary32 0

abbrev pub 2f : Float
2f = from_bits binary32 1073741824
