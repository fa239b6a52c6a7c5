-- The infinities, by their words.
use mathlib.Core.Path.{◌≡◌, refl}
use mathlib.Core.Bool.{true, false}
use lib.Ieee.{inf, of_bits, binary32}

pub plus_inf : of_bits binary32 2139095040 ≡ inf false
unfolding of_bits
plus_inf = refl

pub minus_inf : of_bits binary32 4286578688 ≡ inf true
unfolding of_bits
minus_inf = refl
