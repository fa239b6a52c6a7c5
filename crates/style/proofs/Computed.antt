-- The rows of `specs/Rows.antt`, computed. Assumes nothing.
use mathlib.Core.Path.{refl}
use lib.Ieee.{add, mul, sum, round, units, odd, size, span, climb, of_bits, of_fields}
use Rattle.style.specs.Resolve.{by_tag, resolved}
use Rattle.style.specs.Rows.{SumRows, LimitRows}

pub sum_rows : SumRows
unfolding add mul sum round units odd size span climb of_bits of_fields by_tag resolved
sum_rows f = (refl, refl, refl, refl, refl, refl, refl, refl)

pub limit_rows : LimitRows
unfolding add mul sum round units odd size span climb of_bits of_fields by_tag resolved
limit_rows = (refl, refl)
