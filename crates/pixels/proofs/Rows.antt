-- The rows of `specs/Rows.antt`, computed. Assumes nothing.
use mathlib.Core.Path.{refl}
use lib.Ieee.{of_bits}
use Rattle.util.specs.Eighths.{counted, count_of}
use Rattle.pixels.specs.Accepted.{accepted, in_eighths}
use Rattle.pixels.specs.Pixels.{pixel_of, line_of, edges_of, all_accepted, pixel_edges}
use Rattle.pixels.specs.Rows.{PixelRows, LineRows, EdgeRows}

pub pixel_rows : PixelRows
unfolding pixel_of
pixel_rows = (refl, refl, refl, refl, refl, refl, refl, refl)

pub line_rows : LineRows
unfolding line_of pixel_of in_eighths count_of counted of_bits
line_rows = (refl, refl, refl, refl, refl, refl, refl, refl, refl, refl)

pub edge_rows : EdgeRows
unfolding pixel_edges all_accepted edges_of line_of pixel_of accepted in_eighths count_of counted of_bits
edge_rows = (refl, refl, refl, refl, refl, refl, refl, refl, refl, refl)
