-- What `oof_pixels` leaves, of a layout's words. Assumes nothing.
use Rattle.std.specs.Prelude.{ℕ, List, ℤ, Float}
use Rattle.geometry.specs.declared.Point.{Point}
use Rattle.tree_record.specs.Layout.{layout_of}
use Rattle.pixels.specs.Pixels.{pixel_edges}
use Rattle.pixels.specs.Told.{PixelsReturned, edges_told}

-- of a layout's 23 words and the area's offset
unfoldable pub pixels_in_words : List ℕ → Point Float → List ℤ → PixelsReturned
pixels_in_words layout offset before = edges_told (pixel_edges (layout_of layout) offset) before

-- what the entry returns, and the four integers
abbrev pub pixels_returned : ℕ → List ℤ → PixelsReturned
pixels_returned result edges = record { result = result; edges = edges }
