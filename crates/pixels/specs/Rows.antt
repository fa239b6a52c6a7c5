-- Rows worked out by hand; `proofs/Rows.antt` computes each. Floats are written by their words; `8e` is eight eighths. Assumes nothing.
use Rattle.std.specs.Prelude.{ℕ, ◌≡◌, ℤ, pos, neg_ℤ, Float, Ok, Err}
use Rattle.std.specs.Float.Ieee.{of_bits}
use Rattle.std.specs.Float.{binary32}
use Rattle.geometry.specs.declared.Point.{Point}
use Rattle.geometry.specs.declared.Rect.{Rect}
use Rattle.refusal.specs.declared.Refusal.TheVariants.{NotInEighths}
use Rattle.tree.specs.declared.layout.Layout.{Layout}
use Rattle.pixels.specs.Pixels.{pixel_of, line_of, pixel_edges}

-- "−4 gives 0 and −5 gives −1": no rounding toward zero, and no half away from zero
abbrev pub PixelRows : Type 0
PixelRows =
    (pixel_of (neg_ℤ (pos 13)) ≡ neg_ℤ (pos 2))
    × (pixel_of (neg_ℤ (pos 12)) ≡ neg_ℤ (pos 1))
    × (pixel_of (neg_ℤ (pos 5)) ≡ neg_ℤ (pos 1))
    × (pixel_of (neg_ℤ (pos 4)) ≡ pos 0)
    × (pixel_of (pos 3) ≡ pos 0)
    × (pixel_of (pos 4) ≡ pos 1)
    × (pixel_of (pos 11) ≡ pos 1)
    × (pixel_of (pos 12) ≡ pos 2)

abbrev float : ℕ → Float
float word = of_bits binary32 word

-- along one axis: location, size, the area's offset, and the two edges
abbrev Row : ℕ → ℕ → ℕ → ℤ → ℤ → Type 0
Row at size offset start end =
    line_of (float at) (float size) (float offset) ≡ record { start = start; end = end }

abbrev pub LineRows : Type 0
LineRows =
    -- 9,999,999e, 0e, less -6,777,220e: the sum, 16,777,219e, is no f32
    Row 0x4998_967F 0 0xC94E_D308 (pos 2097152) (pos 2097152)
    -- 3e to 6e has a pixel, where 3e rounded by itself has none; what begins at 6e touches it
    × Row 0x3EC0_0000 0x3EC0_0000 0 (pos 0) (pos 1)
    × Row 0x3F40_0000 0x3EC0_0000 0 (pos 1) (pos 1)
    -- 4e to 11e has none, where 7e rounded by itself has one
    × Row 0x3F00_0000 0x3F60_0000 0 (pos 1) (pos 1)
    -- a negative size, 0e to -8e
    × Row 0 0xBF80_0000 0 (pos 0) (neg_ℤ (pos 1))
    -- the far end: 9,999,999e and as wide, less -9,999,999e
    × Row 0x4998_967F 0x4998_967F 0xC998_967F (pos 2500000) (pos 3750000)
    -- and the far end below zero
    × Row 0xC998_967F 0xC998_967F 0x4998_967F (neg_ℤ (pos 2500000)) (neg_ℤ (pos 3750000))
    -- both edges are relative to the area: 9e to 17e in an area at 9e
    × Row 0x3F90_0000 0x3F80_0000 0x3F90_0000 (pos 0) (pos 1)
    -- the offset isn't rounded by itself: 3e to 11e in an area at -1e, where 0 to 1 less 0 would be 0 to 1
    × Row 0x3EC0_0000 0x3F80_0000 0xBE00_0000 (pos 1) (pos 2)
    -- 4e to 12e in an area 16e wide is its own mirror image; 1 and 2 mirrored in 2 pixels would be 0 and 1. A half goes to the right in an
    -- Arabic panel too
    × Row 0x3F00_0000 0x3F80_0000 0 (pos 1) (pos 2)

-- a layout whose x, y, width and height are given; every other float is `other`
abbrev box : ℕ → ℕ → ℕ → ℕ → ℕ → Layout
box x y width height other =
    let side : Rect Float = record { left = float other; right = float other; top = float other; bottom = float other } in
    record {
      order = 0;
      size = record { width = float width; height = float height };
      overflow = side;
      scrollbar = record { width = float other; height = float other };
      location = record { x = float x; y = float y };
      padding = side;
      border = side;
      margin = side;
    }

abbrev point : ℕ → ℕ → Point Float
point x y = record { x = float x; y = float y }

abbrev pub EdgeRows : Type 0
EdgeRows =
    -- all four differ: x 8e, y 24e, 32e wide, 80e high, the area at 0e and 8e
    (pixel_edges (box 0x3F80_0000 0x4040_0000 0x4080_0000 0x4120_0000 0) (point 0 0x3F80_0000) ≡ Ok (record { left = pos 1; right = pos 5; top = pos 2; bottom = pos 12 }))
    -- numbers below zero and at the limit: x -13e, 9,999,999e wide, the area at 3e; y 24e, -16e high, the area at -9,999,999e
    × (pixel_edges (box 0xBFD0_0000 0x4040_0000 0x4998_967F 0xC000_0000 0) (point 0x3EC0_0000 0xC998_967F) ≡ Ok (record { left = neg_ℤ (pos 2); right = pos 1249998; top = pos 1250003; bottom = pos 1250001 }))
    -- what isn't read may be NaN
    × (pixel_edges (box 0x3F80_0000 0 0x3F80_0000 0x3F80_0000 0x7FC0_0000) (point 0 0) ≡ Ok (record { left = pos 1; right = pos 2; top = pos 0; bottom = pos 1 }))
    -- -0 is 0
    × (pixel_edges (box 0x8000_0000 0 0x3F80_0000 0x3F80_0000 0) (point 0x8000_0000 0) ≡ Ok (record { left = pos 0; right = pos 1; top = pos 0; bottom = pos 1 }))
    -- each of the six is tested: the least denormal, 10,000,000e, half an eighth, an infinity, a NaN
    × (pixel_edges (box 1 0 0x3F80_0000 0x3F80_0000 0) (point 0 0) ≡ Err NotInEighths)
    × (pixel_edges (box 0 0x4998_9680 0x3F80_0000 0x3F80_0000 0) (point 0 0) ≡ Err NotInEighths)
    × (pixel_edges (box 0 0 0x3D80_0000 0x3F80_0000 0) (point 0 0) ≡ Err NotInEighths)
    × (pixel_edges (box 0 0 0x3F80_0000 0x7F80_0000 0) (point 0 0) ≡ Err NotInEighths)
    × (pixel_edges (box 0 0 0x3F80_0000 0x3F80_0000 0) (point 0x7FC0_0000 0) ≡ Err NotInEighths)
    × (pixel_edges (box 0 0 0x3F80_0000 0x3F80_0000 0) (point 0 0x7FC0_0000) ≡ Err NotInEighths)
