-- How large the numbers of a box get, in sixteenths of a pixel, where lengths are 4,096 pixels at most. An f32 holds every sixteenth up
-- to 2 ^ 24 of them, which is 256 such lengths. Assumes nothing.
use Prim.Native.Nat.{ℕ, ◌*◌}

-- a length, the area's width and offset, a reply
abbrev pub length_bound : ℕ
length_bound = 65536

-- a static area and its image, less the offset
abbrev pub static_bound : ℕ
static_bound = 3 * length_bound

-- padding plus border
abbrev pub edges_bound : ℕ
edges_bound = 4 * length_bound

-- size, min and max with padding plus border
abbrev pub size_bound : ℕ
size_bound = 5 * length_bound

-- the stretch-fit size, the stretch size of a keyword, the available space, the final size
abbrev pub fit_bound : ℕ
fit_bound = 20 * length_bound

-- the position in the area
abbrev pub place_bound : ℕ
place_bound = 48 * length_bound

-- the location from the scroll origin
abbrev pub origin_bound : ℕ
origin_bound = 71 * length_bound

-- the contribution to the overflow
abbrev pub reach_bound : ℕ
reach_bound = 91 * length_bound
