-- The laws of `specs/Laws.antt` on the floor and the pixel. Assumes nothing.
use Rattle.std.proofs.Common.{◌/◌, arith, pos, negsuc, ◌+ℤ◌, ◌*ℤ◌}
use Rattle.std.proofs.lemmas.Int.{ints}
use native.Mathlib.Nat.{div-add-mod, mod-lt, mul-suc}
use lib.Dec.{lit<}
use Rattle.pixels.specs.Pixels.{pixel_of}
use Rattle.pixels.specs.Laws.{FloorIs, PixelMeans, PixelIsUnique, OrderIsKept, WholePixelsMove}

pub floor_is : FloorIs
floor_is (pos n) d h = let e = div-add-mod n d in let l = mod-lt n h in (omega (arith, ints), omega (arith, ints))
floor_is (negsuc n) d h =
    let e = div-add-mod n d in let l = mod-lt n h in let s = mul-suc d (n / d) in (omega (arith, ints), omega (arith, ints))

-- ---- a pixel

pub pixel_means : PixelMeans
unfolding pixel_of
pixel_means n = floor_is (n +ℤ pos 4) 8 (lit< tt)

pub pixel_is_unique : PixelIsUnique
pixel_is_unique n p h k = let b = pixel_means n in omega (arith, ints)

pub order_is_kept : OrderIsKept
order_is_kept n m h = let a = pixel_means n in let b = pixel_means m in omega (arith, ints)

pub whole_pixels_move : WholePixelsMove
whole_pixels_move n k = let a = pixel_means n in let b = pixel_means (n +ℤ pos 8 *ℤ k) in omega (arith, ints)
