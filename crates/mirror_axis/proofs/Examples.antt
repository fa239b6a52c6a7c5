-- The law on axes that are computed: its hypotheses can be met, and those on the width and on the room are needed. Assumes nothing.
use Rattle.std.specs.Prelude.{Float, None, Option, Some}
use mathlib.Core.Path.{◌≡◌, refl, subst}
use mathlib.Core.List.{List, [], ◌∷◌}
use mathlib.Core.Bool.{Bool, true, false, false≢true}
use Prim.Native.Nat.{ℕ, ◌≤◌}
use lib.IntN.{pos, negsuc}
use lib.Dec.{lit≤}
use lib.Ieee.{Float, fin, add, sub, mul, div, neg, lt, le, eq, is_nan, sum, round, units, odd, size, span, climb, of_bits, of_int, binary32}
use lib.Ieee.Exact.{HasValue}
use Rattle.util.specs.Number.{0f}
use Rattle.util.specs.Order.{zero_of, before, larger, smaller, magnitude}
use Rattle.geometry.specs.Geometry.{◌to◌}
use Rattle.geometry.specs.declared.Line.{Line}
use Rattle.style.specs.declared.alignment.AlignmentSafety.{AlignmentSafety}
use Rattle.style.specs.declared.alignment.AlignmentSafety.TheVariants.{Default, Safe}
use Rattle.tree.specs.declared.layout.AxisStaticEdge.{AxisStaticEdge}
use Rattle.tree.specs.declared.layout.AxisStaticEdge.TheVariants.{Start, Center}
use Rattle.oof_axis.specs.declared.OofAlignment.{OofAlignment}
use Rattle.oof_axis.specs.declared.OofAlignment.TheVariants as align
use Rattle.oof_axis.specs.declared.OofAxis.{OofAxis}
use Rattle.oof_axis.specs.Axis.{align_in, centered_block, static_block, inset_block, start_is_weaker, repaired, block, both_insets, stretch_fit, halves, filled_margins, margins, is_normal, align_edge, limit, kept_within, self_aligned, static_aligned, position_in, position, placement}
use Rattle.util_exact.specs.Integer.{N, zero_n}
use Rattle.util_exact.specs.Value.{AddUp, Quarters}
use Rattle.util_exact.proofs.Laws.{one_total}
use Rattle.mirror_axis.specs.Image.{image, exchanged, reflected, reflected_place, other_align, other_edge}
use Rattle.mirror_axis.specs.Law.{Mirrored}
use Rattle.mirror_axis.proofs.Law.{quarter_mirror}

-- pixels, half pixels of an odd number, a quarter
abbrev px : ℕ → Float
px n = of_int binary32 (pos n)

abbrev half : ℕ → Float
half n = fin false n (negsuc 0)

abbrev quarter : Float
quarter = fin false 1 (negsuc 1)

quarters : {n : ℕ} {x : Float} (k : ℕ) → k ≤ n → HasValue x false k 4 → Quarters n x
quarters k l v = record { sign = false; k = k; value = v; small = l }

abbrev axis_of : Float → Option Float → Option Float → Option Float → Option Float → Line Float → AxisStaticEdge → OofAlignment → AlignmentSafety → Bool → Bool → OofAxis
axis_of w s e ms me area k al safety reversed scrolls =
    record {
      size = w;
      inset = record { start = s; end = e };
      margin = record { start = ms; end = me };
      place = record { area = area; align = record { keyword = k; safety = safety; fallback = Start } };
      alignment = al;
      safety = safety;
      inline = true;
      reversed = reversed;
      scrolls = scrolls;
    }

-- insets 10, 20; auto margins (document 01's row 2)
abbrev filled : OofAxis
filled = axis_of (px 100) (Some (px 10)) (Some (px 20)) None None (0f to 0f) Start align.Normal Default false false

-- insets 60, 0; centered in a container that scrolls (row 9)
abbrev scrolling : OofAxis
scrolling = axis_of (px 100) (Some (px 60)) (Some 0f) (Some 0f) (Some 0f) (0f to 0f) Start align.Center Default false true

-- no insets, right-to-left, centered at 70, safe (row 7)
abbrev centered : OofAxis
centered = axis_of (px 100) None None None None (px 70 to px 70) Center align.Normal Safe true false

-- a box in an axis and in its image
abbrev both : OofAxis → Float → Line Float
both a size = (placement a size).position to (placement (image a) size).position

-- each pair and its size make 100. The last box is larger than its block, of 60
examples : both filled (px 100) ∷ both scrolling (px 101) ∷ both centered (px 30) ∷ both centered (px 80) ∷ []
    ≡ (px 10 to neg (px 10)) ∷ (half 59 to neg (half 61)) ∷ (px 55 to px 15) ∷ (px 20 to 0f) ∷ []
unfolding add sub mul div neg lt le eq is_nan of_bits of_int zero_of before larger smaller magnitude align_in centered_block static_block inset_block start_is_weaker repaired block both_insets stretch_fit halves filled_margins margins is_normal align_edge limit kept_within self_aligned static_aligned position_in position placement image exchanged reflected reflected_place other_align other_edge
examples = refl

-- the hypotheses can be met
met : Mirrored scrolling (image scrolling) (px 101) (px 101)
unfolding of_bits of_int eq
met =
    quarter_mirror scrolling (px 101) (px 101)
    (record {
      size = quarters 400 (lit≤ tt) (refl, refl);
      inset_start = quarters 240 (lit≤ tt) (refl, refl);
      inset_end = quarters 0 (lit≤ tt) (refl, refl);
      margin_start = quarters 0 (lit≤ tt) (refl, refl);
      margin_end = quarters 0 (lit≤ tt) (refl, refl);
      area_start = quarters 0 (lit≤ tt) (refl, refl);
      area_end = quarters 0 (lit≤ tt) (refl, refl);
    })
    false≢true (quarters 404 (lit≤ tt) (refl, refl)) (quarters 404 (lit≤ tt) (refl, refl)) refl

-- ---- the width

-- an area of width 0, no insets, centered at a quarter pixel: both axes take the start branch, and the spaces are 0.5 and 0
abbrev narrow : OofAxis
narrow = axis_of 0f None None None None (quarter to quarter) Center align.Normal Default false false

spaces : stretch_fit narrow ∷ stretch_fit (image narrow) ∷ [] ≡ half 1 ∷ 0f ∷ []
unfolding add sub mul div neg lt le eq is_nan of_bits of_int zero_of before larger smaller magnitude align_in centered_block static_block inset_block start_is_weaker repaired block both_insets stretch_fit halves filled_margins margins is_normal align_edge limit kept_within self_aligned static_aligned position_in position placement image exchanged reflected reflected_place other_align other_edge
spaces = refl

not_mirrored : (size size' : Float) → Mirrored narrow (image narrow) size size' → ⊥
unfolding add sub mul div neg lt le eq is_nan of_bits of_int zero_of before larger smaller magnitude align_in centered_block static_block inset_block start_is_weaker repaired block both_insets stretch_fit halves filled_margins margins is_normal align_edge limit kept_within self_aligned static_aligned position_in position placement image exchanged reflected reflected_place other_align other_edge
not_mirrored size size' h = false≢true h.stretch_fit

-- ---- the room

-- a static area at 2 ^ 24 pixels, in an area a quarter pixel wide: what is reflected rounds, and the quarter is lost
abbrev high : Float
high = fin false 1 (pos 24)

abbrev far : OofAxis
far = axis_of quarter None None None None (high to high) Start align.Normal Default false false

ends : (block far).start ∷ (block (image far)).end ∷ [] ≡ high ∷ neg high ∷ []
unfolding add sub mul div neg lt le eq is_nan sum round units odd size span climb of_bits of_int zero_of before larger smaller magnitude align_in centered_block static_block inset_block start_is_weaker repaired block both_insets stretch_fit halves filled_margins margins is_normal align_edge limit kept_within self_aligned static_aligned position_in position placement image exchanged reflected reflected_place other_align other_edge
ends = refl

-- they add up to 0, not to the width
cancel : AddUp (high ∷ neg high ∷ []) 0f
unfolding neg of_bits
cancel =
    let up : N = record { p = 268435456; n = 0 } in
    let down : N = record { p = 0; n = 268435456 } in
    (zero_n, (up, down, (false, 268435456, (refl, refl), refl), (down, zero_n, (true, 268435456, (refl, refl), refl), refl, refl), refl), (false, 0, (refl, refl), refl))

room_is_needed : (size size' : Float) → Mirrored far (image far) size size' → ⊥
unfolding eq of_bits
room_is_needed size size' h = false≢true (one_total (high ∷ neg high ∷ []) quarter 0f (subst (λ (xs : List Float). AddUp xs quarter) ends h.block_start) cancel)
