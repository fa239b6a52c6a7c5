-- Doubles and halves of exact floats. A half is one grade finer. Assumes nothing.
use borrow.Author.Rules.{rules}
use mathlib.Core.Path.{◌≡◌, refl, ap, ◌∙◌}
use mathlib.Core.Bool.{true, false}
use Prim.Native.Nat.{ℕ, ◌+◌, ◌*◌, ◌/◌, ◌^◌, ◌≤◌, ◌<◌}
use native.Mathlib.Nat.{mul-pos}
use native.Mathlib.Omega.{arith}
use lib.IntN.{pos}
use lib.Dec.{lit<}
use lib.Ieee.{Float, nan, inf, fin, up, down, mul, div, of_bits, binary32}
use lib.Ieee.Fits.{down_pos}
use Rattle.util.specs.Number.{◌⊗◌, ◌⊘◌, 2f}
use Rattle.util_exact.specs.Integer.{N}
use Rattle.util_exact.proofs.Integers.{Multiple, dbl_n, half_n, dbl_mult, half_mult, even_of}
use Rattle.util_exact.proofs.Exact.{Val, Exact, round_val}

abbrev two : Float
two = fin false 1 (pos 1)

two_form : 2f ≡ two
unfolding of_bits
two_form = refl

dbl_val : (x : Float) (u : ℕ) (a : N) → Val x a u → 2 * u < 2 ^ 24 → Val (mul binary32 two x) (dbl_n a) (2 * u)
unfolding mul
dbl_val x u a p l = search (rules, down_pos, mul-pos, round_val)

pub dbl_exact : {g b : ℕ} {x : Float} {a : N} → Exact g b x a → 2 * b < 16777216 → Exact (2 * g) (2 * b) (2f ⊗ x) (dbl_n a)
dbl_exact h l = grind (arith, dbl_mult, dbl_val, two_form)

half_val : (x : Float) (u : ℕ) (a : N) → Val x a u → u < 2 ^ 24 → Multiple 2 a → Val (div binary32 x two) (half_n a) (u / 2)
unfolding div half_n
half_val nan u a p l k = absurd p
half_val (inf s) u a p l k = absurd p
half_val (fin false m e) u a p l k =
    let even : u ≡ u / 2 * 2 = omega (arith, p.1, k.2) in
    let h : m * up e * 16 ≡ u / 2 * 2 * down e = p.0 ∙ ap (λ (x : ℕ). x * down e) even in
    round_val false (m * up e * 1) (2 * down e) (u / 2) (half_n a) (mul-pos (lit< tt) (down_pos e)) (omega arith) (omega arith) (omega (arith, p.1, k.2))
half_val (fin true m e) u a p l k =
    let even : u ≡ u / 2 * 2 = omega (arith, p.1, k.2) in
    let h : m * up e * 16 ≡ u / 2 * 2 * down e = p.0 ∙ ap (λ (x : ℕ). x * down e) even in
    round_val true (m * up e * 1) (2 * down e) (u / 2) (half_n a) (mul-pos (lit< tt) (down_pos e)) (omega arith) (omega arith) (omega (arith, p.1, k.2))

-- of a bound b of the whole, any c of which two make b bounds the half
pub half_exact : (g : ℕ) {b : ℕ} (c : ℕ) {x : Float} {a : N} → Exact (2 * g) b x a → b ≤ c + c → b < 16777216 → Exact g c (x ⊘ 2f) (half_n a)
half_exact g {b} c {x} {a} h l l' =
    rw two_form
    (record {
      z = h.z / 2;
      val = half_val x h.z a h.val (omega (arith, h.small)) (even_of g a h.mult);
      small = omega (arith, h.small);
      mult = half_mult g a h.mult;
    })
