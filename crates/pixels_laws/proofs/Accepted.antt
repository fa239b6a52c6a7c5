-- Whole eighths of 9,999,999 at most in size are accepted. Assumes nothing.
use Rattle.std.specs.Prelude.{is_some}
use mathlib.Core.Path.{◌≡◌, ap, ◌∙◌}
use mathlib.Core.Bool.{true, false}
use Prim.Native.Nat.{ℕ, ◌*◌, ◌/◌, ◌≤◌}
use native.Mathlib.Omega.{arith}
use lib.Ieee.{Float, nan, inf, fin, up, down}
use Rattle.util.proofs.Count.{Mag, count_is}
use Rattle.pixels.specs.Accepted.{accepted}
use Rattle.util_exact.specs.Integer.{N}
use Rattle.util_exact.proofs.Integers.{Multiple}
use Rattle.util_exact.proofs.Exact.{Val, Exact}

-- z sixteenths, z being even, are z / 2 eighths
half : (x : Float) (z : ℕ) (a : N) → Val x a z → Multiple 2 a → Mag x (z / 2)
half nan z a v k = v
half (inf s) z a v k = v
half (fin false m e) z a v k =
    let even : z ≡ z / 2 * 2 = omega (arith, v.1, k.2) in
    let h : m * up e * 16 ≡ z / 2 * 2 * down e = v.0 ∙ ap (λ (x : ℕ). x * down e) even in
    omega arith
half (fin true m e) z a v k =
    let even : z ≡ z / 2 * 2 = omega (arith, v.1, k.2) in
    let h : m * up e * 16 ≡ z / 2 * 2 * down e = v.0 ∙ ap (λ (x : ℕ). x * down e) even in
    omega arith

pub exact_accepted : {b : ℕ} {x : Float} {a : N} → b ≤ 19999998 → Exact 2 b x a → accepted x ≡ true
unfolding accepted
exact_accepted {b} {x} {a} l h = ap is_some (count_is x (h.z / 2) (omega (arith, h.small)) (half x h.z a h.val h.mult))
