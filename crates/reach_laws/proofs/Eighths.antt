-- Numbers that are equal, or add up, in eighths. Assumes nothing.
use borrow.Author.Rules.{rules}
use Prim.Native.Nat.{ℕ, ◌+◌, ◌*◌, ◌<◌, ◌≤◌}
use native.Mathlib.Omega.{arith}
use Rattle.std.proofs.lemmas.Int.{ints}
use native.Mathlib.Nat.{mul_assoc, mul_right_comm, mul-pos, eq_of_mul-eq-mul_right}
use mathlib.Core.Bool.{Bool, true, false, ◌||◌, beq, and-eq-true_iff}
use mathlib.Core.List.{[], ◌∷◌}
use mathlib.Core.Path.{◌≡◌, refl, sym, ap, ◌∙◌}
use lib.Dec.{eqb, lit≤}
use lib.IntN.{pos, ◌+ℤ◌, ◌-ℤ◌, ◌*ℤ◌}
use lib.Ieee.{Float, nan, inf, fin, up, down, eq}
use lib.Ieee.Exact.{HasValue}
use lib.Ieee.Fits.{down_pos}
use borrow.Author.Tests.{eqb-true}
use Rattle.util.proofs.Floats.{no}
use Rattle.util.proofs.Order.{level_sign}
use Rattle.tree.specs.declared.layout.OofPositioningArea.{OofPositioningArea}
use Rattle.pixels.specs.Accepted.{accepted, signed, in_eighths}
use Rattle.pixels.proofs.Numbers.{one_integer, accepted_exactly, integer_is_exact, else_zero}
use Rattle.util_exact.specs.Integer.{N}
use Rattle.util_exact.specs.Value.{◌≐◌, Signed, Sixteenths}
use Rattle.util_exact.proofs.Exact.{Exact, of_value, recast, reach, sixteenths}
use Rattle.util_exact.proofs.Laws as integers
use Rattle.mirror_box.specs.Mirrored.{MirrorSum}
use Rattle.mirror_box.proofs.Bounds.{length_bound, fit_bound, place_bound}
use Rattle.pixels_laws.proofs.Accepted.{exact_accepted}

-- ---- equal numbers

-- a / c and b / d are one number, and the first is n / 8
cancel : (a b c d n : ℕ) → 0 < c → a * d ≡ b * c → a * 8 ≡ n * c → b * 8 ≡ n * d
cancel a b c d n p h v =
    eq_of_mul-eq-mul_right c p (b * 8) (n * d)
    (mul_right_comm b 8 c ∙ ap (λ (x : ℕ). x * 8) (sym h) ∙ mul_right_comm a d 8 ∙ ap (λ (x : ℕ). x * d) v ∙ mul_right_comm n c d)

equal_value : (x y : Float) (s : Bool) (n : ℕ) → x ≐ y → HasValue x s n 8 → (t : Bool) × HasValue y t n 8 × (0 < n → s ≡ t)
unfolding eq
equal_value nan y s n h v = absurd v
equal_value (inf r) y s n h v = absurd v
equal_value (fin r k f) nan s n h v = no h refl
equal_value (fin r k f) (inf t) s n h v = no h refl
equal_value (fin r k f) (fin t m e) s n h v =
    let a = k * up f in
    let b = m * up e in
    let w : a * down e ≡ b * down f = eqb-true (a * down e) (b * down f) ((and-eq-true_iff (eqb (a * down e) (b * down f)) (beq r t || eqb (a * down e) 0)).0 h).0 in (
      t,
      (refl, cancel a b (down f) (down e) n (down_pos f) w v.1),
      λ l.
          let q = mul-pos l (down_pos f) in
          let u = v.1 in
          sym v.0 ∙ level_sign r (a * down e) t (b * down f) (mul-pos (omega arith) (down_pos e)) h,
    )

equal_back : (x y : Float) (s : Bool) (n : ℕ) → x ≐ y → HasValue y s n 8 → (t : Bool) × HasValue x t n 8
unfolding eq
equal_back x nan s n h v = absurd v
equal_back x (inf r) s n h v = absurd v
equal_back nan (fin r m e) s n h v = no h refl
equal_back (inf t) (fin r m e) s n h v = no h refl
equal_back (fin t k f) (fin r m e) s n h v =
    let a = k * up f in
    let b = m * up e in
    let w : a * down e ≡ b * down f = eqb-true (a * down e) (b * down f) ((and-eq-true_iff (eqb (a * down e) (b * down f)) (beq t r || eqb (a * down e) 0)).0 h).0 in
    (t, (refl, cancel b a (down e) (down f) n (down_pos e) (sym w) v.1))

-- equal numbers are accepted alike, and are the same integer
pub equal_alike : (x y : Float) → x ≐ y → (accepted x ≡ accepted y) × (in_eighths x ≡ in_eighths y)
equal_alike x y h = search (rules, accepted_exactly, else_zero, equal_back, equal_value, integer_is_exact, no, one_integer)

-- ---- sums

-- an accepted number's eighths are half its sixteenths
halves : (x : Float) (a : N) → accepted x ≡ true → Sixteenths x a → pos 2 *ℤ in_eighths x +ℤ pos a.n ≡ pos a.p
halves x a h k =
    let v = (accepted_exactly x).0 h in
    rw (integer_is_exact x v.0 v.1 v.2) (go x v.0 v.1 k.0 k.1 v.2.0 k.2 k.3)
  where
    twice : (m n z d : ℕ) → 0 < d → m * 8 ≡ n * d → m * 16 ≡ z * d → 2 * n ≡ z
    twice m n z d p e f = eq_of_mul-eq-mul_right d p (2 * n) z (mul_assoc 2 n d ∙ omega arith)

    by : (s : Bool) (n : ℕ) → Signed s (2 * n) a → pos 2 *ℤ signed s n +ℤ pos a.n ≡ pos a.p
    by false n e = omega (arith, ints)
    by true n e = omega (arith, ints)

    go : (x : Float) (s : Bool) (n : ℕ) (t : Bool) (z : ℕ) → HasValue x s n 8 → HasValue x t z 16 → Signed t z a → pos 2 *ℤ signed s n +ℤ pos a.n ≡ pos a.p
    go nan s n t z v w g = absurd v
    go (inf r) s n t z v w g = absurd v
    go (fin r m e) s n t z v w g = rw (sym v.0 ∙ w.0) (by t n (rw (twice (m * up e) n z (down e) (down_pos e) v.1 w.1) g))

-- how far an image's x may lie
abbrev image_bound : ℕ
image_bound = place_bound + fit_bound + 4 * length_bound

module _ (area : OofPositioningArea) (x x' w : Float) (m : MirrorSum area (x ∷ x' ∷ w ∷ [])) where
  -- the sum, in eighths
  pub sum_in_eighths : accepted x ≡ true → accepted x' ≡ true → accepted w ≡ true → accepted area.offset.x ≡ true → accepted area.size.width ≡ true
      → (in_eighths x -ℤ in_eighths area.offset.x) +ℤ (in_eighths x' -ℤ in_eighths area.offset.x) +ℤ in_eighths w ≡ in_eighths area.size.width
  sum_in_eighths hx hx' hw ho ha =
      let o = in_eighths area.offset.x in
      let l = m.1 in
      let l1 = l.3 in
      let l2 = l1.3 in
      let l3 = l2.3 in
      let r = m.2 in
      let r1 = r.3 in
      let r2 = r1.3 in
      let r3 = r2.3 in
      let e0 = l.4 in
      let e1 = l1.4 in
      let e2 = l2.4 in
      let f0 = r.4 in
      let f1 = r1.4 in
      let f2 = r2.4 in
      let a0 = halves x l.0 hx l.2 in
      let a1 = halves x' l1.0 hx' l1.2 in
      let a2 = halves w l2.0 hw l2.2 in
      let b0 = halves area.offset.x r.0 ho r.2 in
      let b1 = halves area.offset.x r1.0 ho r1.2 in
      let b2 = halves area.size.width r2.0 ha r2.2 in
      omega (arith, ints)

  -- whole eighths that aren't large make the image's x such
  pub image_accepted_lem : {a b c d : N} → Exact 2 (place_bound + length_bound) x a → Exact 2 fit_bound w b → Exact 2 length_bound area.offset.x c → Exact 2 length_bound area.size.width d → accepted x' ≡ true
  image_accepted_lem {a} {b} {c} {d} hx hw ho ha =
      let l = m.1 in
      let l1 = l.3 in
      let l2 = l1.3 in
      let l3 = l2.3 in
      let r = m.2 in
      let r1 = r.3 in
      let r2 = r1.3 in
      let r3 = r2.3 in
      let e0 = l.4 in
      let e1 = l1.4 in
      let e2 = l2.4 in
      let f0 = r.4 in
      let f1 = r1.4 in
      let f2 = r2.4 in
      let x0 = recounted x a l.0 hx l.2 in
      let w0 = recounted w b l2.0 hw l2.2 in
      let o0 = recounted area.offset.x c r.0 ho r.2 in
      let o1 = recounted area.offset.x c r1.0 ho r1.2 in
      let a0 = recounted area.size.width d r2.0 ha r2.2 in
      let x1 = reach x0 in
      let w1 = reach w0 in
      let p0 = reach o0 in
      let p1 = reach o1 in
      let a1 = reach a0 in
      let x2 = x0.mult in
      let w2 = w0.mult in
      let q0 = o0.mult in
      let q1 = o1.mult in
      let a2 = a0.mult in
      let x3 = x2.2 in
      let w3 = w2.2 in
      let q2 = q0.2 in
      let q3 = q1.2 in
      let a3 = a2.2 in
      let v = l1.2 in
      exact_accepted {b = image_bound} {x = x'} {a = l1.0} (lit≤ tt)
      (record {
        z = v.1;
        val = of_value x' v.0 v.1 l1.0 v.2 v.3;
        small = within v.0 v.1 l1.0 v.3 (omega arith, omega arith);
        mult = (q0.0 + q1.0 + a2.0 + x2.1 + w2.1, q0.1 + q1.1 + a2.1 + x2.0 + w2.0, omega arith);
      })
    where
      recounted : {n : ℕ} (x : Float) (a b : N) → Exact 2 n x a → Sixteenths x b → Exact 2 n x b
      recounted x a b h k = recast (integers.one_integer x a b (sixteenths h) k) h

      within : (s : Bool) (z : ℕ) (a : N) → Signed s z a → (a.p ≤ a.n + image_bound) × (a.n ≤ a.p + image_bound) → z ≤ image_bound
      within false z a e h = let h0 = h.0 in omega arith
      within true z a e h = let h1 = h.1 in omega arith
