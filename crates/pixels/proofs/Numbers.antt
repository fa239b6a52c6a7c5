-- Which numbers are accepted, and the integer that each is. Assumes nothing.
use Rattle.std.specs.Prelude.{Option, None, Some, is_some}
use Prim.Native.Nat.{ℕ, zero, suc, ◌<◌, ◌≤◌}
use native.Mathlib.Omega.{arith}
use native.Mathlib.Nat.{zero-lt-suc}
use mathlib.Core.Path.{◌≡◌, refl, sym, ◌∙◌}
use mathlib.Core.Bool.{Bool, true, false, ◌&&◌, and-true}
use mathlib.Core.List.{List, [], ◌∷◌}
use mathlib.Core.Logic.{◌↔◌, ◌⊎◌, inl, inr}
use lib.IntN.{pos, nat_abs}
use lib.Dec.{ltb}
use lib.Ieee.{Float, nan, inf, fin}
use borrow.Author.Tests.{lt-ltb}
use Rattle.util.specs.declared.eighths.Count.{Count}
use Rattle.util.specs.Eighths.{whole}
use Rattle.util.specs.Eighths.{count_of}
use Rattle.util.proofs.Floats.{no}
use Rattle.util.proofs.Count.{Mag, count_is, below_zero}
use Rattle.util.proofs.Laws.{count_is_small}
use Rattle.util.proofs.Unique.{counts}
use Rattle.pixels.specs.Accepted.{accepted, signed, integer_of, in_eighths}
use Rattle.pixels.specs.Pixels.{all_accepted}
use Rattle.pixels.specs.Conditions.{SmallEighths, IsInEighths}
use Rattle.pixels.specs.Laws.{AcceptedExactly, IntegerIsExact, ElseZero}

-- a zero has no sign
pub one_integer : (s t : Bool) (n : ℕ) → (0 < n → s ≡ t) → signed s n ≡ signed t n
one_integer s t (suc n) h = rw (h (zero-lt-suc n)) refl
one_integer s t zero h = nought s ∙ sym (nought t)
  where
    nought : (s : Bool) → signed s 0 ≡ pos 0
    nought true = refl
    nought false = refl

count_of_lem : (x : Float) (s : Bool) (n : ℕ) → SmallEighths x s n → count_of x ≡ whole (s && ltb 0 n) n
count_of_lem nan s n v = absurd v.0
count_of_lem (inf t) s n v = absurd v.0
count_of_lem (fin t m e) s n ((p, v), h) = count_is (fin t m e) n h v ∙ rw (below_zero t m e n v, p) refl

pub accepted_exactly : AcceptedExactly
unfolding accepted
accepted_exactly x = (counted (count_of x) refl, λ v. rw (count_of_lem x v.0 v.1 v.2) refl)
  where
    valued : (x : Float) (n : ℕ) → Mag x n → n ≤ 9999999 → IsInEighths x
    valued nan n v h = absurd v
    valued (inf s) n v h = absurd v
    valued (fin s m e) n v h = (s, n, ((refl, v), h))

    counted : (o : Option Count) → count_of x ≡ o → is_some o ≡ true → IsInEighths x
    counted None e h = no h refl
    counted (Some k) e h = let c = counts x k.negative k.size e in valued x k.size c.size c.small

-- ---- one of a first number and the others isn't accepted

abbrev pub OneIsNot : Float → List Float → Type 0
OneIsNot x [] = ¬ IsInEighths x
OneIsNot x (y ∷ ys) = (¬ IsInEighths x) ⊎ OneIsNot y ys

pub not_all : (x : Float) (xs : List Float) → (all_accepted (x ∷ xs) ≡ false) ↔ OneIsNot x xs
unfolding all_accepted
not_all x [] = go (accepted x) refl
  where
    go : (b : Bool) → accepted x ≡ b → ((b && true) ≡ false) ↔ (¬ IsInEighths x)
    go true e = (λ z. absurd cc, λ n. absurd (n ((accepted_exactly x).0 e)))
    go false e = (λ z n. no ((accepted_exactly x).1 n) e, λ n. refl)
not_all x (y ∷ ys) = go (accepted x) refl (all_accepted (y ∷ ys)) (not_all y ys)
  where
    go : (b : Bool) → accepted x ≡ b → (c : Bool) → (c ≡ false) ↔ OneIsNot y ys → ((b && c) ≡ false) ↔ OneIsNot x (y ∷ ys)
    go true e c i = (λ z. inr (i.0 z), elim [ inl n ↦ absurd (n ((accepted_exactly x).0 e)) | inr o ↦ i.1 o ])
    go false e c i = (λ z. inl (λ n. no ((accepted_exactly x).1 n) e), λ z. refl)

-- ---- the integers

-- no number is above 9,999,999 eighths in size
pub eighths_small : (x : Float) → nat_abs (in_eighths x) ≤ 9999999
unfolding in_eighths
eighths_small x = go (count_of x) refl
  where
    go : (o : Option Count) → count_of x ≡ o → nat_abs (integer_of o) ≤ 9999999
    go None e = omega arith
    go (Some c) e = let k = count_is_small x c.negative c.size e in grind arith

pub integer_is_exact : IntegerIsExact
unfolding in_eighths
integer_is_exact x s n v = rw (count_of_lem x s n v) (one_integer (s && ltb 0 n) s n (λ h. rw (lt-ltb 0 n h) (and-true s)))

pub else_zero : ElseZero
unfolding accepted in_eighths
else_zero x e = go (count_of x) e
  where
    go : (o : Option Count) → is_some o ≡ false → integer_of o ≡ pos 0
    go None e = refl
    go (Some c) e = no refl e
