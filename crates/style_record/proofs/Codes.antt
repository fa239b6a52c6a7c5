-- The words after the lengths, one by one, as the code tells them apart. Assumes nothing.
use Prim.Native.Nat.{ℕ, ◌+◌, ◌-◌, ◌<◌, ◌≤◌}
use native.Mathlib.Omega.{arith}
use native.Mathlib.Nat.{eq-or-lt_of_le}
use mathlib.Core.Logic.{⊎_elim}
use mathlib.Core.Path.{◌≡◌, refl, sym, subst}
use mathlib.Core.Bool.{Bool, true, false, cond, not, ◌&&◌, and-true}
use lib.Dec.{eqb, ltb}
use borrow.Author.Tests.{le-ltb}
use Rattle.style_record.specs.Record.{Kind, tag, number, up_to, ratio, keyword, safety, contain, kind_of, code_kinds, after_lengths, style_words}
use Rattle.style_record.specs.Check.{safety_breaks, breaks_as, breaks_rule}
use Rattle.style_record.specs.Codes.{last_code, is_ignored}
use Rattle.style_record.specs.Laws.{CodesByTheLast}

-- what holds of each holds of all
module _ (P : ℕ → Type 0) (k : ℕ) where
  abbrev Of : ℕ → Type 0
  Of j = P (after_lengths + j)

  this : (j : ℕ) → Of j → (after_lengths + (j + 1) ≤ k → P k) → after_lengths + j ≤ k → P k
  this j here later p = ⊎_elim (λ (e : after_lengths + j ≡ k). subst P e here) (λ q. later (after j k q)) (eq-or-lt_of_le p)
    where
      after : (j k : ℕ) → after_lengths + j < k → after_lengths + (j + 1) ≤ k
      after j k q = omega arith

  each : Of 0 → Of 1 → Of 2 → Of 3 → Of 4 → Of 5 → Of 6 → Of 7 → Of 8 → Of 9 → Of 10 → Of 11 → Of 12 → after_lengths ≤ k → k < style_words → P k
  each a b c d e f g h i j l m n from below =
      this 0 a
      (this 1 b
      (this 2 c
      (this 3 d
      (this 4 e
      (this 5 f
      (this 6 g
      (this 7 h
      (this 8 i
      (this 9 j
      (this 10 l
      (this 11 m
      (this 12 n (λ p. absurd (over k p below))))))))))))))
      from
    where
      over : (k : ℕ) → style_words ≤ k → k < style_words → ⊥
      over k p q = omega arith

-- ---- a word up to the last code, and one above it

-- no tag stands after the lengths
abbrev IsCode : Kind → Type 0
IsCode (tag f) = ⊥
IsCode number = Unit {0}
IsCode (up_to last) = Unit {0}
IsCode ratio = Unit {0}
IsCode keyword = Unit {0}
IsCode safety = Unit {0}
IsCode contain = Unit {0}

codes : (k : ℕ) → after_lengths ≤ k → k < style_words → IsCode (kind_of k)
unfolding kind_of code_kinds
codes k = each (λ j. IsCode (kind_of j)) k tt tt tt tt tt tt tt tt tt tt tt tt tt

by_last : (kind : Kind) (before w : ℕ) → IsCode kind → w < 4294967296 → breaks_as kind before w ≡ ltb (last_code kind) w && not (is_ignored kind before)
unfolding breaks_as last_code is_ignored safety_breaks
by_last (tag f) before w none p = absurd none
by_last number before w _ p = rw (le-ltb 4294967295 w (omega (arith, p))) refl
by_last (up_to last) before w _ p = sym (and-true (ltb last w))
by_last ratio before w _ p = rw (le-ltb 4294967295 w (omega (arith, p))) refl
by_last keyword before w _ p = sym (and-true (ltb 10 w))
by_last safety before w _ p = excused (eqb before 10) (ltb 2 w)
  where
    excused : (absent above : Bool) → cond absent false above ≡ above && not absent
    excused true true = refl
    excused true false = refl
    excused false true = refl
    excused false false = refl
by_last contain before w _ p = sym (and-true (ltb 255 w))

pub codes_by_the_last : CodesByTheLast
codes_by_the_last k before w from below p = by_last (kind_of k) before w (codes k from below) p

pub code_rule :
    (r : ℕ → ℕ) (k : ℕ) → after_lengths ≤ k → k < style_words → r k < 4294967296
    → breaks_rule r k ≡ ltb (last_code (kind_of k)) (r k) && not (is_ignored (kind_of k) (r (k - 1)))
unfolding breaks_rule
code_rule r k from below p = codes_by_the_last k (r (k - 1)) (r k) from below p
