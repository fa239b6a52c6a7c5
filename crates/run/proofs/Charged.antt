-- What a tally comes to as items are charged in turn. Assumes nothing.
use Rattle.std.specs.Prelude.{sum, count_by}
use Prim.Native.Nat.{ℕ, ◌+◌, ◌<◌}
use native.Mathlib.Omega.{arith}
use native.Mathlib.Nat.{zero-add}
use mathlib.Core.Path.{◌≡◌, refl, ap, ◌∙◌, subst}
use mathlib.Core.Bool.{Bool, true, false, cond}
use mathlib.Core.List.{List, [], ◌∷◌, ◌++◌}
use lib.Dec.{eqb}
use lib.ListN.{length, get_or, set, replicate}
use borrow.Author.Tests.{eqb-true, eqb-false}
use Rattle.std.proofs.lemmas.List.{length-set, length-replicate, get_or-set_same, get_or-set_other, get_or-replicate}
use Rattle.std.proofs.lemmas.List.Sums.{sum_by-cons, sum_by-set}
use Rattle.run.specs.Run.{charged}

-- a tally after these items were charged
abbrev pub tallied : List ℕ → List ℕ → List ℕ
tallied tally [] = tally
tallied tally (i ∷ is) = tallied (charged tally i) is

pub tallied_last : (tally is : List ℕ) (i : ℕ) → tallied tally (is ++ (i ∷ [])) ≡ charged (tallied tally is) i
tallied_last tally [] i = refl
tallied_last tally (j ∷ is) i = tallied_last (charged tally j) is i

-- ---- it stays as long

pub charged_length : (tally : List ℕ) (i : ℕ) → length (charged tally i) ≡ length tally
unfolding charged
charged_length tally i = length-set tally i _

pub tallied_length : (tally is : List ℕ) → length (tallied tally is) ≡ length tally
tallied_length tally [] = refl
tallied_length tally (i ∷ is) = tallied_length (charged tally i) is ∙ charged_length tally i

-- ---- its words

charged_word : (tally : List ℕ) (i j : ℕ) → i < length tally → get_or (charged tally j) i 0 ≡ get_or tally i 0 + cond (eqb i j) 1 0
unfolding charged
charged_word tally i j h = go (eqb i j) refl
  where
    go : (b : Bool) → eqb i j ≡ b → get_or (set tally j (get_or tally j 0 + 1)) i 0 ≡ get_or tally i 0 + cond b 1 0
    go true e =
        subst (λ (k : ℕ). get_or (set tally k (get_or tally k 0 + 1)) i 0 ≡ get_or tally i 0 + 1) (eqb-true i j e)
        (get_or-set_same tally i (get_or tally i 0 + 1) 0 h)
    go false e = get_or-set_other tally j i (get_or tally j 0 + 1) 0 (eqb-false i j e) ∙ omega arith

tallied_word : (tally is : List ℕ) (i : ℕ) → i < length tally → get_or (tallied tally is) i 0 ≡ get_or tally i 0 + count_by (eqb i) is
tallied_word tally [] i h = omega arith
tallied_word tally (j ∷ is) i h =
    tallied_word (charged tally j) is i (rw (charged_length tally j) h)
    ∙ ap (λ (n : ℕ). n + count_by (eqb i) is) (charged_word tally i j h)
    ∙ grouped (get_or tally i 0) (cond (eqb i j) 1 0) (count_by (eqb i) is) (sum_by-cons (λ (k : ℕ). cond (eqb i k) 1 0) j is)
  where
    grouped : (a b c : ℕ) {n : ℕ} → n ≡ b + c → a + b + c ≡ a + n
    grouped a b c e = omega arith

-- once cleared, how often the item was charged
pub cleared_word : (n : ℕ) (is : List ℕ) (i : ℕ) → i < n → get_or (tallied (replicate n 0) is) i 0 ≡ count_by (eqb i) is
cleared_word n is i h =
    tallied_word zeros is i (rw (length-replicate n zero_word) h)
    ∙ ap (λ (m : ℕ). m + count_by (eqb i) is) (get_or-replicate n i zero_word 0 h)
    ∙ zero-add _
  where
    zero_word : ℕ
    zero_word = 0

    zeros : List ℕ
    zeros = replicate n 0

-- ---- its sum

pub charged_sum : (tally : List ℕ) (i : ℕ) → i < length tally → sum (charged tally i) ≡ sum tally + 1
unfolding charged
charged_sum tally i h =
    one_more (sum (set tally i (get_or tally i 0 + 1))) (get_or tally i 0) (sum tally) (sum_by-set (λ (n : ℕ). n) tally i (get_or tally i 0 + 1) 0 h)
  where
    one_more : (a b c : ℕ) → a + b ≡ c + (b + 1) → a ≡ c + 1
    one_more a b c e = omega arith
