-- Runs of stores, one after another. Assumes nothing.
use Prim.Native.Nat.{ℕ, suc, ◌+◌, ◌≤◌}
use native.Mathlib.Omega.{arith}
use native.Mathlib.Nat.{add-zero}
use mathlib.Core.Path.{◌≡◌, refl, sym, ◌∙◌}
use mathlib.Core.List.{List, [], ◌∷◌, ◌++◌, append_assoc}
use lib.ListN.{length, set, take, drop}
use lib.Seq.{sets, set_comm, drop-drop}
use borrow.Rule.Slice.PartMut.{put_mid}
use Rattle.std.proofs.lemmas.List.Edits.{sets-eq}

pub sets_append : (xs ys l : List ℕ) (i : ℕ) → sets l i (xs ++ ys) ≡ sets (sets l i xs) (i + length xs) ys
sets_append [] ys l i = rw add-zero refl
sets_append (x ∷ xs) ys l i = sets_append xs ys (set l i x) (suc i) ∙ rw (over i (length xs)) refl
  where
    over : (i n : ℕ) → suc i + n ≡ i + suc n
    over i n = omega arith

-- the last of a run of stores may be made first
pub sets_last : (xs l : List ℕ) (i a : ℕ) → sets l i (xs ++ (a ∷ [])) ≡ sets (set l (i + length xs) a) i xs
sets_last [] l i a = rw add-zero refl
sets_last (x ∷ xs) l i a =
    sets_last xs (set l i x) (suc i) a
    ∙ rw (over i (length xs), set_comm l i (i + suc (length xs)) x a (λ e. other i (length xs) e)) refl
  where
    over : (i n : ℕ) → suc i + n ≡ i + suc n
    over i n = omega arith

    other : (i n : ℕ) → i ≡ i + suc n → ⊥
    other i n e = omega arith

-- a part whose length is known, then the rest
pub part_then : (w : ℕ) (xs ys l : List ℕ) (i j : ℕ) → length xs ≡ w → j ≡ i + w → sets l i (xs ++ ys) ≡ sets (sets l i xs) j ys
part_then w xs ys l i j e h = sets_append xs ys l i ∙ rw (e, h) refl

-- what was written to a part of a list, element by element
pub part_sets : (l ys : List ℕ) (i n : ℕ) → length ys ≡ n → i + n ≤ length l → put_mid i n l ys ≡ sets l i ys
part_sets l ys i n e h = sym (sets-eq ys l i (rw e h) ∙ rw (e, drop-drop n i l) (append_assoc (take i l) ys (drop (i + n) l)))
