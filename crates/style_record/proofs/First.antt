-- What the walk finds is the first word that breaks a rule, or none does. Assumes nothing.
use Prim.Native.Nat.{ℕ, zero, suc, ◌+◌, ◌<◌, ◌≤◌}
use native.Mathlib.Omega.{arith}
use native.Mathlib.Nat.{eq-or-lt_of_le}
use mathlib.Core.Logic.{◌⊎◌, inl, inr, ⊎_elim}
use mathlib.Core.Path.{◌≡◌, refl, subst}
use mathlib.Core.Bool.{Bool, true, false, cond}
use mathlib.Core.List.{List}
use Rattle.style_record.specs.Record.{style_words, item, items}
use Rattle.style_record.specs.Check.{breaks_rule, breaks, first_from, first_broken, bad_at, or_rest, checked_from, checked}
use Rattle.style_record.specs.Laws.{AllGood, NoneBreaks, First}
use Rattle.style_record.specs.declared.check.BadWord.{BadWord}
use Rattle.std.specs.Prelude.{Option, None, Some, Result, Ok, ⊤}

-- a number of a stretch is its first, or one of the rest
here_or_later : (k j : ℕ) → k ≤ j → (k ≡ j) ⊎ (k + 1 ≤ j)
here_or_later k j p = ⊎_elim (λ e. inl e) (λ q. inr (omega arith)) (eq-or-lt_of_le p)

-- ---- the n words of a record from word k on

data Words (r : ℕ → ℕ) (n k : ℕ) : Option ℕ → Type 0 where
  none : ((j : ℕ) → k ≤ j → j < k + n → breaks_rule r j ≡ false) → Words r n k None
  first : (w : ℕ) → k ≤ w → w < k + n → breaks_rule r w ≡ true → ((j : ℕ) → k ≤ j → j < w → breaks_rule r j ≡ false) → Words r n k (Some w)

-- one more in front that breaks no rule
in_front : (r : ℕ → ℕ) (n k : ℕ) (c : Option ℕ) → breaks_rule r k ≡ false → Words r n (k + 1) c → Words r (suc n) k c
in_front r n k _ e (none a) = none (λ j p q. ⊎_elim (λ (i : k ≡ j). subst (λ (x : ℕ). breaks_rule r x ≡ false) i e) (λ l. a j l (omega arith)) (here_or_later k j p))
in_front r n k _ e (first w p q b a) =
    first w (omega arith) (omega arith) b (λ j s t. ⊎_elim (λ (i : k ≡ j). subst (λ (x : ℕ). breaks_rule r x ≡ false) i e) (λ l. a j l t) (here_or_later k j s))

words_of : (r : ℕ → ℕ) (n k : ℕ) → Words r n k (first_from r n k)
unfolding first_from
words_of r zero k = none (λ j p q. absurd (omega arith))
words_of r (suc n) k = go (breaks_rule r k) refl (words_of r n (k + 1))
  where
    go : (b : Bool) → breaks_rule r k ≡ b → Words r n (k + 1) (first_from r n (k + 1)) → Words r (suc n) k (cond b (Some k) (first_from r n (k + 1)))
    go true e v = first k (omega arith) (omega arith) e (λ j p q. absurd (omega arith))
    go false e v = in_front r n k (first_from r n (k + 1)) e v

-- ---- an item

pub data ItemIs (s : List ℕ) (i : ℕ) : Option ℕ → Type 0 where
  item_good : AllGood s i → ItemIs s i None
  item_bad : (k : ℕ) → k < style_words → breaks s i k ≡ true → ((j : ℕ) → j < k → breaks s i j ≡ false) → ItemIs s i (Some k)

pub item_is : (s : List ℕ) (i : ℕ) → ItemIs s i (first_broken s i)
unfolding first_broken breaks
item_is s i = go (first_from (item s i) style_words 0) (words_of (item s i) style_words 0)
  where
    go : (c : Option ℕ) → Words (item s i) style_words 0 c → ItemIs s i c
    go _ (none a) = item_good (λ k p. a k (omega arith) (omega arith))
    go _ (first w p q b a) = item_bad w (omega arith) b (λ j t. a j (omega arith) t)

-- ---- the n items of a table from item i on

data Items (s : List ℕ) (n i : ℕ) : Result ⊤ BadWord → Type 0 where
  none : ((h : ℕ) → i ≤ h → h < i + n → AllGood s h) → Items s n i (Ok tt)
  first :
      (h k : ℕ) → i ≤ h → h < i + n → k < style_words → breaks s h k ≡ true → ((j : ℕ) → j < k → breaks s h j ≡ false)
      → ((g : ℕ) → i ≤ g → g < h → AllGood s g)
      → Items s n i (bad_at h k)

good_in_front : (s : List ℕ) (n i : ℕ) (c : Result ⊤ BadWord) → AllGood s i → Items s n (i + 1) c → Items s (suc n) i c
good_in_front s n i _ e (none a) = none (λ h p q. ⊎_elim (λ (x : i ≡ h). subst (AllGood s) x e) (λ l. a h l (omega arith)) (here_or_later i h p))
good_in_front s n i _ e (first h k p q t b w a) =
    first h k (omega arith) (omega arith) t b w (λ g u v. ⊎_elim (λ (x : i ≡ g). subst (AllGood s) x e) (λ l. a g l v) (here_or_later i g u))

items_of : (s : List ℕ) (n i : ℕ) → Items s n i (checked_from s n i)
unfolding checked_from or_rest
items_of s zero i = none (λ h p q. absurd (omega arith))
items_of s (suc n) i = go (first_broken s i) (item_is s i) (items_of s n (i + 1))
  where
    go : (c : Option ℕ) → ItemIs s i c → Items s n (i + 1) (checked_from s n (i + 1)) → Items s (suc n) i (or_rest i c (checked_from s n (i + 1)))
    go _ (item_good a) v = good_in_front s n i (checked_from s n (i + 1)) a v
    go _ (item_bad k t b w) v = first i k (omega arith) (omega arith) t b w (λ g u v. absurd (omega arith))

-- ---- a table

pub data TableIs (s : List ℕ) : Result ⊤ BadWord → Type 0 where
  good : NoneBreaks s → TableIs s (Ok tt)
  bad : (i k : ℕ) → First s i k → TableIs s (bad_at i k)

pub table_is : (s : List ℕ) → TableIs s (checked s)
unfolding checked
table_is s = go (checked_from s (items s) 0) (items_of s (items s) 0)
  where
    go : (c : Result ⊤ BadWord) → Items s (items s) 0 c → TableIs s c
    go _ (none a) = good (λ i p. a i (omega arith) (omega arith))
    go _ (first h k p q t b w a) =
        bad h k (record { item_there = omega arith; word_there = t; breaks_it = b; words_before = w; items_before = λ g u. a g (omega arith) u })
