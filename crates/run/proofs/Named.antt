-- The check of a table by document 01's condition of refusal 3. Assumes nothing.
use Prim.Native.Nat.{ℕ}
use mathlib.Core.Path.{◌≡◌, refl}
use mathlib.Core.Bool.{Bool, true, false}
use mathlib.Core.List.{List}
use Rattle.style_record.specs.Check.{breaks}
use Rattle.style_record.specs.Laws.{First}
use Rattle.style_record.proofs.Laws.{good_is_none, bad_is_first, some_is_found}
use Rattle.run.specs.Conditions.{WordIsAllowed, FirstNotAllowed}
use Rattle.run.specs.Theorems.{NamedExactly, NothingExactly, NamedWhereBad}
use Rattle.run.proofs.Conditions.{word_exactly, word_decided}

-- a word that is not allowed breaks a rule
broken : (styles : List ℕ) (i k : ℕ) → ¬ WordIsAllowed styles i k → breaks styles i k ≡ true
broken styles i k n = go (breaks styles i k) refl
  where
    go : (b : Bool) → breaks styles i k ≡ b → b ≡ true
    go true e = refl
    go false e = absurd (n ((word_exactly styles i k).0 e))

pub named_exactly : NamedExactly
named_exactly styles i k = (λ e. there ((bad_is_first styles i k).0 e), λ f. (bad_is_first styles i k).1 (back f))
  where
    there : First styles i k → FirstNotAllowed styles i k
    there f =
        record {
          item_there = f.item_there;
          word_there = f.word_there;
          not_allowed = (word_decided styles i k).holds f.breaks_it;
          words_before = λ l p. (word_exactly styles i l).0 (f.words_before l p);
          items_before = λ j p l q. (word_exactly styles j l).0 (f.items_before j p l q);
        }

    back : FirstNotAllowed styles i k → First styles i k
    back f =
        record {
          item_there = f.item_there;
          word_there = f.word_there;
          breaks_it = broken styles i k f.not_allowed;
          words_before = λ l p. (word_exactly styles i l).1 (f.words_before l p);
          items_before = λ j p l q. (word_exactly styles j l).1 (f.items_before j p l q);
        }

pub nothing_exactly : NothingExactly
nothing_exactly styles = (
  λ e i p k q. (word_exactly styles i k).0 ((good_is_none styles).0 e i p k q),
  λ a. (good_is_none styles).1 (λ i p k q. (word_exactly styles i k).1 (a i p k q)),
)

pub named_where_bad : NamedWhereBad
named_where_bad styles = (
  λ e. let f = (named_exactly styles e.0 e.1).0 e.2 in (e.0, e.1, f.item_there, f.word_there, f.not_allowed),
  λ s. some_is_found styles s.0 s.1 s.2 s.3 (broken styles s.0 s.1 s.4),
)
