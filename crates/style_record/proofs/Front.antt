-- The first item wins; the words after the first that breaks a rule have no say; a table behind another, and a trailing part. Assumes nothing.
use Prim.Native.Nat.{ℕ, ◌+◌, ◌*◌, ◌-◌, ◌/◌, ◌<◌, ◌≤◌}
use native.Mathlib.Omega.{arith}
use mathlib.Core.Logic.{◌⊎◌, inl, inr, ⊎_elim}
use mathlib.Core.Path.{◌≡◌, refl, sym, ap, ◌∙◌, subst}
use mathlib.Core.Bool.{Bool, true, false}
use mathlib.Core.List.{List, ◌++◌}
use lib.Dec.{ltb}
use lib.ListN.{get_or, length, length-append, get_or-append}
use lib.Seq.{get_or-append-add}
use borrow.Author.Tests.{ltb-true, ltb-false}
use Rattle.std.proofs.lemmas.Bool.{cases_order}
use Rattle.util.proofs.Floats.{no}
use Rattle.style_record.specs.Record.{style_words, item, items}
use Rattle.style_record.specs.Check.{breaks_rule, breaks, checked}
use Rattle.style_record.specs.Laws.{AllGood, NoneBreaks, First, FirstItemWins, FrontDecides, or_behind, BehindIsNext, PartIsPassedOver}
use Rattle.style_record.specs.declared.check.BadWord.{BadWord}
use Rattle.std.specs.Prelude.{Result, Ok, Err, ⊤}
use Rattle.style_record.proofs.First.{TableIs, good, bad, table_is}
use Rattle.style_record.proofs.Laws.{good_is_none, bad_is_first}

pub first_item_wins : FirstItemWins
first_item_wins s i k j l e there inside breaking = ⊎_elim same (λ q. ⊎_elim inl (λ p. no breaking (f.items_before j p l inside)) q) (cases_order i j)
  where
    f : First s i k
    f = (bad_is_first s i k).0 e

    not_before : i ≡ j → (b : Bool) → ltb l k ≡ b → k ≤ l
    not_before same true t = no (subst (λ (x : ℕ). breaks s x l ≡ true) (sym same) breaking) (f.words_before l (ltb-true l k t))
    not_before same false t = ltb-false l k t

    same : i ≡ j → (i < j) ⊎ ((i ≡ j) × (k ≤ l))
    same p = inr (p, not_before p (ltb l k) refl)

-- ---- words that agree

-- word l of an item reads itself and the word before it
breaks_as_lem : (s t : List ℕ) (h g l : ℕ) → item t h (l - 1) ≡ item s g (l - 1) → item t h l ≡ item s g l → breaks t h l ≡ breaks s g l
unfolding breaks breaks_rule
breaks_as_lem s t h g l d e = rw (d, e) refl

one_before : (at l to : ℕ) → at + l ≤ to → at + (l - 1) ≤ to
one_before at l to p = omega arith

-- tables that agree up to a word
module _ (s t : List ℕ) (to : ℕ) (agree : (j : ℕ) → j ≤ to → get_or t j 0 ≡ get_or s j 0) where
  breaks_alike : (h l : ℕ) → style_words * h + l ≤ to → breaks t h l ≡ breaks s h l
  breaks_alike h l p = breaks_as_lem s t h h l (agree (style_words * h + (l - 1)) (one_before (style_words * h) l to p)) (agree (style_words * h + l) p)

pub front_decides : FrontDecides
unfolding items
front_decides s t i k e long agree =
    (bad_is_first t i k).1
    (record {
      item_there = there i (length t) long;
      word_there = f.word_there;
      breaks_it = same i k (up_to k (omega arith)) ∙ f.breaks_it;
      words_before = λ j p. same i j (up_to j (omega arith)) ∙ f.words_before j p;
      items_before = λ h p l q. same h l (sooner h l p q) ∙ f.items_before h p l q;
    })
  where
    f : First s i k
    f = (bad_is_first s i k).0 e

    same : (h l : ℕ) → style_words * h + l ≤ style_words * i + k → breaks t h l ≡ breaks s h l
    same h l p = breaks_alike s t (style_words * i + k) agree h l p

    there : (i n : ℕ) → style_words * i + style_words ≤ n → i < n / style_words
    there i n p = omega arith

    up_to : (j : ℕ) → j ≤ k → style_words * i + j ≤ style_words * i + k
    up_to j p = omega arith

    sooner : (h l : ℕ) → h < i → l < style_words → style_words * h + l ≤ style_words * i + k
    sooner h l p q = omega arith

-- ---- one table behind another

-- item h is so many items behind n others
split : (n h : ℕ) → n ≤ h → h ≡ n + (h - n)
split n h q = omega arith

left : (n h m : ℕ) → n ≤ h → h < n + m → h - n < m
left n h m q p = omega arith

module _ (s t : List ℕ) (n : ℕ) (whole : length s ≡ style_words * n) where
  -- word j of the first, and of the one behind it
  front : (j : ℕ) → j < style_words * n → get_or (s ++ t) j 0 ≡ get_or s j 0
  front j p = get_or-append s t 0 j (subst (λ (x : ℕ). j < x) (sym whole) p)

  behind : (i l : ℕ) → get_or (s ++ t) (style_words * (n + i) + l) 0 ≡ get_or t (style_words * i + l) 0
  behind i l = ap (λ (x : ℕ). get_or (s ++ t) x 0) (place (length s) whole) ∙ get_or-append-add s t (style_words * i + l) 0
    where
      place : (x : ℕ) → x ≡ style_words * n → style_words * (n + i) + l ≡ x + (style_words * i + l)
      place x e = omega arith

  front_breaks : (h l : ℕ) → h < n → l < style_words → breaks (s ++ t) h l ≡ breaks s h l
  front_breaks h l p q = breaks_alike s (s ++ t) (style_words * h + l) (λ j r. front j (within j r)) h l (omega arith)
    where
      within : (j : ℕ) → j ≤ style_words * h + l → j < style_words * n
      within j r = omega arith

  behind_breaks : (h l : ℕ) → breaks (s ++ t) (n + h) l ≡ breaks t h l
  behind_breaks h l = breaks_as_lem t (s ++ t) (n + h) h l (behind h (l - 1)) (behind h l)

  -- items of both
  items_front : items s ≡ n
  unfolding items
  items_front = count (length s) whole
    where
      count : (x : ℕ) → x ≡ style_words * n → x / style_words ≡ n
      count x e = omega arith

  items_both : items (s ++ t) ≡ n + items t
  unfolding items
  items_both = ap (λ (x : ℕ). x / style_words) (length-append s t) ∙ count (length s) (length t) whole
    where
      count : (x y : ℕ) → x ≡ style_words * n → (x + y) / style_words ≡ n + y / style_words
      count x y e = omega arith

  all_front : NoneBreaks s → (h : ℕ) → h < n → AllGood (s ++ t) h
  all_front a h p l q = front_breaks h l p q ∙ a h (subst (λ (x : ℕ). h < x) (sym items_front) p) l q

  all_behind : (h : ℕ) → n ≤ h → AllGood t (h - n) → AllGood (s ++ t) h
  all_behind h q a l r = ap (λ (x : ℕ). breaks (s ++ t) x l) (split n h q) ∙ behind_breaks (h - n) l ∙ a l r

  -- an item of both is one of the front, or one behind it
  either : (h : ℕ) → NoneBreaks s → (n ≤ h → AllGood t (h - n)) → AllGood (s ++ t) h
  either h a b = go (ltb h n) refl
    where
      go : (x : Bool) → ltb h n ≡ x → AllGood (s ++ t) h
      go true q = all_front a h (ltb-true h n q)
      go false q = all_behind h (ltb-false h n q) (b (ltb-false h n q))

  next : (c d : Result ⊤ BadWord) → TableIs s c → TableIs t d → checked s ≡ c → checked (s ++ t) ≡ or_behind n c d
  next _ d (bad i k f) v e =
      front_decides s (s ++ t) i k e (subst (λ (x : ℕ). style_words * i + style_words ≤ x) (sym (length-append s t)) (long i (length s) (length t) whole (here i f.item_there)))
      (λ j p. front j (within i j k p f.word_there (here i f.item_there)))
    where
      here : (i : ℕ) → i < items s → i < n
      here i p = subst (λ (x : ℕ). i < x) items_front p

      long : (i x y : ℕ) → x ≡ style_words * n → i < n → style_words * i + style_words ≤ x + y
      long i x y e p = omega arith

      within : (i j k : ℕ) → j ≤ style_words * i + k → k < style_words → i < n → j < style_words * n
      within i j k p q r = omega arith
  next _ _ (good a) (good b) e =
      (good_is_none (s ++ t)).1 (λ h p. either h a (λ q. b (h - n) (left n h (items t) q (subst (λ (x : ℕ). h < x) items_both p))))
  next _ _ (good a) (bad i k f) e =
      (bad_is_first (s ++ t) (n + i) k).1
      (record {
        item_there = subst (λ (x : ℕ). n + i < x) (sym items_both) (on i (items t) f.item_there);
        word_there = f.word_there;
        breaks_it = behind_breaks i k ∙ f.breaks_it;
        words_before = λ j p. behind_breaks i j ∙ f.words_before j p;
        items_before = λ h p. either h a (λ q. f.items_before (h - n) (left n h i q p));
      })
    where
      on : (i m : ℕ) → i < m → n + i < n + m
      on i m p = omega arith

pub behind_is_next : BehindIsNext
behind_is_next s t n whole = next s t n whole (checked s) (checked t) (table_is s) (table_is t) refl

pub part_is_passed_over : PartIsPassedOver
unfolding items
part_is_passed_over s t n whole short = behind_is_next s t n whole ∙ ap (or_behind n (checked s)) nothing ∙ back (checked s)
  where
    none : (m : ℕ) → m < style_words → m / style_words ≡ 0
    none m p = omega arith

    nothing : checked t ≡ Ok tt
    nothing = (good_is_none t).1 (λ i p. absurd (empty i p))
      where
        empty : (i : ℕ) → i < items t → ⊥
        empty i p = let e = none (length t) short in omega arith

    back : (c : Result ⊤ BadWord) → or_behind n c (Ok tt) ≡ c
    back (Ok _) = refl
    back (Err first) = refl
