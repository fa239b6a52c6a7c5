-- The laws of `specs/Laws.antt`. Assumes nothing.
use Prim.Native.Nat.{ℕ}
use mathlib.Core.Logic.{⊎_elim}
use mathlib.Core.Path.{◌≡◌, refl, subst}
use mathlib.Core.List.{List}
use Rattle.std.proofs.lemmas.Bool.{cases_order}
use Rattle.util.proofs.Floats.{no}
use Rattle.style_record.specs.Record.{length_kinds, code_kinds, item}
use Rattle.style_record.specs.Check.{breaks, first_broken, bad_at, checked}
use Rattle.style_record.specs.Decode.{length_at, rect_at, size_at, align_at, ratio_at, overflow_at, style_of, style_at}
use Rattle.style_record.specs.Encode.{length_words_of, rect_words_of, size_words_of, align_words_of, encoded, kept}
use Rattle.style_record.specs.Laws.{WidthsAgree, AllGood, NoneBreaks, First, ItemGoodIsNone, GoodIsNone, BadIsFirst, SomeIsFound, EachWordAtItsIndex, EachWordIsRead, EachFieldIsWritten, DecodingIsExact}
use Rattle.style_record.specs.declared.check.BadWord.{BadWord}
use Rattle.std.specs.Prelude.{Option, IsNone, Result, Ok, ⊤}
use Rattle.style_record.proofs.First.{ItemIs, item_good, item_bad, item_is, TableIs, good, bad, table_is}
use Rattle.style_record.proofs.Written.{written_back, decoded_back}

-- ---- the widths

pub widths_agree : WidthsAgree
unfolding length_kinds code_kinds length_words_of rect_words_of size_words_of align_words_of encoded
widths_agree f y = (refl, refl, refl, refl)

-- ---- the check

pub item_good_is_none : ItemGoodIsNone
item_good_is_none s i = (λ e. there (first_broken s i) (item_is s i) e, λ a. back (first_broken s i) (item_is s i) a)
  where
    there : (c : Option ℕ) → ItemIs s i c → IsNone c → AllGood s i
    there _ (item_good a) e = a
    there _ (item_bad k p q w) e = no refl e

    back : (c : Option ℕ) → ItemIs s i c → AllGood s i → IsNone c
    back _ (item_good a) n = refl
    back _ (item_bad k p q w) n = no q (n k p)

pub good_is_none : GoodIsNone
good_is_none s = (λ e. there (checked s) (table_is s) e, λ a. back (checked s) (table_is s) a)
  where
    there : (c : Result ⊤ BadWord) → TableIs s c → c ≡ Ok tt → NoneBreaks s
    there _ (good a) e = a
    there _ (bad i k f) e = absurd (cc)

    back : (c : Result ⊤ BadWord) → TableIs s c → NoneBreaks s → c ≡ Ok tt
    back _ (good a) n = refl
    back _ (bad i k f) n = no f.breaks_it (n i f.item_there k f.word_there)

-- there is one first at most
one_item : (s : List ℕ) (i j k l : ℕ) → First s i k → First s j l → i ≡ j
one_item s i j k l f g =
    ⊎_elim (λ e. e)
    (λ q. ⊎_elim (λ p. no f.breaks_it (g.items_before i p k f.word_there)) (λ p. no g.breaks_it (f.items_before j p l g.word_there)) q)
    (cases_order i j)

one_word : (s : List ℕ) (i k l : ℕ) → First s i k → First s i l → k ≡ l
one_word s i k l f g =
    ⊎_elim (λ e. e)
    (λ q. ⊎_elim (λ p. no f.breaks_it (g.words_before k p)) (λ p. no g.breaks_it (f.words_before l p)) q)
    (cases_order k l)

pub bad_is_first : BadIsFirst
bad_is_first s i k = (λ e. there (checked s) (table_is s) e, λ f. back (checked s) (table_is s) f)
  where
    there : (c : Result ⊤ BadWord) → TableIs s c → c ≡ bad_at i k → First s i k
    there _ (good a) e = absurd (cc)
    there _ (bad j l f) e =
        let same : ◌≡◌ {A = BadWord} (record { item = j; word = l }) (record { item = i; word = k }) = cc in
        subst (λ (b : BadWord). First s b.item b.word) same f

    back : (c : Result ⊤ BadWord) → TableIs s c → First s i k → c ≡ bad_at i k
    back _ (good a) f = no f.breaks_it (a i f.item_there k f.word_there)
    back _ (bad j l g) f =
        let p = one_item s j i l k g f in
        let q = one_word s i l k (subst (λ (x : ℕ). First s x l) p g) f in
        rw (p, q) refl

pub some_is_found : SomeIsFound
some_is_found s i k p q e = go (checked s) (table_is s) refl
  where
    go : (c : Result ⊤ BadWord) → TableIs s c → checked s ≡ c → (j : ℕ) × (l : ℕ) × (checked s ≡ bad_at j l)
    go _ (good a) x = no e (a i p k q)
    go _ (bad j l f) x = (j, l, x)

-- ---- the decoding

pub each_word_at_its_index : EachWordAtItsIndex
unfolding style_at style_of rect_at size_at length_at ratio_at align_at overflow_at
each_word_at_its_index s i =
    record {
      inset = record { left = refl; right = refl; top = refl; bottom = refl };
      margin = record { left = refl; right = refl; top = refl; bottom = refl };
      padding = record { left = refl; right = refl; top = refl; bottom = refl };
      border = record { left = refl; right = refl; top = refl; bottom = refl };
      size = record { width = refl; height = refl };
      min = record { width = refl; height = refl };
      max = record { width = refl; height = refl };
      ratio_absent = λ e. rw e refl;
      ratio_present = λ e. rw e refl;
      sizing = refl;
      replaced = refl;
      table = refl;
      direction = refl;
      justify = refl;
      align = refl;
      overflow_x = refl;
      overflow_y = refl;
      scrollbar = refl;
      contain = refl;
    }

pub each_word_is_read : EachWordIsRead
unfolding style_at kept breaks
each_word_is_read s i e = decoded_back (item s i) ((item_good_is_none s i).0 e)

pub each_field_is_written : EachFieldIsWritten
each_field_is_written y f = written_back y f

pub decoding_is_exact : DecodingIsExact
decoding_is_exact = (each_word_is_read, each_field_is_written)
