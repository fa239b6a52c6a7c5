-- A field that is blanks, at most one sign and one or more digits spells its number. Assumes nothing.
use Prim.Native.Nat.{ℕ, zero, suc, ◌-◌, ◌*◌, ◌+◌, ◌<◌, ◌≤◌}
use native.Mathlib.Omega.{arith}
use mathlib.Core.Path.{◌≡◌, refl, ap, ◌∙◌}
use mathlib.Core.Bool.{Bool, true, false, cond, ◌&&◌}
use mathlib.Core.List.{List, [], ◌∷◌, ◌++◌}
use Rattle.std.proofs.Common.{None, Some}
use lib.Dec.{leb}
use lib.ListN.{length, replicate}
use borrow.Author.Tests.{ne_eqb, le-leb, le-ltb, leb-true}
use Rattle.std.proofs.lemmas.Bool.{false≢true}
use Rattle.util.specs.Eighths.{whole, float_of_count}
use Rattle.screen_fields.specs.Field.{unblank, is_digit, spelled, spelled_size, unsigned, signed, numeral_of, code_of, present_word, float_of, word_of}
use Rattle.screen_fields.specs.Laws.{all_digits, decimal, Sign, minus, plus, none, FieldRead, CodeRead, CountRead}

-- ---- digits

spelled_read : (ds : List ℕ) (v : ℕ) → all_digits ds ≡ true → spelled v ds ≡ Some (decimal v ds)
unfolding spelled all_digits decimal
spelled_read [] v e = refl
spelled_read (d ∷ ds) v e = go (is_digit d) (spelled_read ds (v * 10 + (d - 48))) e
  where
    go : (c : Bool) → (all_digits ds ≡ true → spelled (v * 10 + (d - 48)) ds ≡ Some (decimal (v * 10 + (d - 48)) ds)) → (c && all_digits ds) ≡ true
        → cond c (spelled (v * 10 + (d - 48)) ds) None ≡ Some (decimal (v * 10 + (d - 48)) ds)
    go true f e = f e
    go false f e = absurd (false≢true e)

digit_low : (b : ℕ) → is_digit b ≡ true → 48 ≤ b
unfolding is_digit
digit_low b e = leb-true 48 b (go (leb 48 b) e)
  where
    go : (t : Bool) → (t && leb b 57) ≡ true → t ≡ true
    go true e = refl
    go false e = absurd (false≢true e)

first_digit : (d : ℕ) (ds : List ℕ) → all_digits (d ∷ ds) ≡ true → 48 ≤ d
unfolding all_digits
first_digit d ds e = digit_low d (go (is_digit d) e)
  where
    go : (c : Bool) → (c && all_digits ds) ≡ true → c ≡ true
    go true e = refl
    go false e = absurd (false≢true e)

unsigned_read : (ds : List ℕ) (s : Bool) → 0 < length ds → all_digits ds ≡ true → unsigned s ds ≡ whole s (decimal 0 ds)
unfolding unsigned spelled_size
unsigned_read [] s h e = absurd (omega arith)
unsigned_read (d ∷ ds) s h e = rw (spelled_read (d ∷ ds) 0 e) refl

-- ---- a sign, and blanks before it

signed_read : (s : Bool) (sign ds : List ℕ) → Sign s sign → 0 < length ds → all_digits ds ≡ true → signed (unblank (sign ++ ds)) ≡ whole s (decimal 0 ds)
unfolding unblank signed
signed_read s sign ds minus h e = unsigned_read ds true h e
signed_read s sign ds plus h e = unsigned_read ds false h e
signed_read s sign [] none h e = absurd (omega arith)
signed_read s sign (d ∷ ds) none h e =
    let low = first_digit d ds e in
    rw (ne_eqb d 32 (λ z. omega arith)) (rw (ne_eqb d 45 (λ z. omega arith), ne_eqb d 43 (λ z. omega arith)) (unsigned_read (d ∷ ds) false h e))

unblank_read : (k : ℕ) (bs : List ℕ) → unblank (replicate k 32 ++ bs) ≡ unblank bs
unfolding unblank
unblank_read zero bs = refl
unblank_read (suc k) bs = unblank_read k bs

pub field_read : FieldRead
unfolding numeral_of
field_read bs s n f =
    rw (f.whole, unblank_read f.blanks (f.sign ++ f.digits)) (signed_read s f.sign f.digits f.signed f.some f.all ∙ ap (whole s) f.value)

-- ---- as a word

pub code_read : CodeRead
unfolding word_of code_of
code_read bs n f h = rw (field_read bs false n f) (rw (le-leb n 4294967295 h) refl)

pub count_read : CountRead
unfolding word_of float_of float_of_count present_word
count_read bs s n f h = rw (field_read bs s n f) (rw (le-ltb 9999999 n h) refl)
