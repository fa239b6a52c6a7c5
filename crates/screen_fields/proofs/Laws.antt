-- Proofs of the statements of `specs/Laws.antt`. Assumes nothing.
use Prim.Native.Nat.{ℕ, zero, suc, ◌+◌, ◌-◌, ◌*◌, ◌<◌, ◌≤◌}
use native.Mathlib.Nat.{zero-lt-suc, lt_of_le_of_lt}
use mathlib.Core.Path.{◌≡◌, refl, sym, ap, ◌∙◌}
use mathlib.Core.Bool.{Bool, true, false, not, cond, ◌&&◌}
use mathlib.Core.List.{List, [], ◌∷◌, ◌++◌}
use Rattle.std.proofs.Common.{Option, None, Some, unwrap_or}
use lib.ListN.{length, replicate}
use lib.Dec.{T, eqb, lit≤, lit<}
use lib.Ieee.{Float, nan, inf, fin, is_nan, of_bits, to_bits, round, binary32}
use lib.Ieee.Bits.{of_bits-fits, to_bits-of_bits}
use lib.Ieee.Exact.{HasValue}
use borrow.Author.Tests.{eqb-true, le-leb, le-ltb}
use Rattle.util.specs.Eighths.{whole, eighths, float_of_count}
use Rattle.util.proofs.Unique.{counts, count_float}
use Rattle.boxlist_lines.specs.Column.{COLUMN, cells, count_ink, code_ink, eighths_text, code_text}
use Rattle.screen_fields.specs.declared.format.Kind.TheVariants.{Code, Eighths}
use Rattle.screen_fields.specs.Format.{COLUMNS}
use Rattle.screen_fields.specs.Field.{unblank, is_digit, spelled, spelled_size, unsigned, signed, numeral_of, code_of, present_word, float_of, word_of}
use Rattle.screen_fields.specs.Laws.{all_digits, decimal, minus, plus, none, Spelling, FieldShape, NoTrailingBlank, SignedZero, CodeBack, CountBack, FloatBack, ZeroBack, ListedCount, ListedCode}
use Rattle.screen_fields.proofs.Back.{no_number, both_told, digits, plain_back, minus_back}

-- ---- the shape of a field

spelled_shape : (bs : List ℕ) (v n : ℕ) → spelled v bs ≡ Some n → (all_digits bs ≡ true) × (decimal v bs ≡ n)
unfolding spelled all_digits decimal
spelled_shape [] v n e = (refl, ap (λ (o : Option ℕ). unwrap_or o 0) e)
spelled_shape (b ∷ bs) v n e = go (is_digit b) (spelled_shape bs (v * 10 + (b - 48)) n) e
  where
    go : (c : Bool) → (spelled (v * 10 + (b - 48)) bs ≡ Some n → (all_digits bs ≡ true) × (decimal (v * 10 + (b - 48)) bs ≡ n))
        → cond c (spelled (v * 10 + (b - 48)) bs) None ≡ Some n → ((c && all_digits bs) ≡ true) × (decimal (v * 10 + (b - 48)) bs ≡ n)
    go true f e = f e
    go false f e = cc

unsigned_shape : (bs : List ℕ) (s t : Bool) (n : ℕ) → unsigned s bs ≡ whole t n → (s ≡ t) × (0 < length bs) × (all_digits bs ≡ true) × (decimal 0 bs ≡ n)
unfolding unsigned spelled_size
unsigned_shape [] s t n e = absurd (no_number t n e)
unsigned_shape (b ∷ bs) s t n e = let r = both_told (spelled 0 (b ∷ bs)) s t n e in let d = spelled_shape (b ∷ bs) 0 n r.1 in (r.0, zero-lt-suc (length bs), d.0, d.1)

signed_shape : (k : ℕ) (bs all : List ℕ) (t : Bool) (n : ℕ) → all ≡ replicate k 32 ++ bs → signed bs ≡ whole t n → Spelling all t n
unfolding signed
signed_shape k [] all t n w e = absurd (no_number t n e)
signed_shape k (b ∷ bs) all t n w e = go (eqb b 45) refl (eqb b 43) refl e
  where
    go : (c : Bool) → eqb b 45 ≡ c → (d : Bool) → eqb b 43 ≡ d
        → cond c (unsigned true bs) (cond d (unsigned false bs) (unsigned false (b ∷ bs))) ≡ whole t n → Spelling all t n
    go true p d q e =
        let r = unsigned_shape bs true t n e in
        record { blanks = k; sign = 45 ∷ []; digits = bs; whole = w ∙ rw (eqb-true b 45 p) refl; signed = rw (sym r.0) minus; some = r.1; all = r.2; value = r.3 }
    go false p true q e =
        let r = unsigned_shape bs false t n e in
        record { blanks = k; sign = 43 ∷ []; digits = bs; whole = w ∙ rw (eqb-true b 43 q) refl; signed = rw (sym r.0) plus; some = r.1; all = r.2; value = r.3 }
    go false p false q e =
        let r = unsigned_shape (b ∷ bs) false t n e in
        record { blanks = k; sign = []; digits = b ∷ bs; whole = w; signed = rw (sym r.0) none; some = r.1; all = r.2; value = r.3 }

unblank_shape : (bs all : List ℕ) (k : ℕ) (t : Bool) (n : ℕ) → all ≡ replicate k 32 ++ bs → signed (unblank bs) ≡ whole t n → Spelling all t n
unfolding unblank
unblank_shape [] all k t n w e = signed_shape k [] all t n w e
unblank_shape (b ∷ bs) all k t n w e = go (eqb b 32) refl (unblank_shape bs all (suc k) t n) e
  where
    one_more : (k : ℕ) (bs : List ℕ) → replicate k 32 ++ (32 ∷ bs) ≡ replicate (suc k) 32 ++ bs
    one_more zero bs = refl
    one_more (suc k) bs = ap (λ (l : List ℕ). 32 ∷ l) (one_more k bs)

    go : (c : Bool) → eqb b 32 ≡ c → (all ≡ replicate (suc k) 32 ++ bs → signed (unblank bs) ≡ whole t n → Spelling all t n)
        → signed (cond c (unblank bs) (b ∷ bs)) ≡ whole t n → Spelling all t n
    go true p f e = f (w ∙ rw (eqb-true b 32 p) (one_more k bs)) e
    go false p f e = signed_shape k (b ∷ bs) all t n w e

pub field_shape : FieldShape
unfolding numeral_of
field_shape bs s n e = unblank_shape bs bs 0 s n refl e

-- ---- a trailing blank

spelled_blank : (xs : List ℕ) (v : ℕ) → spelled v (xs ++ (32 ∷ [])) ≡ None
unfolding spelled is_digit
spelled_blank [] v = refl
spelled_blank (x ∷ xs) v = go (is_digit x) (spelled_blank xs (v * 10 + (x - 48)))
  where
    go : (c : Bool) → spelled (v * 10 + (x - 48)) (xs ++ (32 ∷ [])) ≡ None → cond c (spelled (v * 10 + (x - 48)) (xs ++ (32 ∷ []))) None ≡ None
    go true e = e
    go false e = refl

unsigned_blank : (xs : List ℕ) (s : Bool) → unsigned s (xs ++ (32 ∷ [])) ≡ None
unfolding unsigned spelled_size
unsigned_blank [] s = rw (spelled_blank [] 0) refl
unsigned_blank (x ∷ xs) s = rw (spelled_blank (x ∷ xs) 0) refl

signed_blank : (x : ℕ) (xs : List ℕ) → signed (x ∷ (xs ++ (32 ∷ []))) ≡ None
unfolding signed
signed_blank x xs = go (eqb x 45) (eqb x 43)
  where
    go : (c d : Bool) → cond c (unsigned true (xs ++ (32 ∷ []))) (cond d (unsigned false (xs ++ (32 ∷ []))) (unsigned false (x ∷ (xs ++ (32 ∷ []))))) ≡ None
    go true d = unsigned_blank xs true
    go false true = unsigned_blank xs false
    go false false = unsigned_blank (x ∷ xs) false

pub no_trailing_blank : NoTrailingBlank
unfolding numeral_of unblank signed
no_trailing_blank [] = refl
no_trailing_blank (b ∷ bs) = go (eqb b 32) (no_trailing_blank bs)
  where
    go : (c : Bool) → signed (unblank (bs ++ (32 ∷ []))) ≡ None → signed (cond c (unblank (bs ++ (32 ∷ []))) (b ∷ (bs ++ (32 ∷ [])))) ≡ None
    go true e = e
    go false e = signed_blank b bs

zero_word : to_bits binary32 (eighths false 0) ≡ 0
zero_word = unfold eighths to_bits round in refl

minus_zero_word : to_bits binary32 (eighths true 0) ≡ 0
minus_zero_word = unfold eighths to_bits round in refl

pub signed_zero : SignedZero
unfolding word_of code_of float_of present_word float_of_count numeral_of unblank signed unsigned spelled_size spelled is_digit
signed_zero Code = (refl, refl)
signed_zero Eighths = (ap Some minus_zero_word, ap Some zero_word)

-- ---- written and read back

pub code_back : CodeBack
unfolding word_of code_of
code_back w h = rw (plain_back 10 w (lt_of_le_of_lt h (lit< tt))) (rw (le-leb w 4294967295 h) refl)

number_back : (s : Bool) (n : ℕ) → n ≤ 9999999 → numeral_of (cells COLUMNS (digits s n)) ≡ whole s n
number_back true n h = minus_back 9 n (lt_of_le_of_lt h (lit< tt))
number_back false n h = plain_back 10 n (lt_of_le_of_lt h (lit< tt))

pub count_back : CountBack
unfolding word_of float_of float_of_count present_word
count_back s n h = rw (number_back s n h) (rw (le-ltb 9999999 n h) refl)

pub float_back : FloatBack
unfolding count_ink is_nan
float_back w s n h e z =
    let c = counts (of_bits binary32 w) s n e in
    rw (e, count_back s n c.small, count_float (of_bits binary32 w) s n (of_bits-fits binary32 w) e z)
    (ap Some (to_bits-of_bits binary32 w h (number (of_bits binary32 w) (c.value z))))
  where
    number : (x : Float) → HasValue x s n 8 → T (not (is_nan x))
    number nan v = absurd v
    number (inf t) v = tt
    number (fin t m e) v = tt

pub zero_back : ZeroBack
unfolding count_ink
zero_back w s e =
    let p = (counts (of_bits binary32 w) s 0 e).plain refl in
    rw (e, p, count_back false 0 (lit≤ tt)) (ap Some zero_word)

-- ---- the columns of the list

listed : (s : Bool) (n : ℕ) → n ≤ 9999999 → numeral_of (cells COLUMN (digits s n)) ≡ whole s n
listed true n h = minus_back 6 n (lt_of_le_of_lt h (lit< tt))
listed false n h = plain_back 7 n (lt_of_le_of_lt h (lit< tt))

pub listed_count : ListedCount
unfolding eighths_text count_ink
listed_count x s n e = rw e (listed s n (counts x s n e).small)

pub listed_code : ListedCode
unfolding code_text code_ink
listed_code n h = rw (le-leb n 9999999 h) (listed false n h)
