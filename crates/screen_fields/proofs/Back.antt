-- A number in a column is read back. Assumes nothing.
use Rattle.util.specs.Eighths.{whole}
use Prim.Native.Nat.{ℕ, zero, suc, ◌+◌, ◌-◌, ◌*◌, ◌/◌, ◌%◌, ◌^◌, ◌<◌, ◌≤◌}
use native.Mathlib.Omega.{arith}
use native.Mathlib.Nat.{mod-eq_of_lt, pow-suc}
use mathlib.Core.Path.{◌≡◌, refl, ap, ◌∙◌}
use mathlib.Core.Bool.{Bool, true, false, cond}
use mathlib.Core.List.{List, [], ◌∷◌, ◌++◌, append_assoc}
use Rattle.std.proofs.Common.{Option, None, Some, unwrap_or, option_map}
use Rattle.std.proofs.lemmas.Nat.{mod_below}
use Rattle.util.specs.declared.eighths.Count.{Count}
use lib.Dec.{lit<, eqb, leb}
use borrow.Author.Tests.{ne_eqb, le-leb, lt-leb, leb-true, leb-false}
use Rattle.boxlist_lines.specs.declared.Ink.{Ink}
use Rattle.boxlist_lines.specs.declared.Ink.TheVariants.{Digits, Blank}
use Rattle.boxlist_lines.specs.Column.{cells, cell_of, left_of}
use Rattle.screen_fields.specs.Field.{is_digit, unblank, spelled, spelled_size, unsigned, signed, numeral_of}

pub no_number : (s : Bool) (v : ℕ) → None ≡ whole s v → ⊥
no_number s v e = cc

-- a number tells its sign and its size
same_sign : (s t : Bool) (v n : ℕ) → whole s v ≡ whole t n → s ≡ t
same_sign s t v n e = ap (λ (o : Option Count). (unwrap_or o (record { negative = s; size = v })).negative) e

same_size : (s t : Bool) (v n : ℕ) → whole s v ≡ whole t n → v ≡ n
same_size s t v n e = ap (λ (o : Option Count). (unwrap_or o (record { negative = s; size = v })).size) e

-- a number to print, by its sign and its size
abbrev pub digits : Bool → ℕ → Ink
digits s n = Digits (record { negative = s; size = n })

-- a size with a sign beside it tells both
pub both_told : (o : Option ℕ) (s t : Bool) (n : ℕ) → option_map (λ size. record { negative = s; size = size }) o ≡ whole t n → (s ≡ t) × (o ≡ Some n)
both_told None s t n e = absurd (no_number t n e)
both_told (Some v) s t n e = (same_sign s t v n e, ap Some (same_size s t v n e))

-- ---- one digit more

spelled_more : (b : ℕ) → is_digit b ≡ true → (u : ℕ) (xs : List ℕ) (v : ℕ) → spelled v xs ≡ Some u → spelled v (xs ++ (b ∷ [])) ≡ Some (u * 10 + (b - 48))
unfolding spelled
spelled_more b d u [] v e = rw d (ap (λ (o : Option ℕ). Some (unwrap_or o 0 * 10 + (b - 48))) e)
spelled_more b d u (x ∷ xs) v e = go (is_digit x) (spelled_more b d u xs (v * 10 + (x - 48))) e
  where
    go : (c : Bool) → (spelled (v * 10 + (x - 48)) xs ≡ Some u → spelled (v * 10 + (x - 48)) (xs ++ (b ∷ [])) ≡ Some (u * 10 + (b - 48)))
        → cond c (spelled (v * 10 + (x - 48)) xs) None ≡ Some u → cond c (spelled (v * 10 + (x - 48)) (xs ++ (b ∷ []))) None ≡ Some (u * 10 + (b - 48))
    go true f e = f e
    go false f e = cc

size_more : (b : ℕ) → is_digit b ≡ true → (u : ℕ) (xs : List ℕ) → spelled_size xs ≡ Some u → spelled_size (xs ++ (b ∷ [])) ≡ Some (u * 10 + (b - 48))
unfolding spelled_size
size_more b d u [] e = cc
size_more b d u (x ∷ xs) e = spelled_more b d u (x ∷ xs) 0 e

module _ (b : ℕ) (d : is_digit b ≡ true) (t : Bool) (u : ℕ) where
  unsigned_more : (xs : List ℕ) (s : Bool) → unsigned s xs ≡ whole t u → unsigned s (xs ++ (b ∷ [])) ≡ whole t (u * 10 + (b - 48))
  unfolding unsigned
  unsigned_more xs s e = let r = both_told (spelled_size xs) s t u e in rw (size_more b d u xs r.1, r.0) refl

  signed_more : (xs : List ℕ) → signed xs ≡ whole t u → signed (xs ++ (b ∷ [])) ≡ whole t (u * 10 + (b - 48))
  unfolding signed
  signed_more [] e = absurd (no_number t u e)
  signed_more (x ∷ xs) e = go (eqb x 45) (eqb x 43) e
    where
      go : (c c' : Bool) → cond c (unsigned true xs) (cond c' (unsigned false xs) (unsigned false (x ∷ xs))) ≡ whole t u
          → cond c (unsigned true (xs ++ (b ∷ []))) (cond c' (unsigned false (xs ++ (b ∷ []))) (unsigned false (x ∷ xs ++ (b ∷ [])))) ≡ whole t (u * 10 + (b - 48))
      go true c' e = unsigned_more xs true e
      go false true e = unsigned_more xs false e
      go false false e = unsigned_more (x ∷ xs) false e

  field_more : (xs : List ℕ) → numeral_of xs ≡ whole t u → numeral_of (xs ++ (b ∷ [])) ≡ whole t (u * 10 + (b - 48))
  unfolding numeral_of unblank signed
  field_more [] e = absurd (no_number t u e)
  field_more (x ∷ xs) e = go (eqb x 32) (field_more xs) e
    where
      go : (c : Bool) → (signed (unblank xs) ≡ whole t u → signed (unblank (xs ++ (b ∷ []))) ≡ whole t (u * 10 + (b - 48)))
          → signed (cond c (unblank xs) (x ∷ xs)) ≡ whole t u → signed (cond c (unblank (xs ++ (b ∷ []))) (x ∷ xs ++ (b ∷ []))) ≡ whole t (u * 10 + (b - 48))
      go true f e = f e
      go false f e = signed_more (x ∷ xs) e

-- ---- blanks, a sign and the first digit

digit_is : (d : ℕ) → d < 10 → is_digit (48 + d) ≡ true
unfolding is_digit
digit_is d h = rw (le-leb 48 (48 + d) (omega arith), le-leb (48 + d) 57 (omega arith)) refl

one_digit : (d : ℕ) (s : Bool) → d < 10 → unsigned s ((48 + d) ∷ []) ≡ whole s d
unfolding unsigned spelled_size spelled
one_digit d s h = rw (digit_is d h) (ap (whole s) (value d))
  where
    value : (d : ℕ) → 0 * 10 + (48 + d - 48) ≡ d
    value d = omega arith

module _ (d : ℕ) (h : d < 10) where
  plain : numeral_of ((48 + d) ∷ []) ≡ whole false d
  unfolding numeral_of unblank signed
  plain = rw (ne_eqb (48 + d) 32 (λ e. omega arith)) (rw (ne_eqb (48 + d) 45 (λ e. omega arith), ne_eqb (48 + d) 43 (λ e. omega arith)) (one_digit d false h))

  minus : numeral_of (45 ∷ (48 + d) ∷ []) ≡ whole true d
  unfolding numeral_of unblank signed
  minus = one_digit d true h

passed : (xs : List ℕ) → numeral_of (32 ∷ xs) ≡ numeral_of xs
unfolding numeral_of unblank
passed xs = refl

-- blanks in front are passed over
blanks : (w : ℕ) (xs : List ℕ) → numeral_of (cells w Blank ++ xs) ≡ numeral_of xs
unfolding cells left_of cell_of
blanks zero xs = refl
blanks (suc w) xs = rw (append_assoc (cells w Blank) (32 ∷ []) xs) (blanks w (32 ∷ xs) ∙ passed xs)

-- ---- the back_whole number

back_whole : (n : ℕ) → n / 10 * 10 + (48 + n % 10 - 48) ≡ n
back_whole n = omega arith

shorter : (n k : ℕ) → n < 10 ^ suc k → n / 10 < 10 ^ k
shorter n k h = let e : 10 ^ suc k ≡ 10 ^ k * 10 = pow-suc 10 k in omega arith

-- one cell more: either a digit after a number, or the first digit
longer : (s : Bool) (n w : ℕ) → 10 ≤ n → numeral_of (cells w (digits s (n / 10))) ≡ whole s (n / 10) → numeral_of (cells (suc w) (digits s n)) ≡ whole s n
unfolding cells left_of cell_of
longer s n w h e =
    rw (le-leb 10 n h) (field_more (48 + n % 10) (digit_is (n % 10) (mod_below n 10 (lit< tt))) s (n / 10) (cells w (digits s (n / 10))) e ∙ ap (whole s) (back_whole n))

first_plain : (n w : ℕ) → n < 10 → numeral_of (cells (suc w) (digits false n)) ≡ whole false n
unfolding cells left_of cell_of
first_plain n w h = rw (lt-leb 10 n h) (blanks w ((48 + n % 10) ∷ []) ∙ plain (n % 10) (mod_below n 10 (lit< tt)) ∙ ap (whole false) (mod-eq_of_lt h))

first_minus : (n w : ℕ) → n < 10 → numeral_of (cells (suc (suc w)) (digits true n)) ≡ whole true n
unfolding cells left_of cell_of
first_minus n w h =
    rw (lt-leb 10 n h)
    (rw (append_assoc (cells w Blank) (45 ∷ []) ((48 + n % 10) ∷ [])) (blanks w (45 ∷ (48 + n % 10) ∷ []) ∙ minus (n % 10) (mod_below n 10 (lit< tt)) ∙ ap (whole true) (mod-eq_of_lt h)))

pub plain_back : (w n : ℕ) → n < 10 ^ suc w → numeral_of (cells (suc w) (digits false n)) ≡ whole false n
plain_back zero n h = first_plain n zero h
plain_back (suc w) n h = go (leb 10 n) refl (plain_back w (n / 10) (shorter n (suc w) h))
  where
    go : (b : Bool) → leb 10 n ≡ b → numeral_of (cells (suc w) (digits false (n / 10))) ≡ whole false (n / 10) → numeral_of (cells (suc (suc w)) (digits false n)) ≡ whole false n
    go true p e = longer false n (suc w) (leb-true 10 n p) e
    go false p e = first_plain n (suc w) (leb-false 10 n p)

pub minus_back : (w n : ℕ) → n < 10 ^ suc w → numeral_of (cells (suc (suc w)) (digits true n)) ≡ whole true n
minus_back zero n h = first_minus n zero h
minus_back (suc w) n h = go (leb 10 n) refl (minus_back w (n / 10) (shorter n (suc w) h))
  where
    go : (b : Bool) → leb 10 n ≡ b → numeral_of (cells (suc (suc w)) (digits true (n / 10))) ≡ whole true (n / 10) → numeral_of (cells (suc (suc (suc w))) (digits true n)) ≡ whole true n
    go true p e = longer true n (suc (suc w)) (leb-true 10 n p) e
    go false p e = first_minus n (suc w) (leb-false 10 n p)
