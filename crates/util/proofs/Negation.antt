-- The negative of a float: order is turned round. Assumes nothing.
use borrow.Author.Rules.{rules}
use Rattle.std.proofs.Common.{◌≡◌, ℕ, zero, suc, ◌+◌, ◌*◌, Bool, true, false, not, ltb, refl, ap, ◌∙◌, arith}
use Rattle.std.proofs.Math.Bool.{and_comm}
use lib.Ieee.{Float, nan, inf, fin, up, down, lt, le, neg, is_nan, below, fits, binary32}
use lib.Dec.{not_T}
use lib.Ieee.Bits.{is_true, is_false}
use Rattle.util.proofs.Order.{le_numbers, not_lt_le, not_above_lem}
use Rattle.util.specs.Order.{before, zero_of}

neg_below : (s : Bool) (a : ℕ) (t : Bool) (b : ℕ) → below (not s) a (not t) b ≡ below t b s a
neg_below false a false b = refl
neg_below false a true b = ap (λ (n : ℕ). ltb 0 n) (swap a b)
  where
    swap : (a b : ℕ) → a + b ≡ b + a
    swap a b = omega arith
neg_below true a false b = refl
neg_below true a true b = refl

neg_lt : (x y : Float) → lt (neg x) (neg y) ≡ lt y x
unfolding lt neg
neg_lt nan nan = refl
neg_lt nan (inf t) = refl
neg_lt nan (fin t n d) = refl
neg_lt (inf s) nan = refl
neg_lt (inf true) (inf true) = refl
neg_lt (inf true) (inf false) = refl
neg_lt (inf false) (inf true) = refl
neg_lt (inf false) (inf false) = refl
neg_lt (inf s) (fin t n d) = refl
neg_lt (fin s m e) nan = refl
neg_lt (fin s m e) (inf true) = refl
neg_lt (fin s m e) (inf false) = refl
neg_lt (fin s m e) (fin t n d) = neg_below s (m * up e * down d) t (n * up d * down e)

neg_zero : (s : Bool) (x : Float) → zero_of s (neg x) ≡ zero_of (not s) x
unfolding zero_of neg
neg_zero s nan = refl
neg_zero s (inf t) = refl
neg_zero true (fin true zero e) = refl
neg_zero true (fin false zero e) = refl
neg_zero false (fin true zero e) = refl
neg_zero false (fin false zero e) = refl
neg_zero s (fin t (suc m) e) = refl

pub neg_nan : (x : Float) → is_nan (neg x) ≡ is_nan x
unfolding is_nan neg
neg_nan nan = refl
neg_nan (inf s) = refl
neg_nan (fin s m e) = refl

pub neg_neg : (x : Float) → neg (neg x) ≡ x
unfolding neg
neg_neg nan = refl
neg_neg (inf true) = refl
neg_neg (inf false) = refl
neg_neg (fin true m e) = refl
neg_neg (fin false m e) = refl

-- an f32 holds the negative of what it holds, and of nothing else
pub neg_fits : (x : Float) → fits binary32 (neg x) ≡ fits binary32 x
unfolding fits neg
neg_fits x = search rules

pub neg_before : (a b : Float) → before (neg a) (neg b) ≡ before b a
unfolding before
neg_before a b = rw (neg_lt a b, neg_zero true a, neg_zero false b, and_comm (zero_of false a) (zero_of true b)) refl

pub neg_le : (x y : Float) → le x y ≡ true → le (neg y) (neg x) ≡ true
neg_le x y h =
    let n = le_numbers x y h in
    not_lt_le (neg y) (neg x) (neg_nan y ∙ n.1) (neg_nan x ∙ n.0) (neg_lt x y ∙ is_false _ (not_T (lt y x) (λ l. not_above_lem y x (is_true _ l) h)))
