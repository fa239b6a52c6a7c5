-- A clamp that is done changes nothing when done again. Assumes nothing.
use borrow.Author.Rules.{rules}
use Rattle.std.proofs.lemmas.Bool.{and_parts}
use Rattle.std.specs.Prelude.{None, Some}
use mathlib.Core.Path.{◌≡◌, refl, sym, ap, ◌∙◌}
use mathlib.Core.Logic.{◌⊎◌, inl, inr}
use mathlib.Core.Bool.{Bool, true, false, false≢true}
use lib.Ieee.{Float, nan, lt, is_nan}
use Rattle.util.specs.Order.{zero_of, before, larger, smaller}
use Rattle.util.specs.Maybe.{at_most, at_least, clamped}
use Rattle.util.proofs.Floats.{is_nan_lem}
use Rattle.util.proofs.Laws.{larger_is_one, smaller_is_one, only_two_nans, within_stays}
use Rattle.util.proofs.Order.{one_before}
use Rattle.oof_box_laws.specs.Laws.{ClampIsSettled}

before_nan : (x : Float) → before x nan ≡ false
unfolding before lt zero_of
before_nan x = search rules

nan_before : (x : Float) → before nan x ≡ false
unfolding before lt zero_of
nan_before x = refl

not_itself : (x : Float) → before x x ≡ false
not_itself x = go (before x x) refl
  where
    go : (b : Bool) → before x x ≡ b → b ≡ false
    go true e = absurd (one_before x x e e)
    go false e = refl

larger_not_before : (a b : Float) → before (larger a b) b ≡ false
unfolding larger
larger_not_before a b = search (rules, before_nan, is_nan_lem, not_itself)

not_before_smaller : (a b : Float) → before b (smaller a b) ≡ false
unfolding smaller
not_before_smaller a b = search (rules, is_nan_lem, nan_before, not_itself)

-- a min above max
min_again : (low high : Float) → is_nan low ≡ false → before high low ≡ true → larger (smaller low high) low ≡ low
unfolding larger smaller
min_again low high n b = search (rules, not_itself)

nans : larger (smaller (larger (smaller nan nan) nan) nan) nan ≡ larger (smaller nan nan) nan
unfolding larger smaller is_nan
nans = refl

within_bounds : (c low high : Float) → is_nan c ≡ false → before c low ≡ false → before high c ≡ false → larger (smaller c high) low ≡ c
unfolding clamped at_most at_least
within_bounds c low high n p q = within_stays c low high n p q

both_bounds : (x low high : Float) → larger (smaller (larger (smaller x high) low) high) low ≡ larger (smaller x high) low
both_bounds x low high = go (is_nan (larger (smaller x high) low)) refl (before high (larger (smaller x high) low)) refl (larger_is_one (smaller x high) low)
  where
    go : (n : Bool) → is_nan (larger (smaller x high) low) ≡ n → (b : Bool) → before high (larger (smaller x high) low) ≡ b → (larger (smaller x high) low ≡ smaller x high) ⊎ (larger (smaller x high) low ≡ low)
        → larger (smaller (larger (smaller x high) low) high) low ≡ larger (smaller x high) low
    go true n b f o =
        let t = and_parts (is_nan (smaller x high)) (is_nan low) (sym (only_two_nans (smaller x high) low).0 ∙ n) in
        let u = and_parts (is_nan x) (is_nan high) (sym (only_two_nans x high).1 ∙ t.0) in
        rw (is_nan_lem low t.1, is_nan_lem x u.0, is_nan_lem high u.1) nans
    go false n false f o = within_bounds (larger (smaller x high) low) low high n (larger_not_before (smaller x high) low) f
    go false n true f (inl e) = absurd (false≢true (sym (not_before_smaller x high) ∙ ap (λ (z : Float). before high z) (sym e) ∙ f))
    go false n true f (inr e) = rw e (min_again low high (ap is_nan (sym e) ∙ n) (ap (λ (z : Float). before high z) (sym e) ∙ f))

one_of : (x y : Float) → (x ≡ y) ⊎ (x ≡ y) → x ≡ y
one_of x y (inl e) = e
one_of x y (inr e) = e

smaller_twice : (x high : Float) → smaller (smaller x high) high ≡ smaller x high
smaller_twice x high = search (rules, one_of, smaller_is_one)

larger_twice : (x low : Float) → larger (larger x low) low ≡ larger x low
larger_twice x low = search (rules, larger_is_one, one_of)

pub clamp_is_settled : ClampIsSettled
unfolding clamped at_most at_least
clamp_is_settled x None None = refl
clamp_is_settled x None (Some high) = smaller_twice x high
clamp_is_settled x (Some low) None = larger_twice x low
clamp_is_settled x (Some low) (Some high) = both_bounds x low high
