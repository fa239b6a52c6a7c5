-- The laws of `specs/Laws.antt`. Assumes nothing.
use Prim.Native.Nat.{ℕ, zero, suc, ◌+◌, ◌*◌, ◌/◌, ◌%◌, ◌<◌, ◌≤◌}
use native.Mathlib.Omega.{arith}
use native.Mathlib.Nat.{mul-zero, mul-one}
use mathlib.Core.Path.{◌≡◌, refl, sym, ap, ◌∙◌}
use mathlib.Core.Bool.{Bool, true, false, cond, ◌||◌}
use lib.Dec.{eqb, lit<}
use lib.Ieee.{Float}
use borrow.Author.Tests.{eqb-true, ne_eqb}
use Rattle.std.proofs.lemmas.Nat.{mod_below}
use Rattle.style.specs.declared.resolve.Field.{Field}
use Rattle.style.specs.declared.resolve.Field.TheVariants as field
use Rattle.style.specs.declared.resolve.Resolved.{Resolved}
use Rattle.style.specs.declared.resolve.Resolved.TheVariants.{NotAllowed, Absent, Length, Keyword}
use Rattle.style.specs.declared.BoxSizing.{BoxSizing}
use Rattle.style.specs.declared.BoxSizing.TheVariants.{BorderBox, ContentBox}
use Rattle.style.specs.declared.Overflow.{Overflow}
use Rattle.style.specs.declared.Overflow.TheVariants.{Visible, Clip, Hidden, Scroll}
use Rattle.style.specs.declared.Direction.{Direction}
use Rattle.style.specs.declared.Direction.TheVariants.{Ltr, Rtl}
use Rattle.style.specs.declared.alignment.AlignItemsKeyword.{AlignItemsKeyword}
use Rattle.style.specs.declared.alignment.AlignItemsKeyword.TheVariants as keyword
use Rattle.style.specs.declared.alignment.AlignmentSafety.{AlignmentSafety}
use Rattle.style.specs.declared.alignment.AlignmentSafety.TheVariants.{Default, Unsafe, Safe}
use Rattle.style.specs.Resolve.{by_tag, without_keyword, resolved, is_allowed, takes, value_of, maybe_resolved}
use Rattle.style.specs.Values.{is_self_relative, keyword_relative, self_relative}
use Rattle.style.specs.Codes.{sizing_code, overflow_code, direction_code, safety_code, keyword_code, bits_code, sizing_of, overflow_of, direction_of, safety_of, keyword_of, bit0, bit1}
use Rattle.style.specs.Laws.{AdmissionIsOfTheTag, TakesItsTags, tags_of, among, PercentInEveryField, SumInEveryField, SumIsANumber, SecondIsOfSums, SizingCodes, OverflowCodes, DirectionCodes, SafetyCodes, KeywordCodes, BitsCodes, SelfRelativeIsResolved}

-- ---- tags

allowed_cond : (b : Bool) (x y : Resolved) → is_allowed (cond b x y) ≡ cond b (is_allowed x) (is_allowed y)
allowed_cond true x y = refl
allowed_cond false x y = refl

either : (b c : Bool) → cond b true c ≡ (b || c)
either true c = refl
either false c = refl

-- a keyword that has no value is taken all the same
taken_without : (r : Resolved) → is_allowed (without_keyword r) ≡ is_allowed r
taken_without NotAllowed = refl
taken_without Absent = refl
taken_without (Length x) = refl
taken_without (Keyword k) = refl

-- where a tag is no 3, the test for 3 has no say; where it is 3, it is none of the others
no_auto : (tag : ℕ) (b : Bool) → eqb tag 3 ≡ b → (eqb tag 1 || cond b false (eqb tag 5 || (eqb tag 129 || false))) ≡ (eqb tag 1 || (eqb tag 5 || (eqb tag 129 || false)))
no_auto tag true e = rw (eqb-true tag 3 e) refl
no_auto tag false e = refl

allowed_by_tag : (f : Field) (tag : ℕ) (value second basis : Float) → is_allowed (by_tag f tag value second basis) ≡ among (tags_of f) tag
unfolding by_tag among
allowed_by_tag field.InsetOrMargin tag value second basis = simp (allowed_cond, either)
allowed_by_tag field.PaddingOrBorder tag value second basis = simp (allowed_cond, either) (no_auto tag (eqb tag 3) refl)
allowed_by_tag field.Size tag value second basis = simp (allowed_cond, either)
allowed_by_tag field.MinOrMax tag value second basis = simp (allowed_cond, taken_without, either)

pub takes_its_tags : TakesItsTags
unfolding takes resolved
takes_its_tags f tag = allowed_by_tag f tag _ _ _

pub admission_is_of_the_tag : AdmissionIsOfTheTag
unfolding takes resolved
admission_is_of_the_tag f l basis = allowed_by_tag f l.tag _ _ _ ∙ sym (allowed_by_tag f l.tag _ _ _)

-- ---- percentages and sums

pub percent_in_every_field : PercentInEveryField
unfolding resolved by_tag
percent_in_every_field f l basis e = rw e refl

pub sum_in_every_field : SumInEveryField
unfolding resolved by_tag
sum_in_every_field f l basis e = rw e refl

pub sum_is_a_number : SumIsANumber
unfolding maybe_resolved
sum_is_a_number f l basis e = ap value_of (sum_in_every_field f l basis e)

pub second_is_of_sums : SecondIsOfSums
unfolding resolved by_tag
second_is_of_sums f l l' basis other same alike = rw (same, alike) (rw (ne_eqb l'.tag 129 (λ e. other (same ∙ e))) refl)

-- ---- codes

sizing_there : (x : BoxSizing) → sizing_of (sizing_code x) ≡ x
unfolding sizing_code sizing_of
sizing_there BorderBox = refl
sizing_there ContentBox = refl

sizing_back : (n : ℕ) → n ≤ 1 → sizing_code (sizing_of n) ≡ n
unfolding sizing_code sizing_of
sizing_back zero h = refl
sizing_back (suc zero) h = refl
sizing_back (suc (suc n)) h = absurd (omega (arith, h))

pub sizing_codes : SizingCodes
sizing_codes = (sizing_there, sizing_back)

overflow_there : (x : Overflow) → overflow_of (overflow_code x) ≡ x
unfolding overflow_code overflow_of
overflow_there Visible = refl
overflow_there Clip = refl
overflow_there Hidden = refl
overflow_there Scroll = refl

overflow_back : (n : ℕ) → n ≤ 3 → overflow_code (overflow_of n) ≡ n
unfolding overflow_code overflow_of
overflow_back zero h = refl
overflow_back (suc zero) h = refl
overflow_back (suc (suc zero)) h = refl
overflow_back (suc (suc (suc zero))) h = refl
overflow_back (suc (suc (suc (suc n)))) h = absurd (omega (arith, h))

pub overflow_codes : OverflowCodes
overflow_codes = (overflow_there, overflow_back)

direction_there : (x : Direction) → direction_of (direction_code x) ≡ x
unfolding direction_code direction_of
direction_there Ltr = refl
direction_there Rtl = refl

direction_back : (n : ℕ) → n ≤ 1 → direction_code (direction_of n) ≡ n
unfolding direction_code direction_of
direction_back zero h = refl
direction_back (suc zero) h = refl
direction_back (suc (suc n)) h = absurd (omega (arith, h))

pub direction_codes : DirectionCodes
direction_codes = (direction_there, direction_back)

safety_there : (x : AlignmentSafety) → safety_of (safety_code x) ≡ x
unfolding safety_code safety_of
safety_there Default = refl
safety_there Unsafe = refl
safety_there Safe = refl

safety_back : (n : ℕ) → n ≤ 2 → safety_code (safety_of n) ≡ n
unfolding safety_code safety_of
safety_back zero h = refl
safety_back (suc zero) h = refl
safety_back (suc (suc zero)) h = refl
safety_back (suc (suc (suc n))) h = absurd (omega (arith, h))

pub safety_codes : SafetyCodes
safety_codes = (safety_there, safety_back)

keyword_there : (x : AlignItemsKeyword) → keyword_of (keyword_code x) ≡ x
unfolding keyword_code keyword_of
keyword_there keyword.Normal = refl
keyword_there keyword.Start = refl
keyword_there keyword.End = refl
keyword_there keyword.FlexStart = refl
keyword_there keyword.FlexEnd = refl
keyword_there keyword.SelfStart = refl
keyword_there keyword.SelfEnd = refl
keyword_there keyword.Center = refl
keyword_there keyword.Baseline = refl
keyword_there keyword.Stretch = refl

keyword_back : (n : ℕ) → n ≤ 9 → keyword_code (keyword_of n) ≡ n
unfolding keyword_code keyword_of
keyword_back zero h = refl
keyword_back (suc zero) h = refl
keyword_back (suc (suc zero)) h = refl
keyword_back (suc (suc (suc zero))) h = refl
keyword_back (suc (suc (suc (suc zero)))) h = refl
keyword_back (suc (suc (suc (suc (suc zero))))) h = refl
keyword_back (suc (suc (suc (suc (suc (suc zero)))))) h = refl
keyword_back (suc (suc (suc (suc (suc (suc (suc zero))))))) h = refl
keyword_back (suc (suc (suc (suc (suc (suc (suc (suc zero)))))))) h = refl
keyword_back (suc (suc (suc (suc (suc (suc (suc (suc (suc zero))))))))) h = refl
keyword_back (suc (suc (suc (suc (suc (suc (suc (suc (suc (suc n)))))))))) h = absurd (omega (arith, h))

pub keyword_codes : KeywordCodes
keyword_codes = (keyword_there, keyword_back)

bits_there : (low high : Bool) → (bit0 (bits_code low high) ≡ low) × (bit1 (bits_code low high) ≡ high)
unfolding bits_code
bits_there true true = (refl, refl)
bits_there true false = (refl, refl)
bits_there false true = (refl, refl)
bits_there false false = (refl, refl)

-- what a binary digit of a weight stands for
weight : (v m : ℕ) → m < 2 → cond (eqb m 1) v 0 ≡ v * m
weight v zero h = sym (mul-zero v)
weight v (suc zero) h = sym (mul-one v)
weight v (suc (suc m)) h = absurd (omega (arith, h))

two_digits : (n : ℕ) → 1 * (n % 2) + 2 * (n / 2 % 2) ≡ n % 4
two_digits n = omega arith

bits_back : (n : ℕ) → bits_code (bit0 n) (bit1 n) ≡ n % 4
unfolding bits_code
bits_back n = rw (weight 1 (n % 2) (mod_below n 2 (lit< tt)), weight 2 (n / 2 % 2) (mod_below (n / 2) 2 (lit< tt))) (two_digits n)

pub bits_codes : BitsCodes
bits_codes = (bits_there, bits_back)

-- ---- self-alignment

resolved_keyword : (k : AlignItemsKeyword) (flipped : Bool) → is_self_relative (keyword_relative k flipped) ≡ false
resolved_keyword keyword.Normal flipped = refl
resolved_keyword keyword.Start flipped = refl
resolved_keyword keyword.End flipped = refl
resolved_keyword keyword.FlexStart flipped = refl
resolved_keyword keyword.FlexEnd flipped = refl
resolved_keyword keyword.SelfStart true = refl
resolved_keyword keyword.SelfStart false = refl
resolved_keyword keyword.SelfEnd true = refl
resolved_keyword keyword.SelfEnd false = refl
resolved_keyword keyword.Center flipped = refl
resolved_keyword keyword.Baseline flipped = refl
resolved_keyword keyword.Stretch flipped = refl

pub self_relative_is_resolved : SelfRelativeIsResolved
unfolding self_relative
self_relative_is_resolved a item container inline = resolved_keyword a.keyword _
