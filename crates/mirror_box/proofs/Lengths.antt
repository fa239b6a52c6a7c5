-- Step 1: what an admitted length comes to is whole quarter pixels, in any field. Assumes nothing.
use mathlib.Core.Path.{◌≡◌, refl, subst}
use mathlib.Core.Bool.{Bool, true, false, cond}
use Prim.Native.Nat.{ℕ}
use lib.Dec.{eqb}
use lib.Ieee.{Float}
use borrow.Author.Tests.{eqb-true}
use Rattle.style.specs.Resolve.{auto_in, in_size, without_keyword, from_size, by_tag, resolved, value_of, maybe_resolved}
use Rattle.style.specs.declared.compact_length.CompactLength.{CompactLength}
use Rattle.style.specs.declared.resolve.Field.{Field}
use Rattle.style.specs.declared.resolve.Field.TheVariants as field
use Rattle.style.specs.declared.resolve.SizingKeyword.{SizingKeyword}
use Rattle.style.specs.declared.resolve.SizingKeyword.TheVariants as keyword
use Rattle.style.specs.declared.resolve.Resolved.{Resolved}
use Rattle.style.specs.declared.resolve.Resolved.TheVariants.{NotAllowed, Absent, Length, Keyword}
use Rattle.util_exact.specs.Value.{Quarter, MaybeQuarters}
use Rattle.util_exact.proofs.Same.{MaybeSame, maybe_quarters_same}
use Rattle.mirror_box.specs.Quarter.{rule_of, Keeps, QuarterLength}
use Rattle.mirror_box.proofs.Bounds.{length_bound}

abbrev pub QuarterLimit : SizingKeyword → Type 0
QuarterLimit keyword.MinContent = Unit {0}
QuarterLimit keyword.MaxContent = Unit {0}
QuarterLimit keyword.FitContent = Unit {0}
QuarterLimit (keyword.FitContentLimit limit) = Quarter limit
QuarterLimit keyword.Stretch = Unit {0}

-- whatever number it holds is whole quarter pixels
abbrev pub QuarterResolved : Resolved → Type 0
QuarterResolved NotAllowed = Unit {0}
QuarterResolved Absent = Unit {0}
QuarterResolved (Length x) = Quarter x
QuarterResolved (Keyword k) = QuarterLimit k

auto_quarter : (f : Field) → QuarterResolved (auto_in f)
auto_quarter field.InsetOrMargin = tt
auto_quarter field.PaddingOrBorder = tt
auto_quarter field.Size = tt
auto_quarter field.MinOrMax = tt

without_keyword_quarter : (r : Resolved) → QuarterResolved r → QuarterResolved (without_keyword r)
without_keyword_quarter NotAllowed h = tt
without_keyword_quarter Absent h = tt
without_keyword_quarter (Length x) h = h
without_keyword_quarter (Keyword k) h = tt

from_size_quarter : (f : Field) (r : Resolved) → QuarterResolved r → QuarterResolved (from_size f r)
from_size_quarter field.InsetOrMargin r h = tt
from_size_quarter field.PaddingOrBorder r h = tt
from_size_quarter field.Size r h = h
from_size_quarter field.MinOrMax r h = without_keyword_quarter r h

-- a branch, each way with its outcome
either : {A : Type 0} (P : A → Type 0) (t : Bool) {x y : A} → (t ≡ true → P x) → (t ≡ false → P y) → P (cond t x y)
either P true h k = h refl
either P false h k = k refl

module _ (f : Field) (l : CompactLength) (basis : Float) (h : QuarterLength l) where
  -- the rule of the tag that it is
  at : (tag : ℕ) → eqb l.tag tag ≡ true → Keeps (rule_of tag) l.value
  at tag e = subst (λ (t : ℕ). Keeps (rule_of t) l.value) (eqb-true l.tag tag e) h

  in_size_quarter : QuarterResolved (in_size l.tag l.value basis)
  in_size_quarter =
      either QuarterResolved (eqb l.tag 11) (λ _. tt)
      (λ _. either QuarterResolved (eqb l.tag 15) (λ e. absurd (at 15 e))
      (λ _. either QuarterResolved (eqb l.tag 27) (λ _. tt)
      (λ _. either QuarterResolved (eqb l.tag 35) (λ _. tt)
      (λ _. either QuarterResolved (eqb l.tag 43) (λ e. at 43 e)
      (λ _. either QuarterResolved (eqb l.tag 59) (λ _. tt)
      (λ _. either QuarterResolved (eqb l.tag 75) (λ _. tt) (λ _. tt)))))))

  pub resolved_quarter : QuarterResolved (resolved f l basis)
  unfolding resolved by_tag
  resolved_quarter =
      either QuarterResolved (eqb l.tag 1) (λ e. at 1 e)
      (λ _. either QuarterResolved (eqb l.tag 3) (λ _. auto_quarter f)
      (λ _. either QuarterResolved (eqb l.tag 5) (λ e. absurd (at 5 e))
      (λ _. either QuarterResolved (eqb l.tag 129) (λ e. absurd (at 129 e))
      (λ _. from_size_quarter f (in_size l.tag l.value basis) in_size_quarter))))

value_quarter : (r : Resolved) → QuarterResolved r → MaybeQuarters 16384 (value_of r)
value_quarter NotAllowed h = tt
value_quarter Absent h = tt
value_quarter (Length x) h = h
value_quarter (Keyword k) h = tt

-- a length is the same number in both runs: it is the same word
pub length_same : (f : Field) (l : CompactLength) (basis : Float) → QuarterLength l → MaybeSame 4 length_bound (maybe_resolved f l basis) (maybe_resolved f l basis)
unfolding maybe_resolved
length_same f l basis h = maybe_quarters_same 16384 (value_of (resolved f l basis)) (value_quarter (resolved f l basis) (resolved_quarter f l basis h))
