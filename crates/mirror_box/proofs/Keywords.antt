-- Step 4: size keywords, and the known sizes once their question is answered. Assumes nothing.
use borrow.Author.Rules.{rules}
use mathlib.Core.Path.{◌≡◌, refl, ap, ap₂}
use mathlib.Core.Bool.{◌||◌}
use Prim.Native.Nat.{ℕ, ◌≤◌}
use native.Mathlib.Omega.{arith}
use lib.Dec.{lit<, lit≤}
use lib.Ieee.{Float}
use Rattle.std.specs.Prelude.{Option, IfSome, is_some, Float, None}
use Rattle.std.specs.declared.option.Option.TheVariants as option
use Rattle.geometry.specs.Geometry.{definite, with_ratio}
use Rattle.geometry.specs.declared.Size.{Size}
use Rattle.style.specs.Resolve.{resolved}
use Rattle.style.specs.declared.Style.{Style}
use Rattle.style.specs.declared.available_space.AvailableSpace.{AvailableSpace}
use Rattle.style.specs.declared.compact_length.CompactLength.{CompactLength}
use Rattle.style.specs.declared.resolve.Field.TheVariants as field
use Rattle.style.specs.declared.resolve.SizingKeyword.{SizingKeyword}
use Rattle.style.specs.declared.resolve.SizingKeyword.TheVariants as keyword
use Rattle.style.specs.declared.resolve.Resolved.{Resolved}
use Rattle.style.specs.declared.resolve.Resolved.TheVariants.{NotAllowed, Absent, Length, Keyword}
use Rattle.oof_common.specs.SizingKeyword.{by_keyword, of_resolved, keyword_of, absolute_stretch, if_absent, keywords_of}
use Rattle.oof_common.specs.declared.sizing_keyword.SizingKeywordResolution.{SizingKeywordResolution}
use Rattle.oof_common.specs.declared.sizing_keyword.SizingKeywordResolution.TheVariants.{Exact, Measure}
use Rattle.oof_axis.specs.declared.OofAxis.{OofAxis}
use Rattle.oof_resolve.specs.declared.ResolvedBox.{ResolvedBox}
use Rattle.oof_box.specs.Box.{axis_stretch, keyword_stretch, size_keywords, settled}
use Rattle.oof_box.specs.Cut.{measured_sides, side_by, known_by}
use Rattle.oof_box.specs.declared.question.KeywordReply.{KeywordReply}
use Rattle.oof_box.specs.declared.question.KeywordReply.TheVariants as reply
use Rattle.util_exact.proofs.Tests.{pick}
use Rattle.util_exact.proofs.Sum.{sub_exact}
use Rattle.util_exact.proofs.Same.{Same, same, MaybeSame, given, absent, quarters_same, widen_same, zero_same, larger_same}
use Rattle.mirror_axis.proofs.Opposite.{Opposite}
use Rattle.mirror_axis.proofs.Facing.{Facing, span_shared}
use Rattle.mirror_box.specs.Image.{image_style}
use Rattle.mirror_box.specs.Quarter.{QuarterLength, QuarterStyle, QuarterKeyword}
use Rattle.mirror_box.proofs.Bounds.{length_bound, static_bound, size_bound, fit_bound}
use Rattle.mirror_box.proofs.Lengths.{QuarterLimit, QuarterResolved, resolved_quarter}
use Rattle.mirror_box.proofs.Shared.{SpaceSame, space, min, max, SizeShared, KnownShared, widen_known, clamped_shared}
use Rattle.mirror_box.proofs.Resolve.{or_zero_lem, BoxShared}

pub data KeywordSame : Option SizingKeywordResolution → Option SizingKeywordResolution → Type 0 where
  no_keyword : KeywordSame option.None option.None
  exact : {x x' : Float} → Same 4 fit_bound x x' → KeywordSame (option.Some (Exact x)) (option.Some (Exact x'))
  measure : {s s' : AvailableSpace} → SpaceSame fit_bound s s' → KeywordSame (option.Some (Measure s)) (option.Some (Measure s'))

pub record KeywordsShared (k k' : Size (Option SizingKeywordResolution)) : Type 0 where
  pub width : KeywordSame k.width k'.width
  pub height : k.height ≡ k'.height

-- ---- the stretch size of a keyword: of blocks of one size the same two margins, taken off in another order

keyword_size : (a a' : OofAxis) → Opposite length_bound static_bound a a' → Facing length_bound static_bound a a' → Same 4 fit_bound (axis_stretch a) (axis_stretch a')
unfolding absolute_stretch
keyword_size a a' o f =
    let s = span_shared length_bound static_bound (lit< tt) a a' f in
    let m = or_zero_lem o.margin_start in
    let m' = or_zero_lem o.margin_end in
    larger_same
    (same (sub_exact (sub_exact s.l m.l (lit< tt)) m'.l (lit< tt)) (sub_exact (sub_exact s.r m'.r (lit< tt)) m.r (lit< tt)) (omega arith)) zero_same

pub stretch_size_lem : (box box' : ResolvedBox) → BoxShared box box' → SizeShared fit_bound (keyword_stretch box) (keyword_stretch box')
unfolding keyword_stretch
stretch_size_lem box box' h = search (rules, keyword_size)

-- ---- keywords

by_keyword_lem : (k : SizingKeyword) → QuarterLimit k → {x x' : Float} → Same 4 fit_bound x x' → KeywordSame (option.Some (by_keyword k x)) (option.Some (by_keyword k x'))
unfolding by_keyword
by_keyword_lem keyword.MinContent q h = measure min
by_keyword_lem keyword.MaxContent q h = measure max
by_keyword_lem keyword.FitContent q h = measure (space h)
by_keyword_lem (keyword.FitContentLimit limit) q h = measure (space (widen_same (lit≤ tt) (quarters_same q)))
by_keyword_lem keyword.Stretch q h = exact h

of_resolved_lem : (r : Resolved) → QuarterResolved r → {x x' : Float} → Same 4 fit_bound x x' → KeywordSame (of_resolved r x) (of_resolved r x')
unfolding of_resolved
of_resolved_lem NotAllowed q h = no_keyword
of_resolved_lem Absent q h = no_keyword
of_resolved_lem (Length x) q h = no_keyword
of_resolved_lem (Keyword k) q h = by_keyword_lem k q h

pub keyword_of_lem : (l : CompactLength) → QuarterLength l → {x x' : Float} → Same 4 fit_bound x x' → {w w' : Float} → w ≡ w' → KeywordSame (keyword_of l x w) (keyword_of l x' w')
unfolding keyword_of
keyword_of_lem l q h {w} {w'} e = rw e (of_resolved_lem (resolved field.Size l w') (resolved_quarter field.Size l w' q) h)

pub if_absent_lem : {b : ℕ} {m m' : Option Float} {k k' : Option SizingKeywordResolution} → MaybeSame 4 b m m' → KeywordSame k k' → KeywordSame (if_absent m k) (if_absent m' k')
unfolding if_absent
if_absent_lem (given h) k = no_keyword
if_absent_lem absent k = k

module _ (style : Style) (hs : QuarterStyle style) (box box' : ResolvedBox) (h : BoxShared box box') where
  pub keywords_shared : KeywordsShared (size_keywords style box) (size_keywords (image_style style) box')
  unfolding size_keywords keywords_of image_style
  keywords_shared = record { width = if_absent_lem h.size.width (keyword_of_lem style.size.width hs.size (stretch_size_lem box box' h).width h.width); height = ap₂ if_absent h.size.height (ap₂ (keyword_of style.size.height) (stretch_size_lem box box' h).height (ap (λ (a : OofAxis). a.size) h.vertical)) }

  -- ratio, then clamp: there is no ratio
  pub settled_shared : (b : ℕ) → size_bound ≤ b → (s s' : Size (Option Float)) → KnownShared b s s' → KnownShared b (settled None box s) (settled None box' s')
  unfolding settled with_ratio
  settled_shared b i s s' k = clamped_shared (widen_known i h.min) (widen_known i h.max) k

-- ---- the reply

measured_width_lem : (r : Option KeywordReply) → IfSome r QuarterKeyword → MaybeSame 4 fit_bound (measured_sides r).width (measured_sides r).width
unfolding definite
measured_width_lem option.None q = absent
measured_width_lem (option.Some (reply.Both s)) q = given (widen_same (lit≤ tt) (quarters_same q))
measured_width_lem (option.Some (reply.Width w)) q = given (widen_same (lit≤ tt) (quarters_same q))
measured_width_lem (option.Some (reply.Height h)) q = absent

side_by_lem : {k k' : Option SizingKeywordResolution} {m m' n n' : Option Float} → KeywordSame k k' → MaybeSame 4 fit_bound m m' → MaybeSame 4 fit_bound n n' → MaybeSame 4 fit_bound (side_by k m n) (side_by k' m' n')
side_by_lem no_keyword m n = m
side_by_lem (exact h) m n = given h
side_by_lem (measure s) m n = n

keyword_told : {k k' : Option SizingKeywordResolution} → KeywordSame k k' → is_some k ≡ is_some k'
keyword_told no_keyword = refl
keyword_told (exact h) = refl
keyword_told (measure s) = refl

module _ (style : Style) (hs : QuarterStyle style) (box box' : ResolvedBox) (h : BoxShared box box') (r : Option KeywordReply) (q : IfSome r QuarterKeyword) where
  pub known_shared : (k k' : Size (Option SizingKeywordResolution)) → KeywordsShared k k' → KnownShared fit_bound (known_by style box k r) (known_by (image_style style) box' k' r)
  unfolding known_by image_style
  known_shared k k' e =
      rw hs.ratio
      (pick (KnownShared fit_bound) (ap₂ ◌||◌ (keyword_told e.width) (ap is_some e.height))
      (settled_shared style hs box box' h fit_bound (lit≤ tt) _ _
      (record { width = side_by_lem e.width (widen_known (lit≤ tt) h.size).width (measured_width_lem r q); height = rw (e.height, h.size.height) })) (widen_known (lit≤ tt) h.size))
