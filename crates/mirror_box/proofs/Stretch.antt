-- Steps 5 and 6: stretched sizes, and the final size. Assumes nothing.
use borrow.Author.Rules.{rules}
use mathlib.Core.Path.{◌≡◌, refl, ap, ap₂}
use mathlib.Core.Bool.{Bool, not, ◌&&◌}
use lib.Dec.{lit<, lit≤}
use lib.Ieee.{Float}
use Rattle.std.specs.Prelude.{Option, IfSome, unwrap_or, Float, None, Some, is_some}
use Rattle.std.specs.declared.option.Option.TheVariants as option
use Rattle.util_exact.specs.Value.{Quarter}
use Rattle.geometry.specs.Geometry.{zero_size}
use Rattle.geometry.specs.declared.Size.{Size}
use Rattle.style.specs.declared.Style.{Style}
use Rattle.oof_common.specs.declared.sizing_keyword.SizingKeywordResolution.{SizingKeywordResolution}
use Rattle.oof_axis.specs.Axis.{stretches}
use Rattle.oof_axis.specs.declared.OofAxis.{OofAxis}
use Rattle.oof_resolve.specs.declared.ResolvedBox.{ResolvedBox}
use Rattle.oof_box.specs.Box.{settled, stretch_ratio, widened, heightened, raised_min, stretched, final_size}
use Rattle.oof_box.specs.Cut.{stretched_by, size_by, sizing}
use Rattle.oof_box.specs.declared.question.Replies.{Replies}
use Rattle.oof_box.specs.declared.sizing.Stretched.{Stretched}
use Rattle.util_exact.proofs.Tests.{pick}
use Rattle.util_exact.proofs.Same.{Same, MaybeSame, given, quarters_same, widen_same, larger_same, present_same}
use Rattle.mirror_axis.proofs.Facing.{stretches_shared}
use Rattle.mirror_box.specs.Image.{image_style}
use Rattle.mirror_box.specs.Quarter.{QuarterStyle, QuarterReplies}
use Rattle.mirror_box.proofs.Bounds.{length_bound, static_bound, fit_bound}
use Rattle.mirror_box.proofs.Shared.{SizeShared, KnownShared, widen_known, zero_shared, filled_shared, floats_shared}
use Rattle.mirror_box.proofs.Resolve.{or_zero_lem, BoxShared}
use Rattle.mirror_box.proofs.Keywords.{KeywordsShared, settled_shared, known_shared}

-- sizes of 20 times 4,096 pixels at most
abbrev Known : Size (Option Float) → Size (Option Float) → Type 0
Known = KnownShared fit_bound

pub record StretchedShared (at at' : Stretched) : Type 0 where
  pub known : Known at.known at'.known
  pub min : Known at.min at'.min

-- a table's min
pub raised : {t t' : Bool} {m m' : Option Float} {x x' : Float} → t ≡ t' → MaybeSame 4 fit_bound m m' → Same 4 fit_bound x x' → MaybeSame 4 fit_bound (raised_min t m x) (raised_min t' m' x')
unfolding raised_min
raised e h k = pick (MaybeSame 4 fit_bound) e (given (larger_same (or_zero_lem h) k)) h

raised_word : {t t' : Bool} {m m' : Option Float} {x x' : Float} → t ≡ t' → m ≡ m' → x ≡ x' → raised_min t m x ≡ raised_min t' m' x'
raised_word e f g = rw (e, f, g)

-- there is no ratio to apply
pub no_ratio : (style : Style) (box : ResolvedBox) (across down : Bool) → style.ratio ≡ None → stretch_ratio style box across down ≡ None
unfolding stretch_ratio
no_ratio style box across down e = search rules

-- what was measured, or nothing
measured_size_lem : (f : Option (Size Float)) → IfSome f (λ s. Quarter s.width) → SizeShared fit_bound (unwrap_or f zero_size) (unwrap_or f zero_size)
measured_size_lem option.None q = zero_shared
measured_size_lem (option.Some s) q = record { width = widen_same (lit≤ tt) (quarters_same q); height = refl }

module _ (style : Style) (hs : QuarterStyle style) (box box' : ResolvedBox) (h : BoxShared box box') where
  settle : (s s' : Size (Option Float)) → Known s s' → Known (settled None box s) (settled None box' s')
  settle = settled_shared style hs box box' h fit_bound (lit≤ tt)

  widened_shared : {t t' : Bool} {s s' : Size (Option Float)} → t ≡ t' → Known s s' → Known (widened None box t s) (widened None box' t' s')
  unfolding widened
  widened_shared e k = pick Known e (settle _ _ (record { width = given h.fit.width; height = k.height })) k

  heightened_shared : {t t' : Bool} {s s' : Size (Option Float)} → t ≡ t' → Known s s' → Known (heightened None box t s) (heightened None box' t' s')
  unfolding heightened
  heightened_shared e k =
      pick Known (ap₂ (λ (d : Bool) (m : Option Float). d && not (is_some m)) e k.height) (settle _ _ (record { width = k.width; height = ap Some h.fit.height })) k

  -- width, then height
  filled_in : {r r' : Option Float} {t t' u u' : Bool} {s s' : Size (Option Float)} → r ≡ None → r' ≡ None → t ≡ t' → u ≡ u' → Known s s'
      → Known (heightened r box u (widened r box t s)) (heightened r' box' u' (widened r' box' t' s'))
  filled_in n n' e f k = rw (n, n') (heightened_shared f (widened_shared e k))

  -- whether an absent side is stretched
  across_same : (plain : Bool) {s s' : Size (Option Float)} → Known s s' → not (is_some s.width) && stretches box.horizontal plain ≡ not (is_some s'.width) && stretches box'.horizontal plain
  across_same plain k = ap₂ (λ (p t : Bool). not p && t) (present_same k.width) (stretches_shared length_bound static_bound (lit< tt) box.horizontal box'.horizontal h.faces plain)

  down_same : (plain : Bool) {s s' : Size (Option Float)} → Known s s' → not (is_some s.height) && stretches box.vertical plain ≡ not (is_some s'.height) && stretches box'.vertical plain
  down_same plain k = ap₂ (λ (m : Option Float) (a : OofAxis). not (is_some m) && stretches a plain) k.height h.vertical

  stretched_shared : (s s' : Size (Option Float)) → Known s s' → StretchedShared (stretched style box s) (stretched (image_style style) box' s')
  unfolding stretched image_style
  stretched_shared s s' k =
      let plain : Bool = not style.replaced && not style.table in
      let e = across_same plain k in
      let f = down_same plain k in
      let min = widen_known (lit≤ tt) h.min in
      pick StretchedShared {t = style.table} refl
      (record {
        known = k;
        min = record { width = raised e min.width h.fit.width; height = raised_word f min.height h.fit.height };
      })
      (record { known = filled_in (no_ratio style box _ _ hs.ratio) (no_ratio (image_style style) box' _ _ hs.ratio) e f k; min = min })

  -- by the replies
  module _ {keywords keywords' : Size (Option SizingKeywordResolution)} (hk : KeywordsShared keywords keywords') (r : Replies) (q : QuarterReplies r) where
    -- steps 4 and 5
    pub stretched_by_lem : StretchedShared (stretched_by (sizing style box keywords r)) (stretched_by (sizing (image_style style) box' keywords' r))
    unfolding stretched_by
    stretched_by_lem = stretched_shared _ _ (known_shared style hs box box' h r.keyword q.keyword _ _ hk)

    -- step 6
    pub final_size_lem : {at at' : Stretched} → StretchedShared at at' → SizeShared fit_bound (final_size box at (unwrap_or r.fill zero_size)) (final_size box' at' (unwrap_or r.fill zero_size))
    unfolding final_size
    final_size_lem e = floats_shared e.min (widen_known (lit≤ tt) h.max) (filled_shared e.known (measured_size_lem r.fill q.fill))

    pub size_by_lem : SizeShared fit_bound (size_by (sizing style box keywords r)) (size_by (sizing (image_style style) box' keywords' r))
    unfolding size_by
    size_by_lem = final_size_lem stretched_by_lem
