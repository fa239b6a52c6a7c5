-- The laws of a box's size. Assumes nothing.
use borrow.Author.Rules.{rules}
use Rattle.std.proofs.lemmas.Bool.{and_right}
use mathlib.Core.Path.{◌≡◌, refl, ap, subst, ◌∙◌}
use mathlib.Core.Logic.{◌⊎◌, inl, inr}
use mathlib.Core.Bool.{Bool, true, false, false≢true, cond, not, ◌&&◌}
use Prim.Native.Nat.{ℕ}
use lib.Ieee.{Float, lt}
use Rattle.std.specs.Prelude.{Option, Float, None, Some, is_some, unwrap_or}
use Rattle.std.specs.declared.option.Option.TheVariants as option
use Rattle.util.specs.Order.{larger}
use Rattle.util.specs.Maybe.{map_clamped, clamped}
use Rattle.util.specs.Laws.{AtOrAbove, AtOrBelow}
use Rattle.util.proofs.Laws.{onwards, larger_bounds, larger_is_one, min_wins, max_binds}
use Rattle.geometry.specs.Geometry.{absent_size, both_present, filled_size, clamped_size, clamped_floats, with_ratio}
use Rattle.geometry.specs.declared.Size.{Size}
use Rattle.style.specs.Resolve.{by_tag, resolved}
use Rattle.style.specs.declared.Style.{Style}
use Rattle.style.specs.declared.compact_length.CompactLength.{CompactLength}
use Rattle.tree.specs.declared.layout.OofCandidate.{OofCandidate}
use Rattle.oof_axis.specs.Axis.{stretch_fit, stretches}
use Rattle.oof_axis.specs.declared.OofAxis.{OofAxis}
use Rattle.oof_resolve.specs.Resolved.{resolved_box}
use Rattle.oof_resolve.specs.declared.ContainingBlock.{ContainingBlock}
use Rattle.oof_resolve.specs.declared.ResolvedBox.{ResolvedBox}
use Rattle.oof_common.specs.SizingKeyword.{if_absent, of_resolved, keyword_of, keywords_of}
use Rattle.oof_common.specs.declared.sizing_keyword.SizingKeywordResolution.{SizingKeywordResolution}
use Rattle.oof_common.specs.declared.sizing_keyword.SizingKeywordResolution.TheVariants.{Exact, Measure}
use Rattle.oof_place.specs.Placing.{layout_of, box_layout}
use Rattle.oof_box.specs.Talk.{Talk, done, ask, ◌>>=◌}
use Rattle.oof_box.specs.Box.{Placed, placed, width_as, height_as, in_turn, by_keywords, raised_min, stretched, final_size, measured, keyword_sizes, keyword_stretch, size_keywords, stretch_ratio, widened, heightened, settled, ◌by◌}
use Rattle.oof_box.specs.declared.question.MeasureInput.{MeasureInput}
use Rattle.oof_box.specs.declared.question.Question.{Question}
use Rattle.oof_box.specs.declared.question.Question.TheVariants.{MeasureBoth, MeasureWidth, MeasureHeight}
use Rattle.oof_box.specs.declared.sizing.Stretched.{Stretched}
use Rattle.oof_box_laws.specs.Resolved.{IsAutoSize, HasKeyword, AutoIs}
use Rattle.oof_box_laws.specs.Laws.{Always, now, later, Asks, ends, asks, Measures, measures, after, MinHolds, MaxHolds, GivenSizeStays, NoSizeKeyword, Plain, stretchable, StretchFills, WidthByKeyword, HeightByKeyword, MeasuredIsTheReply, table_min, TableIsMeasured}
use Rattle.oof_box_laws.proofs.Always.{always_map, always_any, size_from, size_always}
use Rattle.oof_box_laws.proofs.Resolved.{ratio_width, ratio_height, auto_is_no_size}
use Rattle.oof_box_laws.proofs.Clamp.{clamp_is_settled}

-- ---- min: as step 2 has it, or raised for a table

raised_keeps : (b : Bool) (min : Option Float) (fit low x : Float) (max : Option Float) → min ≡ Some low → AtOrAbove low (clamped x (raised_min b min fit) max)
unfolding raised_min
raised_keeps true min fit low x max e = rw e (onwards low (larger low fit) (clamped x (Some (larger low fit)) max) (larger_bounds low fit).0 (min_wins x (larger low fit) max))
raised_keeps false min fit low x max e = rw e (min_wins x low max)

kept_above : (min : Option Float) (low x : Float) (max : Option Float) → min ≡ Some low → AtOrAbove low (clamped x min max)
kept_above min low x max e = rw e (min_wins x low max)

-- what holds of a table's step 5 and of any other box's
either : (P : Stretched → Type 0) (t : Bool) (a b : Stretched) → (t ≡ true → P a) → (t ≡ false → P b) → P (cond t a b)
either P true a b h k = h refl
either P false a b h k = k refl

pub min_holds : MinHolds
unfolding final_size clamped_floats stretched
min_holds container style candidate low =
    let box = resolved_box container style candidate in (
      λ e. size_always (λ s. AtOrAbove low s.width) container style candidate
          (λ known s. either (λ at. AtOrAbove low (clamped (filled_size at.known s).width at.min.width box.max.width)) style.table _ _
          (λ t. raised_keeps _ box.min.width box.fit.width low _ box.max.width e) (λ t. kept_above box.min.width low _ box.max.width e)),
      λ e. size_always (λ s. AtOrAbove low s.height) container style candidate
          (λ known s. either (λ at. AtOrAbove low (clamped (filled_size at.known s).height at.min.height box.max.height)) style.table _ _
          (λ t. raised_keeps _ box.min.height box.fit.height low _ box.max.height e) (λ t. kept_above box.min.height low _ box.max.height e)),
    )

-- ---- max

not_above_larger : (low fit high : Float) → lt high low ≡ false → lt high fit ≡ false → not (lt high (larger low fit)) ≡ true
not_above_larger low fit high h k = go (larger_is_one low fit)
  where
    go : (larger low fit ≡ low) ⊎ (larger low fit ≡ fit) → not (lt high (larger low fit)) ≡ true
    go (inl e) = rw (e, h) refl
    go (inr e) = rw (e, k) refl

raised_binds : (b : Bool) (x low fit high : Float) (min max : Option Float) → min ≡ Some low → max ≡ Some high → lt high low ≡ false → (b ≡ true → lt high fit ≡ false)
    → AtOrBelow high (clamped x (raised_min b min fit) max)
unfolding raised_min
raised_binds true x low fit high min max e f h k = rw (e, f) (max_binds x high (Some (larger low fit)) (not_above_larger low fit high h (k refl)))
raised_binds false x low fit high min max e f h k = rw (e, f) (max_binds x high (Some low) (rw h refl))

kept_binds : (x low high : Float) (min max : Option Float) → min ≡ Some low → max ≡ Some high → lt high low ≡ false → AtOrBelow high (clamped x min max)
kept_binds x low high min max e f h = rw (e, f) (max_binds x high (Some low) (rw h refl))

-- the stretch-fit sizes are those of the axes
pub fit_across : (container : ContainingBlock) (style : Style) (candidate : OofCandidate) → (resolved_box container style candidate).fit.width ≡ stretch_fit (resolved_box container style candidate).horizontal
unfolding resolved_box
fit_across container style candidate = refl

pub fit_down : (container : ContainingBlock) (style : Style) (candidate : OofCandidate) → (resolved_box container style candidate).fit.height ≡ stretch_fit (resolved_box container style candidate).vertical
unfolding resolved_box
fit_down container style candidate = refl

-- ---- a size that is given: clamped already

settled_once : (m min max : Option Float) (x : Float) → map_clamped m min max ≡ Some x → clamped x min max ≡ x
unfolding map_clamped
settled_once None min max x e = absurd (false≢true (ap is_some e))
settled_once (Some y) min max x e = let f = ap (λ (m : Option Float). unwrap_or m x) e in subst (λ (z : Float). clamped z min max ≡ z) f (clamp_is_settled y min max)

pub given_width_settled : (container : ContainingBlock) (style : Style) (candidate : OofCandidate) (x : Float)
    → let box = resolved_box container style candidate in box.size.width ≡ Some x → clamped x box.min.width box.max.width ≡ x
unfolding resolved_box clamped_size
given_width_settled container style candidate x e = settled_once _ _ _ x e

pub given_height_settled : (container : ContainingBlock) (style : Style) (candidate : OofCandidate) (x : Float)
    → let box = resolved_box container style candidate in box.size.height ≡ Some x → clamped x box.min.height box.max.height ≡ x
unfolding resolved_box clamped_size
given_height_settled container style candidate x e = settled_once _ _ _ x e

clamped_stays : (m min max : Option Float) (x : Float) → m ≡ Some x → clamped x min max ≡ x → map_clamped m min max ≡ Some x
unfolding map_clamped
clamped_stays m min max x e c = rw (e, c) refl

settled_width : (ratio : Option Float) (box : ResolvedBox) (s : Size (Option Float)) (x : Float) → clamped x box.min.width box.max.width ≡ x → s.width ≡ Some x → (settled ratio box s).width ≡ Some x
unfolding settled clamped_size
settled_width ratio box s x c e = clamped_stays _ box.min.width box.max.width x (ratio_width ratio s x e) c

settled_height : (ratio : Option Float) (box : ResolvedBox) (s : Size (Option Float)) (x : Float) → clamped x box.min.height box.max.height ≡ x → s.height ≡ Some x → (settled ratio box s).height ≡ Some x
unfolding settled clamped_size
settled_height ratio box s x c e = clamped_stays _ box.min.height box.max.height x (ratio_height ratio s x e) c

-- step 4: the other side's keyword
known_width : (node : ℕ) (style : Style) (box : ResolvedBox) (x : Float) → clamped x box.min.width box.max.width ≡ x → box.size.width ≡ Some x → (tall : Option SizingKeywordResolution)
    → Always (λ (k : Size (Option Float)). k.width ≡ Some x) (keyword_sizes node style box (record { width = option.None; height = tall }))
unfolding keyword_sizes by_keywords in_turn width_as height_as ◌>>=◌
known_width node style box x c e option.None = now e
known_width node style box x c e (option.Some (Exact y)) = now (settled_width style.ratio box (box.size.width by Some y) x c e)
known_width node style box x c e (option.Some (Measure space)) = later (λ r. now (settled_width style.ratio box (box.size.width by Some r) x c e))

known_height : (node : ℕ) (style : Style) (box : ResolvedBox) (x : Float) → clamped x box.min.height box.max.height ≡ x → box.size.height ≡ Some x → (wide : Option SizingKeywordResolution)
    → Always (λ (k : Size (Option Float)). k.height ≡ Some x) (keyword_sizes node style box (record { width = wide; height = option.None }))
unfolding keyword_sizes by_keywords in_turn width_as height_as ◌>>=◌
known_height node style box x c e option.None = now e
known_height node style box x c e (option.Some (Exact y)) = now (settled_height style.ratio box (Some y by box.size.height) x c e)
known_height node style box x c e (option.Some (Measure space)) = later (λ r. now (settled_height style.ratio box (Some r by box.size.height) x c e))

pub no_keyword : (m : Option Float) (k : Option SizingKeywordResolution) (x : Float) → m ≡ Some x → if_absent m k ≡ option.None
unfolding if_absent
no_keyword m k x e = rw e refl

tall_width : (ratio : Option Float) (box : ResolvedBox) (down : Bool) (known : Size (Option Float)) (x : Float) → clamped x box.min.width box.max.width ≡ x → known.width ≡ Some x → (heightened ratio box down known).width ≡ Some x
unfolding heightened
tall_width ratio box down known x c e = go (down && not (is_some known.height))
  where
    go : (b : Bool) → (cond b (settled ratio box (known.width by Some box.fit.height)) known).width ≡ Some x
    go true = settled_width ratio box (known.width by Some box.fit.height) x c e
    go false = e

wide_height : (ratio : Option Float) (box : ResolvedBox) (across : Bool) (known : Size (Option Float)) (x : Float) → clamped x box.min.height box.max.height ≡ x → known.height ≡ Some x → (widened ratio box across known).height ≡ Some x
unfolding widened
wide_height ratio box true known x c e = settled_height ratio box (Some box.fit.width by known.height) x c e
wide_height ratio box false known x c e = e

not_widened : (ratio : Option Float) (box : ResolvedBox) (across : Bool) (known : Size (Option Float)) → across ≡ false → widened ratio box across known ≡ known
unfolding widened
not_widened ratio box across known a = rw a refl

not_heightened : (ratio : Option Float) (box : ResolvedBox) (down : Bool) (known : Size (Option Float)) → down ≡ false → heightened ratio box down known ≡ known
unfolding heightened
not_heightened ratio box down known d = rw d refl

present_and : (m : Option Float) (x : Float) (b : Bool) → m ≡ Some x → not (is_some m) && b ≡ false
present_and m x b e = rw e refl

unraised : (b : Bool) (min : Option Float) (fit : Float) → b ≡ false → raised_min b min fit ≡ min
unfolding raised_min
unraised b min fit e = rw e refl

-- a side of the final size that is known, with the min of step 2
filled_by : (m min min' max : Option Float) (x y : Float) → clamped x min max ≡ x → m ≡ Some x → min' ≡ min → clamped (unwrap_or m y) min' max ≡ x
filled_by m min min' max x y c e f = rw (e, f) c

-- a side that is known stays known
pub told_width : (style : Style) (box : ResolvedBox) (known : Size (Option Float)) (x : Float) → clamped x box.min.width box.max.width ≡ x → known.width ≡ Some x
    → (stretched style box known).known.width ≡ Some x
unfolding stretched
told_width style box known x c e =
    either (λ at. at.known.width ≡ Some x) style.table _ _ (λ t. e)
    (λ t. tall_width _ box _ _ x c (ap (λ (k : Size (Option Float)). k.width) (not_widened _ box _ known (present_and known.width x _ e)) ∙ e))

pub told_height : (style : Style) (box : ResolvedBox) (known : Size (Option Float)) (x : Float) → clamped x box.min.height box.max.height ≡ x → known.height ≡ Some x
    → (stretched style box known).known.height ≡ Some x
unfolding stretched
told_height style box known x c e =
    either (λ at. at.known.height ≡ Some x) style.table _ _ (λ t. e)
    (λ t. ap (λ (k : Size (Option Float)). k.height) (not_heightened _ box _ _ (present_and known.height x _ e)) ∙ wide_height _ box _ known x c e)

-- with the min of step 2
own_min_width : (style : Style) (box : ResolvedBox) (known : Size (Option Float)) (x : Float) → known.width ≡ Some x → (stretched style box known).min.width ≡ box.min.width
unfolding stretched
own_min_width style box known x e =
    either (λ at. at.min.width ≡ box.min.width) style.table _ _ (λ t. unraised _ box.min.width box.fit.width (present_and known.width x _ e)) (λ t. refl)

own_min_height : (style : Style) (box : ResolvedBox) (known : Size (Option Float)) (x : Float) → known.height ≡ Some x → (stretched style box known).min.height ≡ box.min.height
unfolding stretched
own_min_height style box known x e =
    either (λ at. at.min.height ≡ box.min.height) style.table _ _ (λ t. unraised _ box.min.height box.fit.height (present_and known.height x _ e)) (λ t. refl)

pub stretched_width : (style : Style) (box : ResolvedBox) (known : Size (Option Float)) (x : Float) → clamped x box.min.width box.max.width ≡ x → known.width ≡ Some x → (s : Size Float)
    → (final_size box (stretched style box known) s).width ≡ x
unfolding final_size clamped_floats filled_size
stretched_width style box known x c e s = filled_by _ box.min.width _ box.max.width x s.width c (told_width style box known x c e) (own_min_width style box known x e)

pub stretched_height : (style : Style) (box : ResolvedBox) (known : Size (Option Float)) (x : Float) → clamped x box.min.height box.max.height ≡ x → known.height ≡ Some x → (s : Size Float)
    → (final_size box (stretched style box known) s).height ≡ x
unfolding final_size clamped_floats filled_size
stretched_height style box known x c e s = filled_by _ box.min.height _ box.max.height x s.height c (told_height style box known x c e) (own_min_height style box known x e)

pub width_known : (container : ContainingBlock) (style : Style) (candidate : OofCandidate) (x : Float)
    → let box = resolved_box container style candidate in
    box.size.width ≡ Some x → Always (λ (k : Size (Option Float)). k.width ≡ Some x) (keyword_sizes candidate.node style box (size_keywords style box))
unfolding size_keywords keywords_of
width_known container style candidate x e =
    let box = resolved_box container style candidate in
    rw (no_keyword box.size.width _ x e) (known_width candidate.node style box x (given_width_settled container style candidate x e) e _)

pub height_known : (container : ContainingBlock) (style : Style) (candidate : OofCandidate) (x : Float)
    → let box = resolved_box container style candidate in
    box.size.height ≡ Some x → Always (λ (k : Size (Option Float)). k.height ≡ Some x) (keyword_sizes candidate.node style box (size_keywords style box))
unfolding size_keywords keywords_of
height_known container style candidate x e =
    let box = resolved_box container style candidate in
    rw (no_keyword box.size.height _ x e) (known_height candidate.node style box x (given_height_settled container style candidate x e) e _)

pub given_size_stays : GivenSizeStays
given_size_stays container style candidate x = (
  λ e. size_from (λ (k : Size (Option Float)). k.width ≡ Some x) (λ s. s.width ≡ x) container style candidate (width_known container style candidate x e)
      (λ known k s. stretched_width style (resolved_box container style candidate) known x (given_width_settled container style candidate x e) k s),
  λ e. size_from (λ (k : Size (Option Float)). k.height ≡ Some x) (λ s. s.height ≡ x) container style candidate (height_known container style candidate x e)
      (λ known k s. stretched_height style (resolved_box container style candidate) known x (given_height_settled container style candidate x e) k s),
)

-- ---- max

-- a side that step 2 has is known after step 4
known_or_absent : (m : Option Float) (known : Size (Option Float) → Option Float) (talk : Talk (Size (Option Float))) → ((x : Float) → m ≡ Some x → Always (λ (k : Size (Option Float)). known k ≡ Some x) talk)
    → Always (λ (k : Size (Option Float)). (m ≡ None) ⊎ (is_some (known k) ≡ true)) talk
known_or_absent None known talk f = always_map (λ (k : Size (Option Float)). Unit {0}) _ talk (λ k u. inl refl) (always_any talk)
known_or_absent (Some x) known talk f = always_map (λ (k : Size (Option Float)). known k ≡ Some x) _ talk (λ k e. inr (rw e refl)) (f x refl)

not_stretchable : (style : Style) → style.table ≡ true → stretchable style ≡ false
not_stretchable style t = and_right (not style.replaced) (not style.table) (ap not t)

-- a table's min is raised where its side is absent and stretches
raised_where : (m k : Option Float) (a : OofAxis) (plain : Bool) → (m ≡ None) ⊎ (is_some k ≡ true) → plain ≡ false → not (is_some k) && stretches a plain ≡ true → (m ≡ None) × (stretches a false ≡ true)
raised_where m k a plain o p t = subst (λ (b : Bool). (m ≡ None) × (stretches a b ≡ true)) p (go (is_some k) (stretches a plain) o t)
  where
    go : (b c : Bool) → (m ≡ None) ⊎ (b ≡ true) → not b && c ≡ true → (m ≡ None) × (c ≡ true)
    go true c o t = absurd (false≢true t)
    go false c (inl e) t = (e, t)
    go false c (inr e) t = absurd (false≢true e)

pub max_holds : MaxHolds
unfolding final_size clamped_floats stretched
max_holds container style candidate low high =
    let box = resolved_box container style candidate in (
      λ e f h k. size_from (λ (known : Size (Option Float)). (box.size.width ≡ None) ⊎ (is_some known.width ≡ true)) (λ s. AtOrBelow high s.width) container style candidate
          (known_or_absent box.size.width (λ (known : Size (Option Float)). known.width) _ (width_known container style candidate))
          (λ known o s. either (λ at. AtOrBelow high (clamped (filled_size at.known s).width at.min.width box.max.width)) style.table _ _
          (λ t. raised_binds _ _ low box.fit.width high box.min.width box.max.width e f h
          (λ b. (let w = raised_where box.size.width known.width box.horizontal _ o (not_stretchable style t) b in rw (fit_across container style candidate) (k t w.0 w.1))))
          (λ t. kept_binds _ low high box.min.width box.max.width e f h)),
      λ e f h k. size_from (λ (known : Size (Option Float)). (box.size.height ≡ None) ⊎ (is_some known.height ≡ true)) (λ s. AtOrBelow high s.height) container style candidate
          (known_or_absent box.size.height (λ (known : Size (Option Float)). known.height) _ (height_known container style candidate))
          (λ known o s. either (λ at. AtOrBelow high (clamped (filled_size at.known s).height at.min.height box.max.height)) style.table _ _
          (λ t. raised_binds _ _ low box.fit.height high box.min.height box.max.height e f h
          (λ b. (let w = raised_where box.size.height known.height box.vertical _ o (not_stretchable style t) b in rw (fit_down container style candidate) (k t w.0 w.1))))
          (λ t. kept_binds _ low high box.min.height box.max.height e f h)),
    )

-- ---- an auto size, without ratio and keyword: stretched to its stretch-fit size, clamped, or still absent

no_keywords : (node : ℕ) (style : Style) (box : ResolvedBox) (keywords : Size (Option SizingKeywordResolution)) → keywords.width ≡ option.None → keywords.height ≡ option.None → keyword_sizes node style box keywords ≡ done box.size
unfolding keyword_sizes
no_keywords node style box keywords p q = rw (p, q) refl

no_ratio : (style : Style) (box : ResolvedBox) (across down : Bool) → style.ratio ≡ None → stretch_ratio style box across down ≡ None
unfolding stretch_ratio
no_ratio style box across down e = search rules

absent_and : (m : Option Float) (b c : Bool) → m ≡ None → b ≡ c → not (is_some m) && b ≡ c
absent_and m b c e f = rw e f

abbrev pub fit_if : Bool → Float → Option Float → Option Float → Option Float
fit_if b fit min max = cond b (Some (clamped fit min max)) None

-- clamped again
again : (b : Bool) (fit : Float) (min max m : Option Float) → m ≡ fit_if b fit min max → map_clamped m min max ≡ fit_if b fit min max
unfolding map_clamped
again true fit min max m e = rw (e, clamp_is_settled fit min max) refl
again false fit min max m e = rw e refl

wide_auto : (ratio : Option Float) (box : ResolvedBox) (across b : Bool) (known : Size (Option Float)) → ratio ≡ None → across ≡ b → known.width ≡ None → (widened ratio box across known).width ≡ fit_if b box.fit.width box.min.width box.max.width
unfolding widened settled clamped_size with_ratio map_clamped
wide_auto ratio box across true known r a e = rw (r, a) refl
wide_auto ratio box across false known r a e = rw (r, a) e

tall_auto : (ratio : Option Float) (box : ResolvedBox) (down b : Bool) (known : Size (Option Float)) → ratio ≡ None → known.width ≡ fit_if b box.fit.width box.min.width box.max.width
    → (heightened ratio box down known).width ≡ fit_if b box.fit.width box.min.width box.max.width
unfolding heightened settled clamped_size with_ratio
tall_auto ratio box down b known r e = rw r (go (down && not (is_some known.height)))
  where
    go : (d : Bool) → (cond d (settled None box (known.width by Some box.fit.height)) known).width ≡ fit_if b box.fit.width box.min.width box.max.width
    go true = again b box.fit.width box.min.width box.max.width known.width e
    go false = e

wide_leaves : (ratio : Option Float) (box : ResolvedBox) (across : Bool) (known : Size (Option Float)) → ratio ≡ None → known.height ≡ None → (widened ratio box across known).height ≡ None
unfolding widened settled clamped_size with_ratio map_clamped
wide_leaves ratio box true known r e = rw (r, e) refl
wide_leaves ratio box false known r e = e

tall_fills : (ratio : Option Float) (box : ResolvedBox) (down b : Bool) (known : Size (Option Float)) → ratio ≡ None → down ≡ b → known.height ≡ None
    → (heightened ratio box down known).height ≡ fit_if b box.fit.height box.min.height box.max.height
unfolding heightened settled clamped_size with_ratio map_clamped
tall_fills ratio box down true known r d e = rw (r, d, e) refl
tall_fills ratio box down false known r d e = rw (r, d) e

no_table : (t : Bool) (a b : Stretched) → t ≡ false → cond t a b ≡ b
no_table t a b e = rw e refl

-- after step 5 of a box that is no table
module _ (style : Style) (box : ResolvedBox) (known : Size (Option Float)) (b : Bool) (ratio : style.ratio ≡ None) (table : style.table ≡ false) where
  pub auto_width : known.width ≡ None → stretches box.horizontal (stretchable style) ≡ b
      → ((stretched style box known).known.width ≡ fit_if b box.fit.width box.min.width box.max.width) × ((stretched style box known).min ≡ box.min)
  unfolding stretched
  auto_width e s =
      rw (no_table style.table _ _ table)
      (tall_auto _ box _ b (widened _ box _ known) (no_ratio style box _ _ ratio) (wide_auto _ box _ b known (no_ratio style box _ _ ratio) (absent_and known.width _ b e s) e), refl)

  pub auto_height : known.height ≡ None → stretches box.vertical (stretchable style) ≡ b
      → ((stretched style box known).known.height ≡ fit_if b box.fit.height box.min.height box.max.height) × ((stretched style box known).min ≡ box.min)
  unfolding stretched
  auto_height e s =
      rw (no_table style.table _ _ table)
      (tall_fills _ box _ b (widened _ box _ known) (no_ratio style box _ _ ratio) (absent_and known.height _ b e s) (wide_leaves _ box _ known (no_ratio style box _ _ ratio) e), refl)

pub known_is : {A : Type 0} (m : Talk A) (a : A) → m ≡ done a → Always (λ (k : A). k ≡ a) m
known_is m a e = rw e (now refl)

pub no_size_keyword : (l : CompactLength) (stretch basis : Float) → NoSizeKeyword l → keyword_of l stretch basis ≡ option.None
unfolding keyword_of of_resolved resolved by_tag
no_size_keyword l stretch basis (inl e) = rw e refl
no_size_keyword l stretch basis (inr (inl e)) = rw e refl
no_size_keyword l stretch basis (inr (inr (inl e))) = rw e refl
no_size_keyword l stretch basis (inr (inr (inr (inl e)))) = rw e refl
no_size_keyword l stretch basis (inr (inr (inr (inr e)))) = rw e refl

pub none_if_absent : (m : Option Float) (k : Option SizingKeywordResolution) → k ≡ option.None → if_absent m k ≡ option.None
unfolding if_absent
none_if_absent None k e = e
none_if_absent (Some x) k e = refl

pub plain_keywords : (node : ℕ) (style : Style) (box : ResolvedBox) → Plain style → keyword_sizes node style box (size_keywords style box) ≡ done box.size
unfolding size_keywords keywords_of
plain_keywords node style box k =
    no_keywords node style box (size_keywords style box) (none_if_absent box.size.width _ (no_size_keyword style.size.width _ _ k.width))
    (none_if_absent box.size.height _ (no_size_keyword style.size.height _ _ k.height))

pub stretch_side : (m min min' max : Option Float) (fit y : Float) → m ≡ fit_if true fit min max → min' ≡ min → clamped (unwrap_or m y) min' max ≡ clamped fit min max
stretch_side m min min' max fit y e f = rw (e, f) (clamp_is_settled fit min max)

-- step 4 leaves an auto side absent, whatever the other side's keyword
module _ (node : ℕ) (style : Style) (box : ResolvedBox) (ratio : style.ratio ≡ None) where
  width_left : (h : Option Float) → box.size.width ≡ None → (settled style.ratio box (box.size.width by h)).width ≡ None
  unfolding settled clamped_size with_ratio map_clamped
  width_left h e = rw (ratio, e) refl

  height_left : (w : Option Float) → box.size.height ≡ None → (settled style.ratio box (w by box.size.height)).height ≡ None
  unfolding settled clamped_size with_ratio map_clamped
  height_left w e = rw (ratio, e) refl

  width_absent : (tall : Option SizingKeywordResolution) → box.size.width ≡ None → Always (λ (k : Size (Option Float)). k.width ≡ None) (keyword_sizes node style box (record { width = option.None; height = tall }))
  unfolding keyword_sizes by_keywords in_turn width_as height_as ◌>>=◌
  width_absent tall e = search (rules, width_left, now, later)

  height_absent : (wide : Option SizingKeywordResolution) → box.size.height ≡ None → Always (λ (k : Size (Option Float)). k.height ≡ None) (keyword_sizes node style box (record { width = wide; height = option.None }))
  unfolding keyword_sizes by_keywords in_turn width_as height_as ◌>>=◌
  height_absent wide e = search (rules, height_left, now, later)

pub auto_wide : (style : Style) (box : ResolvedBox) → NoSizeKeyword style.size.width → size_keywords style box ≡ record { width = option.None; height = (size_keywords style box).height }
unfolding size_keywords keywords_of
auto_wide style box n =
    rw (none_if_absent box.size.width (keyword_of style.size.width (keyword_stretch box).width box.horizontal.size) (no_size_keyword style.size.width _ _ n)) refl

pub auto_tall : (style : Style) (box : ResolvedBox) → NoSizeKeyword style.size.height → size_keywords style box ≡ record { width = (size_keywords style box).width; height = option.None }
unfolding size_keywords keywords_of
auto_tall style box n =
    rw (none_if_absent box.size.height (keyword_of style.size.height (keyword_stretch box).height box.vertical.size) (no_size_keyword style.size.height _ _ n)) refl

pub stretch_fills : StretchFills
unfolding final_size clamped_floats filled_size
stretch_fills container style candidate k t =
    let z = (auto_is_no_size container style candidate).0 in
    let box = resolved_box container style candidate in (
      λ e s. size_from (λ (known : Size (Option Float)). known.width ≡ None) (λ z. z.width ≡ clamped (stretch_fit box.horizontal) box.min.width box.max.width) container style candidate
          (rw (auto_wide style box (inr (inr (inr e)))) (width_absent candidate.node style box k (size_keywords style box).height (z.width k e)))
          (λ known a y. (let h = auto_width style box known true k t a s in
          stretch_side (stretched style box known).known.width box.min.width _ box.max.width box.fit.width y.width h.0 (ap (λ (m : Size (Option Float)). m.width) h.1)
          ∙ ap (λ (x : Float). clamped x box.min.width box.max.width) (fit_across container style candidate))),
      λ e s. size_from (λ (known : Size (Option Float)). known.height ≡ None) (λ z. z.height ≡ clamped (stretch_fit box.vertical) box.min.height box.max.height) container style candidate
          (rw (auto_tall style box (inr (inr (inr e)))) (height_absent candidate.node style box k (size_keywords style box).width (z.height k e)))
          (λ known a y. (let h = auto_height style box known true k t a s in
          stretch_side (stretched style box known).known.height box.min.height _ box.max.height box.fit.height y.height h.0 (ap (λ (m : Size (Option Float)). m.height) h.1)
          ∙ ap (λ (x : Float). clamped x box.min.height box.max.height) (fit_down container style candidate))),
    )

-- ---- a side that is still absent: step 6 asks

not_both_width : (a : Size (Option Float)) → a.width ≡ None → both_present a ≡ false
unfolding both_present
not_both_width a e = rw e refl

not_both_height : (a : Size (Option Float)) → a.height ≡ None → both_present a ≡ false
unfolding both_present
not_both_height a e = and_right (is_some a.width) (is_some a.height) (ap is_some e)

asks_absent : (node : ℕ) (box : ResolvedBox) (at : Stretched) → both_present at.known ≡ false
    → measured node box at ≡ ask (MeasureBoth (record { node = node; known = at.known; space = box.space })) (λ r. done (final_size box at r))
unfolding measured ◌>>=◌
asks_absent node box at e = rw e refl

-- step 4 may ask for the other side first, by its keyword
keyword_there : (m : Option Float) (l : CompactLength) (stretch basis : Float) (k : SizingKeywordResolution) → if_absent m (keyword_of l stretch basis) ≡ option.Some k → HasKeyword l
unfolding if_absent keyword_of of_resolved resolved by_tag
keyword_there m l stretch basis k e = search rules

pub wide_keyword : (style : Style) (box : ResolvedBox) (k : SizingKeywordResolution) → (size_keywords style box).width ≡ option.Some k → HasKeyword style.size.width
unfolding size_keywords keywords_of
wide_keyword style box k e = keyword_there box.size.width style.size.width _ _ k e

pub tall_keyword : (style : Style) (box : ResolvedBox) (k : SizingKeywordResolution) → (size_keywords style box).height ≡ option.Some k → HasKeyword style.size.height
unfolding size_keywords keywords_of
tall_keyword style box k e = keyword_there box.size.height style.size.height _ _ k e

module _ (node : ℕ) (style : Style) (box : ResolvedBox) where
  pub height_first : (P : Question → Type 0) (tall : Option SizingKeywordResolution) → box.size.width ≡ None → ((k : SizingKeywordResolution) → tall ≡ option.Some k → HasKeyword style.size.height)
      → ((m : MeasureInput) → HasKeyword style.size.height → m.known.width ≡ None → P (MeasureHeight m)) → Asks P (keyword_sizes node style box (record { width = option.None; height = tall }))
  unfolding keyword_sizes by_keywords in_turn width_as height_as ◌>>=◌
  height_first P option.None e f g = ends
  height_first P (option.Some (Exact y)) e f g = ends
  height_first P (option.Some (Measure space)) e f g = asks (g _ (f _ refl) e) (λ r. ends)

  pub width_first : (P : Question → Type 0) (wide : Option SizingKeywordResolution) → box.size.height ≡ None → ((k : SizingKeywordResolution) → wide ≡ option.Some k → HasKeyword style.size.width)
      → ((m : MeasureInput) → HasKeyword style.size.width → m.known.height ≡ None → P (MeasureWidth m)) → Asks P (keyword_sizes node style box (record { width = wide; height = option.None }))
  unfolding keyword_sizes by_keywords in_turn width_as height_as ◌>>=◌
  width_first P option.None e f g = ends
  width_first P (option.Some (Exact x)) e f g = ends
  width_first P (option.Some (Measure space)) e f g = asks (g _ (f _ refl) e) (λ r. ends)

-- of an auto side: what step 4 asks, and that it leaves the side absent
module _ (container : ContainingBlock) (style : Style) (candidate : OofCandidate) (ratio : style.ratio ≡ None) where
  abbrev own : ResolvedBox
  own = resolved_box container style candidate

  abbrev step_four : Talk (Size (Option Float))
  step_four = keyword_sizes candidate.node style own (size_keywords style own)

  abbrev auto_none : AutoIs absent_size style.ratio style.size own.size
  auto_none = (auto_is_no_size container style candidate).0

  pub asks_height_first : (P : Question → Type 0) → IsAutoSize style.size.width → ((m : MeasureInput) → HasKeyword style.size.height → m.known.width ≡ None → P (MeasureHeight m)) → Asks P step_four
  asks_height_first P a g = rw (auto_wide style own (inr (inr (inr a)))) (height_first candidate.node style own P _ (auto_none.width ratio a) (tall_keyword style own) g)

  pub asks_width_first : (P : Question → Type 0) → IsAutoSize style.size.height → ((m : MeasureInput) → HasKeyword style.size.width → m.known.height ≡ None → P (MeasureWidth m)) → Asks P step_four
  asks_width_first P a g = rw (auto_tall style own (inr (inr (inr a)))) (width_first candidate.node style own P _ (auto_none.height ratio a) (wide_keyword style own) g)

  pub leaves_width : IsAutoSize style.size.width → Always (λ (k : Size (Option Float)). k.width ≡ None) step_four
  leaves_width a = rw (auto_wide style own (inr (inr (inr a)))) (width_absent candidate.node style own ratio (size_keywords style own).height (auto_none.width ratio a))

  pub leaves_height : IsAutoSize style.size.height → Always (λ (k : Size (Option Float)). k.height ≡ None) step_four
  leaves_height a = rw (auto_tall style own (inr (inr (inr a)))) (height_absent candidate.node style own ratio (size_keywords style own).width (auto_none.height ratio a))

measures_bind : {A : Type 0} (B : Question → Type 0) (P : MeasureInput → Size Float → Placed → Type 0) (K : A → Type 0) (m : Talk A) (next : A → Talk Placed) → Asks B m → Always K m
    → ((a : A) → K a → Measures B P (next a)) → Measures B P (m >>= next)
unfolding ◌>>=◌
measures_bind B P K (done a) next ends (now k) f = f a k
measures_bind B P K (ask q reply) next (asks b h) (later k) f = after b (λ r. measures_bind B P K (reply r) next (h r) (k r) f)

-- the question, its reply and the outcome
asks_both : (B : Question → Type 0) (P : MeasureInput → Size Float → Size Float → Type 0) (K : Size (Option Float) → Type 0) (container : ContainingBlock) (style : Style) (candidate : OofCandidate)
    → let box = resolved_box container style candidate in let talk = keyword_sizes candidate.node style box (size_keywords style box) in
    Asks B talk → Always K talk → ((known : Size (Option Float)) → K known → both_present (stretched style box known).known ≡ false)
    → ((known : Size (Option Float)) → K known → (r : Size Float)
    → P (record { node = candidate.node; known = (stretched style box known).known; space = box.space }) r (final_size box (stretched style box known) r))
    → Measures B (λ m r p. P m r p.outcome.layout.size) (placed container style candidate)
unfolding placed box_layout layout_of ◌>>=◌
asks_both B P K container style candidate a k n f =
    let box = resolved_box container style candidate in
    measures_bind B (λ m r p. P m r p.outcome.layout.size) K (keyword_sizes candidate.node style box (size_keywords style box)) _ a k
    (λ known h. rw (asks_absent candidate.node box (stretched style box known) (n known h)) (measures (λ r. later (λ laid. now (f known h r))) (λ r. asks tt (λ laid. ends))))

absent_side : (m min min' max : Option Float) (y : Float) → m ≡ None → min' ≡ min → clamped (unwrap_or m y) min' max ≡ clamped y min max
absent_side m min min' max y e f = rw (e, f) refl

pub measured_is_the_reply : MeasuredIsTheReply
unfolding final_size clamped_floats filled_size
measured_is_the_reply container style candidate q t =
    let box = resolved_box container style candidate in (
      λ e s. (let h : (known : Size (Option Float)) → known.width ≡ None → ((stretched style box known).known.width ≡ None) × ((stretched style box known).min ≡ box.min) = λ known a. auto_width style box known false q t a s in
          asks_both (HeightByKeyword style) (λ m r z. (m.known.width ≡ None) × (z.width ≡ clamped r.width box.min.width box.max.width)) (λ (k : Size (Option Float)). k.width ≡ None) container style candidate
          (asks_height_first container style candidate q (HeightByKeyword style) e (λ m k n. (k, n))) (leaves_width container style candidate q e)
          (λ known a. not_both_width (stretched style box known).known (h known a).0)
          (λ known a r. ((h known a).0, absent_side (stretched style box known).known.width box.min.width _ box.max.width r.width (h known a).0 (ap (λ (m : Size (Option Float)). m.width) (h known a).1)))),
      λ e s. (let h : (known : Size (Option Float)) → known.height ≡ None → ((stretched style box known).known.height ≡ None) × ((stretched style box known).min ≡ box.min) = λ known a. auto_height style box known false q t a s in
          asks_both (WidthByKeyword style) (λ m r z. (m.known.height ≡ None) × (z.height ≡ clamped r.height box.min.height box.max.height)) (λ (k : Size (Option Float)). k.height ≡ None) container style candidate
          (asks_width_first container style candidate q (WidthByKeyword style) e (λ m k n. (k, n))) (leaves_height container style candidate q e)
          (λ known a. not_both_height (stretched style box known).known (h known a).0)
          (λ known a r. ((h known a).0, absent_side (stretched style box known).known.height box.min.height _ box.max.height r.height (h known a).0 (ap (λ (m : Size (Option Float)). m.height) (h known a).1)))),
    )

-- ---- a table

is_table_lem : (t : Bool) (a b : Stretched) → t ≡ true → cond t a b ≡ a
is_table_lem t a b e = rw e refl

raised : (b : Bool) (min : Option Float) (low fit : Float) → min ≡ Some low → raised_min b min fit ≡ Some (table_min b low fit)
unfolding raised_min
raised true min low fit e = rw e refl
raised false min low fit e = e

raised_absent : (m : Option Float) (s b : Bool) (min : Option Float) (low fit : Float) → m ≡ None → s ≡ b → min ≡ Some low → raised_min (not (is_some m) && s) min fit ≡ Some (table_min b low fit)
raised_absent m s b min low fit e f g = ap (λ (c : Bool). raised_min c min fit) (absent_and m s b e f) ∙ raised b min low fit g

module _ (style : Style) (box : ResolvedBox) (known : Size (Option Float)) (table : style.table ≡ true) where
  table_known : (stretched style box known).known ≡ known
  unfolding stretched
  table_known = rw (is_table_lem style.table _ _ table) refl

  table_width : (low : Float) → known.width ≡ None → box.min.width ≡ Some low → (stretched style box known).min.width ≡ Some (table_min (stretches box.horizontal false) low box.fit.width)
  unfolding stretched
  table_width low e m = rw (is_table_lem style.table _ _ table) (raised_absent known.width _ _ box.min.width low box.fit.width e (ap (λ (p : Bool). stretches box.horizontal p) (not_stretchable style table)) m)

  table_height : (low : Float) → known.height ≡ None → box.min.height ≡ Some low → (stretched style box known).min.height ≡ Some (table_min (stretches box.vertical false) low box.fit.height)
  unfolding stretched
  table_height low e m = rw (is_table_lem style.table _ _ table) (raised_absent known.height _ _ box.min.height low box.fit.height e (ap (λ (p : Bool). stretches box.vertical p) (not_stretchable style table)) m)

pub table_is_measured : TableIsMeasured
unfolding final_size clamped_floats filled_size
table_is_measured container style candidate low q t =
    let box = resolved_box container style candidate in (
      λ e m. (let h : (known : Size (Option Float)) → known.width ≡ None → (stretched style box known).known.width ≡ None = λ known a. ap (λ (s : Size (Option Float)). s.width) (table_known style box known t) ∙ a in
          asks_both (HeightByKeyword style) (λ m r z. (m.known.width ≡ None) × (z.width ≡ clamped r.width (Some (table_min (stretches box.horizontal false) low (stretch_fit box.horizontal))) box.max.width)) (λ (k : Size (Option Float)). k.width ≡ None) container style candidate
          (asks_height_first container style candidate q (HeightByKeyword style) e (λ m k n. (k, n))) (leaves_width container style candidate q e)
          (λ known a. not_both_width (stretched style box known).known (h known a))
          (λ known a r. (
            h known a,
            absent_side (stretched style box known).known.width _ _ box.max.width r.width (h known a)
                (table_width style box known t low a m ∙ ap (λ (x : Float). Some (table_min (stretches box.horizontal false) low x)) (fit_across container style candidate)),
          ))),
      λ e m. (let h : (known : Size (Option Float)) → known.height ≡ None → (stretched style box known).known.height ≡ None = λ known a. ap (λ (s : Size (Option Float)). s.height) (table_known style box known t) ∙ a in
          asks_both (WidthByKeyword style) (λ m r z. (m.known.height ≡ None) × (z.height ≡ clamped r.height (Some (table_min (stretches box.vertical false) low (stretch_fit box.vertical))) box.max.height)) (λ (k : Size (Option Float)). k.height ≡ None) container style candidate
          (asks_width_first container style candidate q (WidthByKeyword style) e (λ m k n. (k, n))) (leaves_height container style candidate q e)
          (λ known a. not_both_height (stretched style box known).known (h known a))
          (λ known a r. (
            h known a,
            absent_side (stretched style box known).known.height _ _ box.max.height r.height (h known a)
                (table_height style box known t low a m ∙ ap (λ (x : Float). Some (table_min (stretches box.vertical false) low x)) (fit_down container style candidate)),
          ))),
    )
