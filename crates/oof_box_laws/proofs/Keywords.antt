-- Size keywords: what is asked, and what becomes of the reply. Assumes nothing.
use borrow.Author.Rules.{rules}
use mathlib.Core.Path.{◌≡◌, refl, sym, ap, ap₂, ◌∙◌}
use mathlib.Core.Bool.{true, false, false≢true}
use mathlib.Core.Logic.{◌⊎◌, inl, inr}
use Prim.Native.Nat.{ℕ}
use lib.Ieee.{Float}
use Rattle.std.specs.Prelude.{Option, Float, None, Some, is_some}
use Rattle.std.specs.declared.option.Option.TheVariants as option
use Rattle.util.specs.Maybe.{map_clamped, clamped}
use Rattle.geometry.specs.Geometry.{absent_size, definite, both_present, first_size, raised_size, clamped_size, completed, with_ratio}
use Rattle.geometry.specs.declared.Size.{Size}
use Rattle.style.specs.Resolve.{by_tag, resolved}
use Rattle.style.specs.declared.Style.{Style}
use Rattle.style.specs.declared.available_space.AvailableSpace.{AvailableSpace}
use Rattle.style.specs.declared.compact_length.CompactLength.{CompactLength}
use Rattle.tree.specs.declared.layout.OofCandidate.{OofCandidate}
use Rattle.oof_resolve.specs.Resolved.{min_size, resolved_box}
use Rattle.oof_resolve.specs.declared.ContainingBlock.{ContainingBlock}
use Rattle.oof_resolve.specs.declared.ResolvedBox.{ResolvedBox}
use Rattle.oof_common.specs.SizingKeyword.{by_keyword, of_resolved, keyword_of, absolute_stretch, if_absent, keywords_of}
use Rattle.oof_common.specs.declared.sizing_keyword.SizingKeywordResolution.{SizingKeywordResolution}
use Rattle.oof_common.specs.declared.sizing_keyword.SizingKeywordResolution.TheVariants.{Exact, Measure}
use Rattle.oof_place.specs.Placing.{layout_of, box_layout}
use Rattle.oof_box.specs.Talk.{Talk, done, ask, ReplyTo, ◌>>=◌}
use Rattle.oof_box.specs.Box.{Placed, placed, ◌by◌, ◌and◌, keyword_stretch, size_keywords, settled, width_input, height_input, width_as, height_as, in_turn, by_keywords, keyword_sizes, widened, heightened, stretched, final_size, measured}
use Rattle.oof_box.specs.declared.question.Question.{Question}
use Rattle.oof_box.specs.declared.question.Question.TheVariants.{MeasureBoth, MeasureWidth, MeasureHeight, LayOut}
use Rattle.oof_axis_laws.specs.Laws.{stretch_size}
use Rattle.oof_box_laws.specs.Resolved.{IsStretchKeyword}
use Rattle.oof_box_laws.specs.Laws.{Always, now, later, Asks, ends, asks, NoSizeKeyword, space_of, WidthTold, HeightTold, OnlyLayOut}
use Rattle.oof_box_laws.specs.Keywords.{MeasuredIn, min_content, max_content, fit_content, fit_content_pixels, fit_content_percent, WideIn, TallIn, NotMeasured, KeywordIsNoSize, KeywordIsNoLimit, StretchKeywordFills, Opens, opens, BothSidesAreMeasured, WidthIsMeasured, WidthThen, given, by_stretch, auto, HeightIsMeasured, FilledIn, FilledInTheSpace, NotForBoth, GivenOrKeyword, AutoStretches, NothingIsLeftToFill}
use Rattle.oof_box_laws.proofs.Always.{always_bind, always_map, always_both, always_any, measured_always, size_from}
use Rattle.oof_box_laws.proofs.Resolved.{size, bound, keyword_size, no_length, ratio_width, ratio_height, axes_of_the_block, none_width, none_height, none_both, none_clamped, none_raised, two_sides}
use Rattle.oof_box_laws.proofs.Clamp.{clamp_is_settled}
use Rattle.oof_box_laws.proofs.Sizes.{no_size_keyword, none_if_absent, auto_wide, auto_tall, no_keyword, auto_width, auto_height, leaves_width, leaves_height, told_width, told_height, stretched_width, stretched_height}
use Rattle.oof_box_laws.proofs.Questions.{rest_asks, asks_unless_there, asks_placed, space_is}

-- ---- what a keyword comes to

stretch_is : (l : CompactLength) (stretch basis : Float) → IsStretchKeyword l → keyword_of l stretch basis ≡ option.Some (Exact stretch)
unfolding keyword_of of_resolved resolved by_tag by_keyword
stretch_is l stretch basis e = search rules

measured_is : (l : CompactLength) (stretch basis : Float) (space : AvailableSpace) → MeasuredIn stretch basis l space → keyword_of l stretch basis ≡ option.Some (Measure space)
unfolding keyword_of of_resolved resolved by_tag by_keyword
measured_is _ stretch basis _ min_content = refl
measured_is _ stretch basis _ max_content = refl
measured_is _ stretch basis _ fit_content = refl
measured_is _ stretch basis _ fit_content_pixels = refl
measured_is _ stretch basis _ fit_content_percent = refl

of_absent : (m : Option Float) (k : Option SizingKeywordResolution) → m ≡ None → if_absent m k ≡ k
unfolding if_absent
of_absent m k e = rw e refl

-- a side that no keyword measures
pub data Unmeasured : Option SizingKeywordResolution → Type 0 where
  none : Unmeasured option.None
  exactly : (x : Float) → Unmeasured (option.Some (Exact x))

exactly_or : (m : Option Float) (x : Float) → Unmeasured (if_absent m (option.Some (Exact x)))
unfolding if_absent
exactly_or m x = search (rules, exactly, none)

not_measured : (m : Option Float) (l : CompactLength) (stretch basis : Float) → NotMeasured m l → Unmeasured (if_absent m (keyword_of l stretch basis))
not_measured m l stretch basis n = search (rules, no_keyword, none_if_absent, no_size_keyword, stretch_is, exactly_or, none)

pub keyword_is_no_size : KeywordIsNoSize
unfolding resolved_box clamped_size
keyword_is_no_size container style candidate = search (rules, none_clamped, none_width, none_height, none_both, keyword_size, no_length, two_sides, size)

pub keyword_is_no_limit : KeywordIsNoLimit
unfolding resolved_box clamped_size min_size raised_size first_size definite
keyword_is_no_limit container style candidate =
    (λ e. search (rules, none_width, none_height, none_raised, keyword_size, bound), search (rules, none_both, no_length, two_sides, bound), search (rules, none_both, none_raised, no_length, two_sides, bound))

-- ---- of a box, each side

module _ (container : ContainingBlock) (style : Style) (candidate : OofCandidate) where
  abbrev box : ResolvedBox
  box = resolved_box container style candidate

  abbrev wide : Option SizingKeywordResolution
  wide = (size_keywords style box).width

  abbrev tall : Option SizingKeywordResolution
  tall = (size_keywords style box).height

  keywords_are : {w h : Option SizingKeywordResolution} → wide ≡ w → tall ≡ h → size_keywords style box ≡ record { width = w; height = h }
  unfolding size_keywords keywords_of
  keywords_are e f = rw (e, f) refl

  -- step 4 by them
  pub step_four : {w h : Option SizingKeywordResolution} → wide ≡ w → tall ≡ h
      → keyword_sizes candidate.node style box (size_keywords style box) ≡ keyword_sizes candidate.node style box (record { width = w; height = h })
  step_four e f = search (rules, keywords_are)

  pub wide_stretch : box.size.width ≡ None → IsStretchKeyword style.size.width → wide ≡ option.Some (Exact (stretch_size box.horizontal))
  unfolding size_keywords keywords_of keyword_stretch absolute_stretch
  wide_stretch e s = search (rules, of_absent, stretch_is)

  pub tall_stretch : box.size.height ≡ None → IsStretchKeyword style.size.height → tall ≡ option.Some (Exact (stretch_size box.vertical))
  unfolding size_keywords keywords_of keyword_stretch absolute_stretch
  tall_stretch e s = search (rules, of_absent, stretch_is)

  wide_given : (w : Float) → box.size.width ≡ Some w → wide ≡ option.None
  unfolding size_keywords keywords_of
  wide_given w e = search (rules, no_keyword)

  pub wide_auto : NoSizeKeyword style.size.width → wide ≡ option.None
  wide_auto n = ap (λ (k : Size (Option SizingKeywordResolution)). k.width) (auto_wide style box n)

  pub wide_measured : (space : AvailableSpace) → box.size.width ≡ None → WideIn container style box space → wide ≡ option.Some (Measure space)
  unfolding size_keywords keywords_of keyword_stretch absolute_stretch
  wide_measured space e m = search (rules, of_absent, axes_of_the_block, measured_is)

  pub tall_measured : (space : AvailableSpace) → box.size.height ≡ None → TallIn container style box space → tall ≡ option.Some (Measure space)
  unfolding size_keywords keywords_of keyword_stretch absolute_stretch
  tall_measured space e m = search (rules, of_absent, axes_of_the_block, measured_is)

  pub tall_auto : NoSizeKeyword style.size.height → tall ≡ option.None
  tall_auto n = ap (λ (k : Size (Option SizingKeywordResolution)). k.height) (auto_tall style box n)

  wide_unmeasured : NotMeasured box.size.width style.size.width → Unmeasured wide
  unfolding size_keywords keywords_of
  wide_unmeasured n = not_measured box.size.width style.size.width _ _ n

  tall_unmeasured : NotMeasured box.size.height style.size.height → Unmeasured tall
  unfolding size_keywords keywords_of
  tall_unmeasured n = not_measured box.size.height style.size.height _ _ n

  one_unmeasured : NotMeasured box.size.width style.size.width ⊎ NotMeasured box.size.height style.size.height → Unmeasured wide ⊎ Unmeasured tall
  one_unmeasured n = search (rules, wide_unmeasured, tall_unmeasured)

-- ---- ratio and clamp of a side that is there

pub clamped_width : (ratio : Option Float) (box : ResolvedBox) (s : Size (Option Float)) (x : Float) → s.width ≡ Some x → (settled ratio box s).width ≡ Some (clamped x box.min.width box.max.width)
unfolding settled clamped_size map_clamped
clamped_width ratio box s x e = rw (ratio_width ratio s x e) refl

pub clamped_height : (ratio : Option Float) (box : ResolvedBox) (s : Size (Option Float)) (x : Float) → s.height ≡ Some x → (settled ratio box s).height ≡ Some (clamped x box.min.height box.max.height)
unfolding settled clamped_size map_clamped
clamped_height ratio box s x e = rw (ratio_height ratio s x e) refl

-- the final size, from the known one
pub final_width : (style : Style) (box : ResolvedBox) (known : Size (Option Float)) (x : Float) (s : Size Float) → known.width ≡ Some (clamped x box.min.width box.max.width)
    → (final_size box (stretched style box known) s).width ≡ clamped x box.min.width box.max.width
final_width style box known x s e = stretched_width style box known _ (clamp_is_settled x box.min.width box.max.width) e s

pub final_height : (style : Style) (box : ResolvedBox) (known : Size (Option Float)) (x : Float) (s : Size Float) → known.height ≡ Some (clamped x box.min.height box.max.height)
    → (final_size box (stretched style box known) s).height ≡ clamped x box.min.height box.max.height
final_height style box known x s e = stretched_height style box known _ (clamp_is_settled x box.min.height box.max.height) e s

-- ---- step 4, by the keywords of the two sides

module _ (node : ℕ) (style : Style) (box : ResolvedBox) where
  pub exact_width : (x : Float) (tall : Option SizingKeywordResolution)
      → Always (λ (k : Size (Option Float)). k.width ≡ Some (clamped x box.min.width box.max.width)) (keyword_sizes node style box (record { width = option.Some (Exact x); height = tall }))
  unfolding keyword_sizes by_keywords in_turn width_as height_as ◌>>=◌
  exact_width x tall = search (rules, clamped_width, now, later)

  pub exact_height : (y : Float) (wide : Option SizingKeywordResolution)
      → Always (λ (k : Size (Option Float)). k.height ≡ Some (clamped y box.min.height box.max.height)) (keyword_sizes node style box (record { width = wide; height = option.Some (Exact y) }))
  unfolding keyword_sizes by_keywords in_turn width_as height_as ◌>>=◌
  exact_height y wide = search (rules, clamped_height, now, later)

  both_asked : (spaceX spaceY : AvailableSpace)
      → keyword_sizes node style box (record { width = option.Some (Measure spaceX); height = option.Some (Measure spaceY) })
      ≡ ask (MeasureBoth (record { node = node; known = absent_size; space = spaceX and spaceY })) (λ r. done (settled style.ratio box (definite r)))
  unfolding keyword_sizes by_keywords ◌>>=◌
  both_asked spaceX spaceY = refl

  -- the height that stands beside a measured width
  abbrev beside : Option SizingKeywordResolution → Option Float
  beside option.None = box.size.height
  beside (option.Some (Exact y)) = Some y
  beside (option.Some (Measure space)) = None

  pub width_asked : (spaceX : AvailableSpace) (tall : Option SizingKeywordResolution) → Unmeasured tall
      → keyword_sizes node style box (record { width = option.Some (Measure spaceX); height = tall })
      ≡ ask (MeasureWidth (width_input node spaceX box.size (keyword_stretch box))) (λ r. done (settled style.ratio box (Some r by beside tall)))
  unfolding keyword_sizes by_keywords in_turn width_as height_as ◌>>=◌
  width_asked spaceX tall u = search rules

  pub height_asked : (spaceY : AvailableSpace)
      → keyword_sizes node style box (record { width = option.None; height = option.Some (Measure spaceY) })
      ≡ ask (MeasureHeight (height_input node spaceY box.size (keyword_stretch box))) (λ r. done (settled style.ratio box (box.size.width by Some r)))
  unfolding keyword_sizes by_keywords in_turn width_as height_as ◌>>=◌
  height_asked spaceY = refl

  height_asked_at : (x : Float) (spaceY : AvailableSpace)
      → keyword_sizes node style box (record { width = option.Some (Exact x); height = option.Some (Measure spaceY) })
      ≡ ask (MeasureHeight (height_input node spaceY (Some x by box.size.height) (keyword_stretch box))) (λ r. done (settled style.ratio box (Some x by Some r)))
  unfolding keyword_sizes by_keywords in_turn width_as height_as ◌>>=◌
  height_asked_at x spaceY = refl

  -- no question for both, unless both are measured
  filled_by : (space : Size AvailableSpace) (wide tall : Option SizingKeywordResolution) → Unmeasured wide ⊎ Unmeasured tall → Asks (FilledIn space) (keyword_sizes node style box (record { width = wide; height = tall }))
  unfolding keyword_sizes by_keywords in_turn width_as height_as ◌>>=◌
  filled_by space wide tall u = search (rules, ends, asks)

-- ---- the laws

pub stretch_keyword_fills : StretchKeywordFills
stretch_keyword_fills container style candidate =
    let box = resolved_box container style candidate in (
      λ e s. size_from (λ (k : Size (Option Float)). k.width ≡ Some (clamped (stretch_size box.horizontal) box.min.width box.max.width)) _ container style candidate
          (rw (step_four container style candidate (wide_stretch container style candidate e s) refl) (exact_width candidate.node style box _ (size_keywords style box).height))
          (λ known k s. final_width style box known (stretch_size box.horizontal) s k),
      λ e s. size_from (λ (k : Size (Option Float)). k.height ≡ Some (clamped (stretch_size box.vertical) box.min.height box.max.height)) _ container style candidate
          (rw (step_four container style candidate refl (tall_stretch container style candidate e s)) (exact_height candidate.node style box _ (size_keywords style box).width))
          (λ known k s. final_height style box known (stretch_size box.vertical) s k),
    )

-- a question of step 4 opens the dialogue. What holds of the final size by its reply holds of the layout's size, and what holds of step 6's
-- question, where it is asked, and of lay out holds of every question after it
module _ (container : ContainingBlock) (style : Style) (candidate : OofCandidate) where
  abbrev whole : ResolvedBox
  whole = resolved_box container style candidate

  pub opens_with : (q : Question) (known : ReplyTo q → Size (Option Float)) (P : ReplyTo q → Size Float → Type 0) (R : ReplyTo q → Question → Type 0)
      → keyword_sizes candidate.node style whole (size_keywords style whole) ≡ ask q (λ r. done (known r))
      → ((r : ReplyTo q) (s : Size Float) → P r (final_size whole (stretched style whole (known r)) s))
      → ((r : ReplyTo q) → both_present (stretched style whole (known r)).known ≡ false
      → R r (MeasureBoth (record { node = candidate.node; known = (stretched style whole (known r)).known; space = whole.space })))
      → ((r : ReplyTo q) (s : Size Float) → R r (LayOut (record { node = candidate.node; size = final_size whole (stretched style whole (known r)) s; space = whole.space })))
      → Opens q (λ r p. P r p.outcome.layout.size) R (placed container style candidate)
  unfolding placed box_layout layout_of ◌>>=◌
  opens_with q known P R e f m l =
      rw e
      (opens
      (λ r. always_bind (P r) (λ (p : Placed). P r p.outcome.layout.size) (measured candidate.node whole (stretched style whole (known r))) _
      (measured_always (P r) candidate.node whole (stretched style whole (known r)) (f r)) (λ size h. later (λ laid. now h)))
      (λ r. rest_asks (R r) container style candidate (known r) (m r) (l r)))

-- nothing is asked where both sides are there
both_there : {P : Type 0} (s : Size (Option Float)) → is_some s.width ≡ true → is_some s.height ≡ true → both_present s ≡ false → P
unfolding both_present
both_there s e f n = absurd (false≢true (sym n ∙ rw (e, f) refl))

pub not_asked_lem : {P : Type 0} (s : Size (Option Float)) (x y : Float) → s.width ≡ Some x → s.height ≡ Some y → both_present s ≡ false → P
not_asked_lem s x y e f n = both_there s (ap is_some e) (ap is_some f) n

pub wide_told : (style : Style) (box : ResolvedBox) (known : Size (Option Float)) (x : Float) → known.width ≡ Some (clamped x box.min.width box.max.width)
    → (stretched style box known).known.width ≡ Some (clamped x box.min.width box.max.width)
wide_told style box known x e = told_width style box known _ (clamp_is_settled x box.min.width box.max.width) e

pub tall_told : (style : Style) (box : ResolvedBox) (known : Size (Option Float)) (x : Float) → known.height ≡ Some (clamped x box.min.height box.max.height)
    → (stretched style box known).known.height ≡ Some (clamped x box.min.height box.max.height)
tall_told style box known x e = told_height style box known _ (clamp_is_settled x box.min.height box.max.height) e

pub both_sides_are_measured : BothSidesAreMeasured
unfolding definite
both_sides_are_measured container style candidate spaceX spaceY e x y =
    let box = resolved_box container style candidate in
    let known : Size Float → Size (Option Float) = λ r. settled style.ratio box (definite r) in
    let wide : (r : Size Float) → (known r).width ≡ Some (clamped r.width box.min.width box.max.width) = λ r. clamped_width style.ratio box (definite r) r.width refl in
    let tall : (r : Size Float) → (known r).height ≡ Some (clamped r.height box.min.height box.max.height) = λ r. clamped_height style.ratio box (definite r) r.height refl in
    opens_with container style candidate _ known
    (λ (r s : Size Float). (s.width ≡ clamped r.width box.min.width box.max.width) × (s.height ≡ clamped r.height box.min.height box.max.height)) (λ r q. OnlyLayOut q)
    (step_four container style candidate (wide_measured container style candidate spaceX (ap (λ (s : Size (Option Float)). s.width) e) x) (tall_measured container style candidate spaceY (ap (λ (s : Size (Option Float)). s.height) e) y)
    ∙ both_asked candidate.node style box spaceX spaceY)
    (λ r s. (final_width style box (known r) r.width s (wide r), final_height style box (known r) r.height s (tall r)))
    (λ r n. not_asked_lem (stretched style box (known r)).known _ _ (wide_told style box (known r) r.width (wide r)) (tall_told style box (known r) r.height (tall r)) n)
    (λ r s. tt)

pub width_is_measured : WidthIsMeasured
unfolding keyword_stretch absolute_stretch
width_is_measured container style candidate spaceX e x n =
    let box = resolved_box container style candidate in
    let known : Float → Size (Option Float) = λ r. settled style.ratio box (Some r by beside candidate.node style box (size_keywords style box).height) in
    let wide : (r : Float) → (known r).width ≡ Some (clamped r box.min.width box.max.width) = λ r. clamped_width style.ratio box (Some r by _) r refl in
    opens_with container style candidate _ known (λ r s. s.width ≡ clamped r box.min.width box.max.width) (λ r q. WidthTold (clamped r box.min.width box.max.width) q)
    (step_four container style candidate (wide_measured container style candidate spaceX e x) refl
    ∙ width_asked candidate.node style box spaceX (size_keywords style box).height (tall_unmeasured container style candidate n))
    (λ r s. final_width style box (known r) r s (wide r)) (λ r n. wide_told style box (known r) r (wide r)) (λ r s. final_width style box (known r) r s (wide r))

pub height_is_measured : HeightIsMeasured
unfolding keyword_stretch absolute_stretch
height_is_measured container style candidate spaceY width e y t = go width t
  where
    own : ResolvedBox
    own = resolved_box container style candidate

    tallness : (size_keywords style own).height ≡ option.Some (Measure spaceY)
    tallness = tall_measured container style candidate spaceY e y

    -- with what is then known of the width
    opened : (width : Option Float)
        → keyword_sizes candidate.node style own (size_keywords style own)
        ≡ ask (MeasureHeight (height_input candidate.node spaceY (width by None) (keyword_stretch own))) (λ r. done (settled style.ratio own (width by Some r)))
        → Opens (MeasureHeight (height_input candidate.node spaceY (width by None) (keyword_stretch own)))
        (λ (r : Float) p. p.outcome.layout.size.height ≡ clamped r own.min.height own.max.height) (λ (r : Float) q. HeightTold (clamped r own.min.height own.max.height) q)
        (placed container style candidate)
    opened width f =
        let known : Float → Size (Option Float) = λ r. settled style.ratio own (width by Some r) in
        let tall : (r : Float) → (known r).height ≡ Some (clamped r own.min.height own.max.height) = λ r. clamped_height style.ratio own (width by Some r) r refl in
        opens_with container style candidate _ known (λ r s. s.height ≡ clamped r own.min.height own.max.height) (λ r q. HeightTold (clamped r own.min.height own.max.height) q) f
        (λ r s. final_height style own (known r) r s (tall r)) (λ r n. tall_told style own (known r) r (tall r)) (λ r s. final_height style own (known r) r s (tall r))

    none_wide : (size_keywords style own).width ≡ option.None → (w : Option Float) → own.size.width ≡ w
        → keyword_sizes candidate.node style own (size_keywords style own)
        ≡ ask (MeasureHeight (height_input candidate.node spaceY (w by None) (keyword_stretch own))) (λ r. done (settled style.ratio own (w by Some r)))
    none_wide n w q =
        step_four container style candidate n tallness ∙ height_asked candidate.node style own spaceY
        ∙ ap₂ (λ (w h : Option Float). ask (MeasureHeight (height_input candidate.node spaceY (w by h) (keyword_stretch own))) (λ r. done (settled style.ratio own (w by Some r)))) q e

    go : (width : Option Float) → WidthThen style own width
        → Opens (MeasureHeight (height_input candidate.node spaceY (width by None) (keyword_stretch own)))
        (λ (r : Float) p. p.outcome.layout.size.height ≡ clamped r own.min.height own.max.height) (λ (r : Float) q. HeightTold (clamped r own.min.height own.max.height) q)
        (placed container style candidate)
    go _ (given {w = w} q) = opened (Some w) (none_wide (wide_given container style candidate w q) (Some w) q)
    go _ (auto q n) = opened None (none_wide (wide_auto container style candidate n) None q)
    go _ (by_stretch q s) =
        opened (Some (stretch_size own.horizontal))
        (step_four container style candidate (wide_stretch container style candidate q s) tallness ∙ height_asked_at candidate.node style own (stretch_size own.horizontal) spaceY
        ∙ ap (λ (h : Option Float). ask (MeasureHeight (height_input candidate.node spaceY (Some (stretch_size own.horizontal) by h) (keyword_stretch own))) (λ r. done (settled style.ratio own (Some (stretch_size own.horizontal) by Some r)))) e)

pub filled_in_the_space : FilledInTheSpace
filled_in_the_space container style candidate n =
    let box = resolved_box container style candidate in
    let e = space_is container style candidate in
    asks_placed (FilledIn (space_of style box)) container style candidate (λ (k : Size (Option Float)). Unit {0})
    (rw (step_four container style candidate refl refl) (filled_by candidate.node style box (space_of style box) _ _ (one_unmeasured container style candidate n))) (always_any _) (λ known u. e)
    (λ known u s. tt)

-- ---- nothing is left to fill

-- what is there stays there, by ratio and clamp
width_stays : (ratio : Option Float) (box : ResolvedBox) (s : Size (Option Float)) → is_some s.width ≡ true → is_some (settled ratio box s).width ≡ true
unfolding settled clamped_size with_ratio completed map_clamped
width_stays ratio box s e = search rules

height_stays : (ratio : Option Float) (box : ResolvedBox) (s : Size (Option Float)) → is_some s.height ≡ true → is_some (settled ratio box s).height ≡ true
unfolding settled clamped_size with_ratio completed map_clamped
height_stays ratio box s e = search rules

-- and by step 5
width_there : (style : Style) (box : ResolvedBox) (known : Size (Option Float)) → is_some known.width ≡ true → is_some (stretched style box known).known.width ≡ true
unfolding stretched widened heightened
width_there style box known e = search (rules, width_stays)

height_there : (style : Style) (box : ResolvedBox) (known : Size (Option Float)) → is_some known.height ≡ true → is_some (stretched style box known).known.height ≡ true
unfolding stretched widened heightened
height_there style box known e = search (rules, height_stays)

module _ (node : ℕ) (style : Style) (box : ResolvedBox) where
  -- a side that step 4 doesn't fill is there before
  width_known : (wide tall : Option SizingKeywordResolution) → (wide ≡ option.None → is_some box.size.width ≡ true)
      → Always (λ (k : Size (Option Float)). is_some k.width ≡ true) (keyword_sizes node style box (record { width = wide; height = tall }))
  unfolding keyword_sizes by_keywords in_turn width_as height_as ◌>>=◌ definite
  width_known wide tall f = search (rules, width_stays, now, later)

  height_known : (wide tall : Option SizingKeywordResolution) → (tall ≡ option.None → is_some box.size.height ≡ true)
      → Always (λ (k : Size (Option Float)). is_some k.height ≡ true) (keyword_sizes node style box (record { width = wide; height = tall }))
  unfolding keyword_sizes by_keywords in_turn width_as height_as ◌>>=◌ definite
  height_known wide tall f = search (rules, height_stays, now, later)

  not_for_both : (wide tall : Option SizingKeywordResolution) → Unmeasured wide ⊎ Unmeasured tall → Asks NotForBoth (keyword_sizes node style box (record { width = wide; height = tall }))
  unfolding keyword_sizes by_keywords in_turn width_as height_as ◌>>=◌
  not_for_both wide tall u = search (rules, ends, asks)

given_or_keyword : (m : Option Float) (l : CompactLength) (stretch basis : Float) → GivenOrKeyword m l → if_absent m (keyword_of l stretch basis) ≡ option.None → is_some m ≡ true
unfolding if_absent keyword_of of_resolved resolved by_tag
given_or_keyword m l stretch basis g n = search rules

module _ (container : ContainingBlock) (style : Style) (candidate : OofCandidate) where
  abbrev filled : ResolvedBox
  filled = resolved_box container style candidate

  abbrev step_four_of : Talk (Size (Option Float))
  step_four_of = keyword_sizes candidate.node style filled (size_keywords style filled)

  -- after step 5 the side is there
  width_is_filled : GivenOrKeyword filled.size.width style.size.width ⊎ AutoStretches style filled.horizontal style.size.width
      → Always (λ (k : Size (Option Float)). is_some (stretched style filled k).known.width ≡ true) step_four_of
  unfolding size_keywords keywords_of
  width_is_filled (inl g) = always_map _ _ step_four_of (λ k f. width_there style filled k f) (width_known candidate.node style filled _ _ (given_or_keyword filled.size.width style.size.width _ _ g))
  width_is_filled (inr (q, t, a, s)) = always_map _ _ step_four_of (λ k f. ap is_some (auto_width style filled k true q t f s).0) (leaves_width container style candidate q a)

  height_is_filled : GivenOrKeyword filled.size.height style.size.height ⊎ AutoStretches style filled.vertical style.size.height
      → Always (λ (k : Size (Option Float)). is_some (stretched style filled k).known.height ≡ true) step_four_of
  unfolding size_keywords keywords_of
  height_is_filled (inl g) = always_map _ _ step_four_of (λ k f. height_there style filled k f) (height_known candidate.node style filled _ _ (given_or_keyword filled.size.height style.size.height _ _ g))
  height_is_filled (inr (q, t, a, s)) = always_map _ _ step_four_of (λ k f. ap is_some (auto_height style filled k true q t f s).0) (leaves_height container style candidate q a)

pub nothing_is_left_to_fill : NothingIsLeftToFill
nothing_is_left_to_fill container style candidate w h n =
    let box = resolved_box container style candidate in
    let talk = keyword_sizes candidate.node style box (size_keywords style box) in
    asks_unless_there NotForBoth container style candidate _
    (rw (step_four container style candidate refl refl) (not_for_both candidate.node style box _ _ (one_unmeasured container style candidate n)))
    (always_both _ _ talk (width_is_filled container style candidate w) (height_is_filled container style candidate h))
    (λ known k absent. both_there (stretched style box known).known k.0 k.1 absent) (λ known k s. tt)
