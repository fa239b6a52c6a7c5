-- What is told of a side with the keyword stretch; ratio and clamp follow step 4. Assumes nothing.
use borrow.Author.Rules.{rules}
use mathlib.Core.Path.{◌≡◌, refl, ap, ◌∙◌}
use Prim.Native.Nat.{ℕ}
use lib.Ieee.{Float}
use Rattle.std.specs.Prelude.{Option, Float, None, Some}
use Rattle.std.specs.declared.option.Option.TheVariants as option
use Rattle.util.specs.Number.{◌⊗◌, ◌⊘◌}
use Rattle.util.specs.Maybe.{map_clamped, clamped}
use Rattle.geometry.specs.Geometry.{clamped_size, completed, with_ratio}
use Rattle.geometry.specs.declared.Size.{Size}
use Rattle.style.specs.declared.Style.{Style}
use Rattle.oof_resolve.specs.Resolved.{resolved_box}
use Rattle.oof_resolve.specs.declared.ResolvedBox.{ResolvedBox}
use Rattle.oof_common.specs.SizingKeyword.{absolute_stretch}
use Rattle.oof_common.specs.declared.sizing_keyword.SizingKeywordResolution.{SizingKeywordResolution}
use Rattle.oof_common.specs.declared.sizing_keyword.SizingKeywordResolution.TheVariants.{Exact}
use Rattle.oof_box.specs.Talk.{done, ask, ◌>>=◌}
use Rattle.oof_box.specs.Box.{◌by◌, keyword_stretch, size_keywords, settled, width_input, height_input, width_as, height_as, in_turn, by_keywords, keyword_sizes, stretched}
use Rattle.oof_box.specs.declared.question.Question.TheVariants.{MeasureWidth, MeasureHeight}
use Rattle.oof_axis_laws.specs.Laws.{stretch_size}
use Rattle.oof_box_laws.specs.Laws.{Always, now, Asks, ends, asks, OnlyLayOut}
use Rattle.oof_box_laws.specs.Keywords.{StretchedWidthTold, StretchedHeightTold, StretchKeywordIsTold, RatioCompletesAKeyword}
use Rattle.oof_box_laws.proofs.Always.{always_both, size_from}
use Rattle.oof_box_laws.proofs.Questions.{asks_unless_there, asks_placed}
use Rattle.oof_box_laws.proofs.Keywords.{none, step_four, wide_stretch, tall_stretch, wide_auto, tall_auto, wide_measured, tall_measured, clamped_width, clamped_height, final_width, final_height, exact_width, exact_height, width_asked, height_asked, opens_with, not_asked_lem, wide_told, tall_told}

-- ---- told

module _ (node : ℕ) (style : Style) (box : ResolvedBox) where
  width_told : (x y : Float) (tall : Option SizingKeywordResolution) → Asks (StretchedWidthTold x y) (keyword_sizes node style box (record { width = option.Some (Exact x); height = tall }))
  unfolding keyword_sizes by_keywords in_turn width_as height_as ◌>>=◌
  width_told x y tall = search (rules, ends, asks)

  height_told : (x y : Float) (wide : Option SizingKeywordResolution) → box.size.height ≡ None → Asks (StretchedHeightTold y) (keyword_sizes node style box (record { width = wide; height = option.Some (Exact x) }))
  unfolding keyword_sizes by_keywords in_turn width_as height_as ◌>>=◌
  height_told x y wide e = search (rules, ends, asks)

pub stretch_keyword_is_told : StretchKeywordIsTold
stretch_keyword_is_told container style candidate =
    let box = resolved_box container style candidate in
    let w = stretch_size box.horizontal in
    let h = stretch_size box.vertical in (
      λ e s. (let four = step_four container style candidate (wide_stretch container style candidate e s) refl in
          asks_placed (StretchedWidthTold w (clamped w box.min.width box.max.width)) container style candidate (λ (k : Size (Option Float)). k.width ≡ Some (clamped w box.min.width box.max.width))
          (rw four (width_told candidate.node style box w _ (size_keywords style box).height)) (rw four (exact_width candidate.node style box w (size_keywords style box).height))
          (λ known k. wide_told style box known w k) (λ known k s. final_width style box known w s k)),
      λ e s. (let four = step_four container style candidate refl (tall_stretch container style candidate e s) in
          asks_placed (StretchedHeightTold (clamped h box.min.height box.max.height)) container style candidate (λ (k : Size (Option Float)). k.height ≡ Some (clamped h box.min.height box.max.height))
          (rw four (height_told candidate.node style box h _ (size_keywords style box).width e)) (rw four (exact_height candidate.node style box h (size_keywords style box).width))
          (λ known k. tall_told style box known h k) (λ known k s. final_height style box known h s k)),
    )

-- ---- ratio and clamp

completed_height : (ratio : Option Float) (box : ResolvedBox) (r x : Float) (h : Option Float) → ratio ≡ Some r → h ≡ None → (settled ratio box (Some x by h)).height ≡ Some (clamped (x ⊘ r) box.min.height box.max.height)
unfolding settled clamped_size with_ratio completed map_clamped
completed_height ratio box r x h e f = rw (e, f) refl

completed_width : (ratio : Option Float) (box : ResolvedBox) (r x : Float) (w : Option Float) → ratio ≡ Some r → w ≡ None → (settled ratio box (w by Some x)).width ≡ Some (clamped (x ⊗ r) box.min.width box.max.width)
unfolding settled clamped_size with_ratio completed map_clamped
completed_width ratio box r x w e f = rw (e, f) refl

module _ (node : ℕ) (style : Style) (box : ResolvedBox) (r : Float) (ratio : style.ratio ≡ Some r) where
  height_by_ratio : (x : Float) → box.size.height ≡ None
      → Always (λ (k : Size (Option Float)). k.height ≡ Some (clamped (x ⊘ r) box.min.height box.max.height)) (keyword_sizes node style box (record { width = option.Some (Exact x); height = option.None }))
  unfolding keyword_sizes by_keywords in_turn width_as height_as ◌>>=◌
  height_by_ratio x e = now (completed_height style.ratio box r x box.size.height ratio e)

  width_by_ratio : (x : Float) → box.size.width ≡ None
      → Always (λ (k : Size (Option Float)). k.width ≡ Some (clamped (x ⊗ r) box.min.width box.max.width)) (keyword_sizes node style box (record { width = option.None; height = option.Some (Exact x) }))
  unfolding keyword_sizes by_keywords in_turn width_as height_as ◌>>=◌
  width_by_ratio x e = now (completed_width style.ratio box r x box.size.width ratio e)

  stretch_width_alone : (x : Float) → Asks OnlyLayOut (keyword_sizes node style box (record { width = option.Some (Exact x); height = option.None }))
  unfolding keyword_sizes by_keywords in_turn width_as height_as ◌>>=◌
  stretch_width_alone x = ends

  stretch_height_alone : (x : Float) → Asks OnlyLayOut (keyword_sizes node style box (record { width = option.None; height = option.Some (Exact x) }))
  unfolding keyword_sizes by_keywords in_turn width_as height_as ◌>>=◌
  stretch_height_alone x = ends

pub ratio_completes_a_keyword : RatioCompletesAKeyword
unfolding keyword_stretch absolute_stretch
ratio_completes_a_keyword container style candidate r q a =
    let box = resolved_box container style candidate in
    let w = ap (λ (s : Size (Option Float)). s.width) a in
    let h = ap (λ (s : Size (Option Float)). s.height) a in (
      λ n s. (let x = stretch_size box.horizontal in
          let four = step_four container style candidate (wide_stretch container style candidate w s) (tall_auto container style candidate n) in
          let tall = height_by_ratio candidate.node style box r q x h in (
            size_from (λ (k : Size (Option Float)). k.height ≡ Some (clamped (x ⊘ r) box.min.height box.max.height)) _ container style candidate (rw four tall) (λ known k s. final_height style box known (x ⊘ r) s k),
            asks_unless_there OnlyLayOut container style candidate
                (λ (k : Size (Option Float)). (k.width ≡ Some (clamped x box.min.width box.max.width)) × (k.height ≡ Some (clamped (x ⊘ r) box.min.height box.max.height)))
                (rw four (stretch_width_alone candidate.node style box r q x)) (rw four (always_both _ _ _ (exact_width candidate.node style box x option.None) tall))
                (λ known k absent. not_asked_lem (stretched style box known).known _ _ (wide_told style box known x k.0) (tall_told style box known (x ⊘ r) k.1) absent) (λ known k s. tt),
          )),
      λ n s. (let y = stretch_size box.vertical in
          let four = step_four container style candidate (wide_auto container style candidate n) (tall_stretch container style candidate h s) in
          let wide = width_by_ratio candidate.node style box r q y w in (
            size_from (λ (k : Size (Option Float)). k.width ≡ Some (clamped (y ⊗ r) box.min.width box.max.width)) _ container style candidate (rw four wide) (λ known k s. final_width style box known (y ⊗ r) s k),
            asks_unless_there OnlyLayOut container style candidate
                (λ (k : Size (Option Float)). (k.width ≡ Some (clamped (y ⊗ r) box.min.width box.max.width)) × (k.height ≡ Some (clamped y box.min.height box.max.height)))
                (rw four (stretch_height_alone candidate.node style box r q y)) (rw four (always_both _ _ _ wide (exact_height candidate.node style box y option.None)))
                (λ known k absent. not_asked_lem (stretched style box known).known _ _ (wide_told style box known (y ⊗ r) k.0) (tall_told style box known y k.1) absent) (λ known k s. tt),
          )),
      λ n space m. (let known : Float → Size (Option Float) = λ x. settled style.ratio box (Some x by box.size.height) in
          let wide : (x : Float) → (known x).width ≡ Some (clamped x box.min.width box.max.width) = λ x. clamped_width style.ratio box (Some x by _) x refl in
          let tall : (x : Float) → (known x).height ≡ Some (clamped (x ⊘ r) box.min.height box.max.height) = λ x. completed_height style.ratio box r x box.size.height q h in
          opens_with container style candidate _ known (λ x s. s.height ≡ clamped (x ⊘ r) box.min.height box.max.height) (λ x q. OnlyLayOut q)
          (step_four container style candidate (wide_measured container style candidate space w m) (tall_auto container style candidate n) ∙ width_asked candidate.node style box space option.None none
          ∙ ap (λ (s : Size (Option Float)). ask (MeasureWidth (width_input candidate.node space s (keyword_stretch box))) (λ x. done (known x))) a)
          (λ x s. final_height style box (known x) (x ⊘ r) s (tall x))
          (λ x n. not_asked_lem (stretched style box (known x)).known _ _ (wide_told style box (known x) x (wide x)) (tall_told style box (known x) (x ⊘ r) (tall x)) n) (λ x s. tt)),
      λ n space m. (let known : Float → Size (Option Float) = λ x. settled style.ratio box (box.size.width by Some x) in
          let wide : (x : Float) → (known x).width ≡ Some (clamped (x ⊗ r) box.min.width box.max.width) = λ x. completed_width style.ratio box r x box.size.width q w in
          let tall : (x : Float) → (known x).height ≡ Some (clamped x box.min.height box.max.height) = λ x. clamped_height style.ratio box (_ by Some x) x refl in
          opens_with container style candidate _ known (λ x s. s.width ≡ clamped (x ⊗ r) box.min.width box.max.width) (λ x q. OnlyLayOut q)
          (step_four container style candidate (wide_auto container style candidate n) (tall_measured container style candidate space h m) ∙ height_asked candidate.node style box space
          ∙ ap (λ (s : Size (Option Float)). ask (MeasureHeight (height_input candidate.node space s (keyword_stretch box))) (λ x. done (known x))) a)
          (λ x s. final_width style box (known x) (x ⊗ r) s (wide x))
          (λ x n. not_asked_lem (stretched style box (known x)).known _ _ (wide_told style box (known x) (x ⊗ r) (wide x)) (tall_told style box (known x) x (tall x)) n) (λ x s. tt)),
    )
