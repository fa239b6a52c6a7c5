-- The rest of a box's dialogue, from the replies kept: what the code leads to, as a dialogue. `begins` says that from no replies it is the
-- definition of specs/Box.antt. Assumes nothing.
use mathlib.Core.Path.{◌≡◌, refl, ap, fun_ext}
use mathlib.Core.Bool.{Bool, true, false, cond}
use Rattle.std.specs.Prelude.{Option, Float, Some}
use Rattle.std.specs.declared.option.Option.TheVariants as option
use Rattle.geometry.specs.Geometry.{zero_size, definite, both_present}
use Rattle.geometry.specs.declared.Size.{Size}
use Rattle.style.specs.declared.Style.{Style}
use Rattle.tree.specs.declared.layout.OofCandidate.{OofCandidate}
use Rattle.oof_place.specs.Placing.{box_layout}
use Rattle.oof_resolve.specs.Resolved.{resolved_box}
use Rattle.oof_resolve.specs.declared.ContainingBlock.{ContainingBlock}
use Rattle.oof_resolve.specs.declared.ResolvedBox.{ResolvedBox}
use Rattle.oof_common.specs.declared.sizing_keyword.SizingKeywordResolution.{SizingKeywordResolution}
use Rattle.oof_common.specs.declared.sizing_keyword.SizingKeywordResolution.TheVariants.{Exact, Measure}
use Rattle.oof_box.specs.Talk.{Talk, done, ask, ◌>>=◌, lay_out, Laid}
use Rattle.oof_box.specs.Box.{◌by◌, keyword_stretch, size_keywords, settled, both_input, width_input, height_input, width_as, height_as, in_turn, by_keywords, keyword_sizes, stretched, final_size, measured, placed, Placed}
use Rattle.oof_box.specs.Cut.{known_by}
use Rattle.oof_box.specs.declared.question.Question.TheVariants as question
use Rattle.oof_box.specs.declared.question.KeywordReply.{KeywordReply}
use Rattle.oof_box.specs.declared.question.KeywordReply.TheVariants as keyword
use Rattle.oof_box.specs.declared.sizing.Stretched.{Stretched}

-- what the box comes to, once the size is there
abbrev pub laid_out : ContainingBlock → Style → OofCandidate → ResolvedBox → Size Float → Laid → Placed
laid_out container style candidate box size laid =
    record { outcome = box_layout container style candidate box size laid.overflow; surfaced = laid.surfaced }

abbrev pub to_lay_out : ContainingBlock → Style → OofCandidate → ResolvedBox → Size Float → Talk Placed
to_lay_out container style candidate box size =
    ask (question.LayOut (record { node = candidate.node; size = size; space = box.space }))
    (λ laid. done (laid_out container style candidate box size laid))

-- steps 6 and 7, from the known sizes of step 5
abbrev pub to_fill : ContainingBlock → Style → OofCandidate → ResolvedBox → Stretched → Bool → Talk Placed
to_fill container style candidate box at true = to_lay_out container style candidate box (final_size box at zero_size)
to_fill container style candidate box at false =
    ask (question.MeasureBoth (record { node = candidate.node; known = at.known; space = box.space }))
    (λ size. to_lay_out container style candidate box (final_size box at size))

-- steps 5 to 7, from the reply for size keywords
abbrev pub after_keywords : ContainingBlock → Style → OofCandidate → ResolvedBox → Size (Option SizingKeywordResolution) → Option KeywordReply → Talk Placed
after_keywords container style candidate box keywords reply =
    let at = stretched style box (known_by style box keywords reply) in
    to_fill container style candidate box at (both_present at.known)

-- steps 4 to 7
unfoldable pub to_keywords : ContainingBlock → Style → OofCandidate → ResolvedBox → Option SizingKeywordResolution → Option SizingKeywordResolution → Talk Placed
to_keywords container style candidate box (option.Some (Measure across)) (option.Some (Measure down)) =
    ask (question.MeasureBoth (both_input candidate.node across down))
    (λ size. after_keywords container style candidate box (record { width = option.Some (Measure across); height = option.Some (Measure down) }) (option.Some (keyword.Both size)))
to_keywords container style candidate box (option.Some (Measure across)) tall =
    ask (question.MeasureWidth (width_input candidate.node across box.size (keyword_stretch box)))
    (λ w. after_keywords container style candidate box (record { width = option.Some (Measure across); height = tall }) (option.Some (keyword.Width w)))
to_keywords container style candidate box (option.Some (Exact w)) (option.Some (Measure down)) =
    ask (question.MeasureHeight (height_input candidate.node down (Some w by box.size.height) (keyword_stretch box)))
    (λ h. after_keywords container style candidate box (record { width = option.Some (Exact w); height = option.Some (Measure down) }) (option.Some (keyword.Height h)))
to_keywords container style candidate box option.None (option.Some (Measure down)) =
    ask (question.MeasureHeight (height_input candidate.node down box.size (keyword_stretch box)))
    (λ h. after_keywords container style candidate box (record { width = option.None; height = option.Some (Measure down) }) (option.Some (keyword.Height h)))
to_keywords container style candidate box wide tall = after_keywords container style candidate box (record { width = wide; height = tall }) option.None

-- the definition from step 5 on, as it stands in `placed`
abbrev from_known : ContainingBlock → Style → OofCandidate → ResolvedBox → Size (Option Float) → Talk Placed
from_known container style candidate box known =
    measured candidate.node box (stretched style box known)
    >>= λ size. lay_out (record { node = candidate.node; size = size; space = box.space })
    >>= λ laid. done (laid_out container style candidate box size laid)

fills : (container : ContainingBlock) (style : Style) (candidate : OofCandidate) (box : ResolvedBox) (known : Size (Option Float))
    → from_known container style candidate box known ≡ to_fill container style candidate box (stretched style box known) (both_present (stretched style box known).known)
unfolding measured ◌>>=◌
fills container style candidate box known = go (stretched style box known) (both_present (stretched style box known).known)
  where
    go : (at : Stretched) (b : Bool)
        → ((cond b (done zero_size) (ask (question.MeasureBoth (record { node = candidate.node; known = at.known; space = box.space })) done)
        >>= λ size. done (final_size box at size))
        >>= λ size. lay_out (record { node = candidate.node; size = size; space = box.space })
        >>= λ laid. done (laid_out container style candidate box size laid))
        ≡ to_fill container style candidate box at b
    go at true = refl
    go at false = refl

by_keywords_lem : (container : ContainingBlock) (style : Style) (candidate : OofCandidate) (box : ResolvedBox) (wide tall : Option SizingKeywordResolution)
    → (keyword_sizes candidate.node style box (record { width = wide; height = tall }) >>= from_known container style candidate box)
    ≡ to_keywords container style candidate box wide tall
unfolding keyword_sizes by_keywords in_turn width_as height_as ◌>>=◌ to_keywords known_by definite
by_keywords_lem container style candidate box option.None option.None = fills container style candidate box box.size
by_keywords_lem container style candidate box option.None (option.Some (Exact h)) = fills container style candidate box (settled style.ratio box (box.size.width by Some h))
by_keywords_lem container style candidate box (option.Some (Exact w)) option.None = fills container style candidate box (settled style.ratio box (Some w by box.size.height))
by_keywords_lem container style candidate box (option.Some (Exact w)) (option.Some (Exact h)) = fills container style candidate box (settled style.ratio box (Some w by Some h))
by_keywords_lem container style candidate box option.None (option.Some (Measure down)) =
    ap (ask (question.MeasureHeight (height_input candidate.node down box.size (keyword_stretch box)))) (fun_ext (λ h. fills container style candidate box (settled style.ratio box (box.size.width by Some h))))
by_keywords_lem container style candidate box (option.Some (Exact w)) (option.Some (Measure down)) =
    ap (ask (question.MeasureHeight (height_input candidate.node down (Some w by box.size.height) (keyword_stretch box)))) (fun_ext (λ h. fills container style candidate box (settled style.ratio box (Some w by Some h))))
by_keywords_lem container style candidate box (option.Some (Measure across)) option.None =
    ap (ask (question.MeasureWidth (width_input candidate.node across box.size (keyword_stretch box)))) (fun_ext (λ w. fills container style candidate box (settled style.ratio box (Some w by box.size.height))))
by_keywords_lem container style candidate box (option.Some (Measure across)) (option.Some (Exact h)) =
    ap (ask (question.MeasureWidth (width_input candidate.node across box.size (keyword_stretch box)))) (fun_ext (λ w. fills container style candidate box (settled style.ratio box (Some w by Some h))))
by_keywords_lem container style candidate box (option.Some (Measure across)) (option.Some (Measure down)) =
    ap (ask (question.MeasureBoth (both_input candidate.node across down))) (fun_ext (λ size. fills container style candidate box (settled style.ratio box (definite size))))

pub begins : (container : ContainingBlock) (style : Style) (candidate : OofCandidate)
    → placed container style candidate
    ≡ to_keywords container style candidate (resolved_box container style candidate) (size_keywords style (resolved_box container style candidate)).width
    (size_keywords style (resolved_box container style candidate)).height
unfolding placed
begins container style candidate =
    let box = resolved_box container style candidate in
    by_keywords_lem container style candidate box (size_keywords style box).width (size_keywords style box).height

-- the rest of the dialogue, by the replies kept
unfoldable pub rest_by : ContainingBlock → Style → OofCandidate → ResolvedBox → Size (Option SizingKeywordResolution) → Option KeywordReply → Option (Size Float) → Talk Placed
rest_by container style candidate box keywords k (option.Some s) =
    to_lay_out container style candidate box (final_size box (stretched style box (known_by style box keywords k)) s)
rest_by container style candidate box keywords option.None option.None = to_keywords container style candidate box keywords.width keywords.height
rest_by container style candidate box keywords (option.Some k) option.None = after_keywords container style candidate box keywords (option.Some k)
