-- The questions of a box and of its image. Assumes nothing.
use mathlib.Core.Path.{◌≡◌, refl, ap, subst}
use mathlib.Core.Bool.{Bool, ◌||◌}
use Prim.Native.Nat.{ℕ}
use lib.Dec.{lit≤}
use Rattle.std.specs.Prelude.{Option, None, Some, is_some, unwrap_or, Float}
use Rattle.geometry.specs.declared.Size.{Size}
use Rattle.style.specs.declared.Style.{Style}
use Rattle.style.specs.declared.available_space.AvailableSpace.{AvailableSpace}
use Rattle.style.specs.declared.available_space.AvailableSpace.TheVariants.{Definite}
use Rattle.oof_common.specs.declared.sizing_keyword.SizingKeywordResolution.{SizingKeywordResolution}
use Rattle.oof_common.specs.declared.sizing_keyword.SizingKeywordResolution.TheVariants.{Measure}
use Rattle.oof_resolve.specs.declared.ResolvedBox.{ResolvedBox}
use Rattle.oof_box.specs.Cut.{size_by, both_asked, width_asked, height_asked, keyword_asked, is_first, size_asked, asked_of, sizing}
use Rattle.oof_box.specs.declared.question.Asked.{Asked}
use Rattle.oof_box.specs.declared.question.Replies.{Replies}
use Rattle.util_exact.proofs.Tests.{pick}
use Rattle.util_exact.proofs.Same.{MaybeSame, given, unwrap_same}
use Rattle.mirror_box.specs.Image.{image_style}
use Rattle.mirror_box.specs.Quarter.{QuarterStyle, QuarterReplies}
use Rattle.mirror_box.specs.Mirrored.{none, measure_both, measure_width, measure_height, lay_out, SameAsked}
use Rattle.mirror_box.proofs.Bounds.{fit_bound}
use Rattle.mirror_box.proofs.Shared.{SpaceSame, space, SizeShared, KnownShared, widen_known, size_told, known_told, space_told, both_present_lem}
use Rattle.mirror_box.proofs.Resolve.{BoxShared}
use Rattle.mirror_box.proofs.Keywords.{KeywordSame, no_keyword, exact, measure, KeywordsShared, stretch_size_lem}
use Rattle.mirror_box.proofs.Stretch.{stretched_by_lem, final_size_lem}

data QuestionSame : Option Asked → Option Asked → Type 0 where
  not_asked : QuestionSame None None
  asked : {a a' : Asked} → SameAsked a a' → QuestionSame (Some a) (Some a')

-- ---- step 4

module _ {node node' : ℕ} (n : node ≡ node') where
  both_asked_lem : {s s' : AvailableSpace} (t : AvailableSpace) → SpaceSame fit_bound s s' → QuestionSame (Some (both_asked node s t)) (Some (both_asked node' s' t))
  both_asked_lem t h =
      asked
      (record {
        stage = refl;
        question =
            measure_both
            (record { node = n; known = record { width = none; height = refl }; space = space_told (record { width = h; height = refl }) });
      })

  module _ {known known' : Size (Option Float)} (k : KnownShared fit_bound known known') {stretch stretch' : Size Float} (s : SizeShared fit_bound stretch stretch') where
    width_asked_lem : {a a' : AvailableSpace} → SpaceSame fit_bound a a' → QuestionSame (Some (width_asked node a known stretch)) (Some (width_asked node' a' known' stretch'))
    width_asked_lem h =
        asked
        (record {
          stage = refl;
          question = measure_width (record { node = n; known = known_told k; space = space_told (record { width = h; height = ap Definite s.height }) });
        })

    height_asked_lem : {w w' : Option Float} (down : AvailableSpace) → MaybeSame 4 fit_bound w w' → QuestionSame (Some (height_asked node w down known stretch)) (Some (height_asked node' w' down known' stretch'))
    height_asked_lem down h =
        asked
        (record {
          stage = refl;
          question =
              measure_height
              (record {
                node = n;
                known = known_told (record { width = h; height = k.height });
                space = space_told (record { width = space (unwrap_same h s.width); height = refl });
              });
        })

    keyword_asked_lem : {wide wide' : Option SizingKeywordResolution} → KeywordSame wide wide' → (tall : Option SizingKeywordResolution) → QuestionSame (keyword_asked node wide tall known stretch) (keyword_asked node' wide' tall known' stretch')
    unfolding keyword_asked
    keyword_asked_lem no_keyword (Some (Measure down)) = height_asked_lem down k.width
    keyword_asked_lem (exact h) (Some (Measure down)) = height_asked_lem down (given h)
    keyword_asked_lem (measure h) (Some (Measure down)) = both_asked_lem down h
    keyword_asked_lem (measure h) _ = width_asked_lem h
    keyword_asked_lem _ _ = not_asked

    keyword_asked_by : {wide wide' tall tall' : Option SizingKeywordResolution} → KeywordSame wide wide' → tall ≡ tall' → QuestionSame (keyword_asked node wide tall known stretch) (keyword_asked node' wide' tall' known' stretch')
    keyword_asked_by {wide} {wide'} {tall} h e = subst (λ (t : Option SizingKeywordResolution). QuestionSame (keyword_asked node wide tall known stretch) (keyword_asked node' wide' t known' stretch')) e (keyword_asked_lem h tall)

or_later_lem : {q q' : Option Asked} {a a' : Asked} → QuestionSame q q' → SameAsked a a' → SameAsked (unwrap_or q a) (unwrap_or q' a')
or_later_lem not_asked h = h
or_later_lem (asked k) h = k

module _ (style : Style) (hs : QuarterStyle style) (box box' : ResolvedBox) (h : BoxShared box box') {keywords keywords' : Size (Option SizingKeywordResolution)} (k : KeywordsShared keywords keywords')
    {node node' : ℕ} (n : node ≡ node') (r : Replies) (q : QuarterReplies r) where
  -- steps 5 and 6, lay out
  size_asked_lem : SameAsked (size_asked node (sizing style box keywords r)) (size_asked node' (sizing (image_style style) box' keywords' r))
  unfolding size_asked size_by
  size_asked_lem =
      let at = stretched_by_lem style hs box box' h k r q in
      pick SameAsked (ap (λ (t : Bool). is_some r.fill || t) (both_present_lem at.known))
      (record {
        stage = refl;
        question = lay_out (record { node = n; size = size_told (final_size_lem style hs box box' h k r q at); space = space_told h.space });
      })
      (record { stage = refl; question = measure_both (record { node = n; known = known_told at.known; space = space_told h.space }) })

  pub asked_of_lem : SameAsked (asked_of node (sizing style box keywords r)) (asked_of node' (sizing (image_style style) box' keywords' r))
  unfolding asked_of
  asked_of_lem =
      pick SameAsked {t = is_first r} refl
      (or_later_lem (keyword_asked_by n (widen_known (lit≤ tt) h.size) (stretch_size_lem box box' h) k.width k.height) size_asked_lem) size_asked_lem
