-- The search gives up at a list of 28 words from as many calls: here they are, word by word.
use Rattle.std.specs.Prelude.{Float, Option, None, Some, is_some}
use Rattle.std.specs.Int.{from_bool}
use mathlib.Core.List.{[], ◌∷◌}
use mathlib.Core.Path.{◌≡◌, refl, ap, ◌∙◌}
use lib.ListN.{get_or}
use Rattle.geometry.specs.declared.Size.{Size}
use Rattle.oof_c_words.specs.StateWords.{state_words, opening_codes, float_word, fill_kind}
use Rattle.oof_c_words.proofs.state.state_words.Goals as goal

filled : (fill : Option (Size Float)) → from_bool (is_some fill) ≡ fill_kind fill
unfolding fill_kind
filled None = refl
filled (Some size) = refl

pub returns : goal.returns
unfolding state_words opening_codes
returns c =
    let codes = c.opening_codes-codes.ensures in
    λ j. c.progress_code.ensures j
    ∷ c.keyword_kind.ensures j
    ∷ (c.to_word.ensures ∙ ap float_word c.keyword_size-asked.ensures.width) j
    ∷ (c.to_word-2.ensures ∙ ap float_word c.keyword_size-asked.ensures.height) j
    ∷ (c.from.ensures ∙ ap from_bool c.is_some.ensures ∙ filled c.args.s.replies.fill) j
    ∷ (c.to_word-3.ensures ∙ ap float_word (ap (λ (size : Size Float). size.width) c.unwrap_or-size.ensures)) j
    ∷ (c.to_word-4.ensures ∙ ap float_word (ap (λ (size : Size Float). size.height) c.unwrap_or-size.ensures)) j
    ∷ c.count_word.ensures j
    ∷ c.count_word-2.ensures j
    ∷ c.count_word-3.ensures j
    ∷ c.count_word-4.ensures j
    ∷ c.to_word-5.ensures j
    ∷ c.to_word-6.ensures j
    ∷ c.to_word-7.ensures j
    ∷ c.to_word-8.ensures j
    ∷ c.to_word-9.ensures j
    ∷ c.to_word-10.ensures j
    ∷ c.to_word-11.ensures j
    ∷ c.to_word-12.ensures j
    ∷ get_or (codes j) 0 0
    ∷ get_or (codes j) 1 0
    ∷ get_or (codes j) 2 0
    ∷ get_or (codes j) 3 0
    ∷ c.count_word-5.ensures j
    ∷ c.count_word-6.ensures j
    ∷ c.count_word-7.ensures j
    ∷ c.count_word-8.ensures j
    ∷ c.count_word-9.ensures j
    ∷ []
