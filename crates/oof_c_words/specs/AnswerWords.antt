-- What comes next, in 10 words: a question or the finish (document 01, "The dialogue"). Assumes nothing.
use Rattle.std.specs.Prelude.{ℕ, List, [], ◌∷◌, ◌++◌, Float, None, Option, Some}
use Rattle.util.specs.Number.{0f}
use Rattle.util.specs.Maybe.{or_zero}
use Rattle.geometry.specs.Geometry.{definite}
use Rattle.geometry.specs.declared.Size.{Size}
use Rattle.style.specs.declared.available_space.AvailableSpace.{AvailableSpace}
use Rattle.style.specs.declared.available_space.AvailableSpace.TheVariants.{Definite, MinContent, MaxContent}
use Rattle.tree_record.specs.Layout.{rect_words}
use Rattle.oof_box.specs.declared.question.MeasureInput.{MeasureInput}
use Rattle.oof_box.specs.declared.question.LayoutInput.{LayoutInput}
use Rattle.oof_box.specs.declared.question.Question.{Question}
use Rattle.oof_box.specs.declared.question.Question.TheVariants.{MeasureBoth, MeasureWidth, MeasureHeight, LayOut}
use Rattle.run.specs.declared.Finish.{Finish}
use Rattle.oof_c_words.specs.StateWords.{float_word, count_word}

-- ---- words 2 to 5: known sizes, each 0 none or 1 given, then its float; 0 if none

unfoldable pub given : Option Float → ℕ
given None = 0
given (Some size) = 1

abbrev pub known_words : Size (Option Float) → List ℕ
known_words known =
    given known.width ∷ float_word (or_zero known.width) ∷ given known.height ∷ float_word (or_zero known.height) ∷ []

-- ---- words 6 to 9: available space, each 0 definite, 1 min-content, 2 max-content, then its float; 0 if not definite

unfoldable pub space_kind : AvailableSpace → ℕ
space_kind (Definite size) = 0
space_kind MinContent = 1
space_kind MaxContent = 2

unfoldable pub space_size : AvailableSpace → Float
space_size (Definite size) = size
space_size MinContent = 0f
space_size MaxContent = 0f

abbrev pub space_words : Size AvailableSpace → List ℕ
space_words space =
    space_kind space.width ∷ float_word (space_size space.width) ∷ space_kind space.height ∷ float_word (space_size space.height) ∷ []

-- ---- a question: kind, node, known sizes, available space

unfoldable pub measure_words : ℕ → MeasureInput → List ℕ
measure_words kind ask = (kind ∷ ask.node ∷ []) ++ known_words ask.known ++ space_words ask.space

-- the final size, as given
unfoldable pub lay_out_words : LayoutInput → List ℕ
lay_out_words ask =
    (4 ∷ ask.node ∷ []) ++ known_words (definite ask.size) ++ space_words ask.space

unfoldable pub question_words : Question → List ℕ
question_words (MeasureBoth ask) = measure_words 1 ask
question_words (MeasureWidth ask) = measure_words 2 ask
question_words (MeasureHeight ask) = measure_words 3 ask
question_words (LayOut ask) = lay_out_words ask

-- ---- the finish: 0, the count of questions answered, the overflow's left, right, top, bottom, zeros

unfoldable pub finish_words : Finish → List ℕ
finish_words f = (0 ∷ count_word f.count ∷ []) ++ rect_words f.overflow ++ (0 ∷ 0 ∷ 0 ∷ 0 ∷ [])
