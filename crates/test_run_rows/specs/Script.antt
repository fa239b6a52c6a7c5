-- A run in words, and whether the definition of a call gives it. Assumes nothing.
use Rattle.std.specs.Prelude.{ℕ, Bool, true, false, cond, ◌&&◌, List, [], ◌∷◌, ◌++◌, eqb, Float, get_or, length, replicate, Result, Ok, Err, None, Option, Some}
use Rattle.std.specs.Float.Ieee.{of_bits, to_bits}
use Rattle.std.specs.Float.{binary32}
use Rattle.refusal.specs.declared.Refusal.{Refusal}
use Rattle.refusal.specs.Refusal.{number_of}
use Rattle.style.specs.declared.available_space.AvailableSpace.{AvailableSpace}
use Rattle.style.specs.declared.available_space.AvailableSpace.TheVariants.{Definite, MinContent, MaxContent}
use Rattle.tree_record.specs.Layout.{area_of, rect_words}
use Rattle.oof_box.specs.declared.question.MeasureInput.{MeasureInput}
use Rattle.oof_box.specs.declared.question.Question.{Question}
use Rattle.oof_box.specs.declared.question.Question.TheVariants.{MeasureBoth, MeasureWidth, MeasureHeight, LayOut}
use Rattle.oof_box.specs.declared.question.Reply.TheVariants.{Both, Width, Height, LaidOut}
use Rattle.run.specs.declared.Opening.{Opening}
use Rattle.run.specs.declared.Answer.{Answer}
use Rattle.run.specs.declared.Answer.TheVariants.{Ask, Finish}
use Rattle.run.specs.Call.{Lent, Outcome}
use Rattle.run.specs.Run.{opened}
use Rattle.run.specs.Theorems.{Heard, next}

-- ---- what the host says

-- width, height, offset x and y; then the codes: direction, claims, overflow x and y
unfoldable pub opening_of : List ℕ → Opening
opening_of ws =
    record {
      area = area_of ws 0;
      direction = get_or ws 4 0;
      claims = get_or ws 5 0;
      overflowx = get_or ws 6 0;
      overflowy = get_or ws 7 0;
    }

-- a reply to each question, floats by their bits
abbrev pub float : ℕ → Float
float w = of_bits binary32 w

unfoldable pub both : ℕ → ℕ → Heard
both w h = record { reply = Both (record { width = float w; height = float h }); surfaced = [] }

unfoldable pub width : ℕ → Heard
width w = record { reply = Width (float w); surfaced = [] }

unfoldable pub height : ℕ → Heard
height h = record { reply = Height (float h); surfaced = [] }

-- the overflow: left, right, top, bottom; then the words of the surfaced candidates
unfoldable pub laid : ℕ → ℕ → ℕ → ℕ → List ℕ → Heard
laid l r t b surfaced =
    record { reply = LaidOut (record { left = float l; right = float r; top = float t; bottom = float b }); surfaced = surfaced }

-- ---- what a call answers, in words

-- what is no number stands above all words: no size and min-content as 2 ^ 32, max-content as 2 ^ 32 + 1
abbrev pub none : ℕ
none = 4294967296

abbrev pub least : ℕ
least = 4294967296

abbrev pub most : ℕ
most = 4294967297

unfoldable pub known_word : Option Float → ℕ
known_word None = none
known_word (Some x) = to_bits binary32 x

unfoldable pub space_word : AvailableSpace → ℕ
space_word (Definite x) = to_bits binary32 x
space_word MinContent = least
space_word MaxContent = most

-- kind, node, known sizes, spaces
unfoldable pub measure_words : ℕ → MeasureInput → List ℕ
measure_words kind m =
    kind ∷ m.node ∷ known_word m.known.width ∷ known_word m.known.height ∷ space_word m.space.width
    ∷ space_word m.space.height
    ∷ []

-- 0 to 3: measure both, width, height; lay out
unfoldable pub question_words : Question → List ℕ
question_words (MeasureBoth m) = measure_words 0 m
question_words (MeasureWidth m) = measure_words 1 m
question_words (MeasureHeight m) = measure_words 2 m
question_words (LayOut l) =
    3 ∷ l.node ∷ to_bits binary32 l.size.width ∷ to_bits binary32 l.size.height ∷ space_word l.space.width
    ∷ space_word l.space.height
    ∷ []

-- 4: a finish, with overflow and count; 5: a refusal, with its number
unfoldable pub answer_words : Result Answer Refusal → List ℕ
answer_words (Ok (Ask q)) = question_words q
answer_words (Ok (Finish f)) = 4 ∷ (rect_words f.overflow ++ (f.count ∷ []))
answer_words (Err r) = 5 ∷ number_of r ∷ []

-- the answers of an opening and of the replies after it, in turn; then the layouts, both lists and the tally, as the last call left them
unfoldable pub told : List ℕ → Outcome → List Heard → List (List ℕ)
told styles o [] = answer_words o.step.answer ∷ o.layouts ∷ o.working ∷ o.unclaimed ∷ o.tally ∷ []
told styles o (h ∷ hs) = answer_words o.step.answer ∷ told styles (next styles o h) hs

-- ---- words that agree: of zeros any sign; a NaN that is written has one word

unfoldable pub plain : ℕ → ℕ
plain w = cond (eqb w 2147483648) 0 w

unfoldable pub same : List ℕ → List ℕ → Bool
same [] [] = true
same [] (b ∷ ys) = false
same (a ∷ xs) [] = false
same (a ∷ xs) (b ∷ ys) = eqb (plain a) (plain b) && same xs ys

unfoldable pub same_all : List (List ℕ) → List (List ℕ) → Bool
same_all [] [] = true
same_all [] (b ∷ ys) = false
same_all (a ∷ xs) [] = false
same_all (a ∷ xs) (b ∷ ys) = same a b && same_all xs ys

-- ---- a whole run

-- the word that lent layouts, lists and tally are full of
abbrev pub unused : ℕ
unused = 7

pub record Run : Type 0 where
  pub opening : List ℕ
  pub styles : List ℕ
  pub candidates : List ℕ
  pub replies : List Heard
  -- the questions in turn, then the finish
  pub answers : List (List ℕ)
  -- as the run leaves them
  pub layouts : List ℕ
  pub working : List ℕ
  pub unclaimed : List ℕ
  pub tally : List ℕ

unfoldable pub lent_to : Run → Lent
lent_to r =
    record {
      styles = r.styles;
      layouts = replicate (length r.layouts) unused;
      working = replicate (length r.working) unused;
      unclaimed = replicate (length r.unclaimed) unused;
      tally = replicate (length r.tally) unused;
    }

unfoldable pub agrees : Run → Bool
agrees r =
    same_all (told r.styles (opened (opening_of r.opening) r.candidates (lent_to r)) r.replies)
    (r.answers ++ (r.layouts ∷ r.working ∷ r.unclaimed ∷ r.tally ∷ []))

unfoldable pub all_agree : List Run → Bool
all_agree [] = true
all_agree (r ∷ rs) = agrees r && all_agree rs
