-- A stored box in words, laid out by the Rust or, where request #106 doesn't compare with the Rust, by the second implementation, and whether
-- the definition asks, lays out and contributes the same. Assumes nothing.
use Rattle.std.specs.Prelude.{ℕ, Bool, true, false, cond, ◌&&◌, List, [], ◌∷◌, eqb, get_or, Float, None, Option, Some}
use Rattle.std.specs.Float.Ieee.{to_bits}
use Rattle.std.specs.Float.{binary32}
use Rattle.geometry.specs.Geometry.{zero_rect, union_of}
use Rattle.style.specs.Codes.{direction_of, overflow_of}
use Rattle.style.specs.declared.available_space.AvailableSpace.{AvailableSpace}
use Rattle.style.specs.declared.available_space.AvailableSpace.TheVariants.{Definite, MinContent, MaxContent}
use Rattle.geometry.specs.declared.Size.{Size}
use Rattle.style_record.specs.Decode.{style_at}
use Rattle.tree_record.specs.Candidate.{candidate_of}
use Rattle.records.specs.Records.{float_at}
use Rattle.tree_record.specs.Layout.{rect_of, area_of, rect_words, layout_words}
use Rattle.oof_resolve.specs.declared.ContainingBlock.{ContainingBlock}
use Rattle.oof_box.specs.Talk.{Talk, done, ask, ReplyTo}
use Rattle.oof_box.specs.Box.{placed, Placed}
use Rattle.oof_box.specs.declared.question.Question.{Question}
use Rattle.oof_box.specs.declared.question.Question.TheVariants.{MeasureBoth, MeasureWidth, MeasureHeight, LayOut}

-- what the box was given, its questions (kind, known or final size, space), the replies, its layout and the finish rectangle
pub record Sample : Type 0 where
  pub area : List ℕ
  pub style : List ℕ
  pub candidate : List ℕ
  pub questions : List (List ℕ)
  pub replies : List (List ℕ)
  pub layout : List ℕ
  pub finish : List ℕ

-- width, height, offset x and y, direction, claims (not read here), overflow x and y
unfoldable pub container_of : List ℕ → ContainingBlock
container_of w =
    record {
      area = area_of w 0;
      direction = direction_of (get_or w 4 0);
      overflow = record { x = overflow_of (get_or w 6 0); y = overflow_of (get_or w 7 0) };
    }

-- ---- words that agree: zeros are equal, and NaN has one word

unfoldable pub plain : ℕ → ℕ
plain w = cond (eqb w 2147483648) 0 w

unfoldable pub same : List ℕ → List ℕ → Bool
same [] [] = true
same [] (b ∷ ys) = false
same (a ∷ xs) [] = false
same (a ∷ xs) (b ∷ ys) = eqb (plain a) (plain b) && same xs ys

-- ---- questions in words: none is FFFFFFFF, min-content FFFFFFFE, max-content FFFFFFFD

unfoldable pub known_word : Option Float → ℕ
known_word None = 4294967295
known_word (Some x) = to_bits binary32 x

unfoldable pub space_word : AvailableSpace → ℕ
space_word (Definite x) = to_bits binary32 x
space_word MinContent = 4294967294
space_word MaxContent = 4294967293

unfoldable pub asked : ℕ → ℕ → ℕ → Size AvailableSpace → List ℕ
asked kind w h space = kind ∷ w ∷ h ∷ space_word space.width ∷ space_word space.height ∷ []

unfoldable pub question_words : Question → List ℕ
question_words (MeasureBoth m) = asked 0 (known_word m.known.width) (known_word m.known.height) m.space
question_words (MeasureWidth m) = asked 1 (known_word m.known.width) (known_word m.known.height) m.space
question_words (MeasureHeight m) = asked 2 (known_word m.known.width) (known_word m.known.height) m.space
question_words (LayOut l) = asked 3 (to_bits binary32 l.size.width) (to_bits binary32 l.size.height) l.space

unfoldable pub reply_of : (q : Question) → List ℕ → ReplyTo q
reply_of (MeasureBoth m) w = record { width = float_at w 0; height = float_at w 1 }
reply_of (MeasureWidth m) w = float_at w 0
reply_of (MeasureHeight m) w = float_at w 0
reply_of (LayOut l) w = record { overflow = rect_of w 0; surfaced = [] }

-- ---- the definition's dialogue, with the recorded replies: each question as recorded, then the layout and the finish rectangle

unfoldable pub follows : Talk Placed → List (List ℕ) → List (List ℕ) → List ℕ → List ℕ → Bool
follows (done p) [] replies layout finish =
    same (layout_words p.outcome.layout) layout && same (rect_words (union_of zero_rect p.outcome.contribution)) finish
follows (done p) (q ∷ qs) replies layout finish = false
follows (ask q next) [] replies layout finish = false
follows (ask q next) (e ∷ qs) [] layout finish = false
follows (ask q next) (e ∷ qs) (r ∷ rs) layout finish = same (question_words q) e && follows (next (reply_of q r)) qs rs layout finish

unfoldable pub agrees : Sample → Bool
agrees s =
    follows (placed (container_of s.area) (style_at s.style 0) (candidate_of s.candidate)) s.questions s.replies s.layout s.finish

unfoldable pub all_agree : List Sample → Bool
all_agree [] = true
all_agree (s ∷ rest) = agrees s && all_agree rest
