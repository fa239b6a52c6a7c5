-- The state of a run in 28 words (document 01, "The dialogue": a small state by value). Read `state_of` and `state_words`, the last of each part, as
-- one table. Assumes nothing.
use Rattle.std.specs.Prelude.{ℕ, ◌%◌, cond, List, [], ◌∷◌, ◌++◌, eqb, get_or, Float, Option, None, Some, unwrap_or}
use Rattle.std.specs.Float.Ieee.{to_bits}
use Rattle.std.specs.Float.{binary32}
use Rattle.util.specs.Number.{0f}
use Rattle.geometry.specs.Geometry.{zero_size}
use Rattle.geometry.specs.declared.Rect.{Rect}
use Rattle.geometry.specs.declared.Size.{Size}
use Rattle.records.specs.Records.{float_at}
use Rattle.tree_record.specs.Layout.{rect_of, area_of, rect_words}
use Rattle.style.specs.Codes.{direction_code, overflow_code, bits_code}
use Rattle.style.specs.declared.ContainingBlockClaims.{ContainingBlockClaims}
use Rattle.tree.specs.declared.layout.OofPositioningArea.{OofPositioningArea}
use Rattle.oof_box.specs.declared.question.Stage.{Stage}
use Rattle.oof_box.specs.declared.question.Stage.TheVariants.{KeywordBoth, KeywordWidth, KeywordHeight, Fill, LayOut}
use Rattle.oof_box.specs.declared.question.KeywordReply.{KeywordReply}
use Rattle.oof_box.specs.declared.question.KeywordReply.TheVariants as keyword
use Rattle.oof_box.specs.declared.question.Replies.{Replies}
use Rattle.run.specs.Run.{claims_of, container_of}
use Rattle.run.specs.declared.Opening.{Opening}
use Rattle.run.specs.declared.Counts.{Counts}
use Rattle.run.specs.declared.Extents.{Extents}
use Rattle.run.specs.declared.Opened.{Opened}
use Rattle.run.specs.declared.State.{State}

-- ---- words

-- word k as a number; as a float it is `float_at` of records/specs/Records.antt
abbrev pub at : List ℕ → ℕ → ℕ
at w k = get_or w k 0

-- the word of a float: every NaN is 7FC00000
abbrev pub float_word : Float → ℕ
float_word x = to_bits binary32 x

-- the word of a count: modulo 2 ^ 32
abbrev pub count_word : ℕ → ℕ
count_word n = n % 4294967296

-- ---- which question is open; any other code is a finished run

unfoldable pub progress_of : ℕ → Option Stage
progress_of n =
    cond (eqb n 1) (Some KeywordBoth)
    (cond (eqb n 2) (Some KeywordWidth)
    (cond (eqb n 3) (Some KeywordHeight)
    (cond (eqb n 4) (Some Fill)
    (cond (eqb n 5) (Some LayOut) None))))

unfoldable pub stage_code : Stage → ℕ
stage_code KeywordBoth = 1
stage_code KeywordWidth = 2
stage_code KeywordHeight = 3
stage_code Fill = 4
stage_code LayOut = 5

unfoldable pub progress_code : Option Stage → ℕ
progress_code None = 0
progress_code (Some stage) = stage_code stage

-- ---- the keyword reply: 1 both, 2 a width, 3 a height; any other code is none, and a size that isn't used is 0

unfoldable pub keyword_reply_of : ℕ → Float → Float → Option KeywordReply
keyword_reply_of kind width height =
    cond (eqb kind 1) (Some (keyword.Both (record { width = width; height = height })))
    (cond (eqb kind 2) (Some (keyword.Width width))
    (cond (eqb kind 3) (Some (keyword.Height height)) None))

unfoldable pub keyword_kind : Option KeywordReply → ℕ
keyword_kind None = 0
keyword_kind (Some (keyword.Both size)) = 1
keyword_kind (Some (keyword.Width width)) = 2
keyword_kind (Some (keyword.Height height)) = 3

unfoldable pub keyword_width : Option KeywordReply → Float
keyword_width None = 0f
keyword_width (Some (keyword.Both size)) = size.width
keyword_width (Some (keyword.Width width)) = width
keyword_width (Some (keyword.Height height)) = 0f

unfoldable pub keyword_height : Option KeywordReply → Float
keyword_height None = 0f
keyword_height (Some (keyword.Both size)) = size.height
keyword_height (Some (keyword.Width width)) = 0f
keyword_height (Some (keyword.Height height)) = height

-- ---- the fill reply: 1 both; any other code is none

unfoldable pub fill_reply_of : ℕ → Float → Float → Option (Size Float)
fill_reply_of kind width height = cond (eqb kind 1) (Some (record { width = width; height = height })) None

unfoldable pub fill_kind : Option (Size Float) → ℕ
fill_kind None = 0
fill_kind (Some size) = 1

-- ---- claims; `claims_in` of style/specs/Codes.antt reads their code

unfoldable pub claims_code : ContainingBlockClaims → ℕ
claims_code claims = bits_code claims.absolute claims.fixed

-- ---- the state that words mean

unfoldable pub replies_in : List ℕ → Replies
replies_in w =
    record { keyword = keyword_reply_of (at w 1) (float_at w 2) (float_at w 3); fill = fill_reply_of (at w 4) (float_at w 5) (float_at w 6) }

unfoldable pub counts_in : List ℕ → Counts
counts_in w = record { filled = record { working = at w 7; unclaimed = at w 8 }; begun = at w 9; answered = at w 10 }

unfoldable pub overflow_in : List ℕ → Rect Float
overflow_in w = rect_of w 11

-- words 15 to 22 say what a run is opened with
unfoldable pub opening_in : List ℕ → Opening
opening_in w =
    record { area = area_of w 15; direction = at w 19; claims = at w 20; overflowx = at w 21; overflowy = at w 22 }

unfoldable pub extents_in : List ℕ → Extents
extents_in w = record { styles = at w 23; layouts = at w 24; working = at w 25; unclaimed = at w 26; tally = at w 27 }

unfoldable pub opened_in : List ℕ → Opened
opened_in w = record { container = container_of (opening_in w); claims = claims_of (opening_in w); extents = extents_in w }

unfoldable pub state_of : List ℕ → State
state_of w =
    record {
      progress = progress_of (at w 0);
      replies = replies_in w;
      counts = counts_in w;
      overflow = overflow_in w;
      opened = opened_in w;
    }

-- ---- the words of a state

-- words 1 to 3
abbrev pub keyword_words : Option KeywordReply → List ℕ
keyword_words reply = keyword_kind reply ∷ float_word (keyword_width reply) ∷ float_word (keyword_height reply) ∷ []

-- 4 to 6
abbrev pub fill_words : Option (Size Float) → List ℕ
fill_words reply = fill_kind reply ∷ float_word (unwrap_or reply zero_size).width ∷ float_word (unwrap_or reply zero_size).height ∷ []

-- 7 to 10
abbrev pub counts_words : Counts → List ℕ
counts_words c = count_word c.filled.working ∷ count_word c.filled.unclaimed ∷ count_word c.begun ∷ count_word c.answered ∷ []

-- 11 to 14 are `rect_words` of tree_record/specs/Layout.antt; 15 to 18
abbrev pub area_words : OofPositioningArea → List ℕ
area_words a = float_word a.size.width ∷ float_word a.size.height ∷ float_word a.offset.x ∷ float_word a.offset.y ∷ []

-- 19 to 22
unfoldable pub opening_codes : Opened → List ℕ
opening_codes run =
    direction_code run.container.direction ∷ claims_code run.claims ∷ overflow_code run.container.overflow.x
    ∷ overflow_code run.container.overflow.y
    ∷ []

-- 23 to 27
abbrev pub extents_words : Extents → List ℕ
extents_words e = count_word e.styles ∷ count_word e.layouts ∷ count_word e.working ∷ count_word e.unclaimed ∷ count_word e.tally ∷ []

unfoldable pub state_words : State → List ℕ
state_words s =
    (progress_code s.progress ∷ []) ++ keyword_words s.replies.keyword ++ fill_words s.replies.fill
    ++ counts_words s.counts
    ++ rect_words s.overflow
    ++ area_words s.opened.container.area
    ++ opening_codes s.opened
    ++ extents_words s.opened.extents
