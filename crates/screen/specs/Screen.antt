-- What a text means as a screen, read from its front: a first line, item lines, candidate lines, and nothing else. Assumes nothing.
use Rattle.std.specs.Prelude.{ℕ, zero, suc, ◌+◌, ◌*◌, ◌≤◌, ◌≡◌, Bool, true, cond, ◌&&◌, List, [], ◌∷◌, ◌++◌, length, take, drop, get_or, eqb, leb, Result, Ok, Err, is_some, unwrap_or}
use Rattle.std.proofs.lemmas.List.Edits.{sets}
use Rattle.screen_fields.specs.declared.format.Kind.{Kind}
use Rattle.screen_fields.specs.declared.format.Line.{Line}
use Rattle.screen_fields.specs.declared.format.Line.TheVariants.{First, Item, Candidate}
use Rattle.refusal.specs.declared.Refusal.{Refusal}
use Rattle.refusal.specs.declared.Refusal.TheVariants.{BadScreenLine}
use Rattle.screen.specs.declared.LineCounts.{LineCounts}
use Rattle.screen.specs.declared.ScreenLists.{ScreenLists}
use Rattle.screen_fields.specs.Format.{first_fields, style_fields, reply_fields, candidate_fields, fields_of, ITEM_COUNT, CANDIDATE_COUNT, COLUMNS, bytes_of, MAX_ITEMS, MAX_CANDIDATES}
use Rattle.screen_fields.specs.Field.{word_of}

-- ---- lines

-- every field stands for a word
unfoldable pub good_fields : List Kind → List ℕ → Bool
good_fields [] text = true
good_fields (k ∷ ks) text = is_some (word_of k (take COLUMNS text)) && good_fields ks (drop COLUMNS text)

-- and a line feed ends them
unfoldable pub good_line : Line → List ℕ → Bool
good_line l text = good_fields (fields_of l) text && eqb (get_or text (COLUMNS * length (fields_of l)) 0) 10

unfoldable pub good_lines : Line → ℕ → List ℕ → Bool
good_lines l zero text = true
good_lines l (suc n) text = good_line l text && good_lines l n (drop (bytes_of l) text)

-- the words of fields; a field that stands for none counts as 0
unfoldable pub words_of : List Kind → List ℕ → List ℕ
words_of [] text = []
words_of (k ∷ ks) text = unwrap_or (word_of k (take COLUMNS text)) 0 ∷ words_of ks (drop COLUMNS text)

-- the words of these fields in each of n lines, where the text starts with the first line's
unfoldable pub rows_of : List Kind → Line → ℕ → List ℕ → List ℕ
rows_of ks l zero text = []
rows_of ks l (suc n) text = words_of ks text ++ rows_of ks l n (drop (bytes_of l) text)

-- ---- the whole text

unfoldable pub header_of : List ℕ → List ℕ
header_of text = words_of first_fields text

-- how many items and candidates the first line tells
unfoldable pub item_count : List ℕ → ℕ
item_count text = get_or (header_of text) ITEM_COUNT 0

unfoldable pub candidate_count : List ℕ → ℕ
candidate_count text = get_or (header_of text) CANDIDATE_COUNT 0

-- where the first candidate line of n items starts
unfoldable pub candidates_at : ℕ → ℕ
candidates_at n = bytes_of First + n * bytes_of Item

-- the bytes of a screen
unfoldable pub screen_bytes : ℕ → ℕ → ℕ
screen_bytes n m = candidates_at n + m * bytes_of Candidate

-- refusal 8 is where this fails: the counts within their limits, no line missing or left over, every line good
unfoldable pub is_screen : List ℕ → Bool
is_screen text =
    good_line First text
    && leb (item_count text) MAX_ITEMS
    && leb (candidate_count text) MAX_CANDIDATES
    && eqb (length text) (screen_bytes (item_count text) (candidate_count text))
    && good_lines Item (item_count text) (drop (bytes_of First) text)
    && good_lines Candidate (candidate_count text) (drop (candidates_at (item_count text)) text)

abbrev pub counts_of : List ℕ → LineCounts
counts_of text = record { items = item_count text; candidates = candidate_count text }

-- so many lines, or the refusal
unfoldable pub answer_of : List ℕ → Result LineCounts Refusal
answer_of text = cond (is_screen text) (Ok (counts_of text)) (Err BadScreenLine)

-- at most 128 items and 256 candidates
abbrev pub FewLines : LineCounts → Type 0
FewLines counts = (counts.items ≤ MAX_ITEMS) × (counts.candidates ≤ MAX_CANDIDATES)

-- the style table, and six reply words an item
unfoldable pub styles_of : List ℕ → List ℕ
styles_of text = rows_of style_fields Item (item_count text) (drop (bytes_of First) text)

unfoldable pub replies_of : List ℕ → List ℕ
replies_of text = rows_of reply_fields Item (item_count text) (drop (bytes_of First + COLUMNS * length style_fields) text)

unfoldable pub candidates_of : List ℕ → List ℕ
candidates_of text = rows_of candidate_fields Candidate (candidate_count text) (drop (candidates_at (item_count text)) text)

-- ---- what reading writes

-- of a screen its words from the first place on, and otherwise nothing
unfoldable pub written : Bool → List ℕ → List ℕ → List ℕ
written good before words = cond good (sets before 0 words) before

-- the answer r, and each lent list after
pub record ScreenRead (text : List ℕ) (r : Result LineCounts Refusal) (before after : ScreenLists) : Type 0 where
  pub answer : r ≡ answer_of text
  pub header : after.header ≡ written (is_screen text) before.header (header_of text)
  pub styles : after.styles ≡ written (is_screen text) before.styles (styles_of text)
  pub replies : after.replies ≡ written (is_screen text) before.replies (replies_of text)
  pub candidates : after.candidates ≡ written (is_screen text) before.candidates (candidates_of text)
