-- What the definitions of this crate mean, as statements. `proofs/Laws.antt` and `proofs/Exactly.antt` prove each, under its name in small
-- letters. Assumes nothing.
use Rattle.std.specs.Prelude.{ℕ, suc, ◌+◌, ◌*◌, ◌≤◌, ◌↔◌, ◌≡◌, true, false, List, [], ◌∷◌, ◌++◌, length, Result, Err}
use Rattle.style_record.specs.Record.{style_words}
use Rattle.tree_record.specs.Candidate.{candidate_width}
use Rattle.screen_fields.specs.declared.format.Kind.{Kind}
use Rattle.screen_fields.specs.declared.format.Line.{Line}
use Rattle.screen_fields.specs.declared.format.Line.TheVariants.{First, Item, Candidate}
use Rattle.screen_fields.specs.Format.{reply_width, fields_of, FIRST_BYTES, ITEM_BYTES, CANDIDATE_BYTES, MAX_BYTES}
use Rattle.screen_fields.specs.Laws.{GoodField}
use Rattle.refusal.specs.declared.Refusal.{Refusal}
use Rattle.refusal.specs.declared.Refusal.TheVariants.{BadScreenLine}
use Rattle.screen.specs.declared.LineCounts.{LineCounts}
use Rattle.screen.specs.declared.ScreenLists.{ScreenLists}
use Rattle.screen.specs.Screen.{item_count, candidate_count, is_screen, styles_of, replies_of, candidates_of, ScreenRead}

-- ---- Refusal 8, "bad screen line", as a proposition: a text that is no screen.

-- a text starts with a line of these fields, ended by one line feed; then comes the rest
pub data StartsLine : List Kind → List ℕ → List ℕ → Type 0 where
  feed : {rest : List ℕ} → StartsLine [] (10 ∷ rest) rest
  field : {k : Kind} {ks : List Kind} {text rest : List ℕ} (bs : List ℕ) → GoodField k bs → StartsLine ks text rest → StartsLine (k ∷ ks) (bs ++ text) rest

-- it starts with n lines of a kind
pub data StartsLines (l : Line) : ℕ → List ℕ → List ℕ → Type 0 where
  nothing : {text : List ℕ} → StartsLines l 0 text text
  line : {n : ℕ} {text next rest : List ℕ} → StartsLine (fields_of l) text next → StartsLines l n next rest → StartsLines l (suc n) text rest

-- a first line, as many item and candidate lines as it tells, none missing or left over; at most 128 items and 256 candidates
pub record IsScreen (text : List ℕ) : Type 0 where
  pub items : List ℕ
  pub candidates : List ℕ
  pub first_line : StartsLine (fields_of First) text items
  pub item_lines : StartsLines Item (item_count text) items candidates
  pub candidate_lines : StartsLines Candidate (candidate_count text) candidates []
  pub few_items_lem : item_count text ≤ 128
  pub few_candidates_lem : candidate_count text ≤ 256

-- the test decides it
abbrev pub ScreenExactly : Type 0
ScreenExactly = (text : List ℕ) → (is_screen text ≡ true) ↔ IsScreen text

-- ---- a screen

-- the bytes of the three lines and of the longest screen, in numbers
abbrev pub BytesInNumbers : Type 0
BytesInNumbers = (FIRST_BYTES ≡ 111) × (ITEM_BYTES ≡ 936) × (CANDIDATE_BYTES ≡ 155) × (MAX_BYTES ≡ 159599)

-- the bytes of a screen follow from its counts
abbrev pub ScreenSize : Type 0
ScreenSize =
    (text : List ℕ) → is_screen text ≡ true
    → (length text ≡ FIRST_BYTES + item_count text * ITEM_BYTES + candidate_count text * CANDIDATE_BYTES)
    × (item_count text ≤ 128)
    × (candidate_count text ≤ 256)
    × (length text ≤ MAX_BYTES)

-- and so do its words
abbrev pub ScreenWords : Type 0
ScreenWords =
    (text : List ℕ)
    → (length (styles_of text) ≡ item_count text * style_words) × (length (replies_of text) ≡ item_count text * reply_width) × (length (candidates_of text) ≡ candidate_count text * candidate_width)

-- what is no screen is refused, and no word is written
abbrev pub RefusalWritesNothing : Type 0
RefusalWritesNothing =
    (text : List ℕ) (r : Result LineCounts Refusal) (before after : ScreenLists)
    → is_screen text ≡ false
    → ScreenRead text r before after
    → (r ≡ Err BadScreenLine) × (after ≡ before)
