-- A whole screen, test by test. Assumes nothing.
use Prim.Native.Nat.{ℕ, ◌+◌, ◌-◌, ◌*◌, ◌<◌, ◌≤◌}
use native.Mathlib.Omega.{arith}
use mathlib.Core.Path.{◌≡◌, refl, sym, ap, ◌∙◌}
use mathlib.Core.Bool.{Bool, true, false, cond, ◌&&◌, and-false}
use mathlib.Core.List.{List}
use lib.ListN.{length, take, drop, get_or-eq_default}
use lib.Seq.{sets, drop-drop}
use lib.Dec.{eqb, leb, lit<}
use Rattle.std.proofs.Common.{Ok, Err, unwrap_or}
use Rattle.std.proofs.lemmas.Bool.{false≢true}
use Rattle.std.proofs.lemmas.List.{take_rest}
use borrow.Author.Tests.{le-leb, leb-true, eq-eqb, eqb-true}
use Rattle.style_record.specs.Record.{style_words}
use Rattle.tree_record.specs.Candidate.{candidate_width}
use Rattle.screen_fields.specs.declared.format.Kind.TheVariants.{Code}
use Rattle.screen_fields.specs.declared.format.Line.TheVariants.{First, Item, Candidate}
use Rattle.refusal.specs.declared.Refusal.{Refusal}
use Rattle.refusal.specs.declared.Refusal.TheVariants.{BadScreenLine}
use Rattle.screen.specs.declared.LineCounts.{LineCounts}
use Rattle.screen_fields.specs.Format.{first_fields, style_fields, reply_fields, candidate_fields, fields_of, ITEM_COUNT, CANDIDATE_COUNT, COLUMNS, header_width, reply_width, bytes_of, FIRST_BYTES, ITEM_BYTES, CANDIDATE_BYTES, MAX_ITEMS, MAX_CANDIDATES}
use Rattle.screen_fields.specs.Field.{word_of}
use Rattle.screen.specs.Screen.{good_fields, good_line, good_lines, words_of, rows_of, header_of, item_count, candidate_count, candidates_at, screen_bytes, is_screen, counts_of, answer_of, styles_of, replies_of, candidates_of, written}
use Rattle.screen_fields.proofs.Table.{first_width, first_bytes, item_bytes, candidate_bytes}
use Rattle.screen.proofs.Lines.{words_at, words_length, sets_all}

-- ---- sizes

pub candidates_at_lem : (n : ℕ) → candidates_at n ≡ FIRST_BYTES + n * ITEM_BYTES
unfolding candidates_at
candidates_at_lem n = rw (first_bytes, item_bytes) refl

pub screen_bytes_lem : (n m : ℕ) → screen_bytes n m ≡ FIRST_BYTES + n * ITEM_BYTES + m * CANDIDATE_BYTES
unfolding screen_bytes
screen_bytes_lem n m = rw (candidates_at_lem n, candidate_bytes) refl

-- ---- the counts

module _ (text : List ℕ) where
  pub items_told : unwrap_or (word_of Code (take COLUMNS (drop (COLUMNS * ITEM_COUNT) text))) 0 ≡ item_count text
  unfolding item_count header_of first_fields
  items_told = sym (words_at first_fields text ITEM_COUNT (lit< tt))

  pub candidates_told : unwrap_or (word_of Code (take COLUMNS (drop (COLUMNS * CANDIDATE_COUNT) text))) 0 ≡ candidate_count text
  unfolding candidate_count header_of first_fields
  candidates_told = sym (words_at first_fields text CANDIDATE_COUNT (lit< tt))

-- ---- the six tests

all_six : (a b c d e f : Bool) → (a && b && c && d && e && f) ≡ true → (a ≡ true) × (b ≡ true) × (c ≡ true) × (d ≡ true) × (e ≡ true) × (f ≡ true)
all_six true true true true true f q = (refl, refl, refl, refl, refl, q)
all_six true true true true false f q = absurd (false≢true q)
all_six true true true false e f q = absurd (false≢true q)
all_six true true false d e f q = absurd (false≢true q)
all_six true false c d e f q = absurd (false≢true q)
all_six false b c d e f q = absurd (false≢true q)

-- what is so of a screen of so many lines
pub record Told (text : List ℕ) (counts : LineCounts) : Type 0 where
  pub good : is_screen text ≡ true
  pub counted : counts ≡ counts_of text
  pub few_items : counts.items ≤ 128
  pub few_candidates : counts.candidates ≤ 256
  pub bytes : length text ≡ FIRST_BYTES + counts.items * ITEM_BYTES + counts.candidates * CANDIDATE_BYTES
  pub first_line : good_line First text ≡ true
  pub item_lines : good_lines Item counts.items (drop FIRST_BYTES text) ≡ true
  pub candidate_lines : good_lines Candidate counts.candidates (drop (FIRST_BYTES + counts.items * ITEM_BYTES) text) ≡ true

pub screen_told : (text : List ℕ) (counts : LineCounts) → counts ≡ counts_of text → is_screen text ≡ true → Told text counts
unfolding is_screen
screen_told text counts p e = rw p told
  where
    told : Told text (counts_of text)
    told =
        let n = item_count text in
        let m = candidate_count text in
        let t =
        all_six (good_line First text) (leb n MAX_ITEMS) (leb m MAX_CANDIDATES) (eqb (length text) (screen_bytes n m)) (good_lines Item n (drop (bytes_of First) text))
        (good_lines Candidate m (drop (candidates_at n) text)) e in
        record {
          good = e;
          counted = refl;
          few_items = leb-true n MAX_ITEMS t.1;
          few_candidates = leb-true m MAX_CANDIDATES t.2;
          bytes = eqb-true (length text) (screen_bytes n m) t.3 ∙ screen_bytes_lem n m;
          first_line = t.0;
          item_lines = rw first_bytes at t.4;
          candidate_lines = rw candidates_at_lem at t.5;
        }

-- one that fails is enough
pub refused : (text : List ℕ) → (is_screen text ≡ true → ⊥) → Err BadScreenLine ≡ answer_of text
unfolding answer_of
refused text f = go (is_screen text) f
  where
    go : (b : Bool) → (b ≡ true → ⊥) → Err BadScreenLine ≡ cond b (Ok (counts_of text)) (Err BadScreenLine)
    go true f = absurd (f refl)
    go false f = refl

pub accepted : (text : List ℕ) (counts : LineCounts)
    → counts ≡ counts_of text
    → good_line First text ≡ true
    → counts.items ≤ MAX_ITEMS
    → counts.candidates ≤ MAX_CANDIDATES
    → length text ≡ FIRST_BYTES + counts.items * ITEM_BYTES + counts.candidates * CANDIDATE_BYTES
    → good_lines Item counts.items (drop FIRST_BYTES text) ≡ true
    → good_lines Candidate counts.candidates (drop (FIRST_BYTES + counts.items * ITEM_BYTES) text) ≡ true
    → Ok counts ≡ answer_of text
unfolding answer_of is_screen
accepted text counts p f a b s g h =
    let n = counts.items in
    let m = counts.candidates in
    let p' : n ≡ item_count text = ap (λ (c : LineCounts). c.items) p in
    let q' : m ≡ candidate_count text = ap (λ (c : LineCounts). c.candidates) p in
    rw (f, ← p', ← q', le-leb n MAX_ITEMS a, le-leb m MAX_CANDIDATES b, screen_bytes_lem n m, eq-eqb (length text) (FIRST_BYTES + n * ITEM_BYTES + m * CANDIDATE_BYTES) s, first_bytes, g, candidates_at_lem n, h) refl

-- a line's feed stands in the text
pub too_short : (text : List ℕ) → length text < FIRST_BYTES → good_line First text ≡ false
unfolding good_line
too_short text h = rw (first_width, get_or-eq_default text 0 {n = 110} (omega arith)) (and-false (good_fields (fields_of First) text))

-- ---- each test that fails, by the counts as they are read

-- a part of a slice, as the code has it
abbrev from : ℕ → List ℕ → List ℕ
from at text = take (length text - at) (drop at text)

abbrev count_read : List ℕ → ℕ → ℕ
count_read text j = unwrap_or (word_of Code (take COLUMNS (drop (COLUMNS * j) text))) 0

module _ (text : List ℕ) where
  pub refused_short : length text < FIRST_BYTES → Err BadScreenLine ≡ answer_of text
  refused_short h = refused text (λ s. false≢true (sym (too_short text h) ∙ (screen_told text _ refl s).first_line))

  pub refused_first : good_line First text ≡ false → Err BadScreenLine ≡ answer_of text
  refused_first f = refused text (λ s. false≢true (sym f ∙ (screen_told text _ refl s).first_line))

  pub refused_items : (n : ℕ) → n ≡ count_read text ITEM_COUNT → MAX_ITEMS < n → Err BadScreenLine ≡ answer_of text
  refused_items n p h = refused text (λ s. let e = p ∙ items_told text in let t = (screen_told text _ refl s).few_items in omega arith)

  pub refused_candidates : (m : ℕ) → m ≡ count_read text CANDIDATE_COUNT → MAX_CANDIDATES < m → Err BadScreenLine ≡ answer_of text
  refused_candidates m q h = refused text (λ s. let e = q ∙ candidates_told text in let t = (screen_told text _ refl s).few_candidates in omega arith)

  module _ (n : ℕ) (p : n ≡ count_read text ITEM_COUNT) where
    pub refused_item_lines : good_lines Item n (from FIRST_BYTES text) ≡ false → Err BadScreenLine ≡ answer_of text
    refused_item_lines f = refused text (λ s. false≢true (sym (rw (take_rest, p ∙ items_told text) at f) ∙ (screen_told text _ refl s).item_lines))

    module _ (m : ℕ) (q : m ≡ count_read text CANDIDATE_COUNT) where
      pub refused_length : (length text ≡ FIRST_BYTES + n * ITEM_BYTES + m * CANDIDATE_BYTES → ⊥) → Err BadScreenLine ≡ answer_of text
      refused_length f = refused text (λ s. f (rw (p ∙ items_told text, q ∙ candidates_told text) (screen_told text _ refl s).bytes))

      pub refused_candidate_lines : good_lines Candidate m (from (FIRST_BYTES + n * ITEM_BYTES) text) ≡ false → Err BadScreenLine ≡ answer_of text
      refused_candidate_lines f = refused text (λ s. false≢true (sym (rw (take_rest, p ∙ items_told text, q ∙ candidates_told text) at f) ∙ (screen_told text _ refl s).candidate_lines))

      -- and where none does
      pub accepted_counts : good_line First text ≡ true
          → n ≤ MAX_ITEMS
          → m ≤ MAX_CANDIDATES
          → length text ≡ FIRST_BYTES + n * ITEM_BYTES + m * CANDIDATE_BYTES
          → good_lines Item n (from FIRST_BYTES text) ≡ true
          → good_lines Candidate m (from (FIRST_BYTES + n * ITEM_BYTES) text) ≡ true
          → Ok (record { items = n; candidates = m }) ≡ answer_of text
      accepted_counts f a b s g h = accepted text (record { items = n; candidates = m }) (rw (p ∙ items_told text, q ∙ candidates_told text) refl) f a b s (rw take_rest at g) (rw take_rest at h)

-- ---- what an answer tells

pub read_told : (text : List ℕ) (counts : LineCounts) → Ok counts ≡ answer_of text → Told text counts
unfolding answer_of
read_told text counts e = go (is_screen text) refl e
  where
    go : (b : Bool) → is_screen text ≡ b → Ok counts ≡ cond b (Ok (counts_of text)) (Err BadScreenLine) → Told text counts
    go true g h = screen_told text counts (cc) g
    go false g h = cc

pub bad_told : (text : List ℕ) (r : Refusal) → Err r ≡ answer_of text → (r ≡ BadScreenLine) × (is_screen text ≡ false)
unfolding answer_of
bad_told text r e = go (is_screen text) refl e
  where
    go : (b : Bool) → is_screen text ≡ b → Err r ≡ cond b (Ok (counts_of text)) (Err BadScreenLine) → (r ≡ BadScreenLine) × (is_screen text ≡ false)
    go true g h = cc
    go false g h = (cc, g)

-- ---- the four lists

header_taken : take header_width (drop 0 (fields_of First)) ≡ first_fields
unfolding fields_of first_fields
header_taken = refl

styles_taken : take style_words (drop 0 (fields_of Item)) ≡ style_fields
unfolding fields_of style_fields reply_fields
styles_taken = refl

replies_taken : take reply_width (drop style_words (fields_of Item)) ≡ reply_fields
unfolding fields_of style_fields reply_fields
replies_taken = refl

candidates_taken : take candidate_width (drop 0 (fields_of Candidate)) ≡ candidate_fields
unfolding fields_of candidate_fields
candidates_taken = refl

-- the header's words fill their list
pub header_whole : (text l : List ℕ) → length l ≡ header_width
    → sets l 0 (words_of (take header_width (drop 0 (fields_of First))) text) ≡ words_of (take header_width (drop 0 (fields_of First))) text
header_whole text l e = sets_all l _ (words_length _ text ∙ size ∙ sym e)
  where
    size : length (take header_width (drop 0 (fields_of First))) ≡ header_width
    size = rw header_taken (unfold first_fields in refl)

-- what is left of a list that was read into
module _ (text l after : List ℕ) (counts : LineCounts) (t : Told text counts) where
  pub header_read : after ≡ sets l 0 (words_of (take header_width (drop 0 (fields_of First))) text) → after ≡ written (is_screen text) l (header_of text)
  unfolding written header_of
  header_read e = e ∙ rw (t.good, header_taken) refl

  pub styles_read : after ≡ sets l 0 (rows_of (take style_words (drop 0 (fields_of Item))) Item counts.items (drop FIRST_BYTES text)) → after ≡ written (is_screen text) l (styles_of text)
  unfolding written styles_of
  styles_read e = e ∙ rw (t.good, styles_taken, t.counted, first_bytes) refl

  pub replies_read : after ≡ sets l 0 (rows_of (take reply_width (drop style_words (fields_of Item))) Item counts.items (drop (COLUMNS * style_words) (drop FIRST_BYTES text))) → after ≡ written (is_screen text) l (replies_of text)
  unfolding written replies_of style_fields
  replies_read e = e ∙ rw (t.good, replies_taken, t.counted, first_bytes, drop-drop (COLUMNS * style_words) FIRST_BYTES text) refl

  pub candidates_read : after ≡ sets l 0 (rows_of (take candidate_width (drop 0 (fields_of Candidate))) Candidate counts.candidates (drop (FIRST_BYTES + counts.items * ITEM_BYTES) text)) → after ≡ written (is_screen text) l (candidates_of text)
  unfolding written candidates_of
  candidates_read e = e ∙ rw (t.good, candidates_taken, t.counted, candidates_at_lem (item_count text)) refl
