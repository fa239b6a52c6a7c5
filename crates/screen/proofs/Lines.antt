-- The lines of a screen, field by field. Assumes nothing.
use Rattle.std.proofs.Common.{◌≡◌, ℕ, zero, suc, ◌+◌, ◌-◌, ◌*◌, ◌/◌, ◌<◌, ◌≤◌, true, ◌&&◌, List, [], ◌∷◌, ◌++◌, length, get_or, take, drop, is_some, unwrap_or, refl, sym, ap, ◌∙◌, add-one, arith}
use Rattle.std.specs.Simd.{first_chunks}
use Rattle.std.proofs.Math.Nat.{zero-add, zero-mul, mul-zero, mul-suc, suc-mul, mul-le-mul_right}
use Rattle.std.proofs.Math.Seq.{length-sets}
use borrow.Rule.Slice.PartMut.{put_mid}
use Rattle.boxlist_lines.proofs.Stores.{part_sets, sets_append}
use Rattle.std.proofs.lemmas.List.{append-nil, append_assoc, drop_more, drop_all, drop-drop, length-append, length-take-le, length-drop, get_or-take, get_or-drop, ext_get_or}
use Rattle.std.proofs.lemmas.List.Edits.{sets, sets-eq}
use Rattle.screen_fields.specs.declared.format.Kind.{Kind}
use Rattle.screen_fields.specs.declared.format.Kind.TheVariants.{Code}
use Rattle.screen_fields.specs.declared.format.Line.{Line}
use Rattle.screen_fields.specs.Format.{fields_of, COLUMNS, bytes_of}
use Rattle.screen_fields.specs.Field.{word_of}
use Rattle.screen.specs.Screen.{good_fields, good_line, good_lines, words_of, rows_of}

pub bytes_are : (line : Line) → bytes_of line ≡ COLUMNS * length (fields_of line) + 1
unfolding bytes_of
bytes_are line = refl

-- ---- the fields of a line

-- the field in the columns at a place
abbrev field : List ℕ → ℕ → List ℕ
field text at = take COLUMNS (drop at text)

-- the pieces of a text that is cut
piece_at : (n k : ℕ) (text : List ℕ) (j : ℕ) → j < k → get_or (first_chunks n k text) j [] ≡ take n (drop (n * j) text)
piece_at n zero text j h = absurd (omega arith)
piece_at n (suc k) text zero h = rw mul-zero refl
piece_at n (suc k) text (suc j) h = piece_at n k (drop n text) j (omega arith) ∙ rw (drop-drop (n * j) n text, over n j) refl
  where
    over : (n j : ℕ) → n + n * j ≡ n * suc j
    over n j = rw mul-suc (omega arith)

pieces_length : (n k : ℕ) (text : List ℕ) → length (first_chunks n k text) ≡ k
pieces_length n zero text = refl
pieces_length n (suc k) text = ap suc (pieces_length n k (drop n text))

-- a text's fields, cut
module _ (fields : List (List ℕ)) (text : List ℕ) (cut : fields ≡ first_chunks COLUMNS (length text / COLUMNS) text) where
  pub field_in : (j : ℕ) → COLUMNS * j + COLUMNS ≤ length text → get_or fields j [] ≡ field text (COLUMNS * j)
  field_in j h = rw cut (piece_at COLUMNS (length text / COLUMNS) text j (omega arith))

  pub field_cut : (width j : ℕ) → COLUMNS * width ≤ length text → j < width → get_or (take width fields) j [] ≡ field text (COLUMNS * j)
  field_cut width j there h = get_or-take width fields j [] h ∙ field_in j (omega arith)

  pub fields_cut : (width : ℕ) → COLUMNS * width ≤ length text → length (take width fields) ≡ width
  fields_cut width there = length-take-le width fields (rw (cut, pieces_length COLUMNS (length text / COLUMNS) text) (omega arith))

module _ (ks : List Kind) (text : List ℕ) (j : ℕ) where
  pub good_more : j < length ks
      → good_fields (drop j ks) (drop (COLUMNS * j) text)
      ≡ (is_some (word_of (get_or ks j Code) (field text (COLUMNS * j))) && good_fields (drop (j + 1) ks) (drop (COLUMNS * (j + 1)) text))
  unfolding good_fields
  good_more h = rw (drop_more ks j Code h, drop-drop COLUMNS (COLUMNS * j) text, next j) refl
    where
      next : (j : ℕ) → COLUMNS * j + COLUMNS ≡ COLUMNS * (j + 1)
      next j = omega arith

  pub good_none : length ks ≤ j → good_fields (drop j ks) (drop (COLUMNS * j) text) ≡ true
  unfolding good_fields
  good_none h = rw (drop_all j ks h) refl

pub words_length : (ks : List Kind) (text : List ℕ) → length (words_of ks text) ≡ length ks
unfolding words_of
words_length [] text = refl
words_length (k ∷ ks) text = ap suc (words_length ks (drop COLUMNS text))

-- the word at a place of a line
pub words_at : (ks : List Kind) (text : List ℕ) (j : ℕ) → j < length ks → get_or (words_of ks text) j 0 ≡ unwrap_or (word_of (get_or ks j Code) (field text (COLUMNS * j))) 0
unfolding words_of
words_at [] text j h = absurd (omega arith)
words_at (k ∷ ks) text zero h = refl
words_at (k ∷ ks) text (suc j) h =
    words_at ks (drop COLUMNS text) j (omega arith) ∙ rw (drop-drop (COLUMNS * j) COLUMNS text, over j) refl
  where
    over : (j : ℕ) → COLUMNS + COLUMNS * j ≡ COLUMNS * suc j
    over j = omega arith

-- fields that were read one by one
pub words_read : (ks : List Kind) (text : List ℕ) (first n : ℕ) (out old : List ℕ)
    → length out ≡ length old
    → first + length old ≤ length ks
    → length old ≤ n
    → ((k : ℕ) → k < n → get_or out k 0 ≡ unwrap_or (word_of (get_or ks (first + k) Code) (field text (COLUMNS * (first + k)))) 0)
    → out ≡ words_of (take (length old) (drop first ks)) (drop (COLUMNS * first) text)
words_read ks text first n out old same h all each =
    ext_get_or 0 out (words_of part rest) (sym (words_length part rest ∙ size ∙ sym same))
    (λ k l. each k (omega arith) ∙ sym (words_at part rest k (rw (size, ← same) l) ∙ rw (get_or-take (length old) (drop first ks) k Code (rw same at l), get_or-drop first ks k Code, drop-drop (COLUMNS * k) (COLUMNS * first) text, along first k) refl))
  where
    part : List Kind
    part = take (length old) (drop first ks)

    rest : List ℕ
    rest = drop (COLUMNS * first) text

    size : length part ≡ length old
    size = length-take-le (length old) (drop first ks) (rw length-drop (omega arith))

    along : (first k : ℕ) → COLUMNS * first + COLUMNS * k ≡ COLUMNS * (first + k)
    along first k = omega arith

-- ---- lines one after another

turn : (i n : ℕ) → i < n → n - i ≡ suc (n - (i + 1))
turn i n h = omega arith

module _ (line : Line) (text : List ℕ) (i n : ℕ) where
  pub lines_more : i < n → good_lines line (n - i) text ≡ (good_line line text && good_lines line (n - (i + 1)) (drop (bytes_of line) text))
  unfolding good_lines
  lines_more h = rw (turn i n h) refl

  pub lines_none : n ≤ i → good_lines line (n - i) text ≡ true
  unfolding good_lines
  lines_none h = rw (done i n h) refl
    where
      done : (i n : ℕ) → n ≤ i → n - i ≡ 0
      done i n h = omega arith

-- the first of the lines that are left, and the others behind it
pub lines_left : (i n b room : ℕ) → i < n → (n - i) * b ≤ room → b + (n - (i + 1)) * b ≤ room
lines_left i n b room h r = let s = rw (turn i n h, suc-mul) at r in omega arith

-- one line more
rows_suc : (ks : List Kind) (line : Line) (i : ℕ) (text : List ℕ)
    → rows_of ks line (suc i) text ≡ rows_of ks line i text ++ words_of ks (drop (i * bytes_of line) text)
unfolding rows_of
rows_suc ks line zero text = rw (zero-mul, append-nil) refl
rows_suc ks line (suc i) text =
    ap (λ (ws : List ℕ). words_of ks text ++ ws) (rows_suc ks line i (drop (bytes_of line) text))
    ∙ rw (drop-drop (i * bytes_of line) (bytes_of line) text, next i (bytes_of line))
    (sym (append_assoc (words_of ks text) (rows_of ks line i (drop (bytes_of line) text)) (words_of ks (drop (suc i * bytes_of line) text))))
  where
    next : (i b : ℕ) → b + i * b ≡ suc i * b
    next i b = rw suc-mul (omega arith)

pub rows_more : (ks : List Kind) (line : Line) (i : ℕ) (text : List ℕ)
    → rows_of ks line (i + 1) text ≡ rows_of ks line i text ++ words_of ks (drop (i * bytes_of line) text)
rows_more ks line i text = rw add-one (rows_suc ks line i text)

pub rows_length : (ks : List Kind) (line : Line) (n : ℕ) (text : List ℕ) → length (rows_of ks line n text) ≡ n * length ks
unfolding rows_of
rows_length ks line zero text = sym (zero-mul (length ks))
rows_length ks line (suc n) text =
    length-append (words_of ks text) (rows_of ks line n (drop (bytes_of line) text))
    ∙ rw (words_length ks text, rows_length ks line n (drop (bytes_of line) text), suc-mul n (length ks)) (omega arith)

-- a list that is written from its first place to its last
pub sets_all : (l vs : List ℕ) → length vs ≡ length l → sets l 0 vs ≡ vs
sets_all l vs e = sets-eq vs l 0 (omega arith) ∙ rw (drop_all (0 + length vs) l (omega arith)) (append-nil vs)

-- ---- the rows of n fields of each line

-- the first i + 1 lines end by the last
pub one_more : (i rows b : ℕ) → i < rows → i * b + b ≤ rows * b
one_more i rows b h = let k : suc i * b ≤ rows * b = mul-le-mul_right b h in rw suc-mul at k

-- the words of one row more, written behind those before
pub row_written : (ks : List Kind) (line : Line) (text l out new : List ℕ) (first n i rows : ℕ)
    → first + n ≤ length ks
    → i < rows
    → rows * n ≤ length l
    → out ≡ sets l 0 (rows_of (take n (drop first ks)) line i (drop (COLUMNS * first) text))
    → new ≡ words_of (take n (drop first ks)) (drop (COLUMNS * first) (drop (i * bytes_of line) text))
    → put_mid (i * n) n out new ≡ sets l 0 (rows_of (take n (drop first ks)) line (i + 1) (drop (COLUMNS * first) text))
row_written ks line text l out new first n i rows in_line here in_out e f =
    let words = rows_of part line i rest in
    let below : i * n + n ≤ rows * n = one_more i rows n here in
    let long : length words ≡ i * n = rows_length part line i rest ∙ ap (λ (k : ℕ). i * k) size in
    part_sets out new (i * n) n (ap length f ∙ words_length part _ ∙ size) (rw (e, length-sets) (omega arith))
    ∙ rw (e, f, rows_more part line i rest, sets_append words (words_of part (drop (i * bytes_of line) rest)) l 0, long, zero-add, drop-drop (COLUMNS * first) (i * bytes_of line) text, drop-drop (i * bytes_of line) (COLUMNS * first) text, swap (i * bytes_of line) (COLUMNS * first)) refl
  where
    part : List Kind
    part = take n (drop first ks)

    rest : List ℕ
    rest = drop (COLUMNS * first) text

    size : length part ≡ n
    size = length-take-le n (drop first ks) (rw length-drop (omega arith))

    swap : (a b : ℕ) → a + b ≡ b + a
    swap a b = omega arith
