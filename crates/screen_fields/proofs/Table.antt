-- The fields of a line by their number: one computed test over the whole format. Assumes nothing.
use Prim.Native.Nat.{ℕ, zero, suc, ◌+◌, ◌-◌, ◌%◌, ◌<◌, ◌≤◌}
use native.Mathlib.Omega.{arith}
use native.Mathlib.Nat.{add-zero, zero-add, add-suc, suc-add, le_of_suc-le-suc, not-suc-le-zero}
use mathlib.Core.Path.{◌≡◌, refl, sym, subst, ◌∙◌}
use mathlib.Core.Bool.{Bool, true, false, cond, not}
use mathlib.Core.List.{List, [], ◌∷◌}
use lib.Dec.{T, ltb, leb, eqb}
use lib.ListN.{length, get_or}
use Rattle.style_record.specs.Record.{length_words, after_lengths, ratio_word, scrollbar_word, style_words, kind_of, length_field, length_kinds, code_kinds}
use Rattle.tree_record.specs.Candidate.{candidate_width, layer_word}
use Rattle.screen_fields.specs.declared.format.Kind.{Kind}
use Rattle.screen_fields.specs.declared.format.Kind.TheVariants.{Code, Eighths}
use Rattle.screen_fields.specs.declared.format.Line.{Line}
use Rattle.screen_fields.specs.declared.format.Line.TheVariants.{First, Item, Candidate}
use Rattle.screen_fields.specs.Format.{is_float, header_width, first_fields, style_fields, reply_width, reply_fields, candidate_fields, fields_of, bytes_of, FIRST_BYTES, ITEM_BYTES, CANDIDATE_BYTES}
use Rattle.screen_fields.specs.Laws.{CandidateLine, item_holds_float, item_float, ItemLine, BytesByWidths}
use Rattle.std.proofs.lemmas.Bool.{false≢true}

-- the test that the code makes
unfoldable pub is_float_at : Line → ℕ → Bool
is_float_at First j = ltb j 4
is_float_at Item j =
    cond (ltb j after_lengths) (not (eqb (j % length_words) 0))
    (cond (eqb j ratio_word) true (cond (eqb j scrollbar_word) true (leb style_words j)))
is_float_at Candidate j = cond (ltb j 3) false (cond (eqb j layer_word) false (ltb ((j - 3) % 5) 2))

abbrev same : Bool → Bool → Bool
same true b = b
same false true = false
same false false = true

same_is : (a b : Bool) → T (same a b) → a ≡ b
same_is true true t = refl
same_is true false t = absurd t
same_is false true t = absurd t
same_is false false t = refl

abbrev both : Bool → Bool → Bool
both true b = b
both false b = false

both_left : (a b : Bool) → T (both a b) → T a
both_left true b t = tt
both_left false b t = t

both_right : (a b : Bool) → T (both a b) → T b
both_right true b t = t
both_right false b t = absurd t

-- the test f tells the floats among the fields, counted from i
abbrev every : (ℕ → Bool) → ℕ → List Kind → Bool
every f i [] = true
every f i (k ∷ ks) = both (same (f i) (is_float k)) (every f (suc i) ks)

from : (f : ℕ → Bool) (ks : List Kind) (i : ℕ) → T (every f i ks) → (j : ℕ) → j < length ks → f (i + j) ≡ is_float (get_or ks j Code)
from f [] i t j h = absurd (not-suc-le-zero h)
from f (k ∷ ks) i t zero h = rw add-zero (same_is (f i) (is_float k) (both_left (same (f i) (is_float k)) (every f (suc i) ks) t))
from f (k ∷ ks) i t (suc j) h =
    subst (λ (m : ℕ). f m ≡ is_float (get_or ks j Code)) (suc-add i j ∙ sym (add-suc i j))
    (from f ks (suc i) (both_right (same (f i) (is_float k)) (every f (suc i) ks) t) j (le_of_suc-le-suc h))

tested : (line : Line) → T (every (is_float_at line) 0 (fields_of line))
unfolding is_float_at is_float fields_of first_fields style_fields reply_fields candidate_fields
tested First = tt
tested Item = tt
tested Candidate = tt

-- a test that tells the floats of a line, field by field
told : (f : ℕ → Bool) (line : Line) → T (every f 0 (fields_of line)) → (j : ℕ) → j < length (fields_of line) → f j ≡ is_float (get_or (fields_of line) j Code)
told f line t j h = subst (λ (m : ℕ). f m ≡ is_float (get_or (fields_of line) j Code)) (zero-add j) (from f (fields_of line) 0 t j h)

pub float_at : (line : Line) (j : ℕ) → j < length (fields_of line) → is_float (get_or (fields_of line) j Code) ≡ is_float_at line j
float_at line j h = sym (told (is_float_at line) line (tested line) j h)

pub float_is : (k : Kind) → is_float k ≡ true → Eighths ≡ k
unfolding is_float
float_is Code e = absurd (false≢true e)
float_is Eighths e = refl

pub code_is : (k : Kind) → is_float k ≡ false → Code ≡ k
unfolding is_float
code_is Code e = refl
code_is Eighths e = absurd (false≢true (sym e))

-- ---- sizes by the records' widths

pub first_width : length (fields_of First) ≡ header_width
unfolding fields_of first_fields
first_width = refl

pub item_width : length (fields_of Item) ≡ style_words + reply_width
unfolding fields_of style_fields reply_fields
item_width = refl

pub candidate_width_lem : length (fields_of Candidate) ≡ candidate_width
unfolding fields_of candidate_fields
candidate_width_lem = refl

pub ruleset line_widths = (first_width, item_width, candidate_width_lem)

pub width_small : (line : Line) → length (fields_of line) ≤ style_words + reply_width
width_small First = let e = first_width in omega arith
width_small Item = let e = item_width in omega arith
width_small Candidate = let e = candidate_width_lem in omega arith

pub first_bytes : bytes_of First ≡ FIRST_BYTES
unfolding bytes_of
first_bytes = rw first_width refl

pub item_bytes : bytes_of Item ≡ ITEM_BYTES
unfolding bytes_of
item_bytes = rw item_width refl

pub candidate_bytes : bytes_of Candidate ≡ CANDIDATE_BYTES
unfolding bytes_of
candidate_bytes = rw candidate_width_lem refl

pub ruleset line_bytes = (first_bytes, item_bytes, candidate_bytes)

-- ---- laws of the lines

pub candidate_line : CandidateLine
unfolding fields_of candidate_fields is_float
candidate_line = (refl, λ n. refl)

pub item_line : ItemLine
unfolding fields_of style_fields reply_fields is_float kind_of length_field length_kinds code_kinds
item_line = (refl, λ j h. sym (told item_holds_float Item tt j h), λ j h. sym (told item_float Item tt j h))

pub bytes_by_widths : BytesByWidths
bytes_by_widths = (first_bytes, item_bytes, candidate_bytes)
