-- Lists of records in words. A record is a run of words of a fixed width w, and a list is one record after another; words past the
-- last whole record belong to none. Assumes nothing.
use Rattle.std.specs.Prelude.{ℕ, zero, suc, ◌+◌, ◌*◌, ◌/◌, Bool, true, false, not, ◌&&◌, List, [], ◌∷◌, leb, length, get_or, set, take, drop, Float}
use Rattle.std.specs.Float.Ieee.{of_bits, to_bits}
use Rattle.std.specs.Float.{binary32}

-- ---- records of a list

-- record i
unfoldable pub record_at : ℕ → List ℕ → ℕ → List ℕ
record_at w ws i = take w (drop (w * i) ws)

-- the float of word k; a word beyond the end counts as 0
abbrev pub float_at : List ℕ → ℕ → Float
float_at ws k = of_bits binary32 (get_or ws k 0)

-- the first n records, in order
unfoldable pub records : ℕ → ℕ → List ℕ → List (List ℕ)
records w zero ws = []
records w (suc n) ws = take w ws ∷ records w n (drop w ws)

-- a list of l words that holds `held` records has room for `more`
unfoldable pub room : ℕ → ℕ → ℕ → ℕ → Bool
room w l held more = leb (held + more) (l / w)

-- ---- writing

-- the words, with vs written over those from `at` on
unfoldable pub written : List ℕ → ℕ → List ℕ → List ℕ
written ws at [] = ws
written ws at (v ∷ vs) = written (set ws at v) (suc at) vs

-- ---- kinds of words

-- what a word of a record holds: a code below a limit, any whole number, or a float by its bits
pub data Kind : Type 0 where
  below : ℕ → Kind
  whole : Kind
  float : Kind

-- only a code can be wrong: one that is not below its limit
unfoldable pub wrong : Kind → ℕ → Bool
wrong (below limit) word = leb limit word
wrong whole word = false
wrong float word = false

-- as it is written: every NaN is 7FC00000
unfoldable pub canonical_word : Kind → ℕ → ℕ
canonical_word (below limit) word = word
canonical_word whole word = word
canonical_word float word = to_bits binary32 (of_bits binary32 word)

-- a record as it is written, by the kinds of its words
unfoldable pub canonical_from : List Kind → ℕ → List ℕ → List ℕ
canonical_from [] k r = []
canonical_from (kind ∷ kinds) k r = canonical_word kind (get_or r k 0) ∷ canonical_from kinds (suc k) r

abbrev pub canonical : List Kind → List ℕ → List ℕ
canonical kinds r = canonical_from kinds 0 r

-- ---- which word of which record breaks a rule

-- p holds of each number below n
unfoldable pub every : ℕ → (ℕ → Bool) → Bool
every zero p = true
every (suc n) p = every n p && p n

-- of a record that begins at word `at`, word k breaks the rule of its kind
unfoldable pub breaks : List Kind → List ℕ → ℕ → ℕ → Bool
breaks kinds ws at k = wrong (get_or kinds k whole) (get_or ws (at + k) 0)

-- no word of it does
unfoldable pub good : List Kind → List ℕ → ℕ → Bool
good kinds ws at = every (length kinds) (λ k. not (breaks kinds ws at k))

-- the first n records are there, and no word of any of them breaks a rule
unfoldable pub good_records : List Kind → List ℕ → ℕ → Bool
good_records kinds ws n = leb n (length ws / length kinds) && every n (λ i. good kinds ws (length kinds * i))
