-- What the definitions of this crate mean, as statements. `proofs/Laws.antt` proves each, under its name in small letters. Assumes nothing.
use Rattle.std.specs.Prelude.{ℕ, ◌+◌, ◌*◌, ◌/◌, ◌<◌, ◌≤◌, ◌≢◌, ◌≡◌, Bool, true, false, List, [], ◌++◌, length, get_or, take, drop}
use Rattle.std.specs.Float.Ieee.{is_nan, of_bits}
use Rattle.std.specs.Float.{binary32}
use Rattle.records.specs.Records.{record_at, records, written, Kind, float, canonical_word, every, breaks, good_records}

-- ---- writing

abbrev pub WrittenLength : Type 0
WrittenLength = (ws : List ℕ) (at : ℕ) (vs : List ℕ) → length (written ws at vs) ≡ length ws

-- where there is room: the words before, the new ones, the words after
abbrev pub WrittenParts : Type 0
WrittenParts =
    (ws : List ℕ) (at : ℕ) (vs : List ℕ) → at + length vs ≤ length ws
    → written ws at vs ≡ take at ws ++ vs ++ drop (at + length vs) ws

-- one write after another is one write
abbrev pub WrittenTwice : Type 0
WrittenTwice =
    (ws : List ℕ) (at : ℕ) (us vs : List ℕ) → written ws at (us ++ vs) ≡ written (written ws at us) (at + length us) vs

-- a second write over the same words: nothing of the first is left
abbrev pub WrittenOver : Type 0
WrittenOver =
    (ws : List ℕ) (at : ℕ) (us vs : List ℕ) → length us ≡ length vs → at + length vs ≤ length ws
    → written (written ws at us) at vs ≡ written ws at vs

-- the words that are there, written over themselves
abbrev pub WrittenSame : Type 0
WrittenSame = (ws : List ℕ) (at n : ℕ) → at + n ≤ length ws → written ws at (take n (drop at ws)) ≡ ws

-- ---- records

abbrev pub RecordOfRecords : Type 0
RecordOfRecords = (w n : ℕ) (ws : List ℕ) (i : ℕ) → i < n → get_or (records w n ws) i [] ≡ record_at w ws i

abbrev pub WordOfRecord : Type 0
WordOfRecord = (w : ℕ) (ws : List ℕ) (i k : ℕ) → k < w → get_or (record_at w ws i) k 0 ≡ get_or ws (w * i + k) 0

-- records written at the rear of a list are read back after those that it held
abbrev pub RearBack : Type 0
RearBack =
    (w held m : ℕ) (ws vs : List ℕ) → length vs ≡ w * m → w * held + length vs ≤ length ws
    → records w (held + m) (written ws (w * held) vs) ≡ records w held ws ++ records w m vs

-- a record written at its place is read back there, and no other record changes, wherever it is written
abbrev pub RecordBack : Type 0
RecordBack =
    (w k : ℕ) (ws r : List ℕ) → length r ≡ w → w * k + w ≤ length ws
    → record_at w (written ws (w * k) r) k ≡ r

abbrev pub OthersKept : Type 0
OthersKept =
    (w k i : ℕ) (ws r : List ℕ) → length r ≡ w → i ≢ k
    → record_at w (written ws (w * k) r) i ≡ record_at w ws i

-- ---- words

-- a NaN's word is written as 7FC00000, any other float's as it is
abbrev pub NanWord : Type 0
NanWord = (word : ℕ) → is_nan (of_bits binary32 word) ≡ true → canonical_word float word ≡ 2143289344

abbrev pub FloatWord : Type 0
FloatWord = (word : ℕ) → word < 4294967296 → is_nan (of_bits binary32 word) ≡ false → canonical_word float word ≡ word

-- ---- rules

abbrev pub EveryIs : Type 0
EveryIs =
    (n : ℕ) (p : ℕ → Bool) → (every n p ≡ true → (i : ℕ) → i < n → p i ≡ true) × (((i : ℕ) → i < n → p i ≡ true) → every n p ≡ true)

-- good is: the records are there, and no word of any of them breaks a rule
abbrev pub Unbroken : List Kind → List ℕ → ℕ → Type 0
Unbroken kinds ws n =
    (n ≤ length ws / length kinds) × ((i k : ℕ) → i < n → k < length kinds → breaks kinds ws (length kinds * i) k ≡ false)

abbrev pub GoodIsUnbroken : Type 0
GoodIsUnbroken =
    (kinds : List Kind) (ws : List ℕ) (n : ℕ)
    → (good_records kinds ws n ≡ true → Unbroken kinds ws n) × (Unbroken kinds ws n → good_records kinds ws n ≡ true)
