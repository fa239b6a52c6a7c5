-- Rows worked out by hand; `proofs/Computed.antt` computes each. Items and an item's words are numbered from 0. Assumes nothing.
use Rattle.std.specs.Prelude.{ℕ, zero, suc, List, [], ◌∷◌, ◌++◌, ◌≡◌, replicate, set, take, Ok}
use Rattle.style_record.specs.Check.{bad_at, checked}

-- so many lengths with a tag, their values 0
abbrev tagged : ℕ → ℕ → List ℕ
tagged t zero = []
tagged t (suc n) = t ∷ 0 ∷ 0 ∷ tagged t n

-- an item of which no word breaks a rule: 22 lengths of 0 pixels, then zeros
abbrev plain : List ℕ
plain = tagged 1 22 ++ replicate 13 0

-- a table with another word k
abbrev put : ℕ → ℕ → List ℕ → List ℕ
put k w s = set s k w

-- a NaN, as a word
abbrev nan : ℕ
nan = 0x7FC0_0000

-- ---- lengths: words 0 to 65

abbrev pub TagRows : Type 0
TagRows =
    (checked plain ≡ Ok tt)
    -- tag 2 is no field's; 257 is no tag 1
    × (checked (put 0 2 plain) ≡ bad_at 0 0)
    × (checked (put 6 257 plain) ≡ bad_at 0 6)
    -- auto: in insets and margins, not in padding or border
    × (checked (put 0 3 (put 9 3 (put 12 3 (put 21 3 plain)))) ≡ Ok tt)
    × (checked (put 24 3 plain) ≡ bad_at 0 24)
    × (checked (put 33 3 plain) ≡ bad_at 0 33)
    × (checked (put 36 3 plain) ≡ bad_at 0 36)
    × (checked (put 45 3 plain) ≡ bad_at 0 45)
    -- percent: everywhere
    × (checked (put 0 5 (put 12 5 (put 24 5 (put 36 5 plain)))) ≡ Ok tt)
    -- min-content: in the size, min and max, not in the others
    × (checked (put 0 11 plain) ≡ bad_at 0 0)
    × (checked (put 21 11 plain) ≡ bad_at 0 21)
    × (checked (put 24 11 plain) ≡ bad_at 0 24)
    × (checked (put 45 11 plain) ≡ bad_at 0 45)
    × (checked (put 48 11 (put 51 11 (put 54 11 (put 57 11 (put 60 11 (put 63 11 plain)))))) ≡ Ok tt)
    -- and so are all other tags, and no others
    × (checked (put 48 3 (put 51 5 (put 54 15 (put 57 27 (put 60 35 (put 63 43 plain)))))) ≡ Ok tt)
    × (checked (put 48 59 (put 51 75 (put 54 59 (put 57 75 (put 60 59 (put 63 75 plain)))))) ≡ Ok tt)
    × (checked (put 48 2 plain) ≡ bad_at 0 48)
    × (checked (put 54 2 plain) ≡ bad_at 0 54)
    -- a value may be any bits, and so may a second value: a wrong tag there is no tag
    × (checked (put 1 nan (put 64 0xFFFF_FFFF plain)) ≡ Ok tt)
    × (checked (put 2 nan (put 65 0xFFFF_FFFF plain)) ≡ Ok tt)
    × (checked (put 1 2 (put 2 2 (put 46 2 (put 47 2 plain)))) ≡ Ok tt)

-- request #105's sums: 129 in every length, the whole word
abbrev pub SumTagRows : Type 0
SumTagRows =
    (checked (tagged 129 22 ++ replicate 13 0) ≡ Ok tt)
    -- 385, whose low byte is 129, is none, nor is a number beside it
    × (checked (put 0 385 plain) ≡ bad_at 0 0)
    × (checked (put 24 385 plain) ≡ bad_at 0 24)
    × (checked (put 48 385 plain) ≡ bad_at 0 48)
    × (checked (put 63 128 plain) ≡ bad_at 0 63)
    × (checked (put 63 130 plain) ≡ bad_at 0 63)
    -- the Rust's own tags (style/compact_length.rs), 4 for a sum and 6 for fit-content of one, are none here
    × (checked (put 0 4 plain) ≡ bad_at 0 0)
    × (checked (put 24 4 plain) ≡ bad_at 0 24)
    × (checked (put 48 4 plain) ≡ bad_at 0 48)
    × (checked (put 48 6 plain) ≡ bad_at 0 48)
    × (checked (put 54 6 plain) ≡ bad_at 0 54)

-- ---- the words after the lengths

abbrev pub CodeRows : Type 0
CodeRows =
    -- ratio present; the ratio is any bits, present or not
    (checked (put 66 2 plain) ≡ bad_at 0 66)
    × (checked (put 66 1 (put 67 nan plain)) ≡ Ok tt)
    × (checked (put 67 0xFFFF_FFFF plain) ≡ Ok tt)
    -- box sizing, flags, direction
    × (checked (put 68 1 (put 69 3 (put 70 1 plain))) ≡ Ok tt)
    × (checked (put 68 2 plain) ≡ bad_at 0 68)
    × (checked (put 69 4 plain) ≡ bad_at 0 69)
    × (checked (put 70 2 plain) ≡ bad_at 0 70)
    -- overflow x, overflow y
    × (checked (put 75 3 (put 76 3 plain)) ≡ Ok tt)
    × (checked (put 75 4 plain) ≡ bad_at 0 75)
    × (checked (put 76 4 plain) ≡ bad_at 0 76)
    -- scrollbar width, contain
    × (checked (put 77 0xFFFF_FFFF plain) ≡ Ok tt)
    × (checked (put 78 255 plain) ≡ Ok tt)
    × (checked (put 78 256 plain) ≡ bad_at 0 78)

-- a keyword and its safety: words 71 and 72, 73 and 74
abbrev pub SafetyRows : Type 0
SafetyRows =
    -- 11 is no keyword's code: it is named, not the safety behind it
    (checked (put 71 11 (put 72 7 plain)) ≡ bad_at 0 71)
    × (checked (put 73 11 plain) ≡ bad_at 0 73)
    -- keyword 10 is absent: its safety is ignored, the other's isn't
    × (checked (put 71 10 (put 72 7 plain)) ≡ Ok tt)
    × (checked (put 73 10 (put 74 7 plain)) ≡ Ok tt)
    × (checked (put 71 10 (put 74 7 plain)) ≡ bad_at 0 74)
    × (checked (put 73 10 (put 72 7 plain)) ≡ bad_at 0 72)
    -- the last safety is 2
    × (checked (put 71 9 (put 72 2 (put 73 9 (put 74 2 plain)))) ≡ Ok tt)
    × (checked (put 71 9 (put 72 3 plain)) ≡ bad_at 0 72)
    × (checked (put 73 9 (put 74 3 plain)) ≡ bad_at 0 74)

-- ---- which word of which item

abbrev pub TableRows : Type 0
TableRows =
    (checked [] ≡ Ok tt)
    -- two words of an item: the first
    × (checked (put 30 2 (put 69 4 plain)) ≡ bad_at 0 30)
    -- a word is numbered within its item: 0, not 79
    × (checked (plain ++ put 0 2 plain) ≡ bad_at 1 0)
    -- the first item, though another's word is nearer to its start
    × (checked (put 78 256 plain ++ put 0 2 plain) ≡ bad_at 0 78)
    -- the last item alone; two items of three
    × (checked (plain ++ plain ++ put 69 4 plain) ≡ bad_at 2 69)
    × (checked (plain ++ put 69 4 plain ++ put 0 2 plain) ≡ bad_at 1 69)
    -- 80 words, the 80th being 2; 78 words; a part behind an item that is bad
    × (checked (plain ++ (2 ∷ [])) ≡ Ok tt)
    × (checked (take 78 (put 0 2 plain)) ≡ Ok tt)
    × (checked (put 66 2 plain ++ (2 ∷ [])) ≡ bad_at 0 66)
