-- What `oof_first_bad_word` leaves, of a table's words: two words, the first item with a word that breaks a rule and its first such word, or,
-- where there is none, what stood there. So they name a word only where the result is 1. Assumes nothing.
use Rattle.std.specs.Prelude.{ℕ, List, [], ◌∷◌, Result, Ok, Err, ⊤}
use Rattle.style_record.specs.Check.{checked}
use Rattle.style_record.specs.declared.check.BadWord.{BadWord}
use Rattle.oof_c_words.specs.StateWords.{count_word}

-- 1 if there is such a word, or 0, and the two words
pub record CheckReturned : Type 0 where
  pub result : ℕ
  pub found : List ℕ

-- which item of the table, then which word of it, each from 0
unfoldable pub check_told : Result ⊤ BadWord → List ℕ → CheckReturned
check_told (Ok _) before = record { result = 0; found = before }
check_told (Err bad) before = record { result = 1; found = count_word bad.item ∷ count_word bad.word ∷ [] }

-- of a table of styles, and the two words as they came
unfoldable pub check_in_words : List ℕ → List ℕ → CheckReturned
check_in_words styles before = check_told (checked styles) before

-- what the entry returns, and the two words
abbrev pub check_returned : ℕ → List ℕ → CheckReturned
check_returned result found = record { result = result; found = found }
