-- How the code tests a word after the lengths: it breaks its rule where it is above the last code of its kind and isn't ignored. The law
-- `CodesByTheLast` ties this to the rules themselves. Assumes nothing.
use Rattle.std.specs.Prelude.{ℕ, Bool, false, eqb}
use Rattle.style_record.specs.Record.{Kind, tag, number, up_to, ratio, keyword, safety, contain}

-- the last code of a kind. A float may be any word, so its last is the largest of 32 bits; no tag stands after the lengths
unfoldable pub last_code : Kind → ℕ
last_code (tag f) = 4294967295
last_code number = 4294967295
last_code (up_to last) = last
last_code ratio = 4294967295
last_code keyword = 10
last_code safety = 2
last_code contain = 255

-- a safety is ignored where its keyword, the word before it, is absent
unfoldable pub is_ignored : Kind → ℕ → Bool
is_ignored (tag f) before = false
is_ignored number before = false
is_ignored (up_to last) before = false
is_ignored ratio before = false
is_ignored keyword before = false
is_ignored safety before = eqb before 10
is_ignored contain before = false
