-- Refusal 3: which word of which item breaks a rule, and which is the first (document 01, "Tags"; table of refusals; request #105). Whole words are
-- compared: 257 is no tag 1. Assumes nothing.
use Rattle.std.specs.Prelude.{ℕ, zero, suc, ◌+◌, ◌-◌, Bool, false, cond, not, List, eqb, ltb, Option, None, Some, Result, Ok, Err, ⊤}
use Rattle.style.specs.Resolve.{takes}
use Rattle.style_record.specs.Record.{Kind, tag, number, up_to, ratio, keyword, safety, contain, kind_of, style_words, item, items}
use Rattle.style_record.specs.declared.check.BadWord.{BadWord}

-- a safety above 2, unless its keyword is absent
unfoldable pub safety_breaks : ℕ → ℕ → Bool
safety_breaks k w = cond (eqb k 10) false (ltb 2 w)

-- whether a word of a kind breaks its rule, after the word before it
unfoldable pub breaks_as : Kind → ℕ → ℕ → Bool
breaks_as (tag f) before w = not (takes f w)
breaks_as number before w = false
breaks_as (up_to last) before w = ltb last w
breaks_as ratio before w = false
breaks_as keyword before w = ltb 10 w
breaks_as safety before w = safety_breaks before w
breaks_as contain before w = ltb 255 w

-- whether word k of a record breaks a rule
unfoldable pub breaks_rule : (ℕ → ℕ) → ℕ → Bool
breaks_rule r k = breaks_as (kind_of k) (r (k - 1)) (r k)

-- whether word k of item i of a table breaks a rule
unfoldable pub breaks : List ℕ → ℕ → ℕ → Bool
breaks s i k = breaks_rule (item s i) k

-- the first of the n words of a record from word k on that breaks a rule, if one does
unfoldable pub first_from : (ℕ → ℕ) → ℕ → ℕ → Option ℕ
first_from r zero k = None
first_from r (suc n) k = cond (breaks_rule r k) (Some k) (first_from r n (k + 1))

-- the first of an item's words that breaks a rule
unfoldable pub first_broken : List ℕ → ℕ → Option ℕ
first_broken s i = first_from (item s i) style_words 0

-- word k of item i is the first of a table that breaks a rule
abbrev pub bad_at : ℕ → ℕ → Result ⊤ BadWord
bad_at i k = Err (record { item = i; word = k })

-- what an item's check finds, or else what the rest's does
unfoldable pub or_rest : ℕ → Option ℕ → Result ⊤ BadWord → Result ⊤ BadWord
or_rest i None rest = rest
or_rest i (Some k) rest = bad_at i k

-- the first of the n items from item i on with a word that breaks a rule, and its first such word
unfoldable pub checked_from : List ℕ → ℕ → ℕ → Result ⊤ BadWord
checked_from s zero i = Ok tt
checked_from s (suc n) i = or_rest i (first_broken s i) (checked_from s n (i + 1))

-- the whole records of a table; a trailing part of one is not looked at
unfoldable pub checked : List ℕ → Result ⊤ BadWord
checked s = checked_from s (items s) 0
