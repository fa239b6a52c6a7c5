-- The style record, word by word (document 01, "Style", with three words a length after request #105): 22 lengths, then 13 words. Assumes nothing.
use Rattle.std.specs.Prelude.{ℕ, ◌+◌, ◌*◌, ◌-◌, ◌/◌, ◌%◌, cond, List, [], ◌∷◌, ltb, get_or, length}
use Rattle.style.specs.declared.resolve.Field.{Field}
use Rattle.style.specs.declared.resolve.Field.TheVariants as field

-- ---- widths

-- a length: tag, value, second value
abbrev pub length_words : ℕ
length_words = 3

-- inset, margin, padding, border: left, right, top, bottom each; then size, min, max: width, height each
abbrev pub lengths : ℕ
lengths = 22

-- the words after the lengths, and where they start
abbrev pub code_words : ℕ
code_words = 13

abbrev pub after_lengths : ℕ
after_lengths = length_words * lengths

-- an item's words: 79
abbrev pub style_words : ℕ
style_words = after_lengths + code_words

-- ---- where its words stand

-- the first word of a length, counted from 0: its tag
abbrev pub tag_word : ℕ → ℕ
tag_word l = length_words * l

abbrev pub ratio_present_word : ℕ
ratio_present_word = after_lengths

abbrev pub ratio_word : ℕ
ratio_word = after_lengths + 1

abbrev pub box_sizing_word : ℕ
box_sizing_word = after_lengths + 2

abbrev pub flags_word : ℕ
flags_word = after_lengths + 3

abbrev pub direction_word : ℕ
direction_word = after_lengths + 4

-- a keyword; its safety stands behind it
abbrev pub justify_word : ℕ
justify_word = after_lengths + 5

abbrev pub align_word : ℕ
align_word = after_lengths + 7

abbrev pub overflow_x_word : ℕ
overflow_x_word = after_lengths + 9

abbrev pub overflow_y_word : ℕ
overflow_y_word = after_lengths + 10

abbrev pub scrollbar_word : ℕ
scrollbar_word = after_lengths + 11

abbrev pub contain_word : ℕ
contain_word = after_lengths + 12

-- ---- what a word is

pub data Kind : Type 0 where
  -- a tag that the field takes
  tag : Field → Kind
  -- a float by its bits
  number : Kind
  -- a code from 0 to the given one
  up_to : ℕ → Kind
  -- the ratio: a float, read where the word before it is not 0
  ratio : Kind
  -- an alignment keyword, 0 to 10, of which 10 is absent
  keyword : Kind
  -- its safety, 0 to 2: ignored where the keyword, the word before it, is absent
  safety : Kind
  -- containment, 0 to 255, of which the two low bits are read
  contain : Kind

-- the field of a length: eight of insets and margins, eight of padding and borders, two of the size, then min and max
unfoldable pub length_field : ℕ → Field
length_field l = cond (ltb l 8) field.InsetOrMargin (cond (ltb l 16) field.PaddingOrBorder (cond (ltb l 18) field.Size field.MinOrMax))

-- the words of a length
unfoldable pub length_kinds : Field → List Kind
length_kinds f = tag f ∷ number ∷ number ∷ []

-- the words after the lengths
unfoldable pub code_kinds : List Kind
code_kinds =
    -- ratio present, ratio
    up_to 1 ∷ ratio
    -- box sizing, flags (two bits), direction
    ∷ up_to 1
    ∷ up_to 3
    ∷ up_to 1
    -- justify, align
    ∷ keyword
    ∷ safety
    ∷ keyword
    ∷ safety
    -- overflow x, overflow y
    ∷ up_to 3
    ∷ up_to 3
    -- scrollbar width, contain
    ∷ number
    ∷ contain
    ∷ []

-- word k of a record
unfoldable pub kind_of : ℕ → Kind
kind_of k =
    cond (ltb k after_lengths) (get_or (length_kinds (length_field (k / length_words))) (k % length_words) number)
    (get_or code_kinds (k - after_lengths) number)

-- ---- a record in a table

-- a record by its words: word k of the one that starts at a place of the table
abbrev pub words_from : List ℕ → ℕ → ℕ → ℕ
words_from s at k = get_or s (at + k) 0

-- the record of an item
abbrev pub item : List ℕ → ℕ → ℕ → ℕ
item s i = words_from s (style_words * i)

-- how many whole records a table holds
unfoldable pub items : List ℕ → ℕ
items s = length s / style_words
