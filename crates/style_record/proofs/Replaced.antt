-- A table in which one style is replaced, read record by record. Assumes nothing.
use Prim.Native.Nat.{ℕ, ◌+◌, ◌*◌, ◌/◌, ◌<◌, ◌≤◌}
use mathlib.Core.Path.{◌≡◌, refl, sym, ap, ◌∙◌}
use mathlib.Core.List.{List, []}
use native.Mathlib.Omega.{arith}
use lib.ListN.{length, get_or}
use Rattle.std.specs.Prelude.{◌≢◌, Option, None, Some}
use Rattle.records.specs.Records.{record_at}
use Rattle.std.proofs.lemmas.List.{take_all}
use Rattle.records.proofs.Laws.{length_records, record_of_records, written_length, record_back, others_kept}
use Rattle.style_record.specs.Record.{style_words, items}
use Rattle.style_record.specs.Table.{OneRecord, IsTable, styles_of}
use Rattle.style_record.specs.declared.table.Replacement.{Replacement}

-- one record is its own first
pub one_record : (style : List ℕ) → length style ≡ style_words → record_at style_words style 0 ≡ style
unfolding record_at
one_record style one = take_all style_words style (omega (arith, one))

module _ (styles : List ℕ) where
  copy_length : (by : Option Replacement) → length (styles_of styles by) ≡ length styles
  copy_length None = refl
  copy_length (Some by) = written_length styles (style_words * by.node) by.style.now

  -- the words that contracts see are as many as those lent
  pub as_long : (by : Option Replacement) {table : List ℕ} → styles_of styles by ≡ table → length styles ≡ length table
  as_long by view = sym (copy_length by) ∙ ap length view

  -- so are its records
  pub as_many : (by : Option Replacement) {whole : List (List ℕ)} {table : List ℕ} → IsTable styles whole by → styles_of styles by ≡ table
      → length whole ≡ items table
  unfolding items
  as_many by kept view = rw (kept.0, ← as_long by view) (length_records style_words (length styles / style_words) styles)

  -- an item that is there, in words and as a record
  pub room : (by : Option Replacement) (item : ℕ) {table : List ℕ} → styles_of styles by ≡ table
      → style_words * item + style_words ≤ length table
      → style_words * item + style_words ≤ length styles
  room by item view h = rw (as_long by view) h

  pub there : (by : Option Replacement) (item : ℕ) {whole : List (List ℕ)} {table : List ℕ} → IsTable styles whole by → styles_of styles by ≡ table
      → style_words * item + style_words ≤ length table
      → item < length whole
  unfolding items
  there by item {table = table} kept view h =
      let many = as_many by kept view in
      omega (arith, many, h)

  -- a record of the words lent is read there
  pub own : (by : Option Replacement) (item : ℕ) {whole : List (List ℕ)} {table : List ℕ} → IsTable styles whole by → styles_of styles by ≡ table
      → style_words * item + style_words ≤ length table
      → get_or whole item [] ≡ record_at style_words styles item
  unfolding items
  own by item {table = table} kept view h =
      let here : item < length styles / style_words = (let l = there by item kept view h in let m = as_many by kept view in rw (as_long by view) (omega (arith, l, m))) in
      ap (λ (rs : List (List ℕ)). get_or rs item []) kept.0 ∙ record_of_records style_words (length styles / style_words) styles item here

  -- the replacement is the record of its node
  pub replaced : (by : Option Replacement) (r : Replacement) (item : ℕ) {table : List ℕ} → OneRecord by → styles_of styles by ≡ table
      → by ≡ Some r
      → r.node ≡ item
      → style_words * item + style_words ≤ length table
      → r.style.now ≡ record_at style_words table item
  replaced by r item one view e here room =
      let is_one : length r.style.now ≡ style_words = (rw e at one) in
      let there : style_words * r.node + style_words ≤ length styles = (rw (as_long by view, here) room) in
      rw (← view, e, ← here) (sym (record_back style_words r.node styles r.style.now is_one there))

  -- any other record is the one lent
  pub as_lent : (by : Option Replacement) (r : Replacement) (item : ℕ) {table : List ℕ} → OneRecord by → styles_of styles by ≡ table
      → by ≡ Some r
      → r.node ≢ item
      → record_at style_words styles item ≡ record_at style_words table item
  as_lent by r item one view e other =
      let is_one : length r.style.now ≡ style_words = (rw e at one) in
      rw (← view, e) (sym (others_kept style_words r.node item styles r.style.now is_one (λ i. other (sym i))))
