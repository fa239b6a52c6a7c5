-- Proofs of the statements of `specs/Laws.antt`. Assumes nothing.
use Prim.Native.Nat.{ℕ}
use native.Mathlib.Omega.{arith}
use mathlib.Core.Path.{◌≡◌, refl}
use mathlib.Core.List.{List}
use Rattle.screen_fields.specs.declared.format.Line.TheVariants.{Item, Candidate}
use Rattle.screen_fields.specs.Format.{style_fields, reply_fields, candidate_fields}
use Rattle.screen.specs.declared.ScreenLists.{ScreenLists}
use Rattle.screen.specs.Screen.{item_count, candidate_count, answer_of, styles_of, replies_of, candidates_of, written}
use Rattle.screen.specs.Laws.{BytesInNumbers, ScreenSize, ScreenWords, RefusalWritesNothing}
use Rattle.screen.proofs.Lines.{rows_length}
use Rattle.screen.proofs.Whole.{screen_told}

-- ---- a screen

pub bytes_in_numbers : BytesInNumbers
bytes_in_numbers = (refl, refl, refl, refl)

pub screen_size : ScreenSize
screen_size text e =
    let t = screen_told text _ refl e in
    let b = t.bytes in
    let i = t.few_items in
    let c = t.few_candidates in
    (b, i, c, omega arith)

pub screen_words : ScreenWords
unfolding styles_of replies_of candidates_of style_fields reply_fields candidate_fields
screen_words text =
    (rows_length style_fields Item (item_count text) _, rows_length reply_fields Item (item_count text) _, rows_length candidate_fields Candidate (candidate_count text) _)

pub refusal_writes_nothing : RefusalWritesNothing
unfolding answer_of written
refusal_writes_nothing text r before after e x =
    (rw e at x.answer, same _ _ _ _ _ _ _ _ (rw e at x.header) (rw e at x.styles) (rw e at x.replies) (rw e at x.candidates))
  where
    lists : (header styles replies candidates : List ℕ) → ScreenLists
    lists header styles replies candidates = record { header = header; styles = styles; replies = replies; candidates = candidates }

    same : (h h' s s' r r' c c' : List ℕ) → h ≡ h' → s ≡ s' → r ≡ r' → c ≡ c' → lists h s r c ≡ lists h' s' r' c'
    same h h' s s' r r' c c' e f g i = rw (e, f, g, i) refl
