-- From a text to what is printed. Assumes nothing.
use Prim.Native.Nat.{ℕ, ◌+◌, ◌*◌, ◌≤◌}
use native.Mathlib.Nat.{zero-add, mul-le-mul_right}
use mathlib.Core.Path.{◌≡◌, refl, ap, ◌∙◌, subst}
use mathlib.Core.Bool.{false}
use mathlib.Core.List.{List}
use lib.ListN.{length, take, drop, replicate, length-replicate}
use lib.Seq.{sets, sets-eq, take_at}
use Rattle.std.proofs.lemmas.List.{take-replicate}
use Rattle.refusal.specs.Refusal.{number_of}
use Rattle.refusal.specs.declared.Refusal.TheVariants.{BadScreenLine}
use Rattle.boxlist_lines.specs.Lines.{refusal_text}
use Rattle.screen_fields.specs.Format.{first_fields, MAX_ITEMS, MAX_CANDIDATES, reply_width}
use Rattle.screen.specs.Screen.{is_screen, item_count, candidate_count, header_of, styles_of, replies_of, candidates_of, written}
use Rattle.screen.specs.declared.LineCounts.{LineCounts}
use Rattle.screen.proofs.Lines.{words_length, sets_all}
use Rattle.screen.proofs.Laws.{screen_words}
use Rattle.screen.proofs.Whole.{Told}
use Rattle.style_record.specs.Record.{style_words}
use Rattle.tree_record.specs.Candidate.{candidate_width}
use Rattle.tree_record.specs.Layout.{layout_width}
use Rattle.boxlist_print.specs.declared.Listing.{Listing}
use Rattle.boxlist_print.specs.Rows.{Prints}
use Rattle.boxlist_print.specs.Printed.{list_from, printed}

pub zero_layouts : (n : ℕ) → n ≤ MAX_ITEMS → take {A = ℕ} (n * layout_width) (replicate (MAX_ITEMS * layout_width) 0) ≡ replicate (n * layout_width) 0
zero_layouts n h = take-replicate (n * layout_width) (MAX_ITEMS * layout_width) 0 (mul-le-mul_right layout_width h)

pub zero_tally : (n : ℕ) → n ≤ MAX_ITEMS → take {A = ℕ} n (replicate MAX_ITEMS 0) ≡ replicate n 0
zero_tally n h = take-replicate n MAX_ITEMS 0 h

-- what was written over the front of zeros is read back there
front : (vs : List ℕ) (n k : ℕ) → length vs ≡ k → k ≤ n → take {A = ℕ} k (sets (replicate n 0) 0 vs) ≡ vs
front vs n k e h =
    ap (take k) (sets-eq vs (replicate n 0) 0 (rw (zero-add, e, length-replicate {A = ℕ} n 0) h)) ∙ take_at vs (drop (0 + length vs) (replicate n 0)) k e

-- the header fills its words
header_length : (text : List ℕ) → length (header_of text) ≡ 10
unfolding header_of first_fields
header_length text = words_length first_fields text

module _ (listing : Listing) (text : List ℕ) {r : ℕ} {before after : List ℕ} where
  pub printed_bad : is_screen text ≡ false → Prints r before after (refusal_text (number_of BadScreenLine)) → Prints r before after (printed listing text)
  unfolding printed
  printed_bad e p = rw e p

  pub printed_read : (counts : LineCounts) → Told text counts → (header styles replies candidates : List ℕ)
      → header ≡ written (is_screen text) (replicate 10 0) (header_of text)
      → styles ≡ written (is_screen text) (replicate (MAX_ITEMS * style_words) 0) (styles_of text)
      → replies ≡ written (is_screen text) (replicate (MAX_ITEMS * reply_width) 0) (replies_of text)
      → candidates ≡ written (is_screen text) (replicate (MAX_CANDIDATES * candidate_width) 0) (candidates_of text)
      → Prints r before after (list_from listing header (take (counts.items * style_words) styles) counts.items (take (counts.items * reply_width) replies) (take (counts.candidates * candidate_width) candidates))
      → Prints r before after (printed listing text)
  unfolding printed written
  printed_read counts t header styles replies candidates h s q c p =
      rw t.good
      (rw (← items_told)
      (subst (λ (x : List ℕ). Prints r before after (list_from listing x (styles_of text) counts.items (replies_of text) (candidates_of text))) header_read
      (subst (λ (x : List ℕ). Prints r before after (list_from listing header x counts.items (replies_of text) (candidates_of text))) styles_read
      (subst (λ (x : List ℕ). Prints r before after (list_from listing header (take (counts.items * style_words) styles) counts.items x (candidates_of text))) replies_read
      (subst (λ (x : List ℕ). Prints r before after (list_from listing header (take (counts.items * style_words) styles) counts.items (take (counts.items * reply_width) replies) x)) candidates_read p)))))
    where
      items_told : counts.items ≡ item_count text
      items_told = ap (λ (c : LineCounts). c.items) t.counted

      candidates_told : counts.candidates ≡ candidate_count text
      candidates_told = ap (λ (c : LineCounts). c.candidates) t.counted

      header_read : header ≡ header_of text
      header_read = h ∙ rw t.good (sets_all (replicate 10 0) (header_of text) (header_length text))

      styles_read : take (counts.items * style_words) styles ≡ styles_of text
      styles_read =
          ap (take (counts.items * style_words)) (s ∙ rw t.good refl)
          ∙ front (styles_of text) (MAX_ITEMS * style_words) (counts.items * style_words) ((screen_words text).0 ∙ rw items_told refl) (mul-le-mul_right style_words t.few_items)

      replies_read : take (counts.items * reply_width) replies ≡ replies_of text
      replies_read =
          ap (take (counts.items * reply_width)) (q ∙ rw t.good refl)
          ∙ front (replies_of text) (MAX_ITEMS * reply_width) (counts.items * reply_width) ((screen_words text).1 ∙ rw items_told refl) (mul-le-mul_right reply_width t.few_items)

      candidates_read : take (counts.candidates * candidate_width) candidates ≡ candidates_of text
      candidates_read =
          ap (take (counts.candidates * candidate_width)) (c ∙ rw t.good refl)
          ∙ front (candidates_of text) (MAX_CANDIDATES * candidate_width) (counts.candidates * candidate_width) ((screen_words text).2 ∙ rw candidates_told refl) (mul-le-mul_right candidate_width t.few_candidates)
