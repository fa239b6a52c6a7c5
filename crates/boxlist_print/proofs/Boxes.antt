-- Rows, word by word and one after another. Assumes nothing.
use Rattle.std.specs.Prelude.{Float}
use Prim.Native.Nat.{ℕ, zero, suc, ◌+◌, ◌-◌, ◌*◌, ◌<◌, ◌≤◌}
use native.Mathlib.Omega.{arith}
use native.Mathlib.Nat.{add-zero}
use mathlib.Core.Path.{◌≡◌, refl, sym, ap, ◌∙◌}
use mathlib.Core.List.{List, [], ◌∷◌, ◌++◌}
use lib.ListN.{length, get_or, take, drop, length-append}
use lib.Seq.{sets, drop-drop, get_or-take, get_or-drop}
use lib.Ieee.{of_bits, binary32}
use lib.Dec.{lit<}
use Rattle.geometry.specs.declared.Rect.{Rect}
use Rattle.boxlist_lines.specs.Lines.{ROW, OVERFLOW, header_text, row_text, rows_text, overflow_text, list_text}
use Rattle.boxlist_lines.proofs.Stores.{part_then}
use Rattle.boxlist_lines.proofs.Laws.{header_bytes, row_bytes, rows_bytes, list_bytes}
use Rattle.records.specs.Records.{record_at, records}
use Rattle.records.proofs.Laws.{word_of_record}
use Rattle.tree_record.specs.Candidate.{candidate_width, candidate_of}
use Rattle.tree_record.specs.Layout.{layout_width, rect_of, layout_of}
use Rattle.sweep.specs.Sweep.{first_candidates}
use Rattle.boxlist_print.specs.Rows.{row_of, rows_at}

pub row_words : (layouts : List ℕ) (node : ℕ)
    → row_of layouts node
    ≡ record {
      node = node;
      location = record { x = of_bits binary32 (get_or layouts (layout_width * node + 9) 0); y = of_bits binary32 (get_or layouts (layout_width * node + 10) 0) };
      size = record { width = of_bits binary32 (get_or layouts (layout_width * node + 1) 0); height = of_bits binary32 (get_or layouts (layout_width * node + 2) 0) };
      margin =
          record {
            left = of_bits binary32 (get_or layouts (layout_width * node + 19) 0);
            right = of_bits binary32 (get_or layouts (layout_width * node + 20) 0);
            top = of_bits binary32 (get_or layouts (layout_width * node + 21) 0);
            bottom = of_bits binary32 (get_or layouts (layout_width * node + 22) 0);
          };
    }
unfolding row_of layout_of rect_of
row_words layouts node =
    rw (at 9 (lit< tt), at 10 (lit< tt), at 1 (lit< tt), at 2 (lit< tt), at 19 (lit< tt), at 20 (lit< tt), at 21 (lit< tt), at 22 (lit< tt)) refl
  where
    at : (k : ℕ) → k < layout_width → get_or (record_at layout_width layouts node) k 0 ≡ get_or layouts (layout_width * node + k) 0
    at k h = word_of_record layout_width layouts node k h

-- ---- one row after another

-- the node of the record that begins at a word
node_at : (ws : List ℕ) (w : ℕ) → (candidate_of (take candidate_width (drop w ws))).node ≡ get_or ws w 0
unfolding candidate_of
node_at ws w = get_or-take candidate_width (drop w ws) 0 0 (lit< tt) ∙ get_or-drop w ws 0 0 ∙ ap (λ (k : ℕ). get_or ws k 0) (add-zero w)

module _ (working layouts : List ℕ) (i n : ℕ) where
  pub rows_none : n ≤ i → rows_text (rows_at (drop (candidate_width * i) working) (n - i) layouts) ≡ []
  unfolding rows_text rows_at first_candidates records
  rows_none h = rw (done i n h) refl
    where
      done : (i n : ℕ) → n ≤ i → n - i ≡ 0
      done i n h = omega arith

  rows_more : i < n
      → rows_at (drop (candidate_width * i) working) (n - i) layouts
      ≡ row_of layouts (get_or working (candidate_width * i) 0) ∷ rows_at (drop (candidate_width * (i + 1)) working) (n - (i + 1)) layouts
  unfolding rows_at first_candidates records
  rows_more h = rw (turn i n h, node_at working (candidate_width * i), drop-drop candidate_width (candidate_width * i) working, next i) refl
    where
      turn : (i n : ℕ) → i < n → n - i ≡ suc (n - (i + 1))
      turn i n h = omega arith

      next : (i : ℕ) → candidate_width * i + candidate_width ≡ candidate_width * (i + 1)
      next i = omega arith

  pub rows_stored : i < n → (out : List ℕ) (at : ℕ)
      → sets out (at + i * ROW) (rows_text (rows_at (drop (candidate_width * i) working) (n - i) layouts))
      ≡ sets (sets out (at + i * ROW) (row_text (row_of layouts (get_or working (candidate_width * i) 0)))) (at + (i + 1) * ROW) (rows_text (rows_at (drop (candidate_width * (i + 1)) working) (n - (i + 1)) layouts))
  unfolding rows_text
  rows_stored h out at =
      rw (rows_more h)
      (part_then ROW (row_text (row_of layouts (get_or working (candidate_width * i) 0))) _ out (at + i * ROW) (at + (i + 1) * ROW) (row_bytes (row_of layouts (get_or working (candidate_width * i) 0))) (omega arith))

-- ---- the whole list

pub rows_count : (working : List ℕ) (n : ℕ) (layouts : List ℕ) → length (rows_at working n layouts) ≡ n
unfolding rows_at first_candidates records
rows_count working zero layouts = refl
rows_count working (suc n) layouts = ap suc (rows_count (drop candidate_width working) n layouts)

module _ (working : List ℕ) (n : ℕ) (layouts : List ℕ) (overflow : Rect Float) where
  pub list_size : ROW + n * ROW + OVERFLOW ≡ length (list_text (rows_at working n layouts) overflow)
  list_size = sym (list_bytes (rows_at working n layouts) overflow ∙ rw (rows_count working n layouts) (omega arith))

  pub list_stored : (out : List ℕ)
      → sets (sets (sets out 0 header_text) ROW (rows_text (rows_at working n layouts))) (ROW + n * ROW) (overflow_text overflow)
      ≡ sets out 0 (list_text (rows_at working n layouts) overflow)
  unfolding list_text
  list_stored out =
      sym
      (part_then (ROW + n * ROW) (header_text ++ rows_text (rows_at working n layouts)) (overflow_text overflow) out 0 (ROW + n * ROW) long (zero_add_sym (ROW + n * ROW))
      ∙ ap (λ (l : List ℕ). sets l (ROW + n * ROW) (overflow_text overflow)) (part_then ROW header_text (rows_text (rows_at working n layouts)) out 0 ROW header_bytes refl))
    where
      long : length (header_text ++ rows_text (rows_at working n layouts)) ≡ ROW + n * ROW
      long = length-append header_text (rows_text (rows_at working n layouts)) ∙ rw (header_bytes, rows_bytes (rows_at working n layouts), rows_count working n layouts) refl

      zero_add_sym : (k : ℕ) → k ≡ 0 + k
      zero_add_sym k = omega arith
