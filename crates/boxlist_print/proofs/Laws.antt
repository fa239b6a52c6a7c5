-- Proofs of the statements of `specs/Laws.antt`. Assumes nothing.
use Prim.Native.Nat.{ℕ, ◌+◌, ◌<◌, ◌≤◌}
use native.Mathlib.Omega.{arith}
use mathlib.Core.Path.{◌≡◌, refl, sym, ap, ◌∙◌}
use mathlib.Core.Bool.{Bool, true, false, cond}
use mathlib.Core.List.{List}
use lib.Dec.{leb, lit≤}
use lib.ListN.{length, take}
use lib.Seq.{length-sets, length-take-le, take_all}
use borrow.Author.Tests.{leb-true, leb-false}
use Rattle.std.specs.Prelude.{Result, Ok, Err, Float}
use Rattle.refusal.specs.declared.Refusal.{Refusal}
use Rattle.refusal.specs.declared.Refusal.TheVariants.{BadScreenLine}
use Rattle.refusal.specs.Refusal.{number_of}
use Rattle.boxlist_lines.specs.Lines.{refusal_text}
use Rattle.boxlist_lines.proofs.Laws.{list_bytes, refusal_bytes}
use Rattle.screen_fields.specs.Format.{MAX_CANDIDATES, MAX_BYTES}
use Rattle.screen.specs.Screen.{is_screen, item_count, header_of, styles_of, replies_of, candidates_of}
use Rattle.screen.proofs.Laws.{screen_size}
use Rattle.run.specs.declared.Opening.{Opening}
use Rattle.run.specs.declared.Answer.{Answer}
use Rattle.run.specs.declared.Answer.TheVariants.{Ask, Finish}
use Rattle.run.specs.declared.State.{State}
use Rattle.run.specs.Call.{Slices, Outcome}
use Rattle.script.specs.Script.{played_out}
use Rattle.geometry.specs.declared.Rect.{Rect}
use Rattle.boxlist_print.specs.declared.Listing.{Listing}
use Rattle.boxlist_print.specs.declared.Listing.TheVariants.{Boxes, Verdicts}
use Rattle.boxlist_print.specs.Rows.{Prints}
use Rattle.boxlist_print.specs.Printed.{LIST_BYTES, finished_text, list_by, list_of, list_from, lent_for, opening_of, printed}
use Rattle.boxlist_print.specs.Laws.{PrintedFits, LongIsRefused, CutIsEnough}
use Rattle.boxlist_print.proofs.Boxes.{rows_count}
use Rattle.boxlist_print.proofs.Each.{verdicts_bytes}
use Rattle.boxlist_print.proofs.Room.{room_kept}

-- ---- how long

-- the boxes of a screen's run are no more than its lists hold
few_rows : (o : Opening) (replies candidates styles : List ℕ) (n : ℕ)
    → (played_out o replies candidates (lent_for styles n)).step.state.counts.filled.working ≤ MAX_CANDIDATES
few_rows o replies candidates styles n = room_kept o replies candidates (lent_for styles n)

finished_fits : (listing : Listing) (s : State) (overflow : Rect Float) (lent : Slices) → s.counts.filled.working ≤ MAX_CANDIDATES
    → length (finished_text listing s overflow lent) ≤ LIST_BYTES
finished_fits Boxes s overflow lent h = rw (list_bytes, rows_count) (omega arith)
finished_fits Verdicts s overflow lent h = rw (verdicts_bytes s lent) (omega arith)

list_fits : (listing : Listing) (styles : List ℕ) (o : Outcome) → o.step.state.counts.filled.working ≤ MAX_CANDIDATES
    → length (list_of listing styles o) ≤ LIST_BYTES
unfolding list_of
list_fits listing styles o h = go o.step.answer
  where
    go : (a : Result Answer Refusal) → length (list_by listing styles a o) ≤ LIST_BYTES
    go (Ok (Ask q)) = lit≤ tt
    go (Ok (Finish f)) = finished_fits listing o.step.state f.overflow _ h
    go (Err r) = rw (refusal_bytes (number_of r)) (lit≤ tt)

pub printed_fits : PrintedFits
unfolding printed
printed_fits listing text = go (is_screen text)
  where
    go : (b : Bool)
        → length (cond b (list_from listing (header_of text) (styles_of text) (item_count text) (replies_of text) (candidates_of text)) (refusal_text (number_of BadScreenLine)))
        ≤ LIST_BYTES
    go true = list_fits listing (styles_of text) _ (few_rows (opening_of (header_of text)) (replies_of text) (candidates_of text) (styles_of text) (item_count text))
    go false = rw (refusal_bytes (number_of BadScreenLine)) (lit≤ tt)

-- so the printed part of a buffer is there
pub printed_there : (listing : Listing) (text before after : List ℕ) (r : ℕ) → LIST_BYTES ≤ length before → Prints r before after (printed listing text)
    → r ≤ length after
printed_there listing text before after r h p =
    let k = printed_fits listing text in rw (p.size, p.bytes, length-sets before 0 (printed listing text)) (omega arith)

-- ---- a text that is too long

pub long_is_refused : LongIsRefused
unfolding printed
long_is_refused listing text h = go (is_screen text) refl
  where
    too_long : (n : ℕ) → MAX_BYTES < n → n ≤ MAX_BYTES → ⊥
    too_long n h k = omega arith

    go : (b : Bool) → is_screen text ≡ b
        → cond b (list_from listing (header_of text) (styles_of text) (item_count text) (replies_of text) (candidates_of text)) (refusal_text (number_of BadScreenLine))
        ≡ refusal_text 8
    go true e = absurd (too_long (length text) h (screen_size text e).3)
    go false e = refl

pub cut_is_enough : CutIsEnough
cut_is_enough listing text = go (leb (length text) (MAX_BYTES + 1)) refl
  where
    long : (n : ℕ) → (MAX_BYTES + 1) < n → MAX_BYTES < n
    long n h = omega arith

    cut : (MAX_BYTES + 1) < length text → MAX_BYTES < length (take (MAX_BYTES + 1) text)
    cut h = rw (length-take-le (MAX_BYTES + 1) text (omega arith)) (omega arith)

    go : (b : Bool) → leb (length text) (MAX_BYTES + 1) ≡ b → printed listing (take (MAX_BYTES + 1) text) ≡ printed listing text
    go true e = ap (printed listing) (take_all (MAX_BYTES + 1) text (leb-true (length text) (MAX_BYTES + 1) e))
    go false e =
        let h = leb-false (length text) (MAX_BYTES + 1) e in
        long_is_refused listing (take (MAX_BYTES + 1) text) (cut h) ∙ sym (long_is_refused listing text (long (length text) h))
