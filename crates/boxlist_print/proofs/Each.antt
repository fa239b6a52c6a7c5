-- The rows of verdicts, one after another. Assumes nothing.
use Prim.Native.Nat.{ℕ, zero, suc, ◌+◌, ◌-◌, ◌*◌, ◌≤◌, ◌<◌}
use native.Mathlib.Omega.{arith}
use mathlib.Core.Path.{◌≡◌, refl, sym, ◌∙◌}
use mathlib.Core.List.{List, [], ◌++◌}
use lib.ListN.{length, get_or, length-append}
use lib.Seq.{sets}
use Rattle.std.specs.Prelude.{Option, Result}
use Rattle.refusal.specs.declared.Refusal.{Refusal}
use Rattle.reach.specs.declared.Offsets.{Offsets}
use Rattle.tree_record.specs.Candidate.{candidate_width}
use Rattle.run.specs.Call.{Slices}
use Rattle.run.specs.declared.State.{State}
use Rattle.finished.proofs.There.{node_is}
use Rattle.reach.specs.Reach.{reached}
use Rattle.boxlist_lines.proofs.Stores.{part_then}
use Rattle.boxreach_lines.specs.Lines.{VERDICT_ROW, verdict_names, verdict_row}
use Rattle.boxreach_lines.proofs.Lines.{names_bytes, row_bytes}
use Rattle.boxlist_print.specs.Verdicts.{verdict_at, verdicts_from, verdicts_text}

module _ (s : State) (lent : Slices) where
  -- a row, as the code has it: its node is the first word of its record
  pub verdict_row_lem : (place node : ℕ) (r : Result (Option Offsets) Refusal) → node ≡ get_or lent.working (candidate_width * place) 0 → r ≡ reached place s lent
      → verdict_row place node r ≡ verdict_at s lent place
  unfolding verdict_at
  verdict_row_lem place node r n e = rw (n ∙ sym (node_is lent.working place), e) refl

  pub verdict_bytes : (place : ℕ) → length (verdict_at s lent place) ≡ VERDICT_ROW
  unfolding verdict_at
  verdict_bytes place = row_bytes place _ _

  pub none_left : (i n : ℕ) → n ≤ i → verdicts_from s lent i (n - i) ≡ []
  unfolding verdicts_from
  none_left i n h = rw (done i n h) refl
    where
      done : (i n : ℕ) → n ≤ i → n - i ≡ 0
      done i n h = omega arith

  one_more : (i n : ℕ) → i < n → verdicts_from s lent i (n - i) ≡ verdict_at s lent i ++ verdicts_from s lent (i + 1) (n - (i + 1))
  unfolding verdicts_from
  one_more i n h = rw (turn i n h, next i) refl
    where
      turn : (i n : ℕ) → i < n → n - i ≡ suc (n - (i + 1))
      turn i n h = omega arith

      next : (i : ℕ) → i + 1 ≡ suc i
      next i = omega arith

  pub row_stored : (i n : ℕ) → i < n → (out : List ℕ) (at : ℕ)
      → sets out (at + i * VERDICT_ROW) (verdicts_from s lent i (n - i))
      ≡ sets (sets out (at + i * VERDICT_ROW) (verdict_at s lent i)) (at + (i + 1) * VERDICT_ROW) (verdicts_from s lent (i + 1) (n - (i + 1)))
  row_stored i n h out at =
      rw (one_more i n h) (part_then VERDICT_ROW (verdict_at s lent i) _ out (at + i * VERDICT_ROW) (at + (i + 1) * VERDICT_ROW) (verdict_bytes i) (omega arith))

  pub rows_length : (i n : ℕ) → length (verdicts_from s lent i n) ≡ n * VERDICT_ROW
  unfolding verdicts_from
  rows_length i zero = refl
  rows_length i (suc n) = length-append (verdict_at s lent i) (verdicts_from s lent (suc i) n) ∙ rw (verdict_bytes i, rows_length (suc i) n) (omega arith)

  -- ---- the whole list

  pub verdicts_bytes : length (verdicts_text s lent) ≡ VERDICT_ROW + s.counts.filled.working * VERDICT_ROW
  unfolding verdicts_text
  verdicts_bytes =
      length-append verdict_names (verdicts_from s lent 0 s.counts.filled.working)
      ∙ rw (names_bytes, rows_length 0 s.counts.filled.working) refl

  pub verdicts_stored : (out : List ℕ)
      → sets (sets out 0 verdict_names) VERDICT_ROW (verdicts_from s lent 0 s.counts.filled.working) ≡ sets out 0 (verdicts_text s lent)
  unfolding verdicts_text
  verdicts_stored out = sym (part_then VERDICT_ROW verdict_names _ out 0 VERDICT_ROW names_bytes refl)
