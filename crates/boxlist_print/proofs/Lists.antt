-- What a run's answer prints, by cases. Assumes nothing.
use Prim.Native.Nat.{ℕ, ◌/◌, ◌≤◌}
use native.Mathlib.Omega.{arith}
use mathlib.Core.Path.{◌≡◌, refl}
use mathlib.Core.List.{List}
use lib.ListN.{length}
use Rattle.std.specs.Prelude.{Ok, Err}
use Rattle.refusal.specs.declared.Refusal.{Refusal}
use Rattle.refusal.specs.Refusal.{number_of}
use Rattle.boxlist_lines.specs.Lines.{refusal_text}
use Rattle.screen_fields.specs.Format.{MAX_CANDIDATES}
use Rattle.tree_record.specs.Candidate.{candidate_width}
use Rattle.oof_box.specs.declared.question.Question.{Question}
use Rattle.run.specs.declared.Opening.{Opening}
use Rattle.run.specs.declared.Finish.{Finish as FinishOf}
use Rattle.run.specs.declared.Answer.TheVariants.{Ask, Finish}
use Rattle.run.specs.declared.Step.{Step}
use Rattle.run.specs.Call.{Lent, Outcome, slices, outcome}
use Rattle.run.proofs.Call.{left_step, left_layouts, left_working, left_unclaimed}
use Rattle.script.specs.Script.{played_out}
use Rattle.boxlist_print.specs.declared.Listing.{Listing}
use Rattle.boxlist_print.specs.Rows.{Prints}
use Rattle.boxlist_print.specs.Printed.{list_words, finished_text, list_of}
use Rattle.boxlist_print.proofs.Room.{room_kept}

module _ (listing : Listing) (styles : List ℕ) (s : Step) (l w u t : List ℕ) (o : Outcome) (left : outcome s l w u t ≡ o) (before : List ℕ) where
  pub list_asked : {q : Question} → s.answer ≡ Ok (Ask q) → Prints 0 before before (list_of listing styles o)
  unfolding list_of
  list_asked e = rw (← left_step left, e) (record { size = refl; bytes = refl })

  pub list_finished : {f : FinishOf} {r : ℕ} {after : List ℕ} → s.answer ≡ Ok (Finish f)
      → Prints r before after (finished_text listing s.state f.overflow (slices styles l w u))
      → Prints r before after (list_of listing styles o)
  unfolding list_of
  list_finished e p = rw (← left_step left, ← left_layouts left, ← left_working left, ← left_unclaimed left, e) p

  pub list_refused : {x : Refusal} {r : ℕ} {after : List ℕ} → s.answer ≡ Err x
      → Prints r before after (refusal_text (number_of x))
      → Prints r before after (list_of listing styles o)
  unfolding list_of
  list_refused e p = rw (← left_step left, e) p

-- its boxes are no more than its list holds
pub few_boxes : (o : Opening) (replies candidates : List ℕ) (lent : Lent) (s : Step) (l w u t : List ℕ)
    → outcome s l w u t ≡ played_out o replies candidates lent → length lent.working ≡ list_words → s.state.counts.filled.working ≤ MAX_CANDIDATES
few_boxes o replies candidates lent s l w u t left room =
    let k = rw (room, ← left_step left) at (room_kept o replies candidates lent) in fit s.state.counts.filled.working k
  where
    fit : (n : ℕ) → n ≤ list_words / candidate_width → n ≤ MAX_CANDIDATES
    fit n k = omega arith
