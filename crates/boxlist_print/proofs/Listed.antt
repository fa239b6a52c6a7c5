-- A list is of the run that the text scripts. That run's state and words pass the tests of what reads them, so its verdicts are answers or 9.
-- Assumes nothing.
use Prim.Native.Nat.{ℕ}
use mathlib.Core.Logic.{◌⊎◌, inl, inr}
use mathlib.Core.Path.{◌≡◌, refl, ◌∙◌}
use mathlib.Core.Bool.{Bool, true, false, cond}
use mathlib.Core.List.{List}
use borrow.Author.Tests.{lt-leb}
use Rattle.std.specs.Prelude.{Option, Ok, Err, IsOk, Result, Float}
use Rattle.refusal.specs.declared.Refusal.{Refusal}
use Rattle.util.proofs.Floats.{no}
use Rattle.geometry.specs.declared.Rect.{Rect}
use Rattle.refusal.specs.declared.Refusal.TheVariants.{NotInEighths}
use Rattle.tree.specs.declared.layout.Layout.{Layout}
use Rattle.oof_resolve.specs.declared.ContainingBlock.{ContainingBlock}
use Rattle.pixels.specs.Pixels.{all_accepted}
use Rattle.screen.specs.Screen.{is_screen, item_count, header_of, styles_of, replies_of, candidates_of}
use Rattle.screen.proofs.Exactly.{screen_exactly}
use Rattle.run.specs.declared.Answer.{Answer}
use Rattle.run.specs.declared.Answer.TheVariants.{Ask, Finish}
use Rattle.run.specs.declared.Finish.{Finish as FinishOf}
use Rattle.run.specs.Call.{slices}
use Rattle.run.specs.Conditions.{NoneHolds}
use Rattle.run.specs.Refusals.{◌when◌else◌}
use Rattle.run.proofs.Decides.{accepted_none}
use Rattle.finished.specs.Finished.{finished_verdict}
use Rattle.reach.specs.declared.Offsets.{Offsets}
use Rattle.reach.specs.Reach.{across, down, least, numbers_of, pair_of, box_reached, reached}
use Rattle.script.specs.Theorems.{is_finish}
use Rattle.script.proofs.Finishes.{Passes, opened_passes}
use Rattle.boxlist_print.specs.declared.Listing.TheVariants.{Boxes}
use Rattle.boxlist_print.specs.Printed.{finished_text, list_of, lent_for, opening_of, run_of, printed}
use Rattle.boxlist_print.specs.Laws.{program_tests, RunIsListed, OnlyNineInRows}
use Rattle.boxlist_print.proofs.Tests.{opening_tests_lem, begins_unrefused}
use Rattle.boxlist_print.proofs.Exactly.{program_says}

-- ---- a text that passes every test

module _ (text : List ℕ) (none : NoneHolds (program_tests text)) where
  a_screen : is_screen text ≡ true
  a_screen = go (is_screen text) refl
    where
      go : (b : Bool) → is_screen text ≡ b → b ≡ true
      go true e = refl
      go false e = absurd (none.0 (λ s. no ((screen_exactly text).1 s) e))

  passes : Passes (styles_of text) (run_of text)
  passes =
      let first = opening_of (header_of text) in
      opened_passes first (replies_of text) (candidates_of text) (lent_for (styles_of text) (item_count text))
      (begins_unrefused Boxes first (replies_of text) (candidates_of text) (styles_of text) (item_count text) (opening_tests_lem text a_screen ∙ (accepted_none (program_says text)).1 none))

pub run_is_listed : RunIsListed
unfolding printed list_of
run_is_listed listing text none = go (run_of text).step.answer refl (passes text none).finish
  where
    go : (a : Result Answer Refusal) → (run_of text).step.answer ≡ a → is_finish a ≡ true
        → let o = run_of text in
        (f : FinishOf) × (o.step.answer ≡ Ok (Finish f))
        × (printed listing text ≡ finished_text listing o.step.state f.overflow (slices (styles_of text) o.layouts o.working o.unclaimed))
    go (Ok (Ask q)) e h = no h refl
    go (Ok (Finish f)) e h = (f, e, rw (a_screen text none, e) refl)
    go (Err r) e h = no h refl

-- ---- a row

abbrev AnswerOrNine : Result (Option Offsets) Refusal → Type 0
AnswerOrNine r = IsOk r ⊎ (r ≡ Err NotInEighths)

box_or_nine : (c : ContainingBlock) (overflow : Rect Float) (box : Layout) → AnswerOrNine (box_reached c overflow box)
unfolding box_reached
box_or_nine c overflow box = go (all_accepted (numbers_of c.area overflow box)) (pair_of (least (across c overflow box)) (least (down c overflow box)))
  where
    go : (b : Bool) (answer : Option Offsets) → AnswerOrNine (cond b (Ok answer) (Err NotInEighths))
    go true answer = inl refl
    go false answer = inr refl

pub only_nine_in_rows : OnlyNineInRows
unfolding reached finished_verdict ◌when◌else◌
only_nine_in_rows text place none there =
    let p = passes text none in
    rw (p.slices, lt-leb (run_of text).step.state.counts.filled.working place there, p.progress, p.counts, p.listed) (box_or_nine _ _ _)
