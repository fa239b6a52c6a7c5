-- A preview's call, by the ways that the code goes. Assumes nothing.
use Prim.Native.Nat.{ℕ}
use mathlib.Core.Bool.{false, ◌||◌}
use mathlib.Core.List.{List}
use mathlib.Core.Path.{◌≡◌, refl, sym}
use lib.ListN.{length}
use borrow.Author.Tests.{eqb-true, not-false}
use Rattle.std.specs.Prelude.{Ok, Err}
use Rattle.std.proofs.lemmas.Bool.{or_parts}
use Rattle.refusal.specs.declared.Refusal.{Refusal}
use Rattle.style_record.specs.Record.{style_words}
use Rattle.oof_box.specs.declared.question.Reply.{Reply}
use Rattle.run.specs.declared.Opening.{Opening}
use Rattle.run.specs.declared.State.{State}
use Rattle.run.specs.declared.Step.{Step}
use Rattle.run.specs.Call.{Lent, Outcome, outcome}
use Rattle.run.specs.Refusals.{bad_area, bad_at_opening, bad_at_reply, lent_by}
use Rattle.run.specs.Run.{closed, opened, replied}
use Rattle.run.specs.Preview.{over_copy, bad_replacement, opening_before_copy, preview_opened, reply_before_copy, preview_replied}
use Rattle.run.proofs.Call.{outcome_is}
use Rattle.placer_check.proofs.Verdicts.{passed}

one_style : (style : List ℕ) → bad_replacement style ≡ false → length style ≡ style_words
one_style style e = eqb-true (length style) style_words (not-false _ e)

module _ (node : ℕ) (style : List ℕ) (l : Lent) where
  module _ (o : Opening) (candidates : List ℕ) where
    pub opening_has_one_style : Ok tt ≡ opening_before_copy o candidates node style l → length style ≡ style_words
    unfolding opening_before_copy
    opening_has_one_style e =
        let area = passed _ (bad_area o) _ (Ok tt) (sym e) refl in
        let extents = passed _ (bad_at_opening candidates l || bad_replacement style) _ (Ok tt) area.1 refl in
        one_style style (or_parts (bad_at_opening candidates l) (bad_replacement style) extents.0).1

    pub opening_turned_down : (r : Refusal) (step : Step) → Err r ≡ opening_before_copy o candidates node style l
        → step ≡ record { state = closed l; answer = Err r }
        → outcome step l.layouts l.working l.unclaimed l.tally ≡ preview_opened o candidates node style l
    unfolding preview_opened
    opening_turned_down r step e p = rw (← e) (outcome_is p refl refl refl refl)

    pub opens_copy : (has : Outcome) → Ok tt ≡ opening_before_copy o candidates node style l → has ≡ opened o candidates (over_copy node style l)
        → has ≡ preview_opened o candidates node style l
    unfolding preview_opened
    opens_copy has e p = rw (← e) p

  module _ (s : State) (reply : Reply) (surfaced : List ℕ) where
    pub reply_has_one_style : Ok tt ≡ reply_before_copy s reply surfaced node style l → length style ≡ style_words
    unfolding reply_before_copy
    reply_has_one_style e =
        let extents = passed _ (bad_at_reply s.opened.extents (lent_by reply surfaced) l || bad_replacement style) _ (Ok tt) (sym e) refl in
        one_style style (or_parts (bad_at_reply s.opened.extents (lent_by reply surfaced) l) (bad_replacement style) extents.0).1

    pub reply_turned_down : (r : Refusal) (step : Step) → Err r ≡ reply_before_copy s reply surfaced node style l
        → step ≡ record { state = s; answer = Err r }
        → outcome step l.layouts l.working l.unclaimed l.tally ≡ preview_replied s reply surfaced node style l
    unfolding preview_replied
    reply_turned_down r step e p = rw (← e) (outcome_is p refl refl refl refl)

    pub replies_to_copy : (has : Outcome) → Ok tt ≡ reply_before_copy s reply surfaced node style l
        → has ≡ replied s reply surfaced (over_copy node style l)
        → has ≡ preview_replied s reply surfaced node style l
    unfolding preview_replied
    replies_to_copy has e p = rw (← e) p
