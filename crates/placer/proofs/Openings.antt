-- An opening, by the ways that the code goes. Assumes nothing.
use Prim.Native.Nat.{ℕ, ◌+◌, ◌<◌}
use mathlib.Core.Bool.{true, false}
use mathlib.Core.List.{List, map}
use lib.ListN.{length, replicate}
use mathlib.Core.Path.{◌≡◌, refl, sym, ap, ◌∙◌}
use Rattle.std.specs.Prelude.{None, Ok, Err}
use Rattle.geometry.specs.Geometry.{zero_rect}
use Rattle.refusal.specs.declared.Refusal.{Refusal}
use Rattle.style_record.specs.Record.{items}
use Rattle.tree.specs.declared.layout.OofCandidate.{OofCandidate}
use Rattle.sweep.specs.declared.Filled.{Filled}
use Rattle.sweep.specs.Sweep as sweep
use Rattle.sweep.specs.Sweep.{candidates_in, moved, keep, appended, swept}
use Rattle.run.specs.declared.Opening.{Opening}
use Rattle.run.specs.declared.Step.{Step}
use Rattle.run.specs.Call.{Lent, Outcome, outcome}
use Rattle.run.proofs.Call.{outcome_is}
use Rattle.run.specs.Refusals.{accepted, ◌when◌else◌, refused, list_full}
use Rattle.run.specs.Run.{claims_of, container_of, extents_of, none_filled, opening_verdict, closed, begun, opened_by, opened, proceeding}
use Rattle.placer_check.specs.Verdict.{then_room}
use Rattle.placer.specs.Entry.{AtHand, OpeningCleared}
use Rattle.placer.proofs.Nodes.{none_below}
use Rattle.run.proofs.Worlds.{unmoved}
use Rattle.placer.proofs.Sweeps.{was_full, had_room, next_at_hand}
use Rattle.placer.proofs.Calls.{opening_nodes}

module _ (o : Opening) (candidates : List ℕ) (l : Lent) where
  -- the sweep of an opening
  abbrev pub sweeping : sweep.Outcome
  sweeping = swept (claims_of o) (map (moved None) (candidates_in candidates)) l.working l.unclaimed none_filled

  -- what is left to room
  abbrev pub begins : Outcome
  begins = opened_by (then_room accepted (list_full (claims_of o) l none_filled candidates)) o candidates l

  pub turned_down : (r : Refusal) (step : Step) → opening_verdict o candidates l ≡ refused r
      → step ≡ record { state = closed l; answer = Err r }
      → outcome step l.layouts l.working l.unclaimed l.tally ≡ opened o candidates l
  unfolding opened
  turned_down r step e s = rw e (outcome_is s refl refl refl refl)

  pub no_room : (r : Refusal) (step : Step) (w u : List ℕ) → sweep.Leaves (Err r) w u sweeping
      → step ≡ record { state = closed l; answer = Err r }
      → outcome step l.layouts w u l.tally ≡ begins
  unfolding ◌when◌else◌
  no_room r step w u h s =
      let f = was_full (claims_of o) None candidates l none_filled r w u h in
      rw f.0 (outcome_is (s ∙ rw f.1 refl) refl f.2 f.3 refl)

  -- the first box has its record and its style
  pub first_at_hand : (after : Filled) (w u : List ℕ) → OpeningCleared o candidates l → sweep.Leaves (Ok after) w u sweeping → 0 < after.working
      → AtHand l.styles w (0 + 1)
  first_at_hand after w u e h more =
      let f = had_room (claims_of o) None candidates l none_filled after w u h in
      rw f.2
      (next_at_hand (claims_of o) None candidates l none_filled l.styles (none_below (items l.styles) l.working) (opening_nodes o candidates l e) f.0 0
      (rw (sym (ap (λ (x : Filled). x.working) f.1)) more))

  pub swept_in : (after : Filled) (step : Step) (w u t : List ℕ) → sweep.Leaves (Ok after) w u sweeping
      → step ≡ proceeding l.styles w (record { container = container_of o; claims = claims_of o; extents = extents_of l }) (record { filled = after; begun = 0; answered = 0 }) zero_rect
      → t ≡ replicate (length l.tally) 0
      → outcome step l.layouts w u t ≡ begins
  unfolding begun ◌when◌else◌
  swept_in after step w u t h s cleared =
      let f = had_room (claims_of o) None candidates l none_filled after w u h in
      let m = unmoved (candidates_in candidates) in
      let ws : w ≡ appended l.working 0 (keep (claims_of o) true (candidates_in candidates)) = f.2 ∙ ap (λ (cs : List OofCandidate). appended l.working 0 (keep (claims_of o) true cs)) m in
      let us : u ≡ appended l.unclaimed 0 (keep (claims_of o) false (candidates_in candidates)) = f.3 ∙ ap (λ (cs : List OofCandidate). appended l.unclaimed 0 (keep (claims_of o) false cs)) m in
      rw f.0 (outcome_is (s ∙ rw (ws, f.1) refl) refl ws us cleared)

  pub opens : (step : Step) (layouts w u t : List ℕ) → OpeningCleared o candidates l → outcome step layouts w u t ≡ begins
      → outcome step layouts w u t ≡ opened o candidates l
  unfolding opened
  opens step layouts w u t e h = rw e h
