-- A sweep as a call sees it: full, or both lists with more records. Assumes nothing.
use Prim.Native.Nat.{ℕ, ◌+◌, ◌*◌, ◌-◌, ◌<◌, ◌≤◌}
use native.Mathlib.Omega.{arith}
use native.Mathlib.Nat.{mul-div-le}
use mathlib.Core.Bool.{Bool, true, false, cond, not, ◌||◌}
use mathlib.Core.List.{List, map}
use mathlib.Core.Path.{◌≡◌, refl, ap, ◌∙◌}
use lib.ListN.{length}
use borrow.Author.Tests.{not-false}
use Rattle.std.proofs.lemmas.Bool.{or_parts}
use Rattle.std.specs.Prelude.{Option, Result, Ok, Err, Float}
use Rattle.geometry.specs.declared.Point.{Point}
use Rattle.refusal.specs.declared.Refusal.{Refusal}
use Rattle.refusal.specs.declared.Refusal.TheVariants.{ListFull}
use Rattle.records.specs.Records.{room, record_at}
use Rattle.records.proofs.Laws.{room_words}
use Rattle.style.specs.declared.ContainingBlockClaims.{ContainingBlockClaims}
use Rattle.style_record.specs.Record.{style_words, items}
use Rattle.tree.specs.declared.layout.OofCandidate.{OofCandidate}
use Rattle.tree_record.specs.Candidate.{candidate_width, candidate_of}
use Rattle.sweep.specs.declared.Filled.{Filled}
use Rattle.sweep.specs.Sweep.{first_candidates, candidates_in, moved, keep, appended, Outcome, swept, Leaves}
use Rattle.sweep.proofs.Steps.{full, into, no_room_in, no_room_out, room_both, kept_moved, appended_length}
use Rattle.sweep.proofs.Laws.{swept_fits, kept_fits}
use Rattle.run.specs.Call.{Lent}
use Rattle.run.specs.Refusals.{list_full}
use Rattle.placer.specs.Entry.{AtHand}
use Rattle.sweep.proofs.Listed.{AllBelow}
use Rattle.placer.proofs.Nodes.{moved_below, keep_below, appended_below, item_words_lem}

-- what a sweep answered
refusal_of : Result Filled Refusal → Refusal
refusal_of (Err r) = r
refusal_of (Ok f) = ListFull

is_into : Result Filled Refusal → ℕ
is_into (Err r) = 0
is_into (Ok f) = 1

filled_of : Filled → Result Filled Refusal → Filled
filled_of f (Err r) = f
filled_of f (Ok g) = g

module _ (by : ContainingBlockClaims) (s : Option (Point Float)) (ws : List ℕ) (l : Lent) (f : Filled) where
  -- the outcomes
  abbrev pub when_full : Outcome
  when_full = full by s (candidates_in ws) l.working l.unclaimed f

  abbrev pub when_room : Outcome
  when_room = into by s (candidates_in ws) l.working l.unclaimed f

  by_full : swept by (map (moved s) (candidates_in ws)) l.working l.unclaimed f ≡ cond (list_full by l f ws) when_full when_room
  unfolding list_full
  by_full =
      go (room candidate_width (length l.working) f.working (length (keep by true (candidates_in ws))))
      (room candidate_width (length l.unclaimed) f.unclaimed (length (keep by false (candidates_in ws)))) refl refl
    where
      go : (a b : Bool) → room candidate_width (length l.working) f.working (length (keep by true (candidates_in ws))) ≡ a
          → room candidate_width (length l.unclaimed) f.unclaimed (length (keep by false (candidates_in ws))) ≡ b
          → swept by (map (moved s) (candidates_in ws)) l.working l.unclaimed f ≡ cond (not a || not b) when_full when_room
      go true true d e = room_both by s (candidates_in ws) l.working l.unclaimed f d e
      go true false d e = no_room_out by s (candidates_in ws) l.working l.unclaimed f d e
      go false b d e = no_room_in by s (candidates_in ws) l.working l.unclaimed f d

  pub was_full : (r : Refusal) (w u : List ℕ) → Leaves (Err r) w u (swept by (map (moved s) (candidates_in ws)) l.working l.unclaimed f)
      → (list_full by l f ws ≡ true) × (r ≡ ListFull) × (w ≡ l.working) × (u ≡ l.unclaimed)
  unfolding refusal_of is_into
  was_full r w u h =
      go (list_full by l f ws) (h.answer ∙ ap (λ (o : Outcome). o.answer) by_full) (h.working ∙ ap (λ (o : Outcome). o.working) by_full)
      (h.unclaimed ∙ ap (λ (o : Outcome). o.unclaimed) by_full)
    where
      go : (b : Bool) → Err r ≡ (cond b when_full when_room).answer → w ≡ (cond b when_full when_room).working
          → u ≡ (cond b when_full when_room).unclaimed → (b ≡ true) × (r ≡ ListFull) × (w ≡ l.working) × (u ≡ l.unclaimed)
      go true a p q = (refl, ap refusal_of a, p, q)
      go false a p q = absurd (let z : ◌≡◌ {A = ℕ} 0 1 = ap is_into a in omega arith)

  pub had_room : (after : Filled) (w u : List ℕ) → Leaves (Ok after) w u (swept by (map (moved s) (candidates_in ws)) l.working l.unclaimed f)
      → (list_full by l f ws ≡ false)
      × (after ≡ record { working = f.working + length (keep by true (candidates_in ws)); unclaimed = f.unclaimed + length (keep by false (candidates_in ws)) })
      × (w ≡ when_room.working)
      × (u ≡ when_room.unclaimed)
  unfolding filled_of is_into
  had_room after w u h =
      go (list_full by l f ws) (h.answer ∙ ap (λ (o : Outcome). o.answer) by_full) (h.working ∙ ap (λ (o : Outcome). o.working) by_full)
      (h.unclaimed ∙ ap (λ (o : Outcome). o.unclaimed) by_full)
    where
      go : (b : Bool) → Ok after ≡ (cond b when_full when_room).answer → w ≡ (cond b when_full when_room).working
          → u ≡ (cond b when_full when_room).unclaimed
          → (b ≡ false)
          × (after ≡ record { working = f.working + length (keep by true (candidates_in ws)); unclaimed = f.unclaimed + length (keep by false (candidates_in ws)) })
          × (w ≡ when_room.working)
          × (u ≡ when_room.unclaimed)
      go true a p q = absurd (let z : ◌≡◌ {A = ℕ} 1 0 = ap is_into a in omega arith)
      go false a p q = (refl, ap (filled_of f) a, p, q)

  -- room in words
  in_words_lem : list_full by l f ws ≡ false → candidate_width * (f.working + length (keep by true (candidates_in ws))) ≤ length l.working
  unfolding list_full
  in_words_lem e =
      room_words candidate_width (length l.working) f.working (length (keep by true (candidates_in ws)))
      (not-false _ (or_parts _ _ e).0)

  -- the box after i others
  pub next_at_hand : (styles : List ℕ) → AllBelow (items styles) (first_candidates f.working l.working)
      → AllBelow (items styles) (candidates_in ws)
      → list_full by l f ws ≡ false
      → (i : ℕ) → i < f.working + length (keep by true (candidates_in ws))
      → AtHand styles when_room.working (i + 1)
  unfolding items
  next_at_hand styles held more e i h =
      record {
        first = omega arith;
        listed = rw (back i, appended_length l.working f.working inside) (item_words_lem candidate_width (length l.working) _ i (in_words_lem e) h);
        styled = rw (back i) (item_words_lem style_words (length styles) (items styles) _ (mul-div-le (length styles) style_words) below);
      }
    where
      inside : List OofCandidate
      inside = keep by true (map (moved s) (candidates_in ws))

      back : (i : ℕ) → i + 1 - 1 ≡ i
      back i = omega arith

      count : length inside ≡ length (keep by true (candidates_in ws))
      count = kept_moved by true s (candidates_in ws)

      below : (candidate_of (record_at candidate_width (appended l.working f.working inside) i)).node < items styles
      below =
          appended_below (items styles) l.working f.working inside i held
          (keep_below (items styles) by true (map (moved s) (candidates_in ws)) (moved_below (items styles) s (candidates_in ws) more))
          (kept_fits by (map (moved s) (candidates_in ws)) (swept_fits s ws)).0
          (rw count (in_words_lem e))
          (rw count h)
