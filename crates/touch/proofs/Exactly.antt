-- A call is refused exactly under the first condition that holds, and then writes nothing; accepted, it writes each box's words at its place.
-- Assumes nothing.
use Prim.Native.Nat.{ℕ, ◌*◌, ◌<◌}
use mathlib.Core.List.{List}
use mathlib.Core.Path.{◌≡◌, refl, sym, ap, ◌∙◌, subst}
use lib.Dec.{lit<}
use lib.ListN.{length, get_or}
use Rattle.std.specs.Prelude.{Float, Result, Ok, Err, is_err}
use Rattle.std.specs.Result.{result_and}
use Rattle.geometry.specs.declared.Point.{Point}
use Rattle.refusal.specs.declared.Refusal.{Refusal}
use Rattle.refusal.specs.declared.Refusal.TheVariants.{NotInEighths}
use Rattle.records.specs.Records.{record_at}
use Rattle.records.proofs.Laws.{word_of_record}
use Rattle.tree_record.specs.Candidate.{candidate_width, candidate_of}
use Rattle.pixels.specs.Conditions.{NotAllInEighths}
use Rattle.pixels.specs.Pixels.{pixel_edges}
use Rattle.pixels.proofs.Edges.{refused_exactly as pixels_refused, edges_are_small}
use Rattle.run.specs.Call.{Slices}
use Rattle.run.specs.Refusals.{Verdict, accepted, refused, ◌when◌else◌}
use Rattle.run.specs.declared.State.{State}
use Rattle.run.proofs.Decides.{Decides, Says, opposite, equal, then, no_more, refused_first, accepted_none}
use Rattle.finished.specs.Finished.{finished_verdict}
use Rattle.finished.proofs.Laws.{tested_then, tested_says, after, tested_after}
use Rattle.touch.specs.Touch.{touch_width, touch_words, nodes_of, left_by, touched}
use Rattle.touch.specs.Conditions.{SomeNotInEighths, touch_tests}
use Rattle.touch.specs.Laws.{RefusedExactly, AcceptedExactly, RefusedKeeps, HoldsBox, AcceptedHolds}
use Rattle.touch.proofs.Words.{edge_word}
use Rattle.touch.proofs.There.{node_count, node_there, other}
use Rattle.touch.proofs.Boxes.{own_layout, OfNodes, TellsOf, words_told}

-- ---- what is left, by the tests of every part and the words of the boxes

abbrev own : Result (List ℕ) Refusal → Verdict
own told = NotInEighths when is_err told else accepted

module _ (before : List ℕ) where
  goes : (v : Verdict) (layouts : List ℕ) (offset : Point Float) (nodes : List ℕ) (told : Result (List ℕ) Refusal) → TellsOf layouts offset nodes told
      → (left_by (result_and v told) before).verdict ≡ after v (own told)
  unfolding ◌when◌else◌
  goes (Err r) layouts offset nodes told t = refl
  goes (Ok tt) layouts offset nodes (Ok words) t = refl
  goes (Ok tt) layouts offset nodes (Err r) t = ap refused t.refusal

  keeps : (told : Result (List ℕ) Refusal) (r : Refusal) → (left_by told before).verdict ≡ refused r → (left_by told before).words ≡ before
  keeps (Ok words) r e = absurd cc
  keeps (Err q) r e = refl

  wrote : (v : Verdict) (told : Result (List ℕ) Refusal) → (left_by (result_and v told) before).verdict ≡ accepted
      → told ≡ Ok (left_by (result_and v told) before).words
  wrote (Err r) told e = absurd cc
  wrote (Ok tt) (Ok words) e = refl
  wrote (Ok tt) (Err r) e = absurd cc

module _ (s : State) (lent : Slices) where
  abbrev offset : Point Float
  offset = s.opened.container.area.offset

  abbrev words : Result (List ℕ) Refusal
  words = touch_words lent.layouts offset (nodes_of s lent)

  abbrev told_words : TellsOf lent.layouts offset (nodes_of s lent) words
  told_words = words_told lent.layouts offset (nodes_of s lent)

  boxes_decided : Decides (is_err words) (SomeNotInEighths s lent)
  boxes_decided = go words told_words
    where
      go : (told : Result (List ℕ) Refusal) → TellsOf lent.layouts offset (nodes_of s lent) told → Decides (is_err told) (SomeNotInEighths s lent)
      go (Err r) t =
          let h : t.place < s.counts.filled.working = rw (← node_count s lent) t.there in
          record {
            holds = λ e. (t.place, h, subst (λ (n : ℕ). NotAllInEighths (own_layout lent.layouts n) offset) (node_there s lent t.place 0 h) t.node);
            fails = λ f. absurd cc;
          }
      go (Ok ws) t = record { holds = λ e. absurd cc; fails = λ f. none }
        where
          none : ¬ SomeNotInEighths s lent
          none (place, h, n) =
              let b = t.each place (rw (node_count s lent) h) in
              let at = subst (λ (n : ℕ). NotAllInEighths (own_layout lent.layouts n) offset) (sym (node_there s lent place 0 h)) n in
              let e = sym b.pixels ∙ (pixels_refused _ offset NotInEighths).1 (refl, at) in
              absurd cc

  module _ (before : List ℕ) where
    verdict_is : (touched s lent before).verdict ≡ tested_then s lent (other s lent before) (own words)
    unfolding touched
    verdict_is =
        goes before (finished_verdict s lent (other s lent before)) lent.layouts offset (nodes_of s lent) words told_words
        ∙ tested_after s lent (other s lent before) (own words)

    says : Says (tested_then s lent (other s lent before) (own words)) (touch_tests s lent before)
    says = tested_says s lent (opposite (equal (length before) (touch_width * s.counts.filled.working))) (then NotInEighths boxes_decided (λ _. no_more))

    -- accepted, its words are those of its boxes' nodes
    of_nodes : (touched s lent before).verdict ≡ accepted → OfNodes lent.layouts offset (nodes_of s lent) (touched s lent before).words
    unfolding touched
    of_nodes e = subst (TellsOf lent.layouts offset (nodes_of s lent)) (wrote before (finished_verdict s lent (other s lent before)) words e) told_words

pub refused_exactly : RefusedExactly
refused_exactly s lent before r = rw (verdict_is s lent before) (refused_first r (says s lent before))

pub accepted_exactly : AcceptedExactly
accepted_exactly s lent before = rw (verdict_is s lent before) (accepted_none (says s lent before))

pub refused_keeps : RefusedKeeps
unfolding touched
refused_keeps s lent before r e = keeps before (result_and (finished_verdict s lent (other s lent before)) (words s lent)) r e

holds_box : (s : State) (lent : Slices) (before : List ℕ) → (touched s lent before).verdict ≡ accepted → (place : ℕ) → place < s.counts.filled.working
    → HoldsBox s lent place (record_at touch_width (touched s lent before).words place)
unfolding candidate_of
holds_box s lent before e place h =
    let b = (of_nodes s lent before e).each place (rw (node_count s lent) h) in
    let node = node_there s lent place 0 h in
    let small = edges_are_small _ _ b.edges b.pixels in
    record {
      edges = b.edges;
      pixels = subst (λ (n : ℕ). pixel_edges (own_layout lent.layouts n) (offset s lent) ≡ Ok b.edges) node b.pixels;
      node = ap (λ (ws : List ℕ). get_or ws 0 0) b.words ∙ node ∙ word_of_record candidate_width lent.working place 0 (lit< tt);
      left = rw b.words (edge_word b.edges.left small.0);
      right = rw b.words (edge_word b.edges.right small.1);
      top = rw b.words (edge_word b.edges.top small.2);
      bottom = rw b.words (edge_word b.edges.bottom small.3);
    }

pub accepted_holds : AcceptedHolds
accepted_holds s lent before e =
    record { long = (of_nodes s lent before e).long ∙ ap (λ (n : ℕ). touch_width * n) (node_count s lent); each = holds_box s lent before e }
