-- That a call which passes the tests before 9 has the boxes' records and layouts, and a slice that their words fill. Assumes nothing.
use Prim.Native.Nat.{ℕ, ◌*◌, ◌/◌, ◌<◌, ◌≤◌}
use mathlib.Core.Bool.{Bool, not}
use mathlib.Core.List.{List, map}
use mathlib.Core.Path.{◌≡◌, refl, sym, ap, ◌∙◌, subst}
use lib.Dec.{eqb}
use lib.ListN.{length, get_or, take}
use borrow.Author.Tests.{eqb-true, not-false, lt-leb}
use Rattle.std.specs.Prelude.{All, Result, Ok, Err}
use Rattle.std.specs.Result.{result_and}
use Rattle.refusal.specs.declared.Refusal.{Refusal}
use Rattle.records.specs.Records.{record_at, records}
use Rattle.tree.specs.declared.layout.OofCandidate.{OofCandidate}
use Rattle.tree_record.specs.Candidate.{candidate_width, candidate_of}
use Rattle.sweep.specs.Sweep.{first_candidates}
use Rattle.run.specs.Call.{Slices}
use Rattle.run.specs.Refusals.{Verdict, accepted, refused}
use Rattle.run.specs.declared.State.{State}
use Rattle.finished.specs.Finished.{finished_verdict}
use Rattle.finished.proofs.There.{many_said, one_said, first_said, first_there, not_other, within, layout_is_there}
use Rattle.touch.specs.Touch.{touch_width, touch_words, nodes_of, left_by, touched}
use Rattle.touch.specs.Passes.{nodes_by_word, HasLayout, verdict_of}

-- the nodes of the first of the whole records
pub nodes_of_first : (n : ℕ) (ws : List ℕ) (rs : List (List ℕ)) → rs ≡ records candidate_width (length ws / candidate_width) ws → n ≤ length ws / candidate_width
    → nodes_by_word (take n rs) ≡ map (λ (c : OofCandidate). c.node) (first_candidates n ws)
unfolding candidate_of
nodes_of_first = first_said (λ (c : OofCandidate). c.node) 0 (λ r. refl)

module _ (s : State) (l : Slices) where
  pub node_count : length (nodes_of s l) ≡ s.counts.filled.working
  node_count = many_said (λ (c : OofCandidate). c.node) s.counts.filled.working l.working

  pub node_there : (place d : ℕ) → place < s.counts.filled.working → get_or (nodes_of s l) place d ≡ (candidate_of (record_at candidate_width l.working place)).node
  node_there place d h = one_said (λ (c : OofCandidate). c.node) s.counts.filled.working l.working place d h

  module _ (other : Bool) (e : finished_verdict s l other ≡ accepted) where
    layout_there : (place : ℕ) → place < s.counts.filled.working → HasLayout l.layouts (candidate_of (record_at candidate_width l.working place)).node
    layout_there place h =
        layout_is_there s l place (ap (finished_verdict s l) (lt-leb s.counts.filled.working place h ∙ sym (not_other s l other e)) ∙ e)

    pub layouts_there : All (HasLayout l.layouts) (nodes_of s l)
    layouts_there place d h =
        let k : place < s.counts.filled.working = subst (λ (n : ℕ). place < n) node_count h in
        subst (HasLayout l.layouts) (sym (node_there place d k)) (layout_there place k)

refused_by : (told : Result (List ℕ) Refusal) (r : Refusal) → verdict_of told ≡ refused r → told ≡ Err r
refused_by (Ok words) r h = absurd cc
refused_by (Err q) r h = cc

-- ---- a call that passes the tests before 9, and the whole records of its list, as the code has them

module _ (s : State) (l : Slices) (before : List ℕ) where
  abbrev pub other : Bool
  other = not (eqb (length before) (touch_width * s.counts.filled.working))

  abbrev pub told_words : Result (List ℕ) Refusal
  told_words = touch_words l.layouts s.opened.container.area.offset (nodes_of s l)

  pub left_refused : (r : Refusal) → finished_verdict s l other ≡ refused r → touched s l before ≡ left_by (Err r) before
  unfolding touched
  left_refused r e = ap (λ (v : Verdict). left_by (result_and v told_words) before) e

  module _ (e : finished_verdict s l other ≡ accepted) where
    pub left_told : touched s l before ≡ left_by told_words before
    unfolding touched
    left_told = ap (λ (v : Verdict). left_by (result_and v told_words) before) e

    module _ (rs : List (List ℕ)) (are : rs ≡ records candidate_width (length l.working / candidate_width) l.working) where
      abbrev boxes : List (List ℕ)
      boxes = take s.counts.filled.working rs

      there : (s.counts.filled.working ≤ length rs) × (length boxes ≡ s.counts.filled.working)
      there = first_there s.counts.filled.working l.working rs are (within s l other e)

      pub boxes_end : s.counts.filled.working ≡ length boxes
      boxes_end = sym there.1

      pub box_nodes : nodes_by_word boxes ≡ nodes_of s l
      box_nodes = nodes_of_first s.counts.filled.working l.working rs are (within s l other e)

      pub have_layouts : All (HasLayout l.layouts) (nodes_by_word boxes)
      have_layouts = subst (All (HasLayout l.layouts)) (sym box_nodes) (layouts_there s l other e)

      pub words_fit : length before ≡ touch_width * length boxes
      words_fit = eqb-true _ _ (not-false _ (not_other s l other e)) ∙ ap (λ (n : ℕ). touch_width * n) boxes_end

      abbrev told_boxes : Result (List ℕ) Refusal
      told_boxes = touch_words l.layouts s.opened.container.area.offset (nodes_by_word boxes)

      told_same : told_boxes ≡ told_words
      told_same = ap (touch_words l.layouts s.opened.container.area.offset) box_nodes

      pub left_unwritten : (r : Refusal) → verdict_of told_boxes ≡ refused r → touched s l before ≡ left_by (Err r) before
      left_unwritten r h = left_told ∙ ap (λ (t : Result (List ℕ) Refusal). left_by t before) (sym told_same ∙ refused_by told_boxes r h)

      pub left_written : (words : List ℕ) → told_boxes ≡ Ok words → touched s l before ≡ left_by (Ok words) before
      left_written words h = left_told ∙ ap (λ (t : Result (List ℕ) Refusal). left_by t before) (sym told_same ∙ h)
