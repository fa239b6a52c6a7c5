-- The driver sees where boxes stand and how large they are, and nothing else of a run. Assumes nothing.
use Prim.Native.Nat.{ℕ, zero, suc, ◌*◌, ◌<◌}
use native.Mathlib.Nat.{zero-lt-suc}
use native.Mathlib.Omega.{arith}
use mathlib.Core.Bool.{Bool, true, false, not, or-true}
use mathlib.Core.List.{List, [], ◌∷◌}
use mathlib.Core.Logic.{inl, inr}
use mathlib.Core.Path.{◌≡◌, refl, sym, ap, ap₂, ◌∙◌, subst}
use lib.Dec.{eqb}
use lib.ListN.{length, get_or}
use lib.Ieee.{eq, lt, of_bits, binary32}
use lib.Ieee.Bits.{is_true}
use Rattle.std.specs.Prelude.{Float, Result, Ok, Err, Option, Some, None}
use Rattle.std.specs.Result.{result_and}
use Rattle.std.proofs.lemmas.Float.{T_from_true, eq_flip, eq_trans}
use Rattle.util.specs.declared.eighths.Count.{Count}
use Rattle.util.specs.Eighths.{count_of}
use Rattle.util.proofs.Count.{tried}
use Rattle.util.proofs.Laws.{count_is_found}
use Rattle.util.proofs.Unique.{counts}
use Rattle.geometry.specs.declared.Point.{Point}
use Rattle.refusal.specs.declared.Refusal.{Refusal}
use Rattle.refusal.specs.declared.Refusal.TheVariants.{BadExtent}
use Rattle.tree.specs.declared.layout.Layout.{Layout}
use Rattle.pixels.specs.Accepted.{accepted, in_eighths}
use Rattle.pixels.specs.Pixels.{line_of, edges_of, all_accepted, pixel_edges}
use Rattle.run.specs.Call.{Slices}
use Rattle.run.specs.Refusals.{Verdict, ◌when◌else◌}
use Rattle.run.specs.Refusals as verdict
use Rattle.run.specs.Run.{layout_at}
use Rattle.run.specs.declared.State.{State}
use Rattle.run.proofs.Decides.{Decides, no_more, accepted_none}
use Rattle.finished.specs.Finished.{finished_verdict}
use Rattle.finished.proofs.Laws.{tested_says}
use Rattle.touch.specs.Touch.{touch_width, told, joined, touch_words, nodes_of, left_by, touched}
use Rattle.touch.specs.Laws.{SameNumber, SamePoint, SameLocationAndSize, CanBeRead, SameToDriver, OnlyLocationAndSizeAreSeen}
use Rattle.touch.proofs.There.{node_count, node_there}
use Rattle.touch.proofs.Boxes.{own_layout}

-- ---- equal numbers, -0 and 0 among them, are counted alike

too : (x y : Float) → eq x y ≡ true → (c : Count) → count_of x ≡ Some c → count_of y ≡ count_of x
too x y e c p =
    let k = counts x c.negative c.size p in
    let g = lt x (of_bits binary32 0) in
    let t = tried x c.size k.small k.size in
    count_is_found y g c.size k.small (is_true _ (eq_trans _ x y (T_from_true _ t) (T_from_true _ e)))
    ∙ sym (count_is_found x g c.size k.small t)

counted_alike : (x y : Float) → SameNumber x y → count_of x ≡ count_of y
counted_alike x y (inl e) = ap count_of e
counted_alike x y (inr e) = go (count_of x) refl (count_of y) refl
  where
    go : (a : Option Count) → count_of x ≡ a → (b : Option Count) → count_of y ≡ b → count_of x ≡ count_of y
    go (Some c) p b q = sym (too x y e c p)
    go None p (Some d) q = too y x (is_true _ (eq_flip x y (T_from_true _ e))) d q
    go None p None q = p ∙ sym q

-- ---- so that boxes that stand alike have the same words

same_pixels : (a b : Layout) (offset offset' : Point Float) → SameLocationAndSize a b → SamePoint offset offset' → pixel_edges a offset ≡ pixel_edges b offset'
unfolding pixel_edges all_accepted accepted edges_of line_of in_eighths
same_pixels a b offset offset' p q =
    rw (counted_alike _ _ p.location.0, counted_alike _ _ p.location.1, counted_alike _ _ p.width, counted_alike _ _ p.height, counted_alike _ _ q.0, counted_alike _ _ q.1)
    refl

same_words : (l m : List ℕ) (offset offset' : Point Float) (nodes : List ℕ) → SamePoint offset offset'
    → ((place : ℕ) → place < length nodes → SameLocationAndSize (own_layout l (get_or nodes place 0)) (own_layout m (get_or nodes place 0)))
    → touch_words l offset nodes ≡ touch_words m offset' nodes
unfolding touch_words
same_words l m offset offset' [] q p = refl
same_words l m offset offset' (node ∷ nodes) q p =
    ap₂ joined (ap (told node) (same_pixels _ _ offset offset' (p zero (zero-lt-suc (length nodes))) q))
    (same_words l m offset offset' nodes q (λ place h. p (suc place) (omega arith)))

-- ---- and calls that pass the tests leave the same

never : Decides false ⊥
never = record { holds = λ t. absurd cc; fails = λ f n. n }

-- of runs that can be read only the driver's slice is tested
tested : (s : State) (l : Slices) (other : Bool) → CanBeRead s l → finished_verdict s l other ≡ (BadExtent when other else verdict.accepted)
unfolding finished_verdict ◌when◌else◌
tested s l true c = rw or-true refl
tested s l false c = (accepted_none (tested_says s l never no_more)).1 c

left_alike : (v : Verdict) (told : Result (List ℕ) Refusal) (before before' : List ℕ) → SameToDriver (left_by (result_and v told) before) (left_by (result_and v told) before')
left_alike (Err r) told before before' = record { verdict = refl; words = λ e. absurd cc }
left_alike (Ok tt) (Ok words) before before' = record { verdict = refl; words = λ e. refl }
left_alike (Ok tt) (Err r) before before' = record { verdict = refl; words = λ e. absurd cc }

pub only_location_and_size_are_seen : OnlyLocationAndSizeAreSeen
unfolding touched
only_location_and_size_are_seen s t l m before before' c d e o n p =
    subst (SameToDriver (touched s l before))
    (ap₂ (λ (v : Verdict) (words : Result (List ℕ) Refusal). left_by (result_and v words) before') verdicts told_alike)
    (left_alike (finished_verdict s l (not (eqb (length before) (touch_width * s.counts.filled.working)))) (touch_words l.layouts s.opened.container.area.offset (nodes_of s l)) before before')
  where
    boxes : s.counts.filled.working ≡ t.counts.filled.working
    boxes = sym (node_count s l) ∙ ap length n ∙ node_count t m

    verdicts : finished_verdict s l (not (eqb (length before) (touch_width * s.counts.filled.working)))
        ≡ finished_verdict t m (not (eqb (length before') (touch_width * t.counts.filled.working)))
    verdicts =
        tested s l _ c ∙ ap₂ (λ (n k : ℕ). BadExtent when not (eqb n (touch_width * k)) else verdict.accepted) e boxes ∙ sym (tested t m _ d)

    alike : (place : ℕ) → place < length (nodes_of s l)
        → SameLocationAndSize (own_layout l.layouts (get_or (nodes_of s l) place 0)) (own_layout m.layouts (get_or (nodes_of s l) place 0))
    alike place h =
        let x = node_there s l place 0 (rw (← node_count s l) h) in
        let y = node_there t m place 0 (rw (← node_count t m, ← n) h) in
        rw x (subst (λ (k : ℕ). SameLocationAndSize (layout_at l.layouts l.working place) (own_layout m.layouts k)) (sym y ∙ ap (λ (ns : List ℕ). get_or ns place 0) (sym n) ∙ x)
        (p place (rw (← node_count s l) h)))

    told_alike : touch_words l.layouts s.opened.container.area.offset (nodes_of s l) ≡ touch_words m.layouts t.opened.container.area.offset (nodes_of t m)
    told_alike =
        same_words l.layouts m.layouts s.opened.container.area.offset t.opened.container.area.offset (nodes_of s l) o alike
        ∙ ap (touch_words m.layouts t.opened.container.area.offset) n
