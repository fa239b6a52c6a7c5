-- A box laid out in both runs: what is written, and what then holds. Assumes nothing.
use borrow.Author.Rules.{rules}
use Prim.Native.Nat.{ℕ, ◌+◌, ◌-◌, ◌*◌, ◌<◌, ◌≤◌}
use native.Mathlib.Omega.{arith}
use native.Mathlib.Nat.{add-zero, mul-suc, mul-le-mul_left}
use mathlib.Core.Path.{◌≡◌, refl, sym, ap, ◌∙◌}
use mathlib.Core.Bool.{Bool, true, false}
use mathlib.Core.List.{List, [], map}
use lib.Dec.{ltb, eqb}
use lib.ListN.{length}
use borrow.Author.Tests.{ltb-true, ltb-false, eqb-true, eqb-false}
use Rattle.std.specs.Prelude.{Some, Float}
use Rattle.geometry.specs.Geometry.{union_of}
use Rattle.geometry.specs.declared.Rect.{Rect}
use Rattle.style.specs.declared.ContainingBlockClaims.{ContainingBlockClaims}
use Rattle.records.specs.Records.{record_at, written}
use Rattle.records.proofs.Laws.{record_back, others_kept}
use Rattle.tree.specs.declared.layout.Layout.{Layout}
use Rattle.tree_record.specs.Layout.{layout_width, layout_of, layout_words}
use Rattle.tree_record.proofs.Laws.{layout_widths}
use Rattle.style_record.specs.Record.{items}
use Rattle.style_record.specs.Decode.{style_at}
use Rattle.sweep.specs.Sweep.{candidates_in, moved, keep, list_words, appended}
use Rattle.sweep.proofs.Steps.{kept_moved}
use Rattle.oof_box.specs.Cut.{layout_after}
use Rattle.oof_box.specs.declared.question.Replies.{Replies}
use Rattle.oof_place.specs.declared.OofBoxLayout.{OofBoxLayout}
use Rattle.run.specs.declared.Counts.{Counts}
use Rattle.run.specs.Run.{box_at_hand, proceeding, charged, laid_out}
use Rattle.mirror_box.specs.Mirrored.{MirroredLayout}
use Rattle.mirror_run.specs.Image.{image_styles}
use Rattle.mirror_run.proofs.Lists.{first_each}
use Rattle.mirror_run.proofs.ReadBack.{Read}
use Rattle.mirror_run.proofs.Linked.{Frame, Shared, Own, state_of, lent_of, Ready, box_of, Lists, Laid}
use Rattle.mirror_run.proofs.Next.{opened_of, leaving}
use Rattle.mirror_run.proofs.Surfaced.{none_kept, count}

-- ---- one run

-- the box at hand, laid out
abbrev pub placed_of : List ℕ → Own → Counts → Replies → Rect Float → OofBoxLayout
placed_of styles p c replies overflow =
    let box = box_of p (c.begun - 1) in
    layout_after p.container (style_at styles box.node) box replies overflow

-- what a run has for itself after a size was replied
abbrev pub counted : Counts → Own → Own
counted c p =
    record {
      container = p.container;
      overflow = p.overflow;
      layouts = p.layouts;
      working = p.working;
      unclaimed = p.unclaimed;
      tally = charged p.tally (box_of p (c.begun - 1)).node;
    }

-- and after its box was laid out, no box that it surfaces being claimed
abbrev pub after : List ℕ → ContainingBlockClaims → Counts → List ℕ → OofBoxLayout → Own → Own
after styles by c surfaced placed p =
    record {
      container = p.container;
      overflow = union_of p.overflow placed.contribution;
      layouts = written p.layouts (layout_width * (box_of p (c.begun - 1)).node) (layout_words placed.layout);
      working = p.working;
      unclaimed = appended p.unclaimed c.filled.unclaimed (keep by false (map (moved (Some placed.layout.location)) (candidates_in surfaced)));
      tally = charged p.tally (box_of p (c.begun - 1)).node;
    }

abbrev pub counts_after : ContainingBlockClaims → Counts → List ℕ → Counts
counts_after by c surfaced =
    record { filled = record { working = c.filled.working; unclaimed = c.filled.unclaimed + count by surfaced }; begun = c.begun; answered = c.answered + 1 }

pub laid_as : (f : Frame) (styles : List ℕ) (s : Shared) (p : Own) (overflow : Rect Float) (surfaced : List ℕ) → keep s.claims true (candidates_in surfaced) ≡ []
    → let after = after styles s.claims s.counts surfaced (placed_of styles p s.counts s.replies overflow) p in
    laid_out (state_of f s p) overflow surfaced (lent_of styles p)
    ≡ leaving (proceeding styles p.working (opened_of f s.claims p) (counts_after s.claims s.counts surfaced) after.overflow) after
unfolding laid_out box_at_hand list_words written
laid_as f styles s p overflow surfaced e = search (rules, add-zero, kept_moved, none_kept)

-- ---- layouts

module _ (ws : List ℕ) (n node : ℕ) (long : length ws ≡ layout_width * n) (there : node < n) (l : Layout) where
  room_there : layout_width * node + layout_width ≤ length ws
  room_there = omega (arith, mul-le-mul_left layout_width there, mul-suc layout_width node)

  -- read at its node's place, a layout is as it was written
  pub written_here : (i : ℕ) → i ≡ node → record_at layout_width (written ws (layout_width * node) (layout_words l)) i ≡ layout_words l
  written_here i e = ap (record_at layout_width (written ws (layout_width * node) (layout_words l))) e ∙ record_back layout_width node ws (layout_words l) (layout_widths.1 l) room_there

  -- any other stays
  pub kept_there : (i : ℕ) → (i ≡ node → ⊥) → record_at layout_width (written ws (layout_width * node) (layout_words l)) i ≡ record_at layout_width ws i
  kept_there i d = others_kept layout_width node i ws (layout_words l) (layout_widths.1 l) d

module _ (f : Frame) (c : Counts) (p p' : Own) (lists : Lists f c.filled p p') (begun : 0 < c.begun) (waiting : c.begun ≤ c.filled.working)
    (long : length p.layouts ≡ layout_width * items f.styles) (long' : length p'.layouts ≡ layout_width * items f.styles)
    (by : ContainingBlockClaims) (surfaced : List ℕ) (placed placed' : OofBoxLayout) (read : Read f.container.area placed.layout placed'.layout) where
  ready : (i : ℕ) → i < c.begun → Ready f.container.area (items f.styles) (box_of p i) (box_of p' i)
  ready i h = first_each c.filled.working p.working p'.working lists.claimed i (omega arith)

  here : ℕ
  here = (box_of p (c.begun - 1)).node

  here' : ℕ
  here' = (box_of p' (c.begun - 1)).node

  here_there : here < items f.styles
  unfolding here
  here_there = (ready (c.begun - 1) (omega arith)).there.0

  here_same : here' ≡ here
  unfolding here here'
  here_same = (ready (c.begun - 1) (omega arith)).image.node

  -- the box at hand and all before it
  pub laid_next : Laid f (c.begun - 1) p p' → Laid f c.begun (after f.styles by c surfaced placed p) (after (image_styles f.styles) by c surfaced placed' p')
  unfolding here here'
  laid_next laid i h = go (eqb (box_of p i).node here) refl
    where
      same : (box_of p' i).node ≡ (box_of p i).node
      same = (ready i h).image.node

      there' : here' < items f.styles
      there' = rw here_same here_there

      earlier : (i : ℕ) → i < c.begun → ((box_of p i).node ≡ here → ⊥) → i < c.begun - 1
      earlier i h d = before i c.begun h (λ e. d (ap (λ (j : ℕ). (box_of p j).node) e))
        where
          before : (i n : ℕ) → i < n → (i ≡ n - 1 → ⊥) → i < n - 1
          before i n h d = go (ltb i (n - 1)) refl
            where
              go : (b : Bool) → ltb i (n - 1) ≡ b → i < n - 1
              go true e = ltb-true i (n - 1) e
              go false e = let l = ltb-false i (n - 1) e in absurd (d (omega arith))

      go : (b : Bool) → eqb (box_of p i).node here ≡ b
          → MirroredLayout f.container.area (layout_of (record_at layout_width (written p.layouts (layout_width * here) (layout_words placed.layout)) (box_of p i).node))
          (layout_of (record_at layout_width (written p'.layouts (layout_width * here') (layout_words placed'.layout)) (box_of p' i).node))
      go true e =
          let k = eqb-true (box_of p i).node here e in
          rw (
            written_here p.layouts (items f.styles) here long here_there placed.layout (box_of p i).node k,
            written_here p'.layouts (items f.styles) here' long' there' placed'.layout (box_of p' i).node (same ∙ k ∙ sym here_same),
          )
          read
      go false e =
          let d = eqb-false (box_of p i).node here e in
          rw (
            kept_there p.layouts (items f.styles) here long here_there placed.layout (box_of p i).node d,
            kept_there p'.layouts (items f.styles) here' long' there' placed'.layout (box_of p' i).node (λ x. d (sym same ∙ x ∙ here_same)),
          )
          (laid i (earlier i h d))
