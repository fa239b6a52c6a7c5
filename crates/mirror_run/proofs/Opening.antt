-- A run and its image, opened. Assumes nothing.
use Prim.Native.Nat.{ℕ, ◌+◌, ◌*◌, ◌/◌, ◌<◌, ◌≤◌}
use native.Mathlib.Nat.{zero-add}
use native.Mathlib.Omega.{arith}
use mathlib.Core.Path.{◌≡◌, refl, sym, ap, ◌∙◌, subst}
use mathlib.Core.Bool.{Bool, true, false, not}
use mathlib.Core.List.{List, []}
use lib.Dec.{lit<}
use lib.ListN.{length, get_or, replicate}
use borrow.Author.Tests.{ltb-false, le-leb}
use Rattle.std.proofs.lemmas.List.{length-replicate, get_or-replicate}
use Rattle.util.proofs.Floats.{no}
use Rattle.std.specs.Prelude.{Ok, Err, None, is_err, Float}
use Rattle.geometry.specs.Geometry.{zero_rect, zero_size, zero_point}
use Rattle.geometry.specs.declared.Rect.{Rect}
use Rattle.refusal.specs.declared.Refusal.{Refusal}
use Rattle.style.specs.declared.Direction.TheVariants.{Ltr}
use Rattle.style.specs.declared.Overflow.TheVariants.{Visible}
use Rattle.style.specs.declared.ContainingBlockClaims.{ContainingBlockClaims}
use Rattle.tree.specs.declared.layout.OofCandidate.{OofCandidate}
use Rattle.records.specs.Records.{records, every, good_records}
use Rattle.tree_record.specs.Candidate.{candidate_width}
use Rattle.style_record.specs.Record.{items, item}
use Rattle.style_record.specs.Decode.{rect_at, size_at, style_of, style_at}
use Rattle.sweep.specs.Sweep.{first_candidates, candidates_in, keep, appended}
use Rattle.sweep.proofs.Steps.{appended_length}
use Rattle.sweep.proofs.Listed.{IsBelow}
use Rattle.oof_resolve.specs.declared.ContainingBlock.{ContainingBlock}
use Rattle.oof_box.specs.Cut.{no_replies}
use Rattle.run.specs.declared.Opening.{Opening}
use Rattle.run.specs.declared.Counts.{Counts}
use Rattle.run.specs.declared.Extents.{Extents}
use Rattle.run.specs.declared.Opened.{Opened}
use Rattle.run.specs.declared.Step.{Step}
use Rattle.run.specs.Call.{Lent, Outcome, unwritten}
use Rattle.run.specs.Refusals.{Verdict, accepted, refused, bad_area, bad_style, bad_candidate}
use Rattle.run.specs.Run.{claims_of, container_of, extents_of, asking, finishing, proceeding, opening_verdict, closed, begun, opened_by, opened}
use Rattle.std.proofs.lemmas.Bool.{or_parts}
use Rattle.run.proofs.Ways.{NextWay, asks, ends, next_way}
use Rattle.run.proofs.Refusals.{begun_accepts}
use Rattle.mirror_box.proofs.Contribution.{zero_rect_lem}
use Rattle.mirror_box.specs.Image as box
use Rattle.mirror_box.specs.Quarter.{QuarterContainer, QuarterStyle}
use Rattle.mirror_run.specs.Image.{image_opening, image_styles, image_candidates}
use Rattle.mirror_run.specs.Quarter.{QuarterArea, QuarterItem, QuarterTable, QuarterCandidates}
use Rattle.mirror_run.specs.Runs as runs
use Rattle.mirror_run.specs.Runs.{Each, none, Unclaimed, surfaced}
use Rattle.mirror_run.proofs.Styles.{direction_decoded, items_kept, no_ratio}
use Rattle.mirror_run.proofs.Lists.{nobody, each_length, each_at, each_kept}
use Rattle.mirror_run.proofs.Verdicts.{OpeningPassed, opening_passed, same_opening}
use Rattle.mirror_run.proofs.Claimed.{same_positions, all_ready, slice_back, front_good, opened_images}
use Rattle.mirror_run.proofs.Linked.{Frame, QuarterFrame, Shared, Own, outcome_of, Ready, Accepted, Lists, Linked, linked, both_are}
use Rattle.mirror_run.proofs.Next.{opened_of, leaving, proceeds_linked}

-- ---- what demand 3 asks, as the law of one box asks it

pub quarter_block : (o : Opening) → QuarterArea o.area → QuarterContainer (container_of o)
quarter_block o h = record { width = h.quarters.width; not_zero = h.not_zero; offset = h.quarters.x }

pub quarter_style : (styles : List ℕ) → bad_style styles ≡ false → (i : ℕ) → i < items styles → QuarterItem (item styles i) → QuarterStyle (style_at styles i)
unfolding style_at style_of rect_at size_at
quarter_style styles e i l h =
    record {
      inset = record { left = h.each 0 (lit< tt); right = h.each 1 (lit< tt) };
      margin = record { left = h.each 4 (lit< tt); right = h.each 5 (lit< tt) };
      padding = record { left = h.each 8 (lit< tt); right = h.each 9 (lit< tt) };
      border = record { left = h.each 12 (lit< tt); right = h.each 13 (lit< tt) };
      size = h.each 16 (lit< tt);
      min = h.each 18 (lit< tt);
      max = h.each 20 (lit< tt);
      ratio = no_ratio styles e i l h.ratio;
    }

opened_as : (o : Opening) (candidates : List ℕ) (lent : Lent) {v : Verdict} → opening_verdict o candidates lent ≡ v → opened o candidates lent ≡ opened_by v o candidates lent
unfolding opened
opened_as o candidates lent e = rw e refl

-- how many unclaimed records a run holds
abbrev held : Outcome → ℕ
held o = o.step.state.counts.filled.unclaimed

-- the next question, or the finish, fills no list
same_filled : (styles working : List ℕ) (run : Opened) (counts : Counts) (overflow : Rect Float)
    → (proceeding styles working run counts overflow).state.counts.filled.unclaimed ≡ counts.filled.unclaimed
unfolding asking finishing
same_filled styles working run counts overflow = go (next_way styles working run counts overflow)
  where
    go : NextWay styles working run counts overflow → (proceeding styles working run counts overflow).state.counts.filled.unclaimed ≡ counts.filled.unclaimed
    go (asks h e) = ap (λ (step : Step). step.state.counts.filled.unclaimed) e
    go (ends h e) = ap (λ (step : Step). step.state.counts.filled.unclaimed) e

-- so after the opening they are as it swept them
held_at_opening : (o : Opening) (candidates : List ℕ) (lent : Lent) → held (begun o candidates lent) ≡ length (keep (claims_of o) false (candidates_in candidates))
unfolding begun
held_at_opening o candidates lent = same_filled lent.styles _ _ _ zero_rect ∙ zero-add _

cleared : (n i : ℕ) → i < length {A = ℕ} (replicate n 0) → get_or {A = ℕ} (replicate n 0) i 0 ≤ 0
cleared n i h =
    let there : i < n = rw (sym (length-replicate {A = ℕ} n 0)) h in
    let e = get_or-replicate {A = ℕ} n i 0 0 there in
    omega (arith, e)

-- ---- both are opened

module _ (o : Opening) (candidates : List ℕ) (lent : Lent) (layouts working unclaimed tally : List ℕ) where
  abbrev pub frame : Frame
  frame = record { container = container_of o; styles = lent.styles; extents = extents_of lent; opening = opened o candidates lent }

  -- the image's slices
  abbrev pub image_lent : Lent
  image_lent = record { styles = image_styles lent.styles; layouts = layouts; working = working; unclaimed = unclaimed; tally = tally }

  abbrev image : List ℕ
  image = image_candidates o.area candidates

  module _ (same : extents_of lent ≡ extents_of image_lent) where
    kept_alike : (list : Bool) → length (keep (claims_of o) list (candidates_in candidates)) ≡ length (keep (claims_of o) list (candidates_in image))
    kept_alike list = each_length (each_kept (claims_of o) list (λ c c' e. e) (same_positions o.area candidates))

    same_verdict : opening_verdict o candidates lent ≡ opening_verdict (image_opening o) image image_lent
    same_verdict = same_opening o candidates lent image_lent refl same kept_alike

    -- ---- refused: both have the state of a finished run with all counts 0

    nobodys : ContainingBlock
    nobodys = record { area = record { size = zero_size; offset = zero_point }; direction = Ltr; overflow = record { x = Visible; y = Visible } }

    abbrev over : Shared
    over = record { progress = None; replies = no_replies; counts = record { filled = record { working = 0; unclaimed = 0 }; begun = 0; answered = 0 }; claims = record { absolute = false; fixed = false } }

    abbrev untouched : Lent → Own
    untouched lent = record { container = nobodys; overflow = zero_rect; layouts = lent.layouts; working = lent.working; unclaimed = lent.unclaimed; tally = lent.tally }

    no_records : (styles w : List ℕ) → bad_candidate styles w 0 ≡ false
    unfolding bad_candidate good_records every
    no_records styles w = rw (le-leb 0 (length w / candidate_width) (omega arith)) refl

    closed_as : (r : Refusal) → unwritten image_lent (record { state = closed image_lent; answer = Err r }) ≡ outcome_of frame over (untouched image_lent) (Err r)
    unfolding closed nobodys
    closed_as r = ap (λ (e : Extents). outcome_of (record { container = container_of o; styles = lent.styles; extents = e; opening = opened o candidates lent }) over (untouched image_lent) (Err r)) (sym same)

    turned_down : (r : Refusal) → opening_verdict o candidates lent ≡ refused r
        → Linked frame (unwritten lent (record { state = closed lent; answer = Err r })) (unwritten image_lent (record { state = closed image_lent; answer = Err r }))
    unfolding closed nobodys first_candidates records
    turned_down r d =
        rw (closed_as r)
        (linked over (untouched lent) (untouched image_lent)
        (record {
          lists =
              record {
                lengths = refl;
                lengths' = sym same;
                claimed = none;
                good = no_records lent.styles lent.working;
                good' = no_records (image_styles lent.styles) working;
                unclaimed = subst (λ (n : ℕ). Unclaimed o.area n [] []) (sym (ap held (opened_as o candidates lent d))) (surfaced none);
                tally = λ e. no (ap (λ (x : Outcome). is_err x.step.answer) (opened_as o candidates lent d)) e;
              };
          laid = λ i h. absurd (omega arith);
          overflow = zero_rect_lem;
          replies = record { keyword = tt; fill = tt };
          blocks = λ stage e. absurd (let z : ◌≡◌ {A = ℕ} 0 1 = cc in omega arith);
          within = λ e. no (ap (λ (x : Outcome). is_err x.step.answer) (opened_as o candidates lent d)) e;
        })
        runs.refused)

    -- ---- accepted

    abbrev by : ContainingBlockClaims
    by = claims_of o

    -- the candidates that go to a list
    abbrev in_list : Bool → List OofCandidate
    in_list list = keep by list (candidates_in candidates)

    abbrev in_image : Bool → List OofCandidate
    in_image list = keep by list (candidates_in image)

    -- what each run has for itself
    abbrev first : Own
    first = record { container = container_of o; overflow = zero_rect; layouts = lent.layouts; working = appended lent.working 0 (in_list true); unclaimed = appended lent.unclaimed 0 (in_list false); tally = replicate (length lent.tally) 0 }

    abbrev second : Own
    second =
        record { container = container_of (image_opening o); overflow = zero_rect; layouts = layouts; working = appended working 0 (in_image true); unclaimed = appended unclaimed 0 (in_image false); tally = replicate (length tally) 0 }

    abbrev counts : Counts
    counts = record { filled = record { working = length (in_list true); unclaimed = length (in_list false) }; begun = 0; answered = 0 }

    begun_first : begun o candidates lent ≡ leaving (proceeding lent.styles first.working (opened_of frame by first) counts zero_rect) first
    unfolding begun
    begun_first = rw (zero-add, zero-add) refl

    begun_as : begun (image_opening o) image image_lent ≡ leaving (proceeding (image_styles lent.styles) second.working (opened_of frame by second) counts zero_rect) second
    unfolding begun
    begun_as =
        alike (extents_of image_lent) (extents_of lent) (0 + length (in_image true)) (length (in_list true)) (0 + length (in_image false)) (length (in_list false)) (sym same) (zero-add _ ∙ sym (kept_alike true))
        (zero-add _ ∙ sym (kept_alike false))
      where
        with : Extents → ℕ → ℕ → Outcome
        with e m n =
            leaving
            (proceeding (image_styles lent.styles) second.working (record { container = second.container; claims = by; extents = e }) (record { filled = record { working = m; unclaimed = n }; begun = 0; answered = 0 }) zero_rect)
            second

        alike : (e e' : Extents) (m m' n n' : ℕ) → e ≡ e' → m ≡ m' → n ≡ n' → with e m n ≡ with e' m' n'
        alike e e' m m' n n' p q r = rw (p, q, r) refl

    module _ (area : QuarterArea o.area) (table : QuarterTable lent.styles) (quarter : QuarterCandidates candidates) where
      pub quarter_frame : QuarterFrame frame
      quarter_frame = record { container = quarter_block o area; style = λ e i h. quarter_style lent.styles e i h (table i h) }

      module _ (d : opening_verdict o candidates lent ≡ accepted) (passed : OpeningPassed o candidates lent) (passed' : OpeningPassed (image_opening o) image image_lent) where
        direction_there : o.direction < 2
        unfolding bad_area
        direction_there = let e = ltb-false 1 o.direction (or_parts _ _ (or_parts _ _ (or_parts _ _ passed.area).0).0).0 in omega arith

        image_block : container_of (image_opening o) ≡ box.image_container (container_of o)
        unfolding box.image_container
        image_block = rw (direction_decoded o.direction direction_there) refl

        ready : (list : Bool) → Each (Ready o.area (items lent.styles)) (in_list list) (in_image list)
        ready list =
            each_kept by list (λ c c' r. sym r.image.position) (all_ready (container_of o) (quarter_block o area) (items lent.styles) candidates passed.candidate quarter)

        image_back : (list : Bool) (w : List ℕ) → candidate_width * (0 + length (in_image list)) ≤ length w → first_candidates (length (in_list list)) (appended w 0 (in_image list)) ≡ in_image list
        image_back list w room = rw (kept_alike list) (slice_back by image w list room)

        claimed_there : (i : ℕ) → i < length (in_list true) → IsBelow (items lent.styles) (get_or (in_list true) i nobody)
        claimed_there i h = (each_at (ready true) i h).there

        image_there : (i : ℕ) → i < length (in_image true) → IsBelow (items lent.styles) (get_or (in_image true) i nobody)
        image_there i h =
            let r = each_at (ready true) i (rw (kept_alike true) h) in
            rw (r.image.node, r.image.layer) r.there

        lists : Lists frame counts.filled first second
        unfolding bad_candidate
        lists =
            record {
              lengths = rw (appended_length lent.working 0 (in_list true), appended_length lent.unclaimed 0 (in_list false), length-replicate {A = ℕ} (length lent.tally) 0) refl;
              lengths' = rw (appended_length working 0 (in_image true), appended_length unclaimed 0 (in_image false), length-replicate {A = ℕ} (length tally) 0) (sym same);
              claimed = rw (slice_back by candidates lent.working true passed.room.0, image_back true working passed'.room.0) (ready true);
              good = ap not (front_good lent.working (in_list true) passed.room.0 (items lent.styles) claimed_there);
              good' =
                  rw (items_kept lent.styles, kept_alike true)
                  (ap not (front_good working (in_image true) passed'.room.0 (items lent.styles) image_there));
              unclaimed = rw (slice_back by candidates lent.unclaimed false passed.room.1, image_back false unclaimed passed'.room.1)
                  (subst (λ (n : ℕ). Unclaimed o.area n (in_list false) (in_image false)) (sym (ap held (opened_as o candidates lent d) ∙ held_at_opening o candidates lent)) (opened_images (ready false)));
              tally = λ e. ap (λ (x : Extents). replicate x.tally 0) same;
            }

        took : Accepted frame
        took = ap (λ (x : Outcome). is_err x.step.answer) (opened_as o candidates lent d) ∙ begun_accepts o candidates lent

        begins : Linked frame (begun o candidates lent) (begun (image_opening o) image image_lent)
        begins =
            subst (λ (x : Outcome). Linked frame x (begun (image_opening o) image image_lent)) (sym begun_first)
            (subst (Linked frame _) (sym begun_as)
            (proceeds_linked frame quarter_frame passed.style by first second (refl, image_block, took) zero_rect_lem counts lists (λ i h. absurd (omega arith)) (λ e i h. cleared (length lent.tally) i h)))

      pub opened_linked : Linked frame (opened o candidates lent) (opened (image_opening o) image image_lent)
      opened_linked = go (opening_verdict o candidates lent) refl
        where
          go : (v : Verdict) → opening_verdict o candidates lent ≡ v → Linked frame (opened o candidates lent) (opened (image_opening o) image image_lent)
          go (Err r) e = both_are frame (opened_as o candidates lent e) (opened_as (image_opening o) image image_lent (sym same_verdict ∙ e)) (turned_down r e)
          go (Ok tt) e =
              both_are frame (opened_as o candidates lent e) (opened_as (image_opening o) image image_lent (sym same_verdict ∙ e))
              (begins e (opening_passed o candidates lent e) (opening_passed (image_opening o) image image_lent (sym same_verdict ∙ e)))
