-- A run and its image pass the same tests, and what an accepted call tells of its words. Assumes nothing.
use Rattle.std.specs.Prelude.{is_none}
use Prim.Native.Nat.{ℕ, zero, suc, ◌+◌, ◌*◌, ◌/◌, ◌<◌, ◌≤◌}
use native.Mathlib.Omega.{arith}
use mathlib.Core.Path.{◌≡◌, refl, sym, ap, ◌∙◌}
use mathlib.Core.Bool.{Bool, true, false, not, ◌||◌}
use mathlib.Core.List.{List}
use lib.Dec.{eqb, ltb}
use lib.ListN.{length}
use borrow.Author.Tests.{ltb-false, eqb-true, eqb-false, not-false}
use Rattle.util.proofs.Floats.{no}
use Rattle.refusal.specs.declared.Refusal.{Refusal}
use Rattle.refusal.specs.declared.Refusal.TheVariants.{BadArea, BadExtent, BadStyle, BadCandidate, ListFull, WrongReply}
use Rattle.style.specs.declared.ContainingBlockClaims.{ContainingBlockClaims}
use Rattle.records.specs.Records.{good_records}
use Rattle.records.proofs.Laws.{room_words}
use Rattle.tree_record.specs.Candidate.{candidate_width, candidate_kinds}
use Rattle.tree_record.specs.Layout.{layout_width}
use Rattle.style_record.specs.Record.{style_words, items}
use Rattle.sweep.specs.Sweep.{candidates_in, keep}
use Rattle.sweep.specs.declared.Filled.{Filled}
use Rattle.oof_box.specs.declared.question.Reply.{Reply}
use Rattle.run.specs.declared.Opening.{Opening}
use Rattle.run.specs.declared.Counts.{Counts}
use Rattle.run.specs.declared.Extents.{Extents}
use Rattle.run.specs.declared.State.{State}
use Rattle.run.specs.Call.{Lent, slices_of}
use Rattle.run.specs.Refusals.{accepted, ◌when◌else◌, bad_area, ragged, bad_table, bad_list, bad_slices, other_lengths, bad_tally, other_extents, lent_by, bad_style, bad_candidate, bad_candidates, list_full, any_above, wrong_counts}
use Rattle.run.specs.Run.{extents_of, claims_of, none_filled, opening_verdict, taken_by, reply_verdict}
use Rattle.std.proofs.lemmas.Bool.{or_parts}
use Rattle.run.proofs.Ways.{passed}
use Rattle.mirror_run.specs.Image.{image_opening, image_styles, image_candidates, image_candidate}
use Rattle.mirror_run.proofs.Words as words
use Rattle.mirror_run.proofs.Counterpart.{direction_code_lem}
use Rattle.mirror_run.proofs.Styles.{items_kept, same_check}
use Rattle.mirror_run.proofs.Candidates.{same_candidates}

-- ---- slices of the same lengths

module _ (lent lent' : Lent) (same : extents_of lent ≡ extents_of lent') where
  styles_long : length lent.styles ≡ length lent'.styles
  styles_long = ap (λ (e : Extents). e.styles) same

  layouts_long : length lent.layouts ≡ length lent'.layouts
  layouts_long = ap (λ (e : Extents). e.layouts) same

  working_long : length lent.working ≡ length lent'.working
  working_long = ap (λ (e : Extents). e.working) same

  unclaimed_long : length lent.unclaimed ≡ length lent'.unclaimed
  unclaimed_long = ap (λ (e : Extents). e.unclaimed) same

  tally_long : length lent.tally ≡ length lent'.tally
  tally_long = ap (λ (e : Extents). e.tally) same

  pub same_slices : bad_slices (slices_of lent) ≡ bad_slices (slices_of lent')
  unfolding bad_slices bad_table bad_list items
  same_slices = rw (styles_long, layouts_long, working_long, unclaimed_long) refl

  pub same_others : (e : Extents) → other_lengths e (slices_of lent) ≡ other_lengths e (slices_of lent')
  unfolding other_lengths
  same_others e = rw (styles_long, layouts_long, working_long, unclaimed_long) refl

  pub same_tally : bad_tally lent ≡ bad_tally lent'
  unfolding items
  same_tally = rw (styles_long, tally_long) refl

  -- test 2 of a reply, but for what it surfaces
  pub same_extent : (e : Extents)
      → (bad_slices (slices_of lent) || bad_tally lent || other_extents e lent) ≡ (bad_slices (slices_of lent') || bad_tally lent' || other_extents e lent')
  same_extent e = rw (same_slices, same_tally, same_others e, tally_long) refl

  -- where both tallies have a word above the count, or neither has
  pub same_wrong : (c : Counts) → any_above c.answered lent.tally ≡ any_above c.answered lent'.tally → wrong_counts lent c ≡ wrong_counts lent' c
  unfolding wrong_counts
  same_wrong c above = rw (working_long, unclaimed_long, above) refl

  pub same_full : (by : ContainingBlockClaims) (filled : Filled) (cs cs' : List ℕ)
      → ((list : Bool) → length (keep by list (candidates_in cs)) ≡ length (keep by list (candidates_in cs')))
      → list_full by lent filled cs ≡ list_full by lent' filled cs'
  unfolding list_full
  same_full by filled cs cs' kept = rw (working_long, unclaimed_long, kept true, kept false) refl

-- two tests in turn, the second where the first fails
pub or_alike : (a : Bool) {b b' : Bool} → (a ≡ false → b ≡ b') → (a || b) ≡ (a || b')
or_alike true f = refl
or_alike false f = f refl

-- ---- openings

same_area : (o : Opening) → bad_area (image_opening o) ≡ bad_area o
unfolding bad_area
same_area o = cc (direction_code_lem o.direction)

-- five tests in turn
pub same_order : (q r s t u : Refusal) {a a' b b' c c' d d' e e' : Bool} → a ≡ a' → b ≡ b' → c ≡ c' → d ≡ d' → e ≡ e'
    → (q when a else r when b else s when c else t when d else u when e else accepted)
    ≡ (q when a' else r when b' else s when c' else t when d' else u when e' else accepted)
same_order q r s t u f g h i j = rw (f, g, h, i, j) refl

module _ (styles styles' : List ℕ) (image : styles' ≡ image_styles styles) where
  same_styles : bad_style styles ≡ bad_style styles'
  same_styles = sym (ap bad_style image ∙ same_check styles)

  same_items : items styles ≡ items styles'
  same_items = sym (ap items image ∙ items_kept styles)

-- a list is held against the number of items only
alike : (styles styles' list : List ℕ) → items styles ≡ items styles' → bad_candidates styles list ≡ bad_candidates styles' list
unfolding bad_candidate
alike styles styles' list e = rw e refl

module _ (o : Opening) (candidates : List ℕ) (lent lent' : Lent) (image : lent'.styles ≡ image_styles lent.styles) (same : extents_of lent ≡ extents_of lent') where
  pub same_opening : ((list : Bool) → length (keep (claims_of o) list (candidates_in candidates)) ≡ length (keep (claims_of o) list (candidates_in (image_candidates o.area candidates))))
      → opening_verdict o candidates lent ≡ opening_verdict (image_opening o) (image_candidates o.area candidates) lent'
  unfolding opening_verdict bad_candidate
  same_opening kept =
      same_order BadArea BadExtent BadStyle BadCandidate ListFull (sym (same_area o))
      (rw (same_slices lent lent' same, same_tally lent lent' same, words.each_length candidate_width (image_candidate o.area) candidates) refl)
      (same_styles lent.styles lent'.styles image)
      (rw (← same_items lent.styles lent'.styles image, same_candidates o.area candidates (items lent.styles)) refl)
      (same_full lent lent' same (claims_of o) none_filled candidates (image_candidates o.area candidates) kept)

-- ---- replies

module _ (s s' : State) (reply : Reply) (surfaced : List ℕ) (lent lent' : Lent) (image : lent'.styles ≡ image_styles lent.styles) (same : extents_of lent ≡ extents_of lent') where
  pub same_reply : s.opened.extents ≡ s'.opened.extents → s.opened.claims ≡ s'.opened.claims → s.counts ≡ s'.counts → taken_by s reply ≡ taken_by s' reply
      → (is_none (taken_by s reply) ≡ false → any_above s.counts.answered lent.tally ≡ any_above s.counts.answered lent'.tally)
      → bad_candidate lent.styles lent.working s.counts.filled.working ≡ bad_candidate lent'.styles lent'.working s'.counts.filled.working
      → reply_verdict s reply surfaced lent ≡ reply_verdict s' reply surfaced lent'
  unfolding reply_verdict
  same_reply extents claims counts taken above good =
      same_order BadExtent WrongReply BadStyle BadCandidate ListFull
      (rw (extents, same_extent lent lent' same s'.opened.extents) refl)
      (or_alike (is_none (taken_by s reply)) (λ e. same_wrong lent lent' same s.counts (above e)) ∙ rw (taken, counts) refl)
      (same_styles lent.styles lent'.styles image)
      (rw good (ap (λ (b : Bool). bad_candidate lent'.styles lent'.working s'.counts.filled.working || b) surfaced_alike))
      (rw (claims, counts) (same_full lent lent' same s'.opened.claims s'.counts.filled (lent_by reply surfaced) (lent_by reply surfaced) (λ list. refl)))
    where
      surfaced_alike : bad_candidates lent.styles (lent_by reply surfaced) ≡ bad_candidates lent'.styles (lent_by reply surfaced)
      surfaced_alike = alike lent.styles lent'.styles (lent_by reply surfaced) (same_items lent.styles lent'.styles image)

-- ---- what an accepted call tells

first : (a b c : Bool) → (a || b || c) ≡ false → a ≡ false
first true b c e = no refl e
first false b c e = refl

slices_passed : (lent : Lent) → bad_slices (slices_of lent) ≡ false → length lent.layouts ≡ layout_width * items lent.styles
unfolding bad_slices bad_table
slices_passed lent e =
    let n = items lent.styles in
    eqb-true (length lent.layouts) (layout_width * n)
    (third (ragged style_words lent.styles) (ltb 1024 n) (eqb (length lent.layouts) (layout_width * n))
    (first (bad_table lent.styles lent.layouts) (bad_list lent.working) (bad_list lent.unclaimed) e))
  where
    third : (a b c : Bool) → (a || b || not c) ≡ false → c ≡ true
    third true b c e = no refl e
    third false true c e = no refl e
    third false false c e = not-false c e

-- there is room for what goes to a list
abbrev pub Room : ContainingBlockClaims → Lent → Filled → List ℕ → Type 0
Room by lent filled cs =
    (candidate_width * (filled.working + length (keep by true (candidates_in cs))) ≤ length lent.working)
    × (candidate_width * (filled.unclaimed + length (keep by false (candidates_in cs))) ≤ length lent.unclaimed)

room_passed : (by : ContainingBlockClaims) (lent : Lent) (filled : Filled) (cs : List ℕ) → list_full by lent filled cs ≡ false → Room by lent filled cs
unfolding list_full
room_passed by lent filled cs e =
    let b = or_parts _ _ e in
    (room_words candidate_width (length lent.working) filled.working _ (not-false _ b.0), room_words candidate_width (length lent.unclaimed) filled.unclaimed _ (not-false _ b.1))

pub record OpeningPassed (o : Opening) (candidates : List ℕ) (lent : Lent) : Type 0 where
  pub area : bad_area o ≡ false
  pub layouts : length lent.layouts ≡ layout_width * items lent.styles
  pub style : bad_style lent.styles ≡ false
  pub candidate : good_records (candidate_kinds (items lent.styles)) candidates (length candidates / candidate_width) ≡ true
  pub room : Room (claims_of o) lent none_filled candidates

pub opening_passed : (o : Opening) (candidates : List ℕ) (lent : Lent) → opening_verdict o candidates lent ≡ accepted → OpeningPassed o candidates lent
unfolding opening_verdict bad_candidate
opening_passed o candidates lent e =
    let area = passed BadArea _ _ e in
    let extent = passed BadExtent _ _ area.1 in
    let style = passed BadStyle _ _ extent.1 in
    let candidate = passed BadCandidate _ _ style.1 in
    record {
      area = area.0;
      layouts = slices_passed lent (or_parts _ _ (or_parts _ _ extent.0).0).0;
      style = style.0;
      candidate = not-false _ candidate.0;
      room = room_passed (claims_of o) lent none_filled candidates (passed ListFull _ _ candidate.1).0;
    }

pub record ReplyPassed (s : State) (reply : Reply) (surfaced : List ℕ) (lent : Lent) : Type 0 where
  pub layouts : length lent.layouts ≡ layout_width * items lent.styles
  pub style : bad_style lent.styles ≡ false
  pub begun : 0 < s.counts.begun
  pub waiting : s.counts.begun ≤ s.counts.filled.working
  pub room : Room s.opened.claims lent s.counts.filled (lent_by reply surfaced)

counts_passed : (lent : Lent) (c : Counts) → wrong_counts lent c ≡ false → (0 < c.begun) × (c.begun ≤ c.filled.working)
unfolding wrong_counts
counts_passed lent c e =
    let b =
    middle (ltb (length lent.working / candidate_width) c.filled.working) (ltb (length lent.unclaimed / candidate_width) c.filled.unclaimed) (eqb c.begun 0)
    (ltb c.filled.working c.begun) (ltb (3 * c.begun) c.answered) (or_parts _ (any_above c.answered lent.tally) e).0 in
    (positive c.begun (eqb-false c.begun 0 b.0), ltb-false c.filled.working c.begun b.1)
  where
    middle : (a b c d f : Bool) → (a || b || c || d || f) ≡ false → (c ≡ false) × (d ≡ false)
    middle true b c d f e = no refl e
    middle false true c d f e = no refl e
    middle false false true d f e = no refl e
    middle false false false true f e = no refl e
    middle false false false false f e = (refl, refl)

    positive : (n : ℕ) → (n ≡ 0 → ⊥) → 0 < n
    positive zero f = absurd (f refl)
    positive (suc n) f = omega arith

pub reply_passed : (s : State) (reply : Reply) (surfaced : List ℕ) (lent : Lent) → reply_verdict s reply surfaced lent ≡ accepted → ReplyPassed s reply surfaced lent
unfolding reply_verdict
reply_passed s reply surfaced lent e =
    let extent = passed BadExtent _ _ e in
    let wrong = passed WrongReply _ _ extent.1 in
    let style = passed BadStyle _ _ wrong.1 in
    let counts = counts_passed lent s.counts (or_parts (is_none (taken_by s reply)) (wrong_counts lent s.counts) wrong.0).1 in
    record {
      layouts =
          slices_passed lent (or_parts _ _ (or_parts _ _ (or_parts _ _ extent.0).0).0).0;
      style = style.0;
      begun = counts.0;
      waiting = counts.1;
      room = room_passed s.opened.claims lent s.counts.filled (lent_by reply surfaced) (passed ListFull _ _ (passed BadCandidate _ _ style.1).1).0;
    }
