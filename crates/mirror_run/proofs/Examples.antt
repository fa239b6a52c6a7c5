-- The theorem on a screen that is computed, and screens on which it fails, each for want of one thing that it asks. Assumes nothing.
use Prim.Native.Nat.{ℕ, ◌+◌}
use native.Mathlib.Omega.{arith}
use mathlib.Core.Logic.{inr}
use mathlib.Core.Path.{◌≡◌, refl, sym, ap, ◌∙◌}
use mathlib.Core.Bool.{true, false}
use mathlib.Core.List.{List, [], ◌∷◌}
use lib.Ieee.{eq, of_bits}
use Rattle.std.specs.Prelude.{sum, Result}
use Rattle.util.specs.Number.{0f}
use Rattle.util.proofs.Floats.{no}
use Rattle.style.specs.declared.available_space.AvailableSpace.{AvailableSpace}
use Rattle.records.specs.Records.{every, record_at, records}
use Rattle.tree.specs.declared.layout.OofPositioningArea.{OofPositioningArea}
use Rattle.style_record.specs.Record.{items}
use Rattle.style_record.specs.Decode.{length_at}
use Rattle.tree_record.specs.Candidate.{candidate_of, axis_of}
use Rattle.sweep.specs.Sweep.{first_candidates, candidates_in, claimed, keep}
use Rattle.oof_box.specs.declared.question.Reply.{Reply}
use Rattle.oof_box.specs.declared.question.Stage.TheVariants as stage
use Rattle.refusal.specs.declared.Refusal.{Refusal}
use Rattle.run.specs.declared.Opening.{Opening}
use Rattle.run.specs.declared.Answer.{Answer}
use Rattle.run.specs.declared.State.{State}
use Rattle.run.specs.Call.{Outcome}
use Rattle.run.specs.Refusals.{lent_by}
use Rattle.run.specs.Run.{opened}
use Rattle.run.specs.Theorems.{own}
use Rattle.util_exact.specs.Value.{◌≐◌, Quarter, Quarters}
use Rattle.mirror_box.specs.Mirrored.{SameSpace, definite, min_content, max_content, measure_both, measure_width, measure_height, lay_out}
use Rattle.mirror_run.specs.Image.{listed, each_record}
use Rattle.mirror_run.specs.Quarter.{AreaInQuarters, QuarterArea, QuarterTable, QuarterCandidates, QuarterReply}
use Rattle.mirror_run.specs.Runs.{Message, is_unread, LendsAbove, ForTally, Alike, Fair, AllFair, SameAnswer, ask, finish, refused, MirroredRuns}
use Rattle.mirror_run.proofs.Decided.{quarter_decided, table_decided, candidates_decided}
use Rattle.mirror_run.proofs.Unread.{accepted_read}
use Rattle.mirror_run.proofs.Mirror.{mirror}
use Rattle.mirror_run.proofs.Screens.{word, turn, nothing, panel, table, four, lent, lent', wrong_kind, miscounted, surfaces_fixed, measured, measured_again, laid_out, wrong_lengths, replies, after, image_after, ran, image_ran, unflipped, still, content, tenths, ahead, at_start, centered, up_to, narrow, small, wide, aside, far, surfacing, tenth, shorter, bad_table, above, unknown_claims, sevens, nines, kept, image_kept, number, definite_in, told, Differ, computed}

nought : Quarter (word 0)
unfolding of_bits
nought = quarter_decided (word 0) refl

-- ---- one screen meets all that the theorem asks

-- of a reply that is refused with 2 or 6, no more is asked than kind, values and lengths, and a word above the count where it is refused for one
unread_fair : {before : State} {a : Result Answer Refusal} (m : Message) → is_unread a ≡ true → Alike before.opened.extents m.turn m.image
    → (ForTally before a m.turn → LendsAbove before.counts m.image.loan)
    → Fair before a m
unread_fair {before} {a} m u alike tally =
    record {
      alike = alike;
      words = λ e. no u e;
      tally = tally;
      quarters = λ e. no u (accepted_read a e);
      surfaces_none = λ e. no u (accepted_read a e);
    }

-- the same reply to both, with their own slices
own_fair : {before : State} {a : Result Answer Refusal} (reply : Reply) (surfaced surfaced' : List ℕ) → lent_by reply surfaced ≡ lent_by reply surfaced' → QuarterReply reply
    → claimed before.opened.claims (candidates_in (lent_by reply surfaced)) ≡ []
    → Fair before a (record { turn = turn reply surfaced own; image = turn reply surfaced' own })
own_fair reply surfaced surfaced' same quarters unclaimed =
    record {
      alike = record { reply = refl; surfaced = rw same refl; slices = refl };
      words = λ e. record { slices = refl; image_slices = refl; surfaced = same };
      tally = λ w. w.above;
      quarters = λ e. quarters;
      surfaces_none = λ e. unclaimed;
    }

all_fair : AllFair table (opened panel four lent) replies
unfolding of_bits first_candidates candidates_in keep records
all_fair =
    let zeros : QuarterReply nothing = (nought, nought, nought, nought) in
    let brought = surfaces_fixed.turn.heard.surfaced in
    let width = quarter_decided (word 1101135872) refl in
    let one = unread_fair wrong_kind computed.kind (record { reply = refl; surfaced = refl; slices = refl }) (λ w. absurd (w.asked (inr (stage.LayOut, computed.waiting, λ k. absurd cc)))) in
    let two = unread_fair miscounted computed.count (record { reply = refl; surfaced = refl; slices = refl }) (λ w. (0, omega arith, rw computed.none_answered (omega arith))) in
    let three = own_fair nothing brought brought refl zeros computed.free in
    let fourth = own_fair measured.turn.heard.reply (1 ∷ []) (2 ∷ []) refl width refl in
    let five = own_fair measured_again.turn.heard.reply [] [] refl (width, quarter_decided (word 1092616192) refl) refl in
    let six = own_fair nothing [] [] refl zeros refl in
    let seven = unread_fair wrong_lengths computed.lengths (record { reply = refl; surfaced = refl; slices = refl }) (λ w. absurd (two_not_six (sym computed.longer ∙ ap number w.wrong))) in
    let eight = own_fair nothing [] [] refl zeros refl in
    (one, (two, (three, (fourth, (five, (six, (seven, (eight, tt))))))))
  where
    two_not_six : ◌≡◌ {A = ℕ} 22 26 → ⊥
    two_not_six e = omega (arith, e)

quarter_panel : QuarterArea panel.area
unfolding of_bits eq
quarter_panel =
    record {
      quarters = record { width = quarter_decided (word 1120403456) refl; height = quarter_decided (word 1112014848) refl; x = quarter_decided (word 1090519040) refl; y = nought };
      not_zero = λ e. no e refl;
    }

-- so it is mirrored, at the end and on the way; one unclaimed record is the opening's
met : (MirroredRuns panel.area (after []) (after replies) (image_after replies))
    × MirroredRuns panel.area (after []) (after (wrong_kind ∷ miscounted ∷ surfaces_fixed ∷ [])) (image_after (wrong_kind ∷ miscounted ∷ surfaces_fixed ∷ []))
unfolding of_bits every items length_at record_at candidate_of axis_of listed each_record
met = (at_end, on_the_way)
  where
    quarter_table : QuarterTable table
    quarter_table = table_decided table refl

    quarter_four : QuarterCandidates four
    quarter_four = candidates_decided four refl

    at_end : MirroredRuns panel.area (after []) (after replies) (image_after replies)
    at_end = mirror panel four lent lent' replies [] quarter_panel quarter_table quarter_four refl refl all_fair

    on_the_way : MirroredRuns panel.area (after []) (after (wrong_kind ∷ miscounted ∷ surfaces_fixed ∷ [])) (image_after (wrong_kind ∷ miscounted ∷ surfaces_fixed ∷ []))
    on_the_way =
        mirror panel four lent lent' (wrong_kind ∷ miscounted ∷ surfaces_fixed ∷ []) (measured ∷ measured_again ∷ laid_out ∷ wrong_lengths ∷ laid_out ∷ []) quarter_panel quarter_table
        quarter_four refl refl all_fair

-- ---- what it asks is needed: each screen has all but one thing

same_space : {s s' : AvailableSpace} → SameSpace s s' → definite_in s ≐ definite_in s'
unfolding eq of_bits
same_space (definite e) = e
same_space min_content = refl
same_space max_content = refl

-- the same answers tell the same number
same_told : {a a' : Result Answer Refusal} → SameAnswer a a' → told a ≐ told a'
unfolding eq of_bits
same_told (ask (measure_both m)) = same_space m.space.width
same_told (ask (measure_width m)) = same_space m.space.width
same_told (ask (measure_height m)) = same_space m.space.width
same_told (ask (lay_out l)) = same_space l.space.width
same_told (finish r c) = r.left
same_told refused = refl

abbrev Fails : Opening → List ℕ → List ℕ → List Message → Type 0
Fails o styles candidates messages = (opening : Outcome) → MirroredRuns o.area opening (ran o styles candidates messages) (image_ran o styles candidates messages) → ⊥

fails : {o : Opening} {styles candidates : List ℕ} {messages : List Message} {x x' : ℕ} → Differ o styles candidates messages x x' → Fails o styles candidates messages
fails d opening h = no (same_told h.answer) d.differ

quarter_still : QuarterTable still
unfolding of_bits every items length_at
quarter_still = table_decided still refl

quarter_at_start : QuarterCandidates at_start
unfolding of_bits every record_at candidate_of axis_of
quarter_at_start = candidates_decided at_start refl

quarter_small : QuarterArea small.area
unfolding of_bits eq
quarter_small = record { quarters = record { width = quarter_decided (word 1048576000) refl; height = quarter_decided (word 1048576000) refl; x = nought; y = nought }; not_zero = λ e. no e refl }

quarter_wide : QuarterArea wide.area
unfolding of_bits eq
quarter_wide = record { quarters = record { width = quarter_decided (word 1083179008) refl; height = quarter_decided (word 1048576000) refl; x = nought; y = nought }; not_zero = λ e. no e refl }

-- an area whose width isn't 0: in one of 0 the run offers 0.5 and its image 0
width_needed :
    (AreaInQuarters narrow.area × QuarterTable still × QuarterCandidates centered)
    × Fails narrow still centered []
unfolding of_bits every record_at candidate_of axis_of
width_needed = ((record { width = nought; height = nought; x = nought; y = nought }, quarter_still, candidates_decided centered refl), fails computed.width_zero)

-- all that is asked of an area but for its offset across
pub record ButOffset (area : OofPositioningArea) : Type 0 where
  pub width : Quarter area.size.width
  pub height : Quarter area.size.height
  pub y : Quarter area.offset.y
  pub not_zero : area.size.width ≐ 0f → ⊥

-- an area of whole quarter pixels: at 0.1 they differ
quarter_areas_needed : (ButOffset aside.area × QuarterTable still × QuarterCandidates at_start) × Fails aside still at_start []
unfolding of_bits eq
quarter_areas_needed = ((rest, quarter_still, quarter_at_start), fails computed.area)
  where
    rest : ButOffset aside.area
    rest = record { width = quarter_decided (word 1056964608) refl; height = quarter_decided (word 1048576000) refl; y = nought; not_zero = λ e. no e refl }

-- of size 4,096 at most: at 2,097,152, which is whole quarter pixels, they differ
bound_needed : (ButOffset far.area × Quarters 8388608 far.area.offset.x × QuarterTable still × QuarterCandidates at_start) × Fails far still at_start []
unfolding of_bits eq
bound_needed = ((rest, far_away, quarter_still, quarter_at_start), fails computed.bound)
  where
    rest : ButOffset far.area
    rest = record { width = quarter_small.quarters.width; height = quarter_small.quarters.height; y = nought; not_zero = λ e. no e refl }

    far_away : Quarters 8388608 far.area.offset.x
    far_away = record { sign = false; k = 8388608; value = (refl, refl); small = omega arith }

-- lengths of whole quarter pixels
quarter_lengths_needed : (QuarterArea small.area × QuarterCandidates at_start) × Fails small tenths at_start []
quarter_lengths_needed = ((quarter_small, quarter_at_start), fails computed.length)

-- candidates' areas of whole quarter pixels
quarter_candidates_needed : (QuarterArea wide.area × QuarterTable still) × Fails wide still up_to []
quarter_candidates_needed = ((quarter_wide, quarter_still), fails computed.place)

-- replies of whole quarter pixels: both are given 0.1, with their own slices
quarter_replies_needed : (QuarterArea small.area × QuarterTable content × QuarterCandidates at_start) × Fails small content at_start tenth
unfolding of_bits every items length_at
quarter_replies_needed = ((quarter_small, table_decided content refl, quarter_at_start), fails computed.reply)

-- no surfaced box that is claimed: the run offers it 0.25 and its image 0
no_surfaced_needed : (QuarterArea small.area × QuarterTable still × QuarterCandidates at_start) × Fails small still at_start surfacing
no_surfaced_needed = ((quarter_small, quarter_still, quarter_at_start), fails computed.surfaced)

-- the image of the styles: a box that stands 1 before the left edge stands there in both over the same styles, and is before the start
-- edge in one only
image_styles_needed :
    (QuarterArea wide.area × QuarterTable ahead × QuarterCandidates at_start)
    × ((opening : Outcome) → MirroredRuns wide.area opening (ran wide ahead at_start (laid_out ∷ [])) (unflipped wide ahead at_start (laid_out ∷ [])) → ⊥)
unfolding of_bits every items length_at
image_styles_needed = ((quarter_wide, table_decided ahead refl, quarter_at_start), λ opening h. no (same_told h.answer) computed.left_differs)

-- the same answers have the same number
same_number : {a a' : Result Answer Refusal} → SameAnswer a a' → number a ≡ number a'
same_number (ask q) = refl
same_number (finish r c) = ap (λ (n : ℕ). 10 + n) c
same_number refused = refl

-- slices that are as long in both: the run finishes, and its image, which alone is lent others, is refused with 2
same_lengths_needed : (QuarterArea small.area × QuarterTable still × QuarterCandidates at_start) × Fails small still at_start shorter
same_lengths_needed = ((quarter_small, quarter_still, quarter_at_start), λ opening h. eleven (sym computed.slices ∙ same_number h.answer ∙ computed.image_slices))
  where
    eleven : ◌≡◌ {A = ℕ} 11 22 → ⊥
    eleven e = omega (arith, e)

-- the run's own words, but for a call that is refused with 2 or 6: the run, which alone is lent others, is refused with 3, and its image
-- finishes
own_words_needed : (QuarterArea small.area × QuarterTable still × QuarterCandidates at_start) × Fails small still at_start bad_table
own_words_needed = ((quarter_small, quarter_still, quarter_at_start), λ opening h. eleven (sym computed.table ∙ same_number h.answer ∙ computed.image_table))
  where
    eleven : ◌≡◌ {A = ℕ} 23 11 → ⊥
    eleven e = omega (arith, e)

-- a word above the count for both: the run, which alone is lent one, is refused with 6, and its image finishes. All else that is asked of the
-- reply holds
tally_needed :
    (QuarterArea small.area × QuarterTable still × QuarterCandidates at_start)
    × (let before = (ran small still at_start []).step.state in
    let answer = (ran small still at_start (above ∷ [])).step.answer in
    (ForTally before answer above.turn → LendsAbove before.counts above.image.loan) → Fair before answer above)
    × Fails small still at_start (above ∷ [])
tally_needed = (
  (quarter_small, quarter_still, quarter_at_start),
  unread_fair above computed.over_unread (record { reply = refl; surfaced = refl; slices = computed.as_long }),
  λ opening h. eleven (sym computed.over ∙ same_number h.answer ∙ computed.image_over),
)
  where
    eleven : ◌≡◌ {A = ℕ} 26 11 → ⊥
    eleven e = omega (arith, e)

-- an opening that isn't refused, for equal tallies: after one that is refused all else holds, but the run's word is still 7, and its image's 9
accepted_needed :
    (QuarterArea unknown_claims.area × QuarterTable still × QuarterCandidates at_start)
    × MirroredRuns unknown_claims.area kept kept image_kept
    × (kept.tally ≡ image_kept.tally → ⊥)
unfolding listed each_record
accepted_needed = (
  (quarter_small, quarter_still, quarter_at_start),
  mirror unknown_claims at_start sevens nines [] [] quarter_small quarter_still quarter_at_start refl refl tt,
  λ e. seven (sym computed.refused_tally ∙ e ∙ computed.image_refused_tally),
)
  where
    seven : ◌≡◌ {A = List ℕ} (7 ∷ []) (9 ∷ []) → ⊥
    seven e = omega (arith, ap sum e)
