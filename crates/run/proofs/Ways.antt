-- What a call comes to, by cases: the one place where the definitions of `specs/Run.antt` are taken apart. Assumes nothing.
use Rattle.std.specs.Prelude.{Option, None, Some, Ok, Err, Float}
use Prim.Native.Nat.{ℕ, ◌+◌, ◌*◌, ◌/◌, ◌<◌, ◌≤◌}
use native.Mathlib.Omega.{arith}
use mathlib.Core.Path.{◌≡◌, refl, ap}
use mathlib.Core.Bool.{Bool, true, false, ◌||◌}
use mathlib.Core.List.{List}
use lib.Dec.{eqb, ltb}
use lib.ListN.{length}
use borrow.Author.Tests.{ltb-true, ltb-false, eqb-false, leb-true, not-false}
use Rattle.std.proofs.lemmas.Bool.{or_parts}
use Rattle.util.proofs.Floats.{no}
use Rattle.geometry.specs.declared.Rect.{Rect}
use Rattle.refusal.specs.declared.Refusal.{Refusal}
use Rattle.refusal.specs.declared.Refusal.TheVariants.{WrongReply}
use Rattle.style.specs.declared.ContainingBlockClaims.{ContainingBlockClaims}
use Rattle.records.specs.Records.{room}
use Rattle.tree_record.specs.Candidate.{candidate_width}
use Rattle.sweep.specs.Sweep.{candidates_in, keep}
use Rattle.sweep.specs.declared.Filled.{Filled}
use Rattle.oof_box.specs.Cut.{no_replies, taken}
use Rattle.oof_box.specs.declared.question.Reply.{Reply}
use Rattle.oof_box.specs.declared.question.Reply.TheVariants as reply
use Rattle.oof_box.specs.declared.question.Stage.{Stage}
use Rattle.oof_box.specs.declared.question.Stage.TheVariants.{KeywordBoth, KeywordWidth, KeywordHeight, Fill, LayOut}
use Rattle.oof_box.specs.declared.question.Replies.{Replies}
use Rattle.oof_box.specs.declared.question.Taken.{Taken}
use Rattle.oof_box.specs.declared.question.Taken.TheVariants.{Kept, Laid}
use Rattle.run.specs.declared.Opening.{Opening}
use Rattle.run.specs.declared.Counts.{Counts}
use Rattle.run.specs.declared.Opened.{Opened}
use Rattle.run.specs.declared.State.{State}
use Rattle.run.specs.Call.{Slices, Lent, slices_of, unwritten}
use Rattle.run.specs.Refusals.{Verdict, accepted, ◌when◌else◌, ragged, bad_table, bad_slices, bad_list, list_full, lent_by, any_above, wrong_counts}
use Rattle.run.specs.Run.{asking, finishing, proceeding, closed, begun, opened, claims_of, none_filled, opening_verdict, measured_on, laid_out, refusing, reply_verdict, taken_in, taken_by, replied}

-- ---- the next box, or the finish

abbrev pub one_more : Counts → Counts
one_more counts = record { filled = counts.filled; begun = counts.begun + 1; answered = counts.answered }

pub data NextWay (styles working : List ℕ) (run : Opened) (counts : Counts) (overflow : Rect Float) : Type 0 where
  asks :
      counts.begun < counts.filled.working
      → proceeding styles working run counts overflow ≡ asking styles working run (one_more counts) overflow no_replies
      → NextWay styles working run counts overflow
  ends :
      counts.filled.working ≤ counts.begun
      → proceeding styles working run counts overflow ≡ finishing run counts overflow
      → NextWay styles working run counts overflow

pub next_way : (styles working : List ℕ) (run : Opened) (counts : Counts) (overflow : Rect Float) → NextWay styles working run counts overflow
unfolding proceeding
next_way styles working run counts overflow = go (ltb counts.begun counts.filled.working) refl
  where
    go : (b : Bool) → ltb counts.begun counts.filled.working ≡ b → NextWay styles working run counts overflow
    go true e = asks (ltb-true counts.begun counts.filled.working e) (rw e refl)
    go false e = ends (ltb-false counts.begun counts.filled.working e) (rw e refl)

-- ---- an opening

pub data OpeningWay (o : Opening) (candidates : List ℕ) (lent : Lent) : Type 0 where
  turned_down : (r : Refusal) → opened o candidates lent ≡ unwritten lent (record { state = closed lent; answer = Err r }) → OpeningWay o candidates lent
  begins : opening_verdict o candidates lent ≡ accepted → opened o candidates lent ≡ begun o candidates lent → OpeningWay o candidates lent

pub opening_way : (o : Opening) (candidates : List ℕ) (lent : Lent) → OpeningWay o candidates lent
unfolding opened
opening_way o candidates lent = go (opening_verdict o candidates lent) refl
  where
    go : (v : Verdict) → opening_verdict o candidates lent ≡ v → OpeningWay o candidates lent
    go (Ok tt) e = begins e (rw e refl)
    go (Err r) e = turned_down r (rw e refl)

-- ---- a reply

pub data ReplyWay (s : State) (reply : Reply) (surfaced : List ℕ) (lent : Lent) : Type 0 where
  turned_down : (r : Refusal) → replied s reply surfaced lent ≡ refusing s lent r → ReplyWay s reply surfaced lent
  measures :
      (replies : Replies) → reply_verdict s reply surfaced lent ≡ accepted → taken_by s reply ≡ Some (Kept replies)
      → replied s reply surfaced lent ≡ measured_on s replies lent
      → ReplyWay s reply surfaced lent
  lays_out :
      (overflow : Rect Float) → reply_verdict s reply surfaced lent ≡ accepted → taken_by s reply ≡ Some (Laid overflow)
      → replied s reply surfaced lent ≡ laid_out s overflow surfaced lent
      → ReplyWay s reply surfaced lent

pub reply_way : (s : State) (reply : Reply) (surfaced : List ℕ) (lent : Lent) → ReplyWay s reply surfaced lent
unfolding replied
reply_way s reply surfaced lent = go (reply_verdict s reply surfaced lent) (taken_by s reply) refl refl
  where
    go : (v : Verdict) (t : Option Taken) → reply_verdict s reply surfaced lent ≡ v → taken_by s reply ≡ t → ReplyWay s reply surfaced lent
    go (Err r) t d e = turned_down r (rw d refl)
    go (Ok tt) None d e = turned_down WrongReply (rw (d, e) refl)
    go (Ok tt) (Some (Kept replies)) d e = measures replies d e (rw (d, e) refl)
    go (Ok tt) (Some (Laid overflow)) d e = lays_out overflow d e (rw (d, e) refl)

-- ---- what an accepted call has passed

pub passed : (r : Refusal) (test : Bool) (rest : Verdict) → r when test else rest ≡ accepted → (test ≡ false) × (rest ≡ accepted)
unfolding ◌when◌else◌
passed r true rest e = no {b = true} refl (ap is_accepted e)
  where
    is_accepted : Verdict → Bool
    is_accepted (Ok tt) = false
    is_accepted (Err r) = true
passed r false rest e = (refl, e)

-- the working list has room, counted in records
enough : (by : ContainingBlockClaims) (lent : Lent) (filled : Filled) (candidates : List ℕ) → list_full by lent filled candidates ≡ false
    → filled.working + length (keep by true (candidates_in candidates)) ≤ length lent.working / candidate_width
unfolding list_full room
enough by lent filled candidates e =
    leb-true (filled.working + length (keep by true (candidates_in candidates))) (length lent.working / candidate_width)
    (not-false _ (or_parts _ _ e).0)

-- a list that is not bad is of no more than 4,096 records
pub few_records : (list : List ℕ) → bad_list list ≡ false → length list / candidate_width ≤ 4096
unfolding bad_list
few_records list e = ltb-false 4096 (length list / candidate_width) (or_parts (ragged candidate_width list) _ e).1

-- so is the working list
at_most : (lent : Slices) → bad_slices lent ≡ false → length lent.working / candidate_width ≤ 4096
unfolding bad_slices
at_most lent e =
    let table = bad_table lent.styles lent.layouts in
    let first = (or_parts (table || bad_list lent.working) _ e).0 in
    few_records lent.working (or_parts table (bad_list lent.working) first).1

-- at an opening
pub opening_room : (o : Opening) (candidates : List ℕ) (lent : Lent) → opening_verdict o candidates lent ≡ accepted
    → (length (keep (claims_of o) true (candidates_in candidates)) ≤ length lent.working / candidate_width)
    × (length lent.working / candidate_width ≤ 4096)
unfolding opening_verdict
opening_room o candidates lent e =
    let past1 = (passed _ _ _ e).1 in
    let past2 = passed _ _ _ past1 in
    let past5 = passed _ _ _ (passed _ _ _ (passed _ _ _ past2.1).1).1 in
    let h = enough (claims_of o) lent none_filled candidates past5.0 in
    (omega arith, at_most (slices_of lent) (or_parts (bad_slices (slices_of lent)) _ (or_parts _ (ragged candidate_width candidates) past2.0).0).0)

-- at a reply
pub reply_room : (s : State) (reply : Reply) (surfaced : List ℕ) (lent : Lent) → reply_verdict s reply surfaced lent ≡ accepted
    → s.counts.filled.working + length (keep s.opened.claims true (candidates_in (lent_by reply surfaced))) ≤ length lent.working / candidate_width
unfolding reply_verdict
reply_room s reply surfaced lent e =
    enough s.opened.claims lent s.counts.filled (lent_by reply surfaced) (passed _ _ _ (passed _ _ _ (passed _ _ _ (passed _ _ _ (passed _ _ _ e).1).1).1).1).0

-- ---- counts that are not wrong, as numbers

pub record Counted (lent : Lent) (counts : Counts) : Type 0 where
  pub working : counts.filled.working ≤ length lent.working / candidate_width
  pub unclaimed : counts.filled.unclaimed ≤ length lent.unclaimed / candidate_width
  pub first : 1 ≤ counts.begun
  pub begun : counts.begun ≤ counts.filled.working
  pub answered : counts.answered ≤ 3 * counts.begun
  pub tally : any_above counts.answered lent.tally ≡ false

pub counted : (lent : Lent) (counts : Counts) → wrong_counts lent counts ≡ false → Counted lent counts
unfolding wrong_counts
counted lent counts e =
    let last = or_parts (lists || eqb counts.begun 0 || ltb counts.filled.working counts.begun || ltb (3 * counts.begun) counts.answered) (any_above counts.answered lent.tally) e in
    let most = or_parts (lists || eqb counts.begun 0 || ltb counts.filled.working counts.begun) (ltb (3 * counts.begun) counts.answered) last.0 in
    let begun = or_parts (lists || eqb counts.begun 0) (ltb counts.filled.working counts.begun) most.0 in
    let first = or_parts lists (eqb counts.begun 0) begun.0 in
    let held = or_parts (ltb (length lent.working / candidate_width) counts.filled.working) (ltb (length lent.unclaimed / candidate_width) counts.filled.unclaimed) first.0 in
    let some = eqb-false counts.begun 0 first.1 in
    record {
      working = ltb-false _ _ held.0;
      unclaimed = ltb-false _ _ held.1;
      first = omega arith;
      begun = ltb-false _ _ begun.1;
      answered = ltb-false _ _ most.1;
      tally = last.1;
    }
  where
    lists : Bool
    lists = ltb (length lent.working / candidate_width) counts.filled.working || ltb (length lent.unclaimed / candidate_width) counts.filled.unclaimed

-- ---- what was taken tells the reply's kind

is_laid : Option Taken → Bool
is_laid None = false
is_laid (Some (Kept r)) = false
is_laid (Some (Laid overflow)) = true

-- the rectangle of a box that is laid out
laid_rect : Rect Float → Option Taken → Rect Float
laid_rect other None = other
laid_rect other (Some (Kept r)) = other
laid_rect other (Some (Laid overflow)) = overflow

-- only a lay-out reply is taken as one
laid_by : (r : Replies) (stage : Stage) (given : Reply) (overflow : Rect Float) → taken r stage given ≡ Some (Laid overflow) → given ≡ reply.LaidOut overflow
unfolding taken is_laid laid_rect
laid_by r stage given overflow e = go stage given e (ap is_laid e)
  where
    go : (stage : Stage) (given : Reply) → taken r stage given ≡ Some (Laid overflow) → is_laid (taken r stage given) ≡ true → given ≡ reply.LaidOut overflow
    go LayOut (reply.LaidOut rect) e f = ap (λ (t : Option Taken). reply.LaidOut (laid_rect rect t)) e
    go KeywordBoth (reply.Both s) e f = no f refl
    go KeywordWidth (reply.Width w) e f = no f refl
    go KeywordHeight (reply.Height h) e f = no f refl
    go Fill (reply.Both s) e f = no f refl
    go _ _ e f = no f refl

pub laid_is : (s : State) (given : Reply) (overflow : Rect Float) → taken_by s given ≡ Some (Laid overflow) → given ≡ reply.LaidOut overflow
unfolding taken_by is_laid
laid_is s given overflow e = go s.progress e
  where
    go : (p : Option Stage) → taken_in p s.replies given ≡ Some (Laid overflow) → given ≡ reply.LaidOut overflow
    go None e = no (ap is_laid e) refl
    go (Some stage) e = laid_by s.replies stage given overflow e

-- and its surfaced slice is lent
pub lent_all : (r : Replies) (stage : Stage) (given : Reply) (surfaced : List ℕ) {overflow : Rect Float} → taken r stage given ≡ Some (Laid overflow)
    → lent_by given surfaced ≡ surfaced
lent_all r stage given surfaced {overflow = overflow} e = ap (λ (g : Reply). lent_by g surfaced) (laid_by r stage given overflow e)

-- a lay-out reply is never kept as a measure
pub never_kept : {A : Type 0} (s : State) (overflow : Rect Float) {replies : Replies} → taken_by s (reply.LaidOut overflow) ≡ Some (Kept replies) → A
unfolding taken_by taken
never_kept s overflow e = no (ap is_kept e) (go s.progress)
  where
    is_kept : Option Taken → Bool
    is_kept None = false
    is_kept (Some (Kept r)) = true
    is_kept (Some (Laid overflow)) = false

    go : (p : Option Stage) → is_kept (taken_in p s.replies (reply.LaidOut overflow)) ≡ false
    go None = refl
    go (Some KeywordBoth) = refl
    go (Some KeywordWidth) = refl
    go (Some KeywordHeight) = refl
    go (Some Fill) = refl
    go (Some LayOut) = refl
