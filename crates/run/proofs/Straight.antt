-- With nobody else writing the lent words, the calls are the straight run: each call leaves the words of the world that it has come to, and
-- its question is the one at which the course stands; a refused one changes neither. Assumes nothing.
use Rattle.std.specs.Prelude.{Option, Some, Ok, Float}
use Prim.Native.Nat.{ℕ, zero, suc, ◌+◌, ◌-◌, ◌/◌, ◌≤◌}
use native.Mathlib.Omega.{arith}
use native.Mathlib.Nat.{zero-add}
use mathlib.Core.Path.{◌≡◌, refl, sym, ap, ◌∙◌, subst, subst₂}
use mathlib.Core.Bool.{Bool, true, false, cond}
use mathlib.Core.List.{List, [], ◌∷◌, ◌++◌, map, foldl, append-nil, map-map}
use lib.ListN.{length, get_or, replicate, length-append}
use Rattle.std.proofs.lemmas.List.{append_assoc, length-replicate}
use Rattle.util.proofs.Floats.{no}
use Rattle.geometry.specs.Geometry.{union_of}
use Rattle.geometry.specs.declared.Rect.{Rect}
use Rattle.style.specs.declared.Style.{Style}
use Rattle.tree.specs.declared.layout.OofCandidate.{OofCandidate}
use Rattle.records.specs.Records.{record_at}
use Rattle.tree_record.specs.Candidate.{candidate_width, candidate_of}
use Rattle.style_record.specs.Decode.{style_at}
use Rattle.sweep.specs.Sweep.{candidates_in, moved, keep, appended}
use Rattle.sweep.proofs.Steps.{appended_length}
use Rattle.oof_box.specs.Talk.{Talk}
use Rattle.oof_box.specs.Box.{placed, Placed}
use Rattle.oof_box.specs.Cut.{no_replies, taken, asked_after, layout_after}
use Rattle.oof_box.specs.Theorems.{after}
use Rattle.oof_box.specs.declared.question.Question.{Question}
use Rattle.oof_box.specs.declared.question.Reply.{Reply}
use Rattle.oof_box.specs.declared.question.Stage.{Stage}
use Rattle.oof_box.specs.declared.question.Replies.{Replies}
use Rattle.oof_box.specs.declared.question.Taken.{Taken}
use Rattle.oof_box.specs.declared.question.Taken.TheVariants.{Laid}
use Rattle.run.specs.declared.Opening.{Opening}
use Rattle.run.specs.declared.Counts.{Counts}
use Rattle.run.specs.declared.Opened.{Opened}
use Rattle.run.specs.declared.Answer.TheVariants.{Ask}
use Rattle.run.specs.declared.Step.{Step}
use Rattle.run.specs.Call.{Lent, Outcome}
use Rattle.run.specs.Refusals.{accepted}
use Rattle.run.specs.Run.{box_at_hand, asking, finishing, proceeding, claims_of, container_of, extents_of, begun, opened, charged, taken_by, reply_verdict, measured_on, laid_out}
use Rattle.run.specs.Conditions.{kind_of_question, kind_at}
use Rattle.run.specs.Straight.{World, Box, at_opening, after_box, Course, ended, during, boxes, straight}
use Rattle.run.specs.Theorems.{laid_count, laid_so_far, Heard, next, Loan, own, other, Turn, next_with, turned, Lends, AllLend, heeded, hearing, so_far, said_after, item_named, item_open, items_answered, laid_into, claimed_in, begun_in, open_in, awaited, awaited_in, Stands, called, course_of, answered_in, StraightRun, hoisted, HoistedOrder}
use Rattle.run.proofs.Ways.{NextWay, asks, ends, next_way, OpeningWay, begins, opening_way, ReplyWay, measures, lays_out, reply_way, opening_room, reply_room, lent_all}
use Rattle.run.proofs.Refusals.{refused_in, saying, turn_refused, finished_refuses}
use Rattle.run.proofs.Charged.{tallied, tallied_last, tallied_length, cleared_word}
use Rattle.run.proofs.EachQuestion.{stage_tells_kind, item_is_named}
use Rattle.run.proofs.BoxTalk.{Asks, heard_by, hearing_during, At, at_first, asks_at, kept_at, laid_at_lem}
use Rattle.run.proofs.Worlds.{list_back, rear, rear_count, laid_in, laid_last, claimed_count, claimed_after, unclaimed_after, laid_after, Sound, opening_sound, First, first_back, after_sound}

module _ (o : Opening) (lent : Lent) where
  -- ---- what a call leaves, by the world that it has come to

  abbrev run : Opened
  run = record { container = container_of o; claims = claims_of o; extents = extents_of lent }

  abbrev style : ℕ → Style
  style = style_at lent.styles

  abbrev working_at : World → List ℕ
  working_at w = appended lent.working 0 (claimed_in w)

  -- `answered` are the items that the questions answered so far named
  abbrev counts_at : World → ℕ → List ℕ → Counts
  counts_at w boxes answered =
      record { filled = record { working = length (claimed_in w); unclaimed = length w.unclaimed }; begun = boxes; answered = length answered }

  abbrev tally_at : List ℕ → List ℕ
  tally_at answered = tallied (replicate (length lent.tally) 0) answered

  abbrev leaving : World → List ℕ → Step → Outcome
  leaving w answered step =
      record {
        step = step;
        layouts = laid_into lent.layouts w.laid;
        working = working_at w;
        unclaimed = appended lent.unclaimed 0 w.unclaimed;
        tally = tally_at answered;
      }

  -- whatever comes next; a box asks; the run has ended
  abbrev proceeding_at : World → List ℕ → Outcome
  proceeding_at w answered = leaving w answered (proceeding lent.styles (working_at w) run (counts_at w (length w.laid) answered) w.overflow)

  abbrev asking_at : World → Replies → List ℕ → Outcome
  asking_at w replies answered =
      leaving w answered (asking lent.styles (working_at w) run (counts_at w (length w.laid + 1) answered) w.overflow replies)

  abbrev finishing_at : World → List ℕ → Outcome
  finishing_at w answered = leaving w answered (finishing run (counts_at w (length w.laid) answered) w.overflow)

  begun_at : (candidates : List ℕ) → begun o candidates lent ≡ proceeding_at (at_opening (claims_of o) (candidates_in candidates)) []
  unfolding begun at_opening laid_into
  begun_at candidates = rw (zero-add, zero-add) refl

  -- ---- the box at hand

  abbrev IsFirst : World → OofCandidate → List OofCandidate → Type 0
  IsFirst w c rest = First lent.working w c rest

  -- is the first that waits
  box_at : {w : World} {c : OofCandidate} {rest : List OofCandidate} (answered : List ℕ) → IsFirst w c rest
      → box_at_hand (working_at w) (counts_at w (length w.laid + 1) answered) ≡ c
  unfolding box_at_hand
  box_at {w} answered f =
      ap (λ (i : ℕ). candidate_of (record_at candidate_width (working_at w) i)) (last (length w.laid)) ∙ first_back lent.working f
    where
      last : (n : ℕ) → n + 1 - 1 ≡ n
      last n = omega arith

  -- its question
  abbrev question_of : OofCandidate → Replies → Question
  question_of c replies = (asked_after (container_of o) (style c.node) c replies).question

  abbrev stage_of : OofCandidate → Replies → Stage
  stage_of c replies = (asked_after (container_of o) (style c.node) c replies).stage

  asked_at : {w : World} {c : OofCandidate} {rest : List OofCandidate} (replies : Replies) (answered : List ℕ) → IsFirst w c rest
      → (asking_at w replies answered).step.answer ≡ Ok (Ask (question_of c replies))
  unfolding asking
  asked_at replies answered f = ap (λ (c : OofCandidate). Ok (Ask (question_of c replies))) (box_at answered f)

  kind_at_lem : {w : World} {c : OofCandidate} {rest : List OofCandidate} (replies : Replies) (answered : List ℕ) → IsFirst w c rest
      → awaited (asking_at w replies answered).step.state.progress ≡ Some (kind_of_question (question_of c replies))
  unfolding asking
  kind_at_lem {c = c} replies answered f =
      ap (λ (c : OofCandidate). Some (kind_at (stage_of c replies))) (box_at answered f)
      ∙ ap Some (sym (stage_tells_kind (container_of o) (style c.node) c replies))

  -- a reply is taken as it takes it
  taken_at : {w : World} {c : OofCandidate} {rest : List OofCandidate} (replies : Replies) (answered : List ℕ) (given : Reply) → IsFirst w c rest
      → taken_by (asking_at w replies answered).step.state given ≡ taken replies (stage_of c replies) given
  unfolding taken_by asking
  taken_at replies answered given f = ap (λ (c : OofCandidate). taken replies (stage_of c replies) given) (box_at answered f)

  -- what it comes to
  abbrev placed_by : OofCandidate → Replies → Rect Float → List ℕ → Placed
  placed_by c replies overflow surfaced =
      record { outcome = layout_after (container_of o) (style c.node) c replies overflow; surfaced = candidates_in surfaced }

  -- ---- a call on what the last one left

  abbrev lent_at : World → List ℕ → Lent
  lent_at w answered =
      record {
        styles = lent.styles;
        layouts = laid_into lent.layouts w.laid;
        working = working_at w;
        unclaimed = appended lent.unclaimed 0 w.unclaimed;
        tally = tally_at answered;
      }

  -- one question more was answered, about this item
  abbrev and_one : List ℕ → OofCandidate → List ℕ
  and_one answered c = answered ++ (c.node ∷ [])

  one_longer : (answered : List ℕ) (c : OofCandidate) → length answered + 1 ≡ length (and_one answered c)
  one_longer answered c = sym (length-append answered (c.node ∷ []))

  one_charged : (answered : List ℕ) (c : OofCandidate) → charged (tally_at answered) c.node ≡ tally_at (and_one answered c)
  one_charged answered c = sym (tallied_last (replicate (length lent.tally) 0) answered c.node)

  -- a size was replied: the same world, one reply more
  measured_at : {w : World} {c : OofCandidate} {rest : List OofCandidate} (replies r : Replies) (answered : List ℕ) → IsFirst w c rest
      → measured_on (asking_at w replies answered).step.state r (lent_at w answered) ≡ asking_at w r (and_one answered c)
  unfolding measured_on asking
  measured_at {w} {c} {rest} replies r answered f =
      rw (box_at answered f) (λ i. on (one_longer answered c i) (one_charged answered c i))
    where
      on : ℕ → List ℕ → Outcome
      on count tally =
          record {
            step =
                asking lent.styles (working_at w) run
                (record { filled = (counts_at w 0 []).filled; begun = length w.laid + 1; answered = count })
                w.overflow r;
            layouts = laid_into lent.layouts w.laid;
            working = working_at w;
            unclaimed = appended lent.unclaimed 0 w.unclaimed;
            tally = tally;
          }

  -- the box was laid out: the world after it
  laid_out_at : {w : World} {c : OofCandidate} {rest : List OofCandidate} (replies : Replies) (overflow : Rect Float) (surfaced : List ℕ) (answered : List ℕ)
      → IsFirst w c rest
      → laid_out (asking_at w replies answered).step.state overflow surfaced (lent_at w answered)
      ≡ proceeding_at (after_box (claims_of o) w c rest (placed_by c replies overflow surfaced)) (and_one answered c)
  unfolding laid_out asking after_box
  laid_out_at {w} {c} {rest} replies overflow surfaced answered f =
      let p = placed_by c replies overflow surfaced in
      let b : Box = record { candidate = c; layout = p.outcome.layout } in
      let cs = map (moved (Some p.outcome.layout.location)) (candidates_in surfaced) in
      let inside = keep (claims_of o) true cs in
      let outside = keep (claims_of o) false cs in
      let claimed = claimed_after (claims_of o) w c rest p f.waiting in
      let unclaimed = unclaimed_after (claims_of o) w c rest p in
      rw (box_at answered f)
      (λ i.
      joined p (sym (laid_last lent.layouts w.laid b) i) (rear lent.working (claimed_in w) inside claimed i)
      (rear lent.unclaimed w.unclaimed outside unclaimed i)
      (rear_count (claimed_in w) inside claimed i)
      (rear_count w.unclaimed outside unclaimed i)
      (sym (length-append w.laid (b ∷ [])) i)
      (one_longer answered c i)
      (one_charged answered c i))
    where
      joined : Placed → List ℕ → List ℕ → List ℕ → ℕ → ℕ → ℕ → ℕ → List ℕ → Outcome
      joined p layouts working unclaimed claimedCount unclaimedCount boxes count tally =
          record {
            step =
                proceeding lent.styles working run
                (record { filled = record { working = claimedCount; unclaimed = unclaimedCount }; begun = boxes; answered = count })
                (union_of w.overflow p.outcome.contribution);
            layouts = layouts;
            working = working;
            unclaimed = unclaimed;
            tally = tally;
          }

  -- what it surfaced has room
  room_at : (w : World) (replies : Replies) (answered : List ℕ) (h : Heard) (stage : Stage) {overflow : Rect Float}
      → reply_verdict (asking_at w replies answered).step.state h.reply h.surfaced (lent_at w answered) ≡ accepted
      → taken replies stage h.reply ≡ Some (Laid overflow)
      → length (claimed_in w) + length (keep (claims_of o) true (candidates_in h.surfaced)) ≤ length lent.working / candidate_width
  unfolding asking
  room_at w replies answered h stage v k =
      subst₂ (λ (l : List ℕ) (n : ℕ). length (claimed_in w) + length (keep (claims_of o) true (candidates_in l)) ≤ n / candidate_width)
      (lent_all replies stage h.reply h.surfaced k)
      (appended_length lent.working 0 (claimed_in w))
      (reply_room (asking_at w replies answered).step.state h.reply h.surfaced (lent_at w answered) v)

  -- ---- where a run stands

  abbrev boxes_from : ℕ → World → List OofCandidate → Course
  boxes_from most w waiting = boxes most (container_of o) (claims_of o) style w waiting

  -- the course after a box
  abbrev onward : ℕ → World → OofCandidate → List OofCandidate → Placed → Course
  onward most w c rest p = let v = after_box (claims_of o) w c rest p in boxes_from most v v.waiting

  data Position (answered : List ℕ) (x : Outcome) (course : Course) : Type 0 where
    -- in the dialogue of the first box that waits; `most` more may follow
    waits :
        (w : World) (c : OofCandidate) (rest : List OofCandidate) (most : ℕ) (replies : Replies) (t : Talk Placed)
        → IsFirst w c rest
        → most + suc (length w.laid) ≡ 4096
        → At (container_of o) (style c.node) c replies t
        → x ≡ asking_at w replies answered
        → course ≡ during w t (onward most w c rest)
        → Position answered x course
    -- at the end
    over :
        (w : World)
        → w.waiting ≡ []
        → Sound lent.working w
        → x ≡ finishing_at w answered
        → course ≡ ended w
        → Position answered x course

  moved_to : {answered : List ℕ} {x y : Outcome} {t u : Course} → x ≡ y → t ≡ u → Position answered y u → Position answered x t
  moved_to p q (waits w c rest most replies t f m a d k) = waits w c rest most replies t f m a (p ∙ d) (q ∙ k)
  moved_to p q (over w e s d k) = over w e s (p ∙ d) (q ∙ k)

  -- the next box, or the end
  proceed : (w : World) (most : ℕ) (answered : List ℕ) → Sound lent.working w → most + length w.laid ≡ 4096
      → Position answered (proceeding_at w answered) (boxes_from most w w.waiting)
  unfolding boxes
  proceed w most answered s m =
      go w.waiting most refl m (next_way lent.styles (working_at w) run (counts_at w (length w.laid) answered) w.overflow)
    where
      held : (waiting : List OofCandidate) → w.waiting ≡ waiting → length (claimed_in w) ≡ length w.laid + length waiting
      held waiting e = claimed_count w ∙ ap (λ (l : List OofCandidate). length w.laid + length l) e

      none_left : (most : ℕ) → boxes_from most w [] ≡ ended w
      none_left zero = refl
      none_left (suc most) = refl

      go : (waiting : List OofCandidate) (most : ℕ) → w.waiting ≡ waiting → most + length w.laid ≡ 4096
          → NextWay lent.styles (working_at w) run (counts_at w (length w.laid) answered) w.overflow
          → Position answered (proceeding_at w answered) (boxes_from most w w.waiting)
      go [] most e m (asks h d) = absurd (omega (arith, held [] e))
      go [] most e m (ends h d) = over w e s (ap (leaving w answered) d) (ap (boxes_from most w) e ∙ none_left most)
      go (c ∷ rest) zero e m n = absurd (let r = s.room in let l = s.most in omega (arith, held (c ∷ rest) e))
      go (c ∷ rest) (suc most) e m (asks h d) =
          waits w c rest most no_replies (placed (container_of o) (style c.node) c) (record { waiting = e; sound = s }) (omega arith)
          (at_first (container_of o) (style c.node) c)
          (ap (leaving w answered) d)
          (ap (boxes_from (suc most) w) e)
      go (c ∷ rest) (suc most) e m (ends h d) = absurd (omega (arith, held (c ∷ rest) e))

  -- ---- a call moves it on

  replied_on : (w : World) (c : OofCandidate) (rest : List OofCandidate) (most : ℕ) (replies : Replies) (t : Talk Placed) (answered : List ℕ) (h : Heard)
      → IsFirst w c rest
      → most + suc (length w.laid) ≡ 4096
      → At (container_of o) (style c.node) c replies t
      → refused_in (next lent.styles (asking_at w replies answered) h) ≡ false
      → Position (and_one answered c) (next lent.styles (asking_at w replies answered) h) (hearing (during w t (onward most w c rest)) h)
  unfolding next during
  replied_on w c rest most replies t answered h f m a n =
      go (reply_way (asking_at w replies answered).step.state h.reply h.surfaced (lent_at w answered))
    where
      takes : {k : Option Taken} → taken_by (asking_at w replies answered).step.state h.reply ≡ k → taken replies (stage_of c replies) h.reply ≡ k
      takes k = sym (taken_at replies answered h.reply f) ∙ k

      front : hearing (during w t (onward most w c rest)) h ≡ during w (after t (heard_by h)) (onward most w c rest)
      front = hearing_during w (onward most w c rest) h (asks_at (container_of o) (style c.node) c a)

      go : ReplyWay (asking_at w replies answered).step.state h.reply h.surfaced (lent_at w answered)
          → Position (and_one answered c) (next lent.styles (asking_at w replies answered) h) (hearing (during w t (onward most w c rest)) h)
      go (ReplyWay.turned_down r x) = no (ap refused_in x) n
      go (measures r v k x) =
          waits w c rest most r (after t (heard_by h)) f m (kept_at (container_of o) (style c.node) c (heard_by h) a (takes k))
          (x ∙ measured_at replies r answered f)
          front
      go (lays_out overflow v k x) =
          let p = placed_by c replies overflow h.surfaced in
          moved_to (x ∙ laid_out_at replies overflow h.surfaced answered f)
          (front ∙ ap (λ (u : Talk Placed). during w u (onward most w c rest)) (laid_at_lem (container_of o) (style c.node) c (heard_by h) a (takes k)))
          (proceed (after_box (claims_of o) w c rest p) most (and_one answered c)
          (after_sound (claims_of o) lent.working p h.surfaced refl f (room_at w replies answered h _ v (takes k)))
          (ap (λ (n : ℕ). most + n) (laid_after (claims_of o) w c rest p) ∙ m))

  -- an ended run takes no reply
  never_after : {A : Type 0} (w : World) (answered : List ℕ) (h : Heard) → refused_in (next lent.styles (finishing_at w answered) h) ≡ false → A
  unfolding next finishing
  never_after w answered h n = no (finished_refuses (finishing_at w answered).step.state h.reply h.surfaced (lent_at w answered) refl) n

  -- the question that is open names its item
  named : (w : World) (k : Placed → Course) {q : Question} {t : Talk Placed} → Asks q t → item_open (during w t k) ≡ item_named q ∷ []
  unfolding during
  named w k (Asks.asks reply) = refl

  item_at : (w : World) (k : Placed → Course) {c : OofCandidate} {replies : Replies} {t : Talk Placed} → At (container_of o) (style c.node) c replies t
      → item_open (during w t k) ≡ c.node ∷ []
  item_at w k {c} {replies} a =
      named w k (asks_at (container_of o) (style c.node) c a) ∙ ap (λ (n : ℕ). n ∷ []) (item_is_named (container_of o) (style c.node) c replies)

  one_call : {answered : List ℕ} {x : Outcome} {course : Course} (h : Heard) → Position answered x course → refused_in (next lent.styles x h) ≡ false
      → Position (answered ++ item_open course) (next lent.styles x h) (hearing course h)
  one_call {answered} {x} {course} h (waits w c rest most replies t f m a d k) n =
      subst (λ (is : List ℕ). Position (answered ++ is) (next lent.styles x h) (hearing course h))
      (sym (ap item_open k ∙ item_at w (onward most w c rest) a))
      (moved_to (ap (λ (x : Outcome). next lent.styles x h) d) (ap (λ (course : Course). hearing course h) k)
      (replied_on w c rest most replies t answered h f m a (sym (ap (λ (x : Outcome). refused_in (next lent.styles x h)) d) ∙ n)))
  one_call {answered} h (over w e s d k) n = never_after w answered h (sym (ap (λ (x : Outcome). refused_in (next lent.styles x h)) d) ∙ n)

  -- ---- over a whole list of replies

  -- x has the state and the words that the last call left that wasn't refused
  record Through (answered : List ℕ) (x : Outcome) (course : Course) : Type 0 where
    last : Outcome
    position : Position answered last course
    same : x ≡ saying x.step.answer last
    itself : refused_in x ≡ false → x ≡ last

  next_same : {x : Outcome} (y : Outcome) (h : Heard) → x ≡ saying x.step.answer y → next lent.styles x h ≡ next lent.styles y h
  unfolding next
  next_same y h e = ap (λ (z : Outcome). next lent.styles z h) e

  -- one call more
  after_refused : {answered : List ℕ} {x : Outcome} {course : Course} (t : Turn) → refused_in (turned lent.styles x t) ≡ true → Through answered x course
      → Through answered (turned lent.styles x t) course
  after_refused {x = x} t e p =
      record {
        last = p.last;
        position = p.position;
        same = turn_refused lent.styles x t e ∙ ap (saying (turned lent.styles x t).step.answer) p.same;
        itself = λ f. no e f;
      }

  after_heeded : {answered : List ℕ} {x : Outcome} {course : Course} (h : Heard) → refused_in (next lent.styles x h) ≡ false → Through answered x course
      → Through (answered ++ item_open course) (next lent.styles x h) (hearing course h)
  after_heeded {x = x} h e p =
      let d = next_same p.last h p.same in
      record {
        last = next lent.styles x h;
        position = moved_to d refl (one_call h p.position (sym (ap refused_in d) ∙ e));
        same = refl;
        itself = λ f. refl;
      }

  -- which is lent the run's own slices
  heeded_own : {answered : List ℕ} {x : Outcome} {course : Course} (t : Turn) → Lends t.loan (turned lent.styles x t).step.answer
      → refused_in (turned lent.styles x t) ≡ false
      → Through answered x course
      → Through (answered ++ item_open course) (turned lent.styles x t) (hearing course t.heard)
  heeded_own {answered} {x} {course} t l e p = go t.loan l e
    where
      go : (loan : Loan) → Lends loan (next_with lent.styles x t.heard loan).step.answer → refused_in (next_with lent.styles x t.heard loan) ≡ false
          → Through (answered ++ item_open course) (next_with lent.styles x t.heard loan) (hearing course t.heard)
      go own l e = after_heeded t.heard e p
      go (other others) l e = no l e

  -- any number of them
  abbrev After : List ℕ → Course → List Heard → Outcome → Type 0
  After answered course taken x = Through (answered ++ items_answered course taken) x (foldl hearing course taken)

  all_calls : (answered : List ℕ) (x : Outcome) (course : Course) (turns : List Turn) → AllLend lent.styles x turns → Through answered x course
      → After answered course (heeded lent.styles x turns) (foldl (turned lent.styles) x turns)
  unfolding heeded items_answered
  all_calls answered x course [] l p = rw (append-nil answered) p
  all_calls answered x course (t ∷ turns) l p =
      let y = turned lent.styles x t in
      go y (heeded lent.styles y turns) (refused_in y) (λ e. all_calls answered y course turns l.1 (after_refused t e p))
      (λ e. all_calls (answered ++ item_open course) y (hearing course t.heard) turns l.1 (heeded_own t l.0 e p))
      refl
    where
      go : (y : Outcome) (later : List Heard) (b : Bool) → (refused_in y ≡ true → After answered course later (foldl (turned lent.styles) y turns))
          → (refused_in y ≡ false → After (answered ++ item_open course) (hearing course t.heard) later (foldl (turned lent.styles) y turns))
          → refused_in y ≡ b
          → After answered course (cond b later (t.heard ∷ later)) (foldl (turned lent.styles) y turns)
      go y later true refused taken e = refused e
      go y later false refused taken e =
          subst (λ (is : List ℕ). Through is (foldl (turned lent.styles) y turns) (foldl hearing (hearing course t.heard) later))
          (append_assoc answered (item_open course) (items_answered (hearing course t.heard) later))
          (taken e)

  -- ---- what stands there

  says_asking : (w : World) (k : Placed → Course) (answered : List ℕ) {q : Question} {t : Talk Placed} → Asks q t
      → (so_far (during w t k) ≡ w) × (begun_in (during w t k) ≡ length w.laid + 1) × (said_after (length answered) (during w t k) ≡ Ok (Ask q))
      × (awaited_in (during w t k) ≡ Some (kind_of_question q))
  unfolding during
  says_asking w k answered (Asks.asks reply) = (refl, refl, refl, refl)

  -- at a world: the last call that wasn't refused left it with this step
  stands_at : (w : World) (answered : List ℕ) (step : Step) {x y : Outcome} {course : Course} → x ≡ saying x.step.answer y
      → (refused_in x ≡ false → x ≡ y)
      → y ≡ leaving w answered step
      → step.state.counts ≡ counts_at w (begun_in course) answered
      → laid_count step.state.progress step.state.counts.begun ≡ length w.laid
      → step.state.overflow ≡ w.overflow
      → open_in lent.styles (leaving w answered step) ≡ said_after (length answered) course
      → awaited step.state.progress ≡ awaited_in course
      → step.answer ≡ said_after (length answered) course
      → so_far course ≡ w
      → Stands lent answered x course
  stands_at w answered step {x} {y} {course} d i e c n v p q a s =
      record {
        layouts = left (λ z. z.layouts) refl ∙ ap (λ (v : World). laid_into lent.layouts v.laid) (sym s);
        working = left (λ z. z.working) refl ∙ ap working_at (sym s);
        unclaimed = left (λ z. z.unclaimed) refl ∙ ap (λ (v : World). appended lent.unclaimed 0 v.unclaimed) (sym s);
        filled = left (λ z. z.step.state.counts.filled) refl ∙ ap (λ (c : Counts). c.filled) c ∙ ap (λ (v : World). (counts_at v 0 []).filled) (sym s);
        begun = left (λ z. z.step.state.counts.begun) refl ∙ ap (λ (c : Counts). c.begun) c;
        counted = left (λ z. z.step.state.counts.answered) refl ∙ ap (λ (c : Counts). c.answered) c;
        tally_length = ap length (left (λ z. z.tally) refl) ∙ tallied_length (replicate (length lent.tally) 0) answered ∙ length-replicate (length lent.tally) 0;
        tally = λ j h. ap (λ (t : List ℕ). get_or t j 0) (left (λ z. z.tally) refl) ∙ cleared_word (length lent.tally) answered j h;
        laid = left laid_so_far refl ∙ n ∙ ap (λ (v : World). length v.laid) (sym s);
        overflow = left (λ z. z.step.state.overflow) refl ∙ v ∙ ap (λ (v : World). v.overflow) (sym s);
        pending = left (open_in lent.styles) refl ∙ p;
        kind = left (λ z. awaited z.step.state.progress) refl ∙ q;
        answer = λ n. ap (λ (z : Outcome). z.step.answer) (i n) ∙ ap (λ (z : Outcome). z.step.answer) e ∙ a;
      }
    where
      -- what is read of state and words, and not of the answer
      left : {A : Type 0} (f : Outcome → A) → f (saying x.step.answer y) ≡ f y → f x ≡ f (leaving w answered step)
      left f k = ap f d ∙ k ∙ ap f e

  stands : {answered : List ℕ} {x : Outcome} {course : Course} → Through answered x course → Stands lent answered x course
  unfolding asking finishing
  stands {answered} {x} {course} p = go p.position
    where
      go : Position answered p.last course → Stands lent answered x course
      go (waits w c rest most replies t f m a d k) =
          let says = says_asking w (onward most w c rest) answered (asks_at (container_of o) (style c.node) c a) in
          let asked = asked_at replies answered f ∙ sym says.2 in
          subst (Stands lent answered x) (sym k)
          (stands_at w answered (asking_at w replies answered).step p.same p.itself d (ap (λ (n : ℕ). counts_at w n answered) (sym says.1))
          (last (length w.laid))
          refl
          asked
          (kind_at_lem replies answered f ∙ sym says.3)
          asked
          says.0)
        where
          last : (n : ℕ) → n + 1 - 1 ≡ n
          last n = omega arith
      go (over w e s d k) =
          subst (Stands lent answered x) (sym k)
          (stands_at w answered (finishing_at w answered).step p.same p.itself d refl refl refl refl refl refl refl)

  -- at the end the hoisted order is that of the boxes laid out
  ended_order : (w : World) (answered : List ℕ) → w.waiting ≡ [] → Sound lent.working w
      → hoisted (finishing_at w answered) ≡ map (λ (b : Box). b.candidate.node) w.laid
  unfolding finishing
  ended_order w answered e s =
      ap (map (λ (c : OofCandidate). c.node))
      (list_back lent.working (claimed_in w) s.fits s.room ∙ ap (λ (l : List OofCandidate). laid_in w ++ l) e ∙ append-nil (laid_in w))
      ∙ map-map (λ (c : OofCandidate). c.node) (λ (b : Box). b.candidate) w.laid

-- ---- the opening, then every call

at_last : (o : Opening) (candidates : List ℕ) (lent : Lent) (turns : List Turn) → refused_in (opened o candidates lent) ≡ false
    → AllLend lent.styles (opened o candidates lent) turns
    → Through o lent (answered_in o candidates lent turns) (called o candidates lent turns) (course_of o candidates lent turns)
unfolding straight at_opening
at_last o candidates lent turns e l = go (opening_way o candidates lent)
  where
    go : OpeningWay o candidates lent
        → Through o lent (answered_in o candidates lent turns) (called o candidates lent turns) (course_of o candidates lent turns)
    go (OpeningWay.turned_down r x) = no (ap refused_in x) e
    go (begins v x) =
        all_calls o lent [] (opened o candidates lent) (straight 4096 (container_of o) (claims_of o) (style o lent) (candidates_in candidates)) turns l
        (record {
          last = opened o candidates lent;
          position =
              moved_to o lent (x ∙ begun_at o lent candidates) refl
              (proceed o lent (at_opening (claims_of o) (candidates_in candidates)) 4096 []
              (opening_sound (claims_of o) lent.working candidates (opening_room o candidates lent v))
              refl);
          same = refl;
          itself = λ f. refl;
        })

pub straight_run : StraightRun
straight_run o candidates lent turns e l = stands o lent (at_last o candidates lent turns e l)

-- ---- the hoisted order

-- the world at the end of a course
abbrev EndsIn : World → Course → Type 0
EndsIn w (ended v) = v ≡ w
EndsIn w (Course.asks v q reply) = ⊥

not_asking : {A : Type 0} (w v : World) (k : Placed → Course) {q : Question} {t : Talk Placed} → Asks q t → EndsIn w (during v t k) → A
unfolding during
not_asking w v k (Asks.asks reply) e = absurd e

pub hoisted_order : HoistedOrder
hoisted_order o candidates lent turns w e l d = go p.position
  where
    p : Through o lent (answered_in o candidates lent turns) (called o candidates lent turns) (course_of o candidates lent turns)
    p = at_last o candidates lent turns e l

    ending : EndsIn w (course_of o candidates lent turns)
    ending = subst (EndsIn w) (sym d) refl

    go : Position o lent (answered_in o candidates lent turns) p.last (course_of o candidates lent turns)
        → hoisted (called o candidates lent turns) ≡ map (λ (b : Box). b.candidate.node) w.laid
    go (waits v c rest most replies t f m a x k) =
        not_asking w v (onward o lent most v c rest) (asks_at (container_of o) (style o lent c.node) c a) (subst (EndsIn w) k ending)
    go (over v f s x k) =
        ap hoisted p.same ∙ ap hoisted x ∙ ended_order o lent v (answered_in o candidates lent turns) f s
        ∙ ap (λ (v : World). map (λ (b : Box). b.candidate.node) v.laid) (subst (EndsIn w) k ending)
