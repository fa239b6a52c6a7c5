-- A run keeps the layers of its candidates: through a call, and so over any list of them. Assumes nothing.
use borrow.Author.Rules.{rules}
use Rattle.std.specs.Prelude.{Some, Option, None, Ok, is_err, Float}
use Prim.Native.Nat.{ℕ}
use mathlib.Core.Path.{◌≡◌, refl, sym, ap, ◌∙◌, subst}
use mathlib.Core.Bool.{Bool, true, false, cond}
use mathlib.Core.List.{List, [], ◌∷◌, ◌++◌, map, foldl, append-nil, append_assoc, map-append}
use borrow.Author.Tests.{not-false}
use Rattle.util.proofs.Floats.{no}
use Rattle.geometry.specs.declared.Point.{Point}
use Rattle.geometry.specs.declared.Rect.{Rect}
use Rattle.style.specs.declared.ContainingBlockClaims.{ContainingBlockClaims}
use Rattle.tree.specs.declared.layout.OofCandidate.{OofCandidate}
use Rattle.records.specs.Records.{records}
use Rattle.sweep.specs.Laws.{HasLayers}
use Rattle.sweep.specs.Sweep.{first_candidates, candidates_in, layers_of, moved, keep, claimed, others, Lists, swept_into, Outcome as Swept, swept}
use Rattle.sweep.specs.declared.Filled.{Filled}
use Rattle.sweep.proofs.Layers.{layers_kept}
use Rattle.sweep.proofs.Steps.{keep_first, kept_moved}
use Rattle.oof_box.specs.declared.question.Replies.{Replies}
use Rattle.oof_box.specs.declared.question.Reply.{Reply}
use Rattle.oof_box.specs.declared.question.Reply.TheVariants as reply
use Rattle.oof_box.specs.declared.question.Taken.TheVariants.{Kept}
use Rattle.run.specs.declared.Counts.{Counts}
use Rattle.run.specs.declared.Opened.{Opened}
use Rattle.run.specs.declared.Opening.{Opening}
use Rattle.run.specs.declared.State.{State}
use Rattle.run.specs.declared.Step.{Step}
use Rattle.run.specs.Call.{Lent, Outcome}
use Rattle.run.specs.Refusals.{accepted, list_full, lent_by}
use Rattle.run.specs.Run.{asking, finishing, proceeding, claims_of, none_filled, opening_verdict, begun, opened, taken_by, reply_verdict, measured_on, laid_out, replied}
use Rattle.run.specs.Theorems.{Heard, Loan, own, other, Turn, next, next_with, turned, Lends, AllLend, heeded, claimed_so_far}
use Rattle.run.proofs.Refusals.{refused_in, saying, turn_refused}
use Rattle.run.proofs.Worlds.{unmoved}
use Rattle.std.proofs.lemmas.Bool.{or_parts}
use Rattle.run.proofs.Ways.{next_way, OpeningWay, begins, opening_way, ReplyWay, measures, lays_out, reply_way, passed, never_kept}
use Rattle.mirror_run.specs.Runs.{unclaimed_so_far}
use Rattle.mirror_run.proofs.Unread.{taken_all}
use Rattle.drawing_laws.specs.Laws.{surfaced_by, KeepsLayers, LayersOfARun}

-- ---- candidates

keep_append : (by : ContainingBlockClaims) (list : Bool) (xs ys : List OofCandidate) → keep by list (xs ++ ys) ≡ keep by list xs ++ keep by list ys
unfolding keep
keep_append by list [] ys = refl
keep_append by list (x ∷ xs) ys =
    keep_first by list x (xs ++ ys)
    ∙ ap (λ (l : List OofCandidate). keep by list (x ∷ []) ++ l) (keep_append by list xs ys)
    ∙ sym (append_assoc (keep by list (x ∷ [])) (keep by list xs) (keep by list ys))
    ∙ ap (λ (l : List OofCandidate). l ++ keep by list ys) (sym (keep_first by list x xs))

-- ---- one sweep that has room

abbrev swept_by : ContainingBlockClaims → Option (Point Float) → List ℕ → Lent → Filled → Lists
swept_by by s slice lent f = swept_into by (map (moved s) (candidates_in slice)) lent.working lent.unclaimed f

module _ (by : ContainingBlockClaims) (s : Option (Point Float)) (slice : List ℕ) (lent : Lent) (f : Filled) (full : list_full by lent f slice ≡ false) where
  abbrev cs : List OofCandidate
  cs = map (moved s) (candidates_in slice)

  -- there is
  settled : swept by cs lent.working lent.unclaimed f
      ≡ record { answer = Ok (swept_by by s slice lent f).filled; working = (swept_by by s slice lent f).working; unclaimed = (swept_by by s slice lent f).unclaimed }
  unfolding swept list_full
  settled = search (rules, kept_moved, or_parts, not-false)

  pub swept_layers : HasLayers (swept_by by s slice lent f).filled.working (swept_by by s slice lent f).working f.working lent.working (claimed by (candidates_in slice))
      × HasLayers (swept_by by s slice lent f).filled.unclaimed (swept_by by s slice lent f).unclaimed f.unclaimed lent.unclaimed (others by (candidates_in slice))
  swept_layers =
      rw settled at (layers_kept by s slice lent.working lent.unclaimed f (swept_by by s slice lent f).filled (ap (λ (o : Swept). o.answer) settled))

-- room, of an accepted call
opening_room : (o : Opening) (candidates : List ℕ) (lent : Lent) → opening_verdict o candidates lent ≡ accepted → list_full (claims_of o) lent none_filled candidates ≡ false
unfolding opening_verdict
opening_room o candidates lent e = (passed _ _ _ (passed _ _ _ (passed _ _ _ (passed _ _ _ (passed _ _ _ e).1).1).1).1).0

pub reply_room : (s : State) (reply : Reply) (surfaced : List ℕ) (lent : Lent) → reply_verdict s reply surfaced lent ≡ accepted
    → list_full s.opened.claims lent s.counts.filled (lent_by reply surfaced) ≡ false
unfolding reply_verdict
reply_room s reply surfaced lent e = (passed _ _ _ (passed _ _ _ (passed _ _ _ (passed _ _ _ (passed _ _ _ e).1).1).1).1).0

-- ---- from one question to the next, no record is added

-- what a step keeps of them
pub record Keeps (run : Opened) (counts : Counts) (step : Step) : Type 0 where
  pub filled : step.state.counts.filled ≡ counts.filled
  pub opened : step.state.opened ≡ run

pub proceeding_keeps : (styles working : List ℕ) (run : Opened) (counts : Counts) (overflow : Rect Float) → Keeps run counts (proceeding styles working run counts overflow)
unfolding asking finishing
proceeding_keeps styles working run counts overflow = search (rules, next_way)

-- ---- what a run has, of the candidates that came

record Has (by : ContainingBlockClaims) (x : Outcome) (came : List OofCandidate) : Type 0 where
  claims : x.step.state.opened.claims ≡ by
  layers : KeepsLayers by came x

-- after the opening
pub opening_layers : (o : Opening) (candidates : List ℕ) (lent : Lent) → opening_verdict o candidates lent ≡ accepted
    → let after = swept_into (claims_of o) (candidates_in candidates) lent.working lent.unclaimed none_filled in
    HasLayers after.filled.working after.working 0 lent.working (claimed (claims_of o) (candidates_in candidates))
    × HasLayers after.filled.unclaimed after.unclaimed 0 lent.unclaimed (others (claims_of o) (candidates_in candidates))
opening_layers o candidates lent v =
    rw (unmoved (candidates_in candidates)) at (swept_layers (claims_of o) None candidates lent none_filled (opening_room o candidates lent v))

begun_has : (o : Opening) (candidates : List ℕ) (lent : Lent) → opening_verdict o candidates lent ≡ accepted
    → Has (claims_of o) (begun o candidates lent) (candidates_in candidates)
unfolding begun first_candidates records
begun_has o candidates lent v =
    let after = swept_into (claims_of o) (candidates_in candidates) lent.working lent.unclaimed none_filled in
    let k = proceeding_keeps lent.styles after.working _ (record { filled = after.filled; begun = 0; answered = 0 }) _ in
    let l = opening_layers o candidates lent v in
    record {
      claims = ap (λ (r : Opened). r.claims) k.opened;
      layers =
          record {
            working = ap (λ (f : Filled). layers_of (first_candidates f.working after.working)) k.filled ∙ l.0;
            unclaimed = ap (λ (f : Filled). layers_of (first_candidates f.unclaimed after.unclaimed)) k.filled ∙ l.1;
          };
    }

-- what came by then, and what comes
more : (by : ContainingBlockClaims) (list : Bool) (came new : List OofCandidate) {ls : List ℕ} → ls ≡ layers_of (keep by list came)
    → ls ++ layers_of (keep by list new) ≡ layers_of (keep by list (came ++ new))
more by list came new e = search (rules, keep_append, map-append)

-- a measure reply brings none
none_came : (s : State) (given : Reply) (surfaced : List ℕ) {replies : Replies} → taken_by s given ≡ Some (Kept replies) → candidates_in (lent_by given surfaced) ≡ []
unfolding candidates_in first_candidates records
none_came s (reply.Both size) surfaced t = refl
none_came s (reply.Width width) surfaced t = refl
none_came s (reply.Height height) surfaced t = refl
none_came s (reply.LaidOut overflow) surfaced t = never_kept s overflow t

module _ (by : ContainingBlockClaims) (styles : List ℕ) (x : Outcome) (came : List OofCandidate) (has : Has by x came) where
  abbrev lent : Lent
  lent = record { styles = styles; layouts = x.layouts; working = x.working; unclaimed = x.unclaimed; tally = x.tally }

  abbrev s : State
  s = x.step.state

  measured_has : (replies : Replies) → Has by (measured_on s replies lent) came
  unfolding measured_on asking
  measured_has replies = search rules

  -- after a sweep, whatever the step
  swept_has : (shift : Option (Point Float)) (surfaced layouts tally : List ℕ) (counts : Counts) (step : Step) → list_full s.opened.claims lent s.counts.filled surfaced ≡ false
      → let after = swept_by s.opened.claims shift surfaced lent s.counts.filled in
      counts.filled ≡ after.filled
      → Keeps s.opened counts step
      → Has by (record { step = step; layouts = layouts; working = after.working; unclaimed = after.unclaimed; tally = tally }) (came ++ candidates_in surfaced)
  swept_has shift surfaced layouts tally counts step full e k =
      let after = swept_by s.opened.claims shift surfaced lent s.counts.filled in
      let l = swept_layers s.opened.claims shift surfaced lent s.counts.filled full in
      record {
        claims = ap (λ (r : Opened). r.claims) k.opened ∙ has.claims;
        layers =
            record {
              working =
                  ap (λ (f : Filled). layers_of (first_candidates f.working after.working)) (k.filled ∙ e)
                  ∙ l.0
                  ∙ ap (λ (by : ContainingBlockClaims). layers_of (claimed_so_far x) ++ layers_of (claimed by (candidates_in surfaced))) has.claims
                  ∙ more by true came (candidates_in surfaced) has.layers.working;
              unclaimed =
                  ap (λ (f : Filled). layers_of (first_candidates f.unclaimed after.unclaimed)) (k.filled ∙ e)
                  ∙ l.1
                  ∙ ap (λ (by : ContainingBlockClaims). layers_of (unclaimed_so_far x) ++ layers_of (others by (candidates_in surfaced))) has.claims
                  ∙ more by false came (candidates_in surfaced) has.layers.unclaimed;
            };
      }

  laid_has : (overflow : Rect Float) (surfaced : List ℕ) → list_full s.opened.claims lent s.counts.filled surfaced ≡ false
      → Has by (laid_out s overflow surfaced lent) (came ++ candidates_in surfaced)
  unfolding laid_out
  laid_has overflow surfaced full = swept_has _ surfaced _ _ _ _ full refl (proceeding_keeps styles _ s.opened _ _)

  -- an accepted call on the run's own words
  accepted_has : (h : Heard) → refused_in (next styles x h) ≡ false → Has by (next styles x h) (came ++ candidates_in (lent_by h.reply h.surfaced))
  unfolding next
  accepted_has h n = go (reply_way s h.reply h.surfaced lent)
    where
      go : ReplyWay s h.reply h.surfaced lent → Has by (replied s h.reply h.surfaced lent) (came ++ candidates_in (lent_by h.reply h.surfaced))
      go (ReplyWay.turned_down r e) = no (ap refused_in e) n
      go (measures replies v t e) =
          rw (e, none_came s h.reply h.surfaced t, append-nil came) (measured_has replies)
      go (lays_out overflow v t e) =
          let all = taken_all s h.reply h.surfaced t in
          rw (e, all) (laid_has overflow h.surfaced (rw all at (reply_room s h.reply h.surfaced lent v)))

-- ---- turn by turn

-- an answer says nothing of the records
said : {by : ContainingBlockClaims} {x y : Outcome} {came : List OofCandidate} → y ≡ saying y.step.answer x → Has by x came → Has by y came
said {by} {x} {y} {came} e has = search rules

turns_have : (by : ContainingBlockClaims) (styles : List ℕ) (x : Outcome) (came : List OofCandidate) (ts : List Turn) → AllLend styles x ts → Has by x came
    → Has by (foldl (turned styles) x ts) (came ++ surfaced_by (heeded styles x ts))
unfolding heeded
turns_have by styles x came [] lends has = subst (Has by x) (sym (append-nil came)) has
turns_have by styles x came (t ∷ ts) lends has =
    go (is_err (turned styles x t).step.answer) refl (λ came has. turns_have by styles (turned styles x t) came ts lends.1 has)
  where
    go : (b : Bool) → is_err (turned styles x t).step.answer ≡ b
        → ((came : List OofCandidate) → Has by (turned styles x t) came → Has by (foldl (turned styles) (turned styles x t) ts) (came ++ surfaced_by (heeded styles (turned styles x t) ts)))
        → Has by (foldl (turned styles) (turned styles x t) ts) (came ++ surfaced_by (cond b (heeded styles (turned styles x t) ts) (t.heard ∷ heeded styles (turned styles x t) ts)))
    go true e rest = rest came (said (turn_refused styles x t e) has)
    go false e rest =
        subst (Has by (foldl (turned styles) (turned styles x t) ts))
        (append_assoc came (candidates_in (lent_by t.heard.reply t.heard.surfaced)) (surfaced_by (heeded styles (turned styles x t) ts)))
        (rest (came ++ candidates_in (lent_by t.heard.reply t.heard.surfaced)) (one t.loan e lends.0))
      where
        one : (l : Loan) → is_err (next_with styles x t.heard l).step.answer ≡ false → Lends l (next_with styles x t.heard l).step.answer
            → Has by (next_with styles x t.heard l) (came ++ candidates_in (lent_by t.heard.reply t.heard.surfaced))
        one own e l = accepted_has by styles x came has t.heard e
        one (other slices) e l = no l e

pub layers_of_a_run : LayersOfARun
layers_of_a_run o candidates lent turns n lends =
    (turns_have (claims_of o) lent.styles (opened o candidates lent) (candidates_in candidates) turns lends (go (opening_way o candidates lent))).layers
  where
    go : OpeningWay o candidates lent → Has (claims_of o) (opened o candidates lent) (candidates_in candidates)
    go (OpeningWay.turned_down r e) = no (ap refused_in e) n
    go (begins v e) = subst (λ (x : Outcome). Has (claims_of o) x (candidates_in candidates)) (sym e) (begun_has o candidates lent v)
