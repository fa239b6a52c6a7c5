-- Each test of a verdict decides document 01's condition. Assumes nothing.
use Rattle.std.specs.Prelude.{is_none, Option, Some, None, Result, Ok, Err, is_err, ⊤}
use Prim.Native.Nat.{ℕ, zero, suc, ◌+◌, ◌*◌, ◌-◌, ◌/◌, ◌%◌, ◌<◌, ◌≤◌}
use native.Mathlib.Omega.{arith}
use native.Mathlib.Nat.{add-zero, add_assoc}
use mathlib.Core.Logic.{◌⊎◌, inl, inr, ◌≢◌, ◌↔◌}
use mathlib.Core.Path.{◌≡◌, refl, sym, ap, ◌∙◌}
use mathlib.Core.Bool.{Bool, true, false, cond, not}
use mathlib.Core.List.{List, [], ◌∷◌}
use lib.Dec.{ltb, eqb}
use lib.ListN.{length, get_or}
use borrow.Author.Tests.{eqb-true, eq-eqb, ltb-false, le-ltb, not-false, le-leb}
use Rattle.std.proofs.lemmas.Bool.{or_parts, or_from}
use Rattle.util.proofs.Floats.{no}
use Rattle.style.specs.Laws.{tags_of, among}
use Rattle.style.proofs.Laws.{takes_its_tags}
use Rattle.records.specs.Records.{room, good, good_records}
use Rattle.tree_record.specs.Candidate.{candidate_width, layer_word, layer_count, axis_kinds, candidate_kinds}
use Rattle.tree_record.proofs.Good.{good_axis, good_record}
use Rattle.style_record.specs.Record.{Kind, tag, number, up_to, ratio, keyword, safety, contain, kind_of, item, items}
use Rattle.style_record.specs.Check.{safety_breaks, breaks_as, breaks_rule, breaks, checked}
use Rattle.style_record.specs.declared.check.BadWord.{BadWord}
use Rattle.style_record.proofs.Laws.{good_is_none, bad_is_first}
use Rattle.style.specs.Values.{is_self_relative}
use Rattle.style.specs.declared.alignment.AlignItemsKeyword.{AlignItemsKeyword}
use Rattle.style.specs.declared.alignment.AlignItemsKeyword.TheVariants as keyword
use Rattle.style.specs.declared.alignment.AlignItems.{AlignItems}
use Rattle.style.specs.declared.ContainingBlockClaims.{ContainingBlockClaims}
use Rattle.sweep.specs.Laws.{Exceeds}
use Rattle.sweep.specs.Sweep.{candidates_in, claimed, others}
use Rattle.sweep.specs.declared.Filled.{Filled}
use Rattle.oof_box.specs.Cut.{taken}
use Rattle.oof_box.specs.declared.question.Replies.{Replies}
use Rattle.oof_box.specs.declared.question.Reply.{Reply}
use Rattle.oof_box.specs.declared.question.Reply.TheVariants as reply
use Rattle.oof_box.specs.declared.question.Stage.{Stage}
use Rattle.oof_box.specs.declared.question.Stage.TheVariants as stage
use Rattle.run.specs.declared.Opening.{Opening}
use Rattle.run.specs.declared.Counts.{Counts}
use Rattle.run.specs.declared.Extents.{Extents}
use Rattle.run.specs.declared.State.{State}
use Rattle.run.specs.Call.{Slices, Lent, slices_of}
use Rattle.run.specs.Refusals.{bad_area, ragged, bad_table, bad_list, bad_slices, other_lengths, bad_tally, other_extents, bad_at_opening, bad_at_reply, bad_style, bad_candidate, list_full, any_above, wrong_counts}
use Rattle.run.specs.Run.{extents_of, taken_in}
use Rattle.run.specs.Conditions.{AreaIsBad, item_words, GoodTable, Whole, GoodList, SlicesAreBad, TallyIsBad, LengthsDiffer, WordIsAbove, Among, Allowed, WordIsAllowed, StyleIsBad, places, word, AxisIsBad, RecordIsBad, CandidateIsBad, QuestionKind, both, width, height, lay_out, kind_of_reply, kind_at, NotAsked, CountsAreWrong, SideIsUnresolved}
use Rattle.run.proofs.Decides.{Decides, by_iff, either, regroup, opposite, refutes, guard, last, below, at_most, equal, not_every}
use Rattle.run.proofs.Decides as decides

-- ---- 1

pub area_decided : (o : Opening) → Decides (bad_area o) (AreaIsBad o)
unfolding bad_area
area_decided o = regroup (regroup (either (either (either (below 1 o.direction) (below 3 o.claims)) (below 3 o.overflowx)) (below 3 o.overflowy)))

-- ---- 2

-- two numbers that are equal don't differ
same : (m n : ℕ) → m ≡ n → not (eqb m n) ≡ false
same m n e = ap not (eq-eqb m n e)

pub whole_decided : (list : List ℕ) → Decides (ragged candidate_width list) (¬ Whole list)
whole_decided list =
    refutes (λ f. (length list / candidate_width, let e = eqb-true (length list % candidate_width) 0 (not-false _ f) in omega arith))
    (λ h. let e = h.1 in same (length list % candidate_width) 0 (omega arith))

list_decided : (list : List ℕ) → Decides (bad_list list) (¬ GoodList list)
unfolding bad_list
list_decided list = refutes there back
  where
    there : bad_list list ≡ false → GoodList list
    there f =
        let parts = or_parts _ _ f in
        let e = eqb-true (length list % candidate_width) 0 (not-false _ parts.0) in
        let h = ltb-false _ (length list / candidate_width) parts.1 in
        (length list / candidate_width, h, omega arith)

    back : GoodList list → bad_list list ≡ false
    back g =
        let h = g.1 in
        let e = g.2 in
        or_from _ _ (same (length list % candidate_width) 0 (omega arith)) (le-ltb _ (length list / candidate_width) (omega arith))

table_decided : (styles layouts : List ℕ) → Decides (bad_table styles layouts) (¬ GoodTable styles layouts)
unfolding bad_table items
table_decided styles layouts = refutes there back
  where
    there : bad_table styles layouts ≡ false → GoodTable styles layouts
    there f =
        let first = or_parts _ _ f in
        let second = or_parts _ _ first.0 in
        let e = eqb-true (length styles % item_words) 0 (not-false _ second.0) in
        let h = ltb-false _ (length styles / item_words) second.1 in
        (length styles / item_words, h, omega arith, eqb-true (length layouts) (23 * (length styles / item_words)) (not-false _ first.1))

    back : GoodTable styles layouts → bad_table styles layouts ≡ false
    back g =
        let h = g.1 in
        let d = g.2 in
        let e = g.3 in
        or_from _ _
        (or_from _ _ (same (length styles % item_words) 0 (omega arith)) (le-ltb _ (length styles / item_words) (omega arith)))
        (same (length layouts) (23 * (length styles / item_words)) (omega arith))

pub slices_decided : (lent : Slices) → Decides (bad_slices lent) (SlicesAreBad lent)
unfolding bad_slices
slices_decided lent = regroup (either (either (table_decided lent.styles lent.layouts) (list_decided lent.working)) (list_decided lent.unclaimed))

pub tally_decided : (lent : Lent) → Decides (bad_tally lent) (TallyIsBad lent)
tally_decided lent = opposite (equal (length lent.tally) (items lent.styles))

pub lengths_decided : (e : Extents) (lent : Lent) → Decides (other_extents e lent) (extents_of lent ≢ e)
unfolding other_lengths
lengths_decided e lent = refutes there back
  where
    there : other_extents e lent ≡ false → extents_of lent ≡ e
    there f =
        let fourth = or_parts (other_lengths e (slices_of lent)) _ f in
        let third = or_parts _ _ fourth.0 in
        let second = or_parts _ _ third.0 in
        let first = or_parts _ _ second.0 in
        let a = eqb-true (length lent.styles) e.styles (not-false _ first.0) in
        let b = eqb-true (length lent.layouts) e.layouts (not-false _ first.1) in
        let c = eqb-true (length lent.working) e.working (not-false _ second.1) in
        let d = eqb-true (length lent.unclaimed) e.unclaimed (not-false _ third.1) in
        let t = eqb-true (length lent.tally) e.tally (not-false _ fourth.1) in
        λ i. record { styles = a i; layouts = b i; working = c i; unclaimed = d i; tally = t i }

    back : extents_of lent ≡ e → other_extents e lent ≡ false
    back h =
        or_from (other_lengths e (slices_of lent)) _
        (or_from _ _
        (or_from _ _
        (or_from _ _ (same (length lent.styles) e.styles (ap (λ (x : Extents). x.styles) h))
        (same (length lent.layouts) e.layouts (ap (λ (x : Extents). x.layouts) h)))
        (same (length lent.working) e.working (ap (λ (x : Extents). x.working) h)))
        (same (length lent.unclaimed) e.unclaimed (ap (λ (x : Extents). x.unclaimed) h)))
        (same (length lent.tally) e.tally (ap (λ (x : Extents). x.tally) h))

-- of an opening, and of a reply
pub opening_extents_decided : (candidates : List ℕ) (lent : Lent)
    → Decides (bad_at_opening candidates lent) ((SlicesAreBad (slices_of lent) ⊎ TallyIsBad lent) ⊎ (¬ Whole candidates))
opening_extents_decided candidates lent = either (either (slices_decided (slices_of lent)) (tally_decided lent)) (whole_decided candidates)

pub reply_extents_decided : (s : State) (surfaced : List ℕ) (lent : Lent)
    → Decides (bad_at_reply s.opened.extents surfaced lent) (((SlicesAreBad (slices_of lent) ⊎ TallyIsBad lent) ⊎ LengthsDiffer s lent) ⊎ (¬ Whole surfaced))
reply_extents_decided s surfaced lent =
    either (either (either (slices_decided (slices_of lent)) (tally_decided lent)) (lengths_decided s.opened.extents lent)) (whole_decided surfaced)

-- ---- 3

among_decided : (tags : List ℕ) (w : ℕ) → Decides (among tags w) (Among tags w)
unfolding among
among_decided [] w = record { holds = λ t. no {b = false} t refl; fails = λ f a. a }
among_decided (x ∷ tags) w = either (equal w x) (among_decided tags w)

taken_exactly : {b : Bool} {P : Type 0} → Decides b P → (not b ≡ false) ↔ P
taken_exactly {b = true} d = (λ e. d.holds refl, λ p. refl)
taken_exactly {b = false} d = (λ e. no {b = true} refl e, λ p. absurd (d.fails refl p))

safety_exactly : (before w : ℕ) → (safety_breaks before w ≡ false) ↔ ((before ≡ 10) ⊎ (w ≤ 2))
unfolding safety_breaks
safety_exactly before w = go (eqb before 10) (equal before 10)
  where
    go : (b : Bool) → Decides b (before ≡ 10) → (cond b false (ltb 2 w) ≡ false) ↔ ((before ≡ 10) ⊎ (w ≤ 2))
    go true d = (λ e. inl (d.holds refl), λ h. refl)
    go false d = (λ e. inr (ltb-false 2 w e), back)
      where
        back : (before ≡ 10) ⊎ (w ≤ 2) → ltb 2 w ≡ false
        back (inl e) = absurd (d.fails refl e)
        back (inr h) = le-ltb 2 w h

-- a word breaks no rule exactly where it is allowed
kind_exactly : (kind : Kind) (before w : ℕ) → (breaks_as kind before w ≡ false) ↔ Allowed kind before w
unfolding breaks_as
kind_exactly (tag field) before w = rw (takes_its_tags field w) (taken_exactly (among_decided (tags_of field) w))
kind_exactly number before w = (λ e. tt, λ u. refl)
kind_exactly (up_to last) before w = (ltb-false last w, le-ltb last w)
kind_exactly ratio before w = (λ e. tt, λ u. refl)
kind_exactly keyword before w = (ltb-false 10 w, le-ltb 10 w)
kind_exactly safety before w = safety_exactly before w
kind_exactly contain before w = (ltb-false 255 w, le-ltb 255 w)

pub word_exactly : (styles : List ℕ) (i k : ℕ) → (breaks styles i k ≡ false) ↔ WordIsAllowed styles i k
unfolding breaks breaks_rule
word_exactly styles i k = kind_exactly (kind_of k) (item styles i (k - 1)) (item styles i k)

pub word_decided : (styles : List ℕ) (i k : ℕ) → Decides (breaks styles i k) (¬ WordIsAllowed styles i k)
word_decided styles i k = let e = word_exactly styles i k in refutes e.0 e.1

pub style_decided : (styles : List ℕ) → Decides (bad_style styles) (StyleIsBad styles)
unfolding bad_style
style_decided styles = record { holds = λ t. there (checked styles) refl t; fails = λ f. back (checked styles) refl f }
  where
    there : (c : Result ⊤ BadWord) → checked styles ≡ c → is_err c ≡ true → StyleIsBad styles
    there (Ok _) e t = no {b = false} t refl
    there (Err first) e t = let f = (bad_is_first styles first.item first.word).0 e in (first.item, first.word, f.item_there, f.word_there, (word_decided styles first.item first.word).holds f.breaks_it)

    back : (c : Result ⊤ BadWord) → checked styles ≡ c → is_err c ≡ false → ¬ StyleIsBad styles
    back (Ok _) e f s = (word_decided styles s.0 s.1).fails ((good_is_none styles).0 e s.0 s.2 s.1 s.3) s.4
    back (Err first) e f s = no {b = true} refl f

-- ---- 4

axis_decided : (list : List ℕ) (i k : ℕ) → Decides (not (good axis_kinds list (candidate_width * i + k))) (AxisIsBad list i k)
axis_decided list i k =
    rw (good_axis list (candidate_width * i + k), add_assoc (candidate_width * i) k 2, add_assoc (candidate_width * i) k 3, add_assoc (candidate_width * i) k 4)
    (guard _ (at_most 3 (word list i (k + 2))) (guard _ (at_most 3 (word list i (k + 3))) (last (at_most 3 (word list i (k + 4))))))

-- the code tests the layer first, and it is named last
layer_last : {L A B C D : Type 0} → (L ⊎ A ⊎ B ⊎ C ⊎ D) ↔ (A ⊎ B ⊎ C ⊎ D ⊎ L)
layer_last {L} {A} {B} {C} {D} = (to, from)
  where
    to : L ⊎ A ⊎ B ⊎ C ⊎ D → A ⊎ B ⊎ C ⊎ D ⊎ L
    to (inl l) = inr (inr (inr (inr l)))
    to (inr (inl a)) = inl a
    to (inr (inr (inl b))) = inr (inl b)
    to (inr (inr (inr (inl c)))) = inr (inr (inl c))
    to (inr (inr (inr (inr d)))) = inr (inr (inr (inl d)))

    from : A ⊎ B ⊎ C ⊎ D ⊎ L → L ⊎ A ⊎ B ⊎ C ⊎ D
    from (inl a) = inr (inl a)
    from (inr (inl b)) = inr (inr (inl b))
    from (inr (inr (inl c))) = inr (inr (inr (inl c)))
    from (inr (inr (inr (inl d)))) = inr (inr (inr (inr d)))
    from (inr (inr (inr (inr l)))) = inl l

record_decided : (n : ℕ) (list : List ℕ) (i : ℕ) → Decides (not (good (candidate_kinds n) list (candidate_width * i))) (RecordIsBad n list i)
record_decided n list i =
    rw (good_record n list (candidate_width * i), add-zero)
    (by_iff
    (guard _ (at_most layer_count (word list i layer_word))
    (guard _ (at_most n (get_or list (candidate_width * i) 0))
    (guard _ (at_most 5 (word list i 2))
    (decides.both (good axis_kinds list (candidate_width * i + 3)) (good axis_kinds list (candidate_width * i + 8)) (axis_decided list i 3) (axis_decided list i 8)))))
    layer_last)

pub candidate_decided : (styles list : List ℕ) (count : ℕ) → count ≤ places list → Decides (bad_candidate styles list count) (CandidateIsBad styles list count)
unfolding bad_candidate good_records
candidate_decided styles list count h =
    rw (le-leb count (length list / candidate_width) h)
    (not_every count (λ i. good (candidate_kinds (items styles)) list (candidate_width * i)) (RecordIsBad (items styles) list) (record_decided (items styles) list))

-- ---- 5

exceeds : (held more l : ℕ) → Decides (not (room candidate_width l held more)) (l / candidate_width < held + more)
unfolding room
exceeds held more l = by_iff (opposite (at_most (held + more) (l / candidate_width))) (λ n. omega arith, λ h k. absurd (omega arith))

pub full_decided : (by : ContainingBlockClaims) (lent : Lent) (filled : Filled) (candidates : List ℕ)
    → Decides (list_full by lent filled candidates) (Exceeds by (candidates_in candidates) lent.working lent.unclaimed filled)
unfolding list_full
full_decided by lent filled candidates =
    either (exceeds filled.working (length (claimed by (candidates_in candidates))) (length lent.working))
    (exceeds filled.unclaimed (length (others by (candidates_in candidates))) (length lent.unclaimed))

-- ---- 6

-- kinds by numbers
abbrev code_of : QuestionKind → ℕ
code_of both = 0
code_of width = 1
code_of height = 2
code_of lay_out = 3

kinds_differ : (a b : QuestionKind) → code_of a ≡ code_of b → a ≡ b
kinds_differ a b e = sym (back a) ∙ ap (λ n. get_or by_code n both) e ∙ back b
  where
    by_code : List QuestionKind
    by_code = both ∷ width ∷ height ∷ lay_out ∷ []

    back : (a : QuestionKind) → get_or by_code (code_of a) both ≡ a
    back both = refl
    back width = refl
    back height = refl
    back lay_out = refl

other_kind : (replies : Replies) (at : Stage) (given : Reply)
    → is_none (taken replies at given) ≡ not (eqb (code_of (kind_of_reply given)) (code_of (kind_at at)))
unfolding taken
other_kind replies stage.KeywordBoth (reply.Both s) = refl
other_kind replies stage.KeywordWidth (reply.Width w) = refl
other_kind replies stage.KeywordHeight (reply.Height h) = refl
other_kind replies stage.Fill (reply.Both s) = refl
other_kind replies stage.LayOut (reply.LaidOut o) = refl
other_kind replies _ _ = refl

kind_decided : (replies : Replies) (at : Stage) (given : Reply) → Decides (is_none (taken replies at given)) (kind_of_reply given ≢ kind_at at)
kind_decided replies at given =
    rw (other_kind replies at given)
    (opposite (by_iff (equal (code_of (kind_of_reply given)) (code_of (kind_at at))) (kinds_differ (kind_of_reply given) (kind_at at), ap code_of)))

abbrev is_finished : Option Stage → Bool
is_finished None = true
is_finished (Some at) = false

abbrev stage_in : Option Stage → Stage
stage_in None = stage.LayOut
stage_in (Some at) = at

pub asked_decided : (p : Option Stage) (replies : Replies) (given : Reply) → Decides (is_none (taken_in p replies given)) (NotAsked p given)
asked_decided None replies given = record { holds = λ t. inl refl; fails = λ f. no {b = true} refl f }
asked_decided (Some at) replies given = by_iff (kind_decided replies at given) (λ n. inr (at, refl, n), back)
  where
    back : NotAsked (Some at) given → kind_of_reply given ≢ kind_at at
    back (inl e) = no {b = false} (ap is_finished e) refl
    back (inr a) = λ k. a.2 (k ∙ ap kind_at (ap stage_in a.1))

-- some word of a list is above n
above_decided : (n : ℕ) (ws : List ℕ) → Decides (any_above n ws) ((i : ℕ) × (i < length ws) × (n < get_or ws i 0))
above_decided n [] = record { holds = λ t. no {b = false} t refl; fails = λ f s. let h = s.1 in absurd (omega arith) }
above_decided n (w ∷ ws) = by_iff (either (below n w) (above_decided n ws)) (to, from)
  where
    to : (n < w) ⊎ ((i : ℕ) × (i < length ws) × (n < get_or ws i 0)) → (i : ℕ) × (i < length (w ∷ ws)) × (n < get_or (w ∷ ws) i 0)
    to (inl h) = (0, omega arith, h)
    to (inr s) = (suc s.0, let h = s.1 in omega arith, s.2)

    from : (i : ℕ) × (i < length (w ∷ ws)) × (n < get_or (w ∷ ws) i 0) → (n < w) ⊎ ((i : ℕ) × (i < length ws) × (n < get_or ws i 0))
    from (zero, l, h) = inl h
    from (suc i, l, h) = inr (i, omega arith, h)

pub counts_decided : (lent : Lent) (c : Counts) → Decides (wrong_counts lent c) (CountsAreWrong lent c ⊎ WordIsAbove lent c)
unfolding wrong_counts
counts_decided lent c =
    either
    (regroup
    (regroup
    (regroup
    (either
    (either
    (either (either (below (places lent.working) c.filled.working) (below (places lent.unclaimed) c.filled.unclaimed))
    (by_iff (equal c.begun 0) (λ e. omega arith, λ h. omega arith)))
    (below c.filled.working c.begun))
    (below (3 * c.begun) c.answered)))))
    (above_decided c.answered lent.tally)

-- ---- 7

self_relative_lem : (k : AlignItemsKeyword) → is_self_relative k ≡ true → (k ≡ keyword.SelfStart) ⊎ (k ≡ keyword.SelfEnd)
self_relative_lem keyword.Normal e = no {b = false} e refl
self_relative_lem keyword.Start e = no {b = false} e refl
self_relative_lem keyword.End e = no {b = false} e refl
self_relative_lem keyword.FlexStart e = no {b = false} e refl
self_relative_lem keyword.FlexEnd e = no {b = false} e refl
self_relative_lem keyword.SelfStart e = inl refl
self_relative_lem keyword.SelfEnd e = inr refl
self_relative_lem keyword.Center e = no {b = false} e refl
self_relative_lem keyword.Baseline e = no {b = false} e refl
self_relative_lem keyword.Stretch e = no {b = false} e refl

pub side_decided : (a : AlignItems) → Decides (is_self_relative a.keyword) (SideIsUnresolved a)
side_decided a = record { holds = self_relative_lem a.keyword; fails = λ f s. fails f s }
  where
    fails : is_self_relative a.keyword ≡ false → ¬ SideIsUnresolved a
    fails f (inl e) = no (ap is_self_relative e) f
    fails f (inr e) = no (ap is_self_relative e) f
