-- A run of whole quarter pixels: each layout that it writes has pixel edges, by the straight run. Assumes nothing.
use mathlib.Core.Path.{◌≡◌, refl, sym, ap, ◌∙◌, subst}
use mathlib.Core.Bool.{Bool, true, false}
use mathlib.Core.List.{List, [], ◌∷◌, ◌++◌, map, foldl, append-nil}
use mathlib.Core.Logic.{◌⊎◌, inl, inr}
use Prim.Native.Nat.{ℕ, zero, suc, ◌*◌, ◌/◌, ◌<◌}
use native.Mathlib.Omega.{arith}
use native.Mathlib.Nat.{not-suc-le-zero, le_of_suc-le-suc}
use lib.Dec.{eqb, lit<}
use lib.ListN.{length, get_or}
use borrow.Author.Tests.{eqb-true, eqb-false}
use Rattle.std.specs.Prelude.{Some, is_err, All}
use Rattle.util.proofs.Floats.{no}
use Rattle.style.specs.declared.ContainingBlockClaims.{ContainingBlockClaims}
use Rattle.tree.specs.declared.layout.Layout.{Layout}
use Rattle.tree.specs.declared.layout.OofCandidate.{OofCandidate}
use Rattle.style_record.specs.Record.{item, items}
use Rattle.style_record.specs.Decode.{rect_at, size_at, style_of, style_at}
use Rattle.records.specs.Records.{record_at, written}
use Rattle.records.proofs.Laws.{written_length}
use Rattle.tree_record.specs.Candidate.{candidate_width, candidate_of}
use Rattle.tree_record.specs.Layout.{layout_width, layout_of, layout_words}
use Rattle.sweep.specs.Sweep.{candidates_in, first_candidates, claimed, moved, keep, appended}
use Rattle.sweep.specs.declared.Filled.{Filled}
use Rattle.oof_box.specs.Talk.{Laid, Talk, ReplyTo}
use Rattle.oof_box.specs.Box.{Placed, placed}
use Rattle.oof_box.specs.Theorems.{reply_to}
use Rattle.oof_box.specs.declared.question.Question.{Question}
use Rattle.oof_box.specs.declared.question.Question.TheVariants as question
use Rattle.oof_box.specs.declared.question.Reply.{Reply}
use Rattle.oof_box.specs.declared.question.Reply.TheVariants as reply
use Rattle.run.specs.declared.Opening.{Opening}
use Rattle.run.specs.Call.{Lent, Outcome}
use Rattle.run.specs.Refusals.{bad_style}
use Rattle.run.specs.Run.{claims_of, container_of, opened}
use Rattle.run.specs.Straight.{World, Box, at_opening, after_box, Course, ended, asks, during, boxes, straight}
use Rattle.run.specs.Theorems.{Heard, Turn, AllLend, or_stay, hearing, so_far, laid_into, laid_so_far, claimed_in, called, heeded_in, course_of}
use Rattle.run.proofs.Straight.{straight_run}
use Rattle.run.proofs.Ways.{OpeningWay, begins, turned_down, opening_way}
use Rattle.run.proofs.Worlds.{claimed_after, claimed_count}
use Rattle.mirror_run.specs.Quarter.{AreaInQuarters, QuarterItem, QuarterTable, QuarterCandidates, QuarterPlace, QuarterReply}
use Rattle.mirror_run.specs.Runs.{Each, one, layout_of_box}
use Rattle.mirror_run.proofs.Again.{again_exact, again_same}
use Rattle.mirror_run.proofs.Claimed.{node_there, slice_back}
use Rattle.mirror_run.proofs.LaidOut.{written_here, kept_there}
use Rattle.mirror_run.proofs.Lists.{nobody, first_at, first_by, each_kept}
use Rattle.mirror_run.proofs.Styles as styles
use Rattle.mirror_run.proofs.Surfaced.{none_kept}
use Rattle.mirror_run.proofs.Verdicts.{OpeningPassed, opening_passed}
use Rattle.pixels_laws.specs.Quarter.{StyleInQuarters, QuarterTo, AnsweredInQuarters, now, later}
use Rattle.std.proofs.lemmas.List.Elements.{All-nil, All-head, All-tail, All-push}
use Rattle.pixels_laws.specs.Laws.{QuarterHeard, RunHasEdges}
use Rattle.pixels_laws.proofs.Box.{LayoutIn, has_edges, placed_in}
use Rattle.pixels_laws.proofs.Overflow.{RectIn, zero_rect_in, union_in, adds_in}

-- ---- a layout, written and read

read_in : {l : Layout} → LayoutIn l → LayoutIn (layout_of (layout_words l))
unfolding layout_of layout_words
read_in h =
    record {
      size = record { width = again_same (lit< tt) h.size.width; height = again_same (lit< tt) h.size.height };
      x = (h.x.0, again_exact (lit< tt) h.x.1);
      y = (h.y.0, again_exact (lit< tt) h.y.1);
    }

-- ---- a table's item

quarter_style : (table : List ℕ) → bad_style table ≡ false → (i : ℕ) → i < items table → QuarterItem (item table i) → StyleInQuarters (style_at table i)
unfolding style_at style_of rect_at size_at
quarter_style table e i l h =
    record {
      inset = record { left = h.each 0 (lit< tt); right = h.each 1 (lit< tt); top = h.each 2 (lit< tt); bottom = h.each 3 (lit< tt) };
      margin = record { left = h.each 4 (lit< tt); right = h.each 5 (lit< tt); top = h.each 6 (lit< tt); bottom = h.each 7 (lit< tt) };
      padding = record { left = h.each 8 (lit< tt); right = h.each 9 (lit< tt); top = h.each 10 (lit< tt); bottom = h.each 11 (lit< tt) };
      border = record { left = h.each 12 (lit< tt); right = h.each 13 (lit< tt); top = h.each 14 (lit< tt); bottom = h.each 15 (lit< tt) };
      size = record { width = h.each 16 (lit< tt); height = h.each 17 (lit< tt) };
      min = record { width = h.each 18 (lit< tt); height = h.each 19 (lit< tt) };
      max = record { width = h.each 20 (lit< tt); height = h.each 21 (lit< tt) };
      ratio = styles.no_ratio table e i l h.ratio;
    }

-- ---- the layouts of boxes in words, n being the number of items

abbrev LaidIn : ℕ → Box → Type 0
LaidIn n b = LayoutIn b.layout × (b.candidate.node < n)

-- a node that some box has
abbrev Among : ℕ → List Box → Type 0
Among node [] = ⊥
Among node (b ∷ bs) = (b.candidate.node ≡ node) ⊎ Among node bs

-- the layout there, as its words say
abbrev ReadIn : List ℕ → ℕ → Type 0
ReadIn ws node = LayoutIn (layout_of (record_at layout_width ws node))

words_in : (n node : ℕ) (bs : List Box) (ws : List ℕ) → length ws ≡ layout_width * n → All (LaidIn n) bs → ReadIn ws node ⊎ Among node bs → ReadIn (laid_into ws bs) node
unfolding laid_into
words_in n node [] ws long h (inl k) = k
words_in n node [] ws long h (inr k) = absurd k
words_in n node (b ∷ bs) ws long h k =
    words_in n node bs (written ws (layout_width * b.candidate.node) (layout_words b.layout))
    (written_length ws (layout_width * b.candidate.node) (layout_words b.layout) ∙ long) (All-tail (LaidIn n) b bs h) (go (eqb node b.candidate.node) refl k)
  where
    first : LaidIn n b
    first = All-head (LaidIn n) b bs h

    go : (t : Bool) → eqb node b.candidate.node ≡ t → ReadIn ws node ⊎ Among node (b ∷ bs)
        → ReadIn (written ws (layout_width * b.candidate.node) (layout_words b.layout)) node ⊎ Among node bs
    go true e k = inl (rw (written_here ws n b.candidate.node long first.1 b.layout node (eqb-true node b.candidate.node e)) (read_in first.0))
    go false e (inl k) = inl (rw (kept_there ws n b.candidate.node long first.1 b.layout node (eqb-false node b.candidate.node e)) k)
    go false e (inr (inl d)) = absurd (eqb-false node b.candidate.node e (sym d))
    go false e (inr (inr k)) = inr k

among : (bs : List Box) (cs : List OofCandidate) (i : ℕ) → i < length bs → Among (get_or (map (λ (b : Box). b.candidate) bs ++ cs) i nobody).node bs
among [] cs i l = absurd (not-suc-le-zero l)
among (b ∷ bs) cs zero l = inl refl
among (b ∷ bs) cs (suc i) l = inr (among bs cs i (le_of_suc-le-suc l))

-- ---- the course of a run: what nobody claims is surfaced, so that the claimed candidates stay as the opening had them

module _ (o : Opening) (candidates : List ℕ) (lent : Lent) (area : AreaInQuarters o.area) (table : QuarterTable lent.styles) (style : bad_style lent.styles ≡ false) where
  abbrev by : ContainingBlockClaims
  by = claims_of o

  abbrev n : ℕ
  n = items lent.styles

  abbrev Unclaimed : List OofCandidate → Type 0
  Unclaimed cs = claimed by cs ≡ []

  -- a reply to lay out
  abbrev LaidBy : Laid → Type 0
  LaidBy r = Unclaimed r.surfaced × QuarterReply (reply.LaidOut r.overflow)

  -- a candidate, and itself
  record Ready (c c' : OofCandidate) : Type 0 where
    same : c ≡ c'
    place : QuarterPlace c
    there : c.node < n

  record WorldIn (w : World) : Type 0 where
    laid : All (LaidIn n) w.laid
    claimed : claimed_in w ≡ keep by true (candidates_in candidates)
    overflow : RectIn w.overflow

  data CourseIn : Course → Type 0 where
    over : {w : World} → WorldIn w → CourseIn (ended w)
    asked : {w : World} {q : Question} {next : ReplyTo q → Course} → WorldIn w → ((r : ReplyTo q) → QuarterTo LaidBy q r → CourseIn (next r)) → CourseIn (asks w q next)

  during_in : (w : World) → WorldIn w → (P : Placed → Type 0) (t : Talk Placed) (k : Placed → Course) → AnsweredInQuarters LaidBy P t → ((p : Placed) → P p → CourseIn (k p)) → CourseIn (during w t k)
  unfolding during
  during_in w h P _ k (now {a = p} g) f = f p g
  during_in w h P _ k (later {next = next} g) f = asked h (λ r q. during_in w h P (next r) k (g r q) f)

  module _ (w : World) (c : OofCandidate) (rest : List OofCandidate) (p : Placed) (none : Unclaimed p.surfaced) where
    waits : (after_box by w c rest p).waiting ≡ rest
    unfolding after_box moved
    waits = ap (λ (l : List OofCandidate). rest ++ l) (none_kept by (Some p.outcome.layout.location) p.surfaced none) ∙ append-nil rest

    after_in : WorldIn w → w.waiting ≡ c ∷ rest → LayoutIn p.outcome.layout → RectIn p.outcome.contribution → c.node < n → WorldIn (after_box by w c rest p)
    unfolding after_box
    after_in h e l r there =
        record {
          laid = All-push (LaidIn n) w.laid (record { candidate = c; layout = p.outcome.layout }) h.laid (l, there);
          claimed =
              claimed_after by w c rest p e ∙ ap (λ (l : List OofCandidate). claimed_in w ++ l) (none_kept by (Some p.outcome.layout.location) p.surfaced none) ∙ append-nil (claimed_in w) ∙ h.claimed;
          overflow = union_in w.overflow p.outcome.contribution h.overflow r;
        }

  boxes_in : (most : ℕ) (w : World) (waiting : List OofCandidate) → WorldIn w → w.waiting ≡ waiting → Each Ready waiting waiting → CourseIn (boxes most (container_of o) by (style_at lent.styles) w waiting)
  unfolding boxes
  boxes_in zero w waiting h e r = over h
  boxes_in (suc most) w [] h e r = over h
  boxes_in (suc most) w (c ∷ rest) h e (one r rs) =
      during_in w h _ (placed (container_of o) (style_at lent.styles c.node) c) _
      (placed_in LaidBy (container_of o) (style_at lent.styles c.node) c area (quarter_style lent.styles style c.node r.there (table c.node r.there)) r.place)
      (λ p g. boxes_in most (after_box by w c rest p) (after_box by w c rest p).waiting
      (after_in w c rest p g.laid.0 h e g.layout
      (rw g.contribution (adds_in (container_of o) area (style_at lent.styles c.node) p.outcome.layout g.layout g.laid.1)) r.there)
      refl
      (subst (λ (l : List OofCandidate). Each Ready l l) (sym (waits w c rest p g.laid.0)) rs))

  -- a reply
  hearing_in : (course : Course) (h : Heard) → QuarterHeard by h → CourseIn course → CourseIn (hearing course h)
  unfolding hearing
  hearing_in _ h k (over w) = over w
  hearing_in _ h k (asked {w = w} {q = q} {next = next} g f) = go q h.reply k next f
    where
      go : (q : Question) (r : Reply) → QuarterHeard by (record { reply = r; surfaced = h.surfaced }) → (next : ReplyTo q → Course) → ((r : ReplyTo q) → QuarterTo LaidBy q r → CourseIn (next r))
          → CourseIn (or_stay (reply_to q (record { reply = r; surfaced = candidates_in h.surfaced })) next (asks w q next))
      go (question.MeasureBoth m) (reply.Both s) k next f = f s k.0
      go (question.MeasureBoth m) (reply.Width x) k next f = asked g f
      go (question.MeasureBoth m) (reply.Height x) k next f = asked g f
      go (question.MeasureBoth m) (reply.LaidOut x) k next f = asked g f
      go (question.MeasureWidth m) (reply.Both s) k next f = asked g f
      go (question.MeasureWidth m) (reply.Width x) k next f = f x k.0
      go (question.MeasureWidth m) (reply.Height x) k next f = asked g f
      go (question.MeasureWidth m) (reply.LaidOut x) k next f = asked g f
      go (question.MeasureHeight m) (reply.Both s) k next f = asked g f
      go (question.MeasureHeight m) (reply.Width x) k next f = asked g f
      go (question.MeasureHeight m) (reply.Height x) k next f = f x k.0
      go (question.MeasureHeight m) (reply.LaidOut x) k next f = asked g f
      go (question.LayOut l) (reply.Both s) k next f = asked g f
      go (question.LayOut l) (reply.Width x) k next f = asked g f
      go (question.LayOut l) (reply.Height x) k next f = asked g f
      go (question.LayOut l) (reply.LaidOut x) k next f = f _ (k.1, k.0)

  all_heard : (hs : List Heard) (course : Course) → All (QuarterHeard by) hs → CourseIn course → CourseIn (foldl hearing course hs)
  all_heard [] course k h = h
  all_heard (x ∷ hs) course k h = all_heard hs (hearing course x) (All-tail (QuarterHeard by) x hs k) (hearing_in course x (All-head (QuarterHeard by) x hs k) h)

  reached : {course : Course} → CourseIn course → WorldIn (so_far course)
  reached (over w) = w
  reached (asked w f) = w

  straight_in : QuarterCandidates candidates → OpeningPassed o candidates lent → CourseIn (straight 4096 (container_of o) by (style_at lent.styles) (candidates_in candidates))
  unfolding straight at_opening candidates_in
  straight_in quarter passed =
      boxes_in 4096 (at_opening by (candidates_in candidates)) (claimed by (candidates_in candidates)) (record { laid = All-nil (LaidIn n); claimed = refl; overflow = zero_rect_in }) refl
      (each_kept by true (λ c c' r. ap (λ (c : OofCandidate). c.position) r.same)
      (first_by (length candidates / candidate_width) candidates candidates (λ i h. record { same = refl; place = quarter i h; there = node_there n candidates passed.candidate i h })))

-- ---- the words that it leaves

-- box i, by the working list
box_node : (w : World) (ws : List ℕ) → first_candidates (length (claimed_in w)) (appended ws 0 (claimed_in w)) ≡ claimed_in w → (i : ℕ) → i < length w.laid
    → Among (candidate_of (record_at candidate_width (appended ws 0 (claimed_in w)) i)).node w.laid
box_node w ws back i l =
    subst (λ (c : OofCandidate). Among c.node w.laid)
    (ap (λ (cs : List OofCandidate). get_or cs i nobody) (sym back) ∙ first_at (length (claimed_in w)) (appended ws 0 (claimed_in w)) i (omega (arith, claimed_count w)))
    (among w.laid w.waiting i l)

-- what holds of it: its numbers, and that the working list holds the opening's claimed candidates
pub record RunIn (o : Opening) (candidates : List ℕ) (lent : Lent) (has : Outcome) : Type 0 where
  pub layouts : (i : ℕ) → i < laid_so_far has → LayoutIn (layout_of_box has i)
  pub overflow : RectIn has.step.state.overflow
  pub working : has.working ≡ appended lent.working 0 (keep (claims_of o) true (candidates_in candidates))
  pub filled : has.step.state.counts.filled.working ≡ length (keep (claims_of o) true (candidates_in candidates))

-- under what `RunHasEdges` asks
pub run_in : (o : Opening) (candidates : List ℕ) (lent : Lent) (turns : List Turn)
    → AreaInQuarters o.area → QuarterTable lent.styles → QuarterCandidates candidates
    → is_err (opened o candidates lent).step.answer ≡ false
    → AllLend lent.styles (opened o candidates lent) turns
    → All (QuarterHeard (claims_of o)) (heeded_in o candidates lent turns)
    → RunIn o candidates lent (called o candidates lent turns)
run_in o candidates lent turns area table quarter accepts lends heard = go (opening_way o candidates lent)
  where
    go : OpeningWay o candidates lent → RunIn o candidates lent (called o candidates lent turns)
    go (turned_down r e) = no (ap (λ (x : Outcome). is_err x.step.answer) e) accepts
    go (begins v e) =
        let passed = opening_passed o candidates lent v in
        let stands = straight_run o candidates lent turns accepts lends in
        let w = so_far (course_of o candidates lent turns) in
        let h =
        reached o candidates lent area table passed.style
        (all_heard o candidates lent area table passed.style (heeded_in o candidates lent turns) _ heard (straight_in o candidates lent area table passed.style quarter passed)) in
        let back =
        subst (λ (cs : List OofCandidate). first_candidates (length cs) (appended lent.working 0 cs) ≡ cs) (sym h.claimed) (slice_back (claims_of o) candidates lent.working true passed.room.0) in
        record {
          layouts = λ i l.
              rw (stands.layouts, stands.working)
              (words_in (items lent.styles) _ w.laid lent.layouts passed.layouts h.laid (inr (box_node w lent.working back i (subst (λ (n : ℕ). i < n) stands.laid l))));
          overflow = rw stands.overflow h.overflow;
          working = stands.working ∙ ap (appended lent.working 0) h.claimed;
          filled = ap (λ (f : Filled). f.working) stands.filled ∙ ap length h.claimed;
        }

pub run_has_edges : RunHasEdges
run_has_edges o candidates lent turns area table quarter accepts lends heard i l =
    has_edges ((run_in o candidates lent turns area table quarter accepts lends heard).layouts i l) area.x area.y
