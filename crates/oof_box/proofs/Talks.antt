-- The code, fed any list of replies, gives the questions and the layout of the definition; and a box asks at most three. Assumes nothing.
use Prim.Native.Nat.{ℕ, suc}
use mathlib.Core.Path.{◌≡◌, refl, ◌∙◌, ap}
use mathlib.Core.Bool.{Bool, true, false, cond, ◌||◌}
use mathlib.Core.List.{List, [], ◌∷◌, foldl}
use Rattle.std.specs.Prelude.{Option, None, Some, is_some, unwrap_or, Float}
use Rattle.geometry.specs.Geometry.{zero_size, both_present}
use Rattle.geometry.specs.declared.Size.{Size}
use Rattle.style.specs.declared.Style.{Style}
use Rattle.tree.specs.declared.layout.OofCandidate.{OofCandidate}
use Rattle.oof_resolve.specs.Resolved.{resolved_box}
use Rattle.oof_resolve.specs.declared.ContainingBlock.{ContainingBlock}
use Rattle.oof_resolve.specs.declared.ResolvedBox.{ResolvedBox}
use Rattle.oof_common.specs.declared.sizing_keyword.SizingKeywordResolution.{SizingKeywordResolution}
use Rattle.oof_common.specs.declared.sizing_keyword.SizingKeywordResolution.TheVariants.{Exact, Measure}
use Rattle.oof_box.specs.Talk.{Talk, done, ask}
use Rattle.oof_box.specs.Box.{size_keywords, stretched, final_size, Placed}
use Rattle.oof_box.specs.Cut.{no_replies, taken, known_by, stretched_by, size_by, keyword_asked, fill_asked, lay_out_asked, size_asked, asked_of, asked_after, layout_after, sizing}
use Rattle.oof_box.specs.Theorems.{Heard, after, Standing, waiting, finished, step, begun, asked, seen_of, seen_by, CutIsDefinition, LaysOutWithin, lays_out, measures, ThreeQuestions, is_keyword_stage, StagesMoveForward}
use Rattle.oof_box.specs.declared.question.MeasureInput.{MeasureInput}
use Rattle.oof_box.specs.declared.question.Question.TheVariants as question
use Rattle.oof_box.specs.declared.question.Reply.{Reply}
use Rattle.oof_box.specs.declared.question.Reply.TheVariants as reply
use Rattle.oof_box.specs.declared.question.Stage.TheVariants as stage
use Rattle.oof_box.specs.declared.question.Asked.{Asked}
use Rattle.oof_box.specs.declared.question.KeywordReply.{KeywordReply}
use Rattle.oof_box.specs.declared.question.KeywordReply.TheVariants as keyword
use Rattle.oof_box.specs.declared.question.Replies.{Replies}
use Rattle.oof_box.specs.declared.sizing.Stretched.{Stretched}
use Rattle.util.proofs.Floats.{no}
use Rattle.oof_box.proofs.Rest.{to_lay_out, to_fill, after_keywords, to_keywords, rest_by, begins}

-- ---- what the code asks, beside the rest of the dialogue

-- the rest of the dialogue, from the replies kept
abbrev rest : ContainingBlock → Style → OofCandidate → ResolvedBox → Size (Option SizingKeywordResolution) → Replies → Talk Placed
rest container style candidate box keywords r = rest_by container style candidate box keywords r.keyword r.fill

data View (container : ContainingBlock) (style : Style) (candidate : OofCandidate) (box : ResolvedBox) (keywords : Size (Option SizingKeywordResolution)) : Asked → Talk Placed → Replies → Type 0 where
  lays :
      (r : Replies)
      → View container style candidate box keywords (lay_out_asked candidate.node (size_by (sizing style box keywords r)) box.space) (to_lay_out container style candidate box (size_by (sizing style box keywords r))) r
  fills :
      (k : Option KeywordReply)
      → View container style candidate box keywords (fill_asked candidate.node (stretched style box (known_by style box keywords k)).known box.space)
      (to_fill container style candidate box (stretched style box (known_by style box keywords k)) false)
      (record { keyword = k; fill = None })
  asks_both :
      (m : MeasureInput)
      → View container style candidate box keywords (record { stage = stage.KeywordBoth; question = question.MeasureBoth m })
      (ask (question.MeasureBoth m) (λ s. after_keywords container style candidate box keywords (Some (keyword.Both s))))
      no_replies
  asks_width :
      (m : MeasureInput)
      → View container style candidate box keywords (record { stage = stage.KeywordWidth; question = question.MeasureWidth m })
      (ask (question.MeasureWidth m) (λ w. after_keywords container style candidate box keywords (Some (keyword.Width w))))
      no_replies
  asks_height :
      (m : MeasureInput)
      → View container style candidate box keywords (record { stage = stage.KeywordHeight; question = question.MeasureHeight m })
      (ask (question.MeasureHeight m) (λ h. after_keywords container style candidate box keywords (Some (keyword.Height h))))
      no_replies

-- a keyword reply is there, or none was asked for
view_sized : (container : ContainingBlock) (style : Style) (candidate : OofCandidate) (box : ResolvedBox) (keywords : Size (Option SizingKeywordResolution)) (k : Option KeywordReply)
    → View container style candidate box keywords (size_asked candidate.node (sizing style box keywords (record { keyword = k; fill = None })))
    (after_keywords container style candidate box keywords k)
    (record { keyword = k; fill = None })
unfolding size_asked stretched_by size_by
view_sized container style candidate box keywords k = go (both_present (stretched style box (known_by style box keywords k)).known)
  where
    go : (b : Bool)
        → View container style candidate box keywords
        (cond (false || b)
        (lay_out_asked candidate.node (final_size box (stretched style box (known_by style box keywords k)) zero_size) box.space)
        (fill_asked candidate.node (stretched style box (known_by style box keywords k)).known box.space))
        (to_fill container style candidate box (stretched style box (known_by style box keywords k)) b)
        (record { keyword = k; fill = None })
    go true = lays (record { keyword = k; fill = None })
    go false = fills k

view_first : (container : ContainingBlock) (style : Style) (candidate : OofCandidate) (box : ResolvedBox) (wide tall : Option SizingKeywordResolution)
    → View container style candidate box (record { width = wide; height = tall }) (asked_of candidate.node (sizing style box (record { width = wide; height = tall }) no_replies))
    (to_keywords container style candidate box wide tall)
    no_replies
unfolding asked_of keyword_asked to_keywords
view_first container style candidate box (Some (Measure across)) (Some (Measure down)) = asks_both _
view_first container style candidate box (Some (Measure across)) _ = asks_width _
view_first container style candidate box None (Some (Measure down)) = asks_height _
view_first container style candidate box (Some (Exact w)) (Some (Measure down)) = asks_height _
view_first container style candidate box wide tall = view_sized container style candidate box (record { width = wide; height = tall }) None

view : (container : ContainingBlock) (style : Style) (candidate : OofCandidate) (box : ResolvedBox) (keywords : Size (Option SizingKeywordResolution)) (k : Option KeywordReply) (f : Option (Size Float))
    → View container style candidate box keywords (asked_of candidate.node (sizing style box keywords (record { keyword = k; fill = f }))) (rest_by container style candidate box keywords k f)
    (record { keyword = k; fill = f })
unfolding asked_of size_asked stretched_by size_by rest_by
view container style candidate box keywords k (Some s) = lays (record { keyword = k; fill = Some s })
view container style candidate box keywords None None = view_first container style candidate box keywords.width keywords.height
view container style candidate box keywords (Some k) None = view_sized container style candidate box keywords (Some k)

-- ---- the two, fed one reply after another

data Tied (container : ContainingBlock) (style : Style) (candidate : OofCandidate) : Standing → Talk Placed → Type 0 where
  going :
      {a : Asked} {t : Talk Placed} {r : Replies}
      → View container style candidate (resolved_box container style candidate) (size_keywords style (resolved_box container style candidate)) a t r
      → asked_after container style candidate r ≡ a
      → Tied container style candidate (waiting a.stage r) t
  over : (p : Placed) → Tied container style candidate (finished p) (done p)

from : (container : ContainingBlock) (style : Style) (candidate : OofCandidate) (r : Replies)
    → Tied container style candidate (waiting (asked_after container style candidate r).stage r)
    (rest container style candidate (resolved_box container style candidate) (size_keywords style (resolved_box container style candidate)) r)
unfolding asked_after
from container style candidate r =
    going (view container style candidate (resolved_box container style candidate) (size_keywords style (resolved_box container style candidate)) r.keyword r.fill) refl

keeps : (container : ContainingBlock) (style : Style) (candidate : OofCandidate) (s : Standing) (t : Talk Placed) → Tied container style candidate s t
    → (said : Reply) (surfaced : List OofCandidate)
    → Tied container style candidate (step container style candidate s (record { reply = said; surfaced = surfaced })) (after t (record { reply = said; surfaced = surfaced }))
unfolding taken layout_after rest_by
keeps container style candidate _ _ (over p) said surfaced = over p
keeps container style candidate _ _ (going (lays r) e) (reply.LaidOut o) surfaced = over _
keeps container style candidate _ _ (going (lays r) e) _ surfaced = going (lays r) e
keeps container style candidate _ _ (going (fills k) e) (reply.Both s) surfaced = from container style candidate (record { keyword = k; fill = Some s })
keeps container style candidate _ _ (going (fills k) e) _ surfaced = going (fills k) e
keeps container style candidate _ _ (going (asks_both m) e) (reply.Both s) surfaced = from container style candidate (record { keyword = Some (keyword.Both s); fill = None })
keeps container style candidate _ _ (going (asks_both m) e) _ surfaced = going (asks_both m) e
keeps container style candidate _ _ (going (asks_width m) e) (reply.Width w) surfaced = from container style candidate (record { keyword = Some (keyword.Width w); fill = None })
keeps container style candidate _ _ (going (asks_width m) e) _ surfaced = going (asks_width m) e
keeps container style candidate _ _ (going (asks_height m) e) (reply.Height h) surfaced = from container style candidate (record { keyword = Some (keyword.Height h); fill = None })
keeps container style candidate _ _ (going (asks_height m) e) _ surfaced = going (asks_height m) e

shows : (container : ContainingBlock) (style : Style) (candidate : OofCandidate) (s : Standing) (t : Talk Placed) → Tied container style candidate s t → seen_by container style candidate s ≡ seen_of t
shows container style candidate _ _ (over p) = refl
shows container style candidate _ _ (going v e) = ap (λ (a : Asked). asked a.question) e ∙ go v
  where
    go : {a : Asked} {t : Talk Placed} {r : Replies}
        → View container style candidate (resolved_box container style candidate) (size_keywords style (resolved_box container style candidate)) a t r
        → asked a.question ≡ seen_of t
    go (lays r) = refl
    go (fills k) = refl
    go (asks_both m) = refl
    go (asks_width m) = refl
    go (asks_height m) = refl

all_along : (container : ContainingBlock) (style : Style) (candidate : OofCandidate) (heard : List Heard) (s : Standing) (t : Talk Placed)
    → Tied container style candidate s t
    → seen_by container style candidate (foldl (step container style candidate) s heard) ≡ seen_of (foldl after t heard)
all_along container style candidate [] s t h = shows container style candidate s t h
all_along container style candidate (x ∷ heard) s t h =
    all_along container style candidate heard (step container style candidate s x) (after t x) (keeps container style candidate s t h x.reply x.surfaced)

pub cut_is_definition : CutIsDefinition
unfolding rest_by
cut_is_definition container style candidate heard =
    rw (begins container style candidate) (all_along container style candidate heard (begun container style candidate) _ (from container style candidate no_replies))

-- ---- three questions

fill_within : (container : ContainingBlock) (style : Style) (candidate : OofCandidate) (box : ResolvedBox) (at : Stretched) (b : Bool) (n : ℕ)
    → LaysOutWithin (suc n) (to_fill container style candidate box at b)
fill_within container style candidate box at true n = lays_out
fill_within container style candidate box at false n = measures refl (λ size. lays_out)

keywords_within : (container : ContainingBlock) (style : Style) (candidate : OofCandidate) (box : ResolvedBox) (keywords : Size (Option SizingKeywordResolution)) (k : Option KeywordReply) (n : ℕ)
    → LaysOutWithin (suc n) (after_keywords container style candidate box keywords k)
keywords_within container style candidate box keywords k n =
    let at = stretched style box (known_by style box keywords k) in
    fill_within container style candidate box at (both_present at.known) n

within : (container : ContainingBlock) (style : Style) (candidate : OofCandidate) (box : ResolvedBox) (wide tall : Option SizingKeywordResolution)
    → LaysOutWithin 2 (to_keywords container style candidate box wide tall)
unfolding to_keywords
within container style candidate box (Some (Measure across)) (Some (Measure down)) = measures refl (λ s. keywords_within container style candidate box _ _ 0)
within container style candidate box (Some (Measure across)) _ = measures refl (λ w. keywords_within container style candidate box _ _ 0)
within container style candidate box _ (Some (Measure down)) = measures refl (λ h. keywords_within container style candidate box _ _ 0)
within container style candidate box _ _ = keywords_within container style candidate box _ _ 1

pub three_questions : ThreeQuestions
three_questions container style candidate =
    let box = resolved_box container style candidate in
    rw (begins container style candidate) (within container style candidate box (size_keywords style box).width (size_keywords style box).height)

-- ---- stages

size_stage : (container : ContainingBlock) (style : Style) (candidate : OofCandidate) (box : ResolvedBox) (keywords : Size (Option SizingKeywordResolution)) (r : Replies)
    → is_keyword_stage (size_asked candidate.node (sizing style box keywords r)).stage ≡ false
unfolding size_asked size_by
size_stage container style candidate box keywords r = go (is_some r.fill || both_present (stretched_by (sizing style box keywords r)).known)
  where
    go : (b : Bool)
        → is_keyword_stage
        (cond b (lay_out_asked candidate.node (final_size box (stretched_by (sizing style box keywords r)) (unwrap_or r.fill zero_size)) box.space)
        (fill_asked candidate.node (stretched_by (sizing style box keywords r)).known box.space)).stage
        ≡ false
    go true = refl
    go false = refl

pub stages_move_forward : StagesMoveForward
unfolding asked_after asked_of size_asked
stages_move_forward container style candidate r = (keyword_stage r.keyword r.fill, fill_stage r.keyword r.fill)
  where
    sized : (r : Replies) → is_keyword_stage (size_asked candidate.node (sizing style (resolved_box container style candidate) (size_keywords style (resolved_box container style candidate)) r)).stage ≡ false
    sized r = size_stage container style candidate (resolved_box container style candidate) (size_keywords style (resolved_box container style candidate)) r

    keyword_stage : (k : Option KeywordReply) (f : Option (Size Float)) → is_some k ≡ true → is_keyword_stage (asked_after container style candidate (record { keyword = k; fill = f })).stage ≡ false
    keyword_stage k (Some s) h = sized (record { keyword = k; fill = Some s })
    keyword_stage None None h = no h refl
    keyword_stage (Some k) None h = sized (record { keyword = Some k; fill = None })

    fill_stage : (k : Option KeywordReply) (f : Option (Size Float)) → is_some f ≡ true → (asked_after container style candidate (record { keyword = k; fill = f })).stage ≡ stage.LayOut
    fill_stage k (Some s) h = refl
    fill_stage k None h = no h refl
