-- The floats of a state are f32s: those that words hold, those of a reply, and what a laid out box adds. Assumes nothing.
use Rattle.std.specs.Prelude.{Option, None, Some, unwrap_or, Float}
use Prim.Native.Nat.{ℕ}
use mathlib.Core.Bool.{Bool, true, false, cond, ◌||◌, ◌&&◌}
use mathlib.Core.List.{List}
use mathlib.Core.Logic.{⊎_elim}
use mathlib.Core.Path.{◌≡◌, ap}
use lib.Dec.{T, eqb}
use lib.Ieee.{Float, fits, binary32, le}
use lib.Ieee.Bits.{of_bits-fits}
use lib.Ieee.Fits.{add-fits}
use Rattle.util.specs.Number.{0f}
use Rattle.util.specs.Order.{larger, smaller}
use Rattle.util.proofs.Laws.{larger_is_one, smaller_is_one}
use Rattle.geometry.specs.Geometry.{zero_size, union_of, zero_rect, line_x, line_y, rect_of}
use Rattle.geometry.specs.declared.Line.{Line}
use Rattle.geometry.specs.declared.Point.{Point}
use Rattle.style.specs.declared.Overflow.{Overflow}
use Rattle.geometry.specs.declared.Rect.{Rect}
use Rattle.geometry.specs.declared.Size.{Size}
use Rattle.style.specs.declared.Contain.{Contain}
use Rattle.style.specs.declared.Style.{Style}
use Rattle.tree.specs.declared.layout.OofCandidate.{OofCandidate}
use Rattle.records.specs.Records.{float_at}
use Rattle.tree_record.specs.Layout as layout
use Rattle.tree_record.specs.Laws.{FitsSize, FitsRect}
use Rattle.oof_common.specs.ScrollableOverflow.{propagates, reach, placed_at, contribution}
use Rattle.oof_resolve.specs.declared.ContainingBlock.{ContainingBlock}
use Rattle.oof_place.specs.Placing.{box_layout}
use Rattle.oof_box.specs.Cut.{no_replies, taken, layout_after}
use Rattle.oof_box.specs.declared.question.Reply.{Reply}
use Rattle.oof_box.specs.declared.question.Reply.TheVariants as reply
use Rattle.oof_box.specs.declared.question.Replies.{Replies}
use Rattle.oof_box.specs.declared.question.Stage.{Stage}
use Rattle.oof_box.specs.declared.question.Stage.TheVariants.{KeywordBoth, KeywordWidth, KeywordHeight, Fill, LayOut}
use Rattle.oof_box.specs.declared.question.KeywordReply.TheVariants as keyword
use Rattle.oof_box.specs.declared.question.Taken.{Taken}
use Rattle.oof_box.specs.declared.question.Taken.TheVariants.{Kept, Laid}
use Rattle.run.specs.Run.{taken_in, taken_by}
use Rattle.run.specs.declared.State.{State}
use Rattle.oof_c_words.specs.StateWords.{at, keyword_reply_of, keyword_width, keyword_height, fill_reply_of, replies_in, overflow_in, opening_in, opened_in, state_of}
use Rattle.oof_c_words.specs.Laws.{Floats, FitsReply}

pub zero_fits : T (fits binary32 0f)
zero_fits = of_bits-fits binary32 0

-- ---- replies kept

pub record FitsReplies (r : Replies) : Type 0 where
  pub width : T (fits binary32 (keyword_width r.keyword))
  pub height : T (fits binary32 (keyword_height r.keyword))
  pub fill : FitsSize (unwrap_or r.fill zero_size)

pub none_fit : FitsReplies no_replies
unfolding keyword_width keyword_height
none_fit = record { width = zero_fits; height = zero_fits; fill = (zero_fits, zero_fits) }

keyword_fits : (kind : ℕ) (x y : Float) → T (fits binary32 x) → T (fits binary32 y)
    → T (fits binary32 (keyword_width (keyword_reply_of kind x y))) × T (fits binary32 (keyword_height (keyword_reply_of kind x y)))
unfolding keyword_reply_of keyword_width keyword_height
keyword_fits kind x y f g = go (eqb kind 1) (eqb kind 2) (eqb kind 3)
  where
    go : (a b c : Bool)
        → T (fits binary32 (keyword_width (cond a (Some (keyword.Both (record { width = x; height = y }))) (cond b (Some (keyword.Width x)) (cond c (Some (keyword.Height y)) None)))))
        × T (fits binary32 (keyword_height (cond a (Some (keyword.Both (record { width = x; height = y }))) (cond b (Some (keyword.Width x)) (cond c (Some (keyword.Height y)) None)))))
    go true b c = (f, g)
    go false true c = (f, zero_fits)
    go false false true = (zero_fits, g)
    go false false false = (zero_fits, zero_fits)

fill_fits : (kind : ℕ) (x y : Float) → T (fits binary32 x) → T (fits binary32 y) → FitsSize (unwrap_or (fill_reply_of kind x y) zero_size)
unfolding fill_reply_of
fill_fits kind x y f g = go (eqb kind 1)
  where
    go : (a : Bool) → FitsSize (unwrap_or (cond a (Some (record { width = x; height = y })) None) zero_size)
    go true = (f, g)
    go false = (zero_fits, zero_fits)

-- what words mean
pub words_fit : (w : List ℕ) → Floats (state_of w)
unfolding state_of replies_in overflow_in layout.rect_of opened_in opening_in
words_fit w =
    let f : (k : ℕ) → T (fits binary32 (float_at w k)) = λ k. of_bits-fits binary32 (at w k) in
    let both = keyword_fits (at w 1) (float_at w 2) (float_at w 3) (f 2) (f 3) in
    record {
      keyword_width = both.0;
      keyword_height = both.1;
      fill = fill_fits (at w 4) (float_at w 5) (float_at w 6) (f 5) (f 6);
      overflow = (f 11, f 12, f 13, f 14);
      size = (f 15, f 16);
      offset = (f 17, f 18);
    }

-- a reply that is kept
abbrev kept_or : Replies → Option Taken → Replies
kept_or d None = d
kept_or d (Some (Kept replies)) = replies
kept_or d (Some (Laid overflow)) = d

taken_fits : (r : Replies) (stage : Stage) (given : Reply) → FitsReplies r → FitsReply given → FitsReplies (kept_or r (taken r stage given))
unfolding taken keyword_width keyword_height
taken_fits r KeywordBoth (reply.Both s) f g = record { width = g.0; height = g.1; fill = f.fill }
taken_fits r KeywordWidth (reply.Width w) f g = record { width = g; height = zero_fits; fill = f.fill }
taken_fits r KeywordHeight (reply.Height h) f g = record { width = zero_fits; height = g; fill = f.fill }
taken_fits r Fill (reply.Both s) f g = record { width = f.width; height = f.height; fill = g }
taken_fits r LayOut (reply.LaidOut o) f g = f
taken_fits r _ _ f g = f

pub kept_fit : (s : State) (given : Reply) (replies : Replies) → FitsReplies s.replies → FitsReply given → taken_by s given ≡ Some (Kept replies) → FitsReplies replies
unfolding taken_by
kept_fit s given replies f g e = rw (ap (kept_or s.replies) e) at (go s.progress)
  where
    go : (p : Option Stage) → FitsReplies (kept_or s.replies (taken_in p s.replies given))
    go None = f
    go (Some stage) = taken_fits s.replies stage given f g

-- ---- the overflow

larger_fits : (a b : Float) → T (fits binary32 a) → T (fits binary32 b) → T (fits binary32 (larger a b))
larger_fits a b f g = ⊎_elim (λ e. rw e f) (λ e. rw e g) (larger_is_one a b)

smaller_fits : (a b : Float) → T (fits binary32 a) → T (fits binary32 b) → T (fits binary32 (smaller a b))
smaller_fits a b f g = ⊎_elim (λ e. rw e f) (λ e. rw e g) (smaller_is_one a b)

pub union_fits : (a b : Rect Float) → FitsRect a → FitsRect b → FitsRect (union_of a b)
unfolding union_of
union_fits a b f g = (
  smaller_fits a.left b.left f.0 g.0,
  larger_fits a.right b.right f.1 g.1,
  smaller_fits a.top b.top f.2 g.2,
  larger_fits a.bottom b.bottom f.3 g.3,
)

pub zeros_fit : FitsRect zero_rect
zeros_fit = (zero_fits, zero_fits, zero_fits, zero_fits)

-- zeros, or sums
sums_fit : (location : Point Float) (across down : Line Float) (a b : Bool)
    → FitsRect (cond a zero_rect (cond b zero_rect (rect_of (placed_at location.x across) (placed_at location.y down))))
unfolding placed_at
sums_fit location across down true b = zeros_fit
sums_fit location across down false true = zeros_fit
sums_fit location across down false false = (
  add-fits binary32 location.x across.start,
  add-fits binary32 location.x across.end,
  add-fits binary32 location.y down.start,
  add-fits binary32 location.y down.end,
)

contribution_fits : (location : Point Float) (size : Size Float) (own : Rect Float) (overflow : Point Overflow) (contain : Contain) (scrolls : Bool)
    → FitsRect (contribution location size own overflow contain scrolls)
unfolding contribution
contribution_fits location size own overflow contain scrolls =
    let across = reach (propagates overflow.x overflow contain) size.width (line_x own) in
    let down = reach (propagates overflow.y overflow contain) size.height (line_y own) in
    let x = placed_at location.x across in
    let y = placed_at location.y down in
    sums_fit location across down (le across.end 0f || le down.end 0f) (scrolls && (le x.end 0f || le y.end 0f))

pub added_fits : (container : ContainingBlock) (style : Style) (candidate : OofCandidate) (replies : Replies) (overflow : Rect Float)
    → FitsRect (layout_after container style candidate replies overflow).contribution
unfolding layout_after box_layout
added_fits container style candidate replies overflow = contribution_fits _ _ _ _ _ _
