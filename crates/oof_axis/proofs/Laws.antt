-- The laws of `specs/Laws.antt`. Assumes nothing.
use Rattle.std.specs.Prelude.{Float, None, Option, Some, is_some}
use mathlib.Core.Path.{◌≡◌, refl, subst}
use mathlib.Core.Bool.{Bool, true, false, false≢true, cond, ◌&&◌, ◌||◌}
use lib.Dec.{not_T}
use lib.Ieee.{Float, inf, lt, le, is_nan, of_bits}
use lib.Ieee.Bits.{is_false}
use Rattle.std.proofs.lemmas.Float.{lt_irrefl}
use Rattle.util.specs.Number.{◌⊕◌, ◌⊖◌, 0f}
use Rattle.util.specs.Order.{before, larger, smaller}
use Rattle.util.specs.Maybe.{or_zero}
use Rattle.util.proofs.Laws.{larger_bounds}
use Rattle.util.proofs.Order.{not_above_lem, le_self}
use Rattle.geometry.specs.Geometry.{◌to◌, span}
use Rattle.geometry.specs.declared.Line.{Line}
use Rattle.style.specs.declared.alignment.AlignmentSafety.{AlignmentSafety}
use Rattle.style.specs.declared.alignment.AlignmentSafety.TheVariants.{Default, Unsafe, Safe}
use Rattle.tree.specs.Static.{start_edge, end_edge}
use Rattle.tree.specs.declared.layout.AxisStaticEdge.{AxisStaticEdge}
use Rattle.tree.specs.declared.layout.AxisStaticEdge.TheVariants.{Start, Center, End}
use Rattle.oof_axis.specs.declared.OofAlignment.{OofAlignment}
use Rattle.oof_axis.specs.declared.OofAlignment.TheVariants as align
use Rattle.oof_axis.specs.declared.OofAxis.{OofAxis}
use Rattle.oof_axis.specs.Axis.{align_in, static_block, inset_block, start_is_weaker, repaired, block, both_insets, halves, filled_margins, margins, is_normal, align_edge, limit, kept_within, self_aligned, static_aligned, position_in, position, placement, stretching, stretches, stretch_fit}
use Rattle.oof_axis.specs.Laws.{NoInset, TwoInsets, Aligned, margin_box, StartInsetHeld, EndInsetHeld, StartInsetBlock, EndInsetBlock, BlockBetweenInsets, BlockFromStaticStart, BlockToStaticEnd, BlockInOrder, GivenMarginStays, AutoMarginsAreZero, AutoMarginsAreEqual, NegativeSpaceGoesToTheEnd, LoneAutoMarginTakesTheRest, AutoMarginBeginsWithBlock, OverflowIsReachable, AtStart, AtEnd, AsTold, FitsAsTold, UnsafeAsTold, NormalAtStart, SafeOverflowAtStart, StaticAsTold, StaticEdgeHeld, StaticSafeAtStart, stretches_as, StretchesBetweenInsets, StretchFitIsASize, with_fallback, FallbackUnread}

-- ---- insets

pub start_inset_held : StartInsetHeld
unfolding placement position position_in margins both_insets block repaired start_is_weaker inset_block
start_inset_held a x size p q = rw (p, q) (go (lt a.size x))
  where
    go : (b : Bool) → (cond b (x to x) (x to a.size)).start ⊕ or_zero a.margin.start ≡ x ⊕ or_zero a.margin.start
    go true = refl
    go false = refl

pub end_inset_held : EndInsetHeld
unfolding placement position position_in margins both_insets block repaired start_is_weaker inset_block
end_inset_held a y size p q = rw (p, q) (go (lt (a.size ⊖ y) 0f))
  where
    go : (b : Bool) → (cond b (a.size ⊖ y to a.size ⊖ y) (0f to a.size ⊖ y)).end ⊖ size ⊖ or_zero a.margin.end ≡ a.size ⊖ y ⊖ size ⊖ or_zero a.margin.end
    go true = refl
    go false = refl

pub start_inset_block : StartInsetBlock
unfolding block repaired start_is_weaker inset_block
start_inset_block a x p q = (λ h. rw (p, q, h) refl, λ h. rw (p, q, h) refl)

pub end_inset_block : EndInsetBlock
unfolding block repaired start_is_weaker inset_block
end_inset_block a y p q = (λ h. rw (p, q, h) refl, λ h. rw (p, q, h) refl)

pub block_between_insets : BlockBetweenInsets
unfolding block repaired start_is_weaker inset_block
block_between_insets a x y p q =
    record { in_order = λ h. rw (p, q, h) refl; right_gives_way = λ h r. rw (p, q, h, r) refl; left_gives_way = λ h r. rw (p, q, h, r) refl }

pub block_from_static_start : BlockFromStaticStart
unfolding block repaired start_is_weaker inset_block static_block
block_from_static_start a n k =
    record { in_order = λ h. rw (n.start, n.end, k, h) refl; right_gives_way = λ h r. rw (n.start, n.end, k, h, r) refl; left_gives_way = λ h r. rw (n.start, n.end, k, h, r) refl }

pub block_to_static_end : BlockToStaticEnd
unfolding block repaired start_is_weaker inset_block static_block
block_to_static_end a n k =
    record { in_order = λ h. rw (n.start, n.end, k, h) refl; right_gives_way = λ h r. rw (n.start, n.end, k, h, r) refl; left_gives_way = λ h r. rw (n.start, n.end, k, h, r) refl }

-- ---- the block, in order

repaired_in_order : (w : Bool) (l : Line Float) → lt (repaired w l).end (repaired w l).start ≡ false
unfolding repaired
repaired_in_order w l = go (lt l.end l.start) refl w
  where
    go : (b : Bool) → lt l.end l.start ≡ b → (w : Bool) → let m = cond b (cond w (l.end to l.end) (l.start to l.start)) l in lt m.end m.start ≡ false
    go true e true = is_false _ (not_T _ (lt_irrefl l.end))
    go true e false = is_false _ (not_T _ (lt_irrefl l.start))
    go false e w = e

pub block_in_order : BlockInOrder
unfolding block
block_in_order a = repaired_in_order (start_is_weaker a.inset.start a.inset.end a) (inset_block a.inset.start a.inset.end a)

-- ---- margins

given_start : (b : Bool) (m free : Float) (s t : Option Float) (a : OofAxis) → s ≡ Some m → (cond b (filled_margins s t free a) (or_zero s to or_zero t)).start ≡ m
unfolding filled_margins
given_start true m free s (Some y) a e = rw e refl
given_start true m free s None a e = rw e refl
given_start false m free s t a e = rw e refl

given_end : (b : Bool) (m free : Float) (s t : Option Float) (a : OofAxis) → t ≡ Some m → (cond b (filled_margins s t free a) (or_zero s to or_zero t)).end ≡ m
unfolding filled_margins
given_end true m free (Some x) t a e = rw e refl
given_end true m free None t a e = rw e refl
given_end false m free s t a e = rw e refl

pub given_margin_stays : GivenMarginStays
unfolding placement margins
given_margin_stays a m size = (
  λ e. given_start (both_insets a) m (span (block a) ⊖ size) a.margin.start a.margin.end a e,
  λ e. given_end (both_insets a) m (span (block a) ⊖ size) a.margin.start a.margin.end a e,
)

pub auto_margins_are_zero : AutoMarginsAreZero
unfolding placement margins both_insets
auto_margins_are_zero a size h = rw h refl

equal_halves : (free : Float) (a : OofAxis) → lt free 0f && a.inline ≡ false → (halves free a).start ≡ (halves free a).end
unfolding halves
equal_halves free a h = rw h refl

to_end : (free : Float) (a : OofAxis) → lt free 0f ≡ true → a.inline ≡ true → (a.reversed ≡ false → halves free a ≡ (0f to free)) × (a.reversed ≡ true → halves free a ≡ (free to 0f))
unfolding halves
to_end free a h n = (λ r. rw (h, n, r) refl, λ r. rw (h, n, r) refl)

two_auto : (s t : Option Float) (free : Float) (a : OofAxis) → s ≡ None → t ≡ None → filled_margins s t free a ≡ halves free a
unfolding filled_margins
two_auto s t free a p q = rw (p, q) refl

both_auto : (a : OofAxis) (size : Float) → TwoInsets a → a.margin.start ≡ None → a.margin.end ≡ None → (placement a size).margin ≡ halves (span (block a) ⊖ size) a
unfolding placement margins both_insets
both_auto a size i s e = rw (i.start, i.end) (two_auto a.margin.start a.margin.end (span (block a) ⊖ size) a s e)

pub auto_margins_are_equal : AutoMarginsAreEqual
auto_margins_are_equal a size i s e h = rw (both_auto a size i s e) (equal_halves (span (block a) ⊖ size) a h)

pub negative_space_goes_to_the_end : NegativeSpaceGoesToTheEnd
negative_space_goes_to_the_end a size i s e h n = rw (both_auto a size i s e) (to_end (span (block a) ⊖ size) a h n)

rest_end : (s t : Option Float) (m free : Float) (a : OofAxis) → s ≡ Some m → t ≡ None → (filled_margins s t free a).end ≡ free ⊖ m
unfolding filled_margins
rest_end s t m free a p q = rw (p, q) refl

rest_start : (s t : Option Float) (m free : Float) (a : OofAxis) → s ≡ None → t ≡ Some m → (filled_margins s t free a).start ≡ free ⊖ m
unfolding filled_margins
rest_start s t m free a p q = rw (p, q) refl

pub lone_auto_margin_takes_the_rest : LoneAutoMarginTakesTheRest
unfolding placement margins both_insets
lone_auto_margin_takes_the_rest a m size i =
    rw (i.start, i.end) (
      λ p q. rest_end a.margin.start a.margin.end m (span (block a) ⊖ size) a p q,
      λ p q. rest_start a.margin.start a.margin.end m (span (block a) ⊖ size) a p q,
    )

-- ---- position: what `position_in` comes to, by which insets and margins there are

data Has : Option Float → Type 0 where
  has : (x : Float) → Has (Some x)

given : (m : Option Float) → is_some m ≡ true → Has m
given None h = absurd (false≢true h)
given (Some x) h = has x

between : (s e : Option Float) → Has s → Has e → (a : OofAxis) (l : Line Float) (size : Float) (m : Line Float)
    → position_in s e a l size m
    ≡ cond (is_some a.margin.start && is_some a.margin.end)
    (self_aligned a.safety a l (size ⊕ m.start ⊕ m.end) (align_edge a.alignment a) ⊕ m.start)
    (l.start ⊕ m.start)
unfolding position_in
between _ _ (has x) (has y) a l size m = refl

pub auto_margin_begins_with_block : AutoMarginBeginsWithBlock
unfolding placement position
auto_margin_begins_with_block a size i h =
    rw (between a.inset.start a.inset.end (given a.inset.start i.start) (given a.inset.end i.end) a (block a) size (margins a size), h) refl

given_margins : (s t : Option Float) → Has s → Has t → (free : Float) (a : OofAxis) → filled_margins s t free a ≡ (or_zero s to or_zero t)
unfolding filled_margins
given_margins _ _ (has x) (has y) free a = refl

-- two insets, two margins
pub aligned_margins : (a : OofAxis) (size : Float) → Aligned a → margins a size ≡ (or_zero a.margin.start to or_zero a.margin.end)
unfolding margins both_insets
aligned_margins a size h =
    rw (h.insets.start, h.insets.end)
    (given_margins a.margin.start a.margin.end (given a.margin.start h.margin_start) (given a.margin.end h.margin_end) (span (block a) ⊖ size) a)

pub aligned_position : (a : OofAxis) (size : Float) → Aligned a
    → (placement a size).position ≡ self_aligned a.safety a (block a) (margin_box a size) (align_edge a.alignment a) ⊕ or_zero a.margin.start
unfolding placement position
aligned_position a size h =
    rw (between a.inset.start a.inset.end (given a.inset.start h.insets.start) (given a.inset.end h.insets.end) a (block a) size (margins a size), h.margin_start, h.margin_end, aligned_margins a size h) refl

-- the box at an edge of the block
abbrev InBlock : AxisStaticEdge → OofAxis → Float → Type 0
InBlock k a size = (placement a size).position ≡ align_in (block a) (margin_box a size) k ⊕ or_zero a.margin.start

at_start_lem : (a : OofAxis) (size : Float) → InBlock (start_edge a.reversed) a size → AtStart a size
unfolding align_in
at_start_lem a size h = (λ r. rw h (rw r refl), λ r. rw h (rw r refl))

at_end : (a : OofAxis) (size : Float) → InBlock (end_edge a.reversed) a size → AtEnd a size
unfolding align_in
at_end a size h = (λ r. rw h (rw r refl), λ r. rw h (rw r refl))

as_told : (k : OofAlignment) (a : OofAxis) (size : Float) → InBlock (align_edge k a) a size → AsTold k a size
unfolding align_edge align_in
as_told align.Normal a size h = at_start_lem a size h
as_told align.Stretch a size h = at_start_lem a size h
as_told align.Start a size h = at_start_lem a size h
as_told align.Center a size h = h
as_told align.End a size h = at_end a size h

fits_not_over : (x y : Float) → le x y ≡ true → lt y x ≡ false
fits_not_over x y h = go (lt y x) refl
  where
    go : (b : Bool) → lt y x ≡ b → b ≡ false
    go true e = absurd (not_above_lem y x e h)
    go false e = refl

fits_aligned : (s : AlignmentSafety) (a : OofAxis) (l : Line Float) (outer : Float) (k : AxisStaticEdge) → le outer (span l) ≡ true → self_aligned s a l outer k ≡ align_in l outer k
unfolding self_aligned
fits_aligned Unsafe a l outer k h = refl
fits_aligned Safe a l outer k h = rw (fits_not_over outer (span l) h) refl
fits_aligned Default a l outer k h = rw h refl

pub fits_as_told : FitsAsTold
fits_as_told a size h f =
    as_told a.alignment a size (rw (aligned_position a size h, fits_aligned a.safety a (block a) (margin_box a size) (align_edge a.alignment a) f) refl)

unsafe_aligned : (s : AlignmentSafety) (a : OofAxis) (l : Line Float) (outer : Float) (k : AxisStaticEdge) → s ≡ Unsafe → self_aligned s a l outer k ≡ align_in l outer k
unfolding self_aligned
unsafe_aligned s a l outer k e = rw e refl

pub unsafe_as_told : UnsafeAsTold
unsafe_as_told a size h u =
    as_told a.alignment a size (rw (aligned_position a size h, unsafe_aligned a.safety a (block a) (margin_box a size) (align_edge a.alignment a) u) refl)

is_normal_lem : (k : OofAlignment) → k ≡ align.Normal → is_normal k ≡ true
unfolding is_normal
is_normal_lem k n = rw n refl

normal_aligned : (s : AlignmentSafety) (a : OofAxis) (l : Line Float) (outer : Float) → a.alignment ≡ align.Normal → self_aligned s a l outer (start_edge a.reversed) ≡ align_in l outer (start_edge a.reversed)
unfolding self_aligned
normal_aligned Unsafe a l outer n = refl
normal_aligned Safe a l outer n = go (lt (span l) outer)
  where
    go : (b : Bool) → align_in l outer (cond b (start_edge a.reversed) (start_edge a.reversed)) ≡ align_in l outer (start_edge a.reversed)
    go true = refl
    go false = refl
normal_aligned Default a l outer n = go (le outer (span l))
  where
    go : (b : Bool) → cond (b || is_normal a.alignment) (align_in l outer (start_edge a.reversed)) (kept_within (limit a l) a l outer (start_edge a.reversed)) ≡ align_in l outer (start_edge a.reversed)
    go true = refl
    go false = rw (is_normal_lem a.alignment n) refl

normal_edge : (a : OofAxis) → a.alignment ≡ align.Normal → align_edge a.alignment a ≡ start_edge a.reversed
unfolding align_edge
normal_edge a n = rw n refl

pub normal_at_start : NormalAtStart
normal_at_start a size h n =
    at_start_lem a size (rw (aligned_position a size h, normal_edge a n, normal_aligned a.safety a (block a) (margin_box a size) n) refl)

safe_aligned : (s : AlignmentSafety) (a : OofAxis) (l : Line Float) (outer : Float) (k : AxisStaticEdge) → s ≡ Safe → lt (span l) outer ≡ true → self_aligned s a l outer k ≡ align_in l outer (start_edge a.reversed)
unfolding self_aligned
safe_aligned s a l outer k e o = rw (e, o) refl

pub safe_overflow_at_start : SafeOverflowAtStart
safe_overflow_at_start a size h s o =
    at_start_lem a size (rw (aligned_position a size h, safe_aligned a.safety a (block a) (margin_box a size) (align_edge a.alignment a) s o) refl)

-- ---- default overflow

zero_is_a_number : is_nan 0f ≡ false
unfolding is_nan of_bits
zero_is_a_number = refl

smaller_number : (x : Float) → is_nan (smaller x 0f) ≡ false
unfolding smaller
smaller_number x = go (is_nan x) refl
  where
    pick : (b : Bool) → is_nan x ≡ false → is_nan (cond b 0f x) ≡ false
    pick true e = zero_is_a_number
    pick false e = e

    go : (n : Bool) → is_nan x ≡ n → is_nan (cond n 0f (cond (is_nan 0f) x (cond (before 0f x) 0f x))) ≡ false
    go true e = zero_is_a_number
    go false e = rw zero_is_a_number (pick (before 0f x) e)

-- where the limit opens to the right or not at all, it starts at the smaller of the block's start and 0
limit_start : (a : OofAxis) (l : Line Float) → a.reversed ≡ false → (limit a l).start ≡ smaller l.start 0f
unfolding limit
limit_start a l r = go a.scrolls
  where
    go : (s : Bool) → let low = smaller l.start 0f in let high = larger l.end a.size in
        (cond s (cond a.reversed (inf true to high) (low to inf false)) (low to high)).start ≡ low
    go true = rw r refl
    go false = refl

kept_after : (a : OofAxis) (l lim : Line Float) (outer : Float) (edge : AxisStaticEdge) → a.reversed ≡ false → is_nan lim.start ≡ false → le lim.start (kept_within lim a l outer edge) ≡ true
unfolding kept_within align_in
kept_after a l lim outer edge r n = go (le outer (span lim))
  where
    go : (b : Bool) → le lim.start (cond b (larger (smaller (align_in l outer edge) (lim.end ⊖ outer)) lim.start) (align_in lim outer (cond a.reversed End Start))) ≡ true
    go true = ((larger_bounds (smaller (align_in l outer edge) (lim.end ⊖ outer)) lim.start).1 n).1
    go false = rw r (le_self lim.start n)

kept_in_reach : (a : OofAxis) (l : Line Float) (outer : Float) (edge : AxisStaticEdge) → a.reversed ≡ false → le (smaller l.start 0f) (kept_within (limit a l) a l outer edge) ≡ true
kept_in_reach a l outer edge r =
    subst (λ (x : Float). le x (kept_within (limit a l) a l outer edge) ≡ true) (limit_start a l r) (kept_after a l (limit a l) outer edge r (rw (limit_start a l r) (smaller_number l.start)))

pub not_normal : (k : OofAlignment) → (k ≡ align.Normal → ⊥) → is_normal k ≡ false
unfolding is_normal
not_normal align.Normal n = absurd (n refl)
not_normal align.Stretch n = refl
not_normal align.Start n = refl
not_normal align.Center n = refl
not_normal align.End n = refl

default_aligned : (s : AlignmentSafety) (a : OofAxis) (l : Line Float) (outer : Float) (k : AxisStaticEdge) → s ≡ Default → le outer (span l) ≡ false → is_normal a.alignment ≡ false → self_aligned s a l outer k ≡ kept_within (limit a l) a l outer k
unfolding self_aligned
default_aligned s a l outer k e o n = rw (e, o, n) refl

pub overflow_is_reachable : OverflowIsReachable
overflow_is_reachable a size o r =
    let e = default_aligned a.safety a (block a) (margin_box a size) (align_edge a.alignment a) o.safety o.over (not_normal a.alignment o.alignment) in
    (self_aligned a.safety a (block a) (margin_box a size) (align_edge a.alignment a), aligned_position a size o.aligned, rw e (kept_in_reach a (block a) (margin_box a size) (align_edge a.alignment a) r))

-- ---- the static position

pub static_position : (a : OofAxis) (size : Float) → NoInset a
    → (placement a size).position ≡ static_aligned a.place.align.safety a (block a) (margin_box a size) ⊕ or_zero a.margin.start
unfolding placement position position_in margins both_insets
static_position a size n = rw (n.start, n.end) refl

static_told : (k : AxisStaticEdge) (a : OofAxis) (size : Float) → (placement a size).position ≡ align_in a.place.area (margin_box a size) k ⊕ or_zero a.margin.start → StaticAsTold k a size
unfolding align_in
static_told Start a size h = h
static_told Center a size h = h
static_told End a size h = h

static_aligned_lem : (s : AlignmentSafety) (a : OofAxis) (l : Line Float) (outer : Float) → (s ≡ Safe → lt (span l) outer ≡ false) → static_aligned s a l outer ≡ align_in a.place.area outer a.place.align.keyword
unfolding static_aligned
static_aligned_lem Default a l outer h = refl
static_aligned_lem Unsafe a l outer h = refl
static_aligned_lem Safe a l outer h = rw (h refl) refl

pub static_edge_held : StaticEdgeHeld
static_edge_held a size n h =
    static_told a.place.align.keyword a size (rw (static_position a size n, static_aligned_lem a.place.align.safety a (block a) (margin_box a size) h) refl)

static_safe : (s : AlignmentSafety) (a : OofAxis) (l : Line Float) (outer : Float) → s ≡ Safe → lt (span l) outer ≡ true → static_aligned s a l outer ≡ align_in l outer (start_edge a.reversed)
unfolding static_aligned
static_safe s a l outer e o = rw (e, o) refl

pub static_safe_at_start : StaticSafeAtStart
static_safe_at_start a size n s o = at_start_lem a size (rw (static_position a size n, static_safe a.place.align.safety a (block a) (margin_box a size) s o) refl)

-- ---- the fallback edge

same_inset_block : (s t : Option Float) (a : OofAxis) (e : AxisStaticEdge) → inset_block s t (with_fallback e a) ≡ inset_block s t a
unfolding inset_block
same_inset_block (Some s) (Some t) a e = refl
same_inset_block (Some s) None a e = refl
same_inset_block None (Some t) a e = refl
same_inset_block None None a e = refl

same_weaker : (s t : Option Float) (a : OofAxis) (e : AxisStaticEdge) → start_is_weaker s t (with_fallback e a) ≡ start_is_weaker s t a
unfolding start_is_weaker
same_weaker (Some s) (Some t) a e = refl
same_weaker (Some s) None a e = refl
same_weaker None (Some t) a e = refl
same_weaker None None a e = refl

same_block : (a : OofAxis) (e : AxisStaticEdge) → block (with_fallback e a) ≡ block a
unfolding block
same_block a e = rw (same_weaker a.inset.start a.inset.end a e, same_inset_block a.inset.start a.inset.end a e) refl

same_filled : (s t : Option Float) (free : Float) (a : OofAxis) (e : AxisStaticEdge) → filled_margins s t free (with_fallback e a) ≡ filled_margins s t free a
unfolding filled_margins halves
same_filled (Some s) (Some t) free a e = refl
same_filled (Some s) None free a e = refl
same_filled None (Some t) free a e = refl
same_filled None None free a e = refl

same_margins : (a : OofAxis) (e : AxisStaticEdge) (size : Float) → margins (with_fallback e a) size ≡ margins a size
unfolding margins both_insets
same_margins a e size = rw (same_block a e, same_filled a.margin.start a.margin.end (span (block a) ⊖ size) a e) refl

same_edge : (k : OofAlignment) (a : OofAxis) (e : AxisStaticEdge) → align_edge k (with_fallback e a) ≡ align_edge k a
unfolding align_edge
same_edge align.Normal a e = refl
same_edge align.Stretch a e = refl
same_edge align.Start a e = refl
same_edge align.Center a e = refl
same_edge align.End a e = refl

same_aligned : (s : AlignmentSafety) (a : OofAxis) (e : AxisStaticEdge) (l : Line Float) (outer : Float) (edge : AxisStaticEdge) → self_aligned s (with_fallback e a) l outer edge ≡ self_aligned s a l outer edge
unfolding self_aligned kept_within limit
same_aligned Default a e l outer edge = refl
same_aligned Unsafe a e l outer edge = refl
same_aligned Safe a e l outer edge = refl

same_static : (s : AlignmentSafety) (a : OofAxis) (e : AxisStaticEdge) (l : Line Float) (outer : Float) → static_aligned s (with_fallback e a) l outer ≡ static_aligned s a l outer
unfolding static_aligned
same_static Default a e l outer = refl
same_static Unsafe a e l outer = refl
same_static Safe a e l outer = refl

same_position_in : (s t : Option Float) (a : OofAxis) (e : AxisStaticEdge) (l : Line Float) (size : Float) (m : Line Float) → position_in s t (with_fallback e a) l size m ≡ position_in s t a l size m
unfolding position_in
same_position_in None None a e l size m = rw (same_static a.place.align.safety a e l (size ⊕ m.start ⊕ m.end)) refl
same_position_in (Some s) None a e l size m = refl
same_position_in None (Some t) a e l size m = refl
same_position_in (Some s) (Some t) a e l size m = rw (same_edge a.alignment a e, same_aligned a.safety a e l (size ⊕ m.start ⊕ m.end) (align_edge a.alignment a)) refl

pub fallback_unread : FallbackUnread
unfolding placement position
fallback_unread a e size = rw (same_margins a e size, same_block a e, same_position_in a.inset.start a.inset.end a e (block a) size (margins a size)) refl

-- ---- automatic sizes

stretching_as : (k : OofAlignment) (plain : Bool) → stretching k plain ≡ stretches_as k plain
unfolding stretching
stretching_as align.Normal plain = refl
stretching_as align.Stretch plain = refl
stretching_as align.Start plain = refl
stretching_as align.Center plain = refl
stretching_as align.End plain = refl

pub stretches_between_insets : StretchesBetweenInsets
unfolding stretches both_insets
stretches_between_insets a plain = (λ h. rw h refl, λ i. rw (i.start, i.end) (stretching_as a.alignment plain))

pub stretch_fit_is_a_size : StretchFitIsASize
unfolding stretch_fit
stretch_fit_is_a_size a = (larger_bounds (span (block a) ⊖ (or_zero a.margin.start ⊕ or_zero a.margin.end)) 0f).1 zero_is_a_number
