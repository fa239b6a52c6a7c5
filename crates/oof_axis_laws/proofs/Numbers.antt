-- The alignment of a box on integers (mirror_axis/proofs/Model.antt): what fits, what overflows, and the limit. Sums of floats from their
-- integers. Assumes nothing.
use borrow.Author.Rules.{rules}
use mathlib.Core.Path.{◌≡◌, refl}
use mathlib.Core.Logic.{◌⊎◌}
use mathlib.Core.List.{List, [], ◌∷◌}
use mathlib.Core.Bool.{Bool, true, false, cond, not, ◌&&◌}
use Prim.Native.Nat.{ℕ, ◌+◌, ◌<◌}
use native.Mathlib.Omega.{arith}
use borrow.Author.Tests.{ltb-true, ltb-false, leb-true, leb-false, le-leb, le-ltb}
use lib.Ieee.{Float}
use Rattle.style.specs.declared.alignment.AlignmentSafety.{AlignmentSafety}
use Rattle.style.specs.declared.alignment.AlignmentSafety.TheVariants.{Default, Safe}
use Rattle.tree.specs.declared.layout.AxisStaticEdge.{AxisStaticEdge}
use Rattle.tree.specs.declared.layout.AxisStaticEdge.TheVariants.{Center}
use Rattle.oof_axis.specs.Axis.{is_normal}
use Rattle.util_exact.specs.Integer.{N, zero_n, add_n, EqN}
use Rattle.util_exact.specs.Value.{Total}
use Rattle.util_exact.proofs.Integers.{Multiple, sub_n, max_n, min_n, lt_n, le_n, half_twice}
use Rattle.util_exact.proofs.Exact.{Exact, sixteenths}
use Rattle.mirror_axis.proofs.Model.{LineN, ◌toN◌, span_n, Shape, start_of, end_of, align_n, static_n, repaired_n, limit_n, limited_n, self_n, static_place_n}
use Rattle.oof_axis_laws.specs.Laws.{LeN, ◌=Σ◌, ◌≤Σ◌}

-- ---- sums

-- the numbers of a list, with their integers
infixr 60 ◌and◌
pub data Sum : List Float → N → Type 0 where
  nil : Sum [] zero_n
  ◌and◌ : {g b : ℕ} {x : Float} {xs : List Float} {c t : N} → Exact g b x c → Sum xs t → Sum (x ∷ xs) (add_n c t)

total : {xs : List Float} {t : N} → Sum xs t → Total xs t
total nil = refl
total (◌and◌ {c = c} {t = t} h k) = (c, t, sixteenths h, total k, refl)

pub equal_sums : {xs ys : List Float} {t u : N} → Sum xs t → Sum ys u → EqN t u → xs =Σ ys
equal_sums {t = t} {u = u} h k e = (t, u, total h, total k, e)

pub at_most_sums : {xs ys : List Float} {t u : N} → Sum xs t → Sum ys u → LeN t u → xs ≤Σ ys
at_most_sums {t = t} {u = u} h k e = (t, u, total h, total k, e)

-- ---- tests

pub at_most : (v w : N) → le_n v w ≡ true → LeN v w
at_most v w h = leb-true (v.p + w.n) (w.p + v.n) h

pub above : (v w : N) → le_n v w ≡ false → w.p + v.n < v.p + w.n
above v w h = leb-false (v.p + w.n) (w.p + v.n) h

pub below : (v w : N) → lt_n v w ≡ true → v.p + w.n < w.p + v.n
below v w h = ltb-true (v.p + w.n) (w.p + v.n) h

pub not_below : (v w : N) → lt_n v w ≡ false → LeN w v
not_below v w h = ltb-false (v.p + w.n) (w.p + v.n) h

-- ---- aligned in a line

-- the middle of a line whose ends and box are even
abbrev pub Middle : LineN → N → Type 0
Middle l v = Multiple 2 (sub_n (add_n l.start l.end) v)

pub align_inside : (l : LineN) (v : N) (k : AxisStaticEdge) → Middle l v → LeN v (span_n l) → LeN l.start (align_n l v k) × LeN (add_n (align_n l v k) v) l.end
align_inside l v k h i = search (rules, half_twice)

-- one larger than the line covers it
pub align_covers : (l : LineN) (v : N) (k : AxisStaticEdge) → Middle l v → LeN (span_n l) v → LeN (align_n l v k) l.start × LeN l.end (add_n (align_n l v k) v)
align_covers l v k h i = search (rules, half_twice)

-- ---- by safety

pub fits_told : (s : AlignmentSafety) (σ : Shape) (ω : N) (l : LineN) (v : N) (k : AxisStaticEdge) → le_n v (span_n l) ≡ true → self_n s σ ω l v k ≡ align_n l v k
fits_told s σ ω l v k h = search (rules, at_most)

-- safe: within the block or at its start
pub safe_keeps : (σ : Shape) (ω : N) (l : LineN) (v : N) (k : AxisStaticEdge) → Middle l v
    → (σ.reversed ≡ false → LeN l.start (self_n Safe σ ω l v k)) × (σ.reversed ≡ true → LeN (add_n (self_n Safe σ ω l v k) v) l.end)
safe_keeps σ ω l v k e = search (rules, align_inside)

-- ---- kept within a limit: q is the place as told

abbrev kept_at : LineN → Bool → N → N → N
kept_at lim r v q = cond (le_n v (span_n lim)) (max_n (min_n q (sub_n lim.end v)) lim.start) (align_n lim v (start_of r))

kept_covers : (lim l : LineN) (r : Bool) (v q : N) → LeN lim.start l.start → LeN l.end lim.end → LeN q l.start → LeN l.end (add_n q v)
    → LeN (kept_at lim r v q) l.start × LeN l.end (add_n (kept_at lim r v q) v)
kept_covers lim l r v q i j f g = search (rules, above, at_most)

kept_within_lem : (lim : LineN) (r : Bool) (v q : N) → le_n v (span_n lim) ≡ true → LeN lim.start (kept_at lim r v q) × LeN (add_n (kept_at lim r v q) v) lim.end
kept_within_lem lim r v q e = rw e (omega arith, omega (arith, at_most v (span_n lim) e))

kept_start : (lim : LineN) (r : Bool) (v q : N) → (r ≡ false → LeN lim.start (kept_at lim r v q)) × (r ≡ true → LeN (add_n (kept_at lim r v q) v) lim.end)
kept_start lim r v q = search (rules, at_most)

kept_told : (lim : LineN) (r : Bool) (v q : N) → LeN lim.start q → LeN (add_n q v) lim.end → EqN (kept_at lim r v q) q
kept_told lim r v q i j = rw (le-leb (v.p + (span_n lim).n) ((span_n lim).p + v.n) (omega arith)) (omega arith)

-- ---- default overflow

-- the bounds of block and area hold the block
bounds_hold : (ω : N) (l : LineN) → LeN (limit_n ω l).start l.start × LeN l.end (limit_n ω l).end
bounds_hold ω l = (omega arith, omega arith)

pub limited_covers : (s r : Bool) (ω : N) (l : LineN) (v : N) (k : AxisStaticEdge) → Middle l v → LeN (span_n l) v
    → LeN (limited_n s r ω l v k) l.start × LeN l.end (add_n (limited_n s r ω l v k) v)
limited_covers s r ω l v k h i = search (rules, align_covers, bounds_hold, kept_covers)

pub limited_within : (r : Bool) (ω : N) (l : LineN) (v : N) (k : AxisStaticEdge) → le_n v (span_n (limit_n ω l)) ≡ true
    → LeN (limit_n ω l).start (limited_n false r ω l v k) × LeN (add_n (limited_n false r ω l v k) v) (limit_n ω l).end
limited_within r ω l v k f = kept_within_lem (limit_n ω l) r v (align_n l v k) f

pub limited_start : (s r : Bool) (ω : N) (l : LineN) (v : N) (k : AxisStaticEdge)
    → (r ≡ false → LeN (limit_n ω l).start (limited_n s r ω l v k)) × (r ≡ true → LeN (add_n (limited_n s r ω l v k) v) (limit_n ω l).end)
limited_start s r ω l v k = search (rules, kept_start)

pub limited_told : (s r : Bool) (ω : N) (l : LineN) (v : N) (k : AxisStaticEdge)
    → (s && r ≡ false → LeN (limit_n ω l).start (align_n l v k)) → (s && not r ≡ false → LeN (add_n (align_n l v k) v) (limit_n ω l).end) → EqN (limited_n s r ω l v k) (align_n l v k)
limited_told s r ω l v k h i = search (rules, kept_told)

-- past an edge as told: it stops there
pub limited_low : (s r : Bool) (ω : N) (l : LineN) (v : N) (k : AxisStaticEdge) → s && r ≡ false → (s ≡ false → le_n v (span_n (limit_n ω l)) ≡ true) → LeN (align_n l v k) (limit_n ω l).start
    → EqN (limited_n s r ω l v k) (limit_n ω l).start
limited_low s r ω l v k h i j = search rules

pub limited_high : (s r : Bool) (ω : N) (l : LineN) (v : N) (k : AxisStaticEdge) → s && not r ≡ false → (s ≡ false → le_n v (span_n (limit_n ω l)) ≡ true) → LeN (limit_n ω l).end (add_n (align_n l v k) v)
    → EqN (add_n (limited_n s r ω l v k) v) (limit_n ω l).end
limited_high s r ω l v k h i j = search (rules, at_most)

-- larger than the limit: at its start edge
pub limited_large : (r : Bool) (ω : N) (l : LineN) (v : N) (k : AxisStaticEdge) → le_n v (span_n (limit_n ω l)) ≡ false
    → (r ≡ false → EqN (limited_n false r ω l v k) (limit_n ω l).start) × (r ≡ true → EqN (add_n (limited_n false r ω l v k) v) (limit_n ω l).end)
limited_large r ω l v k h = search rules

pub overflow_self : (σ : Shape) (ω : N) (l : LineN) (v : N) (k : AxisStaticEdge) → le_n v (span_n l) ≡ false → is_normal σ.alignment ≡ false
    → self_n Default σ ω l v k ≡ limited_n σ.scrolls σ.reversed ω l v k
overflow_self σ ω l v k f n = rw (f, n) refl

-- ---- the static position

-- in the block that a static position leads to, the box is inside where it fits
static_inside : (k : AxisStaticEdge) (area : LineN) (ω v : N) → Middle area v → Multiple 2 (add_n area.start area.end) → LeN v (span_n (static_n k area ω))
    → LeN (static_n k area ω).start (align_n area v k) × LeN (add_n (align_n area v k) v) (static_n k area ω).end
static_inside k area ω v h l i = search (rules, half_twice)

-- a box as told in the static area, or at the start edge of the line l where it overflows that, doesn't pass that edge
abbrev Kept : LineN → N → AxisStaticEdge → LineN → Bool → Type 0
Kept area v k l r =
    (r ≡ false → LeN l.start (cond (lt_n (span_n l) v) (align_n l v (start_of r)) (align_n area v k)))
    × (r ≡ true → LeN (add_n (cond (lt_n (span_n l) v) (align_n l v (start_of r)) (align_n area v k)) v) l.end)

kept_if : (area : LineN) (v : N) (k : AxisStaticEdge) (l : LineN) (r : Bool) → (LeN v (span_n l) → LeN l.start (align_n area v k) × LeN (add_n (align_n area v k) v) l.end) → Kept area v k l r
kept_if area v k l r f = search rules

-- one above 0 fits no block that is closed up
pub static_keeps : (r : Bool) (k : AxisStaticEdge) (area : LineN) (ω v : N) → Middle area v → Multiple 2 (add_n area.start area.end) → lt_n zero_n v ≡ true
    → Kept area v k (repaired_n (end_of r) (static_n k area ω)) r
static_keeps r k area ω v e m p = search (rules, kept_if, static_inside)

-- one as large as that block stands on it, where the block is larger than 0
pub static_fills : (w k : AxisStaticEdge) (area : LineN) (ω v : N) → Middle area v → Multiple 2 (add_n area.start area.end)
    → let l = repaired_n w (static_n k area ω) in EqN v (span_n l) → lt_n zero_n (span_n l) ≡ true → EqN (align_n area v k) l.start
static_fills w k area ω v e m f p = search (rules, static_inside)

-- one that fits that block is inside
pub static_fits : (w k : AxisStaticEdge) (area : LineN) (ω v : N) → Middle area v → Multiple 2 (add_n area.start area.end)
    → let l = repaired_n w (static_n k area ω) in LeN v (span_n l) → lt_n zero_n (span_n l) ≡ true → LeN l.start (align_n area v k) × LeN (add_n (align_n area v k) v) l.end
static_fits w k area ω v e m f p = search (rules, static_inside)

-- one that fits the block stands as told in the static area
pub static_told : (s : AlignmentSafety) (σ : Shape) (area l : LineN) (v : N) → LeN v (span_n l) → static_place_n s σ area l v ≡ align_n area v σ.keyword
static_told s σ area l v f = search (rules, le-ltb)

-- the block of an edge that lies in the area lies in the area
pub start_inside : (w : AxisStaticEdge) (x ω : N) → LeN zero_n x → LeN x ω → let l = repaired_n w (x toN ω) in LeN zero_n l.start × LeN l.end ω
start_inside w x ω i j = search rules

pub end_inside : (w : AxisStaticEdge) (x ω : N) → LeN zero_n x → LeN x ω → let l = repaired_n w (zero_n toN x) in LeN zero_n l.start × LeN l.end ω
end_inside w x ω i j = search rules

-- the block around a static center that lies in the area: even on both sides, in the area, up to one of its edges
pub around : (w : AxisStaticEdge) (area : LineN) (ω : N) → Multiple 2 (add_n area.start area.end) → LeN zero_n (add_n area.start area.end) → LeN (add_n area.start area.end) (add_n ω ω)
    → let l = repaired_n w (static_n Center area ω) in
    EqN (add_n l.start l.end) (add_n area.start area.end) × LeN zero_n l.start × LeN l.end ω × (EqN l.start zero_n ⊎ EqN l.end ω)
around w area ω m f g = search (rules, above, at_most, half_twice)

-- the block of a position outside the area, which is larger than 0, is empty
pub start_outside : (w : AxisStaticEdge) (x ω : N) → LeN ω x → let l = repaired_n w (x toN ω) in EqN l.start l.end
start_outside w x ω i = search rules

pub end_outside : (w : AxisStaticEdge) (x : N) → LeN x zero_n → let l = repaired_n w (zero_n toN x) in EqN l.start l.end
end_outside w x i = search rules

pub center_outside : (w : AxisStaticEdge) (area : LineN) (ω : N) → Multiple 2 (add_n area.start area.end) → lt_n zero_n ω ≡ true
    → LeN (add_n area.start area.end) zero_n ⊎ LeN (add_n ω ω) (add_n area.start area.end)
    → let l = repaired_n w (static_n Center area ω) in EqN l.start l.end
center_outside w area ω m p f = search (rules, above, at_most, below, half_twice)
