-- What a box adds to the scrollable overflow. Assumes nothing.
use Rattle.std.proofs.lemmas.Bool.{or_from}
use Rattle.std.specs.Prelude.{Float}
use mathlib.Core.Path.{◌≡◌, refl, sym, ap, ap₂, subst, ◌∙◌}
use mathlib.Core.Logic.{◌⊎◌, inl, inr}
use mathlib.Core.List.{[], ◌∷◌}
use mathlib.Core.Bool.{Bool, true, false, false≢true, cond, not, ◌&&◌, ◌||◌}
use Prim.Native.Nat.{ℕ, ◌+◌, ◌*◌}
use native.Mathlib.Omega.{arith}
use lib.Dec.{lit<, lit≤}
use lib.Ieee.{Float, lt, le}
use Rattle.util.specs.Number.{◌⊕◌, ◌⊖◌, 0f}
use Rattle.util.specs.Order.{larger, smaller}
use Rattle.geometry.specs.Geometry.{◌to◌, zero_rect, line_x, line_y, rect_of}
use Rattle.geometry.specs.declared.Line.{Line}
use Rattle.geometry.specs.declared.Point.{Point}
use Rattle.geometry.specs.declared.Rect.{Rect}
use Rattle.geometry.specs.declared.Size.{Size}
use Rattle.style.specs.Values.{is_rtl, is_visible, is_scroll_container, any_scroll_container, contains_overflow}
use Rattle.style.specs.declared.Contain.{Contain}
use Rattle.style.specs.declared.Direction.{Direction}
use Rattle.style.specs.declared.Direction.TheVariants.{Ltr, Rtl}
use Rattle.style.specs.declared.Overflow.{Overflow}
use Rattle.style.specs.declared.Overflow.TheVariants.{Visible, Clip, Hidden, Scroll}
use Rattle.style.specs.declared.Style.{Style}
use Rattle.tree.specs.declared.layout.Layout.{Layout}
use Rattle.oof_resolve.specs.Resolved.{resolved_box}
use Rattle.oof_resolve.specs.declared.ContainingBlock.{ContainingBlock}
use Rattle.oof_common.specs.ScrollableOverflow.{propagates, reach, placed_at, contribution}
use Rattle.oof_place.specs.Placing.{layout_of, from_origin, box_layout}
use Rattle.util_exact.specs.Integer.{N, zero_n, add_n, EqN}
use Rattle.util_exact.specs.Value.{Signed}
use Rattle.util_exact.proofs.Integers.{sub_n, min_n, max_n, le_n, one_mult}
use Rattle.util_exact.proofs.Exact.{Exact, of_value, widen, zero_exact}
use Rattle.util_exact.proofs.Sum.{add_exact, sub_exact}
use Rattle.util_exact.proofs.Compare.{lt_exact, le_exact}
use Rattle.util_exact.proofs.Order.{larger_exact, smaller_exact}
use Rattle.oof_axis_laws.specs.Laws.{LeN, ◌=Σ◌, ◌≤Σ◌}
use Rattle.oof_axis_laws.proofs.Numbers.{nil, ◌and◌, equal_sums, at_most_sums, at_most, below}
use Rattle.oof_box_laws.specs.Laws.{Scroller, NoScroller, Contained, NotContained, Reaches, IsForwards, IsBackwards, Counted, ContributionIsTheUnion, ScrollingContributionIsReachable, Sixteenth, Fine, HoldsForwards, HoldsBackwards, HoldsAcross, HoldsDown, HoldsTheBox, ContributionHoldsTheBox, ContributionHoldsItsOverflow, PastTheStart, ContributionCounts, WithinTheBox, ContributionHoldsNoMore, ClippedOverflowIsNotCounted}
use Rattle.oof_box_laws.proofs.Always.{placed_always}

-- ---- the values of overflow and containment

or_true : (a b : Bool) → (a ≡ true) ⊎ (b ≡ true) → a || b ≡ true
or_true true b o = refl
or_true false b (inl e) = absurd (false≢true e)
or_true false b (inr e) = e

is_scroller : (o : Point Overflow) → Scroller o → any_scroll_container o ≡ true
is_scroller o (inl (inl e)) = rw e refl
is_scroller o (inl (inr e)) = rw e refl
is_scroller o (inr (inl e)) = or_true (is_scroll_container o.x) (is_scroll_container o.y) (inr (rw e refl))
is_scroller o (inr (inr e)) = or_true (is_scroll_container o.x) (is_scroll_container o.y) (inr (rw e refl))

scroller : (o : Point Overflow) → any_scroll_container o ≡ true → Scroller o
scroller o e = go o.x o.y refl refl e
  where
    go : (x y : Overflow) → o.x ≡ x → o.y ≡ y → is_scroll_container x || is_scroll_container y ≡ true → Scroller o
    go Hidden y p q e = inl (inl p)
    go Scroll y p q e = inl (inr p)
    go Visible Hidden p q e = inr (inl q)
    go Visible Scroll p q e = inr (inr q)
    go Clip Hidden p q e = inr (inl q)
    go Clip Scroll p q e = inr (inr q)
    go Visible Visible p q e = absurd (false≢true e)
    go Visible Clip p q e = absurd (false≢true e)
    go Clip Visible p q e = absurd (false≢true e)
    go Clip Clip p q e = absurd (false≢true e)

no_scroller : (o : Point Overflow) → NoScroller o → any_scroll_container o ≡ false
no_scroller o (inl e, inl f) = rw (e, f) refl
no_scroller o (inl e, inr f) = rw (e, f) refl
no_scroller o (inr e, inl f) = rw (e, f) refl
no_scroller o (inr e, inr f) = rw (e, f) refl

not_contained : (c : Contain) → NotContained c → contains_overflow c ≡ false
not_contained c (e, f) = rw (e, f) refl

-- ---- zeros, or the reach of the box, placed

module _ (at : Point Float) (size : Size Float) (own : Rect Float) (overflow : Point Overflow) (contain : Contain) where
  abbrev across : Line Float
  across = reach (propagates overflow.x overflow contain) size.width (line_x own)

  abbrev down : Line Float
  down = reach (propagates overflow.y overflow contain) size.height (line_y own)

  pub zeros_or_placed : (scrolls : Bool) → let r = contribution at size own overflow contain scrolls in (r ≡ zero_rect) ⊎ (r ≡ rect_of (placed_at at.x across) (placed_at at.y down))
  unfolding contribution
  zeros_or_placed scrolls = go (le across.end 0f || le down.end 0f) (scrolls && (le (placed_at at.x across).end 0f || le (placed_at at.y down).end 0f))
    where
      go : (b c : Bool) → let r = cond b zero_rect (cond c zero_rect (rect_of (placed_at at.x across) (placed_at at.y down))) in (r ≡ zero_rect) ⊎ (r ≡ rect_of (placed_at at.x across) (placed_at at.y down))
      go true c = inl refl
      go false true = inl refl
      go false false = inr refl

  pub reachable : let r = contribution at size own overflow contain true in (r ≡ zero_rect) ⊎ ((le r.right 0f ≡ false) × (le r.bottom 0f ≡ false))
  unfolding contribution
  reachable = go (le across.end 0f || le down.end 0f) (placed_at at.x across) (placed_at at.y down) (le (placed_at at.x across).end 0f) (le (placed_at at.y down).end 0f) refl refl
    where
      go : (b : Bool) (x y : Line Float) → (p q : Bool) → le x.end 0f ≡ p → le y.end 0f ≡ q
          → let r = cond b zero_rect (cond (p || q) zero_rect (rect_of x y)) in (r ≡ zero_rect) ⊎ ((le r.right 0f ≡ false) × (le r.bottom 0f ≡ false))
      go true x y p q e f = inl refl
      go false x y true q e f = inl refl
      go false x y false true e f = inl refl
      go false x y false false e f = inr (e, f)

pub scrolling_contribution_is_reachable : ScrollingContributionIsReachable
unfolding box_layout
scrolling_contribution_is_reachable container style candidate s =
    placed_always _ container style candidate (λ size laid. rw (is_scroller container.overflow s) (reachable _ size laid.overflow style.overflow style.contain))

-- ---- what is clipped

unshown : (size : Float) (own own' : Line Float) (shows : Bool) → shows ≡ false → reach shows size own ≡ reach shows size own'
unfolding reach
unshown size own own' shows e = rw e refl

abbrev joined : Point Float → Bool → Line Float → Line Float → Rect Float
joined at scrolls across down =
    cond (le across.end 0f || le down.end 0f) zero_rect
    (cond (scrolls && (le (placed_at at.x across).end 0f || le (placed_at at.y down).end 0f)) zero_rect (rect_of (placed_at at.x across) (placed_at at.y down)))

hidden : (a b c : Bool) → a || b ≡ true → not a && not b && c ≡ false
hidden true b c e = refl
hidden false true c e = refl
hidden false false c e = absurd (false≢true e)

clipped : (a b c : Bool) → c ≡ false → not a && not b && c ≡ false
clipped true b c e = refl
clipped false true c e = refl
clipped false false c e = e

held_in : (o : Point Overflow) (c : Contain) → Scroller o ⊎ Contained c → any_scroll_container o || contains_overflow c ≡ true
held_in o c (inl s) = or_true (any_scroll_container o) (contains_overflow c) (inl (is_scroller o s))
held_in o c (inr s) = or_true (any_scroll_container o) (contains_overflow c) (inr (or_true c.layout c.paint s))

unseen : (along : Overflow) (o : Point Overflow) (c : Contain) → Scroller o ⊎ Contained c → propagates along o c ≡ false
unfolding propagates
unseen along o c h = hidden (any_scroll_container o) (contains_overflow c) (is_visible along) (held_in o c h)

clips : (along : Overflow) (o : Point Overflow) (c : Contain) → along ≡ Clip → propagates along o c ≡ false
unfolding propagates
clips along o c e = clipped (any_scroll_container o) (contains_overflow c) (is_visible along) (rw e refl)

pub clipped_overflow_is_not_counted : ClippedOverflowIsNotCounted
unfolding contribution
clipped_overflow_is_not_counted at size own own' overflow contain scrolls = (
  λ h. ap₂ (joined at scrolls) (unshown size.width (line_x own) (line_x own') _ (unseen overflow.x overflow contain h)) (unshown size.height (line_y own) (line_y own') _ (unseen overflow.y overflow contain h)),
  λ e f. ap₂ (joined at scrolls) (unshown size.width (line_x own) (line_x own') _ (clips overflow.x overflow contain e)) (ap (reach _ size.height) f),
  λ e f. ap₂ (joined at scrolls) (ap (reach _ size.width) f) (unshown size.height (line_y own) (line_y own') _ (clips overflow.y overflow contain e)),
)

-- ---- exact numbers

abbrev bound : ℕ
bound = 2097152

abbrev signed : Bool → ℕ → N
signed false k = record { p = k; n = 0 }
signed true k = record { p = 0; n = k }

abbrev units : {x : Float} → Sixteenth x → N
units h = signed h.sign h.k

exactly : {x : Float} (h : Sixteenth x) → Exact 1 bound x (units h)
exactly {x} h = record { z = h.k; val = of_value x h.sign h.k (units h) h.value (go h.sign); small = h.small; mult = one_mult (units h) }
  where
    go : (s : Bool) → Signed s h.k (signed s h.k)
    go false = omega arith
    go true = omega arith

zero : Exact 1 bound 0f zero_n
zero = zero_exact

-- how far a box reaches: over itself, and over its own overflow where that shows
record Reached (shows : Bool) (size : Float) (own : Line Float) (u s e : N) : Type 0 where
  first : N
  last : N
  start : Exact 1 bound (reach shows size own).start first
  end : Exact 1 bound (reach shows size own).end last
  low : LeN first zero_n
  high : LeN u last
  low_own : shows ≡ true → LeN first s
  high_own : shows ≡ true → LeN e last
  low_within : LeN zero_n s → EqN first zero_n
  high_within : LeN e u → EqN last u

reached : (shows : Bool) {size : Float} {own : Line Float} {u s e : N} → Exact 1 bound size u → Exact 1 bound own.start s → Exact 1 bound own.end e → Reached shows size own u s e
unfolding reach
reached true {size} {own} {u} {s} {e} hu hs he =
    record {
      first = min_n zero_n s;
      last = max_n u e;
      start = smaller_exact zero hs;
      end = larger_exact hu he;
      low = omega arith;
      high = omega arith;
      low_own = λ t. omega arith;
      high_own = λ t. omega arith;
      low_within = λ i. omega arith;
      high_within = λ i. omega arith;
    }
reached false {size} {own} {u} {s} {e} hu hs he =
    record {
      first = zero_n;
      last = u;
      start = zero;
      end = hu;
      low = omega arith;
      high = omega arith;
      low_own = λ t. absurd (false≢true t);
      high_own = λ t. absurd (false≢true t);
      low_within = λ i. refl;
      high_within = λ i. refl;
    }

-- a box that stands at `at`, from the area's start edge
module _ {offset at : Float} {o ξ : N} (ho : Exact 1 bound offset o) (hx : Exact 1 bound at ξ) where
  from_start : Exact 1 (bound + bound) (at ⊖ offset) (sub_n ξ o)
  from_start = sub_exact hx ho (lit< tt)

  from_end : {width size : Float} {ω u : N} → Exact 1 bound width ω → Exact 1 bound size u → Exact 1 (bound + (bound + bound) + bound) (width ⊖ (at ⊖ offset) ⊖ size) (sub_n (sub_n ω (sub_n ξ o)) u)
  from_end hw hu = sub_exact (sub_exact hw from_start (lit< tt)) hu (lit< tt)

-- the reach of a box that stands at `at`, from the area's start edge, holds a line that its own edges hold
module _ {offset at width size : Float} {o ξ ω u : N} (ho : Exact 1 bound offset o) (hx : Exact 1 bound at ξ) (hw : Exact 1 bound width ω) (hu : Exact 1 bound size u)
    {r : Line Float} {σ ε : N} (hs : Exact 1 bound r.start σ) (he : Exact 1 bound r.end ε) {l : Line Float} {α β : N} (ha : Exact 1 bound l.start α) (hb : Exact 1 bound l.end β)
    (low : LeN σ α) (high : LeN β ε) where
  forwards : HoldsForwards (placed_at (at ⊖ offset) r) offset at l
  unfolding placed_at
  forwards = (
    at_most_sums (add_exact (from_start ho hx) hs (lit< tt) and ho and nil) (hx and ha and nil) (omega arith),
    at_most_sums (hx and hb and nil) (add_exact (from_start ho hx) he (lit< tt) and ho and nil) (omega arith),
  )

  backwards : HoldsBackwards (placed_at (width ⊖ (at ⊖ offset) ⊖ size) r) offset width at size l
  unfolding placed_at
  backwards = (
    at_most_sums (add_exact (from_end ho hx hw hu) hs (lit< tt) and hx and hu and nil) (ho and hw and ha and nil) (omega arith),
    at_most_sums (ho and hw and hb and nil) (add_exact (from_end ho hx hw hu) he (lit< tt) and hx and hu and nil) (omega arith),
  )

-- ---- the laws

module _ (container : ContainingBlock) (style : Style) (l : Layout) (h : Fine container l) where
  abbrev origin : Point Float
  origin = from_origin container l.location l.size

  abbrev x_shows : Bool
  x_shows = propagates style.overflow.x style.overflow style.contain

  abbrev y_shows : Bool
  y_shows = propagates style.overflow.y style.overflow style.contain

  abbrev x_line : Line Float
  x_line = reach x_shows l.size.width (line_x l.overflow)

  abbrev y_line : Line Float
  y_line = reach y_shows l.size.height (line_y l.overflow)

  x_reach : Reached x_shows l.size.width (line_x l.overflow) (units h.size_x) (units h.left) (units h.right)
  x_reach = reached x_shows (exactly h.size_x) (exactly h.left) (exactly h.right)

  y_reach : Reached y_shows l.size.height (line_y l.overflow) (units h.size_y) (units h.top) (units h.bottom)
  y_reach = reached y_shows (exactly h.size_y) (exactly h.top) (exactly h.bottom)

  -- lines that the reach holds
  across_held : (x : Line Float) {α β : N} → Exact 1 bound x.start α → Exact 1 bound x.end β → LeN x_reach.first α → LeN β x_reach.last → HoldsAcross container l (placed_at origin.x x_line) x
  unfolding from_origin
  across_held x a b i j = (
    λ e. rw e (forwards (exactly h.offset_x) (exactly h.x) (exactly h.width) (exactly h.size_x) x_reach.start x_reach.end a b i j),
    λ e. rw e (backwards (exactly h.offset_x) (exactly h.x) (exactly h.width) (exactly h.size_x) x_reach.start x_reach.end a b i j),
  )

  down_held : (y : Line Float) {α β : N} → Exact 1 bound y.start α → Exact 1 bound y.end β → LeN y_reach.first α → LeN β y_reach.last → HoldsDown container l (placed_at origin.y y_line) y
  unfolding from_origin
  down_held y a b i j = forwards (exactly h.offset_y) (exactly h.y) (exactly h.width) (exactly h.size_y) y_reach.start y_reach.end a b i j

  box_held : HoldsTheBox container l (rect_of (placed_at origin.x x_line) (placed_at origin.y y_line))
  box_held = (across_held (0f to l.size.width) zero (exactly h.size_x) x_reach.low x_reach.high, down_held (0f to l.size.height) zero (exactly h.size_y) y_reach.low y_reach.high)

  abbrev found : Rect Float
  found = contribution origin l.size l.overflow style.overflow style.contain (any_scroll_container container.overflow)

  or_zeros : (P : Rect Float → Type 0) → P (rect_of (placed_at origin.x x_line) (placed_at origin.y y_line)) → (found ≡ zero_rect) ⊎ P found
  or_zeros P k = go (zeros_or_placed origin l.size l.overflow style.overflow style.contain (any_scroll_container container.overflow))
    where
      go : (found ≡ zero_rect) ⊎ (found ≡ rect_of (placed_at origin.x x_line) (placed_at origin.y y_line)) → (found ≡ zero_rect) ⊎ P found
      go (inl e) = inl e
      go (inr e) = inr (subst P (sym e) k)

pub contribution_holds_the_box : ContributionHoldsTheBox
unfolding box_layout layout_of
contribution_holds_the_box container style candidate =
    placed_always _ container style candidate
    (λ size laid h. (let l = layout_of container style candidate (resolved_box container style candidate) size laid.overflow in
    or_zeros container style l h (HoldsTheBox container l) (box_held container style l h)))

visible : (o : Overflow) (p : Point Overflow) (c : Contain) → o ≡ Visible → NoScroller p → NotContained c → propagates o p c ≡ true
unfolding propagates
visible o p c e f n = rw (e, no_scroller p f, not_contained c n) refl

pub contribution_holds_its_overflow : ContributionHoldsItsOverflow
unfolding box_layout layout_of
contribution_holds_its_overflow container style candidate f n =
    placed_always _ container style candidate
    (λ size laid h. (let l = layout_of container style candidate (resolved_box container style candidate) size laid.overflow in
    let x = x_reach container style l h in
    let y = y_reach container style l h in
    or_zeros container style l h
    (λ r. (style.overflow.x ≡ Visible → HoldsAcross container l (line_x r) (line_x laid.overflow)) × (style.overflow.y ≡ Visible → HoldsDown container l (line_y r) (line_y laid.overflow))) (
      λ e. (let s = visible style.overflow.x style.overflow style.contain e f n in across_held container style l h (line_x laid.overflow) (exactly h.left) (exactly h.right) (x.low_own s) (x.high_own s)),
      λ e. (let s = visible style.overflow.y style.overflow style.contain e f n in down_held container style l h (line_y laid.overflow) (exactly h.top) (exactly h.bottom) (y.low_own s) (y.high_own s)),
    )))

-- ---- no zeros

at_most_false : (v w : N) → (LeN v w → ⊥) → le_n v w ≡ false
at_most_false v w f = go (le_n v w) refl
  where
    go : (b : Bool) → le_n v w ≡ b → b ≡ false
    go true e = absurd (f (at_most v w e))
    go false e = refl

where_scrolling : (s b : Bool) → (s ≡ true → b ≡ false) → s && b ≡ false
where_scrolling true b f = f refl
where_scrolling false b f = refl

not_zeros : (at : Point Float) (size : Size Float) (own : Rect Float) (overflow : Point Overflow) (contain : Contain) (scrolls : Bool)
    → let x = across at size own overflow contain in let y = down at size own overflow contain in
    le x.end 0f || le y.end 0f ≡ false → scrolls && (le (placed_at at.x x).end 0f || le (placed_at at.y y).end 0f) ≡ false
    → contribution at size own overflow contain scrolls ≡ rect_of (placed_at at.x x) (placed_at at.y y)
unfolding contribution
not_zeros at size own overflow contain scrolls e f = rw (e, f) refl

module _ (container : ContainingBlock) (style : Style) (l : Layout) (h : Fine container l) where
  abbrev x : Reached (x_shows container style l h) l.size.width (line_x l.overflow) (units h.size_x) (units h.left) (units h.right)
  x = x_reach container style l h

  abbrev y : Reached (y_shows container style l h) l.size.height (line_y l.overflow) (units h.size_y) (units h.top) (units h.bottom)
  y = y_reach container style l h

  -- an extent above 0
  wide : lt 0f l.size.width ≡ true → le (x_line container style l h).end 0f ≡ false
  wide e = let p = below zero_n (units h.size_x) (sym (lt_exact zero (exactly h.size_x)) ∙ e) in le_exact x.end zero ∙ at_most_false x.last zero_n (λ q. omega (arith, p, q, x.high))

  tall : lt 0f l.size.height ≡ true → le (y_line container style l h).end 0f ≡ false
  tall e = let p = below zero_n (units h.size_y) (sym (lt_exact zero (exactly h.size_y)) ∙ e) in le_exact y.end zero ∙ at_most_false y.last zero_n (λ q. omega (arith, p, q, y.high))

  -- an end after the start edge
  left_to_right_lem : (l.location.x ∷ l.size.width ∷ [] ≤Σ container.area.offset.x ∷ [] → ⊥) → le (l.location.x ⊖ container.area.offset.x ⊕ (x_line container style l h).end) 0f ≡ false
  left_to_right_lem f =
      le_exact (add_exact (sub_exact (exactly h.x) (exactly h.offset_x) (lit< tt)) x.end (lit< tt)) zero
      ∙ at_most_false (add_n (sub_n (units h.x) (units h.offset_x)) x.last) zero_n
      (λ q. f (at_most_sums (exactly h.x and exactly h.size_x and nil) (exactly h.offset_x and nil) (omega (arith, q, x.high))))

  right_to_left_lem : (container.area.offset.x ∷ container.area.size.width ∷ [] ≤Σ l.location.x ∷ [] → ⊥)
      → le (container.area.size.width ⊖ (l.location.x ⊖ container.area.offset.x) ⊖ l.size.width ⊕ (x_line container style l h).end) 0f ≡ false
  right_to_left_lem f =
      le_exact (add_exact (sub_exact (sub_exact (exactly h.width) (sub_exact (exactly h.x) (exactly h.offset_x) (lit< tt)) (lit< tt)) (exactly h.size_x) (lit< tt)) x.end (lit< tt)) zero
      ∙ at_most_false (add_n (sub_n (sub_n (units h.width) (sub_n (units h.x) (units h.offset_x))) (units h.size_x)) x.last) zero_n
      (λ q. f (at_most_sums (exactly h.offset_x and exactly h.width and nil) (exactly h.x and nil) (omega (arith, q, x.high))))

  downwards : (l.location.y ∷ l.size.height ∷ [] ≤Σ container.area.offset.y ∷ [] → ⊥) → le (l.location.y ⊖ container.area.offset.y ⊕ (y_line container style l h).end) 0f ≡ false
  downwards f =
      le_exact (add_exact (sub_exact (exactly h.y) (exactly h.offset_y) (lit< tt)) y.end (lit< tt)) zero
      ∙ at_most_false (add_n (sub_n (units h.y) (units h.offset_y)) y.last) zero_n
      (λ q. f (at_most_sums (exactly h.y and exactly h.size_y and nil) (exactly h.offset_y and nil) (omega (arith, q, y.high))))

  past : PastTheStart container l → le (placed_at (origin container style l h).x (x_line container style l h)).end 0f || le (placed_at (origin container style l h).y (y_line container style l h)).end 0f ≡ false
  unfolding from_origin placed_at
  past p = or_from _ _ (go container.direction refl) (downwards p.2)
    where
      go : (d : Direction) → container.direction ≡ d
          → le (cond (is_rtl d) (container.area.size.width ⊖ (l.location.x ⊖ container.area.offset.x) ⊖ l.size.width) (l.location.x ⊖ container.area.offset.x) ⊕ (x_line container style l h).end) 0f ≡ false
      go Ltr e = left_to_right_lem (p.0 e)
      go Rtl e = right_to_left_lem (p.1 e)

  counts : lt 0f l.size.width ≡ true → lt 0f l.size.height ≡ true → (Scroller container.overflow → PastTheStart container l) → HoldsTheBox container l (found container style l h)
  counts w t p =
      subst (HoldsTheBox container l)
      (sym
      (not_zeros (origin container style l h) l.size l.overflow style.overflow style.contain (any_scroll_container container.overflow) (or_from _ _ (wide w) (tall t))
      (where_scrolling (any_scroll_container container.overflow) _ (λ s. past (p (scroller container.overflow s))))))
      (box_held container style l h)

pub contribution_counts : ContributionCounts
unfolding box_layout layout_of
contribution_counts container style candidate =
    placed_always _ container style candidate (λ size laid h w t p. counts container style (layout_of container style candidate (resolved_box container style candidate) size laid.overflow) h w t p)

-- ---- no more than the box

-- a line placed by a reach that is the box's
as_long : {p size : Float} {o u : N} {r : Line Float} {σ ε : N} → Exact 1 (4 * bound) p o → Exact 1 bound size u → Exact 1 bound r.start σ → Exact 1 bound r.end ε → EqN σ zero_n → EqN ε u
    → (placed_at p r).start ∷ size ∷ [] =Σ (placed_at p r).end ∷ []
unfolding placed_at
as_long hp hu hs he i j = equal_sums (add_exact hp hs (lit< tt) and hu and nil) (add_exact hp he (lit< tt) and nil) (omega (arith, i, j))

module _ (container : ContainingBlock) (style : Style) (l : Layout) (h : Fine container l) where
  x_from : (d : Direction) → (o : N) × Exact 1 (4 * bound) (cond (is_rtl d) (container.area.size.width ⊖ (l.location.x ⊖ container.area.offset.x) ⊖ l.size.width) (l.location.x ⊖ container.area.offset.x)) o
  x_from Ltr = (_, widen (lit≤ tt) (sub_exact (exactly h.x) (exactly h.offset_x) (lit< tt)))
  x_from Rtl = (_, sub_exact (sub_exact (exactly h.width) (sub_exact (exactly h.x) (exactly h.offset_x) (lit< tt)) (lit< tt)) (exactly h.size_x) (lit< tt))

  x_origin : (o : N) × Exact 1 (4 * bound) (origin container style l h).x o
  unfolding from_origin
  x_origin = x_from container.direction

  y_origin : (o : N) × Exact 1 (4 * bound) (origin container style l h).y o
  unfolding from_origin
  y_origin = (_, widen (lit≤ tt) (sub_exact (exactly h.y) (exactly h.offset_y) (lit< tt)))

  no_more : WithinTheBox l → let r = found container style l h in (r ≡ zero_rect) ⊎ ((r.left ∷ l.size.width ∷ [] =Σ r.right ∷ []) × (r.top ∷ l.size.height ∷ [] =Σ r.bottom ∷ []))
  no_more i =
      let x = x_reach container style l h in
      let y = y_reach container style l h in
      or_zeros container style l h (λ r. (r.left ∷ l.size.width ∷ [] =Σ r.right ∷ []) × (r.top ∷ l.size.height ∷ [] =Σ r.bottom ∷ [])) (
        as_long x_origin.1 (exactly h.size_x) x.start x.end (x.low_within (at_most zero_n (units h.left) (sym (le_exact zero (exactly h.left)) ∙ i.0)))
            (x.high_within (at_most (units h.right) (units h.size_x) (sym (le_exact (exactly h.right) (exactly h.size_x)) ∙ i.1))),
        as_long y_origin.1 (exactly h.size_y) y.start y.end (y.low_within (at_most zero_n (units h.top) (sym (le_exact zero (exactly h.top)) ∙ i.2)))
            (y.high_within (at_most (units h.bottom) (units h.size_y) (sym (le_exact (exactly h.bottom) (exactly h.size_y)) ∙ i.3))),
      )

pub contribution_holds_no_more : ContributionHoldsNoMore
unfolding box_layout layout_of
contribution_holds_no_more container style candidate =
    placed_always _ container style candidate (λ size laid h i. no_more container style (layout_of container style candidate (resolved_box container style candidate) size laid.overflow) h i)

-- ---- exactly the union

hides : (shows : Bool) (size : Float) (own : Line Float) → shows ≡ false → reach shows size own ≡ 0f to size
unfolding reach
hides shows size own e = rw e refl

shows : (b : Bool) (size : Float) (own : Line Float) → b ≡ true → reach b size own ≡ smaller 0f own.start to larger size own.end
unfolding reach
shows b size own e = rw e refl

reaches : (style : Style) (along : Overflow) (size : Float) (own : Line Float) → Reaches style along size own (reach (propagates along style.overflow style.contain) size own)
reaches style along size own =
    record {
      shown = λ e f n. shows _ size own (visible along style.overflow style.contain e f n);
      clipped = λ e. hides _ size own (clips along style.overflow style.contain e);
      scrolled = λ s. hides _ size own (unseen along style.overflow style.contain (inl s));
      contained = λ c. hides _ size own (unseen along style.overflow style.contain (inr c));
    }

module _ {offset at width size : Float} {o ξ ω u : N} (ho : Exact 1 bound offset o) (hx : Exact 1 bound at ξ) (hw : Exact 1 bound width ω) (hu : Exact 1 bound size u)
    {r : Line Float} {σ ε : N} (hs : Exact 1 bound r.start σ) (he : Exact 1 bound r.end ε) where
  is_forwards : IsForwards (placed_at (at ⊖ offset) r) offset at r
  unfolding placed_at
  is_forwards = (
    equal_sums (add_exact (from_start ho hx) hs (lit< tt) and ho and nil) (hx and hs and nil) (omega arith),
    equal_sums (add_exact (from_start ho hx) he (lit< tt) and ho and nil) (hx and he and nil) (omega arith),
  )

  is_backwards : IsBackwards (placed_at (width ⊖ (at ⊖ offset) ⊖ size) r) offset width at size r
  unfolding placed_at
  is_backwards = (
    equal_sums (add_exact (from_end ho hx hw hu) hs (lit< tt) and hx and hu and nil) (ho and hw and hs and nil) (omega arith),
    equal_sums (add_exact (from_end ho hx hw hu) he (lit< tt) and hx and hu and nil) (ho and hw and he and nil) (omega arith),
  )

-- zeros, by either test
empty_zeros : (at : Point Float) (scrolls : Bool) (x y : Line Float) → (le x.end 0f ≡ true) ⊎ (le y.end 0f ≡ true) → joined at scrolls x y ≡ zero_rect
empty_zeros at scrolls x y o = rw (or_true (le x.end 0f) (le y.end 0f) o) refl

unreachable_zeros : (at : Point Float) (scrolls : Bool) (x y : Line Float) → scrolls ≡ true → (le (placed_at at.x x).end 0f ≡ true) ⊎ (le (placed_at at.y y).end 0f ≡ true) → joined at scrolls x y ≡ zero_rect
unreachable_zeros at scrolls x y s o = rw (s, or_true (le (placed_at at.x x).end 0f) (le (placed_at at.y y).end 0f) o) (go (le x.end 0f || le y.end 0f))
  where
    go : (b : Bool) → cond b zero_rect zero_rect ≡ zero_rect
    go true = refl
    go false = refl

not_before : (scrolls a b : Bool) → (scrolls ≡ false) ⊎ ((a ≡ false) × (b ≡ false)) → scrolls && (a || b) ≡ false
not_before scrolls a b (inl e) = rw e refl
not_before true a b (inr (e, f)) = or_from a b e f
not_before false a b (inr h) = refl

either_way : (o : Point Overflow) (A : Type 0) → NoScroller o ⊎ A → (any_scroll_container o ≡ false) ⊎ A
either_way o A (inl n) = inl (no_scroller o n)
either_way o A (inr a) = inr a

counted : (container : ContainingBlock) (style : Style) (l : Layout)
    → Counted container style l (contribution (from_origin container l.location l.size) l.size l.overflow style.overflow style.contain (any_scroll_container container.overflow))
unfolding contribution from_origin
counted container style l =
    let at = from_origin container l.location l.size in
    let x = reach (propagates style.overflow.x style.overflow style.contain) l.size.width (line_x l.overflow) in
    let y = reach (propagates style.overflow.y style.overflow style.contain) l.size.height (line_y l.overflow) in
    let scrolls = any_scroll_container container.overflow in
    record {
      x = x;
      y = y;
      reach_x = reaches style style.overflow.x l.size.width (line_x l.overflow);
      reach_y = reaches style style.overflow.y l.size.height (line_y l.overflow);
      union = rect_of (placed_at at.x x) (placed_at at.y y);
      union_x =
          λ h. (
            λ e. rw e (is_forwards (exactly h.offset_x) (exactly h.x) (exactly h.width) (exactly h.size_x) (x_reach container style l h).start (x_reach container style l h).end),
            λ e. rw e (is_backwards (exactly h.offset_x) (exactly h.x) (exactly h.width) (exactly h.size_x) (x_reach container style l h).start (x_reach container style l h).end),
          );
      union_y = λ h. is_forwards (exactly h.offset_y) (exactly h.y) (exactly h.width) (exactly h.size_y) (y_reach container style l h).start (y_reach container style l h).end;
      empty = empty_zeros at scrolls x y;
      unreachable = λ s. unreachable_zeros at scrolls x y (is_scroller container.overflow s);
      counts =
          λ e f o. not_zeros at l.size l.overflow style.overflow style.contain scrolls (or_from _ _ e f)
          (not_before scrolls _ _ (either_way container.overflow _ o));
    }

pub contribution_is_the_union : ContributionIsTheUnion
unfolding box_layout layout_of
contribution_is_the_union container style candidate =
    placed_always _ container style candidate (λ size laid. counted container style (layout_of container style candidate (resolved_box container style candidate) size laid.overflow))
