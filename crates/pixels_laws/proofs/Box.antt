-- Steps 4 to 7: with replies of whole quarter pixels a box's size is such, and its location is whole eighths. Assumes nothing.
use Rattle.std.specs.Prelude.{Option, Float, None, is_some}
use Rattle.std.specs.declared.option.Option.TheVariants as option
use mathlib.Core.Path.{◌≡◌, refl}
use mathlib.Core.Bool.{Bool, not, ◌&&◌}
use Prim.Native.Nat.{ℕ, ◌+◌, ◌≤◌}
use lib.Dec.{lit<, lit≤}
use lib.Ieee.{Float}
use Rattle.util.specs.Number.{◌⊕◌}
use Rattle.geometry.specs.Geometry.{both_present, with_ratio}
use Rattle.geometry.specs.declared.Size.{Size}
use Rattle.geometry.specs.declared.Point.{Point}
use Rattle.geometry.specs.declared.Rect.{Rect}
use Rattle.style.specs.Values.{any_scroll_container}
use Rattle.style.specs.declared.Style.{Style}
use Rattle.tree.specs.declared.layout.Layout.{Layout}
use Rattle.tree.specs.declared.layout.OofCandidate.{OofCandidate}
use Rattle.oof_common.specs.ScrollableOverflow.{contribution}
use Rattle.oof_common.specs.SizingKeyword.{keywords_of}
use Rattle.oof_common.specs.declared.sizing_keyword.SizingKeywordResolution.{SizingKeywordResolution}
use Rattle.oof_common.specs.declared.sizing_keyword.SizingKeywordResolution.TheVariants.{Exact, Measure}
use Rattle.oof_axis.specs.Axis.{placement}
use Rattle.oof_axis.specs.declared.OofAxis.{OofAxis}
use Rattle.oof_resolve.specs.Resolved.{resolved_box}
use Rattle.oof_resolve.specs.declared.ContainingBlock.{ContainingBlock}
use Rattle.oof_resolve.specs.declared.ResolvedBox.{ResolvedBox}
use Rattle.oof_place.specs.Placing.{layout_of, from_origin, box_layout}
use Rattle.oof_box.specs.Talk.{Laid, Talk, ◌>>=◌}
use Rattle.oof_box.specs.Box.{◌by◌, keyword_stretch, size_keywords, has_keyword, settled, width_as, height_as, in_turn, by_keywords, keyword_sizes, widened, heightened, stretched, final_size, measured, Placed, placed}
use Rattle.oof_box.specs.declared.sizing.Stretched.{Stretched}
use Rattle.util_exact.specs.Integer.{N, add_n}
use Rattle.util_exact.specs.Value.{Quarter}
use Rattle.util_exact.proofs.Exact as float
use Rattle.util_exact.proofs.Exact.{eighths}
use Rattle.util_exact.proofs.Sum.{add_exact}
use Rattle.util_exact.proofs.Quarters.{units, quarters_exact}
use Rattle.util_exact.proofs.Same.{given, quarters_same, widen_same}
use Rattle.mirror_axis.proofs.Model.{shape, place_n}
use Rattle.mirror_axis.proofs.ExactPlace.{place_exact}
use Rattle.mirror_box.proofs.Bounds.{length_bound, static_bound, size_bound, fit_bound, place_bound}
use Rattle.mirror_box.proofs.Keywords.{KeywordSame, no_keyword, exact, measure, keyword_of_lem, if_absent_lem}
use Rattle.mirror_box.proofs.Stretch.{raised, no_ratio}
use Rattle.mirror_run.specs.Quarter.{AreaInQuarters, QuarterPlace}
use Rattle.pixels.specs.Pixels.{all_accepted, pixel_edges}
use Rattle.pixels_laws.specs.Quarter.{StyleInQuarters, AnsweredInQuarters, now, later}
use Rattle.pixels_laws.specs.Laws.{HasEdges, BoxHasEdges}
use Rattle.pixels_laws.proofs.Accepted.{exact_accepted}
use Rattle.pixels_laws.proofs.Sizes.{either, In, MaybeIn, SizeIn, KnownIn, widen_known, zero_in, definite_in_lem, filled_in, clamped_in, floats_in}
use Rattle.pixels_laws.proofs.Resolved.{AxisIn, BoxIn, axis_exact, keyword_in, resolved_in}

-- ---- step 4: keywords

abbrev KeywordIn : Option SizingKeywordResolution → Type 0
KeywordIn k = KeywordSame k k

record KeywordsIn (k : Size (Option SizingKeywordResolution)) : Type 0 where
  width : KeywordIn k.width
  height : KeywordIn k.height

keywords_in : (style : Style) (box : ResolvedBox) → StyleInQuarters style → BoxIn box → KeywordsIn (size_keywords style box)
unfolding size_keywords keywords_of keyword_stretch
keywords_in style box hs h =
    record {
      width = if_absent_lem h.size.width (keyword_of_lem style.size.width hs.size.width (keyword_in box.horizontal h.across) refl);
      height = if_absent_lem h.size.height (keyword_of_lem style.size.height hs.size.height (keyword_in box.vertical h.down) refl);
    }

-- ---- a size in reply

replied : {b : ℕ} → length_bound ≤ b → (r : Size Float) → Quarter r.width × Quarter r.height → SizeIn b r
replied i r q = record { width = widen_same i (quarters_same q.0); height = widen_same i (quarters_same q.1) }

-- ---- step 7: a layout's numbers

pub record LayoutIn (l : Layout) : Type 0 where
  pub size : SizeIn fit_bound l.size
  pub x : (n : N) × float.Exact 2 (place_bound + length_bound) l.location.x n
  pub y : (n : N) × float.Exact 2 (place_bound + length_bound) l.location.y n

located : (a : OofAxis) → AxisIn a → {size offset : Float} → In fit_bound size → Quarter offset → (n : N) × float.Exact 2 (place_bound + length_bound) ((placement a size).position ⊕ offset) n
located a h k q =
    let e = axis_exact a h in (
      add_n (place_n (shape a) e.0 k.a) (units q),
      add_exact (place_exact length_bound static_bound fit_bound (lit< tt) a e.0 e.1 k.l) (eighths (quarters_exact q)) (lit< tt),
    )

pub has_edges : {l : Layout} {offset : Point Float} → LayoutIn l → Quarter offset.x → Quarter offset.y → HasEdges l offset
unfolding pixel_edges all_accepted
has_edges {l} {offset} h x y =
    rw (
      exact_accepted (lit≤ tt) h.x.1,
      exact_accepted (lit≤ tt) h.y.1,
      exact_accepted (lit≤ tt) (eighths h.size.width.l),
      exact_accepted (lit≤ tt) (eighths h.size.height.l),
      exact_accepted (lit≤ tt) (eighths (quarters_exact x)),
      exact_accepted (lit≤ tt) (eighths (quarters_exact y)),
    )
    refl

-- what a box of a layout adds to the overflow
abbrev pub adds : ContainingBlock → Style → Layout → Rect Float
adds container style l =
    contribution (from_origin container l.location l.size) l.size l.overflow style.overflow style.contain (any_scroll_container container.overflow)

-- ---- dialogues, S being asked of the reply to lay out

module _ (S : Laid → Type 0) where
  bind : {A B : Type 0} (P : A → Type 0) (Q : B → Type 0) (m : Talk A) (next : A → Talk B) → AnsweredInQuarters S P m → ((a : A) → P a → AnsweredInQuarters S Q (next a)) → AnsweredInQuarters S Q (m >>= next)
  unfolding ◌>>=◌
  bind P Q _ next (now {a = a} p) f = f a p
  bind P Q _ next (later {q = q} {next = reply} h) f = later (λ r g. bind P Q (reply r) next (h r g) f)

  module _ (node : ℕ) (stretch : Size Float) where
    width_as_lem : (k : Option SizingKeywordResolution) (known : Size (Option Float)) → KeywordIn k → KnownIn fit_bound known → AnsweredInQuarters S (MaybeIn fit_bound) (width_as node k known stretch)
    unfolding width_as ◌>>=◌
    width_as_lem _ known no_keyword h = now h.width
    width_as_lem _ known (exact k) h = now (given k)
    width_as_lem _ known (measure s) h = later (λ r g. now (given (widen_same (lit≤ tt) (quarters_same g))))

    height_as_lem : (k : Option SizingKeywordResolution) (known : Size (Option Float)) → KeywordIn k → KnownIn fit_bound known → AnsweredInQuarters S (MaybeIn fit_bound) (height_as node k known stretch)
    unfolding height_as ◌>>=◌
    height_as_lem _ known no_keyword h = now h.height
    height_as_lem _ known (exact k) h = now (given k)
    height_as_lem _ known (measure s) h = later (λ r g. now (given (widen_same (lit≤ tt) (quarters_same g))))

    in_turn_lem : (wide tall : Option SizingKeywordResolution) (known : Size (Option Float)) → KeywordIn wide → KeywordIn tall → KnownIn fit_bound known → AnsweredInQuarters S (KnownIn fit_bound) (in_turn node wide tall known stretch)
    unfolding in_turn
    in_turn_lem wide tall known k l h =
        bind (MaybeIn fit_bound) (KnownIn fit_bound) (width_as node wide known stretch) _ (width_as_lem wide known k h)
        (λ w hw. bind (MaybeIn fit_bound) (KnownIn fit_bound) (height_as node tall (w by known.height) stretch) _ (height_as_lem tall (w by known.height) l (record { width = hw; height = h.height }))
        (λ t ht. now (record { width = hw; height = ht })))

    by_keywords_lem : (wide tall : Option SizingKeywordResolution) (known : Size (Option Float)) → KeywordIn wide → KeywordIn tall → KnownIn fit_bound known → AnsweredInQuarters S (KnownIn fit_bound) (by_keywords node wide tall known stretch)
    unfolding by_keywords ◌>>=◌
    by_keywords_lem option.None tall known k l h = in_turn_lem option.None tall known k l h
    by_keywords_lem (option.Some (Exact x)) tall known k l h = in_turn_lem (option.Some (Exact x)) tall known k l h
    by_keywords_lem (option.Some (Measure space)) option.None known k l h = in_turn_lem (option.Some (Measure space)) option.None known k l h
    by_keywords_lem (option.Some (Measure space)) (option.Some (Exact x)) known k l h = in_turn_lem (option.Some (Measure space)) (option.Some (Exact x)) known k l h
    by_keywords_lem (option.Some (Measure space)) (option.Some (Measure below)) known k l h =
        later (λ r g. now (definite_in_lem (replied (lit≤ tt) r g)))

  -- ---- a box

  module _ (style : Style) (hs : StyleInQuarters style) (node : ℕ) (box : ResolvedBox) (h : BoxIn box) where
    -- ratio, then clamp: there is no ratio
    settle : (b : ℕ) → size_bound ≤ b → (s : Size (Option Float)) → KnownIn b s → KnownIn b (settled None box s)
    unfolding settled with_ratio
    settle b i s k = clamped_in k (widen_known i h.min) (widen_known i h.max)

    known_in : AnsweredInQuarters S (KnownIn fit_bound) (keyword_sizes node style box (size_keywords style box))
    unfolding keyword_sizes
    known_in =
        let k = size_keywords style box in
        let hk = keywords_in style box hs h in
        let size = widen_known (lit≤ tt) h.size in
        either (AnsweredInQuarters S (KnownIn fit_bound)) (has_keyword k)
        (bind (KnownIn fit_bound) (KnownIn fit_bound) (by_keywords node k.width k.height box.size (keyword_stretch box)) _
        (by_keywords_lem node (keyword_stretch box) k.width k.height box.size hk.width hk.height size) (λ s k. now (rw hs.ratio (settle fit_bound (lit≤ tt) s k))))
        (now size)

    -- step 5
    widened_in : (t : Bool) (s : Size (Option Float)) → KnownIn fit_bound s → KnownIn fit_bound (widened None box t s)
    unfolding widened
    widened_in t s k = either (KnownIn fit_bound) t (settle fit_bound (lit≤ tt) _ (record { width = given h.fit.width; height = k.height })) k

    heightened_in : (t : Bool) (s : Size (Option Float)) → KnownIn fit_bound s → KnownIn fit_bound (heightened None box t s)
    unfolding heightened
    heightened_in t s k =
        either (KnownIn fit_bound) (t && not (is_some s.height)) (settle fit_bound (lit≤ tt) _ (record { width = k.width; height = given h.fit.height })) k

    record StretchedIn (at : Stretched) : Type 0 where
      known : KnownIn fit_bound at.known
      min : KnownIn fit_bound at.min

    stretched_in : (s : Size (Option Float)) → KnownIn fit_bound s → StretchedIn (stretched style box s)
    unfolding stretched
    stretched_in s k =
        let min = widen_known (lit≤ tt) h.min in
        either StretchedIn style.table
        (record { known = k; min = record { width = raised refl min.width h.fit.width; height = raised refl min.height h.fit.height } })
        (record { known = rw (no_ratio style box _ _ hs.ratio) (heightened_in _ _ (widened_in _ s k)); min = min })

    -- step 6
    measured_in : (at : Stretched) → StretchedIn at → AnsweredInQuarters S (SizeIn fit_bound) (measured node box at)
    unfolding measured final_size
    measured_in at k =
        bind (SizeIn fit_bound) (SizeIn fit_bound) _ _
        (either (AnsweredInQuarters S (SizeIn fit_bound)) (both_present at.known) (now zero_in)
        (later (λ r g. now (replied (lit≤ tt) r g))))
        (λ s g. now (floats_in (filled_in k.known g) k.min (widen_known (lit≤ tt) h.max)))

  -- ---- the whole box

  module _ (container : ContainingBlock) (style : Style) (candidate : OofCandidate) (hb : AreaInQuarters container.area) (hs : StyleInQuarters style) (hc : QuarterPlace candidate) where
    -- its layout, what it adds to the overflow, and what was replied
    pub record PlacedIn (p : Placed) : Type 0 where
      pub layout : LayoutIn p.outcome.layout
      pub contribution : p.outcome.contribution ≡ adds container style p.outcome.layout
      pub laid : S (record { overflow = p.outcome.layout.overflow; surfaced = p.surfaced })

    pub placed_in : AnsweredInQuarters S PlacedIn (placed container style candidate)
    unfolding placed box_layout layout_of ◌>>=◌
    placed_in =
        let box = resolved_box container style candidate in
        let h = resolved_in container style candidate hb hs hc in
        bind (KnownIn fit_bound) PlacedIn (keyword_sizes candidate.node style box (size_keywords style box)) _ (known_in style hs candidate.node box h)
        (λ known k. bind (SizeIn fit_bound) PlacedIn (measured candidate.node box (stretched style box known)) _
        (measured_in style hs candidate.node box h (stretched style box known) (stretched_in style hs candidate.node box h known k))
        (λ size s.
        later
        (λ laid g.
        now
        (record {
          layout = record { size = s; x = located box.horizontal h.across s.width hb.x; y = located box.vertical h.down s.height hb.y };
          contribution = refl;
          laid = g;
        }))))

  pub weaker : {A : Type 0} (P Q : A → Type 0) (m : Talk A) → ((a : A) → P a → Q a) → AnsweredInQuarters S P m → AnsweredInQuarters S Q m
  weaker P Q _ f (now {a = a} p) = now (f a p)
  weaker P Q _ f (later {q = q} {next = next} h) = later (λ r g. weaker P Q (next r) f (h r g))

pub box_has_edges : BoxHasEdges
box_has_edges container style candidate hb hs hc =
    let S : Laid → Type 0 = λ laid. Unit {0} in
    weaker S (PlacedIn S container style candidate hb hs hc) (λ p. HasEdges p.outcome.layout container.area.offset) (placed container style candidate)
    (λ p h. has_edges h.layout hb.x hb.y) (placed_in S container style candidate hb hs hc)
