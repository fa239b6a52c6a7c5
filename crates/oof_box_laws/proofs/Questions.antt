-- What the host is asked. Assumes nothing.
use mathlib.Core.Path.{◌≡◌, refl, ap, ap₂, ◌∙◌}
use mathlib.Core.Logic.{◌⊎◌, inl, inr}
use mathlib.Core.Bool.{Bool, true, false, false≢true, cond}
use Prim.Native.Nat.{ℕ}
use lib.Ieee.{Float}
use Rattle.std.specs.Prelude.{Option, Float, None, Some}
use Rattle.std.specs.declared.option.Option.TheVariants as option
use Rattle.util.specs.Order.{smaller}
use Rattle.util.specs.Maybe.{clamped}
use Rattle.geometry.specs.Geometry.{zero_size, clamped_floats, filled_size, both_present, sum_x, sum_y, rect_or_zero, smaller_size}
use Rattle.geometry.specs.declared.Size.{Size}
use Rattle.style.specs.declared.available_space.AvailableSpace.{AvailableSpace}
use Rattle.style.specs.Resolve.{resolved_rect}
use Rattle.style.specs.Values.{definite_spaces, clamped_space, clamped_spaces}
use Rattle.style.specs.declared.Style.{Style}
use Rattle.style.specs.declared.available_space.AvailableSpace.TheVariants.{Definite}
use Rattle.style.specs.declared.resolve.Field.TheVariants as field
use Rattle.tree.specs.declared.layout.OofCandidate.{OofCandidate}
use Rattle.oof_axis.specs.Axis.{stretch_fit}
use Rattle.oof_resolve.specs.Resolved.{of_width, less_margins, space_for, horizontal, vertical, resolved_box}
use Rattle.oof_resolve.specs.declared.ContainingBlock.{ContainingBlock}
use Rattle.oof_resolve.specs.declared.ResolvedBox.{ResolvedBox}
use Rattle.oof_common.specs.SizingKeyword.{keywords_of}
use Rattle.oof_common.specs.declared.sizing_keyword.SizingKeywordResolution.{SizingKeywordResolution}
use Rattle.oof_common.specs.declared.sizing_keyword.SizingKeywordResolution.TheVariants.{Exact, Measure}
use Rattle.oof_place.specs.Placing.{layout_of, box_layout}
use Rattle.oof_box.specs.Talk.{Talk, done, ask, Laid, ◌>>=◌}
use Rattle.oof_box.specs.Box.{Placed, placed, ◌and◌, width_as, height_as, in_turn, by_keywords, stretched, final_size, measured, keyword_sizes, size_keywords}
use Rattle.oof_box.specs.Theorems.{is_measure}
use Rattle.oof_box.specs.declared.question.LayoutInput.{LayoutInput}
use Rattle.oof_box.specs.declared.question.Question.{Question}
use Rattle.oof_box.specs.declared.question.Question.TheVariants.{MeasureBoth, MeasureWidth, MeasureHeight, LayOut}
use Rattle.oof_box.specs.declared.sizing.Stretched.{Stretched}
use Rattle.oof_box_laws.specs.Laws.{Always, now, later, Asks, ends, asks, Plain, space_of, AskedIn, LaidOutIn, SpaceIsTheBlock, WidthTold, HeightTold, GivenSizeIsTold, WidthByKeyword, HeightByKeyword, StretchedSizeIsTold, LaysOut, last, before, LayoutIsTheReply}
use Rattle.oof_box_laws.proofs.Always.{always_any}
use Rattle.oof_box_laws.proofs.Sizes.{told_width, told_height, stretched_width, stretched_height, width_known, height_known, given_width_settled, given_height_settled, no_keyword, known_is, plain_keywords, auto_width, auto_height, fit_across, fit_down, stretch_side, asks_height_first, asks_width_first, leaves_width, leaves_height}

asks_bind : {A B : Type 0} (P : Question → Type 0) (K : A → Type 0) (m : Talk A) (next : A → Talk B) → Asks P m → Always K m → ((a : A) → K a → Asks P (next a)) → Asks P (m >>= next)
unfolding ◌>>=◌
asks_bind P K (done a) next ends (now k) f = f a k
asks_bind P K (ask q reply) next (asks p h) (later k) f = asks p (λ r. asks_bind P K (reply r) next (h r) (k r) f)

-- step 6 asks where a side is still absent
measured_asks : (P : Question → Type 0) (node : ℕ) (box : ResolvedBox) (at : Stretched) → (both_present at.known ≡ false → P (MeasureBoth (record { node = node; known = at.known; space = box.space }))) → Asks P (measured node box at)
unfolding measured ◌>>=◌
measured_asks P node box at p = go (both_present at.known) p
  where
    go : (b : Bool) → (b ≡ false → P (MeasureBoth (record { node = node; known = at.known; space = box.space })))
        → Asks P (cond b (done zero_size) (ask (MeasureBoth (record { node = node; known = at.known; space = box.space })) done) >>= λ size. done (final_size box at size))
    go true p = ends
    go false p = asks (p refl) (λ r. ends)

module _ (P : Question → Type 0) (container : ContainingBlock) (style : Style) (candidate : OofCandidate) where
  abbrev box : ResolvedBox
  box = resolved_box container style candidate

  -- steps 5 to 7, from the size known after step 4
  abbrev pub rest_of : Size (Option Float) → Talk Placed
  rest_of known =
      measured candidate.node box (stretched style box known)
      >>= λ size. ask (LayOut (record { node = candidate.node; size = size; space = box.space })) done
      >>= λ laid. done (record { outcome = box_layout container style candidate box size laid.overflow; surfaced = laid.surfaced })

  pub rest_asks : (known : Size (Option Float))
      → (both_present (stretched style box known).known ≡ false → P (MeasureBoth (record { node = candidate.node; known = (stretched style box known).known; space = box.space })))
      → ((s : Size Float) → P (LayOut (record { node = candidate.node; size = final_size box (stretched style box known) s; space = box.space }))) → Asks P (rest_of known)
  unfolding ◌>>=◌ measured
  rest_asks known m l =
      asks_bind P (λ (size : Size Float). (s : Size Float) × (size ≡ final_size box (stretched style box known) s)) (measured candidate.node box (stretched style box known)) _
      (measured_asks P candidate.node box (stretched style box known) m) (finals (both_present (stretched style box known).known)) (λ size f. asks (rw f.1 (l f.0)) (λ laid. ends))
    where
      finals : (b : Bool)
          → Always (λ (size : Size Float). (s : Size Float) × (size ≡ final_size box (stretched style box known) s))
          (cond b (done zero_size) (ask (MeasureBoth (record { node = candidate.node; known = (stretched style box known).known; space = box.space })) done) >>= λ size. done (final_size box (stretched style box known) size))
      finals true = now (_, refl)
      finals false = later (λ r. now (r, refl))

  -- step 4, then the question of step 6, then lay out
  module _ (K : Size (Option Float) → Type 0) where
    abbrev talk : Talk (Size (Option Float))
    talk = keyword_sizes candidate.node style box (size_keywords style box)

    pub asks_unless_there : Asks P talk → Always K talk
        → ((known : Size (Option Float)) → K known → both_present (stretched style box known).known ≡ false → P (MeasureBoth (record { node = candidate.node; known = (stretched style box known).known; space = box.space })))
        → ((known : Size (Option Float)) → K known → (s : Size Float) → P (LayOut (record { node = candidate.node; size = final_size box (stretched style box known) s; space = box.space })))
        → Asks P (placed container style candidate)
    unfolding placed
    asks_unless_there a k m l = asks_bind P K talk rest_of a k (λ known h. rest_asks known (m known h) (l known h))

    pub asks_placed : Asks P talk → Always K talk
        → ((known : Size (Option Float)) → K known → P (MeasureBoth (record { node = candidate.node; known = (stretched style box known).known; space = box.space })))
        → ((known : Size (Option Float)) → K known → (s : Size Float) → P (LayOut (record { node = candidate.node; size = final_size box (stretched style box known) s; space = box.space })))
        → Asks P (placed container style candidate)
    asks_placed a k m l = asks_unless_there a k (λ known h n. m known h) l

-- ---- a side that is told

asks_with_width : (node : ℕ) (style : Style) (box : ResolvedBox) (x : Float) → box.size.width ≡ Some x → (tall : Option SizingKeywordResolution)
    → Asks (WidthTold x) (keyword_sizes node style box (record { width = option.None; height = tall }))
unfolding keyword_sizes by_keywords in_turn width_as height_as ◌>>=◌
asks_with_width node style _ x e option.None = ends
asks_with_width node style _ x e (option.Some (Exact y)) = ends
asks_with_width node style _ x e (option.Some (Measure space)) = asks e (λ r. ends)

asks_with_height : (node : ℕ) (style : Style) (box : ResolvedBox) (x : Float) → box.size.height ≡ Some x → (wide : Option SizingKeywordResolution)
    → Asks (HeightTold x) (keyword_sizes node style box (record { width = wide; height = option.None }))
unfolding keyword_sizes by_keywords in_turn width_as height_as ◌>>=◌
asks_with_height node style _ x e option.None = ends
asks_with_height node style _ x e (option.Some (Exact y)) = ends
asks_with_height node style _ x e (option.Some (Measure space)) = asks e (λ r. ends)

pub given_size_is_told : GivenSizeIsTold
unfolding size_keywords keywords_of
given_size_is_told container style candidate x =
    let box = resolved_box container style candidate in (
      λ e. (let c = given_width_settled container style candidate x e in
          asks_placed (WidthTold x) container style candidate (λ (k : Size (Option Float)). k.width ≡ Some x)
          (rw (no_keyword box.size.width _ x e) (asks_with_width candidate.node style box x e _)) (width_known container style candidate x e)
          (λ known k. told_width style box known x c k) (λ known k s. stretched_width style box known x c k s)),
      λ e. (let c = given_height_settled container style candidate x e in
          asks_placed (HeightTold x) container style candidate (λ (k : Size (Option Float)). k.height ≡ Some x)
          (rw (no_keyword box.size.height _ x e) (asks_with_height candidate.node style box x e _)) (height_known container style candidate x e)
          (λ known k. told_height style box known x c k) (λ known k s. stretched_height style box known x c k s)),
    )

nothing_asked : {A : Type 0} (P : Question → Type 0) (m : Talk A) (a : A) → m ≡ done a → Asks P m
nothing_asked P m a e = rw e ends

-- without a size keyword, by the size that step 2 left
plain_asks : (P : Question → Type 0) (container : ContainingBlock) (style : Style) (candidate : OofCandidate) → Plain style
    → let box = resolved_box container style candidate in let at = stretched style box box.size in
    P (MeasureBoth (record { node = candidate.node; known = at.known; space = box.space }))
    → ((s : Size Float) → P (LayOut (record { node = candidate.node; size = final_size box at s; space = box.space }))) → Asks P (placed container style candidate)
plain_asks P container style candidate k m l =
    let box = resolved_box container style candidate in
    let e = plain_keywords candidate.node style box k in
    asks_placed P container style candidate (λ (known : Size (Option Float)). known ≡ box.size) (nothing_asked P _ box.size e) (known_is _ box.size e) (λ known f. rw f m) (λ known f s. rw f (l s))

pub stretched_size_is_told : StretchedSizeIsTold
unfolding final_size clamped_floats filled_size
stretched_size_is_told container style candidate q t =
    let box = resolved_box container style candidate in
    let w = clamped (stretch_fit box.horizontal) box.min.width box.max.width in
    let h = clamped (stretch_fit box.vertical) box.min.height box.max.height in (
      λ a s. (let f = ap (λ (x : Float). clamped x box.min.width box.max.width) (fit_across container style candidate) in
          asks_placed (λ q. WidthTold w q ⊎ HeightByKeyword style q) container style candidate (λ (k : Size (Option Float)). k.width ≡ None)
          (asks_height_first container style candidate q (λ q. WidthTold w q ⊎ HeightByKeyword style q) a (λ m k n. inr (k, n))) (leaves_width container style candidate q a)
          (λ known e. inl ((auto_width style box known true q t e s).0 ∙ ap Some f))
          (λ known e y. (let g = auto_width style box known true q t e s in
          inl (stretch_side (stretched style box known).known.width box.min.width _ box.max.width box.fit.width y.width g.0 (ap (λ (m : Size (Option Float)). m.width) g.1) ∙ f)))),
      λ a s. (let f = ap (λ (x : Float). clamped x box.min.height box.max.height) (fit_down container style candidate) in
          asks_placed (λ q. HeightTold h q ⊎ WidthByKeyword style q) container style candidate (λ (k : Size (Option Float)). k.height ≡ None)
          (asks_width_first container style candidate q (λ q. HeightTold h q ⊎ WidthByKeyword style q) a (λ m k n. inr (k, n))) (leaves_height container style candidate q a)
          (λ known e. inl ((auto_height style box known true q t e s).0 ∙ ap Some f))
          (λ known e y. (let g = auto_height style box known true q t e s in
          inl (stretch_side (stretched style box known).known.height box.min.height _ box.max.height box.fit.height y.height g.0 (ap (λ (m : Size (Option Float)). m.height) g.1) ∙ f)))),
    )

-- ---- the space

side_of : (t : Bool) (fit other : Size Float) → ((cond t (smaller_size fit other) fit).width ≡ cond t (smaller fit.width other.width) fit.width) × ((cond t (smaller_size fit other) fit).height ≡ cond t (smaller fit.height other.height) fit.height)
unfolding smaller_size
side_of true fit other = (refl, refl)
side_of false fit other = (refl, refl)

pub space_is : (container : ContainingBlock) (style : Style) (candidate : OofCandidate) → let box = resolved_box container style candidate in box.space ≡ space_of style box
unfolding resolved_box horizontal vertical space_for less_margins of_width resolved_rect rect_or_zero sum_x sum_y definite_spaces clamped_spaces clamped_space
space_is container style candidate =
    let box = resolved_box container style candidate in
    let s = side_of style.table box.fit (less_margins container.area.size (rect_or_zero (of_width field.InsetOrMargin style.margin container.area.size))) in
    ap₂ (λ (w h : Float). Definite (clamped w box.min.width box.max.width) and Definite (clamped h box.min.height box.max.height)) s.0 s.1

laid_out_alone : {A : Type 0} (space : Size AvailableSpace) (m : Talk A) → Asks (λ q. is_measure q ≡ true) m → Asks (LaidOutIn space) m
laid_out_alone space _ ends = ends
laid_out_alone space _ (asks {q = MeasureBoth m} {next = next} p h) = asks {q = MeasureBoth m} {next = next} tt (λ r. laid_out_alone space (next r) (h r))
laid_out_alone space _ (asks {q = MeasureWidth m} {next = next} p h) = asks {q = MeasureWidth m} {next = next} tt (λ r. laid_out_alone space (next r) (h r))
laid_out_alone space _ (asks {q = MeasureHeight m} {next = next} p h) = asks {q = MeasureHeight m} {next = next} tt (λ r. laid_out_alone space (next r) (h r))
laid_out_alone space _ (asks {q = LayOut l} p h) = absurd (false≢true p)

keywords_measure : (node : ℕ) (style : Style) (box : ResolvedBox) (wide tall : Option SizingKeywordResolution) → Asks (λ q. is_measure q ≡ true) (keyword_sizes node style box (record { width = wide; height = tall }))
unfolding keyword_sizes by_keywords in_turn width_as height_as ◌>>=◌
keywords_measure node style _ (option.Some (Measure s)) (option.Some (Measure s')) = asks refl (λ r. ends)
keywords_measure node style _ (option.Some (Measure s)) _ = asks refl (λ r. ends)
keywords_measure node style _ _ (option.Some (Measure s)) = asks refl (λ r. ends)
keywords_measure node style _ _ _ = ends

pub space_is_the_block : SpaceIsTheBlock
unfolding size_keywords keywords_of
space_is_the_block container style candidate =
    let box = resolved_box container style candidate in
    let e = space_is container style candidate in (
      asks_placed (LaidOutIn (space_of style box)) container style candidate (λ (k : Size (Option Float)). Unit {0})
          (laid_out_alone (space_of style box) _ (keywords_measure candidate.node style box _ _)) (always_any _) (λ known u. tt) (λ known u s. e),
      λ k. plain_asks (AskedIn (space_of style box)) container style candidate k e (λ s. e),
    )

-- ---- the last question

lays_out_bind : {A : Type 0} (P : LayoutInput → Laid → Placed → Type 0) (m : Talk A) (next : A → Talk Placed) → ((a : A) → LaysOut P (next a)) → LaysOut P (m >>= next)
unfolding ◌>>=◌
lays_out_bind P (done a) next f = f a
lays_out_bind P (ask q reply) next f = before (λ r. lays_out_bind P (reply r) next f)

pub layout_is_the_reply : LayoutIsTheReply
unfolding placed box_layout layout_of ◌>>=◌
layout_is_the_reply container style candidate =
    let box = resolved_box container style candidate in
    lays_out_bind _ (keyword_sizes candidate.node style box (size_keywords style box)) _
    (λ known. lays_out_bind _ (measured candidate.node box (stretched style box known)) _ (λ size. last (λ laid. (refl, refl, refl))))
