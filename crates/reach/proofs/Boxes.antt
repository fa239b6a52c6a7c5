-- What is told of a box. Assumes nothing.
use Prim.Native.Nat.{ℕ, ◌≤◌, ◌<◌}
use native.Mathlib.Omega.{arith}
use Rattle.std.proofs.lemmas.Int.{ints}
use mathlib.Core.Bool.{Bool, true, false, cond, not}
use mathlib.Core.Logic.{◌↔◌, ◌⊎◌, inl, inr}
use mathlib.Core.Path.{◌≡◌, refl, sym, ap, ◌∙◌}
use Rattle.std.specs.Prelude.{Option, Some, None, Ok, Err, Result, Float}
use Rattle.std.proofs.lemmas.Bool.{false_from_ne_true}
use Rattle.util.proofs.Floats.{no}
use Rattle.geometry.specs.declared.Rect.{Rect}
use Rattle.refusal.specs.declared.Refusal.{Refusal}
use Rattle.refusal.specs.declared.Refusal.TheVariants.{NotInEighths}
use Rattle.tree.specs.declared.layout.Layout.{Layout}
use Rattle.oof_resolve.specs.declared.ContainingBlock.{ContainingBlock}
use Rattle.pixels.specs.Pixels.{all_accepted}
use Rattle.pixels.proofs.Numbers.{eighths_small}
use Rattle.reach.specs.declared.Along.{Along}
use Rattle.reach.specs.declared.Offsets.{Offsets}
use Rattle.reach.specs.Reach.{Axis, shares, least, axis_of, across, down, numbers_of, pair_of, box_reached}
use Rattle.reach.specs.Conditions.{NotInEighthsHere}
use Rattle.reach.specs.Laws.{IsLeast, SharesPatch, AllInEighths, BoxRefusedExactly, OffsetsAreSmall}
use Rattle.reach.proofs.Shares.{overlaps, least_found, least_is}
use Rattle.reach.proofs.Least.{last_offset_is}
use Rattle.reach.proofs.Numbers.{numbers_decided}

-- ---- what an answer is made of

abbrev told : Bool → Option ℕ → Option ℕ → Result (Option Offsets) Refusal
told b p q = cond b (Ok (pair_of p q)) (Err NotInEighths)

seen_from : (x y : ℕ) (b : Bool) (p q : Option ℕ) → told b p q ≡ Ok (Some (record { across = x; down = y })) → (b ≡ true) × (p ≡ Some x) × (q ≡ Some y)
seen_from x y false p q e = absurd cc
seen_from x y true None q e = absurd cc
seen_from x y true (Some m) None e = absurd cc
seen_from x y true (Some m) (Some n) e =
    let s : record { across = m; down = n } ≡ record { across = x; down = y } = cc in
    (refl, ap (λ (o : Offsets). Some o.across) s, ap (λ (o : Offsets). Some o.down) s)

unseen_from : (b : Bool) (p q : Option ℕ) → told b p q ≡ Ok None → (b ≡ true) × ((p ≡ None) ⊎ (q ≡ None))
unseen_from false p q e = absurd cc
unseen_from true None q e = (refl, inl refl)
unseen_from true (Some m) None e = (refl, inr refl)
unseen_from true (Some m) (Some n) e = absurd cc

refused_from : (r : Refusal) (b : Bool) (p q : Option ℕ) → told b p q ≡ Err r → (r ≡ NotInEighths) × (b ≡ false)
refused_from r false p q e = (cc, refl)
refused_from r true p q e = absurd cc

-- no lesser offset shares
at_least : (a : Axis) (o i : ℕ) → IsLeast a (Some o) → shares a i ≡ true → o ≤ i
at_least a o i f e = let n : ¬ (i < o) = λ h. no e (f.2 i h) in omega arith

module _ (c : ContainingBlock) (overflow : Rect Float) (box : Layout) where
  abbrev all : Bool
  all = all_accepted (numbers_of c.area overflow box)

  abbrev x_axis : Axis
  x_axis = across c overflow box

  abbrev y_axis : Axis
  y_axis = down c overflow box

  in_eighths_lem : all ≡ true → AllInEighths c overflow box
  in_eighths_lem e = (numbers_decided c.area overflow box).fails (ap not e)

  accepted_all : AllInEighths c overflow box → all ≡ true
  accepted_all n = go all refl
    where
      go : (b : Bool) → all ≡ b → b ≡ true
      go true e = refl
      go false e = absurd (n ((numbers_decided c.area overflow box).holds (ap not e)))

  box_told : box_reached c overflow box ≡ told all (least x_axis) (least y_axis)
  unfolding box_reached
  box_told = refl

  module _ (x y : ℕ) where
    pub seen_least : box_reached c overflow box ≡ Ok (Some (record { across = x; down = y })) → (all ≡ true) × IsLeast x_axis (Some x) × IsLeast y_axis (Some y)
    seen_least e =
        let s = seen_from x y all (least x_axis) (least y_axis) (sym box_told ∙ e) in
        (s.0, (least_is x_axis (Some x)).0 s.1, (least_is y_axis (Some y)).0 s.2)

    patch : IsLeast x_axis (Some x) → IsLeast y_axis (Some y) → SharesPatch c overflow box x y
    patch f g = record { offset_across = f.0; offset_down = g.0; width = f.1; height = g.1 }

    least_across : SharesPatch c overflow box x y → ((i j : ℕ) → SharesPatch c overflow box i j → (x ≤ i) × (y ≤ j)) → IsLeast x_axis (Some x)
    least_across s f =
        (s.offset_across, s.width, λ i h. false_from_ne_true (shares x_axis i) (λ e. let k = (f i y (record { offset_across = let l = s.offset_across in omega arith; offset_down = s.offset_down; width = e; height = s.height })).0 in absurd (omega arith)))

    least_down : SharesPatch c overflow box x y → ((i j : ℕ) → SharesPatch c overflow box i j → (x ≤ i) × (y ≤ j)) → IsLeast y_axis (Some y)
    least_down s f =
        (s.offset_down, s.height, λ j h. false_from_ne_true (shares y_axis j) (λ e. let k = (f x j (record { offset_across = s.offset_across; offset_down = let l = s.offset_down in omega arith; width = s.width; height = e })).1 in absurd (omega arith)))

    both_least : all ≡ true → IsLeast x_axis (Some x) → IsLeast y_axis (Some y) → box_reached c overflow box ≡ Ok (Some (record { across = x; down = y }))
    both_least e f g = box_told ∙ rw (e, (least_is x_axis (Some x)).1 f, (least_is y_axis (Some y)).1 g) refl

  -- on an axis with no offset that does, no pair does
  no_pair : (least x_axis ≡ None) ⊎ (least y_axis ≡ None) → (i j : ℕ) → ¬ SharesPatch c overflow box i j
  no_pair (inl e) i j s = no s.width ((least_is x_axis None).0 e i s.offset_across)
  no_pair (inr e) i j s = no s.height ((least_is y_axis None).0 e j s.offset_down)

  none_told : ((i j : ℕ) → ¬ SharesPatch c overflow box i j) → (p q : Option ℕ) → IsLeast x_axis p → IsLeast y_axis q → told true p q ≡ Ok None
  none_told n None q f g = refl
  none_told n (Some x) None f g = refl
  none_told n (Some x) (Some y) f g = absurd (n x y (patch x y f g))

pub seen_shares : (c : ContainingBlock) (overflow : Rect Float) (box : Layout) (x y : ℕ)
    → (box_reached c overflow box ≡ Ok (Some (record { across = x; down = y })))
    ↔ (AllInEighths c overflow box × SharesPatch c overflow box x y × ((i j : ℕ) → SharesPatch c overflow box i j → (x ≤ i) × (y ≤ j)))
seen_shares c overflow box x y = (there, λ h. both_least c overflow box x y (accepted_all c overflow box h.0) (least_across c overflow box x y h.1 h.2) (least_down c overflow box x y h.1 h.2))
  where
    there : box_reached c overflow box ≡ Ok (Some (record { across = x; down = y }))
        → AllInEighths c overflow box × SharesPatch c overflow box x y × ((i j : ℕ) → SharesPatch c overflow box i j → (x ≤ i) × (y ≤ j))
    there e =
        let s = seen_least c overflow box x y e in (
          in_eighths_lem c overflow box s.0,
          patch c overflow box x y s.1 s.2,
          λ i j p. (at_least (across c overflow box) x i s.1 p.width, at_least (down c overflow box) y j s.2 p.height),
        )

pub unseen_shares : (c : ContainingBlock) (overflow : Rect Float) (box : Layout)
    → (box_reached c overflow box ≡ Ok None) ↔ (AllInEighths c overflow box × ((i j : ℕ) → ¬ SharesPatch c overflow box i j))
unseen_shares c overflow box = (there, back)
  where
    there : box_reached c overflow box ≡ Ok None → AllInEighths c overflow box × ((i j : ℕ) → ¬ SharesPatch c overflow box i j)
    there e =
        let s = unseen_from (all_accepted (numbers_of c.area overflow box)) (least (across c overflow box)) (least (down c overflow box)) (sym (box_told c overflow box) ∙ e) in
        (in_eighths_lem c overflow box s.0, no_pair c overflow box s.1)

    back : AllInEighths c overflow box × ((i j : ℕ) → ¬ SharesPatch c overflow box i j) → box_reached c overflow box ≡ Ok None
    back h =
        box_told c overflow box
        ∙ rw (accepted_all c overflow box h.0) (none_told c overflow box h.1 (least (across c overflow box)) (least (down c overflow box)) (least_found (across c overflow box)) (least_found (down c overflow box)))

pub box_refused_exactly : BoxRefusedExactly
box_refused_exactly c rectangle box r = (there, back)
  where
    there : box_reached c rectangle box ≡ Err r → (r ≡ NotInEighths) × NotInEighthsHere c.area rectangle box
    there e =
        let s = refused_from r (all c rectangle box) (least (across c rectangle box)) (least (down c rectangle box)) (sym (box_told c rectangle box) ∙ e) in
        (s.0, (numbers_decided c.area rectangle box).holds (ap not s.1))

    back : (r ≡ NotInEighths) × NotInEighthsHere c.area rectangle box → box_reached c rectangle box ≡ Err r
    back h =
        box_told c rectangle box
        ∙ rw (false_from_ne_true (all c rectangle box) (λ e. in_eighths_lem c rectangle box e h.1)) (ap Err (sym h.0))

-- ---- how far an offset can be

-- a far edge of at most 9,999,999 eighths, less an area of one or more
near : (a : Along) (o : ℕ) → o ≤ (axis_of a).last → shares (axis_of a) o ≡ true → o ≤ 9999998
unfolding axis_of
near a o h e =
    let far = eighths_small a.far in
    let v = overlaps (axis_of a) o e in
    elim ((last_offset_is a.overflow a.far a.area o).0 h) [ inl z ↦ omega arith | inr k ↦ omega (arith, ints, k.1, v.area) ]

pub offsets_are_small : OffsetsAreSmall
offsets_are_small c overflow box x y e =
    let s = seen_least c overflow box x y e in
    (near _ x s.1.0 s.1.1, near _ y s.2.0 s.2.1)
