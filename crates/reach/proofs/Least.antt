-- The offsets of an axis, and when there is none that does. Assumes nothing.
use Rattle.std.proofs.Common.{ℕ, ◌≤◌, ◌<◌, ◌≡◌, Bool, true, false, refl, sym, ap, ◌∙◌, arith, ℤ, pos, negsuc, ◌+ℤ◌, ◌-ℤ◌, ◌≤ℤ◌, ◌<ℤ◌}
use Rattle.std.proofs.lemmas.Bool.Decides.{leb_tells}
use Rattle.std.proofs.lemmas.Int.{ints}
use Rattle.std.specs.Prelude.{Some, None}
use mathlib.Core.Logic.Iff
use mathlib.Core.Logic.{◌↔◌, ◌⊎◌, inl, inr}
use lib.Signed.{le_z}
use Rattle.style.specs.declared.Overflow.TheVariants.{Visible, Clip, Hidden, Scroll}
use Rattle.pixels.specs.Accepted.{in_eighths}
use Rattle.reach.specs.Reach.{Axis, least, or_zero, last_offset}
use Rattle.reach.specs.Laws.{NoSize, EndsBefore, first_past, LeastWorkedOut, NowhereWorkedOut, LastOffsetIs, StillAxis, HeldAxis}
use Rattle.reach.proofs.Shares.{Ahead, none_seen, too_far, at_first}

-- ---- the last offset

-- at most an integer, or 0
up_to : (o : ℕ) (z : ℤ) → (o ≤ or_zero z) ↔ ((o ≡ 0) ⊎ (pos o ≤ℤ z))
up_to o (pos n) = (λ h. inr (grind (arith, ints)), elim [ inl e ↦ omega arith | inr h ↦ grind (arith, ints) ])
up_to o (negsuc n) = (λ h. inl (omega arith), elim [ inl e ↦ omega arith | inr h ↦ grind (arith, ints) ])

pub last_offset_is : LastOffsetIs
unfolding last_offset
last_offset_is Visible far size o = (λ h. inl (omega arith), elim [ inl e ↦ omega arith | inr k ↦ absurd (elim k.0 [ inl e ↦ cc | inr e ↦ cc ]) ])
last_offset_is Clip far size o = (λ h. inl (omega arith), elim [ inl e ↦ omega arith | inr k ↦ absurd (elim k.0 [ inl e ↦ cc | inr e ↦ cc ]) ])
last_offset_is Hidden far size o = Iff.trans (up_to o (in_eighths far -ℤ in_eighths size)) (elim [ inl e ↦ inl e | inr h ↦ inr (inl refl, h) ], elim [ inl e ↦ inl e | inr k ↦ inr k.1 ])
last_offset_is Scroll far size o = Iff.trans (up_to o (in_eighths far -ℤ in_eighths size)) (elim [ inl e ↦ inl e | inr h ↦ inr (inr refl, h) ], elim [ inl e ↦ inl e | inr k ↦ inr k.1 ])

-- ---- the least offset, worked out

ahead_or_not : (a : Axis) → Ahead a ⊎ NoSize a ⊎ EndsBefore a
ahead_or_not a = go (le_z a.size (pos 0)) (le_z a.area (pos 0)) (le_z (a.start +ℤ a.size) (pos 0)) refl refl refl
  where
    go : (b c d : Bool) → le_z a.size (pos 0) ≡ b → le_z a.area (pos 0) ≡ c → le_z (a.start +ℤ a.size) (pos 0) ≡ d
        → Ahead a ⊎ NoSize a ⊎ EndsBefore a
    go true c d e f g = inr (inl (inl (grind (arith, ints))))
    go false true d e f g = inr (inl (inr (grind (arith, ints))))
    go false false true e f g = inr (inr (grind (arith, ints)))
    go false false false e f g = inl (grind (arith, ints), grind (arith, ints), grind (arith, ints))

-- the offset is there, or too far
reach_or_not : (a : Axis) → (first_past a ≤ a.last) ⊎ (a.last < first_past a)
reach_or_not a = elim (leb_tells (first_past a) a.last) [ inl h ↦ inl h.1 | inr h ↦ inr h.1 ]

-- not where it could be seen and the offset is there
not_nowhere : (a : Axis) → Ahead a → first_past a ≤ a.last → ¬ (least a ≡ None)
not_nowhere a h k e = let s = at_first a h k in cc

pub nowhere_worked_out : NowhereWorkedOut
nowhere_worked_out a = (λ n. there n (ahead_or_not a) (reach_or_not a), elim [ inl h ↦ none_seen a (inl h) | inr (inl h) ↦ none_seen a (inr h) | inr (inr h) ↦ too_far a h ])
  where
    there : least a ≡ None → Ahead a ⊎ NoSize a ⊎ EndsBefore a → (first_past a ≤ a.last) ⊎ (a.last < first_past a)
        → NoSize a ⊎ EndsBefore a ⊎ (a.last < first_past a)
    there n (inr (inl h)) k = inl h
    there n (inr (inr h)) k = inr (inl h)
    there n (inl h) (inr k) = inr (inr k)
    there n (inl h) (inl k) = absurd (not_nowhere a h k n)

pub least_worked_out : LeastWorkedOut
least_worked_out a o = (λ e. there e (ahead_or_not a) (reach_or_not a), λ h. at_first a (h.0, h.1, h.2) (omega arith) ∙ ap Some (sym h.3))
  where
    there : least a ≡ Some o → Ahead a ⊎ NoSize a ⊎ EndsBefore a → (first_past a ≤ a.last) ⊎ (a.last < first_past a)
        → (pos 0 <ℤ a.size) × (pos 0 <ℤ a.area) × (pos 0 <ℤ (a.start +ℤ a.size)) × (o ≡ first_past a) × (o ≤ a.last)
    there e (inr h) k = let n = none_seen a h in absurd cc
    there e (inl h) (inr k) = let n = too_far a k in absurd cc
    there e (inl h) (inl k) =
        let f = at_first a h k in
        let s : o ≡ first_past a = cc in
        (h.0, h.1, h.2, s, omega arith)

-- ---- an axis on which nothing is seen

pub still_axis : StillAxis
still_axis a e =
    Iff.trans (nowhere_worked_out a)
    (elim [ inl h ↦ inl h | inr (inl h) ↦ inr (inl h) | inr (inr h) ↦ inr (inr (grind (arith, ints))) ], elim [ inl h ↦ inl h | inr (inl h) ↦ inr (inl h) | inr (inr h) ↦ inr (inr (grind (arith, ints))) ])

pub held_axis : HeldAxis
held_axis a far end these = (λ n. there n (ahead_or_not a), none_seen a)
  where
    there : least a ≡ None → Ahead a ⊎ NoSize a ⊎ EndsBefore a → NoSize a ⊎ EndsBefore a
    there n (inr h) = h
    there n (inl h) = absurd (not_nowhere a h ((these (first_past a)).1 (first_there (a.start -ℤ a.area +ℤ pos 1) (grind (arith, ints)))) n)
      where
        first_there : (z : ℤ) → z ≤ℤ (far -ℤ a.area) → (or_zero z ≡ 0) ⊎ (pos (or_zero z) ≤ℤ (far -ℤ a.area))
        first_there (pos n) l = inr l
        first_there (negsuc n) l = inl refl
