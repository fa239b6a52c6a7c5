-- A column, cell by cell from the right. Assumes nothing.
use Prim.Native.Nat.{ℕ, zero, suc, ◌+◌, ◌-◌, ◌<◌, ◌≤◌}
use native.Mathlib.Omega.{arith}
use mathlib.Core.Path.{◌≡◌, refl, ap, ◌∙◌}
use mathlib.Core.List.{List, [], ◌∷◌}
use lib.ListN.{length, set, length-append}
use lib.Seq.{sets}
use Rattle.boxlist_lines.specs.declared.Ink.{Ink}
use Rattle.boxlist_lines.specs.Column.{cell_of, left_of, cells}
use Rattle.boxlist_lines.proofs.Stores.{sets_last}

pub cells_length : (w : ℕ) (ink : Ink) → length (cells w ink) ≡ w
unfolding cells
cells_length zero ink = refl
cells_length (suc w) ink = length-append (cells w (left_of ink)) (cell_of ink ∷ []) ∙ rw (cells_length w (left_of ink)) (omega arith)

last_cell : (l : List ℕ) (at w : ℕ) (ink : Ink) → sets l at (cells (suc w) ink) ≡ sets (set l (at + w) (cell_of ink)) at (cells w (left_of ink))
unfolding cells
last_cell l at w ink = sets_last (cells w (left_of ink)) l at (cell_of ink) ∙ rw (cells_length w (left_of ink)) refl

pub cell_first : (l : List ℕ) (at i : ℕ) (ink : Ink) → 0 < i → sets l at (cells i ink) ≡ sets (set l (at + (i - 1)) (cell_of ink)) at (cells (i - 1) (left_of ink))
cell_first l at i ink h = ap (λ (k : ℕ). sets l at (cells k ink)) (down i h) ∙ last_cell l at (i - 1) ink
  where
    down : (i : ℕ) → 0 < i → i ≡ suc (i - 1)
    down i h = omega arith

pub no_cells : (l : List ℕ) (at i : ℕ) (ink : Ink) → i ≤ 0 → sets l at (cells i ink) ≡ l
unfolding cells
no_cells l at i ink h = rw (none i h) refl
  where
    none : (i : ℕ) → i ≤ 0 → i ≡ 0
    none i h = omega arith
