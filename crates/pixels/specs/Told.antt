-- What a call leaves in four lent integers: the pixel edges, or, where it is refused, what stood there. Assumes nothing.
use Rattle.std.specs.Prelude.{ℕ, List, [], ◌∷◌, ℤ, Result, Ok, Err}
use Rattle.refusal.specs.declared.Refusal.{Refusal}
use Rattle.refusal.specs.Refusal.{number_of}
use Rattle.geometry.specs.declared.Rect.{Rect}

-- 0 or the number of the refusal, and the four integers
pub record PixelsReturned : Type 0 where
  pub result : ℕ
  pub edges : List ℤ

abbrev pub edges_in : Rect ℤ → List ℤ
edges_in p = p.left ∷ p.right ∷ p.top ∷ p.bottom ∷ []

unfoldable pub edges_told : Result (Rect ℤ) Refusal → List ℤ → PixelsReturned
edges_told (Ok p) before = record { result = 0; edges = edges_in p }
edges_told (Err refusal) before = record { result = number_of refusal; edges = before }
