-- The answer of `pixel_edges` by its list of tests, as the demands have it. Assumes nothing.
use mathlib.Core.Logic.{◌↔◌, inl, inr}
use mathlib.Core.Path.{◌≡◌, refl, ap}
use Rattle.std.specs.Prelude.{Result, Ok, Err, IsOk, Float, ℤ}
use Rattle.geometry.specs.declared.Point.{Point}
use Rattle.refusal.specs.Refusal.{number_of}
use Rattle.refusal.specs.declared.Refusal.{Refusal}
use Rattle.refusal.specs.declared.Refusal.TheVariants.{NotInEighths}
use Rattle.refusal.proofs.Laws.{numbers_differ}
use Rattle.tree.specs.declared.layout.Layout.{Layout}
use Rattle.pixels.specs.Conditions.{NotAllInEighths, pixel_tests}
use Rattle.pixels.specs.Pixels.{pixel_edges}
use Rattle.geometry.specs.declared.Rect.{Rect}
use Rattle.pixels.proofs.Edges.{refused_exactly}
use Rattle.run.specs.Conditions.{FirstIs, NoneHolds}

pub refused_first : (layout : Layout) (offset : Point Float) (r : Refusal) → (pixel_edges layout offset ≡ Err r) ↔ FirstIs (pixel_tests layout offset) (number_of r)
refused_first layout offset r =
    let exactly = refused_exactly layout offset r in (
      λ e. inl ((exactly.0 e).1, ap number_of (exactly.0 e).0),
      elim [ inl k ↦ exactly.1 (numbers_differ r NotInEighths k.1, k.0) | inr k ↦ absurd k.1 ],
    )

pub edges_first : (layout : Layout) (offset : Point Float) → IsOk (pixel_edges layout offset) ↔ NoneHolds (pixel_tests layout offset)
edges_first layout offset = go (pixel_edges layout offset) (refused_exactly layout offset)
  where
    go : (p : Result (Rect ℤ) Refusal) → ((r : Refusal) → (p ≡ Err r) ↔ ((r ≡ NotInEighths) × NotAllInEighths layout offset))
        → IsOk p ↔ NoneHolds (pixel_tests layout offset)
    go (Ok edges) f = (λ k. (λ n. let e = (f NotInEighths).1 (refl, n) in absurd cc, tt), λ k. refl)
    go (Err r) f = (λ k. absurd cc, λ k. absurd (k.0 ((f r).0 refl).1))
