-- Whether a number of a list isn't accepted. Assumes nothing.
use Rattle.std.specs.Prelude.{Float}
use mathlib.Core.Bool.{Bool, true, false, not, ◌&&◌}
use mathlib.Core.List.{[], ◌∷◌}
use mathlib.Core.Logic.{◌↔◌, ◌⊎◌}
use mathlib.Core.Path.{◌≡◌, refl}
use Rattle.std.proofs.lemmas.List.Folds.{list_all-append}
use Rattle.geometry.specs.declared.Rect.{Rect}
use Rattle.tree.specs.declared.layout.Layout.{Layout}
use Rattle.tree.specs.declared.layout.OofPositioningArea.{OofPositioningArea}
use Rattle.pixels.specs.Pixels.{all_accepted}
use Rattle.pixels.proofs.Numbers.{not_all}
use Rattle.run.proofs.Decides.{Decides, either}
use Rattle.reach.specs.Reach.{numbers_of}
use Rattle.reach.specs.Conditions.{NotInEighthsHere}

-- a test that fails exactly where a proposition holds
refuted : (b : Bool) {P : Type 0} → (b ≡ false) ↔ P → Decides (not b) P
refuted true i = record { holds = λ t. absurd cc; fails = λ f p. let e = i.1 p in absurd cc }
refuted false i = record { holds = λ t. i.0 refl; fails = λ f. absurd cc }

-- not both: the one isn't, or the other isn't
not_both : (a b : Bool) {P Q : Type 0} → Decides (not a) P → Decides (not b) Q → Decides (not (a && b)) (P ⊎ Q)
not_both true b d e = either d e
not_both false b d e = either d e

-- the twelve, one by one
pub numbers_decided : (area : OofPositioningArea) (overflow : Rect Float) (box : Layout)
    → Decides (not (all_accepted (numbers_of area overflow box))) (NotInEighthsHere area overflow box)
unfolding all_accepted
numbers_decided area overflow box =
    let six = not_all box.location.x (box.location.y ∷ box.size.width ∷ box.size.height ∷ area.offset.x ∷ area.offset.y ∷ []) in
    let others = not_all area.size.width (area.size.height ∷ overflow.left ∷ overflow.right ∷ overflow.top ∷ overflow.bottom ∷ []) in
    rw list_all-append (not_both _ _ (refuted _ six) (refuted _ others))
