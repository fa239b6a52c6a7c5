-- What a call left is an outcome, part by part. Assumes nothing.
use Prim.Native.Nat.{ℕ}
use mathlib.Core.Path.{◌≡◌, refl, ap}
use mathlib.Core.List.{List}
use Rattle.run.specs.declared.Step.{Step}
use Rattle.run.specs.Call.{Outcome, outcome}

pub outcome_is : {r : Step} {l w u t : List ℕ} {o : Outcome} → r ≡ o.step → l ≡ o.layouts → w ≡ o.working → u ≡ o.unclaimed → t ≡ o.tally
    → outcome r l w u t ≡ o
outcome_is step layouts working unclaimed tally = rw (step, layouts, working, unclaimed, tally) refl

pub left_step : {r : Step} {l w u t : List ℕ} {o : Outcome} → outcome r l w u t ≡ o → r ≡ o.step
left_step e = ap (λ (x : Outcome). x.step) e

pub left_layouts : {r : Step} {l w u t : List ℕ} {o : Outcome} → outcome r l w u t ≡ o → l ≡ o.layouts
left_layouts e = ap (λ (x : Outcome). x.layouts) e

pub left_working : {r : Step} {l w u t : List ℕ} {o : Outcome} → outcome r l w u t ≡ o → w ≡ o.working
left_working e = ap (λ (x : Outcome). x.working) e

pub left_unclaimed : {r : Step} {l w u t : List ℕ} {o : Outcome} → outcome r l w u t ≡ o → u ≡ o.unclaimed
left_unclaimed e = ap (λ (x : Outcome). x.unclaimed) e

pub left_tally : {r : Step} {l w u t : List ℕ} {o : Outcome} → outcome r l w u t ≡ o → t ≡ o.tally
left_tally e = ap (λ (x : Outcome). x.tally) e
