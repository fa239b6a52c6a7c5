-- Conditions in the cut of the code that tests them. Assumes nothing.
use mathlib.Core.Bool.{Bool, true, false, ◌||◌}
use mathlib.Core.Path.{◌≡◌, refl, sym}
use Rattle.std.specs.Prelude.{Ok, Err}
use Rattle.refusal.specs.declared.Refusal.{Refusal}
use Rattle.refusal.specs.declared.Refusal.TheVariants.{ListFull}
use Rattle.run.specs.Refusals.{Verdict, accepted, ◌when◌else◌}
use Rattle.placer_check.specs.Verdict.{then_room}

-- ---- a test before the others: it refuses, it lets the others decide, or it is the last before that of room

pub refuses : (r : Refusal) {e : Refusal} (b : Bool) (rest : Verdict) → Err e ≡ (r when b else accepted) → (r when b else rest) ≡ Err e
unfolding ◌when◌else◌
refuses r true rest h = sym h
refuses r false rest h = cc

-- two tests with one refusal
pub either : (r : Refusal) (a b : Bool) (rest : Verdict) → (r when (a || b) else rest) ≡ (r when a else (r when b else rest))
unfolding ◌when◌else◌
either r true b rest = refl
either r false b rest = refl

pub passes : (r : Refusal) (b : Bool) (rest : Verdict) → Ok tt ≡ (r when b else accepted) → (r when b else rest) ≡ rest
unfolding ◌when◌else◌
passes r true rest h = cc
passes r false rest h = refl

pub comes_last : (r : Refusal) (b full : Bool) (v : Verdict) → v ≡ (r when b else accepted) → (r when b else (ListFull when full else accepted)) ≡ then_room v full
unfolding ◌when◌else◌
comes_last r true full v h = rw h refl
comes_last r false full v h = rw h refl
