-- What a call leaves in three lent words: the verdict, or, where it is refused, what stood there. So they are a verdict only where the result
-- is 0. Assumes nothing.
use Rattle.std.specs.Prelude.{ℕ, List, [], ◌∷◌, Some, None, Ok, Err, Option, Result}
use Rattle.refusal.specs.declared.Refusal.{Refusal}
use Rattle.reach.specs.declared.Offsets.{Offsets}
use Rattle.refusal.specs.Refusal.{number_of}

-- 0 or the number of the refusal, and the three words
pub record ReachReturned : Type 0 where
  pub result : ℕ
  pub verdict : List ℕ

-- 1 seen, then the offsets across and down; 0 unseen, then zeros
unfoldable pub verdict_told : Result (Option Offsets) Refusal → List ℕ → ReachReturned
verdict_told (Ok (Some o)) before = record { result = 0; verdict = 1 ∷ o.across ∷ o.down ∷ [] }
verdict_told (Ok None) before = record { result = 0; verdict = 0 ∷ 0 ∷ 0 ∷ [] }
verdict_told (Err refusal) before = record { result = number_of refusal; verdict = before }
