-- Branches and tests: two tests that say the same, two branches on one test. Assumes nothing.
use borrow.Author.Rules.{rules}
use mathlib.Core.Path.{◌≡◌}
use mathlib.Core.Bool.{Bool, true, false, ◌||◌, cond}
use Prim.Native.Nat.{ℕ, ◌≤◌, ◌<◌}
use native.Mathlib.Omega.{arith}
use lib.Dec.{ltb, leb, eqb}
use Rattle.std.proofs.lemmas.Bool.Decides.{nat_tests}

pub ltb_same : (A B C D : ℕ) → (A < B → C < D) → (B ≤ A → D ≤ C) → ltb A B ≡ ltb C D
ltb_same A B C D f g = grind (arith, nat_tests)

-- at most, of both pairs or of neither
pub leb_same : (A B C D : ℕ) → (A ≤ B → C ≤ D) → (B < A → D < C) → leb A B ≡ leb C D
leb_same A B C D f g = grind (arith, nat_tests)

pub eqb_same : (A B C D : ℕ) → (A ≡ B → C ≡ D) → (C ≡ D → A ≡ B) → eqb A B ≡ eqb C D
eqb_same A B C D f g = grind (arith, nat_tests)

-- at most is below or equal
pub leb_split : (A B : ℕ) → ltb A B || eqb A B ≡ leb A B
leb_split A B = grind (arith, nat_tests)

-- two branches on one test: every branch of every proof
pub pick : {A B : Type 0} (R : A → B → Type 0) {t t' : Bool} {x y : A} {x' y' : B} → t ≡ t' → R x x' → R y y' → R (cond t x y) (cond t' x' y')
pick R e h k = search rules

-- the same, where a branch needs the outcome
pub pick_when : {A B : Type 0} (R : A → B → Type 0) (t : Bool) {t' : Bool} {x y : A} {x' y' : B} → t ≡ t' → (t ≡ true → R x x') → (t ≡ false → R y y') → R (cond t x y) (cond t' x' y')
pick_when R t e h k = search rules
