-- A test decides a proposition; tests one after another, each under its condition, decide which is the first that holds. Assumes nothing.
use Prim.Native.Nat.{ℕ, zero, suc, ◌<◌, ◌≤◌}
use native.Mathlib.Omega.{arith}
use mathlib.Core.Logic.{◌⊎◌, inl, inr, ◌↔◌}
use mathlib.Core.Path.{◌≡◌, refl, sym, ap, ◌∙◌, subst}
use mathlib.Core.Bool.{Bool, true, false, cond, not, ◌||◌, ◌&&◌}
use mathlib.Core.List.{List, [], ◌∷◌, ◌++◌}
use lib.Dec.{ltb, leb, eqb}
use borrow.Author.Tests.{ltb-true, ltb-false, leb-true, leb-false, eqb-true, eqb-false}
use Rattle.std.specs.Prelude.{Ok, Err}
use Rattle.util.proofs.Floats.{no}
use Rattle.records.specs.Records.{every}
use Rattle.refusal.specs.declared.Refusal.{Refusal}
use Rattle.refusal.specs.declared.Refusal.TheVariants.{WrongReply}
use Rattle.refusal.specs.Refusal.{number_of}
use Rattle.refusal.proofs.Laws.{numbers_differ}
use Rattle.run.specs.Refusals.{Verdict, accepted, refused, ◌when◌else◌}
use Rattle.run.specs.Conditions.{FirstIs, NoneHolds}

-- ---- a test and its proposition

pub record Decides (b : Bool) (P : Type 0) : Type 0 where
  pub holds : b ≡ true → P
  pub fails : b ≡ false → ¬ P

pub by_iff : {b : Bool} {P Q : Type 0} → Decides b P → P ↔ Q → Decides b Q
by_iff d e = record { holds = λ t. e.0 (d.holds t); fails = λ f q. d.fails f (e.1 q) }

pub either : {a b : Bool} {P Q : Type 0} → Decides a P → Decides b Q → Decides (a || b) (P ⊎ Q)
either {a = true} d e = record { holds = λ t. inl (d.holds refl); fails = λ f. no {b = true} refl f }
either {a = false} {b} {P} {Q} d e = record { holds = λ t. inr (e.holds t); fails = neither }
  where
    neither : b ≡ false → ¬ (P ⊎ Q)
    neither f (inl p) = d.fails refl p
    neither f (inr q) = e.fails f q

-- `||` brackets to the left, `⊎` to the right
pub regroup : {b : Bool} {P Q R : Type 0} → Decides b ((P ⊎ Q) ⊎ R) → Decides b (P ⊎ Q ⊎ R)
regroup {b} {P} {Q} {R} d = by_iff d (right, left)
  where
    right : (P ⊎ Q) ⊎ R → P ⊎ Q ⊎ R
    right (inl (inl p)) = inl p
    right (inl (inr q)) = inr (inl q)
    right (inr r) = inr (inr r)

    left : P ⊎ Q ⊎ R → (P ⊎ Q) ⊎ R
    left (inl p) = inl (inl p)
    left (inr (inl q)) = inl (inr q)
    left (inr (inr r)) = inr r

pub opposite : {b : Bool} {P : Type 0} → Decides b P → Decides (not b) (¬ P)
opposite {b = true} d = record { holds = λ t. no {b = false} t refl; fails = λ f n. n (d.holds refl) }
opposite {b = false} d = record { holds = λ t. d.fails refl; fails = λ f. no {b = true} refl f }

-- a test that fails exactly where a proposition holds
pub refutes : {b : Bool} {P : Type 0} → (b ≡ false → P) → (P → b ≡ false) → Decides b (¬ P)
refutes f g = record { holds = λ t p. no t (g p); fails = λ e n. n (f e) }

-- guards, one before another
pub guard : {a : Bool} {P Q : Type 0} (x : Bool) → Decides a P → Decides (not x) Q → Decides (not (cond a false x)) (P ⊎ Q)
guard {a = true} x d e = either d e
guard {a = false} x d e = either d e

pub last : {a : Bool} {P : Type 0} → Decides a P → Decides (not (cond a false true)) P
last {a = true} d = d
last {a = false} d = d

-- what passes only where both do
pub both : (x y : Bool) {P Q : Type 0} → Decides (not x) P → Decides (not y) Q → Decides (not (cond x y false)) (P ⊎ Q)
both true y d e = either d e
both false y d e = either d e

pub below : (m n : ℕ) → Decides (ltb m n) (m < n)
below m n = record { holds = ltb-true m n; fails = λ f h. let k = ltb-false m n f in absurd (omega arith) }

pub at_most : (m n : ℕ) → Decides (leb m n) (m ≤ n)
at_most m n = record { holds = leb-true m n; fails = λ f h. let k = leb-false m n f in absurd (omega arith) }

pub equal : (m n : ℕ) → Decides (eqb m n) (m ≡ n)
equal m n = record { holds = eqb-true m n; fails = eqb-false m n }

-- some number below n fails a test, or none does
abbrev Some : (ℕ → Type 0) → ℕ → Type 0
Some P n = (i : ℕ) × (i < n) × P i

pub not_every : (n : ℕ) (p : ℕ → Bool) (P : ℕ → Type 0) → ((i : ℕ) → Decides (not (p i)) (P i)) → Decides (not (every n p)) (Some P n)
unfolding every
not_every zero p P d = record { holds = λ t. no {b = false} t refl; fails = λ f s. absurd (let h = s.1 in omega arith) }
not_every (suc n) p P d = go (every n p) (p n) (not_every n p P d) (d n)
  where
    go : (a b : Bool) → Decides (not a) (Some P n) → Decides (not b) (P n) → Decides (not (a && b)) (Some P (suc n))
    go false b e f = record { holds = λ t. let s = e.holds refl in (s.0, let h = s.1 in omega arith, s.2); fails = λ t. no {b = true} refl t }
    go true b e f = record { holds = λ t. (n, omega arith, f.holds t); fails = none }
      where
        none : not b ≡ false → ¬ Some P (suc n)
        none t s = last (equal s.0 n) refl
          where
            last : {c : Bool} → Decides c (s.0 ≡ n) → eqb s.0 n ≡ c → ⊥
            last {c = true} q x = f.fails t (subst P (q.holds refl) s.2)
            last {c = false} q x = e.fails refl (s.0, let h = s.1 in let k = q.fails refl in omega arith, s.2)

-- ---- tests in their order

abbrev pub Tests : Type 1
Tests = List (ℕ × Type 0)

-- what a verdict says of them
abbrev Told : Verdict → Tests → Type 0
Told (Ok tt) tests = NoneHolds tests
Told (Err r) tests = FirstIs tests (number_of r)

pub record Says (v : Verdict) (tests : Tests) : Type 0 where
  told : Told v tests

pub no_more : Says accepted []
no_more = record { told = tt }

-- one test before the others; where it fails the others decide
pub then : {b : Bool} {P : Type 0} (r : Refusal) {rest : Verdict} {tests : Tests} → Decides b P → (b ≡ false → Says rest tests)
    → Says (r when b else rest) ((number_of r, P) ∷ tests)
unfolding ◌when◌else◌
then {b = true} r d later = record { told = inl (d.holds refl, refl) }
then {b = false} {P} r {rest} {tests} d later = record { told = go rest (later refl).told }
  where
    go : (v : Verdict) → Told v tests → Told v ((number_of r, P) ∷ tests)
    go (Ok tt) s = (d.fails refl, s)
    go (Err q) s = inr (d.fails refl, s)

-- a verdict that comes before another: that one has a say where this accepts
abbrev pub before_all : Verdict → Verdict → Verdict
before_all (Ok tt) w = w
before_all (Err r) w = Err r

pub then_all : {own later : Tests} (v w : Verdict) → Says v own → (v ≡ accepted → Says w later) → Says (before_all v w) (own ++ later)
then_all {later = later} (Ok tt) w s n = record { told = all _ w s.told (n refl).told }
  where
    all : (own : Tests) (w : Verdict) → NoneHolds own → Told w later → Told w (own ++ later)
    all [] w a b = b
    all (t ∷ own) (Ok tt) a b = (a.0, all own (Ok tt) a.1 b)
    all (t ∷ own) (Err r) a b = inr (a.0, all own (Err r) a.1 b)
then_all {later = later} (Err r) w s n = record { told = first _ s.told }
  where
    first : (own : Tests) → FirstIs own (number_of r) → FirstIs (own ++ later) (number_of r)
    first [] a = absurd a
    first (t ∷ own) (inl a) = inl a
    first (t ∷ own) (inr a) = inr (a.0, first own a.1)

-- tests that both make, one after another, and one that only the first makes and that fails
pub both_test : {b c : Bool} {w : Verdict} (r : Refusal) (v : Verdict) → b ≡ c → before_all v w ≡ w → before_all (r when b else v) (r when c else w) ≡ r when c else w
unfolding ◌when◌else◌
both_test {b} {c} {w} r v e f = rw e (go c)
  where
    go : (c : Bool) → before_all (cond c (refused r) v) (cond c (refused r) w) ≡ cond c (refused r) w
    go true = refl
    go false = f

pub own_test : {b : Bool} {w : Verdict} (r : Refusal) (v : Verdict) → b ≡ false → before_all v w ≡ w → before_all (r when b else v) w ≡ w
unfolding ◌when◌else◌
own_test r v e f = rw e f

-- a test that fails leaves the others
pub but_first : {v : Verdict} {test : ℕ × Type 0} {tests : Tests} → Says v (test ∷ tests) → (¬ test.1) → Says v tests
but_first {v} {test} {tests} s n = record { told = go v s.told }
  where
    go : (v : Verdict) → Told v (test ∷ tests) → Told v tests
    go (Ok tt) a = a.1
    go (Err r) (inl a) = absurd (n a.0)
    go (Err r) (inr a) = a.1

-- one number at most is the first, and none if none holds
one_first : (tests : Tests) (m n : ℕ) → FirstIs tests m → FirstIs tests n → m ≡ n
one_first [] m n a b = absurd a
one_first (t ∷ tests) m n (inl a) (inl b) = a.1 ∙ sym b.1
one_first (t ∷ tests) m n (inl a) (inr b) = absurd (b.0 a.0)
one_first (t ∷ tests) m n (inr a) (inl b) = absurd (a.0 b.0)
one_first (t ∷ tests) m n (inr a) (inr b) = one_first tests m n a.1 b.1

not_both : (tests : Tests) (m : ℕ) → NoneHolds tests → FirstIs tests m → ⊥
not_both [] m a b = b
not_both (t ∷ tests) m a (inl b) = a.0 b.0
not_both (t ∷ tests) m a (inr b) = not_both tests m a.1 b.1

abbrev pub is_accepted : Verdict → Bool
is_accepted (Ok tt) = true
is_accepted (Err r) = false

abbrev pub refusal_by : Verdict → Refusal
refusal_by (Ok tt) = WrongReply
refusal_by (Err r) = r

pub refused_first : {v : Verdict} {tests : Tests} (r : Refusal) → Says v tests → (v ≡ refused r) ↔ FirstIs tests (number_of r)
refused_first {v} {tests} r s = go v s.told
  where
    go : (v : Verdict) → Told v tests → (v ≡ refused r) ↔ FirstIs tests (number_of r)
    go (Ok tt) s = (λ e. no {b = true} refl (ap is_accepted e), λ f. absurd (not_both tests (number_of r) s f))
    go (Err q) s = (
      λ e. subst (λ (r : Refusal). FirstIs tests (number_of r)) (ap refusal_by e) s,
      λ f. ap refused (numbers_differ q r (one_first tests (number_of q) (number_of r) s f)),
    )

pub accepted_none : {v : Verdict} {tests : Tests} → Says v tests → (v ≡ accepted) ↔ NoneHolds tests
accepted_none {v} {tests} s = go v s.told
  where
    go : (v : Verdict) → Told v tests → (v ≡ accepted) ↔ NoneHolds tests
    go (Ok tt) s = (λ e. s, λ n. refl)
    go (Err q) s = (λ e. no {b = false} (ap is_accepted e) refl, λ n. absurd (not_both tests (number_of q) n s))
