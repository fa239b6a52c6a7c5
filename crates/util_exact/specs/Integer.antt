-- Integers as formal differences of naturals: p less n. Assumes nothing.
use Rattle.std.specs.Prelude.{◌≡◌, ℕ, ◌+◌}

pub record N : Type 0 where
  pub p : ℕ
  pub n : ℕ

abbrev pub zero_n : N
zero_n = record { p = 0; n = 0 }

abbrev pub add_n : N → N → N
add_n a b = record { p = a.p + b.p; n = a.n + b.n }

-- the same integer
abbrev pub EqN : N → N → Type 0
EqN a b = a.p + b.n ≡ b.p + a.n
