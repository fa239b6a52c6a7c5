-- What a call is lent, and what it leaves (document 01, "The dialogue"). Assumes nothing.
use Rattle.std.specs.Prelude.{ℕ, List}
use Rattle.run.specs.declared.Step.{Step}

-- four slices, by their words. A part that reads a finished run is lent these
pub record Slices : Type 0 where
  pub styles : List ℕ
  pub layouts : List ℕ
  pub working : List ℕ
  pub unclaimed : List ℕ

-- the slices that a call is lent: these four, and by request #107 the tally, "n words, one for each item": how many questions about it are
-- answered
pub record Lent : Type 0 where
  pub styles : List ℕ
  pub layouts : List ℕ
  pub working : List ℕ
  pub unclaimed : List ℕ
  pub tally : List ℕ

abbrev pub slices_of : Lent → Slices
slices_of lent = record { styles = lent.styles; layouts = lent.layouts; working = lent.working; unclaimed = lent.unclaimed }

-- what a call leaves: the state and the answer, and the words of the slices that it may write
pub record Outcome : Type 0 where
  pub step : Step
  pub layouts : List ℕ
  pub working : List ℕ
  pub unclaimed : List ℕ
  pub tally : List ℕ

-- a step that writes nothing
abbrev pub unwritten : Lent → Step → Outcome
unwritten lent step =
    record { step = step; layouts = lent.layouts; working = lent.working; unclaimed = lent.unclaimed; tally = lent.tally }

-- by their words, in the order in which the entries take them
abbrev pub slices : List ℕ → List ℕ → List ℕ → List ℕ → Slices
slices styles layouts working unclaimed = record { styles = styles; layouts = layouts; working = working; unclaimed = unclaimed }

abbrev pub lent : List ℕ → List ℕ → List ℕ → List ℕ → List ℕ → Lent
lent styles layouts working unclaimed tally =
    record { styles = styles; layouts = layouts; working = working; unclaimed = unclaimed; tally = tally }

abbrev pub outcome : Step → List ℕ → List ℕ → List ℕ → List ℕ → Outcome
outcome step layouts working unclaimed tally =
    record { step = step; layouts = layouts; working = working; unclaimed = unclaimed; tally = tally }
