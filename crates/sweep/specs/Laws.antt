-- What the definitions of this crate mean, as statements. `proofs/Laws.antt` proves each, under its name in small letters. Assumes nothing.
use Rattle.std.specs.Prelude.{ℕ, ◌+◌, ◌*◌, ◌/◌, ◌<◌, ◌≤◌, List, [], ◌∷◌, ◌++◌, map, ◌⊎◌, ◌≡◌, length, Option, Ok, Err, Float}
use Rattle.geometry.specs.declared.Point.{Point}
use Rattle.refusal.specs.declared.Refusal.{Refusal}
use Rattle.refusal.specs.declared.Refusal.TheVariants.{ListFull}
use Rattle.style.specs.declared.ContainingBlockClaims.{ContainingBlockClaims}
use Rattle.tree.specs.declared.layout.OofCandidate.{OofCandidate}
use Rattle.tree_record.specs.Candidate.{candidate_width}
use Rattle.tree_record.specs.Laws.{FitsCandidate}
use Rattle.sweep.specs.declared.Filled.{Filled}
use Rattle.sweep.specs.Sweep.{first_candidates, candidates_in, layers_of, moved, claimed, others, appended, swept}

-- ---- claimed, or not

-- each candidate goes to one of the two lists
abbrev pub KeepSplits : Type 0
KeepSplits =
    (by : ContainingBlockClaims) (cs : List OofCandidate) → length (claimed by cs) + length (others by cs) ≡ length cs

-- ---- refusal 5

-- full is: one of the lists would hold more than it has places
abbrev pub Exceeds : ContainingBlockClaims → List OofCandidate → List ℕ → List ℕ → Filled → Type 0
Exceeds by cs w u f =
    (length w / candidate_width < f.working + length (claimed by cs))
    ⊎ (length u / candidate_width < f.unclaimed + length (others by cs))

abbrev pub FullIsExceeded : Type 0
FullIsExceeded =
    (by : ContainingBlockClaims) (cs : List OofCandidate) (w u : List ℕ) (f : Filled)
    → ((swept by cs w u f).answer ≡ Err ListFull → Exceeds by cs w u f)
    × (Exceeds by cs w u f → (swept by cs w u f).answer ≡ Err ListFull)

-- and nothing is written
abbrev pub RefusedKeeps : Type 0
RefusedKeeps =
    (by : ContainingBlockClaims) (cs : List OofCandidate) (w u : List ℕ) (f : Filled) (r : Refusal)
    → (swept by cs w u f).answer ≡ Err r
    → ((swept by cs w u f).working ≡ w) × ((swept by cs w u f).unclaimed ≡ u)

-- ---- the lists, read back

abbrev pub AllFit : List OofCandidate → Type 0
AllFit [] = Unit {0}
AllFit (c ∷ cs) = FitsCandidate c × AllFit cs

-- what is swept fits, whatever the words and the shift
abbrev pub SweptFits : Type 0
SweptFits = (s : Option (Point Float)) (ws : List ℕ) → AllFit (map (moved s) (candidates_in ws))

abbrev pub KeptFits : Type 0
KeptFits = (by : ContainingBlockClaims) (cs : List OofCandidate) → AllFit cs → AllFit (claimed by cs) × AllFit (others by cs)

-- a list's candidates after more were appended: those that it held, then the new ones
abbrev pub AppendedBack : Type 0
AppendedBack =
    (ws : List ℕ) (held : ℕ) (cs : List OofCandidate) → AllFit cs → candidate_width * (held + length cs) ≤ length ws
    → first_candidates (held + length cs) (appended ws held cs) ≡ first_candidates held ws ++ cs

-- ---- layers (request #104)

-- the layers of a list's first n records after a sweep: those of the records that it held, then those of the candidates that came, in turn
abbrev pub HasLayers : ℕ → List ℕ → ℕ → List ℕ → List OofCandidate → Type 0
HasLayers n after held before came = layers_of (first_candidates n after) ≡ layers_of (first_candidates held before) ++ layers_of came

-- whether they were moved or not
abbrev pub LayersKept : Type 0
LayersKept =
    (by : ContainingBlockClaims) (s : Option (Point Float)) (slice w u : List ℕ) (f after : Filled)
    → let cs = candidates_in slice in
    let o = swept by (map (moved s) cs) w u f in
    o.answer ≡ Ok after
    → HasLayers after.working o.working f.working w (claimed by cs) × HasLayers after.unclaimed o.unclaimed f.unclaimed u (others by cs)
