-- Candidates swept into two lists (document 01: "Claimed candidates enter the working list in order, others the unclaimed list";
-- refusal 5). Assumes nothing.
use Rattle.std.specs.Prelude.{ℕ, ◌+◌, ◌*◌, ◌/◌, Bool, true, false, cond, not, ◌&&◌, List, [], ◌∷◌, ◌++◌, map, ◌≡◌, length, Option, Some, None, Result, Ok, Err, Float}
use Rattle.geometry.specs.declared.Point.{Point}
use Rattle.refusal.specs.declared.Refusal.{Refusal}
use Rattle.refusal.specs.declared.Refusal.TheVariants.{ListFull}
use Rattle.style.specs.declared.Position.{Position}
use Rattle.style.specs.declared.ContainingBlockClaims.{ContainingBlockClaims}
use Rattle.style.specs.Values.{claims}
use Rattle.tree.specs.declared.layout.OofCandidate.{OofCandidate}
use Rattle.tree.specs.Static.{translated}
use Rattle.records.specs.Records.{records, room, written}
use Rattle.tree_record.specs.Candidate.{candidate_width, candidate_of, candidate_words}
use Rattle.sweep.specs.declared.Filled.{Filled}

-- ---- candidates of a slice

-- the first n records, decoded
unfoldable pub first_candidates : ℕ → List ℕ → List OofCandidate
first_candidates n ws = map candidate_of (records candidate_width n ws)

-- every whole record, decoded
unfoldable pub candidates_in : List ℕ → List OofCandidate
candidates_in ws = first_candidates (length ws / candidate_width) ws

-- surfaced candidates move by their box's location; those of the opening don't
unfoldable pub moved : Option (Point Float) → OofCandidate → OofCandidate
moved None c = c
moved (Some location) c = translated c location

-- the layers of candidates, in turn
abbrev pub layers_of : List OofCandidate → List ℕ
layers_of cs = map (λ (c : OofCandidate). c.layer) cs

-- ---- claimed, or not

-- whether a candidate of a position goes to the working list (true) or to the unclaimed list (false)
unfoldable pub side : ContainingBlockClaims → Bool → Position → Bool
side by true position = claims by position
side by false position = not (claims by position)

-- the candidates that go to a list, in order
unfoldable pub keep : ContainingBlockClaims → Bool → List OofCandidate → List OofCandidate
keep by list [] = []
keep by list (c ∷ cs) = cond (side by list c.position) (c ∷ keep by list cs) (keep by list cs)

abbrev pub claimed : ContainingBlockClaims → List OofCandidate → List OofCandidate
claimed by cs = keep by true cs

abbrev pub others : ContainingBlockClaims → List OofCandidate → List OofCandidate
others by cs = keep by false cs

-- ---- lists

-- candidates as words, one record after another
unfoldable pub list_words : List OofCandidate → List ℕ
list_words [] = []
list_words (c ∷ cs) = candidate_words c ++ list_words cs

-- a list that holds `held` records, with more after them; every other word stays
abbrev pub appended : List ℕ → ℕ → List OofCandidate → List ℕ
appended ws held cs = written ws (candidate_width * held) (list_words cs)

-- both lists after a sweep that has room, and how many records each then holds
pub record Lists : Type 0 where
  pub filled : Filled
  pub working : List ℕ
  pub unclaimed : List ℕ

-- the claimed candidates behind the working records, the others behind the unclaimed ones
abbrev pub swept_into : ContainingBlockClaims → List OofCandidate → List ℕ → List ℕ → Filled → Lists
swept_into by cs working unclaimed filled =
    let inside = claimed by cs in
    let outside = others by cs in
    record {
      filled = record { working = filled.working + length inside; unclaimed = filled.unclaimed + length outside };
      working = appended working filled.working inside;
      unclaimed = appended unclaimed filled.unclaimed outside;
    }

-- what a sweep answers, and both lists after it
pub record Outcome : Type 0 where
  pub answer : Result Filled Refusal
  pub working : List ℕ
  pub unclaimed : List ℕ

-- room is decided before a word is written
unfoldable pub swept : ContainingBlockClaims → List OofCandidate → List ℕ → List ℕ → Filled → Outcome
swept by cs working unclaimed filled =
    let after = swept_into by cs working unclaimed filled in
    cond
    (room candidate_width (length working) filled.working (length (claimed by cs))
    && room candidate_width (length unclaimed) filled.unclaimed (length (others by cs)))
    (record { answer = Ok after.filled; working = after.working; unclaimed = after.unclaimed })
    (record { answer = Err ListFull; working = working; unclaimed = unclaimed })

-- an answer and two lists are those of an outcome
pub record Leaves (r : Result Filled Refusal) (w u : List ℕ) (o : Outcome) : Type 0 where
  pub answer : r ≡ o.answer
  pub working : w ≡ o.working
  pub unclaimed : u ≡ o.unclaimed
