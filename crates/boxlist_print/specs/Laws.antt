-- What `printed` means, as statements. `proofs/` proves each, under its name in small letters. Assumes nothing.
use Rattle.std.specs.Prelude.{ℕ, ◌+◌, ◌<◌, ◌≤◌, ◌↔◌, ◌⊎◌, ◌≢◌, ◌≡◌, not, List, [], ◌∷◌, length, take, Err, IsOk, Ok, Float}
use Rattle.geometry.specs.declared.Rect.{Rect}
use Rattle.refusal.specs.declared.Refusal.{Refusal}
use Rattle.refusal.specs.declared.Refusal.TheVariants.{BadArea, BadStyle, BadCandidate, BadScreenLine, NotInEighths}
use Rattle.refusal.specs.Refusal.{number_of}
use Rattle.boxlist_lines.specs.declared.list.Row.{Row}
use Rattle.boxlist_lines.specs.Lines.{list_text, refusal_text}
use Rattle.screen_fields.specs.Format.{MAX_CANDIDATES, MAX_BYTES}
use Rattle.screen.specs.Screen.{is_screen, header_of, styles_of, candidates_of}
use Rattle.screen.specs.Laws.{IsScreen}
use Rattle.run.specs.Conditions.{AreaIsBad, StyleIsBad, places, CandidateIsBad, FirstIs, NoneHolds}
use Rattle.run.specs.Refusals.{Verdict, accepted, refused, ◌when◌else◌, bad_area, bad_style, bad_candidates}
use Rattle.run.specs.Call.{Slices, slices}
use Rattle.run.specs.declared.State.{State}
use Rattle.run.specs.declared.Answer.TheVariants as answer
use Rattle.run.specs.declared.Finish.{Finish}
use Rattle.reach.specs.Reach.{reached}
use Rattle.boxlist_print.specs.declared.Listing.{Listing}
use Rattle.boxlist_print.specs.declared.Listing.TheVariants.{Boxes, Verdicts}
use Rattle.boxlist_print.specs.Verdicts.{verdicts_text}
use Rattle.boxlist_print.specs.Printed.{LIST_BYTES, finished_text, opening_of, run_of, printed}

-- ---- what is printed, by the tests in their order: 8, then 1, 3 and 4; what passes them all is a list. No text is refused whole with
-- another number; a row of verdicts may say refused 9

unfoldable pub verdict_of : List ℕ → Verdict
verdict_of text =
    BadScreenLine when not (is_screen text) else
    BadArea when bad_area (opening_of (header_of text)) else
    BadStyle when bad_style (styles_of text) else
    BadCandidate when bad_candidates (styles_of text) (candidates_of text) else
    accepted

pub data Shows : Listing → Verdict → List ℕ → Type 0 where
  list : (rows : List Row) (overflow : Rect Float) → length rows ≤ MAX_CANDIDATES → Shows Boxes accepted (list_text rows overflow)
  verdicts : (s : State) (lent : Slices) → s.counts.filled.working ≤ MAX_CANDIDATES → Shows Verdicts accepted (verdicts_text s lent)
  line : {listing : Listing} (r : Refusal) → Shows listing (refused r) (refusal_text (number_of r))

abbrev pub ListOrRefusal : Type 0
ListOrRefusal = (listing : Listing) (text : List ℕ) → Shows listing (verdict_of text) (printed listing text)

-- ---- refused exactly under document 01's conditions, by their numbers: 8 is tested first, then 1, 3 and 4

abbrev pub program_tests : List ℕ → List (ℕ × Type 0)
program_tests text =
    (8, ¬ IsScreen text)
    ∷ (1, AreaIsBad (opening_of (header_of text)))
    ∷ (3, StyleIsBad (styles_of text))
    ∷ (4, CandidateIsBad (styles_of text) (candidates_of text) (places (candidates_of text)))
    ∷ []

abbrev pub RefusedExactly : Type 0
RefusedExactly =
    (listing : Listing) (text : List ℕ) (r : Refusal) → (printed listing text ≡ refusal_text (number_of r)) ↔ FirstIs (program_tests text) (number_of r)

-- and a list exactly where none holds
abbrev pub IsList : Listing → List ℕ → Type 0
IsList Boxes text = (rows : List Row) × (overflow : Rect Float) × (text ≡ list_text rows overflow)
IsList Verdicts text = (s : State) × (lent : Slices) × (text ≡ verdicts_text s lent)

abbrev pub ListedExactly : Type 0
ListedExactly = (listing : Listing) (text : List ℕ) → IsList listing (printed listing text) ↔ NoneHolds (program_tests text)

-- the list is that of the text's run, which is finished
abbrev pub RunIsListed : Type 0
RunIsListed =
    (listing : Listing) (text : List ℕ) → NoneHolds (program_tests text)
    → let o = run_of text in
    (f : Finish) × (o.step.answer ≡ Ok (answer.Finish f))
    × (printed listing text ≡ finished_text listing o.step.state f.overflow (slices (styles_of text) o.layouts o.working o.unclaimed))

-- a row of verdicts says seen, unseen or refused 9: a run's own state and words meet 2, 4 and 6 at none of its boxes
abbrev pub OnlyNineInRows : Type 0
OnlyNineInRows =
    (text : List ℕ) (place : ℕ) → NoneHolds (program_tests text)
    → let o = run_of text in
    let verdict = reached place o.step.state (slices (styles_of text) o.layouts o.working o.unclaimed) in
    place < o.step.state.counts.filled.working → IsOk verdict ⊎ (verdict ≡ Err NotInEighths)

-- a text tells which it is: no list of verdicts is one of boxes, and neither is a refusal's line, whatever its number
abbrev pub ListsDiffer : Type 0
ListsDiffer = (s : State) (lent : Slices) (rows : List Row) (overflow : Rect Float) → verdicts_text s lent ≢ list_text rows overflow

abbrev pub NoListIsALine : Type 0
NoListIsALine = (listing : Listing) (text : List ℕ) (number : ℕ) → IsList listing text → text ≢ refusal_text number

-- what is printed fits the programs' buffer
abbrev pub PrintedFits : Type 0
PrintedFits = (listing : Listing) (text : List ℕ) → length (printed listing text) ≤ LIST_BYTES

-- ---- a text longer than the longest screen is refused with 8

abbrev pub LongIsRefused : Type 0
LongIsRefused = (listing : Listing) (text : List ℕ) → MAX_BYTES < length text → printed listing text ≡ refusal_text 8

-- so nothing is lost where the programs read no more than one byte beyond it
abbrev pub CutIsEnough : Type 0
CutIsEnough = (listing : Listing) (text : List ℕ) → printed listing (take (MAX_BYTES + 1) text) ≡ printed listing text
