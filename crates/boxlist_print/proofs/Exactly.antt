-- A refusal is printed exactly under the first of document 01's conditions that holds, a list exactly where none does. Assumes nothing.
use Rattle.std.specs.Prelude.{Float}
use Prim.Native.Nat.{ℕ, ◌-◌}
use native.Mathlib.Omega.{arith}
use mathlib.Core.Logic.Iff
use mathlib.Core.Logic.{◌↔◌}
use mathlib.Core.Path.{◌≡◌, refl, sym, ap, ◌∙◌}
use mathlib.Core.Bool.{true, false}
use mathlib.Core.List.{List}
use lib.ListN.{get_or}
use Rattle.util.proofs.Floats.{no}
use Rattle.refusal.specs.declared.Refusal.{Refusal}
use Rattle.refusal.specs.declared.Refusal.TheVariants.{BadArea, BadExtent, BadStyle, BadCandidate, ListFull, WrongReply, UnresolvedSide, BadScreenLine, NotInEighths}
use Rattle.refusal.specs.Refusal.{number_of}
use Rattle.refusal.proofs.Laws.{numbers_differ}
use Rattle.geometry.specs.declared.Rect.{Rect}
use Rattle.boxlist_lines.specs.Column.{cell_of, left_of, cells, code_ink, code_text}
use Rattle.boxlist_lines.specs.Lines.{joined, line_text, word_text, header_text, list_text, refusal_text}
use Rattle.boxlist_lines.specs.declared.list.Row.{Row}
use Rattle.screen.specs.Screen.{is_screen, header_of, styles_of, candidates_of}
use Rattle.screen.specs.Laws.{IsScreen}
use Rattle.screen.proofs.Exactly.{screen_exactly}
use Rattle.run.specs.Refusals.{Verdict, accepted, refused}
use Rattle.run.specs.Conditions.{places}
use Rattle.run.proofs.Decides.{Decides, opposite, Says, then, no_more, is_accepted, refusal_by, refused_first, accepted_none}
use Rattle.run.proofs.Conditions.{area_decided, style_decided, candidate_decided}
use Rattle.run.specs.Call.{Slices}
use Rattle.run.specs.declared.State.{State}
use Rattle.boxreach_lines.specs.Lines.{verdict_names}
use Rattle.boxlist_print.specs.declared.Listing.{Listing}
use Rattle.boxlist_print.specs.declared.Listing.TheVariants.{Boxes, Verdicts}
use Rattle.boxlist_print.specs.Verdicts.{verdicts_text}
use Rattle.boxlist_print.specs.Printed.{opening_of}
use Rattle.boxlist_print.specs.Laws.{verdict_of, Shows, list, verdicts, line, program_tests, RefusedExactly, IsList, ListedExactly, ListsDiffer, NoListIsALine}
use Rattle.boxlist_print.proofs.Tests.{list_or_refusal}

-- ---- the tests

screen_decided : (text : List ℕ) → Decides (is_screen text) (IsScreen text)
screen_decided text = record { holds = (screen_exactly text).0; fails = λ f s. no ((screen_exactly text).1 s) f }

pub program_says : (text : List ℕ) → Says (verdict_of text) (program_tests text)
unfolding verdict_of
program_says text =
    then BadScreenLine (opposite (screen_decided text))
    (λ _. then BadArea (area_decided (opening_of (header_of text)))
    (λ _. then BadStyle (style_decided (styles_of text))
    (λ _. then BadCandidate (candidate_decided (styles_of text) (candidates_of text) (places (candidates_of text)) (omega arith))
    (λ _. no_more))))

-- ---- no list is a refusal's line, and no two refusals have the same

-- `n` of `node` and `r` of `refused` stand in other columns: byte 1 tells a list
list_byte : (rows : List Row) (overflow : Rect Float) → get_or (list_text rows overflow) 1 0 ≡ 32
unfolding list_text header_text line_text joined word_text
list_byte rows overflow = refl

verdicts_byte : (s : State) (lent : Slices) → get_or (verdicts_text s lent) 1 0 ≡ 32
unfolding verdicts_text verdict_names line_text joined word_text
verdicts_byte s lent = refl

line_byte : (n : ℕ) → get_or (refusal_text n) 1 0 ≡ 114
unfolding refusal_text line_text joined word_text
line_byte n = refl

apart : {A : Type 0} (text : List ℕ) (n : ℕ) → get_or text 1 0 ≡ 32 → text ≡ refusal_text n → A
apart text n b e = absurd (let z = sym b ∙ ap (λ (t : List ℕ). get_or t 1 0) e ∙ line_byte n in omega arith)

pub no_list_is_a_line : NoListIsALine
no_list_is_a_line Boxes text n l e = apart _ n (list_byte l.0 l.1) (sym l.2 ∙ e)
no_list_is_a_line Verdicts text n l e = apart _ n (verdicts_byte l.0 l.1) (sym l.2 ∙ e)

-- byte 3 tells a list of verdicts: `place` has a letter more than `node`
boxes_third : (rows : List Row) (overflow : Rect Float) → get_or (list_text rows overflow) 3 0 ≡ 32
unfolding list_text header_text line_text joined word_text
boxes_third rows overflow = refl

verdicts_third : (s : State) (lent : Slices) → get_or (verdicts_text s lent) 3 0 ≡ 112
unfolding verdicts_text verdict_names line_text joined word_text
verdicts_third s lent = refl

pub lists_differ : ListsDiffer
lists_differ s lent rows overflow e =
    let z = sym (verdicts_third s lent) ∙ ap (λ (t : List ℕ). get_or t 3 0) e ∙ boxes_third rows overflow in omega arith

-- byte 15 tells the number
abbrev number_in : List ℕ → ℕ
number_in text = get_or text 15 0 - 48

number_back : (r : Refusal) → number_in (refusal_text (number_of r)) ≡ number_of r
unfolding refusal_text line_text joined word_text code_text code_ink cells left_of cell_of
number_back BadArea = refl
number_back BadExtent = refl
number_back BadStyle = refl
number_back BadCandidate = refl
number_back ListFull = refl
number_back WrongReply = refl
number_back UnresolvedSide = refl
number_back BadScreenLine = refl
number_back NotInEighths = refl

same_line : (q r : Refusal) → refusal_text (number_of q) ≡ refusal_text (number_of r) → q ≡ r
same_line q r e = numbers_differ q r (sym (number_back q) ∙ ap number_in e ∙ number_back r)

-- ---- what is shown is the verdict

line_shown : {listing : Listing} {v : Verdict} {text : List ℕ} (r : Refusal) → Shows listing v text → (text ≡ refusal_text (number_of r)) ↔ (v ≡ refused r)
line_shown r (list rows overflow h) = (λ e. apart _ (number_of r) (list_byte rows overflow) e, λ e. no {b = true} refl (ap is_accepted e))
line_shown r (verdicts s lent h) = (λ e. apart _ (number_of r) (verdicts_byte s lent) e, λ e. no {b = true} refl (ap is_accepted e))
line_shown r (line q) = (λ e. ap refused (same_line q r e), λ e. ap (λ (x : Refusal). refusal_text (number_of x)) (ap refusal_by e))

list_shown : {listing : Listing} {v : Verdict} {text : List ℕ} → Shows listing v text → IsList listing text ↔ (v ≡ accepted)
list_shown (list rows overflow h) = (λ l. refl, λ e. (rows, overflow, refl))
list_shown (verdicts s lent h) = (λ l. refl, λ e. (s, lent, refl))
list_shown (line {listing = listing} q) = (λ l. absurd (no_list_is_a_line listing _ (number_of q) l refl), λ e. no {b = false} (ap is_accepted e) refl)

pub refused_exactly : RefusedExactly
refused_exactly listing text r = Iff.trans (line_shown r (list_or_refusal listing text)) (refused_first r (program_says text))

pub listed_exactly : ListedExactly
listed_exactly listing text = Iff.trans (list_shown (list_or_refusal listing text)) (accepted_none (program_says text))
