-- When a call is refused: the rows of document 01's table, and the order in which they are tested. Assumes nothing.
use Rattle.std.specs.Prelude.{ℕ, ◌*◌, ◌/◌, ◌%◌, Bool, cond, not, ◌||◌, List, [], Result, Ok, Err, eqb, ltb, length}
use Rattle.std.specs.List.{list_any}
use Rattle.refusal.specs.declared.Refusal.{Refusal}
use Rattle.records.specs.Records.{good_records, room}
use Rattle.style.specs.declared.ContainingBlockClaims.{ContainingBlockClaims}
use Rattle.sweep.specs.Sweep.{candidates_in, claimed, others}
use Rattle.sweep.specs.declared.Filled.{Filled}
use Rattle.tree_record.specs.Candidate.{candidate_width, candidate_kinds}
use Rattle.tree_record.specs.Layout.{layout_width}
use Rattle.style_record.specs.Record.{style_words, items}
use Rattle.style_record.specs.Check.{checked}
use Rattle.std.specs.Prelude.{is_err}
use Rattle.oof_box.specs.declared.question.Reply.{Reply}
use Rattle.oof_box.specs.declared.question.Reply.TheVariants.{Both, Width, Height, LaidOut}
use Rattle.run.specs.declared.Opening.{Opening}
use Rattle.run.specs.declared.Counts.{Counts}
use Rattle.run.specs.declared.Extents.{Extents}
use Rattle.run.specs.Call.{Slices, Lent, slices_of}

-- a call is accepted, or refused for one reason
abbrev pub Verdict : Type 0
Verdict = Result Unit Refusal

abbrev pub accepted : Verdict
accepted = Ok tt

abbrev pub refused : Refusal → Verdict
refused r = Err r

infixr 20 ◌when◌else◌
-- a refusal under its condition comes before all that follow
unfoldable pub ◌when◌else◌ : Refusal → Bool → Verdict → Verdict
r when condition else rest = cond condition (refused r) rest

-- ---- 1: bad area. Codes only: any number is accepted

unfoldable pub bad_area : Opening → Bool
bad_area o = ltb 1 o.direction || ltb 3 o.claims || ltb 3 o.overflowx || ltb 3 o.overflowy

-- ---- 2: bad extent

-- not whole records of w words
abbrev pub ragged : ℕ → List ℕ → Bool
ragged w words = not (eqb (length words % w) 0)

-- styles not 79 × n words with n at most 1,024, or layouts not 23 × n
unfoldable pub bad_table : List ℕ → List ℕ → Bool
bad_table styles layouts =
    ragged style_words styles || ltb 1024 (items styles) || not (eqb (length layouts) (layout_width * items styles))

-- a working or unclaimed list: not whole records, or above 4,096 of them
unfoldable pub bad_list : List ℕ → Bool
bad_list list = ragged candidate_width list || ltb 4096 (length list / candidate_width)

unfoldable pub bad_slices : Slices → Bool
bad_slices lent = bad_table lent.styles lent.layouts || bad_list lent.working || bad_list lent.unclaimed

-- a slice of another length than at the opening
unfoldable pub other_lengths : Extents → Slices → Bool
other_lengths e lent =
    not (eqb (length lent.styles) e.styles) || not (eqb (length lent.layouts) e.layouts)
    || not (eqb (length lent.working) e.working)
    || not (eqb (length lent.unclaimed) e.unclaimed)

-- the four slices of what reads a finished run
abbrev pub bad_lent : Extents → Slices → Bool
bad_lent e lent = bad_slices lent || other_lengths e lent

-- request #107: a tally not of one word an item
abbrev pub bad_tally : Lent → Bool
bad_tally lent = not (eqb (length lent.tally) (items lent.styles))

-- a slice of a reply of another length than at the opening, the tally among them
abbrev pub other_extents : Extents → Lent → Bool
other_extents e lent = other_lengths e (slices_of lent) || not (eqb (length lent.tally) e.tally)

-- the surfaced slice goes by the reply's kind: only that of a lay-out reply is looked at
abbrev pub lent_by : Reply → List ℕ → List ℕ
lent_by (Both size) surfaced = []
lent_by (Width width) surfaced = []
lent_by (Height height) surfaced = []
lent_by (LaidOut overflow) surfaced = surfaced

-- of an opening
abbrev pub bad_at_opening : List ℕ → Lent → Bool
bad_at_opening candidates lent = bad_slices (slices_of lent) || bad_tally lent || ragged candidate_width candidates

-- of a reply
abbrev pub bad_at_reply : Extents → List ℕ → Lent → Bool
bad_at_reply e surfaced lent = bad_slices (slices_of lent) || bad_tally lent || other_extents e lent || ragged candidate_width surfaced

-- ---- 3: bad style. Some word of some item breaks a rule

unfoldable pub bad_style : List ℕ → Bool
bad_style styles = is_err (checked styles)

-- ---- 4: bad candidate. Some word of the first `count` records breaks a rule

unfoldable pub bad_candidate : List ℕ → List ℕ → ℕ → Bool
bad_candidate styles list count = not (good_records (candidate_kinds (items styles)) list count)

-- every record of a slice
abbrev pub bad_candidates : List ℕ → List ℕ → Bool
bad_candidates styles list = bad_candidate styles list (length list / candidate_width)

-- ---- 5: list full. The claimed or the unclaimed records of a slice would exceed their list

unfoldable pub list_full : ContainingBlockClaims → Lent → Filled → List ℕ → Bool
list_full by lent filled candidates =
    not (room candidate_width (length lent.working) filled.working (length (claimed by (candidates_in candidates))))
    || not (room candidate_width (length lent.unclaimed) filled.unclaimed (length (others by (candidates_in candidates))))

-- ---- 6: wrong reply

-- more filled records than the lists have places for
abbrev pub above_lists : List ℕ → List ℕ → Filled → Bool
above_lists working unclaimed filled =
    ltb (length working / candidate_width) filled.working || ltb (length unclaimed / candidate_width) filled.unclaimed

-- request #107: a word of the tally is above the run's count of questions answered
abbrev pub any_above : ℕ → List ℕ → Bool
any_above answered tally = list_any (ltb answered) tally

-- state counts exceed the lists, boxes begun not 1 to the filled working records, or question count above 3 × the boxes begun; or a
-- word of the tally above the question count
unfoldable pub wrong_counts : Lent → Counts → Bool
wrong_counts lent c =
    above_lists lent.working lent.unclaimed c.filled
    || eqb c.begun 0
    || ltb c.filled.working c.begun
    || ltb (3 * c.begun) c.answered
    || any_above c.answered lent.tally
