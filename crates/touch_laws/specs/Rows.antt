-- Runs from an opening to the driver's words, and a preview to what is asked of it finished, worked out by hand; `proofs/Rows.antt` computes each
-- row. `e 8` is the word of eight eighths of a pixel, `8e` in the comments. Assumes nothing.
use Rattle.std.specs.Prelude.{ℕ, zero, suc, ◌*◌, List, [], ◌∷◌, ◌++◌, ◌≡◌, replicate, Float, Option, Some, None, Result, Ok, Err}
use Rattle.geometry.specs.Geometry.{zero_rect}
use Rattle.geometry.specs.declared.Rect.{Rect}
use Rattle.refusal.specs.declared.Refusal.{Refusal}
use Rattle.refusal.specs.declared.Refusal.TheVariants.{BadExtent, WrongReply, NotInEighths}
use Rattle.records.specs.Records.{record_at}
use Rattle.style_record.specs.Record.{code_words, style_words}
use Rattle.tree_record.specs.Layout.{layout_width}
use Rattle.oof_box.specs.declared.question.Reply.TheVariants.{LaidOut}
use Rattle.run.specs.declared.Opening.{Opening}
use Rattle.run.specs.Call.{Slices, Lent, Outcome, lent, slices}
use Rattle.run.specs.Refusals.{Verdict, accepted, refused}
use Rattle.run.specs.Theorems.{own, Turn, called}
use Rattle.run.specs.Preview.{preview_opened, preview_replied}
use Rattle.finished.specs.RowWords.{e, minus, nan, half, float, on_layer}
use Rattle.reach.specs.declared.Offsets.{Offsets}
use Rattle.reach.specs.Reach.{reached}
use Rattle.drawing.specs.Drawing.{drawn}
use Rattle.touch.specs.Rows.{area}
use Rattle.touch_laws.specs.Laws.{touched_of}

-- ---- runs over three items

-- lengths in pixels, by the words of their values; n auto ones
abbrev px : List ℕ → List ℕ
px [] = []
px (word ∷ words) = 1 ∷ word ∷ 0 ∷ px words

abbrev auto : ℕ → List ℕ
auto zero = []
auto (suc n) = 3 ∷ 0 ∷ 0 ∷ auto n

-- the insets of a box that is to stand here, if it has no margins
abbrev insets : ℕ → ℕ → List ℕ
insets left top = px (left ∷ []) ++ auto 1 ++ px (top ∷ []) ++ auto 1

-- a style without min and max: insets; twelve margins, paddings and borders; width and height; the words behind the lengths
abbrev style : List ℕ → List ℕ → ℕ → ℕ → List ℕ → List ℕ
style places edges width height codes = places ++ px edges ++ px (width ∷ height ∷ []) ++ auto 4 ++ codes

abbrev plain : List ℕ → ℕ → ℕ → List ℕ
plain places width height = style places (replicate 12 0) width height (replicate code_words 0)

-- margins, paddings and borders, each left, right, top, bottom; both overflows scroll, with scrollbars of 12e
abbrev edged : List ℕ → ℕ → ℕ → List ℕ
edged places width height =
    style places (e 1 ∷ e 2 ∷ e 3 ∷ e 4 ∷ e 5 ∷ e 6 ∷ e 7 ∷ e 8 ∷ e 2 ∷ e 1 ∷ e 4 ∷ e 3 ∷ []) width height
    (replicate 9 0 ++ (3 ∷ 3 ∷ e 12 ∷ 0 ∷ []))

-- a candidate: node, order, position (2 is absolute, which is claimed, 3 is fixed, which isn't), and where its static areas start and end
abbrev candidate : ℕ → ℕ → ℕ → ℕ → List ℕ
candidate node order position at = node ∷ order ∷ position ∷ at ∷ at ∷ 0 ∷ 0 ∷ 0 ∷ at ∷ at ∷ replicate 4 0

-- 800e by 480e at 8e, 16e
abbrev panel : ℕ → Opening
panel direction = record { area = area (e 800) (e 480) (e 8) (e 16); direction = direction; claims = 1; overflowx = 0; overflowy = 0 }

-- layouts full of this word, three places in the working list and one in the unclaimed one
abbrev lends : List ℕ → ℕ → Lent
lends styles word = lent styles (replicate (layout_width * 3) word) (replicate 42 0) (replicate 14 0) (replicate 3 0)

-- a box is laid out, with this overflow of its own, and surfaces these
abbrev laid : Rect Float → List ℕ → Turn
laid overflow surfaced = record { heard = record { reply = LaidOut overflow; surfaced = surfaced }; loan = own }

-- item 0 stands at 20e, 12e of the area; item 1 so far from its left edge, and 4e from its top; item 2 at its static position
abbrev table : ℕ → List ℕ
table left = plain (insets (e 20) (e 12)) (e 40) (e 24) ++ plain (insets left (e 4)) (e 16) (e 24) ++ plain (auto 4) (e 8) (e 16)

abbrev plain_table : List ℕ
plain_table = table (minus 12)

abbrev run : List ℕ → List Turn → Outcome
run candidates turns = called (panel 0) candidates (lends plain_table 0) turns

abbrev in_order : List ℕ
in_order = candidate 0 0 2 0 ++ candidate 1 0 2 0

abbrev one_laid : Turn
one_laid = laid zero_rect []

abbrev first : Outcome
first = run in_order (one_laid ∷ one_laid ∷ [])

-- each inset is less by the margin beside it; item 2, which neither run places, has NaNs
abbrev edged_table : List ℕ
edged_table = edged (insets (e 19) (e 9)) (e 40) (e 24) ++ edged (insets (minus 13) (e 1)) (e 16) (e 24) ++ edged (insets nan nan) nan nan

-- of another size, right-to-left, claiming fixed boxes too and scrolling, at the same offset
abbrev other_panel : Opening
other_panel = record { area = area (e 640) (e 400) (e 8) (e 16); direction = 1; claims = 3; overflowx = 2; overflowy = 3 }

abbrev second : Outcome
second =
    let wide = laid (record { left = float (minus 4); right = float (e 90); top = float (minus 5); bottom = float (e 91) }) [] in
    called other_panel (candidate 0 7 2 (e 4) ++ candidate 1 8 2 (e 4)) (lends edged_table nan) (wide ∷ wide ∷ [])

-- ---- rows

-- what a call for the driver leaves of a slice of n words, each of them `word`
abbrev Leaves : List ℕ → Outcome → ℕ → ℕ → Verdict → List ℕ → Type 0
Leaves styles has n word verdict after = touched_of (replicate n word) styles has ≡ record { verdict = verdict; words = after }

-- refused, it leaves what came
abbrev Refuses : List ℕ → Outcome → ℕ → Verdict → Type 0
Refuses styles has n verdict = Leaves styles has n 9 verdict (replicate n 9)

-- 20e to 60e and 12e to 36e; -12e to 4e and 4e to 28e
abbrev of_0 : List ℕ
of_0 = 0 ∷ 3 ∷ 8 ∷ 2 ∷ 5 ∷ []

abbrev of_1 : List ℕ
of_1 = 1 ∷ 0xFFFF_FFFF ∷ 1 ∷ 1 ∷ 4 ∷ []

abbrev pub TouchedRows : Type 0
TouchedRows =
    -- the two runs "give the driver identical words"
    Leaves plain_table first 10 9 accepted (of_0 ++ of_1)
    × Leaves edged_table second 10 5 accepted (of_0 ++ of_1)
    -- though item 0's layouts differ in order, child overflow, scrollbars, padding, border and margins
    × (record_at layout_width first.layouts 0 ≡ 0 ∷ e 40 ∷ e 24 ∷ (replicate 6 0 ++ (e 28 ∷ e 28 ∷ replicate 12 0)))
    × (record_at layout_width second.layouts 0
    ≡ 7 ∷ e 40 ∷ e 24 ∷ minus 4 ∷ e 90 ∷ minus 5 ∷ e 91 ∷ e 12 ∷ e 12 ∷ e 28 ∷ e 28 ∷ e 5 ∷ e 6 ∷ e 7 ∷ e 8 ∷ e 2 ∷ e 1 ∷ e 4 ∷ e 3 ∷ e 1 ∷ e 2 ∷ e 3 ∷ e 4 ∷ [])
    -- in hoisted order: item 1, which surfaces item 2 at 30e, 30e from its own corner, and a fixed candidate, which isn't claimed; item 0; item 2,
    -- 18e to 26e and 34e to 50e
    × Leaves plain_table
    (run (candidate 1 0 2 0 ++ candidate 0 0 2 0) (laid zero_rect (candidate 0 0 3 0 ++ candidate 2 0 2 (e 30)) ∷ one_laid ∷ one_laid ∷ []))
    15 9 accepted (of_1 ++ of_0 ++ (2 ∷ 2 ∷ 3 ∷ 4 ∷ 6 ∷ []))
    -- item 1 stands on a sixteenth: item 0's words aren't written either
    × Refuses (table half) (called (panel 0) in_order (lends (table half) 0) (one_laid ∷ one_laid ∷ [])) 10 (refused NotInEighths)
    -- direction 2: a refused opening leaves no boxes
    × Leaves plain_table (called (panel 2) in_order (lends plain_table 0) []) 0 9 accepted []
    -- unfinished: of two boxes none is laid out, and one is
    × Refuses plain_table (run in_order []) 10 (refused WrongReply)
    × Refuses plain_table (run in_order (one_laid ∷ [])) 10 (refused WrongReply)

-- ---- request #109: a finished preview is asked with its own state, lists and layouts, and with the live styles

-- item 1 is replaced by one that stands at -20e, and is drawn before item 0, which has the higher layer; in hoisted order it is the second
abbrev replacement : List ℕ
replacement = plain (insets (minus 20) (e 4)) (e 16) (e 24)

abbrev layered : List ℕ
layered = on_layer 1 0 2 ++ on_layer 0 1 2

abbrev opened_with : ℕ → Outcome
opened_with node = preview_opened (panel 0) layered node replacement (lends plain_table 0)

-- the box at hand is laid out, without overflow
abbrev going_on : Outcome → Outcome
going_on o =
    preview_replied o.step.state (LaidOut zero_rect) [] 1 replacement (lent plain_table o.layouts o.working o.unclaimed o.tally)

abbrev previewed : Outcome
previewed = going_on (going_on (opened_with 1))

-- -20e to -4e and 4e to 28e
abbrev of_replacement : List ℕ
of_replacement = 1 ∷ 0xFFFF_FFFE ∷ 0 ∷ 1 ∷ 4 ∷ []

-- what it lends, with such styles
abbrev lending : List ℕ → Outcome → Slices
lending styles has = slices styles has.layouts has.working has.unclaimed

abbrev Draws : List ℕ → Outcome → Verdict → List ℕ → Type 0
Draws styles has verdict after =
    drawn has.step.state (lending styles has) (9 ∷ 9 ∷ []) ≡ record { verdict = verdict; order = after }

abbrev Reaches : List ℕ → Outcome → ℕ → Result (Option Offsets) Refusal → Type 0
Reaches styles has place answer = reached place has.step.state (lending styles has) ≡ answer

abbrev seen : Result (Option Offsets) Refusal
seen = Ok (Some (record { across = 0; down = 0 }))

abbrev pub FinishedPreviewRows : Type 0
FinishedPreviewRows =
    -- the replacement's box is left of the area, which doesn't scroll
    Leaves plain_table previewed 10 9 accepted (of_0 ++ of_replacement)
    × Draws plain_table previewed accepted (1 ∷ 0 ∷ [])
    × Reaches plain_table previewed 0 seen
    × Reaches plain_table previewed 1 (Ok None)
    -- a run over the live table, with the same calls
    × Leaves plain_table (run layered (one_laid ∷ one_laid ∷ [])) 10 9 accepted (of_0 ++ of_1)
    × Reaches plain_table (run layered (one_laid ∷ one_laid ∷ [])) 1 seen
    -- of the styles only the length counts: words that are no styles, and one item less
    × Leaves (replicate (style_words * 3) 2) previewed 10 9 accepted (of_0 ++ of_replacement)
    × Refuses (replicate (style_words * 2) 0) previewed 10 (refused BadExtent)
    × Draws (replicate (style_words * 3) 2) previewed accepted (1 ∷ 0 ∷ [])
    × Draws (replicate (style_words * 2) 0) previewed (refused BadExtent) (9 ∷ 9 ∷ [])
    × Reaches (replicate (style_words * 3) 2) previewed 1 (Ok None)
    × Reaches (replicate (style_words * 2) 0) previewed 1 (Err BadExtent)
    -- unfinished, and refused for its node, which leaves no boxes
    × Refuses plain_table (opened_with 1) 10 (refused WrongReply)
    × Leaves plain_table (opened_with 3) 0 9 accepted []
