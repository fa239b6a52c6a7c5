-- What holds of a preview's calls (request #109), from any state; each statement says what it asks of the words lent. `proofs/` proves each, under
-- its name in small letters. Over lists of calls: demands/specs. Assumes nothing.
use Rattle.std.specs.Prelude.{ℕ, ◌<◌, ◌↔◌, ◌≡◌, false, List, length, Err, is_err}
use mathlib.Core.List.{foldl}
use Rattle.refusal.specs.Refusal.{number_of}
use Rattle.refusal.specs.declared.Refusal.{Refusal}
use Rattle.records.specs.Records.{record_at}
use Rattle.style_record.specs.Record.{style_words, items}
use Rattle.style_record.specs.Table.{with_style}
use Rattle.oof_box.specs.declared.question.Reply.{Reply}
use Rattle.run.specs.declared.Opening.{Opening}
use Rattle.run.specs.declared.State.{State}
use Rattle.run.specs.Call.{Lent, Outcome, unwritten}
use Rattle.run.specs.Run.{closed, opened, replied}
use Rattle.run.specs.Preview.{over_copy, preview_opened, preview_replied}
use Rattle.run.specs.Theorems.{Heard, next, Loan, own, other, Turn}
use Rattle.run.specs.Conditions.{FirstIs, NoneHolds, preview_opening_tests, preview_reply_tests}

-- ---- "Its questions, layouts, lists, counts and finish equal those of a run over a copy of the table with that style written in": with one style
-- record, for a node below n, each call leaves what the call over the copy leaves: the same answer, state, layouts, lists and tally

abbrev pub PreviewOpeningIsTheCopys : Type 0
PreviewOpeningIsTheCopys =
    (o : Opening) (candidates : List ℕ) (node : ℕ) (style : List ℕ) (lent : Lent)
    → length style ≡ style_words → node < items lent.styles
    → preview_opened o candidates node style lent ≡ opened o candidates (over_copy node style lent)

abbrev pub PreviewReplyIsTheCopys : Type 0
PreviewReplyIsTheCopys =
    (s : State) (reply : Reply) (surfaced : List ℕ) (node : ℕ) (style : List ℕ) (lent : Lent)
    → length style ≡ style_words → node < items lent.styles
    → preview_replied s reply surfaced node style lent ≡ replied s reply surfaced (over_copy node style lent)

-- and so it is over a list of calls, each given what the call before it left, and all of them the same node and replacement: whatever is refused among
-- them, the opening too, they leave what the calls over the copy leave
unfoldable pub preview_next : ℕ → List ℕ → List ℕ → Outcome → Heard → Outcome
preview_next node style styles o h =
    preview_replied o.step.state h.reply h.surfaced node style
    (record { styles = styles; layouts = o.layouts; working = o.working; unclaimed = o.unclaimed; tally = o.tally })

abbrev pub PreviewIsTheCopy : Type 0
PreviewIsTheCopy =
    (o : Opening) (candidates : List ℕ) (node : ℕ) (style : List ℕ) (lent : Lent) (heard : List Heard)
    → length style ≡ style_words → node < items lent.styles
    → foldl (preview_next node style lent.styles) (preview_opened o candidates node style lent) heard
    ≡ foldl (next (with_style lent.styles node style)) (opened o candidates (over_copy node style lent)) heard

-- ---- refused with r exactly when the first condition that holds, in the order of the tests, bears r's number; accepted exactly when none holds

abbrev pub PreviewOpeningRefusedExactly : Type 0
PreviewOpeningRefusedExactly =
    (o : Opening) (candidates : List ℕ) (node : ℕ) (style : List ℕ) (lent : Lent) (r : Refusal)
    → ((preview_opened o candidates node style lent).step.answer ≡ Err r) ↔ FirstIs (preview_opening_tests o candidates node style lent) (number_of r)

abbrev pub PreviewOpeningAcceptedExactly : Type 0
PreviewOpeningAcceptedExactly =
    (o : Opening) (candidates : List ℕ) (node : ℕ) (style : List ℕ) (lent : Lent)
    → (is_err (preview_opened o candidates node style lent).step.answer ≡ false) ↔ NoneHolds (preview_opening_tests o candidates node style lent)

abbrev pub PreviewReplyRefusedExactly : Type 0
PreviewReplyRefusedExactly =
    (s : State) (reply : Reply) (surfaced : List ℕ) (node : ℕ) (style : List ℕ) (lent : Lent) (r : Refusal)
    → ((preview_replied s reply surfaced node style lent).step.answer ≡ Err r) ↔ FirstIs (preview_reply_tests s reply surfaced node style lent) (number_of r)

abbrev pub PreviewReplyAcceptedExactly : Type 0
PreviewReplyAcceptedExactly =
    (s : State) (reply : Reply) (surfaced : List ℕ) (node : ℕ) (style : List ℕ) (lent : Lent)
    → (is_err (preview_replied s reply surfaced node style lent).step.answer ≡ false) ↔ NoneHolds (preview_reply_tests s reply surfaced node style lent)

-- ---- a refused call writes no lent word. A refused reply returns the state as it came; a refused opening, that of a finished run with all counts 0

abbrev pub RefusedPreviewReplyKeeps : Type 0
RefusedPreviewReplyKeeps =
    (s : State) (reply : Reply) (surfaced : List ℕ) (node : ℕ) (style : List ℕ) (lent : Lent) (r : Refusal)
    → (preview_replied s reply surfaced node style lent).step.answer ≡ Err r
    → preview_replied s reply surfaced node style lent ≡ unwritten lent (record { state = s; answer = Err r })

abbrev pub RefusedPreviewOpeningKeeps : Type 0
RefusedPreviewOpeningKeeps =
    (o : Opening) (candidates : List ℕ) (node : ℕ) (style : List ℕ) (lent : Lent) (r : Refusal)
    → (preview_opened o candidates node style lent).step.answer ≡ Err r
    → preview_opened o candidates node style lent ≡ unwritten lent (record { state = closed lent; answer = Err r })

-- ---- whatever words the table has for the node, a record that breaks a rule among them, the replacement stands in their place: with others each call
-- leaves the same

abbrev pub LiveRecordHasNoSay : Type 0
LiveRecordHasNoSay =
    (o : Opening) (candidates : List ℕ) (s : State) (reply : Reply) (surfaced : List ℕ) (node : ℕ) (style words : List ℕ) (lent : Lent)
    → length words ≡ style_words → length style ≡ style_words → node < items lent.styles
    → let relent = over_copy node words lent in
    (preview_opened o candidates node style relent ≡ preview_opened o candidates node style lent)
    × (preview_replied s reply surfaced node style relent ≡ preview_replied s reply surfaced node style lent)

-- ---- and where the replacement is the table's own record of the node, each call is the live one

abbrev pub OwnRecordIsLive : Type 0
OwnRecordIsLive =
    (o : Opening) (candidates : List ℕ) (s : State) (reply : Reply) (surfaced : List ℕ) (node : ℕ) (lent : Lent)
    → node < items lent.styles
    → let live = record_at style_words lent.styles node in
    (preview_opened o candidates node live lent ≡ opened o candidates lent)
    × (preview_replied s reply surfaced node live lent ≡ replied s reply surfaced lent)

-- ---- in a list of calls

-- the same turn, over a copy of what other slices are lent with it
abbrev pub loan_over : ℕ → List ℕ → Loan → Loan
loan_over node style own = own
loan_over node style (other lent) = other (over_copy node style lent)

abbrev pub turn_over : ℕ → List ℕ → Turn → Turn
turn_over node style t = record { heard = t.heard; loan = loan_over node style t.loan }
