-- A preview (request #109, "Try a style first"): each call is lent one replacement style for one node. Where the replacement is one style record and
-- the node is below n, the call is that of a run over a copy of the table, as lent to this call, with that style written in; else it is refused.
-- "works in lists, layouts and #107 counts of its own": layouts, lists and tally of `Lent`, and the state, are the preview's. "The live table and run
-- keep every word": table and replacement are lent to be read only (`&[u32]` of `preview::open` and `preview::reply`), so that they are no part of an
-- outcome; that the live run's slices aren't lent in place of the preview's is the host's part. That a host lends the same replacement and node at
-- each call is tested nowhere: a call with others is the one over the copy with those. Assumes nothing.
use Rattle.std.specs.Prelude.{ℕ, Bool, not, ◌||◌, List, eqb, leb, length, Ok, Err}
use Rattle.refusal.specs.declared.Refusal.TheVariants.{BadArea, BadExtent, BadCandidate}
use Rattle.style_record.specs.Record.{style_words, items}
use Rattle.style_record.specs.Table.{with_style}
use Rattle.oof_box.specs.declared.question.Reply.{Reply}
use Rattle.run.specs.declared.Opening.{Opening}
use Rattle.run.specs.declared.State.{State}
use Rattle.run.specs.Call.{Lent, Outcome}
use Rattle.run.specs.Refusals.{Verdict, accepted, ◌when◌else◌, bad_area, bad_at_opening, bad_at_reply, lent_by}
use Rattle.run.specs.Run.{opened, replied, refusing_opening, refusing}

-- the words lent, with the copy in place of the table
abbrev pub over_copy : ℕ → List ℕ → Lent → Lent
over_copy node style lent =
    record { styles = with_style lent.styles node style; layouts = lent.layouts; working = lent.working; unclaimed = lent.unclaimed; tally = lent.tally }

-- "A replacement that isn't one style record is a bad extent": it hasn't a record's words in number. Words that break a rule are test 3's, of the copy
abbrev pub bad_replacement : List ℕ → Bool
bad_replacement style = not (eqb (length style) style_words)

-- "A node that isn't below n is a bad candidate, tested right after the extents"
abbrev pub bad_node : List ℕ → ℕ → Bool
bad_node styles node = leb (items styles) node

-- ---- an opening

-- what comes before the copy's tests: 1 and 2, then the node. They look at what is lent: before they pass it need be no copy
unfoldable pub opening_before_copy : Opening → List ℕ → ℕ → List ℕ → Lent → Verdict
opening_before_copy o candidates node style lent =
    BadArea when bad_area o else
    BadExtent when (bad_at_opening candidates lent || bad_replacement style) else
    BadCandidate when bad_node lent.styles node else
    accepted

-- "all other checks are those of the copy", and so is all else
abbrev pub preview_opened_by : Verdict → Opening → List ℕ → ℕ → List ℕ → Lent → Outcome
preview_opened_by (Err r) o candidates node style lent = refusing_opening lent r
preview_opened_by (Ok tt) o candidates node style lent = opened o candidates (over_copy node style lent)

unfoldable pub preview_opened : Opening → List ℕ → ℕ → List ℕ → Lent → Outcome
preview_opened o candidates node style lent =
    preview_opened_by (opening_before_copy o candidates node style lent) o candidates node style lent

-- ---- a reply

-- what comes before the copy's tests: 2, then the node
unfoldable pub reply_before_copy : State → Reply → List ℕ → ℕ → List ℕ → Lent → Verdict
reply_before_copy s reply surfaced node style lent =
    BadExtent when (bad_at_reply s.opened.extents (lent_by reply surfaced) lent || bad_replacement style) else
    BadCandidate when bad_node lent.styles node else
    accepted

abbrev pub preview_replied_by : Verdict → State → Reply → List ℕ → ℕ → List ℕ → Lent → Outcome
preview_replied_by (Err r) s reply surfaced node style lent = refusing s lent r
preview_replied_by (Ok tt) s reply surfaced node style lent = replied s reply surfaced (over_copy node style lent)

unfoldable pub preview_replied : State → Reply → List ℕ → ℕ → List ℕ → Lent → Outcome
preview_replied s reply surfaced node style lent =
    preview_replied_by (reply_before_copy s reply surfaced node style lent) s reply surfaced node style lent
