-- What `boxlist` prints (document 01, "Program `boxlist`") and what `boxreach` prints (request #102): `printed`, the last definition, of any
-- text. Assumes nothing.
use Rattle.std.specs.Prelude.{ℕ, ◌+◌, ◌*◌, cond, List, [], get_or, replicate, Result, Ok, Err, Float}
use Rattle.geometry.specs.declared.Rect.{Rect}
use Rattle.refusal.specs.declared.Refusal.{Refusal}
use Rattle.refusal.specs.Refusal.{number_of}
use Rattle.refusal.specs.declared.Refusal.TheVariants.{BadScreenLine}
use Rattle.boxlist_lines.specs.Lines.{ROW, OVERFLOW, list_text, refusal_text}
use Rattle.screen_fields.specs.Format.{MAX_CANDIDATES}
use Rattle.screen.specs.Screen.{is_screen, item_count, header_of, styles_of, replies_of, candidates_of}
use Rattle.tree_record.specs.Candidate.{candidate_width}
use Rattle.tree_record.specs.Layout.{layout_width, area_of}
use Rattle.run.specs.declared.Opening.{Opening}
use Rattle.run.specs.declared.Answer.{Answer}
use Rattle.run.specs.declared.Answer.TheVariants.{Ask, Finish}
use Rattle.run.specs.declared.State.{State}
use Rattle.run.specs.Call.{Slices, Lent, Outcome, slices}
use Rattle.script.specs.Script.{played_out}
use Rattle.boxlist_print.specs.declared.Listing.{Listing}
use Rattle.boxlist_print.specs.declared.Listing.TheVariants.{Boxes, Verdicts}
use Rattle.boxlist_print.specs.Rows.{rows_at}
use Rattle.boxlist_print.specs.Verdicts.{verdicts_text}

-- the bytes of the longest list: the names, a row for each candidate, the overflow rectangle
abbrev pub LIST_BYTES : ℕ
LIST_BYTES = (1 + MAX_CANDIDATES) * ROW + OVERFLOW

-- ---- from a run to its list

-- a finished run: its boxes and its overflow rectangle, the claimed records being the filled ones of the working list; or its verdicts
abbrev pub finished_text : Listing → State → Rect Float → Slices → List ℕ
finished_text Boxes s overflow lent = list_text (rows_at lent.working s.counts.filled.working lent.layouts) overflow
finished_text Verdicts s overflow lent = verdicts_text s lent

-- a run over these styles. One that is played out never stands at a question
abbrev pub list_by : Listing → List ℕ → Result Answer Refusal → Outcome → List ℕ
list_by listing styles (Ok (Ask q)) o = []
list_by listing styles (Ok (Finish f)) o = finished_text listing o.step.state f.overflow (slices styles o.layouts o.working o.unclaimed)
list_by listing styles (Err r) o = refusal_text (number_of r)

unfoldable pub list_of : Listing → List ℕ → Outcome → List ℕ
list_of listing styles o = list_by listing styles o.step.answer o

-- ---- from a screen to a run

-- the first line: area width, height, offset x, offset y; direction, claims, overflow x, overflow y
unfoldable pub opening_of : List ℕ → Opening
opening_of header =
    record {
      area = area_of header 0;
      direction = get_or header 4 0;
      claims = get_or header 5 0;
      overflowx = get_or header 6 0;
      overflowy = get_or header 7 0;
    }

-- lists that hold all candidates, whichever are claimed
abbrev pub list_words : ℕ
list_words = MAX_CANDIDATES * candidate_width

-- the styles of n items, and zeros to write into
abbrev pub lent_for : List ℕ → ℕ → Lent
lent_for styles n =
    record {
      styles = styles;
      layouts = replicate (n * layout_width) 0;
      working = replicate list_words 0;
      unclaimed = replicate list_words 0;
      tally = replicate n 0;
    }

-- the list of the run that a header, styles, replies and candidates script
abbrev pub list_from : Listing → List ℕ → List ℕ → ℕ → List ℕ → List ℕ → List ℕ
list_from listing header styles n replies candidates = list_of listing styles (played_out (opening_of header) replies candidates (lent_for styles n))

-- ---- from a text to what is printed

-- the run of a screen, played out
abbrev pub run_of : List ℕ → Outcome
run_of text = played_out (opening_of (header_of text)) (replies_of text) (candidates_of text) (lent_for (styles_of text) (item_count text))

-- refusal 8 is tested first: what is no screen opens no run
unfoldable pub printed : Listing → List ℕ → List ℕ
printed listing text =
    cond (is_screen text) (list_of listing (styles_of text) (run_of text))
    (refusal_text (number_of BadScreenLine))
