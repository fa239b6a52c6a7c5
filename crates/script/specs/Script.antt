-- A run played out with scripted replies (document 01, "Program boxlist": an item line has "measured width and height, overflow left
-- right top bottom. .. No box surfaces any"). Read `played_out`, the last one, first. Assumes nothing.
use Rattle.std.specs.Prelude.{ℕ, zero, suc, ◌+◌, ◌*◌, ◌/◌, List, [], length, Float, Result, Ok, Err}
use Rattle.geometry.specs.declared.Rect.{Rect}
use Rattle.geometry.specs.declared.Size.{Size}
use Rattle.records.specs.Records.{float_at}
use Rattle.tree_record.specs.Candidate.{candidate_width}
use Rattle.screen_fields.specs.Format.{reply_width}
use Rattle.oof_box.specs.declared.question.Question.{Question}
use Rattle.oof_box.specs.declared.question.Question.TheVariants.{MeasureBoth, MeasureWidth, MeasureHeight, LayOut}
use Rattle.oof_box.specs.declared.question.Reply.{Reply}
use Rattle.oof_box.specs.declared.question.Reply.TheVariants.{Both, Width, Height, LaidOut}
use Rattle.refusal.specs.declared.Refusal.{Refusal}
use Rattle.run.specs.declared.Opening.{Opening}
use Rattle.run.specs.declared.Answer.{Answer}
use Rattle.run.specs.declared.Answer.TheVariants.{Ask, Finish}
use Rattle.run.specs.Call.{Lent, Outcome}
use Rattle.run.specs.Run.{opened}
use Rattle.run.specs.Theorems.{next}

-- ---- replies

-- the float of word k of a node's replies: measured width and height; overflow left, right, top, bottom
unfoldable pub scripted : List ℕ → ℕ → ℕ → Float
scripted replies node k = float_at replies (reply_width * node + k)

abbrev pub scripted_size : List ℕ → ℕ → Size Float
scripted_size replies node = record { width = scripted replies node 0; height = scripted replies node 1 }

abbrev pub scripted_overflow : List ℕ → ℕ → Rect Float
scripted_overflow replies node =
    record { left = scripted replies node 2; right = scripted replies node 3; top = scripted replies node 4; bottom = scripted replies node 5 }

-- the reply to a question: of its kind, by the words of its node
abbrev pub scripted_reply : List ℕ → Question → Reply
scripted_reply replies (MeasureBoth q) = Both (scripted_size replies q.node)
scripted_reply replies (MeasureWidth q) = Width (scripted replies q.node 0)
scripted_reply replies (MeasureHeight q) = Height (scripted replies q.node 1)
scripted_reply replies (LayOut q) = LaidOut (scripted_overflow replies q.node)

-- ---- a run

abbrev pub played_by : Result Answer Refusal → List ℕ → List ℕ → Outcome → Outcome
played_by (Ok (Ask q)) replies styles o = next styles o (record { reply = scripted_reply replies q; surfaced = [] })
played_by (Ok (Finish f)) replies styles o = o
played_by (Err r) replies styles o = o

-- the open question is given its scripted reply, with no surfaced record; a finish or a refusal stays
unfoldable pub played_on : List ℕ → List ℕ → Outcome → Outcome
played_on replies styles o = played_by o.step.answer replies styles o

-- so many times
unfoldable pub played : ℕ → List ℕ → List ℕ → Outcome → Outcome
played zero replies styles o = o
played (suc n) replies styles o = played n replies styles (played_on replies styles o)

-- a run opened, then played out: at most three questions a box, and a box is one of the candidates
unfoldable pub played_out : Opening → List ℕ → List ℕ → Lent → Outcome
played_out o replies candidates lent =
    played (3 * (length candidates / candidate_width)) replies lent.styles (opened o candidates lent)
