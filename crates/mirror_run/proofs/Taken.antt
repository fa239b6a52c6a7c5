-- A reply of whole quarter pixels that is taken keeps the replies so. Assumes nothing.
use Rattle.std.specs.Prelude.{Option, None, Some}
use Rattle.oof_box.specs.Cut.{taken}
use Rattle.oof_box.specs.declared.question.Reply.{Reply}
use Rattle.oof_box.specs.declared.question.Reply.TheVariants.{Both, Width, Height, LaidOut}
use Rattle.oof_box.specs.declared.question.Replies.{Replies}
use Rattle.oof_box.specs.declared.question.Stage.{Stage}
use Rattle.oof_box.specs.declared.question.Stage.TheVariants as stage
use Rattle.oof_box.specs.declared.question.Taken.{Taken}
use Rattle.oof_box.specs.declared.question.Taken.TheVariants.{Kept, Laid}
use Rattle.run.specs.Run.{taken_in}
use Rattle.mirror_box.specs.Quarter.{QuarterReplies, QuarterOverflow}
use Rattle.mirror_run.specs.Quarter.{QuarterReply}

-- what is left of a reply
abbrev pub QuarterTaken : Option Taken → Type 0
QuarterTaken None = Unit {0}
QuarterTaken (Some (Kept replies)) = QuarterReplies replies
QuarterTaken (Some (Laid overflow)) = QuarterOverflow overflow

module _ (r : Replies) (q : QuarterReplies r) where
  taken_lem : (at : Stage) (reply : Reply) → QuarterReply reply → QuarterTaken (taken r at reply)
  unfolding taken
  taken_lem stage.KeywordBoth (Both s) h = record { keyword = h.0; fill = q.fill }
  taken_lem stage.KeywordWidth (Width w) h = record { keyword = h; fill = q.fill }
  taken_lem stage.KeywordHeight (Height x) h = record { keyword = tt; fill = q.fill }
  taken_lem stage.Fill (Both s) h = record { keyword = q.keyword; fill = h.0 }
  taken_lem stage.LayOut (LaidOut o) h = record { left = h.0; right = h.1 }
  taken_lem _ _ h = tt

  pub quarter_taken : (at : Option Stage) (reply : Reply) → QuarterReply reply → QuarterTaken (taken_in at r reply)
  quarter_taken None reply h = tt
  quarter_taken (Some at) reply h = taken_lem at reply h
