-- One box in the code's own cut: what is worked out anew at each call, from the words and from the replies kept. It is no second
-- definition: specs/Theorems.antt says that it is the dialogue of specs/Box.antt, cut at its questions. It is total where that dialogue
-- would never come, by words rewritten between calls or a forged state: a kept reply is used only for a side that is to be measured by
-- the words as they are now, and a side still absent when the box is laid out counts as 0 before the clamp. Assumes nothing.
use Rattle.std.specs.Prelude.{ℕ, Bool, cond, ◌&&◌, ◌||◌, Option, is_some, is_none, unwrap_or, Float, None, Some}
use Rattle.std.specs.declared.option.Option.TheVariants as option
use Rattle.geometry.specs.Geometry.{zero_size, absent_size, definite, both_present}
use Rattle.geometry.specs.declared.Rect.{Rect}
use Rattle.geometry.specs.declared.Size.{Size}
use Rattle.style.specs.declared.Style.{Style}
use Rattle.style.specs.declared.available_space.AvailableSpace.{AvailableSpace}
use Rattle.tree.specs.declared.layout.OofCandidate.{OofCandidate}
use Rattle.oof_resolve.specs.Resolved.{resolved_box}
use Rattle.oof_resolve.specs.declared.ContainingBlock.{ContainingBlock}
use Rattle.oof_resolve.specs.declared.ResolvedBox.{ResolvedBox}
use Rattle.oof_common.specs.declared.sizing_keyword.SizingKeywordResolution.{SizingKeywordResolution}
use Rattle.oof_common.specs.declared.sizing_keyword.SizingKeywordResolution.TheVariants.{Exact, Measure}
use Rattle.oof_box.specs.Box.{◌by◌, keyword_stretch, size_keywords, has_keyword, settled, both_input, width_input, height_input, fill_input, lay_out_input, stretched, final_size}
use Rattle.oof_box.specs.declared.question.Question.TheVariants as question
use Rattle.oof_box.specs.declared.question.Reply.{Reply}
use Rattle.oof_box.specs.declared.question.Reply.TheVariants as reply
use Rattle.oof_box.specs.declared.question.Stage.{Stage}
use Rattle.oof_box.specs.declared.question.Stage.TheVariants.{KeywordBoth, KeywordWidth, KeywordHeight, Fill, LayOut}
use Rattle.oof_box.specs.declared.question.Asked.{Asked}
use Rattle.oof_box.specs.declared.question.KeywordReply.{KeywordReply}
use Rattle.oof_box.specs.declared.question.KeywordReply.TheVariants as keyword
use Rattle.oof_box.specs.declared.question.Replies.{Replies}
use Rattle.oof_box.specs.declared.question.Taken.{Taken}
use Rattle.oof_box.specs.declared.question.Taken.TheVariants.{Kept, Laid}
use Rattle.oof_box.specs.declared.sizing.Sizing.{Sizing}
use Rattle.oof_box.specs.declared.sizing.Stretched.{Stretched}
use Rattle.oof_place.specs.Placing.{box_layout}
use Rattle.oof_place.specs.declared.OofBoxLayout.{OofBoxLayout}

-- ---- replies

abbrev pub no_replies : Replies
no_replies = record { keyword = option.None; fill = option.None }

abbrev pub with_keyword : Replies → KeywordReply → Taken
with_keyword r k = Kept (record { keyword = option.Some k; fill = r.fill })

abbrev pub with_fill : Replies → Size Float → Taken
with_fill r s = Kept (record { keyword = r.keyword; fill = option.Some s })

-- a reply to the question of a stage: kept, or the box is laid out; of another kind than the question, it comes to nothing
unfoldable pub taken : Replies → Stage → Reply → Option Taken
taken r KeywordBoth (reply.Both s) = option.Some (with_keyword r (keyword.Both s))
taken r KeywordWidth (reply.Width w) = option.Some (with_keyword r (keyword.Width w))
taken r KeywordHeight (reply.Height h) = option.Some (with_keyword r (keyword.Height h))
taken r Fill (reply.Both s) = option.Some (with_fill r s)
taken r LayOut (reply.LaidOut overflow) = option.Some (Laid overflow)
taken r _ _ = option.None

-- ---- sizes

-- the sides that a reply for size keywords gives
abbrev pub measured_sides : Option KeywordReply → Size (Option Float)
measured_sides option.None = absent_size
measured_sides (option.Some (keyword.Both s)) = definite s
measured_sides (option.Some (keyword.Width w)) = Some w by None
measured_sides (option.Some (keyword.Height h)) = None by Some h

-- a side by its keyword: as known, exact, or as measured
abbrev pub side_by : Option SizingKeywordResolution → Option Float → Option Float → Option Float
side_by option.None side reply = side
side_by (option.Some (Exact x)) side reply = Some x
side_by (option.Some (Measure space)) side reply = reply

-- step 4: known sizes by the reply for size keywords
unfoldable pub known_by : Style → ResolvedBox → Size (Option SizingKeywordResolution) → Option KeywordReply → Size (Option Float)
known_by style box keywords reply =
    cond (has_keyword keywords)
    (settled style.ratio box
    (side_by keywords.width box.size.width (measured_sides reply).width
    by side_by keywords.height box.size.height (measured_sides reply).height))
    box.size

-- what a size is worked out from
pub record SizedBy : Type 0 where
  pub style : Style
  pub resolved : ResolvedBox
  pub keywords : Size (Option SizingKeywordResolution)
  pub replies : Replies

abbrev pub sizing : Style → ResolvedBox → Size (Option SizingKeywordResolution) → Replies → SizedBy
sizing style box keywords replies = record { style = style; resolved = box; keywords = keywords; replies = replies }

-- the code has style and resolved box by reference
abbrev pub sized_by : Sizing → SizedBy
sized_by s = sizing s.style.now s.resolved.now s.keywords s.replies

-- step 5
unfoldable pub stretched_by : SizedBy → Stretched
stretched_by s = stretched s.style s.resolved (known_by s.style s.resolved s.keywords s.replies.keyword)

-- step 6; before a reply, nothing was measured
unfoldable pub size_by : SizedBy → Size Float
size_by s = final_size s.resolved (stretched_by s) (unwrap_or s.replies.fill zero_size)

-- ---- questions

abbrev pub both_asked : ℕ → AvailableSpace → AvailableSpace → Asked
both_asked node spaceX spaceY = record { stage = KeywordBoth; question = question.MeasureBoth (both_input node spaceX spaceY) }

abbrev pub width_asked : ℕ → AvailableSpace → Size (Option Float) → Size Float → Asked
width_asked node spaceX known stretch =
    record { stage = KeywordWidth; question = question.MeasureWidth (width_input node spaceX known stretch) }

abbrev pub height_asked : ℕ → Option Float → AvailableSpace → Size (Option Float) → Size Float → Asked
height_asked node width spaceY known stretch =
    record { stage = KeywordHeight; question = question.MeasureHeight (height_input node spaceY (width by known.height) stretch) }

-- step 4: the question for size keywords, if a side is to be measured
unfoldable pub keyword_asked : ℕ → Option SizingKeywordResolution → Option SizingKeywordResolution → Size (Option Float) → Size Float → Option Asked
keyword_asked node (option.Some (Measure spaceX)) (option.Some (Measure spaceY)) known stretch = option.Some (both_asked node spaceX spaceY)
keyword_asked node (option.Some (Measure spaceX)) _ known stretch = option.Some (width_asked node spaceX known stretch)
keyword_asked node (option.Some (Exact w)) (option.Some (Measure spaceY)) known stretch =
    option.Some (height_asked node (Some w) spaceY known stretch)
keyword_asked node option.None (option.Some (Measure spaceY)) known stretch =
    option.Some (height_asked node known.width spaceY known stretch)
keyword_asked node _ _ known stretch = option.None

abbrev pub fill_asked : ℕ → Size (Option Float) → Size AvailableSpace → Asked
fill_asked node known space = record { stage = Fill; question = question.MeasureBoth (fill_input node known space) }

abbrev pub lay_out_asked : ℕ → Size Float → Size AvailableSpace → Asked
lay_out_asked node size space = record { stage = LayOut; question = question.LayOut (lay_out_input node size space) }

-- steps 5 and 6: measure what is still absent, once; else lay out
unfoldable pub size_asked : ℕ → SizedBy → Asked
size_asked node s =
    let known = (stretched_by s).known in
    cond (is_some s.replies.fill || both_present known) (lay_out_asked node (size_by s) s.resolved.space)
    (fill_asked node known s.resolved.space)

-- nothing was replied so far
abbrev pub is_first : Replies → Bool
is_first r = is_none r.fill && is_none r.keyword

-- the question after the replies kept, of a box that is resolved
unfoldable pub asked_of : ℕ → SizedBy → Asked
asked_of node s =
    let later = size_asked node s in
    cond (is_first s.replies)
    (unwrap_or (keyword_asked node s.keywords.width s.keywords.height s.resolved.size (keyword_stretch s.resolved)) later)
    later

unfoldable pub asked_after : ContainingBlock → Style → OofCandidate → Replies → Asked
asked_after container style candidate replies =
    let box = resolved_box container style candidate in
    asked_of candidate.node (sizing style box (size_keywords style box) replies)

-- the layout after the replies kept, once the box is laid out
unfoldable pub layout_after : ContainingBlock → Style → OofCandidate → Replies → Rect Float → OofBoxLayout
layout_after container style candidate replies overflow =
    let box = resolved_box container style candidate in
    box_layout container style candidate box (size_by (sizing style box (size_keywords style box) replies)) overflow
