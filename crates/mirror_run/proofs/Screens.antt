-- Screens that are computed: one that meets all that demand 3 asks, and for each thing asked one that lacks it alone. Assumes nothing.
use Prim.Native.Nat.{ℕ, ◌+◌, ◌*◌}
use mathlib.Core.Path.{◌≡◌, refl}
use mathlib.Core.Bool.{true, false}
use mathlib.Core.List.{List, [], ◌∷◌, ◌++◌, foldl, map}
use lib.ListN.{replicate}
use lib.Ieee.{Float, add, sub, mul, div, neg, lt, le, eq, is_nan, sum, round, units, odd, size, span, climb, of_bits, to_bits, of_fields, nan_bits, binary32}
use Rattle.std.specs.Prelude.{Some, Result, Ok, Err}
use Rattle.util.specs.Order as util-order
use Rattle.util.specs.Maybe as util-maybe
use Rattle.geometry.specs.Geometry as geometry-geometry
use Rattle.style.specs.Resolve as style-resolve
use Rattle.style.specs.Values as style-values
use Rattle.style.specs.Codes as style-codes
use Rattle.style_record.specs.Record.{style_words}
use Rattle.style_record.specs.Record as style-record-record
use Rattle.style_record.specs.Check as style-record-check
use Rattle.style_record.specs.Decode as style-record-decode
use Rattle.records.specs.Records as records-records
use Rattle.tree.specs.Codes as tree-codes
use Rattle.tree.specs.Static as tree-static
use Rattle.tree_record.specs.Candidate.{candidate_width}
use Rattle.tree_record.specs.Candidate as tree-record-candidate
use Rattle.tree_record.specs.Layout.{layout_width}
use Rattle.tree_record.specs.Layout as tree-record-layout
use Rattle.sweep.specs.Sweep.{layers_of}
use Rattle.sweep.specs.Sweep as sweep-sweep
use Rattle.oof_axis.specs.Axis as oof-axis-axis
use Rattle.oof_common.specs.SizingKeyword as common-sizingkeyword
use Rattle.oof_common.specs.ScrollableOverflow as common-scrollableoverflow
use Rattle.oof_resolve.specs.Resolved as oof-resolve-resolved
use Rattle.oof_place.specs.Placing as oof-place-placing
use Rattle.oof_box.specs.Box as oof-box-box
use Rattle.oof_box.specs.Cut as oof-box-cut
use Rattle.run.specs.Refusals as run-refusals
use Rattle.run.specs.Run as run-run
use Rattle.mirror_box.specs.Image as mirror-box-image
use Rattle.refusal.specs.declared.Refusal.{Refusal}
use Rattle.refusal.specs.Refusal as refusal
use Rattle.run.specs.Theorems as theorems
use Rattle.style.specs.declared.available_space.AvailableSpace.{AvailableSpace}
use Rattle.style.specs.declared.available_space.AvailableSpace.TheVariants.{Definite, MinContent, MaxContent}
use Rattle.tree.specs.declared.layout.OofCandidate.{OofCandidate}
use Rattle.oof_box.specs.declared.question.Question.{Question}
use Rattle.oof_box.specs.declared.question.Question.TheVariants.{MeasureBoth, MeasureWidth, MeasureHeight, LayOut}
use Rattle.oof_box.specs.declared.question.Reply.{Reply}
use Rattle.oof_box.specs.declared.question.Reply.TheVariants.{Both, Width, LaidOut}
use Rattle.oof_box.specs.declared.question.Stage.TheVariants as stage
use Rattle.run.specs.declared.Opening.{Opening}
use Rattle.run.specs.declared.Answer.{Answer}
use Rattle.run.specs.declared.Answer.TheVariants.{Ask, Finish}
use Rattle.run.specs.Call.{Lent, Outcome}
use Rattle.run.specs.Run.{opened, extents_of}
use Rattle.run.specs.Theorems.{Loan, own, other, Turn, laid_so_far, claimed_so_far}
use Rattle.mirror_run.specs.Image.{image_opening, image_styles, image_candidates, other_direction, other_edge, counterpart, image_style, reflected_word, image_candidate, listed, each_record}
use Rattle.mirror_run.specs.Runs.{Message, run_next, image_next, is_unread, surfaced_in, unclaimed_so_far, layout_of_box}

-- ---- words

-- a length by its tag and value. Its second value, which these tags ignore, is a NaN
abbrev length_of : ℕ → ℕ → List ℕ
length_of tag value = tag ∷ value ∷ 2143289345 ∷ []

abbrev px : ℕ → List ℕ
px value = length_of 1 value

abbrev auto : List ℕ
auto = length_of 3 0

abbrev as_content : List ℕ
as_content = length_of 11 0

-- left and right; top and bottom are 0
abbrev sides : List ℕ → List ℕ → List ℕ
sides left right = left ++ right ++ px 0 ++ px 0

-- no ratio; all else as plain as can be
abbrev codes : List ℕ
codes = 0 ∷ 0 ∷ 0 ∷ 0 ∷ 0 ∷ 10 ∷ 0 ∷ 10 ∷ 0 ∷ 0 ∷ 0 ∷ 0 ∷ 0 ∷ []

abbrev style : List ℕ → List ℕ → List ℕ → List ℕ → List ℕ → List ℕ
style inset margin padding border size = inset ++ margin ++ padding ++ border ++ size ++ auto ++ auto ++ auto ++ auto ++ codes

-- neither margins nor padding nor border
abbrev plain : List ℕ → List ℕ → List ℕ
plain inset size = style inset (sides (px 0) (px 0)) (sides (px 0) (px 0)) (sides (px 0) (px 0)) size

abbrev no_insets : List ℕ
no_insets = auto ++ auto ++ auto ++ auto

-- in y at 0; the position is absolute (2) or fixed (3)
abbrev on_layer : ℕ → ℕ → ℕ → ℕ → ℕ → ℕ → List ℕ
on_layer layer position node x edge safety = node ∷ 0 ∷ position ∷ x ∷ x ∷ edge ∷ safety ∷ edge ∷ 0 ∷ 0 ∷ 0 ∷ 0 ∷ 0 ∷ layer ∷ []

abbrev candidate : ℕ → ℕ → ℕ → ℕ → ℕ → List ℕ
candidate position node x edge safety = on_layer 0 position node x edge safety

abbrev pub word : ℕ → Float
word w = of_bits binary32 w

-- left-to-right, absolute boxes claimed, nothing clipped
abbrev screen : ℕ → ℕ → ℕ → Opening
screen width height x =
    record {
      area = record { size = record { width = word width; height = word height }; offset = record { x = word x; y = word 0 } };
      direction = 0;
      claims = 1;
      overflowx = 0;
      overflowy = 0;
    }

-- layouts and lists of so many records, and a tally of as many words as layouts: all of them one word
abbrev lent_with : List ℕ → ℕ → ℕ → ℕ → ℕ → Lent
lent_with styles filler layouts working unclaimed =
    record {
      styles = styles;
      layouts = replicate (layout_width * layouts) filler;
      working = replicate (candidate_width * working) filler;
      unclaimed = replicate (candidate_width * unclaimed) filler;
      tally = replicate layouts filler;
    }

abbrev pub turn : Reply → List ℕ → Loan → Turn
turn reply surfaced loan = record { heard = record { reply = reply; surfaced = surfaced }; loan = loan }

-- the same to both, with their own slices
abbrev to_both : Reply → List ℕ → Message
to_both reply surfaced = record { turn = turn reply surfaced own; image = turn reply surfaced own }

abbrev pub nothing : Reply
nothing = LaidOut (record { left = word 0; right = word 0; top = word 0; bottom = word 0 })

-- ---- a screen of 100 by 50 at 8: a box with auto margins, a safe one centered at 30, as wide as its content and of auto height, and the first
-- again; at 30 a fixed one, which nobody claims. They are on layers 9, 0, 3 and 255

abbrev pub panel : Opening
panel = screen 1120403456 1112014848 1090519040

abbrev pub table : List ℕ
table =
    style (sides (px 1092616192) (px 1101004800)) (auto ++ auto ++ px 0 ++ px 0) (sides (px 1067450368) (px 0)) (sides (px 0) (px 1073741824)) (px 1106247680 ++ px 1092616192)
    ++ plain no_insets (as_content ++ auto)

abbrev pub four : List ℕ
four = on_layer 9 2 0 0 0 0 ++ on_layer 255 3 1 1106247680 0 0 ++ candidate 2 1 1106247680 1 2 ++ on_layer 3 2 0 0 0 0

-- the words of the run's lists are zeros at first, those of its image sevens
abbrev pub lent : Lent
lent = lent_with table 0 2 3 2

abbrev pub lent' : Lent
lent' = lent_with (image_styles table) 7 2 3 2

-- slices as long, whose words are all one word
abbrev pub all_of : ℕ → Lent
all_of filler = lent_with (replicate (style_words * 2) filler) filler 2 3 2

-- a width of NaN for a box that is to be laid out: refused, so that any words may be lent
abbrev pub wrong_kind : Message
wrong_kind = record { turn = turn (Width (word 2143289344)) (1 ∷ []) (other (all_of 1)); image = turn (Width (word 2143289344)) (2 ∷ []) (other (all_of 0)) }

-- it is laid out, but both are lent a tally with words above the count, which is 0: refused, so that all other words may be any
abbrev pub miscounted : Message
miscounted = record { turn = turn nothing [] (other (all_of 1)); image = turn nothing [] (other (all_of 2)) }

-- the first box is laid out, and surfaces a fixed one at 0, on layer 4
abbrev pub surfaces_fixed : Message
surfaces_fixed = to_both nothing (on_layer 4 3 1 0 0 0)

-- the second one is measured as 20.25 wide; the surfaced words that are lent with it differ
abbrev pub measured : Message
measured = record { turn = turn (Width (word 1101135872)) (1 ∷ []) own; image = turn (Width (word 1101135872)) (2 ∷ []) own }

-- and then, of its known width, as 10 high
abbrev pub measured_again : Message
measured_again = to_both (Both (record { width = word 1101135872; height = word 1092616192 })) []

abbrev pub laid_out : Message
laid_out = to_both nothing []

-- slices of other lengths
abbrev pub wrong_lengths : Message
wrong_lengths = record { turn = turn nothing [] (other (lent_with [] 1 0 1 0)); image = turn nothing [] (other (lent_with [] 2 0 1 0)) }

abbrev pub replies : List Message
replies = wrong_kind ∷ miscounted ∷ surfaces_fixed ∷ measured ∷ measured_again ∷ laid_out ∷ wrong_lengths ∷ laid_out ∷ []

abbrev pub after : List Message → Outcome
after messages = foldl (run_next table) (opened panel four lent) messages

abbrev pub image_after : List Message → Outcome
image_after messages = foldl (image_next (image_styles table)) (opened (image_opening panel) (image_candidates panel.area four) lent') messages

-- what a run answered, in numbers: a question 0, a finish 10 and its count, a refusal 20 and its number
abbrev pub number : Result Answer Refusal → ℕ
number (Ok (Ask q)) = 0
number (Ok (Finish f)) = 10 + f.count
number (Err r) = 20 + refusal.number_of r

abbrev pub number_after : Outcome → ℕ
number_after o = number o.step.answer

-- x and width of a box, as words
abbrev place_words : Outcome → ℕ → List ℕ
place_words o i = to_bits binary32 (layout_of_box o i).location.x ∷ to_bits binary32 (layout_of_box o i).size.width ∷ []

abbrev figures : Outcome → List ℕ
figures o = number_after o ∷ laid_so_far o ∷ (place_words o 0 ++ place_words o 1 ++ place_words o 2)

-- where the unclaimed records start
abbrev unclaimed_words : Outcome → List ℕ
unclaimed_words o = map (λ (c : OofCandidate). to_bits binary32 c.place.x.area.start) (unclaimed_so_far o)

-- the layers of the claimed records, then of the unclaimed ones
abbrev layers_after : Outcome → List ℕ
layers_after o = layers_of (claimed_so_far o) ++ layers_of (unclaimed_so_far o)

-- ---- screens of one box that lack one thing

-- a run and its image, over lists of two records
abbrev pub ran : Opening → List ℕ → List ℕ → List Message → Outcome
ran o styles candidates messages = foldl (run_next styles) (opened o candidates (lent_with styles 0 1 2 2)) messages

abbrev pub image_ran : Opening → List ℕ → List ℕ → List Message → Outcome
image_ran o styles candidates messages =
    foldl (image_next (image_styles styles)) (opened (image_opening o) (image_candidates o.area candidates) (lent_with (image_styles styles) 0 1 2 2)) messages

-- the image over the run's own styles
abbrev pub unflipped : Opening → List ℕ → List ℕ → List Message → Outcome
unflipped o styles candidates messages =
    foldl (image_next styles) (opened (image_opening o) (image_candidates o.area candidates) (lent_with styles 0 1 2 2)) messages

-- a box of no size; as wide as its content; between insets of 0.05 and 0.1; 2 wide and 0.25 high, its left inset -1
abbrev pub still : List ℕ
still = plain no_insets (px 0 ++ px 0)

abbrev pub content : List ℕ
content = plain no_insets (as_content ++ px 1048576000)

abbrev pub tenths : List ℕ
tenths = plain (sides (px 1028443341) (px 1036831949)) (px 0 ++ px 0)

abbrev pub ahead : List ℕ
ahead = plain (px 3212836864 ++ auto ++ px 0 ++ px 0) (px 1073741824 ++ px 1048576000)

-- its static position: at 0, from there on; centered at 0.25; up to 0.05
abbrev pub at_start : List ℕ
at_start = candidate 2 0 0 0 0

abbrev pub centered : List ℕ
centered = candidate 2 0 1048576000 1 0

abbrev pub up_to : List ℕ
up_to = candidate 2 0 1028443341 2 0

-- areas of width 0, 0.25 and 4.5 at 0, 0.5 wide at 0.1, and 0.25 wide at 2,097,152
abbrev pub narrow : Opening
narrow = screen 0 0 0

abbrev pub small : Opening
small = screen 1048576000 1048576000 0

abbrev pub wide : Opening
wide = screen 1083179008 1048576000 0

abbrev pub aside : Opening
aside = screen 1056964608 1048576000 1036831949

abbrev pub far : Opening
far = screen 1048576000 1048576000 1241513984

-- the box surfaces another, which is claimed; it is measured as 0.1 wide, and laid out
abbrev pub surfacing : List Message
surfacing = to_both nothing at_start ∷ []

abbrev pub tenth : List Message
tenth = to_both (Width (word 1036831949)) [] ∷ laid_out ∷ []

-- it is laid out, and the image alone is lent slices of other lengths
abbrev pub shorter : List Message
shorter = record { turn = turn nothing [] own; image = turn nothing [] (other (lent_with [] 0 0 1 0)) } ∷ []

-- it is laid out, and the run alone is lent a table of twos, which is no table of styles
abbrev pub bad_table : List Message
bad_table = record { turn = turn nothing [] (other (lent_with (replicate style_words 2) 0 1 2 2)); image = turn nothing [] own } ∷ []

-- it is laid out, and the run alone is lent a tally of ones, which are above the count
abbrev pub ones : Lent
ones = lent_with still 1 1 2 2

abbrev pub above : Message
above = record { turn = turn nothing [] (other ones); image = turn nothing [] own }

-- an opening that claims 4 is refused. It leaves the tallies as they were lent: a 7 for the run, a 9 for its image
abbrev pub unknown_claims : Opening
unknown_claims = record { area = small.area; direction = 0; claims = 4; overflowx = 0; overflowy = 0 }

abbrev pub sevens : Lent
sevens = lent_with still 7 1 2 2

abbrev pub nines : Lent
nines = lent_with (image_styles still) 9 1 2 2

abbrev pub kept : Outcome
kept = opened unknown_claims at_start sevens

abbrev pub image_kept : Outcome
image_kept = opened (image_opening unknown_claims) (image_candidates unknown_claims.area at_start) nines

-- one number that an answer tells: the space across that a question offers, or how far a finish reaches to the left
abbrev space_in : Question → AvailableSpace
space_in (MeasureBoth m) = m.space.width
space_in (MeasureWidth m) = m.space.width
space_in (MeasureHeight m) = m.space.width
space_in (LayOut l) = l.space.width

abbrev pub definite_in : AvailableSpace → Float
definite_in (Definite x) = x
definite_in MinContent = word 0
definite_in MaxContent = word 0

abbrev pub told : Result Answer Refusal → Float
told (Ok (Ask q)) = definite_in (space_in q)
told (Ok (Finish f)) = f.overflow.left
told (Err r) = word 0

-- the run tells x and its image x', by their bits, and these are different numbers
pub record Differ (o : Opening) (styles candidates : List ℕ) (messages : List Message) (x x' : ℕ) : Type 0 where
  pub run : to_bits binary32 (told (ran o styles candidates messages).step.answer) ≡ x
  pub image : to_bits binary32 (told (image_ran o styles candidates messages).step.answer) ≡ x'
  pub differ : eq (told (ran o styles candidates messages).step.answer) (told (image_ran o styles candidates messages).step.answer) ≡ false

-- ---- computed

pub record Computed : Type 0 where
  -- at first the run waits for a box to be laid out, and no question is answered
  pub waiting : (after []).step.state.progress ≡ Some stage.LayOut
  pub none_answered : (after (wrong_kind ∷ [])).step.state.counts.answered ≡ 0
  -- two refusals 6 and a refusal 2 among the answers
  pub kind : is_unread (after (wrong_kind ∷ [])).step.answer ≡ true
  pub count : is_unread (after (wrong_kind ∷ miscounted ∷ [])).step.answer ≡ true
  pub lengths : is_unread (after (wrong_kind ∷ miscounted ∷ surfaces_fixed ∷ measured ∷ measured_again ∷ laid_out ∷ wrong_lengths ∷ [])).step.answer ≡ true
  pub answers : number_after (after []) ∷ number_after (after (wrong_kind ∷ [])) ∷ number_after (after (wrong_kind ∷ miscounted ∷ [])) ∷ [] ≡ 0 ∷ 26 ∷ 26 ∷ []
  pub longer : number_after (after (wrong_kind ∷ miscounted ∷ surfaces_fixed ∷ measured ∷ measured_again ∷ laid_out ∷ wrong_lengths ∷ [])) ≡ 22
  -- a finish after five answers, three boxes laid out; x and width of each: 42.5 and 30, 19.875 and 20.25, the first again
  pub run : figures (after replies) ≡ 15 ∷ 3 ∷ 1108869120 ∷ 1106247680 ∷ 1100939264 ∷ 1101135872 ∷ 1108869120 ∷ 1106247680 ∷ []
  -- 50.5, 75.875 and 50.5
  pub image : figures (image_after replies) ≡ 15 ∷ 3 ∷ 1111490560 ∷ 1106247680 ∷ 1117241344 ∷ 1101135872 ∷ 1111490560 ∷ 1106247680 ∷ []
  -- two answers for the first item, three for the second; before them the tallies were zeros and sevens
  pub tally : (after replies).tally ≡ 2 ∷ 3 ∷ []
  pub image_tally : (image_after replies).tally ≡ 2 ∷ 3 ∷ []
  -- one unclaimed record of the opening, from 30 on and up to 86; and one surfaced, moved to where its box stands
  pub at_opening : (after []).step.state.counts.filled.unclaimed ≡ 1
  pub unclaimed : unclaimed_words (after replies) ≡ 1106247680 ∷ 1108869120 ∷ []
  pub image_unclaimed : unclaimed_words (image_after replies) ≡ 1118568448 ∷ 1111490560 ∷ []
  -- each record on its layer, in both
  pub layers : layers_after (after replies) ≡ 9 ∷ 0 ∷ 3 ∷ 255 ∷ 4 ∷ []
  pub image_layers : layers_after (image_after replies) ≡ 9 ∷ 0 ∷ 3 ∷ 255 ∷ 4 ∷ []
  -- nobody claims what is surfaced
  pub free : sweep-sweep.claimed (after (wrong_kind ∷ miscounted ∷ [])).step.state.opened.claims (sweep-sweep.candidates_in (surfaced_in surfaces_fixed.turn)) ≡ []
  -- 0.5 and 0
  pub width_zero : Differ narrow still centered [] 1056964608 0
  -- 0.10000001 and 0.1
  pub length : Differ small tenths at_start [] 1036831950 1036831949
  -- 0.6 and 0.59999996
  pub area : Differ aside still at_start [] 1058642330 1058642329
  -- 2,097,152.25 and 2,097,152
  pub bound : Differ far still at_start [] 1241513985 1241513984
  -- 0.05 and 0.05000019
  pub place : Differ wide still up_to [] 1028443341 1028443392
  -- 0 and -0.0000000075
  pub reply : Differ small content at_start tenth 0 2986344448
  -- 0.25 and 0
  pub surfaced : Differ small still at_start surfacing 1048576000 0
  -- -1, and over the run's own styles 0
  pub left : to_bits binary32 (told (ran wide ahead at_start (laid_out ∷ [])).step.answer) ≡ 3212836864
  pub left_unflipped : to_bits binary32 (told (unflipped wide ahead at_start (laid_out ∷ [])).step.answer) ≡ 0
  pub left_differs : eq (told (ran wide ahead at_start (laid_out ∷ [])).step.answer) (told (unflipped wide ahead at_start (laid_out ∷ [])).step.answer) ≡ false
  -- a finish after one answer, and a refusal 2
  pub slices : number_after (ran small still at_start shorter) ≡ 11
  pub image_slices : number_after (image_ran small still at_start shorter) ≡ 22
  -- a refusal 3, and a finish after one answer
  pub table : number_after (ran small still at_start bad_table) ≡ 23
  pub image_table : number_after (image_ran small still at_start bad_table) ≡ 11
  -- a refusal 6, and a finish after one answer
  pub over : number_after (ran small still at_start (above ∷ [])) ≡ 26
  pub image_over : number_after (image_ran small still at_start (above ∷ [])) ≡ 11
  pub over_unread : is_unread (ran small still at_start (above ∷ [])).step.answer ≡ true
  pub as_long : extents_of ones ≡ (ran small still at_start []).step.state.opened.extents
  -- two refusals 1, which leave the tallies as they were
  pub refusals : number_after kept ∷ number_after image_kept ∷ [] ≡ 21 ∷ 21 ∷ []
  pub refused_tally : kept.tally ≡ 7 ∷ []
  pub image_refused_tally : image_kept.tally ≡ 9 ∷ []
  -- before a box is laid out, x and width are what stood in the words
  pub at_hand : place_words (after []) 0 ≡ 0 ∷ 0 ∷ []
  pub image_at_hand : place_words (image_after []) 0 ≡ 7 ∷ 7 ∷ []

pub computed : Computed
unfolding add sub mul div neg lt le eq is_nan sum round units odd size span climb of_bits to_bits of_fields nan_bits util-order.zero_of util-order.before util-order.larger util-order.smaller util-order.magnitude util-maybe.map_add util-maybe.map_larger util-maybe.at_most util-maybe.at_least util-maybe.clamped util-maybe.map_clamped geometry-geometry.rect_or_zero geometry-geometry.sum_x geometry-geometry.sum_y geometry-geometry.sums geometry-geometry.rect_sum geometry-geometry.union_of geometry-geometry.smaller_size geometry-geometry.definite geometry-geometry.both_present geometry-geometry.first_size geometry-geometry.filled_size geometry-geometry.added_size geometry-geometry.raised_size geometry-geometry.clamped_size geometry-geometry.clamped_floats geometry-geometry.completed geometry-geometry.with_ratio style-resolve.by_tag style-resolve.resolved style-resolve.takes style-resolve.maybe_resolved style-resolve.resolved_rect style-resolve.resolved_size style-values.self_relative style-values.clamped_space style-values.clamped_spaces style-values.definite_spaces style-codes.sizing_code style-codes.overflow_code style-codes.direction_code style-codes.safety_code style-codes.keyword_code style-codes.bits_code style-codes.sizing_of style-codes.overflow_of style-codes.direction_of style-codes.safety_of style-codes.keyword_of style-codes.alignment_of style-codes.contain_of style-record-record.length_field style-record-record.length_kinds style-record-record.code_kinds style-record-record.kind_of style-record-record.items style-record-check.safety_breaks style-record-check.breaks_as style-record-check.breaks_rule style-record-check.breaks style-record-check.first_from style-record-check.first_broken style-record-check.or_rest style-record-check.checked_from style-record-check.checked style-record-decode.length_at style-record-decode.rect_at style-record-decode.size_at style-record-decode.align_at style-record-decode.ratio_at style-record-decode.overflow_at style-record-decode.style_of style-record-decode.style_at records-records.record_at records-records.records records-records.room records-records.written records-records.wrong records-records.every records-records.breaks records-records.good records-records.good_records tree-static.shifted_axis tree-static.translated style-codes.position_code style-codes.position_of tree-codes.edge_code tree-codes.edge_of tree-record-candidate.axis_of tree-record-candidate.candidate_of tree-record-candidate.candidate_words tree-record-layout.rect_of tree-record-layout.layout_of tree-record-layout.layout_words sweep-sweep.first_candidates sweep-sweep.candidates_in sweep-sweep.moved sweep-sweep.side sweep-sweep.keep sweep-sweep.list_words oof-axis-axis.from_resolved oof-axis-axis.align_in oof-axis-axis.centered_block oof-axis-axis.static_block oof-axis-axis.inset_block oof-axis-axis.start_is_weaker oof-axis-axis.repaired oof-axis-axis.block oof-axis-axis.both_insets oof-axis-axis.stretch_fit oof-axis-axis.stretching oof-axis-axis.stretches oof-axis-axis.is_stretch oof-axis-axis.halves oof-axis-axis.filled_margins oof-axis-axis.margins oof-axis-axis.is_normal oof-axis-axis.align_edge oof-axis-axis.limit oof-axis-axis.kept_within oof-axis-axis.self_aligned oof-axis-axis.static_aligned oof-axis-axis.position_in oof-axis-axis.position oof-axis-axis.placement common-sizingkeyword.by_keyword common-sizingkeyword.of_resolved common-sizingkeyword.keyword_of common-sizingkeyword.absolute_stretch common-sizingkeyword.if_absent common-sizingkeyword.keywords_of common-scrollableoverflow.propagates common-scrollableoverflow.reach common-scrollableoverflow.placed_at common-scrollableoverflow.contribution oof-resolve-resolved.of_width oof-resolve-resolved.of_each_axis oof-resolve-resolved.less_offset oof-resolve-resolved.horizontal oof-resolve-resolved.vertical oof-resolve-resolved.padding_or_border oof-resolve-resolved.style_size oof-resolve-resolved.min_size oof-resolve-resolved.less_margins oof-resolve-resolved.space_for oof-resolve-resolved.resolved_box oof-place-placing.scrollbar_of oof-place-placing.layout_of oof-place-placing.from_origin oof-place-placing.box_layout oof-box-box.keyword_stretch oof-box-box.size_keywords oof-box-box.settled oof-box-box.ignores_ratio oof-box-box.stretch_ratio oof-box-box.widened oof-box-box.heightened oof-box-box.raised_min oof-box-box.stretched oof-box-box.final_size oof-box-cut.taken oof-box-cut.known_by oof-box-cut.stretched_by oof-box-cut.size_by oof-box-cut.keyword_asked oof-box-cut.size_asked oof-box-cut.asked_of oof-box-cut.asked_after oof-box-cut.layout_after run-refusals.◌when◌else◌ run-refusals.bad_area run-refusals.bad_table run-refusals.bad_list run-refusals.bad_slices run-refusals.other_lengths run-refusals.bad_style run-refusals.bad_candidate run-refusals.list_full run-refusals.wrong_counts run-run.box_at_hand run-run.asking run-run.finishing run-run.proceeding run-run.opening_verdict run-run.closed run-run.begun run-run.opened run-run.taken_by run-run.reply_verdict run-run.charged run-run.measured_on run-run.laid_out run-run.replied mirror-box-image.edge_sum other_direction other_edge counterpart image_style reflected_word image_candidate listed each_record theorems.next
computed =
    record {
      waiting = refl;
      none_answered = refl;
      kind = refl;
      count = refl;
      lengths = refl;
      answers = refl;
      longer = refl;
      run = refl;
      image = refl;
      tally = refl;
      image_tally = refl;
      at_opening = refl;
      unclaimed = refl;
      image_unclaimed = refl;
      layers = refl;
      image_layers = refl;
      free = refl;
      width_zero = record { run = refl; image = refl; differ = refl };
      length = record { run = refl; image = refl; differ = refl };
      area = record { run = refl; image = refl; differ = refl };
      bound = record { run = refl; image = refl; differ = refl };
      place = record { run = refl; image = refl; differ = refl };
      reply = record { run = refl; image = refl; differ = refl };
      surfaced = record { run = refl; image = refl; differ = refl };
      left = refl;
      left_unflipped = refl;
      left_differs = refl;
      slices = refl;
      image_slices = refl;
      table = refl;
      image_table = refl;
      over = refl;
      image_over = refl;
      over_unread = refl;
      as_long = refl;
      refusals = refl;
      refused_tally = refl;
      image_refused_tally = refl;
      at_hand = refl;
      image_at_hand = refl;
    }
