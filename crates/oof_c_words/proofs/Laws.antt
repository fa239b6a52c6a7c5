-- The laws of `specs/Laws.antt`. Assumes nothing.
use Rattle.std.specs.Prelude.{Option, None, Some, unwrap_or, Result, Ok, Err, is_err, Float}
use Prim.Native.Nat.{ℕ}
use native.Mathlib.Nat.{mod-eq_of_lt}
use native.Mathlib.Omega.{arith}
use mathlib.Core.Bool.{true, false}
use mathlib.Core.List.{List}
use mathlib.Core.Path.{◌≡◌, refl, ap, ◌∙◌}
use lib.Dec.{T}
use lib.Ieee.{Float, fits, of_bits, to_bits, binary32}
use Rattle.util.proofs.Floats.{no}
use Rattle.util.proofs.Laws.{float_back}
use Rattle.geometry.specs.Geometry.{zero_size}
use Rattle.geometry.specs.declared.Size.{Size}
use Rattle.refusal.specs.Refusal.{number_of}
use Rattle.refusal.specs.declared.Refusal.{Refusal}
use Rattle.refusal.specs.declared.Refusal.TheVariants.{BadArea, BadExtent, BadStyle, BadCandidate, ListFull, WrongReply, UnresolvedSide, BadScreenLine, NotInEighths}
use Rattle.style.specs.Codes.{claims_in, direction_of, overflow_of}
use Rattle.style.proofs.Laws.{direction_codes, overflow_codes, bits_codes}
use Rattle.style.specs.declared.ContainingBlockClaims.{ContainingBlockClaims}
use Rattle.tree_record.specs.Layout.{rect_of}
use Rattle.tree_record.specs.Laws.{FitsSize}
use Rattle.oof_box.specs.declared.question.Stage.{Stage}
use Rattle.oof_box.specs.declared.question.Stage.TheVariants.{KeywordBoth, KeywordWidth, KeywordHeight, Fill, LayOut}
use Rattle.oof_box.specs.declared.question.KeywordReply.{KeywordReply}
use Rattle.oof_box.specs.declared.question.KeywordReply.TheVariants as keyword
use Rattle.run.specs.Call.{Lent, Outcome}
use Rattle.run.specs.Run.{closed}
use Rattle.run.proofs.Refusals.{begun_accepts, measured_accepts, laid_accepts, finished_refuses}
use Rattle.run.proofs.Ways.{OpeningWay, begins, opening_way, ReplyWay, measures, lays_out, reply_way}
use Rattle.run.specs.declared.State.{State}
use Rattle.run.specs.declared.Answer.{Answer}
use Rattle.run.specs.declared.Answer.TheVariants.{Ask, Finish}
use Rattle.oof_c_words.specs.StateWords.{count_word, progress_of, stage_code, progress_code, keyword_reply_of, keyword_kind, keyword_width, keyword_height, fill_reply_of, fill_kind, claims_code, replies_in, counts_in, overflow_in, opening_in, extents_in, opened_in, state_of, opening_codes, state_words}
use Rattle.oof_c_words.specs.Entry.{result_of, state_left, answer_left, Words, words, in_words, lent_in, opened_in_words, replied_in_words}
use Rattle.oof_c_words.specs.Laws.{InAWord, StateBack, ZeroState, RefusedOpeningCloses, NoReplyAfterRefusedOpening, RefusedReplyWritesNothing}

-- ---- each word means what it was written for

count_back : (n : ℕ) → InAWord n → count_word n ≡ n
count_back n h = mod-eq_of_lt h

progress_back : (p : Option Stage) → progress_of (progress_code p) ≡ p
unfolding progress_of progress_code stage_code
progress_back None = refl
progress_back (Some KeywordBoth) = refl
progress_back (Some KeywordWidth) = refl
progress_back (Some KeywordHeight) = refl
progress_back (Some Fill) = refl
progress_back (Some LayOut) = refl

-- a float, written and read
abbrev again : Float → Float
again x = of_bits binary32 (to_bits binary32 x)

size_back : (s : Size Float) → FitsSize s → ◌≡◌ {A = Size Float} (record { width = again s.width; height = again s.height }) s
size_back s f = λ j. record { width = float_back s.width f.0 j; height = float_back s.height f.1 j }

keyword_back : (k : Option KeywordReply) → T (fits binary32 (keyword_width k)) → T (fits binary32 (keyword_height k))
    → keyword_reply_of (keyword_kind k) (again (keyword_width k)) (again (keyword_height k)) ≡ k
unfolding keyword_reply_of keyword_kind keyword_width keyword_height
keyword_back None f g = refl
keyword_back (Some (keyword.Both size)) f g = ap (λ (size : Size Float). Some (keyword.Both size)) (size_back size (f, g))
keyword_back (Some (keyword.Width width)) f g = ap (λ (width : Float). Some (keyword.Width width)) (float_back width f)
keyword_back (Some (keyword.Height height)) f g = ap (λ (height : Float). Some (keyword.Height height)) (float_back height g)

fill_back : (r : Option (Size Float)) → FitsSize (unwrap_or r zero_size) → fill_reply_of (fill_kind r) (again (unwrap_or r zero_size).width) (again (unwrap_or r zero_size).height) ≡ r
unfolding fill_reply_of fill_kind
fill_back None f = refl
fill_back (Some size) f = ap Some (size_back size f)

claims_back : (c : ContainingBlockClaims) → claims_in (claims_code c) ≡ c
unfolding claims_code
claims_back c =
    let both = bits_codes.0 c.absolute c.fixed in
    λ j. record { absolute = both.0 j; fixed = both.1 j }

pub state_back : StateBack
unfolding state_of state_words replies_in counts_in overflow_in rect_of opened_in opening_in extents_in opening_codes
state_back s f n =
    let area = s.opened.container.area in
    λ j. record {
      progress = progress_back s.progress j;
      replies =
          record { keyword = keyword_back s.replies.keyword f.keyword_width f.keyword_height j; fill = fill_back s.replies.fill f.fill j };
      counts =
          record {
            filled =
                record { working = count_back s.counts.filled.working n.working j; unclaimed = count_back s.counts.filled.unclaimed n.unclaimed j };
            begun = count_back s.counts.begun n.begun j;
            answered = count_back s.counts.answered n.answered j;
          };
      overflow =
          record {
            left = float_back s.overflow.left f.overflow.0 j;
            right = float_back s.overflow.right f.overflow.1 j;
            top = float_back s.overflow.top f.overflow.2 j;
            bottom = float_back s.overflow.bottom f.overflow.3 j;
          };
      opened =
          record {
            container =
                record {
                  area =
                      record {
                        size = size_back area.size f.size j;
                        offset = record { x = float_back area.offset.x f.offset.0 j; y = float_back area.offset.y f.offset.1 j };
                      };
                  direction = direction_codes.0 s.opened.container.direction j;
                  overflow =
                      record { x = overflow_codes.0 s.opened.container.overflow.x j; y = overflow_codes.0 s.opened.container.overflow.y j };
                };
            claims = claims_back s.opened.claims j;
            extents =
                record {
                  styles = count_back s.opened.extents.styles n.styles_lent j;
                  layouts = count_back s.opened.extents.layouts n.layouts_lent j;
                  working = count_back s.opened.extents.working n.working_lent j;
                  unclaimed = count_back s.opened.extents.unclaimed n.unclaimed_lent j;
                  tally = count_back s.opened.extents.tally n.tally_lent j;
                };
          };
    }

pub zero_state : ZeroState
unfolding state_of replies_in counts_in overflow_in rect_of opened_in opening_in extents_in progress_of keyword_reply_of fill_reply_of direction_of overflow_of closed
zero_state = refl

-- ---- a refusal

-- the result is 0 just where the answer is no refusal
pub accepted_is_zero : (a : Result Answer Refusal) → is_err a ≡ false → result_of a ≡ 0
unfolding result_of
accepted_is_zero (Ok (Ask q)) e = refl
accepted_is_zero (Ok (Finish f)) e = refl
accepted_is_zero (Err r) e = no {b = true} refl e

pub refused_is_not : (r : Refusal) → number_of r ≡ 0 → ⊥
refused_is_not BadArea e = absurd (omega (arith, e))
refused_is_not BadExtent e = absurd (omega (arith, e))
refused_is_not BadStyle e = absurd (omega (arith, e))
refused_is_not BadCandidate e = absurd (omega (arith, e))
refused_is_not ListFull e = absurd (omega (arith, e))
refused_is_not WrongReply e = absurd (omega (arith, e))
refused_is_not UnresolvedSide e = absurd (omega (arith, e))
refused_is_not BadScreenLine e = absurd (omega (arith, e))
refused_is_not NotInEighths e = absurd (omega (arith, e))

-- an outcome that isn't refused
zero_of : {o p : Outcome} → o ≡ p → is_err p.step.answer ≡ false → result_of o.step.answer ≡ 0
zero_of {p = p} e f = ap (λ (o : Outcome). result_of o.step.answer) e ∙ accepted_is_zero p.step.answer f

pub refused_opening_closes : RefusedOpeningCloses
unfolding opened_in_words answer_left
refused_opening_closes o candidates styles before h = go (opening_way o candidates (lent_in styles before))
  where
    go : OpeningWay o candidates (lent_in styles before)
        → (opened_in_words o candidates styles before).words
        ≡ words before.layouts before.working before.unclaimed before.tally (state_words (closed (lent_in styles before))) before.answer
    go (OpeningWay.turned_down r e) = ap (λ (left : Outcome). (in_words left (state_words left.step.state) before.answer).words) e
    go (begins v e) = absurd (h (zero_of e (begun_accepts o candidates (lent_in styles before))))

refused_not_zero : (a : Result Answer Refusal) → is_err a ≡ true → result_of a ≡ 0 → ⊥
unfolding result_of
refused_not_zero (Ok (Ask q)) e z = no {b = false} e refl
refused_not_zero (Ok (Finish f)) e z = no {b = false} e refl
refused_not_zero (Err r) e z = refused_is_not r z

closed_is_finished : (lent : Lent) → (state_of (state_words (closed lent))).progress ≡ None
unfolding state_of state_words progress_of progress_code closed
closed_is_finished lent = refl

pub no_reply_after_refused_opening : NoReplyAfterRefusedOpening
unfolding replied_in_words
no_reply_after_refused_opening o candidates styles before h reply surfaced styles' later e z =
    let closes = refused_opening_closes o candidates styles before h in
    let finished = ap (λ (w : List ℕ). (state_of w).progress) (e ∙ ap (λ (w : Words). w.state) closes) ∙ closed_is_finished (lent_in styles before) in
    refused_not_zero _ (finished_refuses (state_of later.state) reply surfaced (lent_in styles' later) finished) z

pub refused_reply_writes_nothing : RefusedReplyWritesNothing
unfolding replied_in_words answer_left state_left
refused_reply_writes_nothing reply surfaced styles before h = go (reply_way s reply surfaced lent)
  where
    s : State
    s = state_of before.state

    lent : Lent
    lent = lent_in styles before

    go : ReplyWay s reply surfaced lent → (replied_in_words reply surfaced styles before).words ≡ before
    go (ReplyWay.turned_down r e) = ap (λ (left : Outcome). (in_words left (state_left left.step before.state) before.answer).words) e
    go (measures replies v t e) = absurd (h (zero_of e (measured_accepts s replies lent)))
    go (lays_out overflow v t e) = absurd (h (zero_of e (laid_accepts s overflow surfaced lent)))
