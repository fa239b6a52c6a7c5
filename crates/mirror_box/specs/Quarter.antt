-- What the mirror law asks of a box, of its containing block and of the host's replies: whole quarter pixels of size 4,096 at most, no
-- percentage, no sum, no ratio, a width that isn't 0 (demand 3). Only what bears on x is asked: along y both runs have the same words, whatever
-- these are. Assumes nothing.
use Rattle.std.specs.Prelude.{ℕ, ◌≡◌, cond, ◌||◌, eqb, Float, IfSome, None}
use Rattle.util.specs.Number.{0f}
use Rattle.geometry.specs.declared.Rect.{Rect}
use Rattle.style.specs.declared.Style.{Style}
use Rattle.style.specs.declared.compact_length.CompactLength.{CompactLength}
use Rattle.tree.specs.declared.layout.OofCandidate.{OofCandidate}
use Rattle.oof_resolve.specs.declared.ContainingBlock.{ContainingBlock}
use Rattle.oof_box.specs.declared.question.KeywordReply.{KeywordReply}
use Rattle.oof_box.specs.declared.question.KeywordReply.TheVariants as keyword
use Rattle.oof_box.specs.declared.question.Replies.{Replies}
use Rattle.util_exact.specs.Value.{◌≐◌, Quarter}

-- ---- lengths, by their tag

pub data TagRule : Type 0 where
  whole_quarters left_out free : TagRule

-- pixels (1) and a fit-content limit in pixels (43) are whole quarters, percentages (5, 15) and sums with one (129) are left out, and the
-- value of any other tag may be anything. So may every second value: it is of sums alone
abbrev pub rule_of : ℕ → TagRule
rule_of tag = cond (eqb tag 1 || eqb tag 43) whole_quarters (cond (eqb tag 5 || eqb tag 15 || eqb tag 129) left_out free)

abbrev pub Keeps : TagRule → Float → Type 0
Keeps whole_quarters x = Quarter x
Keeps left_out x = ⊥
Keeps free x = Unit {0}

abbrev pub QuarterLength : CompactLength → Type 0
QuarterLength l = Keeps (rule_of l.tag) l.value

pub record QuarterSides (r : Rect CompactLength) : Type 0 where
  pub left : QuarterLength r.left
  pub right : QuarterLength r.right

-- ---- block, style, candidate

pub record QuarterContainer (b : ContainingBlock) : Type 0 where
  pub width : Quarter b.area.size.width
  pub not_zero : b.area.size.width ≐ 0f → ⊥
  pub offset : Quarter b.area.offset.x

pub record QuarterStyle (s : Style) : Type 0 where
  pub inset : QuarterSides s.inset
  pub margin : QuarterSides s.margin
  pub padding : QuarterSides s.padding
  pub border : QuarterSides s.border
  pub size : QuarterLength s.size.width
  pub min : QuarterLength s.min.width
  pub max : QuarterLength s.max.width
  pub ratio : s.ratio ≡ None

pub record QuarterCandidate (c : OofCandidate) : Type 0 where
  pub start : Quarter c.place.x.area.start
  pub end : Quarter c.place.x.area.end

-- ---- replies

abbrev pub QuarterKeyword : KeywordReply → Type 0
QuarterKeyword (keyword.Both s) = Quarter s.width
QuarterKeyword (keyword.Width w) = Quarter w
QuarterKeyword (keyword.Height h) = Unit {0}

-- the replies kept
pub record QuarterReplies (r : Replies) : Type 0 where
  pub keyword : IfSome r.keyword QuarterKeyword
  pub fill : IfSome r.fill (λ s. Quarter s.width)

-- the rectangle of the reply to lay out
pub record QuarterOverflow (r : Rect Float) : Type 0 where
  pub left : Quarter r.left
  pub right : Quarter r.right
