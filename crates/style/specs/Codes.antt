-- Codes of the records (document 01, "The dialogue"): each value has one code, but normal, which keyword 10, absent, means too. A code outside
-- its list is refused before it is read; here it is read as the list's last. Flags, claims and containment are no codes but two bits, and of
-- containment, 0 to 255, the other bits say nothing. Assumes nothing.
use Rattle.std.specs.Prelude.{ℕ, ◌+◌, ◌/◌, ◌%◌, Bool, cond, eqb}
use Rattle.style.specs.declared.Position.{Position}
use Rattle.style.specs.declared.Position.TheVariants as position
use Rattle.style.specs.declared.BoxSizing.{BoxSizing}
use Rattle.style.specs.declared.BoxSizing.TheVariants.{BorderBox, ContentBox}
use Rattle.style.specs.declared.Overflow.{Overflow}
use Rattle.style.specs.declared.Overflow.TheVariants.{Visible, Clip, Hidden, Scroll}
use Rattle.style.specs.declared.ContainingBlockClaims.{ContainingBlockClaims}
use Rattle.style.specs.declared.Contain.{Contain}
use Rattle.style.specs.declared.Direction.{Direction}
use Rattle.style.specs.declared.Direction.TheVariants.{Ltr, Rtl}
use Rattle.style.specs.declared.alignment.AlignItemsKeyword.{AlignItemsKeyword}
use Rattle.style.specs.declared.alignment.AlignItemsKeyword.TheVariants as keyword
use Rattle.style.specs.declared.alignment.AlignmentSafety.{AlignmentSafety}
use Rattle.style.specs.declared.alignment.AlignmentSafety.TheVariants.{Default, Unsafe, Safe}
use Rattle.style.specs.declared.alignment.AlignItems.{AlignItems}

-- ---- the codes

unfoldable pub position_code : Position → ℕ
position_code position.Static = 0
position_code position.Relative = 1
position_code position.Absolute = 2
position_code position.Fixed = 3
position_code position.Sticky = 4

unfoldable pub sizing_code : BoxSizing → ℕ
sizing_code BorderBox = 0
sizing_code ContentBox = 1

unfoldable pub overflow_code : Overflow → ℕ
overflow_code Visible = 0
overflow_code Clip = 1
overflow_code Hidden = 2
overflow_code Scroll = 3

unfoldable pub direction_code : Direction → ℕ
direction_code Ltr = 0
direction_code Rtl = 1

unfoldable pub safety_code : AlignmentSafety → ℕ
safety_code Default = 0
safety_code Unsafe = 1
safety_code Safe = 2

unfoldable pub keyword_code : AlignItemsKeyword → ℕ
keyword_code keyword.Normal = 0
keyword_code keyword.Start = 1
keyword_code keyword.End = 2
keyword_code keyword.FlexStart = 3
keyword_code keyword.FlexEnd = 4
keyword_code keyword.SelfStart = 5
keyword_code keyword.SelfEnd = 6
keyword_code keyword.Center = 7
keyword_code keyword.Baseline = 8
keyword_code keyword.Stretch = 9

-- two bits, the low one first
unfoldable pub bits_code : Bool → Bool → ℕ
bits_code low high = cond low 1 0 + cond high 2 0

-- ---- and back

unfoldable pub position_of : ℕ → Position
position_of n =
    cond (eqb n 0) position.Static
    (cond (eqb n 1) position.Relative
    (cond (eqb n 2) position.Absolute
    (cond (eqb n 3) position.Fixed position.Sticky)))

unfoldable pub sizing_of : ℕ → BoxSizing
sizing_of n = cond (eqb n 0) BorderBox ContentBox

unfoldable pub overflow_of : ℕ → Overflow
overflow_of n = cond (eqb n 0) Visible (cond (eqb n 1) Clip (cond (eqb n 2) Hidden Scroll))

unfoldable pub direction_of : ℕ → Direction
direction_of n = cond (eqb n 0) Ltr Rtl

unfoldable pub safety_of : ℕ → AlignmentSafety
safety_of n = cond (eqb n 0) Default (cond (eqb n 1) Unsafe Safe)

unfoldable pub keyword_of : ℕ → AlignItemsKeyword
keyword_of n =
    cond (eqb n 0) keyword.Normal
    (cond (eqb n 1) keyword.Start
    (cond (eqb n 2) keyword.End
    (cond (eqb n 3) keyword.FlexStart
    (cond (eqb n 4) keyword.FlexEnd
    (cond (eqb n 5) keyword.SelfStart
    (cond (eqb n 6) keyword.SelfEnd
    (cond (eqb n 7) keyword.Center
    (cond (eqb n 8) keyword.Baseline keyword.Stretch))))))))

-- keyword 10 is absent: normal with default safety, the safety word being ignored
unfoldable pub alignment_of : ℕ → ℕ → AlignItems
alignment_of k s =
    cond (eqb k 10) (record { keyword = keyword.Normal; safety = Default }) (record { keyword = keyword_of k; safety = safety_of s })

abbrev pub bit0 : ℕ → Bool
bit0 w = eqb (w % 2) 1

abbrev pub bit1 : ℕ → Bool
bit1 w = eqb (w / 2 % 2) 1

-- the claims of an opening: bit 0 absolute, bit 1 fixed
abbrev pub claims_in : ℕ → ContainingBlockClaims
claims_in code = record { absolute = bit0 code; fixed = bit1 code }

-- bit 0 layout, bit 1 paint
unfoldable pub contain_of : ℕ → Contain
contain_of w = record { layout = bit0 w; paint = bit1 w }
