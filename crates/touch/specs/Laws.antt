-- What the definitions of this crate mean, as statements. `proofs/` proves each, under its name in small letters. Assumes nothing.
use Rattle.std.specs.Prelude.{ℕ, ◌*◌, ◌^◌, ◌<◌, true, List, [], ◌↔◌, ◌⊎◌, ◌≡◌, length, get_or, ℤ, pos, ◌+ℤ◌, FitsSigned, Float, Ok}
use Rattle.std.specs.Float.Ieee.{eq}
use Rattle.std.specs.Int.{cast_unsigned, cast_signed, w32}
use Rattle.geometry.specs.declared.Point.{Point}
use Rattle.geometry.specs.declared.Rect.{Rect}
use Rattle.refusal.specs.declared.Refusal.{Refusal}
use Rattle.refusal.specs.Refusal.{number_of}
use Rattle.records.specs.Records.{record_at}
use Rattle.tree.specs.declared.layout.Layout.{Layout}
use Rattle.pixels.specs.Pixels.{pixel_edges}
use Rattle.run.specs.Call.{Slices}
use Rattle.run.specs.Conditions.{word, FirstIs, NoneHolds}
use Rattle.run.specs.Refusals.{accepted, refused}
use Rattle.run.specs.Run.{layout_at}
use Rattle.run.specs.declared.State.{State}
use Rattle.finished.specs.Conditions.{finished_tests}
use Rattle.touch.specs.Touch.{touch_width, nodes_of, Touched, touched}
use Rattle.touch.specs.Conditions.{touch_tests}

-- ---- "negative ones in two's complement"

-- an integer from -2^31 to 2^31 - 1, and a word, below 2^32, that is the integer or 2^32 more
abbrev pub IsTwosComplement : ℕ → ℤ → Type 0
IsTwosComplement w z = FitsSigned w32 z × (w < 2 ^ 32) × ((pos w ≡ z) ⊎ (pos w ≡ (z +ℤ pos (2 ^ 32))))

-- there is one such word, the one that the definition has
abbrev pub TwosComplement : Type 0
TwosComplement = (w : ℕ) (z : ℤ) → FitsSigned w32 z → (w ≡ cast_unsigned w32 z) ↔ IsTwosComplement w z

-- read as a signed number, it is the integer again
abbrev pub SignedBack : Type 0
SignedBack = (w : ℕ) (z : ℤ) → IsTwosComplement w z → cast_signed w32 w ≡ z

-- ---- of a finished run

-- each refusal exactly under its condition, by the tests in their order, and none exactly where none holds
abbrev pub RefusedExactly : Type 0
RefusedExactly =
    (s : State) (lent : Slices) (before : List ℕ) (r : Refusal)
    → ((touched s lent before).verdict ≡ refused r) ↔ FirstIs (touch_tests s lent before) (number_of r)

abbrev pub AcceptedExactly : Type 0
AcceptedExactly =
    (s : State) (lent : Slices) (before : List ℕ) → ((touched s lent before).verdict ≡ accepted) ↔ NoneHolds (touch_tests s lent before)

-- a refusal writes nothing, whichever box it is for
abbrev pub RefusedKeeps : Type 0
RefusedKeeps =
    (s : State) (lent : Slices) (before : List ℕ) (r : Refusal) → (touched s lent before).verdict ≡ refused r → (touched s lent before).words ≡ before

-- of the box whose record stands at a place: the node, and the pixel edges that #101 has for that node's layout, in an area at the run's offset,
-- in their order
pub record HoldsBox (s : State) (lent : Slices) (place : ℕ) (five : List ℕ) : Type 0 where
  pub edges : Rect ℤ
  pub pixels : pixel_edges (layout_at lent.layouts lent.working place) s.opened.container.area.offset ≡ Ok edges
  pub node : get_or five 0 0 ≡ word lent.working place 0
  pub left : IsTwosComplement (get_or five 1 0) edges.left
  pub right : IsTwosComplement (get_or five 2 0) edges.right
  pub top : IsTwosComplement (get_or five 3 0) edges.top
  pub bottom : IsTwosComplement (get_or five 4 0) edges.bottom

-- "five words a box, in hoisted order"
pub record HoldsBoxes (s : State) (lent : Slices) (words : List ℕ) : Type 0 where
  pub long : length words ≡ touch_width * s.counts.filled.working
  pub each : (place : ℕ) → place < s.counts.filled.working → HoldsBox s lent place (record_at touch_width words place)

abbrev pub AcceptedHolds : Type 0
AcceptedHolds =
    (s : State) (lent : Slices) (before : List ℕ) → (touched s lent before).verdict ≡ accepted → HoldsBoxes s lent (touched s lent before).words

-- ---- of a run the driver sees where its boxes stand, and nothing else

-- one number: the same, or 0 and -0
abbrev pub SameNumber : Float → Float → Type 0
SameNumber x y = (x ≡ y) ⊎ (eq x y ≡ true)

abbrev pub SamePoint : Point Float → Point Float → Type 0
SamePoint p q = SameNumber p.x q.x × SameNumber p.y q.y

-- "layouts differ only in padding, border, margins, scrollbars, child overflow and order"
pub record SameLocationAndSize (a b : Layout) : Type 0 where
  pub location : SamePoint a.location b.location
  pub width : SameNumber a.size.width b.size.width
  pub height : SameNumber a.size.height b.size.height

-- neither 2 nor 6 nor 4 is met, but for the length of the driver's slice
abbrev pub CanBeRead : State → Slices → Type 0
CanBeRead s lent = NoneHolds (finished_tests s lent ⊥ [])

-- what two calls leave is the same to the driver: they have one verdict and, accepted, "identical words". (Refused, each slice keeps the words
-- that it had: `RefusedKeeps`.)
pub record SameToDriver (a b : Touched) : Type 0 where
  pub verdict : a.verdict ≡ b.verdict
  pub words : a.verdict ≡ accepted → a.words ≡ b.words

-- of two runs that can be read, "with the same area", of which the offset counts alone, "and hoisted order", whatever stood in the two slices.
-- All else may differ: the area's size, the direction, styles, layouts of other items, unclaimed records, and what candidates say but
-- for their nodes
abbrev pub OnlyLocationAndSizeAreSeen : Type 0
OnlyLocationAndSizeAreSeen =
    (s t : State) (l m : Slices) (before before' : List ℕ)
    → CanBeRead s l → CanBeRead t m → length before ≡ length before'
    → SamePoint s.opened.container.area.offset t.opened.container.area.offset
    → nodes_of s l ≡ nodes_of t m
    → ((place : ℕ) → place < s.counts.filled.working → SameLocationAndSize (layout_at l.layouts l.working place) (layout_at m.layouts m.working place))
    → SameToDriver (touched s l before) (touched t m before')
