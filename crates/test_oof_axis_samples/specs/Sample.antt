-- One axis of a stored box, in words, and whether the definition agrees. Assumes nothing.
use Rattle.std.specs.Prelude.{ℕ, zero, suc, Bool, true, cond, ◌&&◌, ◌||◌, List, [], ◌∷◌, eqb, Float, None, Option, Some}
use Rattle.std.specs.Float.Ieee.{eq, is_nan, of_bits}
use Rattle.std.specs.Float.{binary32}
use Rattle.util.specs.Number.{◌⊕◌, ◌⊖◌}
use Rattle.geometry.specs.Geometry.{◌to◌}
use Rattle.style.specs.declared.alignment.AlignItemsKeyword.{AlignItemsKeyword}
use Rattle.style.specs.declared.alignment.AlignItemsKeyword.TheVariants as keyword
use Rattle.style.specs.Codes.{safety_of}
use Rattle.tree.specs.declared.layout.AxisStaticEdge.{AxisStaticEdge}
use Rattle.tree.specs.declared.layout.AxisStaticEdge.TheVariants.{Start, Center, End}
use Rattle.tree.specs.declared.layout.AxisStaticPosition.{AxisStaticPosition}
use Rattle.geometry.specs.declared.Point.{Point}
use Rattle.oof_axis.specs.declared.OofAxis.{OofAxis}
use Rattle.oof_axis.specs.declared.AxisPlacement.{AxisPlacement}
use Rattle.oof_axis.specs.Axis.{from_resolved, placement}
use Rattle.oof_axis.specs.StaticOffset.{static_offset}

-- ---- words

unfoldable pub word : List ℕ → ℕ → ℕ
word [] n = 0
word (w ∷ ws) zero = w
word (w ∷ ws) (suc n) = word ws n

unfoldable pub float : List ℕ → ℕ → Float
float ws n = of_bits binary32 (word ws n)

-- an inset or a margin: 2 ^ 32 is auto
unfoldable pub maybe : ℕ → Option Float
maybe w = cond (eqb w 4294967296) None (Some (of_bits binary32 w))

unfoldable pub flag : ℕ → Bool
flag w = eqb w 1

-- codes, as document 01 numbers them
unfoldable pub edge_of : ℕ → AxisStaticEdge
edge_of w = cond (eqb w 0) Start (cond (eqb w 1) Center End)

unfoldable pub keyword_from : List AlignItemsKeyword → ℕ → AlignItemsKeyword
keyword_from [] n = keyword.Normal
keyword_from (k ∷ ks) zero = k
keyword_from (k ∷ ks) (suc n) = keyword_from ks n

unfoldable pub keyword_of : ℕ → AlignItemsKeyword
keyword_of n =
    keyword_from
    (keyword.Normal ∷ keyword.Start ∷ keyword.End ∷ keyword.FlexStart ∷ keyword.FlexEnd ∷ keyword.SelfStart ∷ keyword.SelfEnd ∷ keyword.Center ∷ keyword.Baseline ∷ keyword.Stretch ∷ [])
    n

-- five words: an area less an offset, edge, safety, fallback edge
unfoldable pub static_of : List ℕ → ℕ → Float → AxisStaticPosition
static_of ws n offset =
    record {
      area = float ws n ⊖ offset to float ws (suc n) ⊖ offset;
      align =
          record {
            keyword = edge_of (word ws (suc (suc n)));
            safety = safety_of (word ws (suc (suc (suc n))));
            fallback = edge_of (word ws (suc (suc (suc (suc n)))));
          };
    }

-- ---- boxes

-- an axis of a laid-out box: what it was laid out with, and what was found
pub record Sample : Type 0 where
  -- block size; insets and margins, start and end; static position (5 words); alignment keyword, safety; inline, reversed, scrolls
  pub axis : List ℕ
  -- the area's offset
  pub offset : ℕ
  pub size : ℕ
  -- location (offset included), start and end margin
  pub found : List ℕ

unfoldable pub axis_of : List ℕ → Float → OofAxis
axis_of ws offset =
    record {
      size = float ws 0;
      inset = record { start = maybe (word ws 1); end = maybe (word ws 2) };
      margin = record { start = maybe (word ws 3); end = maybe (word ws 4) };
      place = static_of ws 5 offset;
      alignment = from_resolved (keyword_of (word ws 10));
      safety = safety_of (word ws 11);
      inline = flag (word ws 12);
      reversed = flag (word ws 13);
      scrolls = flag (word ws 14);
    }

-- equal as numbers, or both NaN
unfoldable pub same : Float → Float → Bool
same a b = eq a b || (is_nan a && is_nan b)

unfoldable pub found : AxisPlacement → Float → List ℕ → Bool
found p offset ws =
    same (p.position ⊕ offset) (float ws 0) && (same p.margin.start (float ws 1) && same p.margin.end (float ws 2))

unfoldable pub agrees : Sample → Bool
agrees s =
    let offset = of_bits binary32 s.offset in
    found (placement (axis_of s.axis offset) (of_bits binary32 s.size)) offset s.found

unfoldable pub all_agree : List Sample → Bool
all_agree [] = true
all_agree (s ∷ ss) = agrees s && all_agree ss

-- ---- static offsets: 16 words given (static position of x and y, width, height, margins), x and y found

pub record Offset : Type 0 where
  pub given : List ℕ
  pub found : List ℕ

unfoldable pub offset_of : List ℕ → Point Float
offset_of ws =
    static_offset
    (record { x = static_of ws 0 (of_bits binary32 0); y = static_of ws 5 (of_bits binary32 0) })
    (record { width = float ws 10; height = float ws 11 })
    (record { left = float ws 12; right = float ws 13; top = float ws 14; bottom = float ws 15 })

unfoldable pub offset_agrees : Offset → Bool
offset_agrees o =
    let p = offset_of o.given in
    same p.x (float o.found 0) && same p.y (float o.found 1)

unfoldable pub all_offsets_agree : List Offset → Bool
all_offsets_agree [] = true
all_offsets_agree (o ∷ os) = offset_agrees o && all_offsets_agree os
