-- A layout as a record of 23 words (document 01, "Layout, 23 words"). Assumes nothing.
use Rattle.std.specs.Prelude.{ℕ, ◌+◌, List, [], ◌∷◌, ◌++◌, get_or, replicate, Float}
use Rattle.std.specs.Float.Ieee.{to_bits}
use Rattle.std.specs.Float.{binary32}
use Rattle.geometry.specs.declared.Rect.{Rect}
use Rattle.records.specs.Records.{Kind, whole, float, float_at}
use Rattle.tree.specs.declared.layout.Layout.{Layout}
use Rattle.tree.specs.declared.layout.OofPositioningArea.{OofPositioningArea}

abbrev pub layout_width : ℕ
layout_width = 23

-- the order, then floats
abbrev pub layout_kinds : List Kind
layout_kinds = whole ∷ replicate 22 float

-- ---- reading

-- left, right, top, bottom, from word k on
unfoldable pub rect_of : List ℕ → ℕ → Rect Float
rect_of r k =
    record { left = float_at r k; right = float_at r (k + 1); top = float_at r (k + 2); bottom = float_at r (k + 3) }

-- an area: width, height, offset x and y, from word k on
abbrev pub area_of : List ℕ → ℕ → OofPositioningArea
area_of r k =
    record {
      size = record { width = float_at r k; height = float_at r (k + 1) };
      offset = record { x = float_at r (k + 2); y = float_at r (k + 3) };
    }

unfoldable pub layout_of : List ℕ → Layout
layout_of r =
    record {
      order = get_or r 0 0;
      size = record { width = float_at r 1; height = float_at r 2 };
      overflow = rect_of r 3;
      scrollbar = record { width = float_at r 7; height = float_at r 8 };
      location = record { x = float_at r 9; y = float_at r 10 };
      padding = rect_of r 11;
      border = rect_of r 15;
      margin = rect_of r 19;
    }

-- ---- writing: every NaN is 7FC00000

abbrev pub rect_words : Rect Float → List ℕ
rect_words r =
    to_bits binary32 r.left ∷ to_bits binary32 r.right ∷ to_bits binary32 r.top ∷ to_bits binary32 r.bottom ∷ []

unfoldable pub layout_words : Layout → List ℕ
layout_words l =
    (l.order ∷ to_bits binary32 l.size.width ∷ to_bits binary32 l.size.height ∷ []) ++ rect_words l.overflow
    ++ (to_bits binary32 l.scrollbar.width ∷ to_bits binary32 l.scrollbar.height ∷ [])
    ++ (to_bits binary32 l.location.x ∷ to_bits binary32 l.location.y ∷ [])
    ++ rect_words l.padding
    ++ rect_words l.border
    ++ rect_words l.margin
