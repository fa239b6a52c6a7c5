-- A candidate as a record of 14 words (document 01, "Candidate, 13 words", and the layer of request #104; refusal 4). Assumes nothing.
use Rattle.std.specs.Prelude.{ℕ, ◌+◌, List, [], ◌∷◌, ◌++◌, get_or}
use Rattle.std.specs.Float.Ieee.{to_bits}
use Rattle.std.specs.Float.{binary32}
use Rattle.geometry.specs.Geometry.{◌to◌}
use Rattle.records.specs.Records.{Kind, below, whole, float, float_at}
use Rattle.style.specs.Codes.{position_of, position_code, safety_of, safety_code}
use Rattle.tree.specs.declared.layout.AxisStaticPosition.{AxisStaticPosition}
use Rattle.tree.specs.declared.layout.OofCandidate.{OofCandidate}
use Rattle.tree.specs.Codes.{edge_of, edge_code}

abbrev pub candidate_width : ℕ
candidate_width = 14

-- the layer is the last of them
abbrev pub layer_word : ℕ
layer_word = 13

-- "its layer, from 0 to 255": so many layers
abbrev pub layer_count : ℕ
layer_count = 256

-- ---- what each word holds, n being the number of items

-- area start, area end, edge, safety, fallback edge
abbrev pub axis_kinds : List Kind
axis_kinds = float ∷ float ∷ below 3 ∷ below 3 ∷ below 3 ∷ []

-- node, order, position, x, y, layer
abbrev pub candidate_kinds : ℕ → List Kind
candidate_kinds n = below n ∷ whole ∷ below 5 ∷ (axis_kinds ++ axis_kinds ++ (below layer_count ∷ []))

-- ---- reading

-- one axis, from word k on
unfoldable pub axis_of : List ℕ → ℕ → AxisStaticPosition
axis_of r k =
    record {
      area = float_at r k to float_at r (k + 1);
      align =
          record { keyword = edge_of (get_or r (k + 2) 0); safety = safety_of (get_or r (k + 3) 0); fallback = edge_of (get_or r (k + 4) 0) };
    }

unfoldable pub candidate_of : List ℕ → OofCandidate
candidate_of r =
    record {
      node = get_or r 0 0;
      order = get_or r 1 0;
      position = position_of (get_or r 2 0);
      place = record { x = axis_of r 3; y = axis_of r 8 };
      layer = get_or r layer_word 0;
    }

-- ---- writing: every NaN is 7FC00000, every other word stays

abbrev pub axis_words : AxisStaticPosition → List ℕ
axis_words p =
    to_bits binary32 p.area.start ∷ to_bits binary32 p.area.end ∷ edge_code p.align.keyword ∷ safety_code p.align.safety
    ∷ edge_code p.align.fallback
    ∷ []

unfoldable pub candidate_words : OofCandidate → List ℕ
candidate_words c =
    c.node ∷ c.order ∷ position_code c.position ∷ (axis_words c.place.x ++ axis_words c.place.y ++ (c.layer ∷ []))
