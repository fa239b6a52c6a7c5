-- What rows of the parts that read a finished run are made of: words of numbers, records, and a state's counts. Assumes nothing.
use Rattle.std.specs.Prelude.{ℕ, ◌*◌, List, [], ◌∷◌, ◌++◌, replicate, pos, Float}
use Rattle.std.specs.Float.Ieee.{div, neg, of_int, of_bits, to_bits}
use Rattle.std.specs.Float.{binary32}
use Rattle.style_record.specs.Record.{style_words}
use Rattle.run.specs.Call.{Slices, Lent, lent}
use Rattle.run.specs.declared.Counts.{Counts}

-- n eighths of a pixel, and so many below 0
abbrev pub e : ℕ → ℕ
e n = to_bits binary32 (div binary32 (of_int binary32 (pos n)) (of_int binary32 (pos 8)))

abbrev pub minus : ℕ → ℕ
minus n = to_bits binary32 (neg (of_bits binary32 (e n)))

-- a NaN, and half an eighth
abbrev pub nan : ℕ
nan = 0x7FC0_0000

abbrev pub half : ℕ
half = 0x3D80_0000

abbrev pub float : ℕ → Float
float word = of_bits binary32 word

-- the styles of n items, in words that are all 0
abbrev pub styles : ℕ → List ℕ
styles n = replicate (style_words * n) 0

-- a layout's 23 words: x, y, width and height; all others are `other`
abbrev pub layout_with : ℕ → ℕ → ℕ → ℕ → ℕ → List ℕ
layout_with other x y width height = other ∷ width ∷ height ∷ (replicate 6 other ++ (x ∷ y ∷ replicate 12 other))

abbrev pub layout : ℕ → ℕ → ℕ → ℕ → List ℕ
layout x y width height = layout_with 0 x y width height

-- a candidate's 14 words: node, position, of which 2 is absolute and 5 none, and layer
abbrev pub on_layer : ℕ → ℕ → ℕ → List ℕ
on_layer layer node position = node ∷ 0 ∷ position ∷ (replicate 10 0 ++ (layer ∷ []))

abbrev pub candidate : ℕ → ℕ → List ℕ
candidate node position = on_layer 0 node position

-- filled working and unclaimed records; boxes begun, questions answered
abbrev pub counts : ℕ → ℕ → ℕ → ℕ → Counts
counts working unclaimed begun answered = record { filled = record { working = working; unclaimed = unclaimed }; begun = begun; answered = answered }

-- as an opening is lent them: with a tally of n words
abbrev pub with_tally : ℕ → Slices → Lent
with_tally n l = lent l.styles l.layouts l.working l.unclaimed (replicate n 0)
