-- The law of `specs/Laws.antt` on pixel edges. Assumes nothing.
use mathlib.Core.Path.{refl, ap}
use Rattle.tree_record.specs.Layout.{layout_of}
use Rattle.std.specs.Prelude.{Result, ℤ}
use Rattle.refusal.specs.declared.Refusal.{Refusal}
use Rattle.geometry.specs.declared.Rect.{Rect}
use Rattle.pixels.proofs.Edges.{only_six_are_read}
use Rattle.pixels.specs.Told.{edges_told}
use Rattle.oof_c_words.specs.PixelWords.{pixels_in_words}
use Rattle.oof_c_words.specs.Laws.{OnlyFourWordsAreRead}

pub only_four_words_are_read : OnlyFourWordsAreRead
unfolding pixels_in_words layout_of
only_four_words_are_read a b offset before x y w h =
    ap (λ (p : Result (Rect ℤ) Refusal). edges_told p before) (only_six_are_read (layout_of a) (layout_of b) offset (rw (x, y) refl) (rw (w, h) refl))
