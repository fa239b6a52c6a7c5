-- The search does not see that the first record of 23 words is all of them: it lacks `take_all` for an array.
use native.Mathlib.Omega.{arith}
use mathlib.Core.Path.{ap, ◌∙◌}
use lib.Seq.{take_all}
use Rattle.tree.specs.declared.layout.Layout.{Layout}
use Rattle.records.specs.Records.{record_at}
use Rattle.tree_record.specs.Layout.{layout_of}
use Rattle.std.specs.Prelude.{Result, ℤ}
use Rattle.refusal.specs.declared.Refusal.{Refusal}
use Rattle.geometry.specs.declared.Rect.{Rect}
use Rattle.pixels.specs.Pixels.{pixel_edges}
use Rattle.pixels.specs.Told.{edges_told}
use Rattle.oof_c_words.specs.PixelWords.{pixels_in_words}
use Rattle.oof_c.proofs.oof_pixels.Goals as goal

pub returns : goal.returns
unfolding record_at pixels_in_words
returns c =
    let a = c.args in
    let whole = take_all 23 a.layout.now (omega (arith, c.layout_at-arg-1.given)) in
    let l = c.layout_at-l.ensures ∙ ap layout_of whole in
    let p = c.pixel_edges-p.ensures ∙ ap (λ (l : Layout). pixel_edges l (record { x = a.x; y = a.y })) l in
    c.tell.ensures ∙ ap (λ (p : Result (Rect ℤ) Refusal). edges_told p a.edges.now) p
