-- A run and its mirror image are drawn in the same order. Assumes nothing.
use Prim.Native.Nat.{ℕ}
use mathlib.Core.Bool.{not}
use mathlib.Core.List.{List, foldl}
use mathlib.Core.Path.{◌≡◌, refl, sym, ap, ◌∙◌, subst}
use lib.Dec.{eqb}
use lib.ListN.{length}
use Rattle.tree.specs.declared.layout.OofCandidate.{OofCandidate}
use Rattle.tree.specs.declared.layout.OofPositioningArea.{OofPositioningArea}
use Rattle.sweep.specs.Sweep.{layers_of}
use Rattle.run.specs.Call.{Lent, Outcome}
use Rattle.run.specs.Run.{extents_of, opened}
use Rattle.mirror_run.specs.Image.{image_opening, image_styles, image_candidates}
use Rattle.mirror_run.specs.Runs.{Each, none, one, run_next, image_next}
use Rattle.mirror_run.proofs.Linked.{Frame, Ready, Linked, linked}
use Rattle.reach_laws.proofs.Runs.{both, with_image}
use Rattle.reach_laws.proofs.Verdict.{verdict_alike}
use Rattle.drawing.specs.Drawing.{draw_verdict, drawn}
use Rattle.drawing_laws.specs.Laws.{drawn_of, MirroredDrawing}

-- ---- equal layers

image_layers : {area : OofPositioningArea} {n : ℕ} {cs cs' : List OofCandidate} → Each (Ready area n) cs cs' → layers_of cs ≡ layers_of cs'
image_layers none = refl
image_layers (one r e) = rw (r.image.layer, image_layers e) refl

-- ---- so the same order

drawn_alike : {f : Frame} {x x' : Outcome} (before : List ℕ) → Linked f x x' → drawn_of before f.styles x ≡ drawn_of before (image_styles f.styles) x'
unfolding drawn draw_verdict
drawn_alike {f} before (linked s p p' links same) =
    rw (verdict_alike f s p p' links (not (eqb (length before) s.counts.filled.working)), image_layers links.lists.claimed) refl

pub mirrored_drawing : MirroredDrawing
mirrored_drawing o candidates lent lent' ms before area table quarter image same fair =
    let e = with_image lent lent' image in
    subst
    (λ (lent' : Lent).
    drawn_of before lent.styles (foldl (run_next lent.styles) (opened o candidates lent) ms)
    ≡ drawn_of before lent'.styles (foldl (image_next lent'.styles) (opened (image_opening o) (image_candidates o.area candidates) lent') ms))
    (sym e)
    (drawn_alike before (both o candidates lent lent'.layouts lent'.working lent'.unclaimed lent'.tally ms area table quarter (same ∙ ap extents_of e) fair))
