-- The laws of `specs/Laws.antt`. Assumes nothing.
use Rattle.std.specs.Prelude.{Float}
use Prim.Native.Nat.{ℕ, zero, suc, ◌<◌}
use native.Mathlib.Omega.{arith}
use mathlib.Core.Bool.{true, false, not}
use mathlib.Core.List.{List}
use mathlib.Core.Path.{◌≡◌, refl}
use lib.Dec.{lit<, leb}
use lib.Ieee.{Float, of_bits, to_bits, binary32}
use lib.Ieee.Bits.{of_bits-fits}
use lib.ListN.{get_or}
use borrow.Author.Tests.{leb-false, not-true}
use Rattle.util.proofs.Laws.{float_back}
use Rattle.records.specs.Records.{canonical_from, canonical_word, breaks, wrong, good}
use Rattle.records.proofs.Laws.{every_is}
use Rattle.geometry.specs.declared.Point.{Point}
use Rattle.geometry.specs.declared.Rect.{Rect}
use Rattle.geometry.specs.declared.Size.{Size}
use Rattle.style.specs.declared.Position.{Position}
use Rattle.style.specs.declared.Position.TheVariants as position
use Rattle.style.specs.declared.alignment.AlignmentSafety.{AlignmentSafety}
use Rattle.style.specs.declared.alignment.AlignmentSafety.TheVariants.{Default, Unsafe, Safe}
use Rattle.tree.specs.declared.layout.AxisStaticEdge.{AxisStaticEdge}
use Rattle.tree.specs.declared.layout.AxisStaticEdge.TheVariants.{Start, Center, End}
use Rattle.tree.specs.Codes.{edge_of, edge_code}
use Rattle.style.specs.Codes.{position_of, position_code, safety_of, safety_code}
use Rattle.tree_record.specs.Candidate.{candidate_width, candidate_kinds, axis_of, candidate_of, candidate_words}
use Rattle.tree_record.specs.Layout.{rect_of, layout_of, layout_words}
use Rattle.tree_record.specs.Laws.{CandidateWidths, DecodedFits, CandidateBack, RecordRewritten, LayoutWidths, FitsSize, FitsPoint, FitsRect, LayoutBack, LayoutRewritten}

-- ---- codes

position_back : (p : Position) → position_of (position_code p) ≡ p
unfolding position_of position_code
position_back position.Static = refl
position_back position.Relative = refl
position_back position.Absolute = refl
position_back position.Fixed = refl
position_back position.Sticky = refl

edge_back : (e : AxisStaticEdge) → edge_of (edge_code e) ≡ e
unfolding edge_of edge_code
edge_back Start = refl
edge_back Center = refl
edge_back End = refl

safety_back : (s : AlignmentSafety) → safety_of (safety_code s) ≡ s
unfolding safety_of safety_code
safety_back Default = refl
safety_back Unsafe = refl
safety_back Safe = refl

edge_code_back : (k : ℕ) → k < 3 → edge_code (edge_of k) ≡ k
unfolding edge_of edge_code
edge_code_back zero h = refl
edge_code_back (suc zero) h = refl
edge_code_back (suc (suc zero)) h = refl
edge_code_back (suc (suc (suc k))) h = absurd (omega arith)

safety_code_back : (k : ℕ) → k < 3 → safety_code (safety_of k) ≡ k
unfolding safety_of safety_code
safety_code_back zero h = refl
safety_code_back (suc zero) h = refl
safety_code_back (suc (suc zero)) h = refl
safety_code_back (suc (suc (suc k))) h = absurd (omega arith)

position_code_back : (k : ℕ) → k < 5 → position_code (position_of k) ≡ k
unfolding position_of position_code
position_code_back zero h = refl
position_code_back (suc zero) h = refl
position_code_back (suc (suc zero)) h = refl
position_code_back (suc (suc (suc zero))) h = refl
position_code_back (suc (suc (suc (suc zero)))) h = refl
position_code_back (suc (suc (suc (suc (suc k))))) h = absurd (omega arith)

-- ---- candidates

pub candidate_widths : CandidateWidths
unfolding candidate_words
candidate_widths = (λ n. refl, λ c. refl)

pub decoded_fits : DecodedFits
unfolding candidate_of axis_of
decoded_fits r = (
  (of_bits-fits binary32 (get_or r 3 0), of_bits-fits binary32 (get_or r 4 0)),
  (of_bits-fits binary32 (get_or r 8 0), of_bits-fits binary32 (get_or r 9 0)),
)

pub candidate_back : CandidateBack
unfolding candidate_of candidate_words axis_of
candidate_back c f =
    rw (
      position_back c.position,
      float_back c.place.x.area.start f.0.0,
      float_back c.place.x.area.end f.0.1,
      edge_back c.place.x.align.keyword,
      safety_back c.place.x.align.safety,
      edge_back c.place.x.align.fallback,
      float_back c.place.y.area.start f.1.0,
      float_back c.place.y.area.end f.1.1,
      edge_back c.place.y.align.keyword,
      safety_back c.place.y.align.safety,
      edge_back c.place.y.align.fallback,
    )
    refl

-- a code of a good record is in its list
in_list : (n : ℕ) (r : List ℕ) → good (candidate_kinds n) r 0 ≡ true → (k : ℕ) → k < candidate_width → breaks (candidate_kinds n) r 0 k ≡ false
unfolding good
in_list n r g k h = not-true (breaks (candidate_kinds n) r 0 k) ((every_is candidate_width (λ k. not (breaks (candidate_kinds n) r 0 k))).0 g k h)

pub record_rewritten : RecordRewritten
unfolding candidate_of candidate_words axis_of canonical_from canonical_word breaks wrong
record_rewritten n r g =
    let below : (limit k : ℕ) → leb limit (get_or r k 0) ≡ false → get_or r k 0 < limit = λ limit k e. leb-false limit (get_or r k 0) e in
    rw (
      position_code_back (get_or r 2 0) (below 5 2 (in_list n r g 2 (lit< tt))),
      edge_code_back (get_or r 5 0) (below 3 5 (in_list n r g 5 (lit< tt))),
      safety_code_back (get_or r 6 0) (below 3 6 (in_list n r g 6 (lit< tt))),
      edge_code_back (get_or r 7 0) (below 3 7 (in_list n r g 7 (lit< tt))),
      edge_code_back (get_or r 10 0) (below 3 10 (in_list n r g 10 (lit< tt))),
      safety_code_back (get_or r 11 0) (below 3 11 (in_list n r g 11 (lit< tt))),
      edge_code_back (get_or r 12 0) (below 3 12 (in_list n r g 12 (lit< tt))),
    )
    refl

-- ---- layouts

pub layout_widths : LayoutWidths
unfolding layout_words
layout_widths = (refl, λ l. refl)

-- a float, written and read
abbrev again : Float → Float
again x = of_bits binary32 (to_bits binary32 x)

rect_back : (r : Rect Float) → FitsRect r → ◌≡◌ {A = Rect Float} (record { left = again r.left; right = again r.right; top = again r.top; bottom = again r.bottom }) r
rect_back r f =
    rw (float_back r.left f.0, float_back r.right f.1, float_back r.top f.2, float_back r.bottom f.3) refl

size_back : (s : Size Float) → FitsSize s → ◌≡◌ {A = Size Float} (record { width = again s.width; height = again s.height }) s
size_back s f = rw (float_back s.width f.0, float_back s.height f.1) refl

point_back : (p : Point Float) → FitsPoint p → ◌≡◌ {A = Point Float} (record { x = again p.x; y = again p.y }) p
point_back p f = rw (float_back p.x f.0, float_back p.y f.1) refl

pub layout_back : LayoutBack
unfolding layout_of layout_words rect_of
layout_back l f =
    rw (
      size_back l.size f.size,
      rect_back l.overflow f.overflow,
      size_back l.scrollbar f.scrollbar,
      point_back l.location f.location,
      rect_back l.padding f.padding,
      rect_back l.border f.border,
      rect_back l.margin f.margin,
    )
    refl

pub layout_rewritten : LayoutRewritten
unfolding layout_of layout_words rect_of canonical_from canonical_word
layout_rewritten r = refl
