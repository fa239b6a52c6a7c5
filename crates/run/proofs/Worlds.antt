-- A world in words: what a run that has come to a world holds and keeps, and what of it is read back. Assumes nothing.
use Prim.Native.Nat.{ℕ, suc, ◌+◌, ◌*◌, ◌/◌, ◌<◌, ◌≤◌}
use native.Mathlib.Omega.{arith}
use native.Mathlib.Nat.{zero-add, mul-le-mul_left, mul-div-le, le_trans}
use native.Mathlib.Numerals.{add-one}
use mathlib.Core.Path.{◌≡◌, refl, sym, ap, ◌∙◌, subst}
use mathlib.Core.Bool.{true, false}
use mathlib.Core.List.{List, [], ◌∷◌, ◌++◌, map, map-append, append_assoc}
use lib.ListN.{length, get_or, length-append, length-map, get_or-map}
use lib.Seq.{get_or_at}
use Rattle.std.specs.Prelude.{Some, None}
use Rattle.style.specs.declared.ContainingBlockClaims.{ContainingBlockClaims}
use Rattle.tree.specs.declared.layout.OofCandidate.{OofCandidate}
use Rattle.records.specs.Records.{record_at, records, written}
use Rattle.records.proofs.Laws.{record_of_records}
use Rattle.tree_record.specs.Candidate.{candidate_width, candidate_of}
use Rattle.tree_record.specs.Layout.{layout_width, layout_words}
use Rattle.sweep.specs.Sweep.{first_candidates, candidates_in, moved, keep, appended}
use Rattle.sweep.specs.Laws.{AllFit}
use Rattle.sweep.proofs.Laws.{swept_fits, kept_fits, appended_back}
use Rattle.sweep.proofs.Steps.{kept_moved, appended_twice}
use Rattle.oof_box.specs.Box.{Placed}
use Rattle.run.specs.Straight.{World, Box, at_opening, after_box}
use Rattle.run.specs.Theorems.{claimed_in, laid_into}

-- ---- lists of candidates in words

-- a list's candidates, read back
pub list_back : (ws : List ℕ) (cs : List OofCandidate) → AllFit cs → length cs ≤ length ws / candidate_width
    → first_candidates (length cs) (appended ws 0 cs) ≡ cs
unfolding first_candidates records
list_back ws cs f h =
    rw zero-add at (appended_back ws 0 cs f (rw zero-add (le_trans (mul-le-mul_left candidate_width h) (mul-div-le (length ws) candidate_width))))

-- the one that stands after `before`
pub one_back : (ws : List ℕ) (before : List OofCandidate) (c : OofCandidate) (rest : List OofCandidate) → AllFit (before ++ c ∷ rest)
    → length (before ++ c ∷ rest) ≤ length ws / candidate_width
    → candidate_of (record_at candidate_width (appended ws 0 (before ++ c ∷ rest)) (length before)) ≡ c
unfolding first_candidates
one_back ws before c rest f h =
    let cs = before ++ c ∷ rest in
    let rs = records candidate_width (length cs) (appended ws 0 cs) in
    let l : length before < length cs = omega (arith, length-append before (c ∷ rest)) in
    ap candidate_of (sym (record_of_records candidate_width (length cs) (appended ws 0 cs) (length before) l))
    ∙ sym (get_or-map candidate_of rs (length before) [])
    ∙ ap (λ (l : List OofCandidate). get_or l (length before) (candidate_of [])) (list_back ws cs f h)
    ∙ get_or_at before c rest (candidate_of []) (length before) refl

-- more candidates at the rear of a list that holds all of its own: its words, and its count
pub rear : (ws : List ℕ) (xs ys : List OofCandidate) {zs : List OofCandidate} → zs ≡ xs ++ ys
    → appended (appended ws 0 xs) (length xs) ys ≡ appended ws 0 zs
rear ws xs ys e =
    ap (λ (n : ℕ). appended (appended ws 0 xs) n ys) (sym (zero-add (length xs))) ∙ sym (appended_twice ws 0 xs ys) ∙ ap (appended ws 0) (sym e)

pub rear_count : (xs ys : List OofCandidate) {zs : List OofCandidate} → zs ≡ xs ++ ys → length xs + length ys ≡ length zs
rear_count xs ys e = sym (ap length e ∙ length-append xs ys)

-- ---- worlds

-- the candidates of the boxes laid out
abbrev pub laid_in : World → List OofCandidate
laid_in w = map (λ (b : Box). b.candidate) w.laid

-- the layout of the last box is written last
pub laid_last : (ws : List ℕ) (bs : List Box) (b : Box)
    → laid_into ws (bs ++ (b ∷ [])) ≡ written (laid_into ws bs) (layout_width * b.candidate.node) (layout_words b.layout)
unfolding laid_into
laid_last ws [] b = refl
laid_last ws (x ∷ bs) b = laid_last (written ws (layout_width * x.candidate.node) (layout_words x.layout)) bs b

pub laid_count_lem : (w : World) → length (laid_in w) ≡ length w.laid
laid_count_lem w = length-map w.laid (λ (b : Box). b.candidate)

pub claimed_count : (w : World) → length (claimed_in w) ≡ length w.laid + length w.waiting
claimed_count w = length-append (laid_in w) w.waiting ∙ ap (λ (n : ℕ). n + length w.waiting) (laid_count_lem w)

fits_append : (xs ys : List OofCandidate) → AllFit xs → AllFit ys → AllFit (xs ++ ys)
fits_append [] ys f g = g
fits_append (x ∷ xs) ys f g = (f.0, fits_append xs ys f.1 g)

-- a box was laid out: what it surfaced and is claimed comes after all that was claimed
pub claimed_after : (by : ContainingBlockClaims) (w : World) (c : OofCandidate) (rest : List OofCandidate) (p : Placed) → w.waiting ≡ c ∷ rest
    → claimed_in (after_box by w c rest p) ≡ claimed_in w ++ keep by true (map (moved (Some p.outcome.layout.location)) p.surfaced)
unfolding after_box moved
claimed_after by w c rest p e =
    let before = laid_in w in
    let more = keep by true (map (moved (Some p.outcome.layout.location)) p.surfaced) in
    ap (λ (l : List OofCandidate). l ++ (rest ++ more)) (map-append (λ (b : Box). b.candidate) w.laid _)
    ∙ append_assoc before (c ∷ []) (rest ++ more)
    ∙ sym (append_assoc before (c ∷ rest) more)
    ∙ rw e refl

pub unclaimed_after : (by : ContainingBlockClaims) (w : World) (c : OofCandidate) (rest : List OofCandidate) (p : Placed)
    → (after_box by w c rest p).unclaimed ≡ w.unclaimed ++ keep by false (map (moved (Some p.outcome.layout.location)) p.surfaced)
unfolding after_box moved
unclaimed_after by w c rest p = refl

pub laid_after : (by : ContainingBlockClaims) (w : World) (c : OofCandidate) (rest : List OofCandidate) (p : Placed)
    → length (after_box by w c rest p).laid ≡ suc (length w.laid)
unfolding after_box
laid_after by w c rest p = length-append w.laid _ ∙ add-one (length w.laid)

-- the claimed candidates are values of f32s, and they have room in a list that is not too long
pub record Sound (working : List ℕ) (w : World) : Type 0 where
  pub fits : AllFit (claimed_in w)
  pub room : length (claimed_in w) ≤ length working / candidate_width
  pub most : length working / candidate_width ≤ 4096

pub unmoved : (cs : List OofCandidate) → map (moved None) cs ≡ cs
unfolding moved
unmoved [] = refl
unmoved (c ∷ cs) = ap (λ (l : List OofCandidate). c ∷ l) (unmoved cs)

pub opening_sound : (by : ContainingBlockClaims) (working candidates : List ℕ)
    → (length (keep by true (candidates_in candidates)) ≤ length working / candidate_width) × (length working / candidate_width ≤ 4096)
    → Sound working (at_opening by (candidates_in candidates))
unfolding at_opening
opening_sound by working candidates h =
    record {
      fits = (kept_fits by (candidates_in candidates) (subst AllFit (unmoved (candidates_in candidates)) (swept_fits None candidates))).0;
      room = h.0;
      most = h.1;
    }

-- c is the first box that waits, before `rest`
pub record First (working : List ℕ) (w : World) (c : OofCandidate) (rest : List OofCandidate) : Type 0 where
  pub waiting : w.waiting ≡ c ∷ rest
  pub sound : Sound working w

-- its record, among the claimed ones
pub first_back : (working : List ℕ) {w : World} {c : OofCandidate} {rest : List OofCandidate} → First working w c rest
    → candidate_of (record_at candidate_width (appended working 0 (claimed_in w)) (length w.laid)) ≡ c
first_back working {w} {c} {rest} f =
    ap (λ (i : ℕ). candidate_of (record_at candidate_width (appended working 0 (claimed_in w)) i)) (sym (laid_count_lem w))
    ∙ subst
    (λ (waiting : List OofCandidate). AllFit (laid_in w ++ waiting) → length (laid_in w ++ waiting) ≤ length working / candidate_width
    → candidate_of (record_at candidate_width (appended working 0 (laid_in w ++ waiting)) (length (laid_in w))) ≡ c)
    (sym f.waiting)
    (one_back working (laid_in w) c rest)
    f.sound.fits
    f.sound.room

pub after_sound : (by : ContainingBlockClaims) (working : List ℕ) {w : World} {c : OofCandidate} {rest : List OofCandidate} (p : Placed)
    (surfaced : List ℕ)
    → p.surfaced ≡ candidates_in surfaced
    → First working w c rest
    → length (claimed_in w) + length (keep by true (candidates_in surfaced)) ≤ length working / candidate_width
    → Sound working (after_box by w c rest p)
after_sound by working {w} {c} {rest} p surfaced e f h =
    let shift = Some p.outcome.layout.location in
    let cs = map (moved shift) (candidates_in surfaced) in
    let all = claimed_after by w c rest p f.waiting ∙ ap (λ (l : List OofCandidate). claimed_in w ++ keep by true (map (moved shift) l)) e in
    record {
      fits = subst AllFit (sym all) (fits_append (claimed_in w) (keep by true cs) f.sound.fits (kept_fits by cs (swept_fits shift surfaced)).0);
      room = rw (all, length-append, kept_moved by true shift (candidates_in surfaced)) h;
      most = f.sound.most;
    }
