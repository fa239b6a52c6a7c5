-- The laws of `specs/Laws.antt`. Assumes nothing.
use Prim.Native.Nat.{ℕ, suc, ◌+◌, ◌/◌, ◌<◌}
use native.Mathlib.Omega.{arith}
use mathlib.Core.Bool.{Bool, true, false, cond, not, ◌&&◌}
use mathlib.Core.List.{List, [], ◌∷◌, ◌++◌, map}
use mathlib.Core.Logic.{◌⊎◌, inl, inr, ⊎_elim}
use mathlib.Core.Path.{◌≡◌, refl, sym, ap, ◌∙◌}
use lib.Dec.{leb}
use lib.Ieee.{binary32}
use lib.Ieee.Fits.{add-fits}
use lib.ListN.{length}
use lib.Seq.{take_at, drop_at}
use borrow.Author.Tests.{lt-leb, leb-false}
use Rattle.std.specs.Prelude.{Option, Some, None, Ok, Err, Float}
use Rattle.geometry.specs.declared.Point.{Point}
use Rattle.records.specs.Records.{records, room}
use Rattle.records.proofs.Laws.{rear_back}
use Rattle.refusal.specs.declared.Refusal.{Refusal}
use Rattle.refusal.specs.declared.Refusal.TheVariants.{ListFull}
use Rattle.style.specs.declared.ContainingBlockClaims.{ContainingBlockClaims}
use Rattle.style.specs.Values.{claims}
use Rattle.tree.specs.declared.layout.OofCandidate.{OofCandidate}
use Rattle.tree.specs.Static.{shifted_axis, translated}
use Rattle.tree_record.specs.Candidate.{candidate_width, candidate_of, candidate_words}
use Rattle.tree_record.specs.Laws.{FitsCandidate}
use Rattle.tree_record.proofs.Laws.{candidate_widths, decoded_fits, candidate_back}
use Rattle.sweep.specs.declared.Filled.{Filled}
use Rattle.sweep.specs.Sweep.{first_candidates, candidates_in, moved, side, keep, list_words, appended, Outcome, swept}
use Rattle.sweep.specs.Laws.{KeepSplits, FullIsExceeded, RefusedKeeps, AllFit, SweptFits, KeptFits, AppendedBack}
use Rattle.sweep.proofs.Steps.{words_length}

-- ---- claimed, or not

pub keep_splits : KeepSplits
unfolding keep side
keep_splits by [] = refl
keep_splits by (c ∷ cs) = go (claims by c.position) (keep by true cs) (keep by false cs) (keep_splits by cs)
  where
    go : (b : Bool) (xs ys : List OofCandidate) → length xs + length ys ≡ length cs → length (cond b (c ∷ xs) xs) + length (cond (not b) (c ∷ ys) ys) ≡ suc (length cs)
    go true xs ys e = omega arith
    go false xs ys e = omega arith

-- ---- refusal 5

pub never : {A : Type 0} {f : Filled} {r : Refusal} → Ok f ≡ Err r → A
never e = absurd (let z : ◌≡◌ {A = ℕ} 0 1 = cc in omega arith)

-- by the two tests: what is answered, and what that says
by_tests : (m p n q : ℕ) (o full : Outcome) (f : Filled) → o.answer ≡ Ok f
    → ((cond (leb m p && leb n q) o full).answer ≡ Err ListFull → (p < m) ⊎ (q < n))
    × ((p < m) ⊎ (q < n) → cond (leb m p && leb n q) o full ≡ full)
by_tests m p n q o full f i = (go (leb m p) (leb n q) refl refl, ⊎_elim (λ h. rw (lt-leb m p h) refl) (λ h. rw (lt-leb n q h) (second (leb m p))))
  where
    go : (a b : Bool) → leb m p ≡ a → leb n q ≡ b → (cond (a && b) o full).answer ≡ Err ListFull → (p < m) ⊎ (q < n)
    go true true d e r = never (sym i ∙ r)
    go true false d e r = inr (leb-false n q e)
    go false b d e r = inl (leb-false m p d)

    second : (a : Bool) → cond (a && false) o full ≡ full
    second true = refl
    second false = refl

pub full_is_exceeded : FullIsExceeded
unfolding swept room
full_is_exceeded by cs w u f =
    let t = by_tests (f.working + length (keep by true cs)) (length w / candidate_width) (f.unclaimed + length (keep by false cs)) (length u / candidate_width) _ (record { answer = Err ListFull; working = w; unclaimed = u }) _ refl in
    (t.0, λ x. ap (λ (o : Outcome). o.answer) (t.1 x))

pub refused_keeps : RefusedKeeps
unfolding swept
refused_keeps by cs w u f r e =
    go (room candidate_width (length w) f.working (length (keep by true cs)) && room candidate_width (length u) f.unclaimed (length (keep by false cs))) e
  where
    inside : List OofCandidate
    inside = keep by true cs

    outside : List OofCandidate
    outside = keep by false cs

    into : Outcome
    into =
        record {
          answer = Ok (record { working = f.working + length inside; unclaimed = f.unclaimed + length outside });
          working = appended w f.working inside;
          unclaimed = appended u f.unclaimed outside;
        }

    full : Outcome
    full = record { answer = Err ListFull; working = w; unclaimed = u }

    go : (b : Bool) → (cond b into full).answer ≡ Err r → ((cond b into full).working ≡ w) × ((cond b into full).unclaimed ≡ u)
    go true e = never e
    go false e = (refl, refl)

-- ---- the lists, read back

moved_fits : (s : Option (Point Float)) (c : OofCandidate) → FitsCandidate c → FitsCandidate (moved s c)
unfolding moved translated shifted_axis
moved_fits None c f = f
moved_fits (Some location) c f = (
  (add-fits binary32 c.place.x.area.start location.x, add-fits binary32 c.place.x.area.end location.x),
  (add-fits binary32 c.place.y.area.start location.y, add-fits binary32 c.place.y.area.end location.y),
)

pub swept_fits : SweptFits
unfolding candidates_in first_candidates
swept_fits s ws = all (records candidate_width (length ws / candidate_width) ws)
  where
    all : (rs : List (List ℕ)) → AllFit (map (moved s) (map candidate_of rs))
    all [] = tt
    all (r ∷ rs) = (moved_fits s (candidate_of r) (decoded_fits r), all rs)

pub keep_fits : (by : ContainingBlockClaims) (list : Bool) (cs : List OofCandidate) → AllFit cs → AllFit (keep by list cs)
unfolding keep
keep_fits by list [] f = tt
keep_fits by list (c ∷ cs) f = go (side by list c.position) (keep by list cs) (keep_fits by list cs f.1)
  where
    go : (b : Bool) (xs : List OofCandidate) → AllFit xs → AllFit (cond b (c ∷ xs) xs)
    go true xs g = (f.0, g)
    go false xs g = g

pub kept_fits : KeptFits
kept_fits by cs f = (keep_fits by true cs f, keep_fits by false cs f)

-- the records of a list's words are its candidates
words_back : (cs : List OofCandidate) → AllFit cs → map candidate_of (records candidate_width (length cs) (list_words cs)) ≡ cs
unfolding list_words records
words_back [] f = refl
words_back (c ∷ cs) f =
    rw (
      take_at (candidate_words c) (list_words cs) candidate_width (candidate_widths.1 c),
      drop_at (candidate_words c) (list_words cs) candidate_width (candidate_widths.1 c),
      candidate_back c f.0,
      words_back cs f.1,
    )
    refl

map_append : (xs ys : List (List ℕ)) → map candidate_of (xs ++ ys) ≡ map candidate_of xs ++ map candidate_of ys
map_append [] ys = refl
map_append (x ∷ xs) ys = ap (λ (l : List OofCandidate). candidate_of x ∷ l) (map_append xs ys)

pub appended_back : AppendedBack
unfolding first_candidates
appended_back ws held cs f h =
    let l = words_length cs in
    ap (map candidate_of) (rear_back candidate_width held (length cs) ws (list_words cs) l (omega arith))
    ∙ map_append (records candidate_width held ws) (records candidate_width (length cs) (list_words cs))
    ∙ ap (λ (x : List OofCandidate). map candidate_of (records candidate_width held ws) ++ x) (words_back cs f)
