-- Nodes of checked records are items of the table, before a sweep and after it. Assumes nothing.
use Prim.Native.Nat.{ℕ, zero, suc, ◌+◌, ◌*◌, ◌<◌, ◌≤◌}
use native.Mathlib.Omega.{arith}
use native.Mathlib.Nat.{add-zero, mul-suc, mul-le-mul_left, le_trans, not-suc-le-zero, le_of_suc-le-suc}
use mathlib.Core.Bool.{Bool, true, false, cond}
use mathlib.Core.List.{List, [], ◌∷◌, ◌++◌, map}
use mathlib.Core.Path.{◌≡◌, refl, sym, ap, ◌∙◌}
use lib.Dec.{lit<, leb}
use lib.ListN.{length, get_or, drop}
use borrow.Author.Tests.{leb-false}
use Rattle.std.specs.Prelude.{Option, Some, None, Float}
use Rattle.geometry.specs.declared.Point.{Point}
use Rattle.records.specs.Records.{record_at, records, breaks, wrong, good_records}
use Rattle.records.proofs.Laws.{length_records, record_of_records, records_step, good_is_unbroken}
use Rattle.style.specs.declared.ContainingBlockClaims.{ContainingBlockClaims}
use Rattle.tree.specs.declared.layout.OofCandidate.{OofCandidate}
use Rattle.tree.specs.Static.{translated}
use Rattle.tree_record.specs.Candidate.{candidate_width, layer_word, layer_count, candidate_kinds, candidate_of}
use Rattle.tree_record.proofs.Places.{candidate_place}
use Rattle.sweep.specs.Sweep.{first_candidates, moved, side, keep, appended}
use Rattle.sweep.specs.Laws.{AllFit}
use Rattle.sweep.proofs.Laws.{appended_back}
use Rattle.sweep.proofs.Listed.{IsBelow, AllBelow}

pub both_below : (n : ℕ) (xs ys : List OofCandidate) → AllBelow n xs → AllBelow n ys → AllBelow n (xs ++ ys)
both_below n [] ys a b = b
both_below n (x ∷ xs) ys a b = (a.0, both_below n xs ys a.1 b)

pub moved_below : (n : ℕ) (s : Option (Point Float)) (cs : List OofCandidate) → AllBelow n cs → AllBelow n (map (moved s) cs)
unfolding moved translated
moved_below n s [] a = tt
moved_below n s (c ∷ cs) a = (one s, moved_below n s cs a.1)
  where
    one : (s : Option (Point Float)) → IsBelow n (moved s c)
    one None = a.0
    one (Some location) = a.0

pub keep_below : (n : ℕ) (by : ContainingBlockClaims) (list : Bool) (cs : List OofCandidate) → AllBelow n cs → AllBelow n (keep by list cs)
unfolding keep
keep_below n by list [] a = tt
keep_below n by list (c ∷ cs) a = go (side by list c.position) (keep by list cs) (keep_below n by list cs a.1)
  where
    go : (b : Bool) (xs : List OofCandidate) → AllBelow n xs → AllBelow n (cond b (c ∷ xs) xs)
    go true xs g = (a.0, g)
    go false xs g = g

-- ---- the first records of a list

at_place : (n : ℕ) (rs : List (List ℕ)) (i : ℕ) → AllBelow n (map candidate_of rs) → i < length rs → (candidate_of (get_or rs i [])).node < n
at_place n [] i a h = absurd (not-suc-le-zero h)
at_place n (r ∷ rs) zero a h = a.0.0
at_place n (r ∷ rs) (suc i) a h = at_place n rs i a.1 (le_of_suc-le-suc h)

-- record i of k
pub below_at : (n k : ℕ) (ws : List ℕ) (i : ℕ) → AllBelow n (first_candidates k ws) → i < k
    → (candidate_of (record_at candidate_width ws i)).node < n
unfolding first_candidates
below_at n k ws i a h =
    rw (sym (record_of_records candidate_width k ws i h))
    (at_place n (records candidate_width k ws) i a (rw (length_records candidate_width k ws) h))

is_below : (n : ℕ) (ws : List ℕ) (i : ℕ)
    → breaks (candidate_kinds n) ws (candidate_width * i) 0 ≡ false
    → breaks (candidate_kinds n) ws (candidate_width * i) layer_word ≡ false
    → IsBelow n (candidate_of (record_at candidate_width ws i))
unfolding breaks wrong
is_below n ws i e f =
    rw (candidate_place ws i) (
      leb-false n (get_or ws (candidate_width * i) 0) (ap (λ (at : ℕ). leb n (get_or ws at 0)) (sym (add-zero (candidate_width * i))) ∙ e),
      leb-false layer_count (get_or ws (candidate_width * i + layer_word) 0) f,
    )

records_none : (w : ℕ) (ws : List ℕ) → records w zero ws ≡ []
unfolding records
records_none w ws = refl

pub none_below : (n : ℕ) (ws : List ℕ) → AllBelow n (first_candidates 0 ws)
unfolding first_candidates records
none_below n ws = tt

-- k records from record i on
all_from : (n : ℕ) (ws : List ℕ) (count : ℕ) → ((i : ℕ) → i < count → IsBelow n (candidate_of (record_at candidate_width ws i)))
    → (k i : ℕ) → i + k ≤ count → AllBelow n (map candidate_of (records candidate_width k (drop (candidate_width * i) ws)))
all_from n ws count f zero i h = rw (records_none candidate_width (drop (candidate_width * i) ws)) tt
all_from n ws count f (suc k) i h = rw (records_step candidate_width k ws i) (f i (omega arith), all_from n ws count f k (i + 1) (omega arith))

-- records that keep to their rules
pub good_below : (n : ℕ) (ws : List ℕ) (count : ℕ) → good_records (candidate_kinds n) ws count ≡ true → AllBelow n (first_candidates count ws)
unfolding first_candidates
good_below n ws count e = all_from n ws count one count 0 (omega arith)
  where
    unbroken : (i k : ℕ) → i < count → k < candidate_width → breaks (candidate_kinds n) ws (candidate_width * i) k ≡ false
    unbroken = ((good_is_unbroken (candidate_kinds n) ws count).0 e).1

    one : (i : ℕ) → i < count → IsBelow n (candidate_of (record_at candidate_width ws i))
    one i h = is_below n ws i (unbroken i 0 h (lit< tt)) (unbroken i layer_word h (lit< tt))

-- ---- a list after more were appended

pub appended_below : (n : ℕ) (ws : List ℕ) (held : ℕ) (cs : List OofCandidate) (i : ℕ) → AllBelow n (first_candidates held ws) → AllBelow n cs → AllFit cs
    → candidate_width * (held + length cs) ≤ length ws
    → i < held + length cs
    → (candidate_of (record_at candidate_width (appended ws held cs) i)).node < n
appended_below n ws held cs i a b f room h =
    below_at n (held + length cs) (appended ws held cs) i
    (rw (appended_back ws held cs f room) (both_below n (first_candidates held ws) cs a b))
    h

-- ---- an item's words

module _ (w l n node : ℕ) where
  -- of a slice with w words an item
  pub item_words_lem : w * n ≤ l → node < n → w * node + w ≤ l
  item_words_lem h below = le_trans (rw (sym (mul-suc w node)) (mul-le-mul_left w below)) h
