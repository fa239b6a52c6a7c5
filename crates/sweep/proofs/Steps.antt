-- What a chain over the records keeps, one record more in a list, and what a sweep leaves, by its tests. Assumes nothing.
use Prim.Native.Nat.{ℕ, suc, ◌+◌, ◌*◌, ◌/◌, ◌<◌}
use native.Mathlib.Omega.{arith}
use native.Mathlib.Nat.{zero-add, mul-add, mul-suc}
use mathlib.Core.Path.{◌≡◌, refl, sym, ap, ◌∙◌}
use mathlib.Core.Bool.{Bool, true, false, cond, ◌&&◌}
use mathlib.Core.List.{List, [], ◌∷◌, ◌++◌, map, append-nil, append_assoc}
use lib.ListN.{length, get_or, length-append}
use Rattle.std.proofs.lemmas.List.{length-map, map-append}
use Rattle.std.proofs.Common.{Bor}
use Rattle.std.proofs.lemmas.List.FromFn.{length-enumerate_from, get_or-enumerate_from}
use Rattle.std.specs.List.{enumerate_from}
use Rattle.std.specs.Prelude.{Option, Some, None, Ok, Err, Float, filter}
use Rattle.geometry.specs.declared.Point.{Point}
use Rattle.refusal.specs.declared.Refusal.TheVariants.{ListFull}
use Rattle.style.specs.declared.ContainingBlockClaims.{ContainingBlockClaims}
use Rattle.tree.specs.declared.layout.OofCandidate.{OofCandidate}
use Rattle.tree.specs.Static.{translated}
use Rattle.records.specs.Records.{records, room, written}
use Rattle.records.proofs.Laws.{written_length, written_twice}
use Rattle.tree_record.specs.Candidate.{candidate_width, candidate_of, candidate_words}
use Rattle.style.specs.Codes.{position_of}
use Rattle.tree_record.proofs.Laws.{candidate_widths}
use Rattle.sweep.specs.Sweep.{first_candidates, candidates_in, moved, side, keep, list_words, appended, Outcome, swept}
use Rattle.sweep.specs.declared.Filled.{Filled}

-- ---- one candidate

pub moved_position : (s : Option (Point Float)) (c : OofCandidate) → (moved s c).position ≡ c.position
unfolding moved translated
moved_position None c = refl
moved_position (Some location) c = refl

module _ (by : ContainingBlockClaims) (list : Bool) where
  pub keep_first : (c : OofCandidate) (cs : List OofCandidate) → keep by list (c ∷ cs) ≡ keep by list (c ∷ []) ++ keep by list cs
  unfolding keep
  keep_first c cs = go (side by list c.position)
    where
      go : (b : Bool) → cond b (c ∷ keep by list cs) (keep by list cs) ≡ cond b (c ∷ []) [] ++ keep by list cs
      go true = refl
      go false = refl

  -- whether the candidate of a record goes there, by its word
  abbrev pub goes_there : List ℕ → Bool
  goes_there r = side by list (position_of (get_or r 2 0))

  pub keep_of_records : (rs : List (List ℕ)) → keep by list (map candidate_of rs) ≡ map candidate_of (filter goes_there rs)
  unfolding keep candidate_of
  keep_of_records [] = refl
  keep_of_records (r ∷ rs) = ap (λ (l : List OofCandidate). cond (goes_there r) (candidate_of r ∷ l) l) (keep_of_records rs) ∙ go (goes_there r)
    where
      go : (b : Bool) → cond b (candidate_of r ∷ map candidate_of (filter goes_there rs)) (map candidate_of (filter goes_there rs)) ≡ map candidate_of (cond b (r ∷ filter goes_there rs) (filter goes_there rs))
      go true = refl
      go false = refl

  pub count_of_records : (rs : List (List ℕ)) → length (filter goes_there rs) ≡ length (keep by list (map candidate_of rs))
  count_of_records rs = sym (ap length (keep_of_records rs) ∙ length-map (filter goes_there rs) candidate_of)

  -- a move changes no position, so that it may come after
  pub keep_moved : (s : Option (Point Float)) (cs : List OofCandidate) → keep by list (map (moved s) cs) ≡ map (moved s) (keep by list cs)
  unfolding keep moved
  keep_moved s [] = refl
  keep_moved s (c ∷ cs) =
      rw (moved_position s c) (ap (λ (l : List OofCandidate). cond (side by list c.position) (moved s c ∷ l) l) (keep_moved s cs) ∙ go (side by list c.position))
    where
      go : (b : Bool) → cond b (moved s c ∷ map (moved s) (keep by list cs)) (map (moved s) (keep by list cs)) ≡ map (moved s) (cond b (c ∷ keep by list cs) (keep by list cs))
      go true = refl
      go false = refl

  pub kept_moved : (s : Option (Point Float)) (cs : List OofCandidate) → length (keep by list (map (moved s) cs)) ≡ length (keep by list cs)
  kept_moved s cs = ap length (keep_moved s cs) ∙ length-map (keep by list cs) (moved s)

-- the candidates of a slice are those of its whole records
pub candidates_of_records : (ws : List ℕ) (rs : List (List ℕ)) → rs ≡ records candidate_width (length ws / candidate_width) ws → map candidate_of rs ≡ candidates_in ws
unfolding candidates_in first_candidates
candidates_of_records ws rs e = ap (map candidate_of) e

-- ---- lists of words

pub words_append : (xs ys : List OofCandidate) → list_words (xs ++ ys) ≡ list_words xs ++ list_words ys
unfolding list_words
words_append [] ys = refl
words_append (x ∷ xs) ys = ap (λ (l : List ℕ). candidate_words x ++ l) (words_append xs ys) ∙ sym (append_assoc (candidate_words x) (list_words xs) (list_words ys))

pub words_length : (cs : List OofCandidate) → length (list_words cs) ≡ candidate_width * length cs
unfolding list_words
words_length [] = refl
words_length (c ∷ cs) =
    length-append (candidate_words c) (list_words cs) ∙ rw (candidate_widths.1 c, words_length cs) (more (length cs))
  where
    more : (n : ℕ) → candidate_width + candidate_width * n ≡ candidate_width * suc n
    more n = omega (arith, mul-suc candidate_width n)

pub appended_none : (ws : List ℕ) (k : ℕ) → appended ws k [] ≡ ws
unfolding list_words written
appended_none ws k = refl

pub appended_one : (ws : List ℕ) (k : ℕ) (c : OofCandidate) → appended ws k (c ∷ []) ≡ written ws (candidate_width * k) (candidate_words c)
unfolding list_words
appended_one ws k c = ap (written ws (candidate_width * k)) (append-nil (candidate_words c))

pub appended_twice : (ws : List ℕ) (k : ℕ) (xs ys : List OofCandidate) → appended ws k (xs ++ ys) ≡ appended (appended ws k xs) (k + length xs) ys
appended_twice ws k xs ys =
    ap (written ws (candidate_width * k)) (words_append xs ys)
    ∙ written_twice ws (candidate_width * k) (list_words xs) (list_words ys)
    ∙ ap (λ (m : ℕ). written (appended ws k xs) m (list_words ys)) (ap (λ (m : ℕ). candidate_width * k + m) (words_length xs) ∙ sym (mul-add candidate_width k (length xs)))

pub appended_push : (ws : List ℕ) (k n : ℕ) (cs : List OofCandidate) (c : OofCandidate) → n ≡ length cs
    → written (appended ws k cs) (candidate_width * (k + n)) (candidate_words c) ≡ appended ws k (cs ++ c ∷ [])
appended_push ws k n cs c e = rw e (sym (appended_twice ws k cs (c ∷ []) ∙ appended_one (appended ws k cs) (k + length cs) c))

-- one more of the records that were enumerated
pub appended_next : (g : List ℕ → OofCandidate) (ws l : List ℕ) (k i : ℕ) (ps : List (ℕ × Bor (List ℕ))) (p : ℕ × Bor (List ℕ))
    → l ≡ appended ws k (map (λ p. g p.1.now) ps) → i ≡ length ps
    → written l (candidate_width * (k + i)) (candidate_words (g p.1.now)) ≡ appended ws k (map (λ p. g p.1.now) (ps ++ p ∷ []))
appended_next g ws l k i ps p e h =
    rw e (appended_push ws k i (map (λ p. g p.1.now) ps) (g p.1.now) (h ∙ sym (length-map ps (λ p. g p.1.now))))
    ∙ ap (appended ws k) (sym (map-append (λ (p : ℕ × Bor (List ℕ)). g p.1.now) ps (p ∷ [])))

-- all that is appended
pub kept_of_records : (by : ContainingBlockClaims) (list : Bool) (s : Option (Point Float)) (ws : List ℕ) (rs : List (List ℕ))
    → rs ≡ records candidate_width (length ws / candidate_width) ws
    → map (λ r. moved s (candidate_of r)) (filter (goes_there by list) rs) ≡ keep by list (map (moved s) (candidates_in ws))
kept_of_records by list s ws rs e =
    twice (filter (goes_there by list) rs) ∙ ap (map (moved s)) (sym (keep_of_records by list rs)) ∙ sym (keep_moved by list s (map candidate_of rs))
    ∙ ap (λ (cs : List OofCandidate). keep by list (map (moved s) cs)) (candidates_of_records ws rs e)
  where
    twice : (rs : List (List ℕ)) → map (λ r. moved s (candidate_of r)) rs ≡ map (moved s) (map candidate_of rs)
    twice [] = refl
    twice (r ∷ rs) = ap (λ (l : List OofCandidate). moved s (candidate_of r) ∷ l) (twice rs)

-- which of the enumerated records this one is
pub turned : (ys : List (List ℕ)) (n : ℕ) (p : ℕ × List ℕ) → (n < length (enumerate_from 0 ys)) × (p ≡ get_or (enumerate_from 0 ys) n p) → (n < length ys) × (p.0 ≡ n)
turned ys n p h =
    let l : n < length ys = rw (length-enumerate_from 0 ys) at h.0 in
    (l, ap (λ (q : ℕ × List ℕ). q.0) (h.1 ∙ get_or-enumerate_from 0 ys n p l) ∙ zero-add n)

-- what is appended, by the records that were enumerated
pub enumerated : (g : List ℕ → OofCandidate) (ps : List (ℕ × Bor (List ℕ))) (ys : List (List ℕ))
    → map (λ p. (p.0, p.1.now)) ps ≡ enumerate_from 0 ys → map (λ p. g p.1.now) ps ≡ map g ys
enumerated g ps ys e = sym (again ps) ∙ ap (map (λ (q : ℕ × List ℕ). g q.1)) e ∙ each 0 ys
  where
    again : (ps : List (ℕ × Bor (List ℕ))) → map (λ (q : ℕ × List ℕ). g q.1) (map (λ p. (p.0, p.1.now)) ps) ≡ map (λ p. g p.1.now) ps
    again [] = refl
    again (p ∷ ps) = ap (λ (l : List OofCandidate). g p.1.now ∷ l) (again ps)

    each : (n : ℕ) (ys : List (List ℕ)) → map (λ (q : ℕ × List ℕ). g q.1) (enumerate_from n ys) ≡ map g ys
    each n [] = refl
    each n (y ∷ ys) = ap (λ (l : List OofCandidate). g y ∷ l) (each (n + 1) ys)

pub appended_length : (ws : List ℕ) (k : ℕ) (cs : List OofCandidate) → length (appended ws k cs) ≡ length ws
appended_length ws k cs = written_length ws (candidate_width * k) (list_words cs)

-- ---- a sweep, by its tests

module _ (by : ContainingBlockClaims) (s : Option (Point Float)) (cs : List OofCandidate) (w u : List ℕ) (f : Filled) where
  room_in : Bool
  room_in = room candidate_width (length w) f.working (length (keep by true cs))

  room_out : Bool
  room_out = room candidate_width (length u) f.unclaimed (length (keep by false cs))

  abbrev pub full : Outcome
  full = record { answer = Err ListFull; working = w; unclaimed = u }

  abbrev pub into : Outcome
  into =
      record {
        answer = Ok (record { working = f.working + length (keep by true cs); unclaimed = f.unclaimed + length (keep by false cs) });
        working = appended w f.working (keep by true (map (moved s) cs));
        unclaimed = appended u f.unclaimed (keep by false (map (moved s) cs));
      }

  by_room : swept by (map (moved s) cs) w u f ≡ cond (room_in && room_out) into full
  unfolding swept room_in room_out
  by_room = rw (kept_moved by true s cs, kept_moved by false s cs) refl

  pub no_room_in : room candidate_width (length w) f.working (length (keep by true cs)) ≡ false → swept by (map (moved s) cs) w u f ≡ full
  unfolding room_in
  no_room_in e = by_room ∙ rw e refl

  pub no_room_out : room candidate_width (length w) f.working (length (keep by true cs)) ≡ true
      → room candidate_width (length u) f.unclaimed (length (keep by false cs)) ≡ false
      → swept by (map (moved s) cs) w u f ≡ full
  unfolding room_in room_out
  no_room_out d e = by_room ∙ rw (d, e) refl

  pub room_both : room candidate_width (length w) f.working (length (keep by true cs)) ≡ true
      → room candidate_width (length u) f.unclaimed (length (keep by false cs)) ≡ true
      → swept by (map (moved s) cs) w u f ≡ into
  unfolding room_in room_out
  room_both d e = by_room ∙ rw (d, e) refl
