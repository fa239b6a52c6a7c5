-- The laws of `specs/Laws.antt`, and the steps of the loops. Assumes nothing.
use Prim.Native.Nat.{ℕ, zero, suc, ◌+◌, ◌-◌, ◌*◌, ◌/◌, ◌<◌, ◌≤◌}
use native.Mathlib.Omega.{arith}
use native.Mathlib.Nat.{add-zero, zero-add, suc-add, add-suc, mul-zero, mul-suc, mul-le-mul_left, mul-div-le, le_trans, not-suc-le-zero, le_of_suc-le-suc}
use native.Mathlib.Numerals.{add-one}
use mathlib.Core.Path.{◌≡◌, refl, sym, ap, ◌∙◌}
use mathlib.Core.Bool.{Bool, true, false, not, ◌&&◌}
use mathlib.Core.List.{List, [], ◌∷◌, ◌++◌, append_assoc, append-nil}
use lib.Dec.{ltb, leb}
use lib.ListN.{length, get_or, set, take, drop, length-drop, take-append-drop}
use lib.Seq.{sets, length-sets, sets-eq, drop-drop, take-append-le, drop-append-le, take_at, drop_at, length-take-le, take-set-le, drop-set-lt, get_or-take, get_or-drop}
use lib.Ieee.{of_bits, to_bits, binary32}
use borrow.Author.Tests.{le-leb, leb-true, ltb-true, ltb-false, not-true}
use Rattle.std.proofs.lemmas.Bool.{and_parts, and_from}
use Rattle.std.proofs.lemmas.List.{take_more, drop-take}
use Rattle.std.specs.List.{list_all}
use Rattle.std.specs.Simd.{first_chunks}
use Rattle.std.proofs.lemmas.List.Folds.{list_all_more}
use Rattle.util.proofs.Floats.{is_nan_lem}
use Rattle.util.proofs.Laws.{word_back}
use Rattle.records.specs.Records.{record_at, records, room, written, Kind, canonical_word, every, breaks, good, good_records}
use Rattle.records.specs.Laws.{WrittenLength, WrittenParts, WrittenTwice, WrittenOver, WrittenSame, RecordOfRecords, WordOfRecord, RearBack, RecordBack, OthersKept, FloatWord, NanWord, EveryIs, GoodIsUnbroken}

-- ---- writing

written_sets : (ws : List ℕ) (at : ℕ) (vs : List ℕ) → written ws at vs ≡ sets ws at vs
unfolding written
written_sets ws at [] = refl
written_sets ws at (v ∷ vs) = written_sets (set ws at v) (suc at) vs

pub written_length : WrittenLength
written_length ws at vs = ap length (written_sets ws at vs) ∙ length-sets ws at vs

pub written_parts : WrittenParts
written_parts ws at vs h = written_sets ws at vs ∙ sets-eq vs ws at h

pub written_twice : WrittenTwice
unfolding written
written_twice ws at [] vs = ap (λ (k : ℕ). written ws k vs) (sym (add-zero at))
written_twice ws at (u ∷ us) vs =
    written_twice (set ws at u) (suc at) us vs ∙ ap (λ (k : ℕ). written (written (set ws at u) (suc at) us) k vs) (suc-add at (length us) ∙ sym (add-suc at (length us)))

-- one word more
pub written_more : (ws : List ℕ) (at : ℕ) (vs : List ℕ) (k : ℕ) → k < length vs → set (written ws at (take k vs)) (at + k) (get_or vs k 0) ≡ written ws at (take (k + 1) vs)
unfolding written
written_more ws at vs k h =
    let e : at + length (take k vs) ≡ at + k = ap (λ (j : ℕ). at + j) (length-take-le k vs (omega arith)) in
    sym (ap (written ws at) (take_more vs k 0 h) ∙ written_twice ws at (take k vs) (get_or vs k 0 ∷ []) ∙ rw e refl)

-- words before and after those written stay
pub take_written : (n : ℕ) (ws : List ℕ) (at : ℕ) (vs : List ℕ) → n ≤ at → take n (written ws at vs) ≡ take n ws
unfolding written
take_written n ws at [] h = refl
take_written n ws at (v ∷ vs) h = take_written n (set ws at v) (suc at) vs (omega arith) ∙ take-set-le n ws at v h

pub drop_written : (n : ℕ) (ws : List ℕ) (at : ℕ) (vs : List ℕ) → at + length vs ≤ n → drop n (written ws at vs) ≡ drop n ws
unfolding written
drop_written n ws at [] h = refl
drop_written n ws at (v ∷ vs) h = drop_written n (set ws at v) (suc at) vs (omega arith) ∙ drop-set-lt n ws at v (omega arith)

pub written_same : WrittenSame
written_same ws at n h =
    let own : List ℕ = take n (drop at ws) in
    let long : length own ≡ n = length-take-le n (drop at ws) (let d = length-drop at ws in omega (arith, d, h)) in
    written_parts ws at own (omega (arith, long, h))
    ∙ rw (long, ← drop-drop n at ws, append_assoc (take at ws) own (drop n (drop at ws))) (ap (λ (l : List ℕ). take at ws ++ l) (take-append-drop n (drop at ws)) ∙ take-append-drop at ws)

pub written_over : WrittenOver
written_over ws at us vs e h =
    let over : List ℕ = written ws at us in
    let room : at + length vs ≤ length over = (rw (written_length ws at us) h) in
    let outside : take at over ++ vs ++ drop (at + length vs) over ≡ take at ws ++ vs ++ drop (at + length vs) ws =
    (rw (take_written at ws at us (omega arith), drop_written (at + length vs) ws at us (omega (arith, e))) refl) in
    written_parts over at vs room ∙ outside ∙ sym (written_parts ws at vs h)

-- ---- records

pub word_of_record : WordOfRecord
unfolding record_at
word_of_record w ws i k h = get_or-take w (drop (w * i) ws) k 0 h ∙ get_or-drop (w * i) ws k 0

next_record : (w : ℕ) (ws : List ℕ) (i : ℕ) → record_at w ws (suc i) ≡ record_at w (drop w ws) i
unfolding record_at
next_record w ws i = ap (take w) (ap (λ (k : ℕ). drop k ws) (mul_step w i) ∙ sym (drop-drop (w * i) w ws))
  where
    mul_step : (w i : ℕ) → w * suc i ≡ w + w * i
    mul_step w i = omega (arith, mul-suc w i)

first_record : (w : ℕ) (ws : List ℕ) → record_at w ws zero ≡ take w ws
unfolding record_at
first_record w ws = ap (λ (k : ℕ). take w (drop k ws)) (mul-zero w)

pub record_of_records : RecordOfRecords
unfolding records
record_of_records w zero ws i h = absurd (not-suc-le-zero h)
record_of_records w (suc n) ws zero h = sym (first_record w ws)
record_of_records w (suc n) ws (suc i) h = record_of_records w n (drop w ws) i (le_of_suc-le-suc h) ∙ sym (next_record w ws i)

-- the records from i on: record i, then those from i + 1 on
pub records_step : (w n : ℕ) (ws : List ℕ) (i : ℕ) → records w (suc n) (drop (w * i) ws) ≡ record_at w ws i ∷ records w n (drop (w * (i + 1)) ws)
unfolding records record_at
records_step w n ws i =
    ap (λ (r : List ℕ). take w (drop (w * i) ws) ∷ records w n r) (drop-drop w (w * i) ws ∙ ap (λ (k : ℕ). drop k ws) (sym (next w i)))
  where
    next : (w i : ℕ) → w * (i + 1) ≡ w * i + w
    next w i = omega (arith, mul-suc w i)

pub length_records : (w n : ℕ) (ws : List ℕ) → length (records w n ws) ≡ n
unfolding records
length_records w zero ws = refl
length_records w (suc n) ws = ap suc (length_records w n (drop w ws))

-- a list as arrays of one width
pub chunks_are_records : (w k : ℕ) (ws : List ℕ) → first_chunks w k ws ≡ records w k ws
unfolding records
chunks_are_records w zero ws = refl
chunks_are_records w (suc k) ws = ap (λ (l : List (List ℕ)). take w ws ∷ l) (chunks_are_records w k (drop w ws))

-- words after those that the records take are not read
records_append : (w n m : ℕ) (xs ys : List ℕ) → length xs ≡ w * n → records w (n + m) (xs ++ ys) ≡ records w n xs ++ records w m ys
unfolding records
records_append w zero m xs ys h = rw zero-add (ap (λ (l : List ℕ). records w m (l ++ ys)) (none xs (h ∙ mul-zero w)))
  where
    none : (xs : List ℕ) → length xs ≡ 0 → xs ≡ []
    none [] e = refl
    none (x ∷ xs) e = absurd (omega arith)
records_append w (suc n) m xs ys h =
    let l : length xs ≡ w * n + w = h ∙ mul-suc w n in
    let k : w ≤ length xs = omega arith in
    rw (suc-add n m, take-append-le w xs ys k, drop-append-le w xs ys k)
    (ap (λ (l : List (List ℕ)). take w xs ∷ l) (records_append w n m (drop w xs) ys (length-drop w xs ∙ rest (length xs) (w * n) w l)))
  where
    rest : (a b c : ℕ) → a ≡ b + c → a - c ≡ b
    rest a b c e = omega arith

records_front : (w n : ℕ) (xs ys : List ℕ) → length xs ≡ w * n → records w n (xs ++ ys) ≡ records w n xs
unfolding records
records_front w n xs ys h = ap (λ (k : ℕ). records w k (xs ++ ys)) (sym (add-zero n)) ∙ records_append w n zero xs ys h ∙ append-nil (records w n xs)

records_taken : (w n : ℕ) (ws : List ℕ) → w * n ≤ length ws → records w n (take (w * n) ws) ≡ records w n ws
records_taken w n ws h =
    sym (records_front w n (take (w * n) ws) (drop (w * n) ws) (length-take-le (w * n) ws h))
    ∙ ap (λ (l : List ℕ). records w n l) (take-append-drop (w * n) ws)

pub rear_back : RearBack
rear_back w held m ws vs e h =
    let t : List ℕ = take (w * held) ws in
    let d : List ℕ = drop (w * held + length vs) ws in
    let k : w * held ≤ length ws = omega arith in
    ap (λ (l : List ℕ). records w (held + m) l) (written_parts ws (w * held) vs h ∙ append_assoc t vs d)
    ∙ records_append w held m t (vs ++ d) (length-take-le (w * held) ws k)
    ∙ rw (records_taken w held ws k, records_front w m vs d e) refl

pub record_back : RecordBack
unfolding record_at
record_back w k ws r e h =
    let b : w * k + length r ≤ length ws = omega arith in
    ap (λ (l : List ℕ). take w (drop (w * k) l)) (written_parts ws (w * k) r b ∙ append_assoc (take (w * k) ws) r (drop (w * k + length r) ws))
    ∙ ap (take w) (drop_at (take (w * k) ws) (r ++ drop (w * k + length r) ws) (w * k) (length-take-le (w * k) ws (omega arith)))
    ∙ take_at r (drop (w * k + length r) ws) w e

-- a record that ends before the words written, and one that begins after them
before_kept : (w at i : ℕ) (ws vs : List ℕ) → w * i + w ≤ at → record_at w (written ws at vs) i ≡ record_at w ws i
unfolding record_at
before_kept w at i ws vs h =
    sym (drop-take (w * i) w (written ws at vs)) ∙ ap (drop (w * i)) (take_written (w * i + w) ws at vs h) ∙ drop-take (w * i) w ws

after_kept : (w at i : ℕ) (ws vs : List ℕ) → at + length vs ≤ w * i → record_at w (written ws at vs) i ≡ record_at w ws i
unfolding record_at
after_kept w at i ws vs h = ap (take w) (drop_written (w * i) ws at vs h)

pub others_kept : OthersKept
others_kept w k i ws r e d = go (ltb i k) refl
  where
    go : (b : Bool) → ltb i k ≡ b → record_at w (written ws (w * k) r) i ≡ record_at w ws i
    go true p =
        let l : suc i ≤ k = ltb-true i k p in
        before_kept w (w * k) i ws r (omega (arith, mul-le-mul_left w l, mul-suc w i))
    go false p =
        let g : k ≤ i = ltb-false i k p in
        let l : suc k ≤ i = omega arith in
        after_kept w (w * k) i ws r (omega (arith, mul-le-mul_left w l, mul-suc w k))

-- ---- words

pub nan_word : NanWord
unfolding canonical_word to_bits
nan_word word n = ap (to_bits binary32) (is_nan_lem (of_bits binary32 word) n)

pub float_word : FloatWord
unfolding canonical_word
float_word word h n = word_back word h n

-- ---- rules

pub every_is : EveryIs
unfolding every
every_is zero p = (λ e i h. absurd (not-suc-le-zero h), λ f. refl)
every_is (suc n) p = (
  λ e i h.
      let b : (every n p ≡ true) × (p n ≡ true) = and_parts (every n p) (p n) e in
      below_or_last i h (λ l. (every_is n p).0 b.0 i l) (λ s. rw s b.1),
  λ f. and_from (every n p) (p n) ((every_is n p).1 (λ i h. f i (omega arith))) (f n (omega arith)),
)
  where
    below_or_last : {A : Type 0} (i : ℕ) → i < suc n → (i < n → A) → (i ≡ n → A) → A
    below_or_last {A} i h f g = go (ltb i n) refl
      where
        go : (b : Bool) → ltb i n ≡ b → A
        go true q = f (ltb-true i n q)
        go false q = let k : n ≤ i = ltb-false i n q in g (omega arith)

pub good_is_unbroken : GoodIsUnbroken
unfolding good_records good
good_is_unbroken kinds ws n = (
  λ e.
      let b : (leb n (length ws / length kinds) ≡ true) × (every n rule ≡ true) = and_parts (leb n (length ws / length kinds)) (every n rule) e in (
        leb-true n (length ws / length kinds) b.0,
        λ i k h l. not-true (breaks kinds ws (length kinds * i) k) ((every_is (length kinds) (of i)).0 ((every_is n rule).0 b.1 i h) k l),
      ),
  λ u.
      and_from (leb n (length ws / length kinds)) (every n rule) (le-leb n (length ws / length kinds) u.0)
      ((every_is n rule).1 (λ i h. (every_is (length kinds) (of i)).1 (λ k l. rw (u.1 i k h l) refl))),
)
  where
    of : ℕ → ℕ → Bool
    of i k = not (breaks kinds ws (length kinds * i) k)

    rule : ℕ → Bool
    rule i = good kinds ws (length kinds * i)

-- ---- room

-- room in records is room in words
pub room_words : (w l held more : ℕ) → room w l held more ≡ true → w * (held + more) ≤ l
unfolding room
room_words w l held more e =
    le_trans (mul-le-mul_left w (leb-true (held + more) (l / w) e)) (mul-div-le l w)

-- ---- a list of records that are good

every_same : (n : ℕ) (p q : ℕ → Bool) → ((k : ℕ) → k < n → p k ≡ q k) → every n p ≡ every n q
unfolding every
every_same zero p q f = refl
every_same (suc n) p q f = rw (every_same n p q (λ k h. f k (omega arith)), f n (omega arith)) refl

pub good_record_at : (kinds : List Kind) (ws : List ℕ) (i : ℕ) → good kinds (record_at (length kinds) ws i) 0 ≡ good kinds ws (length kinds * i)
unfolding good breaks
good_record_at kinds ws i = every_same (length kinds) _ _ (λ k h. rw (zero-add k, word_of_record (length kinds) ws i k h) refl)

every_of_list : {A : Type 0} (p : A → Bool) (xs : List A) (d : A) (n : ℕ) → n ≤ length xs → every n (λ i. p (get_or xs i d)) ≡ list_all p (take n xs)
unfolding every
every_of_list p xs d zero h = refl
every_of_list p xs d (suc n) h =
    ap (λ (b : Bool). b && p (get_or xs n d)) (every_of_list p xs d n (omega arith)) ∙ sym (list_all_more p xs n d h) ∙ ap (λ (k : ℕ). list_all p (take k xs)) (add-one n)

-- the first n of the whole records are there, and each by itself is good
pub good_by_records : (kinds : List Kind) (ws : List ℕ) (n : ℕ)
    → good_records kinds ws n
    ≡ (leb n (length (records (length kinds) (length ws / length kinds) ws))
    && list_all (λ r. good kinds r 0) (take n (records (length kinds) (length ws / length kinds) ws)))
unfolding good_records
good_by_records kinds ws n = rw (length_records (length kinds) m ws) (go (leb n m) refl)
  where
    m : ℕ
    m = length ws / length kinds

    all : List (List ℕ)
    all = records (length kinds) m ws

    go : (b : Bool) → leb n m ≡ b → (b && every n (λ i. good kinds ws (length kinds * i))) ≡ (b && list_all (λ r. good kinds r 0) (take n all))
    go false e = refl
    go true e =
        every_same n _ _ (λ i h. sym (ap (λ (r : List ℕ). good kinds r 0) (record_of_records (length kinds) m ws i (omega (arith, leb-true n m e, h))) ∙ good_record_at kinds ws i))
        ∙ every_of_list (λ (r : List ℕ). good kinds r 0) all [] n (rw (length_records (length kinds) m ws) (leb-true n m e))
