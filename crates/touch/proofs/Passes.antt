-- One step of each pass over the boxes' records. Assumes nothing.
use Prim.Native.Nat.{ℕ, ◌+◌, ◌*◌, ◌<◌, ◌≤◌}
use native.Mathlib.Omega.{arith}
use mathlib.Core.List.{List, [], ◌++◌, append_assoc, append-nil}
use mathlib.Core.Path.{◌≡◌, refl, sym, ap, ◌∙◌, subst}
use lib.ListN.{length, get_or, take, drop, length-append}
use lib.Seq.{take_all, take-append-le, length-take-le}
use Rattle.std.specs.Prelude.{ℤ, Float, Result, Ok, Err, IsOk, All, is_ok}
use Rattle.std.proofs.lemmas.List.{length-map, get_or-map}
use Rattle.geometry.specs.declared.Point.{Point}
use Rattle.geometry.specs.declared.Rect.{Rect}
use Rattle.refusal.specs.declared.Refusal.{Refusal}
use Rattle.records.specs.Records.{record_at, written}
use Rattle.records.proofs.Laws.{written_length, written_parts}
use Rattle.tree_record.specs.Layout.{layout_width, layout_of}
use Rattle.pixels.specs.Pixels.{pixel_edges}
use Rattle.run.specs.Refusals.{accepted, refused}
use Rattle.finished.proofs.There.{said_step, said_end}
use Rattle.touch.specs.Touch.{touch_width, five_words, told, box_words, joined, touch_words}
use Rattle.touch.specs.Passes.{nodes_by_word, HasLayout, verdict_of}

-- ---- the nodes of some records, from record i on

abbrev pub rest : List (List ℕ) → ℕ → List ℕ
rest rs i = drop i (nodes_by_word rs)

abbrev pub node_at : List (List ℕ) → ℕ → ℕ
node_at rs i = get_or (get_or rs i []) 0 0

pub has_layout : (layouts : List ℕ) (rs : List (List ℕ)) (i : ℕ) → i < length rs → All (HasLayout layouts) (nodes_by_word rs) → HasLayout layouts (node_at rs i)
has_layout layouts rs i h all =
    subst (HasLayout layouts) (get_or-map (λ (r : List ℕ). get_or r 0 0) rs i [] 0 h) (all i 0 (rw (length-map rs (λ (r : List ℕ). get_or r 0 0)) h))

-- ---- what is told of one box, and of those from it on

-- a box that is told has five words
five_long : (node : ℕ) (p : Result (Rect ℤ) Refusal) (five : List ℕ) → told node p ≡ Ok five → length five ≡ touch_width
five_long node (Ok edges) five e = let w : five_words node edges ≡ five = cc in ap length (sym w)
five_long node (Err r) five e = absurd cc

ok_is : {xs ys : List ℕ} → ◌≡◌ {A = Result (List ℕ) Refusal} (Ok xs) (Ok ys) → xs ≡ ys
ok_is e = cc

record Parts (p others : Result (List ℕ) Refusal) (words : List ℕ) : Type 0 where
  five : List ℕ
  more : List ℕ
  first : p ≡ Ok five
  behind : others ≡ Ok more
  both : words ≡ five ++ more

parts : (p others : Result (List ℕ) Refusal) (words : List ℕ) → joined p others ≡ Ok words → Parts p others words
parts (Ok five) (Ok more) words e = record { five = five; more = more; first = refl; behind = refl; both = cc }
parts (Ok five) (Err r) words e = absurd cc
parts (Err r) others words e = absurd cc

joined_verdict : (p others : Result (List ℕ) Refusal) → IsOk p → verdict_of (joined p others) ≡ verdict_of others
joined_verdict (Ok five) (Ok more) h = refl
joined_verdict (Ok five) (Err r) h = refl
joined_verdict (Err r) others h = absurd cc

module _ (layouts : List ℕ) (offset : Point Float) (rs : List (List ℕ)) where
  abbrev from : ℕ → Result (List ℕ) Refusal
  from i = touch_words layouts offset (rest rs i)

  abbrev box : ℕ → Result (List ℕ) Refusal
  box i = box_words layouts offset (node_at rs i)

  from_step : (i : ℕ) → i < length rs → from i ≡ joined (box i) (from (i + 1))
  unfolding touch_words
  from_step i h = ap (touch_words layouts offset) (said_step 0 rs i h)

  from_end : (i : ℕ) → length rs ≤ i → from i ≡ Ok []
  unfolding touch_words
  from_end i h = ap (touch_words layouts offset) (said_end 0 rs i h)

  -- ---- the first pass: the verdict of all is that of those not yet tested

  abbrev pub Tested : ℕ → Type 0
  Tested i = verdict_of (from 0) ≡ verdict_of (from i)

  pub one_tested : (i : ℕ) → i < length rs → IsOk (box i) → Tested i → Tested (i + 1)
  one_tested i h ok t = t ∙ ap verdict_of (from_step i h) ∙ joined_verdict (box i) (from (i + 1)) ok

  pub one_refused : (i : ℕ) (r : Refusal) → i < length rs → box i ≡ Err r → Tested i → verdict_of (from 0) ≡ refused r
  one_refused i r h e t = t ∙ ap verdict_of (from_step i h) ∙ rw e refl

  pub all_tested : (i : ℕ) → length rs ≤ i → Tested i → verdict_of (from 0) ≡ accepted
  all_tested i h t = t ∙ ap verdict_of (from_end i h)

  -- ---- the second pass: what is written, and what is left to write from box i on

  pub record Left (words : List ℕ) (i : ℕ) : Type 0 where
    pub long : length words ≡ touch_width * length rs
    pub more : List ℕ
    pub behind : from i ≡ Ok more
    pub all : from 0 ≡ Ok (take (touch_width * i) words ++ more)

  pub none_written : (words : List ℕ) → length words ≡ touch_width * length rs → IsOk (from 0) → Left words 0
  none_written words long ok = go (from 0) refl ok
    where
      go : (t : Result (List ℕ) Refusal) → from 0 ≡ t → IsOk t → Left words 0
      go (Ok more) e h = record { long = long; more = more; behind = e; all = e }
      go (Err r) e h = absurd cc

  module _ (words : List ℕ) (i : ℕ) (l : Left words i) where
    next_parts : i < length rs → Parts (box i) (from (i + 1)) l.more
    next_parts h = parts (box i) (from (i + 1)) l.more (sym (from_step i h) ∙ l.behind)

    pub has_edges : i < length rs → IsOk (box i)
    has_edges h = ap is_ok (next_parts h).first

    pub has_room : i < length rs → touch_width * i + touch_width ≤ length words
    has_room h = let k = l.long in omega arith

    pub one_written : i < length rs → (five after : List ℕ) → box i ≡ Ok five → after ≡ written words (touch_width * i) five → Left after (i + 1)
    one_written h five after told w =
        let p = next_parts h in
        let same : p.five ≡ five = ok_is (sym p.first ∙ told) in
        let size = five_long (node_at rs i) (pixel_edges (layout_of (record_at layout_width layouts (node_at rs i))) offset) five told in
        let room = has_room h in
        let front = take (touch_width * i) words in
        let front_size = length-take-le (touch_width * i) words (omega arith) in
        let both_size = length-append front five in
        let cut : after ≡ front ++ five ++ drop (touch_width * i + length five) words =
        w ∙ written_parts words (touch_width * i) five (omega arith) in
        let taken : take (touch_width * (i + 1)) after ≡ front ++ five =
        ap (take (touch_width * (i + 1))) cut
        ∙ take-append-le (touch_width * (i + 1)) (front ++ five) _ (omega arith)
        ∙ take_all (touch_width * (i + 1)) (front ++ five) (omega arith) in
        record {
          long = ap length w ∙ written_length words (touch_width * i) five ∙ l.long;
          more = p.more;
          behind = p.behind;
          all =
              l.all ∙ ap (λ (ws : List ℕ). Ok (front ++ ws)) (p.both ∙ ap (λ (ws : List ℕ). ws ++ p.more) same)
              ∙ ap Ok (sym (append_assoc front five p.more) ∙ ap (λ (ws : List ℕ). ws ++ p.more) (sym taken));
        }

    pub all_written : length rs ≤ i → from 0 ≡ Ok words
    all_written h =
        let none : l.more ≡ [] = ok_is (sym l.behind ∙ from_end i h) in
        let k = l.long in
        l.all ∙ ap Ok (ap (λ (ws : List ℕ). take (touch_width * i) words ++ ws) none ∙ append-nil _ ∙ take_all (touch_width * i) words (omega arith))
