-- A text passes the test of a screen exactly where it is one. Assumes nothing.
use Prim.Native.Nat.{ℕ, zero, suc, ◌+◌, ◌*◌, ◌<◌}
use native.Mathlib.Omega.{arith}
use native.Mathlib.Nat.{zero-mul, suc-mul}
use mathlib.Core.Path.{◌≡◌, refl, sym, ap, subst, ◌∙◌}
use mathlib.Core.Bool.{true}
use mathlib.Core.List.{List, [], ◌∷◌, ◌++◌}
use lib.Dec.{eqb, leb}
use lib.ListN.{length, take, drop, get_or, take-append-drop, length-append}
use lib.Seq.{length-take-le, take_at, drop_at, drop-drop, drop-length, get_or-drop}
use borrow.Author.Tests.{eqb-true, eq-eqb, le-leb}
use Rattle.std.proofs.lemmas.Bool.{and_parts, and_from}
use Rattle.screen_fields.specs.declared.format.Kind.{Kind}
use Rattle.screen_fields.specs.declared.format.Line.{Line}
use Rattle.screen_fields.specs.declared.format.Line.TheVariants.{First, Item, Candidate}
use Rattle.screen_fields.specs.Format.{fields_of, bytes_of}
use Rattle.screen_fields.specs.Field.{word_of}
use Rattle.std.proofs.Common.{is_some}
use Rattle.screen.specs.Screen.{good_fields, good_line, good_lines, item_count, candidate_count, candidates_at, screen_bytes, is_screen}
use Rattle.screen.specs.Laws.{StartsLine, feed, field, StartsLines, nothing, line, IsScreen, ScreenExactly}
use Rattle.screen_fields.proofs.Good.{field_good, good_field}
use Rattle.screen.proofs.Whole.{screen_told}

-- ---- a line

-- a byte that isn't 0 stands in the text
is_there : (text : List ℕ) (i : ℕ) → get_or text i 0 ≡ 10 → i < length text
is_there [] zero e = absurd (omega arith)
is_there [] (suc i) e = absurd (omega arith)
is_there (x ∷ text) zero e = omega arith
is_there (x ∷ text) (suc i) e = let h = is_there text i e in omega arith

-- the first field of n + 1 is passed
past : (n : ℕ) → 11 * suc n ≡ 11 + 11 * n
past n = omega arith

past_feed : (n : ℕ) → 11 + (11 * n + 1) ≡ 11 * suc n + 1
past_feed n = omega arith

line_there : (ks : List Kind) (text : List ℕ) → good_fields ks text ≡ true → get_or text (11 * length ks) 0 ≡ 10
    → StartsLine ks text (drop (11 * length ks + 1) text)
unfolding good_fields
line_there [] [] g e = absurd (omega arith)
line_there [] (x ∷ text) g e = subst (λ (b : ℕ). StartsLine [] (b ∷ text) text) (sym e) feed
line_there (k ∷ ks) text g e =
    let good = and_parts (is_some (word_of k (take 11 text))) _ g in
    let h = is_there text (11 * suc (length ks)) e in
    let rest = line_there ks (drop 11 text) good.1 (get_or-drop 11 text (11 * length ks) 0 ∙ ap (λ (i : ℕ). get_or text i 0) (sym (past (length ks))) ∙ e) in
    let after = drop-drop (11 * length ks + 1) 11 text ∙ ap (λ (i : ℕ). drop i text) (past_feed (length ks)) in
    subst (λ (t : List ℕ). StartsLine (k ∷ ks) t (drop (11 * suc (length ks) + 1) text)) (take-append-drop 11 text)
    (field (take 11 text) (field_good k (take 11 text) (length-take-le 11 text (omega arith)) good.0) (subst (StartsLine ks (drop 11 text)) after rest))

-- what is so of a text that starts with a line
pub record Passed (ks : List Kind) (text rest : List ℕ) : Type 0 where
  pub good : good_fields ks text ≡ true
  pub feed : get_or text (11 * length ks) 0 ≡ 10
  pub after : drop (11 * length ks + 1) text ≡ rest
  pub bytes : length text ≡ 11 * length ks + 1 + length rest

there_line : {ks : List Kind} {text rest : List ℕ} → StartsLine ks text rest → Passed ks text rest
unfolding good_fields
there_line (feed {rest = rest}) = record { good = refl; feed = refl; after = refl; bytes = omega arith }
there_line (field {k = k} {ks = ks} {text = text} {rest = rest} bs g d) =
    let p = there_line d in
    let w = g.width in
    record {
      good = rw (take_at bs text 11 w, drop_at bs text 11 w) (and_from _ _ (good_field k bs g) p.good);
      feed = ap (λ (i : ℕ). get_or (bs ++ text) i 0) (past (length ks)) ∙ sym (get_or-drop 11 (bs ++ text) (11 * length ks) 0) ∙ ap (λ (t : List ℕ). get_or t (11 * length ks) 0) (drop_at bs text 11 w) ∙ p.feed;
      after = ap (λ (i : ℕ). drop i (bs ++ text)) (sym (past_feed (length ks))) ∙ sym (drop-drop (11 * length ks + 1) 11 (bs ++ text)) ∙ ap (drop (11 * length ks + 1)) (drop_at bs text 11 w) ∙ p.after;
      bytes = let b = p.bytes in let a = length-append bs text in omega arith;
    }

-- ---- lines

-- one line more
more : (n b : ℕ) → suc n * b ≡ b + n * b
more n b = rw suc-mul (omega arith)

lines_there : (l : Line) (n : ℕ) (text : List ℕ) → good_lines l n text ≡ true → StartsLines l n text (drop (n * bytes_of l) text)
unfolding good_lines good_line bytes_of
lines_there l zero text e = subst (StartsLines l 0 text) (ap (λ (i : ℕ). drop i text) (sym (zero-mul (bytes_of l)))) nothing
lines_there l (suc n) text e =
    let both = and_parts (good_line l text) _ e in
    let parts = and_parts (good_fields (fields_of l) text) _ both.0 in
    let rest = lines_there l n (drop (bytes_of l) text) both.1 in
    let after = drop-drop (n * bytes_of l) (bytes_of l) text ∙ ap (λ (i : ℕ). drop i text) (sym (more n (bytes_of l))) in
    line (line_there (fields_of l) text parts.0 (eqb-true _ 10 parts.1)) (subst (StartsLines l n (drop (bytes_of l) text)) after rest)

-- what is so of a text that starts with n lines
record PassedAll (l : Line) (n : ℕ) (text rest : List ℕ) : Type 0 where
  good : good_lines l n text ≡ true
  after : drop (n * bytes_of l) text ≡ rest
  bytes : length text ≡ n * bytes_of l + length rest

there_lines : {l : Line} {n : ℕ} {text rest : List ℕ} → StartsLines l n text rest → PassedAll l n text rest
unfolding good_lines good_line bytes_of
there_lines {l} (nothing {text = text}) =
    record { good = refl; after = ap (λ (i : ℕ). drop i text) (zero-mul (bytes_of l)); bytes = rw zero-mul (omega arith) }
there_lines {l} (line {n = n} {text = text} {next = next} {rest = rest} d ds) =
    let p = there_line d in
    let q = there_lines ds in
    record {
      good = and_from _ _ (and_from _ _ p.good (eq-eqb _ 10 p.feed)) (rw p.after q.good);
      after = ap (λ (i : ℕ). drop i text) (more n (bytes_of l)) ∙ sym (drop-drop (n * bytes_of l) (bytes_of l) text) ∙ ap (drop (n * bytes_of l)) p.after ∙ q.after;
      bytes = let a = p.bytes in let b = q.bytes in rw (more n (bytes_of l)) (omega arith);
    }

-- ---- the whole text

screen_there : (text : List ℕ) → is_screen text ≡ true → IsScreen text
unfolding is_screen good_line bytes_of candidates_at screen_bytes
screen_there text e =
    let n = item_count text in
    let m = candidate_count text in
    let told = screen_told text _ refl e in
    let five = and_parts _ (good_lines Candidate m (drop (candidates_at n) text)) e in
    let four = and_parts _ (good_lines Item n (drop (bytes_of First) text)) five.0 in
    let three = and_parts _ (eqb (length text) (screen_bytes n m)) four.0 in
    let two = and_parts _ (leb m 256) three.0 in
    let one = and_parts (good_line First text) (leb n 128) two.0 in
    let parts = and_parts (good_fields (fields_of First) text) _ one.0 in
    let items = drop-drop (n * bytes_of Item) (bytes_of First) text in
    let candidates = drop-drop (m * bytes_of Candidate) (candidates_at n) text ∙ ap (λ (i : ℕ). drop i text) (sym (eqb-true (length text) (screen_bytes n m) three.1)) ∙ drop-length text in
    record {
      items = drop (bytes_of First) text;
      candidates = drop (candidates_at n) text;
      first_line = line_there (fields_of First) text parts.0 (eqb-true _ 10 parts.1);
      item_lines = subst (StartsLines Item n (drop (bytes_of First) text)) items (lines_there Item n (drop (bytes_of First) text) four.1);
      candidate_lines = subst (StartsLines Candidate m (drop (candidates_at n) text)) candidates (lines_there Candidate m (drop (candidates_at n) text) five.1);
      few_items_lem = told.few_items;
      few_candidates_lem = told.few_candidates;
    }

there_screen : (text : List ℕ) → IsScreen text → is_screen text ≡ true
unfolding is_screen good_line bytes_of candidates_at screen_bytes
there_screen text s =
    let n = item_count text in
    let m = candidate_count text in
    let p = there_line s.first_line in
    let q = there_lines s.item_lines in
    let r = there_lines s.candidate_lines in
    let after : drop (candidates_at n) text ≡ s.candidates = sym (drop-drop (n * bytes_of Item) (bytes_of First) text) ∙ ap (drop (n * bytes_of Item)) p.after ∙ q.after in
    let bytes : length text ≡ screen_bytes n m = let a = p.bytes in let b = q.bytes in let c = r.bytes in omega arith in
    and_from _ _
    (and_from _ _
    (and_from _ _
    (and_from _ _ (and_from _ _ (and_from _ _ p.good (eq-eqb _ 10 p.feed)) (le-leb n 128 s.few_items_lem)) (le-leb m 256 s.few_candidates_lem))
    (eq-eqb (length text) (screen_bytes n m) bytes))
    (subst (λ (t : List ℕ). good_lines Item n t ≡ true) (sym p.after) q.good))
    (subst (λ (t : List ℕ). good_lines Candidate m t ≡ true) (sym after) r.good)

pub screen_exactly : ScreenExactly
screen_exactly text = (screen_there text, there_screen text)
