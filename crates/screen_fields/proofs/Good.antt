-- A field stands for a word exactly where it spells a number in range. Assumes nothing.
use Prim.Native.Nat.{ℕ, ◌≤◌}
use mathlib.Core.Logic.{◌↔◌}
use mathlib.Core.Path.{◌≡◌, refl}
use mathlib.Core.Bool.{Bool, true, false, cond, not}
use mathlib.Core.List.{List}
use lib.Dec.{eqb, leb, ltb}
use lib.ListN.{length}
use borrow.Author.Tests.{eqb-true, leb-true, le-leb, ltb-false, le-ltb}
use Rattle.std.proofs.Common.{Option, None, Some, is_some}
use Rattle.util.proofs.Floats.{no}
use Rattle.util.specs.Eighths.{whole, float_of_count}
use Rattle.screen_fields.specs.declared.format.Kind.{Kind}
use Rattle.screen_fields.specs.declared.format.Kind.TheVariants.{Code, Eighths}
use Rattle.util.specs.declared.eighths.Count.{Count}
use Rattle.screen_fields.specs.Field.{numeral_of, code_of, present_word, float_of, word_of}
use Rattle.screen_fields.specs.Laws.{InRange, GoodField}
use Rattle.screen_fields.proofs.Laws.{field_shape}
use Rattle.screen_fields.proofs.Spelled.{field_read}

-- a number in range, and only such a one, is a word
in_range : (k : Kind) (s : Bool) (n : ℕ) (bs : List ℕ) → numeral_of bs ≡ whole s n → (is_some (word_of k bs) ≡ true) ↔ InRange k s n
unfolding word_of code_of float_of float_of_count present_word
in_range Code true n bs e = rw e (λ t. go (eqb n 0) refl t, λ z. rw z refl)
  where
    go : (c : Bool) → eqb n 0 ≡ c → is_some (cond (not c) None (cond (leb n 4294967295) (Some n) None)) ≡ true → n ≡ 0
    go true p t = eqb-true n 0 p
    go false p t = no {b = false} t refl
in_range Code false n bs e = rw e (λ t. go (leb n 4294967295) refl t, λ h. rw (le-leb n 4294967295 h) refl)
  where
    go : (c : Bool) → leb n 4294967295 ≡ c → is_some (cond c (Some n) None) ≡ true → n ≤ 4294967295
    go true p t = leb-true n 4294967295 p
    go false p t = no {b = false} t refl
in_range Eighths s n bs e = rw e (λ t. go (ltb 9999999 n) refl t, λ h. rw (le-ltb 9999999 n h) refl)
  where
    go : (c : Bool) → ltb 9999999 n ≡ c → is_some (float_of (whole s n)) ≡ true → n ≤ 9999999
    go true p t = no {b = false} (rw p at t) refl
    go false p t = ltb-false 9999999 n p

malformed : (k : Kind) (bs : List ℕ) → numeral_of bs ≡ None → is_some (word_of k bs) ≡ false
unfolding word_of code_of float_of
malformed Code bs e = rw e refl
malformed Eighths bs e = rw e refl

pub field_good : (k : Kind) (bs : List ℕ) → length bs ≡ 11 → is_some (word_of k bs) ≡ true → GoodField k bs
field_good k bs l t = go (numeral_of bs) refl
  where
    go : (x : Option Count) → numeral_of bs ≡ x → GoodField k bs
    go None e = no t (malformed k bs e)
    go (Some x) e =
        record { width = l; negative = x.negative; number = x.size; spelling = field_shape bs x.negative x.size e; range = (in_range k x.negative x.size bs e).0 t }

pub good_field : (k : Kind) (bs : List ℕ) → GoodField k bs → is_some (word_of k bs) ≡ true
good_field k bs g = (in_range k g.negative g.number bs (field_read bs g.negative g.number g.spelling)).1 g.range
