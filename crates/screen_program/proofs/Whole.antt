-- From what was read to what is printed of it. Assumes nothing.
use Rattle.std.proofs.Common.{ℕ, ◌+◌, ◌≤◌, ◌≡◌, List, length, take, sym, ap, ◌∙◌, subst, Option, None, Some, IfSome, arith}
use Rattle.std.proofs.lemmas.List.Edits.{sets, sets-eq}
use Rattle.std.specs.Io.KnownBytes.{Appends}
use lib.Seq.{take-append_seam}
use Rattle.boxlist_print.specs.declared.Listing.{Listing}
use Rattle.screen_fields.specs.Format.{MAX_BYTES}
use Rattle.boxlist_print.specs.Rows.{Prints}
use Rattle.boxlist_print.specs.Printed.{LIST_BYTES, printed}
use Rattle.boxlist_print.proofs.Laws.{printed_fits, cut_is_enough}

-- the front of a buffer into which a text was put
front_of_sets : (before text : List ℕ) → length text ≤ length before → take (length text) (sets before 0 text) ≡ text
front_of_sets before text h = rw (sets-eq text before 0 (omega arith)) (take-append_seam text _)

pub printed_bytes : (listing : Listing) (text before after : List ℕ) (r : ℕ) → LIST_BYTES ≤ length before → Prints r before after (printed listing text)
    → take r after ≡ printed listing text
printed_bytes listing text before after r h p =
    let k = printed_fits listing text in
    let fits : length (printed listing text) ≤ length before = omega arith in
    rw (p.size, p.bytes) (front_of_sets before (printed listing text) fits)

-- no more is read than there is room for, and that is enough
pub whole : (listing : Listing) (left : Option (List ℕ)) (before after : Option (List ℕ)) (read room : List ℕ) → MAX_BYTES + 1 ≡ length room
    → IfSome left (λ xs. read ≡ take (length room) xs) → Appends before after (printed listing read)
    → IfSome left (λ xs. Appends before after (printed listing xs))
whole listing None before after read room long given p = tt
whole listing (Some xs) before after read room long given p =
    subst (Appends before after) (ap (printed listing) (given ∙ ap (λ k. take k xs) (sym long)) ∙ cut_is_enough listing xs) p
