-- The check doesn't go back over a `map_err`, from what stands behind it to what stood before.
use Rattle.std.proofs.Common.{◌≡◌, ◌+◌, length, rules, Result, Ok, Err, MatchResult, OnOk, is_ok, sym}
use Rattle.std.proofs.lemmas.Bool.{false≢true}
use Rattle.std.proofs.lemmas.Result.{IfOk-at_ok, on_ok_weaker}
use Rattle.screen_fields.specs.Format.{MAX_BYTES}
use Rattle.screen_program.proofs.Whole.{whole}
use Rattle.screen_program.proofs.run.Goals as goal

-- an `Ok` behind a `map_err` was one before it
was_ok : {T E F : Type 0} (r : Result T E) (q : Result T F) (Q : E → Type 0) (x : T) → q ≡ Ok x → MatchResult r (λ y. q ≡ Ok y) Q → is_ok q ≡ is_ok r → r ≡ Ok x
was_ok (Ok y) q Q x e h v = cc
was_ok (Err z) q Q x e h v = absurd (false≢true (sym (rw e at v)))

-- and what holds of each one holds behind it
still_ok : {T E F : Type 0} (r : Result T E) (q : Result T F) (P : Type 0) (Q : E → Type 0) → MatchResult r (λ y. q ≡ Ok y) Q → is_ok q ≡ is_ok r → OnOk r P → OnOk q P
still_ok (Ok y) q P Q h v p = rw h p
still_ok (Err z) (Ok y) P Q h v p = absurd (false≢true (sym v))
still_ok (Err z) (Err w) P Q h v p = tt

pub returns-clause-prints : goal.returns-clause-prints
returns-clause-prints g c =
    let read = was_ok _ _ _ _ c.in_ok-text.was c.map_err.ensures.cases c.map_err.ensures.variant in
    let long : MAX_BYTES + 1 ≡ length c.room-room.result = search rules in
    let shown = whole c.args.listing (g.R.Read.remaining c.args.input.now) (g.W.Write.contents c.args.output.now) (g.W.Write.contents c.print_list.new.output) c.in_ok-text.text.now c.room-room.result long (IfOk-at_ok _ read c.read_input.ensures.read) in
    still_ok _ _ _ _ c.map_err-2.ensures.cases c.map_err-2.ensures.variant (on_ok_weaker c.print_list.result shown c.print_list.ensures)
