-- The check builds no record out of what is left of four lists, each read by a call of its own.
use Rattle.std.proofs.Common.{◌≡◌, arith, refl, sym, ◌∙◌}
use Rattle.std.proofs.Common.{length}
use Rattle.std.proofs.lemmas.List.{take_rest}
use Rattle.std.proofs.lemmas.Result.{err_from_is_err_and}
use Rattle.screen_fields.specs.Format.{header_width}
use Rattle.screen.specs.Screen.{written}
use Rattle.screen.proofs.Whole.{read_told, bad_told, header_whole, header_read, styles_read, replies_read, candidates_read}
use Rattle.screen.proofs.read_screen.Goals as goal

pub returns-in_err-counts-clause-read : goal.returns-in_err-counts-clause-read
unfolding written
returns-in_err-counts-clause-read c =
    let t = bad_told c.args.text.now _ c.in_err-counts.ensures.answer in
    let p = err_from_is_err_and c.from_residual.result c.from_residual.ensures.1 in
    record { answer = rw (p.1, p.2) c.in_err-counts.ensures.answer; header = rw t.1 refl; styles = rw t.1 refl; replies = rw t.1 refl; candidates = rw t.1 refl }

pub returns-clause-read : goal.returns-clause-read
returns-clause-read c =
    let text = c.args.text.now in
    let e = c.in_ok-counts.ensures.answer in
    let t = read_told text _ e in
    let f : length c.args.lists.now.header ≡ header_width = omega arith in
    record {
      answer = e;
      header = header_read text _ _ _ t (rw f at c.read_fields.ensures ∙ sym (header_whole text _ f));
      styles = styles_read text _ _ _ t (rw take_rest at c.read_rows.ensures);
      replies = replies_read text _ _ _ t (rw take_rest at c.read_rows-2.ensures);
      candidates = candidates_read text _ _ _ t (rw take_rest at c.read_rows-3.ensures);
    }
