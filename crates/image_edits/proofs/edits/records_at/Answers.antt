-- The lines with one column are those of the text that was read.
use Rattle.std.proofs.Common.{List, subst, ℕ}
use Rattle.std.specs.Prelude.{IfOk, vec_items, ◌≡◌}
use Rattle.std.proofs.lemmas.Result.{err_from_is_err_and}
use Rattle.image_edits.proofs.EditRead.{no-memory}
use Rattle.image_edits.specs.Columns.{text_in}
use Rattle.image_edits.proofs.edits.records_at.Goals as goal

pub returns-in_err-text : goal.returns-in_err-text
returns-in_err-text g c =
    let p = err_from_is_err_and c.from_residual.result c.from_residual.ensures.1 in record {
      read = λ other all holds. rw p.1 tt;
      err = rw (p.1, p.2) c.in_err-text.ensures.err;
    }

pub returns : goal.returns
returns g c = record {
  read = λ other all holds. subst (λ (given : List ℕ). IfOk c.one_column.result (λ plain. vec_items plain ≡ text_in c.args.columns given))
      (c.in_ok-text.ensures.read other all holds) c.one_column.ensures.ok;
  err = no-memory c.one_column.result c.one_column.ensures.err;
}
