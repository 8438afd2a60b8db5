-- What the file holds is of the bytes that were read.
use Rattle.std.proofs.Common.{◌∙◌, List, Some, subst, ℕ}
use Rattle.std.specs.Prelude.{IfOk, vec_items, ◌≡◌}
use Rattle.std.proofs.lemmas.Result.{err_from_is_err_and}
use Rattle.image_edits.proofs.Held.{none-held}
use Rattle.image_edits.specs.Containers.{file_in}
use Rattle.image_edits.proofs.containers.file_at.Goals as goal

pub returns-in_err-bytes : goal.returns-in_err-bytes
returns-in_err-bytes g c =
    let p = err_from_is_err_and c.from_residual.result c.from_residual.ensures.1 in record {
      read = λ other all holds. rw p.1 tt;
      err = rw (p.1, p.2) c.in_err-bytes.ensures.err;
    }

pub returns : goal.returns
returns g c = record {
  read = λ other all holds. subst (λ (given : List ℕ). IfOk c.held.result (λ file. file_in given ≡ Some (vec_items file)))
      (c.as_slice.ensures.value ∙ c.in_ok-bytes.ensures.read other all holds) c.held.ensures.ok;
  err = none-held c.held.result c.held.ensures.err;
}
