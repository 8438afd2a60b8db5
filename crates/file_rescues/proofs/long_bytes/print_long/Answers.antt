-- All of the file was printed.
use Rattle.std.proofs.Common.{◌∙◌, List, ap, inr, subst, ℕ}
use Rattle.std.proofs.KnownBytes.{Appends-kept}
use Rattle.std.specs.Io.KnownBytes.{Appends}
use Rattle.command_faults.proofs.Parts.{at-error, part-all}
use Rattle.file_rescues.specs.Forms.{file_as}
use Rattle.file_rescues.proofs.long_bytes.print_long.Goals as goal

pub returns-in_err-flush-clause-part : goal.returns-in_err-flush-clause-part
returns-in_err-flush-clause-part g c =
    let text = c.as_slice-2.ensures.value ∙ c.in_ok-text.ensures.ok
    ∙ ap (file_as c.args.form) (c.as_slice.ensures.value ∙ c.in_ok-bytes.ensures.ok) in
    at-error c.from_residual-in_err-flush.result (inr (part-all _ _ _ (Appends-kept _ _ _ _
    (subst (λ (bs : List ℕ). Appends (g.W.Write.contents c.args.out.now) (g.W.Write.contents c.put.new.out) bs) text
    c.in_ok-put.ensures.ok) c.flush.ensures.kept)))

pub returns-clause-part : goal.returns-clause-part
returns-clause-part g c =
    let text = c.as_slice-2.ensures.value ∙ c.in_ok-text.ensures.ok
    ∙ ap (file_as c.args.form) (c.as_slice.ensures.value ∙ c.in_ok-bytes.ensures.ok) in
    at-error c.long_end.result (inr (part-all _ _ _ (Appends-kept _ _ _ _
    (subst (λ (bs : List ℕ). Appends (g.W.Write.contents c.args.out.now) (g.W.Write.contents c.put.new.out) bs) text
    c.in_ok-put.ensures.ok) c.flush.ensures.kept)))
