-- The beginning, the words, and the end.
use Rattle.std.proofs.Common.{List, subst, ℕ}
use Rattle.std.specs.Io.KnownBytes.{Appends}
use Rattle.std.proofs.lemmas.Result.{on_ok_weaker}
use Rattle.disk_pictures.proofs.Printing.{three}
use Rattle.disk_pictures.specs.Html.{html_of}
use Rattle.disk_pictures.specs.Sheets.{refused_tile}
use Rattle.disk_pictures.proofs.sheets.sheet_printing.sheet_refusal.Goals as goal

pub returns-clause-ok : goal.returns-clause-ok
unfolding refused_tile
returns-clause-ok g c =
    let words = subst (λ (bytes : List ℕ). Appends (g.W.Write.contents c.print_text.new.out) (g.W.Write.contents c.print_text-2.new.out)
    (html_of bytes)) c.as_bytes.ensures.value c.in_ok-print_text-2.ensures.ok in
    on_ok_weaker c.print_text-3.result (λ end. three _ _ _ _ _ _ _ c.in_ok-print_text.ensures.ok words end) c.print_text-3.ensures.ok
