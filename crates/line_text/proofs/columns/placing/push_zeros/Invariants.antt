-- So many zeros were appended.
use Rattle.std.proofs.Common.{◌≡◌, ◌++◌}
use Rattle.std.specs.Prelude.{replicate, vec_items}
use Rattle.line_text.specs.bytes.Texts.{text_of}
use Rattle.line_text.proofs.columns.placing.push_zeros.Given as goal

abbrev pub invariant-loop : goal.invariant-loop
invariant-loop l = vec_items l.text ≡ vec_items l.fn.text ++ text_of (replicate l.counter 0)
