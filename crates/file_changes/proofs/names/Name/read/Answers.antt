-- The bytes that have the text are too many, or end in a shifted space.
use Rattle.std.proofs.Common.{◌≡◌, ◌<◌, ◌∙◌, ◌-◌, Some, arith, length, slice_get, subst, sym}
use Rattle.line_text.specs.bytes.Texts.{text_of}
use Rattle.file_changes.proofs.Named.{ends-in-space, too-long}
use Rattle.file_changes.proofs.names.Name.read.Goals.{then-len-gt-NAME_BYTES-via-then-len-gt-NAME_BYTES}
use Rattle.file_changes.proofs.names.Name.read.Goals.{
  then-len-gt-NAME_BYTES-via-else-len-gt-NAME_BYTES+then-ends_in_space,
}
use Rattle.file_changes.proofs.names.Name.read.Goals as goal

pub returns-then-len-gt-NAME_BYTES-clause-none : goal.returns-then-len-gt-NAME_BYTES-clause-none
returns-then-len-gt-NAME_BYTES-clause-none c =
    let is : c.args.text.now ≡ text_of c.in_ok-bytes.bytes.items = sym c.as_bytes.ensures.value
    ∙ c.in_ok-bytes.ensures.found in
    elim c.then-len-gt-NAME_BYTES.branch [
      | then-len-gt-NAME_BYTES-via-then-len-gt-NAME_BYTES w ↦
          let long : 16 < length c.in_ok-bytes.bytes.items =
          omega (arith, w.if-len-gt-NAME_BYTES, c.len.ensures.value) in
          λ none bytes are. too-long _ _ bytes is long
      | then-len-gt-NAME_BYTES-via-else-len-gt-NAME_BYTES+then-ends_in_space w ↦
          let ends = subst (λ xs. slice_get xs (length xs - 1) ≡ Some 160) w.as_slice.ensures.value
          (w.ends_in_space.ensures.0 w.if-ends_in_space.true) in
          λ none bytes are. ends-in-space c.args.text.now c.in_ok-bytes.bytes.items bytes is ends
    ]
