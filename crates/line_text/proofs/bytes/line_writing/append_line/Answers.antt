-- A number has ten digits at most, and a record 254 bytes.
use Rattle.std.proofs.Common.{◌∙◌, ◌++◌, List, ap, arith, length, ℕ}
use Rattle.std.specs.Prelude.{codes}
use Rattle.line_text.proofs.lemmas.bytes.Rooms.{line-put}
use Rattle.line_text.proofs.lemmas.bytes.Trims.{trimmed-short}
use Rattle.line_text.specs.bytes.Texts.{text_of, trimmed}
use Rattle.line_text.proofs.bytes.line_writing.append_line.Goals as goal

pub append_text-end-requires : goal.append_text-end-requires
append_text-end-requires c = omega (
  arith,
  c.requires,
  ap length c.trim.ensures,
  trimmed-short c.as_slice.result.now,
  c.as_slice.ensures.fits,
  c.append_number-end.ensures.end,
  c.append_number-end.auto.room,
  c.append_behind-end.ensures.end,
  c.append_behind-end.auto.room,
)

pub append_behind-requires : goal.append_behind-requires
append_behind-requires c = omega (
  arith,
  c.requires,
  ap length c.trim.ensures,
  trimmed-short c.as_slice.result.now,
  c.as_slice.ensures.fits,
  c.append_number-end.ensures.end,
  c.append_number-end.auto.room,
  c.append_behind-end.ensures.end,
  c.append_behind-end.auto.room,
  c.append_text-end.ensures.end,
  c.append_text-end.auto.room,
)

pub returns-clause-end : goal.returns-clause-end
returns-clause-end c =
    let kept = ap length c.trim.ensures in
    let few = trimmed-short c.as_slice.result.now in (
      omega (
        arith,
        c.append_number-end.ensures.end,
        c.append_behind-end.ensures.end,
        c.append_text-end.ensures.end,
        c.append_behind.ensures.end,
      ),
      omega (
        arith,
        kept,
        few,
        c.as_slice.ensures.fits,
        c.append_number-end.ensures.end,
        c.append_behind-end.ensures.end,
        c.append_text-end.ensures.end,
        c.append_behind.ensures.end,
      ),
    )

pub returns-clause-written : goal.returns-clause-written
returns-clause-written c =
    line-put _ _ c.args.number c.args.bytes.now.items c.trim.result.now
    (c.trim.ensures ∙ ap trimmed c.as_slice.ensures.value)
    (c.append_behind.ensures.written ∙ ap (λ (xs : List ℕ). xs ++ codes "\"\n")
    (c.append_text-end.ensures.written ∙ ap (λ (xs : List ℕ). xs ++ text_of c.trim.result.now)
    (c.append_behind-end.ensures.written ∙ ap (λ (xs : List ℕ). xs ++ codes ",\"") c.append_number-end.ensures.written)))
