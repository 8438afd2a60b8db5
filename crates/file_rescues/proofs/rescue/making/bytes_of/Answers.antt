-- A file has no more bytes than an image of 42 tracks has.
use Rattle.std.proofs.Common.{ap, arith, length, sym, ◌∙◌}
use Rattle.std.proofs.lemmas.Result.{IfOk-weaker}
use Rattle.d64_image.specs.Memory.{disk_image}
use Rattle.file_rescues.proofs.lemmas.rescue.Cvt.{not-long, short-bytes}
use Rattle.file_rescues.proofs.rescue.making.bytes_of.Goals as goal

pub returns-clause-short : goal.returns-clause-short
returns-clause-short c =
    let none = not-long _ (sym c.is_long.ensures ∙ c.if-is_long.false) in
    let short = short-bytes (disk_image c.args.disk.now) c.args.file.now c.args.disk.now.whole (c.requires.few none)
    c.requires.pairs in
    IfOk-weaker c.reached_bytes.result _ _ (λ bytes is. omega (arith, ap length is, short)) c.reached_bytes.ensures.ok
