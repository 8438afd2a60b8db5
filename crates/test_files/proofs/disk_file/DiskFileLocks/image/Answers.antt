-- It holds no more bytes than are read.
use Rattle.std.proofs.Common.{◌≡◌, ◌∙◌, arith, rules, sym}
use Rattle.std.proofs.Math.Seq.{take_all}
use Rattle.test_files.proofs.disk_file.DiskFileLocks.image.Goals as goal

pub returns-clause-ok : goal.returns-clause-ok
returns-clause-ok c =
    let read : c.in_ok-to_vec.field-0.items ≡ c.args.self.now.held.bytes.items = search rules in
    read ∙ sym (take_all 174849 c.args.self.now.held.bytes.items (omega (arith, c.args.self.now.held.size)))
