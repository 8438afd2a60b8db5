-- The bytes of the sectors before the last one, and its data.
use Rattle.std.proofs.Common.{arith, length-append, ap, length, ◌++◌}
use Rattle.std.proofs.lemmas.Result.{on_ok_weaker}
use Rattle.file_rescues.proofs.lemmas.rescue.LongCvt.{data-all}
use Rattle.file_rescues.proofs.rescue.long_cvt.append_data.Goals as goal

pub returns-in_ok-append_bodies-in-len1-up-clause-ok : goal.returns-in_ok-append_bodies-in-len1-up-clause-ok
returns-in_ok-append_bodies-in-len1-up-clause-ok c =
    on_ok_weaker c.append.result (λ more. data-all c.args.image.now c.args.bytes.now.items c.append_bodies.new.bytes.items
    c.append.new.out.items c.data_in.result.now c.args.numbers.now c.in-len1-up.len_at_least
    c.in_ok-append_bodies-in-len1-up.ensures.ok c.data_in.ensures.value more) c.append.ensures.ok
