-- Of the bytes that are left, those up to the limit are read.
use Rattle.std.specs.Prelude.{vec_items}
use Rattle.std.proofs.lemmas.Result.{IfOk-weaker}
use Rattle.opened_files.proofs.HostFiles.{taken}
use Rattle.opened_files.proofs.readings.read_long.Goals as goal

pub returns : goal.returns
returns g c =
    IfOk-weaker c.read_script.result _ _
    (λ bytes given. taken g.R.Read.remaining c.take.result c.args.reader 206115 (vec_items bytes) c.take.ensures.limit
    c.take.ensures.inner given)
    c.read_script.ensures
