-- As many as there is room for.
use Rattle.std.proofs.Common.{◌≤◌, ◌+◌, ◌∙◌, Result, Ok, Err, length, take, arith}
use Rattle.std.specs.Prelude.{IsOk, OnOk}
use Rattle.std.proofs.lemmas.List.{length-take}
use Rattle.line_server.proofs.Kept.{kept_front}
use Rattle.line_server.proofs.reading.append_part.Goals as goal

ok_holds : {T E : Type 0} (r : Result T E) (A : Type 0) → IsOk r → OnOk r A → A
ok_holds (Ok x) A is holds = holds
ok_holds (Err e) A is holds = cc

pub returns : goal.returns
returns c =
    let fits : length c.args.line.now.items + length (take c.min-count.result c.args.bytes.now) ≤ 40 =
    omega (arith, length-take c.min-count.result c.args.bytes.now, c.remaining_capacity.ensures, c.min-count.ensures) in
    ok_holds c.try_extend_from_slice.result _ (c.try_extend_from_slice.ensures.variant.1 fits)
    c.try_extend_from_slice.ensures.ok
    ∙ kept_front c.args.line.now.items c.args.bytes.now c.remaining_capacity.result c.min-count.result
    c.remaining_capacity.ensures c.min-count.ensures
