-- What is made of the line.
use Rattle.std.proofs.Common.{[], ◌∷◌, inl, inr, refl}
use Rattle.std.specs.Prelude.{vec_items}
use Rattle.std.proofs.lemmas.Result.{on_ok_weaker}
use Rattle.d64_image.specs.Memory.{disk_image}
use Rattle.disk_layout.specs.Records.{records}
use Rattle.disk_changes.proofs.lemmas.lines.Typed.{made-of}
use Rattle.disk_changes.proofs.lines.typed_lines.push_line.Goals as goal

pub returns-in_default-clause-ok : goal.returns-in_default-clause-ok
returns-in_default-clause-ok c = λ l n f of.
    on_ok_weaker c.push_end.result (λ is. (10 ∷ [], is, inr (inl c.in_default.ensures, refl))) c.push_end.ensures

pub returns-clause-ok : goal.returns-clause-ok
returns-clause-ok c = λ l n f of.
    on_ok_weaker c.push_left.result
    (made-of c.args.set (records (disk_image c.args.disk.now) f) c.args.line.now c.in-Some.number c.in-Some.text.now
    c.read_old.new.old.items (vec_items c.args.plain.now) (vec_items c.push_left.new.plain) c.in-Some.ensures
    (c.read_old.ensures.old l n f of))
    c.push_left.ensures
