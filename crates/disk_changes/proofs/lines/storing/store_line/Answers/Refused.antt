-- The line is refused, or the device failed.
use Rattle.std.proofs.Common.{◌≡◌, ◌∷◌, [], Err, Result, List, ℕ, Bool, Ok, sym, subst, ap, ◌∙◌}
use Rattle.std.specs.Prelude.{slice_index}
use Rattle.std.proofs.lemmas.Result.{err_from_is_err_and}
use Rattle.rel_records.specs.File.{length_of}
use Rattle.disk_changes.proofs.lemmas.lines.LineStored.{if-last, line-failed, line-record, line-same}
use Rattle.disk_changes.specs.lines.Stores.{NewRecord, new_record}
use Rattle.disk_changes.specs.lines.Storing.{StoresLines, StoresOne}
use Rattle.command_faults.specs.declared.faults.CommandFault.{CommandFault}
use Rattle.disk_changes.proofs.lines.storing.store_line.Goals as goal

pub returns-in_err-store_record : goal.returns-in_err-store_record
returns-in_err-store_record g c = λ l n f of h x is can there.
    let S = g.D.Sectors.history in
    let p = err_from_is_err_and c.from_residual.result c.from_residual.ensures.1 in
    let view : c.as_slice.result.now ≡ c.read_last.new.bytes.items = c.as_slice.ensures.value in
    let same = ap (new_record c.in-Some.number) view ∙ line-record c.args.line.now c.read_last.new.bytes.items
    c.in-Some.number (length_of c.args.file.now) h x c.in-Some.ensures.found is can in
    let one = ap (λ (y : NewRecord). y.number) same in
    let is_last = ap (λ (m : ℕ). slice_index c.args.last.now.places.items m) (sym one) ∙ c.in-Some.ensures.found.3 in
    subst (λ (ys : List NewRecord). StoresLines S g.W.Write.contents c.args.disk.now c.store_record.new.disk
    c.args.out.now
    c.args.out.now l n f c.args.file.now c.store_record.new.file ys c.from_residual.result)
    (if-last c.args.last.now.places.items c.args.place x is_last)
    (subst (λ (r : Result (Unit {0}) CommandFault). StoresLines S g.W.Write.contents c.args.disk.now
    c.store_record.new.disk c.args.out.now c.args.out.now l n f c.args.file.now c.store_record.new.file (x ∷ []) r)
    (sym (p.1 ∙ ap Err p.2))
    (line-failed S g.W.Write.contents c.args.disk.now c.store_record.new.disk c.args.out.now c.args.out.now l n f
    c.args.file.now c.store_record.new.file x c.in_err-store_record.field-0.0
    (subst (λ (y : NewRecord). StoresOne S c.args.disk.now c.store_record.new.disk l n f c.args.file.now
    c.store_record.new.file y (Err c.in_err-store_record.field-0.0)) same
    (c.in_err-store_record.ensures l n f of))))

pub returns-then-not-branch : goal.returns-then-not-branch
returns-then-not-branch g c = λ l n f of h x is can there.
    let S = g.D.Sectors.history in
    let view : c.as_slice.result.now ≡ c.read_last.new.bytes.items = c.as_slice.ensures.value in
    let same = ap (new_record c.in-Some.number) view ∙ line-record c.args.line.now c.read_last.new.bytes.items
    c.in-Some.number (length_of c.args.file.now) h x c.in-Some.ensures.found is can in
    let one = ap (λ (y : NewRecord). y.number) same in
    let is_last = ap (λ (m : ℕ). slice_index c.args.last.now.places.items m) (sym one) ∙ c.in-Some.ensures.found.3 in
    subst (λ (ys : List NewRecord). StoresLines S g.W.Write.contents c.args.disk.now c.store_record.new.disk
    c.args.out.now
    c.args.out.now l n f c.args.file.now c.store_record.new.file ys (Ok tt))
    (if-last c.args.last.now.places.items c.args.place x is_last)
    (line-same S g.W.Write.contents c.args.disk.now c.store_record.new.disk c.args.out.now c.args.out.now l n f
    c.args.file.now c.store_record.new.file x
    (subst (λ (t : Bool). StoresOne S c.args.disk.now c.store_record.new.disk l n f c.args.file.now
    c.store_record.new.file x (Ok t)) c.if-not-branch.true
    (subst (λ (y : NewRecord). StoresOne S c.args.disk.now c.store_record.new.disk l n f c.args.file.now
    c.store_record.new.file y (Ok c.in_ok-store_record.field-0)) same (c.in_ok-store_record.ensures l n f of))))
