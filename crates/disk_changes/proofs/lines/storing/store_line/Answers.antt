-- The line is of the one record, which was stored, and its line printed where it was otherwise.
mod Refused
use Rattle.std.proofs.Common.{◌≡◌, ◌≤◌, Err, List, ℕ, Bool, Ok, length, refl, sym, subst, ap, ◌∙◌}
use Rattle.std.specs.Io.KnownBytes.{Appends}
use Rattle.std.specs.Prelude.{OnErr, OnOk, slice_index}
use Rattle.rel_records.specs.File.{length_of, records_in}
use Rattle.line_text.specs.bytes.Texts.{record_line}
use Rattle.disk_changes.proofs.lemmas.lines.Composed.{none-stored}
use Rattle.disk_changes.proofs.lemmas.lines.LineStored.{if-last, if-not_last, line-ended, line-record}
use Rattle.command_faults.specs.Outputs.{HandsPart}
use Rattle.disk_changes.specs.lines.Stores.{NewRecord, new_record}
use Rattle.disk_changes.specs.lines.Storing.{StoresLines, StoresOne}
use Rattle.command_faults.specs.declared.faults.CommandFault.TheVariants as faults
use Rattle.disk_changes.proofs.lines.storing.store_line.Goals as goal
use Rattle.disk_changes.proofs.lines.storing.store_line.Answers.Refused as refused

pub returns-in_default : goal.returns-in_default
returns-in_default g c = λ l n f of h x is can there.
    let S = g.D.Sectors.history in
    let v = c.args.file.now in
    let other = c.in_default.ensures.none refl h (length_of v) x v.size_high is can in
    subst (λ (ys : List NewRecord). StoresLines S g.W.Write.contents c.args.disk.now c.args.disk.now c.args.out.now
    c.args.out.now l n f v v ys (Ok tt))
    (if-not_last c.args.last.now.places.items c.args.place x other)
    (none-stored S g.W.Write.contents l n f c.args.disk.now c.args.out.now v of)

pub store_record-requires-clause-high : goal.store_record-requires-clause-high
store_record-requires-clause-high g c =
    let (h, x, is, can, there) = c.requires.line in
    subst (λ (y : NewRecord). y.number ≤ records_in c.args.file.now)
    (sym (line-record c.args.line.now c.read_last.new.bytes.items c.in-Some.number (length_of c.args.file.now) h x
    c.in-Some.ensures.found is can)) there

pub store_record-requires-clause-short : goal.store_record-requires-clause-short
store_record-requires-clause-short g c =
    let (h, x, is, can, there) = c.requires.line in
    let view : c.as_slice.result.now ≡ c.read_last.new.bytes.items = c.as_slice.ensures.value in
    subst (λ (bs : List ℕ). length bs ≤ length_of c.args.file.now)
    (sym (view ∙ ap (λ (y : NewRecord). y.bytes) (line-record c.args.line.now c.read_last.new.bytes.items
    c.in-Some.number (length_of c.args.file.now) h x c.in-Some.ensures.found is can))) can.short

pub returns-in_err-store_record : goal.returns-in_err-store_record
returns-in_err-store_record = refused.returns-in_err-store_record

pub returns-then-not-branch : goal.returns-then-not-branch
returns-then-not-branch = refused.returns-then-not-branch

pub returns : goal.returns
returns g c = λ l n f of h x is can there.
    let S = g.D.Sectors.history in
    let view : c.as_slice.result.now ≡ c.read_last.new.bytes.items = c.as_slice.ensures.value in
    let same = ap (new_record c.in-Some.number) view ∙ line-record c.args.line.now c.read_last.new.bytes.items
    c.in-Some.number (length_of c.args.file.now) h x c.in-Some.ensures.found is can in
    let one = ap (λ (y : NewRecord). y.number) same in
    let is_last = ap (λ (m : ℕ). slice_index c.args.last.now.places.items m) (sym one) ∙ c.in-Some.ensures.found.3 in
    let before = g.W.Write.contents c.args.out.now in
    let after = g.W.Write.contents c.print_record.new.out in
    let record_is = line-record c.args.line.now c.read_last.new.bytes.items c.in-Some.number
    (length_of c.args.file.now) h x c.in-Some.ensures.found is can in
    subst (λ (ys : List NewRecord). StoresLines S g.W.Write.contents c.args.disk.now c.store_record.new.disk
    c.args.out.now c.print_record.new.out l n f c.args.file.now c.store_record.new.file ys c.print_record.result)
    (if-last c.args.last.now.places.items c.args.place x is_last)
    (line-ended S g.W.Write.contents c.args.disk.now c.store_record.new.disk c.args.out.now c.print_record.new.out l n f
    c.args.file.now c.store_record.new.file x
    (subst (λ (t : Bool). StoresOne S c.args.disk.now c.store_record.new.disk l n f c.args.file.now
    c.store_record.new.file x (Ok t)) c.if-not-branch.false
    (subst (λ (y : NewRecord). StoresOne S c.args.disk.now c.store_record.new.disk l n f c.args.file.now
    c.store_record.new.file y (Ok c.in_ok-store_record.field-0)) same (c.in_ok-store_record.ensures l n f of)))
    c.print_record.result
    (subst (λ (y : NewRecord). OnOk c.print_record.result (Appends before after (record_line y.number y.bytes)))
    record_is c.print_record.ensures.ok)
    (subst (λ (y : NewRecord). OnErr c.print_record.result (HandsPart before after (record_line y.number y.bytes)))
    record_is c.print_record.ensures.part)
    c.print_record.ensures.err)
