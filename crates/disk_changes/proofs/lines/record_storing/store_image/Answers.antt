-- The file was found, grew, and has the records of the lines; or why not.
mod Asked
mod Early
mod Refused
use Rattle.std.proofs.Common.{◌≡◌, Ok, ℕ, subst, sym}
use Rattle.std.proofs.lemmas.Result.{IfErr-weaker}
use Rattle.disk_changes.specs.Judged.{HasStraysAlone}
use Rattle.d64_image.proofs.Told.{at-ok}
use Rattle.disk_changes.proofs.lemmas.lines.TextStored.{all-part, store-done, store-unprinted}
use Rattle.disk_changes.specs.lines.Storing.{IsStoreFault, IsStorePart}
use Rattle.command_faults.specs.declared.faults.CommandFault.TheVariants as faults
use Rattle.rel_records.specs.Calls.{Grows}
use Rattle.disk_changes.proofs.lines.record_storing.store_image.Goals as goal
use Rattle.disk_changes.proofs.lines.record_storing.store_image.Answers.Asked as asked
use Rattle.disk_changes.proofs.lines.record_storing.store_image.Answers.Early as early
use Rattle.disk_changes.proofs.lines.record_storing.store_image.Answers.Refused as refused

pub returns-in_err-check_usable : goal.returns-in_err-check_usable
returns-in_err-check_usable = early.returns-in_err-check_usable

pub returns-in_err-last : goal.returns-in_err-last
returns-in_err-last = early.returns-in_err-last

pub find-requires : goal.find-requires
find-requires = asked.find-requires

pub returns-in_err-file : goal.returns-in_err-file
returns-in_err-file = early.returns-in_err-file

pub check_lines-requires : goal.check_lines-requires
check_lines-requires = early.check_lines-requires

pub returns-in_err-most : goal.returns-in_err-most
returns-in_err-most = early.returns-in_err-most

pub grow_to-requires-clause-usable : goal.grow_to-requires-clause-usable
grow_to-requires-clause-usable = asked.grow_to-requires-clause-usable

pub grow_to-requires-clause-of : goal.grow_to-requires-clause-of
grow_to-requires-clause-of = asked.grow_to-requires-clause-of

pub returns-in_err-grow_to : goal.returns-in_err-grow_to
returns-in_err-grow_to = refused.returns-in_err-grow_to

pub store_lines-requires-clause-usable : goal.store_lines-requires-clause-usable
store_lines-requires-clause-usable = asked.store_lines-requires-clause-usable

pub store_lines-requires-clause-of : goal.store_lines-requires-clause-of
store_lines-requires-clause-of = asked.store_lines-requires-clause-of

pub store_lines-requires-clause-lines : goal.store_lines-requires-clause-lines
store_lines-requires-clause-lines = asked.store_lines-requires-clause-lines

pub returns-in_err-store_lines : goal.returns-in_err-store_lines
returns-in_err-store_lines = refused.returns-in_err-store_lines

pub returns-clause-ok : goal.returns-clause-ok
returns-clause-ok g c =
    let S = g.D.Sectors.history in
    let usable = c.in_ok-check_usable.ensures.ok in
    let (xs, are, is, tells) = c.in_ok-most.ensures.ok in
    at-ok c.flush.result
    (store-done S c.args.image.now c.args.name.now c.args.text.now c.args.disk.now c.find.new.disk usable.0
    (subst HasStraysAlone (sym c.requires.holds) usable.1)
    c.args.out.now c.in_ok-file.file c.in_ok-file.ensures xs are c.check_lines.new.last.places.items tells c.grow_to.new.disk
    c.grow_to.new.file
    (subst (λ (m : ℕ). Grows S c.find.new.disk c.grow_to.new.disk c.in_ok-file.file c.grow_to.new.file m
    (Ok tt)) is c.in_ok-grow_to.ensures)
    g.W.Write.contents c.store_lines.new.disk c.store_lines.new.out c.flush.new.out c.store_lines.new.file
    c.in_ok-store_lines.ensures c.flush.ensures.kept)

pub returns-clause-err : goal.returns-clause-err
returns-clause-err g c =
    let S = g.D.Sectors.history in
    let usable = c.in_ok-check_usable.ensures.ok in
    let (xs, are, is, tells) = c.in_ok-most.ensures.ok in
    IfErr-weaker c.flush.result (λ fault. fault ≡ faults.File)
    (IsStoreFault S c.args.image.now c.args.name.now c.args.text.now c.args.disk.now c.store_lines.new.disk
    c.args.out.now c.flush.new.out)
    (λ fault told. rw told
    (store-unprinted S c.args.image.now c.args.name.now c.args.text.now c.args.disk.now c.find.new.disk usable.0
    (subst HasStraysAlone (sym c.requires.holds) usable.1)
    c.args.out.now c.in_ok-file.file c.in_ok-file.ensures xs are c.check_lines.new.last.places.items tells c.grow_to.new.disk
    c.grow_to.new.file
    (subst (λ (m : ℕ). Grows S c.find.new.disk c.grow_to.new.disk c.in_ok-file.file c.grow_to.new.file m
    (Ok tt)) is c.in_ok-grow_to.ensures)
    g.W.Write.contents c.store_lines.new.disk c.store_lines.new.out c.flush.new.out c.store_lines.new.file
    c.in_ok-store_lines.ensures))
    c.flush.ensures.err

pub returns-clause-part : goal.returns-clause-part
returns-clause-part g c =
    let S = g.D.Sectors.history in
    let usable = c.in_ok-check_usable.ensures.ok in
    let (xs, are, is, tells) = c.in_ok-most.ensures.ok in
    IfErr-weaker c.flush.result (λ fault. fault ≡ faults.File)
    (IsStorePart S g.W.Write.contents c.args.image.now c.args.name.now c.args.text.now c.args.disk.now
    c.store_lines.new.disk c.args.out.now c.flush.new.out)
    (λ fault told. rw told
    (all-part S c.args.image.now c.args.name.now c.args.text.now c.args.disk.now c.find.new.disk usable.0
    (subst HasStraysAlone (sym c.requires.holds) usable.1)
    c.args.out.now c.in_ok-file.file c.in_ok-file.ensures xs are c.check_lines.new.last.places.items tells c.grow_to.new.disk
    c.grow_to.new.file
    (subst (λ (m : ℕ). Grows S c.find.new.disk c.grow_to.new.disk c.in_ok-file.file c.grow_to.new.file m
    (Ok tt)) is c.in_ok-grow_to.ensures)
    g.W.Write.contents c.store_lines.new.disk c.store_lines.new.out c.flush.new.out c.store_lines.new.file
    c.in_ok-store_lines.ensures c.flush.ensures.kept))
    c.flush.ensures.err
