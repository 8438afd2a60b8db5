-- What each step of the storing asks of the one before.
use Rattle.std.proofs.Common.{Ok, ℕ, subst, sym, ◌∙◌}
use Rattle.disk_changes.specs.Judged.{HasStraysAlone}
use Rattle.disk_changes.proofs.lemmas.lines.TextGrown.{found-file, grown-usable, grown-file}
use Rattle.disk_changes.proofs.lemmas.lines.TextGrown.{grown-lines}
use Rattle.rel_records.specs.Calls.{Grows}
use Rattle.rel_records.specs.Usable.{IsUsable}
use Rattle.disk_changes.proofs.lines.record_storing.store_image.Goals as goal

pub find-requires : goal.find-requires
find-requires g c =
    let usable = subst HasStraysAlone (sym c.requires.holds) c.in_ok-check_usable.ensures.ok.1 in
    record { sound = (usable.0, usable.2.clean.layout) }

pub grow_to-requires-clause-usable : goal.grow_to-requires-clause-usable
grow_to-requires-clause-usable g c =
    let (l, strays, alone) = c.in_ok-check_usable.ensures.ok.1 in
    subst IsUsable (sym (c.find.ensures.reads.image ∙ c.requires.holds)) (l, (strays, alone.clean))

pub grow_to-requires-clause-of : goal.grow_to-requires-clause-of
grow_to-requires-clause-of g c =
    let S = g.D.Sectors.history in
    let usable = c.in_ok-check_usable.ensures.ok in
    found-file S c.args.image.now c.args.name.now c.args.text.now c.args.disk.now c.find.new.disk usable.0
    (subst HasStraysAlone (sym c.requires.holds) usable.1)
    c.args.out.now c.in_ok-file.file c.in_ok-file.ensures

pub store_lines-requires-clause-usable : goal.store_lines-requires-clause-usable
store_lines-requires-clause-usable g c =
    let S = g.D.Sectors.history in
    let usable = c.in_ok-check_usable.ensures.ok in
    let (xs, are, is, tells) = c.in_ok-most.ensures.ok in
    grown-usable S c.args.image.now c.args.name.now c.args.text.now c.args.disk.now c.find.new.disk usable.0
    (subst HasStraysAlone (sym c.requires.holds) usable.1)
    c.args.out.now c.in_ok-file.file c.in_ok-file.ensures xs are c.check_lines.new.last.places.items tells c.grow_to.new.disk
    c.grow_to.new.file
    (subst (λ (m : ℕ). Grows S c.find.new.disk c.grow_to.new.disk c.in_ok-file.file c.grow_to.new.file m
    (Ok tt)) is c.in_ok-grow_to.ensures)

pub store_lines-requires-clause-of : goal.store_lines-requires-clause-of
store_lines-requires-clause-of g c =
    let S = g.D.Sectors.history in
    let usable = c.in_ok-check_usable.ensures.ok in
    let (xs, are, is, tells) = c.in_ok-most.ensures.ok in
    grown-file S c.args.image.now c.args.name.now c.args.text.now c.args.disk.now c.find.new.disk usable.0
    (subst HasStraysAlone (sym c.requires.holds) usable.1)
    c.args.out.now c.in_ok-file.file c.in_ok-file.ensures xs are c.check_lines.new.last.places.items tells c.grow_to.new.disk
    c.grow_to.new.file
    (subst (λ (m : ℕ). Grows S c.find.new.disk c.grow_to.new.disk c.in_ok-file.file c.grow_to.new.file m
    (Ok tt)) is c.in_ok-grow_to.ensures)

pub store_lines-requires-clause-lines : goal.store_lines-requires-clause-lines
store_lines-requires-clause-lines g c =
    let S = g.D.Sectors.history in
    let usable = c.in_ok-check_usable.ensures.ok in
    let (xs, are, is, tells) = c.in_ok-most.ensures.ok in
    grown-lines S c.args.image.now c.args.name.now c.args.text.now c.args.disk.now c.find.new.disk usable.0
    (subst HasStraysAlone (sym c.requires.holds) usable.1)
    c.args.out.now c.in_ok-file.file c.in_ok-file.ensures xs are c.check_lines.new.last.places.items tells c.grow_to.new.disk
    c.grow_to.new.file
    (subst (λ (m : ℕ). Grows S c.find.new.disk c.grow_to.new.disk c.in_ok-file.file c.grow_to.new.file m
    (Ok tt)) is c.in_ok-grow_to.ensures)
