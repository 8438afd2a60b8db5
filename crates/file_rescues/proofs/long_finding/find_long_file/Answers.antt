-- The file was found, and its chain was walked over all tracks.
use Rattle.std.proofs.Common.{◌≡◌, ◌-◌, ◌∙◌, Bool, List, ap, inr, length, subst, sym, ℕ}
use Rattle.d64_image.specs.Memory.{disk_image, sectors_in}
use Rattle.std.specs.Prelude.{slice_get}
use Rattle.d64_image.specs.declared.place.Place.{Place}
use Rattle.file_rescues.proofs.Long.{found-long, found-short}
use Rattle.long_chains.specs.Chains.{if_ended}
use Rattle.file_rescues.proofs.long_finding.find_long_file.Goals as goal

pub returns-then-not-find_long-clause-ok : goal.returns-then-not-find_long-clause-ok
returns-then-not-find_long-clause-ok c =
    let loaded = c.in_ok-disk.ensures.ok in
    let had = c.in-Ok.ensures.ok in
    inr (inr (found-short c.args.image.now c.args.kind c.args.name.now (disk_image c.in_ok-disk.disk)
    c.in-Ok.file.number c.in-Ok.file.slot c.find_file.new.blocks.items c.in-Ok.file.last c.in-Ok.file.fault
    c.in-Ok.file.broken (loaded.1 ∙ ap sectors_in c.disk_in.ensures) had.0 had.1
    (sym c.find_long.ensures.value ∙ ap (λ (b : Bool). if_ended b c.find_long.new.chain.items) c.if-not-find_long.true)))

pub returns-clause-ok : goal.returns-clause-ok
returns-clause-ok c =
    let loaded = c.in_ok-disk.ensures.ok in
    let had = c.in-Ok.ensures.ok in
    found-long c.args.image.now c.args.kind c.args.name.now (disk_image c.in_ok-disk.disk)
    c.in-Ok.file.number c.in-Ok.file.slot c.find_file.new.blocks.items c.in-Ok.file.last c.in-Ok.file.fault
    c.in-Ok.file.broken c.in-Ok.file.apart c.last_of.result c.find_long.new.chain.items
    (subst (λ (b : List ℕ). length b ≡ 174848) c.disk_in.ensures loaded.0) (loaded.1 ∙ ap sectors_in c.disk_in.ensures)
    had.0 had.1 had.2
    (sym c.find_long.ensures.value ∙ ap (λ (b : Bool). if_ended b c.find_long.new.chain.items) c.if-not-find_long.false)
    (subst (λ (ps : List Place). c.last_of.result ≡ slice_get ps (length ps - 1)) c.as_slice.ensures.value c.last_of.ensures)
    c.find_long.ensures.inside
