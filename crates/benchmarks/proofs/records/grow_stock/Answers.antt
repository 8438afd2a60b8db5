-- The blank disk is clean, find gives its STOCK, and growth leaves the disk clean.
use Rattle.std.proofs.Common.{sym, subst}
use Rattle.d64_image.specs.Images.{Image}
use Rattle.disk_layout.specs.Clean.{IsClean}
use Rattle.rel_records.proofs.lemmas.Usable.{clean-then, clean-usable}
use Rattle.rel_records.specs.File.{IsOf, entry_of}
use Rattle.rel_records.specs.Usable.{IsUsable}
use Rattle.benchmarks.proofs.records.grow_stock.Goals as goal

pub find-requires : goal.find-requires
find-requires g c = let (l, clean) = c.in-Ok.ensures.clean in record { sound = (l, clean.layout) }

pub grow_to-requires-clause-usable : goal.grow_to-requires-clause-usable
grow_to-requires-clause-usable g c = subst IsUsable (sym c.in_ok-file.ensures.reads.image)
    (clean-usable _ c.in-Ok.ensures.clean)

pub grow_to-requires-clause-of : goal.grow_to-requires-clause-of
grow_to-requires-clause-of g c =
    let v = c.in_ok-file.file in
    let P : Image → Type 0 = λ img. IsOf img v in
    let (l, clean) = c.in-Ok.ensures.clean in
    let (f, first, of) = c.in_ok-file.ensures.ok l clean.layout in
    subst P (sym c.in_ok-file.ensures.reads.image) (l, entry_of v, f, of)

pub returns : goal.returns
returns g c =
    let v = c.in_ok-file.file in
    let P : Image → Type 0 = λ img. IsOf img v in
    let (l, clean) = c.in-Ok.ensures.clean in
    let (f, first, of) = c.in_ok-file.ensures.ok l clean.layout in
    let (k, n, h, at) = subst P (sym c.in_ok-file.ensures.reads.image) (l, entry_of v, f, of) in
    let left = (c.in_ok-grow_to.ensures.file k n h at).ok in
    let blank = subst IsClean (sym c.in_ok-file.ensures.reads.image) c.in-Ok.ensures.clean in
    let grown = clean-then _ _ k left.layout at.layout blank left.clean in
    record { ok = (grown, (left.layout, n, left.file, left.of), c.in_ok-grow_to.ensures.there) }
