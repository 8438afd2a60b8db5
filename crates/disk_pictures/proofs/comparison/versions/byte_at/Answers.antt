-- Where the byte is in the file's blocks.
use Rattle.std.proofs.Common.{ap, arith, refl, slice_index_or, sym, ◌∙◌, ◌/◌, ◌+◌, ◌%◌, ℕ, List}
use Rattle.std.specs.Prelude.{None, Some, slice_get}
use Rattle.std.proofs.lemmas.Option.{slice_get-get_or, slice_get_past}
use Rattle.d64_image.specs.declared.place.Place.{Place}
use Rattle.disk_layout.specs.Chain.{byte}
use Rattle.disk_pictures.proofs.FileBytes.{in-block, past-end}
use Rattle.disk_pictures.specs.Drawings.{file_in}
use Rattle.disk_pictures.proofs.comparison.versions.byte_at.Goals as goal

pub returns-then-index-length_of : goal.returns-then-index-length_of
returns-then-index-length_of c = past-end c.args.disk.now.sectors.now (file_in c.args.file.now) c.args.index
    c.length_of.result c.length_of.ensures.value c.if-index-length_of.true

pub returns-in-Some : goal.returns-in-Some
returns-in-Some c =
    let look = c.in-Some.ensures.lookup in
    let i = c.args.index in
    let img = c.args.disk.now.sectors.now in
    let there = slice_get-get_or c.as_slice.result.now (i / 254) c.in-Some.field-0.now look.3.0 in
    let is = ap Some (sym (look.3.1 c.in-Some.field-0.now) ∙ c.in-Some.place-is) in
    let same = ap (λ (ps : List Place). slice_get ps (i / 254)) (sym c.as_slice.ensures.value) in
    in-block img (file_in c.args.file.now) i c.length_of.result _ (Some c.in-Some.place)
    c.length_of.ensures.value (omega (arith, c.if-index-length_of.false)) (same ∙ there ∙ is)
    (ap Some (ap (λ (bytes : List ℕ). slice_index_or bytes (2 + i % 254) 0) c.sector.ensures
    ∙ ap (λ (p : Place). byte img p (2 + i % 254)) c.in-Some.place-is))

pub returns-in-None : goal.returns-in-None
returns-in-None c =
    let look = c.in-None.ensures.lookup in
    let i = c.args.index in
    let same = ap (λ (ps : List Place). slice_get ps (i / 254)) (sym c.as_slice.ensures.value) in
    in-block c.args.disk.now.sectors.now (file_in c.args.file.now) i c.length_of.result None None
    c.length_of.ensures.value (omega (arith, c.if-index-length_of.false))
    (same ∙ slice_get_past c.as_slice.result.now (i / 254) look.3) refl
