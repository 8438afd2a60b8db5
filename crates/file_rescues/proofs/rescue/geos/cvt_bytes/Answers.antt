-- The parts of a CVT, one after the other.
use Rattle.std.proofs.Common.{List, ℕ, ap, drop, ◌++◌, ◌∙◌}
use Rattle.std.specs.Prelude.{slice_range}
use Rattle.d64_image.specs.Memory.{disk_image}
use Rattle.d64_image.specs.declared.place.Place.{Place}
use Rattle.file_rescues.proofs.lemmas.rescue.Cvt.{joined-six}
use Rattle.file_rescues.specs.Bytes.{file_bytes}
use Rattle.file_rescues.specs.rescue.Geos.{cvt_bytes, leading}
use Rattle.file_rescues.proofs.rescue.geos.cvt_bytes.Goals as goal

pub returns-clause-ok : goal.returns-clause-ok
unfolding cvt_bytes
returns-clause-ok c =
    let blocks = c.after-blocks.ensures.value
    ∙ ap (λ (k : ℕ). drop k c.as_slice.result.now) c.leading.ensures
    ∙ ap (λ (ps : List Place). drop (leading c.args.entry.now.has_records) ps) c.as_slice.ensures.value in
    let content = c.as_slice-3.ensures.value ∙ c.in_ok-data.ensures.ok
    ∙ ap (λ (ps : List Place). file_bytes (disk_image c.args.disk.now) ps c.args.file.now.last) blocks in
    joined-six _ _ _ _ _ _ _ _ _ _ _ _ _ c.new-out.ensures.items c.in_ok-append.ensures.ok
    (c.in_ok-append-2.ensures.ok ∙ ap (λ (l : List ℕ). c.append.new.out.items ++ l) c.cvt_signature.ensures)
    c.in_ok-append-3.ensures.ok
    (c.in_ok-append-4.ensures.ok
    ∙ ap (λ (l : List ℕ). c.append-3.new.out.items ++ slice_range l 2 256) c.sector.ensures)
    (c.in_ok-append-5.ensures.ok ∙ ap (λ (l : List ℕ). c.append-4.new.out.items ++ l) c.as_slice-2.ensures.value)
    (c.in_ok-append-6.ensures.ok ∙ ap (λ (l : List ℕ). c.append-5.new.out.items ++ l) content)
