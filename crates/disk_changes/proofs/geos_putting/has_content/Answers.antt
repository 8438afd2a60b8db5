-- The parts of the CVT, one after another.
use Rattle.std.proofs.Common.{List, ap, ap₂, append_assoc, drop, subst, sym, ◌++◌, ◌∙◌, ℕ}
use Rattle.std.specs.Prelude.{Option, slice_range}
use Rattle.d64_image.specs.Memory.{disk_image}
use Rattle.d64_image.specs.declared.place.Place.{Place}
use Rattle.disk_changes.specs.GeosPuts.{leading}
use Rattle.disk_layout.specs.declared.faults.Fault.{Fault}
use Rattle.file_rescues.specs.Bytes.{file_bytes}
use Rattle.geos_files.specs.Reached.{IsGeosReach}
use Rattle.disk_changes.proofs.geos_putting.has_content.Goals as goal

pub returns-clause-ok : goal.returns-clause-ok
returns-clause-ok c same =
    let img = disk_image c.args.disk.now in
    let entry = c.in-Some.entry in
    let r = c.reach_geos-reach in
    record {
      entry = entry;
      of = sym c.in-Some.ensures.entry;
      blocks = r.new.blocks.items;
      pairs = r.new.pairs.items;
      last = r.result.last;
      reach = subst (λ (f : Option Fault). IsGeosReach img entry r.new.blocks.items r.new.pairs.items f r.result.last)
          (c.is_broken.ensures c.if-is_broken.false) r.ensures.reach;
      is = c.are_same.ensures same ∙ c.as_slice-4.ensures.value ∙ c.in_ok-all.ensures.ok
          ∙ append_assoc (slice_range c.sector.result.now 2 256) c.as_slice-2.result.now c.as_slice-3.result.now
          ∙ ap₂ (λ (xs ys : List ℕ). xs ++ ys) (ap (λ (b : List ℕ). slice_range b 2 256) c.sector.ensures)
          (ap₂ (λ (xs ys : List ℕ). xs ++ ys) c.as_slice-2.ensures.value (c.as_slice-3.ensures.value ∙ c.in_ok-data.ensures.ok
          ∙ ap (λ (ps : List Place). file_bytes img ps r.result.last)
          (c.data_blocks.ensures.value ∙ ap (drop (leading entry)) c.as_slice.ensures.value)));
    }
