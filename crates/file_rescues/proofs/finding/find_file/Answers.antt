-- The entry was found, its blocks were walked, and the other entries' were counted.
use Rattle.std.proofs.Common.{◌≡◌, Option, ap, refl, sym, ◌∙◌}
use Rattle.std.specs.Option.{option_or}
use Rattle.d64_image.specs.Memory.{disk_image}
use Rattle.disk_layout.specs.declared.faults.Fault.{Fault}
use Rattle.damaged_files.specs.reached.Sharing.{first_shared, shared_fault}
use Rattle.file_rescues.proofs.Files.{find-had}
use Rattle.file_rescues.specs.Found.{unclosed}
use Rattle.file_rescues.proofs.finding.find_file.Goals as goal

pub returns-clause-ok : goal.returns-clause-ok
returns-clause-ok c =
    let read = c.read_so_far-ended.ensures in
    let (all, owned, counts) = c.owners_of-owners.ensures in
    let several = c.first_shared-shared.ensures all counts ∙ ap (first_shared all) c.as_slice-2.ensures.value in
    let same : c.unclosed_fault-open.result ≡ unclosed c.index-slots-number.result = c.unclosed_fault-open.ensures in (
      find-had (disk_image c.args.disk.now) c.args.kind c.args.name.now c.read_so_far-ended.new.sectors.items
          c.read_so_far-ended.new.entries.items c.read_so_far-ended.result read.read c.as_slice-slots.result.now
          c.as_slice-slots.ensures.value c.in-Some.number c.in-Some.ensures c.index-slots-number.result
          (sym c.index-slots-number.is) c.reach_file-reach.new.blocks.items c.reach_file-reach.result.fault c.reach_file-reach.result.last
          c.reach_file-reach.ensures c.as_slice.result.now
          c.as_slice.ensures.value all owned c.first_shared-shared.result several c.or-3.result
          (c.or-3.ensures ∙ ap (λ (o : Option Fault). option_or o c.unclosed_fault-open.result) (c.or-2.ensures
          ∙ ap (λ (o : Option Fault). option_or o c.shared_fault-several.result) c.or.ensures
          ∙ ap (option_or (option_or c.read_so_far-ended.result c.reach_file-reach.result.fault)) c.shared_fault-several.ensures)
          ∙ ap (option_or (option_or (option_or c.read_so_far-ended.result c.reach_file-reach.result.fault)
          (shared_fault c.first_shared-shared.result))) same),
      refl,
      c.or-5.ensures ∙ ap (λ (o : Option Fault). option_or o c.unclosed_fault-open.result) (c.or-4.ensures
          ∙ ap (option_or c.read_so_far-ended.result)
          (c.shared_fault-several.ensures ∙ ap shared_fault several))
          ∙ ap (option_or (option_or c.read_so_far-ended.result
          (shared_fault (first_shared all c.reach_file-reach.new.blocks.items)))) same,
    )
