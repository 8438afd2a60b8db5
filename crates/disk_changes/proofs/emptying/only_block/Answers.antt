-- The file was reached without a fault, and one block was found.
use Rattle.std.proofs.Common.{List, ap, get_or, length, subst, ◌≡◌, ◌∙◌}
use Rattle.std.specs.Prelude.{None, Option}
use Rattle.d64_image.specs.Memory.{disk_image}
use Rattle.d64_image.specs.declared.place.Place.{Place}
use Rattle.damaged_files.specs.reached.Reached.{IsReached}
use Rattle.disk_changes.proofs.Rewritten.{only-one}
use Rattle.disk_layout.specs.declared.faults.Fault.{Fault}
use Rattle.disk_changes.proofs.emptying.only_block.Goals as goal

pub returns-clause-ok : goal.returns-clause-ok
returns-clause-ok c =
    let img = disk_image c.args.disk.now in
    let s = c.args.slot.now in
    let blocks = c.reach_file-reach.new.blocks.items in
    let last = c.reach_file-reach.result.last in
    let long : length blocks ≡ 1 = cc (c.len.ensures.value, c.if-len-ne1.false) in
    let at : c.index-deref-0.result ≡ get_or blocks 0 c.index-deref-0.result =
    c.index-deref-0.is ∙ ap (λ (ps : List Place). get_or ps 0 c.index-deref-0.result) c.deref.ensures.0 in (
      last,
      subst (λ (ps : List Place). IsReached img s ps None last) (only-one blocks c.index-deref-0.result long at)
          (subst (λ (f : Option Fault). IsReached img s blocks f last) (c.is_broken.ensures c.if-is_broken.false) c.reach_file-reach.ensures),
    )
