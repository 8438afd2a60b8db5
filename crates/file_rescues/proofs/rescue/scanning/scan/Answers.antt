-- One sector of the track more.
use Rattle.std.proofs.Common.{ap, arith, refl, ◌∙◌, ◌≡◌, ◌+◌}
use Rattle.d64_image.specs.Memory.{disk_image}
use Rattle.file_rescues.proofs.lemmas.rescue.Scanned.{next-sound, scanned-more}
use Rattle.file_rescues.specs.rescue.Scanned.{with_scanned}
use Rattle.file_rescues.proofs.rescue.scanning.scan.Goals as goal

pub loop-before-init : goal.loop-before-init
loop-before-init c = record { items = refl; sound = (c.requires.once, c.requires.on_track) }

pub add_next-requires : goal.add_next-requires
add_next-requires c = record {
  low = omega arith;
  once = c.loop-before.invariant.sound.0;
  on_track = c.loop-before.invariant.sound.1;
}

pub loop-before-preserved : goal.loop-before-preserved
loop-before-preserved c =
    let old = c.loop-before.invariant in
    record {
      items = scanned-more (disk_image c.args.disk.now) (disk_image c.args.disk.now) c.args.sectors.now.items
          c.loop-before.sectors.items c.add_next.new.sectors.items c.loop-before.before refl old.items
          c.add_next.ensures;
      sound = next-sound (disk_image c.args.disk.now) c.loop-before.sectors.items c.add_next.new.sectors.items
          (c.loop-before.before + 1) (omega arith) c.add_next.ensures old.sound;
    }

pub returns : goal.returns
returns c =
    let n : c.loop-before.before ≡ 18 = omega arith in
    c.loop-before.invariant.items ∙ ap (with_scanned (disk_image c.args.disk.now) c.args.sectors.now.items) n
