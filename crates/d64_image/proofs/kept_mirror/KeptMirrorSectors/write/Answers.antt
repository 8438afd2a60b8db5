-- The file refuses the sector, or takes it, and then memory's bytes change where the sector stands.
use Rattle.std.proofs.Common.{ap, arith, refl, sym, ◌∙◌}
use Rattle.std.proofs.lemmas.Bool.{false≢true}
use Rattle.std.proofs.lemmas.Result.{on_ok_weaker}
use Rattle.d64_image.specs.Memory.{bytes_of, disk_image}
use Rattle.d64_image.proofs.KeptMirrorCalls.{IsRefused, agrees_after, at_ok, refused-broken, refused-by_file, write_refused}
use Rattle.d64_image.proofs.KeptMirrorCalls.{not_err, write_taken}
use Rattle.d64_image.proofs.Offsets.{bytes_of-put}
use Rattle.d64_image.proofs.kept_mirror.KeptMirrorSectors.write.Goals as goal
use Rattle.d64_image.proofs.kept_mirror.KeptMirrorSectors.write.Goals.{
  then-self-via-else-self+then-is_err,
  then-self-via-then-self,
}

pub invariant_of-self : goal.invariant_of-self
invariant_of-self g c = record { agrees = λ whole. absurd (whole refl) }

pub returns-then-self : goal.returns-then-self
returns-then-self g c =
    let refused : IsRefused c.args.self.now c.args.place c.args.from.now c.then-self.self.1.0 =
    elim c.then-self.branch [
      | then-self-via-then-self w ↦ rw w.self-is (refused-broken c.args.self.now c.args.place c.args.from.now
          w.if-self.true)
      | then-self-via-else-self+then-is_err w ↦ rw w.self-is (refused-by_file c.args.self.now c.args.place
          c.args.from.now w.keep.new.self w.keep.result (sym w.if-is_err.ensures.value) w.if-self.false w.keep.ensures)
    ] in
    record {
      device = write_refused c.args.self.now c.args.place c.args.from.now _ refused refl refl refl;
      broken = λ was. (refl, refused.broken was);
      bytes = tt;
      kept = (refl, refl);
    }

pub invariant_of-self-2 : goal.invariant_of-self-2
invariant_of-self-2 g c = record {
  agrees = λ whole. agrees_after c.args.place c.args.from.now (g.F.SectorFile.keeps.kept c.args.self.now.file)
      (g.F.SectorFile.keeps.kept c.keep.new.self) (disk_image c.args.self.now.disk) (disk_image c.write.new.self)
      (at_ok c.keep.result c.if-is_err.ensures.negation c.keep.ensures.ok)
      (at_ok c.write.result c.write.ensures.never_fails c.write.ensures.device.ok) (c.args.self.now.agrees whole);
}

pub returns : goal.returns
returns g c =
    record {
      device = write_taken c.args.self.now c.args.place c.args.from.now _ c.keep.result c.write.result
          c.if-is_err.ensures.negation c.write.ensures.never_fails c.if-self.false refl c.keep.ensures
          (at_ok c.write.result c.write.ensures.never_fails c.write.ensures.device.ok) c.add_one.ensures;
      broken = λ was. absurd (false≢true (sym c.if-self.false ∙ was));
      bytes = on_ok_weaker c.write.result
          (λ taken. ap bytes_of taken ∙ bytes_of-put c.args.self.now.disk.sectors.items c.args.place c.args.from.now
          c.args.self.now.disk.whole (omega arith))
          c.write.ensures.device.ok;
      kept = not_err c.write.result _ c.write.ensures.never_fails;
    }
