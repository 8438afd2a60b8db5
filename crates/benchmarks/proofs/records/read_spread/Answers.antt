-- Reads leave the image, so what is kept of the file stays good.
use Rattle.std.proofs.Common.{arith, refl, subst, sym}
use Rattle.d64_image.proofs.Moments.{no_reads}
use Rattle.d64_image.specs.Images.{Image}
use Rattle.rel_records.specs.File.{IsOf}
use Rattle.benchmarks.proofs.records.read_spread.Goals as goal

pub loop-round-init : goal.loop-round-init
loop-round-init g c = record {
  high = omega arith;
  reads = no_reads g.D.Sectors.history c.args.disk.now;
  failures =
      refl;
}

pub read_record-requires : goal.read_record-requires
read_record-requires g c =
    let P : Image → Type 0 = λ img. IsOf img c.args.file.now in
    record { of = subst P (sym c.loop-round.invariant.reads.image) c.requires.of }
