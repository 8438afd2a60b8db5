-- A broken mirror reads nothing; else memory answers.
use Rattle.std.proofs.Common.{refl, subst, sym, ◌∙◌}
use Rattle.std.proofs.lemmas.Bool.{false≢true}
use Rattle.d64_image.specs.Keeps.{Agrees}
use Rattle.d64_image.proofs.KeptMirrorCalls.{read_broken, read_passed}
use Rattle.d64_image.proofs.kept_mirror.KeptMirrorSectors.read.Goals as goal

pub returns-then-self : goal.returns-then-self
returns-then-self g c = record {
  device = read_broken c.args.self.now c.args.place c.args.to.now c.if-self.true;
  broken = λ was. refl;
  whole = λ whole. absurd (whole c.if-self.true);
  file = refl;
}

pub invariant_of-self : goal.invariant_of-self
invariant_of-self g c = record {
  agrees = λ whole. subst (Agrees (g.F.SectorFile.keeps.kept c.args.self.now.file))
      (sym c.read.ensures.device.reads.image) (c.args.self.now.agrees whole);
}

pub returns : goal.returns
returns g c = record {
  device = read_passed c.args.self.now c.args.place c.read.new.to _ refl refl refl c.read.ensures.device.reads.image
      c.read.result c.if-self.false c.read.ensures.never_fails c.read.ensures.device.sector;
  broken = λ was. absurd (false≢true (sym c.if-self.false ∙ was));
  whole = λ whole. c.read.ensures.never_fails;
  file = refl;
}
