-- What was printed is of what was read at the path.
use Rattle.image_looks.specs.EachImage.{as_loaded}
use Rattle.image_looks.specs.EachImage.{IsReadAt}
use Rattle.image_looks.proofs.EachTold.{one-read}
use Rattle.image_looks.proofs.EachTold.{read-at}
use Rattle.image_looks.proofs.each_image.print_one.Goals as goal

pub returns : goal.returns
returns g c = record {
  ok = one-read (IsReadAt g.R.HostFiles.rights g.R.HostFiles.stands c.args.rt.now c.args.extent) (g.P.PrintsImage.prints c.args.what.now)
      c.args.path.now (as_loaded c.image_as.result) c.args.out.now c.print.new.out c.print.result
      (read-at g.R.HostFiles.rights g.R.HostFiles.stands c.args.rt.now c.args.extent c.args.path.now c.image_as.result c.image_as.ensures.read)
      c.print.ensures.ok;
  err = c.print.ensures.err;
}
