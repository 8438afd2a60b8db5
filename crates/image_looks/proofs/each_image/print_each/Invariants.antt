-- What is asked of the images so far was printed.
use Rattle.std.proofs.Common.{map, take}
use Rattle.image_looks.specs.EachImage.{AreEach}
use Rattle.image_looks.specs.EachImage.{IsReadAt}
use Rattle.image_looks.proofs.each_image.print_each.Given as goal

abbrev pub invariant-loop-path : goal.invariant-loop-path
invariant-loop-path g l = AreEach (IsReadAt g.R.HostFiles.rights g.R.HostFiles.stands l.rt l.extent) (g.P.PrintsImage.prints l.what)
    (map (λ path. path.now) (take l.path-index l.paths)) l.fn.out l.out l.greatest
