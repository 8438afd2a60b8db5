-- Of one image more.
use Rattle.std.proofs.Common.{[], map, subst, sym, take, ℕ, ◌+◌}
use Rattle.image_looks.proofs.EachTold.{none-yet, one-more}
use Rattle.image_looks.specs.EachImage.{AreEach}
use Rattle.image_looks.specs.EachImage.{IsReadAt}
use Rattle.image_looks.proofs.each_image.print_each.Goals as goal

pub loop-path-init : goal.loop-path-init
loop-path-init g c =
    none-yet (IsReadAt g.R.HostFiles.rights g.R.HostFiles.stands c.args.rt.now c.args.extent) (g.P.PrintsImage.prints c.args.what.now) _

pub loop-path-preserved : goal.loop-path-preserved
loop-path-preserved g c =
    let prints = g.P.PrintsImage.prints c.args.what.now in
    let gives = IsReadAt g.R.HostFiles.rights g.R.HostFiles.stands c.args.rt.now c.args.extent in
    let paths = c.args.paths.now in
    let i = c.loop-path.path-index in
    subst (λ (most : ℕ). AreEach gives prints (map (λ path. path.now) (take (i + 1) paths)) c.args.out.now c.print_one.new.out most)
    (sym c.max-greatest.ensures)
    (one-more gives prints paths i (record { ref_ptr = (0, 0); now = [] }) c.args.out.now c.loop-path.out c.print_one.new.out
    c.loop-path.greatest c.in_ok-status.status c.loop-path-test.true c.loop-path.invariant c.in_ok-status.ensures.ok)
