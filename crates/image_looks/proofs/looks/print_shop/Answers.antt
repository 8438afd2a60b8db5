-- How a show ended is how its command did, unless the log is away.
use Rattle.std.proofs.Common.{inr}
use Rattle.shop_commands.specs.Shops.{IsShowFault, IsShown}
use Rattle.image_looks.proofs.Looked.{quietly-printed}
use Rattle.image_looks.proofs.looks.print_shop.Goals as goal

pub returns : goal.returns
returns g c =
    let done = c.show_image in
    inr (
      c.in_ok-see_log_away.ensures.ok,
      quietly-printed c.args.out.now done.new.out (IsShown g.W.Write.contents c.args.image.now)
          (IsShowFault c.args.image.now) done.result c.run_end.result c.run_end.ensures done.ensures.ok done.ensures.err
          done.ensures.untouched,
    )
