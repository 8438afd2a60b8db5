-- The files were made, and the folder got its path.
use Rattle.image_looks.proofs.NewFolders.{at-ok}
use Rattle.image_looks.proofs.new_folders.FilledFolder.make_whole.Goals as goal

pub returns : goal.returns
returns g c = at-ok c.keep.result (λ moved. record {
  end = c.args.self.now.aside.end.now;
  written = c.in_ok-add_all.ensures.made;
  moved = moved;
}) (rw c.in_ok-add_all.ensures.same at c.keep.ensures)
