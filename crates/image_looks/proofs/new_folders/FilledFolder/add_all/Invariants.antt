-- The files so far were made.
use Rattle.std.proofs.Common.{◌≡◌, take}
use Rattle.image_looks.specs.NewFolders.{AreWrittenIn}
use Rattle.opened_files.specs.Rights.{aside_of}
use Rattle.image_looks.proofs.new_folders.FilledFolder.add_all.Given as goal

abbrev pub invariant-loop-file : goal.invariant-loop-file
invariant-loop-file g l = record {
  same : l.self.aside ≡ l.fn.self.aside;
  made : AreWrittenIn g.F.EndedFile.remains g.R.HostFiles.traces l.fn.self.aside.rt.now
      (aside_of l.fn.self.aside.path.now l.fn.self.aside.end.now) (take l.file-index l.files);
}
