-- Of one file more.
use Rattle.std.proofs.Common.{◌∙◌}
use Rattle.std.proofs.lemmas.List.{take_all}
use Rattle.file_rescues.specs.declared.rescue.mem_folder.MemFile.{MemFile}
use Rattle.image_file.specs.paths.Traces.{IsWrittenAt}
use Rattle.image_looks.proofs.NewFolders.{one-more}
use Rattle.opened_files.specs.Rights.{aside_of, path_in}
use Rattle.image_looks.proofs.new_folders.FilledFolder.add_all.Goals as goal

pub loop-file-preserved : goal.loop-file-preserved
loop-file-preserved g c = record {
  same = c.in_ok-add.ensures.same ∙ c.loop-file.invariant.same;
  made =
      let aside = c.args.self.now.aside in
      one-more (λ (file : MemFile). IsWrittenAt g.F.EndedFile.remains g.R.HostFiles.traces aside.rt.now
      (path_in (aside_of aside.path.now aside.end.now) file.name.items) file.bytes.items) c.args.files.now c.loop-file.file-index
      c.file-item.result c.loop-file-test.true c.loop-file.invariant.made
      ((rw (c.loop-file.invariant.same, c.as_slice.ensures.value, c.as_slice-in-loop-file.ensures.value, c.file-item.is) at
      c.in_ok-add.ensures.made));
}

pub returns-clause-made : goal.returns-clause-made
returns-clause-made g c = rw (take_all c.loop-file.file-index c.args.files.now c.loop-file-test.false) at c.loop-file.invariant.made
