-- The file that is gathered stays inside the folder too.
use Rattle.image_looks.proofs.NewFolders.{stays}
use Rattle.image_looks.proofs.new_folders.GatheredFilesNewFolder.make.Goals as goal

pub invariant_of-self : goal.invariant_of-self
invariant_of-self c = record {
  inside = stays c.args.self.now.files.files.items c.make.new.self.files.items c.args.name.now c.args.bytes.now c.make.result
      c.requires.inside c.args.self.now.inside c.make.ensures.made c.make.ensures.part;
}
