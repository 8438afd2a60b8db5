-- Both are there, or one isn't.
use Rattle.std.proofs.Common.{List, map, subst, sym}
use Rattle.disk_pictures.specs.Drawings.{file_in}
use Rattle.disk_pictures.specs.Trims.{AreFilesWhole}
use Rattle.disk_pictures.specs.declared.drawn_file.DrawnFile.{DrawnFile}
use Rattle.disk_pictures.proofs.views.trimming.is_all_there.Goals as goal

pub returns-then-read : goal.returns-then-read
returns-then-read c =
    let image = c.args.image.now in
    let same = c.as_slice-files.ensures.value in (
      λ t. record {
        read = c.is_read-read.ensures.0 c.if-read.true;
        files = subst (λ (fs : List DrawnFile). AreFilesWhole image (map file_in fs)) same
            (c.are_files_whole-whole.ensures.0 t);
      },
      λ all. c.are_files_whole-whole.ensures.1
          (subst (λ (fs : List DrawnFile). AreFilesWhole image (map file_in fs)) (sym same) all.files),
    )

pub returns-else-read : goal.returns-else-read
returns-else-read c =
    let unread = c.if-read.false in
    (λ t. absurd (cc (t, unread)), λ all. c.is_read-read.ensures.1 all.read)
