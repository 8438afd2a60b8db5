-- One file more is whole, or this one isn't.
use Rattle.std.proofs.Common.{arith, refl, sym, ◌∙◌}
use Rattle.disk_pictures.proofs.lemmas.views.Trimmed.{held-at, whole-all, whole-more}
use Rattle.disk_pictures.specs.Drawings.{file_in}
use Rattle.disk_pictures.proofs.views.past_tracks.are_files_whole.Goals as goal

pub loop-file-preserved : goal.loop-file-preserved
loop-file-preserved c =
    whole-more c.args.image.now _ c.loop-file.file-index (file_in c.file-item.result)
    (held-at c.args.files.now c.loop-file.file-index c.file-item.result c.loop-file-test.true (sym c.file-item.is))
    c.loop-file.invariant (c.is_file_whole.ensures.0 c.if-not-is_file_whole.false)

pub returns-then-not-is_file_whole : goal.returns-then-not-is_file_whole
returns-then-not-is_file_whole c = (
  λ t. absurd (cc),
  λ all. sym c.if-not-is_file_whole.true ∙ c.is_file_whole.ensures.1 (all c.loop-file.file-index _
      (held-at c.args.files.now c.loop-file.file-index c.file-item.result c.loop-file-test.true (sym c.file-item.is))),
)

pub returns : goal.returns
returns c = (
  λ _. whole-all c.args.image.now c.args.files.now c.loop-file.file-index
      (omega (arith, c.loop-file-test.false, c.loop-file.auto.file-index-end)) c.loop-file.invariant,
  λ _. refl,
)
