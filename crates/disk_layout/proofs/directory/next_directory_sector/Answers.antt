-- What the two bytes name, and whether a directory may have it.
use Rattle.std.proofs.Common.{inr, sym, ◌∙◌}
use Rattle.std.proofs.lemmas.Bool.{false≢true}
use Rattle.disk_layout.proofs.directory.next_directory_sector.Goals as goal
use Rattle.disk_layout.proofs.lemmas.chains.Directories.{names-here}

pub returns-then-is_directory_place : goal.returns-then-is_directory_place
returns-then-is_directory_place c = (
  names-here c.args.bytes.now _ (sym c.in_ok-next.ensures.value),
  c.is_directory_place.ensures.0 c.if-is_directory_place.true,
)

pub returns-else-is_directory_place : goal.returns-else-is_directory_place
returns-else-is_directory_place c =
    inr (
      c.in_ok-next.next,
      names-here c.args.bytes.now _ (sym c.in_ok-next.ensures.value),
      λ on. false≢true (sym c.if-is_directory_place.false ∙ c.is_directory_place.ensures.1 on),
    )
