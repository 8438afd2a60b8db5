-- The next side sector's place, where there is one.
use Rattle.std.proofs.Common.{[], ap₂, length, refl, ℕ, ◌+◌, ◌∷◌}
use Rattle.std.proofs.lemmas.Option.{slice_get_past, slice_get_read}
use Rattle.disk_layout.proofs.side.link.Goals as goal

pub returns-in-Some : goal.returns-in-Some
returns-in-Some c =
    let sides = c.args.sides.now in
    let found = c.in-Some.ensures.lookup in
    rw (slice_get_read sides (length sides) (c.args.number + 1) c.in-Some.next.now refl found.3.0 found.1)
    (ap₂ (λ (t s : ℕ). t ∷ s ∷ []) c.track.ensures c.sector.ensures)

pub returns-in-None : goal.returns-in-None
returns-in-None c = rw (slice_get_past c.args.sides.now (c.args.number + 1) c.in-None.ensures.lookup.3) refl
