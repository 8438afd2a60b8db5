-- The next sector is freed where the track has it.
use Rattle.std.proofs.Common.{arith, subst, sym, ◌+◌, ◌≡◌}
use Rattle.disk_layout.proofs.blank_map.free_from.Goals as goal
use Rattle.disk_layout.proofs.blank_map.free_from.Goals.{in-Some, in_default}
use Rattle.disk_layout.proofs.lemmas.blank.Freeing.{free-next, free-past, free-start, not-yet}
use Rattle.disk_layout.proofs.lemmas.chains.Names.{past-track}
use Rattle.disk_layout.specs.Free.{IsFreeFrom}
use Rattle.disk_layout.specs.declared.bam.Bam.{Bam}

pub loop-sector-init : goal.loop-sector-init
loop-sector-init c = free-start c.args.map.now.bytes c.args.track c.args.taken c.requires.none

pub loop-sector-preserved : goal.loop-sector-preserved
loop-sector-preserved c =
    let old = c.args.map.now.bytes in
    let now = c.loop-sector.map.bytes in
    let P : Bam → Type 0 = λ b. IsFreeFrom old b.bytes c.args.track c.args.taken (c.loop-sector.sector + 1) in
    elim c.match-new.branch [
      | in-Some w ↦ subst P (sym w.map-is) (free-next old now w.give.new.self.bytes c.args.track c.args.taken
          c.loop-sector.sector w.in-Some.place (omega arith) c.loop-sector.invariant (sym w.in-Some.ensures.value)
          (w.give.ensures.given (not-yet old now c.args.track c.args.taken c.loop-sector.sector w.in-Some.place
          c.loop-sector.invariant (sym w.in-Some.ensures.value))))
      | in_default w ↦ subst P (sym w.map-is) (free-past old now c.args.track c.args.taken c.loop-sector.sector
          c.loop-sector.invariant (past-track c.args.track c.loop-sector.sector w.in_default.ensures.value))
    ]

pub returns : goal.returns
returns c =
    let last : c.loop-sector.sector ≡ 24 = omega (arith, c.requires.taken) in
    subst (λ n. IsFreeFrom c.args.map.now.bytes c.loop-sector.map.bytes c.args.track c.args.taken n) last
    c.loop-sector.invariant
