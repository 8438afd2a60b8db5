-- Sector by sector: given, owned, or not there.
use Rattle.std.proofs.Common.{subst, sym, ◌+◌, ◌∙◌}
use Rattle.std.proofs.lemmas.Bool.{false≢true}
use Rattle.disk_layout.specs.declared.bam.Bam.{Bam}
use Rattle.layout_check.proofs.lemmas.mending.Makings.{IsMadeTo, made-end, made-free, made-owned, made-past, made-start}
use Rattle.layout_check.proofs.lemmas.mending.Makings.{not-taken}
use Rattle.layout_check.proofs.lemmas.mending.Ones.{free-owner}
use Rattle.layout_check.proofs.mending.free_track.Goals as goal
use Rattle.layout_check.proofs.mending.free_track.Goals.{
  in-Some+then-not-is_owned,
  in-Some+else-not-is_owned,
  in_default,
}

pub loop-sector-init : goal.loop-sector-init
loop-sector-init c = made-start c.args.map.now.bytes c.args.owners.now c.args.track c.requires.none

pub loop-sector-preserved : goal.loop-sector-preserved
loop-sector-preserved c =
    let old = c.args.map.now.bytes in
    let now = c.loop-sector.map.bytes in
    let t = c.args.owners.now in
    let P : Bam → Type 0 = λ b. IsMadeTo old b.bytes t c.args.track (c.loop-sector.sector + 1) in
    elim c.match-new.branch [
      | in-Some+then-not-is_owned w ↦
          let free = free-owner t w.in-Some.place (λ ne. false≢true (sym w.if-not-is_owned.true
          ∙ w.is_owned.ensures.1 ne)) in
          subst P (sym w.map-is) (made-free old now w.give.new.self.bytes t c.args.track c.loop-sector.sector
          w.in-Some.place c.loop-sector-test.true w.in-Some.ensures.value free
          (w.give.ensures.given (not-taken old now t c.args.track c.loop-sector.sector w.in-Some.place
          c.loop-sector-test.true w.in-Some.ensures.value c.loop-sector.invariant)) c.loop-sector.invariant)
      | in-Some+else-not-is_owned w ↦
          subst P (sym w.map-is) (made-owned old now t c.args.track c.loop-sector.sector w.in-Some.place
          c.loop-sector-test.true w.in-Some.ensures.value (w.is_owned.ensures.0 w.if-not-is_owned.false)
          c.loop-sector.invariant)
      | in_default w ↦ subst P (sym w.map-is) (made-past old now t c.args.track c.loop-sector.sector
          w.in_default.ensures.value c.loop-sector.invariant)
    ]

pub returns : goal.returns
returns c = made-end c.args.map.now.bytes c.loop-sector.map.bytes c.args.owners.now c.args.track c.loop-sector.sector
    c.loop-sector-test.false c.loop-sector.invariant
