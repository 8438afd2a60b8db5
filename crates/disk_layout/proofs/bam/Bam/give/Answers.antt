-- The two stores give the sector back.
use Rattle.std.proofs.Common.{ap, length-set, min, refl, sym, ◌+◌, ◌∙◌}
use Rattle.std.proofs.lemmas.Bool.{false≢true}
use Rattle.disk_layout.specs.Map.{map_count}
use Rattle.disk_layout.proofs.lemmas.map.Bits.{bits-inside, count-inside, turned-given}
use Rattle.disk_layout.proofs.bam.Bam.give.Goals as goal

pub bounds-self-at : goal.bounds-self-at
bounds-self-at c = count-inside c.args.place c.track.result c.track.ensures

pub bounds-self-at-then-not-is_free : goal.bounds-self-at-then-not-is_free
bounds-self-at-then-not-is_free c = count-inside c.args.place c.track.result c.track.ensures

pub bounds-self-at-then-not-is_free-2 : goal.bounds-self-at-then-not-is_free-2
bounds-self-at-then-not-is_free-2 c = bits-inside c.args.place c.track.result c.sector-sector.result c.track.ensures
    c.sector-sector.ensures

pub bounds-self-at-then-not-is_free-3 : goal.bounds-self-at-then-not-is_free-3
bounds-self-at-then-not-is_free-3 c = bits-inside c.args.place c.track.result c.sector-sector.result c.track.ensures
    c.sector-sector.ensures

pub invariant_of-self : goal.invariant_of-self
invariant_of-self c = record { whole = length-set _ _ _ ∙ length-set _ _ _ ∙ c.args.self.now.whole }

pub returns-then-not-is_free : goal.returns-then-not-is_free
returns-then-not-is_free c = record {
  given = λ taken. rw (c.track.ensures, c.sector-sector.ensures) (turned-given c.args.self.now.bytes c.args.place
      c.saturating_add.result c.args.self.now.whole taken (c.saturating_add.ensures
      ∙ ap (λ t. min (map_count c.args.self.now.bytes t + 1) 255) c.track.ensures));
  free = λ free. absurd (false≢true (sym c.if-not-is_free.true ∙ c.is_free.ensures.1 free));
}

pub returns-else-not-is_free : goal.returns-else-not-is_free
returns-else-not-is_free c = record {
  given = λ taken. absurd (taken (c.is_free.ensures.0 c.if-not-is_free.false));
  free = λ free. refl;
}
