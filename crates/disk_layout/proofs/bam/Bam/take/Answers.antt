-- The two stores take the sector.
use Rattle.std.proofs.Common.{ap, length-set, refl, sym, ◌-◌, ◌∙◌}
use Rattle.std.proofs.lemmas.Bool.{false≢true}
use Rattle.disk_layout.specs.Map.{map_count}
use Rattle.disk_layout.proofs.lemmas.map.Bits.{bits-inside, count-inside, turned-taken}
use Rattle.disk_layout.proofs.bam.Bam.take.Goals as goal

pub bounds-self-at : goal.bounds-self-at
bounds-self-at c = count-inside c.args.place c.track.result c.track.ensures

pub bounds-self-at-then-is_free : goal.bounds-self-at-then-is_free
bounds-self-at-then-is_free c = count-inside c.args.place c.track.result c.track.ensures

pub bounds-self-at-then-is_free-2 : goal.bounds-self-at-then-is_free-2
bounds-self-at-then-is_free-2 c = bits-inside c.args.place c.track.result c.sector-sector.result c.track.ensures
    c.sector-sector.ensures

pub bounds-self-at-then-is_free-3 : goal.bounds-self-at-then-is_free-3
bounds-self-at-then-is_free-3 c = bits-inside c.args.place c.track.result c.sector-sector.result c.track.ensures
    c.sector-sector.ensures

pub invariant_of-self : goal.invariant_of-self
invariant_of-self c = record { whole = length-set _ _ _ ∙ length-set _ _ _ ∙ c.args.self.now.whole }

pub returns-then-is_free : goal.returns-then-is_free
returns-then-is_free c = record {
  taken = λ free. rw (c.track.ensures, c.sector-sector.ensures) (turned-taken c.args.self.now.bytes c.args.place
      c.saturating_sub.result c.args.self.now.whole free (c.saturating_sub.ensures
      ∙ ap (λ t. map_count c.args.self.now.bytes t - 1) c.track.ensures));
  not_free = λ taken. absurd (taken (c.is_free.ensures.0 c.if-is_free.true));
}

pub returns-else-is_free : goal.returns-else-is_free
returns-else-is_free c = record {
  taken = λ free. absurd (false≢true (sym c.if-is_free.false ∙ c.is_free.ensures.1 free));
  not_free = λ taken. refl;
}
