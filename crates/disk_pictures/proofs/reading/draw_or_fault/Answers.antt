-- Why nothing is drawn is a fact of the directory, or there was no memory.
use Rattle.std.proofs.Common.{sym, subst, ◌∙◌}
use Rattle.std.specs.Prelude.{MatchOption}
use Rattle.d64_image.specs.Memory.{disk_image}
use Rattle.disk_layout.specs.Fault.{HoldsOfDirectory, nowhere}
use Rattle.disk_pictures.specs.Faults.{IsMemoryFault}
use Rattle.disk_pictures.proofs.reading.draw_or_fault.Goals as goal

pub returns-in-Some : goal.returns-in-Some
returns-in-Some c = record {
  ok = subst (λ o. MatchOption o (IsMemoryFault c.in-Err.why) (HoldsOfDirectory nowhere (disk_image c.args.disk.now)))
      (sym c.layout_fault.ensures ∙ c.in-Some.is) c.in-Err.ensures.err;
  err = tt;
}

pub returns-in-None : goal.returns-in-None
returns-in-None c = record {
  ok = tt;
  err = subst (λ o. MatchOption o (IsMemoryFault c.in-Err.why) (HoldsOfDirectory nowhere (disk_image c.args.disk.now)))
      (sym c.layout_fault.ensures ∙ c.in-None.is) c.in-Err.ensures.err;
}
