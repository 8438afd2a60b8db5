-- One sector is put.
use Rattle.std.proofs.Common.{arith, refl}
use Rattle.rel_records.proofs.access.write.Goals as goal

pub returns-in-Ok : goal.returns-in-Ok
returns-in-Ok g c = record {
  ok = c.in-Ok.ensures.ok;
  err = tt;
  held = c.write_sector.ensures.held;
  writes = c.in-Ok.ensures.counted;
  one_step = λ one. tt;
  reads = omega (arith, c.write_sector.ensures.reads);
  failures = c.in-Ok.ensures.failures;
}

pub returns-in-Err : goal.returns-in-Err
returns-in-Err g c = record {
  ok = tt;
  err = refl;
  held = c.write_sector.ensures.held;
  writes = omega (arith, c.in-Err.ensures.uncounted);
  one_step = λ one. record { uncounted = c.in-Err.ensures.uncounted; one_step = c.in-Err.ensures.one_step };
  reads = omega (arith, c.write_sector.ensures.reads);
  failures = c.in-Err.ensures.failures;
}
