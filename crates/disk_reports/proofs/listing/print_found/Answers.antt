-- There is a fault, or none.
use Rattle.std.proofs.Common.{inl}
use Rattle.std.proofs.lemmas.Result.{IfErr-weaker, on_ok_weaker}
use Rattle.d64_image.specs.Memory.{disk_image}
use Rattle.disk_reports.proofs.Lined.{listed-none}
use Rattle.disk_reports.proofs.listing.print_found.Goals as goal

pub returns-in-Some : goal.returns-in-Some
returns-in-Some g c = record { ok = rw c.in-Some.is c.print_faults.ensures.ok; err = c.print_faults.ensures.err }

pub returns-in-None : goal.returns-in-None
returns-in-None g c = record {
  ok = rw c.in-None.is (on_ok_weaker c.print_none.result (listed-none (disk_image c.args.disk.now) _ _) c.print_none.ensures.ok);
  err = IfErr-weaker c.print_none.result _ _ (λ _ is. inl is) c.print_none.ensures.err;
}
