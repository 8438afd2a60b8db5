-- What the links come to, the others that hold, and their lines.
use Rattle.std.proofs.Common.{List, inl, inr, refl, subst, ◌∷◌}
use Rattle.std.proofs.lemmas.Result.{err_from_is_err_and}
use Rattle.d64_image.specs.Memory.{disk_image}
use Rattle.disk_layout.specs.declared.faults.Fault.{Fault}
use Rattle.disk_reports.proofs.Lined.{listed-all}
use Rattle.disk_reports.specs.AllFaults.{ArePrinted}
use Rattle.disk_reports.proofs.listing.print_faults.Goals as goal

pub find_others-requires : goal.find_others-requires
find_others-requires g c = c.in_ok-links.ensures.ok.few

pub print_all-requires : goal.print_all-requires
print_all-requires g c = c.in_ok-links.ensures.ok.few

pub returns-in_err-links : goal.returns-in_err-links
returns-in_err-links g c =
    let p = err_from_is_err_and c.from_residual.result c.from_residual.ensures.1 in record {
      ok = rw p.1 tt;
      err = rw (p.1, p.2) (inr (c.in_err-links.ensures.err, refl));
    }

pub returns-in_err-others : goal.returns-in_err-others
returns-in_err-others g c =
    let p = err_from_is_err_and c.from_residual-in_err-others.result c.from_residual-in_err-others.ensures.1 in record {
      ok = rw p.1 tt;
      err = rw (p.1, p.2) (inr (c.in_err-others.ensures.err, refl));
    }

pub returns-in-Ok : goal.returns-in-Ok
returns-in-Ok g c =
    let links = c.in_ok-links.links in
    record {
      ok = listed-all (disk_image c.args.disk.now) links c.args.first c.in_ok-others.others.items _ _ c.in_ok-links.ensures.ok
          c.in_ok-others.ensures.ok
          (subst (λ (fs : List Fault). ArePrinted links (c.args.first ∷ fs) (g.W.Write.contents c.args.out.now)
          (g.W.Write.contents c.print_all.new.out)) c.as_slice.ensures.value c.in-Ok.ensures);
      err = tt;
    }

pub returns : goal.returns
returns g c = record { ok = tt; err = inl refl }
