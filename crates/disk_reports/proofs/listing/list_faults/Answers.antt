-- What the disk in memory holds is the image.
use Rattle.std.proofs.Common.{List, inl, inr, refl, subst, ◌≡◌, ◌≢◌, ◌⊎◌, ◌∙◌, ℕ}
use Rattle.std.specs.Prelude.{length}
use Rattle.std.proofs.lemmas.Result.{err_from_is_err_and}
use Rattle.d64_image.specs.Images.{Image}
use Rattle.damaged_files.specs.cut.Told.{IsShortfallOf}
use Rattle.std.proofs.KnownBytes.{Appends-trans}
use Rattle.disk_reports.specs.AllFaults.{IsListed}
use Rattle.command_faults.proofs.Loads.{by-load}
use Rattle.disk_layout.specs.Clean.{IsVerdict}
use Rattle.disk_reports.specs.Outcomes.{IsDescribeFault}
use Rattle.command_faults.specs.declared.faults.CommandFault.{CommandFault}
use Rattle.command_faults.specs.declared.faults.CommandFault.TheVariants as faults
use Rattle.disk_reports.proofs.listing.list_faults.Goals as goal

put-described : {W : Type 0} (image : List ℕ) (old new : W) (fault : CommandFault) → length image ≡ 174848
    → (fault ≡ faults.File) ⊎ ((fault ≡ faults.NoMemory) × (new ≡ old))
    → IsDescribeFault image fault × ((fault ≢ faults.File) → new ≡ old)
put-described image old new fault size (inl is) = rw is (size, λ other. absurd (other refl))
put-described image old new fault size (inr (is, same)) = rw is (size, λ _. same)

pub returns-in_err-disk : goal.returns-in_err-disk
returns-in_err-disk g c =
    let p = err_from_is_err_and c.from_residual.result c.from_residual.ensures.1 in record {
      ok = rw p.1 tt;
      err = rw (p.1, p.2) (by-load c.args.image.now (IsDescribeFault c.args.image.now)
          (λ told. told) (λ told. told) _ c.in_err-disk.ensures.err);
      untouched = rw p.1 (λ _. refl);
    }

pub returns-in_err-print_found : goal.returns-in_err-print_found
returns-in_err-print_found g c =
    let p = err_from_is_err_and c.from_residual-in_err-print_found.result c.from_residual-in_err-print_found.ensures.1 in
    let both = put-described c.args.image.now c.args.out.now c.print_found.new.out c.in_err-print_found.field-0.0
    c.in_ok-disk.ensures.ok.0 c.in_err-print_found.ensures.err in
    record {
      ok = rw p.1 tt;
      err = rw (p.1, p.2) both.0;
      untouched = rw (p.1, p.2) both.1;
    }

pub returns : goal.returns
returns g c =
    let loaded = c.in_ok-disk.ensures.ok in
    let found = c.verdict-found.result in
    let judged = c.verdict-found.ensures.same ∙ loaded.1 in
    let listed = subst (λ (i : Image). IsListed i found (g.W.Write.contents c.args.out.now)
    (g.W.Write.contents c.print_found.new.out)) (c.find_shortfall-lack.ensures.same ∙ judged) c.in_ok-print_found.ensures.ok in
    record {
      ok = record {
        size = loaded.0;
        verdict = subst (λ (i : Image). IsVerdict i found) loaded.1 c.verdict-found.ensures.verdict;
        lack = c.find_shortfall-lack.result;
        lacks = subst (λ (i : Image). IsShortfallOf i c.find_shortfall-lack.result) judged c.find_shortfall-lack.ensures.told;
        text = listed.0;
        listing = listed.1;
        printed = Appends-trans _ _ _ _ _ listed.2 c.in_ok-print_shortfall.ensures.ok;
      };
      err = tt;
      untouched = tt;
    }
