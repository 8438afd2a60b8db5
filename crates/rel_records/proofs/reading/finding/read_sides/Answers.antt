-- The bytes that are read are those of the side sector.
use Rattle.std.proofs.Common.{List, refl, subst, sym, ℕ, ◌∙◌}
use Rattle.rel_records.specs.reading.Sides.{NamesEach}
use Rattle.rel_records.proofs.lemmas.Told.{none-done, fault-is, passed-on}
use Rattle.rel_records.proofs.reading.finding.read_sides.Goals as goal

pub list_sides-requires : goal.list_sides-requires
list_sides-requires g c =
    let (qs, count, few, names) = c.requires.of in
    let P : List ℕ → Type 0 = λ bytes. NamesEach bytes 4 qs in
    record { of = (qs, count, few, subst P (sym c.in_ok-read.ensures.ok) names) }

pub returns : goal.returns
returns g c =
    record {
      ok = λ qs count names.
          let P : List ℕ → Type 0 = λ bytes. NamesEach bytes 4 qs in
          c.list_sides.ensures qs count (subst P (sym c.in_ok-read.ensures.ok) names);
      err = tt;
      reads = c.in_ok-read.ensures.reads;
      failures = c.in_ok-read.ensures.failures;
    }

pub returns-in_err-read : goal.returns-in_err-read
returns-in_err-read g c =
    record {
      ok = none-done c.from_residual.result _ c.from_residual.ensures.1 _;
      err = fault-is c.from_residual.result _ c.from_residual.ensures.1 _ (λ e is. is ∙ c.in_err-read.ensures.err);
      reads = c.read.ensures.reads;
      failures = passed-on g.D.Sectors.history _ _ _ refl c.from_residual.result _ c.from_residual.ensures.1
          c.in_err-read.ensures.failures;
    }
