-- The block as its side sector names it.
use Rattle.std.proofs.Common.{arith, refl, ◌∙◌}
use Rattle.rel_records.proofs.lemmas.Told.{none-done, fault-is, passed-on}
use Rattle.rel_records.proofs.lemmas.reading.Lookups.{pointer-named, pointer-some, side-at}
use Rattle.rel_records.proofs.reading.lookup.block_at.Goals as goal
use Rattle.rel_records.proofs.lemmas.reading.Starts.{pointer-low}

pub known-requires : goal.known-requires
known-requires g c =
    let at = side-at c.args.file.now c.args.block _ _ c.requires.there c.deref.ensures.0 c.index-deref-block.is in
    pointer-some _ c.args.file.now c.args.block _ _ _ c.requires.of c.requires.there at c.in_ok-read.ensures.ok refl

pub returns : goal.returns
returns g c =
    record {
      ok = λ l n f of.
          let at = side-at c.args.file.now c.args.block _ _ c.requires.there c.deref.ensures.0 c.index-deref-block.is in
          pointer-named _ l n f c.args.file.now of c.args.block _ _ (omega (arith, c.requires.there, of.shows.blocks))
          at c.in_ok-read.ensures.ok ∙ c.known.ensures;
      err = tt;
      reads = c.in_ok-read.ensures.reads;
      failures = c.in_ok-read.ensures.failures;
    }

pub returns-in_err-read : goal.returns-in_err-read
returns-in_err-read g c =
    record {
      ok = none-done c.from_residual.result _ c.from_residual.ensures.1 _;
      err = fault-is c.from_residual.result _ c.from_residual.ensures.1 _ (λ e is. is ∙ c.in_err-read.ensures.err);
      reads = c.read.ensures.reads;
      failures = passed-on g.D.Sectors.history _ _ _ refl c.from_residual.result _ c.from_residual.ensures.1
          c.in_err-read.ensures.failures;
    }

pub overflow_mul-pointer : goal.overflow_mul-pointer
overflow_mul-pointer g c = omega (arith, pointer-low c.args.block)

pub overflow_add-pointer : goal.overflow_add-pointer
overflow_add-pointer g c = omega (arith, pointer-low c.args.block)

pub overflow_add-pointer-2 : goal.overflow_add-pointer-2
overflow_add-pointer-2 g c = omega (arith, pointer-low c.args.block)
