-- Why an image can't be read is told after its name.
use Rattle.std.proofs.Common.{◌≡◌, [], List, Option, Result, Ok, Err, subst, sym, ℕ}
use Rattle.std.specs.Prelude.{IfOk, vec_items}
use Rattle.command_faults.specs.declared.faults.CommandFault.{CommandFault}
use Rattle.image_looks.specs.EachImage.{as_loaded}
use Rattle.image_looks.specs.Overviews.{IsOverviewOf, IsToldAs}
use Rattle.image_looks.specs.declared.kinds.Look.{Look}
use Rattle.image_looks.proofs.EachTold.{output-cut-off}
use Rattle.image_looks.proofs.overviews.overview_of.Goals as goal

unread : {W : Type 0} (contents : W → Option (List ℕ)) (what : Look) (path name text : List ℕ) (refusal : CommandFault)
    (old new : W) (told : Result ℕ CommandFault) → text ≡ [] → IfOk told (IsToldAs contents name text (Err refusal) old new)
    → IfOk told (IsOverviewOf contents what path (Err refusal) old new)
unread contents what path name text refusal old new (Ok status) none told =
    (name, subst (λ (t : List ℕ). IsToldAs contents name t (Err refusal) old new status) none told)
unread contents what path name text refusal old new (Err fault) none told = tt

pub returns : goal.returns
returns g c = record {
  ok = subst (λ read. IfOk c.tell_named.result (IsOverviewOf g.W.Write.contents c.args.what.now c.args.path.now (as_loaded read)
      c.args.out.now c.tell_named.new.out))
      (sym c.in-Err.is)
      (unread g.W.Write.contents c.args.what.now c.args.path.now c.as_bytes-in-Err.result.now (vec_items c.new.result)
      c.in-Err.refusal c.args.out.now c.tell_named.new.out c.tell_named.result c.new.ensures.items c.tell_named.ensures.ok);
  err = output-cut-off c.tell_named.result c.tell_named.ensures.err;
}
