-- Why the change that is asked for isn't made.
use Rattle.std.proofs.Common.{List, subst, ℕ}
use Rattle.std.specs.Prelude.{IfErr}
use Rattle.disk_changes.specs.Deletes.{IsDeleteRefusal}
use Rattle.disk_changes.specs.GeosPuts.{IsGeosPutRefusal}
use Rattle.disk_changes.specs.Undeletes.{IsUndeleteRefusal}
use Rattle.disk_changes.proofs.changing.change_plain.Goals as goal

pub returns-in-Delete-clause-err : goal.returns-in-Delete-clause-err
returns-in-Delete-clause-err c =
    rw c.in-Delete.is (subst (λ (name : List ℕ). IfErr c.deleted.result (IsDeleteRefusal c.args.image.now name c.args.what.now.loss))
    c.as_bytes-in-Delete.ensures c.deleted.ensures.err)

pub returns-in-Undelete-clause-err : goal.returns-in-Undelete-clause-err
returns-in-Undelete-clause-err c =
    rw c.in-Undelete.is (subst (λ (name : List ℕ). IfErr c.undeleted.result
    (IsUndeleteRefusal c.args.image.now name c.in-Undelete.kind c.args.what.now.loss)) c.as_bytes-in-Undelete.ensures
    c.undeleted.ensures.err)

pub returns-in-PutGeos-clause-err : goal.returns-in-PutGeos-clause-err
returns-in-PutGeos-clause-err c =
    rw c.in-PutGeos.is (subst (λ (name : List ℕ). IfErr c.geos_put.result
    (IsGeosPutRefusal c.args.image.now name c.args.what.now.source.now c.args.what.now.loss)) c.as_bytes-in-PutGeos.ensures
    c.geos_put.ensures.err)
