-- No file is cut short, and nothing of GEOS is to become free.
use Rattle.std.proofs.Common.{◌≡◌, IsTrue, inl, inr, refl, subst, sym, true, ◌∙◌}
use Rattle.std.proofs.lemmas.Bool.{false≢true}
use Rattle.std.proofs.lemmas.Result.{IfErr-weaker, IfOk-weaker}
use Rattle.d64_image.specs.Memory.{disk_image}
use Rattle.damaged_files.specs.cut.Geos.{HasGeosEntry}
use Rattle.disk_changes.proofs.repairing.whole_and_mended.Goals as goal

pub returns-then-frees_geos-clause-err : goal.returns-then-frees_geos-clause-err
returns-then-frees_geos-clause-err c =
    let (asked, geos) = c.frees_geos.ensures.0 c.if-frees_geos.true in
    inr (inr (refl, (asked, subst HasGeosEntry c.in_ok-disk.ensures.ok.1 geos)))

pub returns-clause-ok : goal.returns-clause-ok
returns-clause-ok c = IfOk-weaker c.mended_image.result _ _
    (λ made is. (
      c.in_ok-disk.ensures.ok.0,
      λ frees. false≢true (sym c.if-frees_geos.false
          ∙ c.frees_geos.ensures.1 (frees.0, subst HasGeosEntry (sym c.in_ok-disk.ensures.ok.1) frees.1)),
      is,
    )) c.mended_image.ensures.ok
