-- What is said of what was done with the files is said of the job.
use Rattle.std.proofs.Common.{List, map, subst, ℕ}
use Rattle.std.specs.Borrow.{Bor}
use Rattle.image_looks.specs.LookRuns.{AreDescribed, AreDrawnOnSheet, AreOverviewed}
use Rattle.ledger_jobs.proofs.dispatch.do_job.Goals as goal

pub returns-in-Look : goal.returns-in-Look
returns-in-Look g c = rw c.in-Look.is c.do_look.ensures

pub returns-in-Dry : goal.returns-in-Dry
returns-in-Dry g c = rw c.in-Dry.is c.do_dry.ensures

pub returns-in-New : goal.returns-in-New
returns-in-New g c = rw c.in-New.is c.do_new.ensures

pub returns-in-Play : goal.returns-in-Play
returns-in-Play g c =
    rw c.in-Play.is (c.do_playing.ensures.near, c.do_playing.ensures.played, c.do_playing.ensures.left)

pub returns-in-PlayLogged : goal.returns-in-PlayLogged
returns-in-PlayLogged g c =
    rw c.in-PlayLogged.is (c.do_logged_playing.ensures.told, c.do_logged_playing.ensures.kept)

pub returns-in-Copy : goal.returns-in-Copy
returns-in-Copy g c = rw c.in-Copy.is c.do_copying.ensures

pub returns-in-Salvage : goal.returns-in-Salvage
returns-in-Salvage g c = rw c.in-Salvage.is c.do_salvaging.ensures

pub returns-in-Extract : goal.returns-in-Extract
returns-in-Extract g c = rw c.in-Extract.is c.do_extracting.ensures

pub returns-in-Change : goal.returns-in-Change
returns-in-Change g c = rw c.in-Change.is c.do_edit.ensures

pub returns-in-Compare : goal.returns-in-Compare
returns-in-Compare g c = rw c.in-Compare.is c.do_comparing.ensures

pub returns-in-Sheet : goal.returns-in-Sheet
returns-in-Sheet g c =
    rw c.in-Sheet.is (subst (λ (paths : List (Bor (List ℕ))). AreDrawnOnSheet g.R.HostFiles.rights g.R.HostFiles.stands g.W.Write.contents
    c.args.rt.now (map (λ path. path.now) paths) c.args.out.now c.do_sheet.new.out c.do_sheet.result) c.as_slice.ensures.value
    c.do_sheet.ensures)

pub returns-in-Describe : goal.returns-in-Describe
returns-in-Describe g c =
    rw c.in-Describe.is (subst (λ (paths : List (Bor (List ℕ))). AreDescribed g.R.HostFiles.rights g.R.HostFiles.stands g.W.Write.contents
    c.args.rt.now c.in-Describe.form (map (λ path. path.now) paths) c.args.out.now c.do_describing.new.out c.do_describing.result) c.as_slice-in-Describe.ensures.value
    c.do_describing.ensures)

pub returns-in-Several : goal.returns-in-Several
returns-in-Several g c =
    rw c.in-Several.is (subst (λ (paths : List (Bor (List ℕ))). AreOverviewed g.R.HostFiles.rights g.R.HostFiles.stands g.W.Write.contents
    c.args.rt.now c.in-Several.what (map (λ path. path.now) paths) c.args.out.now c.do_several.new.out c.do_several.result) c.as_slice-in-Several.ensures.value
    c.do_several.ensures)

pub returns-in-Serve : goal.returns-in-Serve
returns-in-Serve g c = rw c.in-Serve.is (c.do_logged_serving.ensures.told, c.do_logged_serving.ensures.kept)
