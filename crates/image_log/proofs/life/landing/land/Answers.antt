-- The folder is read, and a log that it has is landed.
use Rattle.std.proofs.Common.{subst}
use Rattle.image_log.specs.Readers.{IsOpened}
use Rattle.image_log.specs.life.Faults.{IsMisfit}
use Rattle.image_log.proofs.lemmas.life.Landed.{none_ok, some_moments, some_ok, some_refused}
use Rattle.image_log.proofs.life.landing.land.Goals as goal

pub returns-in-Some-clause-any_moment : goal.returns-in-Some-clause-any_moment
returns-in-Some-clause-any_moment g c = some_moments g.D.LogFolder.history c.args.folder.now c.find.new.folder c.find.new.now
    (g.D.Reader.LogReader.bytes c.in-Some.log) c.find.ensures.any_moment c.find.ensures.outcomes
    (λ s held. let r = c.in_ok-log.ensures.read s held in (r.0, r.1))
    (λ s held. subst (λ o. IsOpened g.D.Reader.LogReader.bytes o s.log) c.in-Some.is (c.in_ok-log.ensures.read s held).2)
    c.in_ok-log.ensures.settled c.land_log.new.folder c.land_log.ensures.any_moment

pub returns-in-Some-clause-ok : goal.returns-in-Some-clause-ok
returns-in-Some-clause-ok g c = some_ok g.D.LogFolder.history c.args.folder.now c.find.new.folder c.find.new.now
    (g.D.Reader.LogReader.bytes c.in-Some.log) c.find.ensures.any_moment c.find.ensures.outcomes
    (λ s held. let r = c.in_ok-log.ensures.read s held in (r.0, r.1))
    (λ s held. subst (λ o. IsOpened g.D.Reader.LogReader.bytes o s.log) c.in-Some.is (c.in_ok-log.ensures.read s held).2)
    c.in_ok-log.ensures.settled c.land_log.new.folder c.land_log.new.shop c.land_log.result c.land_log.ensures.ok

pub returns-in-Some-clause-refused : goal.returns-in-Some-clause-refused
returns-in-Some-clause-refused g c = some_refused g.D.LogFolder.history c.args.folder.now c.find.new.folder c.find.new.now
    (g.D.Reader.LogReader.bytes c.in-Some.log) c.find.ensures.any_moment c.find.ensures.outcomes
    (λ s held. let r = c.in_ok-log.ensures.read s held in (r.0, r.1))
    (λ s held. subst (λ o. IsOpened g.D.Reader.LogReader.bytes o s.log) c.in-Some.is (c.in_ok-log.ensures.read s held).2)
    c.in_ok-log.ensures.settled IsMisfit c.land_log.new.folder c.land_log.result c.land_log.ensures.refused

pub returns-in-None-clause-ok : goal.returns-in-None-clause-ok
returns-in-None-clause-ok g c shops s held gives all = none_ok g.D.LogFolder.history c.args.folder.now c.find.new.folder
    c.find.new.now c.copy_from_slice.new.self c.copy_from_slice.ensures.after
    (λ x known. let r = c.in_ok-log.ensures.read x known in
    (r.0, r.1, subst (λ o. IsOpened g.D.Reader.LogReader.bytes o x.log) c.in-None.is r.2))
    c.in_ok-log.ensures.settled s held
