-- A log is made and named, IMAGE is brought, and the log's name goes.
use Rattle.image_log.proofs.lemmas.life.Replaced.{first_moments, last_moments, last_rests, second_moments, third_moments}
use Rattle.image_log.proofs.life.replacing.replace.Goals as goal

pub returns-in-Err-clause-any_moment : goal.returns-in-Err-clause-any_moment
returns-in-Err-clause-any_moment g c log rests = first_moments g.D.LogFolder.history c.args.folder.now
    c.make_replacing.new.folder log c.args.now.now c.args.shop.now
    (c.make_replacing.ensures.any_moment log rests)

pub returns-in-Err-clause-unbegun : goal.returns-in-Err-clause-unbegun
returns-in-Err-clause-unbegun g c unbegun log rests = c.make_replacing.ensures.any_moment log rests

pub returns-in_err-commit_made-clause-any_moment : goal.returns-in_err-commit_made-clause-any_moment
returns-in_err-commit_made-clause-any_moment g c log rests = second_moments g.D.LogFolder.history c.args.folder.now
    c.make_replacing.new.folder c.commit_made.new.folder log c.args.now.now c.args.shop.now
    (c.make_replacing.ensures.any_moment log rests)
    (c.commit_made.ensures.any_moment log c.args.now.now c.args.shop.now (c.in-Ok.ensures.ok log rests))

pub returns-in_err-write_changed-clause-any_moment : goal.returns-in_err-write_changed-clause-any_moment
returns-in_err-write_changed-clause-any_moment g c log rests =
    let made = c.in-Ok.ensures.ok log rests in
    third_moments g.D.LogFolder.history c.args.folder.now c.make_replacing.new.folder c.commit_made.new.folder log c.args.now.now
    c.args.shop.now (c.make_replacing.ensures.any_moment log rests)
    (c.commit_made.ensures.any_moment log c.args.now.now c.args.shop.now made)
    (c.in_ok-commit_made.ensures.ok log c.args.now.now c.args.shop.now made) c.write_changed.new.folder c.write_changed.ensures.any_moment

pub returns-in_err-unlog-clause-any_moment : goal.returns-in_err-unlog-clause-any_moment
returns-in_err-unlog-clause-any_moment g c log rests =
    let made = c.in-Ok.ensures.ok log rests in
    last_moments g.D.LogFolder.history c.args.folder.now c.make_replacing.new.folder c.commit_made.new.folder log c.args.now.now
    c.args.shop.now (c.make_replacing.ensures.any_moment log rests)
    (c.commit_made.ensures.any_moment log c.args.now.now c.args.shop.now made)
    (c.in_ok-commit_made.ensures.ok log c.args.now.now c.args.shop.now made) c.write_changed.new.folder c.write_changed.ensures.any_moment
    c.write_changed.ensures.landing c.in_ok-write_changed.ensures.ok c.unlog.new.folder c.unlog.ensures.any_moment

pub returns-clause-any_moment : goal.returns-clause-any_moment
returns-clause-any_moment g c log rests =
    let made = c.in-Ok.ensures.ok log rests in
    last_moments g.D.LogFolder.history c.args.folder.now c.make_replacing.new.folder c.commit_made.new.folder log c.args.now.now
    c.args.shop.now (c.make_replacing.ensures.any_moment log rests)
    (c.commit_made.ensures.any_moment log c.args.now.now c.args.shop.now made)
    (c.in_ok-commit_made.ensures.ok log c.args.now.now c.args.shop.now made) c.write_changed.new.folder c.write_changed.ensures.any_moment
    c.write_changed.ensures.landing c.in_ok-write_changed.ensures.ok c.unlog.new.folder c.unlog.ensures.any_moment

pub returns-clause-ok : goal.returns-clause-ok
returns-clause-ok g c log rests =
    let made = c.in-Ok.ensures.ok log rests in
    last_rests g.D.LogFolder.history c.args.folder.now c.make_replacing.new.folder c.commit_made.new.folder log c.args.now.now
    c.args.shop.now (c.make_replacing.ensures.any_moment log rests)
    (c.commit_made.ensures.any_moment log c.args.now.now c.args.shop.now made)
    (c.in_ok-commit_made.ensures.ok log c.args.now.now c.args.shop.now made) c.write_changed.new.folder c.write_changed.ensures.any_moment
    c.write_changed.ensures.landing c.in_ok-write_changed.ensures.ok c.unlog.new.folder c.in_ok-unlog.ensures.ok
