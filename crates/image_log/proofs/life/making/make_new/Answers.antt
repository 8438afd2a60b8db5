-- The log in the making is filled, named, and both are brought to the disk.
use Rattle.std.proofs.Common.{◌∙◌, ap, subst}
use Rattle.image_log.proofs.lemmas.life.Made.{all_moments, given_up_moments, kept_moments, made_moments, named_moments, serves, serving_on}
use Rattle.image_log.proofs.lemmas.life.Steps.{stays}
use Rattle.image_log.specs.life.Bringing.{IsBrought}
use Rattle.image_log.proofs.life.making.make_new.Goals as goal

pub returns-in_err-file-clause-any_moment : goal.returns-in_err-file-clause-any_moment
returns-in_err-file-clause-any_moment g c s held all =
    made_moments g.D.LogFolder.history c.args.folder.now c.make_log.new.self c.args.shop.now s held all c.make_log.result
    c.make_log.ensures.acts

pub returns-in-Err-clause-any_moment : goal.returns-in-Err-clause-any_moment
returns-in-Err-clause-any_moment g c s held all =
    given_up_moments g.D.LogFolder.history c.args.folder.now c.make_log.new.self c.args.shop.now s held all c.make_log.result
    c.make_log.ensures.acts g.F.LogFile.history c.leave_making.new.self c.in-Err.file c.leave_making.ensures

pub returns-in_err-sync_folder-clause-any_moment : goal.returns-in_err-sync_folder-clause-any_moment
returns-in_err-sync_folder-clause-any_moment g c s held all =
    kept_moments g.D.LogFolder.history c.args.folder.now c.make_log.new.self c.args.shop.now s held all c.make_log.result
    c.make_log.ensures.acts c.sync_folder.new.self c.sync_folder.result c.sync_folder.ensures

pub returns-in_err-name_log-clause-any_moment : goal.returns-in_err-name_log-clause-any_moment
returns-in_err-name_log-clause-any_moment g c s held all =
    let stands = c.in-Ok.ensures.ok (c.in_ok-file.ensures.known s held) in
    named_moments g.D.LogFolder.history c.args.folder.now c.make_log.new.self c.args.shop.now s held all c.make_log.result
    c.make_log.ensures.acts c.sync_folder.new.self c.sync_folder.result c.sync_folder.ensures c.in-Ok.log stands
    c.in_ok-file.ensures.acts.ok c.in_ok-sync_folder.ensures.ok c.name_log.new.self c.name_log.result
    (c.name_log.ensures.acts stands.bytes (ap g.F.LogFile.history.held c.file.ensures ∙ stands.held)
    (λ x may. stands.durable x (subst (λ f. g.F.LogFile.history.may_leave f x) c.file.ensures may)))

pub returns-in_err-sync_folder-2-clause-any_moment : goal.returns-in_err-sync_folder-2-clause-any_moment
returns-in_err-sync_folder-2-clause-any_moment g c s held all =
    let stands = c.in-Ok.ensures.ok (c.in_ok-file.ensures.known s held) in
    all_moments g.D.LogFolder.history c.args.folder.now c.make_log.new.self c.args.shop.now s held all c.make_log.result
    c.make_log.ensures.acts c.sync_folder.new.self c.sync_folder.result c.sync_folder.ensures c.in-Ok.log stands
    c.in_ok-file.ensures.acts.ok c.in_ok-sync_folder.ensures.ok c.name_log.new.self c.name_log.result
    (c.name_log.ensures.acts stands.bytes (ap g.F.LogFile.history.held c.file.ensures ∙ stands.held)
    (λ x may. stands.durable x (subst (λ f. g.F.LogFile.history.may_leave f x) c.file.ensures may))) c.sync_folder-2.new.self c.sync_folder-2.result c.sync_folder-2.ensures

pub returns-in_err-tag-clause-any_moment : goal.returns-in_err-tag-clause-any_moment
returns-in_err-tag-clause-any_moment g c s held all =
    let stands = c.in-Ok.ensures.ok (c.in_ok-file.ensures.known s held) in
    stays g.D.LogFolder.history c.args.folder.now c.sync_folder-2.new.self c.tag.new.self (IsBrought c.args.shop.now) c.tag.result
    (all_moments g.D.LogFolder.history c.args.folder.now c.make_log.new.self c.args.shop.now s held all c.make_log.result
    c.make_log.ensures.acts c.sync_folder.new.self c.sync_folder.result c.sync_folder.ensures c.in-Ok.log stands
    c.in_ok-file.ensures.acts.ok c.in_ok-sync_folder.ensures.ok c.name_log.new.self c.name_log.result
    (c.name_log.ensures.acts stands.bytes (ap g.F.LogFile.history.held c.file.ensures ∙ stands.held)
    (λ x may. stands.durable x (subst (λ f. g.F.LogFile.history.may_leave f x) c.file.ensures may))) c.sync_folder-2.new.self c.sync_folder-2.result c.sync_folder-2.ensures)
    c.tag.ensures.acts

pub returns-clause-any_moment : goal.returns-clause-any_moment
returns-clause-any_moment g c s held all =
    let stands = c.in-Ok.ensures.ok (c.in_ok-file.ensures.known s held) in
    stays g.D.LogFolder.history c.args.folder.now c.sync_folder-2.new.self c.tag.new.self (IsBrought c.args.shop.now) c.tag.result
    (all_moments g.D.LogFolder.history c.args.folder.now c.make_log.new.self c.args.shop.now s held all c.make_log.result
    c.make_log.ensures.acts c.sync_folder.new.self c.sync_folder.result c.sync_folder.ensures c.in-Ok.log stands
    c.in_ok-file.ensures.acts.ok c.in_ok-sync_folder.ensures.ok c.name_log.new.self c.name_log.result
    (c.name_log.ensures.acts stands.bytes (ap g.F.LogFile.history.held c.file.ensures ∙ stands.held)
    (λ x may. stands.durable x (subst (λ f. g.F.LogFile.history.may_leave f x) c.file.ensures may))) c.sync_folder-2.new.self c.sync_folder-2.result c.sync_folder-2.ensures)
    c.tag.ensures.acts

pub returns-clause-ok : goal.returns-clause-ok
returns-clause-ok g c s held image all =
    let stands = c.in-Ok.ensures.ok (c.in_ok-file.ensures.known s held) in
    serving_on g.D.LogFolder.history c.sync_folder-2.new.self c.tag.new.self c.in-Ok.log c.args.shop.now _
    (serves g.D.LogFolder.history c.args.folder.now c.make_log.new.self c.args.shop.now s held all c.make_log.result
    c.make_log.ensures.acts c.sync_folder.new.self c.sync_folder.result c.sync_folder.ensures c.in-Ok.log stands
    c.in_ok-file.ensures.acts.ok c.in_ok-sync_folder.ensures.ok c.name_log.new.self c.name_log.result
    (c.name_log.ensures.acts stands.bytes (ap g.F.LogFile.history.held c.file.ensures ∙ stands.held)
    (λ x may. stands.durable x (subst (λ f. g.F.LogFile.history.may_leave f x) c.file.ensures may))) c.sync_folder-2.new.self c.sync_folder-2.result c.sync_folder-2.ensures image
    (c.in_ok-name_log.ensures.acts stands.bytes (ap g.F.LogFile.history.held c.file.ensures ∙ stands.held)
    (λ x may. stands.durable x (subst (λ f. g.F.LogFile.history.may_leave f x) c.file.ensures may))).ok
    c.in_ok-sync_folder-2.ensures.ok (c.in_ok-name_log.ensures.lent ∙ ap g.F.LogFile.history.moment c.file.ensures))
    c.in_ok-tag.ensures.acts c.in_ok-tag.ensures.acts.ok c.tag.ensures.lent
