-- The file that is found is the first of its name.
use Rattle.std.proofs.Common.{sym, ◌∙◌}
use Rattle.host_session.specs.shop.Channels.{length_of, name_of}
use Rattle.host_session.proofs.lemmas.judging.Search.{named-found, named-lacks}
use Rattle.host_session.proofs.shop.files.find_shop_file.Goals as goal

pub returns-then-length-record_length-clause-found : goal.returns-then-length-record_length-clause-found
returns-then-length-record_length-clause-found g c = λ l h.
    named-found (g.D.Sectors.history.image c.args.disk.now) l h (name_of c.args.file) (length_of c.args.file)
    c.in-Ok.found (rw (← c.name.ensures.value) (c.in-Ok.ensures.ok l h))
    (sym c.length.ensures.value ∙ c.if-length-record_length.true ∙ c.record_length.ensures)

pub returns-else-length-record_length-clause-lacks : goal.returns-else-length-record_length-clause-lacks
returns-else-length-record_length-clause-lacks g c =
    let (l, h) = c.requires.sound in
    named-lacks (g.D.Sectors.history.image c.args.disk.now) l h (name_of c.args.file) (length_of c.args.file)
    c.in-Ok.found (rw (← c.name.ensures.value) (c.in-Ok.ensures.ok l h))
    (λ e. c.if-length-record_length.false (c.length.ensures.value ∙ e ∙ sym c.record_length.ensures))
