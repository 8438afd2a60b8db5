-- Two bytes and two others name the same place.
use Rattle.std.proofs.Common.{◌+◌, ◌*◌}
use Rattle.disk_layout.proofs.lemmas.chains.Names.{both-match}
use Rattle.disk_layout.proofs.side.SideView.next_listed.Goals as goal

pub returns : goal.returns
returns c =
    both-match c.args.self.now.bytes.now (4 + 2 * (c.args.number + 1)) c.next.result c.next.ensures
    c.if-self-listed.false c.if-self-listed-2.false
