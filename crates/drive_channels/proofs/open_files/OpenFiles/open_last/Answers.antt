use Rattle.std.proofs.Common.{Some, ap, refl, sym, ◌∙◌}
use Rattle.drive_channels.proofs.Opens.{looked-name, opened-row, other-row}
use Rattle.drive_channels.proofs.Orders.{no-truth}
use Rattle.std.proofs.lemmas.Option.{none-some}
use Rattle.drive_channels.proofs.Written.{still-known}
use Rattle.drive_channels.proofs.open_files.OpenFiles.open_last.Goals as goal
use Rattle.drive_channels.specs.declared.open_file.Position.{Position}

pub returns-in-Some-clause-row : goal.returns-in-Some-clause-row
returns-in-Some-clause-row c = λ img name s looked. opened-row img c.args.self.now c.in-Some.opened name looked.known
    c.in-Some.is
    (looked-name img name c.args.self.now c.in-Some.opened looked c.in-Some.is)
    (record {
      last = Some (record { found = c.in-Some.opened.found; spot = Some c.first.result });
      before = c.args.self.now.before;
      checked = c.args.self.now.checked;
    })
    c.args.length c.args.channel s (c.has_length.ensures.0 c.if-not-has_length.false)
    (ap (λ (s : Position). Some (record { found = c.in-Some.opened.found; spot = Some s })) c.first.ensures) refl

pub returns-then-not-has_length : goal.returns-then-not-has_length
returns-then-not-has_length c = record {
  row = λ img name s looked. other-row img c.args.self.now c.in-Some.opened name looked.known c.in-Some.is
      (looked-name img name c.args.self.now c.in-Some.opened looked c.in-Some.is)
      (record { last = Some c.in-Some.opened; before = c.args.self.now.before; checked = c.args.self.now.checked })
      c.args.length c.args.channel s
      (λ h. no-truth c.has_length.result c.if-not-has_length.true (c.has_length.ensures.1 h)) (sym c.in-Some.is) refl;
  known = λ img known. still-known img c.args.self.now (Some c.in-Some.opened) c.in-Some.is known;
}

pub returns : goal.returns
returns c = record {
  row = λ img name s looked. absurd (none-some _ (sym c.in_default.is ∙ (looked.found refl).1));
  known = λ img known. known;
}
