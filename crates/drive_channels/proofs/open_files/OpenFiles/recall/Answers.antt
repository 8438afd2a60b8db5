-- The file is the one opened last, or the one before, or neither.
use Rattle.std.proofs.Common.{◌∙◌, Option, Some, ap, ap₂, refl, sym}
use Rattle.std.proofs.lemmas.Bool.{false≢true, true≢false}
use Rattle.drive_channels.proofs.Finds.{looked-before, looked-last, not-last}
use Rattle.drive_channels.specs.declared.open_file.NamedFile.{NamedFile}
use Rattle.drive_channels.specs.declared.open_file.OpenFile.{OpenFile}
use Rattle.drive_channels.proofs.open_files.OpenFiles.recall.Goals as goal

pub returns-then-is_last : goal.returns-then-is_last
returns-then-is_last c = record {
  found = λ img known _. looked-last img c.args.self.now c.args.name.now c.is_last.result
      c.is_last.ensures c.if-is_last.true c.requires.closed known;
  other = λ no. absurd (true≢false no);
  checked = refl;
}

pub returns-in-Some : goal.returns-in-Some
returns-in-Some c =
    let other = not-last c.args.self.now.last c.args.name.now c.is_last.result c.is_last.ensures c.if-is_last.false in
    record {
      found = λ img known yes. let (e, before, named, swapped, back) = c.recall.ensures.found yes in
          looked-before img c.args.self.now _ c.in-Some.opened e e c.in-Some.opened.found c.args.name.now known
          c.in-Some.is before c.requires.closed other named refl refl
          (ap (λ (o : OpenFile). Some o) swapped) back refl;
      other = λ no. let (same, kept, unnamed) = c.recall.ensures.other no in (
        ap₂ (λ (last : Option OpenFile) (before : Option NamedFile). record {
          last = last;
          before = before;
          checked = c.args.self.now.checked;
        }) (ap (λ (o : OpenFile). Some o) same ∙ sym c.in-Some.is) kept,
        other,
      );
      checked = refl;
    }

pub returns : goal.returns
returns c = record {
  found = λ img known yes. absurd (false≢true yes);
  other = λ _. (
    refl,
    not-last c.args.self.now.last c.args.name.now c.is_last.result c.is_last.ensures c.if-is_last.false,
  );
  checked = refl;
}
