-- Line by line.
use Rattle.std.proofs.Common.{◌≡◌, ◌∙◌, refl, subst, sym}
use Rattle.std.specs.Prelude.{vec_items}
use Rattle.d64_image.specs.Images.{Image}
use Rattle.d64_image.specs.Memory.{disk_image}
use Rattle.disk_layout.specs.Layout.{File, Layout}
use Rattle.disk_layout.specs.Records.{records}
use Rattle.line_text.specs.scripts.Lines.{lines}
use Rattle.disk_changes.specs.lines.TypedLines.{IsMadeOf, Pushes}
use Rattle.rel_records.specs.File.{IsOf, OfItsFile}
use Rattle.disk_changes.proofs.lemmas.lines.Typed.{made-all, made-more}
use Rattle.disk_changes.proofs.lines.typed_lines.typed_lines.Goals as goal

pub push_line-requires : goal.push_line-requires
push_line-requires c = subst (λ (i : Image). IsOf i c.args.file.now) (sym c.loop-line.invariant.same) c.requires

pub loop-line-preserved : goal.loop-line-preserved
loop-line-preserved c = record {
  same = c.in_ok-push_line.ensures.same ∙ c.loop-line.invariant.same;
  made = λ l n f of. made-more c.args.set (records (disk_image c.args.disk.now) f) (lines c.args.text.now)
      (lines c.loop-line.rest.now) c.in-Some.line.now (lines c.in-Some.more.now) (vec_items c.loop-line.plain)
      (vec_items c.push_line.new.plain) (c.loop-line.invariant.made l n f of) c.in-Some.ensures.0
      (subst (λ (i : Image). OfItsFile i c.args.file.now (λ l n f. Pushes (vec_items c.loop-line.plain)
      (vec_items c.push_line.new.plain) (IsMadeOf c.args.set (records i f) c.in-Some.line.now)))
      c.loop-line.invariant.same c.in_ok-push_line.ensures.ok l n f of);
}

pub returns : goal.returns
returns c = λ l n f of. made-all c.args.set (records (disk_image c.args.disk.now) f) (lines c.args.text.now)
    (lines c.loop-line.rest.now) (vec_items c.loop-line.plain) (c.loop-line.invariant.made l n f of) c.in_default.ensures
