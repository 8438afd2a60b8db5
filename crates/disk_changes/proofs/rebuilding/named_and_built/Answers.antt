-- Three changes, one after the other.
use Rattle.std.proofs.Common.{◌∙◌, ◌≡◌, ◌++◌, List, ap, ap₂, subst, sym, ℕ}
use Rattle.d64_image.specs.Images.{Image}
use Rattle.d64_image.specs.Memory.{disk_image, sectors_in}
use Rattle.damaged_files.specs.sides.Named.{NamesSides}
use Rattle.disk_changes.specs.mended.Repairs.{changed_text}
use Rattle.disk_changes.specs.Rebuilds.{IsNamedAndBuilt}
use Rattle.disk_changes.proofs.rebuilding.named_and_built.Goals as goal

pub returns : goal.returns
returns c made e =
    let image = c.args.image.now in
    let bytes = c.bytes.result.now in
    let same : c.in_ok-made.made ≡ made = cc in
    let is = c.in_ok-made.ensures.ok in
    let before : disk_image c.in_ok-before.before ≡ sectors_in image = c.in_ok-before.ensures.ok.1 in
    let after : disk_image c.name_sides.new.after ≡ sectors_in bytes =
    sym (c.bytes.ensures.image ∙ c.in_ok-print_changed.ensures.quiet.image) in
    let N = c.name_sides.ensures.named c.if-not-name_sides.false in
    subst (IsNamedAndBuilt image c.args.free c.args.cut) same (record {
      size = c.in_ok-before.ensures.ok.0;
      bytes = bytes;
      named = subst (λ (i : Image). NamesSides (sectors_in image) i) after
          (subst (λ (i : Image). NamesSides i (disk_image c.name_sides.new.after)) before N);
      second = c.in_ok-then.then;
      built = c.in_ok-then.ensures.ok;
      disk = is.0;
      left = is.1;
      text = is.2 ∙ ap (λ (t : List ℕ). t ++ c.in_ok-then.then.text.items)
          (c.in_ok-print_changed.ensures.ok
          ∙ ap (λ (t : List ℕ). t ++ changed_text (disk_image c.name_sides.new.before) (disk_image c.name_sides.new.after)) c.new-text.ensures.items
          ∙ ap₂ changed_text (c.name_sides.ensures.same ∙ before) after);
    })
