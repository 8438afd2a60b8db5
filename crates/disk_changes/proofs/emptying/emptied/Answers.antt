-- The entry is written, what came of it judged, and then the block given back.
use Rattle.std.proofs.Common.{ℕ, List, ap, subst, ◌≡◌, ◌∙◌}
use Rattle.d64_image.specs.Images.{Image, sector}
use Rattle.d64_image.specs.Memory.{disk_image, sectors_in}
use Rattle.disk_changes.specs.Empties.{IsGivenBack, IsWithoutBlock}
use Rattle.disk_changes.specs.Rewrites.{now_at}
use Rattle.disk_layout.specs.Directory.{slot_in}
use Rattle.disk_layout.specs.declared.slot.Slot.{Slot}
use Rattle.disk_changes.proofs.emptying.emptied.Goals as goal

pub returns-clause-ok : goal.returns-clause-ok
returns-clause-ok c l layout =
    let s = c.in_ok-slot.slot in
    let bytes = c.bytes.result.now in
    let same = c.in_ok-judged.ensures.ok.1 in
    let now : c.in_sector-now.result ≡ now_at (sectors_in bytes) s = c.in_sector-now.ensures
    ∙ ap (λ (b : List ℕ). slot_in s.sector b s.number) (c.sector.ensures ∙ ap (λ (i : Image). sector i s.sector) same) in
    record {
      slot = s;
      named = c.in_ok-slot.ensures.ok l layout;
      block = c.in_ok-block.block;
      last = c.in_ok-block.ensures.ok.0;
      one = c.in_ok-block.ensures.ok.1;
      entry = c.without_block.result;
      bytes = bytes;
      is = c.bytes.ensures.image ∙ c.put_entry.ensures;
      sound = c.in_ok-judged.ensures.ok.0;
      empty = subst (λ (t : Slot). IsWithoutBlock s t) now (c.is_without_block.ensures c.if-not-is_without_block.false);
      given = subst (λ (i : Image). IsGivenBack i c.in_ok-block.block (disk_image c.give_back.new.disk)) same
          c.in_ok-give_back.ensures.ok;
    }
