-- A closed entry is drawn as far as its links go.
use Rattle.std.proofs.Common.{Err, refl, subst, sym, ap, ◌∙◌, List, ℕ, arith, length, slice_index}
use Rattle.std.proofs.lemmas.Result.{err_from_is_err_and}
use Rattle.d64_image.specs.Memory.{disk_image}
use Rattle.d64_image.specs.declared.place.Place.{Place}
use Rattle.disk_pictures.proofs.Drawn.{goes-from, sides-at}
use Rattle.disk_pictures.specs.Drawings.{GoesFrom}
use Rattle.disk_pictures.proofs.files.draw_file.Goals as goal

pub returns-in_err-blocks : goal.returns-in_err-blocks
returns-in_err-blocks c =
    let p = err_from_is_err_and c.from_residual.result c.from_residual.ensures.1 in
    let told = p.1 ∙ ap Err (p.2 ∙ c.in_err-blocks.ensures.err) in
    record {
      slot = rw told tt;
      ok = rw told tt;
      err = rw told refl;
    }

pub returns-in_err-sides : goal.returns-in_err-sides
returns-in_err-sides c =
    let p = err_from_is_err_and c.from_residual-in_err-sides.result c.from_residual-in_err-sides.ensures.1 in
    let told = p.1 ∙ ap Err (p.2 ∙ c.in_err-sides.ensures.err) in
    record {
      slot = rw told tt;
      ok = rw told tt;
      err = rw told refl;
    }

pub returns-clause-ok : goal.returns-clause-ok
returns-clause-ok c =
    let bytes = c.args.slot.now.bytes in
    let last = c.walk-last.result in
    let img = disk_image c.args.disk.now in
    record {
      unclosed = λ few. let here = c.type_byte.ensures ∙ ap (λ (bs : List ℕ). slice_index bs 2) c.new-entry.ensures in
          absurd (omega (arith, few, here, c.if-type_byte-lt128.false));
      blocks = λ closed. subst (λ (ps : List Place). GoesFrom img bytes 3 ps last) (sym (c.in_ok-blocks.ensures.ok
          ∙ c.as_slice.ensures.value))
          (goes-from img bytes _ 3 c.first_block.result _ last c.new-entry.ensures c.first_block.ensures
          c.walk-last.ensures.ok);
      plain = c.in_ok-sides.ensures.plain;
      relative = λ rel. sides-at img bytes _ _ _ (ap length c.as_slice-2.ensures.value) (c.in_ok-sides.ensures.relative rel);
    }
