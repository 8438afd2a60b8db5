-- The file was found, and its bytes were printed as far as they can be reached; or the output failed.
use Rattle.std.proofs.Common.{◌≡◌, ◌∙◌, Err, List, None, Option, Some, ap, inr, refl, subst}
use Rattle.std.proofs.KnownBytes.{Appends-kept}
use Rattle.std.proofs.lemmas.Result.{err_from_is_err_and}
use Rattle.std.specs.Io.KnownBytes.{Appends}
use Rattle.std.specs.Prelude.{◌↔◌, IsTrue}
use Rattle.d64_image.specs.Images.{Image}
use Rattle.d64_image.specs.Memory.{disk_image, sectors_in}
use Rattle.d64_image.specs.declared.place.Place.{Place}
use Rattle.damaged_files.specs.cut.Told.{IsToldOfImage}
use Rattle.disk_layout.specs.declared.faults.Fault.{Fault}
use Rattle.command_faults.proofs.Parts.{at-error, part-all}
use Rattle.file_rescues.proofs.Files.{bytes-part, ended-past, file-there, printed-end, put-stopped, stopped-past}
use Rattle.file_rescues.specs.Bytes.{file_bytes}
use Rattle.file_rescues.specs.Forms.{HasForm, file_as, past_end}
use Rattle.file_rescues.specs.Printed.{AreBytesPrinted}
use Rattle.file_rescues.specs.declared.finding.Kind.TheVariants.{Any}
use Rattle.file_rescues.proofs.byte_printing.disk_bytes.Goals as goal

pub returns-in_err-listed : goal.returns-in_err-listed
returns-in_err-listed g c =
    let loaded = c.in_ok-disk.ensures.ok in
    let p = err_from_is_err_and c.from_residual-in_err-listed.result c.from_residual-in_err-listed.ensures.1 in
    record {
      ok = rw (p.1 ∙ ap Err p.2) tt;
      err = rw (p.1 ∙ ap Err p.2) (inr (put-stopped c.args.image.now (Any c.args.candidates) c.args.name.now
          (AreBytesPrinted g.W.Write.contents c.args.form c.args.candidates c.args.image.now c.args.name.now c.args.out.now
          c.print_file.new.out) c.args.out.now c.print_file.new.out c.in-Ok.file.fault
          (file-there c.args.image.now (Any c.args.candidates) c.args.name.now (disk_image c.in_ok-disk.disk)
          c.in-Ok.file.number c.in-Ok.file.slot c.find_file.new.blocks.items c.in-Ok.file.last c.in-Ok.file.fault loaded.0
          loaded.1 c.in-Ok.ensures.ok.0) _ c.in_err-listed.ensures.err));
      part = rw (p.1 ∙ ap Err p.2) (bytes-part g.W.Write.contents c.args.form c.args.candidates c.args.image.now
          c.args.name.now c.args.out.now c.print_file.new.out c.in-Ok.file.fault (file-there c.args.image.now
          (Any c.args.candidates) c.args.name.now (disk_image c.in_ok-disk.disk) c.in-Ok.file.number c.in-Ok.file.slot
          c.find_file.new.blocks.items c.in-Ok.file.last c.in-Ok.file.fault loaded.0 loaded.1 c.in-Ok.ensures.ok.0) _
          loaded.1 _ c.as_slice.ensures.value c.in_err-listed.ensures.part);
    }

pub returns-in_err-flush : goal.returns-in_err-flush
returns-in_err-flush g c =
    let loaded = c.in_ok-disk.ensures.ok in
    let p = err_from_is_err_and c.from_residual-in_err-flush.result c.from_residual-in_err-flush.ensures.1 in
    record {
      ok = rw (p.1 ∙ ap Err p.2) tt;
      err = rw (p.1 ∙ ap Err (p.2 ∙ c.in_err-flush.ensures.err)) (inr (
        c.in-Ok.file.fault,
        file-there c.args.image.now (Any c.args.candidates) c.args.name.now (disk_image c.in_ok-disk.disk)
            c.in-Ok.file.number c.in-Ok.file.slot c.find_file.new.blocks.items c.in-Ok.file.last c.in-Ok.file.fault loaded.0 loaded.1
            c.in-Ok.ensures.ok.0,
      ));
      part = rw (p.1 ∙ ap Err p.2) (bytes-part g.W.Write.contents c.args.form c.args.candidates c.args.image.now
          c.args.name.now c.args.out.now c.flush.new.out c.in-Ok.file.fault (file-there c.args.image.now
          (Any c.args.candidates) c.args.name.now (disk_image c.in_ok-disk.disk) c.in-Ok.file.number c.in-Ok.file.slot
          c.find_file.new.blocks.items c.in-Ok.file.last c.in-Ok.file.fault loaded.0 loaded.1 c.in-Ok.ensures.ok.0) _
          loaded.1 _ c.as_slice.ensures.value
          (part-all _ _ _ (Appends-kept _ _ _ _ c.in_ok-listed.ensures.ok.0 c.flush.ensures.kept)));
    }

pub returns : goal.returns
returns g c =
    let loaded = c.in_ok-disk.ensures.ok in
    let before = g.W.Write.contents c.args.out.now in
    let after = g.W.Write.contents c.flush.new.out in
    let printed = Appends-kept _ _ _ _ c.in_ok-listed.ensures.ok.0 c.flush.ensures.kept in
    let file = file-there c.args.image.now (Any c.args.candidates) c.args.name.now (disk_image c.in_ok-disk.disk) c.in-Ok.file.number
    c.in-Ok.file.slot c.find_file.new.blocks.items c.in-Ok.file.last c.in-Ok.file.fault loaded.0 loaded.1
    c.in-Ok.ensures.ok.0 in
    let Printed = AreBytesPrinted g.W.Write.contents c.args.form c.args.candidates c.args.image.now c.args.name.now
    c.args.out.now c.flush.new.out in
    let here : Printed c.in-Ok.file.fault = record {
      file = file;
      printed = subst (λ (img : Image). Appends before after
          (file_as c.args.form (file_bytes img c.find_file.new.blocks.items c.in-Ok.file.last)))
          loaded.1
          (subst (λ (bs : List Place). Appends before after
          (file_as c.args.form (file_bytes (disk_image c.in_ok-disk.disk) bs c.in-Ok.file.last)))
          c.as_slice.ensures.value printed);
    } in
    let past_of : (f : Option Fault) → Printed f → Option Place = λ f t.
    past_end c.args.form (file_bytes (sectors_in c.args.image.now) t.file.blocks t.file.last) t.file.blocks in
    let past : c.in_ok-listed.listed.0 ≡ past_of c.in-Ok.file.fault here = subst (λ (img : Image). c.in_ok-listed.listed.0
    ≡ past_end c.args.form (file_bytes img c.find_file.new.blocks.items c.in-Ok.file.last) c.find_file.new.blocks.items)
    loaded.1 (subst (λ (bs : List Place). c.in_ok-listed.listed.0
    ≡ past_end c.args.form (file_bytes (disk_image c.in_ok-disk.disk) bs c.in-Ok.file.last) bs) c.as_slice.ensures.value
    c.in_ok-listed.ensures.ok.1) in
    let has_of : (f : Option Fault) → Printed f → Type 0 = λ f t.
    HasForm c.args.form (file_bytes (sectors_in c.args.image.now) t.file.blocks t.file.last) in
    let has : IsTrue c.in_ok-listed.listed.1 ↔ has_of c.in-Ok.file.fault here = subst
    (λ (img : Image). IsTrue c.in_ok-listed.listed.1
    ↔ HasForm c.args.form (file_bytes img c.find_file.new.blocks.items c.in-Ok.file.last)) loaded.1
    (subst (λ (bs : List Place). IsTrue c.in_ok-listed.listed.1
    ↔ HasForm c.args.form (file_bytes (disk_image c.in_ok-disk.disk) bs c.in-Ok.file.last)) c.as_slice.ensures.value
    c.in_ok-listed.ensures.ok.2) in
    let told = (printed-end c.args.image.now (Any c.args.candidates) c.args.name.now
    (λ f. (t : Printed f) × (c.in_ok-listed.listed.0 ≡ past_of f t) × (IsTrue c.in_ok-listed.listed.1 ↔ has_of f t))
    c.args.out.now c.flush.new.out (λ f t. t.0.file.number) _
    loaded.1 c.in-Ok.file.number c.in-Ok.file.fault c.ended.result c.ended.ensures (here, past, has) refl).0 in
    let Told = λ (t : Printed None). IsToldOfImage c.args.image.now (Some t.file.number) in
    record {
      ok = ended-past Told (past_of None) (has_of None) _ _ c.ended.result _ c.end_or.ensures told;
      err = stopped-past Told (past_of None) (has_of None) _ _ _ c.ended.result _ c.end_or.ensures told
          (printed-end c.args.image.now (Any c.args.candidates) c.args.name.now Printed c.args.out.now c.flush.new.out
          (λ f t. t.file.number) _ loaded.1 c.in-Ok.file.number c.in-Ok.file.fault c.ended.result c.ended.ensures here refl).1;
      part = at-error c.end_or.result (bytes-part g.W.Write.contents c.args.form c.args.candidates c.args.image.now
          c.args.name.now c.args.out.now c.flush.new.out c.in-Ok.file.fault file _
          loaded.1 _ c.as_slice.ensures.value (part-all _ _ _ printed));
    }
