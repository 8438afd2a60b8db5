-- The record was read, and written where it is otherwise.
use Rattle.std.proofs.Common.{◌≡◌, ◌≢◌, List, ℕ, Bool, true, false, sym, subst, ap, ◌∙◌}
use Rattle.std.specs.Prelude.{bytes_eq}
use Rattle.std.proofs.lemmas.Bool.{false≢true}
use Rattle.std.proofs.lemmas.Slice.Eq.{bytes_eq-Decides}
use Rattle.d64_image.specs.Images.{Image}
use Rattle.rel_records.specs.File.{IsOf}
use Rattle.line_text.specs.bytes.Texts.{trimmed}
use Rattle.disk_changes.proofs.lemmas.lines.OneStored.{is-stored, not-read, not-stored, not-written}
use Rattle.disk_changes.specs.lines.Stores.{new_record}
use Rattle.disk_changes.proofs.lines.storing.store_record.Goals as goal

-- two views that are compared, of which each is trimmed
same-trimmed : (xs ys text bytes : List ℕ) (t : Bool) → xs ≡ trimmed text → ys ≡ trimmed bytes → t ≡ bytes_eq xs ys
    → t ≡ true → trimmed text ≡ trimmed bytes
same-trimmed xs ys text bytes t x y is equal = sym x ∙ (bytes_eq-Decides xs ys).0 (sym is ∙ equal) ∙ y

other-trimmed : (xs ys text bytes : List ℕ) (t : Bool) → xs ≡ trimmed text → ys ≡ trimmed bytes → t ≡ bytes_eq xs ys
    → t ≡ false → trimmed text ≢ trimmed bytes
other-trimmed xs ys text bytes t x y is differ = λ same. false≢true (sym differ ∙ is
    ∙ (bytes_eq-Decides xs ys).1 (x ∙ same ∙ sym y))

pub write_record-requires-clause-of : goal.write_record-requires-clause-of
write_record-requires-clause-of g c = subst (λ (i : Image). IsOf i c.args.file.now)
    (sym c.read_record.ensures.reads.image) c.requires.of

pub returns-then-is_err : goal.returns-then-is_err
returns-then-is_err g c = λ l n f of.
    let q = c.requires in
    not-read g.D.Sectors.history c.args.disk.now c.read_record.new.disk l n f c.args.file.now
    (new_record c.args.number c.args.bytes.now)
    of q.low q.high q.short c.read_record.new.text.items c.read_record.result c.read_record.ensures
    (sym c.is_err.ensures.value ∙ c.if-is_err.true)

pub returns-then-eq : goal.returns-then-eq
returns-then-eq g c = λ l n f of.
    let q = c.requires in
    let text : c.trim.result.now ≡ trimmed c.read_record.new.text.items = c.trim.ensures
    ∙ ap trimmed c.as_slice.ensures.value in
    not-stored g.D.Sectors.history c.args.disk.now c.read_record.new.disk l n f c.args.file.now
    (new_record c.args.number c.args.bytes.now)
    of q.low q.high q.short c.read_record.new.text.items c.read_record.result c.read_record.ensures
    (sym c.is_err.ensures.value ∙ c.if-is_err.false)
    (same-trimmed c.trim.result.now c.trim-2.result.now c.read_record.new.text.items c.args.bytes.now c.eq.result text
    c.trim-2.ensures c.eq.ensures c.if-eq.true)

pub returns-then-is_err-2 : goal.returns-then-is_err-2
returns-then-is_err-2 g c = λ l n f of.
    let q = c.requires in
    let text : c.trim.result.now ≡ trimmed c.read_record.new.text.items = c.trim.ensures
    ∙ ap trimmed c.as_slice.ensures.value in
    not-written g.D.Sectors.history c.args.disk.now c.read_record.new.disk l n f c.args.file.now
    (new_record c.args.number c.args.bytes.now)
    of q.low q.high q.short c.read_record.new.text.items c.read_record.result c.read_record.ensures
    (sym c.is_err.ensures.value ∙ c.if-is_err.false)
    c.write_record.new.disk c.write_record.new.file c.write_record.result c.write_record.ensures
    (other-trimmed c.trim.result.now c.trim-2.result.now c.read_record.new.text.items c.args.bytes.now c.eq.result text
    c.trim-2.ensures c.eq.ensures c.if-eq.false)
    (sym c.is_err-2.ensures.value ∙ c.if-is_err-2.true)

pub returns : goal.returns
returns g c = λ l n f of.
    let q = c.requires in
    let text : c.trim.result.now ≡ trimmed c.read_record.new.text.items = c.trim.ensures
    ∙ ap trimmed c.as_slice.ensures.value in
    is-stored g.D.Sectors.history c.args.disk.now c.read_record.new.disk l n f c.args.file.now
    (new_record c.args.number c.args.bytes.now)
    of q.low q.high q.short c.read_record.new.text.items c.read_record.result c.read_record.ensures
    (sym c.is_err.ensures.value ∙ c.if-is_err.false)
    c.write_record.new.disk c.write_record.new.file c.write_record.result c.write_record.ensures
    (other-trimmed c.trim.result.now c.trim-2.result.now c.read_record.new.text.items c.args.bytes.now c.eq.result text
    c.trim-2.ensures c.eq.ensures c.if-eq.false)
    (sym c.is_err-2.ensures.value ∙ c.if-is_err-2.false)
