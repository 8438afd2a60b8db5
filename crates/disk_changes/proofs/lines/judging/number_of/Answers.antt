-- The line is of one record alone, and the file has or can have that; or why not.
use Rattle.std.proofs.Common.{◌≡◌, ◌≤◌, ◌∙◌, ℕ, List, length, refl, subst, sym, arith}
use Rattle.std.proofs.lemmas.Bool.{false≢true}
use Rattle.line_text.proofs.lemmas.bytes.Stored.{one-line}
use Rattle.line_text.specs.bytes.Texts.{AreBytes}
use Rattle.rel_records.specs.File.{length_of, records_in}
use Rattle.disk_changes.specs.lines.Stores.{CanHave}
use Rattle.disk_changes.proofs.lines.judging.number_of.Goals as goal

pub returns-in_err-number-clause-none : goal.returns-in_err-number-clause-none
returns-in_err-number-clause-none c = λ _ x can is.
    c.in_err-number.ensures.none refl x.number x.bytes can.low can.high can.bytes
    (omega (arith, can.short, c.args.file.now.size_high)) is

pub returns-then-not-has_room-clause-none : goal.returns-then-not-has_room-clause-none
returns-then-not-has_room-clause-none c = λ _ x can is.
    let found = c.in_ok-number.ensures.found in
    let same = one-line c.args.line.now c.in_ok-number.number x.number c.read_line.new.bytes.items x.bytes found.0
    found.1 can.low can.high found.2 is in
    let view : c.as_slice.result.now ≡ c.read_line.new.bytes.items = c.as_slice.ensures.value in
    false≢true (c.if-not-has_room.ensures.room.1 (subst (λ (bs : List ℕ). length bs ≤ length_of c.args.file.now)
    (sym (view ∙ same.1)) can.short))

pub returns-then-not-can_have-clause-none : goal.returns-then-not-can_have-clause-none
returns-then-not-can_have-clause-none c = λ _ x can is.
    let found = c.in_ok-number.ensures.found in
    let same = one-line c.args.line.now c.in_ok-number.number x.number c.read_line.new.bytes.items x.bytes found.0
    found.1 can.low can.high found.2 is in
    false≢true (c.if-not-can_have.ensures.1 (subst (CanHave (length_of c.args.file.now) (records_in c.args.file.now))
    (sym same.0) can.reach))

pub returns-clause-found : goal.returns-clause-found
returns-clause-found c =
    let found = c.in_ok-number.ensures.found in
    let view : c.as_slice.result.now ≡ c.read_line.new.bytes.items = c.as_slice.ensures.value in (
      c.read_line.new.bytes.items,
      found.2,
      record {
        low = found.0;
        high = found.1;
        bytes = subst AreBytes view c.has_room.ensures.bytes;
        short = subst (λ (bs : List ℕ). length bs ≤ length_of c.args.file.now) view
            (c.if-not-has_room.ensures.room.0 refl);
        reach = c.if-not-can_have.ensures.0 refl;
      },
    )
