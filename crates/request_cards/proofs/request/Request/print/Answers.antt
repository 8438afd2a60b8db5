-- What was written is the text of the request, up to the end of the room.
use Rattle.std.proofs.Common.{arith, ◌∙◌}
use Rattle.request_cards.proofs.Texts.{five_digits, nine_digits, number_length}
use Rattle.request_cards.proofs.Written.{request_written, to_end}
use Rattle.request_cards.proofs.request.Request.print.Goals as goal

pub returns : goal.returns
returns c =
    let letter = c.kind_letter.ensures in
    c.gathered.ensures ∙ to_end c.write_field-start-3.new.room 36 c.write_field-start-3.result (omega arith) ∙
    request_written c.args.self.now _ c.from.result c.from-2.result c.kind_letter.result _ _ _ _ _ c.self.view_is
    c.write_amounts-start.ensures.written
    c.from.ensures c.write_field-start.ensures.written letter c.write_before-start.ensures.written
    c.write_field-start-2.ensures.written
    c.from-2.ensures c.write_field-start-3.ensures.written

pub slice_bounds-write_field-end : goal.slice_bounds-write_field-end
slice_bounds-write_field-end c = omega arith

pub write_field-start-requires : goal.write_field-start-requires
write_field-start-requires c =
    let five = five_digits c.from.result (omega arith) in
    (omega (arith, five), omega arith)

pub slice_bounds-write_before-end : goal.slice_bounds-write_before-end
slice_bounds-write_before-end c = omega arith

pub slice_bounds-write_before-end-2 : goal.slice_bounds-write_before-end-2
slice_bounds-write_before-end-2 c = omega arith

pub write_before-start-requires : goal.write_before-start-requires
write_before-start-requires c =
    let five = five_digits c.from.result (omega arith) in
    (omega (arith, five), omega arith)

pub slice_bounds-write_field-end-2 : goal.slice_bounds-write_field-end-2
slice_bounds-write_field-end-2 c = omega arith

pub write_field-start-requires-2 : goal.write_field-start-requires-2
write_field-start-requires-2 c =
    let five = five_digits c.from.result (omega arith) in
    let nine = nine_digits c.self.inside.number c.self.invariant.number_high in
    (omega (arith, five, nine), omega arith)

pub slice_bounds-write_field-end-3 : goal.slice_bounds-write_field-end-3
slice_bounds-write_field-end-3 c = omega arith

pub write_field-start-requires-3 : goal.write_field-start-requires-3
write_field-start-requires-3 c =
    let five = five_digits c.from.result (omega arith) in
    let nine = nine_digits c.self.inside.number c.self.invariant.number_high in
    let two = (number_length c.from-2.result (omega arith)).3 (omega arith) in
    (omega (arith, five, nine, two), omega arith)

pub slice_bounds-gathered-count : goal.slice_bounds-gathered-count
slice_bounds-gathered-count c = omega arith

pub slice_bounds-gathered-start : goal.slice_bounds-gathered-start
slice_bounds-gathered-start c = omega arith

pub slice_bounds-gathered-end : goal.slice_bounds-gathered-end
slice_bounds-gathered-end c = omega arith

pub gathered-requires : goal.gathered-requires
gathered-requires c = omega arith
