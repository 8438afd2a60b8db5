-- Byte by byte.
use Rattle.std.proofs.Common.{ap, arith, get_or, subst, sym, take}
use Rattle.std.proofs.lemmas.List.{take_more}
use Rattle.line_server.specs.Batches.{texts_of}
use Rattle.line_text.specs.scripts.Lines.{without_cr}
use Rattle.served_lines.specs.Taken.{TakesLines}
use Rattle.served_lines.proofs.Lines.{few_more, takes_byte}
use Rattle.served_lines.proofs.reading.take_lines.Goals as goal

pub loop-i-preserved : goal.loop-i-preserved
loop-i-preserved c =
    let i = c.loop-i.i in
    let bytes = c.args.bytes.now in
    let b = get_or bytes i 0 in
    record {
      few = few_more c.loop-i.lines.items c.take_byte.new.lines.items b (without_cr c.loop-i.line.items) c.loop-i.invariant.few (λ e. c.if-len-eq-MOST_LINES.false (omega (arith, c.len.ensures, e)))
          (λ e. (c.take_byte.ensures.lf e).1) (λ e. (c.take_byte.ensures.other e).1);
      room = omega (arith, c.loop-i.invariant.room, c.take_byte.ensures.room);
      taken = λ raw lacks is.
          subst (λ bs. TakesLines raw bs c.take_byte.new.line.items (texts_of c.take_byte.new.lines.items)) (sym (take_more bytes i 0 c.loop-i-test.true))
          (takes_byte raw (take i bytes) c.loop-i.line.items c.take_byte.new.line.items (texts_of c.loop-i.lines.items) (texts_of c.take_byte.new.lines.items)
          (c.loop-i.invariant.taken raw lacks is) b c.take_byte.ensures.lf
          (λ e. ((c.take_byte.ensures.other e).0, ap texts_of (c.take_byte.ensures.other e).1)));
    }
