-- A number has a digit more than its tenth.
use Rattle.std.proofs.Common.{arith}
use Rattle.line_text.proofs.lemmas.bytes.Rooms.{one-digit, two-digits, three-digits, four-digits, five-digits, six-digits}
use Rattle.line_text.proofs.lemmas.bytes.Rooms.{seven-digits, eight-digits, nine-digits, ten-digits}
use Rattle.line_text.proofs.bytes.putting.count_digits.Goals as goal

pub returns-in-0-to-9-clause-digits : goal.returns-in-0-to-9-clause-digits
returns-in-0-to-9-clause-digits c = one-digit c.args.number (omega (arith, c.in-0-to-9))

pub returns-in-10-to-99-clause-digits : goal.returns-in-10-to-99-clause-digits
returns-in-10-to-99-clause-digits c = two-digits c.args.number
    (omega (arith, c.in-10-to-99))
    (omega (arith, c.in-10-to-99))

pub returns-in-100-to-999-clause-digits : goal.returns-in-100-to-999-clause-digits
returns-in-100-to-999-clause-digits c = three-digits c.args.number
    (omega (arith, c.in-100-to-999))
    (omega (arith, c.in-100-to-999))

pub returns-in-1000-to-9999-clause-digits : goal.returns-in-1000-to-9999-clause-digits
returns-in-1000-to-9999-clause-digits c = four-digits c.args.number
    (omega (arith, c.in-1000-to-9999))
    (omega (arith, c.in-1000-to-9999))

pub returns-in-10000-to-99999-clause-digits : goal.returns-in-10000-to-99999-clause-digits
returns-in-10000-to-99999-clause-digits c = five-digits c.args.number
    (omega (arith, c.in-10000-to-99999))
    (omega (arith, c.in-10000-to-99999))

pub returns-in-100000-to-999999-clause-digits : goal.returns-in-100000-to-999999-clause-digits
returns-in-100000-to-999999-clause-digits c = six-digits c.args.number
    (omega (arith, c.in-100000-to-999999))
    (omega (arith, c.in-100000-to-999999))

pub returns-in-1000000-to-9999999-clause-digits : goal.returns-in-1000000-to-9999999-clause-digits
returns-in-1000000-to-9999999-clause-digits c = seven-digits c.args.number
    (omega (arith, c.in-1000000-to-9999999))
    (omega (arith, c.in-1000000-to-9999999))

pub returns-in-10000000-to-99999999-clause-digits : goal.returns-in-10000000-to-99999999-clause-digits
returns-in-10000000-to-99999999-clause-digits c = eight-digits c.args.number
    (omega (arith, c.in-10000000-to-99999999))
    (omega (arith, c.in-10000000-to-99999999))

pub returns-in-100000000-to-999999999-clause-digits : goal.returns-in-100000000-to-999999999-clause-digits
returns-in-100000000-to-999999999-clause-digits c = nine-digits c.args.number
    (omega (arith, c.in-100000000-to-999999999))
    (omega (arith, c.in-100000000-to-999999999))

pub returns-in_default-clause-digits : goal.returns-in_default-clause-digits
returns-in_default-clause-digits c = ten-digits c.args.number (omega (arith, c.in_default))
    (omega (arith, c.ranges.number.fits))
