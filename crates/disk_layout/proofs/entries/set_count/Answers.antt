-- The two bytes, low byte first.
use Rattle.std.proofs.Common.{arith, length, ◌*◌, ◌+◌, ◌-◌, ◌≡◌, ◌≤◌}
use Rattle.disk_layout.proofs.entries.set_count.Goals as goal
use Rattle.disk_layout.proofs.lemmas.counts.CountWrites.{count-kept, count-rest, count-written, two-there}

pub write_u16-requires : goal.write_u16-requires
write_u16-requires c =
    let at = 32 * c.args.number + 30 in
    let two : at + 2 - at ≡ 2 = omega arith in
    omega (arith, two-there c.args.bytes.now at _ two (omega (arith, c.told-bytes, c.requires)))

pub returns : goal.returns
returns c =
    let at = 32 * c.args.number + 30 in
    let two : at + 2 - at ≡ 2 = omega arith in
    let fits : 32 * c.args.number + 32 ≤ length c.args.bytes.now = omega (arith, c.told-bytes, c.requires) in
    record {
      count = λ p. count-written c.args.bytes.now c.write_u16.new.buf _ p c.args.number _ c.args.count
          (omega (arith, c.ranges.count)) fits c.write_u16.ensures;
      rest = count-rest c.args.bytes.now c.write_u16.new.buf c.args.number _ _ _ two c.told-bytes c.requires
          c.write_u16.ensures;
      kept = λ p same. count-kept c.args.bytes.now c.write_u16.new.buf p c.args.number _ c.args.count
          c.fits-bytes two fits c.write_u16.ensures same;
    }
