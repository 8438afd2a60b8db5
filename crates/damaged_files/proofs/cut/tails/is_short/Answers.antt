-- A relative file: its side sectors, and then the sector that ends its chain.
use Rattle.std.proofs.Common.{IsTrue}
use Rattle.d64_image.specs.Memory.{disk_image}
use Rattle.damaged_files.proofs.lemmas.cut.Shorts.{rel-is, short-blank, short-listed, short-so}
use Rattle.damaged_files.proofs.cut.tails.is_short.Goals as goal

pub returns-then-is_listed_past : goal.returns-then-is_listed_past
returns-then-is_listed_past c f is same count =
    let img = disk_image c.args.disk.now in
    let rel = rel-is f c.args.slot.now c.new.result.bytes.now same c.new.ensures c.if-is_relative.ensures in
    let told = c.is_listed_past.ensures f (is.rel rel) same count in (
      λ h. short-listed img (IsTrue c.args.facts.strays) (IsTrue c.args.facts.shop) (IsTrue c.never_grows.result) f
          c.args.slot.now c.args.tail.place same rel c.never_grows.ensures (told.0 h),
      λ _. c.if-is_listed_past.true,
    )

pub returns-else-is_listed_past : goal.returns-else-is_listed_past
returns-else-is_listed_past c f is same count =
    let img = disk_image c.args.disk.now in
    let rel = rel-is f c.args.slot.now c.new.result.bytes.now same c.new.ensures c.if-is_relative.ensures in
    let told = c.is_listed_past.ensures f (is.rel rel) same count in (
      λ h. short-blank img (IsTrue c.args.facts.strays) (IsTrue c.args.facts.shop) (IsTrue c.never_grows.result) f
          c.args.slot.now c.args.tail.place same rel c.never_grows.ensures (c.is_blank.ensures.0 h),
      λ h. c.is_blank.ensures.1 (short-so img (IsTrue c.args.facts.strays) (IsTrue c.args.facts.shop)
          (IsTrue c.never_grows.result) f c.args.slot.now c.args.tail.place same rel c.never_grows.ensures
          c.is_listed_past.result c.if-is_listed_past.false told h),
    )
