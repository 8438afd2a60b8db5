-- Each turn writes one place more.
use Rattle.std.proofs.Common.{◌≡◌, ◌∙◌, ◌+◌, ◌-◌, ◌*◌, ℕ, ap, sym, arith}
use Rattle.disk_layout.proofs.lemmas.lists.Listed.{written-step}
use Rattle.disk_layout.specs.Side.{place_bytes}
use Rattle.disk_layout.proofs.side.set_places.Goals as goal
use borrow.Rule.Slice.PartMut.{put_mid}

pub loop-i-preserved : goal.loop-i-preserved
loop-i-preserved c =
    let start : ℕ = c.args.at + 2 * c.loop-i.i in
    let two : (start + 2) - start ≡ 2 = omega arith in
    let copied = rw (c.track.ensures, c.sector.ensures) at c.copy_from_slice.ensures in
    let bytes : c.copy_from_slice.new.self ≡ place_bytes c.index-places-i.result = copied.after in
    ap (λ k. put_mid start k c.loop-i.bytes c.copy_from_slice.new.self) two
    ∙ ap (λ t. put_mid start 2 c.loop-i.bytes t) bytes
    ∙ written-step c.args.bytes.now c.loop-i.bytes c.args.at c.args.places.now c.loop-i.i c.index-places-i.result
    (omega (arith, c.requires.room, c.told-bytes)) c.loop-i-test.true (sym c.index-places-i.is) c.loop-i.invariant
