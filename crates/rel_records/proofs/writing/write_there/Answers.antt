-- The block is looked up, and then one is put, or two.
use Rattle.std.proofs.Common.{arith, refl, slice_index, subst, sym, ℕ, ◌+◌, ◌-◌, ◌*◌, ◌/◌, ◌<◌, ◌∷◌, []}
use Rattle.std.specs.Prelude.{IfSome, IsSome}
use Rattle.d64_image.specs.Images.{Image, sector}
use Rattle.disk_layout.specs.Chain.{named_at}
use Rattle.rel_records.proofs.lemmas.reading.Readings.{inside-of, next-some, there-fits}
use Rattle.rel_records.proofs.lemmas.writing.OneBlock.{one-more}
use Rattle.rel_records.proofs.lemmas.writing.Puts.{if-some-then, passes, reads-puts}
use Rattle.rel_records.proofs.lemmas.writing.There.{wrote-none, wrote-one, wrote-two}
use Rattle.rel_records.specs.Calls.{WritesThere}
use Rattle.rel_records.specs.File.{length_of}
use Rattle.rel_records.specs.Puts.{PutsEach, in_block, in_two}
use Rattle.rel_records.specs.Written.{touched}
use Rattle.rel_records.proofs.writing.write_there.Goals as goal

pub block_at-requires-clause-there : goal.block_at-requires-clause-there
block_at-requires-clause-there g c =
    let S = g.D.Sectors.history in
    let v = c.args.file.now in
    let fits = there-fits (S.image c.args.disk.now) v c.args.number c.requires.of (S.whole c.args.disk.now)
    c.requires.low c.requires.high in
    omega (
      arith,
      fits,
      one-more c.args.number (length_of v) c.requires.low,
      c.requires.position_low,
      c.requires.position_high,
    )

pub returns-in_err-place : goal.returns-in_err-place
returns-in_err-place g c =
    let S = g.D.Sectors.history in
    let v = c.args.file.now in
    passes (WritesThere S c.args.disk.now c.block_at.new.disk v c.args.number c.args.position c.args.text.now
    (touched (length_of v) c.args.number c.args.position) 3) c.from_residual.result _ c.from_residual.ensures.1
    (wrote-none S c.args.disk.now c.block_at.new.disk v c.args.number c.args.position c.args.text.now 1 3 _ _
    (omega arith) c.in_err-place.ensures)

pub overflow_mul-start : goal.overflow_mul-start
overflow_mul-start g c =
    let fits = there-fits (g.D.Sectors.history.image c.args.disk.now) c.args.file.now c.args.number c.requires.of
    (g.D.Sectors.history.whole c.args.disk.now) c.requires.low c.requires.high in
    omega (arith, fits, c.args.file.now.few, one-more c.args.number (length_of c.args.file.now) c.requires.low)

pub overflow_mul-end : goal.overflow_mul-end
overflow_mul-end g c =
    let fits = there-fits (g.D.Sectors.history.image c.args.disk.now) c.args.file.now c.args.number c.requires.of
    (g.D.Sectors.history.whole c.args.disk.now) c.requires.low c.requires.high in
    omega (arith, fits, c.args.file.now.few)

pub write_across-requires-clause-next : goal.write_across-requires-clause-next
write_across-requires-clause-next g c =
    let S = g.D.Sectors.history in
    let a = S.image c.args.disk.now in
    let v = c.args.file.now in
    let r = c.args.number in
    subst (λ i. IsSome (named_at (sector i c.in_ok-place.place) 0)) (sym c.in_ok-place.ensures.reads.image)
    (next-some a v (((r - 1) * length_of v + (c.args.position - 1)) / 254) c.in_ok-place.place _ _ c.requires.of
    c.in_ok-place.ensures.ok
    (omega (
      arith,
      c.if-end-begins.false,
      one-more r (length_of v) c.requires.low,
      inside-of a v r c.requires.of (S.whole c.args.disk.now) c.requires.low c.requires.high,
    )) refl refl)

pub returns-then-end-begins : goal.returns-then-end-begins
returns-then-end-begins g c =
    let S = g.D.Sectors.history in
    let v = c.args.file.now in
    let r = c.args.number in
    let start : ℕ = (r - 1) * length_of v + (c.args.position - 1) in
    let small : (i : ℕ) → slice_index c.args.text.now i < 256 = λ i. omega (arith, c.type_inv.text i) in
    let reads = c.in_ok-place.ensures.reads in
    let P : Image → Type 0 = λ i. PutsEach S c.block_at.new.disk c.write_block.new.disk
    (in_block i c.in_ok-place.place (start - 254 * (start / 254)) (r * length_of v - 254 * (start / 254)) c.args.text.now ∷ []) 1 c.write_block.result in
    wrote-one S c.args.disk.now c.write_block.new.disk v r c.args.position (start / 254) c.in_ok-place.place
    c.args.text.now small c.requires c.in_ok-place.ensures.ok 2 3 (omega arith) c.write_block.result (omega arith)
    (omega (arith, c.if-end-begins.true))
    (reads-puts S c.args.disk.now c.block_at.new.disk c.write_block.new.disk _ 1 1 c.write_block.result reads
    c.in_ok-place.ensures.failures (subst P reads.image c.write_block.ensures.put))

pub returns : goal.returns
returns g c =
    let S = g.D.Sectors.history in
    let a = c.args.disk.now in
    let b = c.block_at.new.disk in
    let d = c.write_across.new.disk in
    let v = c.args.file.now in
    let r = c.args.number in
    let start : ℕ = (r - 1) * length_of v + (c.args.position - 1) in
    let end : ℕ = r * length_of v - 254 * (start / 254) - 254 in
    let small : (i : ℕ) → slice_index c.args.text.now i < 256 = λ i. omega (arith, c.type_inv.text i) in
    let reads = c.in_ok-place.ensures.reads in
    let place = c.in_ok-place.place in
    let P : Image → Type 0 = λ i. IfSome (named_at (sector i place) 0) (λ q. PutsEach S b d
    (in_two i place q (start - 254 * (start / 254)) end c.args.text.now) 2 c.write_across.result) in
    wrote-two S a d v r c.args.position (start / 254) place c.args.text.now small c.requires c.in_ok-place.ensures.ok 3 3
    (omega arith) c.write_across.result (omega arith) (omega arith) (omega (arith, c.if-end-begins.false))
    (if-some-then (named_at (sector (S.image a) place) 0) _ _ (λ q. reads-puts S a b d
    (in_two (S.image a) place q (start - 254 * (start / 254)) end c.args.text.now) 1 2 c.write_across.result reads
    c.in_ok-place.ensures.failures) (subst P reads.image c.write_across.ensures))
