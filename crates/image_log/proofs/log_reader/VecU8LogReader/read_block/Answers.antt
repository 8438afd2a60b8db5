-- The bytes of the block.
use Rattle.std.proofs.Common.{◌∙◌, ◌*◌, ◌+◌, ◌-◌, ◌≡◌, ℕ, List, ap, arith, drop, take}
use Rattle.std.proofs.lemmas.Option.{same_Some}
use Rattle.image_log.proofs.log_reader.VecU8LogReader.read_block.Goals as goal

pub returns-then-bytes-q-clause-block : goal.returns-then-bytes-q-clause-block
unfolding Rattle.image_log.specs.Blocks.block_at Rattle.image_log.specs.Blocks.part
returns-then-bytes-q-clause-block c f is long =
    let at = 4096 * c.args.q in
    let width : at + 4096 - at ≡ 4096 = omega arith in
    c.copy_from_slice.ensures.after ∙ ap (λ (n : ℕ). take n (drop at c.as_slice-bytes.result.now)) width
    ∙ ap (λ (x : List ℕ). take 4096 (drop at x)) (c.as_slice-bytes.ensures.value ∙ same_Some _ _ is)
