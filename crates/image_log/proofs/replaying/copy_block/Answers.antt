-- A sector more; one whose index the image hasn't changes nothing.
use Rattle.std.proofs.Common.{◌≡◌, ◌+◌, ◌-◌, ◌*◌, List, ℕ, suc, sym, ap, ◌∙◌, arith, drop, slice_index, slice_set, take}
use Rattle.std.proofs.lemmas.List.{set_past}
use Rattle.d64_image.specs.Images.{Image}
use Rattle.image_log.specs.Blocks.{pair_at, part, with_sectors}
use Rattle.image_log.proofs.Filled.{part_is, with_none, with_suc}
use Rattle.image_log.proofs.replaying.copy_block.Goals as goal
use Rattle.image_log.proofs.replaying.copy_block.Goals.{then-index-image, else-index-image}

pub loop-k-init : goal.loop-k-init
loop-k-init c = sym (with_none c.args.block.now c.args.image.now)

pub loop-k-preserved : goal.loop-k-preserved
loop-k-preserved c =
    let b = c.args.block.now in
    let k = c.loop-k.k in
    let here : Image = c.loop-k.image in
    let first = c.args.image.now in
    let index = slice_index b (16 + 2 * k) + 256 * slice_index b (17 + 2 * k) in
    let bytes = part b (64 + 256 * k) 256 in
    let width : 320 + 256 * k - (64 + 256 * k) ≡ 256 = omega arith in
    let is : c.copy_from_slice.new.self ≡ bytes = c.copy_from_slice.ensures.after
    ∙ ap (λ (n : ℕ). take n (drop (64 + 256 * k) b)) width ∙ sym (part_is b (64 + 256 * k) 256) in
    let so_far : here ≡ with_sectors b k first = c.loop-k.invariant in
    let at : pair_at b (16 + 2 * k) ≡ index = let e : 16 + 2 * k + 1 ≡ 17 + 2 * k = omega arith in ap (λ (i : ℕ). slice_index b (16 + 2 * k) + 256 * slice_index b i) e in
    let e : k + 1 ≡ suc k = omega arith in
    let more : slice_set here index bytes ≡ with_sectors b (k + 1) first =
    ap (λ (s : Image). slice_set s index bytes) so_far
    ∙ ap (λ (i : ℕ). slice_set (with_sectors b k first) i bytes) (sym at)
    ∙ sym (with_suc b k first) ∙ ap (λ (n : ℕ). with_sectors b n first) (sym e) in
    elim c.if-index-image.branch [
      | then-index-image w ↦ w.image-is ∙ ap (λ (s : List ℕ). slice_set here index s) is ∙ more
      | else-index-image w ↦ w.image-is ∙ sym (set_past here index bytes w.if-index-image.false) ∙ more
    ]

pub returns : goal.returns
returns c =
    c.loop-k.invariant ∙ ap (λ (n : ℕ). with_sectors c.args.block.now n c.args.image.now)
    (omega (arith, c.loop-k.auto.k-end, c.loop-k-test.false, c.min-count.ensures))
