-- Two blocks are put, the second one where the first links to.
use Rattle.std.proofs.Common.{List, ◌-◌, ap, arith, length-drop, refl, subst, sym, ℕ, ◌∙◌, ◌∷◌, ◌≡◌, []}
use Rattle.std.proofs.lemmas.List.{take_all}
use Rattle.std.specs.Prelude.{drop, length, take}
use Rattle.d64_image.specs.Images.{Image, put, sector}
use Rattle.d64_image.specs.declared.place.Place.{Place}
use Rattle.disk_layout.proofs.lemmas.records.Joined.{sector-long}
use Rattle.disk_layout.specs.Chain.{named_at}
use Rattle.rel_records.proofs.lemmas.writing.OneBlock.{patched-next}
use Rattle.rel_records.proofs.lemmas.writing.Puts.{passes, puts-stop, puts-then, if-some, some-then}
use Rattle.rel_records.specs.Puts.{PutsEach, in_block, in_two}
use Rattle.rel_records.specs.Written.{patched}
use Rattle.rel_records.proofs.writing.write_across.Goals as goal

pub returns : goal.returns
returns g c =
    let S = g.D.Sectors.history in
    let a = S.image c.args.disk.now in
    let next = c.known-next.result in
    let names = patched-next c.args.start 254 c.args.text.now (sector a c.args.place) _ (sector a c.args.place)
    (omega (arith, c.requires.start)) (omega arith) (sector-long a c.args.place (S.whole c.args.disk.now)) c.in_ok-write_block.ensures.block
    refl in
    let first = c.in_ok-write_block.ensures.put in
    let P : Image → List ℕ → Type 0 = λ i rest. PutsEach S c.write_block.new.disk c.write_block-2.new.disk
    (in_block i next 0 c.args.end rest ∷ []) 1 c.write_block-2.result in
    let half : Image = put a c.args.place (patched c.args.start 254 c.args.text.now (sector a c.args.place)) in
    let m = c.min.result in
    let all : take (length c.args.text.now - m) (drop m c.args.text.now) ≡ drop m c.args.text.now =
    take_all (length c.args.text.now - m) (drop m c.args.text.now) (omega (arith, length-drop m c.args.text.now)) in
    let rest = all ∙ ap (λ k. drop k c.args.text.now) c.min.ensures in
    some-then _ next _ (sym names ∙ c.known-next.ensures)
    (puts-then S c.args.disk.now c.write_block.new.disk c.write_block-2.new.disk (in_block a c.args.place c.args.start 254
    c.args.text.now ∷ []) _ 1 1 c.write_block-2.result (omega arith) first
    (subst (P half) rest (subst (λ i. P i (take (length c.args.text.now - m) (drop m c.args.text.now))) first.ok
    c.write_block-2.ensures.put)))

pub returns-in_err-write_block : goal.returns-in_err-write_block
returns-in_err-write_block g c =
    let S = g.D.Sectors.history in
    let a = S.image c.args.disk.now in
    let Q : Place → _ → Type 0 = λ next. PutsEach S c.args.disk.now c.write_block.new.disk (in_two a c.args.place next c.args.start
    c.args.end c.args.text.now) 2 in
    if-some (named_at (sector a c.args.place) 0) _ (λ next. passes (Q next) c.from_residual.result _
    c.from_residual.ensures.1 (puts-stop S c.args.disk.now c.write_block.new.disk (in_block a c.args.place c.args.start 254
    c.args.text.now ∷ []) _ 1 2 _ (omega arith) (omega arith) c.in_err-write_block.ensures.put))
