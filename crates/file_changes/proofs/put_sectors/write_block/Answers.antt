-- One sector of the chain is written.
use Rattle.std.proofs.Common.{arith, sym, ◌≡◌, ◌∙◌, ◌+◌, ◌-◌, ◌*◌, ℕ, List, Option, ap, drop, inl, inr, length, refl, Some, take}
use Rattle.std.proofs.lemmas.List.{length-drop, take_all}
use Rattle.std.proofs.lemmas.Result.{on_ok_weaker}
use Rattle.std.specs.Prelude.{slice_get}
use Rattle.d64_image.proofs.Moments.{write_change}
use Rattle.d64_image.specs.Images.{Sector, put}
use Rattle.d64_image.specs.declared.place.Place.{Place}
use Rattle.disk_layout.proofs.lemmas.lists.Lists.{read-there}
use Rattle.rel_records.proofs.lemmas.steps.Sided.{counted_once}
use Rattle.file_changes.specs.Puts.{chain_sector}
use Rattle.file_changes.proofs.put_sectors.write_block.Goals as goal

same-place : (p q : Place) → Some p ≡ Some q → p ≡ q
same-place p q e = cc

pub returns : goal.returns
returns g c =
    let S = g.D.Sectors.history in
    let a = S.image c.args.disk.now in
    let p = c.index-places-block.result in
    let at = read-there c.args.places.now c.args.block p c.requires.block c.index-places-block.is in
    let bytes : Sector = chain_sector (slice_get c.args.places.now (c.args.block + 1))
    (take 254 (drop (254 * c.args.block) c.args.content.now)) in
    let k : ℕ = 254 * c.args.block in
    let rest : take (length c.args.content.now - k) (drop k c.args.content.now) ≡ drop k c.args.content.now =
    take_all (length c.args.content.now - k) (drop k c.args.content.now) (omega (arith, length-drop k c.args.content.now)) in
    let is : c.chain_bytes-bytes.result ≡ bytes = c.chain_bytes-bytes.ensures
    ∙ ap (λ (xs : List ℕ). chain_sector c.next_of.result (take 254 xs)) rest
    ∙ ap (λ (o : Option Place). chain_sector o (take 254 (drop (254 * c.args.block) c.args.content.now))) c.next_of.ensures in
    record {
      ok = λ q there.
          on_ok_weaker c.write.result
          (λ e. e ∙ ap (λ (s : Sector). put a p s) is ∙ ap (λ x. put a x bytes) (same-place p q (sym at ∙ there)))
          c.write.ensures.ok;
      moments = λ q there.
          write_change S c.args.disk.now c.write.new.self a (put a p c.chain_bytes-bytes.result) _ c.write.ensures.held
          (counted_once S _ _ c.write.result c.write.ensures.counted c.write.ensures.uncounted)
          (inl refl)
          (inr (ap (λ (s : Sector). put a p s) is ∙ ap (λ x. put a x bytes) (same-place p q (sym at ∙ there))));
      reads = omega (arith, c.write.ensures.reads);
      failures = c.write.ensures.failures;
    }
