-- The parts of a CVT, one after the other.
use Rattle.std.proofs.Common.{List, ℕ, ap, arith, drop, length, ◌++◌, ◌∙◌}
use Rattle.std.specs.Prelude.{slice_get}
use Rattle.std.proofs.lemmas.List.{length-drop, length-replicate, length-take}
use Rattle.file_rescues.proofs.lemmas.rescue.Cvt.{joined-six, leading-some, signature-long}
use Rattle.file_rescues.proofs.lemmas.rescue.LongCvt.{six-long}
use Rattle.file_rescues.specs.rescue.Geos.{leading}
use Rattle.geos_files.specs.Long.{are_records_named}
use Rattle.file_rescues.specs.rescue.LongCvt.{bodies, info_in, long_cvt}
use Rattle.file_rescues.proofs.rescue.long_cvt.long_cvt.Goals as goal

pub returns-clause-ok : goal.returns-clause-ok
unfolding long_cvt
returns-clause-ok c =
    let image = c.args.image.now in
    let behind = c.after-data.ensures.value
    ∙ ap (λ (k : ℕ). drop k c.as_slice-sectors.result.now) c.leading.ensures
    ∙ ap (λ (ns : List ℕ). drop (leading (are_records_named c.args.file.now.slot)) ns) c.as_slice-sectors.ensures.value in
    let info = c.info_in.ensures.value ∙ ap (λ (ns : List ℕ). info_in image (slice_get ns 0)) c.as_slice-sectors.ensures.value in
    joined-six _ _ _ _ _ _ _ _ _ _ _ _ _ c.new-out.ensures.items c.in_ok-append.ensures.ok
    (c.in_ok-append-2.ensures.ok ∙ ap (λ (l : List ℕ). c.append.new.out.items ++ l) c.cvt_signature.ensures)
    c.in_ok-append-3.ensures.ok
    (c.in_ok-append-4.ensures.ok ∙ ap (λ (l : List ℕ). c.append-3.new.out.items ++ l) info)
    (c.in_ok-append-5.ensures.ok ∙ ap (λ (l : List ℕ). c.append-4.new.out.items ++ l) c.as_slice.ensures.value)
    (c.in_ok-append_data.ensures.ok ∙ ap (λ (l : List ℕ). c.append-5.new.out.items ++ bodies image l) behind)

pub returns-clause-short : goal.returns-clause-short
returns-clause-short c =
    let all = six-long _ _ _ _ _ _ _ _ _ _ _ (ap length c.new-out.ensures.items) c.in_ok-append.ensures.ok
    c.in_ok-append-2.ensures.ok c.in_ok-append-3.ensures.ok c.in_ok-append-4.ensures.ok c.in_ok-append-5.ensures.ok in
    omega (
      arith,
      all,
      length-take 30 (drop 2 c.args.file.now.slot.bytes),
      ap length c.cvt_signature.ensures,
      signature-long (are_records_named c.args.file.now.slot),
      length-replicate {A = ℕ} 196 0,
      c.info_in.ensures.short,
      ap length c.as_slice.ensures.value,
      c.requires.pairs,
      c.in_ok-append_data.ensures.short,
      ap length c.after-data.ensures.value,
      length-drop c.leading.result c.as_slice-sectors.result.now,
      ap length c.as_slice-sectors.ensures.value,
      c.leading.ensures,
      leading-some (are_records_named c.args.file.now.slot),
      c.requires.few,
    )
