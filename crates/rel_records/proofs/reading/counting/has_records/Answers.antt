-- So many records fit into the bytes that are used.
use Rattle.std.proofs.Common.{arith, refl, ◌*◌, ◌/◌, ◌↔◌, ◌≤◌, ◌≡◌}
use Rattle.std.proofs.Math.Nat.{le-div_iff_mul-le}
use Rattle.std.proofs.lemmas.Bool.{le-leb, leb-true}
use Rattle.disk_layout.specs.Records.{record_count}
use Rattle.rel_records.specs.File.{records_in}
use Rattle.rel_records.proofs.reading.counting.has_records.Goals as goal

pub returns : goal.returns
unfolding record_count
returns c =
    let v = c.args.file.now in
    let used = c.used_bytes.result in
    let fits : (c.args.number ≤ used / v.size) ↔ (c.args.number * v.size ≤ used) =
    le-div_iff_mul-le (omega (arith, v.size_low)) in
    let count : used / v.size ≡ records_in v = rw c.used_bytes.ensures.value refl in
    ((λ h. rw (← count) (fits.1 (leb-true _ _ h))), (λ le. le-leb _ _ (fits.0 (rw count le))))
