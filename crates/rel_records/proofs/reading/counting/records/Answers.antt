-- The records of the file that it shows.
use Rattle.std.proofs.Common.{ap, sym, ℕ, ◌/◌, ◌∙◌}
use Rattle.disk_layout.specs.Records.{record_count}
use Rattle.rel_records.proofs.lemmas.reading.Readings.{count-is}
use Rattle.rel_records.proofs.reading.counting.records.Goals as goal

pub returns-clause-exact : goal.returns-clause-exact
unfolding record_count
returns-clause-exact c = λ img l n f of.
    let v = c.args.file.now in
    ap (λ (used : ℕ). used / v.size) c.used_bytes.ensures.value ∙ sym (count-is img l n f v of)
