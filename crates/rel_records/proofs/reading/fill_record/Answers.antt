-- The record's two parts, which have as many bytes as it has.
use Rattle.std.proofs.Common.{◌≡◌, ℕ, ◌+◌, ◌<◌, ◌≤◌, List, ◌++◌, length, drop, take, ap, sym, ◌∙◌, arith}
use Rattle.std.proofs.Common.{length-append, length-drop}
use Rattle.std.proofs.lemmas.List.{length-take}
use Rattle.rel_records.proofs.reading.fill_record.Goals as goal

parts-long : (here there first second : List ℕ) (start size : ℕ) → length first ≡ 256 → length second ≡ 256
    → start < 254 → size ≤ 254 → here ++ there ≡ take size (drop start (drop 2 first ++ drop 2 second))
    → length here + length there ≡ size
parts-long here there first second start size ef es low few joined =
    sym (length-append here there) ∙ ap length joined
    ∙ simp (length-take, length-drop, length-append) (omega arith)

pub overwrite-requires : goal.overwrite-requires
overwrite-requires c =
    ap length c.as_mut_slice.ensures.value ∙ sym c.len.ensures.value ∙ c.if-len-size.true
    ∙ sym (parts-long c.record_parts.result.0.now c.record_parts.result.1.now c.args.first.now c.args.second.now
    c.args.start c.args.size c.told-first c.told-second c.requires.start c.requires.size c.record_parts.ensures.joined)
