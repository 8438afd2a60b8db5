-- The record's bytes are those of the block that is kept, and of no other.
use Rattle.std.proofs.Common.{ap, arith, drop, length, length-drop, sym, take, ℕ, ◌%◌, ◌*◌, ◌+◌, ◌-◌, ◌++◌, ◌∙◌, ◌≡◌}
use Rattle.std.proofs.Common.{◌≤◌}
use Rattle.std.proofs.lemmas.List.{drop-append-le, drop-drop, take-append-le}
use Rattle.disk_layout.proofs.lemmas.records.Joined.{sector-long}
use Rattle.d64_image.specs.Images.{Sector}
use Rattle.rel_records.proofs.lemmas.reading.Readings.{has-read, kept-is, record-read}
use Rattle.rel_records.specs.File.{length_of}
use Rattle.rel_records.proofs.reading.record_order.LastBlock.record.Goals as goal

-- a part of a block's data, as it is lent
part-lent : (s L n : ℕ) (a b : Sector) → n ≡ L → s + L ≤ length (drop 2 a)
    → take n (drop (2 + s) a) ≡ take L (drop s (drop 2 a ++ drop 2 b))
part-lent s L n a b same fits =
    ap (λ (k : ℕ). take k (drop (2 + s) a)) same
    ∙ sym (ap (take L) (drop-append-le s (drop 2 a) (drop 2 b) (omega (arith, fits)))
    ∙ take-append-le L (drop s (drop 2 a)) (drop 2 b) (omega (arith, length-drop s (drop 2 a), fits))
    ∙ ap (take L) (drop-drop s 2 a))

pub returns-clause-bytes : goal.returns-clause-bytes
returns-clause-bytes c = λ img w of kept.
    let v = c.args.file.now in
    let x = c.args.self.now in
    let s : ℕ = (c.args.number - 1) * length_of v % 254 in
    has-read img v c.args.number _ of w (λ l n f is.
    let here = kept-is img v x _ (c.keeps.ensures.0 c.if-not-keeps.false) kept l n f is in
    let long : length x.bytes ≡ 256 = ap length here.read ∙ sector-long img here.place w in
    record-read img l n f v is w c.args.number x.bytes x.bytes _ (omega (arith, c.if-number-eq0.false))
    (c.has_records.ensures.0 c.if-not-has_records.false) here
    (λ over. absurd (omega (arith, over, c.if-from-size-gt-DATA.false))) long
    (part-lent s (length_of v) _ x.bytes x.bytes (omega arith)
    (omega (arith, length-drop 2 x.bytes, long, c.if-from-size-gt-DATA.false))))

pub overflow_sub-start : goal.overflow_sub-start
overflow_sub-start c = omega (arith, c.if-number-eq0.false)
