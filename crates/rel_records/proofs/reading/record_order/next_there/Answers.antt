-- The record's bytes are those of the block that is kept, and of the one behind it.
use Rattle.std.proofs.Common.{arith, subst, sym, ◌-◌, ap, ℕ, ◌+◌, ◌*◌, ◌%◌, ◌<◌, ◌≤◌, Option, length, ◌∙◌, ◌≡◌, refl}
use Rattle.d64_image.specs.Images.{Image, IsImage, Sector}
use Rattle.rel_records.proofs.lemmas.reading.Readings.{inside-of, has-read, record-read}
use Rattle.rel_records.specs.File.{IsOf, length_of}
use Rattle.rel_records.specs.reading.Kept.{IsKept, next_reads}
use Rattle.rel_records.proofs.reading.record_order.next_there.Goals as goal
use Rattle.std.proofs.lemmas.Bool.{lt-ltb}
use Rattle.std.specs.Prelude.{if◌then◌else◌, IfSome}
use Rattle.d64_image.proofs.Moments.{reads_then, reads_weaker}
use Rattle.disk_layout.proofs.lemmas.records.Joined.{sector-long}
use Rattle.disk_layout.specs.Layout.{File}
use Rattle.rel_records.specs.reading.Block.{IsBlock}
use Rattle.rel_records.proofs.lemmas.Told.{fault-is, none-done, passed-on}

-- What is kept is of the file.
pub returns-in_err-go_on-clause-kept : goal.returns-in_err-go_on-clause-kept
returns-in_err-go_on-clause-kept g c = subst (λ (i : Image). IsKept i c.args.file.now c.go_on.new.last)
    c.fetch_block.ensures.here.reads.image c.go_on.ensures.kept

pub returns-clause-kept : goal.returns-clause-kept
returns-clause-kept g c = subst (λ (i : Image). IsKept i c.args.file.now c.go_on.new.last)
    c.fetch_block.ensures.here.reads.image c.go_on.ensures.kept

-- How many sectors are read where the block is kept in which the record begins.
pub returns-in_err-fetch_block-clause-near : goal.returns-in_err-fetch_block-clause-near
returns-in_err-fetch_block-clause-near g c kept = reads_weaker g.D.Sectors.history _ _ 0 _ (omega arith)
    (c.fetch_block.ensures.quiet kept)

pub returns-in_err-go_on-clause-near : goal.returns-in_err-go_on-clause-near
returns-in_err-go_on-clause-near g c kept =
    let S = g.D.Sectors.history in
    let L = length_of c.args.file.now in
    let over : 254 < (c.args.number - 1) * L % 254 + L = omega (arith, c.if-start-size-le-DATA.false) in
    let once : 0 + 1 ≤ next_reads L c.args.number = omega
    (arith, ap {B = ℕ} (λ b. if b then 1 else 0) (lt-ltb 254 ((c.args.number - 1) * L % 254 + L) over)) in
    reads_then S _ _ _ 0 1 _ once (c.fetch_block.ensures.quiet kept) c.go_on.ensures.next.reads

pub returns-clause-near : goal.returns-clause-near
returns-clause-near g c kept =
    let S = g.D.Sectors.history in
    let L = length_of c.args.file.now in
    let over : 254 < (c.args.number - 1) * L % 254 + L = omega (arith, c.if-start-size-le-DATA.false) in
    let once : 0 + 1 ≤ next_reads L c.args.number = omega
    (arith, ap {B = ℕ} (λ b. if b then 1 else 0) (lt-ltb 254 ((c.args.number - 1) * L % 254 + L) over)) in
    reads_then S _ _ _ 0 1 _ once (c.fetch_block.ensures.quiet kept) c.go_on.ensures.next.reads

-- The text is the record's.
-- a block that is read has 256 bytes
block-long : (img : Image) (f : File) (r : ℕ) (bytes : Sector) → IsImage img → IsBlock img f.blocks r bytes
    → length bytes ≡ 256
block-long img f r bytes w is = ap length is.read ∙ sector-long img is.place w

pub returns-then-start-size-le-DATA-clause-text : goal.returns-then-start-size-le-DATA-clause-text
returns-then-start-size-le-DATA-clause-text g c =
    let S = g.D.Sectors.history in
    record {
      ok = has-read (S.image c.args.disk.now) c.args.file.now c.args.number _ c.requires.of (S.whole c.args.disk.now)
          (λ l n f of.
          let S = g.D.Sectors.history in
          let here = subst
          (λ (o : Option ℕ). IfSome o (λ r. IsBlock (S.image c.args.disk.now) f.blocks r c.fetch_block.new.last.bytes))
          c.in_ok-fetch_block.ensures.here.ok (c.fetch_block.ensures.kept l n f of) in
          record-read (S.image c.args.disk.now) l n f c.args.file.now of (S.whole c.args.disk.now) c.args.number
          c.fetch_block.new.last.bytes c.fetch_block.new.last.bytes c.fill_record.new.text.items c.requires.low c.requires.high
          here (λ over. absurd (omega (arith, over, c.if-start-size-le-DATA.true)))
          (block-long _ f _ _ (S.whole c.args.disk.now) here) c.fill_record.ensures);
      err = tt;
      reads = reads_weaker g.D.Sectors.history _ _ 2 3 (omega arith) c.fetch_block.ensures.here.reads;
      failures = c.in_ok-fetch_block.ensures.here.failures;
    }

pub returns-clause-text : goal.returns-clause-text
returns-clause-text g c =
    let S = g.D.Sectors.history in
    record {
      ok = has-read (S.image c.args.disk.now) c.args.file.now c.args.number _ c.requires.of (S.whole c.args.disk.now)
          (λ l n f of.
          let S = g.D.Sectors.history in
          let img = S.image c.args.disk.now in
          let here = subst (λ (o : Option ℕ). IfSome o (λ r. IsBlock img f.blocks r c.fetch_block.new.last.bytes))
          c.in_ok-fetch_block.ensures.here.ok (c.fetch_block.ensures.kept l n f of) in
          let kept = subst (λ (i : Image). IsKept i c.args.file.now c.go_on.new.last) c.fetch_block.ensures.here.reads.image
          c.go_on.ensures.kept in
          let behind = subst (λ (o : Option ℕ). IfSome o (λ r. IsBlock img f.blocks r c.go_on.new.last.bytes))
          c.in_ok-go_on.ensures.next.ok (kept l n f of) in
          record-read img l n f c.args.file.now of (S.whole c.args.disk.now) c.args.number c.fetch_block.new.last.bytes
          c.go_on.new.last.bytes c.fill_record-2.new.text.items c.requires.low c.requires.high
          here (λ over. behind) (block-long _ f _ _ (S.whole c.args.disk.now) behind) c.fill_record-2.ensures);
      err = tt;
      reads = reads_then g.D.Sectors.history _ _ _ 2 1 3 (omega arith) c.fetch_block.ensures.here.reads
          c.go_on.ensures.next.reads;
      failures = c.in_ok-go_on.ensures.next.failures ∙ c.in_ok-fetch_block.ensures.here.failures;
    }

pub returns-in_err-fetch_block-clause-text : goal.returns-in_err-fetch_block-clause-text
returns-in_err-fetch_block-clause-text g c =
    record {
      ok = none-done c.from_residual.result _ c.from_residual.ensures.1 _;
      err = fault-is c.from_residual.result _ c.from_residual.ensures.1 _
          (λ e is. is ∙ c.in_err-fetch_block.ensures.here.err);
      reads = reads_weaker g.D.Sectors.history _ _ 2 3 (omega arith) c.fetch_block.ensures.here.reads;
      failures = passed-on g.D.Sectors.history _ _ _ refl c.from_residual.result _ c.from_residual.ensures.1
          c.in_err-fetch_block.ensures.here.failures;
    }

pub returns-in_err-go_on-clause-text : goal.returns-in_err-go_on-clause-text
returns-in_err-go_on-clause-text g c =
    record {
      ok = none-done c.from_residual-in_err-go_on.result _ c.from_residual-in_err-go_on.ensures.1 _;
      err = fault-is c.from_residual-in_err-go_on.result _ c.from_residual-in_err-go_on.ensures.1 _
          (λ e is. is ∙ c.in_err-go_on.ensures.next.err);
      reads = reads_then g.D.Sectors.history _ _ _ 2 1 3 (omega arith) c.fetch_block.ensures.here.reads
          c.go_on.ensures.next.reads;
      failures = passed-on g.D.Sectors.history _ _ _ c.in_ok-fetch_block.ensures.here.failures
          c.from_residual-in_err-go_on.result _ c.from_residual-in_err-go_on.ensures.1
          c.in_err-go_on.ensures.next.failures;
    }

pub fetch_block-requires-clause-there : goal.fetch_block-requires-clause-there
fetch_block-requires-clause-there g c =
    let fits = inside-of _ c.args.file.now c.args.number c.requires.of (g.D.Sectors.history.whole c.args.disk.now)
    c.requires.low c.requires.high in
    omega (arith, fits, c.args.file.now.size_low)

pub go_on-requires-clause-of : goal.go_on-requires-clause-of
go_on-requires-clause-of g c = subst (λ (i : Image). IsOf i c.args.file.now) (sym c.fetch_block.ensures.here.reads.image)
    c.requires.of

pub go_on-requires-clause-there : goal.go_on-requires-clause-there
go_on-requires-clause-there g c =
    let fits = inside-of _ c.args.file.now c.args.number c.requires.of (g.D.Sectors.history.whole c.args.disk.now)
    c.requires.low c.requires.high in
    omega (arith, fits, c.if-start-size-le-DATA.false)

pub go_on-requires-clause-kept : goal.go_on-requires-clause-kept
go_on-requires-clause-kept g c = subst (λ (i : Image). IsKept i c.args.file.now c.fetch_block.new.last)
    (sym c.fetch_block.ensures.here.reads.image) c.fetch_block.ensures.kept

pub overflow_mul-start : goal.overflow_mul-start
overflow_mul-start g c =
    let fits = inside-of _ c.args.file.now c.args.number c.requires.of (g.D.Sectors.history.whole c.args.disk.now)
    c.requires.low c.requires.high in
    omega (arith, fits, c.args.file.now.few)

pub returns-then-start-size-le-DATA-clause-near : goal.returns-then-start-size-le-DATA-clause-near
returns-then-start-size-le-DATA-clause-near g c kept =
    reads_weaker g.D.Sectors.history _ _ 0 _ (omega arith) (c.fetch_block.ensures.quiet kept)
