-- What is read, the last blocks filled, blocks one after another.
use Rattle.std.proofs.Common.{arith, ◌∙◌, ◌≤◌, length, sym, ap, refl}
use Rattle.rel_records.proofs.lemmas.growth.Grows.{at-now, has-run, run, run-moments, at-sides, at-some, had-of, long}
use Rattle.rel_records.proofs.lemmas.growth.Grows.{room, standing, fill-moments}
use Rattle.rel_records.proofs.growth.grow.Goals as goal
use Rattle.disk_layout.specs.View.{blocks_free}
use Rattle.rel_records.proofs.lemmas.filling.ReadyToEnd.{had-is}
use Rattle.rel_records.specs.growth.Growth.{needed}
use Rattle.d64_image.proofs.Moments.{changes_weaker, reads_change}
use Rattle.rel_records.proofs.lemmas.Kept.{growing_same}
use Rattle.rel_records.proofs.lemmas.Told.{not-done, tells-failed}

-- What the calls ask.
pub fill_up-requires-clause-at : goal.fill_up-requires-clause-at
fill_up-requires-clause-at g c =
    let (l, n, f, of) = c.requires.of in
    let S = g.D.Sectors.history in
    let at = c.in_ok-parts.ensures.ok l n f of in
    let more : length f.blocks ≤ c.args.wanted = omega (arith, c.requires.more, of.shows.blocks) in (
      l,
      n,
      f,
      at-now S c.args.disk.now c.read_parts.new.disk l n f c.in_ok-parts.parts c.args.wanted
          c.in_ok-parts.ensures.reads at more,
    )

pub fill_up-requires-clause-had : goal.fill_up-requires-clause-had
fill_up-requires-clause-had g c =
    let (l, n, f, of) = c.requires.of in
    let a = g.D.Sectors.history.image c.args.disk.now in
    c.records.ensures.value ∙ had-of a l n f c.args.file.now of
    ∙ had-is a l n f c.in_ok-parts.parts (c.in_ok-parts.ensures.ok l n f of)

pub add_blocks-requires-clause-at : goal.add_blocks-requires-clause-at
add_blocks-requires-clause-at g c =
    let (l, n, f, of) = c.requires.of in
    let S = g.D.Sectors.history in
    let d = c.args.disk.now in
    let b = c.read_parts.new.disk in
    let p = c.in_ok-parts.parts in
    let w = c.args.wanted in
    let reads = c.in_ok-parts.ensures.reads in
    let at = c.in_ok-parts.ensures.ok l n f of in
    let more : length f.blocks ≤ w = omega (arith, c.requires.more, of.shows.blocks) in
    let fill = c.in_ok-fill_up.ensures.file l n f (at-now S d b l n f p w reads at more) in
    standing S d b l n f p w reads at more c.fill_up.new.disk fill.moments c.fill_up.new.parts fill.ok

pub add_blocks-requires-clause-more : goal.add_blocks-requires-clause-more
add_blocks-requires-clause-more g c =
    let (l, n, f, of) = c.requires.of in
    let S = g.D.Sectors.history in
    let d = c.args.disk.now in
    let b = c.read_parts.new.disk in
    let p = c.in_ok-parts.parts in
    let w = c.args.wanted in
    let reads = c.in_ok-parts.ensures.reads in
    let at = c.in_ok-parts.ensures.ok l n f of in
    let more : length f.blocks ≤ w = omega (arith, c.requires.more, of.shows.blocks) in
    let fill = c.in_ok-fill_up.ensures.file l n f (at-now S d b l n f p w reads at more) in
    omega (
      arith,
      more,
      long S d b l n f p w reads at more c.fill_up.new.disk fill.moments c.fill_up.new.parts fill.ok,
    )

pub add_blocks-requires-clause-room : goal.add_blocks-requires-clause-room
add_blocks-requires-clause-room g c =
    let (l, n, f, of) = c.requires.of in
    let S = g.D.Sectors.history in
    let d = c.args.disk.now in
    let b = c.read_parts.new.disk in
    let p = c.in_ok-parts.parts in
    let w = c.args.wanted in
    let reads = c.in_ok-parts.ensures.reads in
    let at = c.in_ok-parts.ensures.ok l n f of in
    let more : length f.blocks ≤ w = omega (arith, c.requires.more, of.shows.blocks) in
    let fill = c.in_ok-fill_up.ensures.file l n f (at-now S d b l n f p w reads at more) in
    room S d b l n f p w reads at more c.fill_up.new.disk fill.moments c.fill_up.new.parts fill.ok
    (omega (
      arith,
      c.requires.room,
      ap (λ k. needed k w) of.shows.blocks,
      ap blocks_free
          (at.map ∙ sym c.requires.map),
    ))

pub renew-requires : goal.renew-requires
renew-requires g c =
    let (l, n, f, of) = c.requires.of in
    let S = g.D.Sectors.history in
    let d = c.args.disk.now in
    let b = c.read_parts.new.disk in
    let p = c.in_ok-parts.parts in
    let w = c.args.wanted in
    let reads = c.in_ok-parts.ensures.reads in
    let at = c.in_ok-parts.ensures.ok l n f of in
    let more : length f.blocks ≤ w = omega (arith, c.requires.more, of.shows.blocks) in
    let fill = c.in_ok-fill_up.ensures.file l n f (at-now S d b l n f p w reads at more) in
    let r = run S d b l n f p w reads at more c.fill_up.new.disk fill.moments c.fill_up.new.parts fill.ok in
    let z = (c.in_ok-add_blocks.ensures.file r.layout n r.file r.at r.filled).ok in
    let y = S.image c.add_blocks.new.disk in
    record {
      some = at-some y z.layout n z.file c.add_blocks.new.parts z.at;
      sides = at-sides y z.layout n z.file c.add_blocks.new.parts z.at;
    }

-- The device fails.
pub returns-in_err-parts : goal.returns-in_err-parts
returns-in_err-parts g c =
    let S = g.D.Sectors.history in
    record {
      file = λ l n f of. record {
        ok = not-done c.from_residual.result _ c.from_residual.ensures.1 _;
        moments = changes_weaker S _ _ 0 _ _ _ (omega arith) (λ i h. h)
            (reads_change S _ _ 8 _ c.in_err-parts.ensures.reads
            (growing_same (S.image c.args.disk.now) l n f c.args.file.now _ of));
      };
      reads = omega (arith, c.in_err-parts.ensures.reads.reads);
      entry = refl;
      failures = tells-failed S _ _ _ refl c.from_residual.result _ c.from_residual.ensures.1
          c.in_err-parts.ensures.failures;
    }

pub returns-in_err-fill_up : goal.returns-in_err-fill_up
returns-in_err-fill_up g c =
    let S = g.D.Sectors.history in
    let d = c.args.disk.now in
    let b = c.read_parts.new.disk in
    let p = c.in_ok-parts.parts in
    let w = c.args.wanted in
    let reads = c.in_ok-parts.ensures.reads in
    record {
      file = λ l n f of.
          let at = c.in_ok-parts.ensures.ok l n f of in
          let more : length f.blocks ≤ w = omega (arith, c.requires.more, of.shows.blocks) in
          let fill = c.in_err-fill_up.ensures.file l n f (at-now S d b l n f p w reads at more) in
          record {
            ok = not-done c.from_residual-in_err-fill_up.result _ c.from_residual-in_err-fill_up.ensures.1 _;
            moments = fill-moments S d b l n f p w reads at more c.fill_up.new.disk fill.moments;
          };
      reads = omega (arith, c.in_err-fill_up.ensures.reads, reads.reads);
      entry = refl;
      failures = tells-failed S _ _ _ c.in_ok-parts.ensures.failures c.from_residual-in_err-fill_up.result _
          c.from_residual-in_err-fill_up.ensures.1 c.in_err-fill_up.ensures.failures;
    }

pub returns-in_err-add_blocks : goal.returns-in_err-add_blocks
returns-in_err-add_blocks g c =
    let S = g.D.Sectors.history in
    let d = c.args.disk.now in
    let b = c.read_parts.new.disk in
    let p = c.in_ok-parts.parts in
    let w = c.args.wanted in
    let reads = c.in_ok-parts.ensures.reads in
    record {
      file = λ l n f of.
          let at = c.in_ok-parts.ensures.ok l n f of in
          let more : length f.blocks ≤ w = omega (arith, c.requires.more, of.shows.blocks) in
          let fill = c.in_ok-fill_up.ensures.file l n f (at-now S d b l n f p w reads at more) in
          let x = c.fill_up.new.disk in
          let q = c.fill_up.new.parts in
          let r = run S d b l n f p w reads at more x fill.moments q fill.ok in
          let blocks = c.in_err-add_blocks.ensures.file r.layout n r.file r.at r.filled in
          record {
            ok = not-done c.from_residual-in_err-add_blocks.result _ c.from_residual-in_err-add_blocks.ensures.1 _;
            moments = run-moments S d b l n f p w reads at more x fill.moments q fill.ok c.add_blocks.new.disk
                blocks.moments;
          };
      reads = omega (arith, c.in_err-add_blocks.ensures.reads, c.in_ok-fill_up.ensures.reads, reads.reads);
      entry = refl;
      failures = tells-failed S _ _ _ (c.in_ok-fill_up.ensures.failures ∙ c.in_ok-parts.ensures.failures)
          c.from_residual-in_err-add_blocks.result _ c.from_residual-in_err-add_blocks.ensures.1
          c.in_err-add_blocks.ensures.failures;
    }

pub returns : goal.returns
returns g c =
    let S = g.D.Sectors.history in
    let d = c.args.disk.now in
    let b = c.read_parts.new.disk in
    let p = c.in_ok-parts.parts in
    let w = c.args.wanted in
    let reads = c.in_ok-parts.ensures.reads in
    record {
      file = λ l n f of.
          let at = c.in_ok-parts.ensures.ok l n f of in
          let more : length f.blocks ≤ w = omega (arith, c.requires.more, of.shows.blocks) in
          let fill = c.in_ok-fill_up.ensures.file l n f (at-now S d b l n f p w reads at more) in
          let x = c.fill_up.new.disk in
          let q = c.fill_up.new.parts in
          let r = run S d b l n f p w reads at more x fill.moments q fill.ok in
          let blocks = c.in_ok-add_blocks.ensures.file r.layout n r.file r.at r.filled in
          let y = c.add_blocks.new.disk in
          record {
            ok = has-run S d b l n f p w reads at more x fill.moments q fill.ok y blocks.moments c.add_blocks.new.parts
                c.renew.new.file blocks.ok c.renew.ensures.kept;
            moments = run-moments S d b l n f p w reads at more x fill.moments q fill.ok y blocks.moments;
          };
      reads = omega (arith, c.in_ok-add_blocks.ensures.reads, c.in_ok-fill_up.ensures.reads, reads.reads);
      entry = c.renew.ensures.entry;
      failures = c.in_ok-add_blocks.ensures.failures ∙ c.in_ok-fill_up.ensures.failures
          ∙ c.in_ok-parts.ensures.failures;
    }
