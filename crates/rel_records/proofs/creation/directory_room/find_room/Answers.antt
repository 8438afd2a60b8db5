-- Sector by sector.
use Rattle.std.proofs.Common.{ap, arith, length, refl, subst, ◌∙◌, ◌≡◌}
use borrow.Author.Count.{below_more}
use Rattle.std.proofs.lemmas.Option.{slice_get_read}
use Rattle.d64_image.proofs.Moments.{no_reads, reads_then, reads_weaker}
use Rattle.d64_image.specs.Images.{Image, Sector, sector}
use Rattle.d64_image.specs.declared.place.Place.{Place}
use Rattle.rel_records.proofs.lemmas.directory.Rooms.{first-room, no-room, same-get}
use Rattle.rel_records.specs.creation.Room.{IsFullSector}
use Rattle.rel_records.proofs.creation.directory_room.find_room.Goals as goal

pub loop-before-init : goal.loop-before-init
loop-before-init g c = record {
  reads = no_reads g.D.Sectors.history _;
  failures = refl;
  full = λ k lt. absurd (omega (arith, lt));
  last = λ n p e at. absurd (omega (arith, e));
}

pub returns-in-Some-clause-ok : goal.returns-in-Some-clause-ok
returns-in-Some-clause-ok g c =
    let read = c.in_ok-read.ensures.sector ∙ ap (λ (i : Image). sector i c.index-places-before.result)
    c.loop-before.invariant.reads.image in
    let there = slice_get_read c.args.places.now (length c.args.places.now) c.loop-before.before
    c.index-places-before.result refl c.loop-before-test.true c.index-places-before.is in
    first-room (g.D.Sectors.history.image c.args.disk.now) c.args.places.now c.loop-before.before
    c.index-places-before.result c.read.new.to c.in-Some.number there c.loop-before.invariant.full read
    (c.in-Some.ensures c.index-places-before.result)

pub loop-before-preserved : goal.loop-before-preserved
loop-before-preserved g c =
    let S = g.D.Sectors.history in
    let old = c.loop-before.invariant in
    let x = c.index-places-before.result in
    let read = c.in_ok-read.ensures.sector ∙ ap (λ (i : Image). sector i x) old.reads.image in
    let there = slice_get_read c.args.places.now (length c.args.places.now) c.loop-before.before x refl
    c.loop-before-test.true c.index-places-before.is in
    record {
      reads = reads_then S _ _ _ _ 1 _ (omega arith) old.reads c.read.ensures.reads;
      failures = c.in_ok-read.ensures.failures ∙ old.failures;
      full = below_more _ _ old.full (λ p at.
          let same : x ≡ p = same-get c.args.places.now c.loop-before.before x p there at in
          let P : Place → Type 0 = λ q. IsFullSector q (sector (S.image c.args.disk.now) q) in
          let Q : Sector → Type 0 = λ b. IsFullSector x b in
          subst P same (subst Q read (c.in_default.ensures x)));
      last = λ n p e at.
          let on : n ≡ c.loop-before.before = omega (arith, e) in
          let same : x ≡ p = same-get c.args.places.now c.loop-before.before x p there (rw (← on) at) in
          read ∙ ap (sector (S.image c.args.disk.now)) same;
    }

pub returns-clause-bytes : goal.returns-clause-bytes
returns-clause-bytes g c =
    let few = c.requires in
    let there = slice_get_read c.args.places.now (length c.args.places.now) _ c.index-places-before-2.result refl
    (omega (arith, few)) c.index-places-before-2.is in
    c.loop-before.invariant.last _ c.index-places-before-2.result (omega (
      arith,
      few,
      c.loop-before-test.false,
      c.loop-before.auto,
    )) there

pub returns-clause-ok : goal.returns-clause-ok
returns-clause-ok g c =
    let few = c.requires in
    let there = slice_get_read c.args.places.now (length c.args.places.now) _ c.index-places-before-2.result refl
    (omega (arith, few)) c.index-places-before-2.is in
    no-room (g.D.Sectors.history.image c.args.disk.now) c.args.places.now _ c.index-places-before-2.result
    (omega (arith, few)) there
    (λ k lt. c.loop-before.invariant.full k (omega (arith, lt, c.loop-before-test.false)))

pub returns-clause-before : goal.returns-clause-before
returns-clause-before g c =
    let few = c.requires in
    slice_get_read c.args.places.now (length c.args.places.now) _ c.index-places-before-2.result refl
    (omega (arith, few)) c.index-places-before-2.is

pub returns-in_err-read-clause-reads : goal.returns-in_err-read-clause-reads
returns-in_err-read-clause-reads g c = reads_then g.D.Sectors.history _ _ _ _ 1 _
    (omega (arith, c.loop-before-test.true)) c.loop-before.invariant.reads c.read.ensures.reads

pub returns-in-Some-clause-reads : goal.returns-in-Some-clause-reads
returns-in-Some-clause-reads g c = reads_then g.D.Sectors.history _ _ _ _ 1 _ (omega (arith, c.loop-before-test.true))
    c.loop-before.invariant.reads c.read.ensures.reads

pub returns-clause-reads : goal.returns-clause-reads
returns-clause-reads g c = reads_weaker g.D.Sectors.history _ _ _ _ (omega (arith, c.loop-before.auto))
    c.loop-before.invariant.reads
