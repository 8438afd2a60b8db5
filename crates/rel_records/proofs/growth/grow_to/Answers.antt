-- What is refused, what is there, and growth.
use Rattle.std.proofs.Common.{arith, refl, ap, inl, inr, subst, sym, ⊎_elim, ◌∙◌}
use Rattle.d64_image.proofs.Moments.{changes_weaker, failed_later, no_change, no_reads, reads_weaker}
use Rattle.d64_image.specs.Images.{Image, sector}
use Rattle.disk_layout.specs.Directory.{map_place}
use Rattle.disk_layout.specs.View.{blocks_free}
use Rattle.rel_records.proofs.lemmas.Kept.{growing_same, has-others, has_same}
use Rattle.rel_records.proofs.lemmas.Told.{device-not-full, device-not-too-large, done-no-fault, full-not-too-large}
use Rattle.rel_records.proofs.lemmas.Told.{too-large-not-full}
use Rattle.rel_records.proofs.lemmas.growth.Ends.{ends-failed, ends-grown, ends-unwritten}
use Rattle.rel_records.proofs.lemmas.growth.GrownTo.{blocks-more, is-full, is-too-large, leaves-here, not-full}
use Rattle.rel_records.proofs.lemmas.growth.GrownTo.{not-too-large, of-now, there-fits, there-small}
use Rattle.rel_records.proofs.lemmas.reading.Counts.{fewer}
use Rattle.rel_records.specs.File.{blocks_of}
use Rattle.rel_records.specs.Usable.{IsUsable}
use Rattle.rel_records.specs.growth.Growth.{blocks_for, needed}
use Rattle.rel_records.proofs.growth.grow_to.Goals as goal

pub returns-then-has_records : goal.returns-then-has_records
returns-then-has_records g c =
    record {
      file = λ l n f of.
          let S = g.D.Sectors.history in
          record {
            ok = leaves-here _ l n f c.args.file.now of c.args.number (c.has_records.ensures.0 c.if-has_records.true);
            too_large
                = (
                  λ e. done-no-fault _ _ e,
                  λ t. absurd
                      (there-small _ l n f c.args.file.now of c.args.number
                      (c.has_records.ensures.0 c.if-has_records.true)
                      t),
                );
            full = tt;
            fits = there-fits _ l n f c.args.file.now of c.args.number (c.has_records.ensures.0 c.if-has_records.true);
            moments = changes_weaker S _ _ 0 _ _ _ (omega arith) (λ i h. h)
                (no_change S c.args.disk.now _ (growing_same _ l n f c.args.file.now _ of));
            others = has-others _ _ l n _ (has_same _ l n f c.args.file.now of);
          };
      there = c.has_records.ensures.0 c.if-has_records.true;
      same = refl;
      quiet = λ le. (refl, refl, no_reads g.D.Sectors.history c.args.disk.now);
      told = tt;
      refused = tt;
      reads = omega arith;
      entry = refl;
      failures = refl;
    }

pub returns-in_default : goal.returns-in_default
returns-in_default g c =
    let S = g.D.Sectors.history in
    let d = c.args.disk.now in
    let lt = fewer c.has_records.result _ _ c.has_records.ensures c.if-has_records.false in
    ends-unwritten S d d c.args.file.now c.args.number lt (reads_weaker S d d 0 1 (omega arith) (no_reads S d)) _ (inl refl)
    (λ l n f of. (
      (
        λ e. is-too-large (S.image d) l n f c.args.file.now of c.args.number lt (⊎_elim inr inl c.in_default.ensures),
        λ t. refl,
      ),
      too-large-not-full,
    ))
    refl

pub returns-in_default-read : goal.returns-in_default-read
returns-in_default-read g c =
    let S = g.D.Sectors.history in
    let d = c.args.disk.now in
    let lt = fewer c.has_records.result _ _ c.has_records.ensures c.if-has_records.false in
    ends-unwritten S d c.read.new.disk c.args.file.now c.args.number lt c.in_default-read.ensures.reads _ (inr (inr refl))
    (λ l n f of. (
      (
        device-not-too-large,
        λ t. absurd
            (not-too-large (S.image d) l n f c.args.file.now of c.args.number lt
            (omega (arith, c.in-Some.ensures.0, c.in-Some.ensures.1)) c.in-Some.ensures.2 t),
      ),
      device-not-full _ refl,
    ))
    c.in_default-read.ensures.failures

pub returns-then-blocks_free-sectors_needed : goal.returns-then-blocks_free-sectors_needed
returns-then-blocks_free-sectors_needed g c =
    let S = g.D.Sectors.history in
    let d = c.args.disk.now in
    let v = c.args.file.now in
    let lt = fewer c.has_records.result _ _ c.has_records.ensures c.if-has_records.false in
    ends-unwritten S d c.read.new.disk v c.args.number lt c.in-Ok.ensures.reads _ (inr (inl refl))
    (λ l n f of. (
      (
        full-not-too-large,
        λ t. absurd
            (not-too-large (S.image d) l n f v of c.args.number lt
            (omega (arith, c.in-Some.ensures.0, c.in-Some.ensures.1)) c.in-Some.ensures.2 t),
      ),
      λ e. is-full (S.image d) l n f v of c.args.number lt c.in-Ok.map.bytes c.in-Ok.ensures.ok
          (omega (
            arith,
            c.if-blocks_free-sectors_needed.true,
            c.blocks_free.ensures,
            ap blocks_free c.view.ensures,
            c.sectors_needed.ensures,
            ap (λ k. needed (blocks_of v) k) c.in-Some.ensures.0,
          )),
    ))
    c.in-Ok.ensures.failures

pub grow-requires : goal.grow-requires
grow-requires g c =
    let S = g.D.Sectors.history in
    let v = c.args.file.now in
    let (l, n, f, of) = c.requires.of in
    let lt = fewer c.has_records.result _ _ c.has_records.ensures c.if-has_records.false in
    let same = c.in-Ok.ensures.reads.image in
    record {
      usable = subst IsUsable (sym same) c.requires.usable;
      of = (
        l,
        n,
        f,
        of-now S c.args.disk.now c.read.new.disk l n f v of c.args.number c.in-Ok.ensures.reads,
      );
      map = c.in-Ok.ensures.ok ∙ ap (λ (i : Image). sector i map_place) (sym same);
      more = omega (
        arith,
        c.in-Some.ensures.0,
        of.shows.blocks,
        blocks-more _ l n f v of c.args.number lt,
        ap (λ s. blocks_for s c.args.number) of.shows.size,
      );
      few = c.in-Some.ensures.1;
      room = omega (
        arith,
        c.if-blocks_free-sectors_needed.false,
        c.blocks_free.ensures,
        ap blocks_free c.view.ensures,
        c.sectors_needed.ensures,
        ap (λ k. needed (blocks_of v) k) c.in-Some.ensures.0,
      );
    }

pub returns-in_default-grow : goal.returns-in_default-grow
returns-in_default-grow g c =
    let S = g.D.Sectors.history in
    let lt = fewer c.has_records.result _ _ c.has_records.ensures c.if-has_records.false in
    ends-failed S c.args.disk.now c.read.new.disk c.args.file.now c.args.number lt c.in-Ok.ensures.reads c.grow.new.disk
    c.grow.new.file c.in-Some.wanted c.in-Some.ensures.0 c.in-Some.ensures.1 c.in-Some.ensures.2
    c.in_default-grow.ensures.reads c.grow.ensures.entry _ c.in_default-grow.ensures.file
    (failed_later S _ _ _ c.in-Ok.ensures.failures c.in_default-grow.ensures.failures)

pub returns : goal.returns
returns g c =
    let S = g.D.Sectors.history in
    let v = c.args.file.now in
    let lt = fewer c.has_records.result _ _ c.has_records.ensures c.if-has_records.false in
    ends-grown S c.args.disk.now c.read.new.disk v c.args.number lt c.in-Ok.ensures.reads c.grow.new.disk
    c.grow.new.file c.in-Some.wanted c.in-Some.ensures.0 c.in-Some.ensures.1 c.in-Some.ensures.2
    c.in-Ok-grow.ensures.reads c.grow.ensures.entry _ c.requires.of c.in-Ok-grow.ensures.file
    (λ l n f of. not-full (S.image c.args.disk.now) l n f v of c.args.number lt c.in-Ok.map.bytes c.in-Ok.ensures.ok
    (omega (
      arith,
      c.if-blocks_free-sectors_needed.false,
      c.blocks_free.ensures,
      ap blocks_free c.view.ensures,
      c.sectors_needed.ensures,
      ap (λ k. needed (blocks_of v) k) c.in-Some.ensures.0,
    )))
    (c.in-Ok-grow.ensures.failures ∙ c.in-Ok.ensures.failures)
