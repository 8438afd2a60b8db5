-- The names, the directory's room, the map.
use Rattle.std.proofs.Common.{Err, arith, ap, inl, inr, refl, subst, sym, ◌∙◌}
use Rattle.d64_image.proofs.Moments.{failed_later, no_write_then, reads_no_write, reads_then, reads_weaker}
use Rattle.d64_image.specs.Images.{Image, sector}
use Rattle.disk_layout.specs.Directory.{map_place}
use Rattle.disk_layout.specs.Layout.{IsLayout, Layout}
use Rattle.rel_records.proofs.lemmas.Told.{exists-not-full, full-not-exists, tells-rel-after}
use Rattle.rel_records.proofs.lemmas.Usable.{usable-of}
use Rattle.rel_records.proofs.lemmas.creation.TakenNames.{no-site, not-taken, room-still, taken-slot}
use Rattle.rel_records.proofs.lemmas.writing.Puts.{passes}
use Rattle.rel_records.specs.Calls.{Chooses}
use Rattle.rel_records.specs.declared.creation.site.Site.{Site}
use Rattle.rel_records.proofs.creation.choose_site.Goals as goal

pub returns-in_err-list_slots : goal.returns-in_err-list_slots
returns-in_err-list_slots g c =
    let S = g.D.Sectors.history in
    let d = c.args.disk.now in
    passes (Chooses S d c.list_slots.new.disk c.args.name.now c.args.count) c.from_residual.result _
    c.from_residual.ensures.1
    (no-site S d c.list_slots.new.disk c.args.name.now c.args.count _ c.in_err-list_slots.ensures.err
    (reads_no_write S d c.list_slots.new.disk 18 c.list_slots.ensures.reads) c.in_err-list_slots.ensures.failures)

pub returns-then-has_name : goal.returns-then-has_name
returns-then-has_name g c =
    record {
      ok = λ l h. tt;
      refuses = record {
        layout = λ l h.
            record {
              exists = λ e. taken-slot l c.as_slice.result.now c.padded_name.result c.args.name.now
                  (c.as_slice.ensures.value ∙ c.in_ok-list_slots.ensures.ok l h) c.padded_name.ensures
                  (c.has_name.ensures.0 c.if-has_name.true);
              full = λ e. exists-not-full e;
              fits = tt;
            };
        told = inl refl;
        refused = λ ne. reads_weaker g.D.Sectors.history _ _ 18 55 (omega arith) c.list_slots.ensures.reads;
        failures = c.in_ok-list_slots.ensures.failures;
      };
      quiet = reads_no_write g.D.Sectors.history _ _ 18 c.list_slots.ensures.reads;
      reads = tt;
    }

pub read_room-requires : goal.read_room-requires
read_room-requires g c = record {
  sound = let (l, usable) = c.requires.usable in
      let P : Image → Type 0 = λ i. IsLayout i l in
      (l, subst P (sym c.list_slots.ensures.reads.image) usable.1.layout);
}

pub returns-in_err-room : goal.returns-in_err-room
returns-in_err-room g c =
    let S = g.D.Sectors.history in
    let d = c.args.disk.now in
    passes (Chooses S d c.read_room.new.disk c.args.name.now c.args.count) c.from_residual-in_err-room.result _
    c.from_residual-in_err-room.ensures.1
    (no-site S d c.read_room.new.disk c.args.name.now c.args.count _ c.in_err-room.ensures.err
    (no_write_then S _ _ _ (reads_no_write S _ _ 18 c.list_slots.ensures.reads) c.read_room.ensures.quiet)
    (tells-rel-after S _ _ _ c.in_ok-list_slots.ensures.failures {T = Site} (Err _) c.in_err-room.ensures.failures))

pub returns-in_default : goal.returns-in_default
returns-in_default g c =
    let S = g.D.Sectors.history in
    no-site S c.args.disk.now c.read.new.disk c.args.name.now c.args.count _ refl
    (no_write_then S _ _ _ (reads_no_write S _ _ 18 c.list_slots.ensures.reads)
    (no_write_then S _ _ _ c.read_room.ensures.quiet (reads_no_write S _ _ 1 c.read.ensures.reads)))
    (failed_later S _ _ _ (c.in_ok-room.ensures.failures ∙ c.in_ok-list_slots.ensures.failures)
    c.in_default.ensures.failures)

pub take_site-requires : goal.take_site-requires
take_site-requires g c =
    let S = g.D.Sectors.history in
    let (l, usable) = c.requires.usable in
    let listed = c.list_slots.ensures.reads.image in
    let P : Image → Type 0 = λ i. IsLayout i l in
    record {
      of = (
        S.image c.args.disk.now,
        l,
        usable,
        c.in-Ok.ensures.ok ∙ ap (λ (i : Image). sector i map_place) (c.read_room.ensures.quiet.image ∙ listed),
        room-still _ _ l c.in_ok-room.room listed (c.in_ok-room.ensures.ok l (subst P (sym listed) usable.1.layout)),
      );
    }

pub returns-in_default-take_site : goal.returns-in_default-take_site
returns-in_default-take_site g c =
    let S = g.D.Sectors.history in
    let a = S.image c.args.disk.now in
    let listed = c.list_slots.ensures.reads.image in
    record {
      ok = λ l h. tt;
      refuses = record {
        layout = λ l h.
            let P : Image → Type 0 = λ i. IsLayout i l in
            record {
              exists = λ e. full-not-exists e;
              full = λ e. (
                c.in_default-take_site.ensures a l (usable-of a l h c.requires.usable)
                    (c.in-Ok.ensures.ok ∙ ap (λ (i : Image). sector i map_place) (c.read_room.ensures.quiet.image ∙ listed))
                    (room-still _ _ l c.in_ok-room.room listed (c.in_ok-room.ensures.ok l (subst P (sym listed) h))),
                not-taken l c.as_slice.result.now c.padded_name.result c.args.name.now c.has_name.result
                    (c.as_slice.ensures.value ∙ c.in_ok-list_slots.ensures.ok l h) c.padded_name.ensures
                    c.has_name.ensures.1 c.if-has_name.false,
              );
              fits = tt;
            };
        told = inr (inl refl);
        refused = λ ne. reads_then S _ _ _ 18 37 55 (omega arith) c.list_slots.ensures.reads
            (reads_then S _ _ _ 36 1 37 (omega arith) c.in_ok-room.ensures.reads c.read.ensures.reads);
        failures = c.in-Ok.ensures.failures ∙ c.in_ok-room.ensures.failures ∙ c.in_ok-list_slots.ensures.failures;
      };
      quiet = no_write_then S _ _ _ (reads_no_write S _ _ 18 c.list_slots.ensures.reads)
          (no_write_then S _ _ _ c.read_room.ensures.quiet (reads_no_write S _ _ 1 c.read.ensures.reads));
      reads = tt;
    }

pub returns : goal.returns
returns g c =
    let S = g.D.Sectors.history in
    let a = S.image c.args.disk.now in
    let listed = c.list_slots.ensures.reads.image in
    let taken = λ (l : Layout). λ (h : IsLayout a l).
    let P : Image → Type 0 = λ i. IsLayout i l in
    c.in-Some.ensures a l (usable-of a l h c.requires.usable)
    (c.in-Ok.ensures.ok ∙ ap (λ (i : Image). sector i map_place) (c.read_room.ensures.quiet.image ∙ listed))
    (room-still _ _ l c.in_ok-room.room listed (c.in_ok-room.ensures.ok l (subst P (sym listed) h))) in
    record {
      ok = λ l h. (taken l h).0;
      refuses = record {
        layout = λ l h.
            record {
              exists = tt;
              full = tt;
              fits = (
                (taken l h).1,
                not-taken l c.as_slice.result.now c.padded_name.result c.args.name.now c.has_name.result
                    (c.as_slice.ensures.value ∙ c.in_ok-list_slots.ensures.ok l h) c.padded_name.ensures
                    c.has_name.ensures.1 c.if-has_name.false,
              );
            };
        told = tt;
        refused = tt;
        failures = c.in-Ok.ensures.failures ∙ c.in_ok-room.ensures.failures ∙ c.in_ok-list_slots.ensures.failures;
      };
      quiet = no_write_then S _ _ _ (reads_no_write S _ _ 18 c.list_slots.ensures.reads)
          (no_write_then S _ _ _ c.read_room.ensures.quiet (reads_no_write S _ _ 1 c.read.ensures.reads));
      reads = omega (
        arith,
        c.in-Ok.ensures.reads.reads,
        c.in_ok-room.ensures.reads.reads,
        c.in_ok-list_slots.ensures.reads.reads,
      );
    }
