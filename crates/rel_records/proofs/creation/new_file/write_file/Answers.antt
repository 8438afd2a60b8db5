-- The sectors, then the entry.
use Rattle.std.proofs.Common.{arith, slice_index, subst, sym, inl}
use Rattle.std.proofs.lemmas.Result.{on_ok_weaker}
use Rattle.d64_image.proofs.Moments.{changes_weaker}
use Rattle.d64_image.specs.History.{Changes}
use Rattle.d64_image.specs.Images.{sector}
use Rattle.disk_layout.specs.Entries.{rel_entry}
use Rattle.disk_layout.specs.Layout.{File}
use Rattle.disk_layout.specs.declared.slot.Slot.{Slot}
use Rattle.rel_records.proofs.creation.new_file.write_file.Goals as goal
use Rattle.rel_records.proofs.lemmas.Told.{not-done}
use Rattle.rel_records.proofs.lemmas.creation.NewClean.{apart-of, both-of, creating-of, file-more, rel-by, some-writes}
use Rattle.rel_records.proofs.lemmas.creation.Entering.{entry-done, entry-moments, puts-counted, site-taking, still}
use Rattle.rel_records.proofs.lemmas.creation.NewEntry.{IsFileBy}
use Rattle.rel_records.proofs.lemmas.creation.NewFiles.{new_file}
use Rattle.rel_records.specs.creation.NewFile.{ChangesOnly}
use Rattle.rel_records.specs.creation.Site.{PutsEntry}

pub write_sectors-requires-clause-apart : goal.write_sectors-requires-clause-apart
write_sectors-requires-clause-apart g c =
    let (l, h) = c.requires.site in
    let a = g.D.Sectors.history.image c.args.disk.now in
    let st = c.args.site.now in
    apart-of a l st c.index-deref-0.result c.index-deref-1.result h
    (both-of a l st c.deref.result.now c.deref-2.result.now c.index-deref-0.result c.index-deref-1.result h
    c.deref.ensures.0 c.deref-2.ensures.0 c.index-deref-0.is c.index-deref-1.is)

pub returns-in_err-write_sectors-clause-file : goal.returns-in_err-write_sectors-clause-file
returns-in_err-write_sectors-clause-file g c l h =
    let S = g.D.Sectors.history in
    let a = S.image c.args.disk.now in
    let st = c.args.site.now in
    let both = both-of a l st c.deref.result.now c.deref-2.result.now c.index-deref-0.result c.index-deref-1.result h
    c.deref.ensures.0 c.deref-2.ensures.0 c.index-deref-0.is c.index-deref-1.is in
    record {
      ok = not-done c.from_residual.result _ c.from_residual.ensures.1 _;
      moments = changes_weaker S _ _ 3 _ _ _ (some-writes l) (λ b x.
          let as_before = still a b l 2 st (site-taking a l 2 st h)
          (subst (λ ps. ChangesOnly a st.map.bytes ps b) (sym both) x) in
          (inl as_before.0, as_before.1)) c.in_err-write_sectors.ensures.moments;
    }

pub returns-clause-file : goal.returns-clause-file
returns-clause-file g c l h =
    let S = g.D.Sectors.history in
    let a = S.image c.args.disk.now in
    let d = c.write_sectors.new.disk in
    let st = c.args.site.now in
    let block = c.index-deref-0.result in
    let side = c.index-deref-1.result in
    let both = both-of a l st c.deref.result.now c.deref-2.result.now block side h
    c.deref.ensures.0 c.deref-2.ensures.0 c.index-deref-0.is c.index-deref-1.is in
    let has = c.in_ok-write_sectors.ensures.ok in
    let prepared = subst (λ ps. Changes S c.args.disk.now d 3 (ChangesOnly a st.map.bytes ps)) (sym both)
    c.in_ok-write_sectors.ensures.moments in
    let by = rel-by (S.image d) (S.whole d) c.args.name.now st.map.bytes block side c.args.size c.requires.name
    c.requires.size.low c.requires.size.high has in
    let entry = rel_entry c.args.name.now block side c.args.size 2 in
    let k : Slot → File = λ s. new_file s block side (slice_index (sector (S.image d) block) 1) in
    let puts : PutsEntry S d c.write_entry.new.disk st entry c.write_entry.result = subst (λ e. PutsEntry S d c.write_entry.new.disk st e c.write_entry.result) c.relative_entry.ensures
    c.write_entry.ensures in
    let is = subst (λ ps. IsFileBy (S.image d) ps entry k) (sym both) by in
    record {
      ok = on_ok_weaker c.write_entry.result
          (file-more (S.image d) (S.whole d) c.args.name.now st.map.bytes block side c.args.size c.requires.name
          c.requires.size.low c.requires.size.high has a (S.image c.write_entry.new.disk) l st both)
          (entry-done S c.args.disk.now d c.write_entry.new.disk l 2 st entry k 3 h prepared has.map is c.write_entry.result
          puts);
      moments = changes_weaker S _ _ _ _ _ _
          (omega (arith, puts-counted a l 2 st entry st.fresh h puts.puts puts.are))
          (λ b. creating-of (S.image d) (S.whole d) c.args.name.now st.map.bytes block side c.args.size c.requires.name
          c.requires.size.low c.requires.size.high has a b l st both)
          (entry-moments S c.args.disk.now d c.write_entry.new.disk l 2 st entry k 3 h prepared has.map is
          c.write_entry.result puts);
    }
