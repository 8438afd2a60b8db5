-- The map and the chain, then the entry.
use Rattle.std.proofs.Common.{arith, ap, inl, length, subst, sym, ◌+◌, ◌∙◌}
use Rattle.std.specs.Prelude.{Contains}
use Rattle.std.proofs.lemmas.Result.{on_ok_weaker}
use Rattle.d64_image.proofs.Moments.{changes_weaker}
use Rattle.d64_image.specs.History.{Changes}
use Rattle.disk_layout.specs.Directory.{map_place}
use Rattle.disk_layout.specs.declared.slot.Slot.{Slot}
use Rattle.disk_layout.specs.Layout.{File}
use Rattle.file_changes.proofs.ChainFiles.{last_index}
use Rattle.file_changes.proofs.PlainEntries.{plain_file}
use Rattle.file_changes.proofs.PutFiles.{plain-by, put-of, putting-of, site-apart, site-first}
use Rattle.file_changes.specs.PutWrites.{HasBlocks}
use Rattle.file_changes.specs.Puts.{plain_entry, sectors_for}
use Rattle.rel_records.proofs.lemmas.Told.{not-done}
use Rattle.rel_records.proofs.lemmas.creation.Entering.{entry-done, entry-moments, puts-few, site-taking, still}
use Rattle.rel_records.specs.creation.NewFile.{ChangesOnly}
use Rattle.rel_records.specs.creation.Site.{PutsEntry}
use Rattle.file_changes.proofs.put_writes.write_file.Goals as goal

pub write_sectors-requires-clause-apart : goal.write_sectors-requires-clause-apart
write_sectors-requires-clause-apart g c =
    let (l, h) = c.requires.site in
    let a = g.D.Sectors.history.image c.args.disk.now in
    let st = c.args.site.now in
    let n = length c.args.content.now in
    subst (λ ps. ¬ (Contains ps map_place)) (sym c.as_slice.ensures.value)
    (site-apart a l n st (site-taking a l (sectors_for n) st h) c.requires.some)

pub returns-in_err-write_sectors-clause-file : goal.returns-in_err-write_sectors-clause-file
returns-in_err-write_sectors-clause-file g c l h =
    let S = g.D.Sectors.history in
    let a = S.image c.args.disk.now in
    let st = c.args.site.now in
    let n = sectors_for (length c.args.content.now) in
    let taking = site-taking a l n st h in
    record {
      ok = not-done c.from_residual.result _ c.from_residual.ensures.1 _;
      moments = changes_weaker S _ _ (length c.as_slice.result.now + 1) (n + 3) _ _
          (omega (arith, taking.count, ap length c.as_slice.ensures.value))
          (λ b x. let as_before = still a b l n st taking
          (subst (λ ps. ChangesOnly a st.map.bytes ps b) c.as_slice.ensures.value x) in
          (inl as_before.0, as_before.1)) c.in_err-write_sectors.ensures.moments;
    }

pub returns-clause-file : goal.returns-clause-file
returns-clause-file g c l h =
    let S = g.D.Sectors.history in
    let a = S.image c.args.disk.now in
    let d = c.write_sectors.new.disk in
    let e = c.write_entry.new.disk in
    let st = c.args.site.now in
    let ds = c.args.content.now in
    let kind = c.args.kind in
    let name = c.args.name.now in
    let first = c.index-deref-0.result in
    let count = length st.blocks.items in
    let n = sectors_for (length ds) in
    let taking = site-taking a l n st h in
    let prepared = subst (λ ps. Changes S c.args.disk.now d (length ps + 1) (ChangesOnly a st.map.bytes ps))
    c.as_slice.ensures.value c.in_ok-write_sectors.ensures.moments in
    let has = subst (λ ps. HasBlocks st.map.bytes ps ds (S.image d)) c.as_slice.ensures.value
    c.in_ok-write_sectors.ensures.ok in
    let at = site-first a l (length ds) st taking c.requires.some c.deref.result.now first c.deref.ensures.0
    c.index-deref-0.is in
    let entry = plain_entry kind name first count in
    let k : Slot → File = λ s. plain_file s st.blocks.items (last_index (length ds) count) in
    let puts : PutsEntry S d e st entry c.write_entry.result = subst (λ x. PutsEntry S d e st x c.write_entry.result)
    (c.entry_of-entry.ensures ∙ ap (plain_entry kind name first) c.len.ensures.value) c.write_entry.ensures in
    let by = plain-by a (S.image d) l ds st taking c.requires.some has kind name c.requires.name first at in
    record {
      ok = on_ok_weaker c.write_entry.result
          (put-of a (S.image d) l ds st taking c.requires.some has kind name c.requires.name first at (S.image e))
          (entry-done S c.args.disk.now d e l n st entry k (count + 1) h prepared has.map by c.write_entry.result puts);
      moments = changes_weaker S _ _ _ _ _ _
          (omega (arith, taking.count, puts-few st entry st.fresh puts.puts puts.are))
          (putting-of a (S.image d) l ds st taking c.requires.some has kind name c.requires.name first at)
          (entry-moments S c.args.disk.now d e l n st entry k (count + 1) h prepared has.map by c.write_entry.result puts);
    }
