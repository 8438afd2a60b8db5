-- The entries are those of the disk's layout, and each stands in one of its sector's eight slots.
use Rattle.std.proofs.Common.{◌≡◌, ◌<◌, List, ap, map, refl, subst, sym, ◌∙◌}
use Rattle.std.specs.List.{AllByRecursion}
use Rattle.std.specs.Prelude.{Contains}
use Rattle.d64_image.specs.Images.{Image}
use Rattle.d64_image.specs.Memory.{disk_image}
use Rattle.disk_layout.proofs.lemmas.counts.Recount.{slot-there}
use Rattle.disk_layout.specs.Layout.{File, IsLayout, Layout}
use Rattle.disk_layout.specs.declared.slot.Slot.{Slot}
use Rattle.damaged_files.specs.cut.Settled.{IsLostEndIn, with_counts, with_ends}
use Rattle.damaged_files.proofs.cut.settling.settle.Goals as goal

-- an entry of a layout is one of its sector's eight slots
low : (img : Image) (l : Layout) → IsLayout img l → (slots : List Slot) → slots ≡ map (λ (f : File). f.slot) l.files → (s : Slot)
    → Contains slots s → s.number < 8
low img l is slots e s c =
    (slot-there img l.directory s (subst (λ (xs : List Slot). Contains xs s) (e ∙ is.directory.slots) c)).1

pub settle_counts-requires : goal.settle_counts-requires
settle_counts-requires c =
    let (l, is) = c.in_ok-read_facts.ensures.sound.0 refl in
    record {
      low = low (disk_image c.args.before.now) l is c.as_slice-2.result.now
          (c.as_slice-2.ensures.value ∙ (c.in_ok-read_facts.ensures.ok l is).0);
    }

pub returns-clause-ok : goal.returns-clause-ok
returns-clause-ok c =
    let (l, is) = c.in_ok-read_facts.ensures.sound.0 refl in
    let (e, strays, shop) = c.in_ok-read_facts.ensures.ok l is in
    let (ends, each, after) = c.settle_ends.ensures.settled in
    let (counts, each_count, counted) = c.settle_counts.ensures.settled in
    let L : Image → Type 0 = λ i. IsLayout i l in
    let E : Image → Type 0 = λ i. IsLayout i l → AllByRecursion (IsLostEndIn i l) ends in
    record {
      layout = l;
      sound = is;
      ends = ends;
      each_end = subst E c.read_facts.ensures.same (λ lay. each l lay (c.as_slice.ensures.value ∙ e)) is;
      counts = counts;
      each_count = each_count l (subst L (sym (c.settle_ends.ensures.same ∙ c.read_facts.ensures.same)) is)
          (c.as_slice-2.ensures.value ∙ e);
      after = counted ∙ ap (λ (i : Image). with_counts i counts) (after ∙ ap (λ (i : Image). with_ends i ends) c.read_facts.ensures.same);
    }
