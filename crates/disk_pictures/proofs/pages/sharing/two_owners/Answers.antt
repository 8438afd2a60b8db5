-- One entry more.
use Rattle.std.proofs.Common.{refl, sym}
use Rattle.disk_pictures.proofs.Shared.{all-entries, entry-more, no-entries}
use Rattle.disk_pictures.specs.Held.{drawn_in}
use Rattle.disk_pictures.specs.Sentences.{system_owners}
use Rattle.disk_pictures.proofs.pages.sharing.two_owners.Goals as goal

pub loop-number-init : goal.loop-number-init
loop-number-init c = no-entries _ (system_owners (drawn_in c.args.drawing.now) c.args.place) _ c.args.place refl
    c.system_owners-two.ensures

pub loop-number-preserved : goal.loop-number-preserved
loop-number-preserved c =
    entry-more _ _ (system_owners (drawn_in c.args.drawing.now) c.args.place) c.as_slice-files.result.now
    c.loop-number.number c.index-files-number.result c.args.place c.loop-number-test.true (sym c.index-files-number.is)
    c.loop-number.invariant c.with_entry-two.ensures

pub returns-clause-first : goal.returns-clause-first
returns-clause-first c =
    (all-entries _ (system_owners (drawn_in c.args.drawing.now) c.args.place) _ _ c.loop-number.number c.args.place
    c.loop-number-test.false c.as_slice-files.ensures.value c.loop-number.invariant).0

pub returns-clause-second : goal.returns-clause-second
returns-clause-second c =
    (all-entries _ (system_owners (drawn_in c.args.drawing.now) c.args.place) _ _ c.loop-number.number c.args.place
    c.loop-number-test.false c.as_slice-files.ensures.value c.loop-number.invariant).1
