-- Entry by entry.
use Rattle.std.proofs.Common.{◌≡◌, ◌<◌, ◌∷◌, [], List, ap, length, refl, subst, sym, ◌∙◌}
use Rattle.std.proofs.lemmas.Bool.{false≢true}
use Rattle.std.proofs.lemmas.Option.{slice_get_read}
use Rattle.std.specs.Prelude.{Contains}
use Rattle.d64_image.specs.Images.{Image}
use Rattle.d64_image.specs.Memory.{disk_image}
use Rattle.d64_image.specs.declared.place.Place.{Place}
use Rattle.disk_layout.proofs.lemmas.counts.Recount.{slot-there}
use Rattle.disk_layout.proofs.lemmas.layouts.Layouts.{get-contains}
use Rattle.disk_layout.specs.Directory.{IsDirectory}
use Rattle.disk_layout.specs.declared.slot.Slot.{Slot}
use Rattle.damaged_files.specs.sides.Named.{with_side}
use Rattle.damaged_files.proofs.sides.naming.name_sides.Goals as goal
use Rattle.damaged_files.proofs.sides.naming.name_sides.Goals.{in-Some-side_to_name, in_default-side_to_name}

-- an entry of the directory is one of its sector's eight slots
low : (img : Image) (ss all : List Slot) (s : Slot) → ((ps : List Place) × IsDirectory img ps ss) → all ≡ ss
    → Contains all s → s.number < 8
low img ss all s (ps, is) same c =
    (slot-there img ps s (subst (λ (xs : List Slot). Contains xs s) (same ∙ is.slots) c)).1

pub loop-slot-init : goal.loop-slot-init
loop-slot-init c = record { before = c.begin_plan.ensures.same; named = []; each = tt; after = c.requires.copy; stays = λ e. refl }

pub put_name-requires : goal.put_name-requires
put_name-requires c =
    let s = c.slot-item.result in
    let all = c.as_slice-slot-items.result.now in
    let here = slice_get_read all (length all) c.loop-slot.slot-index s refl c.loop-slot-test.true c.slot-item.is in
    low (disk_image c.args.before.now) _ all s c.in-Some.ensures.slots c.as_slice-slot-items.ensures.value
    (get-contains all _ s here)

pub loop-slot-preserved : goal.loop-slot-preserved
loop-slot-preserved c =
    let s = c.slot-item.result in
    let all = c.as_slice-slot-items.result.now in
    let here = slice_get_read all (length all) c.loop-slot.slot-index s refl c.loop-slot-test.true c.slot-item.is in
    let old = c.loop-slot.invariant in
    elim c.match-side_to_name.branch [
      | in-Some-side_to_name w ↦
          let q = w.in-Some-side_to_name.side in
          record {
            before = c.side_to_name.ensures.same ∙ old.before;
            named = (s, q) ∷ old.named;
            each = ((get-contains all _ s here, c.side_to_name.ensures.none q w.in-Some-side_to_name.is), old.each);
            after = ap (λ d. disk_image d) w.after-is ∙ w.put_name.ensures ∙ ap (λ (i : Image). with_side i s q) old.after;
            stays = λ e. absurd (false≢true (sym e ∙ w.any-is));
          }
      | in_default-side_to_name w ↦ record {
        before = c.side_to_name.ensures.same ∙ old.before;
        named = old.named;
        each = old.each;
        after = ap (λ d. disk_image d) w.after-is ∙ old.after;
        stays = λ e. ap (λ d. disk_image d) w.after-is ∙ old.stays (sym w.any-is ∙ e);
      }
    ]

pub returns-clause-named : goal.returns-clause-named
returns-clause-named c t = record {
  directory = c.in-Some.ensures.slots.0;
  entries = c.as_slice-slot-items.result.now;
  of = subst (λ (ss : List Slot). IsDirectory (disk_image c.args.before.now) c.in-Some.ensures.slots.0 ss)
      (sym c.as_slice-slot-items.ensures.value) c.in-Some.ensures.slots.1;
  named = c.loop-slot.invariant.named;
  each = c.loop-slot.invariant.each;
  after = c.loop-slot.invariant.after;
}
