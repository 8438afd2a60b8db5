-- One entry less.
use Rattle.std.proofs.Common.{◌∙◌, ◌∷◌, ap, drop, drop-cons, add-one, length, sym, List, ℕ, ◌<◌, ◌≡◌, ◌+◌, get_or, suc}
use Rattle.std.proofs.lemmas.List.{drop_all}
use Rattle.d64_image.specs.Images.{Image}
use Rattle.d64_image.specs.Memory.{disk_image}
use Rattle.disk_changes.specs.Art.{with_track, with_tracks}
use Rattle.disk_layout.specs.declared.slot.Slot.{Slot}
use Rattle.disk_changes.proofs.art.put_tracks.Goals as goal

next : (track : ℕ) (start img after : Image) (all : List Slot) (n : ℕ) (s : Slot) → n < length all → s ≡ get_or all n s
    → with_tracks track img (drop n all) ≡ with_tracks track start all → after ≡ with_track track img s
    → with_tracks track after (drop (n + 1) all) ≡ with_tracks track start all
next track start img after all n s inside is before put =
    let cut : drop n all ≡ s ∷ drop (n + 1) all =
    rw add-one (drop-cons all n s inside ∙ ap (λ (x : Slot). x ∷ drop (suc n) all) (sym is)) in
    ap (λ (i : Image). with_tracks track i (drop (n + 1) all)) put
    ∙ sym (ap (with_tracks track img) cut) ∙ before

pub put_track-requires : goal.put_track-requires
put_track-requires c = c.requires c.entry-item.result (c.loop-entry.entry-index, c.loop-entry-test.true, sym c.entry-item.is)

pub loop-entry-preserved : goal.loop-entry-preserved
loop-entry-preserved c = next c.args.track (disk_image c.args.disk.now) (disk_image c.loop-entry.disk)
    (disk_image c.put_track.new.disk) c.args.entries.now c.loop-entry.entry-index c.entry-item.result c.loop-entry-test.true
    c.entry-item.is c.loop-entry.invariant c.put_track.ensures

pub returns : goal.returns
returns c =
    sym (ap (with_tracks c.args.track (disk_image c.loop-entry.disk))
    (drop_all c.loop-entry.entry-index c.args.entries.now c.loop-entry-test.false)) ∙ c.loop-entry.invariant
