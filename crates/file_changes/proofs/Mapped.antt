-- A repair of a disk on which at most the map is wrong: it changes the map alone.
use Rattle.std.proofs.Common.{◌≡◌, ◌≢◌, ◌≤◌, ◌+◌, inl, inr, List, [], ◌∷◌, Err, Result, IsTrue, ap, arith}
use Rattle.std.proofs.Common.{length, refl, subst, sym, ◌∙◌}
use Rattle.std.proofs.lemmas.Result.{on_ok_weaker}
use Rattle.std.specs.List.{AllByRecursion}
use Rattle.std.specs.Prelude.{Contains, OnOk}
use Rattle.d64_image.proofs.Moments.{at_end}
use Rattle.d64_image.proofs.Places.{same_or_other}
use Rattle.d64_image.specs.History.{Failed, HeldOnly, History}
use Rattle.d64_image.specs.Images.{Image, sector}
use Rattle.d64_image.specs.declared.place.Place.{Place}
use Rattle.disk_layout.proofs.lemmas.counts.Recount.{slot-there}
use Rattle.disk_layout.proofs.lemmas.counts.Recounts.{slot-of}
use Rattle.disk_layout.proofs.lemmas.layouts.Agree.{IsLayout-agree, map-unowned, owned-side}
use Rattle.disk_layout.proofs.lemmas.layouts.Layouts.{get-contains}
use Rattle.disk_layout.proofs.lemmas.layouts.Twice.{told-sound}
use Rattle.disk_layout.proofs.lemmas.lists.Lists.{all-map}
use Rattle.disk_layout.proofs.lemmas.lists.Once.{Contains-here, Contains-there, all-in}
use Rattle.disk_layout.specs.Chain.{EachOnce}
use Rattle.disk_layout.specs.Clean.{IsCleanLayout, IsExactFile}
use Rattle.disk_layout.specs.Directory.{map_place, slot_in}
use Rattle.disk_layout.specs.Fault.{Holds, TellsFault}
use Rattle.disk_layout.specs.InOrder.{IsUnderWay, WritesOnce}
use Rattle.disk_layout.specs.Layout.{File, IsLayout, IsSound, Layout, count_field, is_rel, owners}
use Rattle.disk_layout.specs.Rest.{header_of}
use Rattle.disk_layout.specs.declared.faults.Fault.{Fault}
use Rattle.layout_check.specs.Mended.{IsMended}
use Rattle.layout_check.specs.Recounted.{owned_count}
use Rattle.layout_check.specs.RepairOrder.{IsRight, repair_order}
use Rattle.layout_check.specs.Repaired.{Repairs}
use Rattle.layout_check.specs.declared.survey_outcome.Survey.{Survey}

-- relative files have exact side sectors and block counts
abbrev pub AreExactFiles : Image → List File → Type 0
AreExactFiles img fs = AllByRecursion (λ f. IsTrue (is_rel f.slot) → IsExactFile img f) fs

-- c is b but for the map, and has the same layout and the same header
pub record IsRemapped (b : Image) (m : Layout) (c : Image) : Type 0 where
  pub layout : IsLayout c m
  pub elsewhere : (p : Place) → p ≢ map_place → sector c p ≡ sector b p
  pub header : header_of c ≡ header_of b

-- a repair or a survey of a sound disk fails by the device alone
pub repair-failed : {D : Type 0} (T : Type 0) (S : History D) (a b : D) (failed_at : Place → Type 0) (img : Image) (fault : Fault)
    → IsSound img → Holds failed_at img fault → TellsFault {T = T} S a b (Err fault) → Failed S a b
repair-failed T S a b failed_at img fault sound h tells =
    let (p, is, at) = told-sound failed_at img fault h sound in
    let P : Fault → Type 0 = λ f. TellsFault {T = T} S a b (Err f) in
    subst P is tells

-- places each once, which are all one place
one-place : (p : Place) (ps : List Place) → EachOnce ps → ((q : Place) → Contains ps q → q ≡ p) → length ps ≤ 1
one-place p [] once all = omega arith
one-place p (x ∷ []) once all = omega arith
one-place p (x ∷ y ∷ ps) once all =
    let same : y ≡ x = all y (Contains-there y x (y ∷ ps) (Contains-here y ps)) ∙ sym (all x (Contains-here x (y ∷ ps))) in
    let P : Place → Type 0 = Contains (y ∷ ps) in
    absurd (once.0 (subst P same (Contains-here y ps)))

module _ {D : Type 0} (S : History D) (b e : D) (m : Layout) (h : IsLayout (S.image b) m)
    (exact : AreExactFiles (S.image b) m.files) (r : Result Survey Fault) (repairs : Repairs S b e r) where
  -- but for the map all sectors are right
  right : (p : Place) → p ≢ map_place → IsRight m p (sector (S.image b) p)
  right p ne = record {
    map = λ e. absurd (ne e);
    side = λ f j on rel at. (all-in _ m.files f exact on rel).sides j p at;
    counts = λ f on rel here.
        let P : Place → Type 0 = λ q. count_field (slot_in q (sector (S.image b) q) f.slot.number) ≡ owned_count f in
        subst P here (ap count_field (sym (slot-there (S.image b) m.directory f.slot (slot-of (S.image b) m f h on)).2)
        ∙ (all-in _ m.files f exact on rel).count);
  }

  remapped : (c : Image) → IsMended (S.image b) m c → IsUnderWay (IsRight m) (repair_order m) (S.image b) c
      → IsRemapped (S.image b) m c
  remapped c mended way =
      let same : (p : Place) → p ≢ map_place → sector c p ≡ sector (S.image b) p =
      λ p ne. way.made.kept p (right p ne) in
      record {
        layout = IsLayout-agree (S.image b) c m (λ q own. sym (same q (λ e.
            let P : Place → Type 0 = Contains (owners m) in
            map-unowned (S.image b) m h (subst P e own)))) h;
        elsewhere = same;
        header = mended.same.header;
      }

  pub remaps : HeldOnly S b e (IsRemapped (S.image b) m)
  remaps =
      let mended = (repairs.moments m h).held in
      let way = (repairs.order m h).held in
      record {
        reached = mended.reached;
        later = mended.later;
        each = λ c held. remapped c (mended.each c held) (way.each c held);
        before = λ t c le held. elim (mended.before t c le held) [
          | inl early ↦ inl early
          | inr now ↦ elim (way.before t c le held) [
            | inl early ↦ inl early
            | inr done ↦ inr (remapped c now done)
          ]
        ];
      }

  at-last : IsRemapped (S.image b) m (S.image e)
  at-last = at_end S b e _ remaps

  -- one write, that of the map
  pub remap-writes : S.writes e ≤ S.writes b + 1
  remap-writes =
      let once : WritesOnce S b e = (repairs.order m h).once in
      let few : length once.written ≤ 1 = one-place map_place once.written once.once (λ q on.
      elim (same_or_other q map_place) [
        | inl same ↦ same
        | inr ne ↦ absurd (once.other q on (at-last.elsewhere q ne))
      ]) in
      omega (arith, once.writes, few)

  still : (f : File) → Contains m.files f → (IsTrue (is_rel f.slot) → IsExactFile (S.image b) f)
      → IsTrue (is_rel f.slot) → IsExactFile (S.image e) f
  still f on was rel = record {
    sides = λ j q at. at-last.elsewhere q (λ same.
        let P : Place → Type 0 = Contains (owners m) in
        map-unowned (S.image b) m h (subst P same (owned-side m f q on (get-contains f.sides j q at))))
        ∙ (was rel).sides j q at;
    count = (was rel).count;
  }

  -- and at Ok the disk is clean
  pub remap-clean : OnOk r (IsCleanLayout (S.image e) m)
  remap-clean = on_ok_weaker r (λ made. record {
    layout = at-last.layout;
    files = all-map (λ f. IsTrue (is_rel f.slot) → IsExactFile (S.image b) f)
        (λ f. IsTrue (is_rel f.slot) → IsExactFile (S.image e) f) m.files still exact;
    map = (made.right map_place (Contains-here map_place _)).map refl;
  }) (repairs.made m h)
