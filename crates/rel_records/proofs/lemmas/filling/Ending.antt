-- The room in a file's last blocks is filled: the tail of a block, and then the last block with another last index.
use Rattle.std.proofs.Common.{◌≡◌, ℕ, inl, ◌≤◌, List, ◌∷◌, ◌++◌, length, refl, sym, ◌∙◌, ap, subst, slice_index, IsTrue, take, drop}
use Rattle.std.specs.Prelude.{Contains, flat_map}
use Rattle.std.specs.List.{AllByRecursion}
use Rattle.std.proofs.lemmas.List.Elements.{Contains-append_left}
use Rattle.d64_image.proofs.Images.{sector-put_other}
use Rattle.d64_image.specs.Images.{Image, IsImage, Sector, put, sector}
use Rattle.d64_image.specs.declared.place.Place.{Place}
use Rattle.disk_layout.proofs.lemmas.chains.Chains.{AgreeAt}
use Rattle.disk_layout.proofs.lemmas.growth.Commit.{all-join, all-left, all-right, alone, own-once}
use Rattle.disk_layout.proofs.lemmas.growth.Refills.{IsLayout-ended, ended, owners-same}
use Rattle.disk_layout.proofs.lemmas.growth.SideWrites.{same-layout}
use Rattle.disk_layout.proofs.lemmas.layouts.Agree.{owned-block}
use Rattle.disk_layout.proofs.lemmas.layouts.Layouts.{get-contains}
use Rattle.disk_layout.proofs.lemmas.layouts.Frames.{unless-same}
use Rattle.disk_layout.proofs.lemmas.lists.Once.{EachOnce-apart}
use Rattle.disk_layout.specs.Chain.{EachOnce}
use Rattle.disk_layout.specs.Clean.{IsExactFile}
use Rattle.disk_layout.specs.Directory.{map_place}
use Rattle.disk_layout.specs.Layout.{File, IsLayout, IsRelFile, Layout, exchanged, file_owns, is_rel, owners}
use Rattle.disk_layout.specs.Map.{IsMapOf}
use Rattle.disk_layout.specs.Records.{records}
use Rattle.disk_layout.specs.Rest.{header_of}
use Rattle.rel_records.proofs.lemmas.steps.Counting.{exact-stay}
use Rattle.rel_records.proofs.lemmas.steps.Others.{has-records, others-kept}
use Rattle.rel_records.proofs.lemmas.steps.Preparing.{file-in}
use Rattle.rel_records.specs.Others.{HasRecords, KeepsOthers}
use Rattle.rel_records.specs.Usable.{StaysClean}

module _ (a : Image) (l : Layout) (before after : List File) (f : File) (h : IsLayout a l)
    (split : l.files ≡ before ++ f ∷ after) (rel : IsTrue (is_rel f.slot)) (q : Place) (bytes : Sector)
    (mine : Contains f.blocks q) (w : IsImage a) where
  once : EachOnce (map_place ∷ owners (exchanged l before f after))
  once = rw (same-layout l before after f split) h.once

  own : Contains (file_owns f) q
  own = Contains-append_left f.blocks f.sides q mine

  pub others-before : AgreeAt a (put a q bytes) (flat_map file_owns before)
  others-before x d = unless-same a q x bytes (λ e. (alone l before after f once q own).before (let P : Place
      → Type 0 = Contains (flat_map file_owns before) in subst P (sym e) d))

  pub others-after : AgreeAt a (put a q bytes) (flat_map file_owns after)
  others-after x d = unless-same a q x bytes (λ e. (alone l before after f once q own).after (let P : Place
      → Type 0 = Contains (flat_map file_owns after) in subst P (sym e) d))

  pub header : header_of (put a q bytes) ≡ header_of a
  header = ap (λ s. take 4 s ++ drop 144 s) (sector-put_other a q map_place bytes (λ e. h.once.0 (let P : Place
      → Type 0 = Contains (owners l) in subst P e (owned-block l f q (file-in l before after f split) mine))))

  -- the last block ends with another index
  pub ended-has : (r : IsRelFile a f) → r.chain.2.last ≡ q → (u : ℕ) → slice_index bytes 0 ≡ 0 → slice_index bytes 1 ≡ u
      → (rs : List (List ℕ)) → length (records a f) ≤ length rs → records (put a q bytes) (ended f u) ≡ rs
      → HasRecords a (put a q bytes) l (length before) rs
  ended-has r last u zero_there index rs more is =
      has-records a (put a q bytes) l before after f (ended f u) rs split refl others-before others-after header
      (let P : Place → Type 0 = λ x. IsLayout (put a x bytes) (exchanged l before (ended f u) after) in
      subst P last (IsLayout-ended a l before after f u bytes w.size h split r rel zero_there index))
      (more, inl refl)
      is

  pub map-stays : sector (put a q bytes) map_place ≡ sector a map_place
  map-stays = sector-put_other a q map_place bytes (λ e. h.once.0 (let P : Place → Type 0 = Contains (owners l) in
      subst P e (owned-block l f q (file-in l before after f split) mine)))

  pub ended-others : (u : ℕ) → KeepsOthers a (put a q bytes) l (exchanged l before (ended f u) after) (length before)
  ended-others u = others-kept a (put a q bytes) l before after f (ended f u) split refl others-before others-after
      header

  -- and the image stays as clean as it was
  pub ended-clean : (r : IsRelFile a f) → r.chain.2.last ≡ q → (u : ℕ) → slice_index bytes 0 ≡ 0
      → slice_index bytes 1 ≡ u → StaysClean a l (put a q bytes) (exchanged l before (ended f u) after)
  ended-clean r last u zero_there index strays clean =
      let exact = let P : List File → Type 0 = λ fs. AllByRecursion (λ x. IsTrue (is_rel x.slot) → IsExactFile a x)
      fs in subst P split clean.files in
      let behind = all-right (λ x. IsTrue (is_rel x.slot) → IsExactFile a x) before (f ∷ after) exact in
      let here = behind.0 rel in
      record {
        layout = (let P : Place → Type 0 = λ x. IsLayout (put a x bytes) (exchanged l before (ended f u) after) in
            subst P last (IsLayout-ended a l before after f u bytes w.size h split r rel zero_there index));
        files = all-join (λ x. IsTrue (is_rel x.slot) → IsExactFile (put a q bytes) x) before (ended f u ∷ after)
            (exact-stay a (put a q bytes) before others-before (all-left (λ x. IsTrue (is_rel x.slot) → IsExactFile a x)
            before (f ∷ after) exact)) (
              λ t. record {
                sides = λ j x at. sector-put_other a q x bytes
                    (λ e. EachOnce-apart f.blocks f.sides (own-once l before after f once) q mine (let P : Place
                    → Type 0 = Contains f.sides in subst P (sym e) (get-contains f.sides j x at))) ∙ here.sides j x at;
                count = here.count;
              },
              exact-stay a (put a q bytes) after others-after behind.1,
            );
        map =
            let P : Sector → Type 0 = λ b. IsMapOf b (strays ++ map_place ∷ owners (exchanged l before (ended f u) after)) in
            let Q : List Place → Type 0 = λ ps. IsMapOf (sector a map_place) (strays ++ map_place ∷ ps) in
            subst P (sym map-stays) (subst Q (ap owners (sym (same-layout l before after f split))
            ∙ owners-same l before after f (ended f u) refl) clean.map);
      }
