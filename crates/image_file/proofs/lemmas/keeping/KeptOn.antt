-- A file that keeps what it kept: one that was synced.
use Rattle.std.proofs.Common.{◌≡◌, ◌≤◌, ◌⊎◌, ◌∙◌, Bool, false, true, ℕ, List, Some, Result, Ok, Err}
use Rattle.std.proofs.Common.{ap, inl, inr, le_refl, length, refl, sym, ⊎_elim}
use Rattle.std.specs.Prelude.{OnErr, OnOk}
use Rattle.image_file.specs.Lasting.{Lasting, StaysOr, seen}
use Rattle.image_file.specs.LastingImages.{image_of, stayed_image}
use Rattle.image_file.specs.ImageFile.{GrowsOn, KeepsOn, placed, seen_of}
use Rattle.image_file.specs.declared.durability.WritesAt.{Ghosts}
use Rattle.image_file.specs.declared.sectors.ImageFile.{ImageFile}
use Rattle.image_file.proofs.lemmas.keeping.KeptSectors.{seen_back, seen_so}

-- whoever told of a failure failed, now or before
pub still_blamed : {E : Type 0} (r : Result Unit E) (before after : Bool) → OnErr r (after ≡ true)
    → OnOk r (after ≡ before) → before ≡ true → after ≡ true
still_blamed (Ok u) before after failed passed was = passed ∙ was
still_blamed (Err fault) before after failed passed was = failed

-- what is looked at of a file that holds what it held
seen_stays : {F : Type 0} (W : Lasting F) (sized : Bool) (old new : F) → StaysOr W old new (W.bytes old)
    → StaysOr (seen W sized) old new ((seen W sized).bytes old)
seen_stays W true old new stays = stays
seen_stays W false old new stays = record {
  now = inl refl;
  later = le_refl 0;
  each = λ all never. absurd never;
  before = λ t all le never. absurd never;
}

module _ {F : Type 0} {G : Ghosts F} (a b : ImageFile F G) (grows : GrowsOn a b) where
  stays_kept : StaysOr (seen_of a) a.file b.file ((seen_of a).bytes a.file) → KeepsOn a b
  stays_kept stays =
      let same : (seen_of a).bytes b.file ≡ (seen_of a).bytes a.file = ⊎_elim (λ s. s) (λ s. s) stays.now in
      let one : (all : List ℕ) → ((seen_of a).bytes a.file ≡ Some all) ⊎ ((seen_of a).bytes b.file ≡ Some all)
      → (seen_of a).bytes a.file ≡ Some all =
      λ all h. ⊎_elim (λ s. s) (λ s. sym same ∙ s) h in
      record {
        kept = seen_so a b grows (λ M. image_of (M.bytes b.file) ≡ placed.kept a)
            (⊎_elim (λ s. ap image_of s) (λ s. ap image_of s) stays.now);
        only = record {
          reached = grows;
          later = seen_so a b grows (λ M. (seen_of a).moment a.file ≤ M.moment b.file) stays.later;
          each = λ c h.
              let x = seen_back a b grows (λ M. stayed_image M b.file ((seen_of a).moment a.file) c) h in
              ap image_of (one x.0 (stays.each x.0 x.1)) ∙ x.2;
          before = λ t c le h.
              let x = seen_back a b grows (λ M. stayed_image M b.file t c) h in
              ⊎_elim (λ s. inl (x.0, s, x.2)) (λ s. inr (ap image_of (one x.0 s) ∙ x.2))
              (stays.before t x.0 le x.1);
        };
      }

  pub kept_at_end : StaysOr G.whole.lasting a.file b.file (G.whole.lasting.bytes a.file) → KeepsOn a b
  kept_at_end stays = stays_kept (seen_stays G.whole.lasting a.sized a.file b.file stays)

pub sized_at_end : {F : Type 0} {G : Ghosts F} (a : ImageFile F G) (new : F)
    → StaysOr G.whole.lasting a.file new (G.whole.lasting.bytes a.file)
    → (all : List ℕ) → (seen_of a).bytes new ≡ Some all → length all ≡ 174848
sized_at_end {F} {G} a new stays all e =
    let x = seen_stays G.whole.lasting a.sized a.file new stays in
    a.whole all (⊎_elim (λ s. sym s ∙ e) (λ s. sym s ∙ e) x.now)
