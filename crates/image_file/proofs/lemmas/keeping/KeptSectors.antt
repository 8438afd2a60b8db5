-- Sectors that a file keeps at their places, and what stays of them.
use Rattle.std.proofs.Common.{◌≡◌, ◌≤◌, ◌+◌, ◌⊎◌, Bool, true, false, ℕ, List, Option, Some, Result, Ok, Err}
use Rattle.std.proofs.Common.{arith, inl, length, refl, subst, sym}
use Rattle.std.specs.Prelude.{OnErr, OnOk}
use Rattle.std.proofs.lemmas.Result.{on_ok_weaker}
use Rattle.d64_image.specs.Images.{IsSector}
use Rattle.d64_image.specs.Keeps.{KeepsSector, KeptInOneStep, KeptOnly, TellsFileFailure, put_kept}
use Rattle.d64_image.specs.Offsets.{offset_of}
use Rattle.d64_image.specs.Places.{index_of}
use Rattle.d64_image.specs.declared.place.Place.{Place}
use Rattle.d64_image.proofs.Places.{index_below}
use Rattle.image_file.specs.Lasting.{
  IsSectorIn,
  Lasting,
  StaysOr,
  TakesSector,
  overwritten_in,
  seen,
  unknown_lasting,
}
use Rattle.image_file.specs.LastingImages.{image_of, stayed_image}
use Rattle.image_file.specs.ImageFile.{GrowsOn, placed, seen_of}
use Rattle.image_file.specs.declared.durability.WritesAt.{Ghosts}
use Rattle.image_file.specs.declared.sectors.ImageFile.{ImageFile}
use Rattle.image_file.proofs.lemmas.keeping.Kept.{before_at_ends, before_image, each_at_ends, each_image, kept_either, kept_ok}

-- a sector of a disk lies in the file of its image
pub sector_in : (o : Option (List ℕ)) (p : Place) (n : ℕ) (bytes : List ℕ) → IsSector bytes → n ≡ offset_of p
    → ((all : List ℕ) → o ≡ Some all → length all ≡ 174848) → IsSectorIn o n bytes
sector_in o p n bytes is e sized = record {
  size = is.size;
  index = index_of p;
  at = e;
  inside = λ xs known. omega (arith, e, sized xs known, index_below p);
}

on_ok_of : {E : Type 0} (X : Type 0) (r : Result Unit E) → X → OnOk r X
on_ok_of X (Ok u) x = x
on_ok_of X (Err e) x = tt

on_err_of : {E : Type 0} (X : Type 0) (r : Result Unit E) → X → OnErr r X
on_err_of X (Ok u) x = tt
on_err_of X (Err e) x = x

unknown_takes : {F E : Type 0} (old new : F) (n : ℕ) (bytes : List ℕ) (r : Result Unit E)
    → TakesSector unknown_lasting old new n bytes r
unknown_takes old new n bytes r = record {
  stays = record {
    now = inl refl;
    later = omega arith;
    each = λ all never. absurd never;
    before = λ t all le never. absurd never;
  };
  ok = on_ok_of _ r refl;
}

takes_if : {F E : Type 0} (W : Lasting F) (sized : Bool) (old new : F) (n : ℕ) (bytes : List ℕ) (r : Result Unit E)
    → (((xs : List ℕ) → W.bytes old ≡ Some xs → length xs ≡ 174848) → TakesSector W old new n bytes r)
    → ((xs : List ℕ) → (seen W sized).bytes old ≡ Some xs → length xs ≡ 174848)
    → TakesSector (seen W sized) old new n bytes r
takes_if W true old new n bytes r whole fits = whole fits
takes_if W false old new n bytes r whole fits = unknown_takes old new n bytes r

-- a file takes what is written to it
pub takes_so : {F E : Type 0} {G : Ghosts F} (a : ImageFile F G) (p : Place) (bytes : List ℕ) → IsSector bytes → (new : F)
    → (r : Result Unit E) → (n : ℕ) → n ≡ offset_of p
    → (IsSectorIn (G.whole.lasting.bytes a.file) n bytes → TakesSector G.whole.lasting a.file new n bytes r)
    → TakesSector (seen_of a) a.file new (offset_of p) bytes r
takes_so {F} {E} {G} a p bytes is new r n e whole =
    let W : Lasting F = G.whole.lasting in
    subst (λ m. TakesSector (seen_of a) a.file new m bytes r) e
    (takes_if W a.sized a.file new n bytes r (λ fits. whole (sector_in (W.bytes a.file) p n bytes is e fits)) a.whole)

module _ {F : Type 0} {G : Ghosts F} (a b : ImageFile F G) (grows : GrowsOn a b) where
  -- the bytes that are looked at are the same kind
  pub seen_so : (P : Lasting F → Type 0) → P (seen_of a) → P (seen_of b)
  seen_so P x = subst (λ z. P (seen G.whole.lasting z)) (sym grows.sized) x

  pub seen_back : (P : Lasting F → Type 0) → P (seen_of b) → P (seen_of a)
  seen_back P x = subst (λ z. P (seen G.whole.lasting z)) grows.sized x

module _ {F : Type 0} {G : Ghosts F} (a b : ImageFile F G) (p : Place) (bytes : List ℕ) (is : IsSector bytes)
    (grows : GrowsOn a b) where
  abbrev L : Lasting F
  L = seen_of a

  held_so : StaysOr L a.file b.file (overwritten_in (L.bytes a.file) (offset_of p) bytes)
      → KeptOnly placed a b (λ c. (placed.kept a ≡ Some c) ⊎ (put_kept (placed.kept a) p bytes ≡ Some c))
  held_so stays = record {
    reached = grows;
    later = seen_so a b grows (λ M. L.moment a.file ≤ M.moment b.file) stays.later;
    each = λ c h. each_image L a.file b.file p bytes is a.whole stays c
        (seen_back a b grows (λ M. stayed_image M b.file (L.moment a.file) c) h);
    before = λ t c le h. before_image L a.file b.file p bytes is a.whole stays t c le
        (seen_back a b grows (λ M. stayed_image M b.file t c) h);
  }

  step_so : StaysOr L a.file b.file (overwritten_in (L.bytes a.file) (offset_of p) bytes) → KeptInOneStep placed a b
  step_so stays = record {
    reached = grows;
    later = seen_so a b grows (λ M. L.moment a.file ≤ M.moment b.file) stays.later;
    each = λ c h. seen_so a b grows (λ M. (placed.kept a ≡ Some c) ⊎ (image_of (M.bytes b.file) ≡ Some c))
        (each_at_ends L a.file b.file p bytes is a.whole stays c
        (seen_back a b grows (λ M. stayed_image M b.file (L.moment a.file) c) h));
    before = λ t c le h.
        seen_so a b grows (λ M. stayed_image L a.file t c
        ⊎ ((placed.kept a ≡ Some c) ⊎ (image_of (M.bytes b.file) ≡ Some c)))
        (before_at_ends L a.file b.file p bytes is a.whole stays t c le
        (seen_back a b grows (λ M. stayed_image M b.file t c) h));
  }

  pub keeps_so : {E : Type 0} (r : Result Unit E) → TakesSector L a.file b.file (offset_of p) bytes r
      → OnOk r (b.taken ≤ a.taken + 1) → OnErr r (b.taken ≡ a.taken) → TellsFileFailure placed a b r
      → KeepsSector placed a b p bytes r
  keeps_so r takes counted uncounted failures = record {
    ok = on_ok_weaker r
        (λ e. seen_so a b grows (λ M. image_of (M.bytes b.file) ≡ put_kept (placed.kept a) p bytes)
        (kept_ok L a.file b.file p bytes is a.whole e))
        takes.ok;
    err = on_err_of _ r
        (seen_so a b grows
        (λ M. (image_of (M.bytes b.file) ≡ placed.kept a)
        ⊎ (image_of (M.bytes b.file) ≡ put_kept (placed.kept a) p bytes))
        (kept_either L a.file b.file p bytes is a.whole takes.stays));
    held = held_so takes.stays;
    one_step = step_so takes.stays;
    counted = counted;
    uncounted = uncounted;
    failures = failures;
  }
