-- A disk in memory whose sectors also go to a file. Our own.
use Rattle.std.specs.Prelude.{ℕ, ◌≡◌, ◌≢◌, ◌⊎◌, ◌+◌, ◌++◌, List, [], ◌∷◌, Option, Some, IfSome, length, min, refl, true}
use Rattle.std.proofs.Common.{◌∙◌, ap, arith, inl, inr, length-append, subst, ⊎_elim}
use Rattle.std.specs.Io.KnownBytes.{Appends, Keeps}
use Rattle.d64_image.specs.declared.mem_disk.MemDisk.{MemDisk}
use Rattle.d64_image.specs.declared.mirror.Mirror.{Mirror}
use Rattle.d64_image.specs.declared.place.Place.{Place}
use Rattle.d64_image.specs.History.{History, through}
use Rattle.d64_image.specs.Images.{Image, Sector, put}
use Rattle.d64_image.specs.Memory.{disk_image, memory}
use Rattle.d64_image.specs.Offsets.{offset_of}

-- the disk in memory
abbrev pub mirror_disk : {F : Type 0} → Mirror F → MemDisk
mirror_disk m = m.disk

-- the file
abbrev pub mirror_file : {F : Type 0} → Mirror F → F
mirror_file m = m.file

-- the position in the file after the last sector that it handed over; None before the first
abbrev pub mirror_at : {F : Type 0} → Mirror F → Option ℕ
mirror_at m = m.at

-- The file failed. What it holds of that sector isn't known, and the mirror fails each call from then on.
abbrev pub is_broken : {F : Type 0} → Mirror F → Type 0
is_broken m = m.broken ≡ true

-- how many sectors its memory took
abbrev pub mirror_writes : {F : Type 0} → Mirror F → ℕ
mirror_writes m = m.taken.n

-- how many of its calls failed
abbrev pub mirror_failures : {F : Type 0} → Mirror F → ℕ
mirror_failures m = m.failed.n

-- a file whose position is known was brought to n, and its bytes stayed
pub record IsSought {F : Type 0} (position : F → Option ℕ) (bytes : F → Option (List ℕ))
    (old new : F) (n : ℕ) : Type 0 where
  pub moved : IfSome (position old) (λ _. position new ≡ Some n)
  pub kept : Keeps (bytes old) (bytes new)

-- A file that is at `at`, if that is known, was handed these bytes at n, and nothing else. It was there already, or one
-- seek brought it there.
pub record IsHanded {F : Type 0} (position : F → Option ℕ) (bytes contents : F → Option (List ℕ))
    (at : Option ℕ) (old new : F) (n : ℕ) (handed : List ℕ) : Type 0 where
  pub ready : F
  pub there : ((at ≡ Some n) × (ready ≡ old)) ⊎ ((at ≢ Some n) × IsSought position bytes old ready n)
  pub written : Appends (contents ready) (contents new) handed

-- a sector that a file was handed, and its place
pub record Handed : Type 0 where
  pub place : Place
  pub bytes : Sector

-- the image with these sectors in it, put there one after another
abbrev pub with_sectors : Image → List Handed → Image
with_sectors img [] = img
with_sectors img (x ∷ xs) = with_sectors (put img x.place x.bytes) xs

-- the position of a file after these sectors
abbrev pub at_after : Option ℕ → List Handed → Option ℕ
at_after at [] = at
at_after at (x ∷ xs) = at_after (Some (offset_of x.place + 256)) xs

-- A file was handed these sectors one after another, each at its place, and nothing else.
abbrev pub AreHanded : {F : Type 0} → (F → Option ℕ) → (F → Option (List ℕ)) → (F → Option (List ℕ)) → Option ℕ → F → F → List Handed → Type 0
AreHanded position bytes contents at old new [] = new ≡ old
AreHanded {F} position bytes contents at old new (x ∷ xs) =
    (next : F) × IsHanded position bytes contents at old next (offset_of x.place) x.bytes
    × AreHanded position bytes contents (Some (offset_of x.place + 256)) next new xs

-- From old to new memory took these sectors, each after the file was handed it, and nothing else. This leaves open what
-- the file was handed in a call in which it failed.
pub record TookSectors {F : Type 0} (position : F → Option ℕ) (bytes contents : F → Option (List ℕ))
    (old new : Mirror F) (sectors : List Handed) : Type 0 where
  pub memory : disk_image (mirror_disk new) ≡ with_sectors (disk_image (mirror_disk old)) sectors
  pub counted : mirror_writes new ≡ min (mirror_writes old + length sectors) 18446744073709551615
  pub file : F
  pub handed : AreHanded position bytes contents (mirror_at old) (mirror_file old) file sectors
  pub end : is_broken new ⊎ ((mirror_file new ≡ file) × (mirror_at new ≡ at_after (mirror_at old) sectors))

-- From old to new: the file was first handed what memory took. A broken mirror stayed so and changed nothing. If a call
-- failed, the mirror is broken.
pub record IsMirrored {F : Type 0} (position : F → Option ℕ) (bytes contents : F → Option (List ℕ))
    (old new : Mirror F) : Type 0 where
  pub sectors : List Handed
  pub took : TookSectors position bytes contents old new sectors
  pub broken : is_broken old → is_broken new
  pub kept : is_broken old → (mirror_disk new ≡ mirror_disk old) × (mirror_file new ≡ mirror_file old)
      × (mirror_writes new ≡ mirror_writes old)
  pub cause : (mirror_failures new ≡ mirror_failures old) ⊎ is_broken new

with_more : (img : Image) (xs ys : List Handed) → with_sectors (with_sectors img xs) ys ≡ with_sectors img (xs ++ ys)
with_more img [] ys = refl
with_more img (x ∷ xs) ys = with_more (put img x.place x.bytes) xs ys

at_more : (at : Option ℕ) (xs ys : List Handed) → at_after (at_after at xs) ys ≡ at_after at (xs ++ ys)
at_more at [] ys = refl
at_more at (x ∷ xs) ys = at_more (Some (offset_of x.place + 256)) xs ys

module _ {F : Type 0} (position : F → Option ℕ) (bytes contents : F → Option (List ℕ)) where
  handed_more : (at : Option ℕ) (a b c : F) (xs ys : List Handed) → AreHanded position bytes contents at a b xs
      → AreHanded position bytes contents (at_after at xs) b c ys → AreHanded position bytes contents at a c (xs ++ ys)
  handed_more at a b c [] ys first second = subst (λ (f : F). AreHanded position bytes contents at f c ys) first second
  handed_more at a b c (x ∷ xs) ys first second =
      (first.0, first.1, handed_more (Some (offset_of x.place + 256)) first.0 b c xs ys first.2 second)

  -- a mirror that stays took no sector
  pub took_none : (m : Mirror F) → TookSectors position bytes contents m m []
  took_none m = record {
    memory = refl;
    counted = omega (arith, m.taken.fits);
    file = mirror_file m;
    handed = refl;
    end = inr (refl, refl);
  }

  -- broken in the first run, it took nothing in the second
  stays_broken : (a b c : Mirror F) → (x : IsMirrored position bytes contents a b) → IsMirrored position bytes contents b c
      → is_broken b → TookSectors position bytes contents a c x.sectors
  stays_broken a b c x y broken = record {
    memory = ap disk_image (y.kept broken).0 ∙ x.took.memory;
    counted = (y.kept broken).2 ∙ x.took.counted;
    file = x.took.file;
    handed = x.took.handed;
    end = inl (y.broken broken);
  }

  took_more : (a b c : Mirror F) (xs ys : List Handed) → (x : TookSectors position bytes contents a b xs) → TookSectors position bytes contents b c ys
      → (mirror_file b ≡ x.file) × (mirror_at b ≡ at_after (mirror_at a) xs) → TookSectors position bytes contents a c (xs ++ ys)
  took_more a b c xs ys x y there = record {
    memory = y.memory ∙ ap (λ img. with_sectors img ys) x.memory ∙ with_more (disk_image (mirror_disk a)) xs ys;
    counted = omega (arith, x.counted, y.counted, length-append xs ys);
    file = y.file;
    handed = handed_more (mirror_at a) (mirror_file a) x.file y.file xs ys x.handed
        (subst (λ (at : Option ℕ). AreHanded position bytes contents at x.file y.file ys) there.1
        (subst (λ (f : F). AreHanded position bytes contents (mirror_at b) f y.file ys) there.0 y.handed));
    end = ⊎_elim
        (λ (broken : is_broken c). inl broken)
        (λ e. inr (e.0, e.1 ∙ ap (λ at. at_after at ys) there.1 ∙ at_more (mirror_at a) xs ys))
        y.end;
  }

  mirrored_sectors : (a b c : Mirror F) → IsMirrored position bytes contents a b → IsMirrored position bytes contents b c
      → (xs : List Handed) × TookSectors position bytes contents a c xs
  mirrored_sectors a b c x y = ⊎_elim
      (λ (broken : is_broken b). (x.sectors, stays_broken a b c x y broken))
      (λ there. (x.sectors ++ y.sectors, took_more a b c x.sectors y.sectors x.took y.took there))
      x.took.end

  pub mirrored_then : (a b c : Mirror F) → IsMirrored position bytes contents a b → IsMirrored position bytes contents b c
      → IsMirrored position bytes contents a c
  mirrored_then a b c x y = record {
    sectors = (mirrored_sectors a b c x y).0;
    took = (mirrored_sectors a b c x y).1;
    broken = λ h. y.broken (x.broken h);
    kept = λ h. ((y.kept (x.broken h)).0 ∙ (x.kept h).0, (y.kept (x.broken h)).1 ∙ (x.kept h).1, (y.kept (x.broken h)).2 ∙ (x.kept h).2);
    cause = ⊎_elim
        (λ (same : mirror_failures c ≡ mirror_failures b). ⊎_elim
        (λ (e : mirror_failures b ≡ mirror_failures a). inl (same ∙ e))
        (λ (h : is_broken b). inr (y.broken h))
        x.cause)
        (λ (h : is_broken c). inr h)
        y.cause;
  }

-- A mirror holds what its memory holds. It counts the sectors that memory took, and its own failures, each of which is
-- a failure of its file.
abbrev pub mirror : {F : Type 0} → (F → Option ℕ) → (F → Option (List ℕ)) → (F → Option (List ℕ)) → History (Mirror F)
mirror position bytes contents = record (through mirror_disk memory) {
  writes = mirror_writes;
  failures = mirror_failures;
  last = 18446744073709551615;
  up_to_last = λ m. m.failed.fits;
  reached = IsMirrored position bytes contents;
  reached_same = λ m. record {
    sectors = [];
    took = took_none position bytes contents m;
    broken = λ h. h;
    kept = λ _. (refl, refl, refl);
    cause = inl refl;
  };
  reached_then = mirrored_then position bytes contents;
  failed_at = λ m _. is_broken m;
  failed_stays = λ a b _ x h. x.broken h;
}
