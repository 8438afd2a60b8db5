-- Calls of a mirror in a file that is written and sought, and what a run over one says of the memory beneath it.
use Rattle.std.proofs.Common.{ℕ, refl, inl, inr, Result, Ok, Err, IsOk, ◌+◌, ◌<◌, ◌≡◌, List, [], ◌∷◌, Option, None, Some, ◌∙◌, ap, ⊎_elim, arith}
use Rattle.std.specs.Io.KnownBytes.{Appends, Keeps}
use Rattle.d64_image.specs.declared.mirror.Mirror.{Mirror}
use Rattle.d64_image.specs.declared.place.Place.{Place}
use Rattle.std.specs.Prelude.{IsErrOf, min}
use Rattle.d64_image.specs.Calls.{WritesSector}
use Rattle.d64_image.specs.History.{ChangesInOneStep, HeldOnly, Failed}
use Rattle.d64_image.specs.Images.{Image, Sector, put}
use Rattle.d64_image.specs.Memory.{disk_image, memory}
use Rattle.d64_image.specs.Mirrors.{IsHanded, IsMirrored, is_broken, mirror, mirror_at, mirror_disk, mirror_failures, mirror_file, mirror_writes, took_none}
use Rattle.d64_image.specs.Offsets.{offset_of}

-- bytes that were appended and then kept
pub appends_kept : (a b c : Option (List ℕ)) (bs : List ℕ) → Appends a b bs → Keeps b c → Appends a c bs
appends_kept None b c bs x y = tt
appends_kept (Some xs) None c bs x y = absurd x
appends_kept (Some xs) (Some ys) None bs x y = absurd y
appends_kept (Some xs) (Some ys) (Some zs) bs x y = y ∙ x

module _ {F : Type 0} (position : F → Option ℕ) (bytes contents : F → Option (List ℕ)) (a b : Mirror F) where
  -- what was held on the way was held in memory
  pub held_in_memory : (P : Image → Type 0) → HeldOnly (mirror position bytes contents) a b P → HeldOnly memory (mirror_disk a) (mirror_disk b) P
  held_in_memory P x = record { reached = tt; later = x.later; each = x.each; before = x.before }

  -- where a call failed, the file did
  pub failed_is_broken : (P : Image → Type 0) → HeldOnly (mirror position bytes contents) a b P → mirror_failures b < (mirror position bytes contents).last → Failed (mirror position bytes contents) a b → is_broken b
  failed_is_broken P x fresh failed = ⊎_elim
      (λ (same : mirror_failures b ≡ mirror_failures a). absurd (omega (arith, same, failed.rose fresh)))
      (λ (broken : is_broken b). broken)
      x.reached.cause

module _ {F : Type 0} (position : F → Option ℕ) (bytes contents : F → Option (List ℕ)) (a b : Mirror F) where
  -- memory says nothing of the past
  memory_one_step : IsMirrored position bytes contents a b → ChangesInOneStep (mirror position bytes contents) a b
  memory_one_step mirrored = record {
    reached = mirrored;
    later = omega arith;
    each = λ c is. inr is;
    before = λ t c le is. inr (inr is);
  }

  -- a write that fails: memory stays, and a mirror that was broken keeps its file
  pub refuses_sector : (p : Place) (from : Sector) {T E : Type 0} (fault : E) (r : Result T E) → IsErrOf r fault → mirror_disk b ≡ mirror_disk a → mirror_writes b ≡ mirror_writes a
      → (is_broken a → mirror_file b ≡ mirror_file a) → is_broken b → mirror_failures b ≡ min (mirror_failures a + 1) 18446744073709551615
      → WritesSector (mirror position bytes contents) a b p from fault r
  refuses_sector p from fault (Ok _) is disk writes file broken failures = cc
  refuses_sector p from fault (Err _) is disk writes file broken failures =
      let mirrored : IsMirrored position bytes contents a b = record {
        sectors = [];
        took = record {
          memory = ap disk_image disk;
          counted = writes ∙ (took_none position bytes contents a).counted;
          file = mirror_file a;
          handed = refl;
          end = inl broken;
        };
        broken = λ _. broken;
        kept = λ h. (disk, file h, writes);
        cause = inr broken;
      } in
      record {
        ok = tt;
        err = inl (ap disk_image disk);
        held = record {
          reached = mirrored;
          later = omega arith;
          each = λ c is. inl (is ∙ ap disk_image disk);
          before = λ t c le is. inl (is ∙ ap disk_image disk);
        };
        one_step = memory_one_step mirrored;
        counted = tt;
        uncounted = writes;
        reads = refl;
        failures = record { later = omega (arith, failures, a.failed.fits); rose = λ lt. omega (arith, failures, lt) };
        told = cc;
        failed = broken;
      }

  -- a write that memory takes after the file was handed it
  pub takes_sector : (p : Place) (from : Sector) {T E : Type 0} (fault : E) (r : Result T E) → IsOk r → (is_broken a → ⊥)
      → disk_image (mirror_disk b) ≡ put (disk_image (mirror_disk a)) p from
      → IsHanded position bytes contents (mirror_at a) (mirror_file a) (mirror_file b) (offset_of p) from
      → mirror_at b ≡ Some (offset_of p + 256) → mirror_writes b ≡ min (mirror_writes a + 1) 18446744073709551615
      → mirror_failures b ≡ mirror_failures a → WritesSector (mirror position bytes contents) a b p from fault r
  takes_sector p from fault (Err _) is_ok whole image handed at writes failures = cc
  takes_sector p from fault (Ok _) is_ok whole image handed at writes failures =
      let mirrored : IsMirrored position bytes contents a b = record {
        sectors = record { place = p; bytes = from } ∷ [];
        took = record {
          memory = image;
          counted = writes;
          file = mirror_file b;
          handed = (mirror_file b, handed, refl);
          end = inr (refl, at);
        };
        broken = λ h. absurd (whole h);
        kept = λ h. absurd (whole h);
        cause = inl failures;
      } in
      record {
        ok = image;
        err = tt;
        held = record {
          reached = mirrored;
          later = omega arith;
          each = λ c is. inr (is ∙ image);
          before = λ t c le is. inr (inr (is ∙ image));
        };
        one_step = memory_one_step mirrored;
        counted = omega (arith, writes);
        uncounted = tt;
        reads = refl;
        failures = failures;
        told = tt;
        failed = tt;
      }
