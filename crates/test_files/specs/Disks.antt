-- The bytes of a disk, and those that stood in their place before. Our own.
use Rattle.std.specs.Prelude.{◌≡◌, ◌⊎◌, ◌<◌, ℕ, List, [], None, Option, Some, drop, length, slice_index}
use Rattle.std.proofs.Common.{ap, inl, subst, sym}
use Rattle.image_file.specs.Lasting.{Lasting}
use Rattle.test_files.specs.Past.{HadBeen, only_now_of}
use Rattle.test_files.specs.declared.disk.Disk.{Disk}

-- the bytes that are known
abbrev known_in : Option (List ℕ) → List ℕ
known_in None = []
known_in (Some bytes) = bytes

-- what is on it
abbrev pub disk_bytes : Disk → List ℕ
disk_bytes d = d.bytes.items

-- how often other bytes came to it
abbrev pub changes_of : Disk → ℕ
changes_of d = length d.past.items

-- All that is on a disk stays, and each change is a moment: what stayed since one is what is there now, or what each
-- later change replaced.
abbrev pub disk_lasting : Lasting Disk
disk_lasting = record {
  bytes = λ d. Some d.bytes.items;
  moment = λ d. length d.past.items;
  stayed = λ d t all. (all ≡ d.bytes.items) ⊎ HadBeen (drop t d.past.items) all;
  small = λ d all e i. subst (λ bytes. slice_index bytes i < 256) (ap known_in e) (d.small i);
  now = λ d t le all e. inl (sym (ap known_in e));
  only_now = λ d all stayed. ap Some (sym (only_now_of d.past.items d.bytes.items all stayed));
}
