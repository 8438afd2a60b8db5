-- Worked examples of this crate's definitions, each named by what it shows. The numbers are those of the D64 layout.
use Rattle.std.proofs.lemmas.Option.{none-some, same_Some}
use Rattle.std.proofs.Common.{
  ℕ,
  ◌+◌,
  ◌≡◌,
  ◌<◌,
  ◌≤◌,
  ◌≢◌,
  [],
  ◌∷◌,
  Some,
  None,
  Err,
  true,
  ap,
  get_or,
  inl,
  length,
  refl,
  sym,
  ◌∙◌,
  lit<,
  lit≤,
  ⊎_elim,
  arith,
}
use Rattle.d64_image.specs.declared.place.Place.{Place}
use Rattle.d64_image.specs.Geometry.{sectors_on, sectors_below}
use Rattle.d64_image.specs.Places.{index_of, place_at, first_place, places}
use Rattle.d64_image.specs.Images.{Image, Sector, sector, put}
use Rattle.d64_image.specs.Calls.{ReadsSector, WritesSector}
use Rattle.d64_image.specs.Faults.{device_fault}
use Rattle.d64_image.specs.Fuses.{fuse, fuse_left}
use Rattle.d64_image.specs.History.{History, HeldOnly, Failed, IfCounted, OnlyReads, OldOr, WritesNothing}
use Rattle.d64_image.specs.Memory.{memory}
use Rattle.d64_image.specs.Keeps.{Agrees, put_kept}
use Rattle.d64_image.specs.KeptMirrors.{IsMirrored, is_broken, mirror, mirror_file, mirror_writes}
use Rattle.d64_image.specs.Offsets.{offset_of, overwritten}
use Rattle.d64_image.specs.OneFaults.{calls_left, fault_place, is_due, one_fault}
use Rattle.d64_image.specs.declared.sector_file.SectorFile.{Ghosts}
use Rattle.d64_image.specs.declared.fuse.Fuse.{Fuse}
use Rattle.d64_image.specs.declared.mem_disk.MemDisk.{MemDisk}
use Rattle.d64_image.specs.declared.kept_mirror.KeptMirror.{KeptMirror}
use Rattle.d64_image.specs.declared.one_fault.OneFault.{OneFault}
use Rattle.d64_image.proofs.Order.{places-at, places-length}
use Rattle.d64_image.proofs.Places.{place_at-none, place_at-self}

-- the map's sector, and the last sector of the disk
abbrev pub map_sector : Place
map_sector = record { track = 18; sector = 0; on_disk = lit< tt }

abbrev pub last_sector : Place
last_sector = record { track = 35; sector = 16; on_disk = lit< tt }

pub four_zones : (sectors_on 1 ≡ 21) × (sectors_on 17 ≡ 21) × (sectors_on 18 ≡ 19) × (sectors_on 25 ≡ 18)
    × (sectors_on 31 ≡ 17) × (sectors_on 35 ≡ 17)
four_zones = (refl, refl, refl, refl, refl, refl)

pub no_track_36_and_no_track_0 : (sectors_on 36 ≡ 0) × (sectors_on 0 ≡ 0)
no_track_36_and_no_track_0 = (refl, refl)

pub sectors_of_the_disk : sectors_below 36 ≡ 683
unfolding sectors_below
sectors_of_the_disk = refl

pub first_place_is_at_0 : index_of first_place ≡ 0
unfolding index_of sectors_below
first_place_is_at_0 = refl

pub map_is_at_357 : index_of map_sector ≡ 357
unfolding index_of sectors_below
map_is_at_357 = refl

pub last_place_is_at_682 : index_of last_sector ≡ 682
unfolding index_of sectors_below
last_place_is_at_682 = refl

pub map_is_place_357_of_683 : (get_or places 357 first_place ≡ map_sector) × (length places ≡ 683)
map_is_place_357_of_683 = (
  ap (λ (n : ℕ). get_or places n first_place) (sym map_is_at_357) ∙ places-at map_sector first_place,
  places-length,
)

pub no_sector_21_on_track_17 : place_at 17 21 ≡ None
no_sector_21_on_track_17 = place_at-none 17 21 (lit≤ tt)

pub no_place_on_track_36 : place_at 36 0 ≡ None
no_place_on_track_36 = place_at-none 36 0 (lit≤ tt)

pub place_18_0_is_the_map : place_at 18 0 ≡ Some map_sector
place_18_0_is_the_map = place_at-self map_sector

-- a disk of two short sectors
abbrev pub short : Image
short = (1 ∷ 2 ∷ []) ∷ (3 ∷ 4 ∷ []) ∷ []

abbrev pub second_place : Place
second_place = record { track = 1; sector = 1; on_disk = lit< tt }

pub sector_is_read_by_its_index : sector short second_place ≡ 3 ∷ 4 ∷ []
unfolding sector index_of sectors_below
sector_is_read_by_its_index = refl

pub put_changes_one_sector : put short second_place (5 ∷ 6 ∷ []) ≡ (1 ∷ 2 ∷ []) ∷ (5 ∷ 6 ∷ []) ∷ []
unfolding put index_of sectors_below
put_changes_one_sector = refl

-- a rise of the count is a failure; a count that stays isn't, unless it is spent
module _ {D : Type 0} (S : History D) (old new : D) where
  pub rise_is_a_failure : S.failures new ≡ S.failures old + 1 → Failed S old new
  rise_is_a_failure e = record { later = omega (arith, e); rose = λ _. omega (arith, e) }

  pub spent_count_is_a_failure : S.failures new ≡ S.failures old → S.failures new ≡ S.last → Failed S old new
  spent_count_is_a_failure e spent = record { later = omega (arith, e); rose = λ lt. absurd (omega (arith, lt, spent)) }

  pub count_below_its_last_that_stays_is_none : S.failures new ≡ S.failures old → S.failures new < S.last
      → Failed S old new → ⊥
  count_below_its_last_that_stays_is_none e lt f = let rose : S.failures old < S.failures new = f.rose lt in
      omega (arith, e, rose)

  -- what was held since the call began is the old image or the new one: a third one was not
  pub third_image_was_not_held : (a b c : Image) → c ≢ a → c ≢ b → HeldOnly S old new (OldOr a b)
      → S.held new (S.moment old) c → ⊥
  third_image_was_not_held a b c na nb h held = ⊎_elim na nb (h.each c held)

  -- a call that only reads at most two sectors is one that makes no write
  pub reads_make_no_write : OnlyReads S old new 2 → S.writes new ≤ S.writes old
  reads_make_no_write r = omega (arith, r.writes)

  -- a call that counted a write isn't one that writes nothing
  pub counted_write_is_one : S.writes new ≡ S.writes old + 1 → ¬ (WritesNothing S old new)
  counted_write_is_one e w = let same : S.writes new ≡ S.writes old = w.writes in omega (arith, e, same)

  -- a write that was counted left the new image
  pub counted_write_left_the_new_image : (b : Image) → IfCounted S old new (λ c. c ≡ b)
      → S.writes new ≡ S.writes old + 1 → S.image new ≡ b
  counted_write_left_the_new_image b done e = done (omega (arith, e))

  -- an error of a read at a place is a failure there, and one of a write too
  pub read_failed_there : (p : Place) (bytes : Sector) → ReadsSector {T = Unit {0}} S old new p bytes device_fault
      (Err device_fault) → S.failed_at new p
  read_failed_there p bytes r = r.failed

  pub write_failed_there : (p : Place) (bytes : Sector) → WritesSector {T = Unit {0}} S old new p bytes device_fault
      (Err device_fault) → S.failed_at new p
  write_failed_there p bytes w = w.failed

  -- a write that failed and left the sector as it was showed nothing else at any moment
  pub nothing_shown_was_taken_back : (p : Place) (bytes : Sector) (c : Image) → WritesSector {T = Unit {0}} S old new p bytes
      device_fault (Err device_fault) → S.image new ≡ S.image old → c ≢ S.image old → S.held new (S.moment old) c → ⊥
  nothing_shown_was_taken_back p bytes c w back other held =
      ⊎_elim other (λ e. other (e ∙ back)) (w.one_step.each c held)

-- memory fails nowhere
pub memory_fails_nowhere : (d : MemDisk) (p : Place) → ¬ (memory.failed_at d p)
memory_fails_nowhere d p never = never

-- a fuse that has blown fails everywhere, and one that hasn't only where the disk beneath failed
pub blown_fuse_fails_everywhere : {D : Type 0} (h : History D) (f : Fuse D) (p : Place) → fuse_left f ≡ 0
    → (fuse h).failed_at f p
blown_fuse_fails_everywhere h f p blown = inl blown

pub whole_fuse_fails_beneath : (f : Fuse MemDisk) (p : Place) → fuse_left f ≡ 1 → ¬ ((fuse memory).failed_at f p)
whole_fuse_fails_beneath f p left = ⊎_elim (λ blown. omega (arith, left, blown)) (λ never. never)

-- 18/0 begins at $16500 of the file, where 17/20 ends
pub map_is_at_16500_of_the_file : offset_of map_sector ≡ 91392
unfolding index_of sectors_below
map_is_at_16500_of_the_file = refl

pub two_bytes_are_overwritten : overwritten (1 ∷ 2 ∷ 3 ∷ 4 ∷ []) 1 (5 ∷ 6 ∷ []) ≡ 1 ∷ 5 ∷ 6 ∷ 4 ∷ []
two_bytes_are_overwritten = refl

-- of a file of which nothing is known each image is one that it may keep, and a sector more makes nothing known
pub unknown_agrees_with_each_image : (img : Image) → Agrees None img
unknown_agrees_with_each_image img = refl

pub unknown_stays_unknown : (p : Place) (bytes : Sector) → put_kept None p bytes ≡ None
unknown_stays_unknown p bytes = refl

-- and one that keeps an image agrees with no other
pub known_agrees_with_its_image : (img other : Image) → Agrees (Some img) other → img ≡ other
known_agrees_with_its_image img other agrees = agrees

module _ {F : Type 0} {G : Ghosts F} where
  -- a mirror whose file failed fails everywhere
  pub broken_mirror_fails_everywhere : (m : KeptMirror F G) (p : Place) → m.broken ≡ true → mirror.failed_at m p
  broken_mirror_fails_everywhere m p broken = broken

  -- a mirror that took no sector left its file alone
  pub mirror_that_took_nothing_left_its_file : (old new : KeptMirror F G) → IsMirrored old new → mirror_writes old ≡ 0
      → mirror_writes new ≡ 0
      → ¬ (is_broken new) → mirror_file new ≡ mirror_file old
  mirror_that_took_nothing_left_its_file old new x none still whole =
      ⊎_elim (λ broken. absurd (whole broken)) (λ same. same) (x.quiet (still ∙ sym none) (omega (arith, still)))

-- a fault that comes at the next call but one isn't due, and neither is one that is past
pub fault_after_one_call_is_not_due : {D : Type 0} (f : OneFault D) → calls_left f ≡ 1 → ¬ (is_due f)
fault_after_one_call_is_not_due f one due = omega (arith, one, due.1)

pub past_fault_is_not_due : {D : Type 0} (f : OneFault D) (p : Place) → fault_place f ≡ Some p → ¬ (is_due f)
past_fault_is_not_due f p past due = none-some p (sym due.0 ∙ past)

-- over memory it fails at one place alone
pub one_fault_fails_at_one_place : (f : OneFault MemDisk) (p q : Place) → fault_place f ≡ Some p
    → (one_fault memory).failed_at f q → q ≡ p
one_fault_fails_at_one_place f p q past = ⊎_elim (λ there. same_Some q p (sym there ∙ past)) (λ never. absurd never)
